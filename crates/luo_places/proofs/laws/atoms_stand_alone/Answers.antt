use Rattle.luo_places.proofs.steps.Trees.{atom_first, atom_last}
use Rattle.luo_places.proofs.laws.atoms_stand_alone.Goals as goal

pub returns : goal.returns
returns c = λ p x n weight l L is m. (atom_first p x weight n L is l m, atom_last p x weight n L is l m)
