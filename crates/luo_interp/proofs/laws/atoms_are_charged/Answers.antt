use Rattle.luo_interp.proofs.AtomLaws.{atoms_are_charged}
use Rattle.luo_interp.proofs.laws.atoms_are_charged.Goals as goal

pub returns : goal.returns
returns c = atoms_are_charged
