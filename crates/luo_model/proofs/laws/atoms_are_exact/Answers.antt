use Rattle.luo_model.proofs.MemberFacts.{atoms_are_exact}
use Rattle.luo_model.proofs.laws.atoms_are_exact.Goals as goal

pub returns : goal.returns
returns c = atoms_are_exact
