use Rattle.luo_finite.specs.Laws.{Passes}
use Rattle.luo_finite.proofs.Listings.{Lists-same_length}
use Rattle.luo_finite.proofs.laws.one_length.Goals as goal

pub returns : goal.returns
returns c = λ test l m h k. Lists-same_length (Passes test) l m h k
