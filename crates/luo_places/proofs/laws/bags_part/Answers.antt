use Rattle.luo_places.proofs.steps.BoundedBags.{bags_part}
use Rattle.luo_places.proofs.laws.bags_part.Goals as goal

pub returns : goal.returns
returns c = λ p kind y low high bound n x us unlabelled bag one. bags_part p kind y unlabelled bag low high bound n x us one
