use Rattle.luo_places.proofs.steps.BoundedBags.{bags_go_on}
use Rattle.luo_places.proofs.laws.bags_go_on.Goals as goal

pub returns : goal.returns
returns c = λ p kind y low high bound n unlabelled bag one positive. bags_go_on p kind y unlabelled bag low high one bound n positive
