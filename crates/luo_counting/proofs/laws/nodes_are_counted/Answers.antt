use Rattle.luo_counting.proofs.TreeCollections.{nodes_counted}
use Rattle.luo_counting.proofs.laws.nodes_are_counted.Goals as goal

pub returns : goal.returns
returns c = nodes_counted
