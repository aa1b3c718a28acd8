use Rattle.luo_rules.proofs.CircleFacts.{node_is}
use Rattle.luo_rules.proofs.laws.names_lead_to_nodes.Goals as goal

pub returns : goal.returns
returns c = node_is
