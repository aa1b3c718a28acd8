use Rattle.luo_value_types.proofs.ItemLemmas.{has_item}
use Rattle.luo_value_types.proofs.items.push_item.Goals as goal

pub returns : goal.returns
returns c = has_item c.args.body.now.own c.args.body.now.items _ c.args.item c.in_ok-push.ensures.ok
