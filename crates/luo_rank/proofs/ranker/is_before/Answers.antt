use Rattle.luo_struct.specs.View.{tree_of}
use Rattle.luo_rank.proofs.HalvingLemmas.{less_told, other_told}
use Rattle.luo_rank.proofs.ranker.is_before.Goals as goal

pub returns-in-Less : goal.returns-in-Less
returns-in-Less c = less_told c.order.result (tree_of c.args.a.now) (tree_of c.args.b.now) c.order.ensures c.in-Less.is

pub returns-in_default : goal.returns-in_default
returns-in_default c = other_told c.order.result (tree_of c.args.a.now) (tree_of c.args.b.now) c.order.ensures c.in_default.not-Less
