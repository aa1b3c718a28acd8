use Rattle.luo_struct.specs.View.{tree_of, tree_list}
use Rattle.luo_struct.proofs.ViewLemmas.{tuple_tree}
use Rattle.luo_interp.proofs.ChargeSteps.{parts_are_bound}
use Rattle.luo_interp.proofs.charges.bound.Goals as goal

pub returns-in-Tup : goal.returns-in-Tup
returns-in-Tup c = parts_are_bound c.args.bind c.in-Parts.field-0 (tree_of c.args.s.now) (tree_list c.as_slice.result.now) c.in-Parts.is (tuple_tree c.args.s.now c.in-Tup.parts c.as_slice.result.now c.in-Tup.is c.as_slice.ensures)
