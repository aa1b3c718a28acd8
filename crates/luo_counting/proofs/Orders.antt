-- The order of structures.
use Rattle.std.proofs.Common.{ap}
use Rattle.std.specs.Cmp.Lexicographic.{slice_cmp}
use Rattle.std.specs.Ordering.{nat_cmp}
use Rattle.luo_finite.proofs.Falling.{IsOrder, IsBySize}
use Rattle.luo_finite.proofs.Orders.{order_from, nat_less}
use Rattle.luo_model.specs.Tree.{size_of, labels_of}
use Rattle.luo_model.specs.Order.{sorted, then_by, by_form, order_of, IsBefore}
use Rattle.luo_model.proofs.OrderLemmas.{order_total, order_equal}

-- structures
pub trees_ordered : IsOrder IsBefore
trees_ordered = order_from order_of order_total order_equal

pub trees_by_size : IsBySize size_of IsBefore
unfolding order_of
trees_by_size s t h =
    ap (λ o. then_by (then_by o (slice_cmp nat_cmp (sorted (labels_of s)) (sorted (labels_of t)))) (by_form s t)) (nat_less (size_of s) (size_of t) h)
