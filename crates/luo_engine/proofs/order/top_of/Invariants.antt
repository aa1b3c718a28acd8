use Rattle.std.proofs.Common.{ℕ, ◌<◌, slice_index}
use Rattle.luo_engine.proofs.order.top_of.Given as goal

abbrev pub invariant-loop-x : goal.invariant-loop-x
invariant-loop-x l = (y : ℕ) → y < l.x → slice_index l.ranks y < l.top
