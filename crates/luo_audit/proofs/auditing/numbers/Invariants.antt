use Rattle.std.proofs.Common.{◌≡◌, ◌<◌, ℕ, slice_index, vec_len}
use Rattle.luo_audit.proofs.auditing.numbers.Given as goal

abbrev pub invariant-loop-i : goal.invariant-loop-i
invariant-loop-i l = (vec_len l.all ≡ l.i) × ((k : ℕ) → k < l.i → slice_index l.all.items k ≡ k)
