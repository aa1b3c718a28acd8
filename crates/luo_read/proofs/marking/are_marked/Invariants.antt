use Rattle.std.proofs.Common.{◌≡◌, ℕ, ◌<◌, true, get_or}
use Rattle.luo_read.proofs.marking.are_marked.Given as goal

abbrev pub invariant-loop-marked : goal.invariant-loop-marked
invariant-loop-marked l = (k : ℕ) → k < l.marked-index → get_or l.marks k true ≡ true
