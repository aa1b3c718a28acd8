use Rattle.std.proofs.Common.{◌≡◌, ◌<◌, ℕ, length, slice_index}
use Rattle.luo_num.specs.Mark.{capped}
use Rattle.luo_rank.specs.inner.Lookup.{left_count}
use Rattle.luo_rank.proofs.rests.row_of.Given as goal

abbrev pub invariant-loop-n : goal.invariant-loop-n
invariant-loop-n l = (length l.row ≡ l.n) × ((m : ℕ) → m < l.n → slice_index l.row m ≡ capped (left_count l.tables l.x l.f m))
