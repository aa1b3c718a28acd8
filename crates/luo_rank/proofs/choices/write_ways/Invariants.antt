use Rattle.std.proofs.Common.{◌≡◌, ◌<◌, ℕ, length, slice_index}
use Rattle.luo_num.specs.Mark.{capped}
use Rattle.luo_counting.specs.Numbers.{chosen}
use Rattle.luo_rank.proofs.choices.write_ways.Given as goal

abbrev pub invariant-loop-j : goal.invariant-loop-j
invariant-loop-j l = (length l.ways ≡ length l.initial.ways) × ((i : ℕ) → i < l.j → slice_index l.ways i ≡ capped (chosen l.kind l.c i))
