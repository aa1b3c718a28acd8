use Rattle.std.proofs.Common.{◌≡◌, ℕ, ◌<◌, length, slice_index}
use Rattle.luo_num.specs.Mark.{capped}
use Rattle.luo_counting.specs.Numbers.{chosen_totals}
use Rattle.luo_unlabelled.proofs.choices.write_charges.Given as goal

abbrev pub invariant-loop-j : goal.invariant-loop-j
invariant-loop-j l = (length l.charges ≡ length l.initial.charges) × ((i : ℕ) → i < l.j → slice_index l.charges i ≡ capped (chosen_totals l.kind l.c l.charge i))
