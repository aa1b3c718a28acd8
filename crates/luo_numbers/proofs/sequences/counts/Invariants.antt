use Rattle.std.proofs.Common.{◌≡◌, ◌+◌, length, false}
use Rattle.luo_numbers.specs.Given.{AreComponents, AreGiven}
use Rattle.luo_numbers.proofs.sequences.counts.Given as goal

abbrev pub invariant-loop-n : goal.invariant-loop-n
invariant-loop-n l = AreComponents l.comp.items × (length l.comp.items ≡ l.plan.last + 1) × (l.line.over ≡ false) × (l.line.low ≡ l.plan.low) × (l.line.high ≡ l.plan.high) × (l.line.n_max ≡ l.plan.last) × AreGiven l.plan.low l.plan.high l.comp.items l.n l.line.given
