use Rattle.std.proofs.Common.{◌≡◌, ◌+◌, length, false}
use Rattle.luo_numbers.specs.Given.{AreComponents, AreGiven, AreKept, AreSame}
use Rattle.luo_numbers.proofs.parts.totals.Given as goal

abbrev pub invariant-loop-n : goal.invariant-loop-n
invariant-loop-n l = AreComponents l.comp.items × (length l.comp.items ≡ l.plan.last + 1) × (l.parts.over ≡ false) × (l.parts.low ≡ l.plan.low) × (l.parts.high ≡ l.plan.high) × (l.parts.n_max ≡ l.plan.last) × AreGiven l.plan.low l.plan.high l.comp.items l.n l.parts.given × (l.walk.calls.over ≡ false) × AreSame l.parts l.walk.calls × AreKept l.comp.items l.n l.walk.comp × AreGiven l.plan.low l.plan.high l.comp.items l.n l.walk.calls.given
