use Rattle.std.proofs.Common.{◌≡◌, ◌+◌, length}
use Rattle.luo_numbers.specs.Given.{AreComponents, AreGiven, AreAlike}
use Rattle.luo_numbers.proofs.labelled.totals.Given as goal

abbrev pub invariant-loop-n : goal.invariant-loop-n
invariant-loop-n l = AreComponents l.comp.items × (length l.comp.items ≡ l.plan.last + 1) × (l.chain.low ≡ l.plan.low) × (l.chain.high ≡ l.plan.high) × (l.chain.n_max ≡ l.plan.last) × AreGiven l.plan.low l.plan.high l.comp.items l.n l.chain.given × AreAlike l.chain l.walk.sums × AreGiven l.plan.low l.plan.high l.comp.items l.n l.walk.counts × AreGiven l.plan.low l.plan.high l.comp.items l.n l.walk.sums.given
