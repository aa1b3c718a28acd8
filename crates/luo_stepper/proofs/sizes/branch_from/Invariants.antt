use Rattle.std.proofs.Common.{length, ◌-◌, ◌<◌, ◌≤◌, ℕ}
use Rattle.luo_rank.specs.inner.Lookup.{part_entry}
use Rattle.luo_stepper.proofs.sizes.branch_from.Given as goal

abbrev pub invariant-loop-branch : goal.invariant-loop-branch
invariant-loop-branch l = (l.branch ≤ length l.parts) × (l.start ≤ l.branch) × ((k : ℕ) → l.start ≤ k → k < l.branch → 1 ≤ part_entry l.tables.counts l.parts l.n k → ⊥)

abbrev pub decreases-loop-branch : goal.decreases-loop-branch
decreases-loop-branch l = length l.parts - l.branch
