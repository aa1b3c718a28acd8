use Rattle.std.proofs.Common.{◌≡◌, min, sum_by, take}
use Rattle.luo_model.specs.declared.program.Part.{Part}
use Rattle.luo_founded.specs.inner.Least.{past_last, size_at}
use Rattle.luo_founded.proofs.least.sum_of.Given as goal

abbrev pub invariant-loop-part : goal.invariant-loop-part
invariant-loop-part l = l.sum ≡ min past_last (sum_by (λ (part : Part). size_at l.table part.node) (take l.part-index l.parts))
