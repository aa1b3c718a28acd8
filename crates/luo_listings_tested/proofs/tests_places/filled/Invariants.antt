use Rattle.std.proofs.Common.{◌≡◌, false}
use Rattle.luo_model.specs.declared.table.Fill.TheVariants.{Counts}
use Rattle.luo_listings_tested.proofs.tests_places.filled.Given as goal

abbrev pub invariant-loop-i : goal.invariant-loop-i
invariant-loop-i l = l.engine ≡ record { program = l.program; last = l.fn.last; fill = Counts; filled = l._i; stopped = false }
