use Rattle.std.proofs.Common.{◌≡◌, ◌≤◌}
use Rattle.luo_num.specs.declared.TheConstants.{MAX}
use Rattle.luo_finite.specs.Binomial.{choose}
use Rattle.luo_binom.proofs.large.choose_few.Given as goal

abbrev pub invariant-loop-i : goal.invariant-loop-i
invariant-loop-i l = (l.number ≡ choose l.a l.i) × (l.number ≤ MAX)
