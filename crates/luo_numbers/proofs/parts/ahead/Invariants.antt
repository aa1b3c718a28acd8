use Rattle.std.proofs.Common.{◌≡◌, false, None}
use Rattle.luo_numbers.specs.Given.{AreGiven}
use Rattle.luo_numbers.proofs.parts.ahead.Given as goal

abbrev pub invariant-loop-n : goal.invariant-loop-n
invariant-loop-n l = (l.parts.over ≡ false) × (l.parts.low ≡ 0) × (l.parts.high ≡ None) × (l.parts.n_max ≡ 100) × AreGiven 0 None l.comp l.n l.parts.given
