use Rattle.std.proofs.Common.{◌≡◌, ◌+◌, min, take}
use Rattle.luo_scan.specs.Spellings.{value_after}
use Rattle.luo_num.specs.declared.limits.TheConstants.{NUMBER_LIMIT}
use Rattle.luo_scan.proofs.piece.number_of.Given as goal

abbrev pub invariant-loop-digit : goal.invariant-loop-digit
invariant-loop-digit l = l.number ≡ min (value_after 0 (take l.digit-index l.digits)) (NUMBER_LIMIT + 1)
