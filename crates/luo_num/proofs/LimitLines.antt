-- The line of each limit says its number; the limits one by one.
use Rattle.std.proofs.Common.{refl}
use Rattle.std.specs.Fmt.{digits}
use Rattle.luo_num.specs.Limits.{HeadsSayLimits, LinesSayLimits, TextLimitsAre, WordLimitsAre}

pub heads-say_limits : HeadsSayLimits
unfolding digits
heads-say_limits = (refl, refl, refl, refl)

pub lines-say_limits : LinesSayLimits
unfolding digits
lines-say_limits = (refl, refl, refl, refl, refl, refl, refl, refl, refl, refl, refl, refl, refl, refl, refl, refl, refl)

pub text-limits : TextLimitsAre
text-limits = (refl, refl, refl, refl, refl, refl, refl, refl, refl, refl, refl, refl, refl, refl)

pub word-limits : WordLimitsAre
word-limits = (refl, refl, refl, refl, refl, refl, refl, refl, refl)
