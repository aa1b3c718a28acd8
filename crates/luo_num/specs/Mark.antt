-- Numbers that overflow a table.
use Rattle.std.specs.Prelude.{ℕ, min}
use Rattle.luo_num.specs.declared.TheConstants.{MARK}

-- a number as a table with marks holds it, saturating: the mark stands in place of every number
-- that overflows
abbrev pub capped : ℕ → ℕ
capped n = min n MARK
