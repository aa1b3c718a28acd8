-- The lines of refusals.
use Rattle.std.specs.Prelude.{ℕ, ◌++◌, List, [], ◌∷◌, codes, decimal}
use Rattle.luo_num.specs.declared.limits.TheConstants.{TEXT_LIMIT, SIZE_LIMIT, SAMPLE_LIMIT}
use Rattle.luo_num.specs.Limits.{limit_message}

-- a text with a line feed behind it
abbrev pub line : List ℕ → List ℕ
line text = text ++ 10 ∷ []

abbrev pub at_byte : ℕ → List ℕ
at_byte byte = codes " at byte " ++ decimal byte

-- the lines of words of no form, and of three limits
abbrev pub usage_line : List ℕ
usage_line = line (codes "usage")

abbrev pub bytes_line : List ℕ
bytes_line = line (limit_message (codes "bytes") TEXT_LIMIT)

abbrev pub size_line : List ℕ
size_line = line (limit_message (codes "size") SIZE_LIMIT)

abbrev pub sample_line : List ℕ
sample_line = line (limit_message (codes "number") SAMPLE_LIMIT)
