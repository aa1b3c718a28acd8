-- The text of an average.
use Rattle.std.specs.Prelude.{ℕ, zero, suc, ◌/◌, ◌%◌, List, ◌++◌, codes, decimal}
use Rattle.luo_fraction.specs.declared.fraction.Average.{Average}
use Rattle.luo_fraction.specs.declared.fraction.Average.TheVariants.{Absent, Value}

-- the greatest common divisor, by Euclid's rule; as many rounds as the second number and one are
-- enough
abbrev pub divisor_in : ℕ → ℕ → ℕ → ℕ
divisor_in zero a b = a
divisor_in (suc rounds) a zero = a
divisor_in (suc rounds) a (suc b) = divisor_in rounds (suc b) (a % suc b)

abbrev pub divisor : ℕ → ℕ → ℕ
divisor a b = divisor_in (suc b) a b

-- the average of count numbers whose sum is total: nothing where there is none, else the quotient
-- in lowest terms
unfoldable pub average_of : ℕ → ℕ → Average
average_of total zero = Absent
average_of total (suc k) = Value (total / divisor total (suc k)) (suc k / divisor total (suc k))

-- `-`, `p` or `p/q`
abbrev pub fraction_text : Average → List ℕ
fraction_text Absent = codes "-"
fraction_text (Value p (suc zero)) = decimal p
fraction_text (Value p q) = decimal p ++ codes "/" ++ decimal q

abbrev pub average_text : ℕ → ℕ → List ℕ
average_text total count = fraction_text (average_of total count)
