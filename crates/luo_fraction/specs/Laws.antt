-- Laws of averages.
use Rattle.std.specs.Prelude.{◌≡◌, ℕ}
use Rattle.luo_fraction.specs.declared.fraction.Average.{Average}
use Rattle.luo_fraction.specs.Average.{IsAverage}

-- two numbers have one average
abbrev pub AverageIsOne : Type 0
AverageIsOne =
    (total count : ℕ) (a b : Average) → IsAverage total count a → IsAverage total count b → a ≡ b
