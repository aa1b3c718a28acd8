-- Laws of averages.
use Rattle.std.specs.Prelude.{ℕ}
use Rattle.luo_fraction.specs.Average.{IsAverage}
use Rattle.luo_report.specs.Average.{average_of}

-- what is written is the average in lowest terms
abbrev pub AverageIsWritten : Type 0
AverageIsWritten = (total count : ℕ) → IsAverage total count (average_of total count)
