-- The average of numbers as a fraction in lowest terms.
use Rattle.std.specs.Prelude.{◌≡◌, ℕ, ◌*◌, ◌<◌, ◌≤◌}
use Rattle.std.specs.Int.{IsGcd}
use Rattle.luo_fraction.specs.declared.fraction.Average.{Average}
use Rattle.luo_fraction.specs.declared.fraction.Average.TheVariants.{Absent, Value}

-- p/q is total/count in lowest terms: 1 is the greatest number that divides both
pub record IsReduced (total count p q : ℕ) : Type 0 where
  pub equal : p * count ≡ total * q
  pub whole : 1 ≤ q
  pub lowest : IsGcd p q 1

-- the average of count numbers whose sum is total: nothing where there is no number, else the
-- fraction in lowest terms
abbrev pub IsAverage : ℕ → ℕ → Average → Type 0
IsAverage total count Absent = count ≡ 0
IsAverage total count (Value p q) = (0 < count) × IsReduced total count p q
