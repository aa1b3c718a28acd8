-- What the coefficients of collections and points are, over numbers at least 0 of which that of
-- size 0 is 0.
use Rattle.std.specs.Prelude.{◌≡◌, ℕ, Option, pos}
use Rattle.luo_finite.specs.Range.{sum_below}
use Rattle.luo_model.specs.declared.program.Universe.{Universe}
use Rattle.luo_model.specs.declared.program.Kind.{Kind}
use Rattle.luo_counting.specs.Items.{Suits}
use Rattle.luo_model.specs.Numbered.{IsCollectionCount, IsCollectionTotal}
use Rattle.luo_equation.specs.Series.{coll, point}

-- the coefficient of a collection is the number of numbered collections
abbrev pub CollectionsAreCounted : Type 0
CollectionsAreCounted =
    (u : Universe) (kind : Kind) (low : ℕ) (high : Option ℕ) (a : ℕ → ℕ) (n c : ℕ)
    → Suits u kind low → a 0 ≡ 0
    → IsCollectionCount u kind low high a n c → coll u kind (λ m. pos (a m)) low high n ≡ pos c

-- the coefficient of a point is the sum of the items' charges over them, where item i of size j
-- charges q j i
abbrev pub PointsAreTotals : Type 0
PointsAreTotals =
    (u : Universe) (kind : Kind) (low : ℕ) (high : Option ℕ) (a : ℕ → ℕ) (q : ℕ → ℕ → ℕ) (n t : ℕ)
    → Suits u kind low → a 0 ≡ 0
    → IsCollectionTotal u kind low high a q n t
    → point u kind (λ m. pos (a m)) (λ m. pos (sum_below (q m) (a m))) low high n ≡ pos t
