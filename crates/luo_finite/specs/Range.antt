-- The numbers below n, and sums over them.
use Rattle.std.specs.Prelude.{ℕ, List, [], ◌∷◌, zero, suc, ◌+◌, ◌*◌, ◌-◌}

-- the numbers below n
abbrev pub below : ℕ → List ℕ
below zero = []
below (suc n) = n ∷ below n

-- the sum of f over the numbers below n
abbrev pub sum_below : (ℕ → ℕ) → ℕ → ℕ
sum_below f zero = 0
sum_below f (suc n) = f n + sum_below f n

-- the sum of a k b (n - k) over k up to n: the ways to share n among two
unfoldable pub convolve : (ℕ → ℕ) → (ℕ → ℕ) → ℕ → ℕ
convolve a b n = sum_below (λ k. a k * b (n - k)) (suc n)

-- 1 at 0, and 0 elsewhere
abbrev pub unit : ℕ → ℕ
unit zero = 1
unit (suc n) = 0

-- the ways to share n among several
abbrev pub convolve_all : List (ℕ → ℕ) → ℕ → ℕ
convolve_all [] n = unit n
convolve_all (a ∷ rest) n = convolve a (convolve_all rest) n
