-- The binomial numbers.
use Rattle.std.specs.Prelude.{ℕ, zero, suc, ◌+◌}

-- the subsets of k of n things: those with the first, and those without it
abbrev pub choose : ℕ → ℕ → ℕ
choose n zero = 1
choose zero (suc k) = 0
choose (suc n) (suc k) = choose n k + choose n (suc k)
