-- Binomial numbers.
use Rattle.std.proofs.Common.{◌≡◌, ℕ, zero, suc, ◌<◌, refl, arith}
use Rattle.luo_finite.specs.Binomial.{choose}

pub choose-past : (n k : ℕ) → n < k → choose n k ≡ 0
choose-past n zero h = absurd (omega arith)
choose-past zero (suc k) h = refl
choose-past (suc n) (suc k) h = omega (arith, choose-past n k (omega arith), choose-past n (suc k) (omega arith))

pub choose-self : (n : ℕ) → choose n n ≡ 1
choose-self zero = refl
choose-self (suc n) = omega (arith, choose-self n, choose-past n (suc n) (omega arith))
