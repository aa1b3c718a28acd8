-- The labelled product, and the rules of multisets and powersets as they are written.
use Rattle.std.specs.Prelude.{◌≡◌, ℕ, zero, suc, ◌*◌, ◌-◌, ℤ, pos, ◌-ℤ◌, ◌*ℤ◌}
use Rattle.luo_model.specs.declared.program.Kind.{Kind}
use Rattle.luo_model.specs.declared.program.Kind.TheVariants.{Multiset, Powerset}
use Rattle.luo_model.specs.declared.program.Universe.TheVariants.{Unlabelled, Labelled}
use Rattle.luo_finite.specs.Binomial.{choose}
use Rattle.luo_equation.specs.Series.{floor, sum_z, shifted, times, bags, point_of}

-- z times (-1)^j
abbrev pub alternate : ℕ → ℤ → ℤ
alternate zero z = z
alternate (suc j) z = pos 0 -ℤ alternate j z

abbrev pub signed : Kind → ℕ → ℤ → ℤ
signed Powerset j z = alternate j z
signed _ j z = z

-- the coefficient at n of A(z^j) H
abbrev pub substituted : ℕ → (ℕ → ℤ) → (ℕ → ℤ) → ℕ → ℤ
substituted j a h n = sum_z (λ m. a m *ℤ shifted (j * m) h n) (suc n)

-- the sum over j = 1..k of A(z^j) h_(k-j), for powersets with changing signs
abbrev pub rule : Kind → (ℕ → ℤ) → (ℕ → ℤ) → ℕ → ℕ → ℤ
rule kind a b k n = sum_z (λ j. signed kind j (substituted (suc j) b (bags kind a (k - suc j)) n)) k

-- k h_k is that sum over the components
abbrev pub BagsAreByRule : Type 0
BagsAreByRule =
    (kind : Kind) (a : ℕ → ℤ) (k n : ℕ)
    → bags kind a (suc k) n ≡ floor (rule kind a a (suc k) n) (suc k)

-- and the point is the same sum over the body
abbrev pub PointsAreByRule : Type 0
PointsAreByRule = (a b : ℕ → ℤ) (k n : ℕ)
    → (point_of Unlabelled Multiset a b (suc k) n ≡ rule Multiset a b (suc k) n)
    × (point_of Unlabelled Powerset a b (suc k) n ≡ rule Powerset a b (suc k) n)

-- the labelled product by binomials
abbrev pub ProductIsBinomial : Type 0
ProductIsBinomial =
    (a b : ℕ → ℤ) (n : ℕ)
    → times Labelled a b n ≡ sum_z (λ k. pos (choose n k) *ℤ (a k *ℤ b (n - k))) (suc n)
