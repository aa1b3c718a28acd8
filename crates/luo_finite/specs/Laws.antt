-- What the words of this crate have to give, said of tests on numbers.
use Rattle.std.specs.Prelude.{◌≡◌, ◌⊎◌, ◌<◌, ◌*◌, ℕ, List, [], ◌∷◌, Bool, IsTrue, length}
use Rattle.luo_finite.specs.Listing.{Lists, Counts, Sums, Totals, Pairwise, Neighbours}
use Rattle.luo_finite.specs.Range.{sum_below}
use Rattle.luo_finite.specs.Steps.{◌or_else◌, IsSingle}
use Rattle.luo_finite.specs.Walk.{IsNamedCircle}

-- the test gives true at n
abbrev pub Passes : (ℕ → Bool) → ℕ → Type 0
Passes test n = IsTrue (test n)

-- the test gives true at m and n
abbrev pub Relates : (ℕ → ℕ → Bool) → ℕ → ℕ → Type 0
Relates test m n = IsTrue (test m n)

-- two listings of what a test passes have equal lengths
abbrev pub OneLength : Type 0
OneLength =
    (test : ℕ → Bool) (l m : List ℕ) → Lists (Passes test) l → Lists (Passes test) m
    → length l ≡ length m

-- there are n numbers below n
abbrev pub CountOfBelow : Type 0
CountOfBelow = (n : ℕ) → Counts (λ k. k < n) n

-- two sums over ranges change places
abbrev pub SumsChangePlaces : Type 0
SumsChangePlaces =
    (f : ℕ → ℕ → ℕ) (m n : ℕ)
    → sum_below (λ i. sum_below (λ j. f i j) n) m ≡ sum_below (λ j. sum_below (λ i. f i j) m) n

-- where each number that passes has a key below n, its sum is the sum over the keys
abbrev pub SumOverKeys : Type 0
SumOverKeys = (test : ℕ → Bool) (key w t : ℕ → ℕ) (n : ℕ) → ((x : ℕ) → Passes test x → key x < n)
    → ((i : ℕ) → i < n → Sums (λ x. Passes test x × (key x ≡ i)) w (t i))
    → Sums (Passes test) w (sum_below t n)

-- over the pairs of what two tests pass, the sum of the products is the product of the sums
abbrev pub SumOfProducts : Type 0
SumOfProducts = (p q : ℕ → Bool) (f g : ℕ → ℕ) (s t : ℕ) → Sums (Passes p) f s → Sums (Passes q) g t
    → Sums (λ (z : ℕ × ℕ). Passes p z.0 × Passes q z.1) (λ z. f z.0 * g z.1) (s * t)

-- where a test relates each number that passes to one number at most, there is one total
abbrev pub OneTotal : Type 0
OneTotal =
    (p : ℕ → Bool) (r : ℕ → ℕ → Bool) (s t : ℕ)
    → ((x a b : ℕ) → Passes p x → Relates r x a → Relates r x b → a ≡ b)
    → Totals (Passes p) (Relates r) s → Totals (Passes p) (Relates r) t → s ≡ t

-- an ordered choice of two steps of at most one answer each has at most one
abbrev pub OneAnswer : Type 0
OneAnswer =
    (first rest : ℕ → Bool) → IsSingle (Passes first) → IsSingle (Passes rest)
    → IsSingle (Passes first or_else Passes rest)

-- for a transitive relation it is enough that neighbours are related
abbrev pub NeighboursDecide : Type 0
NeighboursDecide =
    (r : ℕ → ℕ → Bool) (xs : List ℕ) → ((x y z : ℕ) → Relates r x y → Relates r y z → Relates r x z)
    → Neighbours (Relates r) xs → Pairwise (Relates r) xs

-- 0 leads to 1 and to 2, and both lead back
abbrev pub Forks : ℕ → ℕ → Type 0
Forks x y = ((x ≡ 0) × ((y ≡ 1) ⊎ (y ≡ 2))) ⊎ ((y ≡ 0) × ((x ≡ 1) ⊎ (x ≡ 2)))

-- of two shortest circles the first in order is named, and of no other number than the least on one
abbrev pub FirstCircleIsNamed : Type 0
FirstCircleIsNamed =
    IsNamedCircle Forks 0 (0 ∷ 1 ∷ 0 ∷ []) × (IsNamedCircle Forks 0 (0 ∷ 2 ∷ 0 ∷ []) → ⊥)
    × (IsNamedCircle Forks 1 (1 ∷ 0 ∷ 1 ∷ []) → ⊥)
    × (IsNamedCircle Forks 0 (0 ∷ 1 ∷ 0 ∷ 1 ∷ 0 ∷ []) → ⊥)
