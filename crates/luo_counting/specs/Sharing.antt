-- The ways to share a size, or a size and its labels, between two.
use Rattle.std.specs.Prelude.{◌≡◌, ℕ, zero, suc, ◌+◌, ◌*◌, ◌-◌, ◌≤◌, List, [], ◌∷◌, ◌++◌, map, length}
use Rattle.luo_finite.specs.Listing.{In}
use Rattle.luo_finite.specs.Range.{sum_below, unit}
use Rattle.luo_model.specs.declared.program.Universe.{Universe}
use Rattle.luo_model.specs.declared.program.Universe.TheVariants.{Unlabelled, Labelled}
use Rattle.luo_model.specs.Structures.{Rising}

-- the ways to share labels between two
abbrev pub splits : List ℕ → List (List ℕ × List ℕ)
splits [] = ([], []) ∷ []
splits (x ∷ xs) = map (λ z. (x ∷ z.0, z.1)) (splits xs) ++ map (λ z. (z.0, x ∷ z.1)) (splits xs)

-- the sum of c over the sizes of the splits of n labels: each label goes to the first or to the
-- second
abbrev pub over_splits : (ℕ → ℕ → ℕ) → ℕ → ℕ
over_splits c zero = c 0 0
over_splits c (suc n) = over_splits (λ i j. c (suc i) j) n + over_splits (λ i j. c i (suc j)) n

-- the sum of c over the ways to share n
unfoldable pub over_shares : Universe → (ℕ → ℕ → ℕ) → ℕ → ℕ
over_shares Unlabelled c n = sum_below (λ k. c k (n - k)) (suc n)
over_shares Labelled c n = over_splits c n

-- the sum of a i * b j over the ways to share n
abbrev pub shares : Universe → (ℕ → ℕ) → (ℕ → ℕ) → ℕ → ℕ
shares u a b n = over_shares u (λ i j. a i * b j) n

-- shared among several
abbrev pub products : Universe → List (ℕ → ℕ) → ℕ → ℕ
products u [] n = unit n
products u (a ∷ rest) n = shares u a (products u rest) n

-- in the labelled universe n is the number of the labels L, which rise and are at least 1
abbrev pub IsRoom : Universe → List ℕ → ℕ → Type 0
IsRoom Unlabelled L n = Unit {0}
IsRoom Labelled L n = Rising L × (length L ≡ n) × ((x : ℕ) → In x L → 1 ≤ x)
