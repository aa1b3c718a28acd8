-- The ways to share a size among the factors of a product, and what rows of partial products hold.
use Rattle.std.specs.Prelude.{◌≡◌, ◌⊎◌, ℕ, suc, ◌+◌, ◌*◌, ◌-◌, List, [], ◌∷◌, map, Option, Some, None}
use Rattle.luo_finite.specs.Listing.{In}
use Rattle.luo_finite.specs.Range.{sum_below, unit}
use Rattle.luo_finite.specs.Binomial.{choose}
use Rattle.luo_model.specs.declared.program.Universe.{Universe}
use Rattle.luo_model.specs.declared.program.Universe.TheVariants.{Unlabelled, Labelled}
use Rattle.luo_counting.specs.Sharing.{shares, products}

-- the ways to choose the labels of the first of two, where it has k of n; without labels there is
-- one
abbrev pub ways : Universe → ℕ → ℕ → ℕ
ways Unlabelled n k = 1
ways Labelled n k = choose n k

-- the pairs of size n whose first has size k
abbrev pub paired : Universe → (ℕ → ℕ) → (ℕ → ℕ) → ℕ → ℕ → ℕ
paired u a b n k = ways u n k * (a k * b (n - k))

-- the ways to share n between two where each gets some
unfoldable pub inner : Universe → (ℕ → ℕ) → (ℕ → ℕ) → ℕ → ℕ
inner u a b n = sum_below (λ k. paired u a b n (suc k)) (n - 1)

-- a row of partial products: a factor shared with the row after it, or the end of a product
abbrev pub tail_of : Universe → (ℕ → ℕ → ℕ) → List (Option ℕ) → ℕ → ℕ
tail_of u counts [] n = unit n
tail_of u counts (None ∷ rest) n = unit n
tail_of u counts (Some y ∷ rest) n = shares u (counts y) (tail_of u counts rest) n

-- the part of a row that is known before any entry of size n: what reads smaller sizes alone
abbrev pub open_of : Universe → (ℕ → ℕ → ℕ) → List (Option ℕ) → ℕ → ℕ
open_of u counts [] n = 0
open_of u counts (None ∷ rest) n = 0
open_of u counts (Some y ∷ rest) n = inner u (counts y) (tail_of u counts rest) n

-- the ways to share a size among factors one of which is charged: t are a factor's charges, a its
-- counts
abbrev pub point_all : {X : Type 0} → Universe → (X → ℕ → ℕ) → (X → ℕ → ℕ) → List X → ℕ → ℕ
point_all u a t [] n = 0
point_all u a t (x ∷ xs) n =
    shares u (t x) (products u (map a xs)) n + shares u (a x) (point_all u a t xs) n

-- some factor has nothing of size 0
abbrev pub HasNone : {X : Type 0} → (X → ℕ → ℕ) → List X → Type 0
HasNone {X} a xs = (x : X) × In x xs × (a x 0 ≡ 0)

-- at size n each factor is read as t, or as 0 where another factor, or one outside, has nothing of
-- size 0
abbrev pub AreReady : {X : Type 0} → (X → ℕ → ℕ) → (X → ℕ → ℕ) → (X → ℕ → ℕ) → ℕ → Type 0 → List X
    → Type 0
AreReady a t r n Z [] = Unit {0}
AreReady a t r n Z (x ∷ xs) =
    ((r x n ≡ t x n) ⊎ ((r x n ≡ 0) × (Z ⊎ HasNone a xs))) × AreReady a t r n (Z ⊎ (a x 0 ≡ 0)) xs

-- at size n the charges of each factor are read as they are, or another factor, or one outside, has
-- nothing of size 0
abbrev pub AreCharged : {X : Type 0} → (X → ℕ → ℕ) → (X → ℕ → ℕ) → (X → ℕ → ℕ) → ℕ → Type 0 → List X
    → Type 0
AreCharged a t r n Z [] = Unit {0}
AreCharged a t r n Z (x ∷ xs) =
    ((r x n ≡ t x n) ⊎ (Z ⊎ HasNone a xs)) × AreCharged a t r n (Z ⊎ (a x 0 ≡ 0)) xs
