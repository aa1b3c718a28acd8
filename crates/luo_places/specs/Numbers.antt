-- The numbers that stand before a choice.
use Rattle.std.specs.Prelude.{◌≡◌, ℕ, zero, suc, ◌+◌, ◌*◌, ◌-◌, ◌≤◌, List, [], ◌∷◌, ◌⊎◌, Option, Some, None}
use Rattle.luo_finite.specs.Listing.{In}
use Rattle.luo_finite.specs.Range.{sum_below}
use Rattle.luo_model.specs.declared.program.Universe.{Universe}
use Rattle.luo_model.specs.declared.program.Universe.TheVariants.{Unlabelled, Labelled}
use Rattle.luo_finite.specs.Binomial.{choose}
use Rattle.std.specs.declared.cmp.Ordering.TheVariants.{Less}
use Rattle.luo_model.specs.Tree.{Trees}
use Rattle.luo_model.specs.Order.{by_parts}
use Rattle.luo_counting.specs.Sharing.{splits}
use Rattle.luo_finite.specs.Places.{IsPlace, IsChoice, Lexical}

-- the ways to choose the k labels of the first of two of n
abbrev pub ways : Universe → ℕ → ℕ → ℕ
ways Unlabelled n k = 1
ways Labelled n k = choose n k

-- the ways to choose k of n labels, the least among them
abbrev pub led_ways : ℕ → ℕ → ℕ
led_ways n zero = 0
led_ways n (suc k) = choose (n - 1) k

-- the place of a pair: the first has size i, labels with place q, and place r, and the second has
-- place s; w k ways to choose k labels
unfoldable pub pair_place : (ℕ → ℕ) → (ℕ → ℕ) → (ℕ → ℕ) → ℕ → ℕ → ℕ → ℕ → ℕ → ℕ
pair_place w a b n i q r s =
    sum_below (λ k. (a k * b (n - k)) * w k) i + ((a i * b (n - i)) * q + (r * b (n - i) + s))

-- S are the labels of the first, with place q among the choices of i of L, and T those of the
-- second
abbrev pub IsPart : Universe → List ℕ → ℕ → ℕ → List ℕ → List ℕ → Type 0
IsPart Unlabelled L i q S T = q ≡ 0
IsPart Labelled L i q S T = In (S, T) (splits L) × IsPlace (IsChoice L i) Lexical q S

-- lists by their first difference, where one that ends comes first
abbrev pub ListBefore : {A : Type 0} → (A → A → Type 0) → List A → List A → Type 0
ListBefore R [] [] = ⊥
ListBefore R [] (y ∷ ys) = Unit {0}
ListBefore R (x ∷ xs) [] = ⊥
ListBefore R (x ∷ xs) (y ∷ ys) = R x y ⊎ ((x ≡ y) × ListBefore R xs ys)

-- what the bounds leave after one component
abbrev pub one_less : Option ℕ → Option ℕ
one_less (Some high) = Some (high - 1)
one_less None = None

abbrev pub AllowsOne : Option ℕ → Type 0
AllowsOne (Some high) = 1 ≤ high
AllowsOne None = Unit {0}

-- of size d the first i alone, of smaller sizes all, of greater sizes none
abbrev pub cut : (ℕ → ℕ) → ℕ → ℕ → ℕ → ℕ
cut a zero i zero = i
cut a zero i (suc m) = 0
cut a (suc d) i zero = a 0
cut a (suc d) i (suc m) = cut (λ k. a (suc k)) d i m

-- lists of structures by their first difference
abbrev pub PartsBefore : Trees → Trees → Type 0
PartsBefore ss ts = by_parts ss ts ≡ Less
