-- Numbers a + b e + c f + d e f, with e e = f f = 0: a count, two sums and the sum of the products.
use Rattle.std.specs.Prelude.{ℕ, zero, suc, ◌+◌, ◌*◌, List, [], ◌∷◌, Option}
use Rattle.luo_finite.specs.Binomial.{choose}
use Rattle.luo_model.specs.declared.program.Universe.{Universe}
use Rattle.luo_model.specs.declared.program.Kind.{Kind}
use Rattle.luo_model.specs.declared.program.Kind.TheVariants.{Powerset}
use Rattle.luo_counting.specs.Numbers.{repeats, chosen, chosen_totals}
use Rattle.luo_counting.specs.Weights.{Algebra}
use Rattle.luo_counting.specs.WeightNumbers.{coll_in}

pub data Place : Type 0 where
  plain : Place
  left : Place
  right : Place
  both : Place

abbrev pub four_table : Place → List (Place × Place)
four_table plain = (plain, plain) ∷ []
four_table left = (left, plain) ∷ (plain, left) ∷ []
four_table right = (right, plain) ∷ (plain, right) ∷ []
four_table both = (both, plain) ∷ (left, right) ∷ (right, left) ∷ (plain, both) ∷ []

-- the four numbers at their places
abbrev pub four : ℕ → ℕ → ℕ → ℕ → Place → ℕ
four c s t u plain = c
four c s t u left = s
four c s t u right = t
four c s t u both = u

abbrev pub Four : Algebra
Four = record { Slot = Place; table = four_table; one = four 1 0 0 0 }

-- the weight of a thing with two numbers: (1 + v e) (1 + w f)
abbrev pub point : {A : Type 0} → (A → ℕ) → (A → ℕ) → A → Place → ℕ
point v w x k = four 1 (v x) (w x) (v x * w x) k

-- over all multisets of j of a things, the sum of (sum of v) (sum of w); v sums to s, w to t, v w
-- to u
abbrev pub repeat_pairs : ℕ → ℕ → ℕ → ℕ → ℕ → ℕ
repeat_pairs a s t u zero = 0
repeat_pairs a s t u (suc zero) = u
repeat_pairs a s t u (suc (suc j)) =
    u * repeats (suc (suc a)) (suc j) + (s * t) * repeats (suc (suc a)) j

-- and over all subsets
abbrev pub subset_pairs : ℕ → ℕ → ℕ → ℕ → ℕ → ℕ
subset_pairs a s t u zero = 0
subset_pairs zero s t u (suc j) = 0
subset_pairs (suc a) s t u (suc zero) = u
subset_pairs (suc zero) s t u (suc (suc j)) = 0
subset_pairs (suc (suc a)) s t u (suc (suc j)) = u * choose a (suc j) + (s * t) * choose a j

abbrev pub chosen_pairs : Kind → ℕ → ℕ → ℕ → ℕ → ℕ → ℕ
chosen_pairs Powerset a s t u j = subset_pairs a s t u j
chosen_pairs _ a s t u j = repeat_pairs a s t u j

-- the choices of j of things whose weights sum to x
abbrev pub chosen_four : Kind → (Place → ℕ) → ℕ → Place → ℕ
chosen_four kind x j plain = chosen kind (x plain) j
chosen_four kind x j left = chosen_totals kind (x plain) (x left) j
chosen_four kind x j right = chosen_totals kind (x plain) (x right) j
chosen_four kind x j both = chosen_pairs kind (x plain) (x left) (x right) (x both) j

-- the sum of (sum of v) (sum of w) over collections: of the items of size n there are a n, v sums
-- to b n over them, w to d n, and v w to g n
abbrev pub coll_pairs : Universe → Kind → (ℕ → ℕ) → (ℕ → ℕ) → (ℕ → ℕ) → (ℕ → ℕ) → ℕ → Option ℕ → ℕ
    → ℕ
coll_pairs u kind a b d g low high n =
    coll_in Four chosen_four u kind (λ m. four (a m) (b m) (d m) (g m)) low high n both
