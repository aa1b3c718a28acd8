-- The sums of products of weights over collections. The weights of the items of size n sum to a n.
use Rattle.std.specs.Prelude.{ℕ, zero, suc, ◌+◌, ◌*◌, ◌-◌, List, [], ◌∷◌, Option}
use Rattle.luo_finite.specs.Range.{sum_below}
use Rattle.luo_model.specs.declared.program.Universe.{Universe}
use Rattle.luo_model.specs.declared.program.Universe.TheVariants.{Labelled}
use Rattle.luo_model.specs.declared.program.Kind.{Kind}
use Rattle.luo_model.specs.declared.program.Kind.TheVariants.{Sequence, Set, Cycle, Multiset, Powerset}
use Rattle.luo_counting.specs.Sharing.{over_shares}
use Rattle.luo_counting.specs.Numbers.{back, terms}
use Rattle.luo_counting.specs.Weights.{Algebra, times}

-- f at 0, and 0 elsewhere
abbrev pub at_zero : {I : Type 0} → (I → ℕ) → ℕ → I → ℕ
at_zero f zero k = f k
at_zero f (suc n) k = 0

abbrev pub shares_in : (K : Algebra) → Universe → (ℕ → K.Slot → ℕ) → (ℕ → K.Slot → ℕ) → ℕ → K.Slot
    → ℕ
shares_in K u a b n k = over_shares u (λ i j. times K.table (a i) (b j) k) n

abbrev pub rows_in : (K : Algebra) → Universe → (ℕ → K.Slot → ℕ) → ℕ → ℕ → K.Slot → ℕ
rows_in K u a zero n k = at_zero K.one n k
rows_in K u a (suc m) n k = shares_in K u a (rows_in K u a m) n k

abbrev pub sets_in : (K : Algebra) → (ℕ → K.Slot → ℕ) → ℕ → ℕ → K.Slot → ℕ
sets_in K a zero n k = at_zero K.one n k
sets_in K a (suc m) zero k = 0
sets_in K a (suc m) (suc n) k = shares_in K Labelled (λ i. a (suc i)) (sets_in K a m) n k

abbrev pub cycles_in : (K : Algebra) → (ℕ → K.Slot → ℕ) → ℕ → ℕ → K.Slot → ℕ
cycles_in K a zero n k = 0
cycles_in K a (suc m) zero k = 0
cycles_in K a (suc m) (suc n) k = shares_in K Labelled (λ i. a (suc i)) (rows_in K Labelled a m) n k

-- the products over all multisets of j of the weights of a list
abbrev pub repeats_in : (K : Algebra) → List (K.Slot → ℕ) → ℕ → K.Slot → ℕ
repeats_in K [] zero k = K.one k
repeats_in K [] (suc j) k = 0
repeats_in K (x ∷ l) zero k = K.one k
repeats_in K (x ∷ l) (suc j) k =
    repeats_in K l (suc j) k + times K.table x (repeats_in K (x ∷ l) j) k

-- and over all subsets
abbrev pub subsets_in : (K : Algebra) → List (K.Slot → ℕ) → ℕ → K.Slot → ℕ
subsets_in K l zero k = K.one k
subsets_in K [] (suc j) k = 0
subsets_in K (x ∷ l) (suc j) k = subsets_in K l (suc j) k + times K.table x (subsets_in K l j) k

abbrev pub choices_in : (K : Algebra) → Kind → List (K.Slot → ℕ) → ℕ → K.Slot → ℕ
choices_in K Powerset l j k = subsets_in K l j k
choices_in K _ l j k = repeats_in K l j k

-- k items of sizes 1 to d, of size n; chosen e j are the choices of j items of size e
abbrev pub plane_in : (K : Algebra) → (ℕ → ℕ → K.Slot → ℕ) → ℕ → ℕ → ℕ → K.Slot → ℕ
plane_in K chosen zero zero n i = at_zero K.one n i
plane_in K chosen zero (suc k) n i = 0
plane_in K chosen (suc d) k n i =
    sum_below (λ j. times K.table (chosen (suc d) j)
    (λ s. back (j * suc d) (λ m. plane_in K chosen d (k - j) m s) n) i) (suc k)

-- chosen x j: the choices of j of things whose weights sum to x
abbrev pub of_k_in : (K : Algebra) → (Kind → (K.Slot → ℕ) → ℕ → K.Slot → ℕ) → Universe → Kind
    → (ℕ → K.Slot → ℕ) → ℕ → ℕ → K.Slot → ℕ
of_k_in K chosen u Sequence a k n i = rows_in K u a k n i
of_k_in K chosen u Set a k n i = sets_in K a k n i
of_k_in K chosen u Cycle a k n i = cycles_in K a k n i
of_k_in K chosen u Multiset a k n i = plane_in K (λ e j. chosen Multiset (a e) j) n k n i
of_k_in K chosen u Powerset a k n i = plane_in K (λ e j. chosen Powerset (a e) j) n k n i

unfoldable pub coll_in : (K : Algebra) → (Kind → (K.Slot → ℕ) → ℕ → K.Slot → ℕ) → Universe → Kind
    → (ℕ → K.Slot → ℕ) → ℕ → Option ℕ → ℕ → K.Slot → ℕ
coll_in K chosen u kind a low high n i =
    sum_below (λ m. of_k_in K chosen u kind a (low + m) n i) (terms low high n)
