-- The numbers of collections, and of charges over them. Of the items of size n there are a n, and
-- their charges sum to b n.
use Rattle.std.specs.Prelude.{ℕ, zero, suc, ◌+◌, ◌*◌, ◌-◌, Option, Some, None, min}
use Rattle.luo_finite.specs.Range.{sum_below, unit}
use Rattle.luo_finite.specs.Binomial.{choose}
use Rattle.luo_model.specs.declared.program.Universe.{Universe}
use Rattle.luo_model.specs.declared.program.Universe.TheVariants.{Labelled}
use Rattle.luo_model.specs.declared.program.Kind.{Kind}
use Rattle.luo_model.specs.declared.program.Kind.TheVariants.{Sequence, Set, Cycle, Multiset, Powerset}
use Rattle.luo_counting.specs.Sharing.{shares}

-- rows of k items
abbrev pub rows : Universe → (ℕ → ℕ) → ℕ → ℕ → ℕ
rows u a zero n = unit n
rows u a (suc k) n = shares u a (rows u a k) n

abbrev pub row_totals : Universe → (ℕ → ℕ) → (ℕ → ℕ) → ℕ → ℕ → ℕ
row_totals u a b zero n = 0
row_totals u a b (suc k) n = shares u b (rows u a k) n + shares u a (row_totals u a b k) n

-- sets of k items: the least label goes to the first
abbrev pub sets : (ℕ → ℕ) → ℕ → ℕ → ℕ
sets a zero n = unit n
sets a (suc k) zero = 0
sets a (suc k) (suc n) = shares Labelled (λ i. a (suc i)) (sets a k) n

abbrev pub set_totals : (ℕ → ℕ) → (ℕ → ℕ) → ℕ → ℕ → ℕ
set_totals a b zero n = 0
set_totals a b (suc k) zero = 0
set_totals a b (suc k) (suc n) =
    shares Labelled (λ i. b (suc i)) (sets a k) n
    + shares Labelled (λ i. a (suc i)) (set_totals a b k) n

-- cycles of k items: the same, with a row after the first
abbrev pub cycles : (ℕ → ℕ) → ℕ → ℕ → ℕ
cycles a zero n = 0
cycles a (suc k) zero = 0
cycles a (suc k) (suc n) = shares Labelled (λ i. a (suc i)) (rows Labelled a k) n

abbrev pub cycle_totals : (ℕ → ℕ) → (ℕ → ℕ) → ℕ → ℕ → ℕ
cycle_totals a b zero n = 0
cycle_totals a b (suc k) zero = 0
cycle_totals a b (suc k) (suc n) =
    shares Labelled (λ i. b (suc i)) (rows Labelled a k) n
    + shares Labelled (λ i. a (suc i)) (row_totals Labelled a b k) n

-- multisets of j of a things: C(a + j - 1, j)
abbrev pub repeats : ℕ → ℕ → ℕ
repeats zero zero = 1
repeats zero (suc j) = 0
repeats (suc a) zero = 1
repeats (suc a) (suc j) = repeats a (suc j) + repeats (suc a) j

-- the multisets, or the subsets, of j of a things
abbrev pub chosen : Kind → ℕ → ℕ → ℕ
chosen Powerset a j = choose a j
chosen _ a j = repeats a j

-- the charges over all subsets of j of a things, where those of the things sum to t
abbrev pub subset_totals : ℕ → ℕ → ℕ → ℕ
subset_totals zero t j = 0
subset_totals (suc a) t zero = 0
subset_totals (suc a) t (suc j) = t * choose a j

-- and over all multisets
abbrev pub repeat_totals : ℕ → ℕ → ℕ → ℕ
repeat_totals a t zero = 0
repeat_totals a t (suc j) = t * repeats (suc a) j

abbrev pub chosen_totals : Kind → ℕ → ℕ → ℕ → ℕ
chosen_totals Powerset a t j = subset_totals a t j
chosen_totals _ a t j = repeat_totals a t j

-- f (n - s), and 0 where s is above n
abbrev pub back : ℕ → (ℕ → ℕ) → ℕ → ℕ
back zero f n = f n
back (suc s) f zero = 0
back (suc s) f (suc n) = back s f n

-- the multisets or powersets of k items of sizes 1 to d, of size n: j of size d, and the rest
abbrev pub plane : Kind → (ℕ → ℕ) → ℕ → ℕ → ℕ → ℕ
plane kind a zero zero n = unit n
plane kind a zero (suc k) n = 0
plane kind a (suc d) k n =
    sum_below (λ j. chosen kind (a (suc d)) j * back (j * suc d) (plane kind a d (k - j)) n) (suc k)

abbrev pub plane_totals : Kind → (ℕ → ℕ) → (ℕ → ℕ) → ℕ → ℕ → ℕ → ℕ
plane_totals kind a b zero k n = 0
plane_totals kind a b (suc d) k n =
    sum_below (λ j. chosen_totals kind (a (suc d)) (b (suc d)) j * back (j * suc d)
    (plane kind a d (k - j)) n
    + chosen kind (a (suc d)) j * back (j * suc d) (plane_totals kind a b d (k - j)) n) (suc k)

-- the collections of k items of size n
abbrev pub of_k : Universe → Kind → (ℕ → ℕ) → ℕ → ℕ → ℕ
of_k u Sequence a k n = rows u a k n
of_k u Set a k n = sets a k n
of_k u Cycle a k n = cycles a k n
of_k u Multiset a k n = plane Multiset a n k n
of_k u Powerset a k n = plane Powerset a n k n

abbrev pub totals_of_k : Universe → Kind → (ℕ → ℕ) → (ℕ → ℕ) → ℕ → ℕ → ℕ
totals_of_k u Sequence a b k n = row_totals u a b k n
totals_of_k u Set a b k n = set_totals a b k n
totals_of_k u Cycle a b k n = cycle_totals a b k n
totals_of_k u Multiset a b k n = plane_totals Multiset a b n k n
totals_of_k u Powerset a b k n = plane_totals Powerset a b n k n

-- the number of the k from `low` to `high` and at most n
abbrev pub terms : ℕ → Option ℕ → ℕ → ℕ
terms low (Some high) n = suc (min high n) - low
terms low None n = suc n - low

-- the collections within the bounds
unfoldable pub coll_count : Universe → Kind → (ℕ → ℕ) → ℕ → Option ℕ → ℕ → ℕ
coll_count u kind a low high n = sum_below (λ i. of_k u kind a (low + i) n) (terms low high n)

unfoldable pub coll_total : Universe → Kind → (ℕ → ℕ) → (ℕ → ℕ) → ℕ → Option ℕ → ℕ → ℕ
coll_total u kind a b low high n =
    sum_below (λ i. totals_of_k u kind a b (low + i) n) (terms low high n)
