-- Planes, from those of smaller sizes.
use Rattle.std.proofs.Common.{◌≡◌, ℕ, zero, suc, ◌+◌, ◌*◌, ◌-◌, ◌≤◌, ◌<◌, List, [], ⊎_elim, slice_index, slice_index_or, Option, Some, None, refl, sym, ◌∙◌, ap, arith}
use Rattle.std.proofs.Math.Nat.{mul-zero}
use Rattle.std.proofs.lemmas.Nat.{mul-le}
use Rattle.luo_num.specs.Mark.{capped}
use Rattle.luo_finite.specs.Range.{sum_below}
use Rattle.luo_finite.specs.Binomial.{choose}
use Rattle.luo_finite.proofs.Binomials.{choose-past}
use Rattle.luo_model.specs.declared.program.Kind.{Kind}
use Rattle.luo_model.specs.declared.program.Kind.TheVariants.{Sequence, Set, Cycle, Multiset, Powerset}
use Rattle.luo_model.specs.declared.program.Universe.TheVariants.{Unlabelled}
use Rattle.luo_counting.specs.Numbers.{plane, back, chosen, repeats, terms, coll_count}
use Rattle.luo_counting.proofs.Planes.{back-yes, back-no}
use Rattle.luo_counting.proofs.Binomials.{repeats_none, repeats_some}
use Rattle.luo_places.specs.Numbers.{cut}
use Rattle.luo_places.specs.Tails.{IsBag}
use Rattle.luo_places.proofs.BagPlaces.{bag_number, cut-number}
use Rattle.luo_rank.specs.inner.Lookup.{with_size, AreWays, IsPlane, most_of}
use Rattle.luo_rank.proofs.ListLemmas.{le_or, sum_more, sum_tail, sums_marked, product_marked}

-- CHOICES
pub chosen_power : (kind : Kind) (c j v : ℕ) → kind ≡ Powerset → v ≡ capped (choose c j) → v ≡ capped (chosen kind c j)
chosen_power kind c j v e h = h ∙ ap (λ (k : Kind). capped (chosen k c j)) (sym e)

multiset_of : (kind : Kind) → IsBag kind → (kind ≡ Powerset → ⊥) → kind ≡ Multiset
multiset_of Multiset b h = refl
multiset_of Powerset b h = absurd (h refl)
multiset_of Sequence b h = absurd b
multiset_of Set b h = absurd b
multiset_of Cycle b h = absurd b

pub chosen_none : (kind : Kind) (c j : ℕ) → IsBag kind → (kind ≡ Powerset → ⊥) → j ≡ 0 → 1 ≡ capped (chosen kind c j)
chosen_none kind c j b h z = repeats_none c j z ∙ ap (λ (k : Kind). capped (chosen k c j)) (sym (multiset_of kind b h))

pub chosen_some : (kind : Kind) (c j v : ℕ) → IsBag kind → (kind ≡ Powerset → ⊥) → (j ≡ 0 → ⊥) → v ≡ capped (choose (c + (j - 1)) j) → v ≡ capped (chosen kind c j)
chosen_some kind c j v b h z e = e ∙ ap capped (sym (repeats_some c j z)) ∙ ap (λ (k : Kind). capped (chosen k c j)) (sym (multiset_of kind b h))

-- SUMS over the copies of components of one size
back_there : (s : ℕ) (F : ℕ → ℕ) (m : ℕ) → s ≤ m → back s F m ≡ F (m - s)
back_there s F m h = back-yes s F (m - s) m (omega (arith, h))

pub copies_more : (ways : List ℕ) (rows : List (List ℕ)) (d k n j next sum way rest : ℕ) → sum ≡ capped (sum_below (λ j. slice_index ways j * back (j * d) (slice_index (slice_index_or rows (k - j) [])) n) j) → next ≡ j + 1 → j * d ≤ n
    → way ≡ slice_index ways j → rest ≡ slice_index (slice_index_or rows (k - j) []) (n - j * d)
    → capped (sum + capped (way * rest)) ≡ capped (sum_below (λ j. slice_index ways j * back (j * d) (slice_index (slice_index_or rows (k - j) [])) n) next)
copies_more ways rows d k n j next sum way rest e q l w r =
    sum_more (λ j. slice_index ways j * back (j * d) (slice_index (slice_index_or rows (k - j) [])) n) j next sum (capped (way * rest)) e
    (ap capped (ap (λ i. i * rest) w ∙ ap (λ i. slice_index ways j * i) (r ∙ sym (back_there (j * d) (slice_index (slice_index_or rows (k - j) [])) n l)))) q

pub copies_past : (ways : List ℕ) (rows : List (List ℕ)) (d k n j sum : ℕ) → sum ≡ capped (sum_below (λ j. slice_index ways j * back (j * d) (slice_index (slice_index_or rows (k - j) [])) n) j) → j ≤ k + 1 → n < j * d → sum ≡ capped (with_size ways rows d k n)
copies_past ways rows d k n j sum e l h =
    e ∙ ap capped (sum_tail (λ j. slice_index ways j * back (j * d) (slice_index (slice_index_or rows (k - j) [])) n) j (suc k) (omega (arith, l))
    (λ i a b. ap (λ v. slice_index ways i * v) (back-no (i * d) (slice_index (slice_index_or rows (k - i) [])) n (omega (arith, h, mul-le j d i d a (let q : d ≤ d = omega arith in q)))) ∙ mul-zero (slice_index ways i)))

pub copies_all : (ways : List ℕ) (rows : List (List ℕ)) (d k n j sum : ℕ) → sum ≡ capped (sum_below (λ j. slice_index ways j * back (j * d) (slice_index (slice_index_or rows (k - j) [])) n) j) → j ≤ k + 1 → k < j → sum ≡ capped (with_size ways rows d k n)
copies_all ways rows d k n j sum e l h = e ∙ ap (λ i. capped (sum_below (λ j. slice_index ways j * back (j * d) (slice_index (slice_index_or rows (k - j) [])) n) i)) (let q : j ≡ suc k = omega (arith, l, h) in q)

-- with marks and without
with_is : (w : ℕ → ℕ) (g : ℕ → ℕ → ℕ) (ways : List ℕ) (rows : List (List ℕ)) (e k n : ℕ) → ((j : ℕ) → j * e ≤ n → slice_index ways j ≡ capped (w j)) → ((i m : ℕ) → i ≤ k → m ≤ n → slice_index (slice_index_or rows i []) m ≡ capped (g i m))
    → capped (with_size ways rows e k n) ≡ capped (sum_below (λ j. w j * back (j * e) (g (k - j)) n) (suc k))
with_is w g ways rows e k n hw hg =
    sums_marked (λ j. slice_index ways j * back (j * e) (slice_index (slice_index_or rows (k - j) [])) n) (λ j. w j * back (j * e) (g (k - j)) n) (suc k)
    (λ j l. ⊎_elim
    (λ f. product_marked (slice_index ways j) (back (j * e) (slice_index (slice_index_or rows (k - j) [])) n) (w j) (back (j * e) (g (k - j)) n) (hw j f)
    (back_there (j * e) (slice_index (slice_index_or rows (k - j) [])) n f ∙ hg (k - j) (n - j * e) (omega arith) (omega arith) ∙ ap capped (sym (back_there (j * e) (g (k - j)) n f))))
    (λ f. ap (λ v. capped (slice_index ways j * v)) (back-no (j * e) (slice_index (slice_index_or rows (k - j) [])) n f) ∙ ap capped (mul-zero (slice_index ways j) ∙ sym (mul-zero (w j))) ∙ ap (λ v. capped (w j * v)) (sym (back-no (j * e) (g (k - j)) n f)))
    (le_or (j * e) n))

-- the next plane
module _ (kind : Kind) (a : ℕ → ℕ) (ways : List ℕ) (rows : List (List ℕ)) (d last : ℕ) (old : IsPlane kind a (suc d - 1) last rows) where
  old_right : (k n : ℕ) → k < suc last → n < suc last → slice_index (slice_index_or rows k []) n ≡ capped (plane kind a d k n)
  old_right k n l h = old.right k n l h ∙ ap (λ e. capped (plane kind a e k n)) (let q : suc d - 1 ≡ d = omega arith in q)

  pub number_of : (i k n : ℕ) → AreWays kind i (suc d) n ways → k < suc last → n < suc last → capped (with_size ways rows (suc d) k n) ≡ capped (bag_number kind a d i k n)
  number_of i k n w l h = with_is (chosen kind i) (plane kind a d) ways rows (suc d) k n (λ j f. (w j f).1) (λ p m f g. old_right p m (omega (arith, f, l)) (omega (arith, g, h)))

pub cell_next : (kind : Kind) (a : ℕ → ℕ) (ways : List ℕ) (rows : List (List ℕ)) (d k n last v : ℕ) → 0 < d → (1 ≤ d → IsPlane kind a (d - 1) last rows) → (1 ≤ d → AreWays kind (a d) d last ways) → k < suc last → n < suc last → v ≡ capped (with_size ways rows d k n) → v ≡ capped (plane kind a d k n)
cell_next kind a ways rows zero k n last v g old w l h e = absurd (omega (arith, g))
cell_next kind a ways rows (suc d) k n last v g old w l h e = e ∙ number_of kind a ways rows d last (old (omega arith)) (a (suc d)) k n (λ j f. w (omega arith) j (omega (arith, f, h))) l h

pub cell_empty : (kind : Kind) (a : ℕ → ℕ) (d k n : ℕ) → (0 < d → ⊥) → k ≡ 0 → n ≡ 0 → 1 ≡ capped (plane kind a d k n)
cell_empty kind a zero zero zero g e q = omega arith
cell_empty kind a zero zero (suc n) g e q = absurd (omega (arith, q))
cell_empty kind a zero (suc k) n g e q = absurd (omega (arith, e))
cell_empty kind a (suc d) k n g e q = absurd (g (omega arith))

pub cell_none : (kind : Kind) (a : ℕ → ℕ) (d k n : ℕ) → (0 < d → ⊥) → (k ≡ 0 → n ≡ 0 → ⊥) → 0 ≡ capped (plane kind a d k n)
cell_none kind a zero zero zero g q = absurd (q refl refl)
cell_none kind a zero zero (suc n) g q = omega arith
cell_none kind a zero (suc k) n g q = omega arith
cell_none kind a (suc d) k n g q = absurd (g (omega arith))

-- WITHIN bounds, of components before a place
terms_are : (low n : ℕ) (high : Option ℕ) → terms low high n ≡ suc (most_of high n) - low
terms_are low n (Some high) = refl
terms_are low n None = refl

most_within : (high : Option ℕ) (n : ℕ) → most_of high n ≤ n
most_within (Some high) n = omega arith
most_within None n = omega arith

by_number : (kind : Kind) (a : ℕ → ℕ) (low : ℕ) (high : Option ℕ) (d i n : ℕ) → IsBag kind → suc d ≤ n → coll_count Unlabelled kind (cut a (suc d) i) low high n ≡ sum_below (λ e. bag_number kind a d i (low + e) n) (terms low high n)
by_number Multiset a low high d i n b l = (cut-number a low high d i n l).0
by_number Powerset a low high d i n b l = (cut-number a low high d i n l).1
by_number Sequence a low high d i n b l = absurd b
by_number Set a low high d i n b l = absurd b
by_number Cycle a low high d i n b l = absurd b

pub count_below : (kind : Kind) (a : ℕ → ℕ) (ways : List ℕ) (rows : List (List ℕ)) (d last low n i : ℕ) (high : Option ℕ) → IsBag kind → 1 ≤ d → d ≤ n → n ≤ last → IsPlane kind a (d - 1) last rows → AreWays kind i d n ways
    → capped (sum_below (λ e. with_size ways rows d (low + e) n) (suc (most_of high n) - low)) ≡ capped (coll_count Unlabelled kind (cut a d i) low high n)
count_below kind a ways rows zero last low n i high b g l h old w = absurd (omega (arith, g))
count_below kind a ways rows (suc d) last low n i high b g l h old w =
    sums_marked (λ e. with_size ways rows (suc d) (low + e) n) (λ e. bag_number kind a d i (low + e) n) (suc (most_of high n) - low)
    (λ e f. number_of kind a ways rows d last old i (low + e) n w (omega (arith, f, h, most_within high n)) (omega (arith, h)))
    ∙ ap (λ m. capped (sum_below (λ e. bag_number kind a d i (low + e) n) m)) (sym (terms_are low n high)) ∙ ap capped (sym (by_number kind a low high d i n b l))
