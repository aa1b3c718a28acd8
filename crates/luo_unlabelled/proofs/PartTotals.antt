-- Charges over multisets and powersets by planes.
use Rattle.std.proofs.Common.{◌≡◌, ℕ, zero, suc, ◌+◌, ◌*◌, ◌-◌, ◌≤◌, ◌<◌, ⊎_elim, List, ◌++◌, ◌∷◌, [], Option, length, take, slice_index, refl, sym, ◌∙◌, ap, subst, arith}
use Rattle.std.proofs.Math.Nat.{mul-zero, zero-mul}
use Rattle.luo_num.specs.Mark.{capped}
use Rattle.luo_finite.specs.Range.{sum_below, unit}
use Rattle.luo_finite.proofs.Ranges.{sum_below-same, sum_below-add, sum_below-zero, sum_below-shift}
use Rattle.luo_model.specs.declared.program.Universe.TheVariants.{Unlabelled}
use Rattle.luo_model.specs.declared.program.Kind.{Kind}
use Rattle.luo_model.specs.declared.program.Kind.TheVariants.{Sequence, Set, Cycle, Multiset, Powerset}
use Rattle.luo_counting.specs.Numbers.{chosen, chosen_totals, back, plane, plane_totals, coll_total, terms}
use Rattle.luo_counting.proofs.Planes.{back-no, times_suc}
use Rattle.luo_unlabelled.specs.Calls.{IsOfParts}
use Rattle.luo_unlabelled.specs.inner.Planes.{with_size, total_put, AreWays, AreCharges, HoldsPlane, IsPut, IsSlim, alone, sum_from, last_of, sum_within, top_total}
use Rattle.luo_unlabelled.proofs.StepLemmas.{alike}
use Rattle.luo_unlabelled.proofs.PlaneLemmas.{back_there}
use Rattle.luo_unlabelled.proofs.PartNumbers.{le_or, back_past, plane-past, chosen-none, plane-beyond, plane_totals-same, total_step, alone_is, alone_none, terms_are}
use Rattle.luo_unlabelled.proofs.CallLemmas.{number_kept, number_below}

-- nothing chosen is charged nothing, and one of all is charged what all are
pub charged-none : (kind : Kind) (a t : ℕ) → chosen_totals kind a t 0 ≡ 0
charged-none Powerset zero t = refl
charged-none Powerset (suc a) t = refl
charged-none Sequence a t = refl
charged-none Set a t = refl
charged-none Cycle a t = refl
charged-none Multiset a t = refl

pub charged-one : (kind : Kind) (a t : ℕ) → (a ≡ 0 → t ≡ 0) → chosen_totals kind a t 1 ≡ t
charged-one Powerset zero t o = sym (o refl)
charged-one Powerset (suc a) t o = omega arith
charged-one Sequence a t o = omega arith
charged-one Set a t o = omega arith
charged-one Cycle a t o = omega arith
charged-one Multiset a t o = omega arith

plane_at_zero : (kind : Kind) (a : ℕ → ℕ) (d k : ℕ) → plane kind a d k 0 ≡ unit k
plane_at_zero kind a zero zero = refl
plane_at_zero kind a zero (suc k) = refl
plane_at_zero kind a (suc d) k = plane-beyond kind a d k 0 (omega arith) ∙ plane_at_zero kind a d k

behind : (j d : ℕ) → suc d ≤ suc j * suc d
behind j d = omega (arith, times_suc j (suc d))

-- a size that is put in, without its first term
rest_of : (kind : Kind) (a b : ℕ → ℕ) (d k n : ℕ) → ((j : ℕ) → chosen_totals kind (a (suc d)) (b (suc d)) (suc j) * back (suc j * suc d) (plane kind a d (k - suc j)) n + chosen kind (a (suc d)) (suc j) * back (suc j * suc d) (plane_totals kind a b d (k - suc j)) n ≡ 0)
    → plane_totals kind a b (suc d) k n ≡ plane_totals kind a b d k n
rest_of kind a b d k n h =
    let f : ℕ → ℕ = λ j. chosen_totals kind (a (suc d)) (b (suc d)) j * back (j * suc d) (plane kind a d (k - j)) n + chosen kind (a (suc d)) j * back (j * suc d) (plane_totals kind a b d (k - j)) n in
    let z : sum_below (λ j. f (suc j)) k ≡ 0 = sum_below-zero (λ j. f (suc j)) k (λ j l. h j) in
    omega (arith, sum_below-shift f k, z, first kind a b d k n)
  where
    first : (kind : Kind) (a b : ℕ → ℕ) (d k n : ℕ) → chosen_totals kind (a (suc d)) (b (suc d)) 0 * back (0 * suc d) (plane kind a d (k - 0)) n + chosen kind (a (suc d)) 0 * back (0 * suc d) (plane_totals kind a b d (k - 0)) n ≡ plane_totals kind a b d k n
    first kind a b d k n =
        let e : chosen_totals kind (a (suc d)) (b (suc d)) 0 * back (0 * suc d) (plane kind a d (k - 0)) n ≡ 0 = ap (λ x. x * back (0 * suc d) (plane kind a d (k - 0)) n) (charged-none kind (a (suc d)) (b (suc d))) ∙ zero-mul (back (0 * suc d) (plane kind a d (k - 0)) n) in
        let g : chosen kind (a (suc d)) 0 * back (0 * suc d) (plane_totals kind a b d (k - 0)) n ≡ 1 * plane_totals kind a b d k n =
        ap (λ x. x * back (0 * suc d) (plane_totals kind a b d (k - 0)) n) (chosen-none kind (a (suc d))) ∙ ap (λ s. 1 * back s (plane_totals kind a b d (k - 0)) n) (zero-mul (suc d)) ∙ ap (λ i. 1 * plane_totals kind a b d i n) (let q : k - 0 ≡ k = omega arith in q) in
        omega (arith, e, g)

total-zero : (kind : Kind) (a b : ℕ → ℕ) (d k : ℕ) → plane_totals kind a b d k 0 ≡ 0
total-zero kind a b zero k = refl
total-zero kind a b (suc d) k = rest_of kind a b d k 0 (λ j.
    let e : chosen_totals kind (a (suc d)) (b (suc d)) (suc j) * back (suc j * suc d) (plane kind a d (k - suc j)) 0 ≡ 0 = ap (λ x. chosen_totals kind (a (suc d)) (b (suc d)) (suc j) * x) (back-no (suc j * suc d) (plane kind a d (k - suc j)) 0 (omega (arith, behind j d))) ∙ mul-zero (chosen_totals kind (a (suc d)) (b (suc d)) (suc j)) in
    let g : chosen kind (a (suc d)) (suc j) * back (suc j * suc d) (plane_totals kind a b d (k - suc j)) 0 ≡ 0 = ap (λ x. chosen kind (a (suc d)) (suc j) * x) (back-no (suc j * suc d) (plane_totals kind a b d (k - suc j)) 0 (omega (arith, behind j d))) ∙ mul-zero (chosen kind (a (suc d)) (suc j)) in
    omega (arith, e, g)) ∙ total-zero kind a b d k

-- where there are more components than the size, nothing is charged
totals-past : (kind : Kind) (a b : ℕ → ℕ) (d k n : ℕ) → n < k → plane_totals kind a b d k n ≡ 0
totals-past kind a b zero k n h = refl
totals-past kind a b (suc d) k n h = sum_below-zero (λ j. chosen_totals kind (a (suc d)) (b (suc d)) j * back (j * suc d) (plane kind a d (k - j)) n + chosen kind (a (suc d)) j * back (j * suc d) (plane_totals kind a b d (k - j)) n) (suc k) (λ j l.
    let e : chosen_totals kind (a (suc d)) (b (suc d)) j * back (j * suc d) (plane kind a d (k - j)) n ≡ 0 = ap (λ x. chosen_totals kind (a (suc d)) (b (suc d)) j * x) (back_past (plane kind a d (k - j)) j d k n h (λ x q. plane-past kind a d (k - j) x q)) ∙ mul-zero (chosen_totals kind (a (suc d)) (b (suc d)) j) in
    let g : chosen kind (a (suc d)) j * back (j * suc d) (plane_totals kind a b d (k - j)) n ≡ 0 = ap (λ x. chosen kind (a (suc d)) j * x) (back_past (plane_totals kind a b d (k - j)) j d k n h (λ x q. totals-past kind a b d (k - j) x q)) ∙ mul-zero (chosen kind (a (suc d)) j) in
    omega (arith, e, g))

pub slim_totals : (kind : Kind) (a b : ℕ → ℕ) (cells : List ℕ) (deep wide rows cols d : ℕ) → rows ≤ deep → cols ≡ wide → HoldsPlane deep wide (plane_totals kind a b d) cells → IsSlim cols rows cells
slim_totals kind a b cells deep wide rows cols d l e h = λ k m hk hm q.
    ap (λ x. slice_index cells (k * x + m)) e ∙ h k m (omega (arith, hk, l)) (omega (arith, hm, e)) ∙ ap capped (totals-past kind a b d k m q) ∙ (let z : capped 0 ≡ 0 = omega arith in z)

-- of a size n: the plane of charges of the smaller sizes, and one component of this size
pub total-top : (kind : Kind) (a b : ℕ → ℕ) (n k : ℕ) → (a (suc n) ≡ 0 → b (suc n) ≡ 0) → plane_totals kind a b (suc n) k (suc n) ≡ plane_totals kind a b n k (suc n) + alone (b (suc n)) k
total-top kind a b n k o =
    let f : ℕ → ℕ = λ j. chosen_totals kind (a (suc n)) (b (suc n)) j * back (j * suc n) (plane kind a n (k - j)) (suc n) in
    let r : ℕ → ℕ = λ j. chosen kind (a (suc n)) j * back (j * suc n) (plane_totals kind a b n (k - j)) (suc n) in
    let s : sum_below (λ j. f j + r j) (suc k) ≡ sum_below f (suc k) + sum_below r (suc k) = sum_below-add f r (suc k) in
    let t : sum_below r (suc k) ≡ r 0 + sum_below (λ j. r (suc j)) k = sum_below-shift r k in
    let u : sum_below (λ j. r (suc j)) k ≡ 0 = sum_below-zero (λ j. r (suc j)) k (λ j l. later j) in
    let v : sum_below f (suc k) ≡ alone (b (suc n)) k = ones k in
    omega (arith, s, t, u, v, whole)
  where
    whole : chosen kind (a (suc n)) 0 * back (0 * suc n) (plane_totals kind a b n (k - 0)) (suc n) ≡ plane_totals kind a b n k (suc n)
    whole =
        let q : 1 * plane_totals kind a b n k (suc n) ≡ plane_totals kind a b n k (suc n) = omega arith in
        ap (λ x. x * back (0 * suc n) (plane_totals kind a b n (k - 0)) (suc n)) (chosen-none kind (a (suc n))) ∙ ap (λ s. 1 * back s (plane_totals kind a b n (k - 0)) (suc n)) (zero-mul (suc n)) ∙ ap (λ i. 1 * plane_totals kind a b n i (suc n)) (let q : k - 0 ≡ k = omega arith in q) ∙ q

    later : (j : ℕ) → chosen kind (a (suc n)) (suc j) * back (suc j * suc n) (plane_totals kind a b n (k - suc j)) (suc n) ≡ 0
    later j = ⊎_elim
        (λ l. ap (λ x. chosen kind (a (suc n)) (suc j) * x) (back_there (suc j * suc n) (plane_totals kind a b n (k - suc j)) (suc n) l ∙ ap (λ i. plane_totals kind a b n (k - suc j) i) (let q : suc n - suc j * suc n ≡ 0 = omega (arith, behind j n) in q) ∙ total-zero kind a b n (k - suc j)) ∙ mul-zero (chosen kind (a (suc n)) (suc j)))
        (λ l. ap (λ x. chosen kind (a (suc n)) (suc j) * x) (back-no (suc j * suc n) (plane_totals kind a b n (k - suc j)) (suc n) l) ∙ mul-zero (chosen kind (a (suc n)) (suc j)))
        (le_or (suc j * suc n) (suc n))

    none : (k : ℕ) → chosen_totals kind (a (suc n)) (b (suc n)) 0 * back (0 * suc n) (plane kind a n (k - 0)) (suc n) ≡ 0
    none k = ap (λ x. x * back (0 * suc n) (plane kind a n (k - 0)) (suc n)) (charged-none kind (a (suc n)) (b (suc n))) ∙ zero-mul (back (0 * suc n) (plane kind a n (k - 0)) (suc n))

    ones : (k : ℕ) → sum_below (λ j. chosen_totals kind (a (suc n)) (b (suc n)) j * back (j * suc n) (plane kind a n (k - j)) (suc n)) (suc k) ≡ alone (b (suc n)) k
    ones zero = (let q : chosen_totals kind (a (suc n)) (b (suc n)) 0 * back (0 * suc n) (plane kind a n (0 - 0)) (suc n) + 0 ≡ 0 = omega (arith, none 0) in q) ∙ sym (mul-zero (b (suc n))) ∙ alone_is (b (suc n)) 0
    ones (suc k) =
        let f : ℕ → ℕ = λ j. chosen_totals kind (a (suc n)) (b (suc n)) j * back (j * suc n) (plane kind a n (suc k - j)) (suc n) in
        let e1 : sum_below f (suc (suc k)) ≡ f 0 + sum_below (λ j. f (suc j)) (suc k) = sum_below-shift f (suc k) in
        let e2 : sum_below (λ j. f (suc j)) (suc k) ≡ f 1 + sum_below (λ j. f (suc (suc j))) k = sum_below-shift (λ j. f (suc j)) k in
        let z : sum_below (λ j. f (suc (suc j))) k ≡ 0 = sum_below-zero (λ j. f (suc (suc j))) k (λ j l.
        ap (λ m. chosen_totals kind (a (suc n)) (b (suc n)) (suc (suc j)) * m) (back-no (suc (suc j) * suc n) (plane kind a n (suc k - suc (suc j))) (suc n) (omega (arith, times_suc (suc j) (suc n), times_suc j (suc n)))) ∙ mul-zero (chosen_totals kind (a (suc n)) (b (suc n)) (suc (suc j)))) in
        let b1 : f 1 ≡ b (suc n) * unit k =
        ap (λ m. m * back (1 * suc n) (plane kind a n (suc k - 1)) (suc n)) (charged-one kind (a (suc n)) (b (suc n)) o)
        ∙ ap (λ m. b (suc n) * m) (back_there (1 * suc n) (plane kind a n (suc k - 1)) (suc n) (omega arith) ∙ ap (λ i. plane kind a n (suc k - 1) i) (let q : suc n - 1 * suc n ≡ 0 = omega arith in q) ∙ ap (λ i. plane kind a n i 0) (let q : suc k - 1 ≡ k = omega arith in q) ∙ plane_at_zero kind a n k) in
        let q : sum_below f (suc (suc k)) ≡ b (suc n) * unit k = omega (arith, e1, e2, z, b1, none (suc k)) in
        q ∙ alone_is (b (suc n)) (suc k)

pub top_totals : (kind : Kind) (a b : ℕ → ℕ) (n k : ℕ) → b 0 ≡ 0 → (a n ≡ 0 → b n ≡ 0) → plane_totals kind a b n k n ≡ plane_totals kind a b (n - 1) k n + alone (b n) k
top_totals kind a b zero k z o = sym ((let q : plane_totals kind a b (0 - 1) k 0 + alone (b 0) k ≡ alone (b 0) k = omega (arith, total-zero kind a b (0 - 1) k) in q) ∙ ap (λ x. alone x k) z ∙ alone_none k)
top_totals kind a b (suc n) k z o = total-top kind a b n k o ∙ ap (λ d. plane_totals kind a b d k (suc n) + alone (b (suc n)) k) (let q : n ≡ suc n - 1 = omega arith in q)

pub totals_of_kind : (kind : Kind) (a b : ℕ → ℕ) (low : ℕ) (high : Option ℕ) (n : ℕ) → IsOfParts kind → coll_total Unlabelled kind a b low high n ≡ sum_below (λ i. plane_totals kind a b n (low + i) n) (terms low high n)
unfolding coll_total
totals_of_kind Multiset a b low high n h = refl
totals_of_kind Powerset a b low high n h = refl
totals_of_kind Sequence a b low high n h = absurd h
totals_of_kind Set a b low high n h = absurd h
totals_of_kind Cycle a b low high n h = absurd h

-- the charges within the bounds
pub total_by_planes : (kind : Kind) (a b c d : ℕ → ℕ) (low : ℕ) (high : Option ℕ) (n here : ℕ) → IsOfParts kind → d 0 ≡ 0 → (c n ≡ 0 → d n ≡ 0) → here ≡ d n → ((i : ℕ) → i ≤ n - 1 → a i ≡ c i) → ((i : ℕ) → i ≤ n - 1 → b i ≡ d i)
    → sum_within low high kind a b here n ≡ coll_total Unlabelled kind c d low high n
total_by_planes kind a b c d low high n here p z o e h g =
    sum_below-same (λ i. plane_totals kind a b (n - 1) (low + i) n + alone here (low + i)) (λ i. plane_totals kind c d n (low + i) n) (last_of high n + 1 - low) (λ i l.
    ap (λ x. x + alone here (low + i)) (plane_totals-same kind a b c d (n - 1) (low + i) n h g) ∙ ap (λ x. plane_totals kind c d (n - 1) (low + i) n + alone x (low + i)) e ∙ sym (top_totals kind c d n (low + i) z o))
    ∙ ap (sum_below (λ i. plane_totals kind c d n (low + i) n)) (sym (terms_are low n high)) ∙ sym (totals_of_kind kind c d low high n p)

-- the sum of cells is that of their numbers
pub cells_sum : (kind : Kind) (a b : ℕ → ℕ) (low n here deep wide : ℕ) (high : Option ℕ) (cells : List ℕ) → last_of high n < deep → n < wide → HoldsPlane deep wide (plane_totals kind a b (n - 1)) cells
    → capped (sum_from low (last_of high n + 1) (top_total cells wide n here)) ≡ capped (sum_within low high kind a b here n)
cells_sum kind a b low n here deep wide high cells l m h =
    alike (λ i. top_total cells wide n here (low + i)) (λ i. plane_totals kind a b (n - 1) (low + i) n + alone here (low + i)) (last_of high n + 1 - low) (λ i b.
    let e = h (low + i) n (omega (arith, b, l)) m in omega (arith, e))

-- a plane with a size put in
pub totals_put : (kind : Kind) (a b : ℕ → ℕ) (ways charges counts old new : List ℕ) (deep deep' wide wide' d e : ℕ) → e ≡ suc d → wide' ≡ wide → deep' ≡ deep → IsPut (total_put ways charges counts wide' e) wide' 0 deep' old new
    → AreWays kind (a e) e wide ways → AreCharges kind (a e) (b e) e wide charges → HoldsPlane deep wide (plane kind a d) counts → HoldsPlane deep wide (plane_totals kind a b d) old → HoldsPlane deep wide (plane_totals kind a b e) new
totals_put kind a b ways charges counts old new deep deep' wide wide' d e ee ew ed p w c h g = λ k m hk hm.
    ap (λ x. slice_index new (k * x + m)) (sym ew) ∙ p.done k m (omega arith) (omega (arith, hk, ed)) (omega (arith, hm, ew))
    ∙ ap (λ x. capped (with_size charges counts x e k m + with_size ways old x e k m)) ew ∙ ap (λ x. capped (with_size charges counts wide x k m + with_size ways old wide x k m)) ee
    ∙ total_step kind a b ways charges counts old deep wide d k m hk hm (subst (λ x. AreWays kind (a x) x wide ways) ee w) (subst (λ x. AreCharges kind (a x) (b x) x wide charges) ee c) h g ∙ ap (λ x. capped (plane_totals kind a b x k m)) (sym ee)

pub totals_kept : (kind : Kind) (a b c d : ℕ → ℕ) (cells : List ℕ) (deep wide e f : ℕ) → e ≡ f → ((i : ℕ) → i ≤ e → a i ≡ c i) → ((i : ℕ) → i ≤ e → b i ≡ d i) → HoldsPlane deep wide (plane_totals kind a b e) cells → HoldsPlane deep wide (plane_totals kind c d f) cells
totals_kept kind a b c d cells deep wide e f q h g t = λ k m hk hm. t k m hk hm ∙ ap capped (plane_totals-same kind a b c d e k m h g) ∙ ap (λ x. capped (plane_totals kind c d x k m)) q

-- the first numbers, as they are kept
pub first_kept : (old below : List ℕ) (i : ℕ) → ((m : ℕ) → suc m < length below → slice_index below m ≡ slice_index old m) → slice_index old 0 ≡ 0 → slice_index below 0 ≡ 0 → i ≤ length below - 2 → slice_index old i ≡ slice_index below i
first_kept old below zero f z y l = z ∙ sym y
first_kept old below (suc i) f z y l = sym (f (suc i) (omega (arith, l)))

pub first_now : (new below : List ℕ) (here i : ℕ) → take (length below + 1) new ≡ below ++ here ∷ [] → slice_index new 0 ≡ 0 → slice_index below 0 ≡ 0 → i ≤ length below - 1 → slice_index below i ≡ slice_index new i
first_now new below here zero e z y l = y ∙ sym z
first_now new below here (suc i) e z y l = sym (number_kept new below here (suc i) e (omega (arith, l)) ∙ number_below below here (suc i) (omega (arith, l)))
