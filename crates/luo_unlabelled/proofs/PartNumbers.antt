-- Numbers of multisets and powersets by planes.
use Rattle.std.proofs.Common.{◌≡◌, ℕ, zero, suc, ◌+◌, ◌*◌, ◌-◌, ◌≤◌, ◌<◌, ◌⊎◌, ⊎_elim, List, Option, Some, None, slice_index, refl, sym, ◌∙◌, ap, arith}
use Rattle.std.proofs.lemmas.Bool.Decides.{nat_tests}
use Rattle.std.proofs.Math.Nat.{mul-zero, zero-mul}
use Rattle.luo_num.specs.Mark.{capped}
use Rattle.luo_num.proofs.Capped.{capped-mul}
use Rattle.luo_finite.specs.Range.{sum_below}
use Rattle.luo_finite.proofs.Ranges.{sum_below-same, sum_below-add, sum_below-zero, sum_below-shift}
use Rattle.luo_model.specs.declared.program.Universe.TheVariants.{Unlabelled}
use Rattle.luo_model.specs.declared.program.Kind.{Kind}
use Rattle.luo_model.specs.declared.program.Kind.TheVariants.{Sequence, Set, Cycle, Multiset, Powerset}
use Rattle.luo_counting.specs.Numbers.{repeats, chosen, chosen_totals, back, plane, plane_totals, coll_count, terms}
use Rattle.luo_counting.proofs.Planes.{back-no, times_suc}
use Rattle.luo_counting.proofs.PlaneTops.{plane-top, is_one}
use Rattle.luo_unlabelled.specs.Calls.{IsOfParts, up_to}
use Rattle.luo_unlabelled.specs.inner.Planes.{with_size, AreWays, AreCharges, HoldsPlane, IsSlim, alone, sum_from, last_of}
use Rattle.luo_unlabelled.proofs.StepLemmas.{alike}
use Rattle.luo_unlabelled.proofs.PlaneLemmas.{back_there, back_same}

-- planes look at sizes up to their own alone
pub plane-same : (kind : Kind) (a c : ℕ → ℕ) (d k n : ℕ) → ((i : ℕ) → i ≤ d → a i ≡ c i) → plane kind a d k n ≡ plane kind c d k n
plane-same kind a c zero zero n h = refl
plane-same kind a c zero (suc k) n h = refl
plane-same kind a c (suc d) k n h =
    sum_below-same (λ j. chosen kind (a (suc d)) j * back (j * suc d) (plane kind a d (k - j)) n) (λ j. chosen kind (c (suc d)) j * back (j * suc d) (plane kind c d (k - j)) n) (suc k) (λ j l.
    ap (λ x. chosen kind x j * back (j * suc d) (plane kind a d (k - j)) n) (h (suc d) (omega arith))
    ∙ ap (λ x. chosen kind (c (suc d)) j * x) (back_same (j * suc d) (plane kind a d (k - j)) (plane kind c d (k - j)) n (λ x i e. plane-same kind a c d (k - j) x (λ m b. h m (omega (arith, b))))))

pub plane_totals-same : (kind : Kind) (a b c d : ℕ → ℕ) (e k n : ℕ) → ((i : ℕ) → i ≤ e → a i ≡ c i) → ((i : ℕ) → i ≤ e → b i ≡ d i) → plane_totals kind a b e k n ≡ plane_totals kind c d e k n
plane_totals-same kind a b c d zero k n h g = refl
plane_totals-same kind a b c d (suc e) k n h g =
    sum_below-same (λ j. chosen_totals kind (a (suc e)) (b (suc e)) j * back (j * suc e) (plane kind a e (k - j)) n + chosen kind (a (suc e)) j * back (j * suc e) (plane_totals kind a b e (k - j)) n)
    (λ j. chosen_totals kind (c (suc e)) (d (suc e)) j * back (j * suc e) (plane kind c e (k - j)) n + chosen kind (c (suc e)) j * back (j * suc e) (plane_totals kind c d e (k - j)) n) (suc k) (λ j l.
    ap (λ x. chosen_totals kind x (b (suc e)) j * back (j * suc e) (plane kind a e (k - j)) n + chosen kind x j * back (j * suc e) (plane_totals kind a b e (k - j)) n) (h (suc e) (omega arith))
    ∙ ap (λ x. chosen_totals kind (c (suc e)) x j * back (j * suc e) (plane kind a e (k - j)) n + chosen kind (c (suc e)) j * back (j * suc e) (plane_totals kind a b e (k - j)) n) (g (suc e) (omega arith))
    ∙ ap (λ x. chosen_totals kind (c (suc e)) (d (suc e)) j * x + chosen kind (c (suc e)) j * back (j * suc e) (plane_totals kind a b e (k - j)) n) (back_same (j * suc e) (plane kind a e (k - j)) (plane kind c e (k - j)) n (λ x i q. plane-same kind a c e (k - j) x (λ m b. h m (omega (arith, b)))))
    ∙ ap (λ x. chosen_totals kind (c (suc e)) (d (suc e)) j * back (j * suc e) (plane kind c e (k - j)) n + chosen kind (c (suc e)) j * x) (back_same (j * suc e) (plane_totals kind a b e (k - j)) (plane_totals kind c d e (k - j)) n (λ x i q. plane_totals-same kind a b c d e (k - j) x (λ m b. h m (omega (arith, b))) (λ m b. g m (omega (arith, b))))))

pub le_or : (m n : ℕ) → (m ≤ n) ⊎ (n < m)
le_or m n = grind arith

times_capped : (x y c r : ℕ) → x ≡ capped c → y ≡ capped r → capped (x * y) ≡ capped (c * r)
times_capped x y c r e f = ap (λ i. capped (i * y)) e ∙ ap (λ i. capped (capped c * i)) f ∙ capped-mul c r

-- a size put in, with marks
pub with_size-is : (w g : ℕ → ℕ) (f : ℕ → ℕ → ℕ) (ways cells : List ℕ) (deep wide e k m : ℕ) → k < deep → m < wide → ((j : ℕ) → j * e < wide → slice_index ways j ≡ capped (w j)) → HoldsPlane deep wide f cells
    → capped (with_size ways cells wide e k m) ≡ capped (sum_below (λ j. w j * back (j * e) (f (k - j)) m) (suc k))
with_size-is w g f ways cells deep wide e k m hk hm a h =
    alike (λ j. slice_index ways j * back (j * e) (λ x. slice_index cells ((k - j) * wide + x)) m) (λ j. w j * back (j * e) (f (k - j)) m) (suc k) (λ j l. ⊎_elim
    (λ i.
    let u = back_there (j * e) (λ x. slice_index cells ((k - j) * wide + x)) m i in
    let v = back_there (j * e) (f (k - j)) m i in
    ap (λ t. capped (slice_index ways j * t)) u ∙ times_capped (slice_index ways j) (slice_index cells ((k - j) * wide + (m - j * e))) (w j) (f (k - j) (m - j * e)) (a j (omega (arith, i, hm))) (h (k - j) (m - j * e) (omega (arith, hk)) (omega (arith, hm)))
    ∙ ap (λ t. capped (w j * t)) (sym v))
    (λ i.
    ap (λ t. capped (slice_index ways j * t)) (back-no (j * e) (λ x. slice_index cells ((k - j) * wide + x)) m i) ∙ ap capped (mul-zero (slice_index ways j) ∙ sym (mul-zero (w j)))
    ∙ ap (λ t. capped (w j * t)) (sym (back-no (j * e) (f (k - j)) m i)))
    (le_or (j * e) m))

pub count_step : (kind : Kind) (a : ℕ → ℕ) (ways cells : List ℕ) (deep wide d k m : ℕ) → k < deep → m < wide → AreWays kind (a (suc d)) (suc d) wide ways → HoldsPlane deep wide (plane kind a d) cells → capped (with_size ways cells wide (suc d) k m) ≡ capped (plane kind a (suc d) k m)
count_step kind a ways cells deep wide d k m hk hm w h = with_size-is (chosen kind (a (suc d))) (λ x. x) (plane kind a d) ways cells deep wide (suc d) k m hk hm w h

pub total_step : (kind : Kind) (a b : ℕ → ℕ) (ways charges counts cells : List ℕ) (deep wide d k m : ℕ) → k < deep → m < wide → AreWays kind (a (suc d)) (suc d) wide ways → AreCharges kind (a (suc d)) (b (suc d)) (suc d) wide charges
    → HoldsPlane deep wide (plane kind a d) counts → HoldsPlane deep wide (plane_totals kind a b d) cells
    → capped (with_size charges counts wide (suc d) k m + with_size ways cells wide (suc d) k m) ≡ capped (plane_totals kind a b (suc d) k m)
total_step kind a b ways charges counts cells deep wide d k m hk hm w c h g =
    let f : ℕ → ℕ = λ j. chosen_totals kind (a (suc d)) (b (suc d)) j * back (j * suc d) (plane kind a d (k - j)) m in
    let r : ℕ → ℕ = λ j. chosen kind (a (suc d)) j * back (j * suc d) (plane_totals kind a b d (k - j)) m in
    let e : capped (with_size charges counts wide (suc d) k m) ≡ capped (sum_below f (suc k)) = with_size-is (chosen_totals kind (a (suc d)) (b (suc d))) (λ x. x) (plane kind a d) charges counts deep wide (suc d) k m hk hm c h in
    let q : capped (with_size ways cells wide (suc d) k m) ≡ capped (sum_below r (suc k)) = with_size-is (chosen kind (a (suc d))) (λ x. x) (plane_totals kind a b d) ways cells deep wide (suc d) k m hk hm w g in
    let s : sum_below (λ j. f j + r j) (suc k) ≡ sum_below f (suc k) + sum_below r (suc k) = sum_below-add f r (suc k) in
    let t : capped (with_size charges counts wide (suc d) k m + with_size ways cells wide (suc d) k m) ≡ capped (sum_below f (suc k) + sum_below r (suc k)) = omega (arith, e, q) in
    t ∙ ap capped (sym s)

-- nothing is chosen in one way
repeats-none : (a : ℕ) → repeats a 0 ≡ 1
repeats-none zero = refl
repeats-none (suc a) = refl

pub chosen-none : (kind : Kind) (a : ℕ) → chosen kind a 0 ≡ 1
chosen-none Powerset a = refl
chosen-none Sequence a = repeats-none a
chosen-none Set a = repeats-none a
chosen-none Cycle a = repeats-none a
chosen-none Multiset a = repeats-none a

-- of no things some are chosen in no way
chosen-of_none : (kind : Kind) (j : ℕ) → chosen kind 0 (suc j) ≡ 0
chosen-of_none Powerset j = refl
chosen-of_none Sequence j = refl
chosen-of_none Set j = refl
chosen-of_none Cycle j = refl
chosen-of_none Multiset j = refl

-- a size that adds nothing
plane_kept : (kind : Kind) (a : ℕ → ℕ) (d k n : ℕ) → ((j : ℕ) → chosen kind (a (suc d)) (suc j) * back (suc j * suc d) (plane kind a d (k - suc j)) n ≡ 0) → plane kind a (suc d) k n ≡ plane kind a d k n
plane_kept kind a d k n h =
    let f : ℕ → ℕ = λ j. chosen kind (a (suc d)) j * back (j * suc d) (plane kind a d (k - j)) n in
    let z : sum_below (λ j. f (suc j)) k ≡ 0 = sum_below-zero (λ j. f (suc j)) k (λ j l. h j) in
    let b : f 0 ≡ 1 * plane kind a d k n = ap (λ m. m * back (0 * suc d) (plane kind a d (k - 0)) n) (chosen-none kind (a (suc d))) ∙ ap (λ s. 1 * back s (plane kind a d (k - 0)) n) (zero-mul (suc d))
    ∙ ap (λ i. 1 * plane kind a d i n) (let q : k - 0 ≡ k = omega arith in q) in
    omega (arith, sum_below-shift f k, z, b)

pub plane-idle : (kind : Kind) (a : ℕ → ℕ) (d k n : ℕ) → a (suc d) ≡ 0 → plane kind a (suc d) k n ≡ plane kind a d k n
plane-idle kind a d k n e = plane_kept kind a d k n (λ j. ap (λ x. chosen kind x (suc j) * back (suc j * suc d) (plane kind a d (k - suc j)) n) e ∙ ap (λ x. x * back (suc j * suc d) (plane kind a d (k - suc j)) n) (chosen-of_none kind j) ∙ zero-mul (back (suc j * suc d) (plane kind a d (k - suc j)) n))

pub plane-beyond : (kind : Kind) (a : ℕ → ℕ) (d k n : ℕ) → n < suc d → plane kind a (suc d) k n ≡ plane kind a d k n
plane-beyond kind a d k n h = plane_kept kind a d k n (λ j. ap (λ x. chosen kind (a (suc d)) (suc j) * x) (back-no (suc j * suc d) (plane kind a d (k - suc j)) n (omega (arith, h, times_suc j (suc d)))) ∙ mul-zero (chosen kind (a (suc d)) (suc j)))

cut_yes : (d : ℕ) (a : ℕ → ℕ) (i : ℕ) → i ≤ d → up_to d a i ≡ a i
cut_yes d a i h = grind (arith, nat_tests)

cut_no : (d : ℕ) (a : ℕ → ℕ) (i : ℕ) → d < i → up_to d a i ≡ 0
cut_no d a i h = grind (arith, nat_tests)

or_more : (d e : ℕ) → d ≤ suc e → (d ≡ suc e) ⊎ (d ≤ e)
or_more d e h = grind arith

-- with the numbers of sizes up to d alone, the sizes above add nothing
plane_cut : (kind : Kind) (a : ℕ → ℕ) (d e k n : ℕ) → d ≤ e → plane kind (up_to d a) e k n ≡ plane kind a d k n
plane_cut kind a d zero k n h = plane-same kind (up_to d a) a 0 k n (λ i l. cut_yes d a i (omega (arith, l))) ∙ ap (λ x. plane kind a x k n) (let q : 0 ≡ d = omega (arith, h) in q)
plane_cut kind a d (suc e) k n h = ⊎_elim
    (λ q. plane-same kind (up_to d a) a (suc e) k n (λ i l. cut_yes d a i (omega (arith, l, q))) ∙ ap (λ x. plane kind a x k n) (sym q))
    (λ l. plane-idle kind (up_to d a) e k n (cut_no d a (suc e) (omega (arith, l))) ∙ plane_cut kind a d e k n l)
    (or_more d e h)

plane_far : (kind : Kind) (a : ℕ → ℕ) (d k n : ℕ) → n ≤ d → plane kind a d k n ≡ plane kind a n k n
plane_far kind a zero k n h = ap (λ x. plane kind a x k n) (let q : 0 ≡ n = omega (arith, h) in q)
plane_far kind a (suc d) k n h = ⊎_elim
    (λ q. ap (λ x. plane kind a x k n) (sym q))
    (λ l. plane-beyond kind a d k n (omega (arith, l)) ∙ plane_far kind a d k n l)
    (or_more n d h)

pub plane_up_to : (kind : Kind) (a : ℕ → ℕ) (d k n : ℕ) → plane kind (up_to d a) n k n ≡ plane kind a d k n
plane_up_to kind a d k n = ⊎_elim
    (λ l. plane_cut kind a d n k n l)
    (λ l. sym (plane_far kind (up_to d a) d k n (omega (arith, l))) ∙ plane_cut kind a d d k n (omega arith))
    (le_or d n)

-- j components of a size, and behind them what is 0 where there are more components than the size
pub back_past : (f : ℕ → ℕ) (j d k n : ℕ) → n < k → ((x : ℕ) → x < k - j → f x ≡ 0) → back (j * suc d) f n ≡ 0
back_past f j d k n h z = ⊎_elim
    (λ i. back_there (j * suc d) f n i ∙ z (n - j * suc d) (fewer j d k n h i))
    (λ i. back-no (j * suc d) f n i)
    (le_or (j * suc d) n)
  where
    at_least : (j d : ℕ) → j ≤ j * suc d
    at_least zero d = omega arith
    at_least (suc j) d = omega (arith, times_suc j (suc d), at_least j d)

    fewer : (j d k n : ℕ) → n < k → j * suc d ≤ n → n - j * suc d < k - j
    fewer j d k n h i = omega (arith, h, i, at_least j d)

-- there are no more components than the size
pub plane-past : (kind : Kind) (a : ℕ → ℕ) (d k n : ℕ) → n < k → plane kind a d k n ≡ 0
plane-past kind a zero zero n h = absurd (omega arith)
plane-past kind a zero (suc k) n h = refl
plane-past kind a (suc d) k n h = sum_below-zero (λ j. chosen kind (a (suc d)) j * back (j * suc d) (plane kind a d (k - j)) n) (suc k)
    (λ j l. ap (λ x. chosen kind (a (suc d)) j * x) (back_past (plane kind a d (k - j)) j d k n h (λ x q. plane-past kind a d (k - j) x q)) ∙ mul-zero (chosen kind (a (suc d)) j))

-- so the plane has nothing there
pub slim_plane : (kind : Kind) (a : ℕ → ℕ) (cells : List ℕ) (deep wide rows cols d : ℕ) → rows ≤ deep → cols ≡ wide → HoldsPlane deep wide (plane kind a d) cells → IsSlim cols rows cells
slim_plane kind a cells deep wide rows cols d l e h = λ k m hk hm q.
    ap (λ x. slice_index cells (k * x + m)) e ∙ h k m (omega (arith, hk, l)) (omega (arith, hm, e)) ∙ ap capped (plane-past kind a d k m q) ∙ (let z : capped 0 ≡ 0 = omega arith in z)

pub of_kind : (kind : Kind) (a : ℕ → ℕ) (low : ℕ) (high : Option ℕ) (n : ℕ) → IsOfParts kind → coll_count Unlabelled kind a low high n ≡ sum_below (λ i. plane kind a n (low + i) n) (terms low high n)
unfolding coll_count
of_kind Multiset a low high n h = refl
of_kind Powerset a low high n h = refl
of_kind Sequence a low high n h = absurd h
of_kind Set a low high n h = absurd h
of_kind Cycle a low high n h = absurd h

pub terms_are : (low n : ℕ) (high : Option ℕ) → terms low high n ≡ last_of high n + 1 - low
terms_are low n (Some h) = omega arith
terms_are low n None = omega arith

-- the collections of exactly k components
pub count_ahead : (kind : Kind) (a : ℕ → ℕ) (d k n : ℕ) → IsOfParts kind → coll_count Unlabelled kind (up_to d a) k (Some k) n ≡ plane kind a d k n
count_ahead kind a d k n p = of_kind kind (up_to d a) k (Some k) n p ∙ ⊎_elim
    (λ l. ap (sum_below (λ i. plane kind (up_to d a) n (k + i) n)) (let q : terms k (Some k) n ≡ 1 = omega (arith, l) in q) ∙ (let e : plane kind (up_to d a) n (k + 0) n + 0 ≡ plane kind (up_to d a) n (k + 0) n = omega arith in e) ∙ ap (λ x. plane kind (up_to d a) n x n) (let q : k + 0 ≡ k = omega arith in q) ∙ plane_up_to kind a d k n)
    (λ l. ap (sum_below (λ i. plane kind (up_to d a) n (k + i) n)) (let q : terms k (Some k) n ≡ 0 = omega (arith, l) in q) ∙ sym (plane-past kind a d k n l))
    (le_or k n)

alone_no : (h k : ℕ) → (k ≡ 1 → ⊥) → alone h k ≡ 0
alone_no h k o = grind (arith, nat_tests)

alone_yes : (h : ℕ) → alone h 1 ≡ h
alone_yes h = grind (arith, nat_tests)

pub alone_is : (h k : ℕ) → h * is_one k ≡ alone h k
alone_is h zero = mul-zero h ∙ sym (alone_no h 0 (λ e. omega (arith, e)))
alone_is h (suc zero) = (let q : h * 1 ≡ h = omega arith in q) ∙ sym (alone_yes h)
alone_is h (suc (suc k)) = mul-zero h ∙ sym (alone_no h (suc (suc k)) (λ e. omega (arith, e)))

pub alone_none : (k : ℕ) → alone 0 k ≡ 0
alone_none k = grind (arith, nat_tests)

-- of a size n: the plane of the smaller sizes, and one component of this size
pub top : (kind : Kind) (a : ℕ → ℕ) (n k : ℕ) → a 0 ≡ 0 → plane kind a n k n ≡ plane kind a (n - 1) k n + alone (a n) k
top kind a zero k z = (let q : plane kind a 0 k 0 ≡ plane kind a 0 k 0 + 0 = omega arith in q) ∙ ap (λ x. plane kind a 0 k 0 + x) (sym (ap (λ x. alone x k) z ∙ alone_none k)) ∙ ap (λ d. plane kind a d k 0 + alone (a 0) k) (let q : 0 ≡ 0 - 1 = omega arith in q)
top kind a (suc n) k z = plane-top kind a n k ∙ ap (λ x. plane kind a n k (suc n) + x) (alone_is (a (suc n)) k) ∙ ap (λ d. plane kind a d k (suc n) + alone (a (suc n)) k) (let q : n ≡ suc n - 1 = omega arith in q)

-- the number within the bounds
pub number_by_planes : (kind : Kind) (a f : ℕ → ℕ) (low : ℕ) (high : Option ℕ) (n : ℕ) → IsOfParts kind → ((k : ℕ) → k ≤ last_of high n → capped (f k) ≡ capped (plane kind a n k n)) → capped (sum_from low (last_of high n + 1) f) ≡ capped (coll_count Unlabelled kind a low high n)
number_by_planes kind a f low high n p h =
    alike (λ i. f (low + i)) (λ i. plane kind a n (low + i) n) (last_of high n + 1 - low) (λ i l. h (low + i) (omega (arith, l)))
    ∙ ap (λ t. capped (sum_below (λ i. plane kind a n (low + i) n) t)) (sym (terms_are low n high)) ∙ ap capped (sym (of_kind kind a low high n p))

pub none_within : (kind : Kind) (a : ℕ → ℕ) (low : ℕ) (high : Option ℕ) (n : ℕ) → IsOfParts kind → last_of high n < low → 0 ≡ capped (coll_count Unlabelled kind a low high n)
none_within kind a low high n p l =
    (let q : 0 ≡ capped 0 = omega arith in q)
    ∙ ap (λ t. capped (sum_below (λ i. plane kind a n (low + i) n) t)) (let q : 0 ≡ terms low high n = omega (arith, terms_are low n high, l) in q) ∙ ap capped (sym (of_kind kind a low high n p))
