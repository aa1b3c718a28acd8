-- Steps of rows by size alone.
use Rattle.std.proofs.Common.{◌≡◌, ℕ, zero, suc, ◌+◌, ◌*◌, ◌-◌, ◌≤◌, ◌<◌, ⊎_elim, refl, sym, ◌∙◌, ap, arith}
use Rattle.std.proofs.Math.Nat.{mul-zero, zero-mul, mul-add}
use Rattle.luo_num.specs.Mark.{capped}
use Rattle.luo_num.proofs.Capped.{capped-mul}
use Rattle.luo_finite.specs.Range.{sum_below}
use Rattle.luo_finite.proofs.Ranges.{sum_below-same, sum_below-add, sum_below-zero, sum_below-shift}
use Rattle.luo_counting.specs.Numbers.{back}
use Rattle.luo_counting.proofs.Planes.{back-no, times_suc}
use Rattle.luo_unlabelled.specs.inner.Sizes.{stepped}
use Rattle.luo_unlabelled.proofs.StepLemmas.{alike}
use Rattle.luo_unlabelled.proofs.RowLemmas.{sum_below-tail}
use Rattle.luo_unlabelled.proofs.PlaneLemmas.{back_there, back_same}
use Rattle.luo_unlabelled.proofs.PartNumbers.{le_or}

-- a step looks at sizes up to its own alone
pub stepped-same : (v w f g : ℕ → ℕ) (s m : ℕ) → ((j : ℕ) → v j ≡ w j) → ((x : ℕ) → x ≤ m → f x ≡ g x) → stepped v f s m ≡ stepped w g s m
stepped-same v w f g s m e h = sum_below-same (λ j. v j * back (j * s) f m) (λ j. w j * back (j * s) g m) (suc m) (λ j l.
    ap (λ x. x * back (j * s) f m) (e j) ∙ ap (λ x. w j * x) (back_same (j * s) f g m (λ x b _. h x b)))

at_least : (j d : ℕ) → j ≤ j * suc d
at_least zero d = omega arith
at_least (suc j) d = omega (arith, times_suc j (suc d), at_least j d)

past : (w f : ℕ → ℕ) (j s m : ℕ) → m < j * s → w j * back (j * s) f m ≡ 0
past w f j s m h = ap (λ x. w j * x) (back-no (j * s) f m h) ∙ mul-zero (w j)

first : (w f : ℕ → ℕ) (s m : ℕ) → w 0 * back (0 * s) f m ≡ w 0 * f m
first w f s m = ap (λ x. w 0 * back x f m) (zero-mul s)

-- a size above the one at hand is taken in one way, not at all
pub stepped-beyond : (w f : ℕ → ℕ) (d m : ℕ) → m < suc d → stepped w f (suc d) m ≡ w 0 * f m
stepped-beyond w f d m h =
    let z : sum_below (λ j. w (suc j) * back (suc j * suc d) f m) m ≡ 0 = sum_below-zero (λ j. w (suc j) * back (suc j * suc d) f m) m (λ j l. past w f (suc j) (suc d) m (omega (arith, h, times_suc j (suc d)))) in
    omega (arith, sum_below-shift (λ j. w j * back (j * suc d) f m) m, z, first w f (suc d) m)

pub stepped-nothing : (w f : ℕ → ℕ) (s m : ℕ) → ((j : ℕ) → w j ≡ 0) → stepped w f s m ≡ 0
stepped-nothing w f s m h = sum_below-zero (λ j. w j * back (j * s) f m) (suc m) (λ j l. ap (λ x. x * back (j * s) f m) (h j) ∙ zero-mul (back (j * s) f m))

-- a size of which nothing can be taken changes nothing
pub stepped-none : (w f : ℕ → ℕ) (s m : ℕ) → w 0 ≡ 1 → ((j : ℕ) → w (suc j) ≡ 0) → stepped w f s m ≡ f m
stepped-none w f s m o h =
    let z : sum_below (λ j. w (suc j) * back (suc j * s) f m) m ≡ 0 = sum_below-zero (λ j. w (suc j) * back (suc j * s) f m) m (λ j l. ap (λ x. x * back (suc j * s) f m) (h j) ∙ zero-mul (back (suc j * s) f m)) in
    let b : w 0 * back (0 * s) f m ≡ f m = first w f s m ∙ ap (λ x. x * f m) o ∙ once (f m) in
    omega (arith, sum_below-shift (λ j. w j * back (j * s) f m) m, z, b)
  where
    once : (x : ℕ) → 1 * x ≡ x
    once x = omega arith

-- the size at hand is taken once, alone, or not at all
pub stepped-top : (w f : ℕ → ℕ) (n : ℕ) → stepped w f (suc n) (suc n) ≡ w 0 * f (suc n) + w 1 * f 0
stepped-top w f n =
    let t : ℕ → ℕ = λ j. w j * back (j * suc n) f (suc n) in
    let e1 : sum_below t (suc (suc n)) ≡ t 0 + sum_below (λ j. t (suc j)) (suc n) = sum_below-shift t (suc n) in
    let e2 : sum_below (λ j. t (suc j)) (suc n) ≡ t 1 + sum_below (λ j. t (suc (suc j))) n = sum_below-shift (λ j. t (suc j)) n in
    let z : sum_below (λ j. t (suc (suc j))) n ≡ 0 = sum_below-zero (λ j. t (suc (suc j))) n (λ j l. past w f (suc (suc j)) (suc n) (suc n) (omega (arith, times_suc (suc j) (suc n), times_suc j (suc n)))) in
    let b : t 1 ≡ w 1 * f 0 = ap (λ x. w 1 * x) (back_there (1 * suc n) f (suc n) (omega arith) ∙ ap f (let q : suc n - 1 * suc n ≡ 0 = omega arith in q)) in
    omega (arith, e1, e2, z, b, first w f (suc n) (suc n))

-- with marks
pub stepped-marked : (v w f g : ℕ → ℕ) (s m : ℕ) → ((j : ℕ) → j * s ≤ m → v j ≡ capped (w j)) → ((x : ℕ) → x ≤ m → f x ≡ capped (g x)) → capped (stepped v f s m) ≡ capped (stepped w g s m)
stepped-marked v w f g s m e h = alike (λ j. v j * back (j * s) f m) (λ j. w j * back (j * s) g m) (suc m) (λ j l. ⊎_elim
    (λ i.
    ap (λ x. capped (v j * x)) (back_there (j * s) f m i) ∙ times_capped (v j) (f (m - j * s)) (w j) (g (m - j * s)) (e j i) (h (m - j * s) (omega arith)) ∙ ap (λ x. capped (w j * x)) (sym (back_there (j * s) g m i)))
    (λ i. ap capped (past v f j s m i ∙ sym (past w g j s m i)))
    (le_or (j * s) m))
  where
    times_capped : (x y c r : ℕ) → x ≡ capped c → y ≡ capped r → capped (x * y) ≡ capped (c * r)
    times_capped x y c r e f = ap (λ i. capped (i * y)) e ∙ ap (λ i. capped (capped c * i)) f ∙ capped-mul c r

back-add : (s : ℕ) (f g : ℕ → ℕ) (m : ℕ) → back s (λ x. f x + g x) m ≡ back s f m + back s g m
back-add zero f g m = refl
back-add (suc s) f g zero = refl
back-add (suc s) f g (suc m) = back-add s f g m

-- the sum over the numbers of components up to K, of j of a size and the rest: first over j
abbrev turned : (ℕ → ℕ) → (ℕ → ℕ → ℕ) → ℕ → ℕ → ℕ → ℕ
turned w F s K m = sum_below (λ j. w j * back (j * s) (λ x. sum_below (λ i. F i x) (suc (K - j))) m) (suc K)

turn : (w : ℕ → ℕ) (F : ℕ → ℕ → ℕ) (s m K : ℕ) → sum_below (λ k. sum_below (λ j. w j * back (j * s) (F (k - j)) m) (suc k)) (suc K) ≡ turned w F s K m
turn w F s m zero =
    let e : back (0 * s) (F (0 - 0)) m ≡ back (0 * s) (λ x. sum_below (λ i. F i x) (suc (0 - 0))) m = back_same (0 * s) (F (0 - 0)) (λ x. sum_below (λ i. F i x) (suc (0 - 0))) m (λ x _ _. one x) in
    ap (λ x. w 0 * x + 0 + 0) e ∙ (let q : (y : ℕ) → y + 0 + 0 ≡ y + 0 = λ y. omega arith in q (w 0 * back (0 * s) (λ x. sum_below (λ i. F i x) (suc (0 - 0))) m))
  where
    one : (x : ℕ) → F (0 - 0) x ≡ sum_below (λ i. F i x) (suc (0 - 0))
    one x = ap (λ k. F k x) (let q : 0 - 0 ≡ 0 = omega arith in q) ∙ (let q : (y : ℕ) → y ≡ y + 0 = λ y. omega arith in q (F 0 x)) ∙ ap (λ k. sum_below (λ i. F i x) (suc k)) (let q : 0 ≡ 0 - 0 = omega arith in q)
turn w F s m (suc K) =
    let u : ℕ → ℕ = λ j. w j * back (j * s) (F (suc K - j)) m in
    let v : ℕ → ℕ = λ j. w j * back (j * s) (λ x. sum_below (λ i. F i x) (suc (K - j))) m in
    let t : ℕ → ℕ = λ j. w j * back (j * s) (λ x. sum_below (λ i. F i x) (suc (suc K - j))) m in
    let last : u (suc K) ≡ t (suc K) = ap (λ x. w (suc K) * x) (back_same (suc K * s) (F (suc K - suc K)) (λ x. sum_below (λ i. F i x) (suc (suc K - suc K))) m (λ x _ _. one x)) in
    let each : sum_below t (suc K) ≡ sum_below (λ j. u j + v j) (suc K) = sum_below-same t (λ j. u j + v j) (suc K) (λ j l. parted j l) in
    let both : sum_below (λ j. u j + v j) (suc K) ≡ sum_below u (suc K) + sum_below v (suc K) = sum_below-add u v (suc K) in
    let before : sum_below (λ k. sum_below (λ j. w j * back (j * s) (F (k - j)) m) (suc k)) (suc K) ≡ sum_below v (suc K) = turn w F s m K in
    omega (arith, last, each, both, before)
  where
    one : (x : ℕ) → F (suc K - suc K) x ≡ sum_below (λ i. F i x) (suc (suc K - suc K))
    one x = ap (λ k. F k x) (let q : suc K - suc K ≡ 0 = omega arith in q) ∙ (let q : (y : ℕ) → y ≡ y + 0 = λ y. omega arith in q (F 0 x)) ∙ ap (λ k. sum_below (λ i. F i x) (suc k)) (let q : 0 ≡ suc K - suc K = omega arith in q)

    more : (j x : ℕ) → j < suc K → sum_below (λ i. F i x) (suc (suc K - j)) ≡ F (suc K - j) x + sum_below (λ i. F i x) (suc (K - j))
    more j x l = ap (λ k. F (suc K - j) x + sum_below (λ i. F i x) k) (let q : suc K - j ≡ suc (K - j) = omega (arith, l) in q)

    split : (c x y : ℕ) → c * (x + y) ≡ c * x + c * y
    split c x y = mul-add c x y

    parted : (j : ℕ) → j < suc K → w j * back (j * s) (λ x. sum_below (λ i. F i x) (suc (suc K - j))) m ≡ w j * back (j * s) (F (suc K - j)) m + w j * back (j * s) (λ x. sum_below (λ i. F i x) (suc (K - j))) m
    parted j l =
        ap (λ x. w j * x) (back_same (j * s) (λ x. sum_below (λ i. F i x) (suc (suc K - j))) (λ x. F (suc K - j) x + sum_below (λ i. F i x) (suc (K - j))) m (λ x _ _. more j x l) ∙ back-add (j * s) (F (suc K - j)) (λ x. sum_below (λ i. F i x) (suc (K - j))) m)
        ∙ split (w j) (back (j * s) (F (suc K - j)) m) (back (j * s) (λ x. sum_below (λ i. F i x) (suc (K - j))) m)

-- A STEP OF PLANES, summed over all numbers of components, is a step of rows
pub stepped-planes : (w : ℕ → ℕ) (F : ℕ → ℕ → ℕ) (G : ℕ → ℕ) (d m K : ℕ) → m ≤ K → ((x k : ℕ) → x ≤ k → sum_below (λ i. F i x) (suc k) ≡ G x) → sum_below (λ k. sum_below (λ j. w j * back (j * suc d) (F (k - j)) m) (suc k)) (suc K) ≡ stepped w G (suc d) m
stepped-planes w F G d m K l h =
    turn w F (suc d) m K
    ∙ sum_below-same (λ j. w j * back (j * suc d) (λ x. sum_below (λ i. F i x) (suc (K - j))) m) (λ j. w j * back (j * suc d) G m) (suc K) (λ j b.
    ap (λ x. w j * x) (back_same (j * suc d) (λ x. sum_below (λ i. F i x) (suc (K - j))) G m (λ x _ e. h x (K - j) (omega (arith, e, l, at_least j d)))))
    ∙ sym (sum_below-tail (λ j. w j * back (j * suc d) G m) (suc m) (suc K) (omega (arith, l)) (λ j a b. past w G j (suc d) m (omega (arith, a, at_least j d))))
