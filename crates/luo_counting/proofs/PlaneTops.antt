-- The answer for a size from the plane of the smaller ones.
use Rattle.std.proofs.Common.{◌≡◌, ℕ, zero, suc, ◌+◌, ◌*◌, ◌-◌, refl, ◌∙◌, ap, arith}
use Rattle.std.proofs.Math.Nat.{mul-zero, zero-mul}
use Rattle.luo_finite.specs.Range.{sum_below, unit}
use Rattle.luo_finite.proofs.Ranges.{sum_below-shift, sum_below-zero}
use Rattle.luo_finite.specs.Binomial.{choose}
use Rattle.luo_model.specs.declared.program.Kind.{Kind}
use Rattle.luo_model.specs.declared.program.Kind.TheVariants.{Sequence, Set, Cycle, Multiset, Powerset}
use Rattle.luo_counting.specs.Numbers.{repeats, chosen, back, plane}
use Rattle.luo_counting.proofs.Planes.{back-yes, back-no, times_suc, back-start}

pub plane-zero : (kind : Kind) (a : ℕ → ℕ) (d k : ℕ) → plane kind a d (suc k) 0 ≡ 0
plane-zero kind a zero k = refl
plane-zero kind a (suc d) k = sum_below-zero (λ j. chosen kind (a (suc d)) j * back (j * suc d) (plane kind a d (suc k - j)) 0) (suc (suc k)) (λ j h.
    ap (λ m. chosen kind (a (suc d)) j * m) (back-start j d (plane kind a d (suc k - j)) (λ e. ap (λ i. plane kind a d i 0) (let q : suc k - j ≡ suc k = omega (arith, e) in q) ∙ plane-zero kind a d k)) ∙ mul-zero (chosen kind (a (suc d)) j))

repeats-none : (a : ℕ) → repeats a 0 ≡ 1
repeats-none zero = refl
repeats-none (suc a) = refl

repeats-one : (a : ℕ) → repeats a 1 ≡ a
repeats-one zero = refl
repeats-one (suc a) = omega (arith, repeats-one a)

choose-one : (a : ℕ) → choose a 1 ≡ a
choose-one zero = refl
choose-one (suc a) = omega (arith, choose-one a)

chosen-none : (kind : Kind) (a : ℕ) → chosen kind a 0 ≡ 1
chosen-none Powerset a = refl
chosen-none Sequence a = repeats-none a
chosen-none Set a = repeats-none a
chosen-none Cycle a = repeats-none a
chosen-none Multiset a = repeats-none a

chosen-one : (kind : Kind) (a : ℕ) → chosen kind a 1 ≡ a
chosen-one Powerset a = choose-one a
chosen-one Sequence a = repeats-one a
chosen-one Set a = repeats-one a
chosen-one Cycle a = repeats-one a
chosen-one Multiset a = repeats-one a

-- no component of size 0 in the empty plane and those above
plane-nothing : (kind : Kind) (a : ℕ → ℕ) (d : ℕ) → plane kind a d 0 0 ≡ 1
plane-nothing kind a zero = refl
plane-nothing kind a (suc d) = omega (arith, ap (λ m. m * back (0 * suc d) (plane kind a d 0) 0) (chosen-none kind (a (suc d))), ap (λ s. back s (plane kind a d 0) 0) (zero-mul (suc d)), plane-nothing kind a d)

-- 1 for one component, and 0 for any other number
abbrev pub is_one : ℕ → ℕ
is_one zero = 0
is_one (suc k) = unit k

behind_one : (kind : Kind) (a : ℕ → ℕ) (d k : ℕ) → plane kind a d k 0 ≡ unit k
behind_one kind a d zero = plane-nothing kind a d
behind_one kind a d (suc k) = plane-zero kind a d k

-- THE ANSWER at a size: the plane of the smaller sizes, and one component of this size
pub plane-top : (kind : Kind) (a : ℕ → ℕ) (n k : ℕ) → plane kind a (suc n) k (suc n) ≡ plane kind a n k (suc n) + a (suc n) * is_one k
plane-top kind a n zero =
    omega (arith, ap (λ m. m * back (0 * suc n) (plane kind a n 0) (suc n)) (chosen-none kind (a (suc n))), ap (λ s. back s (plane kind a n 0) (suc n)) (zero-mul (suc n)), mul-zero (a (suc n)))
plane-top kind a n (suc k) =
    let f : ℕ → ℕ = λ j. chosen kind (a (suc n)) j * back (j * suc n) (plane kind a n (suc k - j)) (suc n) in
    let e1 : sum_below f (suc (suc k)) ≡ f 0 + sum_below (λ j. f (suc j)) (suc k) = sum_below-shift f (suc k) in
    let e2 : sum_below (λ j. f (suc j)) (suc k) ≡ f 1 + sum_below (λ j. f (suc (suc j))) k = sum_below-shift (λ j. f (suc j)) k in
    let z : sum_below (λ j. f (suc (suc j))) k ≡ 0 = sum_below-zero (λ j. f (suc (suc j))) k (λ j h.
    ap (λ m. chosen kind (a (suc n)) (suc (suc j)) * m) (back-no (suc (suc j) * suc n) (plane kind a n (suc k - suc (suc j))) (suc n) (omega (arith, times_suc (suc j) (suc n), times_suc j (suc n)))) ∙ mul-zero (chosen kind (a (suc n)) (suc (suc j)))) in
    let b0 : f 0 ≡ 1 * plane kind a n (suc k) (suc n) =
    ap (λ m. m * back (0 * suc n) (plane kind a n (suc k - 0)) (suc n)) (chosen-none kind (a (suc n))) ∙ ap (λ s. 1 * back s (plane kind a n (suc k - 0)) (suc n)) (zero-mul (suc n))
    ∙ ap (λ i. 1 * plane kind a n i (suc n)) (let q : suc k - 0 ≡ suc k = omega arith in q) in
    let b1 : f 1 ≡ a (suc n) * unit k =
    ap (λ m. m * back (1 * suc n) (plane kind a n (suc k - 1)) (suc n)) (chosen-one kind (a (suc n)))
    ∙ ap (λ m. a (suc n) * m) (back-yes (1 * suc n) (plane kind a n (suc k - 1)) 0 (suc n) (omega arith) ∙ ap (λ i. plane kind a n i 0) (let q : suc k - 1 ≡ k = omega arith in q) ∙ behind_one kind a n k) in
    omega (arith, e1, e2, z, b0, b1)
