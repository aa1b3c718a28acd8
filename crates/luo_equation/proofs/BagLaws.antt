-- The equations of multisets and powersets: rules 3, 4 and 6.
use Rattle.std.proofs.Common.{◌≡◌, ℕ, zero, suc, ◌+◌, ◌*◌, ◌-◌, ◌≤◌, refl, sym, ◌∙◌, ap, arith, ℤ, pos, ◌+ℤ◌, ◌-ℤ◌, ◌*ℤ◌}
use Rattle.std.proofs.Math.IntN.{zero-*ℤ, pos-*ℤ-pos}
use Rattle.std.proofs.Math.Nat.{mul-zero, zero-mul}
use Rattle.std.proofs.lemmas.Int.{ints}
use Rattle.luo_finite.proofs.Ranges.{sum_below-add}
use Rattle.luo_model.specs.declared.program.Kind.{Kind}
use Rattle.luo_model.specs.declared.program.Kind.TheVariants.{Sequence, Set, Cycle, Multiset, Powerset}
use Rattle.luo_finite.specs.Binomial.{choose}
use Rattle.luo_counting.specs.Numbers.{repeats, subset_totals, repeat_totals, back, plane, plane_totals}
use Rattle.luo_equation.specs.Series.{floor, sum_z, shifted, join, bags, copies, IsMultiple}
use Rattle.luo_equation.proofs.Integers.{floor-exact}
use Rattle.luo_equation.proofs.SeriesLemmas.{sum_z-same, shifted-pos, shifted-same, unit-pos}
use Rattle.luo_equation.proofs.Classes.{klass, shift, klass-start, klass-step, klass-times, klass-nothing, klass-none, back-times, plane_totals-each, plane-none}
use Rattle.luo_equation.proofs.Copies.{copies_in, all_copies, as_z, all-zero, all-step, all-sum}

-- ---- the copies of a class of items of size s
module _ (s : ℕ) (X : ℕ → ℕ → ℕ) where
  multi-step : (c k n : ℕ) → klass (repeats (suc c)) s X (suc k) n ≡ klass (repeats c) s X (suc k) n + back s (klass (repeats (suc c)) s X k) n
  multi-step c k n = klass-step (repeats (suc c)) (repeats c) (repeats (suc c)) s X k n (first c) (λ j. refl)
    where
      first : (c : ℕ) → repeats (suc c) 0 ≡ repeats c 0
      first zero = refl
      first (suc c) = refl

  power-step : (c k n : ℕ) → klass (choose (suc c)) s X (suc k) n ≡ klass (choose c) s X (suc k) n + back s (klass (choose c) s X k) n
  power-step c k n = klass-step (choose (suc c)) (choose c) (choose c) s X k n refl (λ j. omega arith)

  multi-start : (c n : ℕ) → klass (repeats (suc c)) s X 0 n ≡ klass (repeats c) s X 0 n
  multi-start c n = klass-start (repeats (suc c)) s X n ∙ ap (λ m. m * X 0 n) (first c) ∙ sym (klass-start (repeats c) s X n)
    where
      first : (c : ℕ) → repeats (suc c) 0 ≡ repeats c 0
      first zero = refl
      first (suc c) = refl

  power-start : (c n : ℕ) → klass (choose (suc c)) s X 0 n ≡ klass (choose c) s X 0 n
  power-start c n = klass-start (choose (suc c)) s X n ∙ sym (klass-start (choose c) s X n)

  multi-both : (c k n : ℕ) → klass (repeats (suc c)) s X k n ≡ klass (repeats c) s X k n + shift s (klass (repeats (suc c)) s X) k n
  multi-both c zero n = omega (arith, multi-start c n)
  multi-both c (suc k) n = multi-step c k n

  power-both : (c k n : ℕ) → klass (choose (suc c)) s X k n ≡ klass (choose c) s X k n + shift s (klass (choose c) s X) k n
  power-both c zero n = omega (arith, power-start c n)
  power-both c (suc k) n = power-step c k n

  -- one of c things and its copies, beside a multiset of them, leave a multiset of c + 1 things
  multi-copies : (c k n : ℕ) → copies_in Multiset s (as_z (klass (repeats c) s X)) k n ≡ pos (shift s (klass (repeats (suc c)) s X) k n)
  multi-copies c zero n = refl
  multi-copies c (suc k) n =
      ap (λ (f : ℕ → ℤ). shifted s f n) (λ i m. (let e : pos (klass (repeats c) s X k m) +ℤ copies_in Multiset s (as_z (klass (repeats c) s X)) k m ≡ pos (klass (repeats (suc c)) s X k m) = omega (arith, ints, multi-copies c k m, multi-both c k m) in e) i)
      ∙ shifted-pos s (klass (repeats (suc c)) s X k) n

  -- one of c + 1 things, taken alone, leaves a subset of c things
  power-copies : (c k n : ℕ) → copies_in Powerset s (as_z (klass (choose (suc c)) s X)) k n ≡ pos (shift s (klass (choose c) s X) k n)
  power-copies c zero n = refl
  power-copies c (suc k) n =
      ap (λ (f : ℕ → ℤ). shifted s f n) (λ i m. (let e : pos (klass (choose (suc c)) s X k m) -ℤ copies_in Powerset s (as_z (klass (choose (suc c)) s X)) k m ≡ pos (klass (choose c) s X k m) = omega (arith, ints, power-copies c k m, power-both c k m) in e) i)
      ∙ shifted-pos s (klass (choose c) s X k) n

  -- the charges over the class
  charges-step : (t : ℕ) (u w : ℕ → ℕ) (k n : ℕ) → u 0 ≡ 0 → ((j : ℕ) → u (suc j) ≡ t * w j) → klass u s X k n ≡ t * shift s (klass w s X) k n
  charges-step t u w zero n z h = klass-start u s X n ∙ ap (λ m. m * X 0 n) z ∙ zero-mul (X 0 n) ∙ sym (mul-zero t)
  charges-step t u w (suc k) n z h =
      let e1 : klass u s X (suc k) n ≡ klass (λ j. 0) s X (suc k) n + back s (klass (λ j. t * w j) s X k) n = klass-step u (λ j. 0) (λ j. t * w j) s X k n z (λ j. omega (arith, h j)) in
      let e2 : klass (λ j. 0) s X (suc k) n ≡ 0 = klass-nothing (λ j. 0) s X (suc k) n (λ j. refl) in
      let e3 : back s (klass (λ j. t * w j) s X k) n ≡ t * back s (klass w s X k) n = ap (λ (f : ℕ → ℕ). back s f n) (λ i m. klass-times t w s X k m i) ∙ back-times s t (klass w s X k) n in
      omega (arith, e1, e2, e3)

  multi-charges : (c t k n : ℕ) → pos (klass (repeat_totals c t) s X k n) ≡ pos t *ℤ copies_in Multiset s (as_z (klass (repeats c) s X)) k n
  multi-charges c t k n =
      ap pos (charges-step t (repeat_totals c t) (repeats (suc c)) k n refl (λ j. refl)) ∙ sym (pos-*ℤ-pos t (shift s (klass (repeats (suc c)) s X) k n)) ∙ ap (λ z. pos t *ℤ z) (sym (multi-copies c k n))

  power-charges : (c t k n : ℕ) → (c ≡ 0 → t ≡ 0) → pos (klass (subset_totals c t) s X k n) ≡ pos t *ℤ copies_in Powerset s (as_z (klass (choose c) s X)) k n
  power-charges zero t k n h =
      ap pos (klass-nothing (subset_totals 0 t) s X k n (λ j. refl)) ∙ sym (zero-*ℤ (copies_in Powerset s (as_z (klass (choose 0) s X)) k n)) ∙ ap (λ i. pos i *ℤ copies_in Powerset s (as_z (klass (choose 0) s X)) k n) (sym (h refl))
  power-charges (suc c) t k n h =
      ap pos (charges-step t (subset_totals (suc c) t) (choose c) k n refl (λ j. refl)) ∙ sym (pos-*ℤ-pos t (shift s (klass (choose c) s X) k n)) ∙ ap (λ z. pos t *ℤ z) (sym (power-copies c k n))

  -- a class more, beside the copies of the smaller sizes
  module _ (b : ℕ → ℕ) (d : ℕ) (Y : ℕ → ℕ → ℕ) where
    nothing_charged : (kind : Kind) → ((k n : ℕ) → pos (Y k n) ≡ all_copies kind b d (as_z X) k n) → (u : ℕ → ℕ) (n : ℕ) → klass u s Y 0 n ≡ 0
    nothing_charged kind h u n = klass-start u s Y n ∙ ap (λ m. u 0 * m) (let e : Y 0 n ≡ 0 = omega (arith, ints, h 0 n, all-zero kind b d (as_z X) n) in e) ∙ mul-zero (u 0)

    multi-beside : ((k n : ℕ) → pos (Y k n) ≡ all_copies Multiset b d (as_z X) k n) → (c k n : ℕ) → pos (klass (repeats c) s Y k n) ≡ all_copies Multiset b d (as_z (klass (repeats c) s X)) k n
    multi-beside h zero k n =
        ap pos (klass-none (repeats 0) s Y k n refl (λ j. refl)) ∙ h k n ∙ sym (ap (λ (Z : ℕ → ℕ → ℤ). all_copies Multiset b d Z k n) (λ i j m. pos (klass-none (repeats 0) s X j m refl (λ j. refl) i)))
    multi-beside h (suc c) zero n = ap pos (nothing_charged Multiset h (repeats (suc c)) n) ∙ sym (all-zero Multiset b d (as_z (klass (repeats (suc c)) s X)) n)
    multi-beside h (suc c) (suc k) n =
        let G : ℕ → ℕ → ℕ = klass (repeats (suc c)) s X in
        let H : ℕ → ℕ → ℕ = klass (repeats c) s X in
        let e1 : klass (repeats (suc c)) s Y (suc k) n ≡ klass (repeats c) s Y (suc k) n + back s (klass (repeats (suc c)) s Y k) n = klass-step (repeats (suc c)) (repeats c) (repeats (suc c)) s Y k n (first c) (λ j. refl) in
        let e2 : pos (klass (repeats c) s Y (suc k) n) ≡ all_copies Multiset b d (as_z H) (suc k) n = multi-beside h c (suc k) n in
        let e3 : pos (back s (klass (repeats (suc c)) s Y k) n) ≡ shifted s (all_copies Multiset b d (as_z G) k) n = sym (shifted-pos s (klass (repeats (suc c)) s Y k) n) ∙ ap (λ (f : ℕ → ℤ). shifted s f n) (λ i m. multi-beside h (suc c) k m i) in
        omega (arith, ints, e1, e2, e3, all-step Multiset b d s G H G (multi-start c) (multi-step c) k n)
      where
        first : (c : ℕ) → repeats (suc c) 0 ≡ repeats c 0
        first zero = refl
        first (suc c) = refl

    power-beside : ((k n : ℕ) → pos (Y k n) ≡ all_copies Powerset b d (as_z X) k n) → (c k n : ℕ) → pos (klass (choose c) s Y k n) ≡ all_copies Powerset b d (as_z (klass (choose c) s X)) k n
    power-beside h zero k n =
        ap pos (klass-none (choose 0) s Y k n refl (λ j. refl)) ∙ h k n ∙ sym (ap (λ (Z : ℕ → ℕ → ℤ). all_copies Powerset b d Z k n) (λ i j m. pos (klass-none (choose 0) s X j m refl (λ j. refl) i)))
    power-beside h (suc c) zero n = ap pos (nothing_charged Powerset h (choose (suc c)) n) ∙ sym (all-zero Powerset b d (as_z (klass (choose (suc c)) s X)) n)
    power-beside h (suc c) (suc k) n =
        let G : ℕ → ℕ → ℕ = klass (choose (suc c)) s X in
        let H : ℕ → ℕ → ℕ = klass (choose c) s X in
        let e1 : klass (choose (suc c)) s Y (suc k) n ≡ klass (choose c) s Y (suc k) n + back s (klass (choose c) s Y k) n = klass-step (choose (suc c)) (choose c) (choose c) s Y k n refl (λ j. omega arith) in
        let e2 : pos (klass (choose c) s Y (suc k) n) ≡ all_copies Powerset b d (as_z H) (suc k) n = power-beside h c (suc k) n in
        let e3 : pos (back s (klass (choose c) s Y k) n) ≡ shifted s (all_copies Powerset b d (as_z H) k) n = sym (shifted-pos s (klass (choose c) s Y k) n) ∙ ap (λ (f : ℕ → ℤ). shifted s f n) (λ i m. power-beside h c k m i) in
        omega (arith, ints, e1, e2, e3, all-step Powerset b d s G H H (power-start c) (power-step c) k n)

-- ---- THE LAWS: the charges over planes as points
pub multi-points : (a b : ℕ → ℕ) (d k n : ℕ) → pos (plane_totals Multiset a b d k n) ≡ all_copies Multiset b d (as_z (plane Multiset a d)) k n
multi-points a b zero k n = refl
multi-points a b (suc d) k n =
    let s : ℕ = suc d in
    let A : ℕ = a (suc d) in
    let t : ℕ = b (suc d) in
    let X : ℕ → ℕ → ℕ = plane Multiset a d in
    let Y : ℕ → ℕ → ℕ = plane_totals Multiset a b d in
    let e : plane_totals Multiset a b (suc d) k n ≡ klass (repeat_totals A t) s X k n + klass (repeats A) s Y k n =
    sum_below-add (λ j. repeat_totals A t j * back (j * s) (X (k - j)) n) (λ j. repeats A j * back (j * s) (Y (k - j)) n) (suc k) in
    omega (arith, ints, e, multi-charges s X A t k n, multi-beside s X b d Y (multi-points a b d) A k n)

pub power-points : (a b : ℕ → ℕ) → ((m : ℕ) → a m ≡ 0 → b m ≡ 0) → (d k n : ℕ) → pos (plane_totals Powerset a b d k n) ≡ all_copies Powerset b d (as_z (plane Powerset a d)) k n
power-points a b h zero k n = refl
power-points a b h (suc d) k n =
    let s : ℕ = suc d in
    let A : ℕ = a (suc d) in
    let t : ℕ = b (suc d) in
    let X : ℕ → ℕ → ℕ = plane Powerset a d in
    let Y : ℕ → ℕ → ℕ = plane_totals Powerset a b d in
    let e : plane_totals Powerset a b (suc d) k n ≡ klass (subset_totals A t) s X k n + klass (choose A) s Y k n =
    sum_below-add (λ j. subset_totals A t j * back (j * s) (X (k - j)) n) (λ j. choose A j * back (j * s) (Y (k - j)) n) (suc k) in
    omega (arith, ints, e, power-charges s X A t k n (h (suc d)), power-beside s X b d Y (power-points a b h d) A k n)

-- of every kind that has bags
abbrev pub HasBags : Kind → Type 0
HasBags Multiset = Unit {0}
HasBags Powerset = Unit {0}
HasBags _ = ⊥

pub bag-points : (kind : Kind) → HasBags kind → (a b : ℕ → ℕ) → ((m : ℕ) → a m ≡ 0 → b m ≡ 0) → (d k n : ℕ) → pos (plane_totals kind a b d k n) ≡ all_copies kind b d (as_z (plane kind a d)) k n
bag-points Multiset g a b h d k n = multi-points a b d k n
bag-points Powerset g a b h d k n = power-points a b h d k n
bag-points Sequence g a b h d k n = absurd g
bag-points Set g a b h d k n = absurd g
bag-points Cycle g a b h d k n = absurd g

-- ---- bags are planes, and no quotient leaves a remainder
module _ (kind : Kind) (g : HasBags kind) (a : ℕ → ℕ) (z : a 0 ≡ 0) (N : ℕ) where
  abbrev A : ℕ → ℤ
  A m = pos (a m)

  abbrev P : ℕ → ℕ → ℤ
  P = as_z (plane kind a N)

  dividend-is : (k n : ℕ) → n ≤ N → ((m : ℕ) → copies kind A (suc k) m n ≡ copies_in kind m P (suc k) n) → sum_z (λ m. A m *ℤ copies kind A (suc k) m n) (suc n) ≡ pos (suc k * plane kind a N (suc k) n)
  dividend-is k n l h =
      sum_z-same (λ m. A m *ℤ copies kind A (suc k) m n) (λ m. A m *ℤ copies_in kind m P (suc k) n) (suc n) (λ m i. ap (λ y. A m *ℤ y) (h m))
      ∙ all-sum kind a N P (suc k) n z l
      ∙ sym (bag-points kind g a a (λ m e. e) N (suc k) n)
      ∙ ap pos (plane_totals-each kind a N (suc k) n)

  pub bags-are : (k n : ℕ) → n ≤ N → (bags kind A k n ≡ P k n) × ((m : ℕ) → copies kind A k m n ≡ copies_in kind m P k n)
  bags-are zero n l = (unit-pos n ∙ ap pos (sym (plane-none kind a N n)), λ m. refl)
  bags-are (suc k) n l =
      let c : (m : ℕ) → copies kind A (suc k) m n ≡ copies_in kind m P (suc k) n = λ m.
      shifted-same m (λ i. join kind (bags kind A k i) (copies kind A k m i)) (λ i. join kind (P k i) (copies_in kind m P k i)) n (λ i e.
      let r = bags-are k i (omega (arith, e)) in ap (λ y. join kind y (copies kind A k m i)) r.0 ∙ ap (λ y. join kind (P k i) y) (r.1 m)) in
      (ap (λ y. floor y (suc k)) (dividend-is k n l c) ∙ floor-exact (suc k) (plane kind a N (suc k) n) (omega arith), c)

  pub bags-exact : (k n : ℕ) → n ≤ N → IsMultiple (suc k) (sum_z (λ m. A m *ℤ copies kind A (suc k) m n) (suc n))
  bags-exact k n l = (pos (plane kind a N (suc k) n), dividend-is k n l (λ m. (bags-are (suc k) n l).1 m) ∙ sym (pos-*ℤ-pos (suc k) (plane kind a N (suc k) n)))

  -- and the point
  pub point-is : (b : ℕ → ℕ) → b 0 ≡ 0 → ((m : ℕ) → a m ≡ 0 → b m ≡ 0) → (k n : ℕ) → n ≤ N → sum_z (λ m. pos (b m) *ℤ copies kind A k m n) (suc n) ≡ pos (plane_totals kind a b N k n)
  point-is b y h k n l =
      sum_z-same (λ m. pos (b m) *ℤ copies kind A k m n) (λ m. pos (b m) *ℤ copies_in kind m P k n) (suc n) (λ m i. ap (λ v. pos (b m) *ℤ v) ((bags-are k n l).1 m))
      ∙ all-sum kind b N P k n y l
      ∙ sym (bag-points kind g a b h N k n)
