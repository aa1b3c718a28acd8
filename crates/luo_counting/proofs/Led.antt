-- Labelled things of which the first has the least label.
use Rattle.std.proofs.Common.{◌≡◌, ℕ, ◌+◌, ◌≤◌, ◌<◌, suc, min, List, [], ◌∷◌, ◌++◌, ◌⊎◌, inl, inr, ⊎_elim, length, refl, sym, subst, map, sum_by, arith, flat_map}
use Rattle.std.proofs.lemmas.List.Concat.{flat_map-cons}
use Rattle.luo_finite.specs.Listing.{In, Sums}
use Rattle.luo_finite.proofs.Membership.{In-append_left, In-append_right, In-append_cases, In-map}
use Rattle.luo_finite.proofs.Doubles.{NoDouble-append_apart}
use Rattle.luo_finite.proofs.Sums.{Sums-over, Sums-iff}
use Rattle.luo_finite.specs.Each.{Each}
use Rattle.luo_model.specs.declared.program.Universe.TheVariants.{Labelled}
use Rattle.luo_model.specs.Structures.{Rising, Holds}
use Rattle.luo_model.specs.Tree.{least_of}
use Rattle.luo_counting.specs.Sharing.{splits, over_splits, IsRoom}
use Rattle.luo_counting.proofs.Splits.{Two, put_left, put_right, splits-cases, split-one, NoDouble-splits, split-rising, split-length, split-left, split-right, sum_by-splits, Holds-split, split-Holds}
use Rattle.luo_counting.proofs.Two.{IsSized, PairOn, Apart, Holds-length}

-- a pair on the labels x and L, with x in the first
abbrev pub Leading : {A B : Type 0} → (A → Type 0) → (B → Type 0) → (A → ℕ) → (B → ℕ) → (A → List ℕ) → (B → List ℕ) → ℕ → List ℕ → A × B → Type 0
Leading M N size other la lb x L v = PairOn Labelled M N size other la lb (x ∷ L) (suc (length L)) v × In x (la v.0)

module _ {A B : Type 0} (M : A → Type 0) (N : B → Type 0) (size : A → ℕ) (other : B → ℕ) (la : A → List ℕ) (lb : B → List ℕ) (x : ℕ) (L : List ℕ) where
  -- the labels x and z.0 in the first, z.1 in the second
  Led : Two → A × B → Type 0
  Led z v = In z (splits L) × Apart Labelled M N size other la lb (x ∷ z.0) z.1 (suc (length z.0)) (length z.1) v

  without : (S T : List ℕ) → ((n : ℕ) → In n (x ∷ S) → In n (x ∷ T)) → ((n : ℕ) → In n S → x < n) → (n : ℕ) → In n S → In n T
  without S T f up n i = ⊎_elim (λ (e : n ≡ x). let k : x < n = up n i in absurd (omega arith)) (λ j. j) (f n (inr i))

  one_led : Rising (x ∷ L) → (y z : Two) (v : A × B) → Led y v → Led z v → y ≡ z
  unfolding Led
  one_led r y z v a b = split-one L y z r.1 a.0 b.0
      (without y.0 z.0 (λ n i. b.1.0.2.1 n (a.1.0.2.2 n i)) (λ n i. r.0 n (split-left L y n a.0 i)))
      (without z.0 y.0 (λ n i. a.1.0.2.1 n (b.1.0.2.2 n i)) (λ n i. r.0 n (split-left L z n b.0 i)))

  from_led : Rising (x ∷ L) → (v : A × B) → (z : Two) × In z (splits L) × Led z v → Leading M N size other la lb x L v
  unfolding Led
  from_led r v k =
      let s = k.2.1 in
      let z : Two = put_left x k.0 in
      let i : In z (splits (x ∷ L)) = In-append_left z (map (put_left x) (splits L)) (map (put_right x) (splits L)) (In-map (put_left x) k.0 (splits L) k.1) in
      ((s.0.0, s.1.0, omega (arith, s.0.1, s.1.1, split-length L k.0 k.1), split-Holds (x ∷ L) (la v.0) (lb v.1) z r i s.0.2 s.1.2), s.0.2.2 x (inl refl))

  to_led : Rising (x ∷ L) → IsSized Labelled M size la → IsSized Labelled N other lb → (v : A × B) → Leading M N size other la lb x L v → (z : Two) × In z (splits L) × Led z v
  unfolding Led
  to_led r s t v m =
      let k = Holds-split (x ∷ L) (la v.0) (lb v.1) (m.0).3 in
      ⊎_elim
      (λ u.
      let q = split-rising L u.0 r.1 u.1 in
      let h : Holds (x ∷ (u.0).0) (la v.0) = subst (λ (z : Two). Holds z.0 (la v.0)) u.2 k.2.0 in
      let g : Holds (u.0).1 (lb v.1) = subst (λ (z : Two). Holds z.1 (lb v.1)) u.2 k.2.1 in
      let up : Rising (x ∷ (u.0).0) = ((λ n j. r.0 n (split-left L u.0 n u.1 j)), q.0) in
      let a : size v.0 ≡ suc (length (u.0).0) = omega (arith, s v.0 (m.0).0, Holds-length (x ∷ (u.0).0) (la v.0) up h) in
      let b : other v.1 ≡ length (u.0).1 = omega (arith, t v.1 (m.0).1, Holds-length (u.0).1 (lb v.1) q.1 g) in
      (u.0, u.1, (u.1, (((m.0).0, a, h), ((m.0).1, b, g)))))
      (λ u. absurd (NoDouble-append_apart (la v.0) (lb v.1) (m.0).3.0 x m.1 (k.2.1.2 x (subst (λ (z : Two). In x z.1) (sym u.2) (inl refl)))))
      (splits-cases x L k.0 k.1)

  -- THE LAW of two of which the first has the least label: the other labels are shared
  pub Sums-led : (w : A × B → ℕ) (c : ℕ → ℕ → ℕ) → Rising (x ∷ L) → ((y : ℕ) → In y (x ∷ L) → 1 ≤ y) → IsSized Labelled M size la → IsSized Labelled N other lb
      → ((S T : List ℕ) (i j : ℕ) → IsRoom Labelled S (suc i) → IsRoom Labelled T j → i + j ≡ length L → Sums (Apart Labelled M N size other la lb S T (suc i) j) w (c i j))
      → Sums (Leading M N size other la lb x L) w (over_splits c (length L))
  unfolding Led
  Sums-led w c r pos s t h =
      subst (Sums (Leading M N size other la lb x L) w) (sum_by-splits c L)
      (Sums-iff (λ v. (z : Two) × In z (splits L) × Led z v) (Leading M N size other la lb x L) w (sum_by (λ (z : Two). c (length z.0) (length z.1)) (splits L)) (from_led r) (to_led r s t)
      (Sums-over Led w (λ (z : Two). c (length z.0) (length z.1)) (splits L) (NoDouble-splits L r.1) (one_led r)
      (λ z i.
      let q = split-rising L z r.1 i in
      Sums-iff (Apart Labelled M N size other la lb (x ∷ z.0) z.1 (suc (length z.0)) (length z.1)) (Led z) w (c (length z.0) (length z.1)) (λ v s. (i, s)) (λ v k. k.1)
      (h (x ∷ z.0) z.1 (length z.0) (length z.1) (((λ n j. r.0 n (split-left L z n i j)), q.0), refl, λ m j. pos m (⊎_elim (λ e. inl e) (λ k. inr (split-left L z m i k)) j)) (q.1, refl, λ m j. pos m (inr (split-right L z m i j))) (split-length L z i)))))

-- the least label
least_In : (y : ℕ) (l : List ℕ) → In (least_of (y ∷ l)) (y ∷ l)
least_In y [] = inl refl
least_In y (z ∷ l) = pick (least_of (z ∷ l)) (least_In z l)
  where
    one : (a b : ℕ) → (min a b ≡ a) ⊎ (min a b ≡ b)
    one a b = grind arith

    pick : (m : ℕ) → In m (z ∷ l) → In (min y m) (y ∷ (z ∷ l))
    pick m i = ⊎_elim (λ e. inl e) (λ e. inr (subst (λ k. In k (z ∷ l)) (sym e) i)) (one y m)

pub least_le : (l : List ℕ) (n : ℕ) → In n l → least_of l ≤ n
least_le [] n i = absurd i
least_le (y ∷ []) n (inl e) = omega arith
least_le (y ∷ []) n (inr i) = absurd i
least_le (y ∷ (z ∷ l)) n (inl e) = omega arith
least_le (y ∷ (z ∷ l)) n (inr i) = omega (arith, least_le (z ∷ l) n i)

pub least_there : (l : List ℕ) → 1 ≤ length l → In (least_of l) l
least_there [] h = absurd (omega arith)
least_there (y ∷ l) h = least_In y l

In-flat_map : {A : Type 0} (lab : A → List ℕ) (n : ℕ) (y : A) (ys : List A) → In y ys → In n (lab y) → In n (flat_map lab ys)
In-flat_map lab n y [] i j = absurd i
In-flat_map lab n y (z ∷ ys) (inl e) j = subst (In n) (sym (flat_map-cons lab z ys)) (In-append_left n (lab z) (flat_map lab ys) (subst (λ t. In n (lab t)) e j))
In-flat_map lab n y (z ∷ ys) (inr i) j = subst (In n) (sym (flat_map-cons lab z ys)) (In-append_right n (lab z) (flat_map lab ys) (In-flat_map lab n y ys i j))

flat_map-In : {A : Type 0} (lab : A → List ℕ) (n : ℕ) (ys : List A) → In n (flat_map lab ys) → (y : A) × In y ys × In n (lab y)
flat_map-In lab n [] i = absurd i
flat_map-In lab n (z ∷ ys) i = ⊎_elim (λ j. (z, inl refl, j)) (λ j. let r = flat_map-In lab n ys j in (r.0, inr r.1, r.2)) (In-append_cases n (lab z) (flat_map lab ys) (subst (In n) (flat_map-cons lab z ys) i))

pub Each-In : {A : Type 0} (M : A → Type 0) (ys : List A) (y : A) → Each M ys → In y ys → M y
Each-In M [] y e i = absurd i
Each-In M (z ∷ ys) y e (inl q) = subst M (sym q) e.0
Each-In M (z ∷ ys) y e (inr i) = Each-In M ys y e.1 i

module _ {A : Type 0} (M : A → Type 0) (lab : A → List ℕ) (full : (y : A) → M y → 1 ≤ length (lab y)) (x : ℕ) (L : List ℕ) (r : Rising (x ∷ L)) where
  at_least : (n : ℕ) → In n (x ∷ L) → x ≤ n
  at_least n (inl e) = omega arith
  at_least n (inr i) = omega (arith, r.0 n i)

  -- where the least labels of the others are no less, x is in the first
  pub first_has : (y : A) (ys : List A) → M y → Each M ys → Holds (x ∷ L) (lab y ++ flat_map lab ys) → ((u : A) → In u ys → least_of (lab y) ≤ least_of (lab u)) → In x (lab y)
  first_has y ys m e h f =
      ⊎_elim (λ i. i)
      (λ i. let k = flat_map-In lab x ys i in
      let a : least_of (lab y) ≤ least_of (lab k.0) = f k.0 k.1 in
      let b : least_of (lab k.0) ≤ x = least_le (lab k.0) x k.2 in
      let j : In (least_of (lab y)) (lab y) = least_there (lab y) (full y m) in
      let c : x ≤ least_of (lab y) = at_least (least_of (lab y)) (h.1 (least_of (lab y)) (In-append_left (least_of (lab y)) (lab y) (flat_map lab ys) j)) in
      let q : least_of (lab y) ≡ x = omega arith in
      subst (λ n. In n (lab y)) q j)
      (In-append_cases x (lab y) (flat_map lab ys) (h.2 x (inl refl)))

  -- where x is in the first, its least label is below the others'
  pub has_first : (y : A) (ys : List A) → M y → Each M ys → Holds (x ∷ L) (lab y ++ flat_map lab ys) → In x (lab y) → (u : A) → In u ys → least_of (lab y) < least_of (lab u)
  has_first y ys m e h i u j =
      let k : In (least_of (lab u)) (lab u) = least_there (lab u) (full u (Each-In M ys u e j)) in
      let q : In (least_of (lab u)) (flat_map lab ys) = In-flat_map lab (least_of (lab u)) u ys j k in
      let a : least_of (lab y) ≤ x = least_le (lab y) x i in
      let b : In (least_of (lab u)) (x ∷ L) = h.1 (least_of (lab u)) (In-append_right (least_of (lab u)) (lab y) (flat_map lab ys) q) in
      ⊎_elim (λ (w : least_of (lab u) ≡ x). absurd (NoDouble-append_apart (lab y) (flat_map lab ys) h.0 x i (subst (λ n. In n (flat_map lab ys)) w q)))
      (λ w. omega (arith, r.0 (least_of (lab u)) w)) b
