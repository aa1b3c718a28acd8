-- The choices of some numbers: how many there are, and their places in lexicographic order.
use Rattle.std.proofs.Common.{◌≡◌, ℕ, zero, suc, ◌+◌, ◌≤◌, ◌<◌, List, [], ◌∷◌, ◌⊎◌, inl, inr, ⊎_elim, length, refl, sym, ◌∙◌, ap, subst, arith}
use Rattle.std.specs.declared.cmp.Ordering.{Ordering}
use Rattle.std.specs.declared.cmp.Ordering.TheVariants.{Less, Equal, Greater}
use Rattle.std.specs.Cmp.Lexicographic.{slice_cmp}
use Rattle.std.specs.Ordering.{nat_cmp, ordering_then}
use Rattle.luo_finite.specs.Listing.{In, Sums, Pairwise}
use Rattle.luo_finite.proofs.Sums.{Sums-iff, Sums-none, Sums-one, Sums-either, Sums-map}
use Rattle.luo_finite.specs.Binomial.{choose}
use Rattle.luo_finite.proofs.Orders.{nat_less, nat_equal, less_nat, nat_itself}
use Rattle.luo_finite.specs.Places.{IsPlace, Lexical, IsChoice}
use Rattle.luo_finite.proofs.OrderedPlaces.{Place-alone, Place-iff, Place-map}
use native.Mathlib.Decide.{ℕ_discrete}

-- each is below all that stand behind it
abbrev pub Rises : List ℕ → Type 0
Rises L = Pairwise (λ x y. x < y) L

-- lists with first labels
split_less : (a b : Ordering) → ordering_then a b ≡ Less → (a ≡ Less) ⊎ ((a ≡ Equal) × (b ≡ Less))
split_less Less b e = inl refl
split_less Equal b e = inr (refl, e)
split_less Greater b e = absurd (cc)

pub lexical_less : (x y : ℕ) (xs ys : List ℕ) → x < y → Lexical (x ∷ xs) (y ∷ ys)
lexical_less x y xs ys l = ap (λ o. ordering_then o (slice_cmp nat_cmp xs ys)) (nat_less x y l)

pub lexical_more : (x : ℕ) (xs ys : List ℕ) → Lexical xs ys → Lexical (x ∷ xs) (x ∷ ys)
lexical_more x xs ys l = ap (λ o. ordering_then o (slice_cmp nat_cmp xs ys)) (nat_itself x) ∙ l

pub lexical_first : (x y : ℕ) (xs ys : List ℕ) → Lexical (x ∷ xs) (y ∷ ys) → x ≤ y
lexical_first x y xs ys e = ⊎_elim (λ l. omega (arith, less_nat x y l)) (λ k. let q : x ≡ y = nat_equal x y k.0 in omega (arith, q)) (split_less (nat_cmp x y) (slice_cmp nat_cmp xs ys) e)

pub lexical_rest : (x : ℕ) (xs ys : List ℕ) → Lexical (x ∷ xs) (x ∷ ys) → Lexical xs ys
lexical_rest x xs ys e = ⊎_elim (λ l. let k : x < x = less_nat x x l in absurd (omega arith)) (λ k. k.1) (split_less (nat_cmp x x) (slice_cmp nat_cmp xs ys) e)

-- choices from no labels, and of none
pub only_empty : (L : List ℕ) (C : List ℕ) → IsChoice L 0 C → C ≡ []
only_empty L [] c = refl
only_empty L (x ∷ C) c = absurd (omega (arith, c.1))

pub empty_choice : (L : List ℕ) → IsChoice L 0 []
empty_choice L = (tt, refl, λ z i. absurd i)

pub none_from_none : (k : ℕ) (C : List ℕ) → IsChoice [] (suc k) C → ⊥
none_from_none k [] c = omega (arith, c.1)
none_from_none k (x ∷ C) c = c.2 x (inl refl)

-- a choice with the least label, and one without
pub with_least : (x : ℕ) (L : List ℕ) (k : ℕ) (C : List ℕ) → Rises (x ∷ L) → IsChoice L k C → IsChoice (x ∷ L) (suc k) (x ∷ C)
with_least x L k C r c = (((λ z i. r.0 z (c.2 z i)), c.0), ap suc c.1, λ z i. ⊎_elim (λ e. inl e) (λ j. inr (c.2 z j)) i)

pub without_least : (x : ℕ) (L : List ℕ) (k : ℕ) (C : List ℕ) → IsChoice L k C → IsChoice (x ∷ L) k C
without_least x L k C c = (c.0, c.1, λ z i. inr (c.2 z i))

pub choice_cases : (x : ℕ) (L : List ℕ) (k : ℕ) (C : List ℕ) → Rises (x ∷ L) → IsChoice (x ∷ L) (suc k) C → ((D : List ℕ) × IsChoice L k D × (C ≡ x ∷ D)) ⊎ IsChoice L (suc k) C
choice_cases x L k [] r c = absurd (omega (arith, c.1))
choice_cases x L k (y ∷ C) r c = by (ℕ_discrete y x)
  where
    by : Dec (y ≡ x) → ((D : List ℕ) × IsChoice L k D × (y ∷ C ≡ x ∷ D)) ⊎ IsChoice L (suc k) (y ∷ C)
    by (yes e) = inl (C, (c.0.1, omega (arith, c.1), λ z i. ⊎_elim (λ (q : z ≡ x). let l : y < z = c.0.0 z i in absurd (omega (arith, l, q, e))) (λ j. j) (c.2 z (inr i))), ap (λ v. v ∷ C) e)
    by (no n) = inr (
      c.0,
      c.1,
      λ z i. ⊎_elim (λ (q : z ≡ x). absurd (⊎_elim (λ (e : z ≡ y). n (sym e ∙ q))
          (λ j. let l : y < z = c.0.0 z j in let m : x < y = ⊎_elim (λ e. absurd (n e)) (λ h. r.0 y h) (c.2 y (inl refl)) in omega (arith, l, q, m)) i)) (λ j. j) (c.2 z i),
    )

-- a choice from L has no label as small as x
past_least : (x : ℕ) (L : List ℕ) (k : ℕ) (D : List ℕ) → Rises (x ∷ L) → IsChoice L k D → In x D → ⊥
past_least x L k D r d i = let l : x < x = r.0 x (d.2 x i) in omega arith

-- those with the least label are before those without
with_before : (x : ℕ) (L : List ℕ) (k : ℕ) (D C : List ℕ) → Rises (x ∷ L) → IsChoice L (suc k) C → Lexical (x ∷ D) C
with_before x L k D [] r c = absurd (omega (arith, c.1))
with_before x L k D (y ∷ C) r c = lexical_less x y D C (r.0 y (c.2 y (inl refl)))

not_before : (x : ℕ) (L : List ℕ) (k : ℕ) (D C : List ℕ) → Rises (x ∷ L) → IsChoice L (suc k) C → Lexical C (x ∷ D) → ⊥
not_before x L k D [] r c h = omega (arith, c.1)
not_before x L k D (y ∷ C) r c h = let l : x < y = r.0 y (c.2 y (inl refl)) in omega (arith, l, lexical_first y x C D h)

cons_same : (x : ℕ) (xs ys : List ℕ) → x ∷ xs ≡ x ∷ ys → xs ≡ ys
cons_same x xs ys e = cc

-- there are choose (length L) k of them
pub choices_counted : (L : List ℕ) (k : ℕ) → Rises L → Sums (IsChoice L k) (λ C. 1) (choose (length L) k)
choices_counted L zero r = Sums-one (IsChoice L 0) (λ C. 1) [] (empty_choice L) (only_empty L)
choices_counted [] (suc k) r = Sums-none (IsChoice [] (suc k)) (λ C. 1) (none_from_none k)
choices_counted (x ∷ L) (suc k) r =
    Sums-iff (λ C. ((D : List ℕ) × IsChoice L k D × (C ≡ x ∷ D)) ⊎ IsChoice L (suc k) C) (IsChoice (x ∷ L) (suc k)) (λ C. 1) (choose (length L) k + choose (length L) (suc k))
    (λ C h. ⊎_elim (λ a. subst (IsChoice (x ∷ L) (suc k)) (sym a.2) (with_least x L k a.0 r a.1)) (λ b. without_least x L (suc k) C b) h) (λ C c. choice_cases x L k C r c)
    (Sums-either (λ C. (D : List ℕ) × IsChoice L k D × (C ≡ x ∷ D)) (IsChoice L (suc k)) (λ C. 1) (choose (length L) k) (choose (length L) (suc k))
    (λ C a b. past_least x L (suc k) C r b (subst (In x) (sym a.2) (inl refl)))
    (Sums-map (IsChoice L k) (λ D. x ∷ D) (λ C. 1) (choose (length L) k) (λ D E p q e. cons_same x D E e) (choices_counted L k r.1)) (choices_counted L (suc k) r.1))

-- those with the least label: the place is that of the rest
pub led_place : (x : ℕ) (L : List ℕ) (k q : ℕ) (C : List ℕ) → Rises (x ∷ L) → IsPlace (IsChoice L k) Lexical q C → IsPlace (λ D. IsChoice (x ∷ L) (suc k) D × In x D) Lexical q (x ∷ C)
led_place x L k q C r m =
    Place-iff (λ D. (E : List ℕ) × IsChoice L k E × (D ≡ x ∷ E)) (λ D. IsChoice (x ∷ L) (suc k) D × In x D) Lexical Lexical q (x ∷ C)
    (λ D h. (subst (IsChoice (x ∷ L) (suc k)) (sym h.2) (with_least x L k h.0 r h.1), subst (In x) (sym h.2) (inl refl)))
    (λ D h. ⊎_elim (λ a. a) (λ b. absurd (past_least x L (suc k) D r b h.1)) (choice_cases x L k D r h.0)) (λ D p h. h) (λ D p h. h)
    (Place-map (IsChoice L k) Lexical Lexical (λ E. x ∷ E) q C (λ D E p h e. cons_same x D E e) (λ D p h. lexical_more x D C h) (λ D p h. lexical_rest x D C h) m)

pub led_counted : (x : ℕ) (L : List ℕ) (k : ℕ) → Rises (x ∷ L) → Sums (λ D. IsChoice (x ∷ L) (suc k) D × In x D) (λ D. 1) (choose (length L) k)
led_counted x L k r =
    Sums-iff (λ D. (E : List ℕ) × IsChoice L k E × (D ≡ x ∷ E)) (λ D. IsChoice (x ∷ L) (suc k) D × In x D) (λ D. 1) (choose (length L) k)
    (λ D h. (subst (IsChoice (x ∷ L) (suc k)) (sym h.2) (with_least x L k h.0 r h.1), subst (In x) (sym h.2) (inl refl)))
    (λ D h. ⊎_elim (λ a. a) (λ b. absurd (past_least x L (suc k) D r b h.1)) (choice_cases x L k D r h.0))
    (Sums-map (IsChoice L k) (λ D. x ∷ D) (λ C. 1) (choose (length L) k) (λ D E p q e. cons_same x D E e) (choices_counted L k r.1))

pub none_led : (x : ℕ) (L : List ℕ) → Sums (λ D. IsChoice (x ∷ L) 0 D × In x D) (λ D. 1) 0
none_led x L = Sums-none (λ D. IsChoice (x ∷ L) 0 D × In x D) (λ D. 1) (λ D h. subst (In x) (only_empty (x ∷ L) D h.0) h.1)

-- the place of a choice with the least label, and of one without
pub place_with : (x : ℕ) (L : List ℕ) (k q : ℕ) (C : List ℕ) → Rises (x ∷ L) → IsPlace (IsChoice L k) Lexical q C → IsPlace (IsChoice (x ∷ L) (suc k)) Lexical q (x ∷ C)
place_with x L k q C r m = record {
  there = with_least x L k C r m.there;
  before = Sums-iff (λ D. (IsChoice (x ∷ L) (suc k) D × In x D) × Lexical D (x ∷ C)) (λ D. IsChoice (x ∷ L) (suc k) D × Lexical D (x ∷ C)) (λ D. 1) q
      (λ D h. (h.0.0, h.1))
      (λ D h. ⊎_elim (λ a. ((h.0, subst (In x) (sym a.2) (inl refl)), h.1)) (λ b. absurd (not_before x L k C D r b h.1)) (choice_cases x L k D r h.0))
      (led_place x L k q C r m).before;
}

pub place_without : (x : ℕ) (L : List ℕ) (k q : ℕ) (C : List ℕ) → Rises (x ∷ L) → IsPlace (IsChoice L (suc k)) Lexical q C → IsPlace (IsChoice (x ∷ L) (suc k)) Lexical (choose (length L) k + q) C
place_without x L k q C r m = record {
  there = without_least x L (suc k) C m.there;
  before = Sums-iff (λ D. ((E : List ℕ) × IsChoice L k E × (D ≡ x ∷ E)) ⊎ (IsChoice L (suc k) D × Lexical D C)) (λ D. IsChoice (x ∷ L) (suc k) D × Lexical D C) (λ D. 1) (choose (length L) k + q)
      (λ D h. ⊎_elim (λ a. (subst (IsChoice (x ∷ L) (suc k)) (sym a.2) (with_least x L k a.0 r a.1), subst (λ v. Lexical v C) (sym a.2) (with_before x L k a.0 C r m.there)))
      (λ b. (without_least x L (suc k) D b.0, b.1)) h)
      (λ D h. ⊎_elim (λ a. inl a) (λ b. inr (b, h.1)) (choice_cases x L k D r h.0))
      (Sums-either (λ D. (E : List ℕ) × IsChoice L k E × (D ≡ x ∷ E)) (λ D. IsChoice L (suc k) D × Lexical D C) (λ D. 1) (choose (length L) k) q
      (λ D a b. past_least x L (suc k) D r b.0 (subst (In x) (sym a.2) (inl refl)))
      (Sums-map (IsChoice L k) (λ D. x ∷ D) (λ C. 1) (choose (length L) k) (λ D E p q e. cons_same x D E e) (choices_counted L k r.1)) m.before);
}

pub place_of_none : (L : List ℕ) → IsPlace (IsChoice L 0) Lexical 0 []
place_of_none L = Place-alone (IsChoice L 0) Lexical [] (empty_choice L) (λ D d h. let e : D ≡ [] = only_empty L D d in absurd (subst (λ v. Lexical v [] → ⊥) (sym e) (λ k. cc) h))
