-- A choice of labels, and the labels that are left.
use Rattle.std.proofs.Common.{◌≡◌, ℕ, ◌<◌, List, [], ◌∷◌, inl, inr, ⊎_elim, length, refl, sym, ◌∙◌, subst, map, arith}
use native.Mathlib.Decide.{ℕ_discrete}
use Rattle.luo_finite.specs.Listing.{In}
use Rattle.luo_finite.proofs.Membership.{In-append_left, In-append_right, In-map}
use Rattle.luo_model.specs.Structures.{Rising}
use Rattle.luo_counting.specs.Sharing.{splits}
use Rattle.luo_counting.proofs.Splits.{Two, put_left, put_right, split-one, split-left, split-rising}
use Rattle.luo_finite.specs.Places.{IsChoice}

goes_left : (x : ℕ) (L : List ℕ) (z : Two) → In z (splits L) → In (put_left x z) (splits (x ∷ L))
goes_left x L z i = In-append_left (put_left x z) (map (put_left x) (splits L)) (map (put_right x) (splits L)) (In-map (put_left x) z (splits L) i)

goes_right : (x : ℕ) (L : List ℕ) (z : Two) → In z (splits L) → In (put_right x z) (splits (x ∷ L))
goes_right x L z i = In-append_right (put_right x z) (map (put_left x) (splits L)) (map (put_right x) (splits L)) (In-map (put_right x) z (splits L) i)

-- the labels that a choice leaves
pub complement : (L C : List ℕ) → Rising L → Rising C → ((z : ℕ) → In z C → In z L) → (T : List ℕ) × In (C, T) (splits L)
complement [] [] r s h = ([], inl refl)
complement [] (c ∷ C) r s h = absurd (h c (inl refl))
complement (x ∷ L) [] r s h = let k = complement L [] r.1 tt (λ z i. absurd i) in (x ∷ k.0, goes_right x L ([], k.0) k.1)
complement (x ∷ L) (c ∷ C) r s h = by (ℕ_discrete c x) (λ sub. complement L C r.1 s.1 sub) (λ sub. complement L (c ∷ C) r.1 s sub)
  where
    by : Dec (c ≡ x) → (((z : ℕ) → In z C → In z L) → (T : List ℕ) × In (C, T) (splits L)) → (((z : ℕ) → In z (c ∷ C) → In z L) → (T : List ℕ) × In (c ∷ C, T) (splits L))
        → (T : List ℕ) × In (c ∷ C, T) (splits (x ∷ L))
    by (yes e) left right =
        let k = left (λ z i. ⊎_elim (λ (q : z ≡ x). let l : c < z = s.0 z i in absurd (omega (arith, l, q, e))) (λ j. j) (h z (inr i))) in
        (k.0, subst (λ y. In (y ∷ C, k.0) (splits (x ∷ L))) (sym e) (goes_left x L (C, k.0) k.1))
    by (no n) left right =
        let later : x < c = ⊎_elim (λ e. absurd (n e)) (λ j. r.0 c j) (h c (inl refl)) in
        let k = right (λ z i. ⊎_elim (λ (q : z ≡ x). absurd (⊎_elim (λ (e : z ≡ c). n (sym e ∙ q)) (λ j. let l : c < z = s.0 z j in omega (arith, l, q, later)) i)) (λ j. j) (h z i)) in
        (x ∷ k.0, goes_right x L (c ∷ C, k.0) k.1)

-- the left part of a split decides it
pub left_decides : (L : List ℕ) (y z : Two) → Rising L → In y (splits L) → In z (splits L) → y.0 ≡ z.0 → y ≡ z
left_decides L y z r i j e = split-one L y z r i j (λ n k. subst (In n) e k) (λ n k. subst (In n) (sym e) k)

-- and is a choice
pub left_chosen : (L : List ℕ) (z : Two) → Rising L → In z (splits L) → IsChoice L (length z.0) z.0
left_chosen L z r i = ((split-rising L z r i).0, refl, λ n j. split-left L z n i j)
