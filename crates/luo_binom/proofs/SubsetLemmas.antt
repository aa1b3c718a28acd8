-- Steps through the choices of some labels.
use Rattle.std.proofs.Common.{◌≡◌, ℕ, zero, suc, ◌+◌, ◌-◌, ◌≤◌, ◌<◌, List, [], ◌∷◌, ◌++◌, ◌⊎◌, inl, inr, ⊎_elim, length, refl, sym, ◌∙◌, ap, subst, arith, take, slice_set, append_assoc}
use Rattle.std.proofs.lemmas.List.{take_more_set}
use Rattle.std.proofs.Math.Seq.{take-length}
use Rattle.luo_finite.specs.Binomial.{choose}
use Rattle.luo_finite.proofs.Binomials.{choose-past}
use Rattle.luo_finite.specs.Places.{IsPlace, IsChoice, Lexical}
use Rattle.luo_finite.proofs.Choices.{choice_cases, place_with, place_without, place_of_none}
use Rattle.luo_finite.proofs.OrderedPlaces.{no_longer}
use Rattle.luo_finite.proofs.Pairwise.{NoDouble-pairwise}
use Rattle.luo_binom.specs.inner.Written.{IsWritten}
use Rattle.luo_binom.specs.Laws.{Rises}

-- a choice is no longer than what it is chosen from
pub choice_short : (L C : List ℕ) → IsChoice L (length C) C → length C ≤ length L
choice_short L C c = no_longer C L (NoDouble-pairwise (λ x y. x < y) C (λ x h. omega arith) c.0) c.2

-- where there is a choice there are things enough
pub enough : (n k r : ℕ) → r < choose n k → k ≤ n
enough n k r h = ⊎_elim (λ l. l) (λ l. absurd (omega (arith, h, choose-past n k l))) (le_or k n)
  where
    le_or : (m n : ℕ) → (m ≤ n) ⊎ (n < m)
    le_or m n = grind arith

zero_or : (k : ℕ) → 1 ≤ k → (j : ℕ) × (k ≡ suc j)
zero_or zero h = absurd (omega arith)
zero_or (suc j) h = (j, refl)

-- so many begin with the least
pub choose_step : (n k : ℕ) → 1 ≤ k → choose (suc n) k ≡ choose n (k - 1) + choose n k
choose_step n k h = let j = zero_or k h in subst (λ i. choose (suc n) i ≡ choose n (i - 1) + choose n i) (sym j.1) (ap (λ i. choose n i + choose n (suc j.0)) (let e : j.0 ≡ suc j.0 - 1 = omega arith in e))

-- a choice at a place, where the least is in it
pub step_with : (labels rest C : List ℕ) (x k rank : ℕ) → labels ≡ x ∷ rest → Rises labels → 1 ≤ k → IsPlace (IsChoice rest (k - 1)) Lexical rank C → IsPlace (IsChoice labels k) Lexical rank (x ∷ C)
step_with labels rest C x k rank e r h m =
    let j = zero_or k h in
    subst (λ l. IsPlace (IsChoice l k) Lexical rank (x ∷ C)) (sym e)
    (subst (λ i. IsPlace (IsChoice (x ∷ rest) i) Lexical rank (x ∷ C)) (sym j.1)
    (place_with x rest j.0 rank C (subst Rises e r) (subst (λ i. IsPlace (IsChoice rest i) Lexical rank C) (let q : k - 1 ≡ j.0 = omega (arith, j.1) in q) m)))

-- and where it isn't
pub step_without : (labels rest C : List ℕ) (x k with rank : ℕ) → labels ≡ x ∷ rest → Rises labels → 1 ≤ k → with ≡ choose (length rest) (k - 1) → with ≤ rank → IsPlace (IsChoice rest k) Lexical (rank - with) C → IsPlace (IsChoice labels k) Lexical rank C
step_without labels rest C x k with rank e r h w l m =
    let j = zero_or k h in
    let q : k - 1 ≡ j.0 = omega (arith, j.1) in
    let c : choose (length rest) j.0 + (rank - with) ≡ rank = omega (arith, w, l, ap (choose (length rest)) q) in
    subst (λ l. IsPlace (IsChoice l k) Lexical rank C) (sym e)
    (subst (λ i. IsPlace (IsChoice (x ∷ rest) i) Lexical rank C) (sym j.1)
    (subst (λ i. IsPlace (IsChoice (x ∷ rest) (suc j.0)) Lexical i C) c
    (place_without x rest j.0 (rank - with) C (subst Rises e r) (subst (λ i. IsPlace (IsChoice rest i) Lexical (rank - with) C) j.1 m))))

-- what is written
pub written_with : (labels rest out new : List ℕ) (x at rank : ℕ) → labels ≡ x ∷ rest → Rises labels → at < length out → IsWritten rest rank (at + 1) (slice_set out at x) new → length (slice_set out at x) ≡ length out → IsWritten labels rank at out new
written_with labels rest out new x at rank e r h (C, m, w) n = (
  x ∷ C,
  step_with labels rest C x (length out - at) rank e r (omega (arith, h))
      (subst (λ i. IsPlace (IsChoice rest i) Lexical rank C) (let q : length (slice_set out at x) - (at + 1) ≡ length out - at - 1 = omega (arith, n) in q) m),
  w ∙ ap (λ v. v ++ C) (take_more_set out at x h) ∙ append_assoc (take at out) (x ∷ []) C,
)

pub written_without : (labels rest out new : List ℕ) (x at with rank : ℕ) → labels ≡ x ∷ rest → Rises labels → at < length out → with ≡ choose (length rest) (length out - at - 1) → with ≤ rank → IsWritten rest (rank - with) at out new → IsWritten labels rank at out new
written_without labels rest out new x at with rank e r h w l (C, m, d) = (C, step_without labels rest C x (length out - at) with rank e r (omega (arith, h)) w l m, d)

append_nil : (xs : List ℕ) → xs ++ [] ≡ xs
append_nil [] = refl
append_nil (x ∷ xs) = ap (λ z. x ∷ z) (append_nil xs)

pub written_none : (labels out : List ℕ) (at rank : ℕ) → at ≡ length out → rank < choose (length labels) (length out - at) → IsWritten labels rank at out out
written_none labels out at rank e h =
    let z : length out - at ≡ 0 = omega (arith, e) in
    let q : rank ≡ 0 = omega (arith, subst (λ k. rank < choose (length labels) k) z h) in (
      [],
      subst (λ k. IsPlace (IsChoice labels k) Lexical rank []) (sym z) (subst (λ k. IsPlace (IsChoice labels 0) Lexical k []) (sym q) (place_of_none labels)),
      sym (append_nil (take at out) ∙ ap (λ k. take k out) e ∙ take-length out),
    )

-- the place of a choice
pub rest_with : (labels rest part others : List ℕ) (x y : ℕ) → labels ≡ x ∷ rest → part ≡ y ∷ others → y ≡ x → Rises labels → IsChoice labels (length part) part → Rises rest × IsChoice rest (length others) others
rest_with labels rest part others x y e f g r c =
    let s : Rises (x ∷ rest) = subst Rises e r in
    let d : IsChoice (x ∷ rest) (length (y ∷ others)) (y ∷ others) = subst (λ l. IsChoice (x ∷ rest) (length l) l) f (subst (λ l. IsChoice l (length part) part) e c) in
    (s.1, (d.0.1, refl, λ z i. ⊎_elim (λ (q : z ≡ x). let l : y < z = d.0.0 z i in absurd (omega (arith, l, q, g))) (λ j. j) (d.2 z (inr i))))

pub rest_without : (labels rest part others : List ℕ) (x y : ℕ) → labels ≡ x ∷ rest → part ≡ y ∷ others → (y ≡ x → ⊥) → Rises labels → IsChoice labels (length part) part → Rises rest × IsChoice rest (length part) part
rest_without labels rest part others x y e f g r c =
    let s : Rises (x ∷ rest) = subst Rises e r in
    let d : IsChoice (x ∷ rest) (suc (length others)) (y ∷ others) = subst (λ l. IsChoice (x ∷ rest) (length l) l) f (subst (λ l. IsChoice l (length part) part) e c) in
    (s.1, ⊎_elim (λ a. let q : y ≡ x = cc a.2 in absurd (g q)) (λ b. subst (λ l. IsChoice rest (length l) l) (sym f) b) (choice_cases x rest (length others) (y ∷ others) s d))

pub place_same : (labels rest part others : List ℕ) (x y r : ℕ) → labels ≡ x ∷ rest → part ≡ y ∷ others → y ≡ x → Rises labels → IsPlace (IsChoice rest (length others)) Lexical r others → IsPlace (IsChoice labels (length part)) Lexical r part
place_same labels rest part others x y r e f g s m =
    subst (λ l. IsPlace (IsChoice labels (length l)) Lexical r l) (sym f ∙ refl)
    (subst (λ v. IsPlace (IsChoice labels (suc (length others))) Lexical r (v ∷ others)) (sym g)
    (subst (λ l. IsPlace (IsChoice l (suc (length others))) Lexical r (x ∷ others)) (sym e) (place_with x rest (length others) r others (subst Rises e s) m)))

pub place_past : (labels rest part others : List ℕ) (x y with r : ℕ) → labels ≡ x ∷ rest → part ≡ y ∷ others → Rises labels → with ≡ choose (length rest) (length others) → IsPlace (IsChoice rest (length part)) Lexical r part → IsPlace (IsChoice labels (length part)) Lexical (with + r) part
place_past labels rest part others x y with r e f s w m =
    let n : length part ≡ suc (length others) = ap length f in
    subst (λ k. IsPlace (IsChoice labels (length part)) Lexical (k + r) part) (sym w)
    (subst (λ k. IsPlace (IsChoice labels k) Lexical (choose (length rest) (length others) + r) part) (sym n)
    (subst (λ l. IsPlace (IsChoice l (suc (length others))) Lexical (choose (length rest) (length others) + r) part) (sym e)
    (place_without x rest (length others) r part (subst Rises e s) (subst (λ k. IsPlace (IsChoice rest k) Lexical r part) n m))))

pub below_same : (labels rest part others : List ℕ) (x y r : ℕ) → labels ≡ x ∷ rest → part ≡ y ∷ others → r < choose (length rest) (length others) → r < choose (length labels) (length part)
below_same labels rest part others x y r e f h =
    subst (λ n. r < choose n (length part)) (sym (ap length e)) (subst (λ k. r < choose (suc (length rest)) k) (sym (ap length f)) (omega (arith, h)))

pub below_past : (labels rest part others : List ℕ) (x y with r : ℕ) → labels ≡ x ∷ rest → part ≡ y ∷ others → with ≡ choose (length rest) (length others) → r < choose (length rest) (length part) → with + r < choose (length labels) (length part)
below_past labels rest part others x y with r e f w h =
    subst (λ n. with + r < choose n (length part)) (sym (ap length e)) (subst (λ k. with + r < choose (suc (length rest)) k) (sym (ap length f)) (omega (arith, w, subst (λ k. r < choose (length rest) k) (ap length f) h)))

pub place_empty : (labels part : List ℕ) → length part ≡ 0 → IsPlace (IsChoice labels (length part)) Lexical 0 part
place_empty labels [] e = place_of_none labels
place_empty labels (x ∷ part) e = absurd (omega (arith, e))

pub empty_of_none : (labels part : List ℕ) → length labels ≡ 0 → IsChoice labels (length part) part → length part ≡ 0
empty_of_none [] [] e c = refl
empty_of_none [] (x ∷ part) e c = absurd (c.2 x (inl refl))
empty_of_none (y ∷ labels) part e c = absurd (omega (arith, e))

pub some_empty : (labels part : List ℕ) → length part ≡ 0 → 0 < choose (length labels) (length part)
some_empty labels part e = subst (λ k. 0 < choose (length labels) k) (sym e) (omega arith)
