-- The next choice of labels.
use Rattle.std.proofs.Common.{◌≡◌, ℕ, suc, ◌<◌, List, [], ◌∷◌, ◌⊎◌, inl, inr, ⊎_elim, refl, sym, subst, arith}
use Rattle.luo_finite.specs.Listing.{In}
use Rattle.luo_model.specs.Structures.{Rising}
use Rattle.luo_finite.specs.Places.{Lexical, IsChoice}
use Rattle.luo_places.specs.steps.Next.{IsNext, IsFirst, IsLast}
use Rattle.luo_finite.proofs.Orders.{lists_ordered}
use Rattle.luo_finite.proofs.Choices.{lexical_more, lexical_rest, with_least, without_least, choice_cases, only_empty, empty_choice, lexical_less, lexical_first}

past_least : (x : ℕ) (L : List ℕ) (k : ℕ) (D : List ℕ) → Rising (x ∷ L) → IsChoice L k D → In x D → ⊥
past_least x L k D r d i = let l : x < x = r.0 x (d.2 x i) in omega arith

-- a choice with the least number is before one without
with_before : (x : ℕ) (L : List ℕ) (k : ℕ) (D C : List ℕ) → Rising (x ∷ L) → IsChoice L (suc k) C → Lexical (x ∷ D) C
with_before x L k D [] r c = absurd (omega (arith, c.1))
with_before x L k D (y ∷ C) r c = lexical_less x y D C (r.0 y (c.2 y (inl refl)))

not_before : (x : ℕ) (L : List ℕ) (k : ℕ) (D C : List ℕ) → Rising (x ∷ L) → IsChoice L (suc k) C → Lexical C (x ∷ D) → ⊥
not_before x L k D [] r c h = omega (arith, c.1)
not_before x L k D (y ∷ C) r c h = let l : x < y = r.0 y (c.2 y (inl refl)) in omega (arith, l, lexical_first y x C D h)

module _ (x : ℕ) (L : List ℕ) (k : ℕ) (r : Rising (x ∷ L)) where
  abbrev All : List ℕ → Type 0
  All = IsChoice (x ∷ L) (suc k)

  cases : (C : List ℕ) → All C → ((D : List ℕ) × IsChoice L k D × (C ≡ x ∷ D)) ⊎ IsChoice L (suc k) C
  cases C c = choice_cases x L k C r c

  -- behind one with the least label
  behind_with : (C E : List ℕ) → All E → Lexical (x ∷ C) E → ((D : List ℕ) × IsChoice L k D × Lexical C D × (E ≡ x ∷ D)) ⊎ IsChoice L (suc k) E
  behind_with C E e h = ⊎_elim (λ a. inl (a.0, a.1, lexical_rest x C a.0 (subst (Lexical (x ∷ C)) a.2 h), a.2)) (λ b. inr b) (cases E e)

  before_with : (C E : List ℕ) → All E → Lexical E (x ∷ C) → (D : List ℕ) × IsChoice L k D × Lexical D C × (E ≡ x ∷ D)
  before_with C E e h = ⊎_elim (λ a. (a.0, a.1, lexical_rest x a.0 C (subst (λ v. Lexical v (x ∷ C)) a.2 h), a.2)) (λ b. absurd (not_before x L k C E r b h)) (cases E e)

  behind_without : (C E : List ℕ) → IsChoice L (suc k) C → All E → Lexical C E → IsChoice L (suc k) E
  behind_without C E c e h = ⊎_elim (λ a. absurd (not_before x L k a.0 C r c (subst (Lexical C) a.2 h))) (λ b. b) (cases E e)

  pub next_with : (C D : List ℕ) → IsNext (IsChoice L k) Lexical C D → IsNext All Lexical (x ∷ C) (x ∷ D)
  next_with C D n = record {
    here = with_least x L k C r n.here;
    there = with_least x L k D r n.there;
    rises = lexical_more x C D n.rises;
    between = λ E e h g. let a = before_with D E e g in n.between a.0 a.1 (lexical_rest x C a.0 (subst (Lexical (x ∷ C)) a.3 h)) a.2;
  }

  pub next_without : (C D : List ℕ) → IsNext (IsChoice L (suc k)) Lexical C D → IsNext All Lexical C D
  next_without C D n = record {
    here = without_least x L (suc k) C n.here;
    there = without_least x L (suc k) D n.there;
    rises = n.rises;
    between = λ E e h g. n.between E (behind_without C E n.here e h) h g;
  }

  -- behind the last with the least label the first without
  pub next_past : (C D : List ℕ) → IsLast (IsChoice L k) Lexical C → IsFirst (IsChoice L (suc k)) Lexical D → IsNext All Lexical (x ∷ C) D
  next_past C D l f = record {
    here = with_least x L k C r l.there;
    there = without_least x L (suc k) D f.there;
    rises = with_before x L k C D r f.there;
    between = λ E e h g. ⊎_elim (λ a. l.after a.0 a.1 a.2) (λ b. f.before E b g) (behind_with C E e h);
  }

  pub first_with : (C : List ℕ) → IsFirst (IsChoice L k) Lexical C → IsFirst All Lexical (x ∷ C)
  first_with C f = record { there = with_least x L k C r f.there; before = λ E e g. let a = before_with C E e g in f.before a.0 a.1 a.2 }

  pub last_without : (C : List ℕ) → IsLast (IsChoice L (suc k)) Lexical C → IsLast All Lexical C
  last_without C l = record { there = without_least x L (suc k) C l.there; after = λ E e h. l.after E (behind_without C E l.there e h) h }

  -- where no choice is without it
  pub last_with : (C : List ℕ) → ((D : List ℕ) → IsChoice L (suc k) D → ⊥) → IsLast (IsChoice L k) Lexical C → IsLast All Lexical (x ∷ C)
  last_with C none l = record { there = with_least x L k C r l.there; after = λ E e h. ⊎_elim (λ a. l.after a.0 a.1 a.2) (λ b. none E b) (behind_with C E e h) }

  -- sets and cycles: only those with the least label
  abbrev pub Led : List ℕ → Type 0
  Led E = IsChoice (x ∷ L) (suc k) E × In x E

  pub led_next : (C D : List ℕ) → IsNext (IsChoice L k) Lexical C D → IsNext Led Lexical (x ∷ C) (x ∷ D)
  led_next C D n =
      let m = next_with C D n in
      record { here = (m.here, inl refl); there = (m.there, inl refl); rises = m.rises; between = λ E e h g. m.between E e.0 h g }

  pub led_first : (C : List ℕ) → IsFirst (IsChoice L k) Lexical C → IsFirst Led Lexical (x ∷ C)
  led_first C f = let m = first_with C f in record { there = (m.there, inl refl); before = λ E e g. m.before E e.0 g }

  pub led_last : (C : List ℕ) → IsLast (IsChoice L k) Lexical C → IsLast Led Lexical (x ∷ C)
  led_last C l = record {
    there = (with_least x L k C r l.there, inl refl);
    after = λ E e h. ⊎_elim (λ a. l.after a.0 a.1 a.2) (λ b. past_least x L (suc k) E r b e.1) (behind_with C E e.0 h);
  }

-- of none there is one
pub first_of_none : (L : List ℕ) → IsFirst (IsChoice L 0) Lexical []
first_of_none L = record { there = empty_choice L; before = λ D d h. lists_ordered.one_way D [] h (subst (λ v. Lexical v D) (only_empty L D d) (subst (Lexical D) (sym (only_empty L D d)) h)) }

pub last_of_none : (L : List ℕ) → IsLast (IsChoice L 0) Lexical []
last_of_none L = record { there = empty_choice L; after = λ D d h. lists_ordered.one_way [] D h (subst (λ v. Lexical v []) (sym (only_empty L D d)) (subst (Lexical []) (only_empty L D d) h)) }
