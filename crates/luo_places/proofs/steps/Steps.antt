-- Steps through a listing.
use Rattle.std.proofs.Common.{◌≡◌, List, [], ◌∷◌, inl, inr, ⊎_elim, refl, sym, subst}
use Rattle.luo_finite.specs.Listing.{In, NoDouble, Lists, Pairwise}
use Rattle.luo_finite.proofs.Falling.{IsOrder}
use Rattle.luo_places.specs.steps.Next.{Steps, StepsFrom}

module _ {A : Type 0} (P : A → Type 0) (R : A → A → Type 0) (o : IsOrder R) where
  never : (x : A) → R x x → ⊥
  never x h = o.one_way x x h h

  -- FROM A LISTING: what is behind x is in the rest of it
  abbrev Behind : A → List A → Type 0
  Behind x l = (y : A) → P y → R x y → In y l

  steps_from : (x : A) (l : List A) → P x → ((y : A) → In y l → P y) → Pairwise R (x ∷ l) → Behind x l → StepsFrom P R x l
  steps_from x [] p sound rises behind = record { there = p; after = behind }
  steps_from x (z ∷ l) p sound rises behind = (
    record {
      here = p;
      there = sound z (inl refl);
      rises = rises.0 z (inl refl);
      between = λ y q h k. ⊎_elim (λ (e : y ≡ z). never z (subst (λ v. R v z) e k)) (λ i. o.one_way y z k (rises.1.0 y i)) (behind y q h);
    },
    steps_from z l (sound z (inl refl)) (λ y i. sound y (inr i)) rises.1
        (λ y q h. ⊎_elim (λ (e : y ≡ z). absurd (never z (subst (R z) e h))) (λ i. i) (behind y q (o.through x z y (rises.0 z (inl refl)) h))),
  )

  pub listing_steps : (l : List A) → Lists P l → Pairwise R l → Steps P R l
  listing_steps [] h rises = λ y q. h.complete y q
  listing_steps (x ∷ l) h rises = (
    record {
      there = h.sound x (inl refl);
      before = λ y q k. ⊎_elim (λ (e : y ≡ x). never x (subst (λ v. R v x) e k)) (λ i. o.one_way y x k (rises.0 y i)) (h.complete y q);
    },
    steps_from x l (h.sound x (inl refl)) (λ y i. h.sound y (inr i)) rises (λ y q k. ⊎_elim (λ (e : y ≡ x). absurd (never x (subst (R x) e k))) (λ i. i) (h.complete y q)),
  )

  -- FROM STEPS: all that is behind x is in the list, and the list rises
  from_sound : (x : A) (l : List A) → StepsFrom P R x l → (y : A) → In y l → P y × R x y
  from_sound x [] s y i = absurd i
  from_sound x (z ∷ l) s y (inl e) = (subst P (sym e) (s.0).there, subst (R x) (sym e) (s.0).rises)
  from_sound x (z ∷ l) s y (inr i) = let k = from_sound z l s.1 y i in (k.0, o.through x z y (s.0).rises k.1)

  from_all : (x : A) (l : List A) → StepsFrom P R x l → (y : A) → P y → R x y → In y l
  from_all x [] s y p h = s.after y p h
  from_all x (z ∷ l) s y p h = ⊎_elim (λ k. absurd ((s.0).between y p h k)) (λ k. ⊎_elim (λ e. inl e) (λ g. inr (from_all z l s.1 y p g)) k) (o.either y z)

  from_rises : (x : A) (l : List A) → StepsFrom P R x l → Pairwise R (x ∷ l)
  from_rises x [] s = ((λ y i. absurd i), tt)
  from_rises x (z ∷ l) s = ((λ y i. (from_sound x (z ∷ l) s y i).1), from_rises z l s.1)

  single : (l : List A) → Pairwise R l → NoDouble l
  single [] r = tt
  single (x ∷ l) r = ((λ i. never x (r.0 x i)), single l r.1)

  pub steps_listing : (l : List A) → Steps P R l → Lists P l × Pairwise R l
  steps_listing [] s = (record { single = tt; sound = λ y i. absurd i; complete = λ y p. s y p }, tt)
  steps_listing (x ∷ l) s =
      let r = from_rises x l s.1 in (
        record {
          single = single (x ∷ l) r;
          sound = λ y i. ⊎_elim (λ (e : y ≡ x). subst P (sym e) (s.0).there) (λ j. (from_sound x l s.1 y j).0) i;
          complete = λ y p. ⊎_elim (λ k. absurd ((s.0).before y p k)) (λ k. ⊎_elim (λ e. inl e) (λ g. inr (from_all x l s.1 y p g)) k) (o.either y x);
        },
        r,
      )
