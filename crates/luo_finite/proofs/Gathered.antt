-- Lists that a loop gathers from the elements of another.
use Rattle.std.proofs.Common.{◌≡◌, ◌↔◌, ℕ, ◌+◌, ◌≤◌, ◌<◌, List, [], ◌∷◌, ◌++◌, inl, ⊎_elim, length, sym, ◌∙◌, ap, subst, arith, get_or, Some, slice_get}
use Rattle.std.proofs.lemmas.Option.{slice_get_within, slice_get-get_or}
use Rattle.luo_finite.specs.Listing.{In}
use Rattle.luo_finite.proofs.Membership.{In-append_left, In-append_right, In-append_cases}
use Rattle.luo_finite.proofs.Places.{some_same, none_some, get_last, one_longer, less_or_same}

-- exactly the y that an element before place n gives
abbrev pub Gathers : {A : Type 0} → (ℕ → A → ℕ → Type 0) → List A → ℕ → List ℕ → Type 0
Gathers {A} G xs n ys = (y : ℕ) → In y ys ↔ ((k : ℕ) × (x : A) × (k < n) × (slice_get xs k ≡ Some x) × G k x y)

module _ {A : Type 0} (G : ℕ → A → ℕ → Type 0) (xs : List A) where
  pub gathers_none : (ys : List ℕ) → ys ≡ [] → Gathers G xs 0 ys
  gathers_none ys e y = (λ i. absurd (subst (In y) e i), λ r. absurd (omega (arith, r.2)))

  -- the next element gives one number
  pub gathers_more : (n : ℕ) (x : A) (y : ℕ) (ys more : List ℕ) → slice_get xs n ≡ Some x → G n x y → ((z : ℕ) → G n x z → z ≡ y) → more ≡ ys ++ y ∷ [] → Gathers G xs n ys → Gathers G xs (n + 1) more
  gathers_more n x y ys more e g one is h z = (
    λ i. ⊎_elim
        (λ a. let r = (h z).0 a in (r.0, r.1, omega (arith, r.2), r.3, r.4))
        (λ b. ⊎_elim (λ s. (n, x, omega arith, e, subst (G n x) (sym s) g)) (λ w. absurd w) b)
        (In-append_cases z ys (y ∷ []) (subst (In z) is i)),
    λ r. subst (In z) (sym is) (⊎_elim
        (λ (a : r.0 < n). In-append_left z ys (y ∷ []) ((h z).1 (r.0, r.1, a, r.3, r.4)))
        (λ (b : r.0 ≡ n). In-append_right z ys (y ∷ []) (inl (one z (subst (λ w. G n w z) (some_same r.1 x (sym r.3 ∙ ap (slice_get xs) b ∙ e)) (subst (λ k. G k r.1 z) b r.4)))))
        (less_or_same r.0 n (omega (arith, r.2)))),
  )

  -- and none
  pub gathers_past : (n : ℕ) (x : A) (ys : List ℕ) → slice_get xs n ≡ Some x → ((z : ℕ) → G n x z → ⊥) → Gathers G xs n ys → Gathers G xs (n + 1) ys
  gathers_past n x ys e none h z = (
    λ i. let r = (h z).0 i in (r.0, r.1, omega (arith, r.2), r.3, r.4),
    λ r. ⊎_elim
        (λ (a : r.0 < n). (h z).1 (r.0, r.1, a, r.3, r.4))
        (λ (b : r.0 ≡ n). absurd (none z (subst (λ w. G n w z) (some_same r.1 x (sym r.3 ∙ ap (slice_get xs) b ∙ e)) (subst (λ k. G k r.1 z) b r.4))))
        (less_or_same r.0 n (omega (arith, r.2))),
  )

  pub gathers_all : (n : ℕ) (ys : List ℕ) → length xs ≤ n → Gathers G xs n ys → (y : ℕ) → In y ys ↔ ((k : ℕ) × (x : A) × (slice_get xs k ≡ Some x) × G k x y)
  gathers_all n ys l h y = (λ i. let r = (h y).0 i in (r.0, r.1, r.3, r.4), λ r. (h y).1 (r.0, r.1, omega (arith, slice_get_within xs r.0 r.1 r.2, l), r.2, r.3))

-- for each element before place n the list of what it gives
pub record EachGives {A : Type 0} (G : A → ℕ → Type 0) (xs : List A) (n : ℕ) (edges : List (List ℕ)) : Type 0 where
  pub long : length edges ≡ n
  pub gives : (k : ℕ) (x : A) (targets : List ℕ) → slice_get xs k ≡ Some x → slice_get edges k ≡ Some targets → (y : ℕ) → In y targets ↔ G x y

module _ {A : Type 0} (G : A → ℕ → Type 0) (xs : List A) where
  pub gives_none : (edges : List (List ℕ)) → edges ≡ [] → EachGives G xs 0 edges
  gives_none edges e = record { long = ap length e; gives = λ k x targets a b. absurd (none_some targets (sym (ap (λ l. slice_get l k) e) ∙ b)) }

  pub gives_more : (n : ℕ) (x : A) (targets : List ℕ) (edges more : List (List ℕ)) → slice_get xs n ≡ Some x → ((y : ℕ) → In y targets ↔ G x y) → more ≡ edges ++ targets ∷ [] → EachGives G xs n edges → EachGives G xs (n + 1) more
  gives_more n x targets edges more e g is h = subst (EachGives G xs (n + 1)) (sym is) (record {
    long = one_longer edges targets ∙ ap (λ k. k + 1) h.long;
    gives = λ k z others a b. ⊎_elim
        (λ o. h.gives k z others a o)
        (λ o. subst (λ l. (y : ℕ) → In y l ↔ G z y) o.1 (subst (λ w. (y : ℕ) → In y targets ↔ G w y) (some_same x z (sym e ∙ ap (slice_get xs) (let q : n ≡ k = omega (arith, o.0, h.long) in q) ∙ a)) g))
        (get_last edges targets k others b);
  })

-- the same, where the element is read at its place
module _ {A : Type 0} (G : ℕ → A → ℕ → Type 0) (xs : List A) where
  pub gathers_next : (n : ℕ) (d : A) (y : ℕ) (ys more : List ℕ) → n < length xs → G n (get_or xs n d) y → ((z : ℕ) → G n (get_or xs n d) z → z ≡ y) → more ≡ ys ++ y ∷ [] → Gathers G xs n ys → Gathers G xs (n + 1) more
  gathers_next n d y ys more l g one is h = gathers_more G xs n (get_or xs n d) y ys more (slice_get-get_or xs n d l) g one is h

  pub gathers_skip : (n : ℕ) (d : A) (ys : List ℕ) → n < length xs → ((z : ℕ) → G n (get_or xs n d) z → ⊥) → Gathers G xs n ys → Gathers G xs (n + 1) ys
  gathers_skip n d ys l none h = gathers_past G xs n (get_or xs n d) ys (slice_get-get_or xs n d l) none h
