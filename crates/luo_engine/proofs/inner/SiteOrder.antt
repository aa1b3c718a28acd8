-- Sites listed by rank, then by level, then by number.
use Rattle.std.proofs.Common.{◌≡◌, ◌⊎◌, ℕ, ◌+◌, ◌≤◌, ◌<◌, inl, inr, ⊎_elim, List, [], ◌∷◌, ◌++◌, length, sym, ◌∙◌, ap, subst, arith, Some}
use Rattle.std.proofs.lemmas.Option.{slice_get_within}
use Rattle.luo_finite.proofs.Places.{none_some, get_last, get_old, get_new}
use Rattle.luo_engine.specs.inner.Filled.{rank_of, IsOrderOf}
use Rattle.luo_engine.specs.inner.Listed.{IsSiteBefore, IsSiteEarly, AreListed, AreSitesListed}

less_or_eq : (a b : ℕ) → a < b + 1 → (a < b) ⊎ (a ≡ b)
less_or_eq a b h = grind arith

-- nothing new is early
same_listed : (size : ℕ) (Before : ℕ → ℕ → Type 0) (Early More : ℕ → Type 0) (order : List ℕ) → AreListed size Before Early order → ((y : ℕ) → Early y → More y) → ((y : ℕ) → y < size → More y → Early y) → AreListed size Before More order
same_listed size Before Early More order l f g = record {
  there = λ j y e. let t = l.there j y e in (t.0, f y t.1);
  complete = λ y h m. l.complete y h (g y h m);
  rising = l.rising;
}

-- x is early as well, behind all others
more_listed : (size x : ℕ) (Before : ℕ → ℕ → Type 0) (Early More : ℕ → Type 0) (order : List ℕ) → AreListed size Before Early order → x < size → ((y : ℕ) → Early y → More y × Before y x) → More x → ((y : ℕ) → More y → Early y ⊎ (y ≡ x))
    → AreListed size Before More (order ++ x ∷ [])
more_listed size x Before Early More order l h f m g = record {
  there = λ j y e. ⊎_elim (λ a. let t = l.there j y a in (t.0, (f y t.1).0)) (λ a. (omega (arith, h, a.1), subst More a.1 m)) (get_last order x j y e);
  complete = λ y b a. ⊎_elim (λ c. let w = l.complete y b c in (w.0, get_old order x w.0 y w.1)) (λ c. (length order, get_new order x ∙ ap Some (sym c))) (g y a);
  rising = λ i j y z o a b. ⊎_elim
      (λ c. ⊎_elim (λ d. l.rising i j y z o d c) (λ d. absurd (omega (arith, o, d.0, slice_get_within order j z c))) (get_last order x i y a))
      (λ c. ⊎_elim (λ d. subst (Before y) c.1 (f y (l.there i y d).1).1) (λ d. absurd (omega (arith, o, d.0, c.0))) (get_last order x i y a))
      (get_last order x j z b);
}

module _ (ranks levels : List ℕ) where
  early_more : (r l x y : ℕ) → IsSiteEarly ranks levels r l x y → IsSiteEarly ranks levels r l (x + 1) y
  early_more r l x y (inl a) = inl a
  early_more r l x y (inr (e, inl a)) = inr (e, inl a)
  early_more r l x y (inr (e, inr a)) = inr (e, inr (a.0, omega (arith, a.1)))

  early_back : (r l x y : ℕ) → IsSiteEarly ranks levels r l (x + 1) y → IsSiteEarly ranks levels r l x y ⊎ ((y ≡ x) × ((rank_of ranks y ≡ r) × (rank_of levels y ≡ l)))
  early_back r l x y (inl a) = inl (inl a)
  early_back r l x y (inr (e, inl a)) = inl (inr (e, inl a))
  early_back r l x y (inr (e, inr a)) = ⊎_elim (λ h. inl (inr (e, inr (a.0, h)))) (λ h. inr (h, (e, a.0))) (less_or_eq y x a.1)

  early_before : (r l x y : ℕ) → rank_of ranks x ≡ r → rank_of levels x ≡ l → IsSiteEarly ranks levels r l x y → IsSiteBefore ranks levels y x
  early_before r l x y e h (inl a) = inl (omega (arith, a, e))
  early_before r l x y e h (inr (b, inl a)) = inr (b ∙ sym e, inl (omega (arith, a, h)))
  early_before r l x y e h (inr (b, inr a)) = inr (b ∙ sym e, inr (a.0 ∙ sym h, a.1))

  pub site_listed : (r l x : ℕ) (order new : List ℕ) → AreSitesListed ranks levels r l x order → x < length ranks → rank_of ranks x ≡ r → rank_of levels x ≡ l → new ≡ order ++ x ∷ [] → AreSitesListed ranks levels r l (x + 1) new
  site_listed r l x order new a h e g q =
      subst (AreSitesListed ranks levels r l (x + 1)) (sym q)
      (more_listed (length ranks) x (IsSiteBefore ranks levels) (IsSiteEarly ranks levels r l x) (IsSiteEarly ranks levels r l (x + 1)) order a h
      (λ y b. (early_more r l x y b, early_before r l x y e g b)) (inr (e, inr (g, omega arith)))
      (λ y b. ⊎_elim (λ c. inl c) (λ c. inr c.0) (early_back r l x y b)))

  pub site_passed : (r l x : ℕ) (order : List ℕ) → AreSitesListed ranks levels r l x order → ((rank_of ranks x ≡ r) × (rank_of levels x ≡ l) → ⊥) → AreSitesListed ranks levels r l (x + 1) order
  site_passed r l x order a n =
      same_listed (length ranks) (IsSiteBefore ranks levels) (IsSiteEarly ranks levels r l x) (IsSiteEarly ranks levels r l (x + 1)) order a (early_more r l x)
      (λ y h b. ⊎_elim (λ c. c) (λ c. absurd (n (subst (λ z. (rank_of ranks z ≡ r) × (rank_of levels z ≡ l)) c.0 c.1))) (early_back r l x y b))

  next_level : (r l x y : ℕ) → IsSiteEarly ranks levels r l x y → IsSiteEarly ranks levels r (l + 1) 0 y
  next_level r l x y (inl a) = inl a
  next_level r l x y (inr (e, inl a)) = inr (e, inl (omega (arith, a)))
  next_level r l x y (inr (e, inr a)) = inr (e, inl (omega (arith, a.0)))

  level_back : (r l x y : ℕ) → y < x → IsSiteEarly ranks levels r (l + 1) 0 y → IsSiteEarly ranks levels r l x y
  level_back r l x y h (inl a) = inl a
  level_back r l x y h (inr (e, inl a)) = inr (e, ⊎_elim (λ c. inl c) (λ c. inr (c, h)) (less_or_eq (rank_of levels y) l a))
  level_back r l x y h (inr (e, inr a)) = absurd (omega (arith, a.1))

  pub level_listed : (r l x : ℕ) (order : List ℕ) → AreSitesListed ranks levels r l x order → length ranks ≤ x → AreSitesListed ranks levels r (l + 1) 0 order
  level_listed r l x order a h =
      same_listed (length ranks) (IsSiteBefore ranks levels) (IsSiteEarly ranks levels r l x) (IsSiteEarly ranks levels r (l + 1) 0) order a (next_level r l x) (λ y b c. level_back r l x y (omega (arith, b, h)) c)

  next_rank : (r l y : ℕ) → IsSiteEarly ranks levels r l 0 y → IsSiteEarly ranks levels (r + 1) 0 0 y
  next_rank r l y (inl a) = inl (omega (arith, a))
  next_rank r l y (inr (e, a)) = inl (omega (arith, e))

  rank_back : (r l y : ℕ) → rank_of levels y < l → IsSiteEarly ranks levels (r + 1) 0 0 y → IsSiteEarly ranks levels r l 0 y
  rank_back r l y h (inl a) = ⊎_elim (λ c. inl c) (λ c. inr (c, inl h)) (less_or_eq (rank_of ranks y) r a)
  rank_back r l y h (inr (e, inl a)) = absurd (omega (arith, a))
  rank_back r l y h (inr (e, inr a)) = absurd (omega (arith, a.1))

  pub rank_listed : (r l top : ℕ) (order : List ℕ) → AreSitesListed ranks levels r l 0 order → top ≤ l → ((y : ℕ) → y < length ranks → rank_of levels y < top) → AreSitesListed ranks levels (r + 1) 0 0 order
  rank_listed r l top order a h small =
      same_listed (length ranks) (IsSiteBefore ranks levels) (IsSiteEarly ranks levels r l 0) (IsSiteEarly ranks levels (r + 1) 0 0) order a (next_rank r l) (λ y b c. rank_back r l y (omega (arith, small y b, h)) c)

  no_early : (y : ℕ) → IsSiteEarly ranks levels 0 0 0 y → ⊥
  no_early y (inl a) = absurd (omega (arith, a))
  no_early y (inr (e, inl a)) = absurd (omega (arith, a))
  no_early y (inr (e, inr a)) = absurd (omega (arith, a.1))

  pub none_listed : AreSitesListed ranks levels 0 0 0 []
  none_listed = record { there = λ j y e. absurd (none_some y e); complete = λ y h a. absurd (no_early y a); rising = λ i j y z o e f. absurd (none_some y e) }

  pub all_listed : (r top : ℕ) (order : List ℕ) → AreSitesListed ranks levels r 0 0 order → top ≤ r → ((y : ℕ) → y < length ranks → rank_of ranks y < top) → IsOrderOf (length ranks) (IsSiteBefore ranks levels) order
  all_listed r top order a h small = record { there = λ j x g. (a.there j x g).0; complete = λ x b. a.complete x b (inl (omega (arith, small x b, h))); rising = a.rising }
