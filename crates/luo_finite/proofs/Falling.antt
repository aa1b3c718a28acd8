-- Strict orders, and listings in falling order.
use Rattle.std.proofs.Common.{◌≡◌, ℕ, ◌≤◌, ◌<◌, arith, List, [], ◌∷◌, ◌⊎◌, inl, inr, ⊎_elim, sym, subst}
use Rattle.luo_finite.specs.Listing.{In, NoDouble, Pairwise, Lists}
use Rattle.luo_finite.proofs.Pairwise.{NoDouble-pairwise}

-- a strict order of which one of two different things is before the other
pub record IsOrder {A : Type 0} (Before : A → A → Type 0) : Type 0 where
  pub one_way : (x y : A) → Before x y → Before y x → ⊥
  pub through : (x y z : A) → Before x y → Before y z → Before x z
  pub either : (x y : A) → Before x y ⊎ (x ≡ y) ⊎ Before y x

module _ {A : Type 0} (Before : A → A → Type 0) where
  -- each is before all that stand before it
  abbrev pub Falls : List A → Type 0
  Falls xs = Pairwise (λ x y. Before y x) xs

  -- x put into a list
  record Put (x : A) (l : List A) : Type 0 where
    list : List A
    falls : Falls list
    into : (z : A) → (z ≡ x) ⊎ In z l → In z list
    from : (z : A) → In z list → (z ≡ x) ⊎ In z l

  module _ (order : IsOrder Before) where
    put_at : (x y : A) (l : List A) → (In x (y ∷ l) → ⊥) → Falls (y ∷ l) → Put x l → Before x y ⊎ (x ≡ y) ⊎ Before y x → Put x (y ∷ l)
    put_at x y l absent f p (inl h) = record {
      list = y ∷ p.list;
      falls = ((λ z i. ⊎_elim (λ e. subst (λ v. Before v y) (sym e) h) (λ j. f.0 z j) (p.from z i)), p.falls);
      into = λ z i. ⊎_elim (λ e. inr (p.into z (inl e))) (λ j. ⊎_elim (λ e. inl e) (λ k. inr (p.into z (inr k))) j) i;
      from = λ z i. ⊎_elim (λ e. inr (inl e)) (λ j. ⊎_elim (λ e. inl e) (λ k. inr (inr k)) (p.from z j)) i;
    }
    put_at x y l absent f p (inr (inl e)) = absurd (absent (inl e))
    put_at x y l absent f p (inr (inr h)) = record {
      list = x ∷ (y ∷ l);
      falls = ((λ z i. ⊎_elim (λ e. subst (λ v. Before v x) (sym e) h) (λ j. order.through z y x (f.0 z j) h) i), f);
      into = λ z i. i;
      from = λ z i. i;
    }

    put : (x : A) (l : List A) → (In x l → ⊥) → Falls l → Put x l
    put x [] absent f = record { list = x ∷ []; falls = ((λ z i. absurd i), tt); into = λ z i. i; from = λ z i. i }
    put x (y ∷ l) absent f = put_at x y l absent f (put x l (λ i. absent (inr i)) f.1) (order.either x y)

    -- a list without doubles can be put into falling order
    falling : (l : List A) → NoDouble l → (m : List A) × Falls m × ((z : A) → In z l → In z m) × ((z : A) → In z m → In z l)
    falling [] d = ([], tt, (λ z i. i), λ z i. i)
    falling (x ∷ l) d =
        let r = falling l d.1 in
        let p = put x r.0 (λ i. d.0 (r.3 x i)) r.1 in
        (p.list, p.falls, (λ z i. p.into z (⊎_elim (λ e. inl e) (λ j. inr (r.2 z j)) i)), λ z i. ⊎_elim (λ e. inl e) (λ j. inr (r.3 z j)) (p.from z i))

    -- what has a listing has one in falling order
    pub falling_listing : (P : A → Type 0) (l : List A) → Lists P l → (m : List A) × Falls m × Lists P m
    falling_listing P l h =
        let r = falling l h.single in (
          r.0,
          r.1,
          record {
            single = NoDouble-pairwise (λ x y. Before y x) r.0 (λ x b. order.one_way x x b b) r.1;
            sound = λ x i. h.sound x (r.3 x i);
            complete = λ x p. r.2 x (h.complete x p);
          },
        )

-- the smaller one is before
abbrev pub IsBySize : {A : Type 0} → (A → ℕ) → (A → A → Type 0) → Type 0
IsBySize {A} size Before = (x y : A) → size x < size y → Before x y

-- so what isn't before is no smaller
pub size_falls : {A : Type 0} (size : A → ℕ) (Before : A → A → Type 0) → IsBySize size Before → (x y : A) → (Before x y → ⊥) → size y ≤ size x
size_falls size Before by_size x y h = ⊎_elim (λ l. l) (λ l. absurd (h (by_size x y l))) (le_or_lt (size y) (size x))
  where
    le_or_lt : (m n : ℕ) → (m ≤ n) ⊎ (n < m)
    le_or_lt m n = grind arith
