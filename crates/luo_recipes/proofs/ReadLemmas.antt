-- A product at size n reads only what is filled: the entries of smaller sizes, and those of size n to which a same-size step leads.
use Rattle.std.proofs.Common.{◌≡◌, ◌⊎◌, ℕ, zero, suc, ◌+◌, ◌*◌, ◌≤◌, ◌<◌, inl, inr, List, [], ◌∷◌, map, refl, sym, ◌∙◌, ap, arith}
use Rattle.luo_finite.specs.Listing.{In}
use Rattle.luo_model.specs.declared.program.Universe.{Universe}
use Rattle.luo_counting.specs.Sharing.{shares, products}
use Rattle.luo_recipes.specs.Shares.{inner, point_all, HasNone, AreReady, AreCharged}
use Rattle.luo_recipes.proofs.ShareLemmas.{times-same, none-left, none-right, shares-first, shares-inner, inner-same, shares-same, products-same}

pub none_or_some : (n : ℕ) → (n ≡ 0) ⊎ (n ≡ 0 → ⊥)
none_or_some zero = inl refl
none_or_some (suc n) = inr (λ e. absurd (omega arith))

neither : {A B : Type 0} → (A → ⊥) → (B → ⊥) → A ⊎ B → ⊥
neither f g (inl a) = f a
neither f g (inr b) = g b

-- the two products in which one gets all are alike
outer-left : (a b c d : ℕ) → a ≡ b → (b ≡ 0) ⊎ (b ≡ 0 → ⊥) → ((b ≡ 0 → ⊥) → c ≡ d) → a * c ≡ b * d
outer-left a b c d e (inl z) h = none-left a c b d (e ∙ z) z
outer-left a b c d e (inr n) h = times-same a c b d e (h n)

outer-right : {Z N : Type 0} (u t c d : ℕ) → (Z → ⊥) → (N → d ≡ 0) → c ≡ d → (u ≡ t) ⊎ ((u ≡ 0) × (Z ⊎ N)) → u * c ≡ t * d
outer-right u t c d z n e (inl q) = times-same u c t d q e
outer-right u t c d z n e (inr (q, inl y)) = absurd (z y)
outer-right u t c d z n e (inr (q, inr y)) = none-right u c t d (e ∙ n y) (n y)

outer-charge : {Z N : Type 0} (u t c d : ℕ) → (Z → ⊥) → (N → d ≡ 0) → c ≡ d → (u ≡ t) ⊎ (Z ⊎ N) → u * c ≡ t * d
outer-charge u t c d z n e (inl q) = times-same u c t d q e
outer-charge u t c d z n e (inr (inl y)) = absurd (z y)
outer-charge u t c d z n e (inr (inr y)) = none-right u c t d (e ∙ n y) (n y)

three : (a b c d e f : ℕ) → a ≡ d → b ≡ e → c ≡ f → a + (b + c) ≡ d + (e + f)
three a b c d e f x y z = cc

both : (a b c d : ℕ) → a ≡ c → b ≡ d → a + b ≡ c + d
both a b c d e f = cc

-- one more factor at size 0
head_first : (a0 b0 A B : ℕ) {Z N : Type 0} → (Z → ⊥) → (N → A ≡ 0) → ((a0 ≡ 0 → ⊥) → B ≡ A) → (b0 ≡ a0) ⊎ ((b0 ≡ 0) × (Z ⊎ N)) → (a0 ≡ 0) ⊎ (a0 ≡ 0 → ⊥) → b0 * B ≡ a0 * A
head_first a0 b0 A B z n h (inl e) (inl q) = none-left b0 B a0 A (e ∙ q) q
head_first a0 b0 A B z n h (inl e) (inr q) = times-same b0 B a0 A e (h q)
head_first a0 b0 A B z n h (inr (e, inl y)) q = absurd (z y)
head_first a0 b0 A B z n h (inr (e, inr y)) q = none-left b0 B 0 0 e refl ∙ none-right 0 0 a0 A refl (n y)

module _ (univ : Universe) where
  -- where a factor has nothing of size 0, the product has nothing of size 0
  pub none-at : {X : Type 0} (a : X → ℕ → ℕ) (xs : List X) → HasNone a xs → products univ (map a xs) 0 ≡ 0
  none-at a [] h = absurd h.1
  none-at a (x ∷ xs) (y, inl e, z) = shares-first univ (a x) (products univ (map a xs)) ∙ none-left (a x 0) (products univ (map a xs) 0) 0 0 (ap (λ w. a w 0) (sym e) ∙ z) refl
  none-at a (x ∷ xs) (y, inr i, z) = shares-first univ (a x) (products univ (map a xs)) ∙ none-right (a x 0) (products univ (map a xs) 0) 0 0 (none-at a xs (y, i, z)) refl

  point_all-same : {X : Type 0} (a u t : X → ℕ → ℕ) (xs : List X) (n : ℕ) → ((x : X) → In x xs → (k : ℕ) → k ≤ n → u x k ≡ t x k) → point_all univ a u xs n ≡ point_all univ a t xs n
  point_all-same a u t [] n h = refl
  point_all-same a u t (x ∷ xs) n h =
      both (shares univ (u x) (products univ (map a xs)) n) (shares univ (a x) (point_all univ a u xs) n) (shares univ (t x) (products univ (map a xs)) n) (shares univ (a x) (point_all univ a t xs) n)
      (shares-same univ (u x) (products univ (map a xs)) (t x) (products univ (map a xs)) n (h x (inl refl)) (λ k l. refl))
      (shares-same univ (a x) (point_all univ a u xs) (a x) (point_all univ a t xs) n (λ k l. refl) (λ k l. point_all-same a u t xs k (λ y i j g. h y (inr i) j (omega arith))))

  -- the table's numbers b give the product's number at n, where they are right below n and each is ready at n
  pub reads : {X : Type 0} (a b : X → ℕ → ℕ) (n : ℕ) (Z : Type 0) (xs : List X) → (Z → ⊥) → ((x : X) → In x xs → (k : ℕ) → k < n → b x k ≡ a x k) → AreReady a a b n Z xs
      → products univ (map b xs) n ≡ products univ (map a xs) n
  reads a b n Z [] z h r = refl
  reads a b zero Z (x ∷ xs) z h r =
      shares-first univ (b x) (products univ (map b xs))
      ∙ head_first (a x 0) (b x 0) (products univ (map a xs) 0) (products univ (map b xs) 0) z (none-at a xs)
      (λ q. reads a b zero (Z ⊎ (a x 0 ≡ 0)) xs (neither z q) (λ y i k l. h y (inr i) k l) r.1) r.0 (none_or_some (a x 0))
      ∙ sym (shares-first univ (a x) (products univ (map a xs)))
  reads a b (suc m) Z (x ∷ xs) z h r =
      let A : ℕ → ℕ = products univ (map a xs) in
      let B : ℕ → ℕ = products univ (map b xs) in
      let below : (k : ℕ) → k < suc m → B k ≡ A k = λ k l. products-same univ b a xs k (λ y i j g. h y (inr i) j (omega arith)) in
      let e0 : b x 0 ≡ a x 0 = h x (inl refl) 0 (omega arith) in
      shares-inner univ (b x) B m
      ∙ three (inner univ (b x) B (suc m)) (b x 0 * B (suc m)) (b x (suc m) * B 0) (inner univ (a x) A (suc m)) (a x 0 * A (suc m)) (a x (suc m) * A 0)
      (inner-same univ (b x) B (a x) A (suc m) (λ k l. h x (inl refl) k l) below)
      (outer-left (b x 0) (a x 0) (B (suc m)) (A (suc m)) e0 (none_or_some (a x 0))
      (λ q. reads a b (suc m) (Z ⊎ (a x 0 ≡ 0)) xs (neither z q) (λ y i k l. h y (inr i) k l) r.1))
      (outer-right (b x (suc m)) (a x (suc m)) (B 0) (A 0) z (none-at a xs) (below 0 (omega arith)) r.0)
      ∙ sym (shares-inner univ (a x) A m)

  -- the same for charges: the counts a are all right, and the table's charges u are right below n and ready at n
  pub reads-point : {X : Type 0} (a t u : X → ℕ → ℕ) (n : ℕ) (Z : Type 0) (xs : List X) → (Z → ⊥) → ((x : X) → In x xs → (k : ℕ) → k < n → u x k ≡ t x k) → AreCharged a t u n Z xs
      → point_all univ a u xs n ≡ point_all univ a t xs n
  reads-point a t u n Z [] z h r = refl
  reads-point a t u zero Z (x ∷ xs) z h r =
      let A : ℕ → ℕ = products univ (map a xs) in
      both (shares univ (u x) A 0) (shares univ (a x) (point_all univ a u xs) 0) (shares univ (t x) A 0) (shares univ (a x) (point_all univ a t xs) 0)
      (shares-first univ (u x) A ∙ outer-charge (u x 0) (t x 0) (A 0) (A 0) z (none-at a xs) refl r.0 ∙ sym (shares-first univ (t x) A))
      (shares-first univ (a x) (point_all univ a u xs)
      ∙ outer-left (a x 0) (a x 0) (point_all univ a u xs 0) (point_all univ a t xs 0) refl (none_or_some (a x 0))
      (λ q. reads-point a t u zero (Z ⊎ (a x 0 ≡ 0)) xs (neither z q) (λ y i k l. h y (inr i) k l) r.1)
      ∙ sym (shares-first univ (a x) (point_all univ a t xs)))
  reads-point a t u (suc m) Z (x ∷ xs) z h r =
      let A : ℕ → ℕ = products univ (map a xs) in
      let below : (k : ℕ) → k < suc m → point_all univ a u xs k ≡ point_all univ a t xs k = λ k l. point_all-same a u t xs k (λ y i j g. h y (inr i) j (omega arith)) in
      both (shares univ (u x) A (suc m)) (shares univ (a x) (point_all univ a u xs) (suc m)) (shares univ (t x) A (suc m)) (shares univ (a x) (point_all univ a t xs) (suc m))
      (shares-inner univ (u x) A m
      ∙ three (inner univ (u x) A (suc m)) (u x 0 * A (suc m)) (u x (suc m) * A 0) (inner univ (t x) A (suc m)) (t x 0 * A (suc m)) (t x (suc m) * A 0)
      (inner-same univ (u x) A (t x) A (suc m) (λ k l. h x (inl refl) k l) (λ k l. refl))
      (times-same (u x 0) (A (suc m)) (t x 0) (A (suc m)) (h x (inl refl) 0 (omega arith)) refl)
      (outer-charge (u x (suc m)) (t x (suc m)) (A 0) (A 0) z (none-at a xs) refl r.0)
      ∙ sym (shares-inner univ (t x) A m))
      (shares-inner univ (a x) (point_all univ a u xs) m
      ∙ three (inner univ (a x) (point_all univ a u xs) (suc m)) (a x 0 * point_all univ a u xs (suc m)) (a x (suc m) * point_all univ a u xs 0)
      (inner univ (a x) (point_all univ a t xs) (suc m)) (a x 0 * point_all univ a t xs (suc m)) (a x (suc m) * point_all univ a t xs 0)
      (inner-same univ (a x) (point_all univ a u xs) (a x) (point_all univ a t xs) (suc m) (λ k l. refl) below)
      (outer-left (a x 0) (a x 0) (point_all univ a u xs (suc m)) (point_all univ a t xs (suc m)) refl (none_or_some (a x 0))
      (λ q. reads-point a t u (suc m) (Z ⊎ (a x 0 ≡ 0)) xs (neither z q) (λ y i k l. h y (inr i) k l) r.1))
      (times-same (a x (suc m)) (point_all univ a u xs 0) (a x (suc m)) (point_all univ a t xs 0) refl (below 0 (omega arith)))
      ∙ sym (shares-inner univ (a x) (point_all univ a t xs) m))

  -- points over counts that are alike up to n
  pub point_all-both : {X : Type 0} (a b t : X → ℕ → ℕ) (xs : List X) (n : ℕ) → ((x : X) → In x xs → (k : ℕ) → k ≤ n → a x k ≡ b x k) → point_all univ a t xs n ≡ point_all univ b t xs n
  point_all-both a b t [] n h = refl
  point_all-both a b t (x ∷ xs) n h =
      both (shares univ (t x) (products univ (map a xs)) n) (shares univ (a x) (point_all univ a t xs) n) (shares univ (t x) (products univ (map b xs)) n) (shares univ (b x) (point_all univ b t xs) n)
      (shares-same univ (t x) (products univ (map a xs)) (t x) (products univ (map b xs)) n (λ k l. refl) (λ k l. products-same univ a b xs k (λ y i j g. h y (inr i) j (omega arith))))
      (shares-same univ (a x) (point_all univ a t xs) (b x) (point_all univ b t xs) n (h x (inl refl)) (λ k l. point_all-both a b t xs k (λ y i j g. h y (inr i) j (omega arith))))
