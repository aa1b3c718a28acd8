-- Multisets and powersets, their sizes added one at a time: sums of products of any weights.
use Rattle.std.proofs.Common.{◌≡◌, ℕ, zero, suc, ◌+◌, ◌*◌, ◌-◌, ◌≤◌, ◌<◌, List, [], ◌∷◌, ◌++◌, ◌⊎◌, inl, inr, ⊎_elim, length, refl, sym, ◌∙◌, ap, subst, arith, length-append}
use Rattle.std.proofs.Math.Nat.{add-mul, zero-mul}
use Rattle.luo_finite.specs.Listing.{In, Pairwise}
use Rattle.luo_finite.specs.Range.{below}
use Rattle.luo_finite.proofs.Pairwise.{Pairwise-append, Pairwise-append_left, Pairwise-append_right}
use Rattle.luo_finite.proofs.Ranges.{In-below, below_In, sum_below-zero}
use Rattle.luo_finite.specs.Each.{Each, total}
use Rattle.luo_counting.specs.Numbers.{chosen, back}
use Rattle.luo_counting.specs.Weights.{Algebra, IsAlgebra, times, product, Measured}
use Rattle.luo_counting.specs.WeightNumbers.{plane_in}
use Rattle.luo_counting.proofs.Led.{Each-In}
use Rattle.luo_counting.proofs.Measured.{Nil, Measured-at, Measured-iff, Measured-map, Measured-same, Measured-one, Measured-none, Measured-needed, Measured-over_below, times-zero_right, times-same}

-- what is left behind s
pub back-yes : (s : ℕ) (f : ℕ → ℕ) (m n : ℕ) → n ≡ s + m → back s f n ≡ f m
back-yes zero f m n e = ap f (let q : n ≡ m = omega arith in q)
back-yes (suc s) f m zero e = absurd (omega arith)
back-yes (suc s) f m (suc n) e = back-yes s f m n (omega arith)

pub back-no : (s : ℕ) (f : ℕ → ℕ) (n : ℕ) → n < s → back s f n ≡ 0
back-no zero f n h = absurd (omega arith)
back-no (suc s) f zero h = refl
back-no (suc s) f (suc n) h = back-no s f n (omega arith)

pub le_or : (s n : ℕ) → ((m : ℕ) × (n ≡ s + m)) ⊎ (n < s)
le_or zero n = inl (n, omega arith)
le_or (suc s) zero = inr (omega arith)
le_or (suc s) (suc n) = ⊎_elim (λ r. inl (r.0, omega (arith, r.1))) (λ h. inr (omega arith)) (le_or s n)

pub times_suc : (i s : ℕ) → suc i * s ≡ s + i * s
times_suc i s = ap (λ m. m * s) (let q : suc i ≡ 1 + i = omega arith in q) ∙ add-mul 1 i s ∙ ap (λ m. m + i * s) (let q : 1 * s ≡ s = omega arith in q)

-- none of size 0
pub back-start : (j d : ℕ) (f : ℕ → ℕ) → (j ≡ 0 → f 0 ≡ 0) → back (j * suc d) f 0 ≡ 0
back-start zero d f h = ap (λ s. back s f 0) (zero-mul (suc d)) ∙ h refl
back-start (suc j) d f h = back-no (suc j * suc d) f 0 (omega (arith, times_suc j (suc d)))

pub total-append : {A : Type 0} (f : A → ℕ) (xs ys : List A) → total f (xs ++ ys) ≡ total f xs + total f ys
total-append f [] ys = omega arith
total-append f (x ∷ xs) ys = omega (arith, total-append f xs ys)

Each-append : {A : Type 0} (P : A → Type 0) (xs ys : List A) → Each P xs → Each P ys → Each P (xs ++ ys)
Each-append P [] ys m k = k
Each-append P (x ∷ xs) ys m k = (m.0, Each-append P xs ys m.1 k)

pub Each-into : {A : Type 0} (P Q : A → Type 0) (xs : List A) → ((x : A) → P x → Q x) → Each P xs → Each Q xs
Each-into P Q [] f m = tt
Each-into P Q (x ∷ xs) f m = (f x m.0, Each-into P Q xs f m.1)

module _ {A : Type 0} (M : A → Type 0) (size : A → ℕ) (R : A → A → Type 0) where
  -- j items of size e, each so related to all behind it
  abbrev pub ClassRow : ℕ → ℕ → List A → Type 0
  ClassRow e j xs = Each (λ x. M x × (size x ≡ e)) xs × Pairwise R xs × (length xs ≡ j)

  -- k items of sizes at most d, of size n
  abbrev pub Bag : ℕ → ℕ → ℕ → List A → Type 0
  Bag d k n xs = Each (λ x. M x × (size x ≤ d)) xs × Pairwise R xs × (length xs ≡ k) × (total size xs ≡ n)

  -- the rest behind j items of size d + 1
  abbrev pub RestAt : ℕ → ℕ → ℕ → ℕ → List A → Type 0
  RestAt d k n j zs = (m : ℕ) × (n ≡ j * suc d + m) × Bag d (k - j) m zs

  abbrev pub Joined : ℕ → ℕ → ℕ → ℕ → List A → Type 0
  Joined d k n j xs = (v : List A × List A) × (ClassRow (suc d) j v.0 × RestAt d k n j v.1) × (xs ≡ v.0 ++ v.1)

  class_total : (e : ℕ) (ys : List A) → Each (λ x. M x × (size x ≡ e)) ys → total size ys ≡ length ys * e
  class_total e [] m = sym (zero-mul e)
  class_total e (y ∷ ys) m = omega (arith, class_total e ys m.1, m.0.1, times_suc (length ys) e)

  -- the items of size d + 1 stand in front
  pub record Parting (d : ℕ) (xs : List A) : Type 0 where
    front : List A
    rest : List A
    is : xs ≡ front ++ rest
    class : Each (λ x. M x × (size x ≡ suc d)) front
    small : Each (λ x. M x × (size x ≤ d)) rest

  all_small : (d : ℕ) (xs : List A) → Each (λ x. M x × (size x ≤ suc d)) xs → ((y : A) → In y xs → size y ≤ d) → Each (λ x. M x × (size x ≤ d)) xs
  all_small d [] m f = tt
  all_small d (x ∷ xs) m f = ((m.0.0, f x (inl refl)), all_small d xs m.1 (λ y i. f y (inr i)))

  top_or : (n d : ℕ) → n ≤ suc d → (n ≡ suc d) ⊎ (n ≤ d)
  top_or n d h = grind arith

  parting : (fall : (x y : A) → R x y → size y ≤ size x) (d : ℕ) (xs : List A) → Each (λ x. M x × (size x ≤ suc d)) xs → Pairwise R xs → Parting d xs
  parting fall d [] m p = record { front = []; rest = []; is = refl; class = tt; small = tt }
  parting fall d (x ∷ xs) m p =
      let r = parting fall d xs m.1 p.1 in
      ⊎_elim
      (λ e. record { front = x ∷ r.front; rest = r.rest; is = ap (λ z. x ∷ z) r.is; class = ((m.0.0, e), r.class); small = r.small })
      (λ l. record { front = []; rest = x ∷ xs; is = refl; class = tt; small = ((m.0.0, l), all_small d xs m.1 (λ y i. omega (arith, fall x y (p.0 y i)))) })
      (top_or (size x) d m.0.1)

  pub one_parting : (d : ℕ) (ys zs us vs : List A) → Each (λ x. M x × (size x ≡ suc d)) ys → Each (λ x. M x × (size x ≤ d)) zs → Each (λ x. M x × (size x ≡ suc d)) us → Each (λ x. M x × (size x ≤ d)) vs
      → ys ++ zs ≡ us ++ vs → (ys ≡ us) × (zs ≡ vs)
  one_parting d [] zs [] vs a b c f e = (refl, e)
  one_parting d [] [] (u ∷ us) vs a b c f e = absurd (cc)
  one_parting d [] (z ∷ zs) (u ∷ us) vs a b c f e = let q : z ≡ u = cc in absurd (omega (arith, ap size q, b.0.1, c.0.1))
  one_parting d (y ∷ ys) zs [] [] a b c f e = absurd (cc)
  one_parting d (y ∷ ys) zs [] (v ∷ vs) a b c f e = let q : y ≡ v = cc in absurd (omega (arith, ap size q, a.0.1, f.0.1))
  one_parting d (y ∷ ys) zs (u ∷ us) vs a b c f e =
      let q : y ≡ u = cc in
      let t : ys ++ zs ≡ us ++ vs = cc in
      let r = one_parting d ys zs us vs a.1 b c.1 f t in
      ((λ i. q i ∷ r.0 i), r.1)

  pub from_joined : (drop : (x y : A) → size y < size x → R x y) (d k n j : ℕ) → j < suc k → (xs : List A) → Joined d k n j xs → Bag (suc d) k n xs
  from_joined drop d k n j l xs r =
      let v = r.0 in
      let c = r.1.0 in
      let g = r.1.1 in
      let bag = g.2 in
      subst (Bag (suc d) k n) (sym r.2) (
        Each-append (λ x. M x × (size x ≤ suc d)) v.0 v.1 (Each-into (λ x. M x × (size x ≡ suc d)) (λ x. M x × (size x ≤ suc d)) v.0 (λ x m. (m.0, omega (arith, m.1))) c.0)
            (Each-into (λ x. M x × (size x ≤ d)) (λ x. M x × (size x ≤ suc d)) v.1 (λ x m. (m.0, omega (arith, m.1))) bag.0),
        Pairwise-append R v.0 v.1 c.1 bag.1 (λ x y i h. drop x y (omega (arith, (Each-In (λ x. M x × (size x ≡ suc d)) v.0 x c.0 i).1, (Each-In (λ x. M x × (size x ≤ d)) v.1 y bag.0 h).1))),
        omega (arith, length-append v.0 v.1, c.2, bag.2),
        omega (arith, total-append size v.0 v.1, class_total (suc d) v.0 c.0, ap (λ m. m * suc d) c.2, bag.3, g.1),
      )

  pub to_joined : (fall : (x y : A) → R x y → size y ≤ size x) (d k n : ℕ) (xs : List A) → Bag (suc d) k n xs → (j : ℕ) × In j (below (suc k)) × Joined d k n j xs
  to_joined fall d k n xs b =
      let r = parting fall d xs b.0 b.1 in
      let p = subst (Pairwise R) r.is b.1 in
      let e : length r.front + length r.rest ≡ k = sym (length-append r.front r.rest) ∙ ap length (sym r.is) ∙ b.2 in
      let t : total size r.front + total size r.rest ≡ n = sym (total-append size r.front r.rest) ∙ ap (total size) (sym r.is) ∙ b.3 in (
        length r.front,
        In-below (suc k) (length r.front) (omega (arith, e)),
        (
          (r.front, r.rest),
          (
            (r.class, Pairwise-append_left R r.front r.rest p, refl),
            (total size r.rest, omega (arith, t, class_total (suc d) r.front r.class), (r.small, Pairwise-append_right R r.front r.rest p, omega (arith, e), refl)),
          ),
          r.is,
        ),
      )

  pub one_join : (d k n i j : ℕ) (xs : List A) → Joined d k n i xs → Joined d k n j xs → i ≡ j
  one_join d k n i j xs r s =
      let e = one_parting d (r.0).0 (r.0).1 (s.0).0 (s.0).1 r.1.0.0 r.1.1.2.0 s.1.0.0 s.1.1.2.0 (sym r.2 ∙ s.2) in
      sym r.1.0.2 ∙ ap length e.0 ∙ s.1.0.2

  pub no_bag : (none : (x : A) → M x → size x ≡ 0 → ⊥) (d k : ℕ) (xs : List A) → Bag d (suc k) 0 xs → ⊥
  no_bag none d k [] b = omega (arith, b.2)
  no_bag none d k (x ∷ xs) b = none x b.0.0.0 (omega (arith, b.3))

  pub no_small : (none : (x : A) → M x → size x ≡ 0 → ⊥) (k n : ℕ) (xs : List A) → Bag 0 k n xs → xs ≡ []
  no_small none k n [] b = refl
  no_small none k n (x ∷ xs) b = absurd (none x b.0.0.0 (omega (arith, b.0.0.1)))

-- what is left behind s
abbrev pub back_in : {I : Type 0} → ℕ → (ℕ → I → ℕ) → ℕ → I → ℕ
back_in s f n k = back s (λ m. f m k) n

Measured-back : (K : Algebra) {A : Type 0} (P : ℕ → A → Type 0) (W : A → K.Slot → ℕ) (f : ℕ → K.Slot → ℕ) (s n : ℕ) → ((m : ℕ) → n ≡ s + m → Measured K (P m) W (f m)) → Measured K (λ x. (m : ℕ) × (n ≡ s + m) × P m x) W (back_in s f n)
Measured-back K P W f s n h = ⊎_elim
    (λ r. Measured-at K (λ x. (m : ℕ) × (n ≡ s + m) × P m x) W (f r.0) (back_in s f n) (λ k. sym (back-yes s (λ m. f m k) r.0 n r.1))
    (Measured-iff K (P r.0) (λ x. (m : ℕ) × (n ≡ s + m) × P m x) W (f r.0) (λ x p. (r.0, r.1, p)) (λ x q. subst (λ m. P m x) (let e : q.0 ≡ r.0 = omega (arith, q.1, r.1) in e) q.2) (h r.0 r.1)))
    (λ l. Measured-none K (λ x. (m : ℕ) × (n ≡ s + m) × P m x) W (back_in s f n) (λ k. back-no s (λ m. f m k) n l) (λ x q. omega (arith, q.1)))
    (le_or s n)

pub product-append : (K : Algebra) → IsAlgebra K → {A : Type 0} (W : A → K.Slot → ℕ) (xs ys : List A) (k : K.Slot) → product K W (xs ++ ys) k ≡ times K.table (product K W xs) (product K W ys) k
product-append K laws W [] ys k = sym (laws.unit_left (product K W ys) k)
product-append K laws W (x ∷ xs) ys k =
    times-same K.table (W x) (W x) (product K W (xs ++ ys)) (times K.table (product K W xs) (product K W ys)) (λ i. refl) (product-append K laws W xs ys) k ∙ sym (laws.joins (W x) (product K W xs) (product K W ys) k)

pub plane_in-zero : (K : Algebra) (chosen : ℕ → ℕ → K.Slot → ℕ) (d k : ℕ) (i : K.Slot) → plane_in K chosen d (suc k) 0 i ≡ 0
plane_in-zero K chosen zero k i = refl
plane_in-zero K chosen (suc d) k i = sum_below-zero (λ j. times K.table (chosen (suc d) j) (back_in (j * suc d) (plane_in K chosen d (suc k - j)) 0) i) (suc (suc k)) (λ j h.
    times-zero_right K.table (chosen (suc d) j) (back_in (j * suc d) (plane_in K chosen d (suc k - j)) 0)
    (λ s. back-start j d (λ m. plane_in K chosen d (suc k - j) m s) (λ e. ap (λ q. plane_in K chosen d q 0 s) (let q : suc k - j ≡ suc k = omega (arith, e) in q) ∙ plane_in-zero K chosen d k s)) i)

module _ (K : Algebra) (laws : IsAlgebra K) {A : Type 0} (M : A → Type 0) (size : A → ℕ) (R : A → A → Type 0) (W : A → K.Slot → ℕ) (chosen : ℕ → ℕ → K.Slot → ℕ) (N : ℕ) (wanted : Type 0) (none : (x : A) → M x → size x ≡ 0 → ⊥)
    (fall : (x y : A) → R x y → size y ≤ size x) (drop : (x y : A) → size y < size x → R x y)
    (classes : (e j : ℕ) → 1 ≤ e → (e < N) ⊎ (j ≡ 0) ⊎ ((e ≡ N) × wanted) → Measured K (ClassRow M size R e j) (product K W) (chosen e j)) where
  no_plane : (k n : ℕ) → Measured K (Bag M size R 0 k n) (product K W) (plane_in K chosen 0 k n)
  no_plane zero zero = Measured-one K (Bag M size R 0 0 0) (product K W) [] (tt, tt, refl, refl) (no_small M size R none 0 0)
  no_plane zero (suc n) = Measured-none K (Bag M size R 0 0 (suc n)) (product K W) (plane_in K chosen 0 0 (suc n)) (λ i. refl) (λ xs m. let e : total size xs ≡ 0 = ap (total size) (no_small M size R none 0 (suc n) xs m) in omega (arith, m.3, e))
  no_plane (suc k) n = Measured-none K (Bag M size R 0 (suc k) n) (product K W) (plane_in K chosen 0 (suc k) n) (λ i. refl) (λ xs m. let e : length xs ≡ 0 = ap length (no_small M size R none (suc k) n xs m) in omega (arith, m.2, e))

  less_or : (m n : ℕ) → m ≤ n → (m < n) ⊎ (m ≡ n)
  less_or m n h = grind arith

  -- the numbers of the rest
  abbrev left : ℕ → ℕ → ℕ → ℕ → K.Slot → ℕ
  left d k n j = back_in (j * suc d) (plane_in K chosen d (k - j)) n

  -- no rest of size 0 with an item
  rest_nil : (d k n j : ℕ) → n ≡ j * suc d → (i : ℕ) → k - j ≡ suc i → Nil K (RestAt M size R d k n j) (left d k n j)
  rest_nil d k n j e i q = record {
    none = λ xs m.
        let z : m.0 ≡ 0 = omega (arith, m.1, e) in
        no_bag M size R none d i xs (subst (λ v. Bag M size R d (suc i) v xs) z (subst (λ v. Bag M size R d v m.0 xs) q m.2));
    no_number = λ s. back-yes (j * suc d) (λ m. plane_in K chosen d (k - j) m s) 0 n (omega arith) ∙ ap (λ v. plane_in K chosen d v 0 s) q ∙ plane_in-zero K chosen d i s;
  }

  zero_or : (k : ℕ) → (k ≡ 0) ⊎ ((j : ℕ) × (k ≡ suc j))
  zero_or zero = inl refl
  zero_or (suc j) = inr (j, refl)

  -- the class of size N is needed for one item alone
  top_needed : (d k n i m : ℕ) → suc i < suc k → n ≤ N → (k ≡ 1 → n ≡ N → wanted) → suc d ≡ N → n ≡ suc i * suc d + m
      → Measured K (ClassRow M size R (suc d) (suc i)) (product K W) (chosen (suc d) (suc i)) ⊎ Nil K (RestAt M size R d k n (suc i)) (left d k n (suc i))
  top_needed d k n zero m l h o top e =
      let s : suc 0 * suc d ≡ suc d = omega arith in
      ⊎_elim (λ z. inl (classes (suc d) 1 (omega arith) (inr (inr (top, o (omega (arith, z)) (omega (arith, e, top, s)))))))
      (λ r. inr (rest_nil d k n 1 (omega (arith, e, top, s)) r.0 r.1)) (zero_or (k - 1))
  top_needed d k n (suc i) m l h o top e = absurd (omega (arith, times_suc (suc i) (suc d), times_suc i (suc d), e, top))

  class_needed : (d k n j : ℕ) → j < suc k → n ≤ N → (k ≡ 1 → n ≡ N → wanted) → Measured K (ClassRow M size R (suc d) j) (product K W) (chosen (suc d) j) ⊎ Nil K (RestAt M size R d k n j) (left d k n j)
  class_needed d k n zero l h o = inl (classes (suc d) 0 (omega arith) (inr (inl refl)))
  class_needed d k n (suc i) l h o =
      ⊎_elim
      (λ r. ⊎_elim (λ lt. inl (classes (suc d) (suc i) (omega arith) (inl lt))) (λ top. top_needed d k n i r.0 l h o top r.1)
      (less_or (suc d) N (omega (arith, r.1, times_suc i (suc d)))))
      (λ lt. inr (record {
        none = λ xs m. omega (arith, m.1);
        no_number = λ s. back-no (suc i * suc d) (λ m. plane_in K chosen d (k - suc i) m s) n lt;
      }))
      (le_or (suc i * suc d) n)

  rest_wanted : (d k n j m : ℕ) → n ≤ N → (k ≡ 1 → n ≡ N → wanted) → n ≡ j * suc d + m → k - j ≡ 1 → m ≡ N → wanted
  rest_wanted d k n zero m h o e q t = o (omega (arith, q)) (omega (arith, e, t, h))
  rest_wanted d k n (suc j) m h o e q t = absurd (omega (arith, e, t, h, times_suc j (suc d)))

  joined_numbers : (d k n j : ℕ) → j < suc k → n ≤ N → (k ≡ 1 → n ≡ N → wanted) → ((m : ℕ) → n ≡ j * suc d + m → Measured K (Bag M size R d (k - j) m) (product K W) (plane_in K chosen d (k - j) m))
      → Measured K (Joined M size R d k n j) (product K W) (times K.table (chosen (suc d) j) (left d k n j))
  joined_numbers d k n j l h o rest =
      Measured-map K (λ (v : List A × List A). ClassRow M size R (suc d) j v.0 × RestAt M size R d k n j v.1) (λ v. v.0 ++ v.1) (product K W) (times K.table (chosen (suc d) j) (left d k n j))
      (λ u v p q e. let r = one_parting M size R d u.0 u.1 v.0 v.1 p.0.0 p.1.2.0 q.0.0 q.1.2.0 e in λ i. (r.0 i, r.1 i))
      (Measured-same K (λ (v : List A × List A). ClassRow M size R (suc d) j v.0 × RestAt M size R d k n j v.1) (λ v. times K.table (product K W v.0) (product K W v.1)) (λ v. product K W (v.0 ++ v.1)) (times K.table (chosen (suc d) j) (left d k n j))
      (λ v p s. sym (product-append K laws W v.0 v.1 s))
      (Measured-needed K (ClassRow M size R (suc d) j) (RestAt M size R d k n j) (product K W) (product K W) (chosen (suc d) j) (left d k n j) (class_needed d k n j l h o)
      (inl (Measured-back K (Bag M size R d (k - j)) (product K W) (plane_in K chosen d (k - j)) (j * suc d) n rest))))

  -- THE LAW of planes
  pub Measured-plane : (d k n : ℕ) → n ≤ N → (k ≡ 1 → n ≡ N → wanted) → Measured K (Bag M size R d k n) (product K W) (plane_in K chosen d k n)
  Measured-plane zero k n h o = no_plane k n
  Measured-plane (suc d) k n h o =
      Measured-iff K (λ xs. (j : ℕ) × In j (below (suc k)) × Joined M size R d k n j xs) (Bag M size R (suc d) k n) (product K W) (plane_in K chosen (suc d) k n)
      (λ xs r. from_joined M size R drop d k n r.0 (below_In (suc k) r.0 r.1) xs r.2) (to_joined M size R fall d k n)
      (Measured-over_below K (Joined M size R d k n) (product K W) (λ j. times K.table (chosen (suc d) j) (left d k n j)) (suc k) (one_join M size R d k n)
      (λ j l. joined_numbers d k n j l h o (λ m e. Measured-plane d (k - j) m (omega (arith, e, h)) (rest_wanted d k n j m h o e))))
