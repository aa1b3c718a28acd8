-- The ways to choose j of some things, with copies or each once: sums of products of any weights.
use Rattle.std.proofs.Common.{◌≡◌, ℕ, zero, suc, ◌+◌, List, [], ◌∷◌, ◌⊎◌, inl, inr, ⊎_elim, length, refl, sym, ap, subst, arith, map}
use Rattle.luo_finite.specs.Listing.{In, Pairwise}
use Rattle.luo_finite.specs.Each.{Each}
use Rattle.luo_counting.specs.Weights.{Algebra, times, product, Measured}
use Rattle.luo_counting.specs.WeightNumbers.{repeats_in, subsets_in}
use Rattle.luo_counting.proofs.Led.{Each-In}
use Rattle.luo_finite.proofs.Falling.{IsOrder, Falls}
use Rattle.luo_counting.proofs.Measured.{nought, Measured-iff, Measured-map, Measured-one, Measured-none, Measured-either, Measured-later}

module _ {A : Type 0} (R : A → A → Type 0) where
  -- j things of l, each so related to all behind it
  abbrev pub Choice : List A → ℕ → List A → Type 0
  Choice l j xs = Each (λ x. In x l) xs × Pairwise R xs × (length xs ≡ j)

  pub only_nil : (l : List A) (xs : List A) → Choice l 0 xs → xs ≡ []
  only_nil l [] m = refl
  only_nil l (x ∷ xs) m = absurd (omega (arith, m.2))

  pub more : (l : List A) (s : A) (xs : List A) → Each (λ x. In x l) xs → Each (λ x. In x (s ∷ l)) xs
  more l s [] h = tt
  more l s (x ∷ xs) h = (inr h.0, more l s xs h.1)

  pub less : (l : List A) (s : A) (xs : List A) → Each (λ x. In x (s ∷ l)) xs → (In s xs → ⊥) → Each (λ x. In x l) xs
  less l s [] h f = tt
  less l s (x ∷ xs) h f = (⊎_elim (λ e. absurd (f (inl (sym e)))) (λ i. i) h.0, less l s xs h.1 (λ i. f (inr i)))

  -- s first, and then a choice of m
  abbrev pub Begins : A → List A → ℕ → List A → Type 0
  Begins s m j xs = (ys : List A) × Choice m j ys × (xs ≡ s ∷ ys)

-- x isn't before y
abbrev pub NotAbove : {A : Type 0} → (A → A → Type 0) → A → A → Type 0
NotAbove Before x y = Before x y → ⊥

-- y is before x
abbrev pub Below : {A : Type 0} → (A → A → Type 0) → A → A → Type 0
Below Before x y = Before y x

-- multisets: none is above one that stands before it
module _ {A : Type 0} (Before : A → A → Type 0) (order : IsOrder Before) where
  pub split_again : (s : A) (l : List A) (j : ℕ) → Falls Before (s ∷ l) → (xs : List A) → Choice (NotAbove Before) (s ∷ l) (suc j) xs → Choice (NotAbove Before) l (suc j) xs ⊎ Begins (NotAbove Before) s (s ∷ l) j xs
  split_again s l j f [] m = absurd (omega (arith, m.2))
  split_again s l j f (x ∷ xs) m = ⊎_elim
      (λ e. inr (xs, (m.0.1, m.1.1, omega (arith, m.2)), ap (λ z. z ∷ xs) e))
      (λ i. inl ((i, less (NotAbove Before) l s xs m.0.1 (λ k. m.1.0 s k (f.0 x i))), m.1, m.2))
      m.0.0

  pub join_again : (s : A) (l : List A) (j : ℕ) → Falls Before (s ∷ l) → (xs : List A) → Choice (NotAbove Before) l (suc j) xs ⊎ Begins (NotAbove Before) s (s ∷ l) j xs → Choice (NotAbove Before) (s ∷ l) (suc j) xs
  join_again s l j f xs (inl m) = (more (NotAbove Before) l s xs m.0, m.1, m.2)
  join_again s l j f xs (inr r) =
      let m = r.1 in
      subst (Choice (NotAbove Before) (s ∷ l) (suc j)) (sym r.2)
      ((inl refl, m.0), ((λ y i b. ⊎_elim (λ e. order.one_way s s (subst (Before s) e b) (subst (Before s) e b)) (λ k. order.one_way y s (f.0 y k) b) (Each-In (λ x. In x (s ∷ l)) r.0 y m.0 i)), m.1), omega (arith, m.2))

-- subsets: each is below all that stand before it
module _ {A : Type 0} (Before : A → A → Type 0) (order : IsOrder Before) where
  pub split_once : (s : A) (l : List A) (j : ℕ) → Falls Before (s ∷ l) → (xs : List A) → Choice (Below Before) (s ∷ l) (suc j) xs → Choice (Below Before) l (suc j) xs ⊎ Begins (Below Before) s l j xs
  split_once s l j f [] m = absurd (omega (arith, m.2))
  split_once s l j f (x ∷ xs) m = ⊎_elim
      (λ e. inr (xs, (less (Below Before) l s xs m.0.1 (λ k. order.one_way s s (subst (Before s) e (m.1.0 s k)) (subst (Before s) e (m.1.0 s k))), m.1.1, omega (arith, m.2)), ap (λ z. z ∷ xs) e))
      (λ i. inl ((i, less (Below Before) l s xs m.0.1 (λ k. order.one_way s x (m.1.0 s k) (f.0 x i))), m.1, m.2))
      m.0.0

  pub join_once : (s : A) (l : List A) (j : ℕ) → Falls Before (s ∷ l) → (xs : List A) → Choice (Below Before) l (suc j) xs ⊎ Begins (Below Before) s l j xs → Choice (Below Before) (s ∷ l) (suc j) xs
  join_once s l j f xs (inl m) = (more (Below Before) l s xs m.0, m.1, m.2)
  join_once s l j f xs (inr r) =
      let m = r.1 in
      subst (Choice (Below Before) (s ∷ l) (suc j)) (sym r.2) ((inl refl, more (Below Before) l s r.0 m.0), ((λ y i. f.0 y (Each-In (λ x. In x l) r.0 y m.0 i)), m.1), omega (arith, m.2))

module _ (K : Algebra) {A : Type 0} (R : A → A → Type 0) (W : A → K.Slot → ℕ) where
  nothing : (l : List A) → Measured K (Choice R l 0) (product K W) K.one
  nothing l = Measured-one K (Choice R l 0) (product K W) [] (tt, tt, refl) (only_nil R l)

  nothing_more : (j : ℕ) → Measured K (Choice R [] (suc j)) (product K W) nought
  nothing_more j = Measured-none K (Choice R [] (suc j)) (product K W) nought (λ k. refl) none
    where
      none : (xs : List A) → Choice R [] (suc j) xs → ⊥
      none [] m = omega (arith, m.2)
      none (x ∷ xs) m = m.0.0

  -- with s or without it; m is what there is to choose from behind s
  step : (s : A) (l m : List A) (j : ℕ) (c d : K.Slot → ℕ) → ((xs : List A) → Choice R l (suc j) xs ⊎ Begins R s m j xs → Choice R (s ∷ l) (suc j) xs) → ((xs : List A) → Choice R (s ∷ l) (suc j) xs → Choice R l (suc j) xs ⊎ Begins R s m j xs)
      → (In s l → ⊥) → Measured K (Choice R l (suc j)) (product K W) c → Measured K (Choice R m j) (product K W) d → Measured K (Choice R (s ∷ l) (suc j)) (product K W) (λ k. c k + times K.table (W s) d k)
  step s l m j c d join split absent a b =
      Measured-iff K (λ xs. Choice R l (suc j) xs ⊎ Begins R s m j xs) (Choice R (s ∷ l) (suc j)) (product K W) (λ k. c k + times K.table (W s) d k) join split
      (Measured-either K (Choice R l (suc j)) (Begins R s m j) (product K W) c (times K.table (W s) d) apart a
      (Measured-map K (Choice R m j) (λ ys. s ∷ ys) (product K W) (times K.table (W s) d) (λ y z p r e. cc) (Measured-later K (Choice R m j) (W s) (product K W) d b)))
    where
      apart : (xs : List A) → Choice R l (suc j) xs → Begins R s m j xs → ⊥
      apart [] p r = omega (arith, p.2)
      apart (x ∷ xs) p r = let e : x ≡ s = cc r.2 in absent (subst (λ z. In z l) e p.0.0)

module _ (K : Algebra) {A : Type 0} (Before : A → A → Type 0) (order : IsOrder Before) (W : A → K.Slot → ℕ) where
  -- THE LAW of multisets of j of the things of a list
  pub Measured-repeats : (l : List A) (j : ℕ) → Falls Before l → Measured K (Choice (NotAbove Before) l j) (product K W) (repeats_in K (map W l) j)
  Measured-repeats [] zero f = nothing K (NotAbove Before) W []
  Measured-repeats [] (suc j) f = nothing_more K (NotAbove Before) W j
  Measured-repeats (s ∷ l) zero f = nothing K (NotAbove Before) W (s ∷ l)
  Measured-repeats (s ∷ l) (suc j) f =
      step K (NotAbove Before) W s l (s ∷ l) j (repeats_in K (map W l) (suc j)) (repeats_in K (map W (s ∷ l)) j) (join_again Before order s l j f) (split_again Before order s l j f)
      (λ i. order.one_way s s (f.0 s i) (f.0 s i)) (Measured-repeats l (suc j) f.1) (Measured-repeats (s ∷ l) j f)

  -- THE LAW of subsets of j of the things of a list
  pub Measured-subsets : (l : List A) (j : ℕ) → Falls Before l → Measured K (Choice (Below Before) l j) (product K W) (subsets_in K (map W l) j)
  Measured-subsets l zero f = nothing K (Below Before) W l
  Measured-subsets [] (suc j) f = nothing_more K (Below Before) W j
  Measured-subsets (s ∷ l) (suc j) f =
      step K (Below Before) W s l l j (subsets_in K (map W l) (suc j)) (subsets_in K (map W l) j) (join_once Before order s l j f) (split_once Before order s l j f)
      (λ i. order.one_way s s (f.0 s i) (f.0 s i)) (Measured-subsets l (suc j) f.1) (Measured-subsets l j f.1)
