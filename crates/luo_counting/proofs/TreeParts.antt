-- Sums over the structures of a union and of a product, in both universes.
use Rattle.std.proofs.Common.{◌≡◌, ℕ, zero, suc, ◌+◌, ◌*◌, ◌≤◌, ◌<◌, List, [], ◌∷◌, ◌⊎◌, inl, inr, ⊎_elim, length, refl, sym, ◌∙◌, ap, subst, arith, get_or, Some, None, slice_get}
use Rattle.std.proofs.Math.Nat.{mul-zero, zero-mul}
use Rattle.std.proofs.lemmas.Option.{get_or_from_slice_get, slice_get-get_or, slice_get_within}
use Rattle.luo_finite.specs.Listing.{In, Sums}
use Rattle.luo_finite.specs.Range.{below, sum_below, unit}
use Rattle.luo_finite.proofs.Sums.{Sums-iff, Sums-none, Sums-one, Sums-map}
use Rattle.luo_finite.proofs.Products.{Sums-pairs}
use Rattle.luo_finite.proofs.Ranges.{In-below, below_In, Sums-over_below}
use Rattle.luo_model.specs.declared.program.Universe.{Universe}
use Rattle.luo_model.specs.declared.program.Part.{Part}
use Rattle.luo_model.specs.Tree.{Tree, Trees, Atom, Inj, Tup, Coll, none, more, size_of, sizes_of, labels_of, all_labels_of}
use Rattle.luo_model.specs.Program.{Program, shape_of}
use Rattle.luo_model.specs.Member.{Fits, FitAll, Member}
use Rattle.luo_model.specs.Structures.{IsStructureOn, Carries}
use Rattle.luo_model.specs.Collections.{Bears}
use Rattle.luo_model.specs.declared.program.Universe.TheVariants.{Unlabelled, Labelled}
use Rattle.luo_model.specs.declared.program.Shape.TheVariants as shape
use Rattle.luo_counting.specs.Sharing.{IsRoom, products}
use Rattle.luo_counting.specs.Items.{On}
use Rattle.luo_counting.specs.Counted.{SumsAt, AreLight}
use Rattle.luo_counting.proofs.Two.{IsSized, PairOn, Sums-two}
use Rattle.luo_counting.proofs.Rows.{over_shares-zero, nothing_borne}
use Rattle.luo_counting.proofs.TreeCollections.{carries_bears, bears_carries, members_sized, all_labels}

-- a place that holds no part
abbrev no_part : Part
no_part = record { node = 0; name = None }

-- a union: the sum over its branches, for any weights
module _ (p : Program) (x : ℕ) (parts : List Part) (is : shape_of p x ≡ shape.Union parts) (n : ℕ) (L : List ℕ) where
  Branch : ℕ → Tree → Type 0
  Branch i s = (t : Tree) × IsStructureOn p (get_or parts i no_part).node L n t × (s ≡ Inj (suc i) t)

  from_branch : (s : Tree) → (i : ℕ) × In i (below (length parts)) × Branch i s → IsStructureOn p x L n s
  unfolding Branch
  from_branch s (i, h, (t, m, e)) =
      subst (IsStructureOn p x L n) (sym e)
      (subst (λ z. Fits p z (Inj (suc i) t)) (sym is) (get_or parts i no_part, slice_get-get_or parts i no_part (below_In (length parts) i h), m.0), m.1, bears_carries p.universe L (Inj (suc i) t) (carries_bears p.universe L t m.2))

  branch_of : (s : Tree) → Fits p (shape.Union parts) s → size_of s ≡ n → Carries p.universe L s → (i : ℕ) × In i (below (length parts)) × Branch i s
  unfolding Branch
  branch_of (Atom w l) m e c = absurd m
  branch_of (Inj zero t) m e c = absurd m
  branch_of (Inj (suc i) t) m e c =
      (i, In-below (length parts) i (slice_get_within parts i m.0 m.1), (t, (subst (λ (part : Part). Member p part.node t) (sym (get_or_from_slice_get parts i m.0 no_part m.1)) m.2, e, bears_carries p.universe L t (carries_bears p.universe L (Inj (suc i) t) c)), refl))
  branch_of (Tup ts) m e c = absurd m
  branch_of (Coll ts) m e c = absurd m

  one_branch : (i j : ℕ) (s : Tree) → Branch i s → Branch j s → i ≡ j
  unfolding Branch
  one_branch i j s a b = let e : suc i ≡ suc j = cc in omega arith

  pub Sums-union : (f : Tree → ℕ) (t : ℕ → ℕ) → ((i : ℕ) (part : Part) → slice_get parts i ≡ Some part → Sums (IsStructureOn p part.node L n) (λ s. f (Inj (suc i) s)) (t i)) → Sums (IsStructureOn p x L n) f (sum_below t (length parts))
  unfolding Branch
  Sums-union f t h =
      Sums-iff (λ s. (i : ℕ) × In i (below (length parts)) × Branch i s) (IsStructureOn p x L n) f (sum_below t (length parts)) from_branch (λ s m. branch_of s (subst (λ z. Fits p z s) is m.0) m.1 m.2)
      (Sums-over_below Branch f t (length parts) one_branch
      (λ i l. Sums-map (IsStructureOn p (get_or parts i no_part).node L n) (λ s. Inj (suc i) s) f (t i) (λ s u q r e. cc) (h i (get_or parts i no_part) (slice_get-get_or parts i no_part l))))

-- of each branch the sum at n is that of what is inside
pub SumsAt-union : (p : Program) (x : ℕ) (parts : List Part) → shape_of p x ≡ shape.Union parts → (n : ℕ) (f : Tree → ℕ) (t : ℕ → ℕ) → ((i : ℕ) (part : Part) → slice_get parts i ≡ Some part → SumsAt p part.node (λ s. f (Inj (suc i) s)) n (t i))
    → SumsAt p x f n (sum_below t (length parts))
SumsAt-union p x parts is n f t h L r = Sums-union p x parts is n L f t (λ i part e. h i part e L r)

-- there is none, and the number says so
pub record Absent {A : Type 0} (P : A → Type 0) (c : ℕ) : Type 0 where
  pub none : (x : A) → P x → ⊥
  pub no_count : c ≡ 0

-- pairs, where each of the two is known unless there is none of the other
pub Sums-needed : {A B : Type 0} (P : A → Type 0) (R : B → Type 0) (f : A → ℕ) (g : B → ℕ) (a c : ℕ) → Sums P f a ⊎ Absent R c → Sums R g c ⊎ Absent P a → Sums (λ (z : A × B). P z.0 × R z.1) (λ z. f z.0 * g z.1) (a * c)
Sums-needed P R f g a c (inl m) (inl k) = Sums-pairs P R f g a c m k
Sums-needed {A} {B} P R f g a c (inr n) k = subst (Sums (λ (z : A × B). P z.0 × R z.1) (λ z. f z.0 * g z.1)) (sym (ap (λ i. a * i) n.no_count ∙ mul-zero a)) (Sums-none (λ (z : A × B). P z.0 × R z.1) (λ z. f z.0 * g z.1) (λ z q. n.none z.1 q.1))
Sums-needed {A} {B} P R f g a c (inl m) (inr n) = subst (Sums (λ (z : A × B). P z.0 × R z.1) (λ z. f z.0 * g z.1)) (sym (ap (λ i. i * c) n.no_count ∙ zero-mul c)) (Sums-none (λ (z : A × B). P z.0 × R z.1) (λ z. f z.0 * g z.1) (λ z q. n.none z.0 q.0))

-- a factor with a weight and its sums by size
pub record Factor : Type 0 where
  pub part : Part
  pub weight : Tree → ℕ
  pub sums : ℕ → ℕ

abbrev pub parts_in : List Factor → List Part
parts_in [] = []
parts_in (F ∷ Fs) = F.part ∷ parts_in Fs

abbrev pub sums_in : List Factor → List (ℕ → ℕ)
sums_in [] = []
sums_in (F ∷ Fs) = F.sums ∷ sums_in Fs

-- the product of the weights
abbrev pub times : List Factor → Trees → ℕ
times [] none = 1
times (F ∷ Fs) (more t ts) = F.weight t * times Fs ts
times _ _ = 0

module _ (p : Program) where
  abbrev pub IsKnown : Factor → ℕ → Type 0
  IsKnown F n = SumsAt p F.part.node F.weight n (F.sums n)

  abbrev pub HasNoEmpty : Factor → Type 0
  HasNoEmpty F = ((t : Tree) → Member p F.part.node t → size_of t ≡ 0 → ⊥) × (F.sums 0 ≡ 0)

  abbrev pub SomeHasNoEmpty : List Factor → Type 0
  SomeHasNoEmpty [] = ⊥
  SomeHasNoEmpty (F ∷ Fs) = HasNoEmpty F ⊎ SomeHasNoEmpty Fs

  -- all factors are known at sizes below n
  abbrev pub AreBelow : List Factor → ℕ → Type 0
  AreBelow [] n = Unit {0}
  AreBelow (F ∷ Fs) n = ((m : ℕ) → m < n → IsKnown F m) × AreBelow Fs n

  -- each is known at n, unless another has no structure of size 0
  abbrev pub AreAt : List Factor → ℕ → Type 0
  AreAt [] n = Unit {0}
  AreAt (F ∷ Fs) n = (IsKnown F n ⊎ SomeHasNoEmpty Fs) × (AreAt Fs n ⊎ HasNoEmpty F)

  below_less : (Fs : List Factor) (m n : ℕ) → m ≤ n → AreBelow Fs n → AreBelow Fs m
  below_less [] m n h b = tt
  below_less (F ∷ Fs) m n h b = ((λ i l. b.0 i (omega arith)), below_less Fs m n h b.1)

  at_below : (Fs : List Factor) (m n : ℕ) → m < n → AreBelow Fs n → AreAt Fs m
  at_below [] m n h b = tt
  at_below (F ∷ Fs) m n h b = (inl (b.0 m h), inl (at_below Fs m n h b.1))

  abbrev pub PartsOn : List Factor → List ℕ → ℕ → Trees → Type 0
  PartsOn Fs L n ts = FitAll p (parts_in Fs) ts × (sizes_of ts ≡ n) × Bears p.universe L (all_labels_of ts)

  none_empty : (Fs : List Factor) → SomeHasNoEmpty Fs → (ts : Trees) → FitAll p (parts_in Fs) ts → sizes_of ts ≡ 0 → ⊥
  none_empty [] h ts m e = h
  none_empty (F ∷ Fs) h none m e = m
  none_empty (F ∷ Fs) (inl h) (more t ts) m e = h.0 t m.0 (omega (arith, e))
  none_empty (F ∷ Fs) (inr h) (more t ts) m e = none_empty Fs h ts m.1 (omega (arith, e))

  sums_empty : (Fs : List Factor) → SomeHasNoEmpty Fs → products p.universe (sums_in Fs) 0 ≡ 0
  sums_empty [] h = absurd h
  sums_empty (F ∷ Fs) (inl h) = over_shares-zero p.universe (λ i j. F.sums i * products p.universe (sums_in Fs) j) ∙ ap (λ i. i * products p.universe (sums_in Fs) 0) h.1 ∙ zero-mul (products p.universe (sums_in Fs) 0)
  sums_empty (F ∷ Fs) (inr h) = over_shares-zero p.universe (λ i j. F.sums i * products p.universe (sums_in Fs) j) ∙ ap (λ i. F.sums 0 * i) (sums_empty Fs h) ∙ mul-zero (F.sums 0)

  factor_on : (F : Factor) (S : List ℕ) (i : ℕ) → IsRoom p.universe S i → IsKnown F i → Sums (On p.universe (Member p F.part.node) size_of labels_of S i) F.weight (F.sums i)
  factor_on F S i r h =
      Sums-iff (IsStructureOn p F.part.node S i) (On p.universe (Member p F.part.node) size_of labels_of S i) F.weight (F.sums i)
      (λ t k. (k.0, k.1, carries_bears p.universe S t k.2)) (λ t k. (k.0, k.1, bears_carries p.universe S t k.2)) (h S r)

  split_size : (i j n : ℕ) → i + j ≡ n → (j ≡ 0) × (i ≡ n) ⊎ (i < n)
  split_size i zero n e = inl (refl, omega (arith, e))
  split_size i (suc j) n e = inr (omega (arith, e))

  first_needed : (F : Factor) (Fs : List Factor) (n : ℕ) → AreBelow (F ∷ Fs) n → AreAt (F ∷ Fs) n → (S T : List ℕ) (i j : ℕ) → IsRoom p.universe S i → i + j ≡ n
      → Sums (On p.universe (Member p F.part.node) size_of labels_of S i) F.weight (F.sums i) ⊎ Absent (On p.universe (FitAll p (parts_in Fs)) sizes_of all_labels_of T j) (products p.universe (sums_in Fs) j)
  first_needed F Fs n b t S T i j r e = ⊎_elim
      (λ q. ⊎_elim
      (λ k. inl (factor_on F S i r (subst (IsKnown F) (sym q.1) k)))
      (λ k.
      let z : products p.universe (sums_in Fs) j ≡ 0 = ap (products p.universe (sums_in Fs)) q.0 ∙ sums_empty Fs k in
      inr (record { none = λ ts m. none_empty Fs k ts m.0 (m.1 ∙ q.0); no_count = z }))
      t.0)
      (λ l. inl (factor_on F S i r (b.0 i l))) (split_size i j n e)

  rest_needed : (F : Factor) (Fs : List Factor) (n : ℕ) → AreBelow (F ∷ Fs) n → AreAt (F ∷ Fs) n
      → ((j : ℕ) → AreBelow Fs j → AreAt Fs j → (T : List ℕ) → IsRoom p.universe T j → Sums (PartsOn Fs T j) (times Fs) (products p.universe (sums_in Fs) j)) → (S T : List ℕ) (i j : ℕ) → IsRoom p.universe T j → i + j ≡ n
      → Sums (On p.universe (FitAll p (parts_in Fs)) sizes_of all_labels_of T j) (times Fs) (products p.universe (sums_in Fs) j) ⊎ Absent (On p.universe (Member p F.part.node) size_of labels_of S i) (F.sums i)
  rest_needed F Fs n b t h S T i j r e = ⊎_elim
      (λ q. ⊎_elim
      (λ k. inl (h j (below_less Fs j n (omega (arith, e)) b.1) (subst (AreAt Fs) (sym q.1) k) T r))
      (λ k. let z : F.sums i ≡ 0 = ap F.sums q.0 ∙ k.1 in inr (record { none = λ t m. k.0 t m.0 (m.1 ∙ q.0); no_count = z }))
      t.1)
      (λ l. inl (h j (below_less Fs j n (omega (arith, e)) b.1) (at_below Fs j n l b.1) T r)) (split_size j i n (omega (arith, e)))

  only_none : (L : List ℕ) (n : ℕ) (ts : Trees) → PartsOn [] L n ts → ts ≡ none
  only_none L n none m = refl
  only_none L n (more t ts) m = absurd m.0

  no_parts : (n : ℕ) (L : List ℕ) → IsRoom p.universe L n → Sums (PartsOn [] L n) (times []) (unit n)
  no_parts zero L r = Sums-one (PartsOn [] L 0) (times []) none (tt, refl, nothing_borne p.universe L r) (only_none L 0)
  no_parts (suc n) L r = Sums-none (PartsOn [] L (suc n)) (times []) (λ ts m. let e : sizes_of ts ≡ 0 = ap sizes_of (only_none L (suc n) ts m) in absurd (omega (arith, m.1, e)))

  parts_sized : AreLight p → (Fs : List Factor) → IsSized p.universe (FitAll p (parts_in Fs)) sizes_of all_labels_of
  parts_sized light Fs = by_universe p.universe refl
    where
      by_universe : (u : Universe) → p.universe ≡ u → IsSized u (FitAll p (parts_in Fs)) sizes_of all_labels_of
      by_universe Unlabelled e = tt
      by_universe Labelled e = λ ts m. all_labels p e (light e) (parts_in Fs) ts m

  abbrev First : Factor → List Factor → List ℕ → ℕ → Tree × Trees → Type 0
  First F Fs L n = PairOn p.universe (Member p F.part.node) (FitAll p (parts_in Fs)) size_of sizes_of labels_of all_labels_of L n

  from_first : (F : Factor) (Fs : List Factor) (L : List ℕ) (n : ℕ) (ts : Trees) → (z : Tree × Trees) × First F Fs L n z × (ts ≡ more z.0 z.1) → PartsOn (F ∷ Fs) L n ts
  from_first F Fs L n ts r = subst (PartsOn (F ∷ Fs) L n) (sym r.2) (let m = r.1 in ((m.0, m.1), m.2, m.3))

  to_first : (F : Factor) (Fs : List Factor) (L : List ℕ) (n : ℕ) (ts : Trees) → PartsOn (F ∷ Fs) L n ts → (z : Tree × Trees) × First F Fs L n z × (ts ≡ more z.0 z.1)
  to_first F Fs L n none m = absurd m.0
  to_first F Fs L n (more t ts) m = ((t, ts), (m.0.0, m.0.1, m.1, m.2), refl)

  both : (y z : Tree × Trees) → more y.0 y.1 ≡ more z.0 z.1 → y ≡ z
  both y z e = let a : y.0 ≡ z.0 = cc in let b : y.1 ≡ z.1 = cc in λ i. (a i, b i)

  -- THE LAW of products: products of weights
  pub Sums-parts : AreLight p → (Fs : List Factor) (n : ℕ) → AreBelow Fs n → AreAt Fs n → (L : List ℕ) → IsRoom p.universe L n → Sums (PartsOn Fs L n) (times Fs) (products p.universe (sums_in Fs) n)
  Sums-parts light [] n b t L r = no_parts n L r
  Sums-parts light (F ∷ Fs) n b t L r =
      Sums-iff (λ ts. (z : Tree × Trees) × First F Fs L n z × (ts ≡ more z.0 z.1)) (PartsOn (F ∷ Fs) L n) (times (F ∷ Fs)) (products p.universe (sums_in (F ∷ Fs)) n) (from_first F Fs L n) (to_first F Fs L n)
      (Sums-map (First F Fs L n) (λ z. more z.0 z.1) (times (F ∷ Fs)) (products p.universe (sums_in (F ∷ Fs)) n) (λ y z q m e. both y z e)
      (Sums-two (Member p F.part.node) (FitAll p (parts_in Fs)) size_of sizes_of labels_of all_labels_of (λ z. F.weight z.0 * times Fs z.1) (λ i j. F.sums i * products p.universe (sums_in Fs) j) n p.universe L r
      (members_sized p light F.part.node) (parts_sized light Fs)
      (λ S T i j s q e. Sums-needed (On p.universe (Member p F.part.node) size_of labels_of S i) (On p.universe (FitAll p (parts_in Fs)) sizes_of all_labels_of T j) F.weight (times Fs) (F.sums i) (products p.universe (sums_in Fs) j)
      (first_needed F Fs n b t S T i j s e) (rest_needed F Fs n b t (λ j c d U v. Sums-parts light Fs j c d U v) S T i j q e))))

  -- the product of the weights over a tuple
  abbrev pub times_of : List Factor → Tree → ℕ
  times_of Fs (Tup ts) = times Fs ts
  times_of Fs _ = 0

  module _ (x : ℕ) (Fs : List Factor) (is : shape_of p x ≡ shape.Product (parts_in Fs)) (n : ℕ) where
    tuple_on : (L : List ℕ) (s : Tree) → (ts : Trees) × PartsOn Fs L n ts × (s ≡ Tup ts) → IsStructureOn p x L n s
    tuple_on L s r = let m = r.1 in subst (IsStructureOn p x L n) (sym r.2) (subst (λ z. Fits p z (Tup r.0)) (sym is) m.0, m.1, bears_carries p.universe L (Tup r.0) m.2)

    tuple_of : (L : List ℕ) (s : Tree) → Fits p (shape.Product (parts_in Fs)) s → size_of s ≡ n → Carries p.universe L s → (ts : Trees) × PartsOn Fs L n ts × (s ≡ Tup ts)
    tuple_of L (Atom w l) m e c = absurd m
    tuple_of L (Inj i t) m e c = absurd m
    tuple_of L (Tup ts) m e c = (ts, (m, e, carries_bears p.universe L (Tup ts) c), refl)
    tuple_of L (Coll ts) m e c = absurd m

    pub SumsAt-product : AreLight p → AreBelow Fs n → AreAt Fs n → SumsAt p x (times_of Fs) n (products p.universe (sums_in Fs) n)
    SumsAt-product light b t L r =
        Sums-iff (λ s. (ts : Trees) × PartsOn Fs L n ts × (s ≡ Tup ts)) (IsStructureOn p x L n) (times_of Fs) (products p.universe (sums_in Fs) n) (tuple_on L) (λ s m. tuple_of L s (subst (λ z. Fits p z s) is m.0) m.1 m.2)
        (Sums-map (PartsOn Fs L n) Tup (times_of Fs) (products p.universe (sums_in Fs) n) (λ ts us q m e. cc) (Sums-parts light Fs n b t L r))
