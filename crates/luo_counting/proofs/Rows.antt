-- Two that share, and rows of items, in both universes: sums of products of any weights.
use Rattle.std.proofs.Common.{◌≡◌, ℕ, zero, suc, ◌+◌, ◌≤◌, ◌<◌, List, [], ◌∷◌, ◌⊎◌, inl, inr, length, refl, sym, ◌∙◌, ap, subst, arith, flat_map, length-append}
use Rattle.std.proofs.lemmas.List.Concat.{flat_map-cons}
use Rattle.luo_finite.specs.Each.{Each, total}
use Rattle.luo_model.specs.declared.program.Universe.{Universe}
use Rattle.luo_model.specs.declared.program.Universe.TheVariants.{Unlabelled, Labelled}
use Rattle.luo_model.specs.Collections.{Bears}
use Rattle.luo_counting.specs.Sharing.{over_shares, IsRoom}
use Rattle.luo_counting.specs.Items.{On, RowOn}
use Rattle.luo_counting.specs.Weights.{Algebra, times, product, Measured}
use Rattle.luo_counting.specs.WeightNumbers.{at_zero, shares_in, rows_in}
use Rattle.luo_counting.proofs.Two.{IsSized, PairOn, Apart, Sums-two}
use Rattle.luo_counting.proofs.Measured.{Nil, Nil-measured, Measured-iff, Measured-map, Measured-one, Measured-none, Measured-needed, times-zero_left}

pub over_shares-zero : (u : Universe) (c : ℕ → ℕ → ℕ) → over_shares u c 0 ≡ c 0 0
unfolding over_shares
over_shares-zero Unlabelled c = omega arith
over_shares-zero Labelled c = refl

-- k items together, on no particular labels
abbrev pub RowOf : {A : Type 0} → (A → Type 0) → ℕ → List A → Type 0
RowOf M k xs = Each M xs × (length xs ≡ k)

pub cons_one : {A : Type 0} (y z : A × List A) → y.0 ∷ y.1 ≡ z.0 ∷ z.1 → y ≡ z
cons_one y z e = let p : y.0 ≡ z.0 = cc in let q : y.1 ≡ z.1 = cc in λ i. (p i, q i)

pub nothing_borne : (u : Universe) (L : List ℕ) → IsRoom u L 0 → Bears u L []
nothing_borne Unlabelled L r = tt
nothing_borne Labelled [] r = (tt, (λ x i. i), λ x i. i)
nothing_borne Labelled (x ∷ L) r = absurd (omega (arith, r.1))

module _ {A : Type 0} (u : Universe) (M : A → Type 0) (size : A → ℕ) (lab : A → List ℕ) where
  total_sized : IsSized Labelled M size lab → (xs : List A) → Each M xs → total size xs ≡ length (flat_map lab xs)
  total_sized s [] m = refl
  total_sized s (x ∷ xs) m = omega (arith, s x m.0, total_sized s xs m.1, length-append (lab x) (flat_map lab xs), ap length (flat_map-cons lab x xs))

  pub rows_sized : (P : List A → Type 0) → ((xs : List A) → P xs → Each M xs) → IsSized u M size lab → IsSized u P (total size) (flat_map lab)
  rows_sized P each s = by_universe u s
    where
      by_universe : (u : Universe) → IsSized u M size lab → IsSized u P (total size) (flat_map lab)
      by_universe Unlabelled s = tt
      by_universe Labelled s = λ xs m. total_sized s xs (each xs m)

  -- the first, and the rest
  abbrev pub First : List ℕ → ℕ → ℕ → A × List A → Type 0
  First L k n = PairOn u M (RowOf M k) size (total size) lab (flat_map lab) L n

  pub from_first : (L : List ℕ) (k n : ℕ) (xs : List A) → (v : A × List A) × First L k n v × (xs ≡ v.0 ∷ v.1) → RowOn u M size lab L (suc k) n xs
  from_first L k n xs r =
      let v = r.0 in
      let m = r.1 in
      subst (RowOn u M size lab L (suc k) n) (sym r.2) ((m.0, m.1.0), omega (arith, m.1.1), m.2, subst (Bears u L) (sym (flat_map-cons lab v.0 v.1)) m.3)

  pub to_first : (L : List ℕ) (k n : ℕ) (xs : List A) → RowOn u M size lab L (suc k) n xs → (v : A × List A) × First L k n v × (xs ≡ v.0 ∷ v.1)
  to_first L k n [] m = absurd (omega (arith, m.1))
  to_first L k n (x ∷ xs) m = ((x, xs), (m.0.0, (m.0.1, omega (arith, m.1)), m.2, subst (Bears u L) (flat_map-cons lab x xs) m.3), refl)

  pub only_empty : (L : List ℕ) (n : ℕ) (xs : List A) → RowOn u M size lab L 0 n xs → xs ≡ []
  only_empty L n [] m = refl
  only_empty L n (x ∷ xs) m = absurd (omega (arith, m.1))

  pub no_row : (none : (x : A) → M x → size x ≡ 0 → ⊥) (L : List ℕ) (k : ℕ) (xs : List A) → RowOn u M size lab L (suc k) 0 xs → ⊥
  no_row none L k [] m = omega (arith, m.1)
  no_row none L k (x ∷ xs) m = none x m.0.0 (omega (arith, m.2))

-- counts and totals of pairs, where each part is known unless there is none of the other
module _ (K : Algebra) {A B : Type 0} (M : A → Type 0) (N : B → Type 0) (size : A → ℕ) (other : B → ℕ) (la : A → List ℕ) (lb : B → List ℕ) (W : A → K.Slot → ℕ) (V : B → K.Slot → ℕ) (a c : ℕ → K.Slot → ℕ) (u : Universe) where
  -- what has to be known of one way to share
  abbrev pub AreNeeded : List ℕ → List ℕ → ℕ → ℕ → Type 0
  AreNeeded S T i j =
      (Measured K (On u M size la S i) W (a i) ⊎ Nil K (On u N other lb T j) (c j)) × (Measured K (On u N other lb T j) V (c j) ⊎ Nil K (On u M size la S i) (a i))

  pub pair_numbers : (S T : List ℕ) (i j : ℕ) → AreNeeded S T i j → Measured K (Apart u M N size other la lb S T i j) (λ z. times K.table (W z.0) (V z.1)) (times K.table (a i) (c j))
  pair_numbers S T i j k = Measured-needed K (On u M size la S i) (On u N other lb T j) W V (a i) (c j) k.0 k.1

  pub Measured-two : (n : ℕ) (L : List ℕ) → IsRoom u L n → IsSized u M size la → IsSized u N other lb → ((S T : List ℕ) (i j : ℕ) → IsRoom u S i → IsRoom u T j → i + j ≡ n → AreNeeded S T i j)
      → Measured K (PairOn u M N size other la lb L n) (λ z. times K.table (W z.0) (V z.1)) (shares_in K u a c n)
  Measured-two n L r s t h = λ k. Sums-two M N size other la lb (λ z. times K.table (W z.0) (V z.1) k) (λ i j. times K.table (a i) (c j) k) n u L r s t (λ S T i j p q e. pair_numbers S T i j (h S T i j p q e) k)

-- what is known of the items for a collection of size n
pub record Ready (K : Algebra) {A : Type 0} (u : Universe) (M : A → Type 0) (size : A → ℕ) (lab : A → List ℕ) (W : A → K.Slot → ℕ) (a : ℕ → K.Slot → ℕ) (n : ℕ) (wanted : Type 0) : Type 0 where
  pub sized : IsSized u M size lab
  pub none : (x : A) → M x → size x ≡ 0 → ⊥
  pub no_number : (k : K.Slot) → a 0 k ≡ 0
  pub below : (m : ℕ) → 1 ≤ m → m < n → (S : List ℕ) → IsRoom u S m → Measured K (On u M size lab S m) W (a m)
  pub here : wanted → (S : List ℕ) → IsRoom u S n → Measured K (On u M size lab S n) W (a n)

pub rows_in-zero : (K : Algebra) (u : Universe) (a : ℕ → K.Slot → ℕ) (m : ℕ) → ((k : K.Slot) → a 0 k ≡ 0) → (k : K.Slot) → rows_in K u a (suc m) 0 k ≡ 0
rows_in-zero K u a m z k = over_shares-zero u (λ i j. times K.table (a i) (rows_in K u a m j) k) ∙ times-zero_left K.table (a 0) (rows_in K u a m 0) z k

module _ (K : Algebra) {A : Type 0} (u : Universe) (M : A → Type 0) (size : A → ℕ) (lab : A → List ℕ) where
  pub empty_row : (W : A → K.Slot → ℕ) (n : ℕ) (L : List ℕ) → IsRoom u L n → Measured K (RowOn u M size lab L 0 n) (product K W) (at_zero K.one n)
  empty_row W zero L r = Measured-one K (RowOn u M size lab L 0 0) (product K W) [] (tt, refl, refl, nothing_borne u L r) (only_empty u M size lab L 0)
  empty_row W (suc n) L r = Measured-none K (RowOn u M size lab L 0 (suc n)) (product K W) (at_zero K.one (suc n)) (λ k. refl)
      (λ xs m. let e : total size xs ≡ 0 = ap (total size) (only_empty u M size lab L (suc n) xs m) in omega (arith, m.2, e))

  pub rest_iff : (V : List A → K.Slot → ℕ) (T : List ℕ) (k j : ℕ) (r : K.Slot → ℕ) → Measured K (RowOn u M size lab T k j) V r → Measured K (On u (RowOf M k) (total size) (flat_map lab) T j) V r
  rest_iff V T k j r m =
      Measured-iff K (RowOn u M size lab T k j) (On u (RowOf M k) (total size) (flat_map lab) T j) V r (λ xs m. ((m.0, m.1), m.2, m.3)) (λ xs m. (m.0.0, m.0.1, m.1, m.2)) m

module _ (K : Algebra) {A : Type 0} (u : Universe) (M : A → Type 0) (size : A → ℕ) (lab : A → List ℕ) (W : A → K.Slot → ℕ) (a : ℕ → K.Slot → ℕ) where
  pub item_nil : (n : ℕ) (wanted : Type 0) → Ready K u M size lab W a n wanted → (S : List ℕ) → Nil K (On u M size lab S 0) (a 0)
  item_nil n wanted r S = record { none = λ x m. r.none x m.0 m.1; no_number = r.no_number }

  -- all smaller sizes are known
  pub known : (n : ℕ) (wanted : Type 0) → Ready K u M size lab W a n wanted → (m : ℕ) → m < n → (S : List ℕ) → IsRoom u S m → Measured K (On u M size lab S m) W (a m)
  known n wanted r zero h S s = Nil-measured K (On u M size lab S 0) W (a 0) (item_nil n wanted r S)
  known n wanted r (suc m) h S s = r.below (suc m) (omega arith) h S s

  pub ready_below : (n : ℕ) (wanted other : Type 0) → Ready K u M size lab W a n wanted → (m : ℕ) → m < n → Ready K u M size lab W a m other
  ready_below n wanted other r m h = record {
    sized = r.sized;
    none = r.none;
    no_number = r.no_number;
    below = λ i p q S s. r.below i p (omega arith) S s;
    here = λ o S s. known n wanted r m h S s;
  }

  row_nil : (n : ℕ) (wanted : Type 0) → Ready K u M size lab W a n wanted → (m : ℕ) (T : List ℕ) → Nil K (On u (RowOf M (suc m)) (total size) (flat_map lab) T 0) (rows_in K u a (suc m) 0)
  row_nil n wanted r m T = record {
    none = λ xs q. no_row u M size lab r.none T m xs (q.0.0, q.0.1, q.1, q.2);
    no_number = rows_in-zero K u a m r.no_number;
  }

  -- the first item is needed only where the rest can be, and the rest only where the first can be
  pub first_needed : (k n : ℕ) (wanted : Type 0) → Ready K u M size lab W a n wanted → (suc k ≡ 1 → wanted) → (S T : List ℕ) (i j : ℕ) → IsRoom u S i → i + j ≡ n
      → Measured K (On u M size lab S i) W (a i) ⊎ Nil K (On u (RowOf M k) (total size) (flat_map lab) T j) (rows_in K u a k j)
  first_needed zero n wanted r o S T i zero s e =
      inl (subst (λ m. (S : List ℕ) → IsRoom u S m → Measured K (On u M size lab S m) W (a m)) (let q : n ≡ i = omega (arith, e) in q) (r.here (o refl)) S s)
  first_needed (suc k) n wanted r o S T i zero s e = inr (row_nil n wanted r k T)
  first_needed k n wanted r o S T i (suc j) s e = inl (known n wanted r i (omega (arith, e)) S s)

  rest_needed : (k n : ℕ) (wanted : Type 0) → Ready K u M size lab W a n wanted → ((j : ℕ) → j < n → (T : List ℕ) → IsRoom u T j → Measured K (RowOn u M size lab T k j) (product K W) (rows_in K u a k j))
      → (S T : List ℕ) (i j : ℕ) → IsRoom u T j → i + j ≡ n → Measured K (On u (RowOf M k) (total size) (flat_map lab) T j) (product K W) (rows_in K u a k j) ⊎ Nil K (On u M size lab S i) (a i)
  rest_needed k n wanted r h S T zero j q e = inr (item_nil n wanted r S)
  rest_needed k n wanted r h S T (suc i) j q e = inl (rest_iff K u M size lab (product K W) T k j (rows_in K u a k j) (h j (omega (arith, e)) T q))

  -- THE LAW of rows
  pub Measured-rows : (k n : ℕ) (wanted : Type 0) (L : List ℕ) → IsRoom u L n → Ready K u M size lab W a n wanted → (k ≡ 1 → wanted) → Measured K (RowOn u M size lab L k n) (product K W) (rows_in K u a k n)
  Measured-rows zero n wanted L s r o = empty_row K u M size lab W n L s
  Measured-rows (suc k) n wanted L s r o =
      Measured-iff K (λ xs. (v : A × List A) × First u M size lab L k n v × (xs ≡ v.0 ∷ v.1)) (RowOn u M size lab L (suc k) n) (product K W) (rows_in K u a (suc k) n)
      (from_first u M size lab L k n) (to_first u M size lab L k n)
      (Measured-map K (First u M size lab L k n) (λ v. v.0 ∷ v.1) (product K W) (rows_in K u a (suc k) n) (λ y z p q e. cons_one y z e)
      (Measured-two K M (RowOf M k) size (total size) lab (flat_map lab) W (product K W) a (rows_in K u a k) u n L s r.sized (rows_sized u M size lab (RowOf M k) (λ xs m. m.0) r.sized)
      (λ S T i j p q e. (
        first_needed k n wanted r o S T i j p e,
        rest_needed k n wanted r (λ j h U t. Measured-rows k j (Unit {0}) U t (ready_below n wanted (Unit {0}) r j h) (λ _. tt)) S T i j q e,
      ))))
