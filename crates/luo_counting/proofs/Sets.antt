-- Sets and cycles of labelled items: sums of products of any weights.
use Rattle.std.proofs.Common.{◌≡◌, ℕ, zero, suc, ◌+◌, ◌≤◌, ◌<◌, List, [], ◌∷◌, ◌++◌, ◌⊎◌, inl, inr, ⊎_elim, length, refl, sym, ◌∙◌, ap, subst, arith, flat_map}
use Rattle.std.proofs.lemmas.List.Concat.{flat_map-cons}
use Rattle.luo_finite.specs.Listing.{In, Pairwise}
use Rattle.luo_finite.specs.Each.{Each, total}
use Rattle.luo_model.specs.declared.program.Universe.TheVariants.{Labelled}
use Rattle.luo_model.specs.Structures.{Rising, Holds}
use Rattle.luo_model.specs.Tree.{least_of}
use Rattle.luo_model.specs.Standing.{IsLed}
use Rattle.luo_counting.specs.Sharing.{over_shares, IsRoom}
use Rattle.luo_counting.specs.Items.{On, RowOn}
use Rattle.luo_counting.specs.Weights.{Algebra, times, product, Measured}
use Rattle.luo_counting.specs.WeightNumbers.{at_zero, shares_in, rows_in, sets_in, cycles_in}
use Rattle.luo_counting.proofs.Two.{IsSized, Apart}
use Rattle.luo_counting.proofs.Rows.{Ready, cons_one, empty_row, known, ready_below, rows_sized, no_row, rows_in-zero, pair_numbers, Measured-rows}
use Rattle.luo_counting.proofs.Led.{Leading, Sums-led, first_has, has_first}
use Rattle.luo_counting.proofs.Measured.{Nil, Measured-iff, Measured-map, Measured-none}

module _ {A : Type 0} (M : A → Type 0) (size : A → ℕ) (lab : A → List ℕ) where
  -- k items that meet a condition
  abbrev pub RestOf : ℕ → (List A → Type 0) → List A → Type 0
  RestOf k Tail xs = Each M xs × (length xs ≡ k) × Tail xs

  -- a row on the labels x and L, with x in the first, and a condition on the rest
  abbrev pub Headed : ℕ → (List A → Type 0) → ℕ → List ℕ → List A → Type 0
  Headed k Tail x L xs = (v : A × List A) × Leading M (RestOf k Tail) size (total size) lab (flat_map lab) x L v × (xs ≡ v.0 ∷ v.1)

  -- a set: the least labels rise
  abbrev pub SetOn : List ℕ → ℕ → ℕ → List A → Type 0
  SetOn L k n xs = RowOn Labelled M size lab L k n xs × Pairwise (λ x y. least_of (lab x) < least_of (lab y)) xs

  -- a cycle: the least label is in the first
  abbrev pub CycleOn : List ℕ → ℕ → ℕ → List A → Type 0
  CycleOn L k n xs = RowOn Labelled M size lab L k n xs × IsLed (λ x. least_of (lab x)) xs

  pub headed_row : (k : ℕ) (Tail : List A → Type 0) (x : ℕ) (L : List ℕ) (xs : List A) (h : Headed k Tail x L xs) → RowOn Labelled M size lab (x ∷ L) (suc k) (suc (length L)) xs
  headed_row k Tail x L xs (v, m, e) =
      let q = m.0 in
      subst (RowOn Labelled M size lab (x ∷ L) (suc k) (suc (length L))) (sym e) ((q.0, q.1.0), omega (arith, q.1.1), q.2, subst (Holds (x ∷ L)) (sym (flat_map-cons lab v.0 v.1)) q.3)

  pub full_of : (none : (x : A) → M x → size x ≡ 0 → ⊥) → IsSized Labelled M size lab → (y : A) → M y → 1 ≤ length (lab y)
  full_of none s y m = at_least_one (size y) (length (lab y)) (s y m) (none y m)
    where
      at_least_one : (n k : ℕ) → n ≡ k → (n ≡ 0 → ⊥) → 1 ≤ k
      at_least_one zero k e h = absurd (h refl)
      at_least_one (suc n) k e h = omega (arith, e)

module _ (K : Algebra) {A : Type 0} (M : A → Type 0) (size : A → ℕ) (lab : A → List ℕ) (W : A → K.Slot → ℕ) (a : ℕ → K.Slot → ℕ) where
  -- what stands behind the first: Tail is a condition on it, c its numbers
  module _ (Tail : List A → Type 0) (k n : ℕ) (wanted : Type 0) (r : Ready K Labelled M size lab W a n wanted) (o : suc k ≡ 1 → wanted) (c : ℕ → K.Slot → ℕ) (z : (j : ℕ) → k ≡ suc j → (i : K.Slot) → c 0 i ≡ 0)
      (h : (j : ℕ) → j < n → (T : List ℕ) → IsRoom Labelled T j → Measured K (λ xs. RowOn Labelled M size lab T k j xs × Tail xs) (product K W) (c j)) where
    abbrev Rest : List A → Type 0
    Rest = RestOf M size lab k Tail

    rest_known : (j : ℕ) → j < n → (T : List ℕ) → IsRoom Labelled T j → Measured K (On Labelled Rest (total size) (flat_map lab) T j) (product K W) (c j)
    rest_known j l T t =
        Measured-iff K (λ xs. RowOn Labelled M size lab T k j xs × Tail xs) (On Labelled Rest (total size) (flat_map lab) T j) (product K W) (c j)
        (λ xs m. ((m.0.0, m.0.1, m.1), m.0.2, m.0.3)) (λ xs m. ((m.0.0, m.0.1, m.1, m.2), m.0.2)) (h j l T t)

    zero_or : (k : ℕ) → (k ≡ 0) ⊎ ((j : ℕ) × (k ≡ suc j))
    zero_or zero = inl refl
    zero_or (suc j) = inr (j, refl)

    head_known : (S T : List ℕ) (i j : ℕ) → IsRoom Labelled S (suc i) → suc (i + j) ≡ n → Measured K (On Labelled M size lab S (suc i)) W (a (suc i)) ⊎ Nil K (On Labelled Rest (total size) (flat_map lab) T j) (c j)
    head_known S T i zero s e = ⊎_elim
        (λ q. inl (subst (λ m. (S : List ℕ) → IsRoom Labelled S m → Measured K (On Labelled M size lab S m) W (a m)) (let p : n ≡ suc i = omega (arith, e) in p) (r.here (o (omega (arith, q)))) S s))
        (λ q. inr (record {
          none = λ xs m. no_row Labelled M size lab r.none T q.0 xs (m.0.0, m.0.1 ∙ q.1, m.1, m.2);
          no_number = z q.0 q.1;
        }))
        (zero_or k)
    head_known S T i (suc j) s e = inl (known K Labelled M size lab W a n wanted r (suc i) (omega (arith, e)) S s)

    headed_pair : (L : List ℕ) → suc (length L) ≡ n → (S T : List ℕ) (i j : ℕ) → IsRoom Labelled S (suc i) → IsRoom Labelled T j → i + j ≡ length L
        → Measured K (Apart Labelled M Rest size (total size) lab (flat_map lab) S T (suc i) j) (λ v. times K.table (W v.0) (product K W v.1)) (times K.table (a (suc i)) (c j))
    headed_pair L q S T i j s t e =
        pair_numbers K M Rest size (total size) lab (flat_map lab) W (product K W) a c Labelled S T (suc i) j (head_known S T i j s (omega (arith, e, q)), inl (rest_known j (omega (arith, e, q)) T t))

    -- THE LAW of rows of which the first has the least label
    pub Measured-headed : (x : ℕ) (L : List ℕ) → Rising (x ∷ L) → ((y : ℕ) → In y (x ∷ L) → 1 ≤ y) → suc (length L) ≡ n
        → Measured K (Headed M size lab k Tail x L) (product K W) (shares_in K Labelled (λ i. a (suc i)) c (length L))
    unfolding over_shares
    Measured-headed x L s pos q =
        Measured-map K (Leading M Rest size (total size) lab (flat_map lab) x L) (λ v. v.0 ∷ v.1) (product K W) (shares_in K Labelled (λ i. a (suc i)) c (length L))
        (λ y v m p e. cons_one y v e)
        (λ f. Sums-led M Rest size (total size) lab (flat_map lab) x L (λ v. times K.table (W v.0) (product K W v.1) f) (λ i j. times K.table (a (suc i)) (c j) f) s pos r.sized (rows_sized Labelled M size lab Rest (λ xs m. m.0) r.sized)
        (λ S T i j u t e. headed_pair L q S T i j u t e f))

  -- sets
  sets-zero : (k j : ℕ) → k ≡ suc j → (i : K.Slot) → sets_in K a k 0 i ≡ 0
  sets-zero zero j e i = absurd (omega arith)
  sets-zero (suc k) j e i = refl

  to_set : (n : ℕ) (wanted : Type 0) → Ready K Labelled M size lab W a n wanted → (k x : ℕ) (L : List ℕ) → Rising (x ∷ L) → (xs : List A)
      → Headed M size lab k (Pairwise (λ x y. least_of (lab x) < least_of (lab y))) x L xs → SetOn M size lab (x ∷ L) (suc k) (suc (length L)) xs
  to_set n wanted r k x L s xs m =
      let v = m.0 in
      let q = m.1.0 in (
        headed_row M size lab k (Pairwise (λ x y. least_of (lab x) < least_of (lab y))) x L xs m,
        subst (Pairwise (λ x y. least_of (lab x) < least_of (lab y))) (sym m.2) (has_first M lab (full_of M size lab r.none r.sized) x L s v.0 v.1 q.0 q.1.0 q.3 m.1.1, q.1.2),
      )

  of_set : (n : ℕ) (wanted : Type 0) → Ready K Labelled M size lab W a n wanted → (k x : ℕ) (L : List ℕ) → Rising (x ∷ L) → (xs : List A)
      → SetOn M size lab (x ∷ L) (suc k) (suc (length L)) xs → Headed M size lab k (Pairwise (λ x y. least_of (lab x) < least_of (lab y))) x L xs
  of_set n wanted r k x L s [] m = absurd (omega (arith, m.0.1))
  of_set n wanted r k x L s (y ∷ ys) m =
      let h : Holds (x ∷ L) (lab y ++ flat_map lab ys) = subst (Holds (x ∷ L)) (flat_map-cons lab y ys) m.0.3 in
      ((y, ys), ((m.0.0.0, (m.0.0.1, omega (arith, m.0.1), m.1.1), m.0.2, h), first_has M lab (full_of M size lab r.none r.sized) x L s y ys m.0.0.0 m.0.0.1 h (λ u i. omega (arith, m.1.0 u i))), refl)

  -- THE LAW of sets
  pub Measured-sets : (k n : ℕ) (wanted : Type 0) (L : List ℕ) → IsRoom Labelled L n → Ready K Labelled M size lab W a n wanted → (k ≡ 1 → wanted) → Measured K (SetOn M size lab L k n) (product K W) (sets_in K a k n)
  Measured-sets zero n wanted L s r o =
      Measured-iff K (RowOn Labelled M size lab L 0 n) (SetOn M size lab L 0 n) (product K W) (at_zero K.one n) empty (λ xs m. m.0) (empty_row K Labelled M size lab W n L s)
    where
      empty : (xs : List A) → RowOn Labelled M size lab L 0 n xs → SetOn M size lab L 0 n xs
      empty [] m = (m, tt)
      empty (y ∷ ys) m = absurd (omega (arith, m.1))
  Measured-sets (suc k) zero wanted L s r o = Measured-none K (SetOn M size lab L (suc k) 0) (product K W) (sets_in K a (suc k) 0) (λ i. refl) (λ xs m. no_row Labelled M size lab r.none L k xs m.0)
  Measured-sets (suc k) (suc n) wanted [] s r o = absurd (omega (arith, s.1))
  Measured-sets (suc k) (suc n) wanted (x ∷ L) s r o =
      let e : length L ≡ n = omega (arith, s.1) in
      let Tail : List A → Type 0 = Pairwise (λ x y. least_of (lab x) < least_of (lab y)) in
      subst (λ m. Measured K (SetOn M size lab (x ∷ L) (suc k) (suc m)) (product K W) (sets_in K a (suc k) (suc m))) e
      (Measured-iff K (Headed M size lab k Tail x L) (SetOn M size lab (x ∷ L) (suc k) (suc (length L))) (product K W) (sets_in K a (suc k) (suc (length L)))
      (to_set (suc n) wanted r k x L s.0) (of_set (suc n) wanted r k x L s.0)
      (Measured-headed Tail k (suc n) wanted r o (sets_in K a k) (sets-zero k)
      (λ j h T t. Measured-sets k j (Unit {0}) T t (ready_below K Labelled M size lab W a (suc n) wanted (Unit {0}) r j h) (λ _. tt)) x L s.0 s.2 (omega (arith, e))))

  -- cycles
  rows-zeros : (n : ℕ) (wanted : Type 0) → Ready K Labelled M size lab W a n wanted → (k j : ℕ) → k ≡ suc j → (i : K.Slot) → rows_in K Labelled a k 0 i ≡ 0
  rows-zeros n wanted r k j e i = ap (λ m. rows_in K Labelled a m 0 i) e ∙ rows_in-zero K Labelled a j r.no_number i

  to_cycle : (n : ℕ) (wanted : Type 0) → Ready K Labelled M size lab W a n wanted → (k x : ℕ) (L : List ℕ) → Rising (x ∷ L) → (xs : List A) → Headed M size lab k (λ xs. Unit {0}) x L xs → CycleOn M size lab (x ∷ L) (suc k) (suc (length L)) xs
  to_cycle n wanted r k x L s xs m =
      let v = m.0 in
      let q = m.1.0 in (
        headed_row M size lab k (λ xs. Unit {0}) x L xs m,
        subst (IsLed (λ x. least_of (lab x))) (sym m.2) (λ u i. omega (arith, has_first M lab (full_of M size lab r.none r.sized) x L s v.0 v.1 q.0 q.1.0 q.3 m.1.1 u i)),
      )

  of_cycle : (n : ℕ) (wanted : Type 0) → Ready K Labelled M size lab W a n wanted → (k x : ℕ) (L : List ℕ) → Rising (x ∷ L) → (xs : List A) → CycleOn M size lab (x ∷ L) (suc k) (suc (length L)) xs → Headed M size lab k (λ xs. Unit {0}) x L xs
  of_cycle n wanted r k x L s [] m = absurd (omega (arith, m.0.1))
  of_cycle n wanted r k x L s (y ∷ ys) m =
      let h : Holds (x ∷ L) (lab y ++ flat_map lab ys) = subst (Holds (x ∷ L)) (flat_map-cons lab y ys) m.0.3 in
      ((y, ys), ((m.0.0.0, (m.0.0.1, omega (arith, m.0.1), tt), m.0.2, h), first_has M lab (full_of M size lab r.none r.sized) x L s y ys m.0.0.0 m.0.0.1 h m.1), refl)

  -- THE LAW of cycles
  pub Measured-cycles : (k n : ℕ) (wanted : Type 0) (L : List ℕ) → IsRoom Labelled L n → Ready K Labelled M size lab W a n wanted → 1 ≤ k → (k ≡ 1 → wanted) → Measured K (CycleOn M size lab L k n) (product K W) (cycles_in K a k n)
  Measured-cycles zero n wanted L s r one o = absurd (omega arith)
  Measured-cycles (suc k) zero wanted L s r one o = Measured-none K (CycleOn M size lab L (suc k) 0) (product K W) (cycles_in K a (suc k) 0) (λ i. refl) (λ xs m. no_row Labelled M size lab r.none L k xs m.0)
  Measured-cycles (suc k) (suc n) wanted [] s r one o = absurd (omega (arith, s.1))
  Measured-cycles (suc k) (suc n) wanted (x ∷ L) s r one o =
      let e : length L ≡ n = omega (arith, s.1) in
      subst (λ m. Measured K (CycleOn M size lab (x ∷ L) (suc k) (suc m)) (product K W) (cycles_in K a (suc k) (suc m))) e
      (Measured-iff K (Headed M size lab k (λ xs. Unit {0}) x L) (CycleOn M size lab (x ∷ L) (suc k) (suc (length L))) (product K W) (cycles_in K a (suc k) (suc (length L)))
      (to_cycle (suc n) wanted r k x L s.0) (of_cycle (suc n) wanted r k x L s.0)
      (Measured-headed (λ xs. Unit {0}) k (suc n) wanted r o (rows_in K Labelled a k) (rows-zeros (suc n) wanted r k)
      (λ j h T t. Measured-iff K (RowOn Labelled M size lab T k j) (λ xs. RowOn Labelled M size lab T k j xs × Unit {0}) (product K W) (rows_in K Labelled a k j) (λ xs m. (m, tt)) (λ xs m. m.0)
      (Measured-rows K Labelled M size lab W a k j (Unit {0}) T t (ready_below K Labelled M size lab W a (suc n) wanted (Unit {0}) r j h) (λ _. tt))) x L s.0 s.2 (omega (arith, e))))
