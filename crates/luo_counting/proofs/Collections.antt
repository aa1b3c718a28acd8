-- Collections of every kind: sums of products of any weights.
use Rattle.std.proofs.Common.{◌≡◌, ℕ, zero, suc, ◌+◌, ◌-◌, ◌≤◌, ◌<◌, List, [], ◌∷◌, length, refl, sym, subst, arith, Option, Some, None, ◌⊎◌, inl, inr, ◌∙◌, ap, map, sum_by}
use Rattle.luo_finite.specs.Listing.{In, Pairwise, Lists, Sums}
use Rattle.luo_finite.specs.Range.{below, sum_below}
use Rattle.luo_finite.proofs.Ranges.{In-below, below_In}
use Rattle.luo_finite.specs.Each.{Each, total}
use Rattle.luo_finite.proofs.Sums.{Sums-iff}
use Rattle.luo_model.specs.declared.program.Universe.{Universe}
use Rattle.luo_model.specs.declared.program.Universe.TheVariants.{Unlabelled, Labelled}
use Rattle.luo_model.specs.declared.program.Kind.{Kind}
use Rattle.luo_model.specs.declared.program.Kind.TheVariants.{Sequence, Set, Cycle, Multiset, Powerset}
use Rattle.luo_model.specs.Member.{IsWithin}
use Rattle.luo_model.specs.Collections.{IsCollectionOf}
use Rattle.luo_model.specs.Standing.{StandAs}
use Rattle.luo_model.specs.Tree.{least_of}
use Rattle.luo_counting.specs.Sharing.{IsRoom}
use Rattle.luo_counting.specs.Items.{RowOn, Suits, On}
use Rattle.luo_counting.specs.Numbers.{terms}
use Rattle.luo_counting.specs.Weights.{Algebra, IsAlgebra, product, Measured}
use Rattle.luo_counting.specs.WeightNumbers.{repeats_in, subsets_in, rows_in, plane_in, of_k_in, coll_in}
use Rattle.luo_counting.proofs.Rows.{Ready, Measured-rows}
use Rattle.luo_counting.proofs.Sets.{Measured-sets, Measured-cycles}
use Rattle.luo_finite.proofs.Falling.{IsOrder, IsBySize, falling_listing, size_falls}
use Rattle.luo_counting.proofs.Planes.{Bag, Each-into, ClassRow, Measured-plane}
use Rattle.luo_counting.proofs.Choices.{NotAbove, Below, Choice, Measured-repeats, Measured-subsets}
use Rattle.luo_counting.proofs.Measured.{Measured-at, Measured-iff, Measured-one, Measured-over_below}

sizes_small : {A : Type 0} (M : A → Type 0) (size : A → ℕ) (xs : List A) → Each M xs → Each (λ x. M x × (size x ≤ total size xs)) xs
sizes_small M size [] m = tt
sizes_small M size (x ∷ xs) m =
    ((m.0, omega arith), Each-into (λ y. M y × (size y ≤ total size xs)) (λ y. M y × (size y ≤ size x + total size xs)) xs (λ y p. (p.0, omega (arith, p.1))) (sizes_small M size xs m.1))

-- there are no more items than the size
few : {A : Type 0} (M : A → Type 0) (size : A → ℕ) (none : (x : A) → M x → size x ≡ 0 → ⊥) (xs : List A) → Each M xs → length xs ≤ total size xs
few M size none [] m = omega arith
few M size none (x ∷ xs) m = omega (arith, few M size none xs m.1, at_least_one (size x) (none x m.0))
  where
    at_least_one : (n : ℕ) → (n ≡ 0 → ⊥) → 1 ≤ n
    at_least_one zero h = absurd (h refl)
    at_least_one (suc n) h = omega arith

-- the numbers of items within the bounds and up to n
pub in_terms : (low : ℕ) (high : Option ℕ) (n k : ℕ) → IsWithin low high k → k ≤ n → (i : ℕ) × (i < terms low high n) × (low + i ≡ k)
in_terms low (Some h) n k m l = (k - low, omega (arith, m.0, m.1, l), omega (arith, m.0))
in_terms low None n k m l = (k - low, omega (arith, m, l), omega (arith, m))

pub terms_in : (low : ℕ) (high : Option ℕ) (n i : ℕ) → i < terms low high n → IsWithin low high (low + i)
terms_in low (Some h) n i l = (omega arith, omega (arith, l))
terms_in low None n i l = omega arith

-- chosen kind x j is what the choices of j of things come to whose weights sum to x
pub record Closes (K : Algebra) {A : Type 0} (W : A → K.Slot → ℕ) (chosen : Kind → (K.Slot → ℕ) → ℕ → K.Slot → ℕ) : Type 0 where
  pub start : (kind : Kind) (x : K.Slot → ℕ) (k : K.Slot) → chosen kind x 0 k ≡ K.one k
  pub repeats : (l : List A) (j : ℕ) (k : K.Slot) → repeats_in K (map W l) j k ≡ chosen Multiset (λ i. sum_by (λ x. W x i) l) j k
  pub subsets : (l : List A) (j : ℕ) (k : K.Slot) → subsets_in K (map W l) j k ≡ chosen Powerset (λ i. sum_by (λ x. W x i) l) j k

module _ (K : Algebra) (laws : IsAlgebra K) {A : Type 0} (M : A → Type 0) (size : A → ℕ) (lab : A → List ℕ) (W : A → K.Slot → ℕ) (chosen : Kind → (K.Slot → ℕ) → ℕ → K.Slot → ℕ) (closes : Closes K W chosen) (a : ℕ → K.Slot → ℕ)
    (Before : A → A → Type 0) (order : IsOrder Before) (by_size : IsBySize size Before) where
  empty_class : (R : A → A → Type 0) (kind : Kind) (e : ℕ) → Measured K (ClassRow M size R e 0) (product K W) (chosen kind (a e) 0)
  empty_class R kind e = Measured-at K (ClassRow M size R e 0) (product K W) K.one (chosen kind (a e) 0) (λ k. sym (closes.start kind (a e) k)) (Measured-one K (ClassRow M size R e 0) (product K W) [] (tt, tt, refl) only)
    where
      only : (xs : List A) → ClassRow M size R e 0 xs → xs ≡ []
      only [] m = refl
      only (x ∷ xs) m = absurd (omega (arith, m.2))

  -- the choices among a listing of the items of one size are the rows of this class
  class_of : (R : A → A → Type 0) (e j : ℕ) (k : K.Slot) (r : ℕ) (l : List A) → Lists (On Unlabelled M size lab [] e) l → Sums (Choice R l j) (λ xs. product K W xs k) r → Sums (ClassRow M size R e j) (λ xs. product K W xs k) r
  class_of R e j k r l h m =
      Sums-iff (Choice R l j) (ClassRow M size R e j) (λ xs. product K W xs k) r
      (λ xs m. (Each-into (λ x. In x l) (λ x. M x × (size x ≡ e)) xs (λ x i. let s = h.sound x i in (s.0, s.1)) m.0, m.1, m.2))
      (λ xs m. (Each-into (λ x. M x × (size x ≡ e)) (λ x. In x l) xs (λ x p. h.complete x (p.0, p.1, tt)) m.0, m.1, m.2)) m

  multiset_class : (e j : ℕ) → Measured K (On Unlabelled M size lab [] e) W (a e) → Measured K (ClassRow M size (NotAbove Before) e j) (product K W) (chosen Multiset (a e) j)
  multiset_class e j m = λ k.
      let r = falling_listing Before order (On Unlabelled M size lab [] e) (m k).exists.0 (m k).exists.1 in
      let l : List A = r.0 in
      class_of (NotAbove Before) e j k (chosen Multiset (a e) j k) l r.2
      (subst (Sums (Choice (NotAbove Before) l j) (λ xs. product K W xs k)) (closes.repeats l j k ∙ ap (λ (y : K.Slot → ℕ). chosen Multiset y j k) (λ i s. (m s).each l r.2 i))
      (Measured-repeats K Before order W l j r.1 k))

  powerset_class : (e j : ℕ) → Measured K (On Unlabelled M size lab [] e) W (a e) → Measured K (ClassRow M size (Below Before) e j) (product K W) (chosen Powerset (a e) j)
  powerset_class e j m = λ k.
      let r = falling_listing Before order (On Unlabelled M size lab [] e) (m k).exists.0 (m k).exists.1 in
      let l : List A = r.0 in
      class_of (Below Before) e j k (chosen Powerset (a e) j k) l r.2
      (subst (Sums (Choice (Below Before) l j) (λ xs. product K W xs k)) (closes.subsets l j k ∙ ap (λ (y : K.Slot → ℕ). chosen Powerset y j k) (λ i s. (m s).each l r.2 i))
      (Measured-subsets K Before order W l j r.1 k))

  class_known : (N : ℕ) (wanted : Type 0) → Ready K Unlabelled M size lab W a N wanted → (e : ℕ) → 1 ≤ e → (e < N) ⊎ ((e ≡ N) × wanted) → Measured K (On Unlabelled M size lab [] e) W (a e)
  class_known N wanted r e h (inl l) = r.below e h l [] tt
  class_known N wanted r e h (inr q) = subst (λ m. Measured K (On Unlabelled M size lab [] m) W (a m)) (sym q.0) (r.here q.1 [] tt)

  multiset_classes : (N : ℕ) (wanted : Type 0) → Ready K Unlabelled M size lab W a N wanted → (e j : ℕ) → 1 ≤ e → (e < N) ⊎ (j ≡ 0) ⊎ ((e ≡ N) × wanted) → Measured K (ClassRow M size (NotAbove Before) e j) (product K W) (chosen Multiset (a e) j)
  multiset_classes N wanted r e zero h o = empty_class (NotAbove Before) Multiset e
  multiset_classes N wanted r e (suc j) h (inl l) = multiset_class e (suc j) (class_known N wanted r e h (inl l))
  multiset_classes N wanted r e (suc j) h (inr (inl z)) = absurd (omega (arith, z))
  multiset_classes N wanted r e (suc j) h (inr (inr q)) = multiset_class e (suc j) (class_known N wanted r e h (inr q))

  powerset_classes : (N : ℕ) (wanted : Type 0) → Ready K Unlabelled M size lab W a N wanted → (e j : ℕ) → 1 ≤ e → (e < N) ⊎ (j ≡ 0) ⊎ ((e ≡ N) × wanted) → Measured K (ClassRow M size (Below Before) e j) (product K W) (chosen Powerset (a e) j)
  powerset_classes N wanted r e zero h o = empty_class (Below Before) Powerset e
  powerset_classes N wanted r e (suc j) h (inl l) = powerset_class e (suc j) (class_known N wanted r e h (inl l))
  powerset_classes N wanted r e (suc j) h (inr (inl z)) = absurd (omega (arith, z))
  powerset_classes N wanted r e (suc j) h (inr (inr q)) = powerset_class e (suc j) (class_known N wanted r e h (inr q))

  falls : (x y : A) → (Before x y → ⊥) → size y ≤ size x
  falls = size_falls size Before by_size

  Of : Universe → Kind → List ℕ → ℕ → ℕ → List A → Type 0
  Of u kind L k n xs = RowOn u M size lab L k n xs × StandAs (λ x. least_of (lab x)) Before kind xs

  bag_row : (kind : Kind) (R : A → A → Type 0) (L : List ℕ) (k n : ℕ) → ((xs : List A) → Pairwise R xs → StandAs (λ x. least_of (lab x)) Before kind xs) → ((xs : List A) → StandAs (λ x. least_of (lab x)) Before kind xs → Pairwise R xs) → (r : K.Slot → ℕ)
      → Measured K (Bag M size R n k n) (product K W) r → Measured K (λ xs. RowOn Unlabelled M size lab L k n xs × StandAs (λ x. least_of (lab x)) Before kind xs) (product K W) r
  bag_row kind R L k n into from r m =
      Measured-iff K (Bag M size R n k n) (λ xs. RowOn Unlabelled M size lab L k n xs × StandAs (λ x. least_of (lab x)) Before kind xs) (product K W) r
      (λ xs b. ((Each-into (λ x. M x × (size x ≤ n)) M xs (λ x p. p.0) b.0, b.2, b.3, tt), into xs b.1))
      (λ xs m. (subst (λ i. Each (λ x. M x × (size x ≤ i)) xs) m.0.2 (sizes_small M size xs m.0.0), from xs m.1, m.0.1, m.0.2)) m

  -- THE LAW of k items of each kind
  pub Measured-of_k : (u : Universe) (kind : Kind) (k n : ℕ) (wanted : Type 0) (L : List ℕ) → Suits u kind k → IsRoom u L n → Ready K u M size lab W a n wanted → (k ≡ 1 → wanted)
      → Measured K (λ xs. RowOn u M size lab L k n xs × StandAs (λ x. least_of (lab x)) Before kind xs) (product K W) (of_k_in K chosen u kind a k n)
  Measured-of_k u Sequence k n wanted L s r h o =
      Measured-iff K (RowOn u M size lab L k n) (λ xs. RowOn u M size lab L k n xs × Unit {0}) (product K W) (rows_in K u a k n) (λ xs m. (m, tt)) (λ xs m. m.0) (Measured-rows K u M size lab W a k n wanted L r h o)
  Measured-of_k Labelled Set k n wanted L s r h o = Measured-sets K M size lab W a k n wanted L r h o
  Measured-of_k Labelled Cycle k n wanted L s r h o = Measured-cycles K M size lab W a k n wanted L r h s o
  Measured-of_k Unlabelled Multiset k n wanted L s r h o =
      bag_row Multiset (NotAbove Before) L k n (λ xs p. p) (λ xs p. p) (plane_in K (λ e j. chosen Multiset (a e) j) n k n)
      (Measured-plane K laws M size (NotAbove Before) W (λ e j. chosen Multiset (a e) j) n wanted h.none falls (λ x y l q. order.one_way y x (by_size y x l) q) (multiset_classes n wanted h) n k n (omega arith) (λ q _. o q))
  Measured-of_k Unlabelled Powerset k n wanted L s r h o =
      bag_row Powerset (Below Before) L k n (λ xs p. p) (λ xs p. p) (plane_in K (λ e j. chosen Powerset (a e) j) n k n)
      (Measured-plane K laws M size (Below Before) W (λ e j. chosen Powerset (a e) j) n wanted h.none (λ x y q. falls x y (λ g. order.one_way x y g q)) (λ x y l. by_size y x l) (powerset_classes n wanted h) n k n (omega arith) (λ q _. o q))
  Measured-of_k Unlabelled Set k n wanted L s r h o = absurd s
  Measured-of_k Unlabelled Cycle k n wanted L s r h o = absurd s
  Measured-of_k Labelled Multiset k n wanted L s r h o = absurd s
  Measured-of_k Labelled Powerset k n wanted L s r h o = absurd s

  -- THE LAW of collections
  pub Measured-collections : (u : Universe) (kind : Kind) (low : ℕ) (high : Option ℕ) (n : ℕ) (L : List ℕ) → Suits u kind low → IsRoom u L n → Ready K u M size lab W a n (IsWithin low high 1)
      → Measured K (IsCollectionOf u M size lab Before kind low high L n) (product K W) (coll_in K chosen u kind a low high n)
  unfolding coll_in
  Measured-collections u kind low high n L s r h =
      Measured-iff K (λ xs. (i : ℕ) × In i (below (terms low high n)) × (RowOn u M size lab L (low + i) n xs × StandAs (λ x. least_of (lab x)) Before kind xs)) (IsCollectionOf u M size lab Before kind low high L n) (product K W)
      (λ f. sum_below (λ i. of_k_in K chosen u kind a (low + i) n f) (terms low high n))
      (λ xs m. let q = m.2 in (subst (IsWithin low high) (sym q.0.1) (terms_in low high n m.0 (below_In (terms low high n) m.0 m.1)), q.0.0, q.1, q.0.2, q.0.3))
      (λ xs m. let t = in_terms low high n (length xs) m.0 (omega (arith, few M size h.none xs m.1, m.3)) in
      (t.0, In-below (terms low high n) t.0 t.1, ((m.1, sym t.2, m.3, m.4), m.2)))
      (Measured-over_below K (λ i xs. RowOn u M size lab L (low + i) n xs × StandAs (λ x. least_of (lab x)) Before kind xs) (product K W) (λ i. of_k_in K chosen u kind a (low + i) n) (terms low high n)
      (λ i j xs p q. omega (arith, p.0.1, q.0.1))
      (λ i l. Measured-of_k u kind (low + i) n (IsWithin low high 1) L (suits_more u kind low i s) r h (λ e. subst (IsWithin low high) e (terms_in low high n i l))))
    where
      suits_more : (u : Universe) (kind : Kind) (low i : ℕ) → Suits u kind low → Suits u kind (low + i)
      suits_more u Sequence low i s = tt
      suits_more Labelled Set low i s = tt
      suits_more Labelled Cycle low i s = omega (arith, s)
      suits_more Unlabelled Multiset low i s = tt
      suits_more Unlabelled Powerset low i s = tt
      suits_more Unlabelled Set low i s = s
      suits_more Unlabelled Cycle low i s = s
      suits_more Labelled Multiset low i s = s
      suits_more Labelled Powerset low i s = s
