-- Places of sequences, sets and cycles: the first component, then the rest.
use Rattle.std.proofs.Common.{◌≡◌, ℕ, zero, suc, ◌+◌, ◌*◌, ◌-◌, ◌≤◌, ◌<◌, List, [], ◌∷◌, ◌++◌, length, refl, sym, subst, arith, flat_map, Option, Some, None}
use Rattle.std.proofs.lemmas.List.Concat.{flat_map-cons}
use Rattle.luo_finite.specs.Listing.{In, Sums, Pairwise}
use Rattle.luo_finite.specs.Range.{sum_below}
use Rattle.luo_finite.proofs.Sums.{Sums-iff, Sums-map}
use Rattle.luo_finite.proofs.Ranges.{Sums-by_key}
use Rattle.luo_model.specs.declared.program.Universe.{Universe}
use Rattle.luo_model.specs.declared.program.Universe.TheVariants.{Labelled}
use Rattle.luo_model.specs.declared.program.Kind.TheVariants.{Sequence}
use Rattle.luo_model.specs.Tree.{least_of}
use Rattle.luo_model.specs.Order.{sorted}
use Rattle.luo_model.specs.Member.{IsWithin}
use Rattle.luo_model.specs.Structures.{Holds}
use Rattle.luo_finite.specs.Binomial.{choose}
use Rattle.luo_model.specs.Collections.{Bears}
use Rattle.luo_counting.specs.Sharing.{splits, shares, IsRoom}
use Rattle.luo_model.specs.Collections.{IsCollectionOf}
use Rattle.luo_model.specs.Standing.{IsLed}
use Rattle.luo_finite.specs.Each.{Each, total}
use Rattle.luo_counting.specs.Items.{On}
use Rattle.luo_counting.proofs.Two.{IsSized, PairOn, Sums-two}
use Rattle.luo_counting.proofs.Rows.{rows_sized, cons_one}
use Rattle.luo_counting.proofs.Led.{first_has, has_first}
use Rattle.luo_finite.specs.Places.{IsPlace, Lex, Lexical, IsChoice}
use Rattle.luo_places.specs.Numbers.{ways, led_ways, pair_place, IsPart, ListBefore, one_less, AllowsOne}
use Rattle.luo_finite.proofs.OrderedPlaces.{Place-iff, Place-map}
use Rattle.luo_places.proofs.Orderings.{IsByRoom, In-sorted, sorted_In}
use Rattle.luo_finite.proofs.Choices.{led_place, led_counted, none_led}
use Rattle.luo_places.proofs.Pairs.{labelled_place, size_group, both_counted}
use Rattle.luo_places.proofs.Both.{Place-two}

-- bounds behind one component
pub within_rest : (low : ℕ) (high : Option ℕ) (k : ℕ) → IsWithin low high (suc k) → IsWithin (low - 1) (one_less high) k
within_rest low (Some h) k m = (omega (arith, m.0), omega (arith, m.1))
within_rest low None k m = omega (arith, m)

pub rest_within : (low : ℕ) (high : Option ℕ) (k : ℕ) → AllowsOne high → IsWithin (low - 1) (one_less high) k → IsWithin low high (suc k)
rest_within low (Some h) k o m = (omega (arith, m.0), omega (arith, m.1, o))
rest_within low None k o m = omega (arith, m)

module _ {A : Type 0} (M : A → Type 0) (size : A → ℕ) (lab : A → List ℕ) (Before : A → A → Type 0) (o : IsByRoom size lab Before) (solid : (x : A) → M x → size x ≡ 0 → ⊥) (a b : ℕ → ℕ) (low : ℕ) (high : Option ℕ) (one : AllowsOne high) where
  -- what may stand behind the first
  abbrev pub Behind : (List A → Type 0) → List A → Type 0
  Behind Tail xs = IsWithin (low - 1) (one_less high) (length xs) × Each M xs × Tail xs

  Join : A × List A → List A
  Join v = v.0 ∷ v.1

  abbrev pub Listed : (A × List A → Type 0) → List A → Type 0
  Listed P xs = (v : A × List A) × P v × (xs ≡ v.0 ∷ v.1)

  -- from pairs to lists
  joined : (P : A × List A → Type 0) (r : ℕ) (x : A) (xs : List A) → IsPlace P (Lex Before (ListBefore Before)) r (x, xs) → IsPlace (Listed P) (ListBefore Before) r (x ∷ xs)
  joined P r x xs m = Place-map P (Lex Before (ListBefore Before)) (ListBefore Before) (λ v. v.0 ∷ v.1) r (x, xs) (λ y z p q e. cons_one y z e) (λ y p h. h) (λ y p h. h) m

  abbrev pub Items : Universe → (List A → Type 0) → List ℕ → ℕ → A × List A → Type 0
  Items u Tail L n = PairOn u M (Behind Tail) size (total size) lab (flat_map lab) L n

  -- sequences
  abbrev Sequences : Universe → List ℕ → ℕ → List A → Type 0
  Sequences u L n xs = IsCollectionOf u M size lab Before Sequence low high L n xs

  abbrev Free : List A → Type 0
  Free xs = Unit {0}

  to_sequence : (u : Universe) (L : List ℕ) (n : ℕ) (xs : List A) → Listed (Items u Free L n) xs → Sequences u L n xs
  to_sequence u L n xs r =
      let v = r.0 in
      let m = r.1 in
      subst (Sequences u L n) (sym r.2) (rest_within low high (length v.1) one m.1.0, (m.0, m.1.1), tt, m.2, subst (Bears u L) (sym (flat_map-cons lab v.0 v.1)) m.3)

  of_sequence : (u : Universe) (L : List ℕ) (n : ℕ) → 1 ≤ n → (xs : List A) → Sequences u L n xs → Listed (Items u Free L n) xs
  of_sequence u L n l [] m = absurd (omega (arith, l, m.3))
  of_sequence u L n l (x ∷ xs) m = ((x, xs), (m.1.0, (within_rest low high (length xs) m.0, m.1.1, tt), m.3, subst (Bears u L) (flat_map-cons lab x xs) m.4), refl)

  at_least_one : (n m k : ℕ) → (m ≡ 0 → ⊥) → m + k ≡ n → 1 ≤ n
  at_least_one n zero k h e = absurd (h refl)
  at_least_one n (suc m) k h e = omega (arith, e)

  -- the rest as a collection of its own
  rest_counted : (u : Universe) (Tail : List A → Type 0) (Rest : List ℕ → ℕ → List A → Type 0) (k : ℕ) (U : List ℕ) (c : ℕ)
      → ((xs : List A) → Rest U k xs → On u (Behind Tail) (total size) (flat_map lab) U k xs) → ((xs : List A) → On u (Behind Tail) (total size) (flat_map lab) U k xs → Rest U k xs)
      → Sums (Rest U k) (λ v. 1) c → Sums (On u (Behind Tail) (total size) (flat_map lab) U k) (λ v. 1) c
  rest_counted u Tail Rest k U c there back s = Sums-iff (Rest U k) (On u (Behind Tail) (total size) (flat_map lab) U k) (λ v. 1) c there back s

  abbrev RestSequences : Universe → List ℕ → ℕ → List A → Type 0
  RestSequences u L n xs = IsCollectionOf u M size lab Before Sequence (low - 1) (one_less high) L n xs

  -- THE LAW of sequences
  pub Place-sequence : (u : Universe) (n : ℕ) (L : List ℕ) → IsRoom u L n → IsSized u M size lab
      → ((k : ℕ) → k ≤ n → (U : List ℕ) → IsRoom u U k → Sums (On u M size lab U k) (λ v. 1) (a k)) → ((k : ℕ) → k ≤ n → (U : List ℕ) → IsRoom u U k → Sums (RestSequences u U k) (λ v. 1) (b k))
      → (i j q r s : ℕ) (x : A) (xs : List A) (S T : List ℕ) → i + j ≡ n → IsPart u L i q S T → IsPlace (On u M size lab S i) Before r x → IsPlace (RestSequences u T j) (ListBefore Before) s xs
      → IsPlace (Sequences u L n) (ListBefore Before) (pair_place (ways u n) a b n i q r s) (x ∷ xs)
  Place-sequence u n L room sized known rest i j q r s x xs S T e part m k =
      let l : 1 ≤ n = at_least_one n (size x) j (solid x m.there.0) (omega (arith, m.there.1, e)) in
      Place-iff (Listed (Items u Free L n)) (Sequences u L n) (ListBefore Before) (ListBefore Before) (pair_place (ways u n) a b n i q r s) (x ∷ xs) (to_sequence u L n) (of_sequence u L n l) (λ y p h. h) (λ y p h. h)
      (joined (Items u Free L n) (pair_place (ways u n) a b n i q r s) x xs
      (Place-two M (Behind Free) size (total size) lab (flat_map lab) Before (ListBefore Before) o a b n u L room sized (rows_sized u M size lab (Behind Free) (λ xs m. m.1) sized) known
      (λ h g U t. rest_counted u Free (RestSequences u) h U (b h) (λ xs m. ((m.0, m.1, tt), m.3, m.4)) (λ xs m. (m.0.0, m.0.1, tt, m.1, m.2)) (rest h g U t))
      i j q r s x xs S T e part m
      (Place-iff (RestSequences u T j) (On u (Behind Free) (total size) (flat_map lab) T j) (ListBefore Before) (ListBefore Before) s xs (λ xs m. ((m.0, m.1, tt), m.3, m.4)) (λ xs m. (m.0.0, m.0.1, tt, m.1, m.2)) (λ y p h. h) (λ y p h. h) k)))

  -- how many there are
  pub sequences_counted : (u : Universe) (n : ℕ) (L : List ℕ) → IsRoom u L n → 1 ≤ n → IsSized u M size lab
      → ((k : ℕ) → k ≤ n → (U : List ℕ) → IsRoom u U k → Sums (On u M size lab U k) (λ v. 1) (a k)) → ((k : ℕ) → k ≤ n → (U : List ℕ) → IsRoom u U k → Sums (RestSequences u U k) (λ v. 1) (b k))
      → Sums (Sequences u L n) (λ v. 1) (shares u a b n)
  sequences_counted u n L room l sized known rest =
      Sums-iff (Listed (Items u Free L n)) (Sequences u L n) (λ v. 1) (shares u a b n) (to_sequence u L n) (of_sequence u L n l)
      (Sums-map (Items u Free L n) (λ v. v.0 ∷ v.1) (λ v. 1) (shares u a b n) (λ y z q w e. cons_one y z e)
      (Sums-two M (Behind Free) size (total size) lab (flat_map lab) (λ z. 1) (λ i j. a i * b j) n u L room sized (rows_sized u M size lab (Behind Free) (λ xs m. m.1) sized)
      (λ S T i j s t e. both_counted (On u M size lab S i) (On u (Behind Free) (total size) (flat_map lab) T j) (a i) (b j) (known i (omega (arith, e)) S s)
      (rest_counted u Free (RestSequences u) j T (b j) (λ xs m. ((m.0, m.1, tt), m.3, m.4)) (λ xs m. (m.0.0, m.0.1, tt, m.1, m.2)) (rest j (omega (arith, e)) T t)))))

  -- labelled, with the least label in the first
  module _ (Tail : List A → Type 0) (Whole : List A → Type 0) (l : ℕ) (L : List ℕ) (n : ℕ) (room : IsRoom Labelled (l ∷ L) n) (sized : IsSized Labelled M size lab) where
    abbrev pub Wholes : List A → Type 0
    Wholes xs = IsWithin low high (length xs) × Each M xs × Whole xs × (total size xs ≡ n) × Holds (l ∷ L) (flat_map lab xs)

    abbrev pub Rests : List ℕ → ℕ → List A → Type 0
    Rests T j xs = IsWithin (low - 1) (one_less high) (length xs) × Each M xs × Tail xs × (total size xs ≡ j) × Holds T (flat_map lab xs)

    unfoldable pub LedPairs : A × List A → Type 0
    LedPairs v = Items Labelled Tail (l ∷ L) n v × In l (sorted (lab v.0))

    -- the whole stands right exactly where the least label is in the first and the rest stands right
    abbrev pub Heads : Type 0
    Heads = (y : A) (ys : List A) → M y → Each M ys → Holds (l ∷ L) (lab y ++ flat_map lab ys) → (Whole (y ∷ ys) → In l (lab y) × Tail ys) × (In l (lab y) → Tail ys → Whole (y ∷ ys))

    module _ (heads : Heads) where
      pub to_whole : (xs : List A) → Listed LedPairs xs → Wholes xs
      unfolding LedPairs
      to_whole xs r =
          let v = r.0 in
          let m = r.1.0 in
          subst Wholes (sym r.2) (rest_within low high (length v.1) one m.1.0, (m.0, m.1.1), (heads v.0 v.1 m.0 m.1.1 m.3).1 (In-sorted (lab v.0) l r.1.1) m.1.2, m.2, subst (Holds (l ∷ L)) (sym (flat_map-cons lab v.0 v.1)) m.3)

      pub of_whole : 1 ≤ n → (xs : List A) → Wholes xs → Listed LedPairs xs
      unfolding LedPairs
      of_whole g [] m = absurd (omega (arith, g, m.3))
      of_whole g (x ∷ xs) m =
          let h : Holds (l ∷ L) (lab x ++ flat_map lab xs) = subst (Holds (l ∷ L)) (flat_map-cons lab x xs) m.4 in
          let k = (heads x xs m.1.0 m.1.1 h).0 m.2 in
          ((x, xs), ((m.1.0, (within_rest low high (length xs) m.0, m.1.1, k.1), m.3, h), sorted_In (lab x) l k.0), refl)

      led_choices : (k : ℕ) → Sums (λ D. IsChoice (l ∷ L) k D × In l D) (λ D. 1) (led_ways n k)
      led_choices zero = none_led l L
      led_choices (suc k) = subst (λ m. Sums (λ D. IsChoice (l ∷ L) (suc k) D × In l D) (λ D. 1) (choose m k)) (let e : length L ≡ n - 1 = omega (arith, room.1) in e) (led_counted l L k room.0)

      -- THE LAW of sets and cycles
      pub Place-led : ((k : ℕ) → k ≤ n → (U : List ℕ) → IsRoom Labelled U k → Sums (On Labelled M size lab U k) (λ v. 1) (a k)) → ((k : ℕ) → k ≤ n → (U : List ℕ) → IsRoom Labelled U k → Sums (Rests U k) (λ v. 1) (b k))
          → (i j q r s : ℕ) (x : A) (xs : List A) (C T : List ℕ) → suc i + j ≡ n → In (C, T) (splits L) → IsPlace (IsChoice L i) Lexical q C → In (l ∷ C, T) (splits (l ∷ L))
          → IsPlace (On Labelled M size lab (l ∷ C) (suc i)) Before r x → IsPlace (Rests T j) (ListBefore Before) s xs → IsPlace Wholes (ListBefore Before) (pair_place (led_ways n) a b n (suc i) q r s) (x ∷ xs)
      unfolding LedPairs pair_place
      Place-led known rest i j q r s x xs C T e split chosen split_too m k =
          let g : 1 ≤ n = omega (arith, e) in
          subst (λ h. IsPlace Wholes (ListBefore Before) (sum_below (λ k. (a k * b (n - k)) * led_ways n k) (suc i) + ((a (suc i) * b (n - suc i)) * q + (r * b h + s))) (x ∷ xs)) (let f : j ≡ n - suc i = omega (arith, e) in f)
          (Place-iff (Listed LedPairs) Wholes (ListBefore Before) (ListBefore Before) (sum_below (λ k. (a k * b (n - k)) * led_ways n k) (suc i) + ((a (suc i) * b (n - suc i)) * q + (r * b j + s))) (x ∷ xs)
          to_whole (of_whole g) (λ y p h. h) (λ y p h. h)
          (joined LedPairs (sum_below (λ k. (a k * b (n - k)) * led_ways n k) (suc i) + ((a (suc i) * b (n - suc i)) * q + (r * b j + s))) x xs
          (labelled_place M (Behind Tail) size (total size) lab (flat_map lab) Before (ListBefore Before) o a b n (λ D. In l D) (led_ways n) (l ∷ L) room sized (rows_sized Labelled M size lab (Behind Tail) (λ xs m. m.1) sized) known
          (λ h g U t. rest_counted Labelled Tail Rests h U (b h) (λ xs m. ((m.0, m.1, m.2), m.3, m.4)) (λ xs m. (m.0.0, m.0.1, m.0.2, m.1, m.2)) (rest h g U t))
          (suc i) j q r s x xs (l ∷ C) T e split_too (λ h d. led_choices h) (led_place l L i q C room.0 chosen) m
          (Place-iff (Rests T j) (On Labelled (Behind Tail) (total size) (flat_map lab) T j) (ListBefore Before) (ListBefore Before) s xs (λ xs m. ((m.0, m.1, m.2), m.3, m.4)) (λ xs m. (m.0.0, m.0.1, m.0.2, m.1, m.2)) (λ y p h. h) (λ y p h. h) k))))

      -- how many there are
      pub wholes_counted : 1 ≤ n → ((k : ℕ) → k ≤ n → (U : List ℕ) → IsRoom Labelled U k → Sums (On Labelled M size lab U k) (λ v. 1) (a k))
          → ((k : ℕ) → k ≤ n → (U : List ℕ) → IsRoom Labelled U k → Sums (Rests U k) (λ v. 1) (b k)) → Sums Wholes (λ v. 1) (sum_below (λ k. (a k * b (n - k)) * led_ways n k) (suc n))
      unfolding LedPairs
      wholes_counted g known rest =
          let t : ℕ → ℕ = λ k. (a k * b (n - k)) * led_ways n k in
          Sums-iff (Listed LedPairs) Wholes (λ v. 1) (sum_below t (suc n)) to_whole (of_whole g)
          (Sums-map LedPairs (λ v. v.0 ∷ v.1) (λ v. 1) (sum_below t (suc n)) (λ y z q w e. cons_one y z e)
          (Sums-by_key LedPairs (λ v. size v.0) (λ v. 1) t (suc n) (λ v m. omega (arith, m.0.2))
          (λ k j. size_group M (Behind Tail) size (total size) lab (flat_map lab) Before (ListBefore Before) o a b n (λ D. In l D) (led_ways n) (l ∷ L) room sized (rows_sized Labelled M size lab (Behind Tail) (λ xs m. m.1) sized) known
          (λ h g U t. rest_counted Labelled Tail Rests h U (b h) (λ xs m. ((m.0, m.1, m.2), m.3, m.4)) (λ xs m. (m.0.0, m.0.1, m.0.2, m.1, m.2)) (rest h g U t))
          k (omega (arith, j)) (led_choices k))))

  -- sets and cycles stand so
  module _ (l : ℕ) (L : List ℕ) (n : ℕ) (room : IsRoom Labelled (l ∷ L) n) (sized : IsSized Labelled M size lab) where
    abbrev pub LeastsRise : List A → Type 0
    LeastsRise xs = Pairwise (λ x y. least_of (lab x) < least_of (lab y)) xs

    full : (y : A) → M y → 1 ≤ length (lab y)
    full y m = positive (size y) (length (lab y)) (sized y m) (solid y m)
      where
        positive : (n k : ℕ) → n ≡ k → (n ≡ 0 → ⊥) → 1 ≤ k
        positive zero k e h = absurd (h refl)
        positive (suc n) k e h = omega (arith, e)

    pub set_heads : Heads LeastsRise LeastsRise l L n room sized
    set_heads y ys m e h = (
      (λ w. (first_has M lab full l L room.0 y ys m e h (λ u i. let g : least_of (lab y) < least_of (lab u) = w.0 u i in omega (arith, g)), w.1)),
      λ i w. (has_first M lab full l L room.0 y ys m e h i, w),
    )

    pub cycle_heads : Heads Free (IsLed (λ x. least_of (lab x))) l L n room sized
    cycle_heads y ys m e h = (
      (λ w. (first_has M lab full l L room.0 y ys m e h w, tt)),
      λ i w u j. let g : least_of (lab y) < least_of (lab u) = has_first M lab full l L room.0 y ys m e h i u j in omega (arith, g),
    )
