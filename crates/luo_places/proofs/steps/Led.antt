-- The next of sets and cycles: as of sequences, with the least label in the first.
use Rattle.std.proofs.Common.{◌≡◌, ℕ, ◌+◌, ◌-◌, ◌≤◌, List, ◌∷◌, ◌++◌, length, subst, flat_map, Option}
use Rattle.luo_finite.specs.Listing.{In, Sums}
use Rattle.luo_finite.proofs.Sums.{Sums-iff}
use Rattle.luo_model.specs.declared.program.Universe.TheVariants.{Labelled}
use Rattle.std.proofs.lemmas.List.Concat.{flat_map-cons}
use Rattle.luo_model.specs.Structures.{Holds}
use Rattle.luo_model.specs.Member.{IsWithin}
use Rattle.luo_counting.specs.Sharing.{IsRoom}
use Rattle.luo_finite.specs.Each.{Each, total}
use Rattle.luo_counting.specs.Items.{On}
use Rattle.luo_counting.proofs.Two.{IsSized}
use Rattle.luo_counting.proofs.Rows.{rows_sized}
use Rattle.luo_finite.specs.Places.{Lex}
use Rattle.luo_places.specs.steps.Next.{IsNext, IsFirst, IsLast}
use Rattle.luo_places.specs.Numbers.{ListBefore, one_less, AllowsOne}
use Rattle.luo_places.proofs.steps.Next.{Next-iff, First-iff, Last-iff, Next-map, First-map, Last-map}
use Rattle.luo_places.proofs.Orderings.{IsByRoom, sorted_In}
use Rattle.luo_places.specs.steps.Rooms.{RoomBefore, IsFor, IsShare}
use Rattle.luo_places.proofs.steps.Pairs.{PairIn, Rooms, pair_parts, Step-second, Step-first, Step-room, First-pair, Last-pair}
use Rattle.luo_places.proofs.ListPlaces.{within_rest, Heads, Wholes, Rests, LedPairs, to_whole, of_whole}

module _ {A : Type 0} (M : A → Type 0) (size : A → ℕ) (lab : A → List ℕ) (Before : A → A → Type 0) (o : IsByRoom size lab Before) (solid : (x : A) → M x → size x ≡ 0 → ⊥) (a b : ℕ → ℕ) (low : ℕ) (high : Option ℕ) (one : AllowsOne high)
    (Tail Whole : List A → Type 0) (l : ℕ) (L : List ℕ) (n : ℕ) (positive : 1 ≤ n) (room : IsRoom Labelled (l ∷ L) n) (sized : IsSized Labelled M size lab) (heads : Heads M size lab Before o solid a b low high one Tail Whole l L n room sized) where
  abbrev Rest : List A → Type 0
  Rest xs = IsWithin (low - 1) (one_less high) (length xs) × Each M xs × Tail xs

  abbrev Free : List ℕ → Type 0
  Free C = In l C

  abbrev Two : A × List A → Type 0
  Two = PairIn M Rest size (total size) lab (flat_map lab) Before (ListBefore Before) o a b n Free (l ∷ L) Labelled

  abbrev pub LedRooms : ℕ × List ℕ → Type 0
  LedRooms = Rooms M Rest size (total size) lab (flat_map lab) Before (ListBefore Before) o a b n Free (l ∷ L) Labelled room sized (rows_sized Labelled M size lab Rest (λ xs m. m.1) sized)

  abbrev pub Leds : List A → Type 0
  Leds xs = Wholes M size lab Before o solid a b low high one Tail Whole l L n room sized xs

  abbrev pub RestLeds : List ℕ → ℕ → List A → Type 0
  RestLeds T j xs = Rests M size lab Before o solid a b low high one Tail Whole l L n room sized T j xs

  abbrev OnRest : List ℕ → ℕ → List A → Type 0
  OnRest T j xs = On Labelled Rest (total size) (flat_map lab) T j xs

  to_list : (xs : List A) → (v : A × List A) × Two v × (xs ≡ v.0 ∷ v.1) → Leds xs
  unfolding LedPairs
  to_list xs r = to_whole M size lab Before o solid a b low high one Tail Whole l L n room sized heads xs r

  of_list : (xs : List A) → Leds xs → (v : A × List A) × Two v × (xs ≡ v.0 ∷ v.1)
  unfolding LedPairs
  of_list xs m = of_whole M size lab Before o solid a b low high one Tail Whole l L n room sized heads positive xs m

  list_next : (x y : A) (xs ys : List A) → IsNext Two (Lex Before (ListBefore Before)) (x, xs) (y, ys) → IsNext Leds (ListBefore Before) (x ∷ xs) (y ∷ ys)
  list_next x y xs ys m =
      Next-iff (λ xs. (v : A × List A) × Two v × (xs ≡ v.0 ∷ v.1)) Leds (ListBefore Before) (ListBefore Before) to_list of_list (λ y z p q h. h) (x ∷ xs) (y ∷ ys) (λ h. h)
      (Next-map Two (Lex Before (ListBefore Before)) (ListBefore Before) (λ v. v.0 ∷ v.1) (λ y z p q h. h) (λ y z p q h. h) (x, xs) (y, ys) m)

  to_rest : (T : List ℕ) (j : ℕ) (xs : List A) → RestLeds T j xs → OnRest T j xs
  to_rest T j xs m = ((m.0, m.1, m.2), m.3, m.4)

  of_rest : (T : List ℕ) (j : ℕ) (xs : List A) → OnRest T j xs → RestLeds T j xs
  of_rest T j xs m = (m.0.0, m.0.1, m.0.2, m.1, m.2)

  rest_next : (T : List ℕ) (j : ℕ) (xs ys : List A) → IsNext (RestLeds T j) (ListBefore Before) xs ys → IsNext (OnRest T j) (ListBefore Before) xs ys
  rest_next T j xs ys m = Next-iff (RestLeds T j) (OnRest T j) (ListBefore Before) (ListBefore Before) (to_rest T j) (of_rest T j) (λ y z p q h. h) xs ys (λ h. h) m

  rest_first : (T : List ℕ) (j : ℕ) (xs : List A) → IsFirst (RestLeds T j) (ListBefore Before) xs → IsFirst (OnRest T j) (ListBefore Before) xs
  rest_first T j xs m = First-iff (RestLeds T j) (OnRest T j) (ListBefore Before) (ListBefore Before) (to_rest T j) (of_rest T j) (λ y z p q h. h) xs m

  rest_last : (T : List ℕ) (j : ℕ) (xs : List A) → IsLast (RestLeds T j) (ListBefore Before) xs → IsLast (OnRest T j) (ListBefore Before) xs
  rest_last T j xs m = Last-iff (RestLeds T j) (OnRest T j) (ListBefore Before) (ListBefore Before) (to_rest T j) (of_rest T j) (λ y z p q h. h) xs m

  -- THE LAWS of sets and cycles
  pub Led-rest : (i j : ℕ) (S T : List ℕ) → i + j ≡ n → IsShare Labelled (l ∷ L) i S T → In l S → (x : A) (xs ys : List A) → On Labelled M size lab S i x → IsNext (RestLeds T j) (ListBefore Before) xs ys → IsNext Leds (ListBefore Before) (x ∷ xs) (x ∷ ys)
  Led-rest i j S T e share least x xs ys m k =
      list_next x x xs ys (Step-second M Rest size (total size) lab (flat_map lab) Before (ListBefore Before) o a b n Free (l ∷ L) Labelled room sized (rows_sized Labelled M size lab Rest (λ xs m. m.1) sized) i j S T e share least x xs ys m (rest_next T j xs ys k))

  pub Led-first : (i j : ℕ) (S T : List ℕ) → i + j ≡ n → IsShare Labelled (l ∷ L) i S T → In l S → (x y : A) (xs ys : List A) → IsNext (On Labelled M size lab S i) Before x y → IsLast (RestLeds T j) (ListBefore Before) xs → IsFirst (RestLeds T j) (ListBefore Before) ys
      → IsNext Leds (ListBefore Before) (x ∷ xs) (y ∷ ys)
  Led-first i j S T e share least x y xs ys m w f =
      list_next x y xs ys (Step-first M Rest size (total size) lab (flat_map lab) Before (ListBefore Before) o a b n Free (l ∷ L) Labelled room sized (rows_sized Labelled M size lab Rest (λ xs m. m.1) sized) i j S T e share least x y xs ys m
      (rest_last T j xs w) (rest_first T j ys f))

  -- what the first and the rest are
  pub Led-part : (x : A) (xs : List A) → Leds (x ∷ xs)
      → (C T : List ℕ) × (size x + (n - size x) ≡ n) × IsShare Labelled (l ∷ L) (size x) C T × (IsFor Labelled (l ∷ L) (size x) C × In l C) × On Labelled M size lab C (size x) x × RestLeds T (n - size x) xs
  Led-part x xs m =
      let h : Holds (l ∷ L) (lab x ++ flat_map lab xs) = subst (Holds (l ∷ L)) (flat_map-cons lab x xs) m.4 in
      let k = (heads x xs m.1.0 m.1.1 h).0 m.2 in
      let q = pair_parts M Rest size (total size) lab (flat_map lab) Before (ListBefore Before) o a b n Free (l ∷ L) Labelled room sized (rows_sized Labelled M size lab Rest (λ xs m. m.1) sized)
      (x, xs) ((m.1.0, (within_rest low high (length xs) m.0, m.1.1, k.1), m.3, h), sorted_In (lab x) l k.0) in
      (q.0, q.1, q.2, q.3, q.4, q.5, of_rest q.1 (n - size x) xs q.6)

  module _ (known : (k : ℕ) → k ≤ n → (U : List ℕ) → IsRoom Labelled U k → Sums (On Labelled M size lab U k) (λ v. 1) (a k)) (rest : (k : ℕ) → k ≤ n → (U : List ℕ) → IsRoom Labelled U k → Sums (RestLeds U k) (λ v. 1) (b k)) where
    counted : (k : ℕ) → k ≤ n → (U : List ℕ) → IsRoom Labelled U k → Sums (OnRest U k) (λ v. 1) (b k)
    counted k g U r = Sums-iff (RestLeds U k) (OnRest U k) (λ v. 1) (b k) (to_rest U k) (of_rest U k) (rest k g U r)

    pub Led-room : (i j k h : ℕ) (S T D U : List ℕ) → i + j ≡ n → IsShare Labelled (l ∷ L) i S T → k + h ≡ n → IsShare Labelled (l ∷ L) k D U → (x y : A) (xs ys : List A) → IsLast (On Labelled M size lab S i) Before x → IsLast (RestLeds T j) (ListBefore Before) xs
        → IsNext LedRooms RoomBefore (i, S) (k, D) → IsFirst (On Labelled M size lab D k) Before y → IsFirst (RestLeds U h) (ListBefore Before) ys → IsNext Leds (ListBefore Before) (x ∷ xs) (y ∷ ys)
    Led-room i j k h S T D U e share f other x y xs ys lx lxs m fy fys =
        list_next x y xs ys
        (Step-room M Rest size (total size) lab (flat_map lab) Before (ListBefore Before) o a b n Free (l ∷ L) Labelled room sized (rows_sized Labelled M size lab Rest (λ xs m. m.1) sized) known counted i j k h S T D U e share f other x y xs ys lx
        (rest_last T j xs lxs) m fy (rest_first U h ys fys))

    pub Led-begin : (k h : ℕ) (D U : List ℕ) → k + h ≡ n → IsShare Labelled (l ∷ L) k D U → (y : A) (ys : List A) → IsFirst LedRooms RoomBefore (k, D) → IsFirst (On Labelled M size lab D k) Before y → IsFirst (RestLeds U h) (ListBefore Before) ys → IsFirst Leds (ListBefore Before) (y ∷ ys)
    Led-begin k h D U f other y ys m fy fys =
        First-iff (λ xs. (v : A × List A) × Two v × (xs ≡ v.0 ∷ v.1)) Leds (ListBefore Before) (ListBefore Before) to_list of_list (λ y z p q h. h) (y ∷ ys)
        (First-map Two (Lex Before (ListBefore Before)) (ListBefore Before) (λ v. v.0 ∷ v.1) (λ y z p q h. h) (λ y z p q h. h) (y, ys)
        (First-pair M Rest size (total size) lab (flat_map lab) Before (ListBefore Before) o a b n Free (l ∷ L) Labelled room sized (rows_sized Labelled M size lab Rest (λ xs m. m.1) sized) known counted k h D U f other y ys m fy (rest_first U h ys fys)))

    pub Led-end : (k h : ℕ) (D U : List ℕ) → k + h ≡ n → IsShare Labelled (l ∷ L) k D U → (y : A) (ys : List A) → IsLast LedRooms RoomBefore (k, D) → IsLast (On Labelled M size lab D k) Before y → IsLast (RestLeds U h) (ListBefore Before) ys → IsLast Leds (ListBefore Before) (y ∷ ys)
    Led-end k h D U f other y ys m fy fys =
        Last-iff (λ xs. (v : A × List A) × Two v × (xs ≡ v.0 ∷ v.1)) Leds (ListBefore Before) (ListBefore Before) to_list of_list (λ y z p q h. h) (y ∷ ys)
        (Last-map Two (Lex Before (ListBefore Before)) (ListBefore Before) (λ v. v.0 ∷ v.1) (λ y z p q h. h) (λ y z p q h. h) (y, ys)
        (Last-pair M Rest size (total size) lab (flat_map lab) Before (ListBefore Before) o a b n Free (l ∷ L) Labelled room sized (rows_sized Labelled M size lab Rest (λ xs m. m.1) sized) known counted k h D U f other y ys m fy (rest_last U h ys fys)))
