-- The next of sequences, sets and cycles: the rest goes on, or the first does.
use Rattle.std.proofs.Common.{◌≡◌, ℕ, ◌+◌, ◌-◌, ◌≤◌, List, [], ◌∷◌, length, refl, sym, subst, arith, flat_map, Option}
use Rattle.std.proofs.lemmas.List.Concat.{flat_map-cons}
use Rattle.luo_finite.specs.Listing.{Sums}
use Rattle.luo_finite.proofs.Sums.{Sums-iff}
use Rattle.luo_model.specs.declared.program.Universe.{Universe}
use Rattle.luo_model.specs.declared.program.Kind.TheVariants.{Sequence}
use Rattle.luo_model.specs.Member.{IsWithin}
use Rattle.luo_model.specs.Collections.{Bears, IsCollectionOf}
use Rattle.luo_counting.specs.Sharing.{IsRoom}
use Rattle.luo_finite.specs.Each.{Each, total}
use Rattle.luo_counting.specs.Items.{On}
use Rattle.luo_counting.proofs.Two.{IsSized}
use Rattle.luo_counting.proofs.Rows.{rows_sized}
use Rattle.luo_finite.specs.Places.{Lex}
use Rattle.luo_places.specs.steps.Next.{IsNext, IsFirst, IsLast}
use Rattle.luo_places.specs.Numbers.{ListBefore, one_less, AllowsOne}
use Rattle.luo_places.proofs.steps.Next.{Next-iff, First-iff, Last-iff, Next-map, First-map, Last-map}
use Rattle.luo_places.proofs.Orderings.{IsByRoom}
use Rattle.luo_places.specs.steps.Rooms.{RoomBefore, IsFor, IsShare}
use Rattle.luo_places.proofs.steps.Pairs.{PairIn, Rooms, pair_parts, Step-second, Step-first, Step-room, First-pair, Last-pair}
use Rattle.luo_places.proofs.ListPlaces.{within_rest, rest_within}

module _ {A : Type 0} (M : A → Type 0) (size : A → ℕ) (lab : A → List ℕ) (Before : A → A → Type 0) (o : IsByRoom size lab Before) (a b : ℕ → ℕ) (low : ℕ) (high : Option ℕ) (one : AllowsOne high)
    (u : Universe) (n : ℕ) (L : List ℕ) (positive : 1 ≤ n) (room : IsRoom u L n) (sized : IsSized u M size lab) where
  abbrev Rest : List A → Type 0
  Rest xs = IsWithin (low - 1) (one_less high) (length xs) × Each M xs

  abbrev Free : List ℕ → Type 0
  Free C = Unit {0}

  abbrev Two : A × List A → Type 0
  Two = PairIn M Rest size (total size) lab (flat_map lab) Before (ListBefore Before) o a b n Free L u

  abbrev pub SeqRooms : ℕ × List ℕ → Type 0
  SeqRooms = Rooms M Rest size (total size) lab (flat_map lab) Before (ListBefore Before) o a b n Free L u room sized (rows_sized u M size lab Rest (λ xs m. m.1) sized)

  abbrev pub Sequences : List A → Type 0
  Sequences xs = IsCollectionOf u M size lab Before Sequence low high L n xs

  abbrev pub RestSequences : List ℕ → ℕ → List A → Type 0
  RestSequences T j xs = IsCollectionOf u M size lab Before Sequence (low - 1) (one_less high) T j xs

  abbrev Rests : List ℕ → ℕ → List A → Type 0
  Rests T j xs = On u Rest (total size) (flat_map lab) T j xs

  to_list : (xs : List A) → (v : A × List A) × Two v × (xs ≡ v.0 ∷ v.1) → Sequences xs
  to_list xs r =
      let v = r.0 in
      let m = r.1.0 in
      subst Sequences (sym r.2) (rest_within low high (length v.1) one m.1.0, (m.0, m.1.1), tt, m.2, subst (Bears u L) (sym (flat_map-cons lab v.0 v.1)) m.3)

  of_list : (xs : List A) → Sequences xs → (v : A × List A) × Two v × (xs ≡ v.0 ∷ v.1)
  of_list [] m = absurd (omega (arith, positive, m.3))
  of_list (x ∷ xs) m = ((x, xs), ((m.1.0, (within_rest low high (length xs) m.0, m.1.1), m.3, subst (Bears u L) (flat_map-cons lab x xs) m.4), tt), refl)

  list_next : (x y : A) (xs ys : List A) → IsNext Two (Lex Before (ListBefore Before)) (x, xs) (y, ys) → IsNext Sequences (ListBefore Before) (x ∷ xs) (y ∷ ys)
  list_next x y xs ys m =
      Next-iff (λ xs. (v : A × List A) × Two v × (xs ≡ v.0 ∷ v.1)) Sequences (ListBefore Before) (ListBefore Before) to_list of_list (λ y z p q h. h) (x ∷ xs) (y ∷ ys) (λ h. h)
      (Next-map Two (Lex Before (ListBefore Before)) (ListBefore Before) (λ v. v.0 ∷ v.1) (λ y z p q h. h) (λ y z p q h. h) (x, xs) (y, ys) m)

  to_rest : (T : List ℕ) (j : ℕ) (xs : List A) → RestSequences T j xs → Rests T j xs
  to_rest T j xs m = ((m.0, m.1), m.3, m.4)

  of_rest : (T : List ℕ) (j : ℕ) (xs : List A) → Rests T j xs → RestSequences T j xs
  of_rest T j xs m = (m.0.0, m.0.1, tt, m.1, m.2)

  rest_next : (T : List ℕ) (j : ℕ) (xs ys : List A) → IsNext (RestSequences T j) (ListBefore Before) xs ys → IsNext (Rests T j) (ListBefore Before) xs ys
  rest_next T j xs ys m = Next-iff (RestSequences T j) (Rests T j) (ListBefore Before) (ListBefore Before) (to_rest T j) (of_rest T j) (λ y z p q h. h) xs ys (λ h. h) m

  rest_first : (T : List ℕ) (j : ℕ) (xs : List A) → IsFirst (RestSequences T j) (ListBefore Before) xs → IsFirst (Rests T j) (ListBefore Before) xs
  rest_first T j xs m = First-iff (RestSequences T j) (Rests T j) (ListBefore Before) (ListBefore Before) (to_rest T j) (of_rest T j) (λ y z p q h. h) xs m

  rest_last : (T : List ℕ) (j : ℕ) (xs : List A) → IsLast (RestSequences T j) (ListBefore Before) xs → IsLast (Rests T j) (ListBefore Before) xs
  rest_last T j xs m = Last-iff (RestSequences T j) (Rests T j) (ListBefore Before) (ListBefore Before) (to_rest T j) (of_rest T j) (λ y z p q h. h) xs m

  -- THE LAWS of sequences
  pub Seq-rest : (i j : ℕ) (S T : List ℕ) → i + j ≡ n → IsShare u L i S T → (x : A) (xs ys : List A) → On u M size lab S i x → IsNext (RestSequences T j) (ListBefore Before) xs ys → IsNext Sequences (ListBefore Before) (x ∷ xs) (x ∷ ys)
  Seq-rest i j S T e share x xs ys m k =
      list_next x x xs ys (Step-second M Rest size (total size) lab (flat_map lab) Before (ListBefore Before) o a b n Free L u room sized (rows_sized u M size lab Rest (λ xs m. m.1) sized) i j S T e share tt x xs ys m (rest_next T j xs ys k))

  pub Seq-first : (i j : ℕ) (S T : List ℕ) → i + j ≡ n → IsShare u L i S T → (x y : A) (xs ys : List A) → IsNext (On u M size lab S i) Before x y → IsLast (RestSequences T j) (ListBefore Before) xs → IsFirst (RestSequences T j) (ListBefore Before) ys
      → IsNext Sequences (ListBefore Before) (x ∷ xs) (y ∷ ys)
  Seq-first i j S T e share x y xs ys m l f =
      list_next x y xs ys (Step-first M Rest size (total size) lab (flat_map lab) Before (ListBefore Before) o a b n Free L u room sized (rows_sized u M size lab Rest (λ xs m. m.1) sized) i j S T e share tt x y xs ys m
      (rest_last T j xs l) (rest_first T j ys f))

  -- what the first and the rest are
  pub Seq-part : (x : A) (xs : List A) → Sequences (x ∷ xs)
      → (C T : List ℕ) × (size x + (n - size x) ≡ n) × IsShare u L (size x) C T × (IsFor u L (size x) C × Unit {0}) × On u M size lab C (size x) x × RestSequences T (n - size x) xs
  Seq-part x xs m =
      let q = pair_parts M Rest size (total size) lab (flat_map lab) Before (ListBefore Before) o a b n Free L u room sized (rows_sized u M size lab Rest (λ xs m. m.1) sized)
      (x, xs) ((m.1.0, (within_rest low high (length xs) m.0, m.1.1), m.3, subst (Bears u L) (flat_map-cons lab x xs) m.4), tt) in
      (q.0, q.1, q.2, q.3, q.4, q.5, (q.6.0.0, q.6.0.1, tt, q.6.1, q.6.2))

  module _ (known : (k : ℕ) → k ≤ n → (U : List ℕ) → IsRoom u U k → Sums (On u M size lab U k) (λ v. 1) (a k)) (rest : (k : ℕ) → k ≤ n → (U : List ℕ) → IsRoom u U k → Sums (RestSequences U k) (λ v. 1) (b k)) where
    counted : (k : ℕ) → k ≤ n → (U : List ℕ) → IsRoom u U k → Sums (Rests U k) (λ v. 1) (b k)
    counted k l U r = Sums-iff (RestSequences U k) (Rests U k) (λ v. 1) (b k) (to_rest U k) (of_rest U k) (rest k l U r)

    pub Seq-room : (i j k l : ℕ) (S T D U : List ℕ) → i + j ≡ n → IsShare u L i S T → k + l ≡ n → IsShare u L k D U → (x y : A) (xs ys : List A) → IsLast (On u M size lab S i) Before x → IsLast (RestSequences T j) (ListBefore Before) xs
        → IsNext SeqRooms RoomBefore (i, S) (k, D) → IsFirst (On u M size lab D k) Before y → IsFirst (RestSequences U l) (ListBefore Before) ys → IsNext Sequences (ListBefore Before) (x ∷ xs) (y ∷ ys)
    Seq-room i j k l S T D U e share f other x y xs ys lx lxs m fy fys =
        list_next x y xs ys
        (Step-room M Rest size (total size) lab (flat_map lab) Before (ListBefore Before) o a b n Free L u room sized (rows_sized u M size lab Rest (λ xs m. m.1) sized) known counted i j k l S T D U e share f other x y xs ys lx
        (rest_last T j xs lxs) m fy (rest_first U l ys fys))

    pub Seq-begin : (k l : ℕ) (D U : List ℕ) → k + l ≡ n → IsShare u L k D U → (y : A) (ys : List A) → IsFirst SeqRooms RoomBefore (k, D) → IsFirst (On u M size lab D k) Before y → IsFirst (RestSequences U l) (ListBefore Before) ys → IsFirst Sequences (ListBefore Before) (y ∷ ys)
    Seq-begin k l D U f other y ys m fy fys =
        First-iff (λ xs. (v : A × List A) × Two v × (xs ≡ v.0 ∷ v.1)) Sequences (ListBefore Before) (ListBefore Before) to_list of_list (λ y z p q h. h) (y ∷ ys)
        (First-map Two (Lex Before (ListBefore Before)) (ListBefore Before) (λ v. v.0 ∷ v.1) (λ y z p q h. h) (λ y z p q h. h) (y, ys)
        (First-pair M Rest size (total size) lab (flat_map lab) Before (ListBefore Before) o a b n Free L u room sized (rows_sized u M size lab Rest (λ xs m. m.1) sized) known counted k l D U f other y ys m fy (rest_first U l ys fys)))

    pub Seq-end : (k l : ℕ) (D U : List ℕ) → k + l ≡ n → IsShare u L k D U → (y : A) (ys : List A) → IsLast SeqRooms RoomBefore (k, D) → IsLast (On u M size lab D k) Before y → IsLast (RestSequences U l) (ListBefore Before) ys → IsLast Sequences (ListBefore Before) (y ∷ ys)
    Seq-end k l D U f other y ys m fy fys =
        Last-iff (λ xs. (v : A × List A) × Two v × (xs ≡ v.0 ∷ v.1)) Sequences (ListBefore Before) (ListBefore Before) to_list of_list (λ y z p q h. h) (y ∷ ys)
        (Last-map Two (Lex Before (ListBefore Before)) (ListBefore Before) (λ v. v.0 ∷ v.1) (λ y z p q h. h) (λ y z p q h. h) (y, ys)
        (Last-pair M Rest size (total size) lab (flat_map lab) Before (ListBefore Before) o a b n Free L u room sized (rows_sized u M size lab Rest (λ xs m. m.1) sized) known counted k l D U f other y ys m fy (rest_last U l ys fys)))
