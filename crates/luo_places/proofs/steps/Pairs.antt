-- The next of two that share a size, or a size and its labels.
use Rattle.std.proofs.Common.{◌≡◌, ℕ, ◌+◌, ◌-◌, ◌≤◌, List, [], ◌⊎◌, inl, inr, ⊎_elim, refl, sym, ap, subst, arith}
use Rattle.luo_finite.specs.Listing.{Sums}
use Rattle.luo_finite.proofs.Sums.{Sums-one}
use Rattle.luo_model.specs.declared.program.Universe.{Universe}
use Rattle.luo_model.specs.declared.program.Universe.TheVariants.{Unlabelled, Labelled}
use Rattle.luo_model.specs.Order.{sorted}
use Rattle.luo_counting.specs.Sharing.{IsRoom}
use Rattle.luo_counting.specs.Items.{On}
use Rattle.luo_counting.proofs.Splits.{split-right, split-rising, split-length}
use Rattle.luo_counting.proofs.Two.{IsSized, PairOn}
use Rattle.luo_finite.specs.Places.{Lex}
use Rattle.luo_places.specs.steps.Next.{IsNext, IsFirst, IsLast}
use Rattle.luo_places.specs.steps.Rooms.{RoomBefore, IsFor, IsShare}
use Rattle.luo_finite.proofs.OrderedPlaces.{Sums-le}
use Rattle.luo_places.proofs.steps.Next.{Next-iff, First-iff, Last-iff, Next-across, Next-within, First-over, Last-over, Group, Has, Next-second, Next-first}
use Rattle.luo_places.proofs.Orderings.{IsByRoom, size_le, labels_le, less_or}
use Rattle.luo_finite.proofs.Orders.{lists_ordered}
use Rattle.luo_places.proofs.Complements.{complement}
use Rattle.luo_places.proofs.Someone.{some_of}
use Rattle.luo_places.proofs.Pairs.{to_parts, from_parts, chosen_labels}

-- something makes a count that isn't 0
pub of_some : {A : Type 0} (P : A → Type 0) (c : ℕ) (x : A) → Sums P (λ x. 1) c → P x → 1 ≤ c
of_some P c x s p = Sums-le (λ z. z ≡ x) P 1 c (λ z e. subst P (sym e) p) (Sums-one (λ z. z ≡ x) (λ z. 1) x refl (λ z e. e)) s

-- each of one with each of the other
module _ {A B : Type 0} (P : A → Type 0) (Q : B → Type 0) (R : A → A → Type 0) (S : B → B → Type 0) (one_way : (x y : A) → R x y → R y x → ⊥) where
  abbrev pub Both : A × B → Type 0
  Both z = P z.0 × Q z.1

  pub both_second : (x : A) (y z : B) → P x → IsNext Q S y z → IsNext Both (Lex R S) (x, y) (x, z)
  both_second x y z p n = Next-second Both R S one_way x y z (Next-iff Q (λ v. P x × Q v) S S (λ v q. (p, q)) (λ v q. q.1) (λ u v q r h. h) y z (λ h. h) n)

  pub both_first : (x w : A) (y z : B) → IsNext P R x w → IsLast Q S y → IsFirst Q S z → IsNext Both (Lex R S) (x, y) (w, z)
  both_first x w y z n l f =
      Next-first Both R S one_way x w y z (Last-iff Q (λ v. P x × Q v) S S (λ v q. (n.here, q)) (λ v q. q.1) (λ u v q r h. h) y l)
      (Next-iff P (λ u. (v : B) × (P u × Q v)) R R (λ u p. (y, (p, l.there))) (λ u q. q.1.0) (λ u v q r h. h) x w (λ h. h) n)
      (First-iff Q (λ v. P w × Q v) S S (λ v q. (n.there, q)) (λ v q. q.1) (λ u v q r h. h) z f)

  pub first_both : (x : A) (y : B) → IsFirst P R x → IsFirst Q S y → IsFirst Both (Lex R S) (x, y)
  first_both x y f g = record { there = (f.there, g.there); before = λ z p h. ⊎_elim (λ l. f.before z.0 p.0 l) (λ k. g.before z.1 p.1 k.1) h }

  pub last_both : (x : A) (y : B) → IsLast P R x → IsLast Q S y → IsLast Both (Lex R S) (x, y)
  last_both x y f g = record { there = (f.there, g.there); after = λ z p h. ⊎_elim (λ l. f.after z.0 p.0 l) (λ k. g.after z.1 p.1 k.1) h }

pub rooms_one_way : (y z : ℕ × List ℕ) → RoomBefore y z → RoomBefore z y → ⊥
rooms_one_way y z (inl a) (inl b) = omega (arith, a, b)
rooms_one_way y z (inl a) (inr b) = omega (arith, a, b.0)
rooms_one_way y z (inr a) (inl b) = omega (arith, a.0, b)
rooms_one_way y z (inr a) (inr b) = lists_ordered.one_way y.1 z.1 a.1 b.1

module _ {A B : Type 0} (M : A → Type 0) (N : B → Type 0) (size : A → ℕ) (other : B → ℕ) (la : A → List ℕ) (lb : B → List ℕ) (R : A → A → Type 0) (Q : B → B → Type 0) (o : IsByRoom size la R) (a b : ℕ → ℕ) (n : ℕ)
    (F : List ℕ → Type 0) (L : List ℕ) where
  -- the room of the first
  abbrev pub room_of : Universe → A × B → ℕ × List ℕ
  room_of Unlabelled z = (size z.0, [])
  room_of Labelled z = (size z.0, sorted (la z.0))

  abbrev pub PairIn : Universe → A × B → Type 0
  PairIn u z = PairOn u M N size other la lb L n z × F (room_of u z).1

  room_into : (u : Universe) (y z : A × B) → PairIn u y → PairIn u z → RoomBefore (room_of u y) (room_of u z) → Lex R Q y z
  room_into Unlabelled y z p q (inl l) = inl (o.by_size y.0 z.0 l)
  room_into Unlabelled y z p q (inr k) = absurd (lists_ordered.one_way [] [] k.1 k.1)
  room_into Labelled y z p q (inl l) = inl (o.by_size y.0 z.0 l)
  room_into Labelled y z p q (inr k) = inl (o.by_labels y.0 z.0 k.0 k.1)

  room_from : (u : Universe) (y z : A × B) → PairIn u y → PairIn u z → Lex R Q y z → RoomBefore (room_of u y) (room_of u z) ⊎ (room_of u y ≡ room_of u z)
  room_from Unlabelled y z p q (inl h) = ⊎_elim (λ l. inl (inl l)) (λ (e : size y.0 ≡ size z.0). inr (λ i. (e i, []))) (less_or (size y.0) (size z.0) (size_le size la R o y.0 z.0 h))
  room_from Unlabelled y z p q (inr k) = inr (λ i. (size (k.0 i), []))
  room_from Labelled y z p q (inl h) = ⊎_elim (λ l. inl (inl l)) (λ (e : size y.0 ≡ size z.0). ⊎_elim (λ l. inl (inr (e, l))) (λ (f : sorted (la y.0) ≡ sorted (la z.0)). inr (λ i. (e i, f i))) (labels_le size la R o y.0 z.0 h e))
      (less_or (size y.0) (size z.0) (size_le size la R o y.0 z.0 h))
  room_from Labelled y z p q (inr k) = inr (λ i. (size (k.0 i), sorted (la (k.0 i))))

  -- the pairs of one room are each of one with each of the other
  to_room : (u : Universe) → IsRoom u L n → IsSized u M size la → IsSized u N other lb → (i j : ℕ) (C T : List ℕ) → i + j ≡ n → IsShare u L i C T → (z : A × B) → PairIn u z × (room_of u z ≡ (i, C)) → On u M size la C i z.0 × On u N other lb T j z.1
  to_room Unlabelled room sm sn i j C T e s z p = let f : size z.0 ≡ i = ap (λ (r : ℕ × List ℕ). r.0) p.1 in ((p.0.0.0, f, tt), (p.0.0.1, omega (arith, p.0.0.2, f, e), tt))
  to_room Labelled room sm sn i j C T e s z p = to_parts M N size other la lb R Q o a b n F a L room sm sn C T i j s.0 s.1 e z p.0.0 (ap (λ (r : ℕ × List ℕ). r.1) p.1)

  from_room : (u : Universe) → IsRoom u L n → IsSized u M size la → IsSized u N other lb → (i j : ℕ) (C T : List ℕ) → i + j ≡ n → IsShare u L i C T → F C → (z : A × B) → On u M size la C i z.0 × On u N other lb T j z.1 → PairIn u z × (room_of u z ≡ (i, C))
  from_room Unlabelled room sm sn i j C T e s f z p = let g : size z.0 ≡ i = p.0.1 in (((p.0.0, p.1.0, omega (arith, p.0.1, p.1.1, e), tt), subst F s f), (λ k. (g k, sym s k)))
  from_room Labelled room sm sn i j C T e s f z p =
      let q = from_parts M N size other la lb R Q o a b n F a L room sm sn C T i j s.0 e z p in
      let g : size z.0 ≡ i = p.0.1 in
      let h : sorted (la z.0) ≡ C = q.1 in
      ((q.0, subst F (sym h) f), (λ k. (g k, h k)))

  module _ (u : Universe) (room : IsRoom u L n) (sm : IsSized u M size la) (sn : IsSized u N other lb) where
    abbrev Pairs : A × B → Type 0
    Pairs = PairIn u

    abbrev InRoom : ℕ × List ℕ → A × B → Type 0
    InRoom = Group Pairs (Lex R Q) (room_of u) RoomBefore rooms_one_way (room_into u) (room_from u)

    module _ (i j : ℕ) (C T : List ℕ) (e : i + j ≡ n) (share : IsShare u L i C T) (f : F C) where
      abbrev Apart : A × B → Type 0
      Apart = Both (On u M size la C i) (On u N other lb T j) R Q o.one_way

      room_next : (s t : A × B) → IsNext Apart (Lex R Q) s t → IsNext Pairs (Lex R Q) s t
      room_next s t m = Next-within Pairs (Lex R Q) (room_of u) RoomBefore rooms_one_way (room_into u) (room_from u) (i, C) s t
          (Next-iff Apart (InRoom (i, C)) (Lex R Q) (Lex R Q) (from_room u room sm sn i j C T e share f) (to_room u room sm sn i j C T e share) (λ y z p q h. h) s t (λ h. h) m)

      -- THE LAWS of two that share: the next of the second
      pub Step-second : (x : A) (y z : B) → On u M size la C i x → IsNext (On u N other lb T j) Q y z → IsNext Pairs (Lex R Q) (x, y) (x, z)
      Step-second x y z p m = room_next (x, y) (x, z) (both_second (On u M size la C i) (On u N other lb T j) R Q o.one_way x y z p m)

      -- the next of the first on the same labels
      pub Step-first : (x w : A) (y z : B) → IsNext (On u M size la C i) R x w → IsLast (On u N other lb T j) Q y → IsFirst (On u N other lb T j) Q z → IsNext Pairs (Lex R Q) (x, y) (w, z)
      Step-first x w y z m l g = room_next (x, y) (w, z) (both_first (On u M size la C i) (On u N other lb T j) R Q o.one_way x w y z m l g)

      room_first : (x : A) (y : B) → IsFirst (On u M size la C i) R x → IsFirst (On u N other lb T j) Q y → IsFirst (InRoom (i, C)) (Lex R Q) (x, y)
      room_first x y k l = First-iff Apart (InRoom (i, C)) (Lex R Q) (Lex R Q) (from_room u room sm sn i j C T e share f) (to_room u room sm sn i j C T e share) (λ y z p q h. h) (x, y)
          (first_both (On u M size la C i) (On u N other lb T j) R Q o.one_way x y k l)

      room_last : (x : A) (y : B) → IsLast (On u M size la C i) R x → IsLast (On u N other lb T j) Q y → IsLast (InRoom (i, C)) (Lex R Q) (x, y)
      room_last x y k l = Last-iff Apart (InRoom (i, C)) (Lex R Q) (Lex R Q) (from_room u room sm sn i j C T e share f) (to_room u room sm sn i j C T e share) (λ y z p q h. h) (x, y)
          (last_both (On u M size la C i) (On u N other lb T j) R Q o.one_way x y k l)

    -- a room and what it leaves
    left_of : (v : Universe) → IsRoom v L n → (i : ℕ) (C : List ℕ) → i ≤ n → IsFor v L i C → (T : List ℕ) × IsShare v L i C T × IsRoom v C i × IsRoom v T (n - i)
    left_of Unlabelled m i C l c = ([], c, tt, tt)
    left_of Labelled m i C l c =
        let t = complement L C m.0 c.0 c.2 in
        let rises = split-rising L (C, t.0) m.0 t.1 in
        (t.0, (t.1, c.1), (rises.0, c.1, λ z k. m.2 z (c.2 z k)), (rises.1, omega (arith, split-length L (C, t.0) t.1, c.1, m.1, l), λ z k. m.2 z (split-right L (C, t.0) z t.1 k)))

    -- the room of a pair is for its first
    for_first : (v : Universe) → IsRoom v L n → IsSized v M size la → IsSized v N other lb → (z : A × B) → PairIn v z → (size z.0 ≤ n) × (IsFor v L (room_of v z).0 (room_of v z).1) × ((room_of v z).0 ≡ size z.0)
    for_first Unlabelled m s t z p = (omega (arith, p.0.2), refl, refl)
    for_first Labelled m s t z p = (omega (arith, p.0.2), (chosen_labels M N size other la lb R Q o a b n F a L m s t (size z.0) z p refl).0, refl)

    -- a pair is of its room, and of what this leaves
    pub pair_parts : (z : A × B) → PairIn u z → (C T : List ℕ) × (size z.0 + (n - size z.0) ≡ n) × IsShare u L (size z.0) C T × (IsFor u L (size z.0) C × F C) × On u M size la C (size z.0) z.0 × On u N other lb T (n - size z.0) z.1
    pair_parts z m =
        let k = for_first u room sm sn z m in
        let C : List ℕ = (room_of u z).1 in
        let e : (room_of u z).0 ≡ size z.0 = k.2 in
        let f : IsFor u L (size z.0) C = subst (λ i. IsFor u L i C) e k.1 in
        let t = left_of u room (size z.0) C k.0 f in
        let r : size z.0 + (n - size z.0) ≡ n = omega (arith, k.0) in
        let q = to_room u room sm sn (size z.0) (n - size z.0) C t.0 r t.1 z (m, λ i. (e i, C)) in
        (C, t.0, r, t.1, (f, m.1), q.0, q.1)

    -- rooms that some pair has
    abbrev pub Rooms : ℕ × List ℕ → Type 0
    Rooms r = ((r.0 ≤ n) × (1 ≤ a r.0) × (1 ≤ b (n - r.0))) × (IsFor u L r.0 r.1 × F r.1)

    module _ (known : (k : ℕ) → k ≤ n → (U : List ℕ) → IsRoom u U k → Sums (On u M size la U k) (λ v. 1) (a k)) (rest : (k : ℕ) → k ≤ n → (U : List ℕ) → IsRoom u U k → Sums (On u N other lb U k) (λ v. 1) (b k)) where
      abbrev HasRoom : ℕ × List ℕ → Type 0
      HasRoom = Has Pairs (Lex R Q) (room_of u) RoomBefore rooms_one_way (room_into u) (room_from u)

      rooms_there : (r : ℕ × List ℕ) → Rooms r → HasRoom r
      rooms_there r m =
          let t = left_of u room r.0 r.1 m.0.0 m.1.0 in
          let x = some_of (On u M size la r.1 r.0) (a r.0) 0 (known r.0 m.0.0 r.1 t.2) m.0.1 in
          let y = some_of (On u N other lb t.0 (n - r.0)) (b (n - r.0)) 0 (rest (n - r.0) (omega arith) t.0 t.3) m.0.2 in
          let q = from_room u room sm sn r.0 (n - r.0) r.1 t.0 (omega (arith, m.0.0)) t.1 m.1.1 (x.0, y.0) (x.1, y.1) in
          ((x.0, y.0), q.0, q.1)

      rooms_back : (r : ℕ × List ℕ) → HasRoom r → Rooms r
      rooms_back r h = subst Rooms h.2 of_pair
        where
          z : A × B
          z = h.0

          g : ℕ × List ℕ
          g = room_of u z

          of_pair : Rooms (room_of u z)
          of_pair =
              let k = for_first u room sm sn z h.1 in
              let l : (room_of u z).0 ≤ n = omega (arith, k.0, k.2) in
              let t = left_of u room (room_of u z).0 (room_of u z).1 l k.1 in
              let q = to_room u room sm sn (room_of u z).0 (n - (room_of u z).0) (room_of u z).1 t.0 (omega (arith, l)) t.1 z (h.1, refl) in (
                (
                  l,
                  of_some (On u M size la (room_of u z).1 (room_of u z).0) (a (room_of u z).0) z.0 (known (room_of u z).0 l (room_of u z).1 t.2) q.0,
                  of_some (On u N other lb t.0 (n - (room_of u z).0)) (b (n - (room_of u z).0)) z.1 (rest (n - (room_of u z).0) (omega arith) t.0 t.3) q.1,
                ),
                (k.1, h.1.1),
              )

      -- behind the last pair of a room the first pair of the next room
      pub Step-room : (i j k l : ℕ) (C T D U : List ℕ) → i + j ≡ n → IsShare u L i C T → k + l ≡ n → IsShare u L k D U → (x w : A) (y z : B) → IsLast (On u M size la C i) R x → IsLast (On u N other lb T j) Q y
          → IsNext Rooms RoomBefore (i, C) (k, D) → IsFirst (On u M size la D k) R w → IsFirst (On u N other lb U l) Q z → IsNext Pairs (Lex R Q) (x, y) (w, z)
      Step-room i j k l C T D U e s f t x w y z lx ly m fw fz =
          Next-across Pairs (Lex R Q) (room_of u) RoomBefore rooms_one_way (room_into u) (room_from u) (i, C) (k, D) (x, y) (w, z) (room_last i j C T e s m.here.1.1 x y lx ly)
          (Next-iff Rooms HasRoom RoomBefore RoomBefore rooms_there rooms_back (λ y z p q h. h) (i, C) (k, D) (λ h. h) m) (room_first k l D U f t m.there.1.1 w z fw fz)

      pub First-pair : (k l : ℕ) (D U : List ℕ) → k + l ≡ n → IsShare u L k D U → (w : A) (z : B) → IsFirst Rooms RoomBefore (k, D) → IsFirst (On u M size la D k) R w → IsFirst (On u N other lb U l) Q z → IsFirst Pairs (Lex R Q) (w, z)
      First-pair k l D U f t w z m fw fz =
          First-over Pairs (Lex R Q) (room_of u) RoomBefore rooms_one_way (room_into u) (room_from u) (k, D) (w, z)
          (First-iff Rooms HasRoom RoomBefore RoomBefore rooms_there rooms_back (λ y z p q h. h) (k, D) m) (room_first k l D U f t m.there.1.1 w z fw fz)

      pub Last-pair : (k l : ℕ) (D U : List ℕ) → k + l ≡ n → IsShare u L k D U → (w : A) (z : B) → IsLast Rooms RoomBefore (k, D) → IsLast (On u M size la D k) R w → IsLast (On u N other lb U l) Q z → IsLast Pairs (Lex R Q) (w, z)
      Last-pair k l D U f t w z m fw fz =
          Last-over Pairs (Lex R Q) (room_of u) RoomBefore rooms_one_way (room_into u) (room_from u) (k, D) (w, z)
          (Last-iff Rooms HasRoom RoomBefore RoomBefore rooms_there rooms_back (λ y z p q h. h) (k, D) m) (room_last k l D U f t m.there.1.1 w z fw fz)
