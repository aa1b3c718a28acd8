-- The next of what is left to choose: factors, and components of sequences, sets and cycles.
use Rattle.std.proofs.Common.{◌≡◌, ℕ, ◌+◌, ◌-◌, ◌≤◌, ◌<◌, List, [], ◌∷◌, inl, inr, refl, sym, ◌∙◌, ap, subst, arith, Option}
use Rattle.luo_finite.specs.Listing.{Sums}
use Rattle.luo_finite.specs.Places.{Lexical}
use Rattle.luo_model.specs.declared.program.Universe.{Universe}
use Rattle.luo_model.specs.declared.program.Universe.TheVariants.{Unlabelled, Labelled}
use Rattle.luo_model.specs.declared.program.Kind.{Kind}
use Rattle.luo_model.specs.declared.program.Kind.TheVariants.{Sequence, Set, Cycle, Multiset, Powerset}
use Rattle.luo_model.specs.declared.program.Part.{Part}
use Rattle.luo_model.specs.declared.program.Shape.TheVariants as shape
use Rattle.luo_model.specs.Tree.{Tree, Trees, none, more, Tup, Coll, size_of, labels_of, to_list, from_list, least_of}
use Rattle.luo_model.specs.Order.{IsBefore}
use Rattle.luo_model.specs.Program.{Program, shape_of}
use Rattle.luo_model.specs.Standing.{IsLed}
use Rattle.luo_model.specs.Member.{Member}
use Rattle.luo_model.specs.Structures.{IsStructureOn}
use Rattle.luo_model.specs.Collections.{IsCollectionOf}
use Rattle.luo_counting.specs.Sharing.{IsRoom}
use Rattle.luo_counting.specs.Items.{On, Suits}
use Rattle.luo_counting.specs.Counted.{CountsAt, AreLight}
use Rattle.luo_counting.specs.Numbers.{coll_count}
use Rattle.luo_counting.proofs.Two.{IsSized}
use Rattle.luo_counting.proofs.TreeCollections.{list_back, back_list, members_sized, carries_bears, bears_carries, Components, components_in, in_components}
use Rattle.luo_places.specs.Numbers.{ListBefore, one_less, AllowsOne, PartsBefore}
use Rattle.luo_places.specs.Tails.{Tail, factors, items, kind_behind, behind_first, first_node, TailOn, tail_count, AreNumbers, IsThere, IsSpread, GoesOn, Ends}
use Rattle.luo_places.proofs.Orderings.{IsByRoom, trees_by_room}
use Rattle.luo_places.proofs.ListPlaces.{set_heads, cycle_heads, LeastsRise}
use Rattle.luo_places.proofs.TreePlaces.{list_order, order_list, by_form_alone}
use Rattle.luo_places.proofs.Tails.{there_behind, colls_counted, known, tail_counted}
use Rattle.luo_places.specs.steps.Next.{IsNext, IsFirst, IsLast}
use Rattle.luo_places.specs.steps.Rooms.{RoomBefore, IsFor, IsLedBy, IsShare, HasSize, HasLabels, HasRoom}
use Rattle.luo_places.specs.steps.Laws.{StandsBy, GoesOnBy}
use Rattle.luo_places.proofs.steps.Next.{Next-iff, First-iff, Last-iff, Next-map, First-map, Last-map, Next-second, Next-first, First-two, Last-two}
use Rattle.luo_places.proofs.steps.Trees.{Next-product, First-product, Last-product, Parts-rest, Parts-first, Parts-room, Parts-begin, Parts-end, Parts-part}
use Rattle.luo_places.proofs.steps.Lists.{Seq-rest, Seq-first, Seq-room, Seq-begin, Seq-end, Seq-part}
use Rattle.luo_places.proofs.steps.Led.{Led-rest, Led-first, Led-room, Led-begin, Led-end, Led-part}

-- LISTS OF TREES, and trees in a row
pub list_of : (us ts : Trees) → PartsBefore us ts → ListBefore IsBefore (to_list us) (to_list ts)
list_of us ts h = list_order (to_list us) (to_list ts) (subst (λ v. PartsBefore v (from_list (to_list ts))) (sym (list_back us)) (subst (PartsBefore us) (sym (list_back ts)) h))

pub row_of : (us ts : Trees) → ListBefore IsBefore (to_list us) (to_list ts) → PartsBefore us ts
row_of us ts h = subst (PartsBefore us) (list_back ts) (subst (λ v. PartsBefore v (from_list (to_list ts))) (list_back us) (order_list (to_list us) (to_list ts) h))

module _ (P : List Tree → Type 0) where
  abbrev Rows : Trees → Type 0
  Rows ts = P (to_list ts)

  -- a list as a row
  list_before : (xs : List Tree) (ts : Trees) → ListBefore IsBefore xs (to_list ts) → PartsBefore (from_list xs) ts
  list_before xs ts h = row_of (from_list xs) ts (subst (λ v. ListBefore IsBefore v (to_list ts)) (sym (back_list xs)) h)

  list_after : (us : Trees) (xs : List Tree) → ListBefore IsBefore (to_list us) xs → PartsBefore us (from_list xs)
  list_after us xs h = row_of us (from_list xs) (subst (ListBefore IsBefore (to_list us)) (sym (back_list xs)) h)

  there_too : (xs : List Tree) → P xs → Rows (from_list xs)
  there_too xs p = subst P (sym (back_list xs)) p

  pub next_rows : (us ts : Trees) → IsNext P (ListBefore IsBefore) (to_list us) (to_list ts) → IsNext Rows PartsBefore us ts
  next_rows us ts m = record { here = m.here; there = m.there; rises = row_of us ts m.rises; between = λ y p h k. m.between (to_list y) p (list_of us y h) (list_of y ts k) }

  pub first_rows : (ts : Trees) → IsFirst P (ListBefore IsBefore) (to_list ts) → IsFirst Rows PartsBefore ts
  first_rows ts m = record { there = m.there; before = λ y p h. m.before (to_list y) p (list_of y ts h) }

  pub last_rows : (ts : Trees) → IsLast P (ListBefore IsBefore) (to_list ts) → IsLast Rows PartsBefore ts
  last_rows ts m = record { there = m.there; after = λ y p h. m.after (to_list y) p (list_of ts y h) }

  pub rows_next : (us ts : Trees) → IsNext Rows PartsBefore us ts → IsNext P (ListBefore IsBefore) (to_list us) (to_list ts)
  rows_next us ts m = record {
    here = m.here;
    there = m.there;
    rises = list_of us ts m.rises;
    between = λ xs p h k. m.between (from_list xs) (there_too xs p) (list_after us xs h) (list_before xs ts k);
  }

  pub rows_first : (ts : Trees) → IsFirst Rows PartsBefore ts → IsFirst P (ListBefore IsBefore) (to_list ts)
  rows_first ts m = record { there = m.there; before = λ xs p h. m.before (from_list xs) (there_too xs p) (list_before xs ts h) }

  pub rows_last : (ts : Trees) → IsLast Rows PartsBefore ts → IsLast P (ListBefore IsBefore) (to_list ts)
  rows_last ts m = record { there = m.there; after = λ xs p h. m.after (from_list xs) (there_too xs p) (list_after ts xs h) }

-- COMPONENTS, of any type
module _ {A : Type 0} (M : A → Type 0) (size : A → ℕ) (lab : A → List ℕ) (Before : A → A → Type 0) (o : IsByRoom size lab Before) (solid : (x : A) → M x → size x ≡ 0 → ⊥) (a b : ℕ → ℕ) (y low : ℕ) (high : Option ℕ) (one : AllowsOne high) where
  abbrev Whole : Universe → Kind → List ℕ → ℕ → List A → Type 0
  Whole u kind L n xs = IsCollectionOf u M size lab Before kind low high L n xs

  abbrev Rest : Universe → Kind → List ℕ → ℕ → List A → Type 0
  Rest u kind L n xs = IsCollectionOf u M size lab Before (kind_behind kind) (low - 1) (one_less high) L n xs

  abbrev ItemRooms : Universe → Kind → List ℕ → ℕ → ℕ × List ℕ → Type 0
  ItemRooms u kind L n r = ((r.0 ≤ n) × (1 ≤ a r.0) × (1 ≤ b (n - r.0))) × (IsFor u L r.0 r.1 × IsLedBy (items kind y low high) u L r.1)

  record ItemsGoOn (u : Universe) (kind : Kind) (L : List ℕ) (n : ℕ) : Type 0 where
    rest : (i j : ℕ) (C T : List ℕ) → i + j ≡ n → IsShare u L i C T → IsLedBy (items kind y low high) u L C → (x : A) (xs ys : List A) → On u M size lab C i x
        → IsNext (Rest u kind T j) (ListBefore Before) xs ys → IsNext (Whole u kind L n) (ListBefore Before) (x ∷ xs) (x ∷ ys)
    first : (i j : ℕ) (C T : List ℕ) → i + j ≡ n → IsShare u L i C T → IsLedBy (items kind y low high) u L C → (x z : A) (xs ys : List A) → IsNext (On u M size lab C i) Before x z
        → IsLast (Rest u kind T j) (ListBefore Before) xs → IsFirst (Rest u kind T j) (ListBefore Before) ys → IsNext (Whole u kind L n) (ListBefore Before) (x ∷ xs) (z ∷ ys)
    room : (i j k h : ℕ) (C T D U : List ℕ) → i + j ≡ n → IsShare u L i C T → k + h ≡ n → IsShare u L k D U → (x z : A) (xs ys : List A) → IsLast (On u M size lab C i) Before x
        → IsLast (Rest u kind T j) (ListBefore Before) xs → IsNext (ItemRooms u kind L n) RoomBefore (i, C) (k, D) → IsFirst (On u M size lab D k) Before z → IsFirst (Rest u kind U h) (ListBefore Before) ys
        → IsNext (Whole u kind L n) (ListBefore Before) (x ∷ xs) (z ∷ ys)
    begin : (k h : ℕ) (D U : List ℕ) → k + h ≡ n → IsShare u L k D U → (z : A) (ys : List A) → IsFirst (ItemRooms u kind L n) RoomBefore (k, D) → IsFirst (On u M size lab D k) Before z
        → IsFirst (Rest u kind U h) (ListBefore Before) ys → IsFirst (Whole u kind L n) (ListBefore Before) (z ∷ ys)
    end : (k h : ℕ) (D U : List ℕ) → k + h ≡ n → IsShare u L k D U → (z : A) (ys : List A) → IsLast (ItemRooms u kind L n) RoomBefore (k, D) → IsLast (On u M size lab D k) Before z
        → IsLast (Rest u kind U h) (ListBefore Before) ys → IsLast (Whole u kind L n) (ListBefore Before) (z ∷ ys)

  abbrev FirstKnown : Universe → ℕ → Type 0
  FirstKnown u n = (k : ℕ) → k ≤ n → (U : List ℕ) → IsRoom u U k → Sums (On u M size lab U k) (λ v. 1) (a k)

  abbrev RestKnown : Universe → Kind → ℕ → Type 0
  RestKnown u kind n = (k : ℕ) → k ≤ n → (U : List ℕ) → IsRoom u U k → Sums (Rest u kind U k) (λ v. 1) (b k)

  items_go_on : (u : Universe) (kind : Kind) (n : ℕ) (L : List ℕ) → 1 ≤ n → IsSpread (items kind y low high) → Suits u kind low → IsRoom u L n → IsSized u M size lab → FirstKnown u n → RestKnown u kind n → ItemsGoOn u kind L n
  items_go_on u Sequence n L g sp su room sized firsts rests = record {
    rest = λ i j C T e s f x xs ys m k. Seq-rest M size lab Before o a b low high one u n L g room sized i j C T e s x xs ys m k;
    first = λ i j C T e s f x z xs ys m l k. Seq-first M size lab Before o a b low high one u n L g room sized i j C T e s x z xs ys m l k;
    room = λ i j k h C T D U e s f q x z xs ys lx lxs m fz fys. Seq-room M size lab Before o a b low high one u n L g room sized firsts rests i j k h C T D U e s f q x z xs ys lx lxs m fz fys;
    begin = λ k h D U f q z ys m fz fys. Seq-begin M size lab Before o a b low high one u n L g room sized firsts rests k h D U f q z ys m fz fys;
    end = λ k h D U f q z ys m fz fys. Seq-end M size lab Before o a b low high one u n L g room sized firsts rests k h D U f q z ys m fz fys;
  }
  items_go_on Labelled Set n [] g sp su room sized firsts rests = absurd (omega (arith, g, room.1))
  items_go_on Labelled Set n (l ∷ L) g sp su room sized firsts rests =
      let W : List A → Type 0 = LeastsRise M size lab Before o solid a b low high one l L n room sized in
      let heads = set_heads M size lab Before o solid a b low high one l L n room sized in
      record {
        rest = λ i j C T e s f x xs ys m k. Led-rest M size lab Before o solid a b low high one W W l L n g room sized heads i j C T e s f x xs ys m k;
        first = λ i j C T e s f x z xs ys m w k. Led-first M size lab Before o solid a b low high one W W l L n g room sized heads i j C T e s f x z xs ys m w k;
        room = λ i j k h C T D U e s f q x z xs ys lx lxs m fz fys.
            Led-room M size lab Before o solid a b low high one W W l L n g room sized heads firsts rests i j k h C T D U e s f q x z xs ys lx lxs m fz fys;
        begin = λ k h D U f q z ys m fz fys. Led-begin M size lab Before o solid a b low high one W W l L n g room sized heads firsts rests k h D U f q z ys m fz fys;
        end = λ k h D U f q z ys m fz fys. Led-end M size lab Before o solid a b low high one W W l L n g room sized heads firsts rests k h D U f q z ys m fz fys;
      }
  items_go_on Labelled Cycle n [] g sp su room sized firsts rests = absurd (omega (arith, g, room.1))
  items_go_on Labelled Cycle n (l ∷ L) g sp su room sized firsts rests =
      let V : List A → Type 0 = λ zs. Unit {0} in
      let W : List A → Type 0 = IsLed (λ z. least_of (lab z)) in
      let heads = cycle_heads M size lab Before o solid a b low high one l L n room sized in
      record {
        rest = λ i j C T e s f x xs ys m k. Led-rest M size lab Before o solid a b low high one V W l L n g room sized heads i j C T e s f x xs ys m k;
        first = λ i j C T e s f x z xs ys m w k. Led-first M size lab Before o solid a b low high one V W l L n g room sized heads i j C T e s f x z xs ys m w k;
        room = λ i j k h C T D U e s f q x z xs ys lx lxs m fz fys.
            Led-room M size lab Before o solid a b low high one V W l L n g room sized heads firsts rests i j k h C T D U e s f q x z xs ys lx lxs m fz fys;
        begin = λ k h D U f q z ys m fz fys. Led-begin M size lab Before o solid a b low high one V W l L n g room sized heads firsts rests k h D U f q z ys m fz fys;
        end = λ k h D U f q z ys m fz fys. Led-end M size lab Before o solid a b low high one V W l L n g room sized heads firsts rests k h D U f q z ys m fz fys;
      }
  items_go_on Unlabelled Set n L g sp su room sized firsts rests = absurd su
  items_go_on Unlabelled Cycle n L g sp su room sized firsts rests = absurd su
  items_go_on u Multiset n L g sp su room sized firsts rests = absurd sp
  items_go_on u Powerset n L g sp su room sized firsts rests = absurd sp

  abbrev Parted : Universe → Kind → List ℕ → ℕ → A → List A → Type 0
  Parted u kind L n x xs =
      (C T : List ℕ) × (size x + (n - size x) ≡ n) × IsShare u L (size x) C T × (IsFor u L (size x) C × IsLedBy (items kind y low high) u L C) × On u M size lab C (size x) x × Rest u kind T (n - size x) xs

  items_part : (u : Universe) (kind : Kind) (n : ℕ) (L : List ℕ) → 1 ≤ n → IsSpread (items kind y low high) → Suits u kind low → IsRoom u L n → IsSized u M size lab → (x : A) (xs : List A) → Whole u kind L n (x ∷ xs) → Parted u kind L n x xs
  items_part u Sequence n L g sp su room sized x xs m = Seq-part M size lab Before o a b low high one u n L g room sized x xs m
  items_part Labelled Set n [] g sp su room sized x xs m = absurd (omega (arith, g, room.1))
  items_part Labelled Set n (l ∷ L) g sp su room sized x xs m =
      let W : List A → Type 0 = LeastsRise M size lab Before o solid a b low high one l L n room sized in
      Led-part M size lab Before o solid a b low high one W W l L n g room sized (set_heads M size lab Before o solid a b low high one l L n room sized) x xs m
  items_part Labelled Cycle n [] g sp su room sized x xs m = absurd (omega (arith, g, room.1))
  items_part Labelled Cycle n (l ∷ L) g sp su room sized x xs m =
      let V : List A → Type 0 = λ zs. Unit {0} in
      let W : List A → Type 0 = IsLed (λ z. least_of (lab z)) in
      Led-part M size lab Before o solid a b low high one V W l L n g room sized (cycle_heads M size lab Before o solid a b low high one l L n room sized) x xs m
  items_part Unlabelled Set n L g sp su room sized x xs m = absurd su
  items_part Unlabelled Cycle n L g sp su room sized x xs m = absurd su
  items_part u Multiset n L g sp su room sized x xs m = absurd sp
  items_part u Powerset n L g sp su room sized x xs m = absurd sp

-- a structure of a node as an item
module _ (p : Program) (y i : ℕ) (S : List ℕ) where
  abbrev Structure : Tree → Type 0
  Structure s = IsStructureOn p y S i s

  abbrev Item : Tree → Type 0
  Item s = On p.universe (Member p y) size_of labels_of S i s

  pub as_item : (s : Tree) → Structure s → Item s
  as_item s k = (k.0, k.1, carries_bears p.universe S s k.2)

  pub of_item : (s : Tree) → Item s → Structure s
  of_item s k = (k.0, k.1, bears_carries p.universe S s k.2)

  pub next_item : (s t : Tree) → IsNext Structure IsBefore s t → IsNext Item IsBefore s t
  next_item s t m = Next-iff Structure Item IsBefore IsBefore as_item of_item (λ y z q w h. h) s t (λ h. h) m

  pub first_item : (t : Tree) → IsFirst Structure IsBefore t → IsFirst Item IsBefore t
  first_item t m = First-iff Structure Item IsBefore IsBefore as_item of_item (λ y z q w h. h) t m

  pub last_item : (t : Tree) → IsLast Structure IsBefore t → IsLast Item IsBefore t
  last_item t m = Last-iff Structure Item IsBefore IsBefore as_item of_item (λ y z q w h. h) t m

module _ (p : Program) (nodes last : ℕ) (a : ℕ → ℕ → ℕ) (t : AreNumbers p nodes last a) where
  -- THE LAW of tails
  pub tails_go_on : (tail : Tail) (L : List ℕ) (n : ℕ) → IsThere p nodes tail → IsSpread tail → n ≤ last → GoesOn tail n → IsRoom p.universe L n → GoesOnBy p a tail L n
  tails_go_on (factors []) L n there sp l g room = absurd g
  tails_go_on (factors (part ∷ parts)) L n there sp l g room =
      let b : ℕ → ℕ = tail_count p.universe a (factors parts) in
      let firsts : (k : ℕ) → k ≤ n → CountsAt p part.node k (a part.node k) = λ k g. t.right part.node k (there part (inl refl)) (let q : k ≤ last = omega (arith, g, l) in q) in
      let rests : (k : ℕ) → k ≤ n → (V : List ℕ) → IsRoom p.universe V k → Sums (TailOn p (factors parts) V k) (λ v. 1) (b k)
      = λ k g V v. tail_counted p nodes last a t (factors parts) (λ o i. there o (inr i)) k (let q : k ≤ last = omega (arith, g, l) in q) V v in
      record {
        rest = λ i j C T e s f x us ts m k. Parts-rest p t.light part parts n L room (a part.node) b i j C T e s x us ts m k;
        first = λ i j C T e s f x z us ts m w k. Parts-first p t.light part parts n L room (a part.node) b i j C T e s x z us ts m w k;
        room = λ i j k h C T D U e s f q x z us ts lx lus m fz fts. Parts-room p t.light part parts n L room (a part.node) b firsts rests i j k h C T D U e s f q x z us ts lx lus m fz fts;
        begin = λ k h D U f q z ts m fz fts. Parts-begin p t.light part parts n L room (a part.node) b firsts rests k h D U f q z ts m fz fts;
        end = λ k h D U f q z ts m fz fts. Parts-end p t.light part parts n L room (a part.node) b firsts rests k h D U f q z ts m fz fts;
      }
  tails_go_on (items kind y low high) L n there sp l g room =
      let b : ℕ → ℕ = coll_count p.universe (kind_behind kind) (a y) (low - 1) (one_less high) in
      let back = there_behind p nodes last a t (items kind y low high) there in
      let W : List Tree → Type 0 = IsCollectionOf p.universe (Member p y) size_of labels_of IsBefore kind low high L n in
      let R : List ℕ → ℕ → List Tree → Type 0 = λ T j. IsCollectionOf p.universe (Member p y) size_of labels_of IsBefore (kind_behind kind) (low - 1) (one_less high) T j in
      let r = items_go_on (Member p y) size_of labels_of IsBefore trees_by_room there.2 (a y) b y low high g.1 p.universe kind n L g.0 sp there.1 room (members_sized p t.light y)
      (known p nodes last a t y there.0 there.2 n l)
      (λ k h V v. colls_counted p nodes last a t y back.0 back.2 (kind_behind kind) (low - 1) (one_less high) back.1 k (let q : k ≤ last = omega (arith, h, l) in q) V v) in
      record {
        rest = λ i j C T e s f x us ts m k. next_rows W (more x us) (more x ts) (r.rest i j C T e s f x (to_list us) (to_list ts) (as_item p y i C x m) (rows_next (R T j) us ts k));
        first = λ i j C T e s f x z us ts m w k.
            next_rows W (more x us) (more z ts) (r.first i j C T e s f x z (to_list us) (to_list ts) (next_item p y i C x z m) (rows_last (R T j) us w) (rows_first (R T j) ts k));
        room = λ i j k h C T D U e s f q x z us ts lx lus m fz fts.
            next_rows W (more x us) (more z ts)
            (r.room i j k h C T D U e s f q x z (to_list us) (to_list ts) (last_item p y i C x lx) (rows_last (R T j) us lus) m (first_item p y k D z fz) (rows_first (R U h) ts fts));
        begin = λ k h D U f q z ts m fz fts. first_rows W (more z ts) (r.begin k h D U f q z (to_list ts) m (first_item p y k D z fz) (rows_first (R U h) ts fts));
        end = λ k h D U f q z ts m fz fts. last_rows W (more z ts) (r.end k h D U f q z (to_list ts) m (last_item p y k D z fz) (rows_last (R U h) ts fts));
      }

-- what the first and the rest of a tail are; the numbers play no part
pub tails_part : (p : Program) (nodes : ℕ) (tail : Tail) (L : List ℕ) (n : ℕ) → AreLight p → IsThere p nodes tail → IsSpread tail → GoesOn tail n → IsRoom p.universe L n → (t : Tree) (us : Trees) → TailOn p tail L n (more t us)
    → (C T : List ℕ) × (size_of t + (n - size_of t) ≡ n) × IsShare p.universe L (size_of t) C T × HasLabels p tail L (size_of t) C × IsStructureOn p (first_node tail) C (size_of t) t × TailOn p (behind_first tail) T (n - size_of t) us
tails_part p nodes (factors []) L n light there sp g room t us m = absurd g
tails_part p nodes (factors (part ∷ parts)) L n light there sp g room t us m = Parts-part p light part parts n L room (λ k. 0) (λ k. 0) t us m
tails_part p nodes (items kind y low high) L n light there sp g room t us m =
    let q = items_part (Member p y) size_of labels_of IsBefore trees_by_room there.2 (λ k. 0) (λ k. 0) y low high g.1 p.universe kind n L g.0 sp there.1 room (members_sized p light y) t (to_list us) m in
    (q.0, q.1, q.2, q.3, q.4, of_item p y (size_of t) q.0 t q.5, q.6)

-- ROOMS: the next labels of this size, and behind the last the first of the next size
module _ (p : Program) (a : ℕ → ℕ → ℕ) (tail : Tail) (L : List ℕ) (n : ℕ) where
  abbrev Room : ℕ × List ℕ → Type 0
  Room = HasRoom p a tail L n

  abbrev Labels : ℕ → List ℕ → Type 0
  Labels k = HasLabels p tail L k

  abbrev Sizes : ℕ → Type 0
  Sizes h = HasSize p a tail n h × ((E : List ℕ) × Labels h E)

  one_way : (x y : ℕ) → x < y → y < x → ⊥
  one_way x y h k = omega (arith, h, k)

  to_sizes : (h : ℕ) → ((E : List ℕ) × Room (h, E)) → Sizes h
  to_sizes h c = (c.1.0, (c.0, c.1.1))

  of_sizes : (h : ℕ) → Sizes h → (E : List ℕ) × Room (h, E)
  of_sizes h c = (c.1.0, (c.0, c.1.1))

  labels_first : (k : ℕ) (D : List ℕ) → HasSize p a tail n k → IsFirst (Labels k) Lexical D → IsFirst (λ E. Room (k, E)) Lexical D
  labels_first k D m f = First-iff (Labels k) (λ E. Room (k, E)) Lexical Lexical (λ E c. (m, c)) (λ E c. c.1) (λ y z p q h. h) D f

  labels_last : (k : ℕ) (D : List ℕ) → HasSize p a tail n k → IsLast (Labels k) Lexical D → IsLast (λ E. Room (k, E)) Lexical D
  labels_last k D m f = Last-iff (Labels k) (λ E. Room (k, E)) Lexical Lexical (λ E c. (m, c)) (λ E c. c.1) (λ y z p q h. h) D f

  pub room_labels : (i : ℕ) (C D : List ℕ) → HasSize p a tail n i → IsNext (Labels i) Lexical C D → IsNext Room RoomBefore (i, C) (i, D)
  room_labels i C D m k = Next-second Room (λ x y. x < y) Lexical one_way i C D (Next-iff (Labels i) (λ E. Room (i, E)) Lexical Lexical (λ E c. (m, c)) (λ E c. c.1) (λ y z p q h. h) C D (λ h. h) k)

  pub room_size : (i k : ℕ) (C D : List ℕ) → IsLast (Labels i) Lexical C → IsNext Sizes (λ x y. x < y) i k → IsFirst (Labels k) Lexical D → IsNext Room RoomBefore (i, C) (k, D)
  room_size i k C D l m f =
      Next-first Room (λ x y. x < y) Lexical one_way i k C D (labels_last i C m.here.0 l)
      (Next-iff Sizes (λ h. (E : List ℕ) × Room (h, E)) (λ x y. x < y) (λ x y. x < y) of_sizes to_sizes (λ y z p q h. h) i k (λ h. h) m) (labels_first k D m.there.0 f)

  pub room_first : (k : ℕ) (D : List ℕ) → IsFirst Sizes (λ x y. x < y) k → IsFirst (Labels k) Lexical D → IsFirst Room RoomBefore (k, D)
  room_first k D m f =
      First-two Room (λ x y. x < y) Lexical one_way k D (First-iff Sizes (λ h. (E : List ℕ) × Room (h, E)) (λ x y. x < y) (λ x y. x < y) of_sizes to_sizes (λ y z p q h. h) k m) (labels_first k D m.there.0 f)

  pub room_last : (k : ℕ) (D : List ℕ) → IsLast Sizes (λ x y. x < y) k → IsLast (Labels k) Lexical D → IsLast Room RoomBefore (k, D)
  room_last k D m f =
      Last-two Room (λ x y. x < y) Lexical one_way k D (Last-iff Sizes (λ h. (E : List ℕ) × Room (h, E)) (λ x y. x < y) (λ x y. x < y) of_sizes to_sizes (λ y z p q h. h) k m) (labels_last k D m.there.0 f)

-- THE END
module _ (p : Program) (nodes : ℕ) where
  only_none : (tail : Tail) → IsThere p nodes tail → (n : ℕ) → Ends tail n → (L : List ℕ) (us : Trees) → TailOn p tail L n us → us ≡ none
  only_none (factors []) there n e L none m = refl
  only_none (factors []) there n e L (more u us) m = absurd m.0
  only_none (factors (part ∷ parts)) there n e L us m = absurd e
  only_none (items kind y low high) there n e L none m = refl
  only_none (items kind y low high) there n e L (more u us) m = absurd (there.2 u m.1.0 (omega (arith, m.3, e)))

  not_itself : PartsBefore none none → ⊥
  not_itself h = cc

  pub tails_end : (tail : Tail) (L : List ℕ) (n : ℕ) → IsThere p nodes tail → Ends tail n → TailOn p tail L n none → IsFirst (TailOn p tail L n) PartsBefore none × IsLast (TailOn p tail L n) PartsBefore none
  tails_end tail L n there e m = (
    record { there = m; before = λ us k h. not_itself (subst (λ v. PartsBefore v none) (only_none tail there n e L us k) h) },
    record { there = m; after = λ us k h. not_itself (subst (PartsBefore none) (only_none tail there n e L us k) h) },
  )

-- A STRUCTURE is all that it chose
module _ (p : Program) (x n : ℕ) (L : List ℕ) (room : IsRoom p.universe L n) where
  pub product_stands : (parts : List Part) → shape_of p x ≡ shape.Product parts → StandsBy p x n L (factors parts) Tup
  product_stands parts is = record {
    next = λ us ts m. Next-product p x n L room parts is us ts m;
    first = λ ts m. First-product p x n L room parts is ts m;
    last = λ ts m. Last-product p x n L room parts is ts m;
  }

  module _ (kind : Kind) (part : Part) (low : ℕ) (high : Option ℕ) (is : shape_of p x ≡ shape.Coll kind part low high) where
    abbrev OfNode : Tree → Type 0
    OfNode s = IsStructureOn p x L n s

    abbrev Chosen : Trees → Type 0
    Chosen ts = TailOn p (items kind part.node low high) L n ts

    abbrev Image : Tree → Type 0
    Image s = (ts : Trees) × Chosen ts × (s ≡ Coll ts)

    to_image : (s : Tree) → OfNode s → Image s
    to_image s w =
        let k = in_components p x kind part low high is L n s w in
        (from_list k.0, subst (Components p x kind part low high is L n) (sym (back_list k.0)) k.1, k.2)

    of_image : (s : Tree) → Image s → OfNode s
    of_image s k = components_in p x kind part low high is L n s (to_list k.0, k.1, k.2 ∙ ap Coll (sym (list_back k.0)))

    in_coll : (ts : Trees) → Chosen ts → OfNode (Coll ts)
    in_coll ts m = of_image (Coll ts) (ts, m, refl)

    coll_in : (us ts : Trees) → Chosen us → Chosen ts → PartsBefore us ts → IsBefore (Coll us) (Coll ts)
    coll_in us ts w v h = by_form_alone p x n L room (Coll us) (Coll ts) (in_coll us w) (in_coll ts v) ∙ h

    coll_out : (us ts : Trees) → Chosen us → Chosen ts → IsBefore (Coll us) (Coll ts) → PartsBefore us ts
    coll_out us ts w v h = sym (by_form_alone p x n L room (Coll us) (Coll ts) (in_coll us w) (in_coll ts v)) ∙ h

    pub collection_stands : StandsBy p x n L (items kind part.node low high) Coll
    collection_stands = record {
      next = λ us ts m. Next-iff Image OfNode IsBefore IsBefore of_image to_image (λ y z q w h. h) (Coll us) (Coll ts) (λ h. h) (Next-map Chosen PartsBefore IsBefore Coll coll_in coll_out us ts m);
      first = λ ts m. First-iff Image OfNode IsBefore IsBefore of_image to_image (λ y z q w h. h) (Coll ts) (First-map Chosen PartsBefore IsBefore Coll coll_in coll_out ts m);
      last = λ ts m. Last-iff Image OfNode IsBefore IsBefore of_image to_image (λ y z q w h. h) (Coll ts) (Last-map Chosen PartsBefore IsBefore Coll coll_in coll_out ts m);
    }
