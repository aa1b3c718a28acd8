-- The next structure of a node: unions and products.
use Rattle.std.proofs.Common.{◌≡◌, ℕ, suc, ◌+◌, ◌-◌, ◌≤◌, ◌<◌, List, ◌∷◌, ◌⊎◌, refl, sym, ◌∙◌, subst, arith, Some, slice_get}
use Rattle.std.specs.declared.cmp.Ordering.TheVariants.{Less}
use Rattle.luo_finite.specs.Listing.{Sums}
use Rattle.luo_model.specs.declared.program.Part.{Part}
use Rattle.luo_model.specs.declared.program.Shape.TheVariants as shape
use Rattle.luo_model.specs.Tree.{Tree, Trees, Atom, Inj, Tup, more, size_of, sizes_of, labels_of, all_labels_of}
use Rattle.luo_model.specs.Order.{by_form, IsBefore}
use Rattle.luo_model.specs.Program.{Program, shape_of}
use Rattle.luo_model.specs.Member.{Fits, FitAll, Member}
use Rattle.luo_model.specs.Structures.{IsStructureOn}
use Rattle.luo_counting.specs.Sharing.{IsRoom}
use Rattle.luo_counting.specs.Items.{On}
use Rattle.luo_counting.specs.Counted.{CountsAt, AreLight}
use Rattle.luo_counting.proofs.TreeCollections.{carries_bears, bears_carries, members_sized}
use Rattle.luo_finite.specs.Places.{Lex}
use Rattle.luo_places.specs.steps.Next.{IsNext, IsFirst, IsLast}
use Rattle.luo_places.proofs.steps.Next.{Next-iff, First-iff, Last-iff, Next-map, First-map, Last-map, Next-within, Next-across, First-over, Last-over, Group, Has}
use Rattle.luo_places.specs.Numbers.{PartsBefore}
use Rattle.luo_places.proofs.Orderings.{parts_lex, lex_parts, trees_by_room, less_or}
use Rattle.luo_places.specs.steps.Rooms.{RoomBefore, IsFor, IsShare}
use Rattle.luo_places.specs.steps.Laws.{AreEmpty}
use Rattle.luo_places.proofs.steps.Pairs.{PairIn, Rooms, pair_parts, Step-second, Step-first, Step-room, First-pair, Last-pair}
use Rattle.luo_places.proofs.TreePlaces.{atom_alone, by_form_alone, branch, InBranch, inject, inside_of, of_branch, in_branch, earlier_branch, branch_within, to_inside, from_inside, PartsOn, PartsAt, tuple_in, tuple_of, to_firsts, from_firsts, parts_sized, items_counted}

module _ (p : Program) (x n : ℕ) (L : List ℕ) (room : IsRoom p.universe L n) where
  abbrev Whole : Tree → Type 0
  Whole s = IsStructureOn p x L n s

  -- UNIONS
  module _ (parts : List Part) (is : shape_of p x ≡ shape.Union parts) where
    abbrev key : Tree → ℕ
    key s = branch p x n L room parts is s

    one_way : (i j : ℕ) → i < j → j < i → ⊥
    one_way i j a b = omega (arith, a, b)

    into : (s t : Tree) → Whole s → Whole t → key s < key t → IsBefore s t
    into s t w v l =
        let k = inside_of p x n L room parts is s w in
        let h = inside_of p x n L room parts is t v in
        by_form_alone p x n L room s t w v ∙ subst (λ q. by_form q t ≡ Less) (sym k.4) (subst (λ q. by_form (Inj (suc (key s)) k.0) q ≡ Less) (sym h.4) (earlier_branch p x n L room parts is (key s) (key t) k.0 h.0 l))

    from : (s t : Tree) → Whole s → Whole t → IsBefore s t → (key s < key t) ⊎ (key s ≡ key t)
    from s t w v e =
        let k = inside_of p x n L room parts is s w in
        let h = inside_of p x n L room parts is t v in
        less_or (key s) (key t) (branch_within p x n L room parts is (key s) (key t) k.0 h.0
        (subst (λ q. by_form (Inj (suc (key s)) k.0) q ≡ Less) h.4 (subst (λ q. by_form q t ≡ Less) k.4 (sym (by_form_alone p x n L room s t w v) ∙ e))))

    module _ (i : ℕ) (part : Part) (e : slice_get parts i ≡ Some part) where
      abbrev Inside : Tree → Type 0
      Inside s = InBranch p x n L room parts is part.node s

      abbrev Image : Tree → Type 0
      Image s = (t : Tree) × Inside t × (s ≡ Inj (suc i) t)

      abbrev OfBranch : Tree → Type 0
      OfBranch = Group Whole IsBefore key (λ i j. i < j) one_way into from i

      put_in : (s t : Tree) → Inside s → Inside t → IsBefore s t → IsBefore (Inj (suc i) s) (Inj (suc i) t)
      put_in s t w v h = by_form_alone p x n L room (Inj (suc i) s) (Inj (suc i) t) (inject p x n L room parts is i part e s w) (inject p x n L room parts is i part e t v) ∙ from_inside p x n L room parts is (suc i) s t h

      take_out : (s t : Tree) → Inside s → Inside t → IsBefore (Inj (suc i) s) (Inj (suc i) t) → IsBefore s t
      take_out s t w v h =
          to_inside p x n L room parts is (suc i) s t (sym (by_form_alone p x n L room (Inj (suc i) s) (Inj (suc i) t) (inject p x n L room parts is i part e s w) (inject p x n L room parts is i part e t v)) ∙ h)

      -- inside the branch
      pub Next-branch : (s t : Tree) → IsNext Inside IsBefore s t → IsNext Whole IsBefore (Inj (suc i) s) (Inj (suc i) t)
      Next-branch s t m =
          Next-within Whole IsBefore key (λ i j. i < j) one_way into from i (Inj (suc i) s) (Inj (suc i) t)
          (Next-iff Image OfBranch IsBefore IsBefore (in_branch p x n L room parts is i part e) (of_branch p x n L room parts is i part e) (λ y z q w h. h) (Inj (suc i) s) (Inj (suc i) t) (λ h. h)
          (Next-map Inside IsBefore IsBefore (λ s. Inj (suc i) s) put_in take_out s t m))

      first_branch : (t : Tree) → IsFirst Inside IsBefore t → IsFirst OfBranch IsBefore (Inj (suc i) t)
      first_branch t m = First-iff Image OfBranch IsBefore IsBefore (in_branch p x n L room parts is i part e) (of_branch p x n L room parts is i part e) (λ y z q w h. h) (Inj (suc i) t)
          (First-map Inside IsBefore IsBefore (λ s. Inj (suc i) s) put_in take_out t m)

      last_branch : (t : Tree) → IsLast Inside IsBefore t → IsLast OfBranch IsBefore (Inj (suc i) t)
      last_branch t m = Last-iff Image OfBranch IsBefore IsBefore (in_branch p x n L room parts is i part e) (of_branch p x n L room parts is i part e) (λ y z q w h. h) (Inj (suc i) t)
          (Last-map Inside IsBefore IsBefore (λ s. Inj (suc i) s) put_in take_out t m)

    abbrev HasBranch : ℕ → Type 0
    HasBranch = Has Whole IsBefore key (λ i j. i < j) one_way into from

    none_there : (which : ℕ → Type 0) → AreEmpty p parts L n which → (m : ℕ) → which m → HasBranch m → ⊥
    none_there which empty m w h = let k = inside_of p x n L room parts is h.0 h.1 in empty m k.1 w (subst (λ j. slice_get parts j ≡ Some k.1) h.2 k.2) k.0 k.3

    there : (i : ℕ) (part : Part) → slice_get parts i ≡ Some part → (t : Tree) → IsStructureOn p part.node L n t → HasBranch i
    there i part e t m = let k = in_branch p x n L room parts is i part e (Inj (suc i) t) (t, m, refl) in (Inj (suc i) t, k.0, k.1)

    -- THE LAW of unions: behind the last of a branch the first of the next branch that has any
    pub Next-union : (i j : ℕ) (part other : Part) → slice_get parts i ≡ Some part → slice_get parts j ≡ Some other → i < j → AreEmpty p parts L n (λ m. (i < m) × (m < j)) → (s t : Tree)
        → IsLast (IsStructureOn p part.node L n) IsBefore s → IsFirst (IsStructureOn p other.node L n) IsBefore t → IsNext Whole IsBefore (Inj (suc i) s) (Inj (suc j) t)
    Next-union i j part other e f l empty s t ls ft =
        Next-across Whole IsBefore key (λ i j. i < j) one_way into from i j (Inj (suc i) s) (Inj (suc j) t) (last_branch i part e s ls)
        (record {
          here = there i part e s ls.there;
          there = there j other f t ft.there;
          rises = l;
          between = λ m h a b. none_there (λ m. (i < m) × (m < j)) empty m (a, b) h;
        })
        (first_branch j other f t ft)

    pub First-union : (j : ℕ) (other : Part) → slice_get parts j ≡ Some other → AreEmpty p parts L n (λ m. m < j) → (t : Tree) → IsFirst (IsStructureOn p other.node L n) IsBefore t → IsFirst Whole IsBefore (Inj (suc j) t)
    First-union j other f empty t ft =
        First-over Whole IsBefore key (λ i j. i < j) one_way into from j (Inj (suc j) t) (record { there = there j other f t ft.there; before = λ m h a. none_there (λ m. m < j) empty m a h }) (first_branch j other f t ft)

    pub Last-union : (i : ℕ) (part : Part) → slice_get parts i ≡ Some part → AreEmpty p parts L n (λ m. i < m) → (t : Tree) → IsLast (IsStructureOn p part.node L n) IsBefore t → IsLast Whole IsBefore (Inj (suc i) t)
    Last-union i part e empty t lt =
        Last-over Whole IsBefore key (λ i j. i < j) one_way into from i (Inj (suc i) t) (record { there = there i part e t lt.there; after = λ m h a. none_there (λ m. i < m) empty m a h }) (last_branch i part e t lt)

  -- PRODUCTS: the next tuple
  module _ (parts : List Part) (is : shape_of p x ≡ shape.Product parts) where
    abbrev Tuple : Trees → Type 0
    Tuple ts = PartsOn p x n L room parts is parts L n ts

    as_whole : (s : Tree) → (us : Trees) × Tuple us × (s ≡ Tup us) → Whole s
    as_whole s k = subst Whole (sym k.2) (tuple_in p x n L room parts is k.0 k.1)

    of_whole : (s : Tree) → Whole s → (us : Trees) × Tuple us × (s ≡ Tup us)
    of_whole s k = tuple_of p x n L room parts is s (subst (λ z. Fits p z s) is k.0) k.1 k.2

    tup_in : (us ts : Trees) → Tuple us → Tuple ts → PartsBefore us ts → IsBefore (Tup us) (Tup ts)
    tup_in us ts w v h = by_form_alone p x n L room (Tup us) (Tup ts) (tuple_in p x n L room parts is us w) (tuple_in p x n L room parts is ts v) ∙ h

    tup_out : (us ts : Trees) → Tuple us → Tuple ts → IsBefore (Tup us) (Tup ts) → PartsBefore us ts
    tup_out us ts w v h = sym (by_form_alone p x n L room (Tup us) (Tup ts) (tuple_in p x n L room parts is us w) (tuple_in p x n L room parts is ts v)) ∙ h

    pub Next-product : (us ts : Trees) → IsNext Tuple PartsBefore us ts → IsNext Whole IsBefore (Tup us) (Tup ts)
    Next-product us ts m = Next-iff (λ s. (us : Trees) × Tuple us × (s ≡ Tup us)) Whole IsBefore IsBefore as_whole of_whole (λ y z q w h. h) (Tup us) (Tup ts) (λ h. h) (Next-map Tuple PartsBefore IsBefore Tup tup_in tup_out us ts m)

    pub First-product : (ts : Trees) → IsFirst Tuple PartsBefore ts → IsFirst Whole IsBefore (Tup ts)
    First-product ts m = First-iff (λ s. (us : Trees) × Tuple us × (s ≡ Tup us)) Whole IsBefore IsBefore as_whole of_whole (λ y z q w h. h) (Tup ts) (First-map Tuple PartsBefore IsBefore Tup tup_in tup_out ts m)

    pub Last-product : (ts : Trees) → IsLast Tuple PartsBefore ts → IsLast Whole IsBefore (Tup ts)
    Last-product ts m = Last-iff (λ s. (us : Trees) × Tuple us × (s ≡ Tup us)) Whole IsBefore IsBefore as_whole of_whole (λ y z q w h. h) (Tup ts) (Last-map Tuple PartsBefore IsBefore Tup tup_in tup_out ts m)

-- the tuple: the first part and the rest
module _ (p : Program) (light : AreLight p) (part : Part) (parts : List Part) (n : ℕ) (L : List ℕ) (room : IsRoom p.universe L n) (a b : ℕ → ℕ) where
  abbrev Free : List ℕ → Type 0
  Free C = Unit {0}

  abbrev pub FirstAt : List ℕ → ℕ → Tree → Type 0
  FirstAt S i t = IsStructureOn p part.node S i t

  abbrev pub RestAt : List ℕ → ℕ → Trees → Type 0
  RestAt T j ts = PartsAt p light parts T j ts

  abbrev AllAt : Trees → Type 0
  AllAt ts = PartsAt p light (part ∷ parts) L n ts

  abbrev Item : List ℕ → ℕ → Tree → Type 0
  Item S i t = On p.universe (Member p part.node) size_of labels_of S i t

  abbrev Two : Tree × Trees → Type 0
  Two = PairIn (Member p part.node) (FitAll p parts) size_of sizes_of labels_of all_labels_of IsBefore PartsBefore trees_by_room a b n Free L p.universe

  abbrev pub PartRooms : ℕ × List ℕ → Type 0
  PartRooms = Rooms (Member p part.node) (FitAll p parts) size_of sizes_of labels_of all_labels_of IsBefore PartsBefore trees_by_room a b n Free L p.universe room (members_sized p light part.node) (parts_sized p light parts)

  to_two : (ts : Trees) → (z : Tree × Trees) × Two z × (ts ≡ more z.0 z.1) → AllAt ts
  to_two ts r = from_firsts p light part parts L n ts (r.0, r.1.0, r.2)

  of_two : (ts : Trees) → AllAt ts → (z : Tree × Trees) × Two z × (ts ≡ more z.0 z.1)
  of_two ts m = let r = to_firsts p light part parts L n ts m in (r.0, (r.1, tt), r.2)

  two_next : (s t : Tree) (ss ts : Trees) → IsNext Two (Lex IsBefore PartsBefore) (s, ss) (t, ts) → IsNext AllAt PartsBefore (more s ss) (more t ts)
  two_next s t ss ts m =
      Next-iff (λ ts. (z : Tree × Trees) × Two z × (ts ≡ more z.0 z.1)) AllAt PartsBefore PartsBefore to_two of_two (λ y z q w h. h) (more s ss) (more t ts) (λ h. h)
      (Next-map Two (Lex IsBefore PartsBefore) PartsBefore (λ z. more z.0 z.1) (λ y z q w h. lex_parts y.0 z.0 y.1 z.1 h) (λ y z q w h. parts_lex y.0 z.0 y.1 z.1 h) (s, ss) (t, ts) m)

  to_item : (S : List ℕ) (i : ℕ) (s : Tree) → FirstAt S i s → Item S i s
  to_item S i s k = (k.0, k.1, carries_bears p.universe S s k.2)

  of_item : (S : List ℕ) (i : ℕ) (s : Tree) → Item S i s → FirstAt S i s
  of_item S i s k = (k.0, k.1, bears_carries p.universe S s k.2)

  first_item : (S : List ℕ) (i : ℕ) (t : Tree) → IsFirst (FirstAt S i) IsBefore t → IsFirst (Item S i) IsBefore t
  first_item S i t m = First-iff (FirstAt S i) (Item S i) IsBefore IsBefore (to_item S i) (of_item S i) (λ y z q w h. h) t m

  last_item : (S : List ℕ) (i : ℕ) (t : Tree) → IsLast (FirstAt S i) IsBefore t → IsLast (Item S i) IsBefore t
  last_item S i t m = Last-iff (FirstAt S i) (Item S i) IsBefore IsBefore (to_item S i) (of_item S i) (λ y z q w h. h) t m

  -- THE LAWS of products: the rest goes on
  pub Parts-rest : (i j : ℕ) (S T : List ℕ) → i + j ≡ n → IsShare p.universe L i S T → (t : Tree) (us ts : Trees) → FirstAt S i t → IsNext (RestAt T j) PartsBefore us ts → IsNext AllAt PartsBefore (more t us) (more t ts)
  Parts-rest i j S T e share t us ts m k =
      two_next t t us ts
      (Step-second (Member p part.node) (FitAll p parts) size_of sizes_of labels_of all_labels_of IsBefore PartsBefore trees_by_room a b n Free L p.universe room (members_sized p light part.node) (parts_sized p light parts) i j S T e share tt t us ts
      (to_item S i t m) k)

  -- the first goes on, and the rest begins again
  pub Parts-first : (i j : ℕ) (S T : List ℕ) → i + j ≡ n → IsShare p.universe L i S T → (s t : Tree) (us ts : Trees) → IsNext (FirstAt S i) IsBefore s t → IsLast (RestAt T j) PartsBefore us → IsFirst (RestAt T j) PartsBefore ts
      → IsNext AllAt PartsBefore (more s us) (more t ts)
  Parts-first i j S T e share s t us ts m l f =
      two_next s t us ts
      (Step-first (Member p part.node) (FitAll p parts) size_of sizes_of labels_of all_labels_of IsBefore PartsBefore trees_by_room a b n Free L p.universe room (members_sized p light part.node) (parts_sized p light parts) i j S T e share tt s t us ts
      (Next-iff (FirstAt S i) (Item S i) IsBefore IsBefore (to_item S i) (of_item S i) (λ y z q w h. h) s t (λ h. h) m) l f)

  -- what the first and the rest are
  pub Parts-part : (t : Tree) (us : Trees) → AllAt (more t us)
      → (C T : List ℕ) × (size_of t + (n - size_of t) ≡ n) × IsShare p.universe L (size_of t) C T × (IsFor p.universe L (size_of t) C × Unit {0}) × FirstAt C (size_of t) t × RestAt T (n - size_of t) us
  Parts-part t us m =
      let q = pair_parts (Member p part.node) (FitAll p parts) size_of sizes_of labels_of all_labels_of IsBefore PartsBefore trees_by_room a b n Free L p.universe room (members_sized p light part.node) (parts_sized p light parts)
      (t, us) ((m.0.0, m.0.1, m.1, m.2), tt) in
      (q.0, q.1, q.2, q.3, q.4, of_item q.0 (size_of t) t q.5, q.6)

  -- the next room, and both begin again
  module _ (known : (k : ℕ) → k ≤ n → CountsAt p part.node k (a k)) (rest : (k : ℕ) → k ≤ n → (U : List ℕ) → IsRoom p.universe U k → Sums (RestAt U k) (λ t. 1) (b k)) where
    pub Parts-room : (i j k l : ℕ) (S T D U : List ℕ) → i + j ≡ n → IsShare p.universe L i S T → k + l ≡ n → IsShare p.universe L k D U → (s t : Tree) (us ts : Trees) → IsLast (FirstAt S i) IsBefore s → IsLast (RestAt T j) PartsBefore us
        → IsNext PartRooms RoomBefore (i, S) (k, D) → IsFirst (FirstAt D k) IsBefore t → IsFirst (RestAt U l) PartsBefore ts → IsNext AllAt PartsBefore (more s us) (more t ts)
    Parts-room i j k l S T D U e share f other s t us ts ls lus m ft fts =
        two_next s t us ts
        (Step-room (Member p part.node) (FitAll p parts) size_of sizes_of labels_of all_labels_of IsBefore PartsBefore trees_by_room a b n Free L p.universe room (members_sized p light part.node) (parts_sized p light parts)
        (λ h g U u. items_counted p light part.node h (a h) U (known h g U u)) (λ h g U u. rest h g U u) i j k l S T D U e share f other s t us ts
        (last_item S i s ls) lus m (first_item D k t ft) fts)

    pub Parts-begin : (k l : ℕ) (D U : List ℕ) → k + l ≡ n → IsShare p.universe L k D U → (t : Tree) (ts : Trees) → IsFirst PartRooms RoomBefore (k, D) → IsFirst (FirstAt D k) IsBefore t → IsFirst (RestAt U l) PartsBefore ts → IsFirst AllAt PartsBefore (more t ts)
    Parts-begin k l D U f other t ts m ft fts =
        First-iff (λ ts. (z : Tree × Trees) × Two z × (ts ≡ more z.0 z.1)) AllAt PartsBefore PartsBefore to_two of_two (λ y z q w h. h) (more t ts)
        (First-map Two (Lex IsBefore PartsBefore) PartsBefore (λ z. more z.0 z.1) (λ y z q w h. lex_parts y.0 z.0 y.1 z.1 h) (λ y z q w h. parts_lex y.0 z.0 y.1 z.1 h) (t, ts)
        (First-pair (Member p part.node) (FitAll p parts) size_of sizes_of labels_of all_labels_of IsBefore PartsBefore trees_by_room a b n Free L p.universe room (members_sized p light part.node) (parts_sized p light parts)
        (λ h g U u. items_counted p light part.node h (a h) U (known h g U u)) (λ h g U u. rest h g U u) k l D U f other t ts m (first_item D k t ft) fts))

    pub Parts-end : (k l : ℕ) (D U : List ℕ) → k + l ≡ n → IsShare p.universe L k D U → (t : Tree) (ts : Trees) → IsLast PartRooms RoomBefore (k, D) → IsLast (FirstAt D k) IsBefore t → IsLast (RestAt U l) PartsBefore ts → IsLast AllAt PartsBefore (more t ts)
    Parts-end k l D U f other t ts m lt lts =
        Last-iff (λ ts. (z : Tree × Trees) × Two z × (ts ≡ more z.0 z.1)) AllAt PartsBefore PartsBefore to_two of_two (λ y z q w h. h) (more t ts)
        (Last-map Two (Lex IsBefore PartsBefore) PartsBefore (λ z. more z.0 z.1) (λ y z q w h. lex_parts y.0 z.0 y.1 z.1 h) (λ y z q w h. parts_lex y.0 z.0 y.1 z.1 h) (t, ts)
        (Last-pair (Member p part.node) (FitAll p parts) size_of sizes_of labels_of all_labels_of IsBefore PartsBefore trees_by_room a b n Free L p.universe room (members_sized p light part.node) (parts_sized p light parts)
        (λ h g U u. items_counted p light part.node h (a h) U (known h g U u)) (λ h g U u. rest h g U u) k l D U f other t ts m (last_item D k t lt) lts))

-- ATOMS: the only structure is the first and the last
pub atom_first : (p : Program) (x weight n : ℕ) (L : List ℕ) → shape_of p x ≡ shape.Atom weight → (l : ℕ) → IsStructureOn p x L n (Atom weight l) → IsFirst (IsStructureOn p x L n) IsBefore (Atom weight l)
atom_first p x weight n L is l m = record {
  there = m;
  before = λ s w h. let k : IsBefore (Atom weight l) (Atom weight l) = subst (λ v. IsBefore v (Atom weight l)) (atom_alone p x weight n L is l m s w) h in trees_by_room.one_way (Atom weight l) (Atom weight l) k k;
}

pub atom_last : (p : Program) (x weight n : ℕ) (L : List ℕ) → shape_of p x ≡ shape.Atom weight → (l : ℕ) → IsStructureOn p x L n (Atom weight l) → IsLast (IsStructureOn p x L n) IsBefore (Atom weight l)
atom_last p x weight n L is l m = record {
  there = m;
  after = λ s w h. let k : IsBefore (Atom weight l) (Atom weight l) = subst (IsBefore (Atom weight l)) (atom_alone p x weight n L is l m s w) h in trees_by_room.one_way (Atom weight l) (Atom weight l) k k;
}
