-- Places of what is left to choose, from the first and the rest.
use Rattle.std.proofs.Common.{◌≡◌, ℕ, zero, suc, ◌+◌, ◌*◌, ◌-◌, ◌≤◌, ◌<◌, List, [], ◌∷◌, inl, inr, refl, sym, ◌∙◌, ap, subst, arith, Option, map}
use Rattle.std.proofs.Math.Nat.{mul_comm}
use Rattle.luo_finite.specs.Listing.{In, Sums}
use Rattle.luo_finite.specs.Range.{sum_below}
use Rattle.luo_finite.specs.Binomial.{choose}
use Rattle.luo_finite.specs.Places.{IsPlace}
use Rattle.luo_finite.proofs.Membership.{In-append_left, In-map}
use Rattle.luo_finite.proofs.Sums.{Sums-iff, Sums-map, Sums-none, Sums-one, Sums-unique}
use Rattle.luo_finite.proofs.Ranges.{sum_below-same}
use Rattle.luo_finite.proofs.OrderedPlaces.{Place-iff, Place-map, Place-alone}
use Rattle.luo_model.specs.declared.program.Universe.{Universe}
use Rattle.luo_model.specs.declared.program.Universe.TheVariants.{Unlabelled, Labelled}
use Rattle.luo_model.specs.declared.program.Kind.{Kind}
use Rattle.luo_model.specs.declared.program.Kind.TheVariants.{Sequence, Set, Cycle, Multiset, Powerset}
use Rattle.luo_model.specs.declared.program.Part.{Part}
use Rattle.luo_model.specs.Tree.{Tree, Trees, none, more, Tup, Coll, size_of, labels_of, to_list, from_list, least_of}
use Rattle.luo_model.specs.Order.{IsBefore}
use Rattle.luo_model.specs.Program.{Program, shape_of}
use Rattle.luo_model.specs.declared.program.Shape.TheVariants as shape
use Rattle.luo_model.specs.Standing.{IsLed}
use Rattle.luo_model.specs.Member.{Member, IsWithin}
use Rattle.luo_model.specs.Structures.{IsStructureOn, labels_from}
use Rattle.luo_model.specs.Collections.{IsCollectionOf}
use Rattle.luo_counting.specs.Sharing.{IsRoom, shares, over_shares, splits}
use Rattle.luo_counting.specs.Items.{On, Suits}
use Rattle.luo_counting.specs.Numbers.{coll_count}
use Rattle.luo_counting.proofs.Splits.{put_left, put_right}
use Rattle.luo_counting.proofs.Two.{IsSized, share-is_binomial}
use Rattle.luo_counting.proofs.Orders.{trees_ordered, trees_by_size}
use Rattle.luo_counting.proofs.Counts.{Ready, Measures-collections}
use Rattle.luo_counting.proofs.TreeCollections.{list_back, back_list, members_sized, components_ready}
use Rattle.luo_places.specs.Numbers.{ways, pair_place, IsPart, ListBefore, one_less, AllowsOne, PartsBefore, cut}
use Rattle.luo_places.specs.Tails.{Tail, factors, items, kind_behind, behind_first, first_node, TailOn, tail_count, head_ways, IsHead, AreNumbers, IsThere, IsSpread, GoesOn, Ends, IsFirst, IsBag}
use Rattle.luo_places.proofs.Orderings.{IsByRoom, trees_by_room}
use Rattle.luo_places.proofs.ListPlaces.{Place-sequence, sequences_counted, Place-led, wholes_counted, set_heads, cycle_heads, LeastsRise}
use Rattle.luo_places.proofs.TreePlaces.{Place-parts, parts_counted, no_parts_counted, as_item, items_counted, Place-product, Place-coll, list_order, order_list}
use Rattle.luo_places.proofs.Someone.{some_of}
use Rattle.luo_counting.proofs.Numbered.{room_of}
use Rattle.luo_finite.proofs.Falling.{IsOrder}
use Rattle.luo_finite.proofs.PlacesExist.{some_place}
use Rattle.luo_places.proofs.BagPlaces.{multiset_found, powerset_found}

-- lists of trees, and trees in a row
pub as_trees : (P : List Tree → Type 0) (r : ℕ) (ts : Trees) → IsPlace P (ListBefore IsBefore) r (to_list ts) → IsPlace (λ us. P (to_list us)) PartsBefore r ts
as_trees P r ts m =
    Place-iff (λ us. (xs : List Tree) × P xs × (us ≡ from_list xs)) (λ us. P (to_list us)) PartsBefore PartsBefore r ts
    (λ us k. subst P (sym (back_list k.0) ∙ ap to_list (sym k.2)) k.1) (λ us k. (to_list us, k, sym (list_back us))) (λ us w h. h) (λ us w h. h)
    (subst (IsPlace (λ us. (xs : List Tree) × P xs × (us ≡ from_list xs)) PartsBefore r) (list_back ts)
    (Place-map P (ListBefore IsBefore) PartsBefore from_list r (to_list ts) (λ y z q w e. sym (back_list y) ∙ ap to_list e ∙ back_list z) (λ y w h. order_list y (to_list ts) h) (λ y w h. list_order y (to_list ts) h) m))

pub as_list : (P : List Tree → Type 0) (r : ℕ) (ts : Trees) → IsPlace (λ us. P (to_list us)) PartsBefore r ts → IsPlace P (ListBefore IsBefore) r (to_list ts)
as_list P r ts m =
    Place-iff (λ xs. (us : Trees) × P (to_list us) × (xs ≡ to_list us)) P (ListBefore IsBefore) (ListBefore IsBefore) r (to_list ts)
    (λ xs k. subst P (sym k.2) k.1) (λ xs k. (from_list xs, subst P (sym (back_list xs)) k, sym (back_list xs))) (λ us w h. h) (λ us w h. h)
    (Place-map (λ us. P (to_list us)) PartsBefore (ListBefore IsBefore) to_list r ts (λ y z q w e. sym (list_back y) ∙ ap from_list e ∙ list_back z)
    (λ y w h. list_order (to_list y) (to_list ts) (subst (λ v. PartsBefore v (from_list (to_list ts))) (sym (list_back y)) (subst (PartsBefore y) (sym (list_back ts)) h)))
    (λ y w h. subst (PartsBefore y) (list_back ts) (subst (λ v. PartsBefore v (from_list (to_list ts))) (list_back y) (order_list (to_list y) (to_list ts) h))) m)

pub trees_counted : (P : List Tree → Type 0) (c : ℕ) → Sums P (λ v. 1) c → Sums (λ us. P (to_list us)) (λ v. 1) c
trees_counted P c s =
    Sums-iff (λ us. (xs : List Tree) × P xs × (us ≡ from_list xs)) (λ us. P (to_list us)) (λ v. 1) c
    (λ us k. subst P (sym (back_list k.0) ∙ ap to_list (sym k.2)) k.1) (λ us k. (to_list us, k, sym (list_back us)))
    (Sums-map P from_list (λ v. 1) c (λ y z q w e. sym (back_list y) ∙ ap to_list e ∙ back_list z) s)

suits_behind : (u : Universe) (kind : Kind) (low : ℕ) → Suits u kind low → Suits u (kind_behind kind) (low - 1)
suits_behind u Sequence low s = tt
suits_behind Labelled Set low s = tt
suits_behind Labelled Cycle low s = tt
suits_behind Unlabelled Multiset low s = tt
suits_behind Unlabelled Powerset low s = tt
suits_behind Unlabelled Set low s = absurd s
suits_behind Unlabelled Cycle low s = absurd s
suits_behind Labelled Multiset low s = absurd s
suits_behind Labelled Powerset low s = absurd s

module _ (p : Program) (nodes last : ℕ) (a : ℕ → ℕ → ℕ) (t : AreNumbers p nodes last a) where
  -- the rest is there
  pub there_behind : (tail : Tail) → IsThere p nodes tail → IsThere p nodes (behind_first tail)
  there_behind (factors []) h = h
  there_behind (factors (part ∷ parts)) h = λ o i. h o (inr i)
  there_behind (items kind y low high) h = (h.0, suits_behind p.universe kind low h.1, h.2)

  -- COLLECTIONS
  module _ (y : ℕ) (there : y < nodes) (solid : (s : Tree) → Member p y s → size_of s ≡ 0 → ⊥) where
    pub nothing : a y 0 ≡ 0
    nothing = none_at p.universe refl
      where
        none_at : (u : Universe) → p.universe ≡ u → a y 0 ≡ 0
        none_at Unlabelled e = Sums-unique (IsStructureOn p y [] 0) (λ s. 1) (a y 0) 0 (t.right y 0 there (omega arith) [] (subst (λ u. IsRoom u [] 0) (sym e) tt)) (Sums-none (IsStructureOn p y [] 0) (λ s. 1) (λ s m. solid s m.0 m.1))
        none_at Labelled e =
            Sums-unique (IsStructureOn p y [] 0) (λ s. 1) (a y 0) 0 (t.right y 0 there (omega arith) [] (subst (λ u. IsRoom u [] 0) (sym e) (tt, refl, λ x i. absurd i))) (Sums-none (IsStructureOn p y [] 0) (λ s. 1) (λ s m. solid s m.0 m.1))

    ready : (n : ℕ) → n ≤ last → (wanted : Type 0) → Ready p.universe (Member p y) size_of labels_of (λ s. 1) (a y) (a y) n wanted
    ready n l wanted = components_ready p t.light y (λ s. 1) (a y) (a y) n wanted solid nothing nothing
        (λ m i g. let k = t.right y m there (omega (arith, g, l)) in (k, k)) (λ w. let k = t.right y n there l in (k, k))

    abbrev pub Colls : Kind → ℕ → Option ℕ → List ℕ → ℕ → List Tree → Type 0
    Colls kind low high L n xs = IsCollectionOf p.universe (Member p y) size_of labels_of IsBefore kind low high L n xs

    pub colls_counted : (kind : Kind) (low : ℕ) (high : Option ℕ) → Suits p.universe kind low → (n : ℕ) → n ≤ last → (U : List ℕ) → IsRoom p.universe U n → Sums (Colls kind low high U n) (λ v. 1) (coll_count p.universe kind (a y) low high n)
    colls_counted kind low high s n l U r = (Measures-collections (Member p y) size_of labels_of (λ s. 1) (a y) (a y) IsBefore trees_ordered trees_by_size p.universe kind low high n U s r (ready n l (IsWithin low high 1))).count

    pub known : (n : ℕ) → n ≤ last → (k : ℕ) → k ≤ n → (U : List ℕ) → IsRoom p.universe U k → Sums (On p.universe (Member p y) size_of labels_of U k) (λ s. 1) (a y k)
    known n l k g U r = items_counted p t.light y k (a y k) U (t.right y k there (omega (arith, g, l)) U r)

-- the ways to share, counted by the labels of the first
pub shares_ways : (u : Universe) (a b : ℕ → ℕ) (n : ℕ) → shares u a b n ≡ sum_below (λ k. (a k * b (n - k)) * ways u n k) (suc n)
unfolding over_shares
shares_ways Unlabelled a b n = sum_below-same (λ k. a k * b (n - k)) (λ k. (a k * b (n - k)) * 1) (suc n) (λ k l. let e : a k * b (n - k) ≡ (a k * b (n - k)) * 1 = omega arith in e)
shares_ways Labelled a b n = share-is_binomial a b n ∙ sum_below-same (λ k. choose n k * (a k * b (n - k))) (λ k. (a k * b (n - k)) * choose n k) (suc n) (λ k l. mul_comm (choose n k) (a k * b (n - k)))

-- a first with the least label, and the rest
with_least : (l : ℕ) (L C T : List ℕ) → In (C, T) (splits L) → In (l ∷ C, T) (splits (l ∷ L))
with_least l L C T i = In-append_left (l ∷ C, T) (map (put_left l) (splits L)) (map (put_right l) (splits L)) (In-map (put_left l) (C, T) (splits L) i)

-- items of any type
module _ {A : Type 0} (M : A → Type 0) (size : A → ℕ) (lab : A → List ℕ) (Before : A → A → Type 0) (o : IsByRoom size lab Before) (solid : (x : A) → M x → size x ≡ 0 → ⊥) (a b : ℕ → ℕ) (y low : ℕ) (high : Option ℕ) (one : AllowsOne high) where
  abbrev Whole : Universe → Kind → List ℕ → ℕ → List A → Type 0
  Whole u kind L n xs = IsCollectionOf u M size lab Before kind low high L n xs

  abbrev Rest : Universe → Kind → List ℕ → ℕ → List A → Type 0
  Rest u kind L n xs = IsCollectionOf u M size lab Before (kind_behind kind) (low - 1) (one_less high) L n xs

  abbrev FirstKnown : Universe → ℕ → Type 0
  FirstKnown u n = (k : ℕ) → k ≤ n → (U : List ℕ) → IsRoom u U k → Sums (On u M size lab U k) (λ v. 1) (a k)

  abbrev RestKnown : Universe → Kind → ℕ → Type 0
  RestKnown u kind n = (k : ℕ) → k ≤ n → (U : List ℕ) → IsRoom u U k → Sums (Rest u kind U k) (λ v. 1) (b k)

  pub items_step : (u : Universe) (kind : Kind) (n : ℕ) (L : List ℕ) → IsSpread (items kind y low high) → Suits u kind low → IsRoom u L n → IsSized u M size lab → FirstKnown u n → RestKnown u kind n
      → (i j q r s : ℕ) (x : A) (xs : List A) (S T : List ℕ) → i + j ≡ n → IsHead u (items kind y low high) L i q S T → IsPlace (On u M size lab S i) Before r x → IsPlace (Rest u kind T j) (ListBefore Before) s xs
      → IsPlace (Whole u kind L n) (ListBefore Before) (pair_place (head_ways u (items kind y low high) n) a b n i q r s) (x ∷ xs)
  items_step Unlabelled Sequence n L sp su room sized firsts rest i j q r s x xs S T e h m k = Place-sequence M size lab Before o solid a b low high one Unlabelled n L room sized firsts rest i j q r s x xs S T e h m k
  items_step Labelled Sequence n L sp su room sized firsts rest i j q r s x xs S T e h m k = Place-sequence M size lab Before o solid a b low high one Labelled n L room sized firsts rest i j q r s x xs S T e h m k
  items_step Labelled Set n [] sp su room sized firsts rest i j q r s x xs S T e h m k = absurd h
  items_step Labelled Set n (l ∷ L) sp su room sized firsts rest zero j q r s x xs S T e h m k = absurd h
  items_step Labelled Set n (l ∷ L) sp su room sized firsts rest (suc i) j q r s x xs S T e h m k =
      Place-led M size lab Before o solid a b low high one (LeastsRise M size lab Before o solid a b low high one l L n room sized) (LeastsRise M size lab Before o solid a b low high one l L n room sized) l L n room sized
      (set_heads M size lab Before o solid a b low high one l L n room sized) firsts rest i j q r s x xs h.0 T e h.2 h.3 (with_least l L h.0 T h.2) (subst (λ z. IsPlace (On Labelled M size lab z (suc i)) Before r x) h.1 m) k
  items_step Labelled Cycle n [] sp su room sized firsts rest i j q r s x xs S T e h m k = absurd h
  items_step Labelled Cycle n (l ∷ L) sp su room sized firsts rest zero j q r s x xs S T e h m k = absurd h
  items_step Labelled Cycle n (l ∷ L) sp su room sized firsts rest (suc i) j q r s x xs S T e h m k =
      Place-led M size lab Before o solid a b low high one (λ zs. Unit {0}) (IsLed (λ z. least_of (lab z))) l L n room sized
      (cycle_heads M size lab Before o solid a b low high one l L n room sized) firsts rest i j q r s x xs h.0 T e h.2 h.3 (with_least l L h.0 T h.2) (subst (λ z. IsPlace (On Labelled M size lab z (suc i)) Before r x) h.1 m) k
  items_step Unlabelled Set n L sp su room sized firsts rest i j q r s x xs S T e h m k = absurd su
  items_step Unlabelled Cycle n L sp su room sized firsts rest i j q r s x xs S T e h m k = absurd su
  items_step u Multiset n L sp su room sized firsts rest i j q r s x xs S T e h m k = absurd sp
  items_step u Powerset n L sp su room sized firsts rest i j q r s x xs S T e h m k = absurd sp

  pub items_sum : (u : Universe) (kind : Kind) (n : ℕ) (L : List ℕ) → 1 ≤ n → IsSpread (items kind y low high) → Suits u kind low → IsRoom u L n → IsSized u M size lab → FirstKnown u n → RestKnown u kind n
      → Sums (Whole u kind L n) (λ v. 1) (sum_below (λ k. (a k * b (n - k)) * head_ways u (items kind y low high) n k) (suc n))
  items_sum Unlabelled Sequence n L g sp su room sized firsts rest =
      subst (Sums (Whole Unlabelled Sequence L n) (λ v. 1)) (shares_ways Unlabelled a b n) (sequences_counted M size lab Before o solid a b low high one Unlabelled n L room g sized firsts rest)
  items_sum Labelled Sequence n L g sp su room sized firsts rest =
      subst (Sums (Whole Labelled Sequence L n) (λ v. 1)) (shares_ways Labelled a b n) (sequences_counted M size lab Before o solid a b low high one Labelled n L room g sized firsts rest)
  items_sum Labelled Set n [] g sp su room sized firsts rest = absurd (omega (arith, g, room.1))
  items_sum Labelled Set n (l ∷ L) g sp su room sized firsts rest =
      wholes_counted M size lab Before o solid a b low high one (LeastsRise M size lab Before o solid a b low high one l L n room sized) (LeastsRise M size lab Before o solid a b low high one l L n room sized) l L n room sized
      (set_heads M size lab Before o solid a b low high one l L n room sized) g firsts rest
  items_sum Labelled Cycle n [] g sp su room sized firsts rest = absurd (omega (arith, g, room.1))
  items_sum Labelled Cycle n (l ∷ L) g sp su room sized firsts rest =
      wholes_counted M size lab Before o solid a b low high one (λ zs. Unit {0}) (IsLed (λ z. least_of (lab z))) l L n room sized
      (cycle_heads M size lab Before o solid a b low high one l L n room sized) g firsts rest
  items_sum Unlabelled Set n L g sp su room sized firsts rest = absurd su
  items_sum Unlabelled Cycle n L g sp su room sized firsts rest = absurd su
  items_sum u Multiset n L g sp su room sized firsts rest = absurd sp
  items_sum u Powerset n L g sp su room sized firsts rest = absurd sp

heads_factors : (u : Universe) (parts : List Part) → head_ways u (factors parts) ≡ ways u
heads_factors Unlabelled parts = refl
heads_factors Labelled parts = refl

head_factors : (u : Universe) (parts : List Part) (L : List ℕ) (i q : ℕ) (S T : List ℕ) → IsHead u (factors parts) L i q S T → IsPart u L i q S T
head_factors Unlabelled parts L i q S T h = h
head_factors Labelled parts L i q S T h = h

module _ (p : Program) (nodes last : ℕ) (a : ℕ → ℕ → ℕ) (t : AreNumbers p nodes last a) where
  there_of : (tail : Tail) → IsThere p nodes tail → IsThere p nodes (behind_first tail)
  there_of tail h = there_behind p nodes last a t tail h

  -- how many there are
  pub tail_counted : (tail : Tail) → IsThere p nodes tail → (n : ℕ) → n ≤ last → (U : List ℕ) → IsRoom p.universe U n → Sums (TailOn p tail U n) (λ v. 1) (tail_count p.universe a tail n)
  tail_counted (factors []) there n l U r = no_parts_counted p t.light n U r
  tail_counted (factors (part ∷ parts)) there n l U r =
      parts_counted p t.light part parts n U r (a part.node) (tail_count p.universe a (factors parts))
      (λ k g. t.right part.node k (there part (inl refl)) (omega (arith, g, l)))
      (λ k g V v. tail_counted (factors parts) (λ o i. there o (inr i)) k (omega (arith, g, l)) V v)
  tail_counted (items kind y low high) there n l U r =
      trees_counted (IsCollectionOf p.universe (Member p y) size_of labels_of IsBefore kind low high U n) (coll_count p.universe kind (a y) low high n)
      (colls_counted p nodes last a t y there.0 there.2 kind low high there.1 n l U r)

  -- and by the size of the first
  pub tail_sum : (tail : Tail) → IsThere p nodes tail → IsSpread tail → (n : ℕ) → n ≤ last → GoesOn tail n
      → tail_count p.universe a tail n ≡ sum_below (λ k. (a (first_node tail) k * tail_count p.universe a (behind_first tail) (n - k)) * head_ways p.universe tail n k) (suc n)
  tail_sum (factors []) there sp n l g = absurd g
  tail_sum (factors (part ∷ parts)) there sp n l g =
      shares_ways p.universe (a part.node) (tail_count p.universe a (factors parts)) n
      ∙ ap (λ (w : ℕ → ℕ → ℕ). sum_below (λ k. (a part.node k * tail_count p.universe a (factors parts) (n - k)) * w n k) (suc n)) (sym (heads_factors p.universe (part ∷ parts)))
  tail_sum (items kind y low high) there sp n l g =
      let U = labels_from 1 n in
      let r = room_of p.universe n in
      Sums-unique (IsCollectionOf p.universe (Member p y) size_of labels_of IsBefore kind low high U n) (λ v. 1) (coll_count p.universe kind (a y) low high n)
      (sum_below (λ k. (a y k * coll_count p.universe (kind_behind kind) (a y) (low - 1) (one_less high) (n - k)) * head_ways p.universe (items kind y low high) n k) (suc n))
      (colls_counted p nodes last a t y there.0 there.2 kind low high there.1 n l U r)
      (items_sum (Member p y) size_of labels_of IsBefore trees_by_room there.2 (a y) (coll_count p.universe (kind_behind kind) (a y) (low - 1) (one_less high)) y low high g.1 p.universe kind n U g.0 sp there.1 r
      (members_sized p t.light y) (known p nodes last a t y there.0 there.2 n l)
      (λ k h V v. let b = there_of (items kind y low high) there in colls_counted p nodes last a t y b.0 b.2 (kind_behind kind) (low - 1) (one_less high) b.1 k (omega (arith, h, l)) V v))

  -- THE LAW: the place of what is left, from the first and the rest
  pub tail_step : (tail : Tail) → IsThere p nodes tail → IsSpread tail → (n : ℕ) → n ≤ last → GoesOn tail n → (L : List ℕ) → IsRoom p.universe L n
      → (i j q r s : ℕ) (x : Tree) (xs : Trees) (S T : List ℕ) → i + j ≡ n → IsHead p.universe tail L i q S T → IsPlace (IsStructureOn p (first_node tail) S i) IsBefore r x
      → IsPlace (TailOn p (behind_first tail) T j) PartsBefore s xs
      → IsPlace (TailOn p tail L n) PartsBefore (pair_place (head_ways p.universe tail n) (a (first_node tail)) (tail_count p.universe a (behind_first tail)) n i q r s) (more x xs)
  tail_step (factors []) there sp n l g L room i j q r s x xs S T e h m k = absurd g
  tail_step (factors (part ∷ parts)) there sp n l g L room i j q r s x xs S T e h m k =
      let b = tail_count p.universe a (factors parts) in
      subst (λ (w : ℕ → ℕ → ℕ). IsPlace (TailOn p (factors (part ∷ parts)) L n) PartsBefore (pair_place (w n) (a part.node) b n i q r s) (more x xs)) (sym (heads_factors p.universe (part ∷ parts)))
      (Place-parts p t.light part parts n L room (a part.node) b (λ k g. t.right part.node k (there part (inl refl)) (omega (arith, g, l)))
      (λ k g V v. tail_counted (factors parts) (λ o i. there o (inr i)) k (omega (arith, g, l)) V v)
      i j q r s x xs S T e (head_factors p.universe (part ∷ parts) L i q S T h) m k)
  tail_step (items kind y low high) there sp n l g L room i j q r s x xs S T e h m k =
      let b = coll_count p.universe (kind_behind kind) (a y) (low - 1) (one_less high) in
      let place = pair_place (head_ways p.universe (items kind y low high) n) (a y) b n i q r s in
      as_trees (IsCollectionOf p.universe (Member p y) size_of labels_of IsBefore kind low high L n) place (more x xs)
      (items_step (Member p y) size_of labels_of IsBefore trees_by_room there.2 (a y) b y low high g.1 p.universe kind n L sp there.1 room
      (members_sized p t.light y) (known p nodes last a t y there.0 there.2 n l)
      (λ k h V v. let b = there_of (items kind y low high) there in colls_counted p nodes last a t y b.0 b.2 (kind_behind kind) (low - 1) (one_less high) b.1 k (omega (arith, h, l)) V v)
      i j q r s x (to_list xs) S T e h (as_item p t.light y i S r x m)
      (as_list (IsCollectionOf p.universe (Member p y) size_of labels_of IsBefore (kind_behind kind) (low - 1) (one_less high) T j) s xs k))

  -- what is found by the sizes, the labels, the first and the rest
  pub first_found : (tail : Tail) → IsThere p nodes tail → IsSpread tail → (n : ℕ) → n ≤ last → GoesOn tail n → (rank size q place back : ℕ) → size ≤ n → q < head_ways p.universe tail n size
      → place < a (first_node tail) size → back < tail_count p.universe a (behind_first tail) (n - size)
      → pair_place (head_ways p.universe tail n) (a (first_node tail)) (tail_count p.universe a (behind_first tail)) n size q place back ≡ rank → IsFirst p a tail n rank size q place back
  first_found tail there sp n l g rank size q place back sizes w f s e = record {
    sizes = sizes;
    ways = w;
    first = f;
    second = s;
    step = λ L S T room h x xs m k. subst (λ r. IsPlace (TailOn p tail L n) PartsBefore r (more x xs)) e
        (tail_step tail there sp n l g L room size (n - size) q place back x xs S T (let z : size + (n - size) ≡ n = omega (arith, sizes) in z) h m k);
  }

  -- THE END: nothing is left
  only_none : (tail : Tail) → IsThere p nodes tail → (n : ℕ) → Ends tail n → (L : List ℕ) (us : Trees) → TailOn p tail L n us → us ≡ none
  only_none (factors []) there n e L none m = refl
  only_none (factors []) there n e L (more u us) m = absurd m.0
  only_none (factors (part ∷ parts)) there n e L us m = absurd e
  only_none (items kind y low high) there n e L none m = refl
  only_none (items kind y low high) there n e L (more u us) m = absurd (there.2 u m.1.0 (omega (arith, m.3, e)))

  pub tail_end : (tail : Tail) → IsThere p nodes tail → (n : ℕ) → n ≤ last → Ends tail n → (L : List ℕ) → IsRoom p.universe L n → (r : ℕ) → r < tail_count p.universe a tail n → IsPlace (TailOn p tail L n) PartsBefore r none
  tail_end tail there n l e L room r h =
      let s = tail_counted tail there n l L room in
      let m = some_of (TailOn p tail L n) (tail_count p.universe a tail n) r s h in
      let k : TailOn p tail L n none = subst (TailOn p tail L n) (only_none tail there n e L m.0 m.1) m.1 in
      let one : tail_count p.universe a tail n ≡ 1 = Sums-unique (TailOn p tail L n) (λ v. 1) (tail_count p.universe a tail n) 1 s (Sums-one (TailOn p tail L n) (λ v. 1) none k (only_none tail there n e L)) in
      subst (λ i. IsPlace (TailOn p tail L n) PartsBefore i none) (let q : 0 ≡ r = omega (arith, one, h) in q)
      (Place-alone (TailOn p tail L n) PartsBefore none k (λ us w b. nothing_less us none b (only_none tail there n e L us w)))
    where
      nothing_less : (us vs : Trees) → PartsBefore us none → us ≡ none → ⊥
      nothing_less none vs b e = cc
      nothing_less (more u us) vs b e = cc

-- a structure is all that it chose
pub structure_place : (p : Program) (x n : ℕ) (L : List ℕ) → IsRoom p.universe L n → (parts : List Part) → shape_of p x ≡ shape.Product parts → (r : ℕ) (ts : Trees) → IsPlace (TailOn p (factors parts) L n) PartsBefore r ts → IsPlace (IsStructureOn p x L n) IsBefore r (Tup ts)
structure_place p x n L room parts is r ts m = Place-product p x n L room parts is r ts m

pub collection_place : (p : Program) (x n : ℕ) (L : List ℕ) → IsRoom p.universe L n → (kind : Kind) (part : Part) (low : ℕ) (high : Option ℕ) → shape_of p x ≡ shape.Coll kind part low high → (r : ℕ) (ts : Trees)
    → IsPlace (TailOn p (items kind part.node low high) L n) PartsBefore r ts → IsPlace (IsStructureOn p x L n) IsBefore r (Coll ts)
collection_place p x n L room kind part low high is r ts m =
    subst (λ us. IsPlace (IsStructureOn p x L n) IsBefore r (Coll us)) (list_back ts)
    (Place-coll p x n L room kind part low high is r (to_list ts) (as_list (IsCollectionOf p.universe (Member p part.node) size_of labels_of IsBefore kind low high L n) r ts m))

-- MULTISETS AND POWERSETS, over items of any type
module _ {A : Type 0} (M : A → Type 0) (size : A → ℕ) (lab : A → List ℕ) (Before : A → A → Type 0) (order : IsOrder Before) (by_size : (x y : A) → size x < size y → Before x y) (solid : (x : A) → M x → size x ≡ 0 → ⊥) (a : ℕ → ℕ) (no_count : a 0 ≡ 0)
    (y low : ℕ) (high : Option ℕ) (one : AllowsOne high) (n d i rank : ℕ) (within : d ≤ n) (there : i < a d) where
  -- what is known of the collections that begin with the item at place i of size d
  abbrev BagFound : Universe → Kind → Type 0
  BagFound u kind = let f = coll_count Unlabelled kind (cut a d i) low high n in
      (0 < head_ways u (items kind y low high) n d)
      × ((c : ℕ) (U : List ℕ) → Sums (IsCollectionOf u M size lab Before (kind_behind kind) (low - 1) (one_less high) U (n - d)) (λ v. 1) c → rank - f < c)
      × ((L S T : List ℕ) (x : A) (xs : List A) → IsPlace (On u M size lab S d) Before i x → IsPlace (IsCollectionOf u M size lab Before (kind_behind kind) (low - 1) (one_less high) T (n - d)) (ListBefore Before) (rank - f) xs
      → IsPlace (IsCollectionOf u M size lab Before kind low high L n) (ListBefore Before) rank (x ∷ xs))

  pub bag_found : (u : Universe) (kind : Kind) → IsBag kind → Suits u kind low → ((k : ℕ) → k ≤ n → (U : List ℕ) → IsRoom u U k → Sums (On u M size lab U k) (λ v. 1) (a k))
      → coll_count Unlabelled kind (cut a d i) low high n ≤ rank → rank < coll_count Unlabelled kind (cut a d (suc i)) low high n → BagFound u kind
  bag_found Unlabelled Multiset bag su firsts from to =
      let t = some_place (On Unlabelled M size lab [] d) Before order (a d) (firsts d within [] tt) i there in
      let e : n ≡ d + (n - d) = omega (arith, within) in
      let k = multiset_found M size lab Before order by_size solid a no_count d i t.0 t.1 low high one n (n - d) e (λ k l. firsts k l [] tt) rank from to in (
        omega arith,
        (λ c U s. k.0 c s),
        λ L S T x xs m r. (multiset_found M size lab Before order by_size solid a no_count d i x m low high one n (n - d) e (λ k l. firsts k l [] tt) rank from to).1 xs r,
      )
  bag_found Unlabelled Powerset bag su firsts from to =
      let t = some_place (On Unlabelled M size lab [] d) Before order (a d) (firsts d within [] tt) i there in
      let e : n ≡ d + (n - d) = omega (arith, within) in
      let k = powerset_found M size lab Before order by_size solid a no_count d i t.0 t.1 low high one n (n - d) e (λ k l. firsts k l [] tt) rank from to in (
        omega arith,
        (λ c U s. k.0 c s),
        λ L S T x xs m r. (powerset_found M size lab Before order by_size solid a no_count d i x m low high one n (n - d) e (λ k l. firsts k l [] tt) rank from to).1 xs r,
      )
  bag_found Labelled Multiset bag su firsts from to = absurd su
  bag_found Labelled Powerset bag su firsts from to = absurd su
  bag_found u Sequence bag su firsts from to = absurd bag
  bag_found u Set bag su firsts from to = absurd bag
  bag_found u Cycle bag su firsts from to = absurd bag

module _ (p : Program) (nodes last : ℕ) (a : ℕ → ℕ → ℕ) (t : AreNumbers p nodes last a) where
  -- of structures
  pub bag_first : (kind : Kind) (y low : ℕ) (high : Option ℕ) (n d i rank : ℕ) → IsThere p nodes (items kind y low high) → IsBag kind → AllowsOne high → n ≤ last → d ≤ n → i < a y d
      → coll_count Unlabelled kind (cut (a y) d i) low high n ≤ rank → rank < coll_count Unlabelled kind (cut (a y) d (suc i)) low high n
      → IsFirst p a (items kind y low high) n rank d 0 i (rank - coll_count Unlabelled kind (cut (a y) d i) low high n)
  bag_first kind y low high n d i rank there bag one l within inside from to =
      let b = there_behind p nodes last a t (items kind y low high) there in
      let f = bag_found (Member p y) size_of labels_of IsBefore trees_ordered trees_by_size there.2 (a y) (nothing p nodes last a t y there.0 there.2) y low high one n d i rank within inside p.universe kind bag there.1 (known p nodes last a t y there.0 there.2 n l) from to in
      record {
        sizes = within;
        ways = f.0;
        first = inside;
        second = f.1 (coll_count p.universe (kind_behind kind) (a y) (low - 1) (one_less high) (n - d)) (labels_from 1 (n - d))
            (colls_counted p nodes last a t y b.0 b.2 (kind_behind kind) (low - 1) (one_less high) b.1 (n - d) (omega (arith, l)) (labels_from 1 (n - d)) (room_of p.universe (n - d)));
        step = λ L S T room h x xs m k.
            as_trees (IsCollectionOf p.universe (Member p y) size_of labels_of IsBefore kind low high L n) rank (more x xs)
            (f.2 L S T x (to_list xs) (as_item p t.light y d S i x m)
            (as_list (IsCollectionOf p.universe (Member p y) size_of labels_of IsBefore (kind_behind kind) (low - 1) (one_less high) T (n - d)) (rank - coll_count Unlabelled kind (cut (a y) d i) low high n) xs k));
      }
