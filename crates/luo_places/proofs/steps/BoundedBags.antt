-- The next of multisets and powersets of structures.
use Rattle.std.proofs.Common.{◌≡◌, ℕ, ◌-◌, ◌≤◌, List, [], ◌∷◌, inl, inr, ⊎_elim, length, flat_map, refl, sym, subst, arith, Option, Some, None}
use Rattle.luo_finite.specs.Listing.{In, Pairwise}
use Rattle.luo_finite.specs.Each.{Each}
use Rattle.luo_model.specs.declared.program.Universe.{Universe}
use Rattle.luo_model.specs.declared.program.Universe.TheVariants.{Unlabelled}
use Rattle.luo_model.specs.declared.program.Kind.{Kind}
use Rattle.luo_model.specs.declared.program.Kind.TheVariants.{Sequence, Set, Cycle, Multiset, Powerset}
use Rattle.luo_model.specs.Tree.{Tree, Trees, more, size_of, labels_of, to_list, from_list, least_of}
use Rattle.luo_model.specs.Order.{IsBefore}
use Rattle.luo_model.specs.Program.{Program}
use Rattle.luo_model.specs.Standing.{StandAs}
use Rattle.luo_model.specs.Member.{Member}
use Rattle.luo_model.specs.Collections.{Bears, IsCollectionOf}
use Rattle.luo_counting.proofs.Orders.{trees_ordered, trees_by_size}
use Rattle.luo_counting.proofs.TreeCollections.{back_list}
use Rattle.luo_places.specs.Numbers.{ListBefore, one_less, AllowsOne, PartsBefore}
use Rattle.luo_places.specs.Tails.{IsBag}
use Rattle.luo_places.proofs.ListPlaces.{within_rest, rest_within}
use Rattle.luo_counting.proofs.Led.{Each-In}
use Rattle.luo_places.specs.steps.Next.{IsNext, IsFirst, IsLast}
use Rattle.luo_places.specs.steps.Rooms.{MayFollow, MayStand, BagOn, HasRest}
use Rattle.luo_places.specs.steps.Laws.{BagGoesOnBy}
use Rattle.luo_places.proofs.steps.Next.{Next-iff, First-iff, Last-iff}
use Rattle.luo_places.proofs.steps.Bags.{Bag, Behind, RestOf, HasRest as HasBag, Bag-rest, Bag-first, Bag-begin, Bag-end, Item-same}
use Rattle.luo_places.proofs.steps.Tails.{next_rows, first_rows, last_rows, rows_next, rows_first, rows_last}

both_each : {A : Type 0} (P Q : A → Type 0) (xs : List A) → Each P xs → Each Q xs → Each (λ x. P x × Q x) xs
both_each P Q [] p q = tt
both_each P Q (x ∷ xs) p q = ((p.0, q.0), both_each P Q xs p.1 q.1)

each_of : {A : Type 0} (P Q : A → Type 0) (xs : List A) → ((x : A) → P x → Q x) → Each P xs → Each Q xs
each_of P Q [] f p = tt
each_of P Q (x ∷ xs) f p = (f x p.0, each_of P Q xs f p.1)

-- what may stand behind x may stand behind a later one
grows : (kind : Kind) → IsBag kind → (x w y : Tree) → IsBefore x w → MayFollow kind x y → MayFollow kind w y
grows Multiset bag x w y h r = λ b. r (trees_ordered.through x w y h b)
grows Powerset bag x w y h r = trees_ordered.through y x w r h
grows Sequence bag x w y h r = absurd bag
grows Set bag x w y h r = absurd bag
grows Cycle bag x w y h r = absurd bag

-- and what may stand behind what may stand behind z may stand behind z
follows_on : (kind : Kind) → IsBag kind → (z x y : Tree) → MayFollow kind z x → MayFollow kind x y → MayFollow kind z y
follows_on Multiset bag z x y h r = λ b. ⊎_elim (λ k. h k) (λ g. ⊎_elim (λ (e : z ≡ x). r (subst (λ v. IsBefore v y) e b)) (λ k. r (trees_ordered.through x z y k b)) g) (trees_ordered.either z x)
follows_on Powerset bag z x y h r = trees_ordered.through y x z r h
follows_on Sequence bag z x y h r = absurd bag
follows_on Set bag z x y h r = absurd bag
follows_on Cycle bag z x y h r = absurd bag

stands_on : (kind : Kind) → IsBag kind → (bound : Option Tree) (x y : Tree) → MayStand kind bound x → MayFollow kind x y → MayStand kind bound y
stands_on kind bag None x y h r = tt
stands_on kind bag (Some z) x y h r = follows_on kind bag z x y h r

-- the components stand by the order
to_pairs : (kind : Kind) → IsBag kind → (xs : List Tree) → StandAs (λ x. least_of (labels_of x)) IsBefore kind xs → Pairwise (MayFollow kind) xs
to_pairs Multiset bag xs s = s
to_pairs Powerset bag xs s = s
to_pairs Sequence bag xs s = absurd bag
to_pairs Set bag xs s = absurd bag
to_pairs Cycle bag xs s = absurd bag

of_pairs : (kind : Kind) → IsBag kind → (xs : List Tree) → Pairwise (MayFollow kind) xs → StandAs (λ x. least_of (labels_of x)) IsBefore kind xs
of_pairs Multiset bag xs s = s
of_pairs Powerset bag xs s = s
of_pairs Sequence bag xs s = absurd bag
of_pairs Set bag xs s = absurd bag
of_pairs Cycle bag xs s = absurd bag

no_bears : (u : Universe) → u ≡ Unlabelled → (ls : List ℕ) → Bears u [] ls
no_bears u e ls = subst (λ v. Bears v [] ls) (sym e) tt

module _ (p : Program) (kind : Kind) (y : ℕ) (unlabelled : p.universe ≡ Unlabelled) (bag : IsBag kind) where
  abbrev Items : Option Tree → Tree → Type 0
  Items bound x = Member p y x × MayStand kind bound x

  -- the collections, as lists
  abbrev Listed : ℕ → Option ℕ → Option Tree → ℕ → List Tree → Type 0
  Listed low high bound n xs = IsCollectionOf p.universe (Member p y) size_of labels_of IsBefore kind low high [] n xs × Each (MayStand kind bound) xs

  abbrev Bagged : ℕ → Option ℕ → Option Tree → ℕ → List Tree → Type 0
  Bagged low high bound n xs = Bag size_of IsBefore trees_ordered (MayFollow kind) (Items bound) low high n xs

  to_bag : (low : ℕ) (high : Option ℕ) (bound : Option Tree) (n : ℕ) (xs : List Tree) → Listed low high bound n xs → Bagged low high bound n xs
  to_bag low high bound n xs m = (m.0.0, both_each (Member p y) (MayStand kind bound) xs m.0.1 m.1, to_pairs kind bag xs m.0.2, m.0.3)

  of_bag : (low : ℕ) (high : Option ℕ) (bound : Option Tree) (n : ℕ) (xs : List Tree) → Bagged low high bound n xs → Listed low high bound n xs
  of_bag low high bound n xs m = (
    (m.0, each_of (Items bound) (Member p y) xs (λ x k. k.0) m.1, of_pairs kind bag xs m.2, m.3, no_bears p.universe unlabelled (flat_map labels_of xs)),
    each_of (Items bound) (MayStand kind bound) xs (λ x k. k.1) m.1,
  )

  module _ (low : ℕ) (high : Option ℕ) (one : AllowsOne high) (bound : Option Tree) (n : ℕ) (positive : 1 ≤ n) where
    abbrev Rests : Tree → ℕ → List Tree → Type 0
    Rests x m xs = RestOf size_of IsBefore trees_ordered (MayFollow kind) (Items bound) low high one n positive x m xs

    abbrev Has : Tree → Type 0
    Has x = HasBag size_of IsBefore trees_ordered (MayFollow kind) (Items bound) low high one n positive x

    to_rest : (x : Tree) (m : ℕ) → MayStand kind bound x → (xs : List Tree) → Listed (low - 1) (one_less high) (Some x) m xs → Rests x m xs
    to_rest x m s xs k =
        let b = to_bag (low - 1) (one_less high) (Some x) m xs k in
        (b.0, each_of (Items (Some x)) (Behind size_of IsBefore trees_ordered (MayFollow kind) (Items bound) x) xs (λ z q. ((q.0, stands_on kind bag bound x z s q.1), q.1)) b.1, b.2, b.3)

    of_rest : (x : Tree) (m : ℕ) (xs : List Tree) → Rests x m xs → Listed (low - 1) (one_less high) (Some x) m xs
    of_rest x m xs b =
        of_bag (low - 1) (one_less high) (Some x) m xs
        (b.0, each_of (Behind size_of IsBefore trees_ordered (MayFollow kind) (Items bound) x) (Items (Some x)) xs (λ z q. (q.0.0, q.1)) b.1, b.2, b.3)

    to_has : (x : Tree) → HasRest p kind y low high bound n x → Has x
    to_has x h = (h.0, (h.1.0, to_list h.1.1, h.1.2, to_rest x h.1.0 h.0.1 (to_list h.1.1) h.1.3))

    of_has : (x : Tree) → Has x → HasRest p kind y low high bound n x
    of_has x h = (h.0, (h.1.0, from_list h.1.1, h.1.2, subst (Listed (low - 1) (one_less high) (Some x) h.1.0) (sym (back_list h.1.1)) (of_rest x h.1.0 h.1.1 h.1.3)))

    has_next : (x w : Tree) → IsNext (HasRest p kind y low high bound n) IsBefore x w → IsNext Has IsBefore x w
    has_next x w m = Next-iff (HasRest p kind y low high bound n) Has IsBefore IsBefore to_has of_has (λ y z q w h. h) x w (λ h. h) m

    -- from rows to lists of the rest
    rest_next : (x : Tree) (m : ℕ) → MayStand kind bound x → (us ts : Trees) → IsNext (BagOn p kind y (low - 1) (one_less high) (Some x) m) PartsBefore us ts → IsNext (Rests x m) (ListBefore IsBefore) (to_list us) (to_list ts)
    rest_next x m s us ts k =
        Next-iff (Listed (low - 1) (one_less high) (Some x) m) (Rests x m) (ListBefore IsBefore) (ListBefore IsBefore) (to_rest x m s) (of_rest x m) (λ y z q w h. h) (to_list us) (to_list ts) (λ h. h)
        (rows_next (Listed (low - 1) (one_less high) (Some x) m) us ts k)

    rest_first : (x : Tree) (m : ℕ) → MayStand kind bound x → (ts : Trees) → IsFirst (BagOn p kind y (low - 1) (one_less high) (Some x) m) PartsBefore ts → IsFirst (Rests x m) (ListBefore IsBefore) (to_list ts)
    rest_first x m s ts k =
        First-iff (Listed (low - 1) (one_less high) (Some x) m) (Rests x m) (ListBefore IsBefore) (ListBefore IsBefore) (to_rest x m s) (of_rest x m) (λ y z q w h. h) (to_list ts)
        (rows_first (Listed (low - 1) (one_less high) (Some x) m) ts k)

    rest_last : (x : Tree) (m : ℕ) → MayStand kind bound x → (ts : Trees) → IsLast (BagOn p kind y (low - 1) (one_less high) (Some x) m) PartsBefore ts → IsLast (Rests x m) (ListBefore IsBefore) (to_list ts)
    rest_last x m s ts k =
        Last-iff (Listed (low - 1) (one_less high) (Some x) m) (Rests x m) (ListBefore IsBefore) (ListBefore IsBefore) (to_rest x m s) (of_rest x m) (λ y z q w h. h) (to_list ts)
        (rows_last (Listed (low - 1) (one_less high) (Some x) m) ts k)

    -- and from lists of the whole to rows
    whole_next : (us ts : Trees) → IsNext (Bagged low high bound n) (ListBefore IsBefore) (to_list us) (to_list ts) → IsNext (BagOn p kind y low high bound n) PartsBefore us ts
    whole_next us ts k =
        next_rows (Listed low high bound n) us ts
        (Next-iff (Bagged low high bound n) (Listed low high bound n) (ListBefore IsBefore) (ListBefore IsBefore) (of_bag low high bound n) (to_bag low high bound n) (λ y z q w h. h) (to_list us) (to_list ts) (λ h. h) k)

    whole_first : (ts : Trees) → IsFirst (Bagged low high bound n) (ListBefore IsBefore) (to_list ts) → IsFirst (BagOn p kind y low high bound n) PartsBefore ts
    whole_first ts k =
        first_rows (Listed low high bound n) ts
        (First-iff (Bagged low high bound n) (Listed low high bound n) (ListBefore IsBefore) (ListBefore IsBefore) (of_bag low high bound n) (to_bag low high bound n) (λ y z q w h. h) (to_list ts) k)

    whole_last : (ts : Trees) → IsLast (Bagged low high bound n) (ListBefore IsBefore) (to_list ts) → IsLast (BagOn p kind y low high bound n) PartsBefore ts
    whole_last ts k =
        last_rows (Listed low high bound n) ts
        (Last-iff (Bagged low high bound n) (Listed low high bound n) (ListBefore IsBefore) (ListBefore IsBefore) (of_bag low high bound n) (to_bag low high bound n) (λ y z q w h. h) (to_list ts) k)

    -- THE LAW of multisets and powersets
    pub bags_go_on : BagGoesOnBy p kind y low high bound n
    bags_go_on = record {
      rest = λ x m p s e us ts k. whole_next (more x us) (more x ts)
          (Bag-rest size_of IsBefore trees_ordered (MayFollow kind) (Items bound) low high one n positive x m (p, s) e (to_list us) (to_list ts) (rest_next x m s us ts k));
      first = λ x w m k e f us ts l h g. whole_next (more x us) (more w ts)
          (Bag-first size_of IsBefore trees_ordered (MayFollow kind) (Items bound) low high one n positive x w m k e f (to_list us) (to_list ts) (rest_last x m (h.here).0.1 us l) (has_next x w h)
          (rest_first w k (h.there).0.1 ts g));
      same = λ x w h m. Next-iff Has (HasRest p kind y low high bound n) IsBefore IsBefore of_has to_has (λ y z q w h. h) x w (λ h. h)
          (Item-same size_of IsBefore trees_ordered (MayFollow kind) (Items bound) low high one n positive trees_by_size (grows kind bag) x w (to_has x h) m);
      begin = λ w k f ts h g. whole_first (more w ts)
          (Bag-begin size_of IsBefore trees_ordered (MayFollow kind) (Items bound) low high one n positive w k f (to_list ts)
          (First-iff (HasRest p kind y low high bound n) Has IsBefore IsBefore to_has of_has (λ y z q w h. h) w h) (rest_first w k (h.there).0.1 ts g));
      end = λ w k f ts h g. whole_last (more w ts)
          (Bag-end size_of IsBefore trees_ordered (MayFollow kind) (Items bound) low high one n positive w k f (to_list ts)
          (Last-iff (HasRest p kind y low high bound n) Has IsBefore IsBefore to_has of_has (λ y z q w h. h) w h) (rest_last w k (h.there).0.1 ts g));
    }

  -- the first and the rest
  pub bags_part : (low : ℕ) (high : Option ℕ) (bound : Option Tree) (n : ℕ) (x : Tree) (us : Trees) → AllowsOne high
      → (BagOn p kind y low high bound n (more x us) → (size_of x ≤ n) × Items bound x × BagOn p kind y (low - 1) (one_less high) (Some x) (n - size_of x) us)
      × (size_of x ≤ n → Items bound x → BagOn p kind y (low - 1) (one_less high) (Some x) (n - size_of x) us → BagOn p kind y low high bound n (more x us))
  bags_part low high bound n x us one = (
    (λ m. let b = to_bag low high bound n (x ∷ to_list us) m in (
      omega (arith, b.3),
      b.1.0,
      of_bag (low - 1) (one_less high) (Some x) (n - size_of x) (to_list us)
          (within_rest low high (length (to_list us)) b.0, behind_it x (to_list us) b.2.0 b.1.1, b.2.1, omega (arith, b.3)),
    )),
    λ l i m. let b = to_bag (low - 1) (one_less high) (Some x) (n - size_of x) (to_list us) m in
        of_bag low high bound n (x ∷ to_list us) (
          rest_within low high (length (to_list us)) one b.0,
          (i, each_of (Items (Some x)) (Items bound) (to_list us) (λ z q. (q.0, stands_on kind bag bound x z i.1 q.1)) b.1),
          ((λ z j. (Each-In (Items (Some x)) (to_list us) z b.1 j).1), b.2),
          omega (arith, b.3, l),
        ),
  )
    where
      behind_it : (x : Tree) (xs : List Tree) → ((z : Tree) → In z xs → MayFollow kind x z) → Each (Items bound) xs → Each (Items (Some x)) xs
      behind_it x [] h e = tt
      behind_it x (z ∷ zs) h e = ((e.0.0, h z (inl refl)), behind_it x zs (λ v i. h v (inr i)) e.1)
