-- Places of structures of a node: atoms, unions, products and collections.
use Rattle.std.proofs.Common.{◌≡◌, ℕ, zero, suc, ◌+◌, ◌*◌, ◌≤◌, ◌<◌, List, [], ◌∷◌, ◌⊎◌, inl, inr, ⊎_elim, length, refl, sym, ◌∙◌, ap, subst, arith, get_or, Some, slice_get, Option}
use Rattle.std.proofs.lemmas.Option.{slice_get-get_or, slice_get_within}
use Rattle.std.specs.declared.cmp.Ordering.TheVariants.{Less}
use Rattle.std.specs.Ordering.{nat_cmp}
use Rattle.luo_finite.specs.Listing.{In, Sums}
use Rattle.luo_finite.specs.Range.{sum_below, unit}
use Rattle.luo_finite.proofs.Membership.{In-append_cases}
use Rattle.luo_finite.proofs.Sums.{Sums-iff, Sums-map, Sums-one, Sums-none}
use Rattle.luo_model.specs.declared.program.Universe.{Universe}
use Rattle.luo_model.specs.declared.program.Universe.TheVariants.{Unlabelled, Labelled}
use Rattle.luo_model.specs.declared.program.Kind.{Kind}
use Rattle.luo_model.specs.declared.program.Part.{Part}
use Rattle.luo_model.specs.declared.program.Shape.{Shape}
use Rattle.luo_model.specs.declared.program.Shape.TheVariants as shape
use Rattle.luo_model.specs.Tree.{Tree, Trees, Atom, Inj, Tup, Coll, none, more, from_list, size_of, sizes_of, labels_of, all_labels_of, label_list}
use Rattle.luo_model.specs.Order.{sorted, then_by, by_size_and_labels, by_form, by_parts, order_of, IsBefore}
use Rattle.luo_model.specs.Program.{Program, shape_of}
use Rattle.luo_model.specs.Member.{Fits, FitAll, FitEach, Member, IsLabel}
use Rattle.luo_model.specs.Structures.{IsStructureOn, Carries}
use Rattle.luo_model.specs.Collections.{Bears}
use Rattle.luo_model.proofs.Unlabelled.{no_labels, nothing_in}
use Rattle.luo_counting.specs.Sharing.{IsRoom, shares}
use Rattle.luo_counting.specs.Items.{On}
use Rattle.luo_counting.specs.Counted.{CountsAt, AreLight}
use Rattle.luo_counting.proofs.Two.{IsSized, PairOn, Sums-two}
use Rattle.luo_counting.proofs.Rows.{nothing_borne}
use Rattle.luo_finite.proofs.Orders.{nat_less, nat_equal, less_nat, nat_itself}
use Rattle.luo_counting.proofs.TreeCollections.{carries_bears, bears_carries, members_sized, all_labels, Components, coll_of, components_in, in_components, one_coll}
use Rattle.luo_finite.specs.Places.{IsPlace, Lex}
use Rattle.luo_places.specs.Numbers.{ways, pair_place, IsPart, ListBefore, PartsBefore}
use Rattle.luo_finite.proofs.OrderedPlaces.{Place-iff, Place-key, Place-map, Place-alone}
use Rattle.luo_places.proofs.Orderings.{then_cases, then_less, then_more, sorted_is, same_room, parts_lex, lex_parts, trees_by_room}
use Rattle.luo_places.proofs.Pairs.{both_counted}
use Rattle.luo_places.proofs.Both.{Place-two}

-- lists of structures, and trees in a row
pub list_order : (xs ys : List Tree) → by_parts (from_list xs) (from_list ys) ≡ Less → ListBefore IsBefore xs ys
list_order [] [] e = absurd (cc)
list_order [] (y ∷ ys) e = tt
list_order (x ∷ xs) [] e = absurd (cc)
list_order (x ∷ xs) (y ∷ ys) e = ⊎_elim (λ l. inl l) (λ k. inr (k.0, list_order xs ys k.1)) (parts_lex x y (from_list xs) (from_list ys) e)

pub order_list : (xs ys : List Tree) → ListBefore IsBefore xs ys → by_parts (from_list xs) (from_list ys) ≡ Less
order_list [] [] e = absurd e
order_list [] (y ∷ ys) e = refl
order_list (x ∷ xs) [] e = absurd e
order_list (x ∷ xs) (y ∷ ys) e = lex_parts x y (from_list xs) (from_list ys) (⊎_elim (λ l. inl l) (λ k. inr (k.0, order_list xs ys k.1)) e)

-- structures of a node on the same labels have the same sorted labels
same_labels : (p : Program) (v : Universe) → p.universe ≡ v → (x n : ℕ) (L : List ℕ) → IsRoom v L n → (s t : Tree) → Member p x s → Member p x t → Carries v L s → Carries v L t → sorted (labels_of s) ≡ sorted (labels_of t)
same_labels p Unlabelled u x n L r s t m k c d =
    ap sorted (nothing_in (labels_of s) (no_labels p u s (shape_of p x) m)) ∙ sym (ap sorted (nothing_in (labels_of t) (no_labels p u t (shape_of p x) k)))
same_labels p Labelled u x n L r s t m k c d = sorted_is L (labels_of s) r.0 c ∙ sym (sorted_is L (labels_of t) r.0 d)

module _ (p : Program) (x n : ℕ) (L : List ℕ) (room : IsRoom p.universe L n) where
  -- among the structures of one node and size on the same labels the form decides
  pub by_form_alone : (s t : Tree) → IsStructureOn p x L n s → IsStructureOn p x L n t → order_of s t ≡ by_form s t
  by_form_alone s t m k = same_room s t (m.1 ∙ sym k.1) (same_labels p p.universe refl x n L room s t m.0 k.0 m.2 k.2)

  -- UNIONS: the structures of the branches before, and then the place inside
  module _ (parts : List Part) (is : shape_of p x ≡ shape.Union parts) where
    pub branch : Tree → ℕ
    branch (Inj (suc i) t) = i
    branch _ = 0

    abbrev pub InBranch : ℕ → Tree → Type 0
    InBranch node s = IsStructureOn p node L n s

    pub inject : (i : ℕ) (part : Part) → slice_get parts i ≡ Some part → (t : Tree) → InBranch part.node t → IsStructureOn p x L n (Inj (suc i) t)
    inject i part e t m = (subst (λ z. Fits p z (Inj (suc i) t)) (sym is) (part, e, m.0), m.1, bears_carries p.universe L (Inj (suc i) t) (carries_bears p.universe L t m.2))

    -- what a structure of the node is
    inside : (s : Tree) → Fits p (shape.Union parts) s → size_of s ≡ n → Carries p.universe L s → (t : Tree) × (part : Part) × (slice_get parts (branch s) ≡ Some part) × InBranch part.node t × (s ≡ Inj (suc (branch s)) t)
    unfolding branch
    inside (Atom w l) m e c = absurd m
    inside (Inj zero t) m e c = absurd m
    inside (Inj (suc i) t) m e c = (t, m.0, m.1, (m.2, e, bears_carries p.universe L t (carries_bears p.universe L (Inj (suc i) t) c)), refl)
    inside (Tup ts) m e c = absurd m
    inside (Coll ts) m e c = absurd m

    pub inside_of : (s : Tree) → IsStructureOn p x L n s → (t : Tree) × (part : Part) × (slice_get parts (branch s) ≡ Some part) × InBranch part.node t × (s ≡ Inj (suc (branch s)) t)
    inside_of s m = inside s (subst (λ z. Fits p z s) is m.0) m.1 m.2

    same_part : (i : ℕ) (part other : Part) → slice_get parts i ≡ Some part → slice_get parts i ≡ Some other → other ≡ part
    same_part i part other e f = cc

    -- the structures of one branch are an image
    pub of_branch : (i : ℕ) (part : Part) → slice_get parts i ≡ Some part → (s : Tree) → IsStructureOn p x L n s × (branch s ≡ i) → (t : Tree) × InBranch part.node t × (s ≡ Inj (suc i) t)
    of_branch i part e s m =
        let k = inside_of s m.0 in
        let q : k.1 ≡ part = same_part i part k.1 e (subst (λ j. slice_get parts j ≡ Some k.1) m.1 k.2) in
        (k.0, subst (λ (o : Part). InBranch o.node k.0) q k.3, k.4 ∙ ap (λ j. Inj (suc j) k.0) m.1)

    pub in_branch : (i : ℕ) (part : Part) → slice_get parts i ≡ Some part → (s : Tree) → (t : Tree) × InBranch part.node t × (s ≡ Inj (suc i) t) → IsStructureOn p x L n s × (branch s ≡ i)
    unfolding branch
    in_branch i part e s r = (subst (IsStructureOn p x L n) (sym r.2) (inject i part e r.0 r.1), ap branch r.2)

    -- the order of two branches
    pub earlier_branch : (i j : ℕ) (s t : Tree) → i < j → by_form (Inj (suc i) s) (Inj (suc j) t) ≡ Less
    earlier_branch i j s t l = then_less (nat_cmp (suc i) (suc j)) (then_by (by_size_and_labels s t) (by_form s t)) (nat_less (suc i) (suc j) (omega arith))

    pub branch_within : (i j : ℕ) (s t : Tree) → by_form (Inj (suc i) s) (Inj (suc j) t) ≡ Less → i ≤ j
    branch_within i j s t e = ⊎_elim (λ l. let k : suc i < suc j = less_nat (suc i) (suc j) l in omega arith) (λ k. let q : suc i ≡ suc j = nat_equal (suc i) (suc j) k.0 in omega arith)
        (then_cases (nat_cmp (suc i) (suc j)) (then_by (by_size_and_labels s t) (by_form s t)) e)

    -- of one branch the order inside
    pub to_inside : (i : ℕ) (s t : Tree) → by_form (Inj i s) (Inj i t) ≡ Less → IsBefore s t
    unfolding order_of
    to_inside i s t e = ⊎_elim (λ l. let k : i < i = less_nat i i l in absurd (omega arith)) (λ k. k.1) (then_cases (nat_cmp i i) (then_by (by_size_and_labels s t) (by_form s t)) e)

    pub from_inside : (i : ℕ) (s t : Tree) → IsBefore s t → by_form (Inj i s) (Inj i t) ≡ Less
    unfolding order_of
    from_inside i s t e = then_more (nat_cmp i i) (then_by (by_size_and_labels s t) (by_form s t)) (nat_itself i) e

    pub Place-union : (i : ℕ) (part : Part) → slice_get parts i ≡ Some part → (c : ℕ → ℕ) → ((j : ℕ) (other : Part) → j < i → slice_get parts j ≡ Some other → Sums (InBranch other.node) (λ s. 1) (c j))
        → (r : ℕ) (t : Tree) → IsPlace (InBranch part.node) IsBefore r t → IsPlace (IsStructureOn p x L n) IsBefore (sum_below c i + r) (Inj (suc i) t)
    unfolding branch
    Place-union i part e c counts r t m =
        Place-key (IsStructureOn p x L n) IsBefore branch c (Inj (suc i) t)
        (λ s w l. let k = inside_of s w in
        by_form_alone s (Inj (suc i) t) w whole ∙ subst (λ v. by_form v (Inj (suc i) t) ≡ Less) (sym k.4) (earlier_branch (branch s) i k.0 t l))
        (λ s w h. let k = inside_of s w in
        branch_within (branch s) i k.0 t (subst (λ v. by_form v (Inj (suc i) t) ≡ Less) k.4 (sym (by_form_alone s (Inj (suc i) t) w whole) ∙ h)))
        (λ j l. let o = slice_get-get_or parts j part (let q : j < length parts = omega (arith, l, slice_get_within parts i part e) in q) in
        let other : Part = get_or parts j part in
        Sums-iff (λ s. (t : Tree) × InBranch other.node t × (s ≡ Inj (suc j) t)) (λ s. IsStructureOn p x L n s × (branch s ≡ j)) (λ s. 1) (c j) (in_branch j other o) (of_branch j other o)
        (Sums-map (InBranch other.node) (λ s. Inj (suc j) s) (λ s. 1) (c j) (λ s u q w f. cc) (counts j other l o)))
        r
        (Place-iff (λ s. (t : Tree) × InBranch part.node t × (s ≡ Inj (suc i) t)) (λ s. IsStructureOn p x L n s × (branch s ≡ i)) IsBefore IsBefore r (Inj (suc i) t) (in_branch i part e) (of_branch i part e) (λ s w h. h) (λ s w h. h)
        (Place-map (InBranch part.node) IsBefore IsBefore (λ s. Inj (suc i) s) r t (λ s u q w f. cc)
        (λ s w h. by_form_alone (Inj (suc i) s) (Inj (suc i) t) (inject i part e s w) whole ∙ from_inside (suc i) s t h)
        (λ s w h. to_inside (suc i) s t (sym (by_form_alone (Inj (suc i) s) (Inj (suc i) t) (inject i part e s w) whole) ∙ h)) m))
      where
        whole : IsStructureOn p x L n (Inj (suc i) t)
        whole = inject i part e t m.there

  -- PRODUCTS: the place of the parts
  module _ (parts : List Part) (is : shape_of p x ≡ shape.Product parts) where
    abbrev pub PartsOn : List Part → List ℕ → ℕ → Trees → Type 0
    PartsOn parts L n ts = FitAll p parts ts × (sizes_of ts ≡ n) × Bears p.universe L (all_labels_of ts)

    pub tuple_in : (ts : Trees) → PartsOn parts L n ts → IsStructureOn p x L n (Tup ts)
    tuple_in ts m = (subst (λ z. Fits p z (Tup ts)) (sym is) m.0, m.1, bears_carries p.universe L (Tup ts) m.2)

    pub tuple_of : (s : Tree) → Fits p (shape.Product parts) s → size_of s ≡ n → Carries p.universe L s → (ts : Trees) × PartsOn parts L n ts × (s ≡ Tup ts)
    tuple_of (Atom w l) m e c = absurd m
    tuple_of (Inj i t) m e c = absurd m
    tuple_of (Tup ts) m e c = (ts, (m, e, carries_bears p.universe L (Tup ts) c), refl)
    tuple_of (Coll ts) m e c = absurd m

    pub Place-product : (r : ℕ) (ts : Trees) → IsPlace (PartsOn parts L n) PartsBefore r ts → IsPlace (IsStructureOn p x L n) IsBefore r (Tup ts)
    Place-product r ts m =
        Place-iff (λ s. (us : Trees) × PartsOn parts L n us × (s ≡ Tup us)) (IsStructureOn p x L n) IsBefore IsBefore r (Tup ts)
        (λ s k. subst (IsStructureOn p x L n) (sym k.2) (tuple_in k.0 k.1)) (λ s k. tuple_of s (subst (λ z. Fits p z s) is k.0) k.1 k.2) (λ s w h. h) (λ s w h. h)
        (Place-map (PartsOn parts L n) PartsBefore IsBefore Tup r ts (λ y z q w e. cc)
        (λ us w h. by_form_alone (Tup us) (Tup ts) (tuple_in us w) (tuple_in ts m.there) ∙ h) (λ us w h. sym (by_form_alone (Tup us) (Tup ts) (tuple_in us w) (tuple_in ts m.there)) ∙ h) m)

    pub product_counted : (c : ℕ) → Sums (PartsOn parts L n) (λ t. 1) c → Sums (IsStructureOn p x L n) (λ t. 1) c
    product_counted c m =
        Sums-iff (λ s. (us : Trees) × PartsOn parts L n us × (s ≡ Tup us)) (IsStructureOn p x L n) (λ t. 1) c
        (λ s k. subst (IsStructureOn p x L n) (sym k.2) (tuple_in k.0 k.1)) (λ s k. tuple_of s (subst (λ z. Fits p z s) is k.0) k.1 k.2)
        (Sums-map (PartsOn parts L n) Tup (λ t. 1) c (λ y z q w e. cc) m)

  -- COLLECTIONS: the place of the components
  module _ (kind : Kind) (part : Part) (low : ℕ) (high : Option ℕ) (is : shape_of p x ≡ shape.Coll kind part low high) where
    pub Place-coll : (r : ℕ) (xs : List Tree) → IsPlace (Components p x kind part low high is L n) (ListBefore IsBefore) r xs → IsPlace (IsStructureOn p x L n) IsBefore r (Coll (from_list xs))
    Place-coll r xs m =
        Place-iff (λ s. (ys : List Tree) × Components p x kind part low high is L n ys × (s ≡ coll_of p x kind part low high is L n ys)) (IsStructureOn p x L n) IsBefore IsBefore r (Coll (from_list xs))
        (components_in p x kind part low high is L n) (in_components p x kind part low high is L n) (λ s w h. h) (λ s w h. h)
        (Place-map (Components p x kind part low high is L n) (ListBefore IsBefore) IsBefore (coll_of p x kind part low high is L n) r xs (λ y z q w e. one_coll p x kind part low high is L n y z e)
        (λ ys w h. by_form_alone (Coll (from_list ys)) (Coll (from_list xs)) (in_coll ys w) (in_coll xs m.there) ∙ order_list ys xs h)
        (λ ys w h. list_order ys xs (sym (by_form_alone (Coll (from_list ys)) (Coll (from_list xs)) (in_coll ys w) (in_coll xs m.there)) ∙ h)) m)
      where
        in_coll : (ys : List Tree) → Components p x kind part low high is L n ys → IsStructureOn p x L n (Coll (from_list ys))
        in_coll ys w = components_in p x kind part low high is L n (Coll (from_list ys)) (ys, w, refl)

-- the parts of a product, one after the other
module _ (p : Program) (light : AreLight p) where
  both : (y z : Tree × Trees) → more y.0 y.1 ≡ more z.0 z.1 → y ≡ z
  both y z e = let a : y.0 ≡ z.0 = cc in let b : y.1 ≡ z.1 = cc in λ i. (a i, b i)

  abbrev pub PartsAt : List Part → List ℕ → ℕ → Trees → Type 0
  PartsAt parts L n ts = FitAll p parts ts × (sizes_of ts ≡ n) × Bears p.universe L (all_labels_of ts)

  abbrev pub Firsts : Part → List Part → List ℕ → ℕ → Tree × Trees → Type 0
  Firsts part parts L n = PairOn p.universe (Member p part.node) (FitAll p parts) size_of sizes_of labels_of all_labels_of L n

  pub to_firsts : (part : Part) (parts : List Part) (L : List ℕ) (n : ℕ) (ts : Trees) → PartsAt (part ∷ parts) L n ts → (z : Tree × Trees) × Firsts part parts L n z × (ts ≡ more z.0 z.1)
  to_firsts part parts L n none m = absurd m.0
  to_firsts part parts L n (more t ts) m = ((t, ts), (m.0.0, m.0.1, m.1, m.2), refl)

  pub from_firsts : (part : Part) (parts : List Part) (L : List ℕ) (n : ℕ) (ts : Trees) → (z : Tree × Trees) × Firsts part parts L n z × (ts ≡ more z.0 z.1) → PartsAt (part ∷ parts) L n ts
  from_firsts part parts L n ts r = subst (PartsAt (part ∷ parts) L n) (sym r.2) (let m = r.1 in ((m.0, m.1), m.2, m.3))

  pub parts_sized : (parts : List Part) → IsSized p.universe (FitAll p parts) sizes_of all_labels_of
  parts_sized parts = by_universe p.universe refl
    where
      by_universe : (u : Universe) → p.universe ≡ u → IsSized u (FitAll p parts) sizes_of all_labels_of
      by_universe Unlabelled e = tt
      by_universe Labelled e = λ ts m. all_labels p e (light e) parts ts m

  -- of a structure as an item, and back
  pub as_item : (y n : ℕ) (S : List ℕ) (r : ℕ) (t : Tree) → IsPlace (IsStructureOn p y S n) IsBefore r t → IsPlace (On p.universe (Member p y) size_of labels_of S n) IsBefore r t
  as_item y n S r t m =
      Place-iff (IsStructureOn p y S n) (On p.universe (Member p y) size_of labels_of S n) IsBefore IsBefore r t (λ s k. (k.0, k.1, carries_bears p.universe S s k.2)) (λ s k. (k.0, k.1, bears_carries p.universe S s k.2)) (λ s w h. h) (λ s w h. h) m

  pub items_counted : (y n c : ℕ) (S : List ℕ) → Sums (IsStructureOn p y S n) (λ t. 1) c → Sums (On p.universe (Member p y) size_of labels_of S n) (λ t. 1) c
  items_counted y n c S m =
      Sums-iff (IsStructureOn p y S n) (On p.universe (Member p y) size_of labels_of S n) (λ t. 1) c (λ s k. (k.0, k.1, carries_bears p.universe S s k.2)) (λ s k. (k.0, k.1, bears_carries p.universe S s k.2)) m

  pub Place-parts : (part : Part) (parts : List Part) (n : ℕ) (L : List ℕ) → IsRoom p.universe L n → (a b : ℕ → ℕ) → ((k : ℕ) → k ≤ n → CountsAt p part.node k (a k))
      → ((k : ℕ) → k ≤ n → (U : List ℕ) → IsRoom p.universe U k → Sums (PartsAt parts U k) (λ t. 1) (b k))
      → (i j q r s : ℕ) (t : Tree) (ts : Trees) (S T : List ℕ) → i + j ≡ n → IsPart p.universe L i q S T → IsPlace (IsStructureOn p part.node S i) IsBefore r t → IsPlace (PartsAt parts T j) PartsBefore s ts
      → IsPlace (PartsAt (part ∷ parts) L n) PartsBefore (pair_place (ways p.universe n) a b n i q r s) (more t ts)
  Place-parts part parts n L room a b known rest i j q r s t ts S T e split m k =
      let place = pair_place (ways p.universe n) a b n i q r s in
      Place-iff (λ us. (z : Tree × Trees) × Firsts part parts L n z × (us ≡ more z.0 z.1)) (PartsAt (part ∷ parts) L n) PartsBefore PartsBefore place (more t ts) (from_firsts part parts L n) (to_firsts part parts L n) (λ s w h. h) (λ s w h. h)
      (Place-map (Firsts part parts L n) (Lex IsBefore PartsBefore) PartsBefore (λ z. more z.0 z.1) place (t, ts) (λ y z q w e. both y z e)
      (λ z w h. lex_parts z.0 t z.1 ts h) (λ z w h. parts_lex z.0 t z.1 ts h)
      (Place-two (Member p part.node) (FitAll p parts) size_of sizes_of labels_of all_labels_of IsBefore PartsBefore trees_by_room a b n p.universe L room (members_sized p light part.node) (parts_sized parts)
      (λ h g U u. items_counted part.node h (a h) U (known h g U u)) (λ h g U u. rest h g U u) i j q r s t ts S T e split (as_item part.node i S r t m) k))

  -- the tuples of parts, counted
  pub parts_counted : (part : Part) (parts : List Part) (n : ℕ) (L : List ℕ) → IsRoom p.universe L n → (a b : ℕ → ℕ) → ((k : ℕ) → k ≤ n → CountsAt p part.node k (a k))
      → ((k : ℕ) → k ≤ n → (U : List ℕ) → IsRoom p.universe U k → Sums (PartsAt parts U k) (λ t. 1) (b k)) → Sums (PartsAt (part ∷ parts) L n) (λ t. 1) (shares p.universe a b n)
  parts_counted part parts n L room a b known rest =
      Sums-iff (λ us. (z : Tree × Trees) × Firsts part parts L n z × (us ≡ more z.0 z.1)) (PartsAt (part ∷ parts) L n) (λ t. 1) (shares p.universe a b n) (from_firsts part parts L n) (to_firsts part parts L n)
      (Sums-map (Firsts part parts L n) (λ z. more z.0 z.1) (λ t. 1) (shares p.universe a b n) (λ y z q w e. both y z e)
      (Sums-two (Member p part.node) (FitAll p parts) size_of sizes_of labels_of all_labels_of (λ z. 1) (λ i j. a i * b j) n p.universe L room (members_sized p light part.node) (parts_sized parts)
      (λ S T i j s t e. both_counted (On p.universe (Member p part.node) size_of labels_of S i) (On p.universe (FitAll p parts) sizes_of all_labels_of T j) (a i) (b j)
      (items_counted part.node i (a i) S (known i (omega (arith, e)) S s)) (rest j (omega (arith, e)) T t))))

  pub no_parts_counted : (n : ℕ) (L : List ℕ) → IsRoom p.universe L n → Sums (PartsAt [] L n) (λ t. 1) (unit n)
  no_parts_counted zero L r = Sums-one (PartsAt [] L 0) (λ t. 1) none (tt, refl, nothing_borne p.universe L r) (only 0 L)
    where
      only : (n : ℕ) (L : List ℕ) (ts : Trees) → PartsAt [] L n ts → ts ≡ none
      only n L none m = refl
      only n L (more t ts) m = absurd m.0
  no_parts_counted (suc n) L r = Sums-none (PartsAt [] L (suc n)) (λ t. 1) never
    where
      never : (ts : Trees) → PartsAt [] L (suc n) ts → ⊥
      never none m = omega (arith, m.1)
      never (more t ts) m = m.0

  pub Place-no_parts : (L : List ℕ) → IsRoom p.universe L 0 → IsPlace (PartsAt [] L 0) PartsBefore 0 none
  Place-no_parts L r = Place-alone (PartsAt [] L 0) PartsBefore none (tt, refl, nothing_borne p.universe L r) not_before
    where
      not_before : (ts : Trees) → PartsAt [] L 0 ts → PartsBefore ts none → ⊥
      not_before none m h = cc
      not_before (more t ts) m h = m.0

-- ATOMS: there is one
pub atom_alone : (p : Program) (x weight n : ℕ) (L : List ℕ) → shape_of p x ≡ shape.Atom weight → (l : ℕ) → IsStructureOn p x L n (Atom weight l) → (s : Tree) → IsStructureOn p x L n s → s ≡ Atom weight l
atom_alone p x weight n L is l m s w = one_atom p.universe refl s (subst (λ z. Fits p z s) is w.0) (subst (λ z. Fits p z (Atom weight l)) is m.0) w.2 m.2
  where
    in_one : (k l : ℕ) → In k (label_list l) → k ≡ l
    in_one k zero i = absurd i
    in_one k (suc l) i = ⊎_elim (λ e. e) (λ j. absurd j) i

    positive : (k : ℕ) → 1 ≤ k → In k (label_list k)
    positive zero h = absurd (omega arith)
    positive (suc k) h = inl refl

    same_label : (v : Universe) (k : ℕ) → IsLabel v weight k → IsLabel v weight l → Carries v L (Atom weight k) → Carries v L (Atom weight l) → k ≡ l
    same_label Unlabelled k a b c d = a ∙ sym b
    same_label Labelled k a b c d = ⊎_elim (λ (e : weight ≡ 1). in_one k l (d.2 k (c.1 k (positive k (a.0 e))))) (λ h. a.1 h ∙ sym (b.1 h)) (one_or weight)
      where
        one_or : (w : ℕ) → (w ≡ 1) ⊎ (w ≡ 1 → ⊥)
        one_or w = grind arith

    one_atom : (v : Universe) → p.universe ≡ v → (s : Tree) → Fits p (shape.Atom weight) s → Fits p (shape.Atom weight) (Atom weight l) → Carries v L s → Carries v L (Atom weight l) → s ≡ Atom weight l
    one_atom v e (Atom w k) a b c d =
        let q : k ≡ l = same_label v k (subst (λ u. IsLabel u weight k) e (subst (λ y. IsLabel p.universe y k) a.0 a.1)) (subst (λ u. IsLabel u weight l) e b.1) (subst (λ y. Carries v L (Atom y k)) a.0 c) d in
        λ i. Atom (a.0 i) (q i)
    one_atom v e (Inj i t) a b c d = absurd a
    one_atom v e (Tup ts) a b c d = absurd a
    one_atom v e (Coll ts) a b c d = absurd a

pub Place-atom : (p : Program) (x weight n : ℕ) (L : List ℕ) → shape_of p x ≡ shape.Atom weight → (l : ℕ) → IsStructureOn p x L n (Atom weight l) → IsPlace (IsStructureOn p x L n) IsBefore 0 (Atom weight l)
Place-atom p x weight n L is l m = Place-alone (IsStructureOn p x L n) IsBefore (Atom weight l) m
    (λ s w h. let e : s ≡ Atom weight l = atom_alone p x weight n L is l m s w in
    trees_by_room.one_way (Atom weight l) (Atom weight l) (subst (λ v. IsBefore v (Atom weight l)) e h) (subst (λ v. IsBefore v (Atom weight l)) e h))
