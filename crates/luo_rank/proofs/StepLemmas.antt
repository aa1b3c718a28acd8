-- A step of looking up, by what the tables hold.
use Rattle.std.proofs.Common.{◌≡◌, ℕ, zero, suc, ◌+◌, ◌-◌, ◌≤◌, ◌<◌, List, [], ◌∷◌, inl, ⊎_elim, length, refl, sym, ◌∙◌, ap, subst, arith, Option, slice_index_or}
use Rattle.luo_finite.specs.Listing.{In, Sums}
use Rattle.luo_finite.specs.Range.{sum_below}
use Rattle.luo_finite.specs.Places.{IsPlace}
use Rattle.luo_finite.proofs.Membership.{In-at}
use Rattle.luo_num.specs.declared.limits.TheConstants.{PART_LIMIT}
use Rattle.luo_model.specs.declared.program.Kind.{Kind}
use Rattle.luo_model.specs.declared.program.Part.{Part}
use Rattle.luo_model.specs.declared.program.Shape.{Shape}
use Rattle.luo_model.specs.declared.program.Shape.TheVariants as shape
use Rattle.luo_model.specs.Tree.{Tree, Trees, Inj, Tup, Coll, none, more}
use Rattle.luo_model.specs.Program.{shape_of}
use Rattle.luo_model.specs.Invariant.{inner_parts, IsAllowed}
use Rattle.luo_model.specs.Structures.{IsStructureOn}
use Rattle.luo_model.specs.View.{plain_of}
use Rattle.luo_model.proofs.NodeLemmas.{node_at_place}
use Rattle.luo_counting.specs.Sharing.{IsRoom}
use Rattle.luo_places.specs.Numbers.{PartsBefore}
use Rattle.luo_places.specs.Tails.{Tail, factors, items, tail_of, behind_some, first_node, TailOn, tail_count, IsThere, Ends}
use Rattle.std.proofs.lemmas.Option.{get_or_from_slice_get, slice_get-get_or, slice_get_within}
use Rattle.luo_num.specs.declared.TheConstants.{MAX}
use Rattle.luo_finite.proofs.Sums.{Sums-iff, Sums-map, Sums-unique}
use Rattle.luo_model.specs.Founded.{HasZero, KeepsSize}
use Rattle.luo_counting.specs.Numbers.{coll_count}
use Rattle.luo_counting.specs.Counted.{SumsAt}
use Rattle.luo_counting.proofs.TreeParts.{SumsAt-union}
use Rattle.luo_counting.proofs.TreeCollections.{Components, coll_of, components_in, in_components, one_coll}
use Rattle.luo_places.proofs.TreePlaces.{Place-union, product_counted}
use Rattle.luo_places.proofs.Tails.{nothing, tail_end, tail_counted, colls_counted, structure_place, collection_place}
use Rattle.luo_rank.specs.inner.Lookup.{Looked, IsCounted, entry_of, rank_in, tail_at, behind, Tailed, Stands, IsLeft, IsUnder, IsFirstOf, ArePartLabels, StandsAt, left_count, work, no_part, part_entry, AreThere, IsFound, top_of}
use Rattle.luo_rank.proofs.LookupLemmas.{top_less, first_falls, rest_under, behind_none, behind_more}
use Rattle.luo_rank.proofs.TailLemmas.{bounds_at, parts_more, tail_there, inner_there}

pub next_top : (t : Looked) (x f n : ℕ) → Stands (shape_of (plain_of t.program) x) t.last f n → IsLeft (tail_at (plain_of t.program) x f) n → f + 1 ≤ top_of (shape_of (plain_of t.program) x) t.last
next_top t x f n s l = by (shape_of (plain_of t.program) x) s l
  where
    by : (h : Shape) → Stands h t.last f n → IsLeft (behind_some (tail_of h) f) n → f + 1 ≤ top_of h t.last
    by (shape.Atom w) s l = absurd s
    by (shape.Union parts) s l = absurd s
    by (shape.Product parts) s l = omega (arith, parts_more parts f n s l)
    by (shape.Coll kind part low high) s l = let b = bounds_at kind part.node low high f in let g : 1 ≤ n = subst (λ o. IsLeft o n) b.tail l in omega (arith, s, g)

module _ (t : Looked) (k : IsCounted t) where
  few_parts : (x : ℕ) (parts : List Part) → shape_of (plain_of t.program) x ≡ shape.Product parts → length parts ≤ PART_LIMIT
  few_parts x parts is = ⊎_elim (λ n. let q : IsAllowed t.program.universe (shape.Product parts) = subst (IsAllowed t.program.universe) (sym n.2 ∙ is) (k.proper.allowed x n.0 n.1) in q.1)
      (λ o. absurd (let q : shape.Union [] ≡ shape.Product parts = sym o ∙ is in cc)) (node_at_place (plain_of t.program) x)

  pub few_left : (x f n : ℕ) → Stands (shape_of (plain_of t.program) x) t.last f n → f ≤ 64
  few_left x f n s = by (shape_of (plain_of t.program) x) refl s
    where
      by : (h : Shape) → shape_of (plain_of t.program) x ≡ h → Stands h t.last f n → f ≤ 64
      by (shape.Atom w) is s = absurd s
      by (shape.Union parts) is s = absurd s
      by (shape.Product parts) is s = omega (arith, s, few_parts x parts is)
      by (shape.Coll kind part low high) is s = omega (arith, s, k.few)

  pub top_few : (x : ℕ) → top_of (shape_of (plain_of t.program) x) t.last ≤ 64
  top_few x = by (shape_of (plain_of t.program) x) refl
    where
      by : (h : Shape) → shape_of (plain_of t.program) x ≡ h → top_of h t.last ≤ 64
      by (shape.Atom w) is = omega arith
      by (shape.Union parts) is = omega arith
      by (shape.Product parts) is = omega (arith, few_parts x parts is)
      by (shape.Coll kind part low high) is = omega (arith, k.few)

  pub is_there : (x f : ℕ) → IsThere (plain_of t.program) (length t.program.nodes) (tail_at (plain_of t.program) x f)
  is_there x f = tail_there (plain_of t.program) k.proper k.founded x f t.last (entry_of t.counts) k.numbers

  pub first_there : (x f n : ℕ) → Stands (shape_of (plain_of t.program) x) t.last f n → IsLeft (tail_at (plain_of t.program) x f) n → first_node (tail_at (plain_of t.program) x f) < length t.program.nodes
  first_there x f n s l = by (tail_at (plain_of t.program) x f) (is_there x f) l
    where
      by : (tail : Tail) → IsThere (plain_of t.program) (length t.program.nodes) tail → IsLeft tail n → first_node tail < length t.program.nodes
      by (factors []) there l = absurd l
      by (factors (part ∷ parts)) there l = there part (inl refl)
      by (items kind y low high) there l = there.0

  -- the rest stands
  pub next_stands : (x f n size place : ℕ) → Stands (shape_of (plain_of t.program) x) t.last f n → IsLeft (tail_at (plain_of t.program) x f) n → size ≤ n → place < entry_of t.counts (first_node (tail_at (plain_of t.program) x f)) size
      → Stands (shape_of (plain_of t.program) x) t.last (f + 1) (n - size)
  next_stands x f n size place s l g h = by (shape_of (plain_of t.program) x) refl s
    where
      some : (size : ℕ) (tail : Tail) (kind : Kind) (y low : ℕ) (high : Option ℕ) → tail ≡ items kind y low high → IsThere (plain_of t.program) (length t.program.nodes) tail → place < entry_of t.counts (first_node tail) size → 1 ≤ size
      some zero tail kind y low high e there h =
          let th = subst (IsThere (plain_of t.program) (length t.program.nodes)) e there in
          let z : entry_of t.counts y 0 ≡ 0 = nothing (plain_of t.program) (length t.program.nodes) t.last (entry_of t.counts) k.numbers y th.0 th.2 in
          let w : place < entry_of t.counts y 0 = subst (λ o. place < entry_of t.counts (first_node o) 0) e h in
          absurd (omega (arith, w, z))
      some (suc size) tail kind y low high e there h = omega arith

      by : (h' : Shape) → shape_of (plain_of t.program) x ≡ h' → Stands h' t.last f n → Stands h' t.last (f + 1) (n - size)
      by (shape.Atom w) is s = absurd s
      by (shape.Union parts) is s = absurd s
      by (shape.Product parts) is s = omega (arith, parts_more parts f n s (subst (λ v. IsLeft (behind_some (tail_of v) f) n) is l))
      by (shape.Coll kind part low high) is s =
          let b = bounds_at kind part.node low high f in
          omega (arith, s, g, some size (tail_at (plain_of t.program) x f) b.kind_now part.node b.low_now b.high_now (ap (λ v. behind_some (tail_of v) f) is ∙ b.tail) (is_there x f) h)

  -- ONE STEP
  module _ (x f n rank size q place back top : ℕ) (L S T : List ℕ) (stands : Stands (shape_of (plain_of t.program) x) t.last f n) (room : IsRoom t.program.universe L n) (within : n ≤ t.last)
      (left : IsLeft (tail_at (plain_of t.program) x f) n) (first : IsFirstOf t x f n rank size q place back) (labels : ArePartLabels t.program.universe (tail_at (plain_of t.program) x f) L n size q S T) where
    pub step_falls : IsUnder (plain_of t.program) (rank_in t.ranks) (work (plain_of t.program) (rank_in t.ranks) x top) (tail_at (plain_of t.program) x f) L n rank
        → work (plain_of t.program) (rank_in t.ranks) (first_node (tail_at (plain_of t.program) x f)) size < work (plain_of t.program) (rank_in t.ranks) x top
    step_falls under = first_falls (plain_of t.program) (length t.program.nodes) t.last (entry_of t.counts) k.numbers (rank_in t.ranks) k.ranked (tail_at (plain_of t.program) x f) (is_there x f) (first_there x f n stands left) L S T n rank size q place back
        (work (plain_of t.program) (rank_in t.ranks) x top) within first room labels.first labels.rest labels.head under

    pub step_under : IsUnder (plain_of t.program) (rank_in t.ranks) (work (plain_of t.program) (rank_in t.ranks) x top) (tail_at (plain_of t.program) x f) L n rank
        → IsUnder (plain_of t.program) (rank_in t.ranks) (work (plain_of t.program) (rank_in t.ranks) x top) (tail_at (plain_of t.program) x (f + 1)) T (n - size) back
    step_under under = subst (λ g. IsUnder (plain_of t.program) (rank_in t.ranks) (work (plain_of t.program) (rank_in t.ranks) x top) (tail_at (plain_of t.program) x g) T (n - size) back) (let e : suc f ≡ f + 1 = omega arith in e)
        (rest_under (plain_of t.program) (length t.program.nodes) t.last (entry_of t.counts) k.numbers (rank_in t.ranks) k.ranked (tail_at (plain_of t.program) x f) (is_there x f) (first_there x f n stands left) L S T n rank size q place back
        (work (plain_of t.program) (rank_in t.ranks) x top) within first room labels.first labels.rest labels.head under)

    pub step_rank : back < left_count t x (f + 1) (n - size)
    step_rank = subst (λ g. back < left_count t x g (n - size)) (let e : suc f ≡ f + 1 = omega arith in e) first.second

    pub step_tailed : (node : ℕ) (s : Tree) (old mid new : Trees) → node ≡ first_node (tail_at (plain_of t.program) x f) → StandsAt t node S size place s → mid ≡ behind old (more s none) → Tailed (plain_of t.program) x (f + 1) T (n - size) back mid new → Tailed (plain_of t.program) x f L n rank old new
    step_tailed node s old mid new is m w (ts, r, e) = (
      more s ts,
      first.step L S T room labels.head s ts (subst (λ y. StandsAt t y S size place s) is m) (subst (λ g. IsPlace (TailOn (plain_of t.program) (tail_at (plain_of t.program) x g) T (n - size)) PartsBefore back ts) (let e : f + 1 ≡ suc f = omega arith in e) r),
      e ∙ ap (λ v. behind v ts) w ∙ behind_more old s ts,
    )

  pub end_tailed : (x f n rank : ℕ) (L : List ℕ) (old : Trees) → IsRoom t.program.universe L n → n ≤ t.last → Ends (tail_at (plain_of t.program) x f) n → rank < left_count t x f n → Tailed (plain_of t.program) x f L n rank old old
  end_tailed x f n rank L old room within e h =
      (none, tail_end (plain_of t.program) (length t.program.nodes) t.last (entry_of t.counts) k.numbers (tail_at (plain_of t.program) x f) (is_there x f) n within e L room rank h, sym (behind_none old))

  -- A STRUCTURE from all that it chose
  module _ (x n rank : ℕ) (L : List ℕ) (node : x < length t.program.nodes) (room : IsRoom t.program.universe L n) (within : n ≤ t.last) where
    pub top_under : IsUnder (plain_of t.program) (rank_in t.ranks) (work (plain_of t.program) (rank_in t.ranks) x n) (tail_at (plain_of t.program) x 0) L n rank
    top_under ts m = top_less (plain_of t.program) (length t.program.nodes) t.last (entry_of t.counts) k.numbers (rank_in t.ranks) k.ranked x n L ts (is_there x 0) m.there

    product_count : (parts : List Part) → shape_of (plain_of t.program) x ≡ shape.Product parts → entry_of t.counts x n ≡ left_count t x 0 n
    product_count parts is =
        let p = plain_of t.program in
        let c = tail_count t.program.universe (entry_of t.counts) (factors parts) n in
        Sums-unique (IsStructureOn p x L n) (λ s. 1) (entry_of t.counts x n) c (k.numbers.right x n node within L room)
        (product_counted p x n L room parts is c (tail_counted p (length t.program.nodes) t.last (entry_of t.counts) k.numbers (factors parts) (subst (λ v. IsThere p (length t.program.nodes) (tail_of v)) is (is_there x 0)) n within L room))
        ∙ ap (λ v. tail_count t.program.universe (entry_of t.counts) (tail_of v) n) (sym is)

    collection_count : (kind : Kind) (part : Part) (low : ℕ) (high : Option ℕ) → shape_of (plain_of t.program) x ≡ shape.Coll kind part low high → entry_of t.counts x n ≡ left_count t x 0 n
    collection_count kind part low high is =
        let p = plain_of t.program in
        let c = coll_count t.program.universe kind (entry_of t.counts part.node) low high n in
        let th : IsThere p (length t.program.nodes) (items kind part.node low high) = subst (λ v. IsThere p (length t.program.nodes) (tail_of v)) is (is_there x 0) in
        Sums-unique (IsStructureOn p x L n) (λ s. 1) (entry_of t.counts x n) c (k.numbers.right x n node within L room)
        (Sums-iff (λ s. (xs : List Tree) × Components p x kind part low high is L n xs × (s ≡ coll_of p x kind part low high is L n xs)) (IsStructureOn p x L n) (λ s. 1) c
        (components_in p x kind part low high is L n) (in_components p x kind part low high is L n)
        (Sums-map (Components p x kind part low high is L n) (coll_of p x kind part low high is L n) (λ s. 1) c (λ xs ys q m e. one_coll p x kind part low high is L n xs ys e)
        (colls_counted p (length t.program.nodes) t.last (entry_of t.counts) k.numbers part.node th.0 th.2 kind low high th.1 n within L room)))
        ∙ ap (λ v. tail_count t.program.universe (entry_of t.counts) (tail_of v) n) (sym is)

    -- what the parts are asked for
    abbrev pub Asked : Type 0
    Asked = Stands (shape_of (plain_of t.program) x) t.last 0 n × (rank < left_count t x 0 n) × (rank ≤ MAX)

    small_rank : rank < entry_of t.counts x n → rank ≤ MAX
    small_rank h = omega (arith, h, k.small x n node within)

    pub product_asked : (parts : List Part) → shape_of (plain_of t.program) x ≡ shape.Product parts → rank < entry_of t.counts x n → Asked
    product_asked parts is h = (subst (λ v. Stands v t.last 0 n) (sym is) (let q : 0 ≤ length parts = omega arith in q), subst (λ c. rank < c) (product_count parts is) h, small_rank h)

    pub collection_asked : (kind : Kind) (part : Part) (low : ℕ) (high : Option ℕ) → shape_of (plain_of t.program) x ≡ shape.Coll kind part low high → rank < entry_of t.counts x n → Asked
    collection_asked kind part low high is h = (subst (λ v. Stands v t.last 0 n) (sym is) (let q : 0 + n ≤ t.last = omega (arith, within) in q), subst (λ c. rank < c) (collection_count kind part low high is) h, small_rank h)

    pub product_whole : (parts : List Part) (old new : Trees) (s : Tree) → shape_of (plain_of t.program) x ≡ shape.Product parts → old ≡ none → Tailed (plain_of t.program) x 0 L n rank old new → s ≡ Tup new → StandsAt t x L n rank s
    product_whole parts old new s is e (ts, m, q) w =
        subst (StandsAt t x L n rank) (sym (w ∙ ap Tup (q ∙ ap (λ o. behind o ts) e)))
        (structure_place (plain_of t.program) x n L room parts is rank ts (subst (λ v. IsPlace (TailOn (plain_of t.program) (tail_of v) L n) PartsBefore rank ts) is m))

    pub collection_whole : (kind : Kind) (part : Part) (low : ℕ) (high : Option ℕ) (old new : Trees) (s : Tree) → shape_of (plain_of t.program) x ≡ shape.Coll kind part low high → old ≡ none → Tailed (plain_of t.program) x 0 L n rank old new → s ≡ Coll new → StandsAt t x L n rank s
    collection_whole kind part low high old new s is e (ts, m, q) w =
        subst (StandsAt t x L n rank) (sym (w ∙ ap Coll (q ∙ ap (λ o. behind o ts) e)))
        (collection_place (plain_of t.program) x n L room kind part low high is rank ts (subst (λ v. IsPlace (TailOn (plain_of t.program) (tail_of v) L n) PartsBefore rank ts) is m))

    -- UNIONS
    module _ (parts : List Part) (is : shape_of (plain_of t.program) x ≡ shape.Union parts) where
      pub union_there : AreThere parts (length t.program.nodes)
      union_there part i = inner_there (plain_of t.program) k.proper k.founded x part (subst (In part) (sym (ap inner_parts is)) i)

      part_there : (i : ℕ) → i < length parts → (slice_index_or parts i no_part).node < length t.program.nodes
      part_there i l = union_there (slice_index_or parts i no_part) (In-at parts i no_part l)

      pub union_sum : entry_of t.counts x n ≡ sum_below (part_entry t.counts parts n) (length parts)
      union_sum =
          Sums-unique (IsStructureOn (plain_of t.program) x L n) (λ s. 1) (entry_of t.counts x n) (sum_below (part_entry t.counts parts n) (length parts)) (k.numbers.right x n node within L room)
          (SumsAt-union (plain_of t.program) x parts is n (λ s. 1) (part_entry t.counts parts n)
          (λ j part e. subst (λ (o : Part). SumsAt (plain_of t.program) part.node (λ s. 1) n (entry_of t.counts o.node n)) (sym (get_or_from_slice_get parts j part no_part e))
          (k.numbers.right part.node n (subst (λ (o : Part). o.node < length t.program.nodes) (get_or_from_slice_get parts j part no_part e) (part_there j (slice_get_within parts j part e))) within)) L room)

      pub union_place : (g rest : ℕ) (s : Tree) → IsFound (part_entry t.counts parts n) (length parts) rank g rest → StandsAt t (slice_index_or parts g no_part).node L n rest s → StandsAt t x L n rank (Inj (g + 1) s)
      union_place g rest s f m =
          subst (λ j. StandsAt t x L n rank (Inj j s)) (let q : suc g ≡ g + 1 = omega arith in q)
          (subst (λ i. StandsAt t x L n i (Inj (suc g) s)) f.is
          (Place-union (plain_of t.program) x n L room parts is g (slice_index_or parts g no_part) (slice_get-get_or parts g no_part f.there) (part_entry t.counts parts n)
          (λ j other k' e. subst (λ (o : Part). Sums (IsStructureOn (plain_of t.program) other.node L n) (λ s. 1) (entry_of t.counts o.node n)) (sym (get_or_from_slice_get parts j other no_part e))
          (k.numbers.right other.node n (subst (λ (o : Part). o.node < length t.program.nodes) (get_or_from_slice_get parts j other no_part e) (part_there j (slice_get_within parts j other e))) within L room)) rest s m))

      pub union_falls : (g : ℕ) → g < length parts → work (plain_of t.program) (rank_in t.ranks) (slice_index_or parts g no_part).node n < work (plain_of t.program) (rank_in t.ranks) x n
      union_falls g l =
          let r : rank_in t.ranks (slice_index_or parts g no_part).node < rank_in t.ranks x = k.ranked.steps x (slice_index_or parts g no_part).node
          (subst (λ s. KeepsSize (HasZero (plain_of t.program)) s (slice_index_or parts g no_part).node) (sym is) (slice_index_or parts g no_part, In-at parts g no_part l, refl)) in
          omega (arith, r)

      pub union_few : length parts ≤ 64
      union_few = ⊎_elim (λ n. let q : IsAllowed t.program.universe (shape.Union parts) = subst (IsAllowed t.program.universe) (sym n.2 ∙ is) (k.proper.allowed x n.0 n.1) in q.1)
          (λ o. omega (arith, ap (λ v. length (inner_parts v)) (sym o ∙ is))) (node_at_place (plain_of t.program) x)
