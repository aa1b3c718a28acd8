-- Type expressions in their places, and the nodes that they lead to.
use Rattle.std.proofs.Common.{◌≡◌, ◌↔◌, ℕ, zero, suc, ◌+◌, List, [], ◌∷◌, map, length, Option, Some, slice_get, refl, sym, ap, ◌∙◌, subst, inl, inr, arith}
use Rattle.luo_model.specs.declared.program.Kind.{Kind}
use Rattle.luo_model.specs.declared.program.Node.{Node}
use Rattle.luo_model.specs.declared.program.Part.{Part}
use Rattle.luo_model.specs.declared.program.Shape.{Shape}
use Rattle.luo_model.specs.declared.program.Shape.TheVariants as shape
use Rattle.luo_source.specs.declared.names.Name.{Name}
use Rattle.luo_source.specs.Plain.Types as type
use Rattle.luo_source.specs.Plain.Types.{TypeExpr, Named, Epsilon, Union, Product, Coll, TypeExprs, no_exprs, an_expr}
use Rattle.luo_source.specs.Plain.Source.{Source}
use Rattle.luo_rules.specs.declared.names.Meaning.{Meaning}
use Rattle.luo_rules.specs.declared.names.Meaning.TheVariants as mean
use Rattle.luo_rules.specs.Counted.{own_nodes}
use Rattle.luo_rules.specs.Meanings.{meaning, type_use}
use Rattle.luo_rules.specs.Definitions.{Definition, definitions, names_of, definition_meant, named_by, named_at, next, first_node}
use Rattle.luo_rules.specs.inner.Naming.{node_of}
use Rattle.luo_rules.specs.TypeBreaches.{expr_breaches, low_of, high_of}
use Rattle.luo_rules.specs.Nodes.{Spot, behind, named_part, part_at, parts_at, start}
use Rattle.luo_rules.proofs.Lists.{some_same, none_some, below_get, In_get, place_in}
use Rattle.luo_rules.proofs.NamingFacts.{EndsBy}
use Rattle.luo_rules.proofs.DefinitionFacts.{SoundAll, type_meant, node_of_next, node_of_first, all_end, whole_node}
use Rattle.luo_rules.proofs.CoreNodes.{there_node, at_node}
use Rattle.luo_meaning.specs.Constructs.{IsConstruct}
use Rattle.luo_meaning.specs.Places.{constructs_in, Placed, of_name, right_of, parts_from, LeadsAt, itself, by_name, IsSameType, IsUnionAt, union_at, IsProductAt, product_at, IsCollectionAt, collection_at, IsAtomAt, atom_at, epsilon_at}
use Rattle.luo_meaning.proofs.NamesMean.{names_mean}
use Rattle.luo_meaning.proofs.Sits.{all_nodes, Sits, AllSit, shape_in, shape_at_node, shape_here, head_sits, tail_sits, union_sits, product_sits, coll_sits}
use Rattle.luo_meaning.proofs.Leads.{sort_of, names_none, bare_node}
use Rattle.luo_meaning.proofs.ConstructPlaces.{NodeHere, node_here, constructs_length}

-- node x stands for this type expression in its place
pub record HoldsAt (source : Source) (x : ℕ) (a : Placed) : Type 0 where
  pub owner : ℕ
  pub spot : Spot
  pub d : Definition
  pub is : slice_get (definitions source) owner ≡ Some d
  pub sits : Sits source owner spot a.form
  pub at : (part_at (names_of source) (definitions source) spot a.form).node ≡ x
  pub name : IsConstruct a.form → d.name.text ≡ a.name
  pub place : IsConstruct a.form → spot.place ≡ a.place

abbrev pub AllHoldAt : Source → List ℕ → List Placed → Type 0
AllHoldAt source [] [] = Unit {0}
AllHoldAt source (x ∷ xs) (a ∷ others) = HoldsAt source x a × AllHoldAt source xs others
AllHoldAt source _ _ = ⊥

abbrev pub nodes_of : List Part → List ℕ
nodes_of parts = map (λ (part : Part). part.node) parts

module _ (source : Source) (all : SoundAll source.universe (names_of source) (definitions source)) where
  abbrev names : List (List ℕ × Meaning)
  names = names_of source

  abbrev defs : List Definition
  defs = definitions source

  -- a definition stands at its first node
  right_sits : (i : ℕ) (d : Definition) → slice_get defs i ≡ Some d → Sits source i (start names defs (first_node defs i)) d.right
  right_sits i d e = record { sound = (all.each i d e).right_side; proper = all.proper i d e; there = λ k node h. there_node source.universe names defs all i d k node e h }

  right_holds : (i x : ℕ) (d : Definition) → slice_get defs i ≡ Some d → (part_at names defs (start names defs (first_node defs i)) d.right).node ≡ x → HoldsAt source x (right_of d)
  right_holds i x d e at = record { owner = i; spot = start names defs (first_node defs i); d = d; is = e; sits = right_sits i d e; at = at; name = λ q. refl; place = λ q. refl }

  -- a name of definition i
  pub name_holds : (name : Name) (i : ℕ) → meaning names name.text ≡ Some (mean.Definition i) → HoldsAt source (node_of names defs i) (of_name name)
  name_holds name i e =
      let d = names_mean source name.text (mean.Definition i) e in
      record {
        owner = i;
        spot = record { node = 0; place = 0 };
        d = d.0;
        is = d.1;
        sits = record { sound = ap (λ o. type_use o name) e; proper = tt; there = λ k node h. absurd (none_some node h) };
        at = ap (λ o. (named_part names defs (definition_meant o)).node) e;
        name = λ q. absurd q;
        place = λ q. absurd q;
      }

  -- going on from a name keeps the node
  pub down_at : {c a : Placed} → LeadsAt source c a → (x : ℕ) → HoldsAt source x a → HoldsAt source x c
  down_at itself x h = h
  down_at (by_name {text} {place} {name} d i e l) x h =
      let at = place_in d defs i in
      let means : meaning names name.text ≡ Some (mean.Definition at.0) = ap (meaning names) (sym e) ∙ (all.each at.0 d at.1).own_name in
      let node : (part_at names defs (start names defs (first_node defs at.0)) d.right).node ≡ (part_at names defs h.spot (Named name)).node =
      whole_node source.universe names defs all at.0 d (first_node defs at.0) at.1 refl (below_get defs at.0 d at.1) ∙ sym (ap (λ o. (named_part names defs (definition_meant o)).node) means) in
      down_at l x (right_holds at.0 x d at.1 (node ∙ h.at))

  -- the construct that a type expression leads to
  pub record UpAt (x : ℕ) (a : Placed) : Type 0 where
    pub c : Placed
    pub to : LeadsAt source c a
    pub is_construct : IsConstruct c.form
    pub holds : HoldsAt source x c

  by_definition : (x : ℕ) (name : Name) (i : ℕ) → meaning names name.text ≡ Some (mean.Definition i) → ((d : Definition) → slice_get defs i ≡ Some d → UpAt x (right_of d)) → (text : List ℕ) (place : ℕ) → UpAt x (record { name = text; place = place; form = Named name })
  by_definition x name i e up text place =
      let d = names_mean source name.text (mean.Definition i) e in
      let u = up d.0 d.1 in
      record { c = u.c; to = by_name d.0 (In_get defs i d.0 d.1) d.2 u.to; is_construct = u.is_construct; holds = u.holds }

  right_up : (k i : ℕ) → EndsBy names defs k i → (d : Definition) → slice_get defs i ≡ Some d → UpAt (node_of names defs i) (right_of d)
  right_up zero i e d h = absurd e
  right_up (suc k) i (inl none) d h =
      let named : next names defs i ≡ named_by names d.right = ap (named_at names) h in
      elim (sort_of source d.right) [
        | inl s ↦
            let m = type_meant (meaning names s.0.text) s.0 (subst (λ (e : TypeExpr). expr_breaches source.universe names e ≡ []) s.1 (all.each i d h).right_side) in
            absurd (none_some m.0 (sym none ∙ (named ∙ (ap (named_by names) s.1 ∙ ap definition_meant m.1))))
        | inr q ↦ record {
          c = right_of d;
          to = itself;
          is_construct = q;
          holds = right_holds i (node_of names defs i) d h (bare_node source (start names defs (first_node defs i)) d.right q ∙ sym (node_of_first source.universe names defs all i none));
        }
      ]
  right_up (suc k) i (inr e) d h =
      let named : named_by names d.right ≡ Some e.0 = sym (ap (named_at names) h) ∙ e.1 in
      elim (sort_of source d.right) [
        | inl s ↦
            let m = type_meant (meaning names s.0.text) s.0 (subst (λ (e : TypeExpr). expr_breaches source.universe names e ≡ []) s.1 (all.each i d h).right_side) in
            let same : m.0 ≡ e.0 = some_same m.0 e.0 (sym (ap (named_by names) s.1 ∙ ap definition_meant m.1) ∙ named) in
            let means : meaning names s.0.text ≡ Some (mean.Definition e.0) = m.1 ∙ ap (λ n. Some (mean.Definition n)) same in
            let node : node_of names defs i ≡ node_of names defs e.0 = node_of_next source.universe names defs all i e.0 (below_get defs i d h) e.1 in
            subst (λ y. UpAt y (right_of d)) (sym node) (subst (λ (z : TypeExpr). UpAt (node_of names defs e.0) (record { name = d.name.text; place = 0; form = z })) (sym s.1)
            (by_definition (node_of names defs e.0) s.0 e.0 means (right_up k e.0 e.2) d.name.text 0))
        | inr q ↦ absurd (none_some e.0 (sym (names_none source d.right q) ∙ named))
      ]

  pub up_at : (x : ℕ) (a : Placed) → HoldsAt source x a → UpAt x a
  up_at x a h =
      elim (sort_of source a.form) [
        | inl n ↦
            let m = type_meant (meaning names n.0.text) n.0 (subst (λ (e : TypeExpr). expr_breaches source.universe names e ≡ []) n.1 h.sits.sound) in
            let below = all.below n.0.text m.0 m.1 in
            let node : node_of names defs m.0 ≡ x = sym (ap (λ (z : TypeExpr). (part_at names defs h.spot z).node) n.1 ∙ ap (λ o. (named_part names defs (definition_meant o)).node) m.1) ∙ h.at in
            subst (λ y. UpAt y a) node (subst (λ (z : TypeExpr). UpAt (node_of names defs m.0) (record { name = a.name; place = a.place; form = z })) (sym n.1)
            (by_definition (node_of names defs m.0) n.0 m.0 m.1 (right_up (length defs) m.0 (all_end source.universe names defs all m.0 below)) a.name a.place))
        | inr q ↦ record { c = a; to = itself; is_construct = q; holds = h }
      ]

  -- ---- the same type is the same node

  node_there : (x : ℕ) (c : Placed) → IsConstruct c.form → (h : HoldsAt source x c) → NodeHere source h.owner c.place x
  node_there x c q h =
      let n = node_here source c.form h.owner h.spot q h.sits in
      let at : h.spot.node ≡ x = sym (bare_node source h.spot c.form q) ∙ h.at in
      record { node = n.node; there = ap (slice_get (all_nodes source)) (sym at) ∙ n.there; its_owner = n.its_owner; its_place = n.its_place ∙ h.place q }

  owners_same : (i j : ℕ) (c d : Definition) → slice_get defs i ≡ Some c → slice_get defs j ≡ Some d → c.name.text ≡ d.name.text → i ≡ j
  owners_same i j c d p q e = number i j (sym (all.each i c p).own_name ∙ (ap (meaning names) e ∙ (all.each j d q).own_name))
    where
      number : (i j : ℕ) → Some (mean.Definition i) ≡ Some (mean.Definition j) → i ≡ j
      number i j e = cc

  pub same_type : (x y : ℕ) (a b : Placed) → HoldsAt source x a → HoldsAt source y b → IsSameType source a b ↔ (x ≡ y)
  same_type x y a b h g = (forth, back)
    where
      forth : IsSameType source a b → x ≡ y
      forth t =
          let k = down_at t.first x h in
          let l = down_at t.second y g in
          let n = node_there x t.c t.first_construct k in
          let m = node_there y t.d t.second_construct l in
          let owner : k.owner ≡ l.owner = owners_same k.owner l.owner k.d l.d k.is l.is (k.name t.first_construct ∙ (t.name ∙ sym (l.name t.second_construct))) in
          let p = at_node source.universe names defs all x n.node n.there in
          let q = at_node source.universe names defs all y m.node m.there in
          let definition : p.j ≡ q.j = sym p.owner ∙ (n.its_owner ∙ (owner ∙ (sym m.its_owner ∙ q.owner))) in
          let its_place : p.m ≡ q.m = sym p.place ∙ (n.its_place ∙ (t.place ∙ (sym m.its_place ∙ q.place))) in
          p.number ∙ (ap (λ j. first_node defs j + p.m) definition ∙ (ap (λ m. first_node defs q.j + m) its_place ∙ sym q.number))

      back : x ≡ y → IsSameType source a b
      back e =
          let u = up_at x a h in
          let v = up_at y b g in
          let n = node_there x u.c u.is_construct u.holds in
          let m = node_there y v.c v.is_construct v.holds in
          let same : n.node ≡ m.node = some_same n.node m.node (sym n.there ∙ (ap (slice_get (all_nodes source)) e ∙ m.there)) in
          let owner : u.holds.owner ≡ v.holds.owner = sym n.its_owner ∙ (ap (λ (z : Node). z.owner) same ∙ m.its_owner) in
          let one : u.holds.d ≡ v.holds.d = some_same u.holds.d v.holds.d (sym u.holds.is ∙ (ap (slice_get defs) owner ∙ v.holds.is)) in
          record {
            c = u.c;
            d = v.c;
            first = u.to;
            second = v.to;
            first_construct = u.is_construct;
            second_construct = v.is_construct;
            name = sym (u.holds.name u.is_construct) ∙ (ap (λ (z : Definition). z.name.text) one ∙ v.holds.name v.is_construct);
            place = sym n.its_place ∙ (ap (λ (z : Node). z.place) same ∙ m.its_place);
          }

  -- ---- what the node of a construct is

  form_shape : (x : ℕ) (c : Placed) → IsConstruct c.form → (h : HoldsAt source x c) → shape_at_node source x ≡ shape_in source h.spot c.form
  form_shape x c q h = ap (shape_at_node source) (sym (sym (bare_node source h.spot c.form q) ∙ h.at)) ∙ shape_here source h.owner h.spot c.form q h.sits

  row_hold : (owner : ℕ) (at : Spot) (d : Definition) → slice_get defs owner ≡ Some d → (row : TypeExprs) → AllSit source owner at row → (text : List ℕ) (place : ℕ) → d.name.text ≡ text → at.place ≡ place
      → AllHoldAt source (nodes_of (parts_at names defs at row)) (parts_from text place row)
  row_hold owner at d is no_exprs a text place e f = tt
  row_hold owner at d is (an_expr g rest) a text place e f = (
    record { owner = owner; spot = at; d = d; is = is; sits = head_sits source owner at g rest a; at = refl; name = λ q. e; place = λ q. f },
    row_hold owner (behind at (own_nodes g)) d is rest (tail_sits source owner at g rest a) text (place + length (constructs_in g)) e (omega (arith, f, constructs_length g)),
  )

  -- a union, a product and a collection, with what their parts stand for
  pub record PartsHeld (form : List Part → Shape) (x : ℕ) (parts : List Placed) : Type 0 where
    pub ps : List Part
    pub is : shape_at_node source x ≡ form ps
    pub hold : AllHoldAt source (nodes_of ps) parts

  pub union_held : (x : ℕ) (a : Placed) (parts : List Placed) → HoldsAt source x a → IsUnionAt source a parts → PartsHeld shape.Union x parts
  union_held x a parts h (union_at {text} {place} {parts = row} l) =
      let k = down_at l x h in
      record {
        ps = parts_at names defs (behind k.spot 1) row;
        is = form_shape x (record { name = text; place = place; form = Union row }) tt k;
        hold = row_hold k.owner (behind k.spot 1) k.d k.is row (union_sits source k.owner k.spot row k.sits) text (suc place) (k.name tt) (omega (arith, k.place tt));
      }

  pub product_held : (x : ℕ) (a : Placed) (parts : List Placed) → HoldsAt source x a → IsProductAt source a parts → PartsHeld shape.Product x parts
  product_held x a parts h (product_at {text} {place} {parts = row} {at} l) =
      let k = down_at l x h in
      record {
        ps = parts_at names defs (behind k.spot 1) row;
        is = form_shape x (record { name = text; place = place; form = Product row at }) tt k;
        hold = row_hold k.owner (behind k.spot 1) k.d k.is row (product_sits source k.owner k.spot row at k.sits) text (suc place) (k.name tt) (omega (arith, k.place tt));
      }

  pub record ComponentHeld (x : ℕ) (f : Placed) : Type 0 where
    pub kind : Kind
    pub part : Part
    pub low : ℕ
    pub high : Option ℕ
    pub is : shape_at_node source x ≡ shape.Coll kind part low high
    pub hold : HoldsAt source part.node f

  pub collection_held : (x : ℕ) (a f : Placed) → HoldsAt source x a → IsCollectionAt source a f → ComponentHeld x f
  collection_held x a f h (collection_at {text} {place} {kind} {part} {bound} {at} l) =
      let k = down_at l x h in
      record {
        kind = kind;
        part = part_at names defs (behind k.spot 1) part;
        low = low_of kind bound;
        high = high_of bound;
        is = form_shape x (record { name = text; place = place; form = Coll kind part bound at }) tt k;
        hold = record { owner = k.owner; spot = behind k.spot 1; d = k.d; is = k.is; sits = coll_sits source k.owner k.spot kind part bound at k.sits; at = refl; name = λ q. k.name tt; place = λ q. omega (arith, k.place tt) };
      }

  pub atom_held : (x : ℕ) (a : Placed) → HoldsAt source x a → IsAtomAt source a → (weight : ℕ) × (shape_at_node source x ≡ shape.Atom weight)
  atom_held x a h (atom_at {text} {place} {weight} {weight_at} {at} l) = (weight, form_shape x (record { name = text; place = place; form = type.Atom weight weight_at at }) tt (down_at l x h))
  atom_held x a h (epsilon_at {text} {place} {at} l) = (0, form_shape x (record { name = text; place = place; form = Epsilon at }) tt (down_at l x h))

  -- and each type expression leads to one of them
  pub data Sorted (a : Placed) : Type 0 where
    a_union : (parts : List Placed) → IsUnionAt source a parts → Sorted a
    a_product : (parts : List Placed) → IsProductAt source a parts → Sorted a
    a_collection : (f : Placed) → IsCollectionAt source a f → Sorted a
    an_atom : IsAtomAt source a → Sorted a

  pub sorted : (x : ℕ) (a : Placed) → HoldsAt source x a → Sorted a
  sorted x a h = let u = up_at x a h in by u.c.name u.c.place u.c.form u.to u.is_construct u.holds
    where
      by : (text : List ℕ) (place : ℕ) (e : TypeExpr) → LeadsAt source (record { name = text; place = place; form = e }) a → IsConstruct e → HoldsAt source x (record { name = text; place = place; form = e }) → Sorted a
      by text place (Named name) l q k = absurd q
      by text place (Epsilon at) l q k = an_atom (epsilon_at l)
      by text place (type.Atom weight weight_at at) l q k = an_atom (atom_at l)
      by text place (Union row) l q k = a_union (parts_from text (suc place) row) (union_at l)
      by text place (Product row at) l q k = a_product (parts_from text (suc place) row) (product_at l)
      by text place (Coll kind part bound at) l q k = a_collection (record { name = text; place = suc place; form = part }) (collection_at l)
