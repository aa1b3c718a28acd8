-- The constructs of a source are its nodes one by one: each with its place, its definition's name, and what it stands for.
use Rattle.std.proofs.Common.{◌≡◌, length-append, ℕ, zero, suc, ◌+◌, ◌<◌, List, [], ◌∷◌, length, Some, slice_get, sum_by, refl, sym, ap, ◌∙◌, subst, inl, inr, arith}
use Rattle.std.specs.Prelude.{flat_map}
use Rattle.std.proofs.lemmas.List.Sums.{sum_by-cons}
use Rattle.luo_model.specs.declared.program.Def.{Def}
use Rattle.luo_model.specs.declared.program.Node.{Node}
use Rattle.luo_source.specs.Plain.Types as type
use Rattle.luo_source.specs.Plain.Types.{TypeExpr, Named, Epsilon, Union, Product, Coll, TypeExprs, no_exprs, an_expr}
use Rattle.luo_source.specs.Plain.Source.{Source}
use Rattle.luo_rules.specs.Counted.{own_nodes, own_nodes_of}
use Rattle.luo_rules.specs.Definitions.{Definition, definitions, names_of, first_node}
use Rattle.luo_rules.specs.Nodes.{Spot, behind, nodes_at, all_nodes_at, start}
use Rattle.luo_rules.specs.Whole.{core}
use Rattle.luo_rules.proofs.Lists.{some_same, none_some, get_cases, get_below, below_get}
use Rattle.luo_rules.proofs.NodeLists.{first_zero, first_suc, nodes_from_length, def_at, def_get}
use Rattle.luo_rules.proofs.CleanSource.{Clean}
use Rattle.luo_meaning.specs.Constructs.{IsConstruct}
use Rattle.luo_meaning.specs.Places.{constructs_in, constructs_among, Placed}
use Rattle.luo_meaning.specs.Entries.{placed, constructs_of, constructs}
use Rattle.luo_meaning.proofs.Sits.{all_nodes, Sits, AllSit, head_sits, tail_sits, union_sits, product_sits, coll_sits, definition_sits}
use Rattle.luo_meaning.proofs.Leads.{bare_node}
use Rattle.luo_meaning.proofs.Typing.{Holds}

-- a construct that sits at this node and this place
record FormAt (source : Source) (owner x place : ℕ) (f : TypeExpr) : Type 0 where
  pub spot : Spot
  pub node : spot.node ≡ x
  pub its_place : spot.place ≡ place
  pub sits : Sits source owner spot f
  pub is_construct : IsConstruct f

mutual
  pub constructs_length : (e : TypeExpr) → length (constructs_in e) ≡ own_nodes e
  constructs_length (Named name) = refl
  constructs_length (Epsilon token) = refl
  constructs_length (type.Atom weight weight_at token) = refl
  constructs_length (Union parts) = ap suc (among_length parts)
  constructs_length (Product parts token) = ap suc (among_length parts)
  constructs_length (Coll kind part bound token) = ap suc (constructs_length part)

  among_length : (row : TypeExprs) → length (constructs_among row) ≡ own_nodes_of row
  among_length no_exprs = refl
  among_length (an_expr e rest) = length-append (constructs_in e) (constructs_among rest) ∙ omega (arith, constructs_length e, among_length rest)

placed_length : (text : List ℕ) (k : ℕ) (es : List TypeExpr) → length (placed text k es) ≡ length es
placed_length text k [] = refl
placed_length text k (e ∷ es) = ap suc (placed_length text (suc k) es)

of_length : (d : Definition) → length (constructs_of d) ≡ own_nodes d.right
of_length d = placed_length d.name.text 0 (constructs_in d.right) ∙ constructs_length d.right

-- a placed construct is the one in its place
record PlacedAt (text : List ℕ) (k : ℕ) (es : List TypeExpr) (i : ℕ) (v : Placed) : Type 0 where
  pub name : v.name ≡ text
  pub place : v.place ≡ k + i
  pub form : slice_get es i ≡ Some v.form

placed_get : (text : List ℕ) (k : ℕ) (es : List TypeExpr) (i : ℕ) (v : Placed) → slice_get (placed text k es) i ≡ Some v → PlacedAt text k es i v
placed_get text k [] i v h = absurd (none_some v h)
placed_get text k (e ∷ es) zero v h =
    let same = some_same _ v h in
    record { name = ap (λ (z : Placed). z.name) (sym same); place = ap (λ (z : Placed). z.place) (sym same) ∙ omega arith; form = ap (λ (z : Placed). Some z.form) same }
placed_get text k (e ∷ es) (suc i) v h = let r = placed_get text (suc k) es i v h in record { name = r.name; place = r.place ∙ omega arith; form = r.form }

-- construct x of definitions: construct m of definition j
record OfDefinition (ds : List Definition) (x : ℕ) (v : Placed) : Type 0 where
  pub j : ℕ
  pub d : Definition
  pub m : ℕ
  pub is : slice_get ds j ≡ Some d
  pub placed_there : PlacedAt d.name.text 0 (constructs_in d.right) m v
  pub number : x ≡ first_node ds j + m

of_definition : (ds : List Definition) (x : ℕ) (v : Placed) → slice_get (flat_map constructs_of ds) x ≡ Some v → OfDefinition ds x v
of_definition [] x v h = absurd (none_some v h)
of_definition (d ∷ ds) x v h =
    elim (get_cases (constructs_of d) (flat_map constructs_of ds) x v h) [
      | inl g ↦ record { j = 0; d = d; m = x; is = refl; placed_there = placed_get d.name.text 0 (constructs_in d.right) x v g; number = omega (arith, first_zero (d ∷ ds)) }
      | inr g ↦
          let r = of_definition ds g.0 v g.2 in
          let n : x ≡ first_node (d ∷ ds) (suc r.j) + r.m = omega (arith, g.1, r.number, first_suc d ds r.j, of_length d) in
          record { j = suc r.j; d = r.d; m = r.m; is = r.is; placed_there = r.placed_there; number = n }
    ]

all_length : (ds : List Definition) → length (flat_map constructs_of ds) ≡ sum_by (λ d. own_nodes d.right) ds
all_length [] = refl
all_length (d ∷ ds) = length-append (constructs_of d) (flat_map constructs_of ds) ∙ omega (arith, of_length d, all_length ds, sum_by-cons (λ (e : Definition). own_nodes e.right) d ds)

module _ (source : Source) where
  here : (owner : ℕ) (at : Spot) (e f : TypeExpr) → IsConstruct e → Sits source owner at e → e ≡ f → FormAt source owner (at.node + 0) (at.place + 0) f
  here owner at e f q s same = record { spot = at; node = omega arith; its_place = omega arith; sits = subst (Sits source owner at) same s; is_construct = subst IsConstruct same q }

  moved : (owner x y place other : ℕ) (f : TypeExpr) → x ≡ y → place ≡ other → FormAt source owner x place f → FormAt source owner y other f
  moved owner x y place other f e g h = record { spot = h.spot; node = h.node ∙ e; its_place = h.its_place ∙ g; sits = h.sits; is_construct = h.is_construct }

  mutual
    form_sits : (e : TypeExpr) (owner : ℕ) (at : Spot) → Sits source owner at e → (k : ℕ) (f : TypeExpr) → slice_get (constructs_in e) k ≡ Some f → FormAt source owner (at.node + k) (at.place + k) f
    form_sits (Named name) owner at s k f h = absurd (none_some f h)
    form_sits (Epsilon token) owner at s zero f h = here owner at (Epsilon token) f tt s (some_same (Epsilon token) f h)
    form_sits (Epsilon token) owner at s (suc k) f h = absurd (none_some f h)
    form_sits (type.Atom weight weight_at token) owner at s zero f h = here owner at (type.Atom weight weight_at token) f tt s (some_same (type.Atom weight weight_at token) f h)
    form_sits (type.Atom weight weight_at token) owner at s (suc k) f h = absurd (none_some f h)
    form_sits (Union parts) owner at s zero f h = here owner at (Union parts) f tt s (some_same (Union parts) f h)
    form_sits (Union parts) owner at s (suc k) f h = moved owner (at.node + 1 + k) (at.node + suc k) (at.place + 1 + k) (at.place + suc k) f (omega arith) (omega arith) (row_sits parts owner (behind at 1) (union_sits source owner at parts s) k f h)
    form_sits (Product parts token) owner at s zero f h = here owner at (Product parts token) f tt s (some_same (Product parts token) f h)
    form_sits (Product parts token) owner at s (suc k) f h = moved owner (at.node + 1 + k) (at.node + suc k) (at.place + 1 + k) (at.place + suc k) f (omega arith) (omega arith) (row_sits parts owner (behind at 1) (product_sits source owner at parts token s) k f h)
    form_sits (Coll kind part bound token) owner at s zero f h = here owner at (Coll kind part bound token) f tt s (some_same (Coll kind part bound token) f h)
    form_sits (Coll kind part bound token) owner at s (suc k) f h = moved owner (at.node + 1 + k) (at.node + suc k) (at.place + 1 + k) (at.place + suc k) f (omega arith) (omega arith) (form_sits part owner (behind at 1) (coll_sits source owner at kind part bound token s) k f h)

    row_sits : (row : TypeExprs) (owner : ℕ) (at : Spot) → AllSit source owner at row → (k : ℕ) (f : TypeExpr) → slice_get (constructs_among row) k ≡ Some f → FormAt source owner (at.node + k) (at.place + k) f
    row_sits no_exprs owner at a k f h = absurd (none_some f h)
    row_sits (an_expr e rest) owner at a k f h =
        elim (get_cases (constructs_in e) (constructs_among rest) k f h) [
          | inl g ↦ form_sits e owner at (head_sits source owner at e rest a) k f g
          | inr g ↦ moved owner (at.node + own_nodes e + g.0) (at.node + k) (at.place + own_nodes e + g.0) (at.place + k) f (omega (arith, g.1, constructs_length e)) (omega (arith, g.1, constructs_length e))
              (row_sits rest owner (behind at (own_nodes e)) (tail_sits source owner at e rest a) g.0 f g.2)
        ]

  -- the node of a construct, with its definition and its place
  pub record NodeHere (owner place x : ℕ) : Type 0 where
    pub node : Node
    pub there : slice_get (all_nodes source) x ≡ Some node
    pub its_owner : node.owner ≡ owner
    pub its_place : node.place ≡ place

  first_of : (owner : ℕ) (at : Spot) (node : Node) (ns : List Node) → ((k : ℕ) (n : Node) → slice_get (node ∷ ns) k ≡ Some n → slice_get (all_nodes source) (at.node + k) ≡ Some n) → node.owner ≡ owner → node.place ≡ at.place
      → NodeHere owner at.place at.node
  first_of owner at node ns h o q = record { node = node; there = ap (slice_get (all_nodes source)) (omega arith) ∙ h zero node refl; its_owner = o; its_place = q }

  pub node_here : (f : TypeExpr) (owner : ℕ) (at : Spot) → IsConstruct f → Sits source owner at f → NodeHere owner at.place at.node
  node_here (Named name) owner at q s = absurd q
  node_here (Epsilon token) owner at q s = first_of owner at _ [] s.there refl refl
  node_here (type.Atom weight weight_at token) owner at q s = first_of owner at _ [] s.there refl refl
  node_here (Union parts) owner at q s = first_of owner at _ (all_nodes_at (names_of source) (definitions source) owner (behind at 1) parts) s.there refl refl
  node_here (Product parts token) owner at q s = first_of owner at _ (all_nodes_at (names_of source) (definitions source) owner (behind at 1) parts) s.there refl refl
  node_here (Coll kind part bound token) owner at q s = first_of owner at _ (nodes_at (names_of source) (definitions source) owner (behind at 1) part) s.there refl refl

-- node x is construct x: its place, the name of its definition, and what it stands for
pub record NodeIs (source : Source) (x : ℕ) (v : Placed) : Type 0 where
  pub node : Node
  pub def : Def
  pub there : slice_get (core source).nodes x ≡ Some node
  pub place : node.place ≡ v.place
  pub owner : slice_get (core source).defs node.owner ≡ Some def
  pub name : def.name ≡ v.name
  pub holds : Holds source x v.form

module _ (source : Source) (c : Clean source) where
  pub node_is : (x : ℕ) (v : Placed) → slice_get (constructs source) x ≡ Some v → NodeIs source x v
  node_is x v h =
      let names = names_of source in
      let defs = definitions source in
      let o = of_definition defs x v h in
      let w = form_sits source o.d.right o.j (start names defs (first_node defs o.j)) (definition_sits source c o.j o.d o.is) o.m v.form o.placed_there.form in
      let n = node_here source v.form o.j w.spot w.is_construct w.sits in
      let at : w.spot.node ≡ x = w.node ∙ sym o.number in
      record {
        node = n.node;
        def = def_at names defs (0 + first_node defs o.j) o.d;
        there = ap (slice_get (all_nodes source)) (sym at) ∙ n.there;
        place = n.its_place ∙ (w.its_place ∙ (omega arith ∙ sym o.placed_there.place));
        owner = ap (slice_get (core source).defs) n.its_owner ∙ def_get names defs 0 defs o.j o.d o.is;
        name = sym o.placed_there.name;
        holds = record { owner = o.j; spot = w.spot; sits = w.sits; at = bare_node source w.spot v.form w.is_construct ∙ at };
      }

  constructs_many : length (constructs source) ≡ length (core source).nodes
  constructs_many = all_length (definitions source) ∙ sym (nodes_from_length (names_of source) (definitions source) 0 0 (definitions source))

  -- each node is a construct
  pub construct_there : (x : ℕ) → x < length (core source).nodes → (v : Placed) × (slice_get (constructs source) x ≡ Some v)
  construct_there x l = get_below (constructs source) x (omega (arith, l, constructs_many))

  pub node_below : (x : ℕ) (v : Placed) → slice_get (constructs source) x ≡ Some v → x < length (core source).nodes
  node_below x v h = omega (arith, below_get (constructs source) x v h, constructs_many)
