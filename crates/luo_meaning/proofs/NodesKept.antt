-- Nodes and constructs of a source go together, with the same structures.
use Rattle.std.proofs.Common.{◌≡◌, ℕ, zero, suc, ◌+◌, ◌<◌, ◌↔◌, length, Some, slice_get, refl, sym, ◌∙◌, subst, inl, inr, arith}
use Rattle.luo_model.specs.declared.program.Node.{Node}
use Rattle.luo_model.specs.Tree.{Tree}
use Rattle.luo_model.specs.Member.{Member}
use Rattle.luo_source.specs.Plain.Types.{TypeExpr, Named, Epsilon, Atom, Union, Product, Coll, TypeExprs, no_exprs, an_expr}
use Rattle.luo_source.specs.Plain.Source.{Source}
use Rattle.luo_rules.specs.Counted.{own_nodes}
use Rattle.luo_rules.specs.Definitions.{definitions, names_of, first_node}
use Rattle.luo_rules.specs.Nodes.{Spot, behind, part_at, nodes_at, all_nodes_at, start}
use Rattle.luo_rules.specs.Whole.{core}
use Rattle.luo_rules.proofs.Lists.{none_some, get_cases, below_get}
use Rattle.luo_rules.proofs.NodeLists.{nodes_length}
use Rattle.luo_rules.proofs.CoreNodes.{at_node}
use Rattle.luo_rules.proofs.CleanSource.{Clean}
use Rattle.luo_meaning.specs.Structures.{exprs_in}
use Rattle.luo_meaning.specs.Structures.{IsOf}
use Rattle.luo_meaning.specs.Constructs.{IsIn, IsConstruct, itself, in_union, in_product, in_collection, IsConstructOf}
use Rattle.luo_meaning.proofs.Named.{type_named, named_type}
use Rattle.luo_meaning.proofs.Sits.{all_nodes, Sits, AllSit, head_sits, tail_sits, union_sits, product_sits, coll_sits, row_back, definition_sits}
use Rattle.luo_meaning.proofs.Leads.{bare_node}
use Rattle.luo_meaning.proofs.StructuresKept.{member_is_of, of_is_member}

-- node x is that of a construct inside a type expression
pub record SitsIn (source : Source) (owner : ℕ) (whole : TypeExpr) (x : ℕ) : Type 0 where
  pub sub : TypeExpr
  pub spot : Spot
  pub at : spot.node ≡ x
  pub sits : Sits source owner spot sub
  pub is_construct : IsConstruct sub
  pub is_in : IsIn sub whole

-- node x is that of a construct inside a part of a row
record RowHolds (source : Source) (owner : ℕ) (row : TypeExprs) (x : ℕ) : Type 0 where
  pub i : ℕ
  pub e : TypeExpr
  pub is : slice_get (exprs_in row) i ≡ Some e
  pub holds : SitsIn source owner e x

module _ (source : Source) where
  here : (owner : ℕ) (at : Spot) (e : TypeExpr) → IsConstruct e → Sits source owner at e → SitsIn source owner e (at.node + 0)
  here owner at e q s = record { sub = e; spot = at; at = omega arith; sits = s; is_construct = q; is_in = itself }

  moved : (owner : ℕ) (whole : TypeExpr) (x y : ℕ) → x ≡ y → SitsIn source owner whole x → SitsIn source owner whole y
  moved owner whole x y e h = subst (SitsIn source owner whole) e h

  mutual
    pub node_sits : (e : TypeExpr) (owner : ℕ) (at : Spot) → Sits source owner at e → (k : ℕ) (node : Node) → slice_get (nodes_at (names_of source) (definitions source) owner at e) k ≡ Some node → SitsIn source owner e (at.node + k)
    node_sits (Named name) owner at s k node h = absurd (none_some node h)
    node_sits (Epsilon token) owner at s zero node h = here owner at (Epsilon token) tt s
    node_sits (Epsilon token) owner at s (suc k) node h = absurd (none_some node h)
    node_sits (Atom weight weight_at token) owner at s zero node h = here owner at (Atom weight weight_at token) tt s
    node_sits (Atom weight weight_at token) owner at s (suc k) node h = absurd (none_some node h)
    node_sits (Union parts) owner at s zero node h = here owner at (Union parts) tt s
    node_sits (Union parts) owner at s (suc k) node h =
        let r = row_sits parts owner (behind at 1) (union_sits source owner at parts s) k node h in
        moved owner (Union parts) (at.node + 1 + k) (at.node + suc k) (omega arith)
        (record { sub = r.holds.sub; spot = r.holds.spot; at = r.holds.at; sits = r.holds.sits; is_construct = r.holds.is_construct; is_in = in_union r.i r.e r.is r.holds.is_in })
    node_sits (Product parts token) owner at s zero node h = here owner at (Product parts token) tt s
    node_sits (Product parts token) owner at s (suc k) node h =
        let r = row_sits parts owner (behind at 1) (product_sits source owner at parts token s) k node h in
        moved owner (Product parts token) (at.node + 1 + k) (at.node + suc k) (omega arith)
        (record { sub = r.holds.sub; spot = r.holds.spot; at = r.holds.at; sits = r.holds.sits; is_construct = r.holds.is_construct; is_in = in_product r.i r.e r.is r.holds.is_in })
    node_sits (Coll kind part bound token) owner at s zero node h = here owner at (Coll kind part bound token) tt s
    node_sits (Coll kind part bound token) owner at s (suc k) node h =
        let r = node_sits part owner (behind at 1) (coll_sits source owner at kind part bound token s) k node h in
        moved owner (Coll kind part bound token) (at.node + 1 + k) (at.node + suc k) (omega arith)
        (record { sub = r.sub; spot = r.spot; at = r.at; sits = r.sits; is_construct = r.is_construct; is_in = in_collection r.is_in })

    row_sits : (row : TypeExprs) (owner : ℕ) (at : Spot) → AllSit source owner at row → (k : ℕ) (node : Node) → slice_get (all_nodes_at (names_of source) (definitions source) owner at row) k ≡ Some node → RowHolds source owner row (at.node + k)
    row_sits no_exprs owner at a k node h = absurd (none_some node h)
    row_sits (an_expr e rest) owner at a k node h =
        let names = names_of source in
        let defs = definitions source in
        elim (get_cases (nodes_at names defs owner at e) (all_nodes_at names defs owner (behind at (own_nodes e)) rest) k node h) [
          | inl g ↦ record { i = 0; e = e; is = refl; holds = node_sits e owner at (head_sits source owner at e rest a) k node g }
          | inr g ↦
              let r = row_sits rest owner (behind at (own_nodes e)) (tail_sits source owner at e rest a) g.0 node g.2 in
              record { i = suc r.i; e = r.e; is = r.is; holds = moved owner r.e (at.node + own_nodes e + g.0) (at.node + k) (omega (arith, g.1, nodes_length names defs owner at e)) r.holds }
        ]

  -- what stands inside a type expression that sits somewhere sits somewhere
  pub inside_sits : {e f : TypeExpr} → IsIn e f → (owner : ℕ) (at : Spot) → Sits source owner at f → (spot : Spot) × Sits source owner spot e
  inside_sits itself owner at s = (at, s)
  inside_sits (in_union {parts} i f is h) owner at s = let r = row_back source owner (behind at 1) parts (union_sits source owner at parts s) i f is in inside_sits h owner r.1.spot r.1.sits
  inside_sits (in_product {parts} {at = token} i f is h) owner at s = let r = row_back source owner (behind at 1) parts (product_sits source owner at parts token s) i f is in inside_sits h owner r.1.spot r.1.sits
  inside_sits (in_collection {kind} {part} {bound} {at = token} h) owner at s = inside_sits h owner (behind at 1) (coll_sits source owner at kind part bound token s)

  -- the node of a construct is there
  node_below : (e : TypeExpr) (owner : ℕ) (at : Spot) → IsConstruct e → Sits source owner at e → (part_at (names_of source) (definitions source) at e).node < length (all_nodes source)
  node_below (Named name) owner at q s = absurd q
  node_below (Epsilon token) owner at q s = omega (arith, below_get (all_nodes source) (at.node + 0) _ (s.there 0 _ refl))
  node_below (Atom weight weight_at token) owner at q s = omega (arith, below_get (all_nodes source) (at.node + 0) _ (s.there 0 _ refl))
  node_below (Union parts) owner at q s = omega (arith, below_get (all_nodes source) (at.node + 0) _ (s.there 0 _ refl))
  node_below (Product parts token) owner at q s = omega (arith, below_get (all_nodes source) (at.node + 0) _ (s.there 0 _ refl))
  node_below (Coll kind part bound token) owner at q s = omega (arith, below_get (all_nodes source) (at.node + 0) _ (s.there 0 _ refl))

module _ (source : Source) (c : Clean source) where
  pub sits_kept : (e : TypeExpr) (owner : ℕ) (at : Spot) → Sits source owner at e → (t : Tree) → Member (core source) (part_at (names_of source) (definitions source) at e).node t ↔ IsOf source e t
  sits_kept e owner at s t = (λ h. member_is_of source c t owner at e s h, λ h. of_is_member source c h owner at s)

  -- each node is a construct
  pub node_kept : (x : ℕ) (node : Node) → slice_get (all_nodes source) x ≡ Some node → (e : TypeExpr) × IsConstructOf source e × ((t : Tree) → Member (core source) x t ↔ IsOf source e t)
  node_kept x node h =
      let names = names_of source in
      let defs = definitions source in
      let a = at_node source.universe names defs c.all x node h in
      let r = node_sits source a.d.right a.j (start names defs (first_node defs a.j)) (definition_sits source c a.j a.d a.is_definition) a.m node a.is_node in
      let at : (part_at names defs r.spot r.sub).node ≡ x = bare_node source r.spot r.sub r.is_construct ∙ (r.at ∙ sym a.number) in
      let own = (c.all.each a.j a.d a.is_definition).own_name in (
        r.sub,
        (a.d.name.text, a.d.right, type_named source c a.d.name.text a.j a.d own a.is_definition, r.is_in, r.is_construct),
        λ t. subst (λ y. Member (core source) y t ↔ IsOf source r.sub t) at (sits_kept r.sub a.j r.spot r.sits t),
      )

  -- each construct has a node
  pub construct_kept : (e : TypeExpr) → IsConstructOf source e → (x : ℕ) × (x < length (all_nodes source)) × ((t : Tree) → Member (core source) x t ↔ IsOf source e t)
  construct_kept e h =
      let names = names_of source in
      let defs = definitions source in
      let n = named_type source c h.0 h.1 h.2 in
      let r = inside_sits source h.3 n.i (start names defs (first_node defs n.i)) (subst (Sits source n.i (start names defs (first_node defs n.i))) n.right_side (definition_sits source c n.i n.d n.is)) in
      ((part_at names defs r.0 e).node, node_below source e n.i r.0 h.4 r.1, sits_kept e n.i r.0 r.1)
