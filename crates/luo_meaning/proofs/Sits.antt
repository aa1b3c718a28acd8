-- A type expression sits at a spot: it breaks nothing, and its nodes stand there.
use Rattle.std.proofs.Common.{◌≡◌, ℕ, zero, suc, ◌+◌, List, [], ◌∷◌, ◌++◌, Option, Some, slice_get, refl, sym, ap, ◌∙◌, subst, arith}
use Rattle.std.specs.Prelude.{slice_index_or}
use Rattle.luo_model.specs.declared.program.Part.{Part}
use Rattle.luo_model.specs.declared.program.Node.{Node}
use Rattle.luo_model.specs.declared.program.Shape.{Shape}
use Rattle.luo_model.specs.declared.program.Shape.TheVariants as shape
use Rattle.luo_model.specs.Program.{no_node}
use Rattle.luo_model.specs.declared.program.Kind.{Kind}
use Rattle.luo_source.specs.declared.types.Bound.{Bound}
use Rattle.luo_source.specs.Plain.Types.{TypeExpr, Named, Epsilon, Atom, Union, Product, Coll, TypeExprs, no_exprs, an_expr}
use Rattle.luo_source.specs.Plain.Source.{Source}
use Rattle.luo_rules.specs.Counted.{own_nodes}
use Rattle.luo_rules.specs.Definitions.{Definition, definitions, names_of, first_node}
use Rattle.luo_rules.specs.TypeBreaches.{expr_breaches, exprs_breaches, kind_breaches, bound_breaches, low_of, high_of}
use Rattle.luo_rules.specs.Nodes.{Spot, behind, part_at, parts_at, nodes_at, all_nodes_at, start, nodes_from}
use Rattle.luo_rules.proofs.Lists.{some_same, none_some, get_left, get_right, index_get, nil_left, nil_right}
use Rattle.luo_rules.proofs.NodeLists.{nodes_length}
use Rattle.luo_rules.proofs.ProperTypes.{ProperType, ProperTypes}
use Rattle.luo_rules.proofs.CleanSource.{Clean}
use Rattle.luo_rules.proofs.CoreNodes.{there_node}
use Rattle.luo_meaning.specs.Constructs.{IsConstruct}
use Rattle.luo_meaning.specs.Structures.{exprs_in}

abbrev pub all_nodes : Source → List Node
all_nodes source = nodes_from (names_of source) (definitions source) 0 0 (definitions source)

-- these nodes stand from this number on
abbrev pub StandFrom : Source → ℕ → List Node → Type 0
StandFrom source x ns = (k : ℕ) (node : Node) → slice_get ns k ≡ Some node → slice_get (all_nodes source) (x + k) ≡ Some node

-- a type expression without breach, the nodes of which stand at this spot
pub record Sits (source : Source) (owner : ℕ) (at : Spot) (e : TypeExpr) : Type 0 where
  pub sound : expr_breaches source.universe (names_of source) e ≡ []
  pub proper : ProperType e
  pub there : StandFrom source at.node (nodes_at (names_of source) (definitions source) owner at e)

pub record AllSit (source : Source) (owner : ℕ) (at : Spot) (row : TypeExprs) : Type 0 where
  pub sound : exprs_breaches source.universe (names_of source) row ≡ []
  pub proper : ProperTypes row
  pub there : StandFrom source at.node (all_nodes_at (names_of source) (definitions source) owner at row)

module _ (source : Source) where
  pub head_sits : (owner : ℕ) (at : Spot) (e : TypeExpr) (rest : TypeExprs) → AllSit source owner at (an_expr e rest) → Sits source owner at e
  head_sits owner at e rest a =
      let names = names_of source in
      let defs = definitions source in
      record {
        sound = nil_left (expr_breaches source.universe names e) (exprs_breaches source.universe names rest) a.sound;
        proper = a.proper.0;
        there = λ k node h. a.there k node (get_left (nodes_at names defs owner at e) (all_nodes_at names defs owner (behind at (own_nodes e)) rest) k node h);
      }

  pub tail_sits : (owner : ℕ) (at : Spot) (e : TypeExpr) (rest : TypeExprs) → AllSit source owner at (an_expr e rest) → AllSit source owner (behind at (own_nodes e)) rest
  tail_sits owner at e rest a =
      let names = names_of source in
      let defs = definitions source in
      record {
        sound = nil_right (expr_breaches source.universe names e) (exprs_breaches source.universe names rest) a.sound;
        proper = a.proper.1;
        there = λ k node h.
            let j : ℕ = own_nodes e + k in
            let e' = a.there j node (get_right (nodes_at names defs owner at e) (all_nodes_at names defs owner (behind at (own_nodes e)) rest) k j (omega (arith, nodes_length names defs owner at e)) ∙ h) in
            ap (slice_get (all_nodes source)) (omega arith) ∙ e';
      }

  -- nodes behind the first
  behind_first : (x : ℕ) (node : Node) (ns : List Node) → StandFrom source x (node ∷ ns) → StandFrom source (x + 1) ns
  behind_first x node ns h k m e = ap (slice_get (all_nodes source)) (omega arith) ∙ h (suc k) m e

  first_here : (x : ℕ) (node : Node) (ns : List Node) → StandFrom source x (node ∷ ns) → (slice_index_or (all_nodes source) x no_node) ≡ node
  first_here x node ns h = index_get (all_nodes source) x node no_node (ap (slice_get (all_nodes source)) (omega arith) ∙ h zero node refl)

  -- the construct of the first node of a type expression at this spot
  abbrev pub shape_in : Spot → TypeExpr → Shape
  shape_in at (Named name) = shape.Union []
  shape_in at (Epsilon token) = shape.Atom 0
  shape_in at (Atom weight weight_at token) = shape.Atom weight
  shape_in at (Union parts) = shape.Union (parts_at (names_of source) (definitions source) (behind at 1) parts)
  shape_in at (Product parts token) = shape.Product (parts_at (names_of source) (definitions source) (behind at 1) parts)
  shape_in at (Coll kind part bound token) = shape.Coll kind (part_at (names_of source) (definitions source) (behind at 1) part) (low_of kind bound) (high_of bound)

  abbrev pub shape_at_node : ℕ → Shape
  shape_at_node x = (slice_index_or (all_nodes source) x no_node).shape

  pub shape_here : (owner : ℕ) (at : Spot) (e : TypeExpr) → IsConstruct e → Sits source owner at e → shape_at_node at.node ≡ shape_in at e
  shape_here owner at (Named name) q s = absurd q
  shape_here owner at (Epsilon token) q s = ap (λ (z : Node). z.shape) (first_here at.node _ [] s.there)
  shape_here owner at (Atom weight weight_at token) q s = ap (λ (z : Node). z.shape) (first_here at.node _ [] s.there)
  shape_here owner at (Union parts) q s = ap (λ (z : Node). z.shape) (first_here at.node _ (all_nodes_at (names_of source) (definitions source) owner (behind at 1) parts) s.there)
  shape_here owner at (Product parts token) q s = ap (λ (z : Node). z.shape) (first_here at.node _ (all_nodes_at (names_of source) (definitions source) owner (behind at 1) parts) s.there)
  shape_here owner at (Coll kind part bound token) q s = ap (λ (z : Node). z.shape) (first_here at.node _ (nodes_at (names_of source) (definitions source) owner (behind at 1) part) s.there)

  pub union_sits : (owner : ℕ) (at : Spot) (parts : _) → Sits source owner at (Union parts) → AllSit source owner (behind at 1) parts
  union_sits owner at parts s = record { sound = s.sound; proper = s.proper.1; there = behind_first at.node _ (all_nodes_at (names_of source) (definitions source) owner (behind at 1) parts) s.there }

  pub product_sits : (owner : ℕ) (at : Spot) (parts : _) (token : ℕ) → Sits source owner at (Product parts token) → AllSit source owner (behind at 1) parts
  product_sits owner at parts token s = record { sound = s.sound; proper = s.proper.1; there = behind_first at.node _ (all_nodes_at (names_of source) (definitions source) owner (behind at 1) parts) s.there }

  pub coll_sits : (owner : ℕ) (at : Spot) (kind : Kind) (part : TypeExpr) (bound : Option Bound) (token : ℕ) → Sits source owner at (Coll kind part bound token) → Sits source owner (behind at 1) part
  coll_sits owner at kind part bound token s =
      let names = names_of source in
      let inside : expr_breaches source.universe names part ≡ [] = nil_right (kind_breaches source.universe kind token) (expr_breaches source.universe names part) (nil_left (kind_breaches source.universe kind token ++ expr_breaches source.universe names part) (bound_breaches kind bound) s.sound) in
      record { sound = inside; proper = s.proper; there = behind_first at.node _ (nodes_at names (definitions source) owner (behind at 1) part) s.there }

  -- part i of a row, and the type expression that it stands for
  pub record PartIs (owner : ℕ) (at : Spot) (row : TypeExprs) (i : ℕ) (part : Part) (e : TypeExpr) : Type 0 where
    pub spot : Spot
    pub written : slice_get (exprs_in row) i ≡ Some e
    pub get : slice_get (parts_at (names_of source) (definitions source) at row) i ≡ Some part
    pub is : part ≡ part_at (names_of source) (definitions source) spot e
    pub sits : Sits source owner spot e

  pub row_get : (owner : ℕ) (at : Spot) (row : TypeExprs) → AllSit source owner at row → (i : ℕ) (part : Part) → slice_get (parts_at (names_of source) (definitions source) at row) i ≡ Some part → (e : TypeExpr) × PartIs owner at row i part e
  row_get owner at no_exprs a i part h = absurd (none_some part h)
  row_get owner at (an_expr e rest) a zero part h = (e, record { spot = at; written = refl; get = h; is = sym (some_same _ part h); sits = head_sits owner at e rest a })
  row_get owner at (an_expr e rest) a (suc i) part h =
      let r = row_get owner (behind at (own_nodes e)) rest (tail_sits owner at e rest a) i part h in
      (r.0, record { spot = r.1.spot; written = r.1.written; get = h; is = r.1.is; sits = r.1.sits })

  pub row_back : (owner : ℕ) (at : Spot) (row : TypeExprs) → AllSit source owner at row → (i : ℕ) (e : TypeExpr) → slice_get (exprs_in row) i ≡ Some e → (part : Part) × PartIs owner at row i part e
  row_back owner at no_exprs a i e h = absurd (none_some e h)
  row_back owner at (an_expr f rest) a zero e h =
      let same : f ≡ e = some_same f e h in
      (part_at (names_of source) (definitions source) at f, record { spot = at; written = h; get = refl; is = ap (part_at (names_of source) (definitions source) at) same; sits = subst (Sits source owner at) same (head_sits owner at f rest a) })
  row_back owner at (an_expr f rest) a (suc i) e h =
      let r = row_back owner (behind at (own_nodes f)) rest (tail_sits owner at f rest a) i e h in
      (r.0, record { spot = r.1.spot; written = h; get = r.1.get; is = r.1.is; sits = r.1.sits })

-- a definition stands at its first node
pub definition_sits : (source : Source) → Clean source → (i : ℕ) (d : Definition) → slice_get (definitions source) i ≡ Some d → Sits source i (start (names_of source) (definitions source) (first_node (definitions source) i)) d.right
definition_sits source c i d e = record {
  sound = (c.all.each i d e).right_side;
  proper = c.all.proper i d e;
  there = λ k node h. there_node source.universe (names_of source) (definitions source) c.all i d k node e h;
}
