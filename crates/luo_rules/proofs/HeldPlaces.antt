-- Each part by itself of a node stands at one place of it, in the core form of a source without breach.
use Rattle.std.proofs.Common.{◌≡◌, ℕ, zero, suc, List, [], ◌∷◌, Option, Some, slice_get, inl, inr, refl, sym, ap, ◌∙◌, subst, arith}
use Rattle.luo_model.specs.declared.program.Universe.{Universe}
use Rattle.luo_model.specs.declared.program.Part.{Part}
use Rattle.luo_model.specs.declared.program.Node.{Node}
use Rattle.luo_model.specs.Invariant.{bare, inner_parts}
use Rattle.luo_source.specs.Plain.Types.{TypeExpr, Named, Epsilon, Atom, Union, Product, Coll, TypeExprs, no_exprs, an_expr}
use Rattle.luo_rules.specs.declared.names.Meaning.{Meaning}
use Rattle.luo_rules.specs.Counted.{own_nodes}
use Rattle.luo_rules.specs.Definitions.{Definition, first_node}
use Rattle.luo_rules.specs.TypeBreaches.{expr_breaches, exprs_breaches}
use Rattle.luo_rules.specs.Nodes.{Spot, behind, part_at, parts_at, nodes_at, start, nodes_from}
use Rattle.luo_rules.proofs.Lists.{some_same, none_some, In_get, nil_left, nil_right}
use Rattle.luo_rules.proofs.DefinitionFacts.{SoundAll, right_sort}
use Rattle.luo_rules.proofs.Holders.{parts_range}
use Rattle.luo_rules.proofs.CoreNodes.{at_node}
use Rattle.luo_rules.proofs.ProperTypes.{ProperType}

abbrev part_name : Part → Option ℕ
part_name part = part.name

abbrev part_node : Part → ℕ
part_node part = part.node

-- a list of one has one place
one_of_one : {A : Type 0} (x y : A) (i j : ℕ) → slice_get (x ∷ []) i ≡ Some y → slice_get (x ∷ []) j ≡ Some y → i ≡ j
one_of_one x y zero zero e f = refl
one_of_one x y zero (suc j) e f = absurd (none_some y f)
one_of_one x y (suc i) j e f = absurd (none_some y e)

-- part i of a node is y by itself
abbrev IsAlone : ℕ → ℕ → Node → Type 0
IsAlone y i node = slice_get (inner_parts node.shape) i ≡ Some (bare y)

module _ (universe : Universe) (names : List (List ℕ × Meaning)) (defs : List Definition) (all : SoundAll universe names defs) where
  -- what stands by itself first isn't among the others
  first_apart : (at : Spot) (e : TypeExpr) (rest : TypeExprs) → expr_breaches universe names e ≡ [] → exprs_breaches universe names rest ≡ []
      → (y j : ℕ) → part_at names defs at e ≡ bare y → slice_get (parts_at names defs (behind at (own_nodes e)) rest) j ≡ Some (bare y) → ⊥
  first_apart at e rest sound sounds y j p q =
      let b = parts_range universe names defs all (behind at (own_nodes e)) rest sounds y (In_get (parts_at names defs (behind at (own_nodes e)) rest) j (bare y) q) in
      elim (right_sort universe names defs all e sound) [
        | inl s ↦ none_some s.j (sym (ap part_name p) ∙ ap part_name (s.part at))
        | inr s ↦ let here : y ≡ at.node = sym (ap part_node p) ∙ ap part_node (s.part at) in omega (arith, b.from, here, s.nodes)
      ]

  row_places : (at : Spot) (row : TypeExprs) → exprs_breaches universe names row ≡ [] → (y i j : ℕ)
      → slice_get (parts_at names defs at row) i ≡ Some (bare y) → slice_get (parts_at names defs at row) j ≡ Some (bare y) → i ≡ j
  row_places at no_exprs h y i j p q = absurd (none_some (bare y) p)
  row_places at (an_expr e rest) h y zero zero p q = refl
  row_places at (an_expr e rest) h y zero (suc j) p q =
      absurd (first_apart at e rest (nil_left (expr_breaches universe names e) (exprs_breaches universe names rest) h) (nil_right (expr_breaches universe names e) (exprs_breaches universe names rest) h) y j (some_same _ (bare y) p) q)
  row_places at (an_expr e rest) h y (suc i) zero p q =
      absurd (first_apart at e rest (nil_left (expr_breaches universe names e) (exprs_breaches universe names rest) h) (nil_right (expr_breaches universe names e) (exprs_breaches universe names rest) h) y i (some_same _ (bare y) q) p)
  row_places at (an_expr e rest) h y (suc i) (suc j) p q =
      ap suc (row_places (behind at (own_nodes e)) rest (nil_right (expr_breaches universe names e) (exprs_breaches universe names rest) h) y i j p q)

  head_places : (owner : ℕ) (at : Spot) (e : TypeExpr) → ProperType e → expr_breaches universe names e ≡ [] → (node : Node) → slice_get (nodes_at names defs owner at e) 0 ≡ Some node
      → (y i j : ℕ) → IsAlone y i node → IsAlone y j node → i ≡ j
  head_places owner at (Named name) p h node f y i j a b = absurd (none_some node f)
  head_places owner at (Epsilon token) p h node f y i j a b = absurd (none_some (bare y) (subst (IsAlone y i) (sym (some_same _ node f)) a))
  head_places owner at (Atom weight weight_at token) p h node f y i j a b = absurd (none_some (bare y) (subst (IsAlone y i) (sym (some_same _ node f)) a))
  head_places owner at (Union parts) p h node f y i j a b =
      row_places (behind at 1) parts h y i j (subst (IsAlone y i) (sym (some_same _ node f)) a) (subst (IsAlone y j) (sym (some_same _ node f)) b)
  head_places owner at (Product parts token) p h node f y i j a b =
      row_places (behind at 1) parts h y i j (subst (IsAlone y i) (sym (some_same _ node f)) a) (subst (IsAlone y j) (sym (some_same _ node f)) b)
  head_places owner at (Coll kind part bound token) p h node f y i j a b =
      one_of_one _ (bare y) i j (subst (IsAlone y i) (sym (some_same _ node f)) a) (subst (IsAlone y j) (sym (some_same _ node f)) b)

  pub one_place : (x : ℕ) (node : Node) → slice_get (nodes_from names defs 0 0 defs) x ≡ Some node → (y i j : ℕ) → IsAlone y i node → IsAlone y j node → i ≡ j
  one_place x node e y i j a b =
      let at = at_node universe names defs all x node e in
      head_places at.j (behind (start names defs (first_node defs at.j)) at.m) at.stands.sub at.stands.is_proper at.stands.is_sound node at.stands.first y i j a b
