-- The factors and branches that a node stands for, one beside the other.
use Rattle.std.proofs.Common.{◌≡◌, ◌↔◌, ℕ, zero, suc, List, [], ◌∷◌, map, Option, Some, None, slice_get, refl, sym, ap, ◌∙◌, subst}
use Rattle.std.specs.Prelude.{true, is_some}
use Rattle.luo_model.specs.declared.program.Part.{Part}
use Rattle.luo_model.specs.Tree.{Tree}
use Rattle.luo_model.specs.Member.{Member}
use Rattle.luo_model.specs.Scopes.Stands.{factors}
use Rattle.luo_source.specs.Plain.Types.{TypeExpr, Named, Epsilon, Atom, Union, Product, Coll, TypeExprs, no_exprs, an_expr}
use Rattle.luo_source.specs.Plain.Source.{Source}
use Rattle.luo_rules.specs.Counted.{own_nodes}
use Rattle.luo_rules.specs.Definitions.{definitions, names_of}
use Rattle.luo_rules.specs.Nodes.{Spot, behind, part_at, parts_at}
use Rattle.luo_rules.specs.ValueBreaches.{branch_at, branch_of}
use Rattle.luo_rules.specs.Whole.{core}
use Rattle.luo_rules.proofs.Lists.{some_same, none_some}
use Rattle.luo_rules.proofs.CleanSource.{Clean}
use Rattle.luo_meaning.specs.Structures.{exprs_in, IsOf}
use Rattle.luo_meaning.specs.Types.{LeadsTo, IsUnionOf, union_of, IsProductOf, product_of}
use Rattle.luo_meaning.specs.Constructs.{IsConstruct}
use Rattle.luo_meaning.proofs.Sits.{AllSit, shape_at_node, head_sits, tail_sits, union_sits, product_sits}
use Rattle.luo_meaning.proofs.NodesKept.{sits_kept}
use Rattle.luo_meaning.proofs.Typing.{Holds, down, up, union_shape, product_shape, shape_of_construct}

-- each node stands for the type expression beside it
abbrev pub AllHold : Source → List ℕ → List TypeExpr → Type 0
AllHold source [] [] = Unit {0}
AllHold source (x ∷ xs) (e ∷ es) = Holds source x e × AllHold source xs es
AllHold source _ _ = ⊥

-- a branch of this number, with its node
pub record BranchHeld (source : Source) (es : List TypeExpr) (number y : ℕ) : Type 0 where
  pub i : ℕ
  pub f : TypeExpr
  pub from_one : number ≡ suc i
  pub is : slice_get es i ≡ Some f
  pub holds : Holds source y f

pub some_is : (o : Option ℕ) → is_some o ≡ true → (y : ℕ) × (o ≡ Some y)
some_is None e = absurd (cc)
some_is (Some y) e = (y, refl)

module _ (source : Source) (c : Clean source) where
  -- the members of a node are the structures of what it stands for
  pub held : (x : ℕ) (e : TypeExpr) → Holds source x e → (t : Tree) → Member (core source) x t ↔ IsOf source e t
  held x e h t = subst (λ y. Member (core source) y t ↔ IsOf source e t) h.at (sits_kept source c e h.owner h.spot h.sits t)

  row_held : (owner : ℕ) (at : Spot) (row : TypeExprs) → AllSit source owner at row → AllHold source (map (λ (part : Part). part.node) (parts_at (names_of source) (definitions source) at row)) (exprs_in row)
  row_held owner at no_exprs a = tt
  row_held owner at (an_expr e rest) a = (record { owner = owner; spot = at; sits = head_sits source owner at e rest a; at = refl }, row_held owner (behind at (own_nodes e)) rest (tail_sits source owner at e rest a))

  pub factors_held : (x : ℕ) (e : TypeExpr) (es : List TypeExpr) → Holds source x e → IsProductOf source e es → AllHold source (map (λ (part : Part). part.node) (factors (shape_at_node source x))) es
  factors_held x e es h (product_of {parts} {at} l) =
      let k = down source c l x h in
      subst (λ z. AllHold source (map (λ (part : Part). part.node) (factors z)) (exprs_in parts)) (sym (product_shape source c parts at x k)) (row_held k.owner (behind k.spot 1) parts (product_sits source k.owner k.spot parts at k.sits))

  row_branch : (owner : ℕ) (at : Spot) (row : TypeExprs) → AllSit source owner at row → (number y : ℕ) → branch_at (parts_at (names_of source) (definitions source) at row) number ≡ Some y → BranchHeld source (exprs_in row) number y
  row_branch owner at no_exprs a number y e = absurd (none_some y e)
  row_branch owner at (an_expr f rest) a zero y e = absurd (none_some y e)
  row_branch owner at (an_expr f rest) a (suc zero) y e =
      record { i = 0; f = f; from_one = refl; is = refl; holds = record { owner = owner; spot = at; sits = head_sits source owner at f rest a; at = some_same (part_at (names_of source) (definitions source) at f).node y e } }
  row_branch owner at (an_expr f rest) a (suc (suc n)) y e =
      let r = row_branch owner (behind at (own_nodes f)) rest (tail_sits source owner at f rest a) (suc n) y e in
      record { i = suc r.i; f = r.f; from_one = ap suc r.from_one; is = r.is; holds = r.holds }

  pub branch_held : (x : ℕ) (e : TypeExpr) (es : List TypeExpr) → Holds source x e → IsUnionOf source e es → (number y : ℕ) → branch_of (shape_at_node source x) number ≡ Some y → BranchHeld source es number y
  branch_held x e es h (union_of {parts} l) number y b =
      let k = down source c l x h in
      row_branch k.owner (behind k.spot 1) parts (union_sits source k.owner k.spot parts k.sits) number y (ap (λ z. branch_of z number) (sym (union_shape source c parts x k)) ∙ b)

  by_branch : (x : ℕ) (e k : TypeExpr) → LeadsTo source k e → Holds source x k → IsConstruct k → (number y : ℕ) → branch_of (shape_at_node source x) number ≡ Some y → (es : List TypeExpr) × IsUnionOf source e es
  by_branch x e (Named name) l h q number y b = absurd q
  by_branch x e (Epsilon token) l h q number y b = absurd (none_some y (ap (λ z. branch_of z number) (sym (shape_of_construct source c (Epsilon token) x tt h refl)) ∙ b))
  by_branch x e (Atom weight weight_at token) l h q number y b = absurd (none_some y (ap (λ z. branch_of z number) (sym (shape_of_construct source c (Atom weight weight_at token) x tt h refl)) ∙ b))
  by_branch x e (Union parts) l h q number y b = (exprs_in parts, union_of l)
  by_branch x e (Product parts token) l h q number y b = absurd (none_some y (ap (λ z. branch_of z number) (sym (shape_of_construct source c (Product parts token) x tt h refl)) ∙ b))
  by_branch x e (Coll kind part bound token) l h q number y b = absurd (none_some y (ap (λ z. branch_of z number) (sym (shape_of_construct source c (Coll kind part bound token) x tt h refl)) ∙ b))

  pub union_up : (x : ℕ) (e : TypeExpr) → Holds source x e → (number y : ℕ) → branch_of (shape_at_node source x) number ≡ Some y → (es : List TypeExpr) × IsUnionOf source e es
  union_up x e h number y b = let u = up source c x e h in by_branch x e u.k u.to u.holds u.is_construct number y b
