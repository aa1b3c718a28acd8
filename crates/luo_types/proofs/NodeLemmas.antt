-- Nodes in the lists and boxes of type expressions.
use Rattle.std.proofs.Common.{◌≡◌, ℕ, ◌+◌, ◌<◌, ◌≤◌, List, [], ◌∷◌, ◌++◌, length, get_or, drop, flat_map, sum_by, append_assoc, refl, ap, ◌∙◌, sym, arith, Option, Some, None}
use Rattle.luo_num.specs.declared.limits.TheConstants.{NODE_LIMIT}
use Rattle.std.proofs.lemmas.List.Sums.{sum_by-cons}
use Rattle.luo_model.specs.declared.program.Kind.{Kind}
use Rattle.luo_model.specs.declared.program.Universe.{Universe}
use Rattle.luo_model.specs.declared.program.Node.{Node}
use Rattle.luo_model.specs.declared.program.Shape.{Shape}
use Rattle.luo_model.specs.declared.program.Shape.TheVariants as shape
use Rattle.luo_source.specs.declared.types.Bound.{Bound}
use Rattle.luo_source.specs.declared.types.TypeExpr.{TypeExpr, Union, Product, Coll}
use Rattle.luo_source.specs.Plain.Types as plain
use Rattle.luo_source.specs.View.{expr_of, expr_list}
use Rattle.luo_source.proofs.ViewLemmas.{union_expr, product_expr, coll_expr}
use Rattle.luo_rules.specs.declared.names.Meaning.{Meaning}
use Rattle.luo_rules.specs.declared.rule.Breach.{Breach}
use Rattle.std.proofs.lemmas.List.{drop_more}
use Rattle.luo_rules.specs.Counted.{greatest_by}
use Rattle.luo_rules.specs.Definitions.{Definition}
use Rattle.luo_rules.specs.TypeBreaches.{kind_breaches, low_of, high_of}
use Rattle.luo_rules.specs.Nodes.{Spot, behind, part_at, parts_at, nodes_at, all_nodes_at}
use Rattle.luo_types.specs.inner.Held.{nodes_in, bound_in, breaches_in}
use Rattle.luo_types.specs.inner.NodeLists.{FitsAt, AllFitAt, parts_of, nodes_of, construct_at, inside_at}
use Rattle.luo_types.proofs.ExpressionLemmas.{collection_breaches}

pub none-of-append : (xs ys : List Breach) → xs ++ ys ≡ [] → (xs ≡ []) × (ys ≡ [])
none-of-append [] ys e = (refl, e)
none-of-append (x ∷ xs) ys e = cc

pub drop_at : {X : Type 0} (xs : List X) (i : ℕ) (x : X) → i < length xs → x ≡ get_or xs i x → drop i xs ≡ x ∷ drop (i + 1) xs
drop_at xs i x h e = drop_more xs i x h ∙ ap (λ y. y ∷ drop (i + 1) xs) (sym e)

-- the next of type expressions, and those behind it
pub record Next (universe : Universe) (names : List (List ℕ × Meaning)) (at : Spot) (e : TypeExpr) (rest : List TypeExpr) : Type 0 where
  pub fits : FitsAt universe names at e
  pub rest_fits : AllFitAt universe names (behind at (nodes_in e)) rest

pub next_of : (universe : Universe) (names : List (List ℕ × Meaning)) (at : Spot) (es : List TypeExpr) (i : ℕ) (e : TypeExpr) → i < length es → e ≡ get_or es i e
    → AllFitAt universe names at (drop i es) → Next universe names at e (drop (i + 1) es)
next_of universe names at es i e h is all =
    let cut = drop_at es i e h is in
    let none = none-of-append _ _ (sym (ap (flat_map (breaches_in universe names)) cut) ∙ all.clean) in
    let room : at.node + nodes_in e + sum_by nodes_in (drop (i + 1) es) ≤ NODE_LIMIT = omega (arith, all.room, ap (sum_by nodes_in) cut, sum_by-cons nodes_in e (drop (i + 1) es)) in
    record {
      fits = record { room = omega (arith, room); clean = none.0; small = omega (arith, all.small, ap (greatest_by bound_in) cut) };
      rest_fits = record { room = room; clean = none.1; small = omega (arith, all.small, ap (greatest_by bound_in) cut) };
    }

-- the part of a collection without breaches has none
pub collection_clean : (universe : Universe) (names : List (List ℕ × Meaning)) (e : TypeExpr) (kind : Kind) (part inner : TypeExpr) (bound : Option Bound) (token : ℕ) → e ≡ Coll kind part bound token → inner ≡ part
    → breaches_in universe names e ≡ [] → breaches_in universe names inner ≡ []
collection_clean universe names e kind part inner bound token is same clean =
    (none-of-append (kind_breaches universe kind token) _ (none-of-append (kind_breaches universe kind token ++ breaches_in universe names inner) _ (collection_breaches universe names e kind part inner bound token is same ∙ clean)).0).1

module _ (names : List (List ℕ × Meaning)) (defs : List Definition) where
  -- the nodes of the next of type expressions stand before those behind it
  pub nodes_next : (owner : ℕ) (at next : Spot) (es : List TypeExpr) (i : ℕ) (e : TypeExpr) (before after : List Node) (count : ℕ) → i < length es → e ≡ get_or es i e
      → count ≡ nodes_in e → next ≡ behind at count → after ≡ before ++ nodes_at names defs owner at (expr_of e)
      → after ++ nodes_of names defs owner next (drop (i + 1) es) ≡ before ++ nodes_of names defs owner at (drop i es)
  nodes_next owner at next es i e before after count h is counted moved put =
      ap (λ ns. ns ++ nodes_of names defs owner next (drop (i + 1) es)) put
      ∙ append_assoc before (nodes_at names defs owner at (expr_of e)) (nodes_of names defs owner next (drop (i + 1) es))
      ∙ ap (λ (n : Spot). before ++ (nodes_at names defs owner at (expr_of e) ++ nodes_of names defs owner n (drop (i + 1) es))) (moved ∙ ap (behind at) counted)
      ∙ ap (λ l. before ++ nodes_of names defs owner at l) (sym (drop_at es i e h is))

  parts_list : (at : Spot) (es : List TypeExpr) → parts_at names defs at (expr_list es) ≡ parts_of names defs at es
  parts_list at [] = refl
  parts_list at (e ∷ es) = ap (λ ps. part_at names defs at (expr_of e) ∷ ps) (parts_list (behind at (nodes_in e)) es)

  nodes_list : (owner : ℕ) (at : Spot) (es : List TypeExpr) → all_nodes_at names defs owner at (expr_list es) ≡ nodes_of names defs owner at es
  nodes_list owner at [] = refl
  nodes_list owner at (e ∷ es) = ap (λ ns. nodes_at names defs owner at (expr_of e) ++ ns) (nodes_list owner (behind at (nodes_in e)) es)

  -- a construct stands before the nodes inside it, and a name has no nodes
  pub construct_first : (owner : ℕ) (at : Spot) (e : plain.TypeExpr) (s : Shape) → Some s ≡ construct_at names defs at e
      → nodes_at names defs owner at e ≡ record { shape = s; owner = owner; place = at.place } ∷ inside_at names defs owner at e
  construct_first owner at (plain.Named name) s e = cc
  construct_first owner at (plain.Epsilon token) s e = cc
  construct_first owner at (plain.Atom weight weight_at token) s e = cc
  construct_first owner at (plain.Union parts) s e = cc
  construct_first owner at (plain.Product parts token) s e = cc
  construct_first owner at (plain.Coll kind part bound token) s e = cc

  pub name_alone : (owner : ℕ) (at : Spot) (e : plain.TypeExpr) → None ≡ construct_at names defs at e → nodes_at names defs owner at e ≡ []
  name_alone owner at (plain.Named name) e = refl
  name_alone owner at (plain.Epsilon token) e = cc
  name_alone owner at (plain.Atom weight weight_at token) e = cc
  name_alone owner at (plain.Union parts) e = cc
  name_alone owner at (plain.Product parts token) e = cc
  name_alone owner at (plain.Coll kind part bound token) e = cc

  pub union_construct : (at : Spot) (e : TypeExpr) (es parts : List TypeExpr) → e ≡ Union es → parts ≡ es
      → Some (shape.Union (parts_of names defs (behind at 1) parts)) ≡ construct_at names defs at (expr_of e)
  union_construct at e es parts is same =
      ap (λ ps. Some (shape.Union (parts_of names defs (behind at 1) ps))) same ∙ ap (λ ps. Some (shape.Union ps)) (sym (parts_list (behind at 1) es))
      ∙ ap (construct_at names defs at) (sym (union_expr es)) ∙ ap (λ z. construct_at names defs at (expr_of z)) (sym is)

  pub product_construct : (at : Spot) (e : TypeExpr) (es parts : List TypeExpr) (token : ℕ) → e ≡ Product es token → parts ≡ es
      → Some (shape.Product (parts_of names defs (behind at 1) parts)) ≡ construct_at names defs at (expr_of e)
  product_construct at e es parts token is same =
      ap (λ ps. Some (shape.Product (parts_of names defs (behind at 1) ps))) same ∙ ap (λ ps. Some (shape.Product ps)) (sym (parts_list (behind at 1) es))
      ∙ ap (construct_at names defs at) (sym (product_expr es token)) ∙ ap (λ z. construct_at names defs at (expr_of z)) (sym is)

  pub collection_construct : (at : Spot) (e : TypeExpr) (kind : Kind) (part inner : TypeExpr) (bound : Option Bound) (token : ℕ) → e ≡ Coll kind part bound token → inner ≡ part
      → Some (shape.Coll kind (part_at names defs (behind at 1) (expr_of inner)) (low_of kind bound) (high_of bound)) ≡ construct_at names defs at (expr_of e)
  collection_construct at e kind part inner bound token is same =
      ap (λ p. Some (shape.Coll kind (part_at names defs (behind at 1) (expr_of p)) (low_of kind bound) (high_of bound))) same
      ∙ ap (construct_at names defs at) (sym (coll_expr kind part bound token)) ∙ ap (λ z. construct_at names defs at (expr_of z)) (sym is)

  pub union_inside : (owner : ℕ) (at : Spot) (e : TypeExpr) (es parts : List TypeExpr) → e ≡ Union es → parts ≡ es
      → nodes_of names defs owner (behind at 1) parts ≡ inside_at names defs owner at (expr_of e)
  union_inside owner at e es parts is same =
      ap (nodes_of names defs owner (behind at 1)) same ∙ sym (nodes_list owner (behind at 1) es)
      ∙ ap (inside_at names defs owner at) (sym (union_expr es)) ∙ ap (λ z. inside_at names defs owner at (expr_of z)) (sym is)

  pub product_inside : (owner : ℕ) (at : Spot) (e : TypeExpr) (es parts : List TypeExpr) (token : ℕ) → e ≡ Product es token → parts ≡ es
      → nodes_of names defs owner (behind at 1) parts ≡ inside_at names defs owner at (expr_of e)
  product_inside owner at e es parts token is same =
      ap (nodes_of names defs owner (behind at 1)) same ∙ sym (nodes_list owner (behind at 1) es)
      ∙ ap (inside_at names defs owner at) (sym (product_expr es token)) ∙ ap (λ z. inside_at names defs owner at (expr_of z)) (sym is)

  pub collection_inside : (owner : ℕ) (at : Spot) (e : TypeExpr) (kind : Kind) (part inner : TypeExpr) (bound : Option Bound) (token : ℕ) → e ≡ Coll kind part bound token → inner ≡ part
      → nodes_at names defs owner (behind at 1) (expr_of inner) ≡ inside_at names defs owner at (expr_of e)
  collection_inside owner at e kind part inner bound token is same =
      ap (λ p. nodes_at names defs owner (behind at 1) (expr_of p)) same
      ∙ ap (inside_at names defs owner at) (sym (coll_expr kind part bound token)) ∙ ap (λ z. inside_at names defs owner at (expr_of z)) (sym is)
