-- Breaches in the lists and boxes of type expressions.
use Rattle.std.proofs.Common.{◌≡◌, ℕ, List, [], ◌∷◌, ◌++◌, flat_map, refl, ap, ◌∙◌, sym, Option}
use Rattle.luo_model.specs.declared.program.Kind.{Kind}
use Rattle.luo_model.specs.declared.program.Universe.{Universe}
use Rattle.luo_source.specs.declared.types.Bound.{Bound}
use Rattle.luo_source.specs.declared.types.TypeExpr.{TypeExpr, Union, Product, Coll}
use Rattle.luo_source.specs.View.{expr_list}
use Rattle.luo_source.proofs.ViewLemmas.{union_expr, product_expr, coll_expr}
use Rattle.luo_rules.specs.declared.names.Meaning.{Meaning}
use Rattle.luo_rules.specs.TypeBreaches.{kind_breaches, bound_breaches, expr_breaches, exprs_breaches}
use Rattle.luo_types.specs.inner.Held.{breaches_in}

module _ (universe : Universe) (names : List (List ℕ × Meaning)) where
  breaches_list : (es : List TypeExpr) → flat_map (breaches_in universe names) es ≡ exprs_breaches universe names (expr_list es)
  breaches_list [] = refl
  breaches_list (e ∷ es) = ap (λ bs. breaches_in universe names e ++ bs) (breaches_list es)

  pub union_breaches : (e : TypeExpr) (es parts : List TypeExpr) → e ≡ Union es → parts ≡ es → flat_map (breaches_in universe names) parts ≡ breaches_in universe names e
  union_breaches e es parts is same =
      ap (flat_map (breaches_in universe names)) same ∙ breaches_list es ∙ sym (ap (expr_breaches universe names) (union_expr es)) ∙ ap (breaches_in universe names) (sym is)

  pub product_breaches : (e : TypeExpr) (es parts : List TypeExpr) (at : ℕ) → e ≡ Product es at → parts ≡ es → flat_map (breaches_in universe names) parts ≡ breaches_in universe names e
  product_breaches e es parts at is same =
      ap (flat_map (breaches_in universe names)) same ∙ breaches_list es ∙ sym (ap (expr_breaches universe names) (product_expr es at)) ∙ ap (breaches_in universe names) (sym is)

  pub collection_breaches : (e : TypeExpr) (kind : Kind) (part inner : TypeExpr) (bound : Option Bound) (at : ℕ) → e ≡ Coll kind part bound at → inner ≡ part
      → kind_breaches universe kind at ++ breaches_in universe names inner ++ bound_breaches kind bound ≡ breaches_in universe names e
  collection_breaches e kind part inner bound at is same =
      ap (λ p. kind_breaches universe kind at ++ breaches_in universe names p ++ bound_breaches kind bound) same
      ∙ sym (ap (expr_breaches universe names) (coll_expr kind part bound at)) ∙ ap (breaches_in universe names) (sym is)
