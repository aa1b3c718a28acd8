-- The texts of type expressions in a list and in a box.
use Rattle.std.proofs.Common.{◌≡◌, ℕ, List, [], ◌∷◌, ◌++◌, refl, ap, ◌∙◌, sym, map, codes, Option}
use Rattle.std.specs.List.{join_by}
use Rattle.luo_model.specs.declared.program.Kind.{Kind}
use Rattle.luo_source.specs.declared.types.Bound.{Bound}
use Rattle.luo_source.specs.declared.types.TypeExpr.{TypeExpr, Union, Product, Coll}
use Rattle.luo_source.specs.View.{expr_of, expr_list}
use Rattle.luo_source.proofs.ViewLemmas.{union_expr, product_expr, coll_expr}
use Rattle.luo_print.specs.Layout.{joined}
use Rattle.luo_print.specs.CanonicalTypes.{kind_text, bound_text, expr_text, expr_texts}
use Rattle.luo_print.proofs.Joins.{joined_map}

list_texts : (es : List TypeExpr) → expr_texts (expr_list es) ≡ map (λ e. expr_text (expr_of e)) es
list_texts [] = refl
list_texts (e ∷ es) = ap (λ t. expr_text (expr_of e) ∷ t) (list_texts es)

-- type expressions of a list put together
pub exprs_joined : (between : List ℕ) (es : List TypeExpr) → joined between (expr_texts (expr_list es)) ≡ join_by (λ e. expr_text (expr_of e)) between es
exprs_joined between es = ap (joined between) (list_texts es) ∙ joined_map (λ e. expr_text (expr_of e)) between es

pub union_text : (es : List TypeExpr) → expr_text (expr_of (Union es)) ≡ joined (codes " | ") (expr_texts (expr_list es))
union_text es = ap expr_text (union_expr es)

pub product_text : (es : List TypeExpr) (at : ℕ) → expr_text (expr_of (Product es at)) ≡ codes "product(" ++ joined (codes ", ") (expr_texts (expr_list es)) ++ codes ")"
product_text es at = ap expr_text (product_expr es at)

pub coll_text : (kind : Kind) (e : TypeExpr) (bound : Option Bound) (at : ℕ) → expr_text (expr_of (Coll kind e bound at)) ≡ kind_text kind ++ codes "(" ++ expr_text (expr_of e) ++ bound_text bound ++ codes ")"
coll_text kind e bound at = ap expr_text (coll_expr kind e bound at)

pub put_union : (e : TypeExpr) (es parts : List TypeExpr) → e ≡ Union es → parts ≡ es → joined (codes " | ") (expr_texts (expr_list parts)) ≡ expr_text (expr_of e)
put_union e es parts is same = ap (λ l. joined (codes " | ") (expr_texts (expr_list l))) same ∙ sym (union_text es) ∙ ap (λ z. expr_text (expr_of z)) (sym is)

pub put_product : (e : TypeExpr) (es parts : List TypeExpr) (at : ℕ) → e ≡ Product es at → parts ≡ es → codes "product(" ++ joined (codes ", ") (expr_texts (expr_list parts)) ++ codes ")" ≡ expr_text (expr_of e)
put_product e es parts at is same = ap (λ l. codes "product(" ++ joined (codes ", ") (expr_texts (expr_list l)) ++ codes ")") same ∙ sym (product_text es at) ∙ ap (λ z. expr_text (expr_of z)) (sym is)

pub put_collection : (e : TypeExpr) (kind : Kind) (part inner : TypeExpr) (bound : Option Bound) (at : ℕ) → e ≡ Coll kind part bound at → inner ≡ part
    → kind_text kind ++ codes "(" ++ expr_text (expr_of inner) ++ bound_text bound ++ codes ")" ≡ expr_text (expr_of e)
put_collection e kind part inner bound at is same = ap (λ p. kind_text kind ++ codes "(" ++ expr_text (expr_of p) ++ bound_text bound ++ codes ")") same ∙ sym (coll_text kind part bound at) ∙ ap (λ z. expr_text (expr_of z)) (sym is)
