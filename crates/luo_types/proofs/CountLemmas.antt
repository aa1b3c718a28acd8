-- Counts in the lists and boxes of type expressions.
use Rattle.std.proofs.Common.{◌≡◌, ℕ, suc, ◌+◌, max, List, [], ◌∷◌, length, refl, ap, ◌∙◌, sym, subst, Option, sum_by}
use Rattle.std.proofs.lemmas.List.Sums.{sum_by-cons}
use Rattle.luo_model.specs.declared.program.Kind.{Kind}
use Rattle.luo_source.specs.declared.types.Bound.{Bound}
use Rattle.luo_source.specs.declared.types.TypeExpr.{TypeExpr, Union, Product, Coll}
use Rattle.luo_source.specs.View.{expr_list}
use Rattle.luo_source.proofs.ViewLemmas.{union_expr, product_expr, coll_expr}
use Rattle.luo_rules.specs.Counted.{multiset_of, greatest_of, own_nodes, own_nodes_of, own_multisets, own_multisets_of, most_parts, most_parts_of, greatest_bound, greatest_bound_of, greatest_by, count_exprs}
use Rattle.luo_types.specs.inner.Held.{nodes_in, multisets_in, parts_in, bound_in}

pub nodes_list : (es : List TypeExpr) → own_nodes_of (expr_list es) ≡ sum_by nodes_in es
nodes_list [] = refl
nodes_list (e ∷ es) = ap (λ k. nodes_in e + k) (nodes_list es) ∙ sym (sum_by-cons nodes_in e es)

multisets_list : (es : List TypeExpr) → own_multisets_of (expr_list es) ≡ sum_by multisets_in es
multisets_list [] = refl
multisets_list (e ∷ es) = ap (λ k. multisets_in e + k) (multisets_list es) ∙ sym (sum_by-cons multisets_in e es)

parts_list : (es : List TypeExpr) → most_parts_of (expr_list es) ≡ greatest_by parts_in es
parts_list [] = refl
parts_list (e ∷ es) = ap (λ k. max (parts_in e) k) (parts_list es)

bound_list : (es : List TypeExpr) → greatest_bound_of (expr_list es) ≡ greatest_by bound_in es
bound_list [] = refl
bound_list (e ∷ es) = ap (λ k. max (bound_in e) k) (bound_list es)

length_list : (es : List TypeExpr) → count_exprs (expr_list es) ≡ length es
length_list [] = refl
length_list (e ∷ es) = ap suc (length_list es)

-- what is counted in an expression whose parts are these
pub record Counts (e : TypeExpr) (es : List TypeExpr) : Type 0 where
  pub nodes : nodes_in e ≡ suc (sum_by nodes_in es)
  pub multisets : multisets_in e ≡ sum_by multisets_in es
  pub parts : parts_in e ≡ max (length es) (greatest_by parts_in es)
  pub bound : bound_in e ≡ greatest_by bound_in es

pub union_counts : (es : List TypeExpr) → Counts (Union es) es
union_counts es =
    let is = union_expr es in
    record {
      nodes = ap own_nodes is ∙ ap suc (nodes_list es);
      multisets = ap own_multisets is ∙ multisets_list es;
      parts = ap most_parts is ∙ ap (λ k. max k (most_parts_of (expr_list es))) (length_list es) ∙ ap (max (length es)) (parts_list es);
      bound = ap greatest_bound is ∙ bound_list es;
    }

pub product_counts : (es : List TypeExpr) (at : ℕ) → Counts (Product es at) es
product_counts es at =
    let is = product_expr es at in
    record {
      nodes = ap own_nodes is ∙ ap suc (nodes_list es);
      multisets = ap own_multisets is ∙ multisets_list es;
      parts = ap most_parts is ∙ ap (λ k. max k (most_parts_of (expr_list es))) (length_list es) ∙ ap (max (length es)) (parts_list es);
      bound = ap greatest_bound is ∙ bound_list es;
    }

-- what is counted in a collection of this part
pub record CollCounts (e : TypeExpr) (kind : Kind) (part : TypeExpr) (bound : Option Bound) : Type 0 where
  pub nodes : nodes_in e ≡ suc (nodes_in part)
  pub multisets : multisets_in e ≡ multiset_of kind + multisets_in part
  pub parts : parts_in e ≡ parts_in part
  pub greatest : bound_in e ≡ max (bound_in part) (greatest_of bound)

pub coll_counts : (kind : Kind) (part : TypeExpr) (bound : Option Bound) (at : ℕ) → CollCounts (Coll kind part bound at) kind part bound
coll_counts kind part bound at =
    let is = coll_expr kind part bound at in
    record {
      nodes = ap own_nodes is;
      multisets = ap own_multisets is;
      parts = ap most_parts is;
      greatest = ap greatest_bound is;
    }

pub counts_of_union : (e : TypeExpr) (es parts : List TypeExpr) → e ≡ Union es → parts ≡ es → Counts e parts
counts_of_union e es parts is same = subst (λ e. Counts e parts) (ap Union same ∙ sym is) (union_counts parts)

pub counts_of_product : (e : TypeExpr) (es parts : List TypeExpr) (at : ℕ) → e ≡ Product es at → parts ≡ es → Counts e parts
counts_of_product e es parts at is same = subst (λ e. Counts e parts) (ap (λ es. Product es at) same ∙ sym is) (product_counts parts at)

pub counts_of_collection : (e : TypeExpr) (kind : Kind) (part inner : TypeExpr) (bound : Option Bound) (at : ℕ) → e ≡ Coll kind part bound at → inner ≡ part → CollCounts e kind inner bound
counts_of_collection e kind part inner bound at is same = subst (λ e. CollCounts e kind inner bound) (ap (λ p. Coll kind p bound at) same ∙ sym is) (coll_counts kind inner bound at)
