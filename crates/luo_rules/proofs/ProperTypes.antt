-- What the grammar gives of the right side of a definition: a union and a product have at least two parts.
use Rattle.std.proofs.Common.{◌≤◌, List, ◌∷◌, sym, subst, arith}
use Rattle.luo_scan.specs.Lexemes.{Lexeme}
use Rattle.luo_source.specs.declared.types.TypeExpr as read
use Rattle.luo_source.specs.Plain.Types.{TypeExpr, Named, Epsilon, Atom, Union, Product, Coll, TypeExprs, no_exprs, an_expr}
use Rattle.luo_source.specs.View.{expr_of, expr_list}
use Rattle.luo_source.specs.GrammarTypes.{IsExpr, one_term, union, AreTerms, last_term, more_terms, IsTerm, named, epsilon, atom, product, collection, AreFactors, last_factor, more_factors}
use Rattle.luo_source.proofs.ViewLemmas.{union_expr, product_expr, coll_expr}
use Rattle.luo_rules.specs.Counted.{count_exprs}

abbrev mutual
  pub ProperType : TypeExpr → Type 0
  ProperType (Named name) = Unit {0}
  ProperType (Epsilon at) = Unit {0}
  ProperType (Atom weight weight_at at) = Unit {0}
  ProperType (Union parts) = (2 ≤ count_exprs parts) × ProperTypes parts
  ProperType (Product parts at) = (2 ≤ count_exprs parts) × ProperTypes parts
  ProperType (Coll kind part bound at) = ProperType part

  pub ProperTypes : TypeExprs → Type 0
  ProperTypes no_exprs = Unit {0}
  ProperTypes (an_expr e rest) = ProperType e × ProperTypes rest

abbrev Several : List read.TypeExpr → Type 0
Several ts = (1 ≤ count_exprs (expr_list ts)) × ProperTypes (expr_list ts)

mutual
  pub expr_proper : {from to : List Lexeme} {t : read.TypeExpr} → IsExpr from to t → ProperType (expr_of t)
  expr_proper (one_term p) = term_proper p
  expr_proper (union {t} {ts} p ps) = let more = terms_proper ps in subst ProperType (sym (union_expr (t ∷ ts))) (omega (arith, more.0), (term_proper p, more.1))

  terms_proper : {from to : List Lexeme} {ts : List read.TypeExpr} → AreTerms from to ts → Several ts
  terms_proper (last_term p) = (omega arith, (term_proper p, tt))
  terms_proper (more_terms p ps) = (omega arith, (term_proper p, (terms_proper ps).1))

  term_proper : {from to : List Lexeme} {t : read.TypeExpr} → IsTerm from to t → ProperType (expr_of t)
  term_proper named = tt
  term_proper epsilon = tt
  term_proper atom = tt
  term_proper (product {at} {t} {ts} p ps) = let more = factors_proper ps in subst ProperType (sym (product_expr (t ∷ ts) at)) (omega (arith, more.0), (expr_proper p, more.1))
  term_proper (collection {of} {at} {t} {bound} w p x) = subst ProperType (sym (coll_expr of t bound at)) (expr_proper p)

  factors_proper : {from to : List Lexeme} {ts : List read.TypeExpr} → AreFactors from to ts → Several ts
  factors_proper (last_factor p) = (omega arith, (expr_proper p, tt))
  factors_proper (more_factors p ps) = (omega arith, (expr_proper p, (factors_proper ps).1))
