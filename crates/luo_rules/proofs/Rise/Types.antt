-- The breaches of a right side stand at rising tokens.
use Rattle.std.proofs.Common.{ℕ, ◌+◌, ◌≤◌, List, [], ◌∷◌, refl, sym, ap, subst, Option, Some, None, nat_le, arith}
use Rattle.luo_model.specs.declared.program.Kind.{Kind}
use Rattle.luo_model.specs.declared.program.Kind.TheVariants.{Sequence, Set, Cycle, Multiset, Powerset}
use Rattle.luo_model.specs.declared.program.Universe.{Universe}
use Rattle.luo_model.specs.declared.program.Universe.TheVariants.{Unlabelled, Labelled}
use Rattle.luo_model.specs.Invariant.{greatest_weight}
use Rattle.luo_scan.specs.Lexemes.{Lexeme}
use Rattle.luo_source.specs.declared.names.Name.{Name}
use Rattle.luo_source.specs.declared.types.Range.{Range}
use Rattle.luo_source.specs.declared.types.Bound.{Bound}
use Rattle.luo_source.specs.declared.types.TypeExpr.{TypeExpr}
use Rattle.luo_source.specs.View.{expr_of, expr_list}
use Rattle.luo_source.proofs.ViewLemmas.{union_expr, product_expr, coll_expr}
use Rattle.luo_source.specs.GrammarTypes.{IsRange, exactly, at_most, at_least, between, EndsCollection, unbounded, bounded, IsExpr, one_term, union, AreTerms, last_term, more_terms, IsTerm, named, epsilon, atom, product, collection, AreFactors, last_factor, more_factors}
use Rattle.luo_rules.specs.declared.names.Meaning.{Meaning}
use Rattle.luo_rules.specs.declared.rule.Breach.{Breach}
use Rattle.luo_rules.specs.Breaches.{◌or_if_none◌}
use Rattle.luo_rules.specs.Meanings.{meaning}
use Rattle.luo_rules.specs.Definitions.{Definition}
use Rattle.luo_rules.specs.TypeBreaches.{kind_breaches, is_at_most, low_in, high_in, is_low, bound_breaches, expr_breaches, exprs_breaches, first_circle, circle_breach, circle_breaches}
use Rattle.luo_rules.proofs.Rise.Lists.{At, none, single, at_if, at_or, nothing, borders, placed, within_or}
use Rattle.luo_rules.proofs.Rise.Names.{From, Spans, behind, past, alone, from_lower, follows, led_by, type_use_at}

kind_breaches_at : (u : Universe) (kind : Kind) (at : ℕ) → At at (kind_breaches u kind at)
kind_breaches_at Unlabelled Sequence at = none
kind_breaches_at Unlabelled Set at = single refl
kind_breaches_at Unlabelled Cycle at = single refl
kind_breaches_at Unlabelled Multiset at = none
kind_breaches_at Unlabelled Powerset at = none
kind_breaches_at Labelled Sequence at = none
kind_breaches_at Labelled Set at = none
kind_breaches_at Labelled Cycle at = none
kind_breaches_at Labelled Multiset at = single refl
kind_breaches_at Labelled Powerset at = single refl

bound_breaches_at : (kind : Kind) (bound : Bound) → At bound.at (bound_breaches kind (Some bound))
bound_breaches_at kind bound =
    at_if (is_at_most (low_in kind bound.range) (high_in bound.range)) (at_if (is_low kind (low_in kind bound.range)) none (single refl)) (single refl)

range_left : (low : ℕ) {from to : List Lexeme} {r : Range} → IsRange from to r → From low from → (next : ℕ) × (low ≤ next) × From next to
range_left low (exactly {l}) h = (l + 1, omega (arith, h.0, h.1.0), h.1.1)
range_left low (at_most {l}) h = (l + 1, omega (arith, h.0, h.1.0), h.1.1)
range_left low (at_least {l}) h = (l + 1, omega (arith, h.0, h.1.0), h.1.1)
range_left low (between {o}) h = (o + 1, omega (arith, h.0, h.1.0, h.1.1.0, h.1.1.1.0), h.1.1.1.1)

ends_spans : (kind : Kind) (low : ℕ) {from to : List Lexeme} {bound : Option Bound} → EndsCollection from to bound → From low from → Spans low to (bound_breaches kind bound)
ends_spans kind low (unbounded {k = j}) h = record { next = j + 1; left = h.1; within = nothing (omega (arith, h.0)) }
ends_spans kind low (bounded {at} {k = j} {l} {range} p) h =
    let rest = range_left (at + 1) p h.1.1 in
    record { next = l + 1; left = rest.2.1; within = placed (bound_breaches_at kind (record { range = range; at = at })) (omega (arith, h.0, h.1.0)) (omega (arith, rest.1, rest.2.0)) }

mutual
  pub expr_spans : (u : Universe) (names : List (List ℕ × Meaning)) (low : ℕ) {from to : List Lexeme} {t : TypeExpr} → IsExpr from to t → From low from → Spans low to (expr_breaches u names (expr_of t))
  expr_spans u names low (one_term p) h = term_spans u names low p h
  expr_spans u names low (union {k = j} {t} {ts} p ps) h =
      let one = term_spans u names low p h in
      subst (Spans low _) (ap (expr_breaches u names) (sym (union_expr (t ∷ ts)))) (behind one (terms_spans u names (j + 1) ps one.left.1))

  terms_spans : (u : Universe) (names : List (List ℕ × Meaning)) (low : ℕ) {from to : List Lexeme} {ts : List TypeExpr} → AreTerms from to ts → From low from → Spans low to (exprs_breaches u names (expr_list ts))
  terms_spans u names low (last_term p) h = alone (term_spans u names low p h)
  terms_spans u names low (more_terms {k = j} p ps) h =
      let one = term_spans u names low p h in
      behind one (terms_spans u names (j + 1) ps one.left.1)

  term_spans : (u : Universe) (names : List (List ℕ × Meaning)) (low : ℕ) {from to : List Lexeme} {t : TypeExpr} → IsTerm from to t → From low from → Spans low to (expr_breaches u names (expr_of t))
  term_spans u names low (named {text} {at}) h =
      record { next = at + 1; left = h.1; within = placed (type_use_at (meaning names text) (record { text = text; at = at })) h.0 (omega arith) }
  term_spans u names low (epsilon {at}) h = record { next = at + 1; left = h.1; within = nothing (omega (arith, h.0)) }
  term_spans u names low (atom {weight_at} {l} {weight}) h =
      record { next = l + 1; left = h.1.1.1.1; within = placed (at_if {at = weight_at} (nat_le weight (greatest_weight u)) none (single refl)) (omega (arith, h.0, h.1.0, h.1.1.0)) (omega (arith, h.1.1.1.0)) }
  term_spans u names low (product {at} {k = j} {l} {t} {ts} p ps) h =
      let one = expr_spans u names (j + 1) p h.1.1 in
      subst (Spans low _) (ap (expr_breaches u names) (sym (product_expr (t ∷ ts) at))) (from_lower (omega (arith, h.0, h.1.0)) (behind one (factors_spans u names (l + 1) ps one.left.1)))
  term_spans u names low (collection {of} {at} {k = j} {t} {bound} w p x) h =
      let one = led_by (kind_breaches_at u of at) h.0 (from_lower (omega (arith, h.1.0)) (expr_spans u names (j + 1) p h.1.1)) in
      subst (Spans low _) (ap (expr_breaches u names) (sym (coll_expr of t bound at))) (follows one.next one.within (ends_spans of one.next x one.left))

  factors_spans : (u : Universe) (names : List (List ℕ × Meaning)) (low : ℕ) {from to : List Lexeme} {ts : List TypeExpr} → AreFactors from to ts → From low from → Spans low to (exprs_breaches u names (expr_list ts))
  factors_spans u names low (last_factor p) h = alone (past (expr_spans u names low p h))
  factors_spans u names low (more_factors {k = j} p ps) h =
      let one = expr_spans u names low p h in
      behind one (factors_spans u names (j + 1) ps one.left.1)

circle_breach_at : (name : Name) (chain : Option (List (List ℕ))) → At name.at (circle_breach name chain)
circle_breach_at name None = none
circle_breach_at name (Some chain) = single refl

-- nothing besides
or_nothing : {low : ℕ} {to : List Lexeme} {xs : List Breach} → Spans low to xs → Spans low to (xs or_if_none [])
or_nothing one = record { next = one.next; left = one.left; within = within_or one.within (nothing (borders one.within)) }

term_side : (u : Universe) (names : List (List ℕ × Meaning)) (defs : List Definition) (i : ℕ) (owners : List Name) (low : ℕ) {from to : List Lexeme} {t : TypeExpr} → IsTerm from to t → From low from → Spans low to (expr_breaches u names (expr_of t)) → Spans low to (expr_breaches u names (expr_of t) or_if_none circle_breaches names defs i owners (expr_of t))
term_side u names defs i owners low (named {text} {at}) h one =
    let name : Name = record { text = text; at = at } in
    record { next = at + 1; left = h.1; within = placed (at_or (type_use_at (meaning names text) name) (circle_breach_at name (first_circle names defs i owners))) h.0 (omega arith) }
term_side u names defs i owners low epsilon h one = or_nothing one
term_side u names defs i owners low atom h one = or_nothing one
term_side u names defs i owners low (product p ps) h one = or_nothing one
term_side u names defs i owners low (collection w p x) h one = or_nothing one

expr_side : (u : Universe) (names : List (List ℕ × Meaning)) (defs : List Definition) (i : ℕ) (owners : List Name) (low : ℕ) {from to : List Lexeme} {t : TypeExpr} → IsExpr from to t → From low from → Spans low to (expr_breaches u names (expr_of t)) → Spans low to (expr_breaches u names (expr_of t) or_if_none circle_breaches names defs i owners (expr_of t))
expr_side u names defs i owners low (one_term p) h one = term_side u names defs i owners low p h one
expr_side u names defs i owners low (union p ps) h one = or_nothing one

-- a right side with the circle on which it lies
pub side_spans : (u : Universe) (names : List (List ℕ × Meaning)) (defs : List Definition) (i : ℕ) (owners : List Name) (low : ℕ) {from to : List Lexeme} {t : TypeExpr} → IsExpr from to t → From low from → Spans low to (expr_breaches u names (expr_of t) or_if_none circle_breaches names defs i owners (expr_of t))
side_spans u names defs i owners low p h = expr_side u names defs i owners low p h (expr_spans u names low p h)
