-- Variables of a scope have a type as written that their node stands for.
use Rattle.std.proofs.Common.{◌≡◌, ℕ, suc, ◌+◌, List, [], ◌∷◌, length, Option, Some, None, slice_get, refl, sym, ap, ◌∙◌, subst, arith}
use Rattle.std.specs.Prelude.{Bool, true, false, if◌then◌else◌}
use Rattle.std.specs.Str.{bytes_eq}
use Rattle.luo_model.specs.declared.program.Part.{Part}
use Rattle.luo_model.specs.Scopes.Stands.{Stand, inside, itself, stand_part, factors, bound_parts}
use Rattle.luo_source.specs.declared.names.Name.{Name}
use Rattle.luo_source.specs.declared.statements.Pattern.{Pattern}
use Rattle.luo_source.specs.declared.statements.Pattern.TheVariants as pat
use Rattle.luo_source.specs.Plain.Types.{TypeExpr, Named, Epsilon, Atom, Union, Product, Coll, TypeExprs, no_exprs, an_expr}
use Rattle.luo_source.specs.Plain.Source.{Source}
use Rattle.luo_rules.specs.Settings.{found_from, shape_at, type_node}
use Rattle.luo_rules.specs.Patterns as patterns
use Rattle.luo_rules.specs.Patterns.{has_factors, is_node, fits, bind_of, variables}
use Rattle.luo_rules.specs.Counted.{own_nodes}
use Rattle.luo_rules.specs.Definitions.{definitions, names_of}
use Rattle.luo_rules.specs.Nodes.{behind, parts_at, setting_of, Spot}
use Rattle.luo_rules.specs.Whole.{core}
use Rattle.luo_rules.proofs.Lists.{some_same, none_some}
use Rattle.luo_rules.proofs.CleanSource.{Clean}
use Rattle.luo_rules.proofs.PatternFacts.{and_right}
use Rattle.luo_meaning.specs.Structures.{exprs_in}
use Rattle.luo_meaning.specs.Types.{LeadsTo, IsProductOf, product_of, Types, type_of, typed, BindsTypes}
use Rattle.luo_meaning.specs.Constructs.{IsConstruct}
use Rattle.luo_meaning.proofs.Sits.{AllSit, shape_at_node, head_sits, tail_sits, product_sits}
use Rattle.luo_meaning.proofs.Typing.{Holds, AgreeTypes, down, up, product_shape, shape_of_construct}

-- one step of finding: the variable itself, or one behind it
typed_step : (source : Source) (k : ℕ) (x : Part) (more : Option (ℕ × Part)) (xs : List Part) (e : TypeExpr) (other : Option TypeExpr) (v : ℕ × Part) (b : Bool) → Holds source x.node e
    → (more ≡ Some v → (j : ℕ) × (v.0 ≡ suc k + j) × (slice_get xs j ≡ Some v.1) × ((f : TypeExpr) × (other ≡ Some f) × Holds source v.1.node f))
    → (if b then Some (k, x) else more) ≡ Some v
    → (j : ℕ) × (v.0 ≡ k + j) × (slice_get (x ∷ xs) j ≡ Some v.1) × ((f : TypeExpr) × ((if b then Some e else other) ≡ Some f) × Holds source v.1.node f)
typed_step source k x rest xs e other v true h on g =
    let place : k ≡ v.0 = ap (λ (z : ℕ × Part). z.0) (some_same (k, x) v g) in
    let node : x ≡ v.1 = ap (λ (z : ℕ × Part). z.1) (some_same (k, x) v g) in
    let f : v.0 ≡ k + 0 = omega (arith, place) in
    (0, f, ap Some node, (e, refl, subst (λ (n : Part). Holds source n.node e) node h))
typed_step source k x rest xs e other v false h on g = let r = on g in let f : v.0 ≡ k + suc r.0 = omega (arith, r.1) in (suc r.0, f, r.2, r.3)

module _ (source : Source) (c : Clean source) where
  pub typed_none : AgreeTypes source [] [] []
  typed_none name v e = absurd (none_some v e)

  pub typed_one : (text : List ℕ) (x y : Part) (e : TypeExpr) → x ≡ y → Holds source x.node e → AgreeTypes source (record { name = text; part = y } ∷ []) ((text, e) ∷ []) (x ∷ [])
  typed_one text x y e same h name v g =
      let r = typed_step source 0 y None [] e None v (bytes_eq text name.text) (subst (λ (n : Part). Holds source n.node e) same h) (λ n. absurd (none_some v n)) g in
      record { there = ap (λ n. slice_get (n ∷ []) v.0) same ∙ (ap (slice_get (y ∷ [])) (r.1 ∙ omega arith) ∙ r.2); e = r.3.0; type = r.3.1; holds = r.3.2 }

  typed_row : (owner : ℕ) (at : Spot) (row : TypeExprs) → AllSit source owner at row → (k : ℕ) (names : List Name) (text : List ℕ) (v : ℕ × Part)
      → found_from k (variables names (parts_at (names_of source) (definitions source) at row)) text ≡ Some v
      → (j : ℕ) × (v.0 ≡ k + j) × (slice_get (parts_at (names_of source) (definitions source) at row) j ≡ Some v.1) × ((f : TypeExpr) × (type_of (typed names (exprs_in row)) text ≡ Some f) × Holds source v.1.node f)
  typed_row owner at no_exprs a k [] text v e = absurd (none_some v e)
  typed_row owner at no_exprs a k (name ∷ names) text v e = absurd (none_some v e)
  typed_row owner at (an_expr f rest) a k [] text v e = absurd (none_some v e)
  typed_row owner at (an_expr f rest) a k (name ∷ names) text v e =
      let others = parts_at (names_of source) (definitions source) (behind at (own_nodes f)) rest in
      let holds : Holds source _ f = record { owner = owner; spot = at; sits = head_sits source owner at f rest a; at = refl } in
      typed_step source k _ (found_from (suc k) (variables names others) text) others f (type_of (typed names (exprs_in rest)) text) v (bytes_eq name.text text) holds
      (λ g. typed_row owner (behind at (own_nodes f)) rest (tail_sits source owner at f rest a) (suc k) names text v g) e

  -- the factors of a product
  factors_typed : (x : ℕ) (e : TypeExpr) (es : List TypeExpr) (names : List Name) → Holds source x e → IsProductOf source e es → AgreeTypes source (variables names (factors (shape_at_node source x))) (typed names es) (factors (shape_at_node source x))
  factors_typed x e es names h (product_of {parts} {at} l) =
      let k = down source c l x h in
      let form = product_shape source c parts at x k in
      subst (λ z. AgreeTypes source (variables names (factors z)) (typed names (exprs_in parts)) (factors z)) (sym form)
      (λ name v g. let r = typed_row k.owner (behind k.spot 1) parts (product_sits source k.owner k.spot parts at k.sits) 0 names name.text v g in
      record { there = ap (slice_get _) (r.1 ∙ omega arith) ∙ r.2; e = r.3.0; type = r.3.1; holds = r.3.2 })

  by_factors : (x n : ℕ) (e k : TypeExpr) → LeadsTo source k e → (h : Holds source x k) → IsConstruct k → has_factors n (shape_at_node source x) ≡ true → (es : List TypeExpr) × IsProductOf source e es
  by_factors x n e (Named name) l h q t = absurd q
  by_factors x n e (Epsilon token) l h q t = let f : false ≡ true = sym (ap (has_factors n) (shape_of_construct source c (Epsilon token) x tt h refl)) ∙ t in absurd (cc)
  by_factors x n e (Atom weight weight_at token) l h q t = let f : false ≡ true = sym (ap (has_factors n) (shape_of_construct source c (Atom weight weight_at token) x tt h refl)) ∙ t in absurd (cc)
  by_factors x n e (Union parts) l h q t = let f : false ≡ true = sym (ap (has_factors n) (shape_of_construct source c (Union parts) x tt h refl)) ∙ t in absurd (cc)
  by_factors x n e (Product parts token) l h q t = (exprs_in parts, product_of l)
  by_factors x n e (Coll kind part bound token) l h q t = let f : false ≡ true = sym (ap (has_factors n) (shape_of_construct source c (Coll kind part bound token) x tt h refl)) ∙ t in absurd (cc)

  pub factors_up : (x n : ℕ) (e : TypeExpr) → Holds source x e → has_factors n (shape_at_node source x) ≡ true → (es : List TypeExpr) × IsProductOf source e es
  factors_up x n e h t = let u = up source c x e h in by_factors x n e u.k u.to u.holds u.is_construct t

  -- what a pattern binds, by node and by type
  pub bound_typed : (stand : Stand) (pattern : Pattern) (e : TypeExpr) (types : Types) → Holds source (stand_part stand).node e → BindsTypes source pattern e types
      → AgreeTypes source (patterns.bound (setting_of source) stand pattern) types (bound_parts (core source) stand (bind_of pattern))
  bound_typed stand (pat.Named type) e types h b = subst (λ z. AgreeTypes source [] z []) (sym b) typed_none
  bound_typed stand (pat.NamedWhole type name) e types h b = subst (λ z. AgreeTypes source (record { name = name.text; part = stand_part stand } ∷ []) z (stand_part stand ∷ [])) (sym b) (typed_one name.text (stand_part stand) (stand_part stand) e refl h)
  bound_typed stand (pat.NamedParts type names) e types h b = subst (λ z. AgreeTypes source (variables names (factors (shape_at_node source (stand_part stand).node))) z (factors (shape_at_node source (stand_part stand).node))) (sym b.2) (factors_typed (stand_part stand).node e b.0 names h b.1)
  bound_typed stand (pat.Parts names at) e types h b = subst (λ z. AgreeTypes source (variables names (factors (shape_at_node source (stand_part stand).node))) z (factors (shape_at_node source (stand_part stand).node))) (sym b.2) (factors_typed (stand_part stand).node e b.0 names h b.1)
  bound_typed stand (pat.Any at) e types h b = subst (λ z. AgreeTypes source [] z []) (sym b) typed_none
  bound_typed stand (pat.AnyWhole name at) e types h b = subst (λ z. AgreeTypes source (record { name = name.text; part = stand_part stand } ∷ []) z (stand_part stand ∷ [])) (sym b) (typed_one name.text (stand_part stand) (stand_part stand) e refl h)

  -- a pattern that fits binds something by type
  pub types_bound : (stand : Stand) (pattern : Pattern) (e : TypeExpr) → Holds source (stand_part stand).node e → fits (setting_of source) stand pattern ≡ true → (types : Types) × BindsTypes source pattern e types
  types_bound stand (pat.Named type) e h f = ([], refl)
  types_bound stand (pat.NamedWhole type name) e h f = ((name.text, e) ∷ [], refl)
  types_bound (inside y) (pat.NamedParts type names) e h f = let p = factors_up y.node (length names) e h (and_right (is_node (type_node (setting_of source) type) y.node) (has_factors (length names) (shape_at (setting_of source) y.node)) f) in (typed names p.0, (p.0, p.1, refl))
  types_bound (itself y) (pat.NamedParts type names) e h f = let p = factors_up y.node (length names) e h (and_right (is_node (type_node (setting_of source) type) y.node) (has_factors (length names) (shape_at (setting_of source) y.node)) f) in (typed names p.0, (p.0, p.1, refl))
  types_bound (inside y) (pat.Parts names at) e h f = let p = factors_up y.node (length names) e h f in (typed names p.0, (p.0, p.1, refl))
  types_bound (itself y) (pat.Parts names at) e h f = let p = factors_up y.node (length names) e h f in (typed names p.0, (p.0, p.1, refl))
  types_bound stand (pat.Any at) e h f = ([], refl)
  types_bound stand (pat.AnyWhole name at) e h f = ((name.text, e) ∷ [], refl)
