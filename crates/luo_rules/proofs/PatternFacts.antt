-- Variables and patterns without breach: where they stand, and what they bind.
use Rattle.std.proofs.Common.{◌≡◌, ℕ, suc, ◌+◌, List, [], ◌∷◌, map, length, Option, Some, None, slice_get, refl, sym, ap, ◌∙◌, arith}
use Rattle.std.specs.Prelude.{Bool, true, false, ◌&&◌, if◌then◌else◌, nat_eq}
use Rattle.std.specs.Str.{bytes_eq}
use Rattle.std.proofs.lemmas.Bool.{eqb-true}
use Rattle.luo_model.specs.declared.program.Part.{Part}
use Rattle.luo_model.specs.declared.program.Shape.{Shape}
use Rattle.luo_model.specs.declared.program.Shape.TheVariants as shape
use Rattle.luo_model.specs.declared.program.Site.{Site}
use Rattle.luo_model.specs.Program.{Program, Procedure}
use Rattle.luo_model.specs.Scopes.Stands.{Stand, inside, itself, stands, factors, IsProductOf, MayBind, bound_parts}
use Rattle.luo_source.specs.declared.names.Name.{Name}
use Rattle.luo_source.specs.declared.statements.Pattern.{Pattern}
use Rattle.luo_source.specs.declared.statements.Pattern.TheVariants.{Named, NamedWhole, NamedParts, Parts, Any, AnyWhole}
use Rattle.luo_rules.specs.declared.rule.Breach.{Breach}
use Rattle.luo_rules.specs.declared.setting.Setting.{Setting}
use Rattle.luo_rules.specs.declared.setting.Variable.{Variable}
use Rattle.luo_rules.specs.Settings.{shape_at, type_node, found_from, found, place_of, argument_breaches}
use Rattle.luo_rules.specs.Patterns.{is_node, has_factors, fits, pattern_type_use, factor_names, repeated, misfit, pattern_breaches, arm_breaches, case_breaches, bind_of, variables, bound}
use Rattle.luo_rules.proofs.Lists.{some_same, none_some, nil_left, nil_right, none_then, chosen_true, chosen_same}

-- a program of the types of a setting
abbrev pub program_over : Setting → List Procedure → List Site → List ℕ → Program
program_over s procs sites analyses = record { universe = s.universe; defs = s.defs; nodes = s.nodes; procs = procs; sites = sites; analyses = analyses }

-- the parts of a scope's variables
abbrev pub parts_of : List Variable → List Part
parts_of scope = map (λ v. v.part) scope

-- a variable that is found stands there
abbrev pub IsFoundIn : List Part → Option (ℕ × Part) → Type 0
IsFoundIn vars o = (q : ℕ × Part) → o ≡ Some q → slice_get vars q.0 ≡ Some q.1

found_get : (k : ℕ) (scope : List Variable) (text : List ℕ) (q : ℕ × Part) → found_from k scope text ≡ Some q → (j : ℕ) × (q.0 ≡ k + j) × (slice_get (parts_of scope) j ≡ Some q.1)
found_get k [] text q e = absurd (none_some q e)
found_get k (v ∷ vs) text q e = by (bytes_eq v.name text) (λ e. found_get (suc k) vs text q e) e
  where
    by : (b : Bool) → (found_from (suc k) vs text ≡ Some q → (j : ℕ) × (q.0 ≡ suc k + j) × (slice_get (parts_of vs) j ≡ Some q.1)) → (if b then Some (k, v.part) else found_from (suc k) vs text) ≡ Some q
        → (j : ℕ) × (q.0 ≡ k + j) × (slice_get (parts_of (v ∷ vs)) j ≡ Some q.1)
    by true on e =
        let same : (k, v.part) ≡ q = some_same (k, v.part) q e in
        let place : q.0 ≡ k + 0 = sym (ap (λ (z : ℕ × Part). z.0) same) ∙ omega arith in
        (0, place, ap (λ (z : ℕ × Part). Some z.1) same)
    by false on e = let f = on e in let place : q.0 ≡ k + suc f.0 = omega (arith, f.1) in (suc f.0, place, f.2)

pub found_there : (scope : List Variable) (name : Name) → IsFoundIn (parts_of scope) (found scope name)
found_there scope name q e = let f = found_get 0 scope name.text q e in ap (slice_get (parts_of scope)) (f.1 ∙ omega arith) ∙ f.2

pub found_one : (vars : List Part) (o : Option (ℕ × Part)) (q : ℕ × Part) → IsFoundIn vars o → o ≡ Some q → slice_get vars (place_of o) ≡ Some q.1
found_one vars o q h e = ap (λ z. slice_get vars (place_of z)) e ∙ h q e

-- a call's argument is of the parameter's node
pub argument_fits : (vars : List Part) (o : Option (ℕ × Part)) (on : Option ℕ) (node : ℕ) (arg callee : Name) → IsFoundIn vars o → on ≡ Some node → argument_breaches o on arg callee ≡ [] → (x : Part) × (slice_get vars (place_of o) ≡ Some x) × (x.node ≡ node)
argument_fits vars None on node arg callee h e b = absurd (cc)
argument_fits vars (Some q) None node arg callee h e b = absurd (none_some node e)
argument_fits vars (Some q) (Some y) node arg callee h e b =
    let same : q.1.node ≡ y = eqb-true q.1.node y (chosen_true (nat_eq q.1.node y) [] _ b) in
    (q.1, h q refl, same ∙ some_same y node e)

pub and_right : (a b : Bool) → (a && b) ≡ true → b ≡ true
and_right true b e = e
and_right false b e = absurd (cc)

pub product_of : (k : ℕ) (form : Shape) → has_factors k form ≡ true → IsProductOf k form
product_of k (shape.Atom weight) e = absurd (cc)
product_of k (shape.Union parts) e = absurd (cc)
product_of k (shape.Product parts) e = eqb-true (length parts) k e
product_of k (shape.Coll kind part low high) e = absurd (cc)

pub factors_length : (k : ℕ) (form : Shape) → IsProductOf k form → length (factors form) ≡ k
factors_length k (shape.Atom weight) h = absurd h
factors_length k (shape.Union parts) h = absurd h
factors_length k (shape.Product parts) h = h
factors_length k (shape.Coll kind part low high) h = absurd h

variables_parts : (names : List Name) (parts : List Part) → length parts ≡ length names → parts_of (variables names parts) ≡ parts
variables_parts [] [] e = refl
variables_parts [] (x ∷ parts) e = absurd (omega (arith, e))
variables_parts (n ∷ names) [] e = absurd (omega (arith, e))
variables_parts (n ∷ names) (x ∷ parts) e = ap (λ l. x ∷ l) (variables_parts names parts (omega (arith, e)))

factors_bound : (names : List Name) (form : Shape) → has_factors (length names) form ≡ true → parts_of (variables names (factors form)) ≡ factors form
factors_bound names form e = variables_parts names (factors form) (factors_length (length names) form (product_of (length names) form e))

module _ (s : Setting) (procs : List Procedure) (sites : List Site) (analyses : List ℕ) where
  pub may_bind : (stand : Stand) (pattern : Pattern) → fits s stand pattern ≡ true → MayBind (program_over s procs sites analyses) stand (bind_of pattern)
  may_bind (inside y) (Named type) e = tt
  may_bind (inside y) (NamedWhole type name) e = tt
  may_bind (inside y) (NamedParts type names) e = product_of (length names) (shape_at s y.node) (and_right (is_node (type_node s type) y.node) (has_factors (length names) (shape_at s y.node)) e)
  may_bind (inside y) (Parts names at) e = product_of (length names) (shape_at s y.node) e
  may_bind (inside y) (Any at) e = tt
  may_bind (inside y) (AnyWhole name at) e = tt
  may_bind (itself x) (Named type) e = absurd (cc)
  may_bind (itself x) (NamedWhole type name) e = absurd (cc)
  may_bind (itself x) (NamedParts type names) e = product_of (length names) (shape_at s x.node) (and_right (is_node (type_node s type) x.node) (has_factors (length names) (shape_at s x.node)) e)
  may_bind (itself x) (Parts names at) e = product_of (length names) (shape_at s x.node) e
  may_bind (itself x) (Any at) e = tt
  may_bind (itself x) (AnyWhole name at) e = absurd (cc)

  pub bound_same : (stand : Stand) (pattern : Pattern) → fits s stand pattern ≡ true → parts_of (bound s stand pattern) ≡ bound_parts (program_over s procs sites analyses) stand (bind_of pattern)
  bound_same (inside y) (Named type) e = refl
  bound_same (inside y) (NamedWhole type name) e = refl
  bound_same (inside y) (NamedParts type names) e = factors_bound names (shape_at s y.node) (and_right (is_node (type_node s type) y.node) (has_factors (length names) (shape_at s y.node)) e)
  bound_same (inside y) (Parts names at) e = factors_bound names (shape_at s y.node) e
  bound_same (inside y) (Any at) e = refl
  bound_same (inside y) (AnyWhole name at) e = refl
  bound_same (itself x) (Named type) e = absurd (cc)
  bound_same (itself x) (NamedWhole type name) e = absurd (cc)
  bound_same (itself x) (NamedParts type names) e = factors_bound names (shape_at s x.node) (and_right (is_node (type_node s type) x.node) (has_factors (length names) (shape_at s x.node)) e)
  bound_same (itself x) (Parts names at) e = factors_bound names (shape_at s x.node) e
  bound_same (itself x) (Any at) e = refl
  bound_same (itself x) (AnyWhole name at) e = absurd (cc)

pub no_misfit : (b : Bool) (pattern : Pattern) (var : Name) → misfit b pattern var ≡ [] → b ≡ true
no_misfit true pattern var e = refl
no_misfit false pattern var e = absurd (cc)

-- an arm without breach: its pattern fits, and its body has none
pub arm_fits : (s : Setting) (stand : Stand) (var : Name) (pattern : Pattern) (body : List Breach) → arm_breaches s stand var pattern body ≡ [] → (fits s stand pattern ≡ true) × (body ≡ [])
arm_fits s stand var pattern body e =
    let first : pattern_breaches s stand var pattern ≡ [] = nil_left (pattern_breaches s stand var pattern) (if fits s stand pattern then body else []) e in
    let type = pattern_type_use s pattern in
    let kind = misfit (fits s stand pattern) pattern var in
    let fit = no_misfit (fits s stand pattern) pattern var (none_then type kind (nil_left _ (repeated [] (factor_names pattern)) first)) in
    (fit, chosen_same (fits s stand pattern) body [] fit (nil_right (pattern_breaches s stand var pattern) (if fits s stand pattern then body else []) e))

-- a case without breach: its variable is found, there are as many arms as things to stand for, and the arms have no breach
pub record CaseFits (s : Setting) (o : Option (ℕ × Part)) (arms : ℕ) (inner : List Breach) : Type 0 where
  pub variable : ℕ × Part
  pub is : o ≡ Some variable
  pub many : arms ≡ length (stands variable.1 (shape_at s variable.1.node))
  pub none : inner ≡ []

pub case_fits : (s : Setting) (o : Option (ℕ × Part)) (var : Name) (arms : ℕ) (inner : List Breach) → case_breaches s o var arms inner ≡ [] → CaseFits s o arms inner
case_fits s None var arms inner e = absurd (cc)
case_fits s (Some q) var arms inner e =
    let t = chosen_true (nat_eq arms (length (stands q.1 (shape_at s q.1.node)))) inner _ e in
    record { variable = q; is = refl; many = eqb-true arms (length (stands q.1 (shape_at s q.1.node))) t; none = chosen_same (nat_eq arms (length (stands q.1 (shape_at s q.1.node)))) inner _ t e }
