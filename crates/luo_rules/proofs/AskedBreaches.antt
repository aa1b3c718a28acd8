-- The breaches of a source are those of all that its rules speak of, one behind the other.
use Rattle.std.proofs.Common.{◌≡◌, ℕ, suc, ◌+◌, List, [], ◌∷◌, ◌++◌, map, length, Option, Some, None, Bool, true, false, nat_eq, nat_le, refl, sym, ap, ◌∙◌}
use Rattle.std.specs.Prelude.{if◌then◌else◌, codes, decimal, flat_map}
use Rattle.std.proofs.lemmas.Grind.{flat_map-append}
use Rattle.std.proofs.lemmas.List.Folds.{flat_map-map}
use Rattle.luo_model.specs.declared.program.Kind.{Kind}
use Rattle.luo_model.specs.declared.program.Part.{Part}
use Rattle.luo_model.specs.declared.program.Shape.{Shape}
use Rattle.luo_model.specs.declared.program.Shape.TheVariants as shape
use Rattle.luo_model.specs.Invariant.{greatest_weight}
use Rattle.luo_model.specs.Scopes.Stands.{Stand}
use Rattle.luo_source.specs.declared.names.Name.{Name}
use Rattle.luo_source.specs.declared.types.Bound.{Bound}
use Rattle.luo_source.specs.Plain.Types.{TypeExpr, Named, Epsilon, Atom, Union, Product, Coll, TypeExprs, no_exprs, an_expr, TypeDef}
use Rattle.luo_source.specs.declared.statements.Pattern.{Pattern}
use Rattle.luo_source.specs.declared.statements.Pattern.TheVariants as pattern
use Rattle.luo_source.specs.Plain.Statements.{Stmt, Skip, Charge, Call, Block, Case, Forall, Stmts, no_stmts, a_stmt, SourceArms, no_source_arms, a_source_arm}
use Rattle.luo_source.specs.Plain.Values.{SourceValue, SourceValues, no_source_values, a_source_value, SourceValueArms, no_source_value_arms, a_source_value_arm}
use Rattle.luo_source.specs.Plain.Values as made
use Rattle.luo_source.specs.Plain.Source.{ProcBody, Statements, Value, ProcDef, Source}
use Rattle.luo_rules.specs.declared.names.Meaning.{Meaning}
use Rattle.luo_rules.specs.declared.names.Meaning.TheVariants as mean
use Rattle.luo_rules.specs.declared.rule.Rule.TheVariants.{Y1, Y8, Y10}
use Rattle.luo_rules.specs.declared.rule.Breach.{Breach}
use Rattle.luo_rules.specs.declared.setting.Setting.{Setting}
use Rattle.luo_rules.specs.declared.setting.Variable.{Variable}
use Rattle.luo_rules.specs.Breaches.{broken, broken_at, ◌or_if_none◌}
use Rattle.luo_rules.specs.Meanings.{meaning, type_use, measure_use, procedure_use}
use Rattle.luo_rules.specs.Settings.{meant, signature_meant, type_node, shape_at, found, variable_use, argument_breaches, case_stands}
use Rattle.luo_rules.specs.Patterns.{bound, fits, factor_names, has_factors, is_among, repeated, misfit, pattern_type_use, arm_breaches, case_breaches}
use Rattle.luo_rules.specs.ValueBreaches.{is_atom, has_branch, may_stand, misplaced, given_breaches, part_nodes, inner_node, count_values, count_value_arms, charge_use, value_breaches, values_breaches, value_arms_breaches}
use Rattle.luo_rules.specs.ValueBreaches as value
use Rattle.luo_rules.specs.Definitions.{Definition, definitions, measures, names_of}
use Rattle.luo_rules.specs.TypeBreaches.{name_breaches, kind_breaches, bound_breaches, expr_breaches, exprs_breaches, first_circle, circle_breach, circle_breaches, new_types, types_breaches, measures_breaches}
use Rattle.luo_rules.specs.StatementBreaches.{count_arms, walked, walk_into, walk_breaches, stmt_breaches, stmts_breaches, arms_breaches}
use Rattle.luo_rules.specs.Nodes.{setting_of}
use Rattle.luo_rules.specs.Whole.{parameter, result_breaches, body_breaches, procs_breaches}
use Rattle.luo_rules.specs.Asked.{Sort, a_type, a_measure, a_procedure, Asked, defines, uses, collects, bounds, weighs, renames, results, reads, hands, cases, walks, gives, matches, repeats, makes, builds, bound_asked, expr_asked, exprs_asked, renames_asked, new_asked, types_asked, measures_asked, type_asked, repeats_asked, arm_asked, arms_inside, case_asked, of_collection, walk_inside, stmt_asked, stmts_asked, arms_asked, charge_asked, value_asked, values_asked, value_arms_asked, body_asked, procs_asked, first_asked, later_asked}

-- what is spoken of only where there is no breach before
abbrev pub silent : List Breach → List Breach → List Breach
silent [] rest = rest
silent (b ∷ bs) rest = []

-- the breaches of a use, by the meaning of the name
abbrev pub use_of : Sort → Option Meaning → Name → List Breach
use_of a_type m name = type_use m name
use_of a_measure m name = measure_use m name
use_of a_procedure m name = procedure_use m name

-- what is broken where a variable is bound
abbrev pub if_bound : Option (ℕ × Part) → List Breach → List Breach
if_bound None bs = []
if_bound (Some variable) bs = bs

module _ (defs : List Definition) (s : Setting) where
  -- the breaches of one thing that is asked
  abbrev pub own : Asked → List Breach
  own (defines name meaning) = name_breaches s.names name meaning
  own (uses sort name) = use_of sort (meant s name) name
  own (collects kind at) = kind_breaches s.universe kind at
  own (bounds kind bound) = bound_breaches kind (Some bound)
  own (weighs weight at) = if nat_le weight (greatest_weight s.universe) then [] else broken Y8 at (decimal weight)
  own (renames i owners name) = silent (type_use (meant s name) name) (circle_breach name (first_circle s.names defs i owners))
  own (results colon name) = result_breaches s.universe colon name
  own (reads scope var) = variable_use (found scope var) var
  own (hands scope arg callee) = if_bound (found scope arg) (argument_breaches (found scope arg) (signature_meant s (meant s callee)).on arg callee)
  own (cases scope var arms) = if_bound (found scope var) (case_breaches s (found scope var) var arms [])
  own (walks scope var) = if_bound (found scope var) (walk_breaches s (found scope var) var [])
  own (gives scope expected var) = if_bound (found scope var) (given_breaches (found scope var) expected var)
  own (matches stand var p) = silent (pattern_type_use s p) (misfit (fits s stand p) p var)
  own (repeats earlier name) = if is_among name.text earlier then broken_at Y1 name else []
  own (makes expected callee) = silent (procedure_use (meant s callee) callee) (value.result_breaches expected (signature_meant s (meant s callee)).result callee)
  own (builds test expected at text) = misplaced (may_stand s expected test) at text

  abbrev pub all : List Asked → List Breach
  all qs = flat_map own qs

  joined : (xs ys : List Asked) (as' bs : List Breach) → as' ≡ all xs → bs ≡ all ys → as' ++ bs ≡ all (xs ++ ys)
  joined xs ys as' bs e f = (λ i. e i ++ f i) ∙ sym (flat_map-append own xs ys)

append_nil : (xs : List Breach) → xs ++ [] ≡ xs
append_nil [] = refl
append_nil (x ∷ xs) = ap (λ z. x ∷ z) (append_nil xs)

append_assoc : (xs ys zs : List Breach) → (xs ++ ys) ++ zs ≡ xs ++ (ys ++ zs)
append_assoc [] ys zs = refl
append_assoc (x ∷ xs) ys zs = ap (λ z. x ∷ z) (append_assoc xs ys zs)

or_silent : (xs rest : List Breach) → (xs or_if_none rest) ≡ xs ++ silent xs rest
or_silent [] rest = refl
or_silent (x ∷ xs) rest = ap (λ z. x ∷ z) (sym (append_nil xs))

silent_none : (xs : List Breach) → silent xs [] ≡ []
silent_none [] = refl
silent_none (x ∷ xs) = refl

module _ (defs : List Definition) (s : Setting) where
  -- ---- definitions and measures
  bound_all : (kind : Kind) (bound : Option Bound) → bound_breaches kind bound ≡ all defs s (bound_asked kind bound)
  bound_all kind None = refl
  bound_all kind (Some bound) = sym (append_nil (bound_breaches kind (Some bound)))

  mutual
    expr_all : (e : TypeExpr) → expr_breaches s.universe s.names e ≡ all defs s (expr_asked e)
    expr_all (Named name) = sym (append_nil (type_use (meant s name) name))
    expr_all (Epsilon at) = refl
    expr_all (Atom weight weight_at at) = sym (append_nil (own defs s (weighs weight weight_at)))
    expr_all (Union parts) = exprs_all parts
    expr_all (Product parts at) = exprs_all parts
    expr_all (Coll kind part bound at) =
        append_assoc (kind_breaches s.universe kind at) (expr_breaches s.universe s.names part) (bound_breaches kind bound)
        ∙ ap (λ z. kind_breaches s.universe kind at ++ z)
        (joined defs s (expr_asked part) (bound_asked kind bound) (expr_breaches s.universe s.names part) (bound_breaches kind bound) (expr_all part) (bound_all kind bound))

    exprs_all : (row : TypeExprs) → exprs_breaches s.universe s.names row ≡ all defs s (exprs_asked row)
    exprs_all no_exprs = refl
    exprs_all (an_expr e rest) =
        joined defs s (expr_asked e) (exprs_asked rest) (expr_breaches s.universe s.names e) (exprs_breaches s.universe s.names rest) (expr_all e) (exprs_all rest)

  none_behind : (e : TypeExpr) → (expr_breaches s.universe s.names e or_if_none []) ≡ all defs s (expr_asked e ++ [])
  none_behind e =
      or_silent (expr_breaches s.universe s.names e) []
      ∙ joined defs s (expr_asked e) [] (expr_breaches s.universe s.names e) (silent (expr_breaches s.universe s.names e) []) (expr_all e) (silent_none (expr_breaches s.universe s.names e))

  right_all : (i : ℕ) (owners : List Name) (e : TypeExpr) → (expr_breaches s.universe s.names e or_if_none circle_breaches s.names defs i owners e) ≡ all defs s (expr_asked e ++ renames_asked i owners e)
  right_all i owners (Named name) =
      let here = type_use (meant s name) name in
      let way = circle_breach name (first_circle s.names defs i owners) in
      or_silent here way ∙ ap (λ z. here ++ z) (sym (append_nil (silent here way)))
  right_all i owners (Epsilon at) = none_behind (Epsilon at)
  right_all i owners (Atom weight weight_at at) = none_behind (Atom weight weight_at at)
  right_all i owners (Union parts) = none_behind (Union parts)
  right_all i owners (Product parts at) = none_behind (Product parts at)
  right_all i owners (Coll kind part bound at) = none_behind (Coll kind part bound at)

  new_all : (i : ℕ) (names : List Name) → new_types s.names i names ≡ all defs s (new_asked i names)
  new_all i [] = refl
  new_all i (name ∷ rest) = ap (λ z. name_breaches s.names name (mean.Definition i) ++ z) (new_all (suc i) rest)

  pub types_all : (i : ℕ) (ds : List TypeDef) → types_breaches s.universe s.names defs i ds ≡ all defs s (types_asked i ds)
  types_all i [] = refl
  types_all i (d ∷ ds) =
      let right = expr_breaches s.universe s.names d.body or_if_none circle_breaches s.names defs i d.names d.body in
      joined defs s (new_asked i d.names ++ (expr_asked d.body ++ renames_asked i d.names d.body)) (types_asked (i + length d.names) ds) (new_types s.names i d.names ++ right) (types_breaches s.universe s.names defs (i + length d.names) ds)
      (joined defs s (new_asked i d.names) (expr_asked d.body ++ renames_asked i d.names d.body) (new_types s.names i d.names) right (new_all i d.names) (right_all i d.names d.body))
      (types_all (i + length d.names) ds)

  pub measures_all : (k : ℕ) (ms : List (Name × ℕ)) → measures_breaches s.names k ms ≡ all defs s (measures_asked k ms)
  measures_all k [] = refl
  measures_all k (m ∷ ms) = ap (λ z. name_breaches s.names m.0 (mean.Measure k m.1) ++ z) (measures_all (suc k) ms)

  -- ---- patterns, cases and walks
  typed_all : (p : Pattern) → pattern_type_use s p ≡ all defs s (type_asked p)
  typed_all (pattern.Named type) = sym (append_nil (type_use (meant s type) type))
  typed_all (pattern.NamedWhole type name) = sym (append_nil (type_use (meant s type) type))
  typed_all (pattern.NamedParts type names) = sym (append_nil (type_use (meant s type) type))
  typed_all (pattern.Parts names at) = refl
  typed_all (pattern.Any at) = refl
  typed_all (pattern.AnyWhole name at) = refl

  repeats_all : (earlier names : List Name) → repeated earlier names ≡ all defs s (repeats_asked earlier names)
  repeats_all earlier [] = refl
  repeats_all earlier (name ∷ names) = ap (λ z. own defs s (repeats earlier name) ++ z) (repeats_all (earlier ++ name ∷ []) names)

  if_all : (b : Bool) (bs : List Breach) (qs : List Asked) → bs ≡ all defs s qs → (if b then bs else []) ≡ all defs s (if b then qs else [])
  if_all true bs qs e = e
  if_all false bs qs e = refl

  arm_all : (stand : Stand) (var : Name) (p : Pattern) (bs : List Breach) (qs : List Asked) → bs ≡ all defs s qs → arm_breaches s stand var p bs ≡ all defs s (arm_asked s stand var p qs)
  arm_all stand var p bs qs e =
      let typed = pattern_type_use s p in
      let fit = misfit (fits s stand p) p var in
      let again = repeated [] (factor_names p) in
      let body = if fits s stand p then bs else [] in
      let inner = if fits s stand p then qs else [] in
      ap (λ z. (z ++ again) ++ body) (or_silent typed fit)
      ∙ append_assoc (typed ++ silent typed fit) again body
      ∙ append_assoc typed (silent typed fit) (again ++ body)
      ∙ joined defs s (type_asked p) (matches stand var p ∷ (repeats_asked [] (factor_names p) ++ inner)) typed (silent typed fit ++ (again ++ body)) (typed_all p)
      (ap (λ z. silent typed fit ++ z) (joined defs s (repeats_asked [] (factor_names p)) inner again body (repeats_all [] (factor_names p)) (if_all (fits s stand p) bs qs e)))

  agreed : (b : Bool) (bs : List Breach) (qs : List Asked) (ten : List Breach) → bs ≡ all defs s qs → (if b then bs else ten) ≡ (if b then [] else ten) ++ all defs s (if b then qs else [])
  agreed true bs qs ten e = e
  agreed false bs qs ten e = sym (append_nil ten)

  case_by : (o : Option (ℕ × Part)) (var : Name) (arms : ℕ) (bs : List Breach) (qs : List Asked) → bs ≡ all defs s qs
      → case_breaches s o var arms bs ≡ variable_use o var ++ (if_bound o (case_breaches s o var arms []) ++ all defs s (arms_inside s o arms qs))
  case_by None var arms bs qs e = refl
  case_by (Some variable) var arms bs qs e = agreed (nat_eq arms (length (case_stands s (Some variable)))) bs qs (broken_at Y10 var) e

  case_all : (scope : List Variable) (var : Name) (arms : ℕ) (bs : List Breach) (qs : List Asked) → bs ≡ all defs s qs → case_breaches s (found scope var) var arms bs ≡ all defs s (case_asked s scope var arms qs)
  case_all scope var arms bs qs e = case_by (found scope var) var arms bs qs e

  into_all : (form : Shape) (var : Name) (bs : List Breach) (qs : List Asked) → bs ≡ all defs s qs → walk_into form var bs ≡ walk_into form var [] ++ all defs s (of_collection form qs)
  into_all (shape.Coll kind part low high) var bs qs e = e
  into_all (shape.Atom weight) var bs qs e = refl
  into_all (shape.Union parts) var bs qs e = refl
  into_all (shape.Product parts) var bs qs e = refl

  walk_by : (o : Option (ℕ × Part)) (var : Name) (bs : List Breach) (qs : List Asked) → bs ≡ all defs s qs
      → walk_breaches s o var bs ≡ variable_use o var ++ (if_bound o (walk_breaches s o var []) ++ all defs s (walk_inside s o qs))
  walk_by None var bs qs e = refl
  walk_by (Some variable) var bs qs e = into_all (shape_at s variable.1.node) var bs qs e

  handed : (o : Option (ℕ × Part)) (on : Option ℕ) (arg callee : Name) → argument_breaches o on arg callee ≡ variable_use o arg ++ (if_bound o (argument_breaches o on arg callee) ++ [])
  handed None on arg callee = refl
  handed (Some variable) on arg callee = sym (append_nil (argument_breaches (Some variable) on arg callee))

  given : (o : Option (ℕ × Part)) (expected : Option ℕ) (var : Name) → given_breaches o expected var ≡ variable_use o var ++ (if_bound o (given_breaches o expected var) ++ [])
  given None expected var = refl
  given (Some variable) expected var = sym (append_nil (given_breaches (Some variable) expected var))

  -- ---- statements
  mutual
    stmt_all : (scope : List Variable) (one : Stmt) → stmt_breaches s scope one ≡ all defs s (stmt_asked s scope one)
    stmt_all scope Skip = refl
    stmt_all scope (Charge measure) = sym (append_nil (measure_use (meant s measure) measure))
    stmt_all scope (Call callee arg) = ap (λ z. procedure_use (meant s callee) callee ++ z) (handed (found scope arg) (signature_meant s (meant s callee)).on arg callee)
    stmt_all scope (Block stmts) = stmts_all scope stmts
    stmt_all scope (Case var arms) =
        case_all scope var (count_arms arms) (arms_breaches s (case_stands s (found scope var)) var arms) (arms_asked s (case_stands s (found scope var)) var arms) (arms_all (case_stands s (found scope var)) var arms)
    stmt_all scope (Forall var source body) =
        let inner : List Variable = record { name = var.text; part = walked s (found scope source) } ∷ [] in
        walk_by (found scope source) source (stmt_breaches s inner body) (stmt_asked s inner body) (stmt_all inner body)

    stmts_all : (scope : List Variable) (row : Stmts) → stmts_breaches s scope row ≡ all defs s (stmts_asked s scope row)
    stmts_all scope no_stmts = refl
    stmts_all scope (a_stmt stmt rest) =
        joined defs s (stmt_asked s scope stmt) (stmts_asked s scope rest) (stmt_breaches s scope stmt) (stmts_breaches s scope rest) (stmt_all scope stmt) (stmts_all scope rest)

    arms_all : (stands : List Stand) (var : Name) (row : SourceArms) → arms_breaches s stands var row ≡ all defs s (arms_asked s stands var row)
    arms_all stands var no_source_arms = refl
    arms_all [] var (a_source_arm p body rest) = refl
    arms_all (stand ∷ stands) var (a_source_arm p body rest) =
        let bs = stmt_breaches s (bound s stand p) body in
        let qs = stmt_asked s (bound s stand p) body in
        joined defs s (arm_asked s stand var p qs) (arms_asked s stands var rest) (arm_breaches s stand var p bs) (arms_breaches s stands var rest)
        (arm_all stand var p bs qs (stmt_all (bound s stand p) body)) (arms_all stands var rest)

  -- ---- values
  charge_all : (charge : Option Name) → charge_use s charge ≡ all defs s (charge_asked charge)
  charge_all None = refl
  charge_all (Some measure) = sym (append_nil (measure_use (meant s measure) measure))

  mutual
    value_all : (scope : List Variable) (expected : Option ℕ) (v : SourceValue) → value_breaches s scope expected v ≡ all defs s (value_asked s scope expected v)
    value_all scope expected (made.Given name) = given (found scope name) expected name
    value_all scope expected (made.Made callee arg) =
        let callee_use = procedure_use (meant s callee) callee in
        let result = value.result_breaches expected (signature_meant s (meant s callee)).result callee in
        let argument = argument_breaches (found scope arg) (signature_meant s (meant s callee)).on arg callee in
        ap (λ z. z ++ argument) (or_silent callee_use result)
        ∙ append_assoc callee_use (silent callee_use result) argument
        ∙ ap (λ z. callee_use ++ (silent callee_use result ++ z)) (handed (found scope arg) (signature_meant s (meant s callee)).on arg callee)
    value_all scope expected (made.Atom charge at) =
        joined defs s (charge_asked charge) (builds is_atom expected at (codes "atom") ∷ []) (charge_use s charge) (misplaced (may_stand s expected is_atom) at (codes "atom"))
        (charge_all charge) (sym (append_nil (misplaced (may_stand s expected is_atom) at (codes "atom"))))
    value_all scope expected (made.Tuple parts at) =
        ap (λ z. misplaced (may_stand s expected (has_factors (count_values parts))) at (codes "product") ++ z) (values_all scope (part_nodes s expected (count_values parts)) parts)
    value_all scope expected (made.Branch number at inner) =
        ap (λ z. misplaced (may_stand s expected (has_branch number)) at (decimal number) ++ z) (value_all scope (inner_node s expected number) inner)
    value_all scope expected (made.Case var arms) =
        case_all scope var (count_value_arms arms) (value_arms_breaches s (case_stands s (found scope var)) expected var arms) (value_arms_asked s (case_stands s (found scope var)) expected var arms)
        (value_arms_all (case_stands s (found scope var)) expected var arms)

    values_all : (scope : List Variable) (nodes : List ℕ) (row : SourceValues) → values_breaches s scope nodes row ≡ all defs s (values_asked s scope nodes row)
    values_all scope nodes no_source_values = refl
    values_all scope [] (a_source_value v rest) =
        joined defs s (value_asked s scope None v) (values_asked s scope [] rest) (value_breaches s scope None v) (values_breaches s scope [] rest) (value_all scope None v) (values_all scope [] rest)
    values_all scope (node ∷ nodes) (a_source_value v rest) =
        joined defs s (value_asked s scope (Some node) v) (values_asked s scope nodes rest) (value_breaches s scope (Some node) v) (values_breaches s scope nodes rest) (value_all scope (Some node) v) (values_all scope nodes rest)

    value_arms_all : (stands : List Stand) (expected : Option ℕ) (var : Name) (row : SourceValueArms) → value_arms_breaches s stands expected var row ≡ all defs s (value_arms_asked s stands expected var row)
    value_arms_all stands expected var no_source_value_arms = refl
    value_arms_all [] expected var (a_source_value_arm p body rest) = refl
    value_arms_all (stand ∷ stands) expected var (a_source_value_arm p body rest) =
        let bs = value_breaches s (bound s stand p) expected body in
        let qs = value_asked s (bound s stand p) expected body in
        joined defs s (arm_asked s stand var p qs) (value_arms_asked s stands expected var rest) (arm_breaches s stand var p bs) (value_arms_breaches s stands expected var rest)
        (arm_all stand var p bs qs (value_all (bound s stand p) expected body)) (value_arms_all stands expected var rest)

  -- ---- procedures
  body_all : (p : ProcDef) (node : Option ℕ) (body : ProcBody) → body_breaches s p node body ≡ all defs s (body_asked s p node body)
  body_all p None (Statements stmts) = refl
  body_all p (Some node) (Statements stmts) = stmts_all (parameter s p) stmts
  body_all p None (Value colon result value) = ap (λ z. result_breaches s.universe colon p.name ++ z) (sym (append_nil (type_use (meant s result) result)))
  body_all p (Some node) (Value colon result value) =
      append_assoc (result_breaches s.universe colon p.name) (type_use (meant s result) result) (value_breaches s (parameter s p) (type_node s result) value)
      ∙ ap (λ z. result_breaches s.universe colon p.name ++ (type_use (meant s result) result ++ z)) (value_all (parameter s p) (type_node s result) value)

  pub procs_all : (f : ℕ) (ps : List ProcDef) → procs_breaches s f ps ≡ all defs s (procs_asked s f ps)
  procs_all f [] = refl
  procs_all f (p ∷ ps) =
      let body = body_breaches s p (type_node s p.on) p.body in
      let head = name_breaches s.names p.name (mean.Procedure f) in
      let on = type_use (meant s p.on) p.on in
      joined defs s (defines p.name (mean.Procedure f) ∷ (uses a_type p.on ∷ body_asked s p (type_node s p.on) p.body)) (procs_asked s (suc f) ps) ((head ++ on) ++ body) (procs_breaches s (suc f) ps)
      (append_assoc head on body ∙ ap (λ z. head ++ (on ++ z)) (body_all p (type_node s p.on) p.body)) (procs_all (suc f) ps)

  pub analyses_all : (names : List Name) → flat_map (λ name. procedure_use (meant s name) name) names ≡ all defs s (map (uses a_procedure) names)
  analyses_all names = sym (flat_map-map (own defs s) (uses a_procedure) names)

-- the breaches of definitions and measures, and those of procedures and analyze lines
abbrev pub first_of : Source → List Breach
first_of source = types_breaches source.universe (names_of source) (definitions source) 0 source.types ++ measures_breaches (names_of source) 0 (measures source)

abbrev pub later_of : Source → List Breach
later_of source = procs_breaches (setting_of source) 0 source.procs ++ flat_map (λ name. procedure_use (meant (setting_of source) name) name) source.analyses

pub first_all : (source : Source) → first_of source ≡ all (definitions source) (setting_of source) (first_asked source)
first_all source =
    joined (definitions source) (setting_of source) (types_asked 0 source.types) (measures_asked 0 (measures source))
    (types_breaches source.universe (names_of source) (definitions source) 0 source.types) (measures_breaches (names_of source) 0 (measures source))
    (types_all (definitions source) (setting_of source) 0 source.types) (measures_all (definitions source) (setting_of source) 0 (measures source))

pub later_all : (source : Source) → later_of source ≡ all (definitions source) (setting_of source) (later_asked source)
later_all source =
    joined (definitions source) (setting_of source) (procs_asked (setting_of source) 0 source.procs) (map (uses a_procedure) source.analyses)
    (procs_breaches (setting_of source) 0 source.procs) (flat_map (λ name. procedure_use (meant (setting_of source) name) name) source.analyses)
    (procs_all (definitions source) (setting_of source) 0 source.procs) (analyses_all (definitions source) (setting_of source) source.analyses)
