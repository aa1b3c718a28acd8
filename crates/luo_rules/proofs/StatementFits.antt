-- The core form of statements without breach fits, with its sites in order.
use Rattle.std.proofs.Common.{◌≡◌, ℕ, ◌+◌, ◌*◌, ◌≤◌, List, [], ◌∷◌, length, Option, Some, None, slice_get, refl, sym, ap, ◌∙◌, subst, arith}
use Rattle.std.proofs.Math.Nat.{add-mul}
use Rattle.luo_num.specs.declared.limits.TheConstants.{NUMBER_LIMIT, STATEMENT_LIMIT}
use Rattle.luo_model.specs.declared.program.Part.{Part}
use Rattle.luo_model.specs.declared.program.Shape.{Shape}
use Rattle.luo_model.specs.declared.program.Shape.TheVariants as shape
use Rattle.luo_model.specs.declared.program.Site.{Site}
use Rattle.luo_model.specs.Program.{Program, Procedure, Items, no_items, Does, shape_of}
use Rattle.luo_model.specs.Scopes.Stands.{Stand, stands, component, IsCollection}
use Rattle.luo_model.specs.Scopes.Fits.{FitsItem}
use Rattle.luo_model.specs.Scopes.Walks.{items_in, arms_in}
use Rattle.luo_model.specs.Program as plain
use Rattle.luo_source.specs.declared.names.Name.{Name}
use Rattle.luo_source.specs.Plain.Statements.{Stmt, Skip, Charge, Call, Block, Case, Forall, Stmts, no_stmts, a_stmt, SourceArms, no_source_arms, a_source_arm}
use Rattle.luo_rules.specs.declared.names.Meaning.{Meaning}
use Rattle.luo_rules.specs.declared.names.Meaning.TheVariants as mean
use Rattle.luo_rules.specs.declared.rule.Breach.{Breach}
use Rattle.luo_rules.specs.declared.setting.Setting.{Setting}
use Rattle.luo_rules.specs.declared.setting.Variable.{Variable}
use Rattle.luo_rules.specs.Meanings.{procedure_use, value_of, procedure_of}
use Rattle.luo_rules.specs.Settings.{meant, signature_meant, shape_at, found, place_of, argument_breaches, case_stands}
use Rattle.luo_rules.specs.Patterns.{bound, bind_of, arm_breaches}
use Rattle.luo_rules.specs.Counted.{stmt_statements, stmts_statements, arms_statements}
use Rattle.luo_rules.specs.StatementBreaches.{count_arms, walked, walk_into, walk_breaches, stmt_breaches, stmts_breaches, arms_breaches}
use Rattle.luo_rules.specs.StatementCore.{stmt_own, stmts_own, stmt_sites, stmts_sites, arms_sites, stmt_items, stmts_items, arms_core}
use Rattle.luo_rules.proofs.Lists.{nil_left, nil_right}
use Rattle.luo_rules.proofs.ProperBodies.{ProperStmt, ProperStmts, ProperArms}
use Rattle.luo_rules.proofs.PatternFacts.{program_over, parts_of, IsFoundIn, found_there, found_one, argument_fits, may_bind, bound_same, arm_fits, case_fits}
use Rattle.luo_rules.proofs.ValueFits.{SoundSetting, procedure_meant}
use Rattle.luo_rules.proofs.GoodItems.{GoodItems, GoodArms, good_none, good_join, good_call, good_case, good_forall, good_no_arms, good_arm, own_within, join_in}

value_bound : (o : Option Meaning) → ((k v : ℕ) → o ≡ Some (mean.Measure k v) → v ≤ NUMBER_LIMIT) → value_of o ≤ NUMBER_LIMIT
value_bound None h = omega arith
value_bound (Some (mean.Definition i)) h = omega arith
value_bound (Some (mean.Measure k v)) h = h k v refl
value_bound (Some (mean.Procedure f)) h = omega arith

-- a walk without breach goes over a collection, and its body has none
pub record WalkFits (s : Setting) (o : Option (ℕ × Part)) (inner : List Breach) : Type 0 where
  pub variable : ℕ × Part
  pub is : o ≡ Some variable
  pub collection : IsCollection (shape_at s variable.1.node)
  pub none : inner ≡ []

walk_in : (form : Shape) (source : Name) (inner : List Breach) → walk_into form source inner ≡ [] → IsCollection form × (inner ≡ [])
walk_in (shape.Atom weight) source inner e = absurd (cc)
walk_in (shape.Union parts) source inner e = absurd (cc)
walk_in (shape.Product parts) source inner e = absurd (cc)
walk_in (shape.Coll kind part low high) source inner e = (tt, e)

walk_fits : (s : Setting) (o : Option (ℕ × Part)) (source : Name) (inner : List Breach) → walk_breaches s o source inner ≡ [] → WalkFits s o inner
walk_fits s None source inner e = absurd (cc)
walk_fits s (Some q) source inner e = let w = walk_in (shape_at s q.1.node) source inner e in record { variable = q; is = refl; collection = w.0; none = w.1 }

module _ (s : Setting) (procs : List Procedure) (sites : List Site) (analyses : List ℕ) (sound : SoundSetting s procs) where
  mutual
    pub own_bound : (stmt : Stmt) → stmt_own s stmt ≤ stmt_statements stmt * NUMBER_LIMIT
    own_bound Skip = omega arith
    own_bound (Charge measure) = omega (arith, value_bound (meant s measure) (λ k v e. sound.charges measure.text k v e))
    own_bound (Call callee arg) = omega arith
    own_bound (Block stmts) = owns_bound stmts
    own_bound (Case var arms) = omega arith
    own_bound (Forall var source body) = omega arith

    pub owns_bound : (row : Stmts) → stmts_own s row ≤ stmts_statements row * NUMBER_LIMIT
    owns_bound no_stmts = omega arith
    owns_bound (a_stmt stmt rest) = omega (arith, own_bound stmt, owns_bound rest, add-mul (stmt_statements stmt) (stmts_statements rest) NUMBER_LIMIT)

  call_fits : (vars : List Part) (o : Option (ℕ × Part)) (callee arg : Name) (first : ℕ) → IsFoundIn vars o → procedure_use (meant s callee) callee ≡ [] → argument_breaches o (signature_meant s (meant s callee)).on arg callee ≡ []
      → FitsItem (program_over s procs sites analyses) vars (plain.Call (place_of o) (procedure_of (meant s callee)) first)
  call_fits vars o callee arg first h meant_so argument =
      let f = procedure_meant (meant s callee) callee meant_so in
      let c = sound.callees callee.text f.0 f.1 in
      let on : (signature_meant s (meant s callee)).on ≡ Some c.procedure.on.node = ap (λ m. (signature_meant s m).on) f.1 ∙ c.on in
      let a = argument_fits vars o (signature_meant s (meant s callee)).on c.procedure.on.node arg callee h on argument in
      (c.procedure, a.0, ap (λ m. slice_get procs (procedure_of m)) f.1 ∙ c.is, a.1, a.2)

  mutual
    pub stmt_good : (scope : List Variable) (first : ℕ) (stmt : Stmt) → ProperStmt stmt → stmt_statements stmt ≤ STATEMENT_LIMIT → stmt_breaches s scope stmt ≡ []
        → GoodItems (program_over s procs sites analyses) (parts_of scope) first (stmt_sites stmt) (stmt_items s scope first stmt)
    stmt_good scope first Skip p l e = good_none (program_over s procs sites analyses) (parts_of scope) first
    stmt_good scope first (Charge measure) p l e = good_none (program_over s procs sites analyses) (parts_of scope) first
    stmt_good scope first (Call callee arg) p l e =
        let a = argument_breaches (found scope arg) (signature_meant s (meant s callee)).on arg callee in
        good_call (program_over s procs sites analyses) (parts_of scope) (place_of (found scope arg)) (procedure_of (meant s callee)) first
        (call_fits (parts_of scope) (found scope arg) callee arg first (found_there scope arg) (nil_left (procedure_use (meant s callee) callee) a e) (nil_right (procedure_use (meant s callee) callee) a e))
    stmt_good scope first (Block stmts) p l e = stmts_good scope first stmts p l e
    stmt_good scope first (Case var arms) p l e =
        let c = case_fits s (found scope var) var (count_arms arms) (arms_breaches s (case_stands s (found scope var)) var arms) e in
        let x = c.variable.1 in
        let ss = stands x (shape_at s x.node) in
        let some : case_stands s (found scope var) ≡ ss = ap (case_stands s) c.is in
        let inner = arms_good ss var first arms p.1 (omega arith) (sym c.many) (subst (λ z. arms_breaches s z var arms ≡ []) some c.none) in
        good_case (program_over s procs sites analyses) (parts_of scope) (place_of (found scope var)) x first (arms_sites arms) (arms_core s (case_stands s (found scope var)) first arms)
        (found_one (parts_of scope) (found scope var) c.variable (found_there scope var) c.is) (omega (arith, c.many, p.0))
        (subst (λ z. GoodArms (program_over s procs sites analyses) ss first (arms_sites arms) (arms_core s z first arms)) (sym some) inner)
    stmt_good scope first (Forall var source body) p l e =
        let o = found scope source in
        let inside : List Variable = record { name = var.text; part = walked s o } ∷ [] in
        let w = walk_fits s o source (stmt_breaches s inside body) e in
        let x = w.variable.1 in
        let same : walked s o ≡ component (shape_at s x.node) = ap (walked s) w.is in
        let inner = stmt_good inside first body p (omega arith) w.none in
        good_forall (program_over s procs sites analyses) (parts_of scope) (place_of o) x first (stmt_sites body) (stmt_own s body) (stmt_items s inside first body)
        (found_one (parts_of scope) o w.variable (found_there scope source) w.is) w.collection (own_within (stmt_own s body) (stmt_statements body) NUMBER_LIMIT (own_bound body) (omega arith))
        (subst (λ n. GoodItems (program_over s procs sites analyses) (n ∷ []) first (stmt_sites body) (stmt_items s inside first body)) same inner)

    pub stmts_good : (scope : List Variable) (first : ℕ) (row : Stmts) → ProperStmts row → stmts_statements row ≤ STATEMENT_LIMIT → stmts_breaches s scope row ≡ []
        → GoodItems (program_over s procs sites analyses) (parts_of scope) first (stmts_sites row) (stmts_items s scope first row)
    stmts_good scope first no_stmts p l e = good_none (program_over s procs sites analyses) (parts_of scope) first
    stmts_good scope first (a_stmt stmt rest) p l e =
        good_join (program_over s procs sites analyses) (parts_of scope) first (stmt_sites stmt) (stmts_sites rest) (stmt_items s scope first stmt) (stmts_items s scope (first + stmt_sites stmt) rest)
        (stmt_good scope first stmt p.0 (omega arith) (nil_left (stmt_breaches s scope stmt) (stmts_breaches s scope rest) e))
        (stmts_good scope (first + stmt_sites stmt) rest p.1 (omega arith) (nil_right (stmt_breaches s scope stmt) (stmts_breaches s scope rest) e))

    arms_good : (ss : List Stand) (var : Name) (first : ℕ) (row : SourceArms) → ProperArms row → arms_statements row ≤ STATEMENT_LIMIT → length ss ≡ count_arms row → arms_breaches s ss var row ≡ []
        → GoodArms (program_over s procs sites analyses) ss first (arms_sites row) (arms_core s ss first row)
    arms_good [] var first no_source_arms p l m e = good_no_arms (program_over s procs sites analyses) first
    arms_good (stand ∷ ss) var first no_source_arms p l m e = absurd (omega (arith, m))
    arms_good [] var first (a_source_arm pattern body rest) p l m e = absurd (omega (arith, m))
    arms_good (stand ∷ ss) var first (a_source_arm pattern body rest) p l m e =
        let inner = stmt_breaches s (bound s stand pattern) body in
        let a = arm_fits s stand var pattern inner (nil_left (arm_breaches s stand var pattern inner) (arms_breaches s ss var rest) e) in
        let good = stmt_good (bound s stand pattern) first body p.0 (omega arith) a.1 in
        good_arm (program_over s procs sites analyses) stand ss (bind_of pattern) (stmt_own s body) first (stmt_sites body) (arms_sites rest) (stmt_items s (bound s stand pattern) first body) (arms_core s ss (first + stmt_sites body) rest)
        (may_bind s procs sites analyses stand pattern a.0) (own_within (stmt_own s body) (stmt_statements body) NUMBER_LIMIT (own_bound body) (omega arith))
        (subst (λ vars. GoodItems (program_over s procs sites analyses) vars first (stmt_sites body) (stmt_items s (bound s stand pattern) first body)) (bound_same s procs sites analyses stand pattern a.0) good)
        (arms_good ss var (first + stmt_sites body) rest p.1 (omega arith) (omega (arith, m)) (nil_right (arm_breaches s stand var pattern inner) (arms_breaches s ss var rest) e))

module _ (s : Setting) where
  mutual
    stmt_few : (scope : List Variable) (first : ℕ) (stmt : Stmt) → items_in (stmt_items s scope first stmt) ≤ stmt_statements stmt
    stmt_few scope first Skip = omega arith
    stmt_few scope first (Charge measure) = omega arith
    stmt_few scope first (Call callee arg) = omega arith
    stmt_few scope first (Block stmts) = stmts_few scope first stmts
    stmt_few scope first (Case var arms) = omega (arith, arms_few (case_stands s (found scope var)) first arms)
    stmt_few scope first (Forall var source body) = omega (arith, stmt_few (record { name = var.text; part = walked s (found scope source) } ∷ []) first body)

    pub stmts_few : (scope : List Variable) (first : ℕ) (row : Stmts) → items_in (stmts_items s scope first row) ≤ stmts_statements row
    stmts_few scope first no_stmts = omega arith
    stmts_few scope first (a_stmt stmt rest) =
        omega (arith, join_in (stmt_items s scope first stmt) (stmts_items s scope (first + stmt_sites stmt) rest), stmt_few scope first stmt, stmts_few scope (first + stmt_sites stmt) rest)

    arms_few : (ss : List Stand) (first : ℕ) (row : SourceArms) → arms_in (arms_core s ss first row) ≤ arms_statements row
    arms_few ss first no_source_arms = omega arith
    arms_few [] first (a_source_arm pattern body rest) = omega arith
    arms_few (stand ∷ ss) first (a_source_arm pattern body rest) = omega (arith, stmt_few (bound s stand pattern) first body, arms_few ss (first + stmt_sites body) rest)
