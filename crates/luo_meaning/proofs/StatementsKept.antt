-- What statements charge: the body of their core form against the forms as written.
use Rattle.std.proofs.Common.{◌≡◌, ℕ, zero, suc, ◌+◌, ◌↔◌, List, [], ◌∷◌, length, Option, Some, None, slice_get, refl, sym, ap, ◌∙◌, subst, arith}
use Rattle.luo_model.specs.declared.body.Bind.{Bind}
use Rattle.luo_model.specs.declared.program.Part.{Part}
use Rattle.luo_model.specs.declared.program.Shape.{Shape}
use Rattle.luo_model.specs.declared.program.Shape.TheVariants as shape
use Rattle.luo_model.specs.Tree.{Tree, Atom, Inj, Tup, Coll}
use Rattle.luo_model.specs.Program as plain
use Rattle.luo_model.specs.Program.{Body, Does, Items, no_items, Arms, no_arms, arm}
use Rattle.luo_model.specs.Charges as model
use Rattle.luo_model.specs.Charges.{EachCharges, ItemCharges, CaseCharges}
use Rattle.luo_model.specs.Scopes.Stands.{Stand}
use Rattle.luo_source.specs.declared.names.Name.{Name}
use Rattle.luo_source.specs.declared.statements.Pattern.{Pattern}
use Rattle.luo_source.specs.Plain.Statements.{Stmt, Skip, Charge, Call, Block, Case, Forall, Stmts, no_stmts, a_stmt, SourceArms, no_source_arms, a_source_arm}
use Rattle.luo_source.specs.Plain.Source.{Source}
use Rattle.luo_rules.specs.declared.names.Meaning.TheVariants as mean
use Rattle.luo_rules.specs.declared.rule.Breach.{Breach}
use Rattle.luo_rules.specs.declared.setting.Setting.{Setting}
use Rattle.luo_rules.specs.declared.setting.Variable.{Variable}
use Rattle.luo_rules.specs.Meanings.{meaning, procedure_use, value_of, procedure_of}
use Rattle.luo_rules.specs.Settings.{meant, signature_meant, shape_at, found, place_of, argument_breaches, case_stands}
use Rattle.luo_rules.specs.Patterns as patterns
use Rattle.luo_rules.specs.Patterns.{bind_of, arm_breaches}
use Rattle.luo_rules.specs.StatementBreaches.{count_arms, walked, walk_into, walk_breaches, stmt_breaches, stmts_breaches, arms_breaches}
use Rattle.luo_rules.specs.StatementCore.{stmt_own, stmts_own, stmt_sites, arms_sites, stmt_items, stmts_items, arms_core}
use Rattle.luo_rules.proofs.Lists.{nil_left, nil_right}
use Rattle.luo_rules.proofs.PatternFacts.{arm_fits, case_fits}
use Rattle.luo_rules.proofs.ValueFits.{measure_meant, procedure_meant}
use Rattle.luo_meaning.specs.Defined.{DefinesMeasure}
use Rattle.luo_meaning.specs.Variables.{Environment, structure_of, binds}
use Rattle.luo_meaning.specs.Charges.{StmtCharges, StmtsCharge, ArmsCharge}
use Rattle.luo_meaning.proofs.Steps.{split_body, joined_body, of_one, one_of, own_only, no_arm, each_map, Agree, agree_one, agree_bound}

-- the measures and procedures of a setting are those of a source, where R and S say what procedures charge by number and by name
pub record Keeps (source : Source) (s : Setting) (R : ℕ → Tree → ℕ → Type 0) (S : List ℕ → Tree → ℕ → Type 0) : Type 0 where
  pub measures : (text : List ℕ) (k v : ℕ) → meaning s.names text ≡ Some (mean.Measure k v) → (q : ℕ) → (q ≡ v) ↔ DefinesMeasure source text q
  pub calls : (text : List ℕ) (f : ℕ) → meaning s.names text ≡ Some (mean.Procedure f) → (t : Tree) (q : ℕ) → R f t q ↔ S text t q

pub argument_found : (o : Option (ℕ × Part)) (on : Option ℕ) (arg callee : Name) → argument_breaches o on arg callee ≡ [] → (v : ℕ × Part) × (o ≡ Some v)
argument_found None on arg callee e = absurd (cc)
argument_found (Some v) on arg callee e = (v, refl)

walk_in : (form : Shape) (source : Name) (inner : List Breach) → walk_into form source inner ≡ [] → inner ≡ []
walk_in (shape.Atom weight) source inner e = absurd (cc)
walk_in (shape.Union parts) source inner e = absurd (cc)
walk_in (shape.Product parts) source inner e = absurd (cc)
walk_in (shape.Coll kind part low high) source inner e = e

walk_found : (s : Setting) (o : Option (ℕ × Part)) (source : Name) (inner : List Breach) → walk_breaches s o source inner ≡ [] → (v : ℕ × Part) × (o ≡ Some v) × (inner ≡ [])
walk_found s None source inner e = absurd (cc)
walk_found s (Some v) source inner e = (v, refl, walk_in (shape_at s v.1.node) source inner e)

-- a variable by its place and by its name
pub looked : (scope : List Variable) (env : Environment) (vars : List Tree) → Agree scope env vars → (name : Name) (v : ℕ × Part) → found scope name ≡ Some v → slice_get vars (place_of (found scope name)) ≡ structure_of env name.text
looked scope env vars agree name v e = ap (λ o. slice_get vars (place_of o)) e ∙ agree name v e

-- both have arms, or none has
abbrev AsMany : Arms → SourceArms → Type 0
AsMany no_arms no_source_arms = Unit {0}
AsMany (arm bind body arms) (a_source_arm pattern b rest) = Unit {0}
AsMany _ _ = ⊥

as_many : (s : Setting) (ss : List Stand) (first : ℕ) (row : SourceArms) → length ss ≡ count_arms row → AsMany (arms_core s ss first row) row
as_many s ss first no_source_arms l = tt
as_many s [] first (a_source_arm pattern body rest) l = absurd (omega (arith, l))
as_many s (stand ∷ ss) first (a_source_arm pattern body rest) l = tt

module _ (source : Source) (R : ℕ → Tree → ℕ → Type 0) (S : List ℕ → Tree → ℕ → Type 0) where
  no_written_arm : (t : Tree) (q : ℕ) → ArmsCharge source S no_source_arms t q → ⊥
  no_written_arm (Atom w l) q h = h
  no_written_arm (Inj zero t) q h = h
  no_written_arm (Inj (suc zero) t) q h = h
  no_written_arm (Inj (suc (suc i)) t) q h = h
  no_written_arm (Tup ts) q h = h
  no_written_arm (Coll ts) q h = h

  -- one more arm
  arm_step : (bind : Bind) (b : Body) (pattern : Pattern) (body : Stmt) (arms : Arms) (rest : SourceArms) → AsMany arms rest
      → ((t : Tree) (q : ℕ) → model.BodyCharges R b (model.bound bind t) q ↔ StmtCharges source S (binds pattern t) body q)
      → ((t : Tree) (q : ℕ) → CaseCharges R arms t q ↔ ArmsCharge source S rest t q)
      → (t : Tree) (q : ℕ) → CaseCharges R (arm bind b arms) t q ↔ ArmsCharge source S (a_source_arm pattern body rest) t q
  arm_step bind b pattern body no_arms (a_source_arm p c rest) many one others t q = absurd many
  arm_step bind b pattern body (arm c d arms) no_source_arms many one others t q = absurd many
  arm_step bind b pattern body no_arms no_source_arms many one others (Atom w l) q = (λ h. h, λ h. h)
  arm_step bind b pattern body no_arms no_source_arms many one others (Inj zero t) q = (λ h. h, λ h. h)
  arm_step bind b pattern body no_arms no_source_arms many one others (Inj (suc zero) t) q = one t q
  arm_step bind b pattern body no_arms no_source_arms many one others (Inj (suc (suc i)) t) q = others (Inj (suc i) t) q
  arm_step bind b pattern body no_arms no_source_arms many one others (Tup ts) q = one (Tup ts) q
  arm_step bind b pattern body no_arms no_source_arms many one others (Coll ts) q = (λ h. h, λ h. h)
  arm_step bind b pattern body (arm c d arms) (a_source_arm p e rest) many one others (Atom w l) q = (λ h. h, λ h. h)
  arm_step bind b pattern body (arm c d arms) (a_source_arm p e rest) many one others (Inj zero t) q = (λ h. h, λ h. h)
  arm_step bind b pattern body (arm c d arms) (a_source_arm p e rest) many one others (Inj (suc zero) t) q = one t q
  arm_step bind b pattern body (arm c d arms) (a_source_arm p e rest) many one others (Inj (suc (suc i)) t) q = others (Inj (suc i) t) q
  arm_step bind b pattern body (arm c d arms) (a_source_arm p e rest) many one others (Tup ts) q = (λ h. h, λ h. h)
  arm_step bind b pattern body (arm c d arms) (a_source_arm p e rest) many one others (Coll ts) q = (λ h. h, λ h. h)

  module _ (s : Setting) (keeps : Keeps source s R S) where
    pub call_kept : (scope : List Variable) (env : Environment) (vars : List Tree) → Agree scope env vars → (first : ℕ) (callee arg : Name) → procedure_use (meant s callee) callee ≡ [] → (on : Option ℕ) → argument_breaches (found scope arg) on arg callee ≡ [] → (q : ℕ)
        → ItemCharges R (plain.Call (place_of (found scope arg)) (procedure_of (meant s callee)) first) vars q ↔ ((t : Tree) × (structure_of env arg.text ≡ Some t) × S callee.text t q)
    call_kept scope env vars agree first callee arg called on argument q =
        let f = procedure_meant (meant s callee) callee called in
        let v = argument_found (found scope arg) on arg callee argument in
        let look = looked scope env vars agree arg v.0 v.1 in
        let number : procedure_of (meant s callee) ≡ f.0 = ap procedure_of f.1 in (
          λ h. (h.0, sym look ∙ h.1, (keeps.calls callee.text f.0 f.1 h.0 q).0 (subst (λ n. R n h.0 q) number h.2)),
          λ h. (h.0, look ∙ h.1, subst (λ n. R n h.0 q) (sym number) ((keeps.calls callee.text f.0 f.1 h.0 q).1 h.2)),
        )

    mutual
      pub stmt_kept : (stmt : Stmt) (scope : List Variable) (env : Environment) (vars : List Tree) → Agree scope env vars → (first : ℕ) → stmt_breaches s scope stmt ≡ [] → (q : ℕ)
          → model.BodyCharges R (Does (stmt_own s stmt) (stmt_items s scope first stmt)) vars q ↔ StmtCharges source S env stmt q
      stmt_kept Skip scope env vars agree first e q = own_only R 0 vars q
      stmt_kept (Charge measure) scope env vars agree first e q =
          let m = measure_meant (meant s measure) measure e in
          let value : value_of (meant s measure) ≡ m.1 = ap value_of m.2 in
          let own = own_only R (value_of (meant s measure)) vars q in
          let is = keeps.measures measure.text m.0 m.1 m.2 q in
          (λ h. is.0 (own.0 h ∙ value), λ h. own.1 (is.1 h ∙ sym value))
      stmt_kept (Call callee arg) scope env vars agree first e q =
          let on = (signature_meant s (meant s callee)).on in
          let kept = call_kept scope env vars agree first callee arg (nil_left (procedure_use (meant s callee) callee) (argument_breaches (found scope arg) on arg callee) e) on (nil_right (procedure_use (meant s callee) callee) (argument_breaches (found scope arg) on arg callee) e) q in
          let there : plain.Item = plain.Call (place_of (found scope arg)) (procedure_of (meant s callee)) first in
          (λ h. kept.0 (of_one R there vars q h), λ h. one_of R there vars q (kept.1 h))
      stmt_kept (Block stmts) scope env vars agree first e q = stmts_kept stmts scope env vars agree first e q
      stmt_kept (Case var arms) scope env vars agree first e q =
          let c = case_fits s (found scope var) var (count_arms arms) (arms_breaches s (case_stands s (found scope var)) var arms) e in
          let look = looked scope env vars agree var c.variable c.is in
          let long : length (case_stands s (found scope var)) ≡ count_arms arms = ap (λ o. length (case_stands s o)) c.is ∙ sym c.many in
          let kept = arms_kept arms (case_stands s (found scope var)) var first long c.none in
          let there : plain.Item = plain.Case (place_of (found scope var)) (arms_core s (case_stands s (found scope var)) first arms) (first + arms_sites arms) in (
            λ h. let i = of_one R there vars q h in (i.0, sym look ∙ i.1, (kept i.0 q).0 i.2),
            λ h. one_of R there vars q (h.0, look ∙ h.1, (kept h.0 q).1 h.2),
          )
      stmt_kept (Forall var over body) scope env vars agree first e q =
          let o = found scope over in
          let inside : List Variable = record { name = var.text; part = walked s o } ∷ [] in
          let w = walk_found s o over (stmt_breaches s inside body) e in
          let look = looked scope env vars agree over w.0 w.1 in
          let kept : (t : Tree) (r : ℕ) → model.BodyCharges R (Does (stmt_own s body) (stmt_items s inside first body)) (t ∷ []) r ↔ StmtCharges source S ((var.text, t) ∷ []) body r =
          λ t r. stmt_kept body inside ((var.text, t) ∷ []) (t ∷ []) (agree_one var.text (walked s o) t) first w.2 r in
          let P : Tree → ℕ → Type 0 = λ t r. model.BodyCharges R (Does (stmt_own s body) (stmt_items s inside first body)) (t ∷ []) r in
          let Q : Tree → ℕ → Type 0 = λ t r. StmtCharges source S ((var.text, t) ∷ []) body r in
          let there : plain.Item = plain.Forall (place_of o) (Does (stmt_own s body) (stmt_items s inside first body)) (first + stmt_sites body) (first + stmt_sites body + 1) in (
            λ h. let i = of_one R there vars q h in (i.0, sym look ∙ i.1, each_map P Q (λ t r. (kept t r).0) i.0 q i.2),
            λ h. one_of R there vars q (h.0, look ∙ h.1, each_map Q P (λ t r. (kept t r).1) h.0 q h.2),
          )

      pub stmts_kept : (row : Stmts) (scope : List Variable) (env : Environment) (vars : List Tree) → Agree scope env vars → (first : ℕ) → stmts_breaches s scope row ≡ [] → (q : ℕ)
          → model.BodyCharges R (Does (stmts_own s row) (stmts_items s scope first row)) vars q ↔ StmtsCharge source S env row q
      stmts_kept no_stmts scope env vars agree first e q = own_only R 0 vars q
      stmts_kept (a_stmt stmt rest) scope env vars agree first e q =
          let one = stmt_kept stmt scope env vars agree first (nil_left (stmt_breaches s scope stmt) (stmts_breaches s scope rest) e) in
          let others = stmts_kept rest scope env vars agree (first + stmt_sites stmt) (nil_right (stmt_breaches s scope stmt) (stmts_breaches s scope rest) e) in
          let is = stmt_items s scope first stmt in
          let more = stmts_items s scope (first + stmt_sites stmt) rest in (
            λ h. let x = split_body R (stmt_own s stmt) (stmts_own s rest) is more vars q h in (x.0, x.1, (one x.0).0 x.2, (others x.1).0 x.3, x.4),
            λ h. joined_body R (stmt_own s stmt) (stmts_own s rest) is more vars h.0 h.1 q ((one h.0).1 h.2) ((others h.1).1 h.3) h.4,
          )

      pub arms_kept : (row : SourceArms) (ss : List Stand) (var : Name) (first : ℕ) → length ss ≡ count_arms row → arms_breaches s ss var row ≡ [] → (t : Tree) (q : ℕ)
          → CaseCharges R (arms_core s ss first row) t q ↔ ArmsCharge source S row t q
      arms_kept no_source_arms ss var first l e t q = (λ h. absurd (no_arm R t q h), λ h. absurd (no_written_arm t q h))
      arms_kept (a_source_arm pattern body rest) [] var first l e t q = absurd (omega (arith, l))
      arms_kept (a_source_arm pattern body rest) (stand ∷ ss) var first l e t q =
          let inner = stmt_breaches s (patterns.bound s stand pattern) body in
          let a = arm_fits s stand var pattern inner (nil_left (arm_breaches s stand var pattern inner) (arms_breaches s ss var rest) e) in
          let short : length ss ≡ count_arms rest = omega (arith, l) in
          arm_step (bind_of pattern) (Does (stmt_own s body) (stmt_items s (patterns.bound s stand pattern) first body)) pattern body (arms_core s ss (first + stmt_sites body) rest) rest (as_many s ss (first + stmt_sites body) rest short)
          (λ u r. stmt_kept body (patterns.bound s stand pattern) (binds pattern u) (model.bound (bind_of pattern) u) (agree_bound s stand pattern u) first a.1 r)
          (λ u r. arms_kept rest ss var (first + stmt_sites body) short (nil_right (arm_breaches s stand var pattern inner) (arms_breaches s ss var rest) e) u r) t q
