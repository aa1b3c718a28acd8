-- What values charge: the body that their core form gives against the forms as written.
use Rattle.std.proofs.Common.{◌≡◌, ℕ, zero, suc, ◌+◌, ◌↔◌, List, [], ◌∷◌, length, Option, Some, None, sym, ap, ◌∙◌, arith}
use Rattle.luo_model.specs.declared.body.Bind.{Bind}
use Rattle.luo_model.specs.Tree.{Tree, Trees, Inj, Tup, Coll}
use Rattle.luo_model.specs.Tree as tree
use Rattle.luo_model.specs.Program as plain
use Rattle.luo_model.specs.Program.{Body, Does, Items, no_items, Arms, no_arms, arm}
use Rattle.luo_model.specs.Charges as model
use Rattle.luo_model.specs.Charges.{ItemCharges, CaseCharges}
use Rattle.luo_model.specs.Scopes.Stands.{Stand}
use Rattle.luo_model.specs.Scopes.ValueBodies.{value_own, values_own, value_sites, value_arms_sites, value_items, values_items, value_arm_bodies}
use Rattle.luo_source.specs.declared.names.Name.{Name}
use Rattle.luo_source.specs.declared.statements.Pattern.{Pattern}
use Rattle.luo_source.specs.Plain.Values.{SourceValue, Given, Made, Atom, Tuple, Branch, Case, SourceValues, no_source_values, a_source_value, SourceValueArms, no_source_value_arms, a_source_value_arm}
use Rattle.luo_source.specs.Plain.Source.{Source}
use Rattle.luo_rules.specs.declared.setting.Setting.{Setting}
use Rattle.luo_rules.specs.declared.setting.Variable.{Variable}
use Rattle.luo_rules.specs.Meanings.{measure_use, procedure_use, value_of, procedure_of}
use Rattle.luo_rules.specs.Settings.{meant, signature_meant, found, place_of, argument_breaches, case_stands}
use Rattle.luo_rules.specs.Patterns as patterns
use Rattle.luo_rules.specs.Patterns.{bind_of, arm_breaches, has_factors}
use Rattle.luo_rules.specs.ValueBreaches.{result_breaches, part_nodes, inner_node, count_values, count_value_arms, value_breaches, values_breaches, value_arms_breaches}
use Rattle.luo_rules.specs.ValueCore.{value_core, values_core, value_arms_core}
use Rattle.luo_rules.specs.Breaches.{◌or_if_none◌}
use Rattle.luo_rules.proofs.Lists.{nil_left, nil_right, none_first}
use Rattle.luo_rules.proofs.PatternFacts.{arm_fits, case_fits}
use Rattle.luo_rules.proofs.ValueFits.{measure_meant}
use Rattle.luo_meaning.specs.Variables.{Environment, binds}
use Rattle.luo_meaning.specs.Charges.{ValueCharges, ValuesCharge, ValueArmsCharge}
use Rattle.luo_meaning.proofs.Steps.{split_body, joined_body, of_one, one_of, own_only, no_arm, Agree, agree_bound}
use Rattle.luo_meaning.proofs.StatementsKept.{Keeps, looked, call_kept}

-- both have arms, or none has
abbrev AsMany : Arms → SourceValueArms → Type 0
AsMany no_arms no_source_value_arms = Unit {0}
AsMany (arm bind body arms) (a_source_value_arm pattern v rest) = Unit {0}
AsMany _ _ = ⊥

as_many : (s : Setting) (ss : List Stand) (expected : Option ℕ) (first : ℕ) (row : SourceValueArms) → length ss ≡ count_value_arms row → AsMany (value_arm_bodies first (value_arms_core s ss expected row)) row
as_many s ss expected first no_source_value_arms l = tt
as_many s [] expected first (a_source_value_arm pattern v rest) l = absurd (omega (arith, l))
as_many s (stand ∷ ss) expected first (a_source_value_arm pattern v rest) l = tt

module _ (source : Source) (R : ℕ → Tree → ℕ → Type 0) (S : List ℕ → Tree → ℕ → Type 0) where
  no_written_arm : (t : Tree) (q : ℕ) → ValueArmsCharge source S no_source_value_arms t q → ⊥
  no_written_arm (tree.Atom w l) q h = h
  no_written_arm (Inj zero t) q h = h
  no_written_arm (Inj (suc zero) t) q h = h
  no_written_arm (Inj (suc (suc i)) t) q h = h
  no_written_arm (Tup ts) q h = h
  no_written_arm (Coll ts) q h = h

  -- one more arm
  arm_step : (bind : Bind) (b : Body) (pattern : Pattern) (v : SourceValue) (arms : Arms) (rest : SourceValueArms) → AsMany arms rest
      → ((t : Tree) (q : ℕ) → model.BodyCharges R b (model.bound bind t) q ↔ ValueCharges source S (binds pattern t) v q)
      → ((t : Tree) (q : ℕ) → CaseCharges R arms t q ↔ ValueArmsCharge source S rest t q)
      → (t : Tree) (q : ℕ) → CaseCharges R (arm bind b arms) t q ↔ ValueArmsCharge source S (a_source_value_arm pattern v rest) t q
  arm_step bind b pattern v no_arms (a_source_value_arm p c rest) many one others t q = absurd many
  arm_step bind b pattern v (arm c d arms) no_source_value_arms many one others t q = absurd many
  arm_step bind b pattern v no_arms no_source_value_arms many one others (tree.Atom w l) q = (λ h. h, λ h. h)
  arm_step bind b pattern v no_arms no_source_value_arms many one others (Inj zero t) q = (λ h. h, λ h. h)
  arm_step bind b pattern v no_arms no_source_value_arms many one others (Inj (suc zero) t) q = one t q
  arm_step bind b pattern v no_arms no_source_value_arms many one others (Inj (suc (suc i)) t) q = others (Inj (suc i) t) q
  arm_step bind b pattern v no_arms no_source_value_arms many one others (Tup ts) q = one (Tup ts) q
  arm_step bind b pattern v no_arms no_source_value_arms many one others (Coll ts) q = (λ h. h, λ h. h)
  arm_step bind b pattern v (arm c d arms) (a_source_value_arm p e rest) many one others (tree.Atom w l) q = (λ h. h, λ h. h)
  arm_step bind b pattern v (arm c d arms) (a_source_value_arm p e rest) many one others (Inj zero t) q = (λ h. h, λ h. h)
  arm_step bind b pattern v (arm c d arms) (a_source_value_arm p e rest) many one others (Inj (suc zero) t) q = one t q
  arm_step bind b pattern v (arm c d arms) (a_source_value_arm p e rest) many one others (Inj (suc (suc i)) t) q = others (Inj (suc i) t) q
  arm_step bind b pattern v (arm c d arms) (a_source_value_arm p e rest) many one others (Tup ts) q = (λ h. h, λ h. h)
  arm_step bind b pattern v (arm c d arms) (a_source_value_arm p e rest) many one others (Coll ts) q = (λ h. h, λ h. h)

  module _ (s : Setting) (keeps : Keeps source s R S) where
    mutual
      pub value_kept : (v : SourceValue) (scope : List Variable) (env : Environment) (vars : List Tree) → Agree scope env vars → (first : ℕ) (expected : Option ℕ) → value_breaches s scope expected v ≡ [] → (q : ℕ)
          → model.BodyCharges R (Does (value_own (value_core s scope expected v)) (value_items first (value_core s scope expected v))) vars q ↔ ValueCharges source S env v q
      value_kept (Given name) scope env vars agree first expected e q = own_only R 0 vars q
      value_kept (Made callee arg) scope env vars agree first expected e q =
          let signature = signature_meant s (meant s callee) in
          let front = procedure_use (meant s callee) callee or_if_none result_breaches expected signature.result callee in
          let argument = argument_breaches (found scope arg) signature.on arg callee in
          let kept = call_kept source R S s keeps scope env vars agree first callee arg (none_first (procedure_use (meant s callee) callee) (result_breaches expected signature.result callee) (nil_left front argument e)) signature.on (nil_right front argument e) q in
          let there : plain.Item = plain.Call (place_of (found scope arg)) (procedure_of (meant s callee)) first in
          (λ h. kept.0 (of_one R there vars q h), λ h. one_of R there vars q (kept.1 h))
      value_kept (Atom None at) scope env vars agree first expected e q = own_only R 0 vars q
      value_kept (Atom (Some measure) at) scope env vars agree first expected e q =
          let m = measure_meant (meant s measure) measure (nil_left (measure_use (meant s measure) measure) _ e) in
          let value : value_of (meant s measure) ≡ m.1 = ap value_of m.2 in
          let own = own_only R (value_of (meant s measure)) vars q in
          let is = keeps.measures measure.text m.0 m.1 m.2 q in
          (λ h. is.0 (own.0 h ∙ value), λ h. own.1 (is.1 h ∙ sym value))
      value_kept (Tuple parts at) scope env vars agree first expected e q =
          values_kept parts scope env vars agree first (part_nodes s expected (count_values parts)) (nil_right _ (values_breaches s scope (part_nodes s expected (count_values parts)) parts) e) q
      value_kept (Branch number at inner) scope env vars agree first expected e q =
          value_kept inner scope env vars agree first (inner_node s expected number) (nil_right _ (value_breaches s scope (inner_node s expected number) inner) e) q
      value_kept (Case var arms) scope env vars agree first expected e q =
          let c = case_fits s (found scope var) var (count_value_arms arms) (value_arms_breaches s (case_stands s (found scope var)) expected var arms) e in
          let look = looked scope env vars agree var c.variable c.is in
          let long : length (case_stands s (found scope var)) ≡ count_value_arms arms = ap (λ o. length (case_stands s o)) c.is ∙ sym c.many in
          let kept = value_arms_kept arms (case_stands s (found scope var)) var first expected long c.none in
          let core_arms : plain.ValueArms = value_arms_core s (case_stands s (found scope var)) expected arms in
          let there : plain.Item = plain.Case (place_of (found scope var)) (value_arm_bodies first core_arms) (first + value_arms_sites core_arms) in (
            λ h. let i = of_one R there vars q h in (i.0, sym look ∙ i.1, (kept i.0 q).0 i.2),
            λ h. one_of R there vars q (h.0, look ∙ h.1, (kept h.0 q).1 h.2),
          )

      values_kept : (row : SourceValues) (scope : List Variable) (env : Environment) (vars : List Tree) → Agree scope env vars → (first : ℕ) (nodes : List ℕ) → values_breaches s scope nodes row ≡ [] → (q : ℕ)
          → model.BodyCharges R (Does (values_own (values_core s scope nodes row)) (values_items first (values_core s scope nodes row))) vars q ↔ ValuesCharge source S env row q
      values_kept no_source_values scope env vars agree first nodes e q = own_only R 0 vars q
      values_kept (a_source_value v rest) scope env vars agree first [] e q =
          let core = value_core s scope None v in
          let others = values_core s scope [] rest in
          let one = value_kept v scope env vars agree first None (nil_left (value_breaches s scope None v) (values_breaches s scope [] rest) e) in
          let more = values_kept rest scope env vars agree (first + value_sites core) [] (nil_right (value_breaches s scope None v) (values_breaches s scope [] rest) e) in
          let is = value_items first core in
          let js = values_items (first + value_sites core) others in (
            λ h. let x = split_body R (value_own core) (values_own others) is js vars q h in (x.0, x.1, (one x.0).0 x.2, (more x.1).0 x.3, x.4),
            λ h. joined_body R (value_own core) (values_own others) is js vars h.0 h.1 q ((one h.0).1 h.2) ((more h.1).1 h.3) h.4,
          )
      values_kept (a_source_value v rest) scope env vars agree first (node ∷ nodes) e q =
          let core = value_core s scope (Some node) v in
          let others = values_core s scope nodes rest in
          let one = value_kept v scope env vars agree first (Some node) (nil_left (value_breaches s scope (Some node) v) (values_breaches s scope nodes rest) e) in
          let more = values_kept rest scope env vars agree (first + value_sites core) nodes (nil_right (value_breaches s scope (Some node) v) (values_breaches s scope nodes rest) e) in
          let is = value_items first core in
          let js = values_items (first + value_sites core) others in (
            λ h. let x = split_body R (value_own core) (values_own others) is js vars q h in (x.0, x.1, (one x.0).0 x.2, (more x.1).0 x.3, x.4),
            λ h. joined_body R (value_own core) (values_own others) is js vars h.0 h.1 q ((one h.0).1 h.2) ((more h.1).1 h.3) h.4,
          )

      pub value_arms_kept : (row : SourceValueArms) (ss : List Stand) (var : Name) (first : ℕ) (expected : Option ℕ) → length ss ≡ count_value_arms row → value_arms_breaches s ss expected var row ≡ [] → (t : Tree) (q : ℕ)
          → CaseCharges R (value_arm_bodies first (value_arms_core s ss expected row)) t q ↔ ValueArmsCharge source S row t q
      value_arms_kept no_source_value_arms ss var first expected l e t q = (λ h. absurd (no_arm R t q h), λ h. absurd (no_written_arm t q h))
      value_arms_kept (a_source_value_arm pattern v rest) [] var first expected l e t q = absurd (omega (arith, l))
      value_arms_kept (a_source_value_arm pattern v rest) (stand ∷ ss) var first expected l e t q =
          let inner = value_breaches s (patterns.bound s stand pattern) expected v in
          let a = arm_fits s stand var pattern inner (nil_left (arm_breaches s stand var pattern inner) (value_arms_breaches s ss expected var rest) e) in
          let short : length ss ≡ count_value_arms rest = omega (arith, l) in
          let core = value_core s (patterns.bound s stand pattern) expected v in
          let next = first + value_sites core in
          arm_step (bind_of pattern) (Does (value_own core) (value_items first core)) pattern v (value_arm_bodies next (value_arms_core s ss expected rest)) rest (as_many s ss expected next rest short)
          (λ u r. value_kept v (patterns.bound s stand pattern) (binds pattern u) (model.bound (bind_of pattern) u) (agree_bound s stand pattern u) first expected a.1 r)
          (λ u r. value_arms_kept rest ss var next expected short (nil_right (arm_breaches s stand var pattern inner) (value_arms_breaches s ss expected var rest) e) u r) t q
