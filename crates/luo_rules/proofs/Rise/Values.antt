-- The breaches of values stand at rising tokens.
use Rattle.std.proofs.Common.{ℕ, ◌+◌, List, [], ◌∷◌, length, refl, sym, subst, Bool, true, false, Option, Some, None, arith}
use Rattle.std.specs.Prelude.{codes, decimal}
use Rattle.luo_model.specs.Scopes.Stands.{Stand, inside, no_part}
use Rattle.luo_scan.specs.declared.token.Mark.TheVariants.{Comma}
use Rattle.luo_scan.specs.declared.token.TokenKind.TheVariants as kind
use Rattle.luo_scan.specs.Lexemes.{Lexeme, lexeme}
use Rattle.luo_source.specs.declared.names.Name.{Name}
use Rattle.luo_source.specs.declared.values.SourceValueArm.{SourceValueArm}
use Rattle.luo_source.specs.declared.values.SourceValue.{SourceValue}
use Rattle.luo_source.specs.GrammarValues.{IsValue, branch_value, inner_value, IsBranch, branch, IsInner, given, made, free_atom, charged_atom, bracketed, tuple, case_value, AreParts, last_part, more_parts, AreValueArms, last_value_arm, more_value_arms, IsValueArm, one_value_arm}
use Rattle.luo_model.specs.declared.program.Part.{Part}
use Rattle.luo_source.specs.View.{source_value_of, source_value_list, source_value_arm_list}
use Rattle.luo_rules.specs.declared.setting.Setting.{Setting}
use Rattle.luo_rules.specs.declared.setting.Variable.{Variable}
use Rattle.luo_rules.specs.Settings.{meant, signature_meant, found, case_stands}
use Rattle.luo_rules.specs.Patterns.{bound, arm_breaches, has_factors}
use Rattle.luo_rules.specs.ValueBreaches.{differs, given_breaches, result_breaches, is_atom, may_stand, part_nodes, inner_node, has_branch, misplaced, value_breaches, values_breaches, value_arms_breaches}
use Rattle.luo_rules.proofs.ValueForms.{tuple_breaches, branch_breaches, case_value_breaches}
use Rattle.luo_rules.proofs.Rise.Lists.{At, none, single, at_if, at_or, placed, led}
use Rattle.luo_rules.proofs.Rise.Names.{From, Spans, behind, past, alone, from_lower, led_by, measure_use_at, procedure_use_at}
use Rattle.luo_rules.proofs.Rise.Patterns.{emptied, pattern_spans, arm_spans, argument_at, case_spans}

given_at : (there : Option (ℕ × Part)) (expected : Option ℕ) (name : Name) → At name.at (given_breaches there expected name)
given_at None expected name = single refl
given_at (Some variable) expected name = at_if (differs expected variable.1.node) (single refl) none

result_at : (expected : Option ℕ) (result : Option (Option ℕ)) (name : Name) → At name.at (result_breaches expected result name)
result_at None result name = none
result_at (Some expected) None name = single refl
result_at (Some expected) (Some None) name = none
result_at (Some expected) (Some (Some node)) name = at_if (differs (Some expected) node) (single refl) none

misplaced_at : (test : Bool) (token : ℕ) (text : List ℕ) → At token (misplaced test token text)
misplaced_at true token text = none
misplaced_at false token text = single refl

-- the first part, a comma, and the others
first_part : (s : Setting) (scope : List Variable) (nodes : List ℕ) (v : SourceValue) (vs : List SourceValue) {low j : ℕ} {bytes : List ℕ} {mid to : List Lexeme} → ((e : Option ℕ) → Spans low (lexeme (kind.Mark Comma) bytes j ∷ mid) (value_breaches s scope e (source_value_of v))) → ((more : List ℕ) → From (j + 1) mid → Spans (j + 1) to (values_breaches s scope more (source_value_list vs))) → Spans low to (values_breaches s scope nodes (source_value_list (v ∷ vs)))
first_part s scope [] v vs one rest = behind (one None) (rest [] (one None).left.1)
first_part s scope (node ∷ nodes) v vs one rest = behind (one (Some node)) (rest nodes (one (Some node)).left.1)

mutual
  pub value_spans : (s : Setting) (scope : List Variable) (expected : Option ℕ) (low : ℕ) {from to : List Lexeme} {v : SourceValue} → IsValue from to v → From low from → Spans low to (value_breaches s scope expected (source_value_of v))
  value_spans s scope expected low (branch_value p) h = branch_spans s scope expected low p h
  value_spans s scope expected low (inner_value p) h = inner_spans s scope expected low p h

  branch_spans : (s : Setting) (scope : List Variable) (expected : Option ℕ) (low : ℕ) {from to : List Lexeme} {v : SourceValue} → IsBranch from to v → From low from → Spans low to (value_breaches s scope expected (source_value_of v))
  branch_spans s scope expected low (branch {number} {at} {k = j} {v} p) h =
      let inner = from_lower (omega (arith, h.1.0)) (inner_spans s scope (inner_node s expected number) (j + 1) p h.1.1) in
      subst (Spans low _) (sym (branch_breaches s scope expected number at v)) (led_by (misplaced_at (may_stand s expected (has_branch number)) at (decimal number)) h.0 inner)

  inner_spans : (s : Setting) (scope : List Variable) (expected : Option ℕ) (low : ℕ) {from to : List Lexeme} {v : SourceValue} → IsInner from to v → From low from → Spans low to (value_breaches s scope expected (source_value_of v))
  inner_spans s scope expected low (given {text} {at}) h =
      let name : Name = record { text = text; at = at } in
      record { next = at + 1; left = h.1; within = placed (given_at (found scope name) expected name) h.0 (omega arith) }
  inner_spans s scope expected low (made {text} {arg} {at} {arg_at} {l}) h =
      let callee : Name = record { text = text; at = at } in
      let given : Name = record { text = arg; at = arg_at } in
      let called = at_or (procedure_use_at (meant s callee) callee) (result_at expected (signature_meant s (meant s callee)).result callee) in
      let argument = placed (argument_at (found scope given) (signature_meant s (meant s callee)).on given callee) (omega (arith, h.1.0, h.1.1.0)) (omega (arith, h.1.1.1.0)) in
      record { next = l + 1; left = h.1.1.1.1; within = led called h.0 argument }
  inner_spans s scope expected low (free_atom {at}) h =
      record { next = at + 1; left = h.1; within = placed (misplaced_at (may_stand s expected is_atom) at (codes "atom")) h.0 (omega arith) }
  inner_spans s scope expected low (charged_atom {text} {name_at} {at}) h =
      let charge : Name = record { text = text; at = name_at } in
      let atom = placed (misplaced_at (may_stand s expected is_atom) at (codes "atom")) h.1.0 (omega arith) in
      record { next = at + 1; left = h.1.1; within = led (measure_use_at (meant s charge) charge) h.0 atom }
  inner_spans s scope expected low (bracketed {k = j} p) h = past (from_lower (omega (arith, h.0)) (branch_spans s scope expected (j + 1) p h.1))
  inner_spans s scope expected low (tuple {at} {k = j} {l} {v} {vs} p ps) h =
      let count = length (v ∷ vs) in
      let parts = from_lower (omega (arith, h.1.0)) (first_part s scope (part_nodes s expected count) v vs (λ e. value_spans s scope e (j + 1) p h.1.1) (λ more g. parts_spans s scope more (l + 1) ps g)) in
      subst (Spans low _) (sym (tuple_breaches s scope expected (v ∷ vs) at)) (led_by (misplaced_at (may_stand s expected (has_factors count)) at (codes "product")) h.0 parts)
  inner_spans s scope expected low (case_value {text} {at} {l} {arms} p) h =
      let var : Name = record { text = text; at = at } in
      let inner = arms_spans s (case_stands s (found scope var)) expected var (l + 1) p h.1.1.1 in
      subst (Spans low _) (sym (case_value_breaches s scope expected var arms)) (case_spans s (found scope var) var (length arms) (omega (arith, h.0, h.1.0)) (omega (arith, h.1.1.0)) inner)

  parts_spans : (s : Setting) (scope : List Variable) (nodes : List ℕ) (low : ℕ) {from to : List Lexeme} {vs : List SourceValue} → AreParts from to vs → From low from → Spans low to (values_breaches s scope nodes (source_value_list vs))
  parts_spans s scope [] low (last_part p) h = alone (past (value_spans s scope None low p h))
  parts_spans s scope (node ∷ nodes) low (last_part p) h = alone (past (value_spans s scope (Some node) low p h))
  parts_spans s scope [] low (more_parts {k = j} p ps) h =
      let one = value_spans s scope None low p h in
      behind one (parts_spans s scope [] (j + 1) ps one.left.1)
  parts_spans s scope (node ∷ nodes) low (more_parts {k = j} p ps) h =
      let one = value_spans s scope (Some node) low p h in
      behind one (parts_spans s scope nodes (j + 1) ps one.left.1)

  arms_spans : (s : Setting) (stands : List Stand) (expected : Option ℕ) (var : Name) (low : ℕ) {from to : List Lexeme} {arms : List SourceValueArm} → AreValueArms from to arms → From low from → Spans low to (value_arms_breaches s stands expected var (source_value_arm_list arms))
  arms_spans s [] expected var low (last_value_arm p) h = emptied (past (one_arm_spans s (inside no_part) expected var low p h))
  arms_spans s (stand ∷ stands) expected var low (last_value_arm p) h = alone (past (one_arm_spans s stand expected var low p h))
  arms_spans s [] expected var low (more_value_arms {k = j} p ps) h =
      let one = one_arm_spans s (inside no_part) expected var low p h in
      emptied (behind one (arms_spans s [] expected var (j + 1) ps one.left.1))
  arms_spans s (stand ∷ stands) expected var low (more_value_arms {k = j} p ps) h =
      let one = one_arm_spans s stand expected var low p h in
      behind one (arms_spans s stands expected var (j + 1) ps one.left.1)

  one_arm_spans : (s : Setting) (stand : Stand) (expected : Option ℕ) (var : Name) (low : ℕ) {from to : List Lexeme} {arm : SourceValueArm} → IsValueArm from to arm → From low from → Spans low to (arm_breaches s stand var arm.pattern (value_breaches s (bound s stand arm.pattern) expected (source_value_of arm.body)))
  one_arm_spans s stand expected var low (one_value_arm {k = j} {p} q body) h =
      let one = pattern_spans s stand var low q h in
      arm_spans s stand var p one (value_spans s (bound s stand p) expected (j + 1) body one.left.1)
