-- A value of the core form has as many sites as the value as written.
use Rattle.std.proofs.Common.{◌≡◌, ℕ, ◌+◌, List, [], ◌∷◌, length, Option, Some, None, refl, sym, ap, ◌∙◌, arith}
use Rattle.luo_model.specs.Scopes.ValueBodies as scopes
use Rattle.luo_model.specs.Scopes.Stands.{Stand}
use Rattle.luo_source.specs.declared.names.Name.{Name}
use Rattle.luo_source.specs.Plain.Values.{SourceValue, Given, Made, Atom, Tuple, Branch, Case, SourceValues, no_source_values, a_source_value, SourceValueArms, no_source_value_arms, a_source_value_arm}
use Rattle.luo_rules.specs.declared.setting.Setting.{Setting}
use Rattle.luo_rules.specs.declared.setting.Variable.{Variable}
use Rattle.luo_rules.specs.Settings.{found, case_stands}
use Rattle.luo_rules.specs.Patterns as patterns
use Rattle.luo_rules.specs.Patterns.{arm_breaches}
use Rattle.luo_rules.specs.ValueBreaches.{part_nodes, inner_node, count_values, count_value_arms, value_breaches, values_breaches, value_arms_breaches}
use Rattle.luo_rules.specs.ValueCore.{value_core, values_core, value_arms_core}
use Rattle.luo_rules.proofs.Lists.{nil_left, nil_right}
use Rattle.luo_rules.proofs.PatternFacts.{arm_fits, case_fits}
use Rattle.luo_meaning.specs.Sites.{value_sites, parts_sites, value_arms_sites}

module _ (s : Setting) where
  mutual
    pub value_same : (v : SourceValue) (scope : List Variable) (expected : Option ℕ) → value_breaches s scope expected v ≡ [] → scopes.value_sites (value_core s scope expected v) ≡ value_sites v
    value_same (Given name) scope expected e = refl
    value_same (Made callee arg) scope expected e = refl
    value_same (Atom charge at) scope expected e = refl
    value_same (Tuple parts at) scope expected e =
        let nodes = part_nodes s expected (count_values parts) in
        values_same parts scope nodes (nil_right _ (values_breaches s scope nodes parts) e)
    value_same (Branch number at inner) scope expected e =
        let node = inner_node s expected number in
        value_same inner scope node (nil_right _ (value_breaches s scope node inner) e)
    value_same (Case var arms) scope expected e =
        let o = found scope var in
        let k = case_fits s o var (count_value_arms arms) (value_arms_breaches s (case_stands s o) expected var arms) e in
        let long : length (case_stands s o) ≡ count_value_arms arms = ap (λ z. length (case_stands s z)) k.is ∙ sym k.many in
        ap (λ n. n + 1) (value_arms_same arms (case_stands s o) var expected long k.none)

    values_same : (row : SourceValues) (scope : List Variable) (nodes : List ℕ) → values_breaches s scope nodes row ≡ [] → scopes.values_sites (values_core s scope nodes row) ≡ parts_sites row
    values_same no_source_values scope nodes e = refl
    values_same (a_source_value v rest) scope [] e =
        let one = value_same v scope None (nil_left (value_breaches s scope None v) (values_breaches s scope [] rest) e) in
        let more = values_same rest scope [] (nil_right (value_breaches s scope None v) (values_breaches s scope [] rest) e) in
        omega (arith, one, more)
    values_same (a_source_value v rest) scope (node ∷ nodes) e =
        let one = value_same v scope (Some node) (nil_left (value_breaches s scope (Some node) v) (values_breaches s scope nodes rest) e) in
        let more = values_same rest scope nodes (nil_right (value_breaches s scope (Some node) v) (values_breaches s scope nodes rest) e) in
        omega (arith, one, more)

    pub value_arms_same : (row : SourceValueArms) (ss : List Stand) (var : Name) (expected : Option ℕ) → length ss ≡ count_value_arms row → value_arms_breaches s ss expected var row ≡ []
        → scopes.value_arms_sites (value_arms_core s ss expected row) ≡ value_arms_sites row
    value_arms_same no_source_value_arms ss var expected l e = refl
    value_arms_same (a_source_value_arm pattern v rest) [] var expected l e = absurd (omega (arith, l))
    value_arms_same (a_source_value_arm pattern v rest) (t ∷ ss) var expected l e =
        let inner = value_breaches s (patterns.bound s t pattern) expected v in
        let a = arm_fits s t var pattern inner (nil_left (arm_breaches s t var pattern inner) (value_arms_breaches s ss expected var rest) e) in
        let one = value_same v (patterns.bound s t pattern) expected a.1 in
        let more = value_arms_same rest ss var expected (omega (arith, l)) (nil_right (arm_breaches s t var pattern inner) (value_arms_breaches s ss expected var rest) e) in
        omega (arith, one, more)
