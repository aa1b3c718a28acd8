-- Parts and arms of values as lists, as the code goes over them.
use Rattle.std.specs.Prelude.{ℕ, List, Option}
use Rattle.luo_source.specs.declared.names.Name.{Name}
use Rattle.luo_source.specs.declared.values.SourceValue.{SourceValue}
use Rattle.luo_source.specs.declared.values.SourceValueArm.{SourceValueArm}
use Rattle.luo_source.specs.View.{source_value_list, source_value_arm_list}
use Rattle.luo_model.specs.Program as plain
use Rattle.luo_model.specs.Scopes.Stands.{Stand}
use Rattle.luo_rules.specs.declared.rule.Breach.{Breach}
use Rattle.luo_rules.specs.declared.setting.Setting.{Setting}
use Rattle.luo_rules.specs.declared.setting.Variable.{Variable}
use Rattle.luo_rules.specs.Statements.{values_statements, value_arms_statements}
use Rattle.luo_rules.specs.ValueBreaches.{values_breaches, value_arms_breaches}
use Rattle.luo_rules.specs.ValueCore.{values_core, value_arms_core}

-- the breaches and the core forms of parts, of which these nodes are expected
abbrev pub parts_breaches : Setting → List Variable → List ℕ → List SourceValue → List Breach
parts_breaches s scope nodes parts = values_breaches s scope nodes (source_value_list parts)

abbrev pub parts_core : Setting → List Variable → List ℕ → List SourceValue → plain.Values
parts_core s scope nodes parts = values_core s scope nodes (source_value_list parts)

abbrev pub parts_statements : List SourceValue → ℕ
parts_statements parts = values_statements (source_value_list parts)

-- the breaches and the core forms of arms that stand for these, in a case on this variable
abbrev pub arms_breaches : Setting → List Stand → Option ℕ → Name → List SourceValueArm
    → List Breach
arms_breaches s stands expected var arms =
    value_arms_breaches s stands expected var (source_value_arm_list arms)

abbrev pub arms_core : Setting → List Stand → Option ℕ → List SourceValueArm → plain.ValueArms
arms_core s stands expected arms = value_arms_core s stands expected (source_value_arm_list arms)

abbrev pub arms_statements : List SourceValueArm → ℕ
arms_statements arms = value_arms_statements (source_value_arm_list arms)
