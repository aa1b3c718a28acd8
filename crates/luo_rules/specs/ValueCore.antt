-- The core form of a value.
use Rattle.std.specs.Prelude.{ℕ, List, [], ◌∷◌, Option, Some, None}
use Rattle.luo_source.specs.declared.names.Name.{Name}
use Rattle.luo_source.specs.Plain.Values.{SourceValue, Given, Made, Atom, Tuple, Branch, Case, SourceValues, no_source_values, a_source_value, SourceValueArms, no_source_value_arms, a_source_value_arm}
use Rattle.luo_model.specs.declared.program.Shape.{Shape}
use Rattle.luo_model.specs.declared.program.Shape.TheVariants as shape
use Rattle.luo_model.specs.Program as plain
use Rattle.luo_model.specs.Scopes.Stands.{Stand}
use Rattle.luo_rules.specs.declared.setting.Setting.{Setting}
use Rattle.luo_rules.specs.declared.setting.Variable.{Variable}
use Rattle.luo_rules.specs.Meanings.{value_of, procedure_of}
use Rattle.luo_rules.specs.Settings.{meant, shape_at, found, place_of, case_stands}
use Rattle.luo_rules.specs.Patterns.{bound, bind_of}
use Rattle.luo_rules.specs.ValueBreaches.{part_nodes, inner_node, count_values}

abbrev pub weight_of : Shape → ℕ
weight_of (shape.Atom weight) = weight
weight_of _ = 0

-- the weight of the atom that is expected
abbrev pub expected_weight : Setting → Option ℕ → ℕ
expected_weight s None = 0
expected_weight s (Some node) = weight_of (shape_at s node)

-- the value of the measure that is charged
abbrev pub charge_of : Setting → Option Name → ℕ
charge_of s None = 0
charge_of s (Some measure) = value_of (meant s measure)

abbrev mutual
  -- the core form of a value in a scope, where a structure of this node is expected
  pub value_core : Setting → List Variable → Option ℕ → SourceValue → plain.Value
  value_core s scope expected (Given name) = plain.Given (place_of (found scope name))
  value_core s scope expected (Made callee arg) =
      plain.Made (place_of (found scope arg)) (procedure_of (meant s callee))
  value_core s scope expected (Atom charge at) =
      plain.Atom (expected_weight s expected) (charge_of s charge)
  value_core s scope expected (Tuple parts at) =
      plain.Tuple (values_core s scope (part_nodes s expected (count_values parts)) parts)
  value_core s scope expected (Branch number at inner) =
      plain.Branch number (value_core s scope (inner_node s expected number) inner)
  value_core s scope expected (Case var arms) =
      plain.Chosen (place_of (found scope var))
      (value_arms_core s (case_stands s (found scope var)) expected arms)

  pub values_core : Setting → List Variable → List ℕ → SourceValues → plain.Values
  values_core s scope nodes no_source_values = plain.no_values
  values_core s scope [] (a_source_value v rest) =
      plain.value (value_core s scope None v) (values_core s scope [] rest)
  values_core s scope (node ∷ nodes) (a_source_value v rest) =
      plain.value (value_core s scope (Some node) v) (values_core s scope nodes rest)

  pub value_arms_core : Setting → List Stand → Option ℕ → SourceValueArms
      → plain.ValueArms
  value_arms_core s stands expected no_source_value_arms = plain.no_value_arms
  value_arms_core s [] expected (a_source_value_arm pattern body rest) = plain.no_value_arms
  value_arms_core s (stand ∷ stands) expected (a_source_value_arm pattern body rest) =
      plain.value_arm (bind_of pattern) (value_core s (bound s stand pattern) expected body)
      (value_arms_core s stands expected rest)
