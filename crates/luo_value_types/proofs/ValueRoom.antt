-- What the core form of a value takes is bounded by its statements.
use Rattle.std.proofs.Common.{◌≡◌, ℕ, ◌*◌, ◌≤◌, List, [], ◌∷◌, Option, Some, None, refl, arith}
use Rattle.luo_num.specs.declared.limits.TheConstants.{NUMBER_LIMIT}
use Rattle.luo_source.specs.declared.names.Name.{Name}
use Rattle.luo_source.specs.Plain.Values.{SourceValue, Given, Made, Atom, Tuple, Branch, Case, SourceValues, no_source_values, a_source_value, SourceValueArms, no_source_value_arms, a_source_value_arm}
use Rattle.luo_model.specs.Scopes.Stands.{Stand}
use Rattle.luo_model.specs.Scopes.ValueBodies.{value_own, values_own, value_sites, values_sites, value_arms_sites}
use Rattle.luo_rules.specs.declared.names.Meaning.{Meaning}
use Rattle.luo_rules.specs.declared.names.Meaning.TheVariants.{Definition, Measure, Procedure}
use Rattle.luo_rules.specs.declared.setting.Setting.{Setting}
use Rattle.luo_rules.specs.declared.setting.Variable.{Variable}
use Rattle.luo_rules.specs.Meanings as meanings
use Rattle.luo_rules.specs.Settings.{meant, found, case_stands}
use Rattle.luo_rules.specs.Patterns.{bound}
use Rattle.luo_value_types.specs.inner.Room.{HasMeasuresWithin}
use Rattle.luo_rules.specs.Statements.{value_statements, values_statements, value_arms_statements}
use Rattle.luo_rules.specs.ValueBreaches.{part_nodes, inner_node, count_values}
use Rattle.luo_rules.specs.ValueCore.{value_core, values_core, value_arms_core, charge_of}

mutual
  pub sites_within : (s : Setting) (scope : List Variable) (expected : Option ℕ) (v : SourceValue) → value_sites (value_core s scope expected v) ≤ value_statements v
  sites_within s scope expected (Given name) = omega arith
  sites_within s scope expected (Made callee arg) = omega arith
  sites_within s scope expected (Atom charge at) = omega arith
  sites_within s scope expected (Tuple parts at) = values_within s scope (part_nodes s expected (count_values parts)) parts
  sites_within s scope expected (Branch number at inner) = sites_within s scope (inner_node s expected number) inner
  sites_within s scope expected (Case var arms) = omega (arith, arms_within s (case_stands s (found scope var)) expected arms)

  values_within : (s : Setting) (scope : List Variable) (nodes : List ℕ) (row : SourceValues) → values_sites (values_core s scope nodes row) ≤ values_statements row
  values_within s scope nodes no_source_values = omega arith
  values_within s scope [] (a_source_value v rest) = omega (arith, sites_within s scope None v, values_within s scope [] rest)
  values_within s scope (node ∷ nodes) (a_source_value v rest) = omega (arith, sites_within s scope (Some node) v, values_within s scope nodes rest)

  arms_within : (s : Setting) (stands : List Stand) (expected : Option ℕ) (row : SourceValueArms) → value_arms_sites (value_arms_core s stands expected row) ≤ value_arms_statements row
  arms_within s stands expected no_source_value_arms = omega arith
  arms_within s [] expected (a_source_value_arm pattern body rest) = omega arith
  arms_within s (stand ∷ stands) expected (a_source_value_arm pattern body rest) = omega (arith, sites_within s (bound s stand pattern) expected body, arms_within s stands expected rest)

value_within : (s : Setting) (text : List ℕ) → HasMeasuresWithin s → (meant : Option Meaning) → meanings.meaning s.names text ≡ meant → meanings.value_of meant ≤ NUMBER_LIMIT
value_within s text within None e = omega arith
value_within s text within (Some (Definition i)) e = omega arith
value_within s text within (Some (Measure number value)) e = within text number value e
value_within s text within (Some (Procedure f)) e = omega arith

pub charge_within : (s : Setting) (charge : Option Name) → HasMeasuresWithin s → charge_of s charge ≤ NUMBER_LIMIT
charge_within s None within = omega arith
charge_within s (Some measure) within = value_within s measure.text within (meant s measure) refl

mutual
  pub own_within : (s : Setting) (scope : List Variable) (expected : Option ℕ) (v : SourceValue) → HasMeasuresWithin s → value_own (value_core s scope expected v) ≤ value_statements v * NUMBER_LIMIT
  own_within s scope expected (Given name) within = omega arith
  own_within s scope expected (Made callee arg) within = omega arith
  own_within s scope expected (Atom charge at) within = omega (arith, charge_within s charge within)
  own_within s scope expected (Tuple parts at) within = values_own_within s scope (part_nodes s expected (count_values parts)) parts within
  own_within s scope expected (Branch number at inner) within = own_within s scope (inner_node s expected number) inner within
  own_within s scope expected (Case var arms) within = omega arith

  values_own_within : (s : Setting) (scope : List Variable) (nodes : List ℕ) (row : SourceValues) → HasMeasuresWithin s → values_own (values_core s scope nodes row) ≤ values_statements row * NUMBER_LIMIT
  values_own_within s scope nodes no_source_values within = omega arith
  values_own_within s scope [] (a_source_value v rest) within = omega (arith, own_within s scope None v within, values_own_within s scope [] rest within)
  values_own_within s scope (node ∷ nodes) (a_source_value v rest) within = omega (arith, own_within s scope (Some node) v within, values_own_within s scope nodes rest within)
