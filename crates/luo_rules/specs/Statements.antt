-- The number of statements of a value.
use Rattle.std.specs.Prelude.{ℕ, suc, ◌+◌}
use Rattle.luo_source.specs.Plain.Values.{SourceValue, Given, Made, Atom, Tuple, Branch, Case, SourceValues, no_source_values, a_source_value, SourceValueArms, no_source_value_arms, a_source_value_arm}

abbrev mutual
  -- each atom, variable handed on, call and case counts one
  pub value_statements : SourceValue → ℕ
  value_statements (Given name) = 1
  value_statements (Made callee arg) = 1
  value_statements (Atom charge at) = 1
  value_statements (Tuple parts at) = values_statements parts
  value_statements (Branch number at inner) = value_statements inner
  value_statements (Case var arms) = suc (value_arms_statements arms)

  pub values_statements : SourceValues → ℕ
  values_statements no_source_values = 0
  values_statements (a_source_value v rest) = value_statements v + values_statements rest

  pub value_arms_statements : SourceValueArms → ℕ
  value_arms_statements no_source_value_arms = 0
  value_arms_statements (a_source_value_arm pattern body rest) =
      value_statements body + value_arms_statements rest
