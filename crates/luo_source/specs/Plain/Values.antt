-- Values as plain data.
use Rattle.std.specs.Prelude.{ℕ, Option}
use Rattle.luo_source.specs.declared.names.Name.{Name}
use Rattle.luo_source.specs.declared.statements.Pattern.{Pattern}

mutual
  -- a variable's structure, what a procedure makes on a variable, an atom with the measure charged
  -- at it, a tuple, a structure of a branch of a union, and what the arm of a variable's branch
  -- makes
  pub data SourceValue : Type 0 where
    Given : Name → SourceValue
    Made : (callee arg : Name) → SourceValue
    Atom : (charge : Option Name) → (at : ℕ) → SourceValue
    Tuple : SourceValues → (at : ℕ) → SourceValue
    Branch : (number at : ℕ) → SourceValue → SourceValue
    Case : (var : Name) → SourceValueArms → SourceValue

  pub data SourceValues : Type 0 where
    no_source_values : SourceValues
    a_source_value : SourceValue → SourceValues → SourceValues

  pub data SourceValueArms : Type 0 where
    no_source_value_arms : SourceValueArms
    a_source_value_arm : Pattern → SourceValue → SourceValueArms → SourceValueArms
