-- A source as plain data.
use Rattle.std.specs.Prelude.{ℕ, List}
use Rattle.luo_model.specs.declared.program.Universe.{Universe}
use Rattle.luo_source.specs.declared.names.Name.{Name}
use Rattle.luo_source.specs.declared.types.MeasureDef.{MeasureDef}
use Rattle.luo_source.specs.Plain.Types.{TypeDef}
use Rattle.luo_source.specs.Plain.Statements.{Stmts}
use Rattle.luo_source.specs.Plain.Values.{SourceValue}

-- what a procedure does: statements, or a value of a type, with the mark before that type
pub data ProcBody : Type 0 where
  Statements : Stmts → ProcBody
  Value : (colon : ℕ) → (result : Name) → SourceValue → ProcBody

-- a procedure of one parameter, of the type `on`
pub record ProcDef : Type 0 where
  pub name : Name
  pub param : Name
  pub on : Name
  pub body : ProcBody

-- a program as its text says it
pub record Source : Type 0 where
  pub universe : Universe
  pub types : List TypeDef
  pub measures : List MeasureDef
  pub procs : List ProcDef
  pub analyses : List Name
