-- The equations of a founded program: they hold of its counts and totals, and of nothing else that
-- starts with zeros.
use Rattle.std.specs.Prelude.{◌≡◌, ℕ, ◌≤◌, List}
use Rattle.luo_model.specs.declared.table.Row.{Row}
use Rattle.luo_model.specs.Program.{Program}
use Rattle.luo_model.specs.Invariant.{IsProgram}
use Rattle.luo_model.specs.Tables.{IsRow}
use Rattle.luo_model.specs.Founded.{IsFounded}
use Rattle.luo_equation.specs.Expr.{Table}
use Rattle.luo_equation.specs.Equation.{Equation}
use Rattle.luo_system.specs.System.{system}
use Rattle.luo_system.specs.Holding.{IsRight, HasZeroStart, AreTrue, Determine, HasTable, Describe, HasRow, IsTableOf}

-- the equations hold of a right table, and no quotient leaves a remainder
abbrev pub RightTablesHold : Type 0
RightTablesHold = (p : Program) → IsProgram p → IsFounded p → AreTrue p (system p)

-- a table exists that is right at every size
abbrev pub RightTablesExist : Type 0
RightTablesExist = (p : Program) → IsProgram p → IsFounded p → HasTable p

-- a table of which the two sides of each equation agree, and which starts with zeros, is right
abbrev pub HoldingTablesAreRight : Type 0
HoldingTablesAreRight = (p : Program) → IsProgram p → IsFounded p → Determine p (system p)

-- the three, for equations that are those of the program
abbrev pub SystemsDescribe : Type 0
SystemsDescribe =
    (p : Program) → IsProgram p → IsFounded p → (es : List Equation) → es ≡ system p → Describe p es

-- a right table has the rows of its sizes
abbrev pub RightTablesHaveRows : Type 0
RightTablesHaveRows =
    (p : Program) → IsProgram p → (N : ℕ) (t : Table) → IsRight p N t → (f : ℕ) (row : Row)
    → IsRow p f row → row.n ≤ N → HasRow p t f row

-- a right table starts with zeros
abbrev pub RightTablesStartWithZeros : Type 0
RightTablesStartWithZeros = (p : Program) (N : ℕ) (t : Table) → IsRight p N t → HasZeroStart p t

-- there is one table of the equations: its numbers are the counts and the totals
abbrev pub SystemsHaveTables : Type 0
SystemsHaveTables =
    (p : Program) → IsProgram p → IsFounded p → (es : List Equation) → es ≡ system p
    → (t : Table) × IsTableOf p es t
