-- The structure that a cursor steps on from.
use Rattle.std.specs.Prelude.{◌≡◌, ◌+◌, ℕ, Option, Some, None}
use Rattle.luo_finite.specs.Places.{IsPlace}
use Rattle.luo_model.specs.Order.{IsBefore}
use Rattle.luo_model.specs.Structures.{IsStructure}
use Rattle.luo_model.specs.View.{Held, plain_of}
use Rattle.luo_struct.specs.declared.structure.Structure.{Structure}
use Rattle.luo_struct.specs.View.{tree_of}

-- what is kept has the place before the next one
abbrev pub IsKept : Held → ℕ → ℕ → ℕ → Option Structure → Type 0
IsKept program node size place None = Unit {0}
IsKept program node size place (Some s) = (r : ℕ) × (r + 1 ≡ place)
    × IsPlace (IsStructure (plain_of program) node size) IsBefore r (tree_of s)
