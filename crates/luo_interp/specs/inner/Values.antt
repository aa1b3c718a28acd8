-- The calls of values, and how far calls go on one structure.
use Rattle.std.specs.Prelude.{◌≡◌, ◌⊎◌, ℕ, List}
use Rattle.luo_model.specs.declared.program.Part.{Part}
use Rattle.luo_model.specs.Program.{Program, Value, Made, Tuple, Branch, Values, no_values, value, ValueArms, shape_of}
use Rattle.luo_model.specs.Scopes.Stands.{stands}
use Rattle.luo_model.specs.Scopes.Fits.{FitsValue, FitsValues, FitsValueArms}
use Rattle.luo_interp.specs.inner.Short.{IsShort}

abbrev mutual
  -- a value calls g in its own scope
  pub ValueCalls : ℕ → Value → Type 0
  ValueCalls g (Made var callee) = callee ≡ g
  ValueCalls g (Tuple vs) = ValuesCall g vs
  ValueCalls g (Branch number v) = ValueCalls g v
  ValueCalls g _ = ⊥

  pub ValuesCall : ℕ → Values → Type 0
  ValuesCall g no_values = ⊥
  ValuesCall g (value v vs) = ValueCalls g v ⊎ ValuesCall g vs

-- from what a value calls, calls on the same structure go on for less than so many steps
abbrev pub ValueIsShort : Program → ℕ → Value → Type 0
ValueIsShort p left v = (g : ℕ) → ValueCalls g v → IsShort p left g

abbrev pub ValuesAreShort : Program → ℕ → Values → Type 0
ValuesAreShort p left vs = (g : ℕ) → ValuesCall g vs → IsShort p left g

-- what makes structures of some nodes in a scope of some variables
abbrev pub StandsValue : Program → Value → Type 0
StandsValue p v = (vars : List Part) × (expected : ℕ) × FitsValue p vars expected v

abbrev pub StandValues : Program → Values → Type 0
StandValues p vs = (vars : List Part) × (parts : List Part) × FitsValues p vars parts vs

-- the arms of a case on some part
abbrev pub StandValueArms : Program → ValueArms → Type 0
StandValueArms p arms =
    (on : Part) × (expected : ℕ) × FitsValueArms p (stands on (shape_of p on.node)) expected arms
