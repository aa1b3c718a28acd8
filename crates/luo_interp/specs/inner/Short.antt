-- Programs that run to an end, and how far calls go on one structure.
use Rattle.std.specs.Prelude.{ℕ, ◌<◌, List}
use Rattle.luo_finite.specs.Walk.{Walk, OnCircle}
use Rattle.luo_model.specs.declared.program.Part.{Part}
use Rattle.luo_model.specs.Invariant.{IsProgram}
use Rattle.luo_model.specs.Program.{Program, Body, Items, Item, item, no_items, Arms}
use Rattle.luo_model.specs.Founded.{CallsAmong, CallsIn, OwnCall}
use Rattle.luo_model.specs.Scopes.Stands.{stands}
use Rattle.luo_model.specs.Scopes.Fits.{FitsBody, FitsItems, FitsItem, FitsArms}
use Rattle.luo_model.specs.Program.{shape_of}

-- a program in which no procedure leads back to itself on one structure
pub record Ends (p : Program) : Type 0 where
  pub program : IsProgram p
  pub founded : (f : ℕ) → OnCircle (OwnCall p) f → ⊥

-- from procedure f on, calls on the same structure go on for less than so many steps
abbrev pub IsShort : Program → ℕ → ℕ → Type 0
IsShort p left f = (steps g : ℕ) → Walk (OwnCall p) steps f g → steps < left

-- and from what these items call
abbrev pub AreShort : Program → ℕ → Items → Type 0
AreShort p left items = (g : ℕ) → CallsAmong g items → IsShort p left g

abbrev pub BodyIsShort : Program → ℕ → Body → Type 0
BodyIsShort p left body = (g : ℕ) → CallsIn g body → IsShort p left g

abbrev pub ItemIsShort : Program → ℕ → Item → Type 0
ItemIsShort p left i = AreShort p left (item i no_items)

-- what stands in a scope of some variables
abbrev pub StandsBody : Program → Body → Type 0
StandsBody p body = (vars : List Part) × FitsBody p vars body

abbrev pub StandItems : Program → Items → Type 0
StandItems p items = (vars : List Part) × FitsItems p vars items

abbrev pub StandsItem : Program → Item → Type 0
StandsItem p i = (vars : List Part) × FitsItem p vars i

-- the arms of a case on some part
abbrev pub StandArms : Program → Arms → Type 0
StandArms p arms = (on : Part) × FitsArms p (stands on (shape_of p on.node)) arms
