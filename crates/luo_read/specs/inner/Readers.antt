-- The reader of the code as a state of the machine, and how it goes on.
use Rattle.std.specs.Prelude.{◌≡◌, ℕ, ◌+◌, ◌≤◌, ◌<◌, List, [], ◌∷◌, Option, Some, None, Result, MatchResult, map, length}
use Rattle.luo_num.specs.declared.limits.TheConstants.{NESTING_LIMIT}
use Rattle.luo_model.specs.Tree.{Tree}
use Rattle.luo_struct.specs.declared.structure.Structure.{Structure}
use Rattle.luo_struct.specs.View.{tree_of}
use Rattle.luo_read.specs.declared.answers.StructError.{StructError}
use Rattle.luo_read.specs.declared.answers.StructError.TheVariants as answer
use Rattle.luo_read.specs.declared.reader.Frame.{Frame}
use Rattle.luo_read.specs.declared.reader.Frame.TheVariants as frame
use Rattle.luo_read.specs.declared.reader.Stage.{Stage}
use Rattle.luo_read.specs.declared.reader.Stage.TheVariants as stage
use Rattle.luo_read.specs.declared.reader.Stop.{Stop}
use Rattle.luo_read.specs.declared.reader.Stop.TheVariants as stop
use Rattle.luo_read.specs.declared.reader.Reader.{Reader}
use Rattle.luo_read.specs.Written.{IsWritten, IsUnreadable}
use Rattle.luo_read.specs.Nesting.{Open, Branch, Tuple, Collection, IsTooDeep}
use Rattle.luo_read.specs.inner.Machine as machine
use Rattle.luo_read.specs.inner.Machine.{State, state, settled, normal}
use Rattle.luo_struct.specs.Text.{structure_text}

abbrev pub open_of : Frame → Open
open_of (frame.Branch number) = Branch number
open_of (frame.Tuple parts) = Tuple (map tree_of parts)
open_of (frame.Collection parts) = Collection (map tree_of parts)

-- the frames on these, the last of them innermost
abbrev pub opens_onto : List Open → List Frame → List Open
opens_onto os [] = os
opens_onto os (f ∷ fs) = opens_onto (open_of f ∷ os) fs

abbrev pub opens_of : List Frame → List Open
opens_of fs = opens_onto [] fs

abbrev pub stage_of : Stage → machine.Stage
stage_of stage.Begin = machine.Begin
stage_of stage.First = machine.First
stage_of (stage.Weight number) = machine.Weight number
stage_of (stage.Label number) = machine.Label number
stage_of (stage.Branch number) = machine.Number number
stage_of (stage.Behind s) = machine.Behind (tree_of s)

abbrev pub state_of : Reader → State
state_of r = state (opens_of r.frames) (stage_of r.stage)

-- how many are open
abbrev pub depth : State → ℕ
depth (state os at) = length os

-- why a state isn't the next
abbrev pub Halts : Option State → Stop → Type 0
Halts o stop.Unreadable = o ≡ None
Halts o stop.Deep = (s : State) × (o ≡ Some s) × (depth s ≡ NESTING_LIMIT + 1)
Halts o stop.NoMemory = Unit {0}

-- the next state is this one, and as many may be open as are
abbrev pub Goes : Option State → Result Reader Stop → Type 0
Goes o result =
    MatchResult result (λ r. (o ≡ Some (state_of r)) × (length r.frames ≤ NESTING_LIMIT)) (Halts o)

-- a text of a structure ends here, or it doesn't
abbrev pub Fails : State → Stop → Type 0
Fails s stop.Unreadable = (t : Tree) → settled s ≡ state [] (machine.Behind t) → ⊥
Fails s stop.Deep = ⊥
Fails s stop.NoMemory = Unit {0}

abbrev pub Finishes : State → Result Structure Stop → Type 0
Finishes s result =
    MatchResult result (λ r. settled s ≡ state [] (machine.Behind (tree_of r))) (Fails s)

abbrev pub stopped_as : Stop → ℕ → StructError
stopped_as stop.Unreadable at = answer.S1 at
stopped_as stop.Deep at = answer.Deep at
stopped_as stop.NoMemory at = answer.NoMemory

-- the tree that is read of a text
pub record IsRead (text : List ℕ) (t : Tree) : Type 0 where
  pub not_deep : (k : ℕ) → IsTooDeep text k → ⊥
  pub written : IsWritten t
  pub its_text : structure_text t ≡ text
  pub plain : normal t ≡ t

-- why none is
abbrev pub Stops : List ℕ → StructError → Type 0
Stops text (answer.S1 at) = IsUnreadable text at × ((k : ℕ) → k < at → IsTooDeep text k → ⊥)
Stops text (answer.Deep at) = IsTooDeep text at × ((k : ℕ) → k ≤ at → IsUnreadable text k → ⊥)
Stops text answer.NoMemory = Unit {0}
Stops text _ = ⊥
