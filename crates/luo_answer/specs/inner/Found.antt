-- The type or the procedure of a name, found from the first one on; and the text of a run, put
-- behind another.
use Rattle.std.specs.Prelude.{◌≡◌, ℕ, suc, Bool, true, false, List, [], ◌∷◌, ◌++◌, if◌then◌else◌, Option, None, Some, slice_get}
use Rattle.std.specs.Str.{bytes_eq}
use Rattle.luo_model.specs.declared.program.Def.{Def}
use Rattle.luo_model.specs.declared.program.Proc.{Proc}
use Rattle.luo_model.specs.Program.{Program, Procedure, Result}
use Rattle.luo_model.specs.Tree.{Tree}
use Rattle.luo_answer.specs.Commands.Run.{HasTail}

abbrev pub place_from : ℕ → List Proc → List ℕ → Option ℕ
place_from f [] name = None
place_from f (P ∷ procs) name =
    if bytes_eq P.name name then Some f else place_from (suc f) procs name

-- the place of the first procedure of a name
abbrev pub place_of : List Proc → List ℕ → Option ℕ
place_of procs name = place_from 0 procs name

-- the node of the first type of a name
abbrev pub def_of : List Def → List ℕ → Option ℕ
def_of [] name = None
def_of (d ∷ defs) name = if bytes_eq d.name name then Some d.whole.node else def_of defs name

-- procedure f is there
abbrev pub IsThere : Program → ℕ → Type 0
IsThere p f = (P : Procedure) × (slice_get p.procs f ≡ Some P)

-- procedure f has a result
abbrev pub is_result : Option Result → Bool
is_result None = false
is_result (Some result) = true

abbrev pub makes_some : Option Procedure → Bool
makes_some None = false
makes_some (Some P) = is_result P.result

abbrev pub has_result : Program → ℕ → Bool
has_result p f = makes_some (slice_get p.procs f)

-- the tail of procedure f on t is put behind a text
abbrev pub AddsTail : Program → ℕ → Tree → List ℕ → List ℕ → Type 0
AddsTail p f t old new = (tail : List ℕ) × HasTail p f t tail × (new ≡ old ++ tail)
