-- What holds of all texts of structures.
use Rattle.std.specs.Prelude.{◌≡◌, ℕ, ◌≤◌, List, length}
use Rattle.luo_num.specs.declared.limits.TheConstants.{STRUCTURE_TEXT_LIMIT}
use Rattle.luo_model.specs.Program.{Program}
use Rattle.luo_model.specs.Invariant.{IsProgram}
use Rattle.luo_model.specs.Tree.{Tree}
use Rattle.luo_read.specs.Reading.{IsNamed}

-- two structures of a node with one text are the same
abbrev pub OneStructure : Type 0
OneStructure =
    (p : Program) → IsProgram p → (x : ℕ) (text : List ℕ) → length text ≤ STRUCTURE_TEXT_LIMIT
    → (t u : Tree) → IsNamed p x text t → IsNamed p x text u → t ≡ u
