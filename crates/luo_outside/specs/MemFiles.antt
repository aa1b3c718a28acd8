-- A source in memory.
use Rattle.std.specs.Prelude.{◌≡◌, ℕ, List, None}
use Rattle.luo_outside.specs.Memory.{File, name_at}
use Rattle.luo_outside.specs.declared.mem_files.MemFiles.{MemFiles}

-- it is made with these files, pieces and failing calls, no name is found, and no call was made
pub record IsFresh (files : List File) (piece : ℕ) (fails : List ℕ) (made : MemFiles) : Type 0 where
  pub same_files : made.files ≡ files
  pub same_piece : made.piece ≡ piece
  pub same_fails : made.fails ≡ fails
  pub found : name_at made.files made.place ≡ None
  pub calls : made.calls ≡ 0
  pub faults : made.faults ≡ 0

-- a call changed neither the files nor the pieces nor the failing calls
abbrev pub SameGiven : MemFiles → MemFiles → Type 0
SameGiven old new = (new.files ≡ old.files) × (new.piece ≡ old.piece) × (new.fails ≡ old.fails)
