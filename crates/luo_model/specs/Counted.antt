-- The counts of a program, kept size by size.
use Rattle.std.specs.Prelude.{◌≡◌, ℕ, ◌-◌, ◌≤◌, ◌^◌, List, Some, length, slice_get}
use Rattle.luo_num.specs.declared.TheConstants.{MAX}
use Rattle.luo_model.specs.Program.{Program}
use Rattle.luo_model.specs.View.{Held}
use Rattle.luo_model.specs.Tables.{IsCount}

-- counts as contracts see them: the program for which they were made, and the last size that is
-- kept
pub record Counted : Type 0 where
  pub program : Held
  pub last : ℕ

-- the last size of rows that begin with size 0
abbrev pub last_of : List (List ℕ) → ℕ
last_of rows = length rows - 1

-- row n has the count of each node at size n, none of which overflows; and there is a row, and no
-- more than sizes can number
pub record AreCounts (p : Program) (rows : List (List ℕ)) : Type 0 where
  pub some : 1 ≤ length rows
  pub numbered : length rows ≤ 2 ^ 32
  pub wide : (n : ℕ) (row : List ℕ) → slice_get rows n ≡ Some row → length row ≡ length p.nodes
  pub right : (n x c : ℕ) (row : List ℕ) → slice_get rows n ≡ Some row → slice_get row x ≡ Some c
      → IsCount p x n c
  pub small : (n x c : ℕ) (row : List ℕ) → slice_get rows n ≡ Some row → slice_get row x ≡ Some c
      → c ≤ MAX
