-- Counts copied out of the tables, size by size.
use Rattle.std.specs.Prelude.{◌≡◌, ℕ, ◌≤◌, List, Some, length, slice_get}
use Rattle.luo_num.specs.declared.TheConstants.{MAX}
use Rattle.luo_model.specs.Program.{Program}
use Rattle.luo_model.specs.Tables.{IsCount}

-- the counts of the first nodes at size n
pub record IsCountRow (p : Program) (nodes n : ℕ) (row : List ℕ) : Type 0 where
  pub wide : length row ≡ nodes
  pub right : (x c : ℕ) → slice_get row x ≡ Some c → IsCount p x n c
  pub small : (x c : ℕ) → slice_get row x ≡ Some c → c ≤ MAX

-- the counts of the first nodes at the sizes below this one
pub record AreCountRows (p : Program) (nodes sizes : ℕ) (rows : List (List ℕ)) : Type 0 where
  pub long : length rows ≡ sizes
  pub each : (n : ℕ) (row : List ℕ) → slice_get rows n ≡ Some row → IsCountRow p nodes n row
