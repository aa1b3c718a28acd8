-- How the place of a structure is found.
use Rattle.std.specs.Prelude.{ℕ, ◌-◌, ◌<◌, ◌≤◌}
use Rattle.luo_finite.specs.Places.{IsPlace}
use Rattle.luo_model.specs.Tree.{Tree}
use Rattle.luo_model.specs.Order.{IsBefore}
use Rattle.luo_model.specs.Program.{Program}
use Rattle.luo_model.specs.Structures.{IsStructure}

-- s has no place but from low on and below high
abbrev pub IsWithin : Program → ℕ → ℕ → Tree → ℕ → ℕ → Type 0
IsWithin p x n s low high =
    (r : ℕ) → IsPlace (IsStructure p x n) IsBefore r s → (low ≤ r) × (r < high)

-- the second span of places is shorter than the first, and has the place of s where the first has
-- it
pub record IsHalf (p : Program) (x n : ℕ) (s : Tree)
    (low high next_low next_high : ℕ) : Type 0 where
  pub some : next_low < next_high
  pub inside : next_high ≤ high
  pub shorter : next_high - next_low < high - low
  pub kept : IsWithin p x n s low high → IsWithin p x n s next_low next_high
