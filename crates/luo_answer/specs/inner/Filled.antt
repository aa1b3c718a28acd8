-- An engine whose tables are filled.
use Rattle.std.specs.Prelude.{◌≡◌, ℕ, ◌+◌, ◌<◌, false}
use Rattle.luo_model.specs.View.{Held, plain_of}
use Rattle.luo_model.specs.declared.table.Fill.{Fill}
use Rattle.luo_engine.specs.Entries.{NoneOver}
use Rattle.luo_engine.specs.Run.{Run}

-- so many sizes are filled, of those up to a last one
abbrev pub filled_to : Held → Fill → ℕ → ℕ → Run
filled_to p fill last k =
    record { program = p; last = last; fill = fill; filled = k; stopped = false }

-- and all of them
abbrev pub full : Held → Fill → ℕ → Run
full p fill last = filled_to p fill last (last + 1)

-- the first k sizes are filled, and none of their numbers overflows
pub record IsFilledTo (p : Held) (fill : Fill) (last k : ℕ) (run : Run) : Type 0 where
  pub is : run ≡ filled_to p fill last k
  pub none_over : (m : ℕ) → m < k → NoneOver (plain_of p) fill m
