-- What contracts see of a run of the engine.
use Rattle.std.specs.Prelude.{ℕ, Bool}
use Rattle.luo_model.specs.declared.table.Fill.{Fill}
use Rattle.luo_model.specs.View.{Held}

-- the program, its last size and what is filled in, how many sizes are filled, and whether an
-- overflow was answered
pub record Run : Type 0 where
  pub program : Held
  pub last : ℕ
  pub fill : Fill
  pub filled : ℕ
  pub stopped : Bool
