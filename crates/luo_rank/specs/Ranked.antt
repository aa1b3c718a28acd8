-- A ranker as contracts see it.
use Rattle.std.specs.Prelude.{ℕ}
use Rattle.luo_model.specs.View.{Held}

-- the program, the node and the size whose structures are looked up, and how many there are
pub record Ranked : Type 0 where
  pub program : Held
  pub node : ℕ
  pub size : ℕ
  pub count : ℕ
