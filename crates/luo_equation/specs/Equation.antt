-- Equations as plain data.
use Rattle.std.specs.Prelude.{ℕ, ℤ}
use Rattle.luo_equation.specs.declared.equation.Left.{Left}
use Rattle.luo_equation.specs.declared.equation.Left.TheVariants as left
use Rattle.luo_equation.specs.Expr.{Expr, Table}

pub record Equation : Type 0 where
  pub left : Left
  pub right : Expr

-- the number of what an equation defines
abbrev pub left_number : Table → Left → ℕ → ℤ
left_number t (left.Series i) n = t.x i n
left_number t (left.Tau f) n = t.y f n
