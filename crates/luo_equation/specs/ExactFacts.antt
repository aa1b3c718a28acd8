-- Quotients that leave a remainder.
use Rattle.std.specs.Prelude.{pos, None}
use Rattle.luo_model.specs.declared.program.Universe.TheVariants.{Labelled}
use Rattle.luo_model.specs.declared.program.Kind.TheVariants.{Sequence, Set, Cycle}
use Rattle.luo_equation.specs.Expr.{Expr, Series, Sum, Prod, Coll, Point, no_exprs, expr, Table, IsExact}

-- 1 everywhere: the square has 1 at size 0, which isn't a multiple of 2
abbrev pub ones : Table
ones = record { x = λ i n. pos 1; y = λ f n. pos 1 }

abbrev pub LeavesRemainder : Expr → Type 0
LeavesRemainder e = IsExact Labelled ones e 2 → ⊥

abbrev pub halves : Expr
halves = Coll Set (Series 0) 0 None

-- sets and cycles of two components, wherever in an expression
abbrev pub RemaindersAreSeen : Type 0
RemaindersAreSeen =
    LeavesRemainder halves × LeavesRemainder (Coll Cycle (Series 0) 1 None)
    × LeavesRemainder (Point Set (Series 0) 0 None (Series 0))
    × LeavesRemainder (Point Cycle (Series 0) 1 None (Series 0))
    × LeavesRemainder (Sum (expr (Series 0) (expr halves no_exprs)))
    × LeavesRemainder (Prod (expr (Series 0) (expr halves no_exprs)))
    × LeavesRemainder (Coll Sequence halves 0 None)
    × LeavesRemainder (Point Sequence halves 0 None (Series 0))
    × LeavesRemainder (Point Sequence (Series 0) 0 None halves)
