-- How expressions and equations are written, one fact for each form.
use Rattle.std.specs.Prelude.{◌≡◌, ℕ, List, [], ◌∷◌, codes, Option, Some, None}
use Rattle.luo_model.specs.declared.program.Universe.TheVariants.{Unlabelled}
use Rattle.luo_model.specs.declared.program.Kind.{Kind}
use Rattle.luo_model.specs.declared.program.Kind.TheVariants.{Sequence, Set, Cycle, Multiset, Powerset}
use Rattle.luo_model.specs.Program.{Program, Does, no_items}
use Rattle.luo_model.specs.Programs.{alone, definition, procedure}
use Rattle.luo_equation.specs.declared.equation.Left.TheVariants as left
use Rattle.luo_equation.specs.Expr.{Expr, Number, Power, Series, Tau, Sum, Prod, Coll, Point, Exprs, no_exprs, expr}
use Rattle.luo_equation.specs.Text.{expr_text, equation_text}

-- types a, b and tree, procedures p and size
abbrev pub lettered : Program
lettered = record {
  universe = Unlabelled;
  defs =
      definition (codes "a") (alone 0) ∷ definition (codes "b") (alone 0)
      ∷ definition (codes "tree") (alone 0) ∷ [];
  nodes = [];
  procs =
      procedure (codes "p") (alone 0) (Does 0 no_items) 0
      ∷ procedure (codes "size") (alone 0) (Does 0 no_items) 0 ∷ [];
  sites = [];
  analyses = [];
}

-- the series of a and of b, and the descriptor of p
abbrev pub a : Expr
a = Series 0

abbrev pub b : Expr
b = Series 1

abbrev pub p : Expr
p = Tau 0

abbrev pub pair : Expr → Expr → Exprs
pair e f = expr e (expr f no_exprs)

-- the expression has this text
abbrev pub IsWritten : Expr → List ℕ → Type 0
IsWritten e text = expr_text lettered e ≡ text

-- numbers, powers, series and descriptors
abbrev pub LeavesAreWritten : Type 0
LeavesAreWritten =
    IsWritten (Number 12) (codes "12") × IsWritten (Power 0) (codes "1")
    × IsWritten (Power 1) (codes "z") × IsWritten (Power 12) (codes "z^12")
    × IsWritten b (codes "b(z)") × IsWritten (Tau 1) (codes "tau[size](z)")

-- sums and products from left to right, and brackets round a sum among factors alone
abbrev pub OperationsAreWritten : Type 0
OperationsAreWritten =
    IsWritten (Sum (expr a (pair b (Power 2)))) (codes "a(z) + b(z) + z^2")
    × IsWritten (Prod (expr a (pair b (Power 2)))) (codes "a(z)*b(z)*z^2")
    × IsWritten (Prod (pair (Sum (pair a (Number 3))) (Sum (pair b (Power 1)))))
    (codes "(a(z) + 3)*(b(z) + z)")
    × IsWritten (Sum (pair (Prod (pair a b)) (Power 1))) (codes "a(z)*b(z) + z")

-- each kind, without a bound
abbrev pub KindsAreWritten : Type 0
KindsAreWritten =
    IsWritten (Coll Sequence a 0 None) (codes "Seq[a(z)]")
    × IsWritten (Coll Set a 0 None) (codes "Set[a(z)]")
    × IsWritten (Coll Cycle a 1 None) (codes "Cyc[a(z)]")
    × IsWritten (Coll Multiset a 0 None) (codes "MSet[a(z)]")
    × IsWritten (Coll Powerset a 0 None) (codes "PSet[a(z)]")
    × IsWritten (Coll Set (Coll Cycle (Sum (pair a b)) 1 None) 0 None) (codes "Set[Cyc[a(z) + b(z)]]")

-- a collection of a within these bounds
abbrev pub bounded : Kind → ℕ → Option ℕ → Expr
bounded kind low high = Coll kind a low high

-- each form of bound
abbrev pub BoundsAreWritten : Type 0
BoundsAreWritten =
    IsWritten (bounded Sequence 1 None) (codes "Seq[a(z), k>=1]")
    × IsWritten (bounded Cycle 2 None) (codes "Cyc[a(z), k>=2]")
    × IsWritten (bounded Set 0 (Some 3)) (codes "Set[a(z), k<=3]")
    × IsWritten (bounded Multiset 2 (Some 5)) (codes "MSet[a(z), k in 2..5]")
    × IsWritten (bounded Cycle 1 (Some 5)) (codes "Cyc[a(z), k in 1..5]")
    × IsWritten (bounded Powerset 1 (Some 1)) (codes "PSet[a(z), k=1]")
    × IsWritten (bounded Set 0 (Some 0)) (codes "Set[a(z), k=0]")

-- walks
abbrev pub PointsAreWritten : Type 0
PointsAreWritten =
    IsWritten (Point Cycle b 1 None p) (codes "Point[Cyc[b(z)]; tau[p](z)]")
    × IsWritten (Point Multiset b 2 (Some 5) (Sum (pair p b)))
    (codes "Point[MSet[b(z), k in 2..5]; tau[p](z) + b(z)]")
    × IsWritten (Prod (pair (Point Set b 0 None p) a)) (codes "Point[Set[b(z)]; tau[p](z)]*a(z)")

-- equations
abbrev pub EquationsAreWritten : Type 0
EquationsAreWritten =
    (equation_text lettered (record { left = left.Series 2; right = Sum (pair a b) })
    ≡ codes "tree(z) = a(z) + b(z)")
    × (equation_text lettered (record { left = left.Tau 1; right = Prod (pair p b) })
    ≡ codes "tau[size](z) = tau[p](z)*b(z)")
