-- Tables: which are right, and of which equations hold.
use Rattle.std.specs.Prelude.{◌≡◌, ℕ, ◌≤◌, List, slice_get, Some, ℤ, pos}
use Rattle.luo_finite.specs.Listing.{In}
use Rattle.luo_model.specs.declared.program.Universe.{Universe}
use Rattle.luo_model.specs.declared.program.Def.{Def}
use Rattle.luo_model.specs.Tree.{Tree}
use Rattle.luo_model.specs.Program.{Program, Procedure}
use Rattle.luo_model.specs.Structures.{IsStructure}
use Rattle.luo_model.specs.declared.table.Row.{Row}
use Rattle.luo_model.specs.Tables.{IsCount, IsTotal, IsRow}
use Rattle.luo_equation.specs.Expr.{Table, coef, IsExact}
use Rattle.luo_equation.specs.Equation.{Equation}
use Rattle.luo_equation.specs.declared.equation.Left.{Left}
use Rattle.luo_equation.specs.declared.equation.Left.TheVariants as left

-- the number at size n of what an equation defines
abbrev pub left_number : Table → Left → ℕ → ℤ
left_number t (left.Series i) n = t.x i n
left_number t (left.Tau f) n = t.y f n

-- both sides of each of these equations have equal coefficients at each size up to N
abbrev pub SidesAgree : Universe → List Equation → ℕ → Table → Type 0
SidesAgree u es N t =
    (e : Equation) → In e es → (n : ℕ) → n ≤ N → left_number t e.left n ≡ coef u t e.right n

-- these equations hold up to N: their sides agree, and no quotient leaves a remainder
abbrev pub Holds : Universe → List Equation → ℕ → Table → Type 0
Holds u es N t =
    (e : Equation) → In e es → (n : ℕ) → n ≤ N
    → (left_number t e.left n ≡ coef u t e.right n) × IsExact u t e.right n

-- a right table up to N: its numbers are the counts of the definitions' nodes and the totals of the
-- procedures' wholes
pub record IsRight (p : Program) (N : ℕ) (t : Table) : Type 0 where
  pub counts : (i : ℕ) (d : Def) → slice_get p.defs i ≡ Some d → (n : ℕ) → n ≤ N
      → (c : ℕ) × IsCount p d.whole.node n c × (t.x i n ≡ pos c)
  pub totals : (f : ℕ) (P : Procedure) → slice_get p.procs f ≡ Some P → (n : ℕ) → n ≤ N
      → (c : ℕ) × IsTotal p P.site n c × (t.y f n ≡ pos c)

-- where a definition's node has no structure of size 0, its number at size 0 is 0
abbrev pub HasZeroStart : Program → Table → Type 0
HasZeroStart p t =
    (i : ℕ) (d : Def) → slice_get p.defs i ≡ Some d
    → ((s : Tree) → IsStructure p d.whole.node 0 s → ⊥) → t.x i 0 ≡ pos 0

-- these equations are true of a program: they hold of every right table, at every size
abbrev pub AreTrue : Program → List Equation → Type 0
AreTrue p es = (N : ℕ) (t : Table) → IsRight p N t → Holds p.universe es N t

-- they determine its numbers: a table of integers of which the sides agree, and which starts with
-- zeros, is right
abbrev pub Determine : Program → List Equation → Type 0
Determine p es =
    (N : ℕ) (t : Table) → SidesAgree p.universe es N t → HasZeroStart p t → IsRight p N t

-- there is a table that is right at every size
abbrev pub HasTable : Program → Type 0
HasTable p = (t : Table) × ((N : ℕ) → IsRight p N t)

-- the three together: these equations hold of the counts and totals of the program, at every size,
-- and of no other numbers that start with zeros
pub record Describe (p : Program) (es : List Equation) : Type 0 where
  pub exist : HasTable p
  pub hold : AreTrue p es
  pub determine : Determine p es

-- a table has this row of procedure f: its total, and its count where the parameter has the node of
-- a definition
abbrev pub HasRow : Program → Table → ℕ → Row → Type 0
HasRow p t f row = (t.y f row.n ≡ pos row.total)
    × ((i : ℕ) (d : Def) (P : Procedure) → slice_get p.defs i ≡ Some d
    → slice_get p.procs f ≡ Some P → d.whole.node ≡ P.on.node → t.x i row.n ≡ pos row.count)

-- two tables have the same numbers up to N
pub record Agree (p : Program) (N : ℕ) (t v : Table) : Type 0 where
  pub counts : (i : ℕ) (d : Def) → slice_get p.defs i ≡ Some d → (n : ℕ) → n ≤ N → t.x i n ≡ v.x i n
  pub totals : (f : ℕ) (P : Procedure) → slice_get p.procs f ≡ Some P → (n : ℕ) → n ≤ N
      → t.y f n ≡ v.y f n

-- the one table of these equations: its numbers are the counts of all definitions and the totals of
-- all procedures, at every size, and the equations hold of them; it starts with zeros, and a table of
-- integers of which the sides agree, and which starts with zeros, agrees with it
pub record IsTableOf (p : Program) (es : List Equation) (t : Table) : Type 0 where
  pub right : (N : ℕ) → IsRight p N t
  pub holds : (N : ℕ) → Holds p.universe es N t
  pub starts : HasZeroStart p t
  pub only : (N : ℕ) (v : Table) → SidesAgree p.universe es N v → HasZeroStart p v → Agree p N v t
