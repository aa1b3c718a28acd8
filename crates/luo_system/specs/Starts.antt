-- Why tables have to start with zeros: a table that keeps the equations of a founded program, and
-- isn't right.
use Rattle.std.specs.Prelude.{ℕ, zero, suc, [], ◌∷◌, ℤ, pos, negsuc}
use Rattle.luo_model.specs.declared.program.Universe.TheVariants.{Unlabelled}
use Rattle.luo_model.specs.declared.program.Shape.TheVariants as shape
use Rattle.luo_model.specs.Program.{Program}
use Rattle.luo_model.specs.Invariant.{IsProgram}
use Rattle.luo_model.specs.Founded.{IsFounded}
use Rattle.luo_model.specs.Examples.{part}
use Rattle.luo_equation.specs.Expr.{Table}
use Rattle.luo_system.specs.System.{system}
use Rattle.luo_system.specs.Holding.{Holds, IsRight}
use Rattle.luo_system.specs.Facts.{by_name, def}

-- t = atom(1) | product(t, t), so t(z) = z + t(z)*t(z)
abbrev pub pairs : Program
pairs = record {
  universe = Unlabelled;
  defs = def (part 0) ∷ [];
  nodes = record { shape = shape.Union (part 1 ∷ (part 2 ∷ [])); owner = 0; place = 0 }
      ∷ (record { shape = shape.Atom 1; owner = 0; place = 1 }
      ∷ (record { shape = shape.Product (by_name 0 0 ∷ (by_name 0 0 ∷ [])); owner = 0; place = 2 }
      ∷ []));
  procs = [];
  sites = [];
  analyses = [];
}

-- 1 at size 0, and then what the equation asks for: t_1 = 1 + 2 t_1 and t_2 = 2 t_2 + t_1 t_1
abbrev pub from_one : ℕ → ℤ
from_one zero = pos 1
from_one (suc n) = negsuc 0

abbrev pub started_at_one : Table
started_at_one = record { x = λ i. from_one; y = λ f n. pos 0 }

abbrev pub PairsHoldFromOne : Type 0
PairsHoldFromOne =
    IsProgram pairs × IsFounded pairs × Holds Unlabelled (system pairs) 2 started_at_one

-- it isn't so that each table in which the equations hold is right
abbrev pub StartsAreNeeded : Type 0
StartsAreNeeded =
    ((p : Program) → IsProgram p → IsFounded p → (N : ℕ) (t : Table)
    → Holds p.universe (system p) N t → IsRight p N t) → ⊥
