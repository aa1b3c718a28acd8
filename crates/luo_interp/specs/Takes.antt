-- Which structures procedures take.
use Rattle.std.specs.Prelude.{◌≡◌, ℕ, Some, slice_get}
use Rattle.luo_model.specs.Member.{Member}
use Rattle.luo_model.specs.Program.{Program, Procedure, Result}
use Rattle.luo_model.specs.Tree.{Tree}

-- procedure f is there, and s belongs to the node of its parameter
abbrev pub Takes : Program → ℕ → Tree → Type 0
Takes p f s = (P : Procedure) × (slice_get p.procs f ≡ Some P) × Member p P.on.node s

-- and it has a result
abbrev pub TakesForResult : Program → ℕ → Tree → Type 0
TakesForResult p f s =
    (P : Procedure) × (r : Result) × (slice_get p.procs f ≡ Some P) × (P.result ≡ Some r)
    × Member p P.on.node s
