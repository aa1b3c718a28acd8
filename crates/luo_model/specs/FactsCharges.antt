-- What some small procedures charge.
use Rattle.std.specs.Prelude.{◌≡◌, ℕ}
use Rattle.luo_model.specs.Tree.{Tree, Inj, Coll}
use Rattle.luo_model.specs.Program.{Program}
use Rattle.luo_model.specs.Charges.{Charges}
use Rattle.luo_model.specs.Examples.{two, point, choosing, walking, looping}

-- procedure f charges q on s, and nothing else
abbrev pub ChargesOnly : Program → ℕ → Tree → ℕ → Type 0
ChargesOnly p f s q = Charges p f s q × ((other : ℕ) → Charges p f s other → other ≡ q)

-- a case charges what the arm of the branch does, and not what another does
abbrev pub CasesTakeTheirArm : Type 0
CasesTakeTheirArm =
    ChargesOnly choosing 0 (Inj 1 (point 0)) 3 × ChargesOnly choosing 0 (Inj 2 (point 0)) 5

-- a walk over two equal components charges each of them
abbrev pub CopiesAreChargedEach : Type 0
CopiesAreChargedEach = ChargesOnly walking 0 (Coll (two (point 0) (point 0))) 2

-- a procedure that calls itself for ever charges nothing on any structure
abbrev pub EndlessCallsChargeNothing : Type 0
EndlessCallsChargeNothing = (s : Tree) (q : ℕ) → Charges looping 0 s q → ⊥
