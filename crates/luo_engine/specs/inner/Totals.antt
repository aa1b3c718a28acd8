-- What holds in the pass of totals.
use Rattle.std.specs.Prelude.{◌≡◌, ℕ, ◌+◌, ◌≤◌, ◌<◌, List, slice_get, Option, Some}
use Rattle.luo_model.specs.Program.{Program}
use Rattle.luo_model.specs.View.{plain_of}
use Rattle.luo_engine.specs.declared.tasks.Task.TheVariants.{Walk}
use Rattle.luo_engine.specs.declared.tasks.Sites.{Sites}
use Rattle.luo_engine.specs.inner.Plan.{Planned, IsPlan}
use Rattle.luo_engine.specs.inner.Laid.{AreSites}
use Rattle.luo_engine.specs.inner.Asked.{AskedWalk}
use Rattle.luo_engine.specs.inner.Walks.{IsWalkAsked}

-- the sites are those of the plan's program
pub record ArePlanned (plan : Planned) (s : Sites) : Type 0 where
  pub plan_is : IsPlan plan
  pub sites_are : AreSites (plain_of plan.program) plan.factors s

-- the walks before place k of the order have answered size n, and those from it on the sizes below
-- n
pub record AreWalked (p : Program) (n_max : ℕ) (s : Sites) (walks : List (Option AskedWalk))
    (n k : ℕ) : Type 0 where
  pub asked : (j i collection body : ℕ) → j < k → slice_get s.order j ≡ Some i
      → slice_get s.tasks i ≡ Some (Walk collection body) → IsWalkAsked p n_max walks i body (n + 1)
  pub to_ask : (j i collection body : ℕ) → k ≤ j → slice_get s.order j ≡ Some i
      → slice_get s.tasks i ≡ Some (Walk collection body) → IsWalkAsked p n_max walks i body n
