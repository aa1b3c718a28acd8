-- The tables of a run.
use Rattle.std.specs.Prelude.{◌≡◌, ℕ, ◌+◌, ◌<◌, ◌≤◌, Bool, false, List, length, Option}
use Rattle.luo_num.specs.declared.limits.TheConstants.{SIZE_LIMIT}
use Rattle.luo_model.specs.View.{plain_of}
use Rattle.luo_engine.specs.inner.Grid.{Reaches, entry_of}
use Rattle.luo_engine.specs.inner.Partial.{IsClosed}
use Rattle.luo_engine.specs.inner.Filled.{IsRight}
use Rattle.luo_engine.specs.inner.Plan.{Planned, IsPlan}
use Rattle.luo_engine.specs.inner.Asked.{Asked}
use Rattle.luo_engine.specs.inner.Collections.{AreCollections}

-- as long as the engine hasn't stopped, what is ahead is 0, each collection is asked for the next
-- size, and the partial products are closed
pub record IsGoing
    (plan : Planned) (counts : List (List ℕ)) (collections : List (Option Asked))
    (partials : List (List ℕ))
    (filled : ℕ) : Type 0 where
  pub ahead : (x m : ℕ) → filled ≤ m → entry_of counts x m ≡ 0
  pub asked : AreCollections (plain_of plan.program) plan.reach plan.order collections filled 0
  pub wide : length partials ≡ length plan.factors
  pub closed : (r m : ℕ) → r < length plan.factors → m < filled
      → IsClosed plan.program.universe counts plan.factors partials r m

-- all entries of the filled sizes are right
pub record IsCounting
    (plan : Planned) (counts : List (List ℕ)) (collections : List (Option Asked))
    (partials : List (List ℕ))
    (last filled : ℕ) (stopped : Bool) : Type 0 where
  pub plan_is : IsPlan plan
  pub reach : plan.reach ≡ last
  pub wide : length counts ≡ length plan.program.nodes
  pub counts_reach : Reaches last counts
  pub partials_reach : Reaches last partials
  pub within : filled ≤ last + 1
  pub small : last ≤ SIZE_LIMIT
  pub right : (x m : ℕ) → x < length plan.program.nodes → m < filled
      → IsRight (plain_of plan.program) counts x m
  pub going : stopped ≡ false → IsGoing plan counts collections partials filled
