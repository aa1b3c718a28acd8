-- The tables of totals of a run.
use Rattle.std.specs.Prelude.{◌≡◌, ℕ, ◌<◌, ◌≤◌, Bool, false, List, length, Option}
use Rattle.luo_model.specs.declared.table.Fill.{Fill}
use Rattle.luo_model.specs.declared.table.Fill.TheVariants.{All}
use Rattle.luo_model.specs.View.{plain_of}
use Rattle.luo_model.specs.Tables.{IsTotal}
use Rattle.luo_engine.specs.declared.tasks.Sites.{Sites}
use Rattle.luo_engine.specs.inner.Grid.{Reaches, entry_of}
use Rattle.luo_engine.specs.inner.Points.{IsClosedPoint}
use Rattle.luo_engine.specs.inner.Filled.{IsRightOf}
use Rattle.luo_engine.specs.inner.Plan.{Planned}
use Rattle.luo_engine.specs.inner.Asked.{Asked, AskedWalk}
use Rattle.luo_engine.specs.inner.Laid.{AreSites}
use Rattle.luo_engine.specs.inner.Totals.{AreWalked}
use Rattle.luo_engine.specs.inner.Running.{IsCounting}

-- as long as the engine hasn't stopped, what is ahead is 0, each walk is asked for the next size,
-- and the charged products are closed
pub record IsTotalGoing
    (plan : Planned) (sites : Sites) (counts totals : List (List ℕ))
    (walks : List (Option AskedWalk))
    (points : List (List ℕ)) (filled : ℕ) : Type 0 where
  pub ahead : (i m : ℕ) → filled ≤ m → entry_of totals i m ≡ 0
  pub asked : AreWalked (plain_of plan.program) plan.reach sites walks filled 0
  pub wide : length points ≡ length sites.links
  pub closed : (r m : ℕ) → r < length sites.links → m < filled
      → IsClosedPoint plan.program.universe counts totals plan.factors sites.links points r m

-- all totals of the filled sizes are right
pub record IsTotalling
    (plan : Planned) (sites : Sites) (counts totals : List (List ℕ))
    (walks : List (Option AskedWalk))
    (points : List (List ℕ)) (last filled : ℕ) (stopped : Bool) : Type 0 where
  pub sites_are : AreSites (plain_of plan.program) plan.factors sites
  pub wide : length totals ≡ length plan.program.sites
  pub totals_reach : Reaches last totals
  pub points_reach : Reaches last points
  pub right : (i m : ℕ) → i < length plan.program.sites → m < filled
      → IsRightOf (IsTotal (plain_of plan.program)) totals i m
  pub going : stopped ≡ false → IsTotalGoing plan sites counts totals walks points filled

-- the tables of a run: all entries of the filled sizes are right, with totals where all is filled
-- in
pub record IsRun
    (plan : Planned) (sites : Sites) (counts : List (List ℕ)) (collections : List (Option Asked))
    (partials totals : List (List ℕ)) (walks : List (Option AskedWalk)) (points : List (List ℕ))
    (last : ℕ)
    (fill : Fill) (filled : ℕ) (stopped : Bool) : Type 0 where
  pub counting : IsCounting plan counts collections partials last filled stopped
  pub totalled : fill ≡ All → IsTotalling plan sites counts totals walks points last filled stopped
