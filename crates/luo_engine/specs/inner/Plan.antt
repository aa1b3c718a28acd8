-- What is fixed in a run of the engine.
use Rattle.std.specs.Prelude.{ℕ, ◌+◌, ◌*◌, ◌≤◌, List, Option, length}
use Rattle.luo_num.specs.declared.limits.TheConstants.{PART_LIMIT, NODE_LIMIT}
use Rattle.luo_model.specs.View.{Held, plain_of}
use Rattle.luo_model.specs.Invariant.{IsProgram}
use Rattle.luo_model.specs.Founded.{IsFounded}
use Rattle.luo_engine.specs.inner.Filled.{AreRanks, IsOrder, IsLaid}

pub record Planned : Type 0 where
  -- the program
  pub program : Held
  -- the rank of each node
  pub ranks : List ℕ
  -- the nodes by rank and number: so the counts of one size are filled
  pub order : List ℕ
  -- of each product the row of its first factor
  pub starts : List ℕ
  -- the rows of partial products: each product's factors in turn, with `None` after the last
  pub factors : List (Option ℕ)
  -- the last row of binomials
  pub reach : ℕ

pub record IsPlan (plan : Planned) : Type 0 where
  pub proper : IsProgram (plain_of plan.program)
  pub founded : IsFounded (plain_of plan.program)
  pub ranked : AreRanks (plain_of plan.program) plan.ranks
  pub ordered : IsOrder (plain_of plan.program) plan.ranks plan.order
  pub laid : IsLaid (plain_of plan.program) plan.starts plan.factors
  pub few : length plan.factors ≤ (PART_LIMIT + 1) * NODE_LIMIT
