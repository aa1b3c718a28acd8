-- A well-founded program with what is known of its nodes and its sites.
use Rattle.std.specs.Prelude.{◌≡◌, ℕ, List, Some, length, slice_get}
use Rattle.luo_model.specs.View.{Held, plain_of}
use Rattle.luo_model.specs.Founded.{IsFounded}
use Rattle.luo_model.specs.Levels.{IsRank, IsLevel}
use Rattle.luo_founded.specs.inner.Least.{AreLeast}

-- the ranks of all nodes, the levels of all sites, and the least sizes of all nodes
pub record IsRanked (p : Held) (ranks levels sizes : List ℕ) : Type 0 where
  pub founded : IsFounded (plain_of p)
  pub ranks_long : length ranks ≡ length p.nodes
  pub ranked : (x r : ℕ) → slice_get ranks x ≡ Some r → IsRank (plain_of p) x r
  pub levels_long : length levels ≡ length p.sites
  pub leveled : (i r : ℕ) → slice_get levels i ≡ Some r → IsLevel (plain_of p) i r
  pub least : AreLeast (plain_of p) sizes
