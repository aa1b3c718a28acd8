-- The ranks and the levels of the sites before some site.
use Rattle.std.specs.Prelude.{◌≡◌, ℕ, ◌<◌, List, length}
use Rattle.luo_model.specs.Program.{Program, site_node}
use Rattle.luo_model.specs.Levels.{IsRank, IsLevel}
use Rattle.luo_engine.specs.inner.Filled.{rank_of}

pub record AreSiteRanks (p : Program) (ranks : List ℕ) (k : ℕ) : Type 0 where
  pub wide : length ranks ≡ k
  pub ranked : (i : ℕ) → i < k → IsRank p (site_node p i) (rank_of ranks i)

pub record AreSiteLevels (p : Program) (levels : List ℕ) (k : ℕ) : Type 0 where
  pub wide : length levels ≡ k
  pub levelled : (i : ℕ) → i < k → IsLevel p i (rank_of levels i)
