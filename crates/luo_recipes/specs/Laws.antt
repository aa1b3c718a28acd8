-- What holds of the counts and the totals of a founded program.
use Rattle.std.specs.Prelude.{◌≡◌, ℕ, ◌<◌, Some, length, slice_get}
use Rattle.luo_finite.specs.Listing.{In}
use Rattle.luo_model.specs.Program.{Program}
use Rattle.luo_model.specs.Invariant.{IsProgram}
use Rattle.luo_model.specs.Founded.{IsFounded}
use Rattle.luo_model.specs.Tables.{IsTotal}
use Rattle.luo_recipes.specs.Obeys.{Obeys}
use Rattle.luo_recipes.specs.Tasks.{Job, jobs_of, recipe_of, recipe_number}

-- counts are a function of nodes and sizes that obeys their equations
abbrev pub CountsObey : Type 0
CountsObey = (p : Program) → IsProgram p → IsFounded p → (counts : ℕ → ℕ → ℕ) × Obeys p counts

-- there are as many jobs as sites, in the order of the sites
abbrev pub SitesHaveJobs : Type 0
SitesHaveJobs =
    (p : Program) → IsProgram p
    → (length (jobs_of p) ≡ length p.sites)
    × ((i : ℕ) (j : Job) → slice_get (jobs_of p) i ≡ Some j → j.site ≡ i)

-- the total of each site is the number of the recipe of its job
pub record FollowRecipes (p : Program) (counts totals : ℕ → ℕ → ℕ) : Type 0 where
  pub counted : Obeys p counts
  pub totalled : (i n : ℕ) → i < length p.sites → IsTotal p i n (totals i n)
  pub recipes : (j : Job) (n : ℕ) → In j (jobs_of p)
      → totals j.site n ≡ recipe_number p counts totals (recipe_of p j.on.node j.doing) n

abbrev pub TotalsHaveRecipes : Type 0
TotalsHaveRecipes =
    (p : Program) → IsProgram p → IsFounded p
    → (counts : ℕ → ℕ → ℕ) × (totals : ℕ → ℕ → ℕ) × FollowRecipes p counts totals
