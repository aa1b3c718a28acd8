-- All counts and totals that a source has at a size, and whether one is too large.
use Rattle.std.specs.Prelude.{◌⊎◌, ℕ, ◌<◌, ◌≤◌}
use Rattle.luo_source.specs.Plain.Types.{TypeExpr}
use Rattle.luo_source.specs.Plain.Source.{Source}
use Rattle.luo_meaning.specs.Constructs.{IsConstructOf}
use Rattle.luo_meaning.specs.Rows.{IsCountOf, IsTotalOf}
use Rattle.luo_meaning.specs.Sites.{SomeSiteOf}

-- some construct has c structures of size n
abbrev pub HasCount : Source → ℕ → ℕ → Type 0
HasCount source n c = (e : TypeExpr) × IsConstructOf source e × IsCountOf source e n c

-- what is charged at some site on the structures of size n of its variable's type sums to t
abbrev pub HasTotal : Source → ℕ → ℕ → Type 0
HasTotal source n t = SomeSiteOf source (λ number e charges level. IsTotalOf source e charges n t)

-- some count or total of a size up to `last` is above `most`
abbrev pub HasOver : Source → ℕ → ℕ → Type 0
HasOver source most last =
    (n : ℕ) × (v : ℕ) × (n ≤ last) × (most < v) × (HasCount source n v ⊎ HasTotal source n v)
