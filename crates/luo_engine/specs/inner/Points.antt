-- Rows of charged products: one factor is charged, and the others are shared as they are.
use Rattle.std.specs.Prelude.{◌≡◌, ℕ, ◌+◌, ◌<◌, ◌≤◌, List, [], ◌∷◌, length, drop, sum_by, slice_get, Option, Some, None}
use Rattle.luo_num.specs.Mark.{capped}
use Rattle.luo_finite.specs.Listing.{In}
use Rattle.luo_model.specs.declared.program.Universe.{Universe}
use Rattle.luo_counting.specs.Sharing.{shares}
use Rattle.luo_engine.specs.declared.points.Link.{Link}
use Rattle.luo_recipes.specs.Shares.{inner, tail_of}
use Rattle.luo_engine.specs.inner.Grid.{Reaches, entry_of}
use Rattle.luo_engine.specs.inner.Partial.{AreClosedFrom}

-- the ways to share a size among the factors from a row on, with the charges of the sites on one of
-- them
abbrev pub point_of : Universe → (ℕ → ℕ → ℕ) → (ℕ → ℕ → ℕ) → List (Option ℕ) → List (Option Link)
    → ℕ → ℕ
point_of u counts totals factors [] n = 0
point_of u counts totals factors (None ∷ rest) n = 0
point_of u counts totals factors (Some l ∷ rest) n =
    sum_by (λ s. shares u (totals s) (tail_of u counts (drop l.behind factors)) n) l.sites
    + shares u (counts l.node) (point_of u counts totals factors rest) n

-- the part of it that reads smaller sizes alone
abbrev pub open_point : Universe → (ℕ → ℕ → ℕ) → (ℕ → ℕ → ℕ) → List (Option ℕ) → List (Option Link)
    → ℕ → ℕ
open_point u counts totals factors [] n = 0
open_point u counts totals factors (None ∷ rest) n = 0
open_point u counts totals factors (Some l ∷ rest) n =
    sum_by (λ s. inner u (totals s) (tail_of u counts (drop l.behind factors)) n) l.sites
    + inner u (counts l.node) (point_of u counts totals factors rest) n

-- what a link names is there, and a row comes after it
pub record IsLink
    (counts totals : List (List ℕ)) (factors : List (Option ℕ)) (links : List (Option Link)) (r : ℕ)
    (l : Link) : Type 0 where
  pub node : l.node < length counts
  pub behind : l.behind < length factors
  pub next : r + 1 < length links
  pub sites : (s : ℕ) → In s l.sites → s < length totals

abbrev pub IsClosedPoint :
    Universe → List (List ℕ) → List (List ℕ) → List (Option ℕ) → List (Option Link) → List (List ℕ)
    → ℕ → ℕ → Type 0
IsClosedPoint u counts totals factors links points r n =
    entry_of points r n
    ≡ capped (point_of u (entry_of counts) (entry_of totals) factors (drop r links) n)

abbrev pub IsOpenPoint :
    Universe → List (List ℕ) → List (List ℕ) → List (Option ℕ) → List (Option Link) → List (List ℕ)
    → ℕ → ℕ → Type 0
IsOpenPoint u counts totals factors links points r n =
    entry_of points r n
    ≡ capped (open_point u (entry_of counts) (entry_of totals) factors (drop r links) n)

-- the partial products are closed up to size n, and the charged ones below it
pub record ArePointsBelow
    (u : Universe) (counts totals : List (List ℕ)) (factors : List (Option ℕ))
    (partials : List (List ℕ))
    (links : List (Option Link)) (points : List (List ℕ)) (n : ℕ) : Type 0 where
  pub products : AreClosedFrom u counts factors partials n 0
  pub links_there : (r : ℕ) (l : Link) → slice_get links r ≡ Some (Some l)
      → IsLink counts totals factors links r l
  pub wide : length points ≡ length links
  pub totals_reach : Reaches n totals
  pub points_reach : Reaches n points
  pub closed : (r m : ℕ) → r < length links → m < n
      → IsClosedPoint u counts totals factors links points r m

pub record ArePointsOpen
    (u : Universe) (counts totals : List (List ℕ)) (factors : List (Option ℕ))
    (partials : List (List ℕ))
    (links : List (Option Link)) (points : List (List ℕ)) (n r : ℕ) : Type 0 where
  pub below : ArePointsBelow u counts totals factors partials links points n
  pub open_rows : (q : ℕ) → q < r → IsOpenPoint u counts totals factors links points q n

pub record ArePointsClosed
    (u : Universe) (counts totals : List (List ℕ)) (factors : List (Option ℕ))
    (partials : List (List ℕ))
    (links : List (Option Link)) (points : List (List ℕ)) (n r : ℕ) : Type 0 where
  pub before : ArePointsOpen u counts totals factors partials links points n r
  pub closed_rows : (q : ℕ) → r ≤ q → q < length links
      → IsClosedPoint u counts totals factors links points q n
