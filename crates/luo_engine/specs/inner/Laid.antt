-- How the recipes of sites are laid out in the tables.
use Rattle.std.specs.Prelude.{◌≡◌, ℕ, ◌+◌, ◌*◌, ◌<◌, List, [], ◌∷◌, ◌++◌, length, map, drop, sum_by, slice_get, Option, Some, None}
use Rattle.luo_finite.specs.Listing.{In}
use Rattle.luo_model.specs.declared.program.Universe.{Universe}
use Rattle.luo_model.specs.Program.{Program, site_node}
use Rattle.luo_model.specs.Tables.{IsTotal}
use Rattle.luo_model.specs.Levels.{IsRank, IsLevel}
use Rattle.luo_engine.specs.declared.points.Link.{Link}
use Rattle.luo_engine.specs.declared.tasks.Scope.{Scope}
use Rattle.luo_engine.specs.declared.tasks.Task.{Task}
use Rattle.luo_engine.specs.declared.tasks.Task.TheVariants.{Scopes, Walk}
use Rattle.luo_engine.specs.declared.tasks.Sites.{Sites}
use Rattle.luo_engine.specs.inner.Points.{point_of}
use Rattle.luo_engine.specs.inner.Filled.{rank_of, IsOrderOf, AreFilled}
use Rattle.luo_engine.specs.inner.Listed.{IsSiteBefore}
use Rattle.luo_recipes.specs.Tasks as plain

-- the number that the tables give to a scope at size n
abbrev pub laid_number : Universe → (ℕ → ℕ → ℕ) → (ℕ → ℕ → ℕ) → List (Option ℕ) → List (Option Link)
    → ℕ → Scope → ℕ
laid_number u counts totals factors links n Z =
    Z.own * counts Z.node n
    + (sum_by (λ s. totals s n) Z.sites + point_of u counts totals factors (drop Z.start links) n)

-- what a scope names is there, and its rows end
pub record IsScopeThere (nodes sites : ℕ) (links : List (Option Link)) (Z : Scope) : Type 0 where
  pub node : Z.node < nodes
  pub sites_there : (s : ℕ) → In s Z.sites → s < sites
  pub end_row : slice_get links (Z.start + Z.arity) ≡ Some None

-- a factor's node and sites
abbrev pub factor_of : Link → plain.FactorSites
factor_of l = record { node = l.node; sites = l.sites }

-- Z is the scope S, with the rows of its factors from `start` on, and after each the factors
-- after it
pub record IsScope (factors : List (Option ℕ)) (links : List (Option Link)) (S : plain.Scope)
    (Z : Scope) : Type 0 where
  pub own : Z.own ≡ S.own
  pub node : Z.node ≡ S.node
  pub sites : Z.sites ≡ S.sites
  pub row : List Link
  pub parts : map factor_of row ≡ S.parts
  pub laid : (rest : List (Option Link))
      × (drop Z.start links ≡ map (λ l. Some l) row ++ (None ∷ rest))
  pub arity : Z.arity ≡ length row
  pub behind : (before after : List Link) (l : Link) → row ≡ before ++ (l ∷ after)
      → (rest : List (Option ℕ))
      × (drop l.behind factors ≡ map (λ m. Some m.node) after ++ (None ∷ rest))

abbrev pub AreScopes : List (Option ℕ) → List (Option Link) → List plain.Scope → List Scope → Type 0
AreScopes factors links [] [] = Unit {0}
AreScopes factors links (S ∷ Ss) (Z ∷ Zs) =
    IsScope factors links S Z × AreScopes factors links Ss Zs
AreScopes factors links _ _ = ⊥

abbrev pub IsTask : List (Option ℕ) → List (Option Link) → plain.Recipe → Task → Type 0
IsTask factors links (plain.of_scopes scopes) (Scopes laid) = AreScopes factors links scopes laid
IsTask factors links (plain.of_each x body_site) (Walk collection body) =
    (collection ≡ x) × (body ≡ body_site)
IsTask factors links _ _ = ⊥

-- what a link names is there, and a row comes after it
pub record IsLinked (nodes sites rows width : ℕ) (r : ℕ) (l : Link) : Type 0 where
  pub node : l.node < nodes
  pub behind : l.behind < rows
  pub next : r + 1 < width
  pub sites_there : (s : ℕ) → In s l.sites → s < sites

-- the ranks of the sites' nodes, their levels, the order of the sites, and the tasks that give
-- their totals
pub record AreSites (p : Program) (factors : List (Option ℕ)) (s : Sites) : Type 0 where
  pub ranks_wide : length s.ranks ≡ length p.sites
  pub levels_wide : length s.levels ≡ length p.sites
  pub ranked : (i : ℕ) → i < length p.sites → IsRank p (site_node p i) (rank_of s.ranks i)
  pub levelled : (i : ℕ) → i < length p.sites → IsLevel p i (rank_of s.levels i)
  pub ordered : IsOrderOf (length p.sites) (IsSiteBefore s.ranks s.levels) s.order
  pub linked : (r : ℕ) (l : Link) → slice_get s.links r ≡ Some (Some l)
      → IsLinked (length p.nodes) (length p.sites) (length factors) (length s.links) r l
  pub tasks_wide : length s.tasks ≡ length p.sites
  pub tasks_are : (i : ℕ) (j : plain.Job) (t : Task) → slice_get (plain.jobs_of p) i ≡ Some j
      → slice_get s.tasks i ≡ Some t
      → IsTask factors s.links (plain.recipe_of p j.on.node j.doing) t

abbrev pub AreTotalled : Program → List ℕ → List (List ℕ) → ℕ → ℕ → Type 0
AreTotalled p order totals n k = AreFilled (IsTotal p) (length p.sites) order totals n k
