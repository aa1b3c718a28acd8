-- The recipes of a program's sites, and how they are laid out one after the other.
use Rattle.std.specs.Prelude.{◌≡◌, ℕ, suc, List, [], ◌∷◌, ◌++◌, length, flat_map, slice_index, Option, Some, None}
use Rattle.luo_model.specs.declared.program.Part.{Part}
use Rattle.luo_model.specs.declared.program.Shape.{Shape}
use Rattle.luo_model.specs.declared.program.Shape.TheVariants as shape
use Rattle.luo_model.specs.Program.{Program, Procedure, Body, Does, Items, no_items, item, Item, Call, Case, Forall, Arms, no_arms, arm, site_node}
use Rattle.luo_engine.specs.declared.points.Link.{Link}
use Rattle.luo_engine.specs.declared.tasks.Scope.{Scope}
use Rattle.luo_engine.specs.declared.tasks.Task.TheVariants.{Scopes, Walk}
use Rattle.luo_engine.specs.declared.sites.Laid.{Laid}
use Rattle.luo_recipes.specs.Tasks.{does, calls, chooses, walks, FactorSites, Recipe, of_scopes, of_each, recipe_of}
use Rattle.luo_recipes.specs.Tasks as plain

abbrev mutual
  -- the recipes of the sites of a body, in their order, by the nodes of the sites
  pub recipes_of_body : Program → Body → List Recipe
  recipes_of_body p (Does own items) = recipes_of_items p items

  pub recipes_of_items : Program → Items → List Recipe
  recipes_of_items p no_items = []
  recipes_of_items p (item i is) = recipes_of_item p i ++ recipes_of_items p is

  pub recipes_of_item : Program → Item → List Recipe
  recipes_of_item p (Call var callee site) = recipe_of p (site_node p site) (calls callee) ∷ []
  recipes_of_item p (Case var arms site) =
      recipes_of_arms p arms ++ recipe_of p (site_node p site) (chooses arms) ∷ []
  recipes_of_item p (Forall var body body_site site) =
      recipes_of_body p body
      ++ recipe_of p (site_node p body_site) (does body)
      ∷ (recipe_of p (site_node p site) (walks body body_site) ∷ [])

  pub recipes_of_arms : Program → Arms → List Recipe
  recipes_of_arms p no_arms = []
  recipes_of_arms p (arm bind body arms) = recipes_of_body p body ++ recipes_of_arms p arms

abbrev pub recipes_of_procedure : Program → Procedure → List Recipe
recipes_of_procedure p P =
    recipes_of_body p P.body ++ recipe_of p (site_node p P.site) (does P.body) ∷ []

abbrev pub recipes_of : Program → List Recipe
recipes_of p = flat_map (recipes_of_procedure p) p.procs

-- the links of factors whose rows of partial products stand from this one on
abbrev pub links_from : ℕ → List FactorSites → List (Option Link)
links_from start [] = []
links_from start (F ∷ Fs) =
    Some (record { node = F.node; behind = suc start; sites = F.sites }) ∷ links_from (suc start) Fs

-- the rows of a scope: its factors, and the end
abbrev pub rows_of_scope : List ℕ → plain.Scope → List (Option Link)
rows_of_scope starts S = links_from (slice_index starts S.node) S.parts ++ None ∷ []

abbrev pub rows_of_scopes : List ℕ → List plain.Scope → List (Option Link)
rows_of_scopes starts [] = []
rows_of_scopes starts (S ∷ Ss) = rows_of_scope starts S ++ rows_of_scopes starts Ss

-- a scope whose rows come after those that there are
abbrev pub placed_scope : ℕ → plain.Scope → Scope
placed_scope width S =
    record { own = S.own; node = S.node; sites = S.sites; start = width; arity = length S.parts }

abbrev pub placed_scopes : List ℕ → List (Option Link) → List plain.Scope → List Scope
placed_scopes starts links [] = []
placed_scopes starts links (S ∷ Ss) =
    placed_scope (length links) S ∷ placed_scopes starts (links ++ rows_of_scope starts S) Ss

-- one more recipe
abbrev pub lay : List ℕ → Laid → Recipe → Laid
lay starts l (of_scopes Ss) =
    record {
      tasks = l.tasks ++ Scopes (placed_scopes starts l.links Ss) ∷ [];
      links = l.links ++ rows_of_scopes starts Ss;
    }
lay starts l (of_each x body_site) =
    record { tasks = l.tasks ++ Walk x body_site ∷ []; links = l.links }

abbrev pub lay_all : List ℕ → Laid → List Recipe → Laid
lay_all starts l [] = l
lay_all starts l (r ∷ rs) = lay_all starts (lay starts l r) rs

-- the factors of a product, and the branches of a union
abbrev pub product_parts : Shape → List Part
product_parts (shape.Product parts) = parts
product_parts _ = []

abbrev pub union_parts : Shape → List Part
union_parts (shape.Union parts) = parts
union_parts _ = []

-- the scope has been put after the others
pub record IsPushed (starts : List ℕ) (old new : List (Option Link)) (Z : Scope)
    (S : plain.Scope) : Type 0 where
  pub is : Z ≡ placed_scope (length old) S
  pub rows : new ≡ old ++ rows_of_scope starts S

abbrev pub IsProductShape : Shape → Type 0
IsProductShape (shape.Product parts) = Unit {0}
IsProductShape _ = ⊥

-- and so have scopes
pub record ArePushed
    (starts : List ℕ) (old new : List (Option Link)) (Zs : List Scope)
    (Ss : List plain.Scope) : Type 0 where
  pub are : Zs ≡ placed_scopes starts old Ss
  pub rows : new ≡ old ++ rows_of_scopes starts Ss
