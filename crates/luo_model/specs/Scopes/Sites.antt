-- The sites of bodies, with the nodes of their variables.
use Rattle.std.specs.Prelude.{ℕ, List, [], ◌∷◌, ◌++◌}
use Rattle.luo_model.specs.declared.program.Part.{Part}
use Rattle.luo_model.specs.Program.{Program, Body, Does, Items, no_items, item, Item, Call, Case, Forall, Arms, arm, shape_of}
use Rattle.luo_model.specs.Scopes.Stands.{Stand, stands, component, bound_parts, part_at}

abbrev mutual
  -- the sites of a body, each with the node of its variable, and a walk's body with that of the
  -- components
  pub body_sites : Program → List Part → Body → List (ℕ × ℕ)
  body_sites p vars (Does own items) = items_sites p vars items

  pub items_sites : Program → List Part → Items → List (ℕ × ℕ)
  items_sites p vars no_items = []
  items_sites p vars (item i is) = item_sites p vars i ++ items_sites p vars is

  pub item_sites : Program → List Part → Item → List (ℕ × ℕ)
  item_sites p vars (Call var callee site) = (site, (part_at vars var).node) ∷ []
  item_sites p vars (Case var arms site) =
      arms_sites p (stands (part_at vars var) (shape_of p (part_at vars var).node)) arms
      ++ (site, (part_at vars var).node) ∷ []
  item_sites p vars (Forall var body body_site site) =
      body_sites p (component (shape_of p (part_at vars var).node) ∷ []) body
      ++ (body_site, (component (shape_of p (part_at vars var).node)).node)
      ∷ (site, (part_at vars var).node) ∷ []

  pub arms_sites : Program → List Stand → Arms → List (ℕ × ℕ)
  arms_sites p (stand ∷ rest) (arm bind body arms) =
      body_sites p (bound_parts p stand bind) body ++ arms_sites p rest arms
  arms_sites p _ _ = []
