-- What is counted in bodies: calls, cases and walks, and walks over multisets and powersets.
use Rattle.std.specs.Prelude.{ℕ, ◌+◌, List, [], ◌∷◌}
use Rattle.luo_model.specs.declared.program.Kind.TheVariants.{Multiset, Powerset}
use Rattle.luo_model.specs.declared.program.Part.{Part}
use Rattle.luo_model.specs.declared.program.Shape.{Shape}
use Rattle.luo_model.specs.declared.program.Shape.TheVariants.{Coll}
use Rattle.luo_model.specs.Program.{Program, Body, Does, Items, no_items, item, Item, Call, Case, Forall, Arms, no_arms, arm, shape_of}
use Rattle.luo_model.specs.Scopes.Stands.{Stand, stands, component, bound_parts, part_at}

abbrev mutual
  -- the number of calls, cases and walks
  pub body_items : Body → ℕ
  body_items (Does own items) = items_in items

  pub items_in : Items → ℕ
  items_in no_items = 0
  items_in (item i is) = item_in i + items_in is

  pub item_in : Item → ℕ
  item_in (Call var callee site) = 1
  item_in (Case var arms site) = 1 + arms_in arms
  item_in (Forall var body body_site site) = 1 + body_items body

  pub arms_in : Arms → ℕ
  arms_in no_arms = 0
  arms_in (arm bind body arms) = body_items body + arms_in arms

-- 1 for a multiset or a powerset
abbrev pub multiset_of : Shape → ℕ
multiset_of (Coll Multiset part low high) = 1
multiset_of (Coll Powerset part low high) = 1
multiset_of _ = 0

abbrev mutual
  -- the number of walks over multisets and powersets
  pub body_walks : Program → List Part → Body → ℕ
  body_walks p vars (Does own items) = items_walks p vars items

  pub items_walks : Program → List Part → Items → ℕ
  items_walks p vars no_items = 0
  items_walks p vars (item i is) = item_walks p vars i + items_walks p vars is

  pub item_walks : Program → List Part → Item → ℕ
  item_walks p vars (Call var callee site) = 0
  item_walks p vars (Case var arms site) =
      arms_walks p (stands (part_at vars var) (shape_of p (part_at vars var).node)) arms
  item_walks p vars (Forall var body body_site site) =
      multiset_of (shape_of p (part_at vars var).node)
      + body_walks p (component (shape_of p (part_at vars var).node) ∷ []) body

  pub arms_walks : Program → List Stand → Arms → ℕ
  arms_walks p (stand ∷ rest) (arm bind body arms) =
      body_walks p (bound_parts p stand bind) body + arms_walks p rest arms
  arms_walks p _ _ = 0
