-- The nodes of lists of type expressions, and what is known where nodes are made.
use Rattle.std.specs.Prelude.{◌≡◌, ℕ, ◌+◌, ◌<◌, ◌≤◌, List, [], ◌∷◌, ◌++◌, length, Option, Some, None, slice_get, sum_by, flat_map}
use Rattle.luo_num.specs.declared.limits.TheConstants.{BOUND_LIMIT, NODE_LIMIT}
use Rattle.luo_model.specs.declared.program.Universe.{Universe}
use Rattle.luo_model.specs.declared.program.Part.{Part}
use Rattle.luo_model.specs.declared.program.Node.{Node}
use Rattle.luo_model.specs.declared.program.Shape.{Shape}
use Rattle.luo_model.specs.declared.program.Shape.TheVariants as shape
use Rattle.luo_source.specs.declared.types.TypeExpr.{TypeExpr}
use Rattle.luo_source.specs.Plain.Types as plain
use Rattle.luo_source.specs.View.{expr_of}
use Rattle.luo_rules.specs.declared.names.Meaning.{Meaning}
use Rattle.luo_rules.specs.Counted.{greatest_by}
use Rattle.luo_rules.specs.Meanings.{meaning}
use Rattle.luo_types.specs.inner.Held.{nodes_in, bound_in, breaches_in}
use Rattle.luo_rules.specs.Definitions.{Definition, definition_meant}
use Rattle.luo_rules.specs.inner.Naming.{node_of}
use Rattle.luo_rules.specs.TypeBreaches.{low_of, high_of}
use Rattle.luo_rules.specs.Nodes.{Spot, behind, part_at, parts_at, nodes_at, all_nodes_at}

-- names mean definitions below this number alone
abbrev pub MeanBelow : List (List ℕ × Meaning) → ℕ → Type 0
MeanBelow names n = (text : List ℕ) (i : ℕ) → definition_meant (meaning names text) ≡ Some i → i < n

-- these are the nodes of the definitions
abbrev pub AreNodes : List (List ℕ × Meaning) → List Definition → List ℕ → Type 0
AreNodes names defs nodes =
    (i : ℕ) → i < length defs → slice_get nodes i ≡ Some (node_of names defs i)

-- the nodes of a type expression may be put from this spot on: there is room, nothing in it is
-- broken, and its bounds are small
pub record FitsAt (universe : Universe) (names : List (List ℕ × Meaning)) (at : Spot)
    (e : TypeExpr) : Type 0 where
  pub room : at.node + nodes_in e ≤ NODE_LIMIT
  pub clean : breaches_in universe names e ≡ []
  pub small : bound_in e ≤ BOUND_LIMIT

-- those of type expressions may, one after the other
pub record AllFitAt (universe : Universe) (names : List (List ℕ × Meaning)) (at : Spot)
    (es : List TypeExpr) : Type 0 where
  pub room : at.node + sum_by nodes_in es ≤ NODE_LIMIT
  pub clean : flat_map (breaches_in universe names) es ≡ []
  pub small : greatest_by bound_in es ≤ BOUND_LIMIT

module _ (names : List (List ℕ × Meaning)) (defs : List Definition) where
  -- the parts that stand for type expressions, one after the other
  abbrev pub parts_of : Spot → List TypeExpr → List Part
  parts_of at [] = []
  parts_of at (e ∷ es) = part_at names defs at (expr_of e) ∷ parts_of (behind at (nodes_in e)) es

  -- the nodes of type expressions of definition `owner`, one after the other
  abbrev pub nodes_of : ℕ → Spot → List TypeExpr → List Node
  nodes_of owner at [] = []
  nodes_of owner at (e ∷ es) =
      nodes_at names defs owner at (expr_of e) ++ nodes_of owner (behind at (nodes_in e)) es

  -- the construct of a type expression at this spot, and none for a name
  abbrev pub construct_at : Spot → plain.TypeExpr → Option Shape
  construct_at at (plain.Named name) = None
  construct_at at (plain.Epsilon token) = Some (shape.Atom 0)
  construct_at at (plain.Atom weight weight_at token) = Some (shape.Atom weight)
  construct_at at (plain.Union parts) =
      Some (shape.Union (parts_at names defs (behind at 1) parts))
  construct_at at (plain.Product parts token) =
      Some (shape.Product (parts_at names defs (behind at 1) parts))
  construct_at at (plain.Coll kind part bound token) =
      Some (shape.Coll kind (part_at names defs (behind at 1) part) (low_of kind bound)
      (high_of bound))

  -- the nodes inside a construct of definition `owner` that stands at this spot
  abbrev pub inside_at : ℕ → Spot → plain.TypeExpr → List Node
  inside_at owner at (plain.Union parts) = all_nodes_at names defs owner (behind at 1) parts
  inside_at owner at (plain.Product parts token) =
      all_nodes_at names defs owner (behind at 1) parts
  inside_at owner at (plain.Coll kind part bound token) =
      nodes_at names defs owner (behind at 1) part
  inside_at owner at _ = []
