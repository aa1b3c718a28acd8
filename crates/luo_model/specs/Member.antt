-- Which structures belong to a node.
use Rattle.std.specs.Prelude.{◌≡◌, ℕ, suc, ◌≤◌, List, [], ◌∷◌, Option, Some, None, slice_get, length}
use Rattle.luo_model.specs.declared.program.Universe.{Universe}
use Rattle.luo_model.specs.declared.program.Universe.TheVariants.{Unlabelled, Labelled}
use Rattle.luo_model.specs.declared.program.Kind.{Kind}
use Rattle.luo_model.specs.declared.program.Part.{Part}
use Rattle.luo_model.specs.declared.program.Shape.{Shape}
use Rattle.luo_model.specs.declared.program.Shape.TheVariants as shape
use Rattle.luo_model.specs.Tree.{Tree, Trees, Atom, Inj, Tup, Coll, none, more, to_list, least_label}
use Rattle.luo_model.specs.Order.{IsBefore}
use Rattle.luo_model.specs.Program.{Program, shape_of}
use Rattle.luo_model.specs.Standing.{StandAs}

-- the label of an atom of a weight: at least 1 where the universe is labelled and the weight is 1,
-- and 0 elsewhere
abbrev pub IsLabel : Universe → ℕ → ℕ → Type 0
IsLabel Unlabelled weight label = label ≡ 0
IsLabel Labelled weight label = (weight ≡ 1 → 1 ≤ label) × ((weight ≡ 1 → ⊥) → label ≡ 0)

-- so many components are allowed
abbrev pub IsWithin : ℕ → Option ℕ → ℕ → Type 0
IsWithin low (Some high) k = (low ≤ k) × (k ≤ high)
IsWithin low None k = low ≤ k

-- structures stand as the components of a collection of this kind: by their least labels, or by the
-- order
abbrev pub ComponentsStand : Kind → List Tree → Type 0
ComponentsStand kind ts = StandAs least_label IsBefore kind ts

abbrev mutual
  -- the structure has this construct
  pub Fits : Program → Shape → Tree → Type 0
  Fits p (shape.Atom weight) (Atom w label) = (w ≡ weight) × IsLabel p.universe w label
  Fits p (shape.Union parts) (Inj (suc i) inner) =
      (part : Part) × (slice_get parts i ≡ Some part) × Fits p (shape_of p part.node) inner
  Fits p (shape.Product parts) (Tup ts) = FitAll p parts ts
  Fits p (shape.Coll kind part low high) (Coll ts) =
      IsWithin low high (length (to_list ts)) × FitEach p part ts
      × ComponentsStand kind (to_list ts)
  Fits p _ _ = ⊥

  -- there are as many parts as factors, and each is a member of its factor
  pub FitAll : Program → List Part → Trees → Type 0
  FitAll p [] none = Unit {0}
  FitAll p (part ∷ parts) (more t ts) = Fits p (shape_of p part.node) t × FitAll p parts ts
  FitAll p _ _ = ⊥

  -- each component is a member of the part
  pub FitEach : Program → Part → Trees → Type 0
  FitEach p part none = Unit {0}
  FitEach p part (more t ts) = Fits p (shape_of p part.node) t × FitEach p part ts

-- s is a member of node x
abbrev pub Member : Program → ℕ → Tree → Type 0
Member p x s = Fits p (shape_of p x) s
