-- The counts of a program as a function of nodes and sizes, and the equations that they satisfy.
use Rattle.std.specs.Prelude.{◌≡◌, ℕ, ◌==◌, ◌<◌, if◌then◌else◌, List, ◌∷◌, ◌++◌, Option, map, sum_by}
use Rattle.luo_finite.specs.Listing.{In}
use Rattle.luo_model.specs.declared.program.Kind.{Kind}
use Rattle.luo_model.specs.declared.program.Part.{Part}
use Rattle.luo_model.specs.declared.program.Shape.TheVariants.{Atom, Union, Product, Coll}
use Rattle.luo_model.specs.Member.{IsWithin}
use Rattle.luo_model.specs.Levels.{IsRank}
use Rattle.luo_model.specs.Program.{Program, shape_of}
use Rattle.luo_counting.specs.Sharing.{products}
use Rattle.luo_counting.specs.Numbers.{coll_count}
use Rattle.luo_counting.specs.Counted.{CountsAt}

-- an atom has one structure, of its weight
abbrev pub atom_count : ℕ → ℕ → ℕ
atom_count weight n = if n == weight then 1 else 0

-- the rank of y is below that of x
abbrev pub Falls : Program → ℕ → ℕ → Type 0
Falls p x y = (r s : ℕ) → IsRank p x r → IsRank p y s → s < r

-- some other factor, before or after, has nothing of size 0
abbrev pub OtherHasNone : (ℕ → ℕ → ℕ) → List Part → List Part → Type 0
OtherHasNone counts before after =
    (other : Part) × In other (before ++ after) × (counts other.node 0 ≡ 0)

pub record Obeys (p : Program) (counts : ℕ → ℕ → ℕ) : Type 0 where
  pub known : (x n : ℕ) → CountsAt p x n (counts x n)
  pub atom : (x weight n : ℕ) → shape_of p x ≡ Atom weight → counts x n ≡ atom_count weight n
  pub union : (x n : ℕ) (parts : List Part) → shape_of p x ≡ Union parts
      → counts x n ≡ sum_by (λ part. counts part.node n) parts
  pub product : (x n : ℕ) (parts : List Part) → shape_of p x ≡ Product parts
      → counts x n ≡ products p.universe (map (λ part. counts part.node) parts) n
  pub collection : (x n low : ℕ) (kind : Kind) (part : Part) (high : Option ℕ)
      → shape_of p x ≡ Coll kind part low high
      → counts x n ≡ coll_count p.universe kind (counts part.node) low high n
  -- a component has nothing of size 0
  pub component : (x low : ℕ) (kind : Kind) (part : Part) (high : Option ℕ)
      → shape_of p x ≡ Coll kind part low high
      → counts part.node 0 ≡ 0
  -- a same-size step leads from a union to each branch, from a product to a factor where each other
  -- one has something of size 0, and from a collection to its component where one is allowed
  pub branch_falls : (x : ℕ) (parts : List Part) (part : Part) → shape_of p x ≡ Union parts
      → In part parts
      → Falls p x part.node
  pub factor_falls : (x : ℕ) (before after : List Part) (part : Part)
      → shape_of p x ≡ Product (before ++ part ∷ after)
      → (OtherHasNone counts before after → ⊥) → Falls p x part.node
  pub component_falls : (x low : ℕ) (kind : Kind) (part : Part) (high : Option ℕ)
      → shape_of p x ≡ Coll kind part low high → IsWithin low high 1 → Falls p x part.node
