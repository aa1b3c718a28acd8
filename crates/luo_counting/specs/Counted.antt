-- Numbers of the structures of a node, and sums over them, on any labels.
use Rattle.std.specs.Prelude.{◌≡◌, ℕ, ◌≤◌, ◌+◌, List}
use Rattle.luo_finite.specs.Listing.{Sums}
use Rattle.luo_model.specs.declared.program.Universe.TheVariants.{Labelled}
use Rattle.luo_model.specs.declared.program.Shape.{Shape}
use Rattle.luo_model.specs.Tree.{Tree, Trees, Coll, none, more}
use Rattle.luo_model.specs.Program.{Program, shape_of}
use Rattle.luo_model.specs.Structures.{IsStructureOn}
use Rattle.luo_model.specs.declared.program.Shape.TheVariants as shape
use Rattle.luo_counting.specs.Sharing.{IsRoom}

-- over the structures of node x of size n, on any labels of this number, w sums to t
abbrev pub SumsAt : Program → ℕ → (Tree → ℕ) → ℕ → ℕ → Type 0
SumsAt p x w n t = (L : List ℕ) → IsRoom p.universe L n → Sums (IsStructureOn p x L n) w t

-- on any labels there are c structures of node x of size n
abbrev pub CountsAt : Program → ℕ → ℕ → ℕ → Type 0
CountsAt p x n c = SumsAt p x (λ t. 1) n c

-- an atom has weight at most 1 where the universe is labelled
abbrev pub IsLight : Shape → Type 0
IsLight (shape.Atom weight) = weight ≤ 1
IsLight _ = Unit {0}

abbrev pub AreLight : Program → Type 0
AreLight p = p.universe ≡ Labelled → (x : ℕ) → IsLight (shape_of p x)

-- the numbers w over the components of a collection
abbrev pub over_trees : (Tree → ℕ) → Trees → ℕ
over_trees w none = 0
over_trees w (more t ts) = w t + over_trees w ts

abbrev pub over_components : (Tree → ℕ) → Tree → ℕ
over_components w (Coll ts) = over_trees w ts
over_components w _ = 0
