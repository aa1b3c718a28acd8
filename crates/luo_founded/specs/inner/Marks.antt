-- Tables that mark numbers.
use Rattle.std.specs.Prelude.{◌≡◌, ℕ, ◌<◌, List, Bool, true, false, Some, length, slice_get}
use Rattle.luo_model.specs.declared.program.Node.{Node}
use Rattle.luo_model.specs.declared.program.Shape.{Shape}
use Rattle.luo_model.specs.declared.program.Shape.TheVariants as shape
use Rattle.luo_model.specs.Founded.{IsBuilt}

-- the table marks x
abbrev pub Marked : List Bool → ℕ → Type 0
Marked table x = slice_get table x ≡ Some true

-- atoms of all weights, or of weight 0 alone
abbrev pub Starts : Bool → ℕ → Type 0
Starts true weight = weight ≡ 0
Starts false weight = Unit {0}

-- the table marks exactly the numbers below n of which P holds
pub record Marks (P : ℕ → Type 0) (n : ℕ) (table : List Bool) : Type 0 where
  pub long : length table ≡ n
  pub sound : (x : ℕ) → Marked table x → P x
  pub complete : (x : ℕ) → x < n → P x → Marked table x

-- node x is not marked, and what is marked makes it
pub record IsNext (From : ℕ → Type 0) (nodes : List Node) (table : List Bool) (x : ℕ) : Type 0 where
  pub node : Node
  pub is : slice_get nodes x ≡ Some node
  pub unmarked : slice_get table x ≡ Some false
  pub made : IsBuilt From (Marked table) node.shape

-- there is none
abbrev pub IsClosed : (ℕ → Type 0) → List Node → List Bool → Type 0
IsClosed From nodes table =
    (x : ℕ) (node : Node) → slice_get nodes x ≡ Some node → slice_get table x ≡ Some false
    → IsBuilt From (Marked table) node.shape → ⊥

-- a collection whose component is marked
abbrev pub MarkedComponent : List Bool → Shape → Type 0
MarkedComponent table (shape.Coll kind part low high) = Marked table part.node
MarkedComponent table _ = ⊥

abbrev pub ComponentAt : List Node → List Bool → ℕ → Type 0
ComponentAt nodes table x =
    (node : Node) × (slice_get nodes x ≡ Some node) × MarkedComponent table node.shape
