-- Least sizes by the construct, from those of the parts.
use Rattle.std.specs.Prelude.{◌≡◌, ◌⊎◌, ℕ, ◌≤◌, ◌<◌, ◌+◌, ◌*◌, List, [], ◌∷◌, min, sum_by, Option, Some, None, length, slice_get}
use Rattle.luo_num.specs.declared.limits.TheConstants.{SIZE_LIMIT}
use Rattle.luo_model.specs.declared.program.Node.{Node}
use Rattle.luo_model.specs.declared.program.Part.{Part}
use Rattle.luo_model.specs.declared.program.Shape.{Shape}
use Rattle.luo_model.specs.declared.program.Shape.TheVariants as shape
use Rattle.luo_model.specs.Tree.{Tree}
use Rattle.luo_model.specs.Program.{Program, shape_of}
use Rattle.luo_model.specs.Structures.{IsStructure}

-- a number for sizes past the last of a table
abbrev pub past_last : ℕ
past_last = SIZE_LIMIT + 1

abbrev pub least_part : (ℕ → ℕ) → List Part → ℕ
least_part T [] = past_last
least_part T (part ∷ parts) = min (T part.node) (least_part T parts)

-- the size of a least structure of this construct, where T has those of its parts
abbrev pub least_by : (ℕ → ℕ) → Shape → ℕ
least_by T (shape.Atom weight) = weight
least_by T (shape.Union parts) = least_part T parts
least_by T (shape.Product parts) = sum_by (λ part. T part.node) parts
least_by T (shape.Coll kind part low high) = low * T part.node

-- no construct makes less than T has
abbrev pub IsSettled : Program → (ℕ → ℕ) → Type 0
IsSettled p T = (x : ℕ) → T x ≤ least_by T (shape_of p x)

-- n is the least size of a structure of node x, where it is within the sizes of tables; where it is
-- past them, each is at least n
pub record IsLeastTo (p : Program) (x n : ℕ) : Type 0 where
  pub low : (m : ℕ) (s : Tree) → IsStructure p x m s → n ≤ m
  pub there : n ≤ SIZE_LIMIT → (s : Tree) × IsStructure p x n s

abbrev pub or_past : Option ℕ → ℕ
or_past None = past_last
or_past (Some n) = n

-- the number of a table for a node
abbrev pub size_at : List ℕ → ℕ → ℕ
size_at table x = or_past (slice_get table x)

-- no number of the table is above the one for sizes past the last
abbrev pub IsCapped : List ℕ → Type 0
IsCapped table = (x n : ℕ) → slice_get table x ≡ Some n → n ≤ past_last

-- node x is made of size n by the table, which has more
abbrev pub IsLess : List Node → List ℕ → ℕ × ℕ → Type 0
IsLess nodes table r =
    (node : Node) × (slice_get nodes r.0 ≡ Some node) × (r.1 < size_at table r.0)
    × (r.1 ≡ min past_last (least_by (size_at table) node.shape))

abbrev pub NoneLess : List Node → List ℕ → Type 0
NoneLess nodes table =
    (x : ℕ) (node : Node) → slice_get nodes x ≡ Some node
    → size_at table x ≤ least_by (size_at table) node.shape

-- new is next, or one with less: a node with its size, where it is less than the old one
abbrev pub IsLesser : Option (ℕ × ℕ) → ℕ × ℕ → ℕ → Option (ℕ × ℕ) → Type 0
IsLesser next one old None = (next ≡ None) × (old ≤ one.1)
IsLesser next one old (Some r) = (next ≡ Some r) ⊎ ((r ≡ one) × (one.1 < old))

-- the least sizes of all nodes
pub record AreLeast (p : Program) (table : List ℕ) : Type 0 where
  pub long : length table ≡ length p.nodes
  pub capped : IsCapped table
  pub each : (x : ℕ) → IsLeastTo p x (size_at table x)
