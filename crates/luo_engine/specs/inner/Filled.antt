-- What is filled of a table of counts or of totals, entry by entry in order.
use Rattle.std.specs.Prelude.{◌≡◌, ◌⊎◌, ℕ, ◌<◌, ◌≤◌, List, ◌∷◌, ◌++◌, length, map, Option, Some, None, slice_get, slice_index, drop}
use Rattle.luo_num.specs.Mark.{capped}
use Rattle.luo_num.specs.declared.TheConstants.{MAX}
use Rattle.luo_model.specs.declared.program.Part.{Part}
use Rattle.luo_model.specs.declared.program.Shape.TheVariants.{Product}
use Rattle.luo_model.specs.Program.{Program, shape_of}
use Rattle.luo_model.specs.Tables.{IsCount}
use Rattle.luo_model.specs.Levels.{IsRank}
use Rattle.luo_engine.specs.inner.Grid.{Reaches, entry_of}
use Rattle.luo_engine.specs.inner.Partial.{AreLinks}

-- the rank of a node
abbrev pub rank_of : List ℕ → ℕ → ℕ
rank_of ranks x = slice_index ranks x

-- the ranks of all nodes
pub record AreRanks (p : Program) (ranks : List ℕ) : Type 0 where
  pub wide : length ranks ≡ length p.nodes
  pub ranked : (x : ℕ) → x < length p.nodes → IsRank p x (rank_of ranks x)

-- the list holds each number below `size` once, and each comes before all after it
pub record IsOrderOf (size : ℕ) (Before : ℕ → ℕ → Type 0) (order : List ℕ) : Type 0 where
  pub there : (j x : ℕ) → slice_get order j ≡ Some x → x < size
  pub complete : (x : ℕ) → x < size → (j : ℕ) × (slice_get order j ≡ Some x)
  pub rising : (i j x y : ℕ) → i < j → slice_get order i ≡ Some x → slice_get order j ≡ Some y
      → Before x y

-- the entry is the number of x at size n, and doesn't overflow
abbrev pub IsRightOf : (ℕ → ℕ → ℕ → Type 0) → List (List ℕ) → ℕ → ℕ → Type 0
IsRightOf Is table x n = Is x n (entry_of table x n) × (entry_of table x n ≤ MAX)

-- the entries of smaller sizes are right, of size n those before place k of the order; all others
-- are 0
pub record AreFilled
    (Is : ℕ → ℕ → ℕ → Type 0) (size : ℕ) (order : List ℕ) (table : List (List ℕ))
    (n k : ℕ) : Type 0 where
  pub wide : length table ≡ size
  pub reach : Reaches n table
  pub below : (x m : ℕ) → x < size → m < n → IsRightOf Is table x m
  pub done : (j x : ℕ) → j < k → slice_get order j ≡ Some x → IsRightOf Is table x n
  pub waiting : (j x : ℕ) → k ≤ j → slice_get order j ≡ Some x → entry_of table x n ≡ 0
  pub ahead : (x m : ℕ) → n < m → entry_of table x m ≡ 0

-- the value is the number of x at size n, marked
pub record NumbersTo (Is : ℕ → ℕ → ℕ → Type 0) (x n value : ℕ) : Type 0 where
  pub number : ℕ
  pub is_number : Is x n number
  pub marked : value ≡ capped number

-- the number of x at size n overflows, and none that comes before it is
pub record IsFirstPastOf (Is : ℕ → ℕ → ℕ → Type 0) (size : ℕ) (Before : ℕ → ℕ → Type 0)
    (n x : ℕ) : Type 0 where
  pub there : x < size
  pub past : (c : ℕ) × Is x n c × (MAX < c)
  pub smaller : (y m c : ℕ) → y < size → m < n → Is y m c → c ≤ MAX
  pub before : (y c : ℕ) → y < size → Before y x → Is y n c → c ≤ MAX

-- counts of one size come by rank, and then by number
abbrev pub IsBefore : List ℕ → ℕ → ℕ → Type 0
IsBefore ranks x y =
    (rank_of ranks x < rank_of ranks y) ⊎ ((rank_of ranks x ≡ rank_of ranks y) × (x < y))

abbrev pub IsOrder : Program → List ℕ → List ℕ → Type 0
IsOrder p ranks order = IsOrderOf (length p.nodes) (IsBefore ranks) order

abbrev pub IsRight : Program → List (List ℕ) → ℕ → ℕ → Type 0
IsRight p counts x n = IsRightOf (IsCount p) counts x n

abbrev pub AreCounted : Program → List ℕ → List (List ℕ) → ℕ → ℕ → Type 0
AreCounted p order counts n k = AreFilled (IsCount p) (length p.nodes) order counts n k

abbrev pub CountsTo : Program → ℕ → ℕ → ℕ → Type 0
CountsTo p x n value = NumbersTo (IsCount p) x n value

abbrev pub IsFirstPast : Program → List ℕ → ℕ → ℕ → Type 0
IsFirstPast p ranks n x = IsFirstPastOf (IsCount p) (length p.nodes) (IsBefore ranks) n x

-- the rows of each product's factors stand one after the other, from `starts` on
pub record IsLaid (p : Program) (starts : List ℕ) (factors : List (Option ℕ)) : Type 0 where
  pub links : AreLinks factors (length p.nodes)
  pub wide : length starts ≡ length p.nodes
  pub products : (x : ℕ) (parts : List Part) → x < length p.nodes → shape_of p x ≡ Product parts
      → (rest : List (Option ℕ))
      × (drop (slice_index starts x) factors ≡ map (λ part. Some part.node) parts ++ (None ∷ rest))

-- the entries of smaller sizes are right
pub record AreKept (p : Program) (counts : List (List ℕ)) (n : ℕ) : Type 0 where
  pub wide : length counts ≡ length p.nodes
  pub reach : Reaches n counts
  pub below : (x m : ℕ) → x < length p.nodes → m < n → IsRight p counts x m
