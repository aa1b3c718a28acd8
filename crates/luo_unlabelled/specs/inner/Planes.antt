-- Planes: for each number of components a row of cells, one for each size.
use Rattle.std.specs.Prelude.{◌≡◌, ℕ, suc, ◌+◌, ◌*◌, ◌-◌, ◌≤◌, ◌<◌, ◌==◌, List, length, slice_index, Option, Some, None, min, nat_lt, if◌then◌else◌}
use Rattle.luo_num.specs.Mark.{capped}
use Rattle.luo_finite.specs.Range.{sum_below}
use Rattle.luo_model.specs.declared.program.Kind.{Kind}
use Rattle.luo_counting.specs.Numbers.{back, chosen, chosen_totals, plane, plane_totals}
use Rattle.luo_unlabelled.specs.Calls.{AreBounds, IsOfParts}

-- ways to take j components of size d, times the cell of the others: the sum over j
abbrev pub with_size : List ℕ → List ℕ → ℕ → ℕ → ℕ → ℕ → ℕ
with_size ways cells wide d k m =
    sum_below (λ j. slice_index ways j * back (j * d)
    (λ x. slice_index cells ((k - j) * wide + x)) m) (suc k)

-- the ways to take j of c components of size d, marked, as far as they fit into the plane
abbrev pub AreWays : Kind → ℕ → ℕ → ℕ → List ℕ → Type 0
AreWays kind c d wide ways = (j : ℕ) → j * d < wide → slice_index ways j ≡ capped (chosen kind c j)

-- the charges over these ways, where those over the c components are t
abbrev pub AreCharges : Kind → ℕ → ℕ → ℕ → ℕ → List ℕ → Type 0
AreCharges kind c t d wide charges =
    (j : ℕ) → j * d < wide → slice_index charges j ≡ capped (chosen_totals kind c t j)

-- cell m of row k has the number f k m, marked
abbrev pub HoldsPlane : ℕ → ℕ → (ℕ → ℕ → ℕ) → List ℕ → Type 0
HoldsPlane deep wide f cells =
    (k m : ℕ) → k < deep → m < wide → slice_index cells (k * wide + m) ≡ capped (f k m)

-- in the rows below `deep` nothing stands for more components than the size
abbrev pub IsSlim : ℕ → ℕ → List ℕ → Type 0
IsSlim wide deep cells =
    (k m : ℕ) → k < deep → m < wide → m < k → slice_index cells (k * wide + m) ≡ 0

-- nor in the cells from which cell m of row k goes on, with components of size d
abbrev pub IsSlimBehind : ℕ → ℕ → ℕ → ℕ → List ℕ → Type 0
IsSlimBehind wide d k m cells =
    (j : ℕ) → j ≤ k → j * d ≤ m → m - j * d < k - j
    → slice_index cells ((k - j) * wide + (m - j * d)) ≡ 0

-- row k has been written up to cell m: g says what from the old cells
pub record IsRowPut (g : List ℕ → ℕ → ℕ → ℕ) (wide k m : ℕ) (old new : List ℕ) : Type 0 where
  pub long : length new ≡ length old
  pub done : (x : ℕ) → x < m → slice_index new (k * wide + x) ≡ g old k x
  pub rest : (x : ℕ) → m ≤ x → x < wide
      → slice_index new (k * wide + x) ≡ slice_index old (k * wide + x)
  pub others : (i x : ℕ) → (i ≡ k → ⊥) → x < wide
      → slice_index new (i * wide + x) ≡ slice_index old (i * wide + x)

-- the rows from `first` on have been written
pub record IsPut (g : List ℕ → ℕ → ℕ → ℕ) (wide first deep : ℕ) (old new : List ℕ) : Type 0 where
  pub long : length new ≡ length old
  pub done : (k m : ℕ) → first ≤ k → k < deep → m < wide
      → slice_index new (k * wide + m) ≡ g old k m
  pub rest : (k m : ℕ) → k < first → m < wide
      → slice_index new (k * wide + m) ≡ slice_index old (k * wide + m)

-- a size put into a plane of counts, and of charges
abbrev pub count_put : List ℕ → ℕ → ℕ → List ℕ → ℕ → ℕ → ℕ
count_put ways wide d cells k m = capped (with_size ways cells wide d k m)

abbrev pub total_put : List ℕ → List ℕ → List ℕ → ℕ → ℕ → List ℕ → ℕ → ℕ → ℕ
total_put ways charges counts wide d cells k m =
    capped (with_size charges counts wide d k m + with_size ways cells wide d k m)

-- one component of the size at hand
abbrev pub alone : ℕ → ℕ → ℕ
alone here k = if k == 1 then here else 0

-- the cell of the size n at k with the size before it put in, and one component of size n
abbrev pub top_count : List ℕ → List ℕ → ℕ → ℕ → ℕ → ℕ → ℕ
top_count ways cells wide n here k =
    (if nat_lt n 2 then slice_index cells (k * wide + n) else with_size ways cells wide (n - 1) k n)
    + alone here k

abbrev pub top_total : List ℕ → ℕ → ℕ → ℕ → ℕ → ℕ
top_total cells wide n here k = slice_index cells (k * wide + n) + alone here k

-- the sum of f from low on, up to, not with, end
abbrev pub sum_from : ℕ → ℕ → (ℕ → ℕ) → ℕ
sum_from low end f = sum_below (λ i. f (low + i)) (end - low)

-- the greatest number of components of size n
abbrev pub last_of : Option ℕ → ℕ → ℕ
last_of (Some high) n = min high n
last_of None n = n

-- after so many calls the plane has the sizes up to that before the last but one, and the ways are
-- those of that before the last
pub record IsParts (kind : Kind) (low : ℕ) (high : Option ℕ) (n_max calls : ℕ)
    (comp ways cells : List ℕ) : Type 0 where
  pub parts : IsOfParts kind
  pub bounds : AreBounds low high n_max
  pub reached : calls ≤ n_max + 1
  pub sizes : length comp ≡ n_max + 1
  pub ways_long : length ways ≡ n_max + 1
  pub rows : length cells ≡ (last_of high n_max + 1) * (n_max + 1)
  pub none_empty : slice_index comp 0 ≡ 0
  pub known : 3 ≤ calls → AreWays kind (slice_index comp (calls - 2)) (calls - 2) (n_max + 1) ways
  pub holds : HoldsPlane (last_of high n_max + 1) (n_max + 1)
      (plane kind (slice_index comp) (calls - 3)) cells

-- the charges within the bounds over collections of size n, of components below it, and over one
-- component of size n
abbrev pub sum_within : ℕ → Option ℕ → Kind → (ℕ → ℕ) → (ℕ → ℕ) → ℕ → ℕ → ℕ
sum_within low high kind a b here n =
    sum_from low (last_of high n + 1) (λ k. plane_totals kind a b (n - 1) k n + alone here k)

-- the same sum, of cells
abbrev pub sum_in_cells : ℕ → Option ℕ → List ℕ → ℕ → ℕ → ℕ → ℕ
sum_in_cells low high cells wide n here =
    sum_from low (last_of high n + 1) (top_total cells wide n here)

-- after so many calls the plane of charges has the sizes up to that before the last
pub record IsPartsWalk (kind : Kind) (low : ℕ) (high : Option ℕ) (n_max calls : ℕ)
    (comp body charges cells : List ℕ) : Type 0 where
  pub parts : IsOfParts kind
  pub bounds : AreBounds low high n_max
  pub reached : calls ≤ n_max + 1
  pub sizes : length comp ≡ n_max + 1
  pub sums : length body ≡ n_max + 1
  pub charges_long : length charges ≡ n_max + 1
  pub rows : length cells ≡ (last_of high n_max + 1) * (n_max + 1)
  pub none_empty : slice_index comp 0 ≡ 0
  pub none_charged : slice_index body 0 ≡ 0
  pub holds : HoldsPlane (last_of high n_max + 1) (n_max + 1)
      (plane_totals kind (slice_index comp) (slice_index body) (calls - 2)) cells
