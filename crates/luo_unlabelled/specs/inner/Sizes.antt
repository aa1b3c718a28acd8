-- Rows by size alone: cell m is for the collections of size m, of any number of components.
use Rattle.std.specs.Prelude.{◌≡◌, ℕ, zero, suc, ◌+◌, ◌*◌, ◌-◌, ◌≤◌, ◌<◌, List, length, slice_index, None}
use Rattle.luo_num.specs.Mark.{capped}
use Rattle.luo_finite.specs.Range.{sum_below, unit}
use Rattle.luo_model.specs.declared.program.Kind.{Kind}
use Rattle.luo_counting.specs.Numbers.{back, chosen, chosen_totals}
use Rattle.luo_unlabelled.specs.Calls.{AreBounds, IsOfParts}
use Rattle.luo_unlabelled.specs.inner.Planes.{AreWays}

-- the ways w to take j items of size s, times the number f of the rest: the sum over j
abbrev pub stepped : (ℕ → ℕ) → (ℕ → ℕ) → ℕ → ℕ → ℕ
stepped w f s m = sum_below (λ j. w j * back (j * s) f m) (suc m)

-- the multisets or powersets of items of sizes 1 to d, of size m
abbrev pub sized : Kind → (ℕ → ℕ) → ℕ → ℕ → ℕ
sized kind a zero m = unit m
sized kind a (suc d) m = stepped (chosen kind (a (suc d))) (sized kind a d) (suc d) m

-- and the charges over them
abbrev pub sized_totals : Kind → (ℕ → ℕ) → (ℕ → ℕ) → ℕ → ℕ → ℕ
sized_totals kind a b zero m = 0
sized_totals kind a b (suc d) m =
    stepped (chosen_totals kind (a (suc d)) (b (suc d))) (sized kind a d) (suc d) m
    + stepped (chosen kind (a (suc d))) (sized_totals kind a b d) (suc d) m

-- the same step over cells
abbrev pub from_cells : List ℕ → List ℕ → ℕ → ℕ → ℕ
from_cells ways cells d m = stepped (slice_index ways) (slice_index cells) d m

-- cell m has the number f m, marked
abbrev pub HoldsSizes : ℕ → (ℕ → ℕ) → List ℕ → Type 0
HoldsSizes wide f cells = (m : ℕ) → m < wide → slice_index cells m ≡ capped (f m)

-- the cells from `first` on have been written: g says what from the old cells
pub record IsFolded (g : List ℕ → ℕ → ℕ) (first : ℕ) (old new : List ℕ) : Type 0 where
  pub long : length new ≡ length old
  pub done : (m : ℕ) → first ≤ m → m < length old → slice_index new m ≡ g old m
  pub rest : (m : ℕ) → m < first → slice_index new m ≡ slice_index old m

-- a size folded into a row of counts, and of charges
abbrev pub count_fold : List ℕ → ℕ → List ℕ → ℕ → ℕ
count_fold ways d cells m = capped (from_cells ways cells d m)

abbrev pub total_fold : List ℕ → List ℕ → List ℕ → ℕ → List ℕ → ℕ → ℕ
total_fold ways charges counts d cells m =
    capped (from_cells charges counts d m + from_cells ways cells d m)

-- the number of collections of size n of at least `low` components, where low is at most 2: those
-- of components below n, and those of one component of size n, of which there is none where low is
-- 2
abbrev pub count_any : ℕ → Kind → (ℕ → ℕ) → ℕ → ℕ → ℕ
count_any low kind a here zero = 1 - low
count_any low kind a here (suc n) = sized kind a n (suc n) + here

-- after so many calls the row has the sizes up to that before the last but one, and the ways are
-- those of that before the last
pub record IsUnbounded (kind : Kind) (low n_max calls : ℕ) (comp ways cells : List ℕ) : Type 0 where
  pub parts : IsOfParts kind
  pub bounds : AreBounds low None n_max
  pub any : low ≤ 2
  pub reached : calls ≤ n_max + 1
  pub sizes : length comp ≡ n_max + 1
  pub ways_long : length ways ≡ n_max + 1
  pub row : length cells ≡ n_max + 1
  pub none_empty : slice_index comp 0 ≡ 0
  pub known : 3 ≤ calls → AreWays kind (slice_index comp (calls - 2)) (calls - 2) (n_max + 1) ways
  pub holds : HoldsSizes (n_max + 1) (sized kind (slice_index comp) (calls - 3)) cells

-- after so many calls the row of charges has the sizes up to that before the last
pub record IsUnboundedWalk (kind : Kind) (low n_max calls : ℕ)
    (comp body charges cells : List ℕ) : Type 0 where
  pub parts : IsOfParts kind
  pub bounds : AreBounds low None n_max
  pub any : low ≤ 2
  pub reached : calls ≤ n_max + 1
  pub sizes : length comp ≡ n_max + 1
  pub sums : length body ≡ n_max + 1
  pub charges_long : length charges ≡ n_max + 1
  pub row : length cells ≡ n_max + 1
  pub none_empty : slice_index comp 0 ≡ 0
  pub none_charged : slice_index body 0 ≡ 0
  pub holds : HoldsSizes (n_max + 1)
      (sized_totals kind (slice_index comp) (slice_index body) (calls - 2)) cells
