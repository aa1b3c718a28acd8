-- Sequences within bounds, step by step.
use Rattle.std.specs.Prelude.{◌≡◌, ℕ, zero, suc, ◌+◌, ◌*◌, ◌-◌, ◌≤◌, ◌<◌, Bool, true, false, List, length, slice_index, Option, Some, None, nat_le, if◌then◌else◌}
use Rattle.luo_num.specs.Mark.{capped}
use Rattle.luo_finite.specs.Range.{sum_below, unit}
use Rattle.luo_model.specs.declared.program.Universe.TheVariants.{Unlabelled}
use Rattle.luo_model.specs.declared.program.Kind.TheVariants.{Sequence}
use Rattle.luo_model.specs.Member.{IsWithin}
use Rattle.luo_counting.specs.Numbers.{coll_count, coll_total}
use Rattle.luo_unlabelled.specs.Calls.{AreBounds}
use Rattle.luo_unlabelled.specs.declared.steps.Steps.{Steps}

-- the sum over j from 1 to n of number j times cell n - j of a row
abbrev pub convolved : List ℕ → List ℕ → ℕ → ℕ → ℕ
convolved numbers cells row n =
    sum_below (λ j. slice_index numbers (suc j) * slice_index cells (row + (n - suc j))) n

abbrev pub steps_of : ℕ → Option ℕ → ℕ → Steps
steps_of low (Some high) n_max =
    record { free = high - low; last = high; bounded = true; wide = n_max + 1 }
steps_of low None n_max = record { free = 0; last = low; bounded = false; wide = n_max + 1 }

-- the greatest number of components at step i
abbrev pub most_at : Bool → ℕ → Option ℕ
most_at true i = Some i
most_at false i = None

-- the sequences of size n at step i
abbrev pub step_count : Steps → (ℕ → ℕ) → ℕ → ℕ → ℕ
step_count s a i n = coll_count Unlabelled Sequence a (i - s.free) (most_at s.bounded i) n

-- and the charges over them
abbrev pub step_total : Steps → (ℕ → ℕ) → (ℕ → ℕ) → ℕ → ℕ → ℕ
step_total s a b i n = coll_total Unlabelled Sequence a b (i - s.free) (most_at s.bounded i) n

-- one component is within the bounds of the last step
abbrev pub TakesOne : Steps → Type 0
TakesOne s = IsWithin (s.last - s.free) (most_at s.bounded s.last) 1

-- the empty sequence, where step i has it
abbrev pub empty_at : Steps → ℕ → ℕ → ℕ
empty_at s i n = if nat_le i s.free then unit n else 0

-- the step that step i goes on from
abbrev pub source : ℕ → ℕ
source zero = zero
source (suc i) = i

-- the row of step i has the numbers f i m of the sizes m below n, marked
abbrev pub HoldsRow : Steps → (ℕ → ℕ → ℕ) → ℕ → ℕ → List ℕ → Type 0
HoldsRow s f i n cells = (m : ℕ) → m < n → slice_index cells (i * s.wide + m) ≡ capped (f i m)

-- the row that step i goes on from does, if there is one
abbrev pub HasSource : Steps → (ℕ → ℕ → ℕ) → ℕ → ℕ → List ℕ → Type 0
HasSource s f zero n cells = s.bounded ≡ false → HoldsRow s f zero n cells
HasSource s f (suc i) n cells = HoldsRow s f i n cells

-- the rows of the steps below the last do
abbrev pub HoldsBelow : Steps → (ℕ → ℕ → ℕ) → ℕ → List ℕ → Type 0
HoldsBelow s f n cells = (i : ℕ) → i < s.last → HoldsRow s f i n cells

-- the numbers of size m have been written at the steps below i, and the row of the last step is as
-- it was
pub record Settled (s : Steps) (f : ℕ → ℕ → ℕ) (m i : ℕ) (old new : List ℕ) : Type 0 where
  pub long : length new ≡ length old
  pub before : HoldsBelow s f m new
  pub written : (k : ℕ) → k < i → slice_index new (k * s.wide + m) ≡ capped (f k m)
  pub others : (x : ℕ) → x < s.wide
      → slice_index new (s.last * s.wide + x) ≡ slice_index old (s.last * s.wide + x)

-- after so many calls the row of the last step has their answers, and the others have the numbers
-- of the sizes below the last one
pub record HoldsTable (s : Steps) (f : ℕ → ℕ → ℕ) (calls : ℕ) (cells : List ℕ) : Type 0 where
  pub below : (i m : ℕ) → i < s.last → suc m < calls
      → slice_index cells (i * s.wide + m) ≡ capped (f i m)
  pub answers : HoldsRow s f s.last calls cells

-- the numbers of a call go on from those that are kept
pub record Follows (s : Steps) (kept numbers : List ℕ) : Type 0 where
  pub agree : (m : ℕ) → suc m < length numbers → slice_index numbers m ≡ slice_index kept m
  pub last_agrees : (m : ℕ) → suc m ≡ length numbers → TakesOne s
      → slice_index numbers m ≡ slice_index kept m

pub record IsLine (low : ℕ) (high : Option ℕ) (n_max calls : ℕ) (comp cells : List ℕ) : Type 0 where
  pub bounds : AreBounds low high n_max
  pub reached : calls ≤ n_max + 1
  pub sizes : length comp ≡ n_max + 1
  pub rows : length cells ≡ ((steps_of low high n_max).last + 1) * (n_max + 1)
  pub none_empty : slice_index comp 0 ≡ 0
  pub holds : HoldsTable (steps_of low high n_max)
      (step_count (steps_of low high n_max) (slice_index comp)) calls cells

-- the rows of all steps have the numbers of the sizes below n
pub record HoldsAll (s : Steps) (f : ℕ → ℕ → ℕ) (n : ℕ) (cells : List ℕ) : Type 0 where
  pub below : HoldsBelow s f n cells
  pub last : HoldsRow s f s.last n cells

pub record IsLineWalk (low : ℕ) (high : Option ℕ) (n_max calls : ℕ)
    (comp body cells : List ℕ) : Type 0 where
  pub bounds : AreBounds low high n_max
  pub reached : calls ≤ n_max + 1
  pub sizes : length comp ≡ n_max + 1
  pub sums : length body ≡ n_max + 1
  pub rows : length cells ≡ ((steps_of low high n_max).last + 1) * (n_max + 1)
  pub none_empty : slice_index comp 0 ≡ 0
  pub none_charged : slice_index body 0 ≡ 0
  pub holds : HoldsTable (steps_of low high n_max)
      (step_total (steps_of low high n_max) (slice_index comp) (slice_index body)) calls cells
