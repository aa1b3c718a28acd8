-- Collections within bounds, step by step.
use Rattle.std.specs.Prelude.{◌≡◌, ℕ, zero, suc, ◌+◌, ◌*◌, ◌-◌, ◌≤◌, ◌<◌, Bool, true, false, List, length, slice_index, Option, Some, None}
use Rattle.luo_num.specs.declared.limits.TheConstants.{BOUND_LIMIT, SIZE_LIMIT}
use Rattle.luo_num.specs.Mark.{capped}
use Rattle.luo_finite.specs.Range.{sum_below}
use Rattle.luo_finite.specs.Binomial.{choose}
use Rattle.luo_model.specs.declared.program.Universe.TheVariants.{Labelled}
use Rattle.luo_model.specs.declared.program.Kind.{Kind}
use Rattle.luo_model.specs.declared.program.Kind.TheVariants.{Sequence, Set, Cycle, Multiset, Powerset}
use Rattle.luo_counting.specs.Items.{Suits}
use Rattle.luo_counting.specs.Numbers.{coll_count, coll_total}
use Rattle.luo_labelled.specs.declared.steps.Steps.{Steps}

-- what comes after the first component
abbrev pub rest_of : Kind → Kind
rest_of Set = Set
rest_of Sequence = Sequence
rest_of Cycle = Sequence
rest_of Multiset = Sequence
rest_of Powerset = Sequence

-- the first component has the least label
abbrev pub is_led : Kind → Bool
is_led Sequence = false
is_led Set = true
is_led Cycle = true
is_led Multiset = true
is_led Powerset = true

-- the ways to choose the j labels of the first component among n
abbrev pub ways : Bool → ℕ → ℕ → ℕ
ways true n j = choose (n - 1) (j - 1)
ways false n j = choose n j

-- a first component of size j + 1, as many as a says, and what f says of the size that is left
abbrev pub joined : Bool → (ℕ → ℕ) → (ℕ → ℕ) → ℕ → ℕ
joined led a f n = sum_below (λ j. ways led n (suc j) * (a (suc j) * f (n - suc j))) n

-- the bounds after one component, and whether they allow one
abbrev pub one_less : Option ℕ → Option ℕ
one_less (Some high) = Some (high - 1)
one_less None = None

abbrev pub AllowsOne : Option ℕ → Type 0
AllowsOne (Some high) = 1 ≤ high
AllowsOne None = Unit {0}

-- the steps to the bounds: up to step `free` a collection may be empty, step `last` has the bounds
-- themselves
abbrev pub steps_of : ℕ → Option ℕ → ℕ → Steps
steps_of low (Some high) n_max =
    record { free = high - low; last = high; unbounded = false; wide = n_max + 1 }
steps_of low None n_max = record { free = 0; last = low; unbounded = true; wide = n_max + 1 }

-- the greatest number of components at step i
abbrev pub most_at : Bool → ℕ → Option ℕ
most_at true i = None
most_at false i = Some i

-- the collections of size n at step i, and the charges over them
abbrev pub step_count : Steps → Kind → (ℕ → ℕ) → ℕ → ℕ → ℕ
step_count s kind a i n = coll_count Labelled kind a (i - s.free) (most_at s.unbounded i) n

abbrev pub step_total : Steps → Kind → (ℕ → ℕ) → (ℕ → ℕ) → ℕ → ℕ → ℕ
step_total s kind a b i n = coll_total Labelled kind a b (i - s.free) (most_at s.unbounded i) n

-- the same where the numbers of components, and the sums of charges over them, are lists
abbrev pub counts_of : Steps → Kind → List ℕ → ℕ → ℕ → ℕ
counts_of s kind comp = step_count s kind (slice_index comp)

abbrev pub totals_of : Steps → Kind → List ℕ → List ℕ → ℕ → ℕ → ℕ
totals_of s kind comp body = step_total s kind (slice_index comp) (slice_index body)

-- a cycle isn't empty
abbrev pub IsOpen : Kind → ℕ → ℕ → Type 0
IsOpen Cycle free i = free < i
IsOpen _ free i = Unit {0}

-- 1 where i isn't above free, and 0 elsewhere
abbrev pub up_to : ℕ → ℕ → ℕ
up_to free zero = 1
up_to zero (suc i) = 0
up_to (suc free) (suc i) = up_to free i

-- 1 for the empty collection, where step i allows it
abbrev pub empty_at : ℕ → ℕ → ℕ → ℕ
empty_at free i zero = up_to free i
empty_at free i (suc n) = 0

-- the steps have rows: those below the last, or where there is none one for the answers
abbrev pub row_count : ℕ → ℕ
row_count zero = 1
row_count (suc last) = suc last

-- a row has the numbers of the sizes below n, marked
abbrev pub HoldsRow : ℕ → (ℕ → ℕ) → ℕ → ℕ → List ℕ → Type 0
HoldsRow wide f i n cells = (m : ℕ) → m < n → slice_index cells (i * wide + m) ≡ capped (f m)

-- a plan for collections of a kind
pub record IsPlan (s : Steps) (kind : Kind) : Type 0 where
  pub chained : Suits Labelled kind 1
  pub short : s.last ≤ BOUND_LIMIT
  pub narrow : s.wide ≤ SIZE_LIMIT + 1
  pub may_begin : IsOpen kind s.free s.last

-- step i of a plan, at size n
pub record IsPlanned (s : Steps) (kind : Kind) (i n : ℕ) : Type 0 where
  pub chained : Suits Labelled kind 1
  pub short : s.last ≤ BOUND_LIMIT
  pub narrow : s.wide ≤ SIZE_LIMIT + 1
  pub may_begin : IsOpen kind s.free i
  pub inside : i ≤ s.last
  pub size : n < s.wide

-- a step has one before it: where the bounds have no greatest number step 0 goes on from itself
abbrev pub HasSource : Bool → ℕ → Type 0
HasSource true i = Unit {0}
HasSource false i = 1 ≤ i

-- the row of the step before, if there is one, has the numbers f of the sizes below n
abbrev pub HoldsSource : Steps → ℕ → ℕ → (ℕ → ℕ) → List ℕ → Type 0
HoldsSource s i n f cells = HasSource s.unbounded i → HoldsRow s.wide f (i - 1) n cells

-- the rows of the steps below the last have the numbers F of the sizes below n
abbrev pub HoldsBelow : Steps → (ℕ → ℕ → ℕ) → ℕ → List ℕ → Type 0
HoldsBelow s F n cells = (i : ℕ) → i < s.last → HoldsRow s.wide (F i) i n cells

-- after so many calls these rows have the numbers of the sizes below the last one; where step 0
-- goes on from itself and is the last, its row has the answers
pub record HoldRows (s : Steps) (F : ℕ → ℕ → ℕ) (calls : ℕ) (cells : List ℕ) : Type 0 where
  pub below : HoldsBelow s F (calls - 1) cells
  pub answers : s.last ≡ 0 → s.unbounded ≡ true → HoldsRow s.wide (F 0) 0 calls cells

-- at size m the rows of the steps below i have been written
pub record Settling (s : Steps) (F : ℕ → ℕ → ℕ) (m i : ℕ) (old new : List ℕ) : Type 0 where
  pub long : length new ≡ length old
  pub before : HoldsBelow s F m new
  pub written : (k : ℕ) → k < i → slice_index new (k * s.wide + m) ≡ capped (F k m)
  pub nothing : s.last ≡ 0 → new ≡ old

-- the rows of the steps below the last have been written up to size n
pub record Settled (s : Steps) (F : ℕ → ℕ → ℕ) (n : ℕ) (old new : List ℕ) : Type 0 where
  pub long : length new ≡ length old
  pub below : HoldsBelow s F n new
  pub nothing : s.last ≡ 0 → new ≡ old
