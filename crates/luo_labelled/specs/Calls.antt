-- What contracts see in tables of labelled collections and of charges over them, and what their
-- calls are given.
use Rattle.std.specs.Prelude.{◌≡◌, ℕ, suc, ◌≤◌, ◌<◌, Bool, false, List, [], ◌∷◌, ◌++◌, length, slice_index, Option, Some, None}
use Rattle.luo_num.specs.declared.limits.TheConstants.{BOUND_LIMIT, SIZE_LIMIT}
use Rattle.luo_model.specs.declared.program.Universe.TheVariants.{Labelled}
use Rattle.luo_model.specs.declared.program.Kind.{Kind}
use Rattle.luo_model.specs.Member.{IsWithin}
use Rattle.luo_counting.specs.Items.{Suits}
use Rattle.luo_counting.specs.Numbers.{coll_count, coll_total}

-- what a table was made for, the numbers that its calls were given, one for each size from 0 on,
-- and whether the last call answered Over
pub record Calls : Type 0 where
  pub kind : Kind
  pub low : ℕ
  pub high : Option ℕ
  pub n_max : ℕ
  pub given : List ℕ
  pub over : Bool

-- the greatest number of components isn't below the least
abbrev pub IsAbove : ℕ → Option ℕ → Type 0
IsAbove low (Some high) = (low ≤ high) × (high ≤ BOUND_LIMIT)
IsAbove low None = Unit {0}

-- sequences, sets, or cycles of at least one component, within bounds, up to a greatest size
pub record AreBounds (kind : Kind) (low : ℕ) (high : Option ℕ) (n_max : ℕ) : Type 0 where
  pub suits : Suits Labelled kind low
  pub low_within : low ≤ BOUND_LIMIT
  pub high_within : IsAbove low high
  pub n_max_within : n_max ≤ SIZE_LIMIT

-- before the first call
abbrev pub start_of : Kind → ℕ → Option ℕ → ℕ → Calls
start_of k l h n = record { kind = k; low = l; high = h; n_max = n; given = []; over = false }

-- the numbers of all sizes: those below, and that of the size at hand
abbrev pub numbers : List ℕ → ℕ → ℕ → ℕ
numbers below here = slice_index (below ++ here ∷ [])

-- the numbers of the sizes below are those that were given before; the last of these counts only
-- where one component is within the bounds
pub record Agrees (low : ℕ) (high : Option ℕ) (given below : List ℕ) : Type 0 where
  pub earlier : (m : ℕ) → suc m < length below → slice_index below m ≡ slice_index given m
  pub last : (m : ℕ) → suc m ≡ length below → IsWithin low high 1
      → slice_index below m ≡ slice_index given m

-- the numbers of a call for the next size go on from those of the calls before
pub record GoesOn (t : Calls) (below : List ℕ) (here : ℕ) : Type 0 where
  pub reached : length t.given ≤ t.n_max
  pub sizes : length below ≡ length t.given
  pub none_empty : slice_index below 0 ≡ 0
  pub here_empty : length below ≡ 0 → here ≡ 0
  pub agrees : Agrees t.low t.high t.given below

-- the number of collections of the next size
abbrev pub number_of : Calls → List ℕ → ℕ → ℕ
number_of t comp here = coll_count Labelled t.kind (numbers comp here) t.low t.high (length comp)

-- what a table of charges was given: the numbers of components, and the sums of the charges over
-- them
pub record WalkCalls : Type 0 where
  pub counts : List ℕ
  pub sums : Calls

-- the chain of this walk has answered for the size at hand and no later one, and both go on from
-- the calls before
pub record IsNext (chain : Calls) (walk : WalkCalls) (comp body : List ℕ) (here : ℕ) : Type 0 where
  pub same_kind : chain.kind ≡ walk.sums.kind
  pub same_low : chain.low ≡ walk.sums.low
  pub same_high : chain.high ≡ walk.sums.high
  pub same_n_max : chain.n_max ≡ walk.sums.n_max
  pub answered : length chain.given ≡ suc (length body)
  pub sizes : length comp ≡ length body
  pub its_own : (m : ℕ) → m < length comp → slice_index comp m ≡ slice_index chain.given m
  pub counts_agree : Agrees chain.low chain.high walk.counts comp
  pub goes_on : GoesOn walk.sums body here

-- the sum of the charges over all collections of the next size
abbrev pub total_of : Calls → List ℕ → ℕ → ℕ
total_of chain body here =
    coll_total Labelled chain.kind (slice_index chain.given)
    (numbers body here) chain.low chain.high (length body)
