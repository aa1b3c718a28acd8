-- What contracts see in tables of collections and of charges over them, and what their calls are
-- given.
use Rattle.std.specs.Prelude.{◌≡◌, ℕ, suc, ◌-◌, ◌≤◌, ◌<◌, Bool, false, List, [], ◌∷◌, ◌++◌, length, slice_index, take, Option, Some, None, nat_le, if◌then◌else◌}
use Rattle.luo_num.specs.declared.limits.TheConstants.{BOUND_LIMIT, SIZE_LIMIT}
use Rattle.luo_num.specs.declared.TheConstants.{MAX}
use Rattle.luo_finite.specs.Range.{sum_below}
use Rattle.luo_model.specs.declared.program.Universe.TheVariants.{Unlabelled}
use Rattle.luo_model.specs.declared.program.Kind.{Kind}
use Rattle.luo_model.specs.declared.program.Kind.TheVariants.{Multiset, Powerset}
use Rattle.luo_model.specs.Member.{IsWithin}
use Rattle.luo_model.specs.Numbered.{IsCollectionCount, IsCollectionTotal}
use Rattle.luo_counting.specs.Numbers.{coll_count, coll_total, plane}

-- what a table was made for, and what its calls were given: a number for each size, that of
-- components, or of charges over them. The last one is 0 where one component is not within the
-- bounds. `over`: the last call answered Over
pub record Calls : Type 0 where
  pub kind : Kind
  pub low : ℕ
  pub high : Option ℕ
  pub n_max : ℕ
  pub given : List ℕ
  pub over : Bool

-- the greatest number is not below the least
abbrev pub IsAbove : ℕ → Option ℕ → Type 0
IsAbove low (Some high) = (low ≤ high) × (high ≤ BOUND_LIMIT)
IsAbove low None = Unit {0}

-- bounds on the number of components, and the greatest size
pub record AreBounds (low : ℕ) (high : Option ℕ) (n_max : ℕ) : Type 0 where
  pub low_within : low ≤ BOUND_LIMIT
  pub high_within : IsAbove low high
  pub n_max_within : n_max ≤ SIZE_LIMIT

-- before the first call
abbrev pub start_of : Kind → ℕ → Option ℕ → ℕ → Calls
start_of k l h n = record { kind = k; low = l; high = h; n_max = n; given = []; over = false }

-- the numbers of all sizes: those below, and that of the size at hand
abbrev pub numbers : List ℕ → ℕ → ℕ → ℕ
numbers below here = slice_index (below ++ here ∷ [])

-- the numbers of a call for the next size go on from those of the calls before, of which none
-- answered Over
pub record GoesOn (t : Calls) (below : List ℕ) (here : ℕ) : Type 0 where
  pub going : t.over ≡ false
  pub reached : length t.given ≤ t.n_max
  pub sizes : length below ≡ length t.given
  pub none_empty : slice_index below 0 ≡ 0
  pub small : (m : ℕ) → slice_index below m ≤ MAX
  pub here_small : here ≤ MAX
  pub here_empty : length below ≡ 0 → here ≡ 0
  pub here_alone : (IsWithin t.low t.high 1 → ⊥) → here ≡ 0
  pub agree : (m : ℕ) → suc m < length below → slice_index below m ≡ slice_index t.given m
  pub last_agrees : (m : ℕ) → suc m ≡ length below → IsWithin t.low t.high 1
      → slice_index below m ≡ slice_index t.given m

-- the number of collections of the next size
abbrev pub number_of : Calls → List ℕ → ℕ → ℕ
number_of t comp here = coll_count Unlabelled t.kind (numbers comp here) t.low t.high (length comp)

-- it is the length of a list of all numbered collections over these numbers
abbrev pub IsCounted : Calls → List ℕ → ℕ → Type 0
IsCounted t comp here =
    IsCollectionCount Unlabelled t.kind t.low t.high (numbers comp here) (length comp)
    (number_of t comp here)

-- what a walk over the collections of a table was given: sums of charges, and the numbers of
-- components of the sizes below its last one
pub record Walk : Type 0 where
  pub calls : Calls
  pub comp : List ℕ

-- before the first call
abbrev pub walk_of : Calls → Walk
walk_of t = record { calls = start_of t.kind t.low t.high t.n_max; comp = [] }

-- the table is for the same collections as the walk, and has counted those of the walk's next size,
-- and none larger. The numbers of components are those that it was given, and the sums of charges
-- go on from those of the calls before
pub record GoesWith (t : Calls) (w : Walk) (comp body : List ℕ) (here : ℕ) : Type 0 where
  pub kind : t.kind ≡ w.calls.kind
  pub low : t.low ≡ w.calls.low
  pub high : t.high ≡ w.calls.high
  pub n_max : t.n_max ≡ w.calls.n_max
  pub going : t.over ≡ false
  pub counted : length t.given ≡ suc (length body)
  pub given : comp ≡ take (length body) t.given
  pub small : (m : ℕ) → slice_index comp m ≤ MAX
  pub agree : (m : ℕ) → suc m < length comp → slice_index comp m ≡ slice_index w.comp m
  pub next : GoesOn w.calls body here
  pub idle : (m : ℕ) → slice_index t.given m ≡ 0 → numbers body here m ≡ 0

-- the charges over all collections of the next size
abbrev pub total_of : Calls → List ℕ → ℕ → ℕ
total_of t body here =
    coll_total Unlabelled t.kind (slice_index t.given) (numbers body here) t.low t.high
    (length body)

-- they are the sum of what the numbered collections charge, for every choice of charges with these
-- sums by size
abbrev pub IsTotalled : Calls → List ℕ → ℕ → Type 0
IsTotalled t body here =
    (q : ℕ → ℕ → ℕ) → ((m : ℕ) → sum_below (q m) (slice_index t.given m) ≡ numbers body here m)
    → IsCollectionTotal Unlabelled t.kind t.low t.high (slice_index t.given) q (length body)
    (total_of t body here)

-- the kinds of unlabelled collections whose components stand in order
abbrev pub IsOfParts : Kind → Type 0
IsOfParts Multiset = Unit {0}
IsOfParts Powerset = Unit {0}
IsOfParts _ = ⊥

-- of the numbers a, those of sizes up to d
abbrev pub up_to : ℕ → (ℕ → ℕ) → ℕ → ℕ
up_to d a n = if nat_le n d then a n else 0

-- the collections of k components, of size m, with components smaller by two at least than the last
-- call's size
abbrev pub ahead_of : Calls → ℕ → ℕ → ℕ
ahead_of t k m = plane t.kind (slice_index t.given) (length t.given - 3) k m

-- so many numbered collections there are over the numbers of these sizes
abbrev pub IsAheadCounted : Calls → ℕ → ℕ → Type 0
IsAheadCounted t k m =
    IsCollectionCount Unlabelled t.kind k (Some k)
    (up_to (length t.given - 3) (slice_index t.given)) m (ahead_of t k m)
