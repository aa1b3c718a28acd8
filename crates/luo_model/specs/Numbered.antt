-- Numbered collections, whose items are no more than a size, a number and, in the labelled
-- universe, labels. Their number and the sum of their items' charges say what a table of
-- collections has to hold, with no program in sight.
use Rattle.std.specs.Prelude.{◌≡◌, ℕ, ◌<◌, List, [], Option, length}
use Rattle.std.specs.declared.cmp.Ordering.{Ordering}
use Rattle.std.specs.declared.cmp.Ordering.TheVariants.{Less}
use Rattle.std.specs.Cmp.Lexicographic.{slice_cmp}
use Rattle.std.specs.Ordering.{nat_cmp, on, then_cmp}
use Rattle.luo_finite.specs.Listing.{Counts, Sums}
use Rattle.luo_finite.specs.Each.{total}
use Rattle.luo_model.specs.declared.program.Universe.{Universe}
use Rattle.luo_model.specs.declared.program.Universe.TheVariants.{Unlabelled, Labelled}
use Rattle.luo_model.specs.declared.program.Kind.{Kind}
use Rattle.luo_model.specs.Structures.{Rising, labels_from}
use Rattle.luo_model.specs.Collections.{IsCollectionOf}

pub record Numbered : Type 0 where
  pub size : ℕ
  pub number : ℕ
  pub labels : List ℕ

abbrev pub size_in : Numbered → ℕ
size_in v = v.size

abbrev pub number_in : Numbered → ℕ
number_in v = v.number

abbrev pub labels_in : Numbered → List ℕ
labels_in v = v.labels

-- no labels, or in the labelled universe a rising list of as many as the size
abbrev pub IsLabelledAs : Universe → Numbered → Type 0
IsLabelledAs Unlabelled v = v.labels ≡ []
IsLabelledAs Labelled v = Rising v.labels × (length v.labels ≡ v.size)

-- of size j there are the numbers below a j
abbrev pub IsNumbered : Universe → (ℕ → ℕ) → Numbered → Type 0
IsNumbered u a v = (v.number < a v.size) × IsLabelledAs u v

-- by size, then by labels, then by number
abbrev pub numbered_cmp : Numbered → Numbered → Ordering
numbered_cmp =
    then_cmp (on size_in nat_cmp)
    (then_cmp (on labels_in (slice_cmp nat_cmp)) (on number_in nat_cmp))

abbrev pub IsEarlier : Numbered → Numbered → Type 0
IsEarlier v w = numbered_cmp v w ≡ Less

-- a numbered collection of size n, in the labelled universe on the labels 1 to n
abbrev pub NumberedCollection : Universe → Kind → ℕ → Option ℕ → (ℕ → ℕ) → ℕ → List Numbered
    → Type 0
NumberedCollection u kind low high a n xs =
    IsCollectionOf u (IsNumbered u a) size_in labels_in IsEarlier kind low high
    (labels_from 1 n) n xs

-- what the items of a collection charge together, where item i of size j charges q j i
abbrev pub charged : (ℕ → ℕ → ℕ) → List Numbered → ℕ
charged q xs = total (λ v. q (size_in v) (number_in v)) xs

-- there are c numbered collections of size n
abbrev pub IsCollectionCount : Universe → Kind → ℕ → Option ℕ → (ℕ → ℕ) → ℕ → ℕ → Type 0
IsCollectionCount u kind low high a n c = Counts (NumberedCollection u kind low high a n) c

-- over all of them the charges of their items sum to t
abbrev pub IsCollectionTotal : Universe → Kind → ℕ → Option ℕ → (ℕ → ℕ) → (ℕ → ℕ → ℕ) → ℕ → ℕ
    → Type 0
IsCollectionTotal u kind low high a q n t =
    Sums (NumberedCollection u kind low high a n) (charged q) t
