-- The structures of a node of one size, and their listings.
use Rattle.std.specs.Prelude.{◌≡◌, ℕ, zero, suc, ◌+◌, ◌<◌, List, [], ◌∷◌}
use Rattle.luo_finite.specs.Listing.{In, NoDouble, Pairwise, Lists}
use Rattle.luo_model.specs.declared.program.Universe.{Universe}
use Rattle.luo_model.specs.declared.program.Universe.TheVariants.{Unlabelled, Labelled}
use Rattle.luo_model.specs.Tree.{Tree, size_of, labels_of}
use Rattle.luo_model.specs.Order.{IsBefore}
use Rattle.luo_model.specs.Program.{Program}
use Rattle.luo_model.specs.Member.{Member}

-- each number is below those after it
abbrev pub Rising : List ℕ → Type 0
Rising numbers = Pairwise (λ x y. x < y) numbers

-- these labels are those of L, each once
abbrev pub Holds : List ℕ → List ℕ → Type 0
Holds L labels =
    NoDouble labels × ((x : ℕ) → In x labels → In x L) × ((x : ℕ) → In x L → In x labels)

-- so many labels from a first one on
abbrev pub labels_from : ℕ → ℕ → List ℕ
labels_from first zero = []
labels_from first (suc n) = first ∷ labels_from (first + 1) n

-- in the labelled universe the structure carries the labels L, each once
abbrev pub Carries : Universe → List ℕ → Tree → Type 0
Carries Unlabelled L s = Unit {0}
Carries Labelled L s = Holds L (labels_of s)

-- s is a structure of node x of size n on the labels L
abbrev pub IsStructureOn : Program → ℕ → List ℕ → ℕ → Tree → Type 0
IsStructureOn p x L n s = Member p x s × (size_of s ≡ n) × Carries p.universe L s

-- s is a structure of node x of size n: a member of this size, which in the labelled universe
-- carries the labels 1 to n, each once
abbrev pub IsStructure : Program → ℕ → ℕ → Tree → Type 0
IsStructure p x n s = IsStructureOn p x (labels_from 1 n) n s

-- the list has no doubles and holds exactly the structures of node x of size n
abbrev pub IsListing : Program → ℕ → ℕ → List Tree → Type 0
IsListing p x n l = Lists (IsStructure p x n) l

-- a listing in which each structure comes before all after it
abbrev pub IsOrderedListing : Program → ℕ → ℕ → List Tree → Type 0
IsOrderedListing p x n l = IsListing p x n l × Pairwise IsBefore l
