-- How many structures some well-known types have.
use Rattle.std.specs.Prelude.{ℕ, suc, List, [], ◌∷◌, None, Some}
use Rattle.luo_model.specs.declared.program.Universe.TheVariants.{Unlabelled, Labelled}
use Rattle.luo_model.specs.declared.program.Kind.TheVariants.{Sequence, Set, Cycle, Multiset, Powerset}
use Rattle.luo_model.specs.Program.{Program}
use Rattle.luo_model.specs.Tables.{IsCount}
use Rattle.luo_model.specs.Examples.{choosing, beside_nothing, collection, of_two, pairs_of_sets}
use Rattle.luo_model.specs.Programs.{binary, permutations, partitions}

-- node x has these counts, at the sizes from n on
abbrev pub HasCounts : Program → ℕ → ℕ → List ℕ → Type 0
HasCounts p x n [] = Unit {0}
HasCounts p x n (c ∷ cs) = IsCount p x n c × HasCounts p x (suc n) cs

-- binary trees by inner nodes are counted by the numbers of Catalan
abbrev pub BinaryTreesAreCounted : Type 0
BinaryTreesAreCounted = HasCounts binary 2 0 (1 ∷ 1 ∷ 2 ∷ 5 ∷ [])

-- the union of a type of one structure with itself has two structures
abbrev pub BranchesAreCountedApart : Type 0
BranchesAreCountedApart = IsCount choosing 1 1 2

-- a product with a factor of size 0 has as many structures of each size as the other factor
abbrev pub EmptyFactorChangesNoCount : Type 0
EmptyFactorChangesNoCount = HasCounts beside_nothing 2 0 (0 ∷ 1 ∷ 0 ∷ [])

-- of labelled points there are n! sequences, one set and (n - 1)! cycles
abbrev pub LabelledPointsAreCounted : Type 0
LabelledPointsAreCounted =
    HasCounts (collection Labelled Sequence 0 None) 1 0 (1 ∷ 1 ∷ 2 ∷ 6 ∷ [])
    × HasCounts (collection Labelled Set 0 None) 1 0 (1 ∷ 1 ∷ 1 ∷ 1 ∷ [])
    × HasCounts (collection Labelled Cycle 1 None) 1 0 (0 ∷ 1 ∷ 1 ∷ 2 ∷ [])

-- sets of cycles are counted as permutations, and pairs of sets as the subsets of their labels
abbrev pub LabelledProductsAreCounted : Type 0
LabelledProductsAreCounted =
    HasCounts permutations 2 0 (1 ∷ 1 ∷ 2 ∷ 6 ∷ [])
    × HasCounts pairs_of_sets 2 0 (1 ∷ 2 ∷ 4 ∷ 8 ∷ [])

-- of two kinds of points there are n + 1 multisets of n, and sets without copies as the subsets of
-- the two
abbrev pub CopiesAreCounted : Type 0
CopiesAreCounted =
    HasCounts (of_two Multiset 0 None) 2 0 (1 ∷ 2 ∷ 3 ∷ 4 ∷ [])
    × HasCounts (of_two Powerset 0 None) 2 0 (1 ∷ 2 ∷ 1 ∷ 0 ∷ [])

-- integers have as many partitions as multisets of parts
abbrev pub PartitionsAreCounted : Type 0
PartitionsAreCounted = HasCounts partitions 2 0 (1 ∷ 1 ∷ 2 ∷ 3 ∷ 5 ∷ [])

-- both bounds of a collection belong to it
abbrev pub BoundsAreCounted : Type 0
BoundsAreCounted =
    HasCounts (collection Unlabelled Sequence 1 None) 1 0 (0 ∷ 1 ∷ 1 ∷ [])
    × HasCounts (collection Unlabelled Sequence 1 (Some 2)) 1 0 (0 ∷ 1 ∷ 1 ∷ 0 ∷ [])
    × HasCounts (of_two Multiset 2 (Some 2)) 2 0 (0 ∷ 0 ∷ 3 ∷ 0 ∷ [])
    × HasCounts (of_two Powerset 1 (Some 1)) 2 0 (0 ∷ 2 ∷ 0 ∷ [])
