-- Which of two structures comes first.
use Rattle.std.specs.Prelude.{[], ◌∷◌}
use Rattle.luo_finite.specs.Listing.{Neighbours}
use Rattle.luo_model.specs.Tree.{Atom, Inj, Tup, Coll}
use Rattle.luo_model.specs.Order.{IsBefore}
use Rattle.luo_model.specs.Structures.{IsOrderedListing}
use Rattle.luo_model.specs.Examples.{one, two, point, rows}
use Rattle.luo_model.specs.Programs.{permutations, partitions}

-- the size decides first, whatever the branches are; then the labels in rising order; then the
-- branch, and what is inside
abbrev pub SizesAndLabelsDecide : Type 0
SizesAndLabelsDecide = Neighbours IsBefore
    (Inj 2 (Atom 1 0) ∷ Inj 1 (Atom 2 0) ∷ Inj 2 (Tup (two (point 4) (point 1)))
    ∷ Inj 1 (Tup (two (point 2) (point 3))) ∷ Inj 2 (Tup (two (point 2) (point 3)))
    ∷ Inj 2 (Tup (two (point 3) (point 2))) ∷ [])

-- where sizes and labels are the same, an atom comes before a structure of a branch, then tuples,
-- then collections; structures of branches by the branch and then by what is inside, lists by their
-- first difference, where parts are compared as structures are, and a list that ends comes before
-- one that goes on
abbrev pub FormsDecide : Type 0
FormsDecide = Neighbours IsBefore
    (Atom 1 0 ∷ Inj 1 (Atom 1 0) ∷ Inj 1 (Inj 2 (Atom 1 0)) ∷ Inj 2 (Atom 1 0)
    ∷ Inj 2 (Inj 1 (Atom 1 0))
    ∷ Tup (two (Atom 0 0) (Atom 1 0)) ∷ Tup (two (Inj 2 (Atom 0 0)) (Atom 1 0))
    ∷ Tup (two (Atom 1 0) (Atom 0 0))
    ∷ Coll (one (Atom 1 0)) ∷ Coll (two (Atom 1 0) (Atom 0 0)) ∷ [])

-- the permutations of three points in order, as sets of cycles
abbrev pub PermutationsInOrder : Type 0
PermutationsInOrder = IsOrderedListing permutations 2 3
    (rows ((1 ∷ []) ∷ (2 ∷ []) ∷ (3 ∷ []) ∷ []) ∷ rows ((1 ∷ []) ∷ (2 ∷ 3 ∷ []) ∷ [])
    ∷ rows ((1 ∷ 2 ∷ []) ∷ (3 ∷ []) ∷ [])
    ∷ rows ((1 ∷ 3 ∷ []) ∷ (2 ∷ []) ∷ []) ∷ rows ((1 ∷ 2 ∷ 3 ∷ []) ∷ [])
    ∷ rows ((1 ∷ 3 ∷ 2 ∷ []) ∷ []) ∷ [])

-- the partitions of 3 in order: 1 + 1 + 1, 2 + 1 and 3
abbrev pub PartitionsInOrder : Type 0
PartitionsInOrder = IsOrderedListing partitions 2 3
    (rows ((0 ∷ []) ∷ (0 ∷ []) ∷ (0 ∷ []) ∷ []) ∷ rows ((0 ∷ 0 ∷ []) ∷ (0 ∷ []) ∷ [])
    ∷ rows ((0 ∷ 0 ∷ 0 ∷ []) ∷ []) ∷ [])
