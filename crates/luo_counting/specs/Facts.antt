-- Known numbers.
use Rattle.std.specs.Prelude.{◌≡◌, ℕ, [], ◌∷◌, Some, None, slice_index}
use Rattle.luo_model.specs.declared.program.Universe.TheVariants.{Unlabelled, Labelled}
use Rattle.luo_model.specs.declared.program.Kind.TheVariants.{Sequence, Set, Cycle, Multiset, Powerset}
use Rattle.luo_counting.specs.Numbers.{coll_count, coll_total}
use Rattle.luo_counting.specs.Fours.{coll_pairs}

-- one item of each size from 1 to 6
abbrev pub one_each : ℕ → ℕ
one_each n = slice_index (0 ∷ (1 ∷ (1 ∷ (1 ∷ (1 ∷ (1 ∷ (1 ∷ []))))))) n

-- one item of size 1
abbrev pub points : ℕ → ℕ
points n = slice_index (0 ∷ (1 ∷ [])) n

-- the cycles of n points
abbrev pub rounds : ℕ → ℕ
rounds n = slice_index (0 ∷ (1 ∷ (1 ∷ (2 ∷ (6 ∷ (24 ∷ [])))))) n

-- the plane trees of n nodes: a node over a sequence of such trees
abbrev pub plane_trees : ℕ → ℕ
plane_trees n = slice_index (0 ∷ (1 ∷ (1 ∷ (2 ∷ (5 ∷ (14 ∷ [])))))) n

-- the sequences of plane trees: Catalan's numbers
abbrev pub CatalanNumbers : Type 0
CatalanNumbers =
    (coll_count Unlabelled Sequence plane_trees 0 None 3 ≡ 5)
    × (coll_count Unlabelled Sequence plane_trees 0 None 4 ≡ 14)
    × (coll_count Unlabelled Sequence plane_trees 0 None 5 ≡ 42)

-- compositions into at least 2 and at most 3 parts
abbrev pub Compositions : Type 0
Compositions =
    (coll_count Unlabelled Sequence one_each 2 (Some 3) 3 ≡ 3)
    × (coll_count Unlabelled Sequence one_each 2 (Some 3) 4 ≡ 6)
    × (coll_count Unlabelled Sequence one_each 2 (Some 3) 5 ≡ 10)

-- partitions of a set: Bell's numbers
abbrev pub BellNumbers : Type 0
BellNumbers =
    (coll_count Labelled Set one_each 0 None 3 ≡ 5)
    × (coll_count Labelled Set one_each 0 None 4 ≡ 15)
    × (coll_count Labelled Set one_each 0 None 5 ≡ 52)

-- permutations by the number of their cycles: Stirling's numbers of the first kind
abbrev pub StirlingCycles : Type 0
StirlingCycles =
    (coll_count Labelled Set rounds 2 (Some 2) 4 ≡ 11)
    × (coll_count Labelled Set rounds 2 (Some 2) 5 ≡ 50)
    × (coll_count Labelled Set rounds 3 (Some 3) 5 ≡ 35)

-- partitions of a set by the number of their blocks: Stirling's numbers of the second kind
abbrev pub StirlingSets : Type 0
StirlingSets =
    (coll_count Labelled Set one_each 2 (Some 2) 4 ≡ 7)
    × (coll_count Labelled Set one_each 2 (Some 2) 5 ≡ 15)
    × (coll_count Labelled Set one_each 3 (Some 3) 5 ≡ 25)

-- orders of n points, and round orders
abbrev pub Orders : Type 0
Orders =
    (coll_count Labelled Sequence points 0 None 3 ≡ 6)
    × (coll_count Labelled Sequence points 0 None 4 ≡ 24)
    × (coll_count Labelled Sequence points 0 None 5 ≡ 120)

abbrev pub RoundOrders : Type 0
RoundOrders =
    (coll_count Labelled Cycle points 1 None 3 ≡ 2)
    × (coll_count Labelled Cycle points 1 None 4 ≡ 6)
    × (coll_count Labelled Cycle points 1 None 5 ≡ 24)

-- partitions of a number, and those into different parts
abbrev pub Partitions : Type 0
Partitions =
    (coll_count Unlabelled Multiset one_each 0 None 4 ≡ 5)
    × (coll_count Unlabelled Multiset one_each 0 None 5 ≡ 7)
    × (coll_count Unlabelled Multiset one_each 0 None 6 ≡ 11)

abbrev pub DistinctPartitions : Type 0
DistinctPartitions =
    (coll_count Unlabelled Powerset one_each 0 None 4 ≡ 2)
    × (coll_count Unlabelled Powerset one_each 0 None 5 ≡ 3)
    × (coll_count Unlabelled Powerset one_each 0 None 6 ≡ 4)

-- the parts of all partitions, of all into different parts, of all compositions; the blocks of all
-- partitions of a set; the cycles of all permutations; the points of all round orders
abbrev pub PartsOfAll : Type 0
PartsOfAll =
    (coll_total Unlabelled Multiset one_each one_each 0 None 4 ≡ 12)
    × (coll_total Unlabelled Powerset one_each one_each 0 None 5 ≡ 5)
    × (coll_total Unlabelled Sequence one_each one_each 0 None 4 ≡ 20)
    × (coll_total Labelled Set one_each one_each 0 None 4 ≡ 37)
    × (coll_total Labelled Set rounds rounds 0 None 4 ≡ 50)
    × (coll_total Labelled Cycle points points 1 None 4 ≡ 24)

-- the squares of the number of parts: of partitions of 4 (1 + 4 + 4 + 9 + 16), of those into
-- different parts, of compositions, and of the number of cycles of permutations of 4 points
abbrev pub SquaresOfAll : Type 0
SquaresOfAll =
    (coll_pairs Unlabelled Multiset one_each one_each one_each one_each 0 None 4 ≡ 34)
    × (coll_pairs Unlabelled Powerset one_each one_each one_each one_each 0 None 4 ≡ 5)
    × (coll_pairs Unlabelled Sequence one_each one_each one_each one_each 0 None 4 ≡ 56)
    × (coll_pairs Labelled Set rounds rounds rounds rounds 0 None 4 ≡ 120)
