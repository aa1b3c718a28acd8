-- The steps through small listings.
use Rattle.std.specs.Prelude.{[], ◌∷◌}
use Rattle.luo_model.specs.Order.{IsBefore}
use Rattle.luo_model.specs.Structures.{IsStructure}
use Rattle.luo_model.specs.Examples.{rows}
use Rattle.luo_model.specs.Programs.{permutations, partitions}
use Rattle.luo_places.specs.steps.Next.{IsNext, IsFirst, IsLast, Steps}

-- the permutations of three points as sets of cycles, from the first to the last
abbrev pub PermutationsGoOn : Type 0
PermutationsGoOn = Steps (IsStructure permutations 2 3) IsBefore
    (rows ((1 ∷ []) ∷ (2 ∷ []) ∷ (3 ∷ []) ∷ []) ∷ rows ((1 ∷ []) ∷ (2 ∷ 3 ∷ []) ∷ [])
    ∷ rows ((1 ∷ 2 ∷ []) ∷ (3 ∷ []) ∷ [])
    ∷ rows ((1 ∷ 3 ∷ []) ∷ (2 ∷ []) ∷ []) ∷ rows ((1 ∷ 2 ∷ 3 ∷ []) ∷ [])
    ∷ rows ((1 ∷ 3 ∷ 2 ∷ []) ∷ []) ∷ [])

-- the partitions of 3: first 1 + 1 + 1, after it 2 + 1, and last 3
abbrev pub PartitionsGoOn : Type 0
PartitionsGoOn =
    IsFirst (IsStructure partitions 2 3) IsBefore (rows ((0 ∷ []) ∷ (0 ∷ []) ∷ (0 ∷ []) ∷ []))
    × IsNext (IsStructure partitions 2 3) IsBefore (rows ((0 ∷ []) ∷ (0 ∷ []) ∷ (0 ∷ []) ∷ []))
    (rows ((0 ∷ 0 ∷ []) ∷ (0 ∷ []) ∷ []))
    × IsNext (IsStructure partitions 2 3) IsBefore (rows ((0 ∷ 0 ∷ []) ∷ (0 ∷ []) ∷ []))
    (rows ((0 ∷ 0 ∷ 0 ∷ []) ∷ []))
    × IsLast (IsStructure partitions 2 3) IsBefore (rows ((0 ∷ 0 ∷ 0 ∷ []) ∷ []))
