-- The steps through small listings, from their order.
use Rattle.std.proofs.Common.{[], ◌∷◌}
use Rattle.luo_model.specs.Order.{IsBefore}
use Rattle.luo_model.specs.Structures.{IsStructure}
use Rattle.luo_model.specs.Examples.{rows}
use Rattle.luo_model.specs.Programs.{permutations, partitions}
use Rattle.luo_model.proofs.OrderFacts.{permutations_in_order, partitions_in_order}
use Rattle.luo_counting.proofs.Orders.{trees_ordered}
use Rattle.luo_places.specs.steps.Next.{Steps}
use Rattle.luo_places.specs.steps.Facts.{PermutationsGoOn, PartitionsGoOn}
use Rattle.luo_places.proofs.steps.Steps.{listing_steps}

pub permutations_go_on : PermutationsGoOn
permutations_go_on = listing_steps (IsStructure permutations 2 3) IsBefore trees_ordered
    (rows ((1 ∷ []) ∷ (2 ∷ []) ∷ (3 ∷ []) ∷ []) ∷ rows ((1 ∷ []) ∷ (2 ∷ 3 ∷ []) ∷ []) ∷ rows ((1 ∷ 2 ∷ []) ∷ (3 ∷ []) ∷ [])
    ∷ rows ((1 ∷ 3 ∷ []) ∷ (2 ∷ []) ∷ []) ∷ rows ((1 ∷ 2 ∷ 3 ∷ []) ∷ []) ∷ rows ((1 ∷ 3 ∷ 2 ∷ []) ∷ []) ∷ []) permutations_in_order.0 permutations_in_order.1

pub partitions_go_on : PartitionsGoOn
partitions_go_on = (s.0, s.1.0, s.1.1.0, s.1.1.1)
  where
    s : Steps (IsStructure partitions 2 3) IsBefore (rows ((0 ∷ []) ∷ (0 ∷ []) ∷ (0 ∷ []) ∷ []) ∷ rows ((0 ∷ 0 ∷ []) ∷ (0 ∷ []) ∷ []) ∷ rows ((0 ∷ 0 ∷ 0 ∷ []) ∷ []) ∷ [])
    s = listing_steps (IsStructure partitions 2 3) IsBefore trees_ordered
        (rows ((0 ∷ []) ∷ (0 ∷ []) ∷ (0 ∷ []) ∷ []) ∷ rows ((0 ∷ 0 ∷ []) ∷ (0 ∷ []) ∷ []) ∷ rows ((0 ∷ 0 ∷ 0 ∷ []) ∷ []) ∷ []) partitions_in_order.0 partitions_in_order.1
