-- Which structures are members, shown by one that is and one that isn't.
use Rattle.std.specs.Prelude.{ℕ, [], ◌∷◌, Some, None}
use Rattle.luo_model.specs.declared.program.Universe.TheVariants.{Unlabelled, Labelled}
use Rattle.luo_model.specs.declared.program.Kind.TheVariants.{Sequence, Set, Cycle, Multiset, Powerset}
use Rattle.luo_model.specs.Tree.{Atom, Inj, Coll}
use Rattle.luo_model.specs.Member.{Member}
use Rattle.luo_model.specs.Structures.{IsStructure, IsStructureOn}
use Rattle.luo_model.specs.Examples.{two, collection, multisets_of_two_sizes, of_two, of_sequences, small, large, atoms, point, row, rows}

-- a multiset may hold a component twice, and a powerset may not
abbrev pub OnlyMultisetsRepeat : Type 0
OnlyMultisetsRepeat =
    IsStructure (collection Unlabelled Multiset 0 None) 1 2 (row (0 ∷ 0 ∷ []))
    × (Member (collection Unlabelled Powerset 0 None) 1 (row (0 ∷ 0 ∷ [])) → ⊥)

-- the components of a multiset fall, and never rise
abbrev pub MultisetsFall : Type 0
MultisetsFall =
    IsStructure multisets_of_two_sizes 3 3 (Coll (two large small))
    × (Member multisets_of_two_sizes 3 (Coll (two small large)) → ⊥)

-- and so do those of a powerset, also where they are of one size
abbrev pub PowersetsFall : Type 0
PowersetsFall =
    IsStructure (of_two Powerset 0 None) 2 2 (Coll (two (Inj 2 (point 0)) (Inj 1 (point 0))))
    × (Member (of_two Powerset 0 None) 2 (Coll (two (Inj 1 (point 0)) (Inj 2 (point 0)))) → ⊥)

-- a cycle begins with its least label, whatever follows, and the same turned round is none
abbrev pub CyclesBeginLeast : Type 0
CyclesBeginLeast =
    IsStructure (collection Labelled Cycle 1 None) 1 3 (row (1 ∷ 3 ∷ 2 ∷ []))
    × (Member (collection Labelled Cycle 1 None) 1 (row (3 ∷ 2 ∷ 1 ∷ [])) → ⊥)

-- the least labels of a set rise
abbrev pub SetsRise : Type 0
SetsRise =
    IsStructure (collection Labelled Set 0 None) 1 2 (row (1 ∷ 2 ∷ []))
    × (Member (collection Labelled Set 0 None) 1 (row (2 ∷ 1 ∷ [])) → ⊥)

-- the least label of a component counts, and neither its first label nor its greatest
abbrev pub LeastLabelsCount : Type 0
LeastLabelsCount =
    IsStructure (of_sequences Set) 2 3 (rows ((3 ∷ 1 ∷ []) ∷ (2 ∷ []) ∷ []))
    × (Member (of_sequences Set) 2 (rows ((2 ∷ []) ∷ (3 ∷ 1 ∷ []) ∷ [])) → ⊥)
    × IsStructure (of_sequences Cycle) 2 3 (rows ((3 ∷ 1 ∷ []) ∷ (2 ∷ []) ∷ []))
    × (Member (of_sequences Cycle) 2 (rows ((2 ∷ []) ∷ (3 ∷ 1 ∷ []) ∷ [])) → ⊥)

-- a bounded sequence has as many components as its bound allows, and no more
abbrev pub BoundsAreReached : Type 0
BoundsAreReached =
    IsStructure (collection Unlabelled Sequence 0 (Some 2)) 1 2 (row (0 ∷ 0 ∷ []))
    × (Member (collection Unlabelled Sequence 0 (Some 2)) 1 (row (0 ∷ 0 ∷ 0 ∷ [])) → ⊥)

-- the labels of a structure of size 2 are 1 and 2 in some order; with 1 and 3 it is a member, and
-- no structure of any size, and with 1 twice neither
abbrev pub NoLabelIsSkipped : Type 0
NoLabelIsSkipped =
    IsStructure (collection Labelled Sequence 0 None) 1 2 (row (2 ∷ 1 ∷ []))
    × Member (collection Labelled Sequence 0 None) 1 (row (1 ∷ 3 ∷ []))
    × ((n : ℕ) → IsStructure (collection Labelled Sequence 0 None) 1 n (row (1 ∷ 3 ∷ [])) → ⊥)
    × ((n : ℕ) → IsStructure (collection Labelled Sequence 0 None) 1 n (row (1 ∷ 1 ∷ [])) → ⊥)

-- a structure on other labels carries these: one on the first labels is none, and neither is one
-- that leaves a label out or has one twice
abbrev pub OtherLabelsAreCarried : Type 0
OtherLabelsAreCarried =
    IsStructureOn (collection Labelled Sequence 0 None) 1 (2 ∷ 5 ∷ []) 2 (row (5 ∷ 2 ∷ []))
    × (IsStructureOn (collection Labelled Sequence 0 None) 1 (2 ∷ 5 ∷ []) 2 (row (2 ∷ 1 ∷ [])) → ⊥)
    × (IsStructureOn (collection Labelled Sequence 0 None) 1 (2 ∷ 5 ∷ 7 ∷ []) 2 (row (5 ∷ 2 ∷ []))
    → ⊥)
    × (IsStructureOn (collection Labelled Sequence 0 None) 1 (2 ∷ []) 2 (row (2 ∷ 2 ∷ [])) → ⊥)

-- an atom has the weight that is written, and a label exactly where the universe is labelled and
-- the weight is 1
abbrev pub AtomsAreExact : Type 0
AtomsAreExact =
    IsStructure (atoms Unlabelled 1) 0 1 (Atom 1 0)
    × (Member (atoms Unlabelled 1) 0 (Atom 2 0) → ⊥)
    × (Member (atoms Unlabelled 1) 0 (Atom 1 1) → ⊥)
    × IsStructure (atoms Labelled 1) 0 1 (Atom 1 1)
    × (Member (atoms Labelled 1) 0 (Atom 1 0) → ⊥)
    × IsStructure (atoms Labelled 0) 0 0 (Atom 0 0)
    × (Member (atoms Labelled 0) 0 (Atom 0 1) → ⊥)
