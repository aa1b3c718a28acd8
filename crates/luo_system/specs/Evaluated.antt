-- The equations of three small programs, evaluated: permutations by cycles, partitions, and
-- partitions into distinct parts.
use Rattle.std.specs.Prelude.{◌≡◌, ℕ, List, [], ◌∷◌, Some, None, slice_get, slice_index_or, ℤ, pos}
use Rattle.luo_model.specs.declared.program.Universe.{Universe}
use Rattle.luo_model.specs.declared.program.Universe.TheVariants.{Unlabelled, Labelled}
use Rattle.luo_model.specs.declared.program.Kind.{Kind}
use Rattle.luo_model.specs.declared.program.Kind.TheVariants as kind
use Rattle.luo_model.specs.declared.program.Shape.TheVariants as shape
use Rattle.luo_model.specs.Program.{Program, Body, Does, no_items, item, Forall}
use Rattle.luo_model.specs.Examples.{part, node}
use Rattle.luo_equation.specs.Expr.{Power, Series, Coll, Point, Table, coef}
use Rattle.luo_equation.specs.Equation.{Equation}
use Rattle.luo_equation.specs.declared.equation.Left.TheVariants as left
use Rattle.luo_system.specs.System.{system}
use Rattle.luo_system.specs.Holding.{left_number}
use Rattle.luo_system.specs.Facts.{by_name, def, on, equation}

-- 1 for each component
abbrev pub count_components : Body
count_components = Does 0 (item (Forall 0 (Does 1 no_items) 0 0) no_items)

-- point = atom(1); inner = a collection of points; outer = a collection of inner ones; a procedure
-- that counts the components
abbrev pub of_collections : Universe → Kind → Kind → Program
of_collections u inside outside = record {
  universe = u;
  defs = def (part 0) ∷ (def (part 1) ∷ (def (part 2) ∷ []));
  nodes =
      node (shape.Atom 1)
      ∷ (node (shape.Coll inside (by_name 0 0) 1 None)
      ∷ (node (shape.Coll outside (by_name 1 1) 0 None) ∷ []));
  procs = on (by_name 2 2) count_components ∷ [];
  sites = [];
  analyses = [];
}

-- perm = set(cycle(point)); partition = multiset(part) and powerset(part) with part =
-- sequence(point, card >= 1)
abbrev pub permutations : Program
permutations = of_collections Labelled kind.Cycle kind.Set

abbrev pub partitions : Program
partitions = of_collections Unlabelled kind.Sequence kind.Multiset

abbrev pub distinct_partitions : Program
distinct_partitions = of_collections Unlabelled kind.Sequence kind.Powerset

-- point(z) = z; inner(z) = Inner[point(z)]; outer(z) = Outer[inner(z)]; tau(z) =
-- Point[Outer[inner(z)]; inner(z)]
abbrev pub SystemOfCollections : Type 0
SystemOfCollections =
    (u : Universe) (inside outside : Kind) → system (of_collections u inside outside)
    ≡ equation 0 (Power 1)
    ∷ (equation 1 (Coll inside (Series 0) 1 None)
    ∷ (equation 2 (Coll outside (Series 1) 0 None)
    ∷ (record { left = left.Tau 0; right = Point outside (Series 1) 0 None (Series 1) } ∷ [])))

abbrev pub numbers : List ℕ → ℕ → ℤ
numbers ns n = pos (slice_index_or ns n 0)

-- a table of the definitions' numbers from size 0 on, and those of the one procedure
abbrev pub table : List (List ℕ) → List ℕ → Table
table xs ys = record { x = λ i. numbers (slice_index_or xs i []); y = λ f. numbers ys }

-- the counts 0 1 0 0 0, 0 1 1 2 6, 1 1 2 6 24 and the numbers of cycles 0 1 3 11 50
abbrev pub of_permutations : Table
of_permutations =
    table ((0 ∷ (1 ∷ []))
    ∷ ((0 ∷ (1 ∷ (1 ∷ (2 ∷ (6 ∷ []))))) ∷ ((1 ∷ (1 ∷ (2 ∷ (6 ∷ (24 ∷ []))))) ∷ [])))
    (0 ∷ (1 ∷ (3 ∷ (11 ∷ (50 ∷ [])))))

-- the counts 1 1 2 3 5 and the numbers of parts 0 1 3 6 12
abbrev pub of_partitions : Table
of_partitions =
    table ((0 ∷ (1 ∷ []))
    ∷ ((0 ∷ (1 ∷ (1 ∷ (1 ∷ (1 ∷ []))))) ∷ ((1 ∷ (1 ∷ (2 ∷ (3 ∷ (5 ∷ []))))) ∷ [])))
    (0 ∷ (1 ∷ (3 ∷ (6 ∷ (12 ∷ [])))))

-- the counts 1 1 1 2 2 and the numbers of parts 0 1 1 3 3
abbrev pub of_distinct : Table
of_distinct =
    table ((0 ∷ (1 ∷ []))
    ∷ ((0 ∷ (1 ∷ (1 ∷ (1 ∷ (1 ∷ []))))) ∷ ((1 ∷ (1 ∷ (1 ∷ (2 ∷ (2 ∷ []))))) ∷ [])))
    (0 ∷ (1 ∷ (1 ∷ (3 ∷ (3 ∷ [])))))

-- the equation at this place has the number v at size n on its left, and on its right
abbrev pub Gives : Program → Table → ℕ → ℕ → ℕ → Type 0
Gives p t place n v =
    (e : Equation) × (slice_get (system p) place ≡ Some e) × (left_number t e.left n ≡ pos v)
    × (coef p.universe t e.right n ≡ pos v)

-- at sizes 2, 3 and 4: the cycles, the permutations, and the cycles of the permutations
abbrev pub PermutationsGive : Type 0
PermutationsGive =
    (Gives permutations of_permutations 1 2 1 × Gives permutations of_permutations 1 3 2
    × Gives permutations of_permutations 1 4 6)
    × (Gives permutations of_permutations 2 2 2 × Gives permutations of_permutations 2 3 6
    × Gives permutations of_permutations 2 4 24)
    × (Gives permutations of_permutations 3 2 3 × Gives permutations of_permutations 3 3 11
    × Gives permutations of_permutations 3 4 50)

-- the partitions, and their parts
abbrev pub PartitionsGive : Type 0
PartitionsGive =
    (Gives partitions of_partitions 2 2 2 × Gives partitions of_partitions 2 3 3
    × Gives partitions of_partitions 2 4 5)
    × (Gives partitions of_partitions 3 2 3 × Gives partitions of_partitions 3 3 6
    × Gives partitions of_partitions 3 4 12)

-- the partitions into distinct parts, and their parts
abbrev pub DistinctPartitionsGive : Type 0
DistinctPartitionsGive =
    (Gives distinct_partitions of_distinct 2 2 1 × Gives distinct_partitions of_distinct 2 3 2
    × Gives distinct_partitions of_distinct 2 4 2)
    × (Gives distinct_partitions of_distinct 3 2 1 × Gives distinct_partitions of_distinct 3 3 3
    × Gives distinct_partitions of_distinct 3 4 3)
