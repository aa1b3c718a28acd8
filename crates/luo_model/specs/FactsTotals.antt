-- The rows of some well-known programs, and the totals of the sites inside.
use Rattle.std.specs.Prelude.{ℕ, suc, List, [], ◌∷◌}
use Rattle.luo_model.specs.Program.{Program}
use Rattle.luo_model.specs.Tables.{IsTotal, IsRow}
use Rattle.luo_model.specs.Examples.{choosing}
use Rattle.luo_model.specs.Programs.{binary, permutations, partitions, hierarchies, rooted}

-- procedure f has these counts and totals, at the sizes from n on
abbrev pub HasRows : Program → ℕ → ℕ → List (ℕ × ℕ) → Type 0
HasRows p f n [] = Unit {0}
HasRows p f n (row ∷ rows) =
    IsRow p f (record { n = n; count = row.0; total = row.1 }) × HasRows p f (suc n) rows

-- the sites from i on have these totals at size n
abbrev pub HasTotals : Program → ℕ → ℕ → List ℕ → Type 0
HasTotals p n i [] = Unit {0}
HasTotals p n i (t ∷ ts) = IsTotal p i n t × HasTotals p n (suc i) ts

-- a procedure that charges 3 on one of the two structures of size 1 and 5 on the other has the row
-- 1, 2, 8
abbrev pub RowsSumCharges : Type 0
RowsSumCharges = IsRow choosing 0 (record { n = 1; count = 2; total = 8 })

-- the path lengths of binary trees: calls of two procedures on the factors that an arm binds
abbrev pub PathLengthsAreTotalled : Type 0
PathLengthsAreTotalled = HasRows binary 1 0 ((1, 0) ∷ (1, 0) ∷ (2, 2) ∷ (5, 14) ∷ [])

-- permutations by their cycles, and partitions by their parts: a walk that charges each component
abbrev pub ComponentsAreTotalled : Type 0
ComponentsAreTotalled =
    HasRows permutations 0 0 ((1, 0) ∷ (1, 1) ∷ (2, 3) ∷ (6, 11) ∷ [])
    × HasRows partitions 0 0 ((1, 0) ∷ (1, 1) ∷ (2, 3) ∷ (3, 6) ∷ (5, 12) ∷ [])

-- the leaves of hierarchies: a call inside a walk over the structure that an arm binds
abbrev pub LeavesAreTotalled : Type 0
LeavesAreTotalled = HasRows hierarchies 0 0 ((0, 0) ∷ (1, 1) ∷ (1, 2) ∷ (2, 6) ∷ [])

-- the nodes of rooted trees: a case on a product, and a call inside a walk over a factor
abbrev pub NodesAreTotalled : Type 0
NodesAreTotalled = HasRows rooted 0 0 ((0, 0) ∷ (1, 1) ∷ (2, 4) ∷ (9, 27) ∷ [])

-- the sites inside at size 2: of path on binary trees its calls of size and of path, its case and
-- its whole; of the cycles of permutations the body of the walk, the walk and the whole; and of the
-- leaves of hierarchies and the nodes of rooted trees the call, the body of the walk, the walk, the
-- case and the whole
abbrev pub InnerSitesAreTotalled : Type 0
InnerSitesAreTotalled =
    HasTotals binary 2 4 (4 ∷ 4 ∷ 2 ∷ 2 ∷ 2 ∷ 2 ∷ [])
    × HasTotals permutations 2 0 (1 ∷ 3 ∷ 3 ∷ [])
    × HasTotals hierarchies 2 0 (2 ∷ 2 ∷ 2 ∷ 2 ∷ 2 ∷ [])
    × HasTotals rooted 2 0 (4 ∷ 4 ∷ 6 ∷ 2 ∷ 4 ∷ [])
