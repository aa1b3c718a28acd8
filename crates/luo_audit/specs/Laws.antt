-- What the words of this crate have to give.
use Rattle.std.specs.Prelude.{◌≡◌, ◌⊎◌, ℕ, ◌+◌, ◌/◌, ◌<◌, List, [], ◌∷◌, length, sum}
use Rattle.luo_model.specs.Invariant.{IsProgram}
use Rattle.luo_model.specs.Program.{Program}
use Rattle.luo_audit.specs.Pieces.{start, piece_sums}
use Rattle.luo_audit.specs.declared.auditing.Audited.{Audited}
use Rattle.luo_audit.specs.Audit.{TotalIs, IsPieceSums, IsAudit}

-- the pieces go from the first place to the last, and a piece is no longer than another, or one
-- longer
abbrev pub PiecesAreEven : Type 0
PiecesAreEven = (count workers : ℕ) → 0 < workers
    → (start count workers 0 ≡ 0) × (start count workers workers ≡ count)
    × ((i : ℕ) → (start count workers (i + 1) ≡ start count workers i + count / workers)
    ⊎ (start count workers (i + 1) ≡ start count workers i + count / workers + 1))

-- there is one sum for each piece, and together they are the sum of all
abbrev pub PiecesAddUp : Type 0
PiecesAddUp =
    (xs : List ℕ) (workers : ℕ) → 0 < workers
    → (length (piece_sums xs workers) ≡ workers) × (sum (piece_sums xs workers) ≡ sum xs)

-- for every number of workers the sums of the pieces add up to the total
abbrev pub SumsAddUp : Type 0
SumsAddUp = (p : Program) → IsProgram p → (f n workers : ℕ) (sums : List ℕ) (t : ℕ) → 0 < workers
    → IsPieceSums p f n workers sums → TotalIs p f n t → sum sums ≡ t

-- audits of one procedure and size have one row, whatever their numbers of workers
abbrev pub RowsAgree : Type 0
RowsAgree =
    (p : Program) → IsProgram p → (f n v w : ℕ) (a b : Audited) → IsAudit p f n v a
    → IsAudit p f n w b → a.row ≡ b.row

-- what the permutations of three points charge by their cycles, in pieces for 1, 2, 4 and 7 workers
abbrev pub PiecesOfPermutations : Type 0
PiecesOfPermutations =
    let cycles : List ℕ = 3 ∷ 2 ∷ 2 ∷ 2 ∷ 1 ∷ 1 ∷ [] in
    (piece_sums cycles 1 ≡ 11 ∷ []) × (piece_sums cycles 2 ≡ 7 ∷ 4 ∷ [])
    × (piece_sums cycles 4 ≡ 5 ∷ 4 ∷ 1 ∷ 1 ∷ [])
    × (piece_sums cycles 7 ≡ 3 ∷ 2 ∷ 2 ∷ 2 ∷ 1 ∷ 1 ∷ 0 ∷ [])
