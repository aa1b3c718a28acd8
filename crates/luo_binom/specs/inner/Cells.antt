-- Binomials in a table, row after row.
use Rattle.std.specs.Prelude.{◌≡◌, ℕ, ◌+◌, ◌*◌, ◌<◌, ◌≤◌, List, length, slice_index}
use Rattle.luo_num.specs.Mark.{capped}
use Rattle.luo_finite.specs.Binomial.{choose}
use Rattle.luo_binom.specs.declared.pascal.TheConstants.{LAST, WIDE}

-- cell k of row n has the number of choices of k of n things, marked
abbrev pub AreCells : List ℕ → Type 0
AreCells cells =
    (n k : ℕ) → k < WIDE → WIDE * n + k < length cells
    → slice_index cells (WIDE * n + k) ≡ capped (choose n k)

-- the rows 0 to n
pub record IsTable (n : ℕ) (cells : List ℕ) : Type 0 where
  pub small : n ≤ LAST
  pub long : length cells ≡ WIDE * (n + 1)
  pub right : AreCells cells
