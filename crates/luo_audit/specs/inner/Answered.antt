-- What a worker answers, and all of them together.
use Rattle.std.specs.Prelude.{◌≡◌, ℕ, ◌<◌, ◌≤◌, List, Result, Ok, Err, IfOk, sum}
use Rattle.luo_num.specs.declared.TheConstants.{MAX}
use Rattle.luo_model.specs.Program.{Program}
use Rattle.luo_audit.specs.Pieces.{piece_sum, piece_sums}
use Rattle.luo_audit.specs.Audit.{AreCharges}
use Rattle.luo_audit.specs.declared.auditing.Audited.{Audited}
use Rattle.luo_audit.specs.declared.auditing.AuditError.{AuditError}
use Rattle.luo_audit.specs.declared.auditing.AuditError.TheVariants.{TooMany, Over, NoMemory}

-- a sum that is at most the last number, or one past it
abbrev pub IsSum : ℕ → Result ℕ AuditError → Type 0
IsSum n (Ok s) = (s ≡ n) × (n ≤ MAX)
IsSum n (Err (TooMany c)) = ⊥
IsSum n (Err Over) = MAX < n
IsSum n (Err NoMemory) = Unit {0}

-- the sum of piece i of what procedure f charges at size n, in any case a number
pub record IsPieceSum (p : Program) (f n workers i : ℕ) (found : Result ℕ AuditError) : Type 0 where
  pub small : IfOk found (λ s. s ≤ MAX)
  pub sum : (charges : List ℕ) → AreCharges p f n charges
      → IsSum (piece_sum charges workers i) found

-- the sums of the pieces of these charges, and the sum of all; or that overflows
abbrev pub Gathers : List ℕ → ℕ → Result Audited AuditError → Type 0
Gathers charges workers (Ok a) =
    (a.sums ≡ piece_sums charges workers) × (a.row.total ≡ sum charges) × (sum charges ≤ MAX)
Gathers charges workers (Err (TooMany c)) = ⊥
Gathers charges workers (Err Over) = MAX < sum charges
Gathers charges workers (Err NoMemory) = Unit {0}
