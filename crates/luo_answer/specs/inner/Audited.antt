-- What an audit's calls answer: whether structures are few, and a row or rows, or the refusal of a
-- total that is too large.
use Rattle.std.specs.Prelude.{◌≡◌, ℕ, ◌<◌, ◌≤◌, Bool, true, false, List, Result, Ok, Err}
use Rattle.luo_num.specs.declared.TheConstants.{MAX}
use Rattle.luo_num.specs.declared.limits.TheConstants.{WALKED_LIMIT}
use Rattle.luo_model.specs.declared.table.Row.{Row}
use Rattle.luo_model.specs.Program.{Program}
use Rattle.luo_model.specs.Tables.{IsRow}
use Rattle.luo_audit.specs.Audit.{CountIs}
use Rattle.luo_answer.specs.declared.refusal.Refusal.{Refusal}
use Rattle.luo_answer.specs.declared.status.Status.TheVariants as way
use Rattle.luo_answer.specs.Answer as answer
use Rattle.luo_answer.specs.Commands.Audit.{IsOverAt}
use Rattle.luo_answer.specs.Names.{procedure_name}
use Rattle.luo_answer.specs.Overflows.{audit_line}
use Rattle.luo_answer.specs.Report.{AreRows}
use Rattle.luo_answer.specs.inner.Passes.{RefusedBy}

-- procedure f has at each size up to `last` no more structures than are walked
abbrev pub AreFew : Program → ℕ → ℕ → Type 0
AreFew p f last = (n c : ℕ) → n ≤ last → CountIs p f n c → c ≤ WALKED_LIMIT

-- whether that is so
abbrev pub IsFew : Program → ℕ → ℕ → Bool → Type 0
IsFew p f last true = AreFew p f last
IsFew p f last false =
    (n : ℕ) × (c : ℕ) × (n ≤ last) × CountIs p f n c × (WALKED_LIMIT < c)

-- the line of procedure f and size n
abbrev pub Names : Program → ℕ → ℕ → answer.Answer → Type 0
Names p f n a = a ≡ answer.Refusal way.Overflow (audit_line (procedure_name p f) n)

-- of the sizes up to `last`, n is the first at which the total of procedure f overflows
abbrev pub IsFirstOf : Program → ℕ → ℕ → ℕ → Type 0
IsFirstOf p f last n =
    (n ≤ last) × IsOverAt p f n × ((m : ℕ) → m < n → IsOverAt p f m → ⊥)

-- the row of procedure f of size n, whose total doesn't overflow, or the refusal of one
-- that is
abbrev pub AuditsRow : Program → ℕ → ℕ → Result Row Refusal → Type 0
AuditsRow p f n (Ok row) = (row.n ≡ n) × IsRow p f row × (row.total ≤ MAX)
AuditsRow p f n (Err e) = RefusedBy (λ a. IsOverAt p f n × Names p f n a) e

-- the rows of procedure f for the sizes up to `last`, of which no total overflows, or
-- the refusal of the first that is
abbrev pub AuditsRows : Program → ℕ → ℕ → Result (List Row) Refusal → Type 0
AuditsRows p f last (Ok rows) =
    AreRows p last f rows × ((n : ℕ) → n ≤ last → IsOverAt p f n → ⊥)
AuditsRows p f last (Err e) = RefusedBy (λ a. (n : ℕ) × IsFirstOf p f last n × Names p f n a) e
