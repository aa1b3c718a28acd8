-- `audit FILE N WORKERS` from the program on.
use Rattle.std.specs.Prelude.{◌≡◌, ◌<◌, ◌≤◌, ⊤, ℕ, List, Some, slice_get}
use Rattle.luo_finite.specs.Listing.{In}
use Rattle.luo_num.specs.declared.TheConstants.{MAX}
use Rattle.luo_num.specs.declared.limits.TheConstants.{WALKED_LIMIT}
use Rattle.luo_model.specs.declared.table.Fill.TheVariants.{Counts}
use Rattle.luo_model.specs.Program.{Program}
use Rattle.luo_audit.specs.Audit.{CountIs, TotalIs}
use Rattle.luo_answer.specs.declared.status.Status.TheVariants.{Limit, Overflow}
use Rattle.luo_answer.specs.Answer.{Answer, Refusal}
use Rattle.luo_answer.specs.Commands.Analyse.{report}
use Rattle.luo_answer.specs.Names.{procedure_name}
use Rattle.luo_answer.specs.Overflows.{IsEarlier, audit_line}
use Rattle.luo_answer.specs.Step.{Step, ◌or_makes◌, ◌and_then◌, refused_where}
use Rattle.luo_answer.specs.Steps.{founded, list_sized, workers_of, tables}
use Rattle.luo_answer.specs.WordRefusals.{structures_line}

-- a procedure of an analyze line has more structures of a size up to `last` than are walked
abbrev pub HasTooMany : Program → ℕ → Type 0
HasTooMany p last =
    (f : ℕ) × (n : ℕ) × (c : ℕ) × In f p.analyses
    × (n ≤ last) × CountIs p f n c × (WALKED_LIMIT < c)

-- too many structures are refused, before any is walked
abbrev pub few : Program → ℕ → Step ⊤
few p last = refused_where (HasTooMany p last) Limit structures_line

-- the total of procedure f at size n overflows
abbrev pub IsOverAt : Program → ℕ → ℕ → Type 0
IsOverAt p f n = (t : ℕ) × TotalIs p f n t × (MAX < t)

-- f is the procedure of analyze line k, and its total at size n overflows
abbrev pub IsTotalOver : Program → ℕ → ℕ → ℕ → Type 0
IsTotalOver p k f n = (slice_get p.analyses k ≡ Some f) × IsOverAt p f n

-- of the sizes up to `last` on the analyze lines, the first whose total overflows
pub record IsFirstTotalOver (p : Program) (last k f n : ℕ) : Type 0 where
  pub within : n ≤ last
  pub over : IsTotalOver p k f n
  pub first : (j g m : ℕ) → m ≤ last → IsEarlier j m k n → IsTotalOver p j g m → ⊥

-- the first total that overflows is named
abbrev pub AuditRefusal : Program → ℕ → Answer → Type 0
AuditRefusal p last answer =
    (k : ℕ) × (f : ℕ) × (n : ℕ) × IsFirstTotalOver p last k f n
    × (answer ≡ Refusal Overflow (audit_line (procedure_name p f) n))

-- a total that overflows, and else none is
abbrev pub audited : Program → ℕ → Step ⊤
audited p last = AuditRefusal p last or_makes λ _. ⊤

-- from the counts on
abbrev pub audit_counted : Program → ℕ → Step (List ℕ)
audit_counted p size = few p size and_then λ _. audited p size and_then λ _. report p size

-- from the size on
abbrev pub audit_of : Program → ℕ → ℕ → Step (List ℕ)
audit_of p n w =
    list_sized n and_then λ size. workers_of w and_then λ _. tables Counts p size and_then λ _.
    audit_counted p size

-- from the program on
abbrev pub audit_program : ℕ → ℕ → Program → Step (List ℕ)
audit_program n w p = founded p and_then λ _. audit_of p n w
