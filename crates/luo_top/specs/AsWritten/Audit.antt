-- `audit FILE N WORKERS` from a source on, by what it means as it is written.
use Rattle.std.specs.Prelude.{◌≡◌, ◌<◌, ◌≤◌, ⊤, ℕ, List, Some, slice_get}
use Rattle.luo_num.specs.declared.TheConstants.{MAX}
use Rattle.luo_num.specs.declared.limits.TheConstants.{WALKED_LIMIT}
use Rattle.luo_source.specs.declared.names.Name.{Name}
use Rattle.luo_source.specs.Plain.Source.{ProcDef, Source}
use Rattle.luo_source.specs.Plain.Types.{Named}
use Rattle.luo_meaning.specs.Charges.{ProcCharges}
use Rattle.luo_meaning.specs.Defined.{DefinesProcedure}
use Rattle.luo_meaning.specs.Rows.{IsCountOf, IsTotalOf}
use Rattle.luo_answer.specs.declared.status.Status.TheVariants.{Limit, Overflow}
use Rattle.luo_answer.specs.Answer.{Answer, Refusal}
use Rattle.luo_answer.specs.Overflows.{IsEarlier, audit_line}
use Rattle.luo_answer.specs.Step.{Step, ◌or_makes◌, ◌and_then◌, refused_where}
use Rattle.luo_answer.specs.Steps.{list_sized, workers_of}
use Rattle.luo_answer.specs.Told.{Told}
use Rattle.luo_answer.specs.WordRefusals.{structures_line}
use Rattle.luo_top.specs.AsWritten.Steps.{sound_source, founded_source, counts, report_of}

-- d is the procedure of analyze line k
abbrev pub IsAnalyzed : Source → ℕ → ProcDef → Type 0
IsAnalyzed source k d =
    (name : Name) × (slice_get source.analyses k ≡ Some name) × DefinesProcedure source name.text d

-- a procedure of an analyze line has more structures of a size up to `last` than are walked
abbrev pub HasTooManyOf : Source → ℕ → Type 0
HasTooManyOf source last =
    (k : ℕ) × (d : ProcDef) × (n : ℕ) × (c : ℕ) × IsAnalyzed source k d
    × (n ≤ last) × IsCountOf source (Named d.on) n c × (WALKED_LIMIT < c)

-- too many structures are refused, before any is walked
abbrev pub few_of : Source → ℕ → Step ⊤
few_of source last = refused_where (HasTooManyOf source last) Limit structures_line

-- the total of procedure d at size n overflows
abbrev pub IsOverOf : Source → ProcDef → ℕ → Type 0
IsOverOf source d n =
    (t : ℕ) × IsTotalOf source (Named d.on) (ProcCharges source d.name.text) n t × (MAX < t)

-- d is the procedure of analyze line k, and its total at size n overflows
abbrev pub IsTotalOverOf : Source → ℕ → ProcDef → ℕ → Type 0
IsTotalOverOf source k d n = IsAnalyzed source k d × IsOverOf source d n

-- of the sizes up to `last` on the analyze lines, the first whose total overflows
pub record IsFirstTotalOverOf (source : Source) (last k : ℕ) (d : ProcDef) (n : ℕ) : Type 0 where
  pub within : n ≤ last
  pub over : IsTotalOverOf source k d n
  pub first : (j : ℕ) (e : ProcDef) (m : ℕ) → m ≤ last → IsEarlier j m k n
      → IsTotalOverOf source j e m → ⊥

-- the first total that overflows is named
abbrev pub AuditRefusalOf : Source → ℕ → Answer → Type 0
AuditRefusalOf source last answer =
    (k : ℕ) × (d : ProcDef) × (n : ℕ) × IsFirstTotalOverOf source last k d n
    × (answer ≡ Refusal Overflow (audit_line d.name.text n))

-- a total that overflows, and else none is
abbrev pub audited_of : Source → ℕ → Step ⊤
audited_of source last = AuditRefusalOf source last or_makes λ _. ⊤

-- from the counts on
abbrev pub audit_counted_of : Source → ℕ → Step (List ℕ)
audit_counted_of source size =
    few_of source size and_then λ _. audited_of source size and_then λ _. report_of source size

-- from the size on
abbrev pub audit_by : Source → ℕ → ℕ → Step (List ℕ)
audit_by source n w =
    list_sized n and_then λ size. workers_of w and_then λ _. counts source size and_then λ _.
    audit_counted_of source size

-- the report of the source of a file for the sizes up to n, found again by so many workers
abbrev pub audit_source : List ℕ → ℕ → ℕ → Told → Step (List ℕ)
audit_source file n w told =
    sound_source file told and_then λ source. founded_source source
    and_then λ _. audit_by source n w
