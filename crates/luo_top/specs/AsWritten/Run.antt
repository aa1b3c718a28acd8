-- `run FILE PROC STRUCTURE` from a source on, by what it means as it is written.
use Rattle.std.specs.Prelude.{◌≡◌, ◌<◌, ◌≤◌, ℕ, List, [], ◌++◌, length, decimal}
use Rattle.luo_num.specs.declared.TheConstants.{MAX}
use Rattle.luo_num.specs.declared.limits.TheConstants.{STRUCTURE_TEXT_LIMIT, STRUCTURE_SIZE_LIMIT}
use Rattle.luo_model.specs.Tree.{Tree, size_of}
use Rattle.luo_struct.specs.Text.{structure_text}
use Rattle.luo_read.specs.declared.answers.StructError.{StructError}
use Rattle.luo_read.specs.declared.answers.StructError.TheVariants.{Long, S1, Deep, S2, S3, NoMemory}
use Rattle.luo_read.specs.Nesting.{IsTooDeep}
use Rattle.luo_read.specs.Reading.{IsReadable}
use Rattle.luo_read.specs.Written.{IsUnreadable}
use Rattle.luo_source.specs.declared.names.Name.{Name}
use Rattle.luo_source.specs.Plain.Source.{ProcBody, Statements, Value, ProcDef, Source}
use Rattle.luo_source.specs.Plain.Types.{Named}
use Rattle.luo_meaning.specs.Charges.{ProcCharges}
use Rattle.luo_meaning.specs.Defined.{DefinesProcedure}
use Rattle.luo_meaning.specs.Made.{ProcMakes}
use Rattle.luo_meaning.specs.Rows.{IsStructureOf}
use Rattle.luo_answer.specs.declared.status.Status.TheVariants.{Refused, Overflow}
use Rattle.luo_answer.specs.Answer.{Refusal}
use Rattle.luo_answer.specs.Lines.{line}
use Rattle.luo_answer.specs.WordRefusals.{unknown_line, refusal_of_structure, charge_line}
use Rattle.luo_answer.specs.Step.{Step, ◌or_makes◌, ◌and_then◌, RefusedWhere, makes}
use Rattle.luo_answer.specs.Told.{Told}
use Rattle.luo_top.specs.AsWritten.Steps.{sound_source, founded_source}

-- a word that names no procedure, and else the procedure of this name
abbrev pub defined_procedure : Source → List ℕ → Step ProcDef
defined_procedure source name =
    RefusedWhere ((d : ProcDef) → DefinesProcedure source name d → ⊥) Refused
    (unknown_line name) or_makes DefinesProcedure source name

-- t is a structure of the type of this name, at its own size, whose text this is
abbrev pub IsNamedOf : Source → Name → List ℕ → Tree → Type 0
IsNamedOf source name text t =
    IsStructureOf source (Named name) (size_of t) t × (structure_text t ≡ text)

-- the structure that is read
pub record ReadsOf (source : Source) (name : Name) (text : List ℕ) (t : Tree) : Type 0 where
  pub readable : IsReadable text
  pub named : IsNamedOf source name text t
  pub small : size_of t ≤ STRUCTURE_SIZE_LIMIT

-- why there is none: a text that is too long, that is no text of a structure or nests too deep at a
-- byte, whichever comes at the lesser one, that no structure of the type has, or whose structure is
-- too large
abbrev pub IsNoStructure : Source → Name → List ℕ → StructError → Type 0
IsNoStructure source name text (Long size) =
    (STRUCTURE_TEXT_LIMIT < length text) × (size ≡ length text)
IsNoStructure source name text (S1 at) =
    (length text ≤ STRUCTURE_TEXT_LIMIT) × IsUnreadable text at
    × ((k : ℕ) → k < at → IsTooDeep text k → ⊥)
IsNoStructure source name text (Deep at) =
    (length text ≤ STRUCTURE_TEXT_LIMIT) × IsTooDeep text at
    × ((k : ℕ) → k ≤ at → IsUnreadable text k → ⊥)
IsNoStructure source name text S2 =
    IsReadable text × ((t : Tree) → IsNamedOf source name text t → ⊥)
IsNoStructure source name text (S3 size) =
    IsReadable text
    × ((t : Tree) × IsNamedOf source name text t × (size ≡ size_of t)
    × (STRUCTURE_SIZE_LIMIT < size_of t))
IsNoStructure source name text NoMemory = ⊥

-- a text that gives no structure of the type of this name, and else the structure of this text
abbrev pub named_structure : Source → Name → List ℕ → Step Tree
named_structure source name text =
    (λ answer. (e : StructError) × IsNoStructure source name text e
    × (answer ≡ refusal_of_structure e)) or_makes ReadsOf source name text

-- a charge that overflows, and else what the procedure of this name charges on t
abbrev pub procedure_charge : Source → List ℕ → Tree → Step ℕ
procedure_charge source name t =
    (λ answer. (q : ℕ) × ProcCharges source name t q × (MAX < q)
    × (answer ≡ Refusal Overflow charge_line)) or_makes ProcCharges source name t

-- what stands behind the charge: of a procedure with a result the text of what it makes of t
abbrev pub IsTailOf : Source → List ℕ → Tree → ProcBody → List ℕ → Type 0
IsTailOf source name t (Statements stmts) tail = tail ≡ []
IsTailOf source name t (Value colon result value) tail =
    (made : Tree) × ProcMakes source name t made × (tail ≡ line (structure_text made))

-- the charge, and its tail
abbrev pub IsRunTextOf : Source → ProcDef → Tree → ℕ → List ℕ → Type 0
IsRunTextOf source d t q bytes =
    (tail : List ℕ) × IsTailOf source d.name.text t d.body tail × (bytes ≡ line (decimal q) ++ tail)

abbrev pub run_text_of : Source → ProcDef → Tree → ℕ → Step (List ℕ)
run_text_of source d t q = makes (IsRunTextOf source d t q)

-- from the procedure on
abbrev pub run_by : Source → List ℕ → ProcDef → Step (List ℕ)
run_by source structure d =
    named_structure source d.on structure and_then λ t. procedure_charge source d.name.text t
    and_then run_text_of source d t

-- what the procedure of this name charges on the structure of this text
abbrev pub run_source : List ℕ → List ℕ → List ℕ → Told → Step (List ℕ)
run_source file procedure structure told =
    sound_source file told and_then λ source. founded_source source
    and_then λ _. defined_procedure source procedure and_then run_by source structure
