-- `run FILE PROC STRUCTURE` from the program on.
use Rattle.std.specs.Prelude.{◌≡◌, ◌<◌, ℕ, List, [], ◌++◌, decimal, Option, None, Some, slice_get}
use Rattle.luo_num.specs.declared.TheConstants.{MAX}
use Rattle.luo_model.specs.Charges.{Charges}
use Rattle.luo_model.specs.Program.{Program, Procedure, Result}
use Rattle.luo_model.specs.Tree.{Tree}
use Rattle.luo_struct.specs.Text.{structure_text}
use Rattle.luo_read.specs.declared.answers.StructError.{StructError}
use Rattle.luo_read.specs.Reading.{Reads}
use Rattle.luo_read.specs.Reading as reading
use Rattle.luo_interp.specs.Makes.{Makes}
use Rattle.luo_answer.specs.declared.status.Status.TheVariants.{Refused, Overflow}
use Rattle.luo_answer.specs.Answer.{Answer, Refusal}
use Rattle.luo_answer.specs.Lines.{line}
use Rattle.luo_answer.specs.WordRefusals.{unknown_line, refusal_of_structure, charge_line}
use Rattle.luo_answer.specs.Step.{Step, ◌or_makes◌, ◌and_then◌, RefusedWhere, makes}
use Rattle.luo_answer.specs.Steps.{founded}

-- procedure f has this name
abbrev pub IsProcedureNamed : Program → List ℕ → ℕ → Type 0
IsProcedureNamed p name f = (P : Procedure) × (slice_get p.procs f ≡ Some P) × (P.name ≡ name)

-- a word that names no procedure, and else the procedure of this name
abbrev pub procedure_of : Program → List ℕ → Step ℕ
procedure_of p name =
    RefusedWhere ((f : ℕ) → IsProcedureNamed p name f → ⊥) Refused
    (unknown_line name) or_makes IsProcedureNamed p name

-- the node of a procedure's parameter
abbrev pub node_on : Option Procedure → ℕ
node_on None = 0
node_on (Some P) = P.on.node

abbrev pub parameter_node : Program → ℕ → ℕ
parameter_node p f = node_on (slice_get p.procs f)

-- why a text gives no structure of node x
abbrev pub StructureRefusal : Program → ℕ → List ℕ → Answer → Type 0
StructureRefusal p x text answer =
    (e : StructError) × reading.Refusal p x text e × (answer ≡ refusal_of_structure e)

-- a text that gives no structure of node x, and else the structure of this text
abbrev pub structure_of : Program → ℕ → List ℕ → Step Tree
structure_of p x text = StructureRefusal p x text or_makes Reads p x text

-- a charge that overflows
abbrev pub ChargeRefusal : Program → ℕ → Tree → Answer → Type 0
ChargeRefusal p f t answer =
    (q : ℕ) × Charges p f t q × (MAX < q) × (answer ≡ Refusal Overflow charge_line)

-- a charge that overflows, and else what procedure f charges on t
abbrev pub charge_of : Program → ℕ → Tree → Step ℕ
charge_of p f t = ChargeRefusal p f t or_makes Charges p f t

-- what stands behind the charge: where the procedure has a result, the text of what it makes of t
abbrev pub IsTail : Program → ℕ → Tree → Option Result → List ℕ → Type 0
IsTail p f t None tail = tail ≡ []
IsTail p f t (Some result) tail =
    (made : Tree) × Makes p f t made × (tail ≡ line (structure_text made))

-- the tail of procedure f
abbrev pub HasTail : Program → ℕ → Tree → List ℕ → Type 0
HasTail p f t tail = (P : Procedure) × (slice_get p.procs f ≡ Some P) × IsTail p f t P.result tail

-- the charge, and its tail
abbrev pub IsRunText : Program → ℕ → Tree → ℕ → List ℕ → Type 0
IsRunText p f t q bytes = (tail : List ℕ) × HasTail p f t tail × (bytes ≡ line (decimal q) ++ tail)

abbrev pub run_text : Program → ℕ → Tree → ℕ → Step (List ℕ)
run_text p f t q = makes (IsRunText p f t q)

-- from the procedure on
abbrev pub run_on : Program → List ℕ → ℕ → Step (List ℕ)
run_on p structure f =
    structure_of p (parameter_node p f) structure and_then λ t. charge_of p f t
    and_then run_text p f t

-- from the program on
abbrev pub run_named : List ℕ → List ℕ → Program → Step (List ℕ)
run_named procedure structure p =
    founded p and_then λ _. procedure_of p procedure and_then run_on p structure
