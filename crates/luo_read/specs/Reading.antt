-- What is answered where a structure is read from its text.
use Rattle.std.specs.Prelude.{◌≡◌, ◌⊎◌, ℕ, ◌≤◌, ◌<◌, List, length}
use Rattle.luo_num.specs.declared.limits.TheConstants.{STRUCTURE_TEXT_LIMIT, STRUCTURE_SIZE_LIMIT}
use Rattle.luo_model.specs.Program.{Program}
use Rattle.luo_model.specs.Structures.{IsStructure}
use Rattle.luo_model.specs.Tree.{Tree, size_of}
use Rattle.luo_struct.specs.Text.{structure_text}
use Rattle.luo_read.specs.declared.answers.StructError.{StructError}
use Rattle.luo_read.specs.declared.answers.StructError.TheVariants.{Long, S1, Deep, S2, S3, NoMemory}
use Rattle.luo_read.specs.Written.{IsStructureText, IsUnreadable}
use Rattle.luo_read.specs.Nesting.{IsTooDeep}

-- the text keeps the limits, and is one of a structure
pub record IsReadable (text : List ℕ) : Type 0 where
  pub not_long : length text ≤ STRUCTURE_TEXT_LIMIT
  pub not_deep : (k : ℕ) → IsTooDeep text k → ⊥
  pub is_text : IsStructureText text

-- t is a structure of node x, at its own size, whose text this is
abbrev pub IsNamed : Program → ℕ → List ℕ → Tree → Type 0
IsNamed p x text t = IsStructure p x (size_of t) t × (structure_text t ≡ text)

-- the structure that is read
pub record Reads (p : Program) (x : ℕ) (text : List ℕ) (t : Tree) : Type 0 where
  pub readable : IsReadable text
  pub named : IsNamed p x text t
  pub small : size_of t ≤ STRUCTURE_SIZE_LIMIT

-- why there is none; of S1 and Deep the one at the lesser byte
abbrev pub Refusal : Program → ℕ → List ℕ → StructError → Type 0
Refusal p x text (Long len) = (STRUCTURE_TEXT_LIMIT < length text) × (len ≡ length text)
Refusal p x text (S1 at) =
    (length text ≤ STRUCTURE_TEXT_LIMIT) × IsUnreadable text at
    × ((k : ℕ) → k < at → IsTooDeep text k → ⊥)
Refusal p x text (Deep at) =
    (length text ≤ STRUCTURE_TEXT_LIMIT) × IsTooDeep text at
    × ((k : ℕ) → k ≤ at → IsUnreadable text k → ⊥)
Refusal p x text S2 = IsReadable text × ((t : Tree) → IsNamed p x text t → ⊥)
Refusal p x text (S3 size) =
    IsReadable text
    × ((t : Tree) × IsNamed p x text t × (size ≡ size_of t) × (STRUCTURE_SIZE_LIMIT < size_of t))
Refusal p x text NoMemory = ⊥

-- a refusal, or that memory was refused
abbrev pub Refuses : Program → ℕ → List ℕ → StructError → Type 0
Refuses p x text NoMemory = Unit {0}
Refuses p x text e = Refusal p x text e

abbrev pub WantsMemory : StructError → Type 0
WantsMemory e = e ≡ NoMemory

-- the answer is e, or that memory was refused
abbrev pub Answers : StructError → StructError → Type 0
Answers e answer = (answer ≡ e) ⊎ WantsMemory answer
