-- How deep the text of a structure nests at a byte.
use Rattle.std.specs.Prelude.{◌≡◌, ℕ, ◌+◌, ◌≤◌, ◌<◌, List, [], ◌∷◌, ◌++◌, codes, decimal, length, take}
use Rattle.luo_num.specs.declared.limits.TheConstants.{NESTING_LIMIT}
use Rattle.luo_model.specs.Tree.{Tree}
use Rattle.luo_struct.specs.Text.{structure_text}
use Rattle.luo_read.specs.declared.TheConstants.{GREATEST_NUMBER}
use Rattle.luo_read.specs.Written.{IsWritten}

-- what is open at a place: a branch, or a tuple or a collection with the parts before that place
pub data Open : Type 0 where
  Branch : ℕ → Open
  Tuple Collection : List Tree → Open

-- the texts of parts, with a comma after each
abbrev pub ended : List Tree → List ℕ
ended [] = []
ended (t ∷ ts) = structure_text t ++ (codes "," ++ ended ts)

abbrev pub open_text : Open → List ℕ
open_text (Branch number) = decimal number ++ codes ":"
open_text (Tuple ts) = codes "(" ++ ended ts
open_text (Collection ts) = codes "[" ++ ended ts

-- the text up to a place, by what is open there, the outermost first
abbrev pub opens_text : List Open → List ℕ
opens_text [] = []
opens_text (o ∷ os) = open_text o ++ opens_text os

abbrev pub EachWritten : List Tree → Type 0
EachWritten [] = Unit {0}
EachWritten (t ∷ ts) = IsWritten t × EachWritten ts

abbrev pub IsOpen : Open → Type 0
IsOpen (Branch number) = (1 ≤ number) × (number ≤ GREATEST_NUMBER)
IsOpen (Tuple ts) = EachWritten ts
IsOpen (Collection ts) = EachWritten ts

-- nothing is inside yet
abbrev pub IsFresh : Open → Type 0
IsFresh (Branch number) = Unit {0}
IsFresh (Tuple ts) = ts ≡ []
IsFresh (Collection ts) = ts ≡ []

-- each may be open, and the innermost is opened by the last byte
abbrev pub AreOpened : List Open → Type 0
AreOpened [] = ⊥
AreOpened (o ∷ []) = IsOpen o × IsFresh o
AreOpened (o ∷ (q ∷ os)) = IsOpen o × AreOpened (q ∷ os)

-- the last byte of the text opens something, and then so many are open
abbrev pub OpensAt : ℕ → List ℕ → Type 0
OpensAt n text = (os : List Open) × (length os ≡ n) × AreOpened os × (opens_text os ≡ text)

-- this byte is the first that opens something beyond the limit
abbrev pub IsTooDeep : List ℕ → ℕ → Type 0
IsTooDeep text at =
    (at < length text) × OpensAt (NESTING_LIMIT + 1) (take (at + 1) text)
    × ((k : ℕ) → k < at → OpensAt (NESTING_LIMIT + 1) (take (k + 1) text) → ⊥)
