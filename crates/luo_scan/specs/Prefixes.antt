-- Prefixes of a text.
use Rattle.std.specs.Prelude.{◌≢◌, ℕ, List, [], ◌∷◌, take, drop, ◌≤◌, length}
use Rattle.std.specs.List.{AllByRecursion}
use Rattle.luo_scan.specs.declared.bytes.Class.{Class}
use Rattle.luo_scan.specs.declared.bytes.Class.TheVariants.{Name, Digit, Comment}
use Rattle.luo_scan.specs.Bytes.{IsDigit, IsNameByte}

-- the next byte, if there is one, is none of this kind
abbrev pub Stops : (ℕ → Type 0) → List ℕ → Type 0
Stops P [] = Unit {0}
Stops P (b ∷ bs) = P b → ⊥

-- this many bytes of the text, and no more, are of this kind one after another
pub record IsRun (P : ℕ → Type 0) (text : List ℕ) (count : ℕ) : Type 0 where
  pub within : count ≤ length text
  pub all : AllByRecursion P (take count text)
  pub stops : Stops P (drop count text)

-- a byte of this class
abbrev pub IsOf : Class → ℕ → Type 0
IsOf Name b = IsNameByte b
IsOf Digit b = IsDigit b
IsOf Comment b = b ≢ 10
