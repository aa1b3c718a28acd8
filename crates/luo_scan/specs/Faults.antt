-- What errors and pieces say of a text, and that tokens lie inside it.
use Rattle.std.specs.Prelude.{ℕ, ◌<◌, ◌≤◌, List, [], ◌∷◌, length, take, drop, None, Some}
use Rattle.luo_scan.specs.declared.error.ScanError.{ScanError}
use Rattle.luo_scan.specs.declared.error.ScanError.TheVariants.{BadByte, NameLimit, NumberLimit, NoMemory}
use Rattle.luo_scan.specs.declared.piece.Piece.{Piece}
use Rattle.luo_scan.specs.declared.piece.Piece.TheVariants as piece
use Rattle.luo_scan.specs.declared.token.Token.{Token}
use Rattle.luo_scan.specs.Tokens.{Begins, IsWithin, LexicalFault, bad_byte, long_name, large_number, FaultFrom, FirstFault}

-- an error names the first fault and its place; that memory ran out says nothing of the text
abbrev pub IsFault : List ℕ → ScanError → Type 0
IsFault text (BadByte at) = FirstFault text bad_byte at
IsFault text (NameLimit at) = FirstFault text long_name at
IsFault text (NumberLimit at) = FirstFault text large_number at
IsFault text NoMemory = Unit {0}

-- the text has this fault at its first byte, wherever it stands
abbrev pub IsFaulty : List ℕ → LexicalFault → Type 0
IsFaulty text fault = (at : ℕ) → FaultFrom at text fault at

-- this many bytes, and at least one, are within the text
abbrev pub IsSome : List ℕ → ℕ → Type 0
IsSome text count = (0 < count) × (count ≤ length text)

-- what the text begins with
abbrev pub IsPieceOf : List ℕ → Piece → Type 0
IsPieceOf text (piece.Gap n) = IsSome text n × Begins text (take n text) (drop n text) None
IsPieceOf text (piece.Token kind n) =
    IsSome text n × Begins text (take n text) (drop n text) (Some kind)
    × IsWithin (take n text) kind
IsPieceOf text piece.BadByte = IsFaulty text bad_byte
IsPieceOf text piece.LongName = IsFaulty text long_name
IsPieceOf text piece.LargeNumber = IsFaulty text large_number

-- each token begins no later than it ends, and ends within this many bytes
abbrev pub AllInside : ℕ → List Token → Type 0
AllInside count [] = Unit {0}
AllInside count (t ∷ ts) = (t.start ≤ t.end) × (t.end ≤ count) × AllInside count ts
