-- Choices written into a list.
use Rattle.std.specs.Prelude.{◌≡◌, ℕ, ◌-◌, List, length, take, ◌++◌}
use Rattle.luo_finite.specs.Places.{IsPlace, IsChoice, Lexical}

-- after the first so many of `old` stands the choice at place `rank`
abbrev pub IsWritten : List ℕ → ℕ → ℕ → List ℕ → List ℕ → Type 0
IsWritten labels rank at old new =
    (C : List ℕ) × IsPlace (IsChoice labels (length old - at)) Lexical rank C
    × (new ≡ take at old ++ C)
