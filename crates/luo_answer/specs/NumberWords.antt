-- The number words.
use Rattle.std.specs.Prelude.{◌≡◌, ℕ, List, [], ◌∷◌}
use Rattle.std.specs.List.{AllByRecursion}
use Rattle.luo_scan.specs.Bytes.{IsDigit}
use Rattle.luo_scan.specs.Spellings.{value_after}

-- `0`, or a digit from 1 to 9 followed by digits, and the number that they give
abbrev pub IsNumberWord : List ℕ → ℕ → Type 0
IsNumberWord [] n = ⊥
IsNumberWord (d ∷ ds) n =
    AllByRecursion IsDigit (d ∷ ds) × (d ≡ 48 → ds ≡ []) × (n ≡ value_after 0 (d ∷ ds))
