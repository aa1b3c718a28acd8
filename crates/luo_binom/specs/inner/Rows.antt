-- Rows of Pascal's triangle as lists, by which facts about large binomials are computed.
use Rattle.std.specs.Prelude.{ℕ, zero, suc, ◌+◌, List, [], ◌∷◌}

-- the sums of neighbours, and the last number
abbrev pub sums : ℕ → List ℕ → List ℕ
sums x [] = x ∷ []
sums x (y ∷ l) = (x + y) ∷ sums y l

abbrev pub pascal_row : ℕ → List ℕ
pascal_row zero = 1 ∷ []
pascal_row (suc n) = sums 0 (pascal_row n)
