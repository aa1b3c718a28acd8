-- Lists of lexemes.
use Rattle.std.proofs.Common.{◌≡◌, List, ◌∷◌}
use Rattle.luo_scan.specs.Lexemes.{Lexeme}

-- what stands behind the first lexemes of one list
pub behind : {l k : Lexeme} {a b : List Lexeme} → l ∷ a ≡ k ∷ b → a ≡ b
behind e = cc
