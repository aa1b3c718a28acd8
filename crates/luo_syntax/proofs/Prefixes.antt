-- Prefixes of lists of lexemes, as what they put before a list.
use Rattle.std.proofs.Common.{◌≡◌, List, [], ◌∷◌, ◌++◌, append_assoc, refl, ap, sym, ◌∙◌}
use Rattle.luo_scan.specs.Lexemes.{Lexeme}
use Rattle.luo_syntax.specs.Viable.{AllSpelled}

-- what stands before a list
pub record Prefix : Type 0 where
  pub before : List Lexeme → List Lexeme
  pub list : List Lexeme
  pub is : (ls : List Lexeme) → before ls ≡ list ++ ls

abbrev pub nothing : Prefix
nothing = record { before = λ ls. ls; list = []; is = λ ls. refl }

abbrev pub put : Lexeme → Prefix → Prefix
put l f = record { before = λ ls. l ∷ f.before ls; list = l ∷ f.list; is = λ ls. ap (λ z. l ∷ z) (f.is ls) }

abbrev pub both : Prefix → Prefix → Prefix
both f g = record { before = λ ls. f.before (g.before ls); list = f.list ++ g.list; is = λ ls. f.is (g.before ls) ∙ ap (λ z. f.list ++ z) (g.is ls) ∙ sym (append_assoc f.list g.list ls) }

-- a prefix was read, whatever follows
pub record Moves (Is : List Lexeme → List Lexeme → Type 0) (from to : List Lexeme) : Type 0 where
  pub prefix : Prefix
  pub cut : from ≡ prefix.before to
  pub moves : (other : List Lexeme) → Is (prefix.before other) other

-- both are empty, or begin with one lexeme
pub data BeginAlike : List Lexeme → List Lexeme → Type 0 where
  empty : BeginAlike [] []
  begin : (l : Lexeme) (a b : List Lexeme) → BeginAlike (l ∷ a) (l ∷ b)

-- reading stops at these lexemes: the prefix before them can be gone on with, and what begins as they do stops too
pub record Stuck (T : Type 0) (Stops : List Lexeme → List Lexeme → Type 0) (Is : List Lexeme → List Lexeme → T → Type 0) (from at : List Lexeme) : Type 0 where
  pub prefix : Prefix
  pub cut : from ≡ prefix.before at
  pub alike : (other : List Lexeme) → BeginAlike at other → Stops (prefix.before other) other
  pub goes_on : (to : List Lexeme) → AllSpelled to → (more : List Lexeme) × AllSpelled more × (t : T) × Is (prefix.before more) to t
