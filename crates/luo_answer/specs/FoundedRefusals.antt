-- What is said of programs that are not well-founded, and their refusal.
use Rattle.std.specs.Prelude.{◌≡◌, ℕ, ◌++◌, List, [], ◌∷◌, codes, flat_map}
use Rattle.luo_model.specs.Program.{Program}
use Rattle.luo_founded.specs.declared.checking.NotFounded.{NotFounded}
use Rattle.luo_founded.specs.declared.checking.NotFounded.TheVariants.{W1, W2, W3, W4, NoMemory}
use Rattle.luo_founded.specs.Found.{Breaks}
use Rattle.luo_answer.specs.declared.status.Status.TheVariants as way
use Rattle.luo_answer.specs.Answer.{Answer, Refusal}
use Rattle.luo_answer.specs.Lines.{line}
use Rattle.luo_answer.specs.Names.{node_name, procedure_name}

abbrev pub first_of : List ℕ → ℕ
first_of [] = 0
first_of (x ∷ xs) = x

-- each name with a space before it
abbrev pub chain_text : (ℕ → List ℕ) → List ℕ → List ℕ
chain_text name chain = flat_map (λ x. codes " " ++ name x) chain

-- the name of the first, a colon, and the names of all
abbrev pub circle_text : (ℕ → List ℕ) → List ℕ → List ℕ
circle_text name chain = name (first_of chain) ++ codes ":" ++ chain_text name chain

-- what is said of a program that is not well-founded
abbrev pub founded_text : Program → NotFounded → List ℕ
founded_text p (W1 x) = codes "refused: W1 at " ++ node_name p x
founded_text p (W2 x) = codes "refused: W2 at " ++ node_name p x
founded_text p (W3 chain) = codes "refused: W3 at " ++ circle_text (node_name p) chain
founded_text p (W4 chain) = codes "refused: W4 at " ++ circle_text (procedure_name p) chain
founded_text p NoMemory = []

abbrev pub founded_line : Program → NotFounded → List ℕ
founded_line p e = line (founded_text p e)

-- the first rule that is broken is named
abbrev pub FoundedRefusal : Program → Answer → Type 0
FoundedRefusal p answer =
    (e : NotFounded) × Breaks p e × (answer ≡ Refusal way.Refused (founded_line p e))
