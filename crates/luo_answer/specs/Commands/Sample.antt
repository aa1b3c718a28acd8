-- `sample NUMBER N` from the program of the number on.
use Rattle.std.specs.Prelude.{◌≡◌, ℕ, List, [], ◌∷◌, ◌++◌, codes, decimal}
use Rattle.luo_model.specs.declared.program.Universe.{Universe}
use Rattle.luo_model.specs.declared.table.Fill.TheVariants.{All}
use Rattle.luo_model.specs.declared.table.Row.{Row}
use Rattle.luo_model.specs.Program.{Program}
use Rattle.luo_model.specs.Tables.{IsRow}
use Rattle.luo_report.specs.Report.{row_text, universe_text}
use Rattle.luo_answer.specs.Names.{procedure_name}
use Rattle.luo_answer.specs.Step.{Step, ◌and_then◌, makes}
use Rattle.luo_answer.specs.Steps.{founded, tables}

-- the rows of size n of these procedures, one for each
abbrev pub AreRowsAt : Program → ℕ → List ℕ → List Row → Type 0
AreRowsAt p n [] [] = Unit {0}
AreRowsAt p n (f ∷ fs) (row ∷ rows) = (row.n ≡ n) × IsRow p f row × AreRowsAt p n fs rows
AreRowsAt p n _ _ = ⊥

-- for each procedure its name and its row: `P n count total average`
abbrev pub row_lines : Program → List ℕ → List Row → List ℕ
row_lines p (f ∷ fs) (row ∷ rows) =
    procedure_name p f ++ codes " " ++ row_text row ++ row_lines p fs rows
row_lines p _ _ = []

-- the lines of the number, of the universe, and of the bytes of the text
abbrev pub head_text : ℕ → Universe → ℕ → List ℕ
head_text number universe bytes =
    codes "number " ++ decimal number ++ codes "\n" ++ universe_text universe ++ codes "bytes "
    ++ decimal bytes ++ codes "\n"

-- and the rows of the analyze lines
abbrev pub summary_text : ℕ → ℕ → Program → List Row → List ℕ
summary_text number bytes p rows = head_text number p.universe bytes ++ row_lines p p.analyses rows

-- this is the summary at size n of a program whose text has so many bytes
abbrev pub IsSummary : ℕ → ℕ → Program → ℕ → List ℕ → Type 0
IsSummary number bytes p n text =
    (rows : List Row) × AreRowsAt p n p.analyses rows × (text ≡ summary_text number bytes p rows)

abbrev pub summary : ℕ → ℕ → Program → ℕ → Step (List ℕ)
summary number bytes p n = makes (IsSummary number bytes p n)

-- from the program on
abbrev pub sample_of : ℕ → ℕ → ℕ → Program → Step (List ℕ)
sample_of number bytes n p =
    founded p and_then λ _. tables All p n and_then λ _. summary number bytes p n
