-- The summary of a sample, by what its source means as it is written.
use Rattle.std.specs.Prelude.{◌≡◌, ℕ, List, [], ◌∷◌, ◌++◌, length, codes}
use Rattle.luo_model.specs.declared.table.Row.{Row}
use Rattle.luo_source.specs.declared.names.Name.{Name}
use Rattle.luo_source.specs.Plain.Source.{ProcDef, Source}
use Rattle.luo_meaning.specs.Defined.{DefinesProcedure}
use Rattle.luo_meaning.specs.Rows.{IsRowOf}
use Rattle.luo_report.specs.Report.{row_text}
use Rattle.luo_sample.specs.Number.{Sample}
use Rattle.luo_answer.specs.Commands.Sample.{head_text}
use Rattle.luo_answer.specs.Step.{Step, ◌and_then◌, makes}
use Rattle.luo_top.specs.AsWritten.Steps.{sound, founded_source, numbers}
use Rattle.luo_top.specs.Steps.{tokens_of, source_of}

-- the source of a text, where it passes no limit and breaks no rule
abbrev pub sound_text : List ℕ → Step Source
sound_text text = tokens_of text and_then λ tokens. source_of text tokens and_then sound text tokens

-- the source of the sample of a number
abbrev pub sound_sample : ℕ → Step Source
sound_sample number = sound_text (Sample number)

-- for each of these names its procedure's row of size n: `P n count total average`
abbrev pub AreLinesOf : Source → ℕ → List Name → List ℕ → Type 0
AreLinesOf source n [] bytes = bytes ≡ []
AreLinesOf source n (name ∷ names) bytes =
    (p : ProcDef) × (row : Row) × (rest : List ℕ) × DefinesProcedure source name.text p
    × (row.n ≡ n) × IsRowOf source p row
    × AreLinesOf source n names rest × (bytes ≡ p.name.text ++ codes " " ++ row_text row ++ rest)

-- these bytes are the summary: the number, the universe, the bytes of the text, and the lines of
-- the analyze lines
abbrev pub IsSummaryOf : ℕ → Source → ℕ → List ℕ → Type 0
IsSummaryOf number source n bytes =
    (lines : List ℕ) × AreLinesOf source n source.analyses lines
    × (bytes ≡ head_text number source.universe (length (Sample number)) ++ lines)

abbrev pub summary_of : ℕ → Source → ℕ → Step (List ℕ)
summary_of number source n = makes (IsSummaryOf number source n)

-- the summary of a sample at size n
abbrev pub sample_source : ℕ → ℕ → Step (List ℕ)
sample_source number n =
    sound_sample number and_then λ source. founded_source source and_then λ _. numbers source n
    and_then λ _. summary_of number source n
