-- What is said of an overflow, by what its source means as it is written.
use Rattle.std.specs.Prelude.{◌≡◌, ℕ, ◌++◌, List, codes, decimal}
use Rattle.luo_model.specs.declared.table.Entry.{Entry}
use Rattle.luo_model.specs.declared.table.Fill.{Fill}
use Rattle.luo_source.specs.Plain.Source.{Source}
use Rattle.luo_meaning.specs.Entries.{IsEntryText, IsFirstOver}
use Rattle.luo_answer.specs.declared.status.Status.TheVariants.{Overflow}
use Rattle.luo_answer.specs.Answer.{Answer, Refusal}
use Rattle.luo_answer.specs.Lines.{line}

-- of the counts and totals up to a last size, the first that overflows is named: `overflow:
-- count of t.0 at size 30`
abbrev pub OverflowRefusalOf : Source → Fill → ℕ → Answer → Type 0
OverflowRefusalOf source fill last answer =
    (entry : Entry) × (n : ℕ) × (text : List ℕ) × IsFirstOver source last fill entry n
    × IsEntryText source entry text
    × (answer ≡ Refusal Overflow
    (line (codes "overflow: " ++ text ++ codes " at size " ++ decimal n)))
