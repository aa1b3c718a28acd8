-- The refusals of words that name something of a program: a type, a procedure, or a structure by
-- its text; and of numbers of a listing or an audit.
use Rattle.std.specs.Prelude.{ℕ, ◌++◌, List, [], codes, decimal}
use Rattle.luo_num.specs.declared.limits.TheConstants.{STRUCTURE_TEXT_LIMIT, NESTING_LIMIT, LIST_SIZE_LIMIT, COUNT_LIMIT, WORKER_LIMIT, WALKED_LIMIT}
use Rattle.luo_num.specs.Limits.{limit_message}
use Rattle.luo_read.specs.declared.answers.StructError.{StructError}
use Rattle.luo_read.specs.declared.answers.StructError.TheVariants.{Long, S1, Deep, S2, S3, NoMemory}
use Rattle.luo_answer.specs.declared.status.Status.TheVariants as way
use Rattle.luo_answer.specs.Answer.{Answer, Refusal}
use Rattle.luo_answer.specs.Lines.{line, at_byte}

-- the word names nothing of the kind that is asked for
abbrev pub unknown_line : List ℕ → List ℕ
unknown_line word = line (codes "refused: U1: " ++ word)

-- a size past the limit of listings, a number of structures to be listed past its limit, a number
-- of workers that is none of 1 to its limit, and structures to be walked past their limit
abbrev pub list_size_line : List ℕ
list_size_line = line (limit_message (codes "size") LIST_SIZE_LIMIT)

abbrev pub count_line : List ℕ
count_line = line (limit_message (codes "count") COUNT_LIMIT)

abbrev pub workers_line : List ℕ
workers_line = line (limit_message (codes "workers") WORKER_LIMIT)

abbrev pub structures_line : List ℕ
structures_line = line (limit_message (codes "structures") WALKED_LIMIT)

-- the refusal of a text that gives no structure
abbrev pub refusal_of_structure : StructError → Answer
refusal_of_structure (Long length) =
    Refusal way.Limit (line (limit_message (codes "text") STRUCTURE_TEXT_LIMIT))
refusal_of_structure (S1 at) = Refusal way.Refused (line (codes "refused: S1" ++ at_byte at))
refusal_of_structure (Deep at) =
    Refusal way.Limit (line (limit_message (codes "nesting") NESTING_LIMIT ++ at_byte at))
refusal_of_structure S2 = Refusal way.Refused (line (codes "refused: S2"))
refusal_of_structure (S3 size) =
    Refusal way.Refused (line (codes "refused: S3: size " ++ decimal size))
refusal_of_structure NoMemory = Refusal way.NoMemory []

-- the line of a charge that overflows
abbrev pub charge_line : List ℕ
charge_line = line (codes "overflow: charge")
