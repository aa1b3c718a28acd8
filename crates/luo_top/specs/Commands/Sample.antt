-- `sample NUMBER N`
use Rattle.std.specs.Prelude.{ℕ, List, length}
use Rattle.luo_model.specs.Program.{Program}
use Rattle.luo_sample.specs.Number.{Sample}
use Rattle.luo_answer.specs.Commands.Sample.{sample_of}
use Rattle.luo_answer.specs.Step.{Step, ◌and_then◌}
use Rattle.luo_top.specs.Steps.{tokens_of, source_of, core_of}

-- the program of a text
abbrev pub text_program : List ℕ → Step Program
text_program text =
    tokens_of text and_then λ tokens. source_of text tokens and_then core_of text tokens

-- the program of the sample of a number
abbrev pub sampled : ℕ → Step Program
sampled number = text_program (Sample number)

-- the summary of a sample at size n
abbrev pub sample : ℕ → ℕ → Step (List ℕ)
sample number n = sampled number and_then sample_of number (length (Sample number)) n
