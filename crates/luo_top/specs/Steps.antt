-- The steps that commands share from a file to its source and its program.
use Rattle.std.specs.Prelude.{◌≡◌, ℕ, List}
use Rattle.luo_finite.specs.Steps.{◌or_else◌}
use Rattle.luo_model.specs.Program.{Program}
use Rattle.luo_num.specs.declared.limits.TheConstants.{TEXT_LIMIT}
use Rattle.luo_scan.specs.declared.token.Token.{Token}
use Rattle.luo_scan.specs.Tokens.{Tokens}
use Rattle.luo_source.specs.declared.source.Source as declared
use Rattle.luo_source.specs.Plain.Source.{Source}
use Rattle.luo_source.specs.View.{plain_source}
use Rattle.luo_source.specs.Grammar.{Derives}
use Rattle.luo_rules.specs.Whole.{IsCore}
use Rattle.luo_answer.specs.Answer.{Answer}
use Rattle.luo_answer.specs.Lines.{bytes_line}
use Rattle.luo_answer.specs.Step.{Step, ◌or_makes◌, ◌and_then◌}
use Rattle.luo_answer.specs.Told.{Told, reading}
use Rattle.luo_top.specs.Refusals.{LexicalRefusal, SyntaxRefusal, LimitRefusal, RuleRefusal, WalksRefusal}

-- the text of a file
abbrev pub text_of : List ℕ → Told → Step (List ℕ)
text_of = reading TEXT_LIMIT bytes_line

-- the first lexical fault, and else the tokens
abbrev pub tokens_of : List ℕ → Step (List Token)
tokens_of text = LexicalRefusal text or_makes Tokens text

-- the source that these tokens derive, as plain data
abbrev pub IsRead : List ℕ → List Token → Source → Type 0
IsRead text tokens source =
    (read : declared.Source) × Derives text tokens read × (plain_source read ≡ source)

-- tokens that are no program or open too much, and else the source
abbrev pub source_of : List ℕ → List Token → Step Source
source_of text tokens = SyntaxRefusal text tokens or_makes IsRead text tokens

-- in this order: the first limit that is passed, the first breach of a rule, the limit on walks
abbrev pub CoreRefusal : List ℕ → List Token → Source → Answer → Type 0
CoreRefusal text tokens source =
    LimitRefusal source or_else RuleRefusal text tokens source or_else WalksRefusal source

-- a limit or a breach, and else the core form
abbrev pub core_of : List ℕ → List Token → Source → Step Program
core_of text tokens source = CoreRefusal text tokens source or_makes IsCore source

-- the source of a file
abbrev pub file_source : List ℕ → Told → Step Source
file_source file told = text_of file told and_then λ text. tokens_of text and_then source_of text

-- the program of a file
abbrev pub file_program : List ℕ → Told → Step Program
file_program file told =
    text_of file told and_then λ text. tokens_of text and_then λ tokens. source_of text tokens
    and_then core_of text tokens
