-- The steps from a source on, by what it means as it is written. Its core form alone tells which
-- rule of well-foundedness is broken first.
use Rattle.std.specs.Prelude.{◌≡◌, ◌<◌, ◌≤◌, ⊤, ℕ, List}
use Rattle.luo_finite.specs.Steps.{◌or_else◌}
use Rattle.luo_num.specs.declared.TheConstants.{MAX}
use Rattle.luo_num.specs.declared.limits.TheConstants.{WALK_LIMIT}
use Rattle.luo_model.specs.declared.table.Fill.TheVariants.{All, Counts}
use Rattle.luo_scan.specs.declared.token.Token.{Token}
use Rattle.luo_source.specs.Plain.Source.{Source}
use Rattle.luo_rules.specs.declared.error.CountLimit.TheVariants.{Walks}
use Rattle.luo_rules.specs.declared.rule.Breach.{Breach}
use Rattle.luo_rules.specs.Whole.{core}
use Rattle.luo_meaning.specs.Broken.{IsFirstBrokenIn, BreaksNothingIn}
use Rattle.luo_meaning.specs.Over.{HasCount, HasOver}
use Rattle.luo_meaning.specs.Walks.{ProcsWalk}
use Rattle.luo_answer.specs.declared.status.Status.TheVariants.{Refused, Limit}
use Rattle.luo_answer.specs.Answer.{Answer, Refusal}
use Rattle.luo_answer.specs.Step.{Step, ◌or_makes◌, ◌and_then◌, makes}
use Rattle.luo_answer.specs.Steps.{founded, sized}
use Rattle.luo_answer.specs.Told.{Told}
use Rattle.luo_top.specs.AsWritten.Overflows.{OverflowRefusalOf}
use Rattle.luo_top.specs.AsWritten.Report.{IsReportOf}
use Rattle.luo_top.specs.Refusals.{LimitRefusal, byte_of_token, limit_line, rule_line}
use Rattle.luo_top.specs.Steps.{text_of, tokens_of, source_of}

-- the first breach of a rule is named, with the first byte of its token
abbrev pub RuleRefusalOf : List ℕ → List Token → Source → Answer → Type 0
RuleRefusalOf text tokens source answer =
    (b : Breach) × IsFirstBrokenIn source b
    × (answer ≡ Refusal Refused (rule_line b.rule (byte_of_token text tokens b.token) b.names))

-- more walks over multisets and powersets than the limit, where no rule is broken
abbrev pub WalksRefusalOf : Source → Answer → Type 0
WalksRefusalOf source answer =
    BreaksNothingIn source × ((n : ℕ) × ProcsWalk source source.procs n × (WALK_LIMIT < n))
    × (answer ≡ Refusal Limit (limit_line Walks))

-- in this order: the first limit that is passed, the first breach of a rule, the limit on walks
abbrev pub SourceRefusal : List ℕ → List Token → Source → Answer → Type 0
SourceRefusal text tokens source =
    LimitRefusal source or_else RuleRefusalOf text tokens source or_else WalksRefusalOf source

-- a limit or a breach, and else the source itself
abbrev pub sound : List ℕ → List Token → Source → Step Source
sound text tokens source = SourceRefusal text tokens source or_makes λ it. it ≡ source

-- the source of a file, where it passes no limit and breaks no rule
abbrev pub sound_source : List ℕ → Told → Step Source
sound_source file told =
    text_of file told and_then λ text. tokens_of text and_then λ tokens. source_of text tokens
    and_then sound text tokens

-- the first rule of well-foundedness that is broken, and else the source is founded: both of its
-- core form
abbrev pub founded_source : Source → Step ⊤
founded_source source = founded (core source)

-- some count or total up to size n is too large, and the first one is named
abbrev pub OverflowOf : Source → ℕ → Answer → Type 0
OverflowOf source n = OverflowRefusalOf source All n

-- a number that is too large, and else no count or total up to size n is
abbrev pub numbers : Source → ℕ → Step ⊤
numbers source n = OverflowOf source n or_makes λ _. HasOver source MAX n → ⊥

-- some construct has more structures of a size up to `last` than `most`
abbrev pub HasCountOver : Source → ℕ → ℕ → Type 0
HasCountOver source most last = (n : ℕ) × (v : ℕ) × (n ≤ last) × (most < v) × HasCount source n v

-- some count up to size n is too large, and the first one is named
abbrev pub CountOverflowOf : Source → ℕ → Answer → Type 0
CountOverflowOf source n = OverflowRefusalOf source Counts n

-- a count that is too large, and else none up to size n is
abbrev pub counts : Source → ℕ → Step ⊤
counts source n = CountOverflowOf source n or_makes λ _. HasCountOver source MAX n → ⊥

-- the universe, the equations and the rows of the analyze lines
abbrev pub report_of : Source → ℕ → Step (List ℕ)
report_of source n = makes (IsReportOf source n)

-- the report of the source of a file for the sizes up to n
abbrev pub analyse_source : List ℕ → ℕ → Told → Step (List ℕ)
analyse_source file n told =
    sound_source file told and_then λ source. founded_source source and_then λ _. sized n
    and_then λ size. numbers source size and_then λ _. report_of source size
