-- What holds of every sample.
use Rattle.std.specs.Prelude.{◌≡◌, ℕ, ◌<◌, ◌≤◌, ◌^◌, List, [], length}
use Rattle.luo_num.specs.declared.limits.TheConstants.{TEXT_LIMIT, WALK_LIMIT}
use Rattle.luo_scan.specs.declared.token.Token.{Token}
use Rattle.luo_scan.specs.Lexemes.{lexemes}
use Rattle.luo_scan.specs.Tokens.{Tokens}
use Rattle.luo_model.specs.Founded.{IsFounded}
use Rattle.luo_source.specs.declared.source.Source.{Source}
use Rattle.luo_source.specs.View.{plain_source}
use Rattle.luo_source.specs.Grammar.{Derives}
use Rattle.luo_syntax.specs.Viable.{IsShallow}
use Rattle.luo_rules.specs.Counted.{limits_passed}
use Rattle.luo_rules.specs.Whole.{breaches, core, walk_count}
use Rattle.luo_sample.specs.Number.{Sample}

-- a text that passes no limit and breaks no rule: it has tokens, which open little and derive a
-- source, and that source passes no limit, breaks no rule, and has a well-founded core form with
-- few walks
pub record IsGood (text : List ℕ) : Type 0 where
  pub bytes : length text ≤ TEXT_LIMIT
  pub tokens : List Token
  pub scanned : Tokens text tokens
  pub shallow : IsShallow (lexemes text tokens)
  pub source : Source
  pub derived : Derives text tokens source
  pub within : limits_passed (plain_source source) ≡ []
  pub unbroken : breaches (plain_source source) ≡ []
  pub walks : walk_count (core (plain_source source)) ≤ WALK_LIMIT
  pub founded : IsFounded (core (plain_source source))

-- each sample is such a text
abbrev pub EachIsGood : Type 0
EachIsGood = (number : ℕ) → number < 2 ^ 64 → IsGood (Sample number)
