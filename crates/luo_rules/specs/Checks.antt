-- The answers of a check.
use Rattle.std.specs.Prelude.{◌≡◌, ◌⊎◌, ℕ, ◌≤◌, ◌<◌, List, [], ◌∷◌, Result, Ok, Err}
use Rattle.luo_num.specs.declared.limits.TheConstants.{WALK_LIMIT}
use Rattle.luo_model.specs.Program.{Program}
use Rattle.luo_model.specs.View.{Held}
use Rattle.luo_scan.specs.declared.token.Token.{Token}
use Rattle.luo_scan.specs.Tokens.{Tokens}
use Rattle.luo_source.specs.Plain.Source.{Source}
use Rattle.luo_source.specs.declared.source.Source as declared
use Rattle.luo_source.specs.View.{plain_source}
use Rattle.luo_source.specs.Grammar.{Derives}
use Rattle.luo_rules.specs.declared.rule.Breach.{Breach}
use Rattle.luo_rules.specs.declared.rule.Stop.TheVariants as stop
use Rattle.luo_rules.specs.declared.rule.Stop.{Stop}
use Rattle.luo_rules.specs.declared.error.CountLimit.{CountLimit}
use Rattle.luo_rules.specs.declared.error.CountLimit.TheVariants as count
use Rattle.luo_rules.specs.declared.error.CheckError.{CheckError}
use Rattle.luo_rules.specs.declared.error.CheckError.TheVariants.{Limit, Rule, NoMemory}
use Rattle.luo_rules.specs.Counted.{limits_passed}
use Rattle.luo_rules.specs.Whole.{breaches, IsCore, core, walk_count}

-- the source of a text without lexical fault
pub record IsSource (source : Source) : Type 0 where
  pub text : List ℕ
  pub tokens : List Token
  pub read : declared.Source
  pub scanned : Tokens text tokens
  pub derived : Derives text tokens read
  pub shown : plain_source read ≡ source

-- the first limit that the source passes, in their order
abbrev pub PassesFirst : Source → CountLimit → Type 0
PassesFirst source which = (rest : List CountLimit) × (limits_passed source ≡ which ∷ rest)

-- no limit is passed but perhaps that on walks
abbrev pub IsWithinLimits : Source → Type 0
IsWithinLimits source = limits_passed source ≡ []

-- the first breach of the source in text order
abbrev pub BreaksFirst : Source → Breach → Type 0
BreaksFirst source b = (rest : List Breach) × (breaches source ≡ b ∷ rest)

-- more walks over multisets and powersets than the limit, where nothing else is wrong
abbrev pub WalksTooMuch : Source → Type 0
WalksTooMuch source = (breaches source ≡ []) × (WALK_LIMIT < walk_count (core source))

-- the source is that of this program: no limit is passed and no rule broken
abbrev pub IsChecked : Source → Program → Type 0
IsChecked source p = IsWithinLimits source × IsCore source p × (walk_count p ≤ WALK_LIMIT)

-- why the source is no program: a limit, the first breach, the limit on walks, or memory was
-- refused
abbrev pub IsUnchecked : Source → CheckError → Type 0
IsUnchecked source (Limit count.Walks) = IsWithinLimits source × WalksTooMuch source
IsUnchecked source (Limit which) = PassesFirst source which
IsUnchecked source (Rule rule token names) =
    IsWithinLimits source
    × BreaksFirst source (record { rule = rule; token = token; names = names })
IsUnchecked source NoMemory = Unit {0}

-- the error that a stop gives
abbrev pub error_of : Stop → CheckError
error_of (stop.Breach b) = Rule b.rule b.token b.names
error_of stop.NoMemory = NoMemory

-- the answer is this error, or want of memory
abbrev pub IsRefusal : CheckError → Result Held CheckError → Type 0
IsRefusal e (Ok p) = ⊥
IsRefusal e (Err given) = (given ≡ e) ⊎ (given ≡ NoMemory)

-- the answer is a program, or want of memory
abbrev pub IsProgramAnswer : Result Held CheckError → Type 0
IsProgramAnswer (Ok p) = Unit {0}
IsProgramAnswer (Err given) = given ≡ NoMemory
