-- The breaches that a check goes through, and what is broken.
use Rattle.std.specs.Prelude.{◌≡◌, ◌⊎◌, ◌<◌, ◌≤◌, []}
use Rattle.luo_finite.specs.Listing.{In}
use Rattle.luo_source.specs.Plain.Source.{Source}
use Rattle.luo_rules.specs.declared.rule.Breach.{Breach}
use Rattle.luo_rules.specs.declared.error.CheckError.{CheckError}
use Rattle.luo_rules.specs.declared.error.CheckError.TheVariants.{Limit, Rule, NoMemory}
use Rattle.luo_rules.specs.Whole.{breaches}
use Rattle.luo_rules.specs.Checks.{IsSource, BreaksFirst}
use Rattle.luo_rules.specs.Broken.{IsBroken}

-- whatever is listed is broken
abbrev pub ListedIsBroken : Type 0
ListedIsBroken = (source : Source) (b : Breach) → In b (breaches source) → IsBroken source b

-- whatever is broken is listed, or comes after something that is
abbrev pub BrokenIsListed : Type 0
BrokenIsListed =
    (source : Source) (b : Breach) → IsSource source → IsBroken source b
    → In b (breaches source) ⊎ ((a : Breach) × In a (breaches source) × (a.token < b.token))

-- the source breaks no rule
abbrev pub BreaksNothing : Source → Type 0
BreaksNothing source = (b : Breach) → IsBroken source b → ⊥

-- this is broken, and nothing is broken before it
abbrev pub IsFirstBroken : Source → Breach → Type 0
IsFirstBroken source first =
    IsBroken source first × ((b : Breach) → IsBroken source b → first.token ≤ b.token)

-- the breach that an error tells, if any, is the first that is broken
abbrev pub TellsFirstBroken : Source → CheckError → Type 0
TellsFirstBroken source (Rule rule token names) =
    IsFirstBroken source (record { rule = rule; token = token; names = names })
TellsFirstBroken source (Limit which) = Unit {0}
TellsFirstBroken source NoMemory = Unit {0}

-- the first breach of the list is the first that is broken
abbrev pub FirstBreachIsFirstBroken : Type 0
FirstBreachIsFirstBroken =
    (source : Source) (first : Breach) → IsSource source → BreaksFirst source first
    → IsFirstBroken source first

-- the first that is broken is the first breach of the list
abbrev pub FirstBrokenIsFirstBreach : Type 0
FirstBrokenIsFirstBreach =
    (source : Source) (first : Breach) → IsSource source → IsFirstBroken source first
    → BreaksFirst source first

-- a source without breaches breaks nothing
abbrev pub NoBreachBreaksNothing : Type 0
NoBreachBreaksNothing =
    (source : Source) → IsSource source → breaches source ≡ [] → BreaksNothing source

-- a source that breaks nothing has no breaches
abbrev pub NothingBrokenIsNoBreach : Type 0
NothingBrokenIsNoBreach = (source : Source) → BreaksNothing source → breaches source ≡ []
