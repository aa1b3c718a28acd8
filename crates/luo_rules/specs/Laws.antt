-- What holds of all sources.
use Rattle.std.specs.Prelude.{◌≡◌, ◌↔◌, ℕ, List, [], ◌≤◌, Some}
use Rattle.luo_model.specs.Program.{Program}
use Rattle.luo_model.specs.Invariant.{IsProgram}
use Rattle.luo_source.specs.Plain.Source.{Source}
use Rattle.luo_rules.specs.declared.error.CheckError.{CheckError}
use Rattle.luo_rules.specs.declared.error.CheckError.TheVariants.{NoMemory}
use Rattle.luo_rules.specs.Checks.{IsChecked, IsUnchecked, IsSource, BreaksFirst}
use Rattle.luo_rules.specs.Whole.{IsCore, breaches}
use Rattle.luo_finite.specs.Listing.{In}
use Rattle.luo_rules.specs.declared.rule.Breach.{Breach}
use Rattle.luo_rules.specs.Rising.{Rises}
use Rattle.luo_rules.specs.declared.names.Meaning.{Meaning}
use Rattle.luo_rules.specs.Definitions.{Definition, first_node}
use Rattle.luo_rules.specs.Circles.{EndsAt, IsCircle}
use Rattle.luo_rules.specs.inner.Naming.{circle, node_of}

-- a source has at most one core form
abbrev pub HasOneCore : Type 0
HasOneCore = (source : Source) (p q : Program) → IsCore source p → IsCore source q → p ≡ q

-- a source that breaks no rule has a core form
abbrev pub HasCore : Type 0
HasCore = (source : Source) → breaches source ≡ [] → (p : Program) × IsCore source p

-- the core form of a source within all limits has what holds of every program
abbrev pub CoresArePrograms : Type 0
CoresArePrograms =
    (source : Source) (p : Program) → IsSource source → IsChecked source p → IsProgram p

-- a source has at most one error but for want of memory
abbrev pub HasOneError : Type 0
HasOneError =
    (source : Source) (e f : CheckError) → IsUnchecked source e → IsUnchecked source f
    → (e ≡ NoMemory → ⊥) → (f ≡ NoMemory → ⊥) → e ≡ f

-- a source of a program has no error but for want of memory
abbrev pub ProgramsHaveNoError : Type 0
ProgramsHaveNoError =
    (source : Source) (p : Program) (e : CheckError) → IsChecked source p → IsUnchecked source e
    → e ≡ NoMemory

-- the breaches stand in the order of the text, each at a token of its own
abbrev pub BreachesRise : Type 0
BreachesRise = (source : Source) → IsSource source → Rises (breaches source)

-- no breach stands before the first of the list
abbrev pub FirstBreachIsLeast : Type 0
FirstBreachIsLeast =
    (source : Source) (one other : Breach) → IsSource source → BreaksFirst source one
    → In other (breaches source) → one.token ≤ other.token

-- breaches at one token are the same
abbrev pub BreachesAreSingle : Type 0
BreachesAreSingle =
    (source : Source) (one other : Breach) → IsSource source → In one (breaches source)
    → In other (breaches source) → one.token ≡ other.token → one ≡ other

-- the circle that a check tells of a definition is the one on which it lies, and there is none
-- where none is told
abbrev pub CirclesAreChains : Type 0
CirclesAreChains =
    (names : List (List ℕ × Meaning)) (defs : List Definition) (i : ℕ) (chain : List (List ℕ))
    → (circle names defs i ≡ Some chain) ↔ IsCircle names defs i chain

-- the node of a definition is the first one of the definition at which going from names to what
-- they name ends
abbrev pub NamesLeadToNodes : Type 0
NamesLeadToNodes =
    (names : List (List ℕ × Meaning)) (defs : List Definition) (i j : ℕ)
    → EndsAt names defs i j → node_of names defs i ≡ first_node defs j
