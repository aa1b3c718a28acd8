-- `list FILE TYPE N START COUNT` from a source on, by what it means as it is written.
use Rattle.std.specs.Prelude.{◌≡◌, ℕ, List}
use Rattle.luo_finite.specs.Listing.{In, Lists, Pairwise}
use Rattle.luo_model.specs.Order.{IsBefore}
use Rattle.luo_model.specs.Tree.{Tree}
use Rattle.luo_source.specs.declared.names.Name.{Name}
use Rattle.luo_source.specs.Plain.Source.{Source}
use Rattle.luo_source.specs.Plain.Types.{TypeDef, Named}
use Rattle.luo_meaning.specs.Rows.{IsStructureOf}
use Rattle.luo_answer.specs.declared.status.Status.TheVariants.{Refused}
use Rattle.luo_answer.specs.Commands.List.{counted, lines_from}
use Rattle.luo_answer.specs.Step.{Step, ◌or_makes◌, ◌and_then◌, RefusedWhere, makes}
use Rattle.luo_answer.specs.Steps.{list_sized}
use Rattle.luo_answer.specs.Told.{Told}
use Rattle.luo_answer.specs.WordRefusals.{unknown_line}
use Rattle.luo_top.specs.AsWritten.Steps.{sound_source, founded_source, counts}

-- `type .., name, .. = ..;` stands in the source, and the name has this text
abbrev pub IsTypeName : Source → List ℕ → Name → Type 0
IsTypeName source text name =
    (d : TypeDef) × In d source.types × In name d.names × (name.text ≡ text)

-- a word that names no type, and else the type of this name
abbrev pub defined_type : Source → List ℕ → Step Name
defined_type source text =
    RefusedWhere ((name : Name) → IsTypeName source text name → ⊥) Refused
    (unknown_line text) or_makes IsTypeName source text

-- the structures of the type of this name of size n, each once and in order
abbrev pub IsOrderedListingOf : Source → Name → ℕ → List Tree → Type 0
IsOrderedListingOf source name n l =
    Lists (IsStructureOf source (Named name) n) l × Pairwise IsBefore l

-- these bytes are the lines of the structures of the type of size n from place `start` on, at most
-- k of them
abbrev pub IsListTextOf : Source → Name → ℕ → ℕ → ℕ → List ℕ → Type 0
IsListTextOf source name n start k bytes =
    (l : List Tree) × IsOrderedListingOf source name n l × (bytes ≡ lines_from start k l)

abbrev pub listed_of : Source → Name → ℕ → ℕ → ℕ → Step (List ℕ)
listed_of source name n start k = makes (IsListTextOf source name n start k)

-- from the type on
abbrev pub list_by : Source → ℕ → ℕ → ℕ → Name → Step (List ℕ)
list_by source n start k name =
    list_sized n and_then λ size. counted k and_then λ count. counts source size
    and_then λ _. listed_of source name size start count

-- the structures of the type of this name of size n from place `start` on, at most k of them
abbrev pub list_source : List ℕ → List ℕ → ℕ → ℕ → ℕ → Told → Step (List ℕ)
list_source file name n start k told =
    sound_source file told and_then λ source. founded_source source
    and_then λ _. defined_type source name and_then list_by source n start k
