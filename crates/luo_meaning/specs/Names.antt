-- All that a source defines, in order: what names mean, read off a list.
use Rattle.std.specs.Prelude.{◌≡◌, ℕ, suc, List, [], ◌∷◌, ◌++◌}
use Rattle.luo_source.specs.declared.names.Name.{Name}
use Rattle.luo_source.specs.Plain.Source.{ProcDef, Source}
use Rattle.luo_rules.specs.declared.names.Meaning.{Meaning}
use Rattle.luo_rules.specs.declared.names.Meaning.TheVariants as mean
use Rattle.luo_rules.specs.Meanings.{meaning}
use Rattle.luo_rules.specs.Definitions.{Definition, definitions, measures, names_of}

-- each name of a type with its number, from number i on
abbrev pub types_from : ℕ → List Definition → List (List ℕ × Meaning)
types_from i [] = []
types_from i (d ∷ ds) = (d.name.text, mean.Definition i) ∷ types_from (suc i) ds

-- each name of a measure with its number and its value
abbrev pub measures_from : ℕ → List (Name × ℕ) → List (List ℕ × Meaning)
measures_from k [] = []
measures_from k (m ∷ ms) = (m.0.text, mean.Measure k m.1) ∷ measures_from (suc k) ms

-- each procedure with its number
abbrev pub procedures_from : ℕ → List ProcDef → List (List ℕ × Meaning)
procedures_from f [] = []
procedures_from f (p ∷ ps) = (p.name.text, mean.Procedure f) ∷ procedures_from (suc f) ps

-- types, measures and procedures, each kind numbered from 0
abbrev pub entries : Source → List (List ℕ × Meaning)
entries source =
    types_from 0 (definitions source) ++ measures_from 0 (measures source)
    ++ procedures_from 0 source.procs

-- a name means what the first entry of this name says, and nothing where there is none
abbrev pub NamesMeanFirstEntries : Type 0
NamesMeanFirstEntries =
    (source : Source) (text : List ℕ)
    → meaning (names_of source) text ≡ meaning (entries source) text
