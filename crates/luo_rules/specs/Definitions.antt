-- The definitions of a source, one for each name, and what all its names mean.
use Rattle.std.specs.Prelude.{ℕ, suc, List, [], ◌∷◌, map, flat_map, sum_by, take, Option, Some, None, slice_get}
use Rattle.luo_source.specs.declared.names.Name.{Name}
use Rattle.luo_source.specs.Plain.Types.{TypeExpr, Named, TypeDef}
use Rattle.luo_source.specs.declared.types.MeasureDef.{MeasureDef}
use Rattle.luo_source.specs.Plain.Source.{ProcDef, Source}
use Rattle.luo_rules.specs.declared.names.Meaning.{Meaning}
use Rattle.luo_rules.specs.declared.names.Meaning.TheVariants as mean
use Rattle.luo_rules.specs.Meanings.{meaning, with_name}
use Rattle.luo_rules.specs.Counted.{own_nodes}

-- a definition of one name, with its copy of the right side
pub record Definition : Type 0 where
  pub name : Name
  pub right : TypeExpr

abbrev pub copies : TypeDef → List Definition
copies d = map (λ name. record { name = name; right = d.body }) d.names

abbrev pub definitions : Source → List Definition
definitions source = flat_map copies source.types

-- a measure of one name, with its value
abbrev pub values : MeasureDef → List (Name × ℕ)
values m = map (λ name. (name, m.value)) m.names

abbrev pub measures : Source → List (Name × ℕ)
measures source = flat_map values source.measures

-- names with their meanings, after others
abbrev pub with_definitions : List (List ℕ × Meaning) → ℕ → List Definition
    → List (List ℕ × Meaning)
with_definitions names i [] = names
with_definitions names i (d ∷ ds) =
    with_definitions (with_name names (d.name.text, mean.Definition i)) (suc i) ds

abbrev pub with_measures : List (List ℕ × Meaning) → ℕ → List (Name × ℕ) → List (List ℕ × Meaning)
with_measures names k [] = names
with_measures names k (m ∷ ms) =
    with_measures (with_name names (m.0.text, mean.Measure k m.1)) (suc k) ms

abbrev pub with_procedures : List (List ℕ × Meaning) → ℕ → List ProcDef → List (List ℕ × Meaning)
with_procedures names f [] = names
with_procedures names f (p ∷ ps) =
    with_procedures (with_name names (p.name.text, mean.Procedure f)) (suc f) ps

-- all names of a source: types, measures and procedures, in text order
abbrev pub names_of : Source → List (List ℕ × Meaning)
names_of source =
    with_procedures
    (with_measures (with_definitions [] 0 (definitions source)) 0 (measures source)) 0 source.procs

-- what follows from an element, or where there is none something else
abbrev pub or_by : {A B : Type 0} → Option A → (A → B) → B → B
or_by None f other = other
or_by (Some x) f other = f x

abbrev pub definition_meant : Option Meaning → Option ℕ
definition_meant (Some (mean.Definition i)) = Some i
definition_meant _ = None

-- the definition that a right side names, where it is a name
abbrev pub named_by : List (List ℕ × Meaning) → TypeExpr → Option ℕ
named_by names (Named name) = definition_meant (meaning names name.text)
named_by names _ = None

abbrev pub named_at : List (List ℕ × Meaning) → Option Definition → Option ℕ
named_at names None = None
named_at names (Some d) = named_by names d.right

-- the definition that definition i names, where its right side is a name
abbrev pub next : List (List ℕ × Meaning) → List Definition → ℕ → Option ℕ
next names defs i = named_at names (slice_get defs i)

-- the first node of definition i
abbrev pub first_node : List Definition → ℕ → ℕ
first_node defs i = sum_by (λ d. own_nodes d.right) (take i defs)

abbrev pub no_name : Name
no_name = record { text = []; at = 0 }

-- the name of definition i
abbrev pub name_at : Option Definition → List ℕ
name_at None = []
name_at (Some d) = d.name.text

abbrev pub name_of : List Definition → ℕ → List ℕ
name_of defs i = name_at (slice_get defs i)
