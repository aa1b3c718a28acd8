-- What names mean, and the uses of names.
use Rattle.std.specs.Prelude.{ℕ, List, [], ◌∷◌, ◌++◌, Option, Some, None, is_some, if◌then◌else◌}
use Rattle.std.specs.Str.{bytes_eq}
use Rattle.luo_source.specs.declared.names.Name.{Name}
use Rattle.luo_rules.specs.declared.names.Meaning.{Meaning}
use Rattle.luo_rules.specs.declared.names.Meaning.TheVariants.{Definition, Measure, Procedure}
use Rattle.luo_rules.specs.declared.rule.Breach.{Breach}
use Rattle.luo_rules.specs.declared.rule.Rule.TheVariants.{Y2, Y3}
use Rattle.luo_rules.specs.Breaches.{broken_at}

-- the meaning of a name: that of its first definition
abbrev pub meaning : List (List ℕ × Meaning) → List ℕ → Option Meaning
meaning [] text = None
meaning (first ∷ rest) text = if bytes_eq first.0 text then Some first.1 else meaning rest text

-- the names with one more, unless it has a meaning already
abbrev pub with_name : List (List ℕ × Meaning) → List ℕ × Meaning → List (List ℕ × Meaning)
with_name names more = if is_some (meaning names more.0) then names else names ++ more ∷ []

-- a name that is used as a type, by its meaning
abbrev pub type_use : Option Meaning → Name → List Breach
type_use None name = broken_at Y2 name
type_use (Some (Definition i)) name = []
type_use (Some (Measure number value)) name = broken_at Y3 name
type_use (Some (Procedure f)) name = broken_at Y3 name

-- a name that is used as a measure, by its meaning
abbrev pub measure_use : Option Meaning → Name → List Breach
measure_use None name = broken_at Y2 name
measure_use (Some (Definition i)) name = broken_at Y3 name
measure_use (Some (Measure number value)) name = []
measure_use (Some (Procedure f)) name = broken_at Y3 name

-- a name that is used as a procedure, by its meaning
abbrev pub procedure_use : Option Meaning → Name → List Breach
procedure_use None name = broken_at Y2 name
procedure_use (Some (Definition i)) name = broken_at Y3 name
procedure_use (Some (Measure number value)) name = broken_at Y3 name
procedure_use (Some (Procedure f)) name = []

-- the value of a measure
abbrev pub value_of : Option Meaning → ℕ
value_of (Some (Measure number value)) = value
value_of _ = 0

-- the number of a procedure
abbrev pub procedure_of : Option Meaning → ℕ
procedure_of (Some (Procedure f)) = f
procedure_of _ = 0
