-- What the names of a source are defined to be.
use Rattle.std.specs.Prelude.{◌≡◌, ℕ, List}
use Rattle.luo_finite.specs.Listing.{In}
use Rattle.luo_source.specs.declared.names.Name.{Name}
use Rattle.luo_source.specs.Plain.Types.{TypeExpr, TypeDef}
use Rattle.luo_source.specs.declared.types.MeasureDef.{MeasureDef}
use Rattle.luo_source.specs.Plain.Source.{ProcDef, Source}

-- the text is that of one of the names
abbrev pub IsNamedIn : List ℕ → List Name → Type 0
IsNamedIn text names = (name : Name) × In name names × (name.text ≡ text)

-- `type .., text, .. = right;` stands in the source
abbrev pub DefinesType : Source → List ℕ → TypeExpr → Type 0
DefinesType source text right =
    (d : TypeDef) × In d source.types × IsNamedIn text d.names × (d.body ≡ right)

-- `measure .., text, .. : value;` stands in the source
abbrev pub DefinesMeasure : Source → List ℕ → ℕ → Type 0
DefinesMeasure source text value =
    (m : MeasureDef) × In m source.measures × IsNamedIn text m.names × (m.value ≡ value)

-- `procedure text ..` stands in the source, and is p
abbrev pub DefinesProcedure : Source → List ℕ → ProcDef → Type 0
DefinesProcedure source text p = In p source.procs × (p.name.text ≡ text)
