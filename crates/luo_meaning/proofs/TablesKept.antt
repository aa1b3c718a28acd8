-- Tables of analyze lines.
use Rattle.std.proofs.Common.{◌≡◌, ℕ, ◌+◌, ◌↔◌, List, [], ◌∷◌, map, Some, slice_get, sym, ap, ◌∙◌, subst}
use Rattle.std.specs.Prelude.{flat_map}
use Rattle.luo_model.specs.declared.program.Def.{Def}
use Rattle.luo_model.specs.declared.table.Row.{Row}
use Rattle.luo_model.specs.Program.{Procedure}
use Rattle.luo_model.specs.Invariant.{IsProgram}
use Rattle.luo_source.specs.declared.names.Name.{Name}
use Rattle.luo_source.specs.Plain.Source.{ProcDef, Source}
use Rattle.luo_rules.specs.declared.names.Meaning.TheVariants as mean
use Rattle.luo_rules.specs.Meanings.{procedure_use, procedure_of}
use Rattle.luo_rules.specs.Settings.{meant, part_meant}
use Rattle.luo_rules.specs.Definitions.{definitions, names_of, measures, first_node}
use Rattle.luo_rules.specs.TypeBreaches.{measures_breaches}
use Rattle.luo_rules.specs.Nodes.{setting_of}
use Rattle.luo_rules.specs.Whole.{core, proc_core}
use Rattle.luo_rules.proofs.Lists.{some_same, nil_left, nil_right}
use Rattle.luo_rules.proofs.NodeLists.{def_at, def_get}
use Rattle.luo_rules.proofs.ValueFits.{procedure_meant}
use Rattle.luo_rules.proofs.CleanSource.{Clean, clean_proc, proc_get}
use Rattle.luo_meaning.specs.Rows.{AreRowsOf, AreTablesOf}
use Rattle.luo_meaning.specs.Laws.{AreTables, AreRows}
use Rattle.luo_meaning.proofs.NamesMean.{names_mean}
use Rattle.luo_meaning.proofs.Named.{procedure_named, named_procedure}
use Rattle.luo_meaning.proofs.ProceduresKept.{procedure_number}
use Rattle.luo_meaning.proofs.RowsKept.{row_kept}

module _ (source : Source) (c : Clean source) (none : measures_breaches (names_of source) 0 (measures source) ≡ []) (is : IsProgram (core source)) where
  rows_kept : (f : ℕ) (d : ProcDef) → slice_get source.procs f ≡ Some d → (n : ℕ) (rows : List Row) → AreRows (core source) f n rows ↔ AreRowsOf source d n rows
  rows_kept f d e n [] = (λ h. h, λ h. h)
  rows_kept f d e n (row ∷ rows) =
      let one = row_kept source c none is f d e row in
      let more = rows_kept f d e (n + 1) rows in
      (λ h. (h.0, one.0 h.1, more.0 h.2), λ h. (h.0, one.1 h.1, more.1 h.2))

  pub tables_kept : (last : ℕ) (names : List Name) → flat_map (λ name. procedure_use (meant (setting_of source) name) name) names ≡ [] → (tables : List (List Row))
      → AreTables (core source) last (map (λ name. procedure_of (meant (setting_of source) name)) names) tables ↔ AreTablesOf source last names tables
  tables_kept last [] e [] = (λ h. h, λ h. h)
  tables_kept last [] e (rows ∷ tables) = (λ h. h, λ h. h)
  tables_kept last (name ∷ names) e [] = (λ h. h, λ h. h)
  tables_kept last (name ∷ names) e (rows ∷ tables) =
      let s = setting_of source in
      let g = procedure_meant (meant s name) name (nil_left (procedure_use (meant s name) name) _ e) in
      let p = procedure_named source c name.text g.0 g.1 in
      let number : procedure_of (meant s name) ≡ g.0 = ap procedure_of g.1 in
      let more = tables_kept last names (nil_right (procedure_use (meant s name) name) _ e) tables in (
        λ h. ((p.0, p.2, h.0.0, (rows_kept g.0 p.0 p.1 0 rows).0 (subst (λ n. AreRows (core source) n 0 rows) number h.0.1)), more.0 h.1),
        λ h.
            let q = named_procedure source c name.text h.0.0 h.0.1 in
            let same : q.0 ≡ g.0 = procedure_number q.0 g.0 (sym q.2 ∙ g.1) in
            ((h.0.2, subst (λ n. AreRows (core source) n 0 rows) (same ∙ sym number) ((rows_kept q.0 h.0.0 q.1 0 rows).1 h.0.3)), more.1 h.1),
      )

-- a procedure of the core form has its name, and its parameter's part names the definition of the type's name
pub heading_kept : (source : Source) → Clean source → (f : ℕ) (d : ProcDef) (P : Procedure) → slice_get source.procs f ≡ Some d → slice_get (core source).procs f ≡ Some P
    → (P.name ≡ d.name.text) × ((i : ℕ) × (v : Def) × (P.on.name ≡ Some i) × (slice_get (core source).defs i ≡ Some v) × (v.name ≡ d.on.text))
heading_kept source c f d P there e =
    let s = setting_of source in
    let names = names_of source in
    let defs = definitions source in
    let k = clean_proc source c f d there in
    let g = proc_get s 0 source.procs f d there in
    let same : P ≡ proc_core s g.0 d = some_same P (proc_core s g.0 d) (sym e ∙ g.1) in
    let m = names_mean source d.on.text (mean.Definition k.i) k.on in
    let named : P.on.name ≡ Some k.i = ap (λ (z : Procedure). z.on.name) same ∙ ap (λ o. (part_meant s o).name) k.on in
    (ap (λ (z : Procedure). z.name) same, (k.i, def_at names defs (0 + first_node defs k.i) m.0, named, def_get names defs 0 defs k.i m.0 m.1, m.2))
