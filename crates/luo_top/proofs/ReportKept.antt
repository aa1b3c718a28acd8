-- The report by the core form of a source is that of the source as it is written.
use Rattle.std.proofs.Common.{◌≡◌, ◌↔◌, ℕ, ◌+◌, List, [], ◌∷◌, ◌++◌, map, Some, slice_get, refl, sym, ap, ◌∙◌, arith}
use Rattle.std.specs.Prelude.{codes, flat_map, slice_index_or}
use Rattle.luo_equation.specs.Expr as series
use Rattle.luo_equation.specs.Text.{no_procedure}
use Rattle.luo_system.specs.Holding.{IsRight}
use Rattle.luo_report.specs.declared.table.Table.{Table}
use Rattle.luo_report.specs.Report.{line, row_text, name_of, heading, section, universe_text}
use Rattle.luo_model.specs.declared.program.Def.{Def}
use Rattle.luo_model.specs.declared.table.Row.{Row}
use Rattle.luo_model.specs.Program.{Procedure}
use Rattle.luo_model.specs.Invariant.{IsProgram}
use Rattle.luo_source.specs.declared.names.Name.{Name}
use Rattle.luo_source.specs.Plain.Source.{ProcDef, Source}
use Rattle.luo_rules.specs.declared.names.Meaning.TheVariants as mean
use Rattle.luo_rules.specs.Meanings.{meaning, procedure_use, procedure_of}
use Rattle.luo_rules.specs.Settings.{meant}
use Rattle.luo_rules.specs.Definitions.{names_of, measures, definitions, first_node}
use Rattle.luo_rules.specs.TypeBreaches.{measures_breaches}
use Rattle.luo_rules.specs.Nodes.{setting_of}
use Rattle.luo_rules.specs.Whole.{core, proc_core}
use Rattle.luo_rules.proofs.Lists.{nil_left, nil_right, index_get}
use Rattle.luo_rules.proofs.ValueFits.{procedure_meant}
use Rattle.luo_rules.proofs.CleanSource.{Clean, proc_get}
use Rattle.luo_rules.proofs.NodeLists.{def_at, def_get}
use Rattle.luo_meaning.specs.Defined.{DefinesProcedure}
use Rattle.luo_meaning.specs.Rows.{AreRowsOf}
use Rattle.luo_meaning.proofs.Named.{procedure_named, named_procedure}
use Rattle.luo_meaning.proofs.ProceduresKept.{procedure_number}
use Rattle.luo_meaning.proofs.RowsKept.{counts_same, definition_kept, row_kept, total_kept}
use Rattle.luo_meaning.proofs.TablesKept.{heading_kept}
use Rattle.luo_answer.specs.Report.{AreRowsFrom, AreTables, IsReport}
use Rattle.luo_top.specs.AsWritten.Report.{equation_lines, AreNumbersOf, heading_of, AreSections, IsReportOf}

module _ (source : Source) (c : Clean source) (none : measures_breaches (names_of source) 0 (measures source) ≡ []) (is : IsProgram (core source)) where
  -- the heading of procedure f
  heading_same : (f : ℕ) (d : ProcDef) → slice_get source.procs f ≡ Some d → heading (core source) f ≡ heading_of d
  heading_same f d there =
      let p = core source in
      let g = proc_get (setting_of source) 0 source.procs f d there in
      let P : Procedure = proc_core (setting_of source) g.0 d in
      let h = heading_kept source c f d P there g.1 in
      let is_P : slice_index_or p.procs f no_procedure ≡ P = index_get p.procs f P no_procedure g.1 in
      let on : name_of p P.on.name ≡ d.on.text = ap (name_of p) h.1.2 ∙ (ap (λ (v : Def). v.name) (index_get p.defs h.1.0 h.1.1 _ h.1.3) ∙ h.1.4) in
      ap (λ (z : Procedure). line (codes "analyze " ++ z.name ++ codes " on " ++ name_of p z.on.name)) is_P
      ∙ (ap (λ x. line (codes "analyze " ++ x ++ codes " on " ++ name_of p P.on.name)) h.0 ∙ ap (λ x. line (codes "analyze " ++ d.name.text ++ codes " on " ++ x)) on)

  rows_same : (f : ℕ) (d : ProcDef) → slice_get source.procs f ≡ Some d → (n : ℕ) (rows : List Row) → AreRowsFrom (core source) f n rows ↔ AreRowsOf source d n rows
  rows_same f d e n [] = (λ h. h, λ h. h)
  rows_same f d e n (row ∷ rows) =
      let one = row_kept source c none is f d e row in
      let more = rows_same f d e (n + 1) rows in
      (λ h. (h.0, one.0 h.1, more.0 h.2), λ h. (h.0, one.1 h.1, more.1 h.2))

  -- the numbers of the procedures of these names
  abbrev numbers_of : List Name → List ℕ
  numbers_of names = map (λ name. procedure_of (meant (setting_of source) name)) names

  -- tables and their text, for these names
  abbrev Sectioned : ℕ → List Name → List ℕ → Type 0
  Sectioned last names bytes = (tables : List Table) × AreTables (core source) last (numbers_of names) tables × (bytes ≡ flat_map (section (core source)) tables)

  abbrev AreSame : ℕ → List Name → Type 0
  AreSame last names = (bytes : List ℕ) → Sectioned last names bytes ↔ AreSections source last names bytes

  sections_same : (last : ℕ) (names : List Name) → flat_map (λ name. procedure_use (meant (setting_of source) name) name) names ≡ []
      → (bytes : List ℕ) → Sectioned last names bytes ↔ AreSections source last names bytes
  sections_same last [] e bytes = (λ h. empty_text h.0 h.1 h.2, λ h. ([], tt, h))
    where
      empty_text : (tables : List Table) → AreTables (core source) last [] tables → bytes ≡ flat_map (section (core source)) tables → bytes ≡ []
      empty_text [] h e = e
      empty_text (table ∷ tables) h e = absurd h
  sections_same last (name ∷ names) e bytes =
      let s = setting_of source in
      let g = procedure_meant (meant s name) name (nil_left (procedure_use (meant s name) name) _ e) in
      let p = procedure_named source c name.text g.0 g.1 in
      let number : procedure_of (meant s name) ≡ g.0 = ap procedure_of g.1 in
      let more = sections_same last names (nil_right (procedure_use (meant s name) name) _ e) in
      (λ h. forth g.0 p.0 p.1 p.2 number more h.0 h.1 h.2, λ h. backwards g.0 number g.1 more h)
    where
      f : ℕ
      f = procedure_of (meant (setting_of source) name)

      fs : List ℕ
      fs = numbers_of names

      forth : (g : ℕ) (d : ProcDef) → slice_get source.procs g ≡ Some d → DefinesProcedure source name.text d → f ≡ g → AreSame last names
          → (tables : List Table) → AreTables (core source) last (f ∷ fs) tables → bytes ≡ flat_map (section (core source)) tables → AreSections source last (name ∷ names) bytes
      forth g d there named number more [] h e = absurd h
      forth g d there named number more (table ∷ tables) ((callee, (long, right)), others) e =
          let there' : slice_get source.procs f ≡ Some d = ap (slice_get source.procs) number ∙ there in
          let rest = flat_map (section (core source)) tables in
          let head : heading (core source) table.callee ≡ heading_of d = ap (heading (core source)) callee ∙ heading_same f d there' in (
            d,
            table.rows,
            rest,
            named,
            long,
            (rows_same f d there' 0 table.rows).0 right,
            (more rest).0 (tables, others, refl),
            e ∙ ap (λ x. x ++ flat_map row_text table.rows ++ rest) head,
          )

      backwards : (g : ℕ) → f ≡ g → meaning (names_of source) name.text ≡ Some (mean.Procedure g) → AreSame last names
          → AreSections source last (name ∷ names) bytes → Sectioned last (name ∷ names) bytes
      backwards g number means more h =
          let q = named_procedure source c name.text h.0 h.3 in
          let same : q.0 ≡ f = procedure_number q.0 g (sym q.2 ∙ means) ∙ sym number in
          let there : slice_get source.procs f ≡ Some h.0 = ap (slice_get source.procs) (sym same) ∙ q.1 in
          let r = (more h.2).1 h.6 in (
            record { callee = f; rows = h.1 } ∷ r.0,
            ((refl, (h.4, (rows_same f h.0 there 0 h.1).1 h.5)), r.1),
            h.7 ∙ (ap (λ x. x ++ flat_map row_text h.1 ++ h.2) (sym (heading_same f h.0 there)) ∙ ap (λ x. heading (core source) f ++ flat_map row_text h.1 ++ x) r.2),
          )

  -- the numbers of a right table are those of the source
  numbers_same : (t : series.Table) → ((n : ℕ) → IsRight (core source) n t) → AreNumbersOf source t
  numbers_same t right = record {
    counts = λ i d e n.
        let there = def_get (names_of source) (definitions source) 0 (definitions source) i d e in
        let k = (right n).counts i (def_at (names_of source) (definitions source) (0 + first_node (definitions source) i) d) there n (omega arith) in
        (k.0, counts_same _ _ k.0 (λ s. let m = definition_kept source c i _ d.name there refl s in (λ h. (m.0 h.0, h.1, h.2), λ h. (m.1 h.0, h.1, h.2))) k.1, k.2);
    totals = λ f d e n.
        let g = proc_get (setting_of source) 0 source.procs f d e in
        let k = (right n).totals f (proc_core (setting_of source) g.0 d) g.1 n (omega arith) in
        (k.0, total_kept source c none is f d e (proc_core (setting_of source) g.0 d) g.1 n k.0 k.1, k.2);
  }

  pub report_kept : (last : ℕ) (bytes : List ℕ) → IsReport (core source) last bytes ↔ IsReportOf source last bytes
  report_kept last bytes = (
    λ h.
        let (tables, right, e) = h.1 in
        let text = flat_map (section (core source)) tables in
        ((h.0.0, numbers_same h.0.0 h.0.1.right, h.0.1), (text, (sections_same last source.analyses c.analyses text).0 (tables, right, refl), e)),
    λ h.
        let (sections, right, e) = h.1 in
        let r = (sections_same last source.analyses c.analyses sections).1 right in
        ((h.0.0, h.0.2), (r.0, r.1, e ∙ ap (λ x. universe_text source.universe ++ equation_lines source ++ x) r.2)),
  )
