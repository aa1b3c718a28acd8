-- The summary by the core form of a source is that of the source as it is written.
use Rattle.std.proofs.Common.{◌≡◌, ◌↔◌, ℕ, List, [], ◌∷◌, ◌++◌, map, length, Some, slice_get, refl, sym, ap, ◌∙◌}
use Rattle.std.specs.Prelude.{codes, flat_map}
use Rattle.luo_model.specs.declared.table.Row.{Row}
use Rattle.luo_model.specs.Invariant.{IsProgram}
use Rattle.luo_report.specs.Report.{row_text}
use Rattle.luo_source.specs.declared.names.Name.{Name}
use Rattle.luo_source.specs.Plain.Source.{ProcDef, Source}
use Rattle.luo_rules.specs.declared.names.Meaning.TheVariants as mean
use Rattle.luo_rules.specs.Meanings.{meaning, procedure_use, procedure_of}
use Rattle.luo_rules.specs.Settings.{meant}
use Rattle.luo_rules.specs.Definitions.{names_of, measures}
use Rattle.luo_rules.specs.TypeBreaches.{measures_breaches}
use Rattle.luo_rules.specs.Nodes.{setting_of}
use Rattle.luo_rules.specs.Whole.{core}
use Rattle.luo_rules.proofs.Lists.{nil_left, nil_right}
use Rattle.luo_rules.proofs.ValueFits.{procedure_meant}
use Rattle.luo_rules.proofs.CleanSource.{Clean, proc_get}
use Rattle.luo_meaning.specs.Defined.{DefinesProcedure}
use Rattle.luo_meaning.proofs.Named.{procedure_named, named_procedure}
use Rattle.luo_meaning.proofs.ProceduresKept.{procedure_number}
use Rattle.luo_meaning.proofs.RowsKept.{row_kept}
use Rattle.luo_sample.specs.Number.{Sample}
use Rattle.luo_answer.specs.Commands.Sample.{AreRowsAt, row_lines, head_text, IsSummary}
use Rattle.luo_answer.specs.Names.{name_of_procedure, procedure_name}
use Rattle.luo_top.specs.AsWritten.Sample.{AreLinesOf, IsSummaryOf}

module _ (source : Source) (c : Clean source) (none : measures_breaches (names_of source) 0 (measures source) ≡ []) (is : IsProgram (core source)) (n : ℕ) where
  -- the name of procedure f
  name_same : (f : ℕ) (d : ProcDef) → slice_get source.procs f ≡ Some d → procedure_name (core source) f ≡ d.name.text
  name_same f d there = ap name_of_procedure (proc_get (setting_of source) 0 source.procs f d there).1

  -- the numbers of the procedures of these names
  abbrev numbers_of : List Name → List ℕ
  numbers_of names = map (λ name. procedure_of (meant (setting_of source) name)) names

  -- rows and their lines, for these names
  abbrev Lined : List Name → List ℕ → Type 0
  Lined names bytes = (rows : List Row) × AreRowsAt (core source) n (numbers_of names) rows × (bytes ≡ row_lines (core source) (numbers_of names) rows)

  abbrev AreSame : List Name → Type 0
  AreSame names = (bytes : List ℕ) → Lined names bytes ↔ AreLinesOf source n names bytes

  lines_same : (names : List Name) → flat_map (λ name. procedure_use (meant (setting_of source) name) name) names ≡ [] → (bytes : List ℕ) → Lined names bytes ↔ AreLinesOf source n names bytes
  lines_same [] e bytes = (λ h. empty_text h.0 h.1 h.2, λ h. ([], tt, h))
    where
      empty_text : (rows : List Row) → AreRowsAt (core source) n [] rows → bytes ≡ row_lines (core source) [] rows → bytes ≡ []
      empty_text [] h e = e
      empty_text (row ∷ rows) h e = absurd h
  lines_same (name ∷ names) e bytes =
      let s = setting_of source in
      let g = procedure_meant (meant s name) name (nil_left (procedure_use (meant s name) name) _ e) in
      let p = procedure_named source c name.text g.0 g.1 in
      let number : procedure_of (meant s name) ≡ g.0 = ap procedure_of g.1 in
      let more = lines_same names (nil_right (procedure_use (meant s name) name) _ e) in
      (λ h. forth g.0 p.0 p.1 p.2 number more h.0 h.1 h.2, λ h. backwards g.0 number g.1 more h)
    where
      f : ℕ
      f = procedure_of (meant (setting_of source) name)

      fs : List ℕ
      fs = numbers_of names

      forth : (g : ℕ) (d : ProcDef) → slice_get source.procs g ≡ Some d → DefinesProcedure source name.text d → f ≡ g → AreSame names
          → (rows : List Row) → AreRowsAt (core source) n (f ∷ fs) rows → bytes ≡ row_lines (core source) (f ∷ fs) rows → AreLinesOf source n (name ∷ names) bytes
      forth g d there named number more [] h e = absurd h
      forth g d there named number more (row ∷ rows) h e =
          let there' : slice_get source.procs f ≡ Some d = ap (slice_get source.procs) number ∙ there in
          let rest : List ℕ = row_lines (core source) fs rows in (
            d,
            row,
            rest,
            named,
            h.0,
            (row_kept source c none is f d there' row).0 h.1,
            (more rest).0 (rows, h.2, refl),
            e ∙ ap (λ x. x ++ codes " " ++ row_text row ++ rest) (name_same f d there'),
          )

      backwards : (g : ℕ) → f ≡ g → meaning (names_of source) name.text ≡ Some (mean.Procedure g) → AreSame names → AreLinesOf source n (name ∷ names) bytes → Lined (name ∷ names) bytes
      backwards g number means more h =
          let q = named_procedure source c name.text h.0 h.3 in
          let same : q.0 ≡ f = procedure_number q.0 g (sym q.2 ∙ means) ∙ sym number in
          let there : slice_get source.procs f ≡ Some h.0 = ap (slice_get source.procs) (sym same) ∙ q.1 in
          let r = (more h.2).1 h.6 in (
            h.1 ∷ r.0,
            (h.4, (row_kept source c none is f h.0 there h.1).1 h.5, r.1),
            h.7 ∙ (ap (λ x. x ++ codes " " ++ row_text h.1 ++ h.2) (sym (name_same f h.0 there)) ∙ ap (λ x. procedure_name (core source) f ++ codes " " ++ row_text h.1 ++ x) r.2),
          )

  pub summary_kept : (number : ℕ) (bytes : List ℕ) → IsSummary number (length (Sample number)) (core source) n bytes ↔ IsSummaryOf number source n bytes
  summary_kept number bytes = (
    λ h.
        let text = row_lines (core source) (core source).analyses h.0 in
        (text, (lines_same source.analyses c.analyses text).0 (h.0, h.1, refl), h.2),
    λ h.
        let r = (lines_same source.analyses c.analyses h.0).1 h.1 in
        let head : List ℕ = head_text number source.universe (length (Sample number)) in
        (r.0, r.1, h.2 ∙ ap (λ x. head ++ x) r.2),
  )
