-- What an audit refuses by the core form of a source is what it refuses by the source as it is written.
use Rattle.std.proofs.Common.{◌≡◌, ◌↔◌, ℕ, [], refl, sym, ap, ◌∙◌, Some, slice_get}
use Rattle.std.specs.Bool.{⊤}
use Rattle.luo_model.specs.Founded.{IsFounded}
use Rattle.luo_model.specs.Invariant.{IsProgram}
use Rattle.luo_model.specs.Program.{Procedure}
use Rattle.luo_model.specs.Structures.{IsStructure}
use Rattle.luo_model.specs.Tree.{Tree}
use Rattle.luo_founded.proofs.Tabled.{count_exists}
use Rattle.luo_audit.specs.Audit.{CountIs, TotalIs}
use Rattle.luo_source.specs.declared.names.Name.{Name}
use Rattle.luo_source.specs.Plain.Source.{ProcDef, Source}
use Rattle.luo_source.specs.Plain.Types.{Named}
use Rattle.luo_rules.specs.Checks.{IsSource}
use Rattle.luo_rules.specs.Definitions.{names_of, measures}
use Rattle.luo_rules.specs.Meanings.{procedure_use, procedure_of}
use Rattle.luo_rules.specs.Nodes.{setting_of}
use Rattle.luo_rules.specs.Settings.{meant}
use Rattle.luo_rules.specs.TypeBreaches.{measures_breaches}
use Rattle.luo_rules.specs.Whole.{breaches, core, proc_core}
use Rattle.luo_rules.proofs.CleanSource.{Clean, proc_get}
use Rattle.luo_rules.proofs.Lists.{In_get, place_in, get_map, map_get, flat_nil}
use Rattle.luo_rules.proofs.ValueFits.{procedure_meant}
use Rattle.luo_meaning.specs.Charges.{ProcCharges}
use Rattle.luo_meaning.specs.Rows.{IsStructureOf, IsCountOf, IsTotalOf}
use Rattle.luo_meaning.proofs.Named.{procedure_named, named_procedure}
use Rattle.luo_meaning.proofs.RowsKept.{clean_source, measures_none, counts_same, structure_same, row_kept}
use Rattle.luo_answer.specs.declared.status.Status.TheVariants.{Overflow}
use Rattle.luo_answer.specs.Answer.{Answer, Refusal}
use Rattle.luo_answer.specs.Commands.Audit.{HasTooMany, few, IsTotalOver, AuditRefusal, audited}
use Rattle.luo_answer.specs.Names.{name_of_procedure, procedure_name}
use Rattle.luo_answer.specs.Overflows.{audit_line}
use Rattle.luo_answer.proofs.SameSteps.{Match, same_makes}
use Rattle.luo_top.specs.AsWritten.Audit.{IsAnalyzed, HasTooManyOf, few_of, IsTotalOverOf, AuditRefusalOf, audited_of}

module _ (source : Source) (is : IsSource source) (unbroken : breaches source ≡ []) (q : IsProgram (core source)) (founded : IsFounded (core source)) where
  c : Clean source
  c = clean_source source is unbroken

  none : measures_breaches (names_of source) 0 (measures source) ≡ []
  none = measures_none source unbroken

  -- the procedure of an analyze line
  analyzed : (k f : ℕ) → slice_get (core source).analyses k ≡ Some f → (d : ProcDef) × (slice_get source.procs f ≡ Some d) × IsAnalyzed source k d
  analyzed k f e =
      let s = setting_of source in
      let (name, at, same) = map_get (λ (n : Name). procedure_of (meant s n)) source.analyses k f e in
      let (g, means) = procedure_meant (meant s name) name (flat_nil (λ (n : Name). procedure_use (meant s n) n) source.analyses k name c.analyses at) in
      let (d, there, defines) = procedure_named source c name.text g means in
      let number : f ≡ g = same ∙ ap procedure_of means in
      (d, ap (slice_get source.procs) number ∙ there, (name, at, defines))

  analyzed_back : (k : ℕ) (d : ProcDef) → IsAnalyzed source k d → (f : ℕ) × (slice_get source.procs f ≡ Some d) × (slice_get (core source).analyses k ≡ Some f)
  analyzed_back k d (name, at, defines) =
      let s = setting_of source in
      let (f, there, means) = named_procedure source c name.text d defines in
      (f, there, get_map (λ (n : Name). procedure_of (meant s n)) source.analyses k name at ∙ ap (λ o. Some (procedure_of o)) means)

  module _ (f : ℕ) (d : ProcDef) (there : slice_get source.procs f ≡ Some d) where
    same : (P : Procedure) → slice_get (core source).procs f ≡ Some P → (n : ℕ) (t : Tree) → IsStructure (core source) P.on.node n t ↔ IsStructureOf source (Named d.on) n t
    same = structure_same source c none q f d there

    -- the procedure of the core form
    at : (P : Procedure) × (slice_get (core source).procs f ≡ Some P) × (P.name ≡ d.name.text)
    at = let g = proc_get (setting_of source) 0 source.procs f d there in (proc_core (setting_of source) g.0 d, g.1, refl)

    name_same : procedure_name (core source) f ≡ d.name.text
    name_same = ap name_of_procedure at.1 ∙ at.2

    count_of : (n v : ℕ) → CountIs (core source) f n v → IsCountOf source (Named d.on) n v
    count_of n v (P, e, h) = counts_same (IsStructure (core source) P.on.node n) (IsStructureOf source (Named d.on) n) v (same P e n) h

    of_count : (n v : ℕ) → IsCountOf source (Named d.on) n v → CountIs (core source) f n v
    of_count n v h =
        let P = at.0 in
        (P, at.1, counts_same (IsStructureOf source (Named d.on) n) (IsStructure (core source) P.on.node n) v (λ t. ((same P at.1 n t).1, (same P at.1 n t).0)) h)

    total_of : (n t : ℕ) → TotalIs (core source) f n t → IsTotalOf source (Named d.on) (ProcCharges source d.name.text) n t
    total_of n t (P, e, h) =
        let v = count_exists (core source) q founded P.on.node n in
        ((row_kept source c none q f d there (record { n = n; count = v.0; total = t })).0 (P, e, v.1, h)).1

    of_total : (n t : ℕ) → IsTotalOf source (Named d.on) (ProcCharges source d.name.text) n t → TotalIs (core source) f n t
    of_total n t h =
        let v = count_exists (core source) q founded at.0.on.node n in
        let row = (row_kept source c none q f d there (record { n = n; count = v.0; total = t })).1 (count_of n v.0 (at.0, at.1, v.1), h) in
        (row.0, row.1, row.3)

  module _ (last : ℕ) where
    too_many : HasTooMany (core source) last → HasTooManyOf source last
    too_many (f, n, v, there, within, count, over) =
        let (k, at) = place_in f (core source).analyses there in
        let (d, is_d, line) = analyzed k f at in
        (k, d, n, v, line, within, count_of f d is_d n v count, over)

    too_many_back : HasTooManyOf source last → HasTooMany (core source) last
    too_many_back (k, d, n, v, line, within, count, over) =
        let (f, is_d, at) = analyzed_back k d line in
        (f, n, v, In_get (core source).analyses k f at, within, of_count f d is_d n v count, over)

    pub few_same : Match (λ _ _. ⊤) (few (core source) last) (few_of source last)
    few_same = same_makes (λ _ _. ⊤) _ _ _ _ (λ a. (λ h. (too_many h.0, h.1), λ h. (too_many_back h.0, h.1))) (λ _ _ h. (tt, h, tt)) (λ _ _ h. (tt, h, tt))

    over_of : (k f n : ℕ) → IsTotalOver (core source) k f n → (d : ProcDef) × (slice_get source.procs f ≡ Some d) × IsTotalOverOf source k d n
    over_of k f n (at, (t, total, over)) = let (d, is_d, line) = analyzed k f at in (d, is_d, (line, (t, total_of f d is_d n t total, over)))

    of_over : (k : ℕ) (d : ProcDef) (n : ℕ) → IsTotalOverOf source k d n → (f : ℕ) × (slice_get source.procs f ≡ Some d) × IsTotalOver (core source) k f n
    of_over k d n (line, (t, total, over)) = let (f, is_d, at) = analyzed_back k d line in (f, is_d, (at, (t, of_total f d is_d n t total, over)))

    refused : (a : Answer) → AuditRefusal (core source) last a → AuditRefusalOf source last a
    refused a (k, f, n, h, e) =
        let (d, is_d, over) = over_of k f n h.over in (
          k,
          d,
          n,
          record { within = h.within; over = over; first = λ j x m l earlier o. let (g, is_x, over) = of_over j x m o in h.first j g m l earlier over },
          e ∙ ap (λ name. Refusal Overflow (audit_line name n)) (name_same f d is_d),
        )

    refused_back : (a : Answer) → AuditRefusalOf source last a → AuditRefusal (core source) last a
    refused_back a (k, d, n, h, e) =
        let (f, is_d, over) = of_over k d n h.over in (
          k,
          f,
          n,
          record { within = h.within; over = over; first = λ j g m l earlier o. let (x, is_x, over) = over_of j g m o in h.first j x m l earlier over },
          e ∙ ap (λ name. Refusal Overflow (audit_line name n)) (sym (name_same f d is_d)),
        )

    pub audited_same : Match (λ _ _. ⊤) (audited (core source) last) (audited_of source last)
    audited_same = same_makes (λ _ _. ⊤) _ _ _ _ (λ a. (refused a, refused_back a)) (λ _ _ h. (tt, h, tt)) (λ _ _ h. (tt, h, tt))
