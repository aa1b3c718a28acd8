-- What procedures charge, by number and by name, at each depth of calls.
use Rattle.std.proofs.Common.{◌≡◌, ℕ, zero, suc, ◌↔◌, List, [], ◌∷◌, ◌++◌, Some, slice_get, sym, ap, ◌∙◌, subst}
use Rattle.luo_model.specs.Tree.{Tree}
use Rattle.luo_model.specs.Program.{Procedure}
use Rattle.luo_model.specs.Charges as model
use Rattle.luo_model.specs.Charges.{ChargesWithin, Charges}
use Rattle.luo_source.specs.Plain.Source.{ProcBody, Statements, Value, ProcDef, Source}
use Rattle.luo_rules.specs.declared.names.Meaning.TheVariants as mean
use Rattle.luo_rules.specs.declared.setting.Setting.{Setting}
use Rattle.luo_rules.specs.Meanings.{meaning, type_use}
use Rattle.luo_rules.specs.Settings.{meant, def_node, type_node, part_meant}
use Rattle.luo_rules.specs.ValueBreaches.{value_breaches}
use Rattle.luo_rules.specs.Definitions.{names_of, measures}
use Rattle.luo_rules.specs.TypeBreaches.{measures_breaches}
use Rattle.luo_rules.specs.Nodes.{setting_of}
use Rattle.luo_rules.specs.Whole.{result_breaches, parameter, body_breaches, body_core, proc_core, procs_core, core}
use Rattle.luo_rules.proofs.Lists.{some_same, nil_right}
use Rattle.luo_rules.proofs.CleanSource.{Clean, clean_proc, proc_get}
use Rattle.luo_meaning.specs.Defined.{DefinesMeasure}
use Rattle.luo_meaning.specs.Charges.{BodyCharges, ProcChargesWithin, ProcCharges}
use Rattle.luo_meaning.proofs.Named.{procedure_named, named_procedure, measure_named, named_measure}
use Rattle.luo_meaning.proofs.Steps.{agree_one}
use Rattle.luo_meaning.proofs.StatementsKept.{Keeps, stmts_kept}
use Rattle.luo_meaning.proofs.ValuesKept.{value_kept}

value_of_measure : (j k v w : ℕ) → Some (mean.Measure j v) ≡ Some (mean.Measure k w) → v ≡ w
value_of_measure j k v w e = cc

pub procedure_number : (f g : ℕ) → Some (mean.Procedure f) ≡ Some (mean.Procedure g) → f ≡ g
procedure_number f g e = cc

-- a body in the scope of its parameter
body_kept : (source : Source) (R : ℕ → Tree → ℕ → Type 0) (S : List ℕ → Tree → ℕ → Type 0) (s : Setting) → Keeps source s R S → (p : ProcDef) (body : ProcBody) (n at : ℕ) → body_breaches s p (Some n) body ≡ [] → (t : Tree) (q : ℕ)
    → model.BodyCharges R (body_core s p at body) (t ∷ []) q ↔ BodyCharges source S ((p.param.text, t) ∷ []) body q
body_kept source R S s keeps p (Statements stmts) n at none t q =
    stmts_kept source R S s keeps stmts (parameter s p) ((p.param.text, t) ∷ []) (t ∷ []) (agree_one p.param.text (part_meant s (meant s p.on)) t) at none q
body_kept source R S s keeps p (Value colon result value) n at none t q =
    value_kept source R S s keeps value (parameter s p) ((p.param.text, t) ∷ []) (t ∷ []) (agree_one p.param.text (part_meant s (meant s p.on)) t) at (type_node s result)
    (nil_right (result_breaches s.universe colon p.name ++ type_use (meant s result) result) (value_breaches s (parameter s p) (type_node s result) value) none) q

module _ (source : Source) (c : Clean source) (none : measures_breaches (names_of source) 0 (measures source) ≡ []) where
  pub measures_kept : (text : List ℕ) (k v : ℕ) → meaning (names_of source) text ≡ Some (mean.Measure k v) → (q : ℕ) → (q ≡ v) ↔ DefinesMeasure source text q
  measures_kept text k v e q = (
    λ same. subst (DefinesMeasure source text) (sym same) (measure_named source c text k v e),
    λ is. let m = named_measure source c none text q is in value_of_measure m.0 k q v (sym m.1 ∙ e),
  )

  -- the procedure at a place of the source
  here : (R : ℕ → Tree → ℕ → Type 0) (S : List ℕ → Tree → ℕ → Type 0) → Keeps source (setting_of source) R S → (f : ℕ) (p : ProcDef) → slice_get source.procs f ≡ Some p → (at : ℕ) (t : Tree) (q : ℕ)
      → model.BodyCharges R (body_core (setting_of source) p at p.body) (t ∷ []) q ↔ BodyCharges source S ((p.param.text, t) ∷ []) p.body q
  here R S keeps f p e at t q =
      let s = setting_of source in
      let k = clean_proc source c f p e in
      body_kept source R S s keeps p p.body (def_node s k.i) at k.body t q

  pub within_kept : (depth : ℕ) (text : List ℕ) (f : ℕ) → meaning (names_of source) text ≡ Some (mean.Procedure f) → (t : Tree) (q : ℕ)
      → ChargesWithin (procs_core (setting_of source) 0 source.procs) depth f t q ↔ ProcChargesWithin source depth text t q
  within_kept zero text f e t q = (λ h. h, λ h. h)
  within_kept (suc depth) text f e t q =
      let s = setting_of source in
      let R : ℕ → Tree → ℕ → Type 0 = ChargesWithin (procs_core s 0 source.procs) depth in
      let S : List ℕ → Tree → ℕ → Type 0 = ProcChargesWithin source depth in
      let keeps : Keeps source s R S = record { measures = measures_kept; calls = within_kept depth } in
      let p = procedure_named source c text f e in
      let there = proc_get s 0 source.procs f p.0 p.1 in (
        λ h.
            let same : h.0 ≡ proc_core s there.0 p.0 = some_same h.0 (proc_core s there.0 p.0) (sym h.1 ∙ there.1) in
            (p.0, p.2, (here R S keeps f p.0 p.1 there.0 t q).0 (subst (λ (P : Procedure). model.BodyCharges R P.body (t ∷ []) q) same h.2)),
        λ h.
            let g = named_procedure source c text h.0 h.1 in
            let number : g.0 ≡ f = procedure_number g.0 f (sym g.2 ∙ e) in
            let is : slice_get source.procs f ≡ Some h.0 = ap (slice_get source.procs) (sym number) ∙ g.1 in
            let core_is = proc_get s 0 source.procs f h.0 is in
            (proc_core s core_is.0 h.0, core_is.1, (here R S keeps f h.0 is core_is.0 t q).1 h.2),
      )

  -- what a procedure charges is what it does as written
  pub charges_kept : (text : List ℕ) (f : ℕ) → meaning (names_of source) text ≡ Some (mean.Procedure f) → (t : Tree) (q : ℕ) → Charges (core source) f t q ↔ ProcCharges source text t q
  charges_kept text f e t q = (λ h. (h.0, (within_kept h.0 text f e t q).0 h.1), λ h. (h.0, (within_kept h.0 text f e t q).1 h.1))

  -- the whole setting keeps what procedures charge
  pub keeps_all : Keeps source (setting_of source) (Charges (core source)) (ProcCharges source)
  keeps_all = record { measures = measures_kept; calls = charges_kept }
