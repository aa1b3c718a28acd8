-- What procedures make, by number and by name, at each depth of calls.
use Rattle.std.proofs.Common.{◌≡◌, ℕ, zero, suc, ◌↔◌, List, [], ◌∷◌, Option, Some, slice_get, refl, sym, ap, ◌∙◌, subst}
use Rattle.luo_model.specs.declared.program.Universe.{Universe}
use Rattle.luo_model.specs.declared.program.Universe.TheVariants.{Unlabelled, Labelled}
use Rattle.luo_model.specs.Tree.{Tree}
use Rattle.luo_model.specs.Program.{Procedure, Result}
use Rattle.luo_source.specs.declared.names.Name.{Name}
use Rattle.luo_source.specs.Plain.Types.{Named}
use Rattle.luo_source.specs.Plain.Source.{ProcBody, Statements, Value, ProcDef, Source}
use Rattle.luo_rules.specs.declared.names.Meaning.TheVariants as mean
use Rattle.luo_rules.specs.Meanings.{meaning}
use Rattle.luo_rules.specs.Settings.{meant, def_node, node_meant, type_node, part_meant}
use Rattle.luo_rules.specs.ValueBreaches.{value_breaches}
use Rattle.luo_rules.specs.ValueCore.{value_core}
use Rattle.luo_rules.specs.Definitions.{definitions, names_of, definition_meant}
use Rattle.luo_rules.specs.Nodes.{Spot, named_part, setting_of}
use Rattle.luo_rules.specs.Whole.{result_breaches, parameter, body_breaches, result_core, proc_core, procs_core, core, breaches}
use Rattle.luo_rules.proofs.Lists.{some_same, none_some}
use Rattle.luo_rules.proofs.ProperSource.{ProperBody, ProperProc, source_proper}
use Rattle.luo_rules.proofs.SourceFacts.{all_get}
use Rattle.luo_rules.specs.Checks.{IsSource}
use Rattle.luo_rules.proofs.CleanSource.{Clean, clean_proc, clean_result, def_node_is, proc_get, proc_back}
use Rattle.luo_interp.specs.Makes as makes
use Rattle.luo_interp.specs.Makes.{MakesWithin, Makes}
use Rattle.luo_meaning.specs.Made.{BodyMakes, ProcMakesWithin, ProcMakes}
use Rattle.luo_meaning.proofs.Named.{procedure_named, named_procedure}
use Rattle.luo_meaning.proofs.Steps.{agree_one}
use Rattle.luo_meaning.proofs.ProceduresKept.{procedure_number}
use Rattle.luo_meaning.proofs.RowsKept.{clean_source, named_sits}
use Rattle.luo_meaning.proofs.Typing.{Holds}
use Rattle.luo_meaning.proofs.ValuesMade.{value_made}

unlabelled : (universe : Universe) (colon : ℕ) (name : Name) → result_breaches universe colon name ≡ [] → universe ≡ Unlabelled
unlabelled Unlabelled colon name e = refl
unlabelled Labelled colon name e = absurd (cc)

module _ (source : Source) (c : Clean source) where
  -- the node of a name of a definition stands for the name
  name_holds : (name : Name) (i : ℕ) → meaning (names_of source) name.text ≡ Some (mean.Definition i) → (x : ℕ) → def_node (setting_of source) i ≡ x → Holds source x (Named name)
  name_holds name i e x at =
      let spot : Spot = record { node = 0; place = 0 } in
      record {
        owner = 0;
        spot = spot;
        sits = named_sits source c name i e spot;
        at = ap (λ o. (named_part (names_of source) (definitions source) (definition_meant o)).node) e ∙ (sym (def_node_is source c i (c.within name.text (mean.Definition i) e)) ∙ at);
      }

  module _ (R : ℕ → Tree → Tree → Type 0) (S : List ℕ → Tree → Tree → Type 0) (calls : (text : List ℕ) (f : ℕ) → meaning (names_of source) text ≡ Some (mean.Procedure f) → (t r : Tree) → R f t r ↔ S text t r) where
    -- a body in the scope of its parameter
    body_made : (p : ProcDef) (body : ProcBody) (n : ℕ) → ProperBody body → body_breaches (setting_of source) p (Some n) body ≡ [] → (t r : Tree)
        → ((result : Result) × (result_core (setting_of source) p body ≡ Some result) × makes.ValueMakes R result.value (t ∷ []) r) ↔ BodyMakes source S ((p.param.text, t) ∷ []) body r
    body_made p (Statements stmts) n proper none t r = (λ h. absurd (none_some h.0 h.1), λ h. absurd h)
    body_made p (Value colon result value) n proper none t r =
        let s = setting_of source in
        let k = clean_result source c colon p.name result (value_breaches s (parameter s p) (type_node s result) value) none in
        let x = def_node s k.i in
        let wanted : type_node s result ≡ Some x = ap (node_meant s) k.on in
        let clean : value_breaches s (parameter s p) (Some x) value ≡ [] = subst (λ (o : Option ℕ). value_breaches s (parameter s p) o value ≡ []) wanted k.value in
        let made = value_made source R S c (unlabelled source.universe colon p.name k.universe) calls value (parameter s p) ((p.param.text, t) ∷ []) (t ∷ []) (agree_one p.param.text (part_meant s (meant s p.on)) t) x (Named result) (name_holds result k.i k.on x refl) proper clean r in
        let here = subst (λ (o : Option ℕ). makes.ValueMakes R (value_core s (parameter s p) o value) (t ∷ []) r ↔ BodyMakes source S ((p.param.text, t) ∷ []) (Value colon result value) r) (sym wanted) made in (
          λ h. here.0 (subst (λ (z : Result). makes.ValueMakes R z.value (t ∷ []) r) (sym (some_same _ h.0 h.1)) h.2),
          λ h. (_, refl, here.1 h),
        )

  module _ (proper : (f : ℕ) (p : ProcDef) → slice_get source.procs f ≡ Some p → ProperProc p) where
    -- the procedure at a place of the source
    here : (R : ℕ → Tree → Tree → Type 0) (S : List ℕ → Tree → Tree → Type 0) → ((text : List ℕ) (f : ℕ) → meaning (names_of source) text ≡ Some (mean.Procedure f) → (t r : Tree) → R f t r ↔ S text t r)
        → (f : ℕ) (p : ProcDef) → slice_get source.procs f ≡ Some p → (at : ℕ) (t r : Tree)
        → ((result : Result) × ((proc_core (setting_of source) at p).result ≡ Some result) × makes.ValueMakes R result.value (t ∷ []) r) ↔ BodyMakes source S ((p.param.text, t) ∷ []) p.body r
    here R S calls f p e at t r =
        let s = setting_of source in
        let k = clean_proc source c f p e in
        body_made R S calls p p.body (def_node s k.i) (proper f p e) k.body t r

    within_made : (depth : ℕ) (text : List ℕ) (f : ℕ) → meaning (names_of source) text ≡ Some (mean.Procedure f) → (t r : Tree)
        → MakesWithin (procs_core (setting_of source) 0 source.procs) depth f t r ↔ ProcMakesWithin source depth text t r
    within_made zero text f e t r = (λ h. h, λ h. h)
    within_made (suc depth) text f e t r =
        let s = setting_of source in
        let R : ℕ → Tree → Tree → Type 0 = MakesWithin (procs_core s 0 source.procs) depth in
        let S : List ℕ → Tree → Tree → Type 0 = ProcMakesWithin source depth in
        let p = procedure_named source c text f e in
        let there = proc_get s 0 source.procs f p.0 p.1 in (
          λ h.
              let same : h.0 ≡ proc_core s there.0 p.0 = some_same h.0 (proc_core s there.0 p.0) (sym h.2 ∙ there.1) in
              (p.0, p.2, (here R S (within_made depth) f p.0 p.1 there.0 t r).0 (subst (λ (P : Procedure). (result : Result) × (P.result ≡ Some result) × makes.ValueMakes R result.value (t ∷ []) r) same (h.1, h.3, h.4))),
          λ h.
              let g = named_procedure source c text h.0 h.1 in
              let number : g.0 ≡ f = procedure_number g.0 f (sym g.2 ∙ e) in
              let is : slice_get source.procs f ≡ Some h.0 = ap (slice_get source.procs) (sym number) ∙ g.1 in
              let core_is = proc_get s 0 source.procs f h.0 is in
              let k = (here R S (within_made depth) f h.0 is core_is.0 t r).1 h.2 in
              (proc_core s core_is.0 h.0, k.0, core_is.1, k.1, k.2),
        )

    -- what a procedure makes is what the one of its name makes as written
    pub made_kept : (text : List ℕ) (f : ℕ) → meaning (names_of source) text ≡ Some (mean.Procedure f) → (t r : Tree) → Makes (core source) f t r ↔ ProcMakes source text t r
    made_kept text f e t r = (λ h. (h.0, (within_made h.0 text f e t r).0 h.1), λ h. (h.0, (within_made h.0 text f e t r).1 h.1))

pub maker_kept : (source : Source) → IsSource source → breaches source ≡ [] → (f : ℕ) (P : Procedure) → slice_get (core source).procs f ≡ Some P → (t r : Tree) → Makes (core source) f t r ↔ ProcMakes source P.name t r
maker_kept source is unbroken f P e t r =
    let c = clean_source source is unbroken in
    let b = proc_back (setting_of source) 0 source.procs f P e in
    let means : meaning (names_of source) P.name ≡ Some (mean.Procedure f) = ap (λ (z : Procedure). meaning (names_of source) z.name) b.3 ∙ (clean_proc source c f b.0 b.2).own_name in
    made_kept source c (λ g p h. all_get ProperProc source.procs g p (source_proper source is).bodies h) P.name f means t r
