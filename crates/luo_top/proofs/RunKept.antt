-- A run from the procedure on by the core form of a source is that by the source as it is written, step by step.
use Rattle.std.proofs.Common.{◌≡◌, ◌↔◌, ℕ, List, [], refl, sym, ap, subst, ◌∙◌, Some, slice_get}
use Rattle.luo_finite.proofs.Places.{In_get, some_same}
use Rattle.luo_model.specs.Charges.{Charges}
use Rattle.luo_model.specs.Invariant.{IsProgram}
use Rattle.luo_model.specs.Program.{Procedure}
use Rattle.luo_model.specs.Structures.{IsStructure}
use Rattle.luo_model.specs.Tree.{Tree, size_of}
use Rattle.luo_read.specs.declared.answers.StructError.{StructError}
use Rattle.luo_read.specs.declared.answers.StructError.TheVariants.{Long, S1, Deep, S2, S3, NoMemory}
use Rattle.luo_read.specs.Reading.{Reads, Refusal, IsNamed}
use Rattle.luo_source.specs.Plain.Source.{ProcBody, Statements, Value, ProcDef, Source}
use Rattle.luo_rules.specs.Checks.{IsSource}
use Rattle.luo_rules.specs.Nodes.{setting_of}
use Rattle.luo_rules.specs.Whole.{breaches, core, proc_core, result_core}
use Rattle.luo_rules.proofs.CleanSource.{Clean, proc_get, proc_back}
use Rattle.luo_meaning.specs.Charges.{ProcCharges}
use Rattle.luo_meaning.specs.Defined.{DefinesProcedure}
use Rattle.luo_meaning.proofs.Named.{named_procedure}
use Rattle.luo_meaning.proofs.ProceduresMade.{maker_kept}
use Rattle.luo_meaning.proofs.RowsKept.{clean_source, measures_none, procedure_kept, structure_same}
use Rattle.luo_answer.specs.Commands.Run.{IsProcedureNamed, node_on, parameter_node, procedure_of, structure_of, charge_of, IsTail, HasTail, run_text, run_on}
use Rattle.luo_answer.specs.Step.{◌and_then◌}
use Rattle.luo_answer.proofs.SameSteps.{Match, same_makes, same_both}
use Rattle.luo_top.specs.AsWritten.Run.{defined_procedure, IsNamedOf, ReadsOf, IsNoStructure, named_structure, procedure_charge, IsTailOf, run_text_of, run_by}

module _ (source : Source) (is : IsSource source) (unbroken : breaches source ≡ []) (program : IsProgram (core source)) where
  c : Clean source
  c = clean_source source is unbroken

  -- the procedure at a place of the source, in the core form
  abbrev At : ℕ → ProcDef → Type 0
  At f d = slice_get source.procs f ≡ Some d

  core_at : (f : ℕ) (d : ProcDef) → At f d → (at : ℕ) × (slice_get (core source).procs f ≡ Some (proc_core (setting_of source) at d))
  core_at f d there = proc_get (setting_of source) 0 source.procs f d there

  named_there : (name : List ℕ) (f : ℕ) → IsProcedureNamed (core source) name f → (d : ProcDef) × DefinesProcedure source name d × At f d
  named_there name f n =
      let b = proc_back (setting_of source) 0 source.procs f n.0 n.1 in
      (b.0, (In_get source.procs f b.0 b.2, ap (λ (P : Procedure). P.name) (sym b.3) ∙ n.2), b.2)

  there_named : (name : List ℕ) (d : ProcDef) → DefinesProcedure source name d → (f : ℕ) × IsProcedureNamed (core source) name f × At f d
  there_named name d h =
      let g = named_procedure source c name d h in
      let k = core_at g.0 d g.1 in
      (g.0, (proc_core (setting_of source) k.0 d, k.1, h.1), g.1)

  procedure_same : (name : List ℕ) → Match At (procedure_of (core source) name) (defined_procedure source name)
  procedure_same name = same_makes At _ _ (IsProcedureNamed (core source) name) (DefinesProcedure source name)
      (λ a. (
        λ h. ((λ d n. let g = there_named name d n in h.0 g.0 g.1), h.1),
        λ h. ((λ f n. let d = named_there name f n in h.0 d.0 d.1), h.1),
      ))
      (λ none f n. named_there name f n) (λ none d n. there_named name d n)

  module _ (f : ℕ) (d : ProcDef) (there : At f d) where
    abbrev at : ℕ
    at = (core_at f d there).0

    abbrev P : Procedure
    P = proc_core (setting_of source) at d

    core_there : slice_get (core source).procs f ≡ Some P
    core_there = (core_at f d there).1

    abbrev x : ℕ
    x = parameter_node (core source) f

    named_same : (text : List ℕ) (t : Tree) → IsNamed (core source) x text t ↔ IsNamedOf source d.on text t
    named_same text t =
        let node : x ≡ P.on.node = ap node_on core_there in
        let same = structure_same source c (measures_none source unbroken) program f d there P core_there (size_of t) t in (
          λ h. (same.0 (subst (λ y. IsStructure (core source) y (size_of t) t) node h.0), h.1),
          λ h. (subst (λ y. IsStructure (core source) y (size_of t) t) (sym node) (same.1 h.0), h.1),
        )

    refused_same : (text : List ℕ) (e : StructError) → Refusal (core source) x text e ↔ IsNoStructure source d.on text e
    refused_same text (Long n) = (λ h. h, λ h. h)
    refused_same text (S1 k) = (λ h. h, λ h. h)
    refused_same text (Deep k) = (λ h. h, λ h. h)
    refused_same text S2 = (λ h. (h.0, λ t n. h.1 t ((named_same text t).1 n)), λ h. (h.0, λ t n. h.1 t ((named_same text t).0 n)))
    refused_same text (S3 n) = (
      λ h. (h.0, (h.1.0, (named_same text h.1.0).0 h.1.1, h.1.2, h.1.3)),
      λ h. (h.0, (h.1.0, (named_same text h.1.0).1 h.1.1, h.1.2, h.1.3)),
    )
    refused_same text NoMemory = (λ h. h, λ h. h)

    structures_same : (text : List ℕ) → Match (λ t u. t ≡ u) (structure_of (core source) x text) (named_structure source d.on text)
    structures_same text = same_makes (λ t u. t ≡ u) _ _ (Reads (core source) x text) (ReadsOf source d.on text)
        (λ a. (λ h. (h.0, (refused_same text h.0).0 h.1, h.2), λ h. (h.0, (refused_same text h.0).1 h.1, h.2)))
        (λ none t r. (t, record { readable = r.readable; named = (named_same text t).0 r.named; small = r.small }, refl))
        (λ none t r. (t, record { readable = r.readable; named = (named_same text t).1 r.named; small = r.small }, refl))

    module _ (t : Tree) where
      charged_same : (q : ℕ) → Charges (core source) f t q ↔ ProcCharges source d.name.text t q
      charged_same q = procedure_kept source c (measures_none source unbroken) f P core_there t q

      charges_same : Match (λ q r. q ≡ r) (charge_of (core source) f t) (procedure_charge source d.name.text t)
      charges_same = same_makes (λ q r. q ≡ r) _ _ (Charges (core source) f t) (ProcCharges source d.name.text t)
          (λ a. (λ h. (h.0, (charged_same h.0).0 h.1, h.2, h.3), λ h. (h.0, (charged_same h.0).1 h.1, h.2, h.3)))
          (λ none q h. (q, (charged_same q).0 h, refl)) (λ none q h. (q, (charged_same q).1 h, refl))

      tail_by : (body : ProcBody) (tail : List ℕ) → IsTail (core source) f t (result_core (setting_of source) d body) tail ↔ IsTailOf source d.name.text t body tail
      tail_by (Statements stmts) tail = (λ h. h, λ h. h)
      tail_by (Value colon result value) tail = (
        λ h. (h.0, (maker_kept source is unbroken f P core_there t h.0).0 h.1, h.2),
        λ h. (h.0, (maker_kept source is unbroken f P core_there t h.0).1 h.1, h.2),
      )

      tail_same : (tail : List ℕ) → HasTail (core source) f t tail ↔ IsTailOf source d.name.text t d.body tail
      tail_same tail = (
        λ h. (tail_by d.body tail).0 (subst (λ (Q : Procedure). IsTail (core source) f t Q.result tail) (some_same h.0 P (sym h.1 ∙ core_there)) h.2),
        λ h. (P, core_there, (tail_by d.body tail).1 h),
      )

      text_same : (q : ℕ) → Match (λ a b. a ≡ b) (run_text (core source) f t q) (run_text_of source d t q)
      text_same q = same_makes (λ a b. a ≡ b) _ _ _ _ (λ a. (λ h. h, λ h. h))
          (λ none bytes h. (bytes, (h.0, (tail_same h.0).0 h.1, h.2), refl)) (λ none bytes h. (bytes, (h.0, (tail_same h.0).1 h.1, h.2), refl))

      shown_same : Match (λ a b. a ≡ b) (charge_of (core source) f t and_then run_text (core source) f t) (procedure_charge source d.name.text t and_then run_text_of source d t)
      shown_same = same_both (λ q r. q ≡ r) (λ a b. a ≡ b) (charge_of (core source) f t) (procedure_charge source d.name.text t) (run_text (core source) f t) (run_text_of source d t) charges_same
          (λ q r e. subst (λ r. Match (λ a b. a ≡ b) (run_text (core source) f t q) (run_text_of source d t r)) e (text_same q))

    on_same : (text : List ℕ) → Match (λ a b. a ≡ b) (run_on (core source) text f) (run_by source text d)
    on_same text = same_both (λ t u. t ≡ u) (λ a b. a ≡ b) (structure_of (core source) x text) (named_structure source d.on text) _ _ (structures_same text)
        (λ t u e. subst (λ u. Match (λ a b. a ≡ b) (charge_of (core source) f t and_then run_text (core source) f t) (procedure_charge source d.name.text u and_then run_text_of source d u)) e (shown_same t))

  pub run_rest_same : (name text : List ℕ) → Match (λ a b. a ≡ b) (procedure_of (core source) name and_then run_on (core source) text) (defined_procedure source name and_then run_by source text)
  run_rest_same name text =
      same_both At (λ a b. a ≡ b) (procedure_of (core source) name) (defined_procedure source name) (run_on (core source) text) (run_by source text) (procedure_same name) (λ f d there. on_same f d there text)
