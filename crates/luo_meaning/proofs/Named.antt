-- In a source that breaks no rule, what a name means by number is what is written for it.
use Rattle.std.proofs.Common.{◌≡◌, ℕ, zero, suc, ◌+◌, List, [], ◌∷◌, Some, None, Option, slice_get, sym, ap, ◌∙◌, subst, arith}
use Rattle.std.specs.Prelude.{true}
use Rattle.std.proofs.lemmas.Bool.{eqb-true}
use Rattle.luo_source.specs.declared.names.Name.{Name}
use Rattle.luo_source.specs.Plain.Types.{TypeExpr}
use Rattle.luo_source.specs.Plain.Source.{ProcDef, Source}
use Rattle.luo_rules.specs.declared.names.Meaning.{Meaning}
use Rattle.luo_rules.specs.declared.names.Meaning.TheVariants as mean
use Rattle.luo_rules.specs.Meanings.{meaning}
use Rattle.luo_rules.specs.Definitions.{Definition, definitions, measures, names_of}
use Rattle.luo_rules.specs.TypeBreaches.{is_meaning, name_breaches, measures_breaches}
use Rattle.luo_rules.proofs.Lists.{some_same, none_some, In_get, place_in, nil_left, nil_right, chosen_true}
use Rattle.luo_rules.proofs.CleanSource.{Clean, clean_proc}
use Rattle.luo_meaning.specs.Defined.{DefinesType, DefinesMeasure, DefinesProcedure}
use Rattle.luo_meaning.proofs.NamesMean.{names_mean, type_of, of_type, measure_of, of_measure}

-- definition i of the source has this name
pub record TypeNamed (source : Source) (text : List ℕ) (right : TypeExpr) : Type 0 where
  pub i : ℕ
  pub d : Definition
  pub is : slice_get (definitions source) i ≡ Some d
  pub right_side : d.right ≡ right
  pub means : meaning (names_of source) text ≡ Some (mean.Definition i)

measure_is : (o : Option Meaning) (j v : ℕ) → is_meaning o (mean.Measure j v) ≡ true → (w : ℕ) × (o ≡ Some (mean.Measure j w))
measure_is None j v e = absurd (cc)
measure_is (Some (mean.Definition i)) j v e = absurd (cc)
measure_is (Some (mean.Measure k w)) j v e = (w, ap (λ n. Some (mean.Measure n w)) (eqb-true k j e))
measure_is (Some (mean.Procedure f)) j v e = absurd (cc)

measure_get : (names : List (List ℕ × Meaning)) (k : ℕ) (ms : List (Name × ℕ)) (j : ℕ) (m : Name × ℕ) → measures_breaches names k ms ≡ [] → slice_get ms j ≡ Some m → (w : ℕ) × (meaning names m.0.text ≡ Some (mean.Measure (k + j) w))
measure_get names k [] j m e h = absurd (none_some m h)
measure_get names k (n ∷ ms) zero m e h =
    let none : name_breaches names m.0 (mean.Measure k m.1) ≡ [] = subst (λ (z : Name × ℕ). name_breaches names z.0 (mean.Measure k z.1) ≡ []) (some_same n m h) (nil_left (name_breaches names n.0 (mean.Measure k n.1)) (measures_breaches names (suc k) ms) e) in
    let is = measure_is (meaning names m.0.text) k m.1 (chosen_true (is_meaning (meaning names m.0.text) (mean.Measure k m.1)) [] _ none) in
    (is.0, is.1 ∙ ap (λ i. Some (mean.Measure i is.0)) (omega arith))
measure_get names k (n ∷ ms) (suc j) m e h =
    let is = measure_get names (suc k) ms j m (nil_right (name_breaches names n.0 (mean.Measure k n.1)) (measures_breaches names (suc k) ms) e) h in
    (is.0, is.1 ∙ ap (λ i. Some (mean.Measure i is.0)) (omega arith))

value_same : (j k v w : ℕ) → Some (mean.Measure j v) ≡ Some (mean.Measure k w) → (j ≡ k) × (v ≡ w)
value_same j k v w e = (cc, cc)

module _ (source : Source) (c : Clean source) where
  -- the type that a meaning is of
  pub type_named : (text : List ℕ) (i : ℕ) (d : Definition) → meaning (names_of source) text ≡ Some (mean.Definition i) → slice_get (definitions source) i ≡ Some d → DefinesType source text d.right
  type_named text i d e h =
      let m = names_mean source text (mean.Definition i) e in
      let t = type_of source.types m.0 (In_get (definitions source) i m.0 m.1) in
      let same : m.0 ≡ d = some_same m.0 d (sym m.1 ∙ h) in
      (t.0, t.1, (t.2.0, t.2.1, t.2.2 ∙ m.2), t.3 ∙ ap (λ (z : Definition). z.right) same)

  pub named_type : (text : List ℕ) (right : TypeExpr) → DefinesType source text right → TypeNamed source text right
  named_type text right t =
      let v : Definition = record { name = t.2.0; right = t.0.body } in
      let at = place_in v (definitions source) (of_type source.types t.0 t.2.0 t.1 t.2.1) in
      record { i = at.0; d = v; is = at.1; right_side = t.3; means = sym (ap (meaning (names_of source)) t.2.2) ∙ (c.all.each at.0 v at.1).own_name }

  pub procedure_named : (text : List ℕ) (f : ℕ) → meaning (names_of source) text ≡ Some (mean.Procedure f) → (p : ProcDef) × (slice_get source.procs f ≡ Some p) × DefinesProcedure source text p
  procedure_named text f e = let m = names_mean source text (mean.Procedure f) e in (m.0, m.1, (In_get source.procs f m.0 m.1, m.2))

  pub named_procedure : (text : List ℕ) (p : ProcDef) → DefinesProcedure source text p → (f : ℕ) × (slice_get source.procs f ≡ Some p) × (meaning (names_of source) text ≡ Some (mean.Procedure f))
  named_procedure text p h =
      let at = place_in p source.procs h.0 in
      (at.0, at.1, sym (ap (meaning (names_of source)) h.1) ∙ (clean_proc source c at.0 p at.1).own_name)

  pub measure_named : (text : List ℕ) (k v : ℕ) → meaning (names_of source) text ≡ Some (mean.Measure k v) → DefinesMeasure source text v
  measure_named text k v e =
      let m = names_mean source text (mean.Measure k v) e in
      let d = measure_of source.measures m.0 (In_get (measures source) k m.0 m.1) in
      (d.0, d.1, (d.2.0, d.2.1, d.2.2 ∙ m.2), d.3 ∙ m.3)

  pub named_measure : measures_breaches (names_of source) 0 (measures source) ≡ [] → (text : List ℕ) (v : ℕ) → DefinesMeasure source text v → (k : ℕ) × (meaning (names_of source) text ≡ Some (mean.Measure k v))
  named_measure none text v h =
      let names = names_of source in
      let m : Name × ℕ = (h.2.0, h.0.value) in
      let at = place_in m (measures source) (of_measure source.measures h.0 h.2.0 h.1 h.2.1) in
      let is = measure_get names 0 (measures source) at.0 m none at.1 in
      let there = names_mean source h.2.0.text (mean.Measure (0 + at.0) is.0) is.1 in
      let same : there.0 ≡ m = some_same there.0 m (sym there.1 ∙ (ap (slice_get (measures source)) (omega arith) ∙ at.1)) in
      let value : is.0 ≡ v = sym there.3 ∙ (ap (λ (z : Name × ℕ). z.1) same ∙ h.3) in
      (0 + at.0, sym (ap (meaning names) h.2.2) ∙ (is.1 ∙ ap (λ w. Some (mean.Measure (0 + at.0) w)) value))
