-- The core form of a value without breach fits the node that is expected.
use Rattle.std.proofs.Common.{◌≡◌, ℕ, zero, suc, ◌≤◌, List, [], ◌∷◌, length, map, Option, Some, None, slice_get, refl, sym, ap, ◌∙◌, subst, arith}
use Rattle.std.specs.Prelude.{Bool, true, false, not, is_some, if◌then◌else◌, nat_eq, slice_index_or, codes, decimal}
use Rattle.std.proofs.lemmas.Bool.{eqb-true}
use Rattle.luo_num.specs.declared.limits.TheConstants.{NUMBER_LIMIT}
use Rattle.luo_model.specs.declared.program.Part.{Part}
use Rattle.luo_model.specs.declared.program.Shape.{Shape}
use Rattle.luo_model.specs.declared.program.Shape.TheVariants as shape
use Rattle.luo_model.specs.declared.program.Site.{Site}
use Rattle.luo_model.specs.Program as plain
use Rattle.luo_model.specs.Program.{Program, Procedure, Result}
use Rattle.luo_model.specs.Scopes.Stands.{Stand, stands, factors, IsProductOf}
use Rattle.luo_model.specs.Scopes.Fits.{FitsValue, FitsValues, FitsValueArms, value_count}
use Rattle.luo_source.specs.declared.names.Name.{Name}
use Rattle.luo_source.specs.Plain.Values.{SourceValue, Given, Made, Atom, Tuple, Branch, Case, SourceValues, no_source_values, a_source_value, SourceValueArms, no_source_value_arms, a_source_value_arm}
use Rattle.luo_rules.specs.declared.names.Meaning.{Meaning}
use Rattle.luo_rules.specs.declared.names.Meaning.TheVariants as mean
use Rattle.luo_rules.specs.declared.rule.Breach.{Breach}
use Rattle.luo_rules.specs.declared.setting.Setting.{Setting}
use Rattle.luo_rules.specs.declared.setting.Variable.{Variable}
use Rattle.luo_rules.specs.Breaches.{◌or_if_none◌}
use Rattle.luo_rules.specs.Meanings.{meaning, measure_use, procedure_use, value_of, procedure_of}
use Rattle.luo_rules.specs.Settings.{meant, no_signature, signature_meant, shape_at, found, place_of, argument_breaches, case_stands}
use Rattle.luo_rules.specs.Patterns.{has_factors, bound, arm_breaches}
use Rattle.luo_rules.specs.ValueBreaches.{differs, given_breaches, result_breaches, charge_use, is_atom, part_nodes, branch_at, branch_of, has_branch, misplaced, count_values, count_value_arms, value_breaches, values_breaches, value_arms_breaches}
use Rattle.luo_rules.specs.ValueCore.{weight_of, charge_of, value_core, values_core, value_arms_core}
use Rattle.luo_rules.proofs.Lists.{some_same, none_some, nil_left, nil_right, none_first, none_then}
use Rattle.luo_rules.proofs.PatternFacts.{program_over, parts_of, IsFoundIn, found_there, found_one, argument_fits, product_of, factors_length, may_bind, bound_same, arm_fits, case_fits}
use Rattle.luo_rules.proofs.ProperBodies.{ProperValue, ProperValues, ProperValueArms}

-- what is known of a procedure by its number
pub record Callee (s : Setting) (procs : List Procedure) (f : ℕ) : Type 0 where
  pub procedure : Procedure
  pub is : slice_get procs f ≡ Some procedure
  pub on : (slice_index_or s.signatures f no_signature).on ≡ Some procedure.on.node
  pub result : (o : Option ℕ) → (slice_index_or s.signatures f no_signature).result ≡ Some o → (r : Result) × (procedure.result ≡ Some r) × (o ≡ Some r.on.node)

-- the measures of a setting are within the limit, and its procedures are those of the program
pub record SoundSetting (s : Setting) (procs : List Procedure) : Type 0 where
  pub charges : (text : List ℕ) (k v : ℕ) → meaning s.names text ≡ Some (mean.Measure k v) → v ≤ NUMBER_LIMIT
  pub callees : (text : List ℕ) (f : ℕ) → meaning s.names text ≡ Some (mean.Procedure f) → Callee s procs f

pub measure_meant : (o : Option Meaning) (name : Name) → measure_use o name ≡ [] → (k : ℕ) × (v : ℕ) × (o ≡ Some (mean.Measure k v))
measure_meant None name e = absurd (cc)
measure_meant (Some (mean.Definition i)) name e = absurd (cc)
measure_meant (Some (mean.Measure k v)) name e = (k, v, refl)
measure_meant (Some (mean.Procedure f)) name e = absurd (cc)

pub procedure_meant : (o : Option Meaning) (name : Name) → procedure_use o name ≡ [] → (f : ℕ) × (o ≡ Some (mean.Procedure f))
procedure_meant None name e = absurd (cc)
procedure_meant (Some (mean.Definition i)) name e = absurd (cc)
procedure_meant (Some (mean.Measure k v)) name e = absurd (cc)
procedure_meant (Some (mean.Procedure f)) name e = (f, refl)

same_node : (node expected : ℕ) (b : Bool) → nat_eq node expected ≡ b → not b ≡ false → node ≡ expected
same_node node expected true t e = eqb-true node expected t
same_node node expected false t e = absurd (cc)

not_chosen : (b : Bool) (x : Breach) → (if b then (x ∷ []) else []) ≡ [] → b ≡ false
not_chosen true x e = absurd (cc)
not_chosen false x e = refl

-- what doesn't differ from what is expected
no_difference : (expected node : ℕ) (x : Breach) → (if differs (Some expected) node then (x ∷ []) else []) ≡ [] → node ≡ expected
no_difference expected node x e = same_node node expected (nat_eq node expected) refl (not_chosen (differs (Some expected) node) x e)

given_fits : (vars : List Part) (o : Option (ℕ × Part)) (expected : ℕ) (name : Name) → IsFoundIn vars o → given_breaches o (Some expected) name ≡ [] → (x : Part) × (slice_get vars (place_of o) ≡ Some x) × (x.node ≡ expected)
given_fits vars None expected name h e = absurd (cc)
given_fits vars (Some q) expected name h e = (q.1, h q refl, no_difference expected q.1.node _ e)

result_fits : (expected : ℕ) (result : Option (Option ℕ)) (name : Name) → result_breaches (Some expected) result name ≡ [] → (result ≡ Some None → ⊥) → result ≡ Some (Some expected)
result_fits expected None name e known = absurd (cc)
result_fits expected (Some None) name e known = absurd (known refl)
result_fits expected (Some (Some node)) name e known = ap (λ y. Some (Some y)) (no_difference expected node _ e)

atom_is : (form : Shape) → is_atom form ≡ true → form ≡ shape.Atom (weight_of form)
atom_is (shape.Atom weight) e = refl
atom_is (shape.Union parts) e = absurd (cc)
atom_is (shape.Product parts) e = absurd (cc)
atom_is (shape.Coll kind part low high) e = absurd (cc)

well_placed : (b : Bool) (at : ℕ) (text : List ℕ) → misplaced b at text ≡ [] → b ≡ true
well_placed true at text e = refl
well_placed false at text e = absurd (cc)

-- a branch that there is
pub record BranchIs (parts : List Part) (number y : ℕ) : Type 0 where
  pub i : ℕ
  pub part : Part
  pub from_one : number ≡ suc i
  pub at : slice_get parts i ≡ Some part
  pub node : part.node ≡ y

branch_is : (parts : List Part) (number y : ℕ) → branch_at parts number ≡ Some y → BranchIs parts number y
branch_is [] number y e = absurd (none_some y e)
branch_is (part ∷ parts) zero y e = absurd (none_some y e)
branch_is (part ∷ parts) (suc zero) y e = record { i = 0; part = part; from_one = refl; at = refl; node = some_same part.node y e }
branch_is (part ∷ parts) (suc (suc n)) y e =
    let b = branch_is parts (suc n) y e in
    record { i = suc b.i; part = b.part; from_one = ap suc b.from_one; at = b.at; node = b.node }

-- a union with such a branch
pub record UnionOf (form : Shape) (number y : ℕ) : Type 0 where
  pub parts : List Part
  pub is : form ≡ shape.Union parts
  pub branch : BranchIs parts number y

union_of : (form : Shape) (number y : ℕ) → branch_of form number ≡ Some y → UnionOf form number y
union_of (shape.Atom weight) number y e = absurd (none_some y e)
union_of (shape.Union parts) number y e = record { parts = parts; is = refl; branch = branch_is parts number y e }
union_of (shape.Product parts) number y e = absurd (none_some y e)
union_of (shape.Coll kind part low high) number y e = absurd (none_some y e)

there_is : {A : Type 0} (o : Option A) → is_some o ≡ true → (y : A) × (o ≡ Some y)
there_is None e = absurd (cc)
there_is (Some y) e = (y, refl)

chosen : {A : Type 0} (b : Bool) (x y : A) → b ≡ true → (if b then x else y) ≡ x
chosen true x y e = refl
chosen false x y e = absurd (cc)

abbrev nodes_in : List Part → List ℕ
nodes_in parts = map (λ part. part.node) parts

module _ (s : Setting) (procs : List Procedure) (sites : List Site) (analyses : List ℕ) (sound : SoundSetting s procs) where
  -- the value of a measure that is charged
  pub charge_within : (charge : Option Name) → charge_use s charge ≡ [] → charge_of s charge ≤ NUMBER_LIMIT
  charge_within None e = omega arith
  charge_within (Some measure) e =
      let m = measure_meant (meant s measure) measure e in
      subst (λ n. n ≤ NUMBER_LIMIT) (sym (ap value_of m.2)) (sound.charges measure.text m.0 m.1 m.2)

  made_fits : (vars : List Part) (o : Option (ℕ × Part)) (expected : ℕ) (callee arg : Name) → IsFoundIn vars o
      → (procedure_use (meant s callee) callee ≡ []) → result_breaches (Some expected) (signature_meant s (meant s callee)).result callee ≡ [] → argument_breaches o (signature_meant s (meant s callee)).on arg callee ≡ []
      → FitsValue (program_over s procs sites analyses) vars expected (plain.Made (place_of o) (procedure_of (meant s callee)))
  made_fits vars o expected callee arg h meant_so result argument =
      let f = procedure_meant (meant s callee) callee meant_so in
      let c = sound.callees callee.text f.0 f.1 in
      let on : (signature_meant s (meant s callee)).on ≡ Some c.procedure.on.node = ap (λ m. (signature_meant s m).on) f.1 ∙ c.on in
      let same = ap (λ m. (signature_meant s m).result) f.1 in
      let made = result_fits expected (signature_meant s (meant s callee)).result callee result (λ e. let r = c.result None (sym same ∙ e) in none_some r.0.on.node r.2) in
      let r = c.result (Some expected) (sym same ∙ made) in
      let a = argument_fits vars o (signature_meant s (meant s callee)).on c.procedure.on.node arg callee h on argument in
      (c.procedure, r.0, a.0, ap (λ m. slice_get procs (procedure_of m)) f.1 ∙ c.is, a.1, a.2, r.1, sym (some_same expected r.0.on.node r.2))

  mutual
    pub value_fits : (scope : List Variable) (expected : ℕ) (v : SourceValue) → ProperValue v → value_breaches s scope (Some expected) v ≡ []
        → FitsValue (program_over s procs sites analyses) (parts_of scope) expected (value_core s scope (Some expected) v)
    value_fits scope expected (Given name) p e = given_fits (parts_of scope) (found scope name) expected name (found_there scope name) e
    value_fits scope expected (Made callee arg) p e =
        let first = nil_left (procedure_use (meant s callee) callee or_if_none result_breaches (Some expected) (signature_meant s (meant s callee)).result callee) (argument_breaches (found scope arg) (signature_meant s (meant s callee)).on arg callee) e in
        made_fits (parts_of scope) (found scope arg) expected callee arg (found_there scope arg)
        (none_first (procedure_use (meant s callee) callee) (result_breaches (Some expected) (signature_meant s (meant s callee)).result callee) first)
        (none_then (procedure_use (meant s callee) callee) (result_breaches (Some expected) (signature_meant s (meant s callee)).result callee) first)
        (nil_right (procedure_use (meant s callee) callee or_if_none result_breaches (Some expected) (signature_meant s (meant s callee)).result callee) (argument_breaches (found scope arg) (signature_meant s (meant s callee)).on arg callee) e)
    value_fits scope expected (Atom charge at) p e =
        let place = nil_right (charge_use s charge) (misplaced (is_atom (shape_at s expected)) at (codes "atom")) e in
        (atom_is (shape_at s expected) (well_placed (is_atom (shape_at s expected)) at (codes "atom") place), charge_within charge (nil_left (charge_use s charge) (misplaced (is_atom (shape_at s expected)) at (codes "atom")) e))
    value_fits scope expected (Tuple parts at) p e =
        let k = count_values parts in
        let test = has_factors k (shape_at s expected) in
        let here : test ≡ true = well_placed test at (codes "product") (nil_left (misplaced test at (codes "product")) (values_breaches s scope (part_nodes s (Some expected) k) parts) e) in
        let more = nil_right (misplaced test at (codes "product")) (values_breaches s scope (part_nodes s (Some expected) k) parts) e in
        let product = product_of k (shape_at s expected) here in
        let form = shape_at s expected in
        let nodes : part_nodes s (Some expected) k ≡ nodes_in (factors form) = chosen test (nodes_in (factors form)) [] here in
        let P : List ℕ → Type 0 = λ ns. IsProductOf (value_count (values_core s scope ns parts)) form × FitsValues (program_over s procs sites analyses) (parts_of scope) (factors form) (values_core s scope ns parts) in
        let fit : P (nodes_in (factors form)) = (
          subst (λ n. IsProductOf n form) (sym (values_counted scope (nodes_in (factors form)) parts)) product,
          values_fit scope (factors form) parts p (factors_length k form product) (subst (λ ns. values_breaches s scope ns parts ≡ []) nodes more),
        ) in
        subst P (sym nodes) fit
    value_fits scope expected (Branch number at inner) p e =
        let form = shape_at s expected in
        let here = well_placed (has_branch number form) at (decimal number) (nil_left (misplaced (has_branch number form) at (decimal number)) (value_breaches s scope (branch_of form number) inner) e) in
        let more = nil_right (misplaced (has_branch number form) at (decimal number)) (value_breaches s scope (branch_of form number) inner) e in
        let y = there_is (branch_of form number) here in
        let u = union_of form number y.0 y.1 in
        let P : Option ℕ → Type 0 = λ o. FitsValue (program_over s procs sites analyses) (parts_of scope) u.branch.part.node (value_core s scope o inner) in
        let fit : FitsValue (program_over s procs sites analyses) (parts_of scope) y.0 (value_core s scope (Some y.0) inner) = value_fits scope y.0 inner p (subst (λ o. value_breaches s scope o inner ≡ []) y.1 more) in
        let fit' : P (branch_of form number) = subst P (sym y.1) (subst (λ n. FitsValue (program_over s procs sites analyses) (parts_of scope) n (value_core s scope (Some y.0) inner)) (sym u.branch.node) fit) in
        (u.parts, u.branch.i, u.branch.part, u.is, u.branch.from_one, u.branch.at, fit')
    value_fits scope expected (Case var arms) p e =
        let c = case_fits s (found scope var) var (count_value_arms arms) (value_arms_breaches s (case_stands s (found scope var)) (Some expected) var arms) e in
        let x = c.variable.1 in
        let ss = stands x (shape_at s x.node) in
        let some : case_stands s (found scope var) ≡ ss = ap (case_stands s) c.is in
        let fit = value_arms_fit scope ss expected var arms p.1 (sym c.many) (subst (λ z. value_arms_breaches s z (Some expected) var arms ≡ []) some c.none) in (
          x,
          found_one (parts_of scope) (found scope var) c.variable (found_there scope var) c.is,
          omega (arith, c.many, p.0),
          subst (λ z. FitsValueArms (program_over s procs sites analyses) ss expected (value_arms_core s z (Some expected) arms)) (sym some) fit,
        )

    values_counted : (scope : List Variable) (nodes : List ℕ) (row : SourceValues) → value_count (values_core s scope nodes row) ≡ count_values row
    values_counted scope nodes no_source_values = refl
    values_counted scope [] (a_source_value v rest) = ap suc (values_counted scope [] rest)
    values_counted scope (x ∷ nodes) (a_source_value v rest) = ap suc (values_counted scope nodes rest)

    values_fit : (scope : List Variable) (parts : List Part) (row : SourceValues) → ProperValues row → length parts ≡ count_values row → values_breaches s scope (nodes_in parts) row ≡ []
        → FitsValues (program_over s procs sites analyses) (parts_of scope) parts (values_core s scope (nodes_in parts) row)
    values_fit scope [] no_source_values p l e = tt
    values_fit scope (x ∷ parts) no_source_values p l e = absurd (omega (arith, l))
    values_fit scope [] (a_source_value v rest) p l e = absurd (omega (arith, l))
    values_fit scope (x ∷ parts) (a_source_value v rest) p l e = (
      value_fits scope x.node v p.0 (nil_left (value_breaches s scope (Some x.node) v) (values_breaches s scope (nodes_in parts) rest) e),
      values_fit scope parts rest p.1 (omega (arith, l)) (nil_right (value_breaches s scope (Some x.node) v) (values_breaches s scope (nodes_in parts) rest) e),
    )

    value_arms_fit : (scope : List Variable) (ss : List Stand) (expected : ℕ) (var : Name) (row : SourceValueArms) → ProperValueArms row → length ss ≡ count_value_arms row → value_arms_breaches s ss (Some expected) var row ≡ []
        → FitsValueArms (program_over s procs sites analyses) ss expected (value_arms_core s ss (Some expected) row)
    value_arms_fit scope [] expected var no_source_value_arms p l e = tt
    value_arms_fit scope (stand ∷ ss) expected var no_source_value_arms p l e = absurd (omega (arith, l))
    value_arms_fit scope [] expected var (a_source_value_arm pattern body rest) p l e = absurd (omega (arith, l))
    value_arms_fit scope (stand ∷ ss) expected var (a_source_value_arm pattern body rest) p l e =
        let inner = value_breaches s (bound s stand pattern) (Some expected) body in
        let a = arm_fits s stand var pattern inner (nil_left (arm_breaches s stand var pattern inner) (value_arms_breaches s ss (Some expected) var rest) e) in
        let fit = value_fits (bound s stand pattern) expected body p.0 a.1 in (
          may_bind s procs sites analyses stand pattern a.0,
          subst (λ vars. FitsValue (program_over s procs sites analyses) vars expected (value_core s (bound s stand pattern) (Some expected) body)) (bound_same s procs sites analyses stand pattern a.0) fit,
          value_arms_fit scope ss expected var rest p.1 (omega (arith, l)) (nil_right (arm_breaches s stand var pattern inner) (value_arms_breaches s ss (Some expected) var rest) e),
        )
