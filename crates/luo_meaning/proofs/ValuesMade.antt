-- What values make: their core form, where a node is expected, against the forms as written, where a type expression is wanted.
use Rattle.std.proofs.Common.{◌≡◌, ℕ, zero, suc, ◌↔◌, List, [], ◌∷◌, map, length, Option, Some, None, slice_get, refl, sym, ap, ◌∙◌, subst, arith}
use Rattle.std.specs.Prelude.{Bool, true, false, if◌then◌else◌, codes, decimal}
use Rattle.std.proofs.lemmas.List.{length-map}
use Rattle.luo_model.specs.declared.body.Bind.{Bind}
use Rattle.luo_model.specs.declared.program.Part.{Part}
use Rattle.luo_model.specs.declared.program.Shape.{Shape}
use Rattle.luo_model.specs.declared.program.Shape.TheVariants as shape
use Rattle.luo_model.specs.declared.program.Universe.{Universe}
use Rattle.luo_model.specs.declared.program.Universe.TheVariants.{Unlabelled}
use Rattle.luo_model.specs.Tree as tree
use Rattle.luo_model.specs.Tree.{Tree, Trees, Inj, Tup, Coll, none, more}
use Rattle.luo_model.specs.Program as plain
use Rattle.luo_model.specs.Program.{no_value_arms, value_arm}
use Rattle.luo_model.specs.Charges as model
use Rattle.luo_model.specs.Member.{IsLabel, Fits}
use Rattle.luo_model.specs.Scopes.Stands.{Stand, factors}
use Rattle.luo_source.specs.declared.names.Name.{Name}
use Rattle.luo_source.specs.declared.statements.Pattern.{Pattern}
use Rattle.luo_source.specs.Plain.Types.{TypeExpr}
use Rattle.luo_source.specs.Plain.Values.{SourceValue, Given, Made, Atom, Tuple, Branch, Case, SourceValues, no_source_values, a_source_value, SourceValueArms, no_source_value_arms, a_source_value_arm}
use Rattle.luo_source.specs.Plain.Source.{Source}
use Rattle.luo_rules.specs.declared.names.Meaning.TheVariants as mean
use Rattle.luo_rules.specs.declared.setting.Variable.{Variable}
use Rattle.luo_rules.specs.Breaches.{◌or_if_none◌}
use Rattle.luo_rules.specs.Meanings.{meaning, procedure_use, procedure_of}
use Rattle.luo_rules.specs.Settings.{meant, signature_meant, shape_at, found, argument_breaches, case_stands}
use Rattle.luo_rules.specs.Patterns as patterns
use Rattle.luo_rules.specs.Patterns.{bind_of, arm_breaches, has_factors}
use Rattle.luo_rules.specs.ValueBreaches.{given_breaches, result_breaches, charge_use, is_atom, misplaced, part_nodes, inner_node, branch_of, has_branch, count_values, count_value_arms, value_breaches, values_breaches, value_breaches, value_arms_breaches}
use Rattle.luo_rules.specs.ValueCore.{weight_of, value_core, values_core, value_core, value_arms_core}
use Rattle.luo_rules.specs.Definitions.{names_of}
use Rattle.luo_rules.specs.Nodes.{setting_of}
use Rattle.luo_rules.specs.Whole.{core}
use Rattle.luo_rules.proofs.Lists.{some_same, nil_left, nil_right, none_first}
use Rattle.luo_rules.proofs.PatternFacts.{arm_fits, case_fits, product_of, factors_length}
use Rattle.luo_rules.proofs.ValueFits.{procedure_meant}
use Rattle.luo_rules.proofs.ProperBodies.{ProperValue, ProperValues, ProperValueArms}
use Rattle.luo_rules.proofs.CleanSource.{Clean}
use Rattle.luo_meaning.specs.Variables.{Environment, binds}
use Rattle.luo_meaning.specs.Structures.{IsOf}
use Rattle.luo_meaning.specs.Types.{IsProductOf}
use Rattle.luo_interp.specs.Makes as makes
use Rattle.luo_meaning.specs.Made.{ValueMakes, ValuesMake, ArmsMake}
use Rattle.luo_meaning.proofs.Steps.{Agree, agree_bound}
use Rattle.luo_meaning.proofs.StatementsKept.{argument_found, looked}
use Rattle.luo_meaning.proofs.Sits.{shape_at_node}
use Rattle.luo_meaning.proofs.Typing.{Holds}
use Rattle.luo_meaning.proofs.TypedScopes.{factors_up}
use Rattle.luo_meaning.proofs.Held.{AllHold, some_is, held, factors_held, branch_held, union_up}

given_found : (o : Option (ℕ × Part)) (expected : Option ℕ) (name : Name) → given_breaches o expected name ≡ [] → (v : ℕ × Part) × (o ≡ Some v)
given_found None expected name e = absurd (cc)
given_found (Some v) expected name e = (v, refl)

atom_form : (form : Shape) → is_atom form ≡ true → form ≡ shape.Atom (weight_of form)
atom_form (shape.Atom weight) e = refl
atom_form (shape.Union parts) e = absurd (cc)
atom_form (shape.Product parts) e = absurd (cc)
atom_form (shape.Coll kind part low high) e = absurd (cc)

well_placed : (b : Bool) (at : ℕ) (text : List ℕ) → misplaced b at text ≡ [] → b ≡ true
well_placed true at text e = refl
well_placed false at text e = absurd (cc)

none_more : {t : Tree} {ts : Trees} → none ≡ more t ts → ⊥
none_more e = cc

more_same : {t u : Tree} {ts us : Trees} → more t ts ≡ more u us → (t ≡ u) × (ts ≡ us)
more_same e = (cc, cc)

-- both have arms, or none has
abbrev AsMany : plain.ValueArms → SourceValueArms → Type 0
AsMany no_value_arms no_source_value_arms = Unit {0}
AsMany (value_arm bind v arms) (a_source_value_arm pattern w rest) = Unit {0}
AsMany _ _ = ⊥

module _ (source : Source) (R : ℕ → Tree → Tree → Type 0) (S : List ℕ → Tree → Tree → Type 0) where
  no_arm : (t r : Tree) → makes.ArmsMake R no_value_arms t r → ⊥
  no_arm (tree.Atom w l) r h = h
  no_arm (Inj zero t) r h = h
  no_arm (Inj (suc zero) t) r h = h
  no_arm (Inj (suc (suc i)) t) r h = h
  no_arm (Tup ts) r h = h
  no_arm (Coll ts) r h = h

  no_written_arm : (e : TypeExpr) (t r : Tree) → ArmsMake source S e no_source_value_arms t r → ⊥
  no_written_arm e (tree.Atom w l) r h = h
  no_written_arm e (Inj zero t) r h = h
  no_written_arm e (Inj (suc zero) t) r h = h
  no_written_arm e (Inj (suc (suc i)) t) r h = h
  no_written_arm e (Tup ts) r h = h
  no_written_arm e (Coll ts) r h = h

  -- one more arm
  arm_step : (e : TypeExpr) (bind : Bind) (w : plain.Value) (pattern : Pattern) (v : SourceValue) (arms : plain.ValueArms) (rest : SourceValueArms) → AsMany arms rest
      → ((t r : Tree) → makes.ValueMakes R w (model.bound bind t) r ↔ ValueMakes source S e (binds pattern t) v r)
      → ((t r : Tree) → makes.ArmsMake R arms t r ↔ ArmsMake source S e rest t r)
      → (t r : Tree) → makes.ArmsMake R (value_arm bind w arms) t r ↔ ArmsMake source S e (a_source_value_arm pattern v rest) t r
  arm_step e bind w pattern v no_value_arms (a_source_value_arm p u rest) many one others t r = absurd many
  arm_step e bind w pattern v (value_arm b u arms) no_source_value_arms many one others t r = absurd many
  arm_step e bind w pattern v no_value_arms no_source_value_arms many one others (tree.Atom k l) r = (λ h. h, λ h. h)
  arm_step e bind w pattern v no_value_arms no_source_value_arms many one others (Inj zero t) r = (λ h. h, λ h. h)
  arm_step e bind w pattern v no_value_arms no_source_value_arms many one others (Inj (suc zero) t) r = one t r
  arm_step e bind w pattern v no_value_arms no_source_value_arms many one others (Inj (suc (suc i)) t) r = others (Inj (suc i) t) r
  arm_step e bind w pattern v no_value_arms no_source_value_arms many one others (Tup ts) r = one (Tup ts) r
  arm_step e bind w pattern v no_value_arms no_source_value_arms many one others (Coll ts) r = (λ h. h, λ h. h)
  arm_step e bind w pattern v (value_arm b u arms) (a_source_value_arm p x rest) many one others (tree.Atom k l) r = (λ h. h, λ h. h)
  arm_step e bind w pattern v (value_arm b u arms) (a_source_value_arm p x rest) many one others (Inj zero t) r = (λ h. h, λ h. h)
  arm_step e bind w pattern v (value_arm b u arms) (a_source_value_arm p x rest) many one others (Inj (suc zero) t) r = one t r
  arm_step e bind w pattern v (value_arm b u arms) (a_source_value_arm p x rest) many one others (Inj (suc (suc i)) t) r = others (Inj (suc i) t) r
  arm_step e bind w pattern v (value_arm b u arms) (a_source_value_arm p x rest) many one others (Tup ts) r = (λ h. h, λ h. h)
  arm_step e bind w pattern v (value_arm b u arms) (a_source_value_arm p x rest) many one others (Coll ts) r = (λ h. h, λ h. h)

  as_many : (ss : List Stand) (expected : Option ℕ) (row : SourceValueArms) → length ss ≡ count_value_arms row → AsMany (value_arms_core (setting_of source) ss expected row) row
  as_many ss expected no_source_value_arms l = tt
  as_many [] expected (a_source_value_arm pattern v rest) l = absurd (omega (arith, l))
  as_many (stand ∷ ss) expected (a_source_value_arm pattern v rest) l = tt

  module _ (c : Clean source) (flat : source.universe ≡ Unlabelled) (calls : (text : List ℕ) (f : ℕ) → meaning (names_of source) text ≡ Some (mean.Procedure f) → (t r : Tree) → R f t r ↔ S text t r) where
    -- the one atom of a node
    atom_made : (x : ℕ) (e : TypeExpr) → Holds source x e → is_atom (shape_at_node source x) ≡ true → (r : Tree)
        → (r ≡ tree.Atom (weight_of (shape_at_node source x)) 0) ↔ ((weight : ℕ) × (r ≡ tree.Atom weight 0) × IsOf source e (tree.Atom weight 0))
    atom_made x e h t r =
        let w = weight_of (shape_at_node source x) in
        let form = atom_form (shape_at_node source x) t in
        let label : IsLabel source.universe w 0 = subst (λ (u : Universe). IsLabel u w 0) (sym flat) refl in (
          λ k. (w, k, (held source c x e h (tree.Atom w 0)).0 (subst (λ z. Fits (core source) z (tree.Atom w 0)) (sym form) (refl, label))),
          λ k. let f = subst (λ z. Fits (core source) z (tree.Atom k.0 0)) form ((held source c x e h (tree.Atom k.0 0)).1 k.2) in k.1 ∙ ap (λ n. tree.Atom n 0) f.0,
        )

    mutual
      pub value_made : (v : SourceValue) (scope : List Variable) (env : Environment) (vars : List Tree) → Agree scope env vars → (x : ℕ) (e : TypeExpr) → Holds source x e → ProperValue v
          → value_breaches (setting_of source) scope (Some x) v ≡ [] → (r : Tree) → makes.ValueMakes R (value_core (setting_of source) scope (Some x) v) vars r ↔ ValueMakes source S e env v r
      value_made (Given name) scope env vars agree x e h proper clear r =
          let v = given_found (found scope name) (Some x) name clear in
          let look = looked scope env vars agree name v.0 v.1 in
          (λ k. sym look ∙ k, λ k. look ∙ k)
      value_made (Made callee arg) scope env vars agree x e h proper clear r =
          let s = setting_of source in
          let signature = signature_meant s (meant s callee) in
          let front = procedure_use (meant s callee) callee or_if_none result_breaches (Some x) signature.result callee in
          let argument = argument_breaches (found scope arg) signature.on arg callee in
          let f = procedure_meant (meant s callee) callee (none_first (procedure_use (meant s callee) callee) (result_breaches (Some x) signature.result callee) (nil_left front argument clear)) in
          let v = argument_found (found scope arg) signature.on arg callee (nil_right front argument clear) in
          let look = looked scope env vars agree arg v.0 v.1 in
          let number : procedure_of (meant s callee) ≡ f.0 = ap procedure_of f.1 in (
            λ k. (k.0, sym look ∙ k.1, (calls callee.text f.0 f.1 k.0 r).0 (subst (λ n. R n k.0 r) number k.2)),
            λ k. (k.0, look ∙ k.1, subst (λ n. R n k.0 r) (sym number) ((calls callee.text f.0 f.1 k.0 r).1 k.2)),
          )
      value_made (Atom charge at) scope env vars agree x e h proper clear r =
          let s = setting_of source in
          atom_made x e h (well_placed (is_atom (shape_at s x)) at (codes "atom") (nil_right (charge_use s charge) (misplaced (is_atom (shape_at s x)) at (codes "atom")) clear)) r
      value_made (Tuple parts at) scope env vars agree x e h proper clear r =
          let s = setting_of source in
          let n = count_values parts in
          let form = shape_at_node source x in
          let front = misplaced (has_factors n form) at (codes "product") in
          let inner = values_breaches s scope (part_nodes s (Some x) n) parts in
          let t = well_placed (has_factors n form) at (codes "product") (nil_left front inner clear) in
          let standing : List ℕ = map (λ (part : Part). part.node) (factors form) in
          let nodes : part_nodes s (Some x) n ≡ standing = ap (λ (b : Bool). if b then standing else []) t in
          let many : length (part_nodes s (Some x) n) ≡ n = ap length nodes ∙ (length-map (factors form) (λ (part : Part). part.node) ∙ factors_length n form (product_of n form t)) in
          let kept : (es : List TypeExpr) → IsProductOf source e es → (ts : Trees) → makes.ValuesMake R (values_core s scope (part_nodes s (Some x) n) parts) vars ts ↔ ValuesMake source S es env parts ts =
          λ es p ts. values_made parts scope env vars agree (part_nodes s (Some x) n) es (subst (λ l. AllHold source l es) (sym nodes) (factors_held source c x e es h p)) many proper (nil_right front inner clear) ts in
          let u = factors_up source c x n e h t in (
            λ k. (u.0, k.0, u.1, (kept u.0 u.1 k.0).0 k.1, k.2),
            λ k. (k.1, (kept k.0 k.2 k.1).1 k.3, k.4),
          )
      value_made (Branch number at inner) scope env vars agree x e h proper clear r =
          let s = setting_of source in
          let form = shape_at_node source x in
          let front = misplaced (has_branch number form) at (decimal number) in
          let rest = value_breaches s scope (inner_node s (Some x) number) inner in
          let y = some_is (branch_of form number) (well_placed (has_branch number form) at (decimal number) (nil_left front rest clear)) in
          let clean : value_breaches s scope (Some y.0) inner ≡ [] = subst (λ (o : Option ℕ). value_breaches s scope o inner ≡ []) y.1 (nil_right front rest clear) in
          let same : value_core s scope (inner_node s (Some x) number) inner ≡ value_core s scope (Some y.0) inner = ap (λ (o : Option ℕ). value_core s scope o inner) y.1 in
          let kept : (f : TypeExpr) → Holds source y.0 f → (t : Tree) → makes.ValueMakes R (value_core s scope (inner_node s (Some x) number) inner) vars t ↔ ValueMakes source S f env inner t =
          λ f g t. subst (λ (w : plain.Value). makes.ValueMakes R w vars t ↔ ValueMakes source S f env inner t) (sym same) (value_made inner scope env vars agree y.0 f g proper clean t) in
          let u = union_up source c x e h number y.0 y.1 in
          let b = branch_held source c x e u.0 h u.1 number y.0 y.1 in (
            λ k. (u.0, b.i, b.f, k.0, u.1, b.from_one, b.is, (kept b.f b.holds k.0).0 k.1, k.2),
            λ k.
                let d = branch_held source c x e k.0 h k.4 number y.0 y.1 in
                let place : k.1 ≡ d.i = omega (arith, k.5, d.from_one) in
                let one : k.2 ≡ d.f = some_same k.2 d.f (sym k.6 ∙ (ap (slice_get k.0) place ∙ d.is)) in
                (k.3, (kept d.f d.holds k.3).1 (subst (λ f. ValueMakes source S f env inner k.3) one k.7), k.8),
          )
      value_made (Case var arms) scope env vars agree x e h proper clear r =
          let s = setting_of source in
          let o = found scope var in
          let k = case_fits s o var (count_value_arms arms) (value_arms_breaches s (case_stands s o) (Some x) var arms) clear in
          let look = looked scope env vars agree var k.variable k.is in
          let long : length (case_stands s o) ≡ count_value_arms arms = ap (λ o. length (case_stands s o)) k.is ∙ sym k.many in
          let kept = arms_made arms (case_stands s o) var x e h long proper.1 k.none in (
            λ g. (g.0, sym look ∙ g.1, (kept g.0 r).0 g.2),
            λ g. (g.0, look ∙ g.1, (kept g.0 r).1 g.2),
          )

      values_made : (row : SourceValues) (scope : List Variable) (env : Environment) (vars : List Tree) → Agree scope env vars → (nodes : List ℕ) (es : List TypeExpr) → AllHold source nodes es → length nodes ≡ count_values row → ProperValues row
          → values_breaches (setting_of source) scope nodes row ≡ [] → (ts : Trees) → makes.ValuesMake R (values_core (setting_of source) scope nodes row) vars ts ↔ ValuesMake source S es env row ts
      values_made no_source_values scope env vars agree [] [] h long proper e none = (λ k. tt, λ k. refl)
      values_made no_source_values scope env vars agree [] [] h long proper e (more t ts) = (λ k. absurd (none_more (sym k)), λ k. absurd k)
      values_made no_source_values scope env vars agree [] (f ∷ es) h long proper e ts = absurd h
      values_made no_source_values scope env vars agree (x ∷ nodes) es h long proper e ts = absurd (omega (arith, long))
      values_made (a_source_value v rest) scope env vars agree [] es h long proper e ts = absurd (omega (arith, long))
      values_made (a_source_value v rest) scope env vars agree (x ∷ nodes) [] h long proper e ts = absurd h
      values_made (a_source_value v rest) scope env vars agree (x ∷ nodes) (f ∷ es) h long proper e none = (λ k. absurd (none_more k.4), λ k. absurd k)
      values_made (a_source_value v rest) scope env vars agree (x ∷ nodes) (f ∷ es) h long proper e (more t ts) =
          let s = setting_of source in
          let one = value_made v scope env vars agree x f h.0 proper.0 (nil_left (value_breaches s scope (Some x) v) (values_breaches s scope nodes rest) e) t in
          let others = values_made rest scope env vars agree nodes es h.1 (omega (arith, long)) proper.1 (nil_right (value_breaches s scope (Some x) v) (values_breaches s scope nodes rest) e) ts in (
            λ k.
                let same = more_same k.4 in
                (one.0 (subst (makes.ValueMakes R (value_core s scope (Some x) v) vars) (sym same.0) k.2), others.0 (subst (makes.ValuesMake R (values_core s scope nodes rest) vars) (sym same.1) k.3)),
            λ k. (t, ts, one.1 k.0, others.1 k.1, refl),
          )

      arms_made : (row : SourceValueArms) (ss : List Stand) (var : Name) (x : ℕ) (e : TypeExpr) → Holds source x e → length ss ≡ count_value_arms row → ProperValueArms row
          → value_arms_breaches (setting_of source) ss (Some x) var row ≡ [] → (t r : Tree) → makes.ArmsMake R (value_arms_core (setting_of source) ss (Some x) row) t r ↔ ArmsMake source S e row t r
      arms_made no_source_value_arms ss var x e h l proper clear t r = (λ k. absurd (no_arm t r k), λ k. absurd (no_written_arm e t r k))
      arms_made (a_source_value_arm pattern v rest) [] var x e h l proper clear t r = absurd (omega (arith, l))
      arms_made (a_source_value_arm pattern v rest) (stand ∷ ss) var x e h l proper clear t r =
          let s = setting_of source in
          let scope = patterns.bound s stand pattern in
          let inner = value_breaches s scope (Some x) v in
          let a = arm_fits s stand var pattern inner (nil_left (arm_breaches s stand var pattern inner) (value_arms_breaches s ss (Some x) var rest) clear) in
          let short : length ss ≡ count_value_arms rest = omega (arith, l) in
          arm_step e (bind_of pattern) (value_core s scope (Some x) v) pattern v (value_arms_core s ss (Some x) rest) rest (as_many ss (Some x) rest short)
          (λ u w. value_made v scope (binds pattern u) (model.bound (bind_of pattern) u) (agree_bound s stand pattern u) x e h proper.0 a.1 w)
          (λ u w. arms_made rest ss var x e h short proper.1 (nil_right (arm_breaches s stand var pattern inner) (value_arms_breaches s ss (Some x) var rest) clear) u w) t r
