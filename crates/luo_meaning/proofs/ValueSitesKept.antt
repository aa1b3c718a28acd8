-- Some site of a value's body is some site of the value as written.
use Rattle.std.proofs.Common.{◌≡◌, ◌↔◌, ℕ, ◌+◌, List, [], ◌∷◌, length, Option, Some, None, sym, ap, ◌∙◌, subst, inl, inr, arith}
use Rattle.luo_model.specs.declared.program.Part.{Part}
use Rattle.luo_model.specs.Tree.{Tree}
use Rattle.luo_model.specs.Program.{Arms}
use Rattle.luo_model.specs.Charges.{Charges, CaseCharges}
use Rattle.luo_model.specs.Scopes.ValueBodies as scopes
use Rattle.luo_model.specs.Scopes.Stands.{Stand, stands, part_at, bound_parts}
use Rattle.luo_model.specs.Scopes.ValueBodies.{value_items, values_items, value_arm_bodies}
use Rattle.luo_source.specs.declared.names.Name.{Name}
use Rattle.luo_source.specs.Plain.Types.{TypeExpr}
use Rattle.luo_source.specs.Plain.Values.{SourceValue, Given, Made, Atom, Tuple, Branch, Case, SourceValues, no_source_values, a_source_value, SourceValueArms, no_source_value_arms, a_source_value_arm}
use Rattle.luo_source.specs.Plain.Source.{Source}
use Rattle.luo_rules.specs.declared.setting.Variable.{Variable}
use Rattle.luo_rules.specs.Breaches.{◌or_if_none◌}
use Rattle.luo_rules.specs.Meanings.{procedure_use}
use Rattle.luo_rules.specs.Settings.{meant, signature_meant, found, place_of, argument_breaches, case_stands}
use Rattle.luo_rules.specs.Patterns as patterns
use Rattle.luo_rules.specs.Patterns.{bind_of, arm_breaches}
use Rattle.luo_rules.specs.ValueBreaches.{result_breaches, part_nodes, inner_node, count_values, count_value_arms, value_breaches, values_breaches, value_arms_breaches}
use Rattle.luo_rules.specs.ValueCore.{value_core, values_core, value_arms_core}
use Rattle.luo_rules.specs.Definitions.{names_of, measures}
use Rattle.luo_rules.specs.TypeBreaches.{measures_breaches}
use Rattle.luo_rules.specs.Nodes.{setting_of}
use Rattle.luo_rules.specs.Whole.{core}
use Rattle.luo_rules.proofs.Lists.{some_same, nil_left, nil_right, none_first}
use Rattle.luo_rules.proofs.PatternFacts.{arm_fits, case_fits}
use Rattle.luo_rules.proofs.ProperBodies.{ProperValue, ProperValues, ProperValueArms}
use Rattle.luo_rules.proofs.CleanSource.{Clean}
use Rattle.luo_meaning.specs.Charges.{ValueArmsCharge, ProcCharges}
use Rattle.luo_meaning.specs.Types.{Types, AreStands, BindsTypes}
use Rattle.luo_meaning.specs.Sites.{value_sites, value_arms_sites, SomeValueSite, SomePartSite, SomeValueArm}
use Rattle.luo_meaning.proofs.ValuesKept.{value_arms_kept}
use Rattle.luo_meaning.proofs.ProceduresKept.{keeps_all}
use Rattle.luo_meaning.proofs.SiteWorks.{InItems, InArms}
use Rattle.luo_meaning.proofs.Sits.{shape_at_node}
use Rattle.luo_meaning.proofs.SitesKept.{InNode, InType, Related, At, at_zero, in_join, place_part, call_some}
use Rattle.luo_meaning.proofs.Typing.{SameStands, AgreeTypes, stands_up, stands_down}
use Rattle.luo_meaning.proofs.ValueSites.{value_same, value_arms_same}
use Rattle.luo_meaning.proofs.TypedScopes.{bound_typed, types_bound}

module _ (source : Source) (c : Clean source) (none : measures_breaches (names_of source) 0 (measures source) ≡ []) (Q : InNode) (P : InType) (related : Related source Q P) where
  mutual
    pub value_some : (v : SourceValue) (scope : List Variable) (types : Types) (vars : List Part) → AgreeTypes source scope types vars → (first : ℕ) (expected : Option ℕ) → ProperValue v → value_breaches (setting_of source) scope expected v ≡ []
        → InItems (core source) (At source c none Q P related) vars (value_items first (value_core (setting_of source) scope expected v)) ↔ SomeValueSite source P types first v
    value_some (Given name) scope types vars agree first expected p e = (λ h. h, λ h. h)
    value_some (Made callee arg) scope types vars agree first expected p e =
        let s = setting_of source in
        let signature = signature_meant s (meant s callee) in
        let front = procedure_use (meant s callee) callee or_if_none result_breaches expected signature.result callee in
        let argument = argument_breaches (found scope arg) signature.on arg callee in
        call_some source c none Q P related scope types vars agree first callee arg (none_first (procedure_use (meant s callee) callee) (result_breaches expected signature.result callee) (nil_left front argument e)) signature.on (nil_right front argument e)
    value_some (Atom charge at) scope types vars agree first expected p e = (λ h. h, λ h. h)
    value_some (Tuple parts at) scope types vars agree first expected p e =
        let nodes = part_nodes (setting_of source) expected (count_values parts) in
        values_some parts scope types vars agree first nodes p (nil_right _ (values_breaches (setting_of source) scope nodes parts) e)
    value_some (Branch number at inner) scope types vars agree first expected p e =
        let node = inner_node (setting_of source) expected number in
        value_some inner scope types vars agree first node p (nil_right _ (value_breaches (setting_of source) scope node inner) e)
    value_some (Case var arms) scope types vars agree first expected p e =
        let s = setting_of source in
        let o = found scope var in
        let k = case_fits s o var (count_value_arms arms) (value_arms_breaches s (case_stands s o) expected var arms) e in
        let v = k.variable in
        let t = agree var v k.is in
        let part = place_part source c none Q P related scope types vars var v k.is t in
        let x = part_at vars (place_of o) in
        let cs = case_stands s o in
        let stood : cs ≡ stands v.1 (shape_at_node source v.1.node) = ap (case_stands s) k.is in
        let stood_x : stands x (shape_at_node source x.node) ≡ cs = ap (λ (n : Part). stands n (shape_at_node source n.node)) part ∙ sym stood in
        let long : length cs ≡ count_value_arms arms = ap length stood ∙ sym k.many in
        let core_arms : Arms = value_arm_bodies first (value_arms_core s cs expected arms) in
        let C : Tree → ℕ → Type 0 = λ u q. CaseCharges (Charges (core source)) core_arms u q in
        let D : Tree → ℕ → Type 0 = λ u q. ValueArmsCharge source (ProcCharges source) arms u q in
        let Z : ℕ → Type 0 = λ n. n ≡ 0 in
        let core_site = first + scopes.value_arms_sites (value_arms_core s cs expected arms) in
        let site = first + value_arms_sites arms in
        let numbered : core_site ≡ site = ap (λ n. first + n) (value_arms_same s arms cs var expected long k.none) in
        let r = related site v.1.node t.e C D Z Z t.holds (λ u q. value_arms_kept source (Charges (core source)) (ProcCharges source) s (keeps_all source c none) arms cs var first expected long k.none u q) (at_zero source c none Q P related) in
        let to_site : Q core_site v.1.node C Z → Q site v.1.node C Z = λ h. subst (λ n. Q n v.1.node C Z) numbered h in
        let to_core : Q site v.1.node C Z → Q core_site v.1.node C Z = λ h. subst (λ n. Q n v.1.node C Z) (sym numbered) h in
        let inner : (es : List TypeExpr) → AreStands source t.e es → InArms (core source) (At source c none Q P related) cs core_arms ↔ SomeValueArm source P es first arms =
        λ es are. value_arms_some arms cs es var (subst (λ z. SameStands source z es) (sym stood) (stands_down source c v.1 t.e es t.holds are)) first expected p.1 long k.none in
        let up = stands_up source c v.1 t.e t.holds (omega (arith, k.many, p.0)) in (
          λ h. elim h [
            | inl h ↦ elim h [
              | inl h ↦ (t.e, up.es, t.type, up.are, inl (r.0 (to_site (subst (λ (n : Part). Q core_site n.node C Z) part h))))
              | inr h ↦ (t.e, up.es, t.type, up.are, inr ((inner up.es up.are).0 (subst (λ z. InArms (core source) (At source c none Q P related) z core_arms) stood_x h)))
            ]
            | inr h ↦ absurd h
          ],
          λ h.
              let one : h.0 ≡ t.e = some_same h.0 t.e (sym h.2 ∙ t.type) in
              let are = subst (λ z. AreStands source z h.1) one h.3 in
              elim h.4 [
                | inl g ↦ inl (inl (subst (λ (n : Part). Q core_site n.node C Z) (sym part) (to_core (r.1 (subst (λ z. P site z D Z) one g)))))
                | inr g ↦ inl (inr (subst (λ z. InArms (core source) (At source c none Q P related) z core_arms) (sym stood_x) ((inner h.1 are).1 g)))
              ],
        )

    values_some : (row : SourceValues) (scope : List Variable) (types : Types) (vars : List Part) → AgreeTypes source scope types vars → (first : ℕ) (nodes : List ℕ) → ProperValues row → values_breaches (setting_of source) scope nodes row ≡ []
        → InItems (core source) (At source c none Q P related) vars (values_items first (values_core (setting_of source) scope nodes row)) ↔ SomePartSite source P types first row
    values_some no_source_values scope types vars agree first nodes p e = (λ h. h, λ h. h)
    values_some (a_source_value v rest) scope types vars agree first [] p e =
        let s = setting_of source in
        let core_value = value_core s scope None v in
        let one = value_some v scope types vars agree first None p.0 (nil_left (value_breaches s scope None v) (values_breaches s scope [] rest) e) in
        let same : value_sites v ≡ scopes.value_sites core_value = sym (value_same s v scope None (nil_left (value_breaches s scope None v) (values_breaches s scope [] rest) e)) in
        let more = values_some rest scope types vars agree (first + value_sites v) [] p.1 (nil_right (value_breaches s scope None v) (values_breaches s scope [] rest) e) in
        let join = in_join source c none Q P related vars (value_items first core_value) (values_items (first + scopes.value_sites core_value) (values_core s scope [] rest)) in
        let At' : ℕ → Type 0 = λ n. InItems (core source) (At source c none Q P related) vars (values_items (first + n) (values_core s scope [] rest)) in (
          λ h. elim (join.0 h) [ inl h ↦ inl (one.0 h) | inr h ↦ inr (more.0 (subst At' (sym same) h)) ],
          λ h. elim h [ inl h ↦ join.1 (inl (one.1 h)) | inr h ↦ join.1 (inr (subst At' same (more.1 h))) ],
        )
    values_some (a_source_value v rest) scope types vars agree first (node ∷ nodes) p e =
        let s = setting_of source in
        let core_value = value_core s scope (Some node) v in
        let one = value_some v scope types vars agree first (Some node) p.0 (nil_left (value_breaches s scope (Some node) v) (values_breaches s scope nodes rest) e) in
        let same : value_sites v ≡ scopes.value_sites core_value = sym (value_same s v scope (Some node) (nil_left (value_breaches s scope (Some node) v) (values_breaches s scope nodes rest) e)) in
        let more = values_some rest scope types vars agree (first + value_sites v) nodes p.1 (nil_right (value_breaches s scope (Some node) v) (values_breaches s scope nodes rest) e) in
        let join = in_join source c none Q P related vars (value_items first core_value) (values_items (first + scopes.value_sites core_value) (values_core s scope nodes rest)) in
        let At' : ℕ → Type 0 = λ n. InItems (core source) (At source c none Q P related) vars (values_items (first + n) (values_core s scope nodes rest)) in (
          λ h. elim (join.0 h) [ inl h ↦ inl (one.0 h) | inr h ↦ inr (more.0 (subst At' (sym same) h)) ],
          λ h. elim h [ inl h ↦ join.1 (inl (one.1 h)) | inr h ↦ join.1 (inr (subst At' same (more.1 h))) ],
        )

    value_arms_some : (row : SourceValueArms) (ss : List Stand) (es : List TypeExpr) (var : Name) → SameStands source ss es → (first : ℕ) (expected : Option ℕ) → ProperValueArms row → length ss ≡ count_value_arms row → value_arms_breaches (setting_of source) ss expected var row ≡ []
        → InArms (core source) (At source c none Q P related) ss (value_arm_bodies first (value_arms_core (setting_of source) ss expected row)) ↔ SomeValueArm source P es first row
    value_arms_some no_source_value_arms [] [] var stand first expected p l e = (λ h. h, λ h. h)
    value_arms_some no_source_value_arms [] (f ∷ es) var stand first expected p l e = absurd stand
    value_arms_some no_source_value_arms (t ∷ ss) es var stand first expected p l e = absurd (omega (arith, l))
    value_arms_some (a_source_value_arm pattern v rest) [] es var stand first expected p l e = absurd (omega (arith, l))
    value_arms_some (a_source_value_arm pattern v rest) (t ∷ ss) [] var stand first expected p l e = absurd stand
    value_arms_some (a_source_value_arm pattern v rest) (t ∷ ss) (f ∷ es) var stand first expected p l e =
        let s = setting_of source in
        let inner = value_breaches s (patterns.bound s t pattern) expected v in
        let a = arm_fits s t var pattern inner (nil_left (arm_breaches s t var pattern inner) (value_arms_breaches s ss expected var rest) e) in
        let core_value = value_core s (patterns.bound s t pattern) expected v in
        let body_some : (types : Types) → BindsTypes source pattern f types → InItems (core source) (At source c none Q P related) (bound_parts (core source) t (bind_of pattern)) (value_items first core_value) ↔ SomeValueSite source P types first v =
        λ types b. value_some v (patterns.bound s t pattern) types (bound_parts (core source) t (bind_of pattern)) (bound_typed source c t pattern f types stand.0 b) first expected p.0 a.1 in
        let up = types_bound source c t pattern f stand.0 a.0 in
        let same : value_sites v ≡ scopes.value_sites core_value = sym (value_same s v (patterns.bound s t pattern) expected a.1) in
        let At' : ℕ → Type 0 = λ n. InArms (core source) (At source c none Q P related) ss (value_arm_bodies (first + n) (value_arms_core s ss expected rest)) in
        let more = value_arms_some rest ss es var stand.1 (first + value_sites v) expected p.1 (omega (arith, l)) (nil_right (arm_breaches s t var pattern inner) (value_arms_breaches s ss expected var rest) e) in (
          λ h. elim h [ inl h ↦ inl (up.0, up.1, (body_some up.0 up.1).0 h) | inr h ↦ inr (more.0 (subst At' (sym same) h)) ],
          λ h. elim h [ inl g ↦ inl ((body_some g.0 g.1).1 g.2) | inr h ↦ inr (subst At' same (more.1 h)) ],
        )
