-- What values break by nodes, and by types in their places.
use Rattle.std.proofs.Common.{◌≡◌, ◌↔◌, ℕ, zero, suc, List, [], ◌∷◌, Option, Some, None, Bool, true, false, slice_get, refl, sym, ap, ◌∙◌, subst, inl, inr, codes}
use Rattle.std.specs.Prelude.{if◌then◌else◌, decimal, is_some}
use Rattle.std.specs.Option.{option_map}
use Rattle.luo_model.specs.declared.program.Part.{Part}
use Rattle.luo_model.specs.declared.program.Shape.{Shape}
use Rattle.luo_model.specs.Scopes.Stands.{Stand, factors}
use Rattle.luo_source.specs.declared.names.Name.{Name}
use Rattle.luo_source.specs.Plain.Values.{SourceValue, Given, Made, Atom, Tuple, Branch, Case, SourceValues, no_source_values, a_source_value, SourceValueArms, no_source_value_arms, a_source_value_arm}
use Rattle.luo_source.specs.Plain.Source.{ProcDef, Source}
use Rattle.luo_rules.specs.declared.setting.Signature.{Signature}
use Rattle.luo_rules.specs.declared.setting.Variable.{Variable}
use Rattle.luo_rules.specs.declared.rule.Breach.{Breach}
use Rattle.luo_rules.specs.Settings.{meant, signature_meant, found, case_stands}
use Rattle.luo_rules.specs.Patterns.{has_factors, bound}
use Rattle.luo_rules.specs.ValueBreaches.{is_atom, part_nodes, branch_at, branch_of, has_branch, inner_node, count_values, count_value_arms}
use Rattle.luo_rules.specs.Definitions.{definitions, names_of}
use Rattle.luo_rules.specs.inner.Naming.{node_of}
use Rattle.luo_rules.specs.Nodes.{setting_of, named_node, result_name, signature_of}
use Rattle.luo_rules.specs.Asked.{Asked, a_procedure, uses, reads, hands, gives, makes, builds, charge_asked, arm_asked, value_asked, values_asked, value_arms_asked}
use Rattle.luo_rules.specs.Broken.{other_variable, no_result, other_result, other_construct}
use Rattle.luo_rules.proofs.Lists.{some_same, none_some}
use Rattle.luo_rules.proofs.DefinitionFacts.{SoundAll}
use Rattle.luo_meaning.specs.Places.{Placed, of_name, IsAtomAt}
use Rattle.luo_meaning.specs.Scopes.{Scope, type_at, Look, looked_at, HasFactors}
use Rattle.luo_meaning.specs.Broken.{OtherVariable, OtherResult, OtherConstruct, IsBranchAt, HasBranch, WantedParts, the_factors, no_factors, nothing_known, WantedInside, the_branch, no_branch, none_known, ValueBreaks, ValuesBreak, ValueArmsBreak}
use Rattle.luo_meaning.proofs.Held.{some_is}
use Rattle.luo_meaning.proofs.Sits.{shape_at_node}
use Rattle.luo_meaning.proofs.PlacedTypes.{HoldsAt, AllHoldAt, nodes_of, name_holds, same_type, union_held, product_held, collection_held, atom_held, Sorted, a_union, a_product, a_collection, an_atom, sorted}
use Rattle.luo_meaning.proofs.BrokenNames.{or_iff, then_iff, Asks, One, asks_nil, asks_cons, asks_append, asks_one, some_of_names, charge_names}
use Rattle.luo_meaning.proofs.BrokenScopes.{false_true, not_true, Found, AgreeScope, found_agree, AgreeLooks, look_holds, factors_same, bound_agrees, signature_there, procedure_there, known_result, unknown_result, result_is}
use Rattle.luo_meaning.proofs.BrokenStatements.{unbound_same, call_same, arm_same, case_same}

-- where something is broken, something is wanted
given_some : (source : Source) (scope : List Variable) (o : Option ℕ) (var : Name) (b : Breach) → One source (gives scope o var) b → (n : ℕ) × (o ≡ Some n)
given_some source scope o var b (other_variable node variable e differ) = (node, refl)

made_some : (source : Source) (o : Option ℕ) (callee : Name) (b : Breach) → One source (makes o callee) b → (n : ℕ) × (o ≡ Some n)
made_some source o callee b (no_result node is e) = (node, refl)
made_some source o callee b (other_result node given is e differ) = (node, refl)

built_some : (source : Source) (test : Shape → Bool) (o : Option ℕ) (at : ℕ) (text : List ℕ) (b : Breach) → One source (builds test o at text) b → (n : ℕ) × (o ≡ Some n)
built_some source test o at text b (other_construct node f) = (node, refl)

module _ (source : Source) (all : SoundAll source.universe (names_of source) (definitions source)) where
  -- what is wanted, by its node and by its type
  abbrev pub AgreeWanted : Option ℕ → Option Placed → Type 0
  AgreeWanted None None = Unit {0}
  AgreeWanted (Some x) (Some a) = HoldsAt source x a
  AgreeWanted _ _ = ⊥

  -- a variable of another type
  gives_same : (scope : List Variable) (types : Scope) → AgreeScope source scope types → (o : Option ℕ) (w : Option Placed) → AgreeWanted o w → (var : Name) (b : Breach) → One source (gives scope o var) b ↔ OtherVariable source types w var b
  gives_same scope types agree None None g var b = (forth b, λ h. absurd (none_some h.0 h.2))
    where
      forth : (b : Breach) → One source (gives scope None var) b → OtherVariable source types None var b
      forth b h = let k = given_some source scope None var b h in absurd (none_some k.0 k.1)
  gives_same scope types agree None (Some a) g var b = absurd g
  gives_same scope types agree (Some x) None g var b = absurd g
  gives_same scope types agree (Some x) (Some e) g var b = (forth b, back)
    where
      both : Found source (found scope var) (type_at types var.text)
      both = found_agree source scope types agree var

      forth : (b : Breach) → One source (gives scope (Some x) var) b → OtherVariable source types (Some e) var b
      forth b (other_variable node variable is differ) = elim both [
        | inl h ↦ absurd (none_some variable (sym h.0 ∙ is))
        | inr (v, a, f, t, h) ↦
            let same : v ≡ variable = some_same v variable (sym f ∙ is) in
            (e, a, refl, t, (λ s. differ (sym (ap (λ (z : ℕ × Part). z.1.node) same) ∙ (same_type source all v.1.node x a e h g).0 s)), refl)
      ]

      back : OtherVariable source types (Some e) var b → One source (gives scope (Some x) var) b
      back (d, a, w, t, differ, is) = elim both [
        | inl h ↦ absurd (none_some a (sym h.1 ∙ t))
        | inr (v, other, f, u, h) ↦
            let one : other ≡ a = some_same other a (sym u ∙ t) in
            let wanted : e ≡ d = some_same e d w in
            subst (One source (gives scope (Some x) var)) (sym is)
            (other_variable x v f (λ s. differ ((same_type source all v.1.node x a d (subst (HoldsAt source v.1.node) one h) (subst (HoldsAt source x) wanted g)).1 s)))
      ]

  -- a procedure with another result, or with none
  makes_same : (o : Option ℕ) (w : Option Placed) → AgreeWanted o w → (callee : Name) (b : Breach) → One source (makes o callee) b ↔ OtherResult source w callee b
  makes_same None None g callee b = ((λ h. let k = made_some source None callee b h in absurd (none_some k.0 k.1)), λ h. absurd (none_some h.0 h.2))
  makes_same None (Some a) g callee b = absurd g
  makes_same (Some x) None g callee b = absurd g
  makes_same (Some x) (Some e) g callee b = (forth b, back)
    where
      forth : (b : Breach) → One source (makes (Some x) callee) b → OtherResult source (Some e) callee b
      forth b (no_result node is none) =
          let p = procedure_there source all callee is.0 is.1 in
          let none_here = sym (ap (λ (z : Signature). z.result) (signature_there source all callee p.0 p.1)) ∙ none in
          (e, p.0, refl, p.1, inl (unknown_result source all p.0 none_here), refl)
      forth b (other_result node given is result differ) =
          let p = procedure_there source all callee is.0 is.1 in
          let here = sym (ap (λ (z : Signature). z.result) (signature_there source all callee p.0 p.1)) ∙ result in
          let r = known_result source all p.0 given here in
          (e, p.0, refl, p.1, inr (r.0, r.1, r.2, (λ s. differ ((same_type source all given x (of_name r.0) e r.3 g).0 s))), refl)

      back : OtherResult source (Some e) callee b → One source (makes (Some x) callee) b
      back (d, p, w, means, k, is) =
          let wanted : e ≡ d = some_same e d w in
          let signature : (signature_meant (setting_of source) (meant (setting_of source) callee)).result ≡ (signature_of (names_of source) (definitions source) p).result = ap (λ (z : Signature). z.result) (signature_there source all callee p means) in
          subst (One source (makes (Some x) callee)) (sym is)
          (elim k [
            | inl none ↦ no_result x (means.0, means.1) (signature ∙ none_of p none)
            | inr (r, named, t, differ) ↦
                other_result x (node_of (names_of source) (definitions source) t.0) (means.0, means.1) (signature ∙ result_is source all p r named t)
                (λ s. differ ((same_type source all _ x (of_name r) d (name_holds source all r t.0 t.1) (subst (HoldsAt source x) wanted g)).1 s))
          ])
        where
          none_of : (p : ProcDef) → result_name p.body ≡ None → (signature_of (names_of source) (definitions source) p).result ≡ None
          none_of p e = ap (option_map (named_node (names_of source) (definitions source))) e

  -- a construct of another form
  builds_same : (test : Shape → Bool) (Is : Placed → Type 0) → ((x : ℕ) (e : Placed) → HoldsAt source x e → Is e ↔ (test (shape_at_node source x) ≡ true)) → (o : Option ℕ) (w : Option Placed) → AgreeWanted o w → (at : ℕ) (text : List ℕ) (b : Breach)
      → One source (builds test o at text) b ↔ OtherConstruct source Is w at text b
  builds_same test Is same None None g at text b = ((λ h. let k = built_some source test None at text b h in absurd (none_some k.0 k.1)), λ h. absurd (none_some h.0 h.1))
  builds_same test Is same None (Some a) g at text b = absurd g
  builds_same test Is same (Some x) None g at text b = absurd g
  builds_same test Is same (Some x) (Some e) g at text b = (forth b, back)
    where
      forth : (b : Breach) → One source (builds test (Some x) at text) b → OtherConstruct source Is (Some e) at text b
      forth b (other_construct node f) = (e, refl, (λ i. false_true (test (shape_at_node source x)) f ((same x e g).0 i)), refl)

      back : OtherConstruct source Is (Some e) at text b → One source (builds test (Some x) at text) b
      back (d, w, n, is) =
          let wanted : e ≡ d = some_same e d w in
          subst (One source (builds test (Some x) at text)) (sym is) (other_construct x (not_true (test (shape_at_node source x)) (λ t. n ((same x d (subst (HoldsAt source x) wanted g)).1 t))))

  atom_same : (x : ℕ) (e : Placed) → HoldsAt source x e → IsAtomAt source e ↔ (is_atom (shape_at_node source x) ≡ true)
  atom_same x e h = (λ u. let k = atom_held source all x e h u in ap is_atom k.1, λ t. back t (sorted source all x e h))
    where
      back : is_atom (shape_at_node source x) ≡ true → Sorted source all e → IsAtomAt source e
      back t (a_union parts u) = absurd (false_true (is_atom (shape_at_node source x)) (ap is_atom (union_held source all x e parts h u).is) t)
      back t (a_product parts u) = absurd (false_true (is_atom (shape_at_node source x)) (ap is_atom (product_held source all x e parts h u).is) t)
      back t (a_collection f u) = absurd (false_true (is_atom (shape_at_node source x)) (ap is_atom (collection_held source all x e f h u).is) t)
      back t (an_atom u) = u

  -- branches by their numbers
  branch_get : (ps : List Part) (parts : List Placed) → AllHoldAt source (nodes_of ps) parts → (number y : ℕ) → branch_at ps number ≡ Some y → (i : ℕ) × (f : Placed) × (number ≡ suc i) × (slice_get parts i ≡ Some f) × HoldsAt source y f
  branch_get [] parts h number y e = absurd (none_some y e)
  branch_get (p ∷ ps) [] h number y e = absurd h
  branch_get (p ∷ ps) (a ∷ parts) h zero y e = absurd (none_some y e)
  branch_get (p ∷ ps) (a ∷ parts) h (suc zero) y e = (0, a, refl, refl, subst (λ n. HoldsAt source n a) (some_same p.node y e) h.0)
  branch_get (p ∷ ps) (a ∷ parts) h (suc (suc n)) y e = let r = branch_get ps parts h.1 (suc n) y e in (suc r.0, r.1, ap suc r.2, r.3, r.4)

  get_branch : (ps : List Part) (parts : List Placed) → AllHoldAt source (nodes_of ps) parts → (i : ℕ) (f : Placed) → slice_get parts i ≡ Some f → (y : ℕ) × (branch_at ps (suc i) ≡ Some y) × HoldsAt source y f
  get_branch [] [] h i f e = absurd (none_some f e)
  get_branch [] (a ∷ parts) h i f e = absurd h
  get_branch (p ∷ ps) [] h i f e = absurd h
  get_branch (p ∷ ps) (a ∷ parts) h zero f e = (p.node, refl, subst (HoldsAt source p.node) (some_same a f e) h.0)
  get_branch (p ∷ ps) (a ∷ parts) h (suc i) f e = get_branch ps parts h.1 i f e

  branch_down : (x : ℕ) (e f : Placed) (number : ℕ) → HoldsAt source x e → IsBranchAt source number e f → (y : ℕ) × (branch_of (shape_at_node source x) number ≡ Some y) × HoldsAt source y f
  branch_down x e f number h (parts, i, u, n, g) =
      let k = union_held source all x e parts h u in
      let r = get_branch k.ps parts k.hold i f g in
      (r.0, ap (λ z. branch_of z number) k.is ∙ (ap (branch_at k.ps) n ∙ r.1), r.2)

  branch_up : (x : ℕ) (e : Placed) (number y : ℕ) → HoldsAt source x e → branch_of (shape_at_node source x) number ≡ Some y → (f : Placed) × IsBranchAt source number e f × HoldsAt source y f
  branch_up x e number y h b = by (sorted source all x e h)
    where
      by : Sorted source all e → (f : Placed) × IsBranchAt source number e f × HoldsAt source y f
      by (a_union parts u) =
          let k = union_held source all x e parts h u in
          let r = branch_get k.ps parts k.hold number y (sym (ap (λ z. branch_of z number) k.is) ∙ b) in
          (r.1, (parts, r.0, u, r.2, r.3), r.4)
      by (a_product parts u) = absurd (none_some y (sym (ap (λ z. branch_of z number) (product_held source all x e parts h u).is) ∙ b))
      by (a_collection f u) = absurd (none_some y (sym (ap (λ z. branch_of z number) (collection_held source all x e f h u).is) ∙ b))
      by (an_atom u) = absurd (none_some y (sym (ap (λ z. branch_of z number) (atom_held source all x e h u).1) ∙ b))

  branch_same : (number x : ℕ) (e : Placed) → HoldsAt source x e → HasBranch source number e ↔ (has_branch number (shape_at_node source x) ≡ true)
  branch_same number x e h = (
    λ u. let k = branch_down x e u.0 number h u.1 in ap is_some k.1,
    λ t. let y = some_is (branch_of (shape_at_node source x) number) t in let k = branch_up x e number y.0 h y.1 in (k.0, k.1),
  )

  -- what is wanted of parts
  abbrev AgreeParts : List ℕ → List Placed → Type 0
  AgreeParts xs es = AllHoldAt source xs es

  chosen : (c : Bool) (xs ys : List ℕ) → c ≡ true → (if c then xs else ys) ≡ xs
  chosen true xs ys e = refl
  chosen false xs ys e = absurd (cc)

  other_chosen : (c : Bool) (xs ys : List ℕ) → c ≡ false → (if c then xs else ys) ≡ ys
  other_chosen true xs ys e = absurd (cc)
  other_chosen false xs ys e = refl

  parts_agree : (o : Option ℕ) (w : Option Placed) (k : ℕ) (es : List Placed) → AgreeWanted o w → WantedParts source w k es → AgreeParts (part_nodes (setting_of source) o k) es
  parts_agree None None k es g (the_factors e parts is u n) = absurd (none_some e is)
  parts_agree None None k es g (no_factors e is n) = absurd (none_some e is)
  parts_agree None None k es g (nothing_known is) = tt
  parts_agree None (Some a) k es g p = absurd g
  parts_agree (Some x) None k es g p = absurd g
  parts_agree (Some x) (Some a) k es g (the_factors e parts is u n) =
      let h : HoldsAt source x e = subst (HoldsAt source x) (some_same a e is) g in
      let t = (factors_same source all x e k h).0 (parts, u, n) in
      let p = product_held source all x e parts h u in
      subst (λ xs. AgreeParts xs parts) (sym (chosen (has_factors k (shape_at_node source x)) (nodes_of (factors (shape_at_node source x))) [] t)) (subst (λ z. AgreeParts (nodes_of (factors z)) parts) (sym p.is) p.hold)
  parts_agree (Some x) (Some a) k es g (no_factors e is n) =
      let h : HoldsAt source x e = subst (HoldsAt source x) (some_same a e is) g in
      let t = not_true (has_factors k (shape_at_node source x)) (λ t. n ((factors_same source all x e k h).1 t)) in
      subst (λ xs. AgreeParts xs []) (sym (other_chosen (has_factors k (shape_at_node source x)) (nodes_of (factors (shape_at_node source x))) [] t)) tt
  parts_agree (Some x) (Some a) k es g (nothing_known is) = absurd (none_some a (sym is))

  parts_wanted : (o : Option ℕ) (w : Option Placed) (k : ℕ) → AgreeWanted o w → (es : List Placed) × WantedParts source w k es
  parts_wanted None None k g = ([], nothing_known refl)
  parts_wanted None (Some a) k g = absurd g
  parts_wanted (Some x) None k g = absurd g
  parts_wanted (Some x) (Some a) k g = by (has_factors k (shape_at_node source x)) refl
    where
      by : (c : Bool) → has_factors k (shape_at_node source x) ≡ c → (es : List Placed) × WantedParts source (Some a) k es
      by true e = let p = (factors_same source all x a k g).1 e in (p.0, the_factors a p.0 refl p.1 p.2)
      by false e = ([], no_factors a refl (λ p. false_true (has_factors k (shape_at_node source x)) e ((factors_same source all x a k g).0 p)))

  inside_agrees : (o : Option ℕ) (w : Option Placed) (number : ℕ) (i : Option Placed) → AgreeWanted o w → WantedInside source w number i → AgreeWanted (inner_node (setting_of source) o number) i
  inside_agrees None None number i g (the_branch e f is u) = absurd (none_some e is)
  inside_agrees None None number i g (no_branch e is n) = absurd (none_some e is)
  inside_agrees None None number i g (none_known is) = tt
  inside_agrees None (Some a) number i g p = absurd g
  inside_agrees (Some x) None number i g p = absurd g
  inside_agrees (Some x) (Some a) number i g (the_branch e f is u) =
      let h : HoldsAt source x e = subst (HoldsAt source x) (some_same a e is) g in
      let k = branch_down x e f number h u in
      subst (λ o. AgreeWanted o (Some f)) (sym k.1) k.2
  inside_agrees (Some x) (Some a) number i g (no_branch e is n) = by (branch_of (shape_at_node source x) number) refl
    where
      h : HoldsAt source x e
      h = subst (HoldsAt source x) (some_same a e is) g

      by : (o : Option ℕ) → branch_of (shape_at_node source x) number ≡ o → AgreeWanted (branch_of (shape_at_node source x) number) None
      by None f = subst (λ o. AgreeWanted o None) (sym f) tt
      by (Some y) f = let k = branch_up x e number y h f in absurd (n (k.0, k.1))
  inside_agrees (Some x) (Some a) number i g (none_known is) = absurd (none_some a (sym is))

  inside_wanted : (o : Option ℕ) (w : Option Placed) (number : ℕ) → AgreeWanted o w → (i : Option Placed) × WantedInside source w number i
  inside_wanted None None number g = (None, none_known refl)
  inside_wanted None (Some a) number g = absurd g
  inside_wanted (Some x) None number g = absurd g
  inside_wanted (Some x) (Some a) number g = by (branch_of (shape_at_node source x) number) refl
    where
      by : (o : Option ℕ) → branch_of (shape_at_node source x) number ≡ o → (i : Option Placed) × WantedInside source (Some a) number i
      by None f = (None, no_branch a refl (λ u. let k = branch_down x a u.0 number g u.1 in none_some k.0 (sym f ∙ k.1)))
      by (Some y) f = let k = branch_up x a number y g f in (Some k.0, the_branch a k.0 refl k.1)

  mutual
    pub value_same : (v : SourceValue) (scope : List Variable) (types : Scope) → AgreeScope source scope types → (o : Option ℕ) (w : Option Placed) → AgreeWanted o w → (b : Breach) → Asks source (value_asked (setting_of source) scope o v) b ↔ ValueBreaks source types w v b
    value_same (Given var) scope types agree o w g b =
        then_iff (asks_cons source (reads scope var) (gives scope o var ∷ []) b)
        (or_iff (unbound_same source all scope types agree var b) (then_iff (asks_one source (gives scope o var) b) (gives_same scope types agree o w g var b)))
    value_same (Made callee arg) scope types agree o w g b =
        let rest : List Asked = reads scope arg ∷ (hands scope arg callee ∷ []) in
        let first = asks_cons source (uses a_procedure callee) (makes o callee ∷ rest) b in
        let second = asks_cons source (makes o callee) rest b in
        let joined = asks_cons source (uses a_procedure callee) rest b in
        let call = call_same source all scope types agree callee arg b in
        let made = makes_same o w g callee b in (
          λ h. elim (first.0 h) [ inl u ↦ inr (call.0 (joined.1 (inl u))) | inr k ↦ elim (second.0 k) [ inl m ↦ inl (made.0 m) | inr r ↦ inr (call.0 (joined.1 (inr r))) ] ],
          λ h. elim h [ inl m ↦ first.1 (inr (second.1 (inl (made.1 m)))) | inr c ↦ elim (joined.0 (call.1 c)) [ inl u ↦ first.1 (inl u) | inr r ↦ first.1 (inr (second.1 (inr r))) ] ],
        )
    value_same (Atom charge at) scope types agree o w g b =
        then_iff (asks_append source (charge_asked charge) (builds is_atom o at (codes "atom") ∷ []) b)
        (or_iff (some_of_names source (charge_asked charge) b (charge_names source charge)) (then_iff (asks_one source (builds is_atom o at (codes "atom")) b) (builds_same is_atom (IsAtomAt source) atom_same o w g at (codes "atom") b)))
    value_same (Tuple parts at) scope types agree o w g b =
        let k = count_values parts in
        let nodes = part_nodes (setting_of source) o k in
        let built = builds_same (has_factors k) (λ e. HasFactors source e k) (λ x e h. factors_same source all x e k h) o w g at (codes "product") b in
        let join = asks_cons source (builds (has_factors k) o at (codes "product")) (values_asked (setting_of source) scope nodes parts) b in
        let inner : (es : List Placed) → WantedParts source w k es → Asks source (values_asked (setting_of source) scope nodes parts) b ↔ ValuesBreak source types es parts b = λ es p. values_same parts scope types agree nodes es (parts_agree o w k es g p) b in
        let some = parts_wanted o w k g in (
          λ h. elim (join.0 h) [ inl c ↦ inl (built.0 c) | inr i ↦ inr (some.0, some.1, (inner some.0 some.1).0 i) ],
          λ h. elim h [ inl c ↦ join.1 (inl (built.1 c)) | inr (es, p, i) ↦ join.1 (inr ((inner es p).1 i)) ],
        )
    value_same (Branch number at v) scope types agree o w g b =
        let node = inner_node (setting_of source) o number in
        let built = builds_same (has_branch number) (HasBranch source number) (branch_same number) o w g at (decimal number) b in
        let join = asks_cons source (builds (has_branch number) o at (decimal number)) (value_asked (setting_of source) scope node v) b in
        let inner : (i : Option Placed) → WantedInside source w number i → Asks source (value_asked (setting_of source) scope node v) b ↔ ValueBreaks source types i v b = λ i p. value_same v scope types agree node i (inside_agrees o w number i g p) b in
        let some = inside_wanted o w number g in (
          λ h. elim (join.0 h) [ inl c ↦ inl (built.0 c) | inr i ↦ inr (some.0, some.1, (inner some.0 some.1).0 i) ],
          λ h. elim h [ inl c ↦ join.1 (inl (built.1 c)) | inr (i, p, k) ↦ join.1 (inr ((inner i p).1 k)) ],
        )
    value_same (Case var arms) scope types agree o w g b =
        let ss = case_stands (setting_of source) (found scope var) in
        case_same source all scope types agree var (count_value_arms arms) (value_arms_asked (setting_of source) ss o var arms) b (λ looks. ValueArmsBreak source looks w var arms b)
        (λ looks agree_looks. value_arms_same arms ss looks o w g var agree_looks b)

    values_same : (row : SourceValues) (scope : List Variable) (types : Scope) → AgreeScope source scope types → (xs : List ℕ) (es : List Placed) → AgreeParts xs es → (b : Breach) → Asks source (values_asked (setting_of source) scope xs row) b ↔ ValuesBreak source types es row b
    values_same no_source_values scope types agree [] es g b = asks_nil source b
    values_same no_source_values scope types agree (x ∷ xs) es g b = asks_nil source b
    values_same (a_source_value v rest) scope types agree [] [] g b =
        then_iff (asks_append source (value_asked (setting_of source) scope None v) (values_asked (setting_of source) scope [] rest) b) (or_iff (value_same v scope types agree None None tt b) (values_same rest scope types agree [] [] tt b))
    values_same (a_source_value v rest) scope types agree [] (e ∷ es) g b = absurd g
    values_same (a_source_value v rest) scope types agree (x ∷ xs) [] g b = absurd g
    values_same (a_source_value v rest) scope types agree (x ∷ xs) (e ∷ es) g b =
        then_iff (asks_append source (value_asked (setting_of source) scope (Some x) v) (values_asked (setting_of source) scope xs rest) b) (or_iff (value_same v scope types agree (Some x) (Some e) g.0 b) (values_same rest scope types agree xs es g.1 b))

    value_arms_same : (row : SourceValueArms) (ss : List Stand) (looks : List Look) (o : Option ℕ) (w : Option Placed) → AgreeWanted o w → (var : Name) → AgreeLooks source ss looks → (b : Breach) → Asks source (value_arms_asked (setting_of source) ss o var row) b ↔ ValueArmsBreak source looks w var row b
    value_arms_same no_source_value_arms [] [] o w g var agree b = asks_nil source b
    value_arms_same no_source_value_arms [] (l ∷ looks) o w g var agree b = absurd agree
    value_arms_same no_source_value_arms (s ∷ ss) [] o w g var agree b = absurd agree
    value_arms_same no_source_value_arms (s ∷ ss) (l ∷ looks) o w g var agree b = asks_nil source b
    value_arms_same (a_source_value_arm pattern v rest) [] [] o w g var agree b = asks_nil source b
    value_arms_same (a_source_value_arm pattern v rest) [] (l ∷ looks) o w g var agree b = absurd agree
    value_arms_same (a_source_value_arm pattern v rest) (s ∷ ss) [] o w g var agree b = absurd agree
    value_arms_same (a_source_value_arm pattern v rest) (s ∷ ss) (l ∷ looks) o w g var agree b =
        let inner = value_asked (setting_of source) (bound (setting_of source) s pattern) o v in
        let one = arm_same source all s l agree.0 var pattern inner b (λ scope. ValueBreaks source scope w v b)
        (λ scope binds. value_same v (bound (setting_of source) s pattern) scope (bound_agrees source all s pattern (looked_at l) scope (look_holds source s l agree.0) binds) o w g b) in
        let more = value_arms_same rest ss looks o w g var agree.1 b in
        let join = asks_append source (arm_asked (setting_of source) s var pattern inner) (value_arms_asked (setting_of source) ss o var rest) b in (
          λ h. elim (join.0 h) [ inl g ↦ elim (one.0 g) [ inl k ↦ inl k | inr k ↦ inr (inl k) ] | inr g ↦ inr (inr (more.0 g)) ],
          λ h. elim h [ inl k ↦ join.1 (inl (one.1 (inl k))) | inr h ↦ elim h [ inl k ↦ join.1 (inl (one.1 (inr k))) | inr g ↦ join.1 (inr (more.1 g)) ] ],
        )
