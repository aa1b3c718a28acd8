-- What a source breaks by the nodes of its core form, and by its types as they are written.
use Rattle.std.proofs.Common.{◌≡◌, ◌↔◌, ℕ, suc, ◌≤◌, List, [], ◌∷◌, map, Option, Some, None, refl, sym, ap, ◌∙◌, subst, inl, inr, arith}
use Rattle.luo_finite.specs.Listing.{In}
use Rattle.luo_source.specs.declared.names.Name.{Name}
use Rattle.luo_source.specs.Plain.Source.{ProcBody, Statements, Value, ProcDef, Source}
use Rattle.luo_rules.specs.declared.names.Meaning.TheVariants as mean
use Rattle.luo_rules.specs.declared.rule.Breach.{Breach}
use Rattle.luo_rules.specs.Breaches.{◌or_if_none◌}
use Rattle.luo_rules.specs.Settings.{meant, node_meant, type_node, part_meant}
use Rattle.luo_rules.specs.Definitions.{definitions, measures, names_of}
use Rattle.luo_rules.specs.TypeBreaches.{types_breaches, measures_breaches}
use Rattle.luo_rules.specs.Nodes.{setting_of}
use Rattle.luo_rules.specs.Whole.{parameter, breaches}
use Rattle.luo_rules.specs.Checks.{IsSource, BreaksFirst}
use Rattle.luo_rules.specs.Asked.{Asked, a_type, a_procedure, defines, uses, results, value_asked, body_asked, procs_asked, first_asked, later_asked}
use Rattle.luo_rules.proofs.Lists.{none_some, nil_left}
use Rattle.luo_rules.proofs.AskedBreaches.{own, all, first_of, later_of, first_all, later_all}
use Rattle.luo_rules.proofs.BrokenLemmas.{In_flat, flat_In, own_breaks, breaks_own}
use Rattle.luo_rules.proofs.CleanSource.{sound_all}
use Rattle.luo_rules.proofs.DefinitionFacts.{SoundAll}
use Rattle.luo_rules.proofs.ProperSource.{source_proper}
use Rattle.luo_rules.proofs.Rise.Source.{first_breach_is_least, breaches_are_single}
use Rattle.luo_meaning.specs.Places.{Placed, of_name}
use Rattle.luo_meaning.specs.Scopes.{one_variable}
use Rattle.luo_meaning.specs.Broken.{WantedResult, the_type, no_type, ValueBreaks, BodyBreaks, ProcBreaks, ProcsBreak, DefinitionsBreak, ProceduresBreak, IsBrokenIn, IsFirstBrokenIn}
use Rattle.luo_meaning.proofs.PlacedTypes.{name_holds}
use Rattle.luo_meaning.proofs.BrokenNames.{or_iff, then_iff, Asks, asks_nil, asks_cons, asks_append, of_names, some_of_names, first_names, line_names}
use Rattle.luo_meaning.proofs.BrokenScopes.{AgreeScope, one_agrees, type_node_is, type_node_means, type_holds}
use Rattle.luo_meaning.proofs.BrokenStatements.{stmts_same}
use Rattle.luo_meaning.proofs.BrokenValues.{AgreeWanted, value_same}

module _ (source : Source) (sound : SoundAll source.universe (names_of source) (definitions source)) where
  -- the type of a result
  result_agrees : (r : Name) (w : Option Placed) → WantedResult source r w → AgreeWanted source sound (type_node (setting_of source) r) w
  result_agrees r w (the_type m) = subst (λ o. AgreeWanted source sound o (Some (of_name r))) (sym (type_node_is source sound r m.0 m.1)) (name_holds source sound r m.0 m.1)
  result_agrees r w (no_type n) = by (type_node (setting_of source) r) refl
    where
      by : (o : Option ℕ) → type_node (setting_of source) r ≡ o → AgreeWanted source sound (type_node (setting_of source) r) None
      by None e = subst (λ o. AgreeWanted source sound o None) (sym e) tt
      by (Some x) e = absurd (n (type_node_means source sound r x e))

  result_wanted : (r : Name) → (w : Option Placed) × WantedResult source r w
  result_wanted r = by (type_node (setting_of source) r) refl
    where
      by : (o : Option ℕ) → type_node (setting_of source) r ≡ o → (w : Option Placed) × WantedResult source r w
      by None e = (None, no_type (λ m. none_some _ (sym e ∙ type_node_is source sound r m.0 m.1)))
      by (Some x) e = (Some (of_name r), the_type (type_node_means source sound r x e))

  -- the scope of a procedure, by its parameter's node and type
  parameter_agrees : (p : ProcDef) (node : ℕ) → type_node (setting_of source) p.on ≡ Some node → AgreeScope source (parameter (setting_of source) p) (one_variable p.param (of_name p.on))
  parameter_agrees p node e =
      let i = type_node_means source sound p.on node e in
      let part = part_meant (setting_of source) (meant (setting_of source) p.on) in
      let same : Some part.node ≡ type_node (setting_of source) p.on = ap (λ o. Some (part_meant (setting_of source) o).node) i.1 ∙ sym (ap (node_meant (setting_of source)) i.1) in
      one_agrees source p.param part (of_name p.on) (type_holds source sound p.on part.node (sym same))

  -- a body, by the node of its parameter's type, if any
  inner_same : (p : ProcDef) (body : ProcBody) (o : Option ℕ) → type_node (setting_of source) p.on ≡ o → (b : Breach) → Asks source (body_asked (setting_of source) p o body) b ↔ BodyBreaks source p body b
  inner_same p (Statements stmts) None e b = (λ h. absurd h.1, λ h. absurd (none_some _ (sym e ∙ type_node_is source sound p.on h.0.0 h.0.1)))
  inner_same p (Statements stmts) (Some node) e b =
      let same = stmts_same source sound stmts (parameter (setting_of source) p) (one_variable p.param (of_name p.on)) (parameter_agrees p node e) b in
      (λ h. (type_node_means source sound p.on node e, same.0 h), λ h. same.1 h.1)
  inner_same p (Value colon result value) None e b =
      then_iff (asks_cons source (results colon p.name) (uses a_type result ∷ []) b)
      (or_iff (of_names source (results colon p.name) b tt)
      (then_iff (asks_cons source (uses a_type result) [] b)
      (or_iff (of_names source (uses a_type result) b tt) (λ h. absurd h.1, λ h. absurd (none_some _ (sym e ∙ type_node_is source sound p.on h.0.0 h.0.1))))))
  inner_same p (Value colon result value) (Some node) e b =
      let scope = parameter (setting_of source) p in
      let types = one_variable p.param (of_name p.on) in
      let agree = parameter_agrees p node e in
      let expected = type_node (setting_of source) result in
      let some = result_wanted result in
      let same : (w : Option Placed) → WantedResult source result w → Asks source (value_asked (setting_of source) scope expected value) b ↔ ValueBreaks source types w value b =
      λ w t. value_same source sound value scope types agree expected w (result_agrees result w t) b in
      then_iff (asks_cons source (results colon p.name) (uses a_type result ∷ value_asked (setting_of source) scope expected value) b)
      (or_iff (of_names source (results colon p.name) b tt)
      (then_iff (asks_cons source (uses a_type result) (value_asked (setting_of source) scope expected value) b)
      (or_iff (of_names source (uses a_type result) b tt)
      (λ h. (type_node_means source sound p.on node e, (some.0, some.1, (same some.0 some.1).0 h)), λ (m, (w, t, h)). (same w t).1 h))))

  proc_same : (f : ℕ) (p : ProcDef) (b : Breach) → Asks source (defines p.name (mean.Procedure f) ∷ (uses a_type p.on ∷ body_asked (setting_of source) p (type_node (setting_of source) p.on) p.body)) b ↔ ProcBreaks source f p b
  proc_same f p b =
      let body = body_asked (setting_of source) p (type_node (setting_of source) p.on) p.body in
      then_iff (asks_cons source (defines p.name (mean.Procedure f)) (uses a_type p.on ∷ body) b)
      (or_iff (of_names source (defines p.name (mean.Procedure f)) b tt)
      (then_iff (asks_cons source (uses a_type p.on) body b) (or_iff (of_names source (uses a_type p.on) b tt) (inner_same p p.body (type_node (setting_of source) p.on) refl b))))

  procs_same : (f : ℕ) (ps : List ProcDef) (b : Breach) → Asks source (procs_asked (setting_of source) f ps) b ↔ ProcsBreak source f ps b
  procs_same f [] b = asks_nil source b
  procs_same f (p ∷ ps) b =
      then_iff (asks_append source (defines p.name (mean.Procedure f) ∷ (uses a_type p.on ∷ body_asked (setting_of source) p (type_node (setting_of source) p.on) p.body)) (procs_asked (setting_of source) (suc f) ps) b)
      (or_iff (proc_same f p b) (procs_same (suc f) ps b))

  later_same : (b : Breach) → Asks source (later_asked source) b ↔ ProceduresBreak source b
  later_same b =
      then_iff (asks_append source (procs_asked (setting_of source) 0 source.procs) (map (uses a_procedure) source.analyses) b)
      (or_iff (procs_same 0 source.procs b) (some_of_names source (map (uses a_procedure) source.analyses) b (line_names source source.analyses)))

module _ (source : Source) where
  -- what is listed is what is asked and broken
  listed : (qs : List Asked) (b : Breach) → In b (all (definitions source) (setting_of source) qs) ↔ Asks source qs b
  listed qs b = (
    λ i. let r = In_flat (own (definitions source) (setting_of source)) qs b i in (r.0, r.1, own_breaks (definitions source) (setting_of source) r.0 b r.2),
    λ h. flat_In (own (definitions source) (setting_of source)) qs h.0 b h.1 (breaks_own (definitions source) (setting_of source) h.0 b h.2),
  )

  first_listed : (b : Breach) → In b (first_of source) ↔ DefinitionsBreak source b
  first_listed b =
      then_iff (λ i. subst (In b) (first_all source) i, λ i. subst (In b) (sym (first_all source)) i) (then_iff (listed (first_asked source) b) (some_of_names source (first_asked source) b (first_names source)))

  later_listed : SoundAll source.universe (names_of source) (definitions source) → (b : Breach) → In b (later_of source) ↔ ProceduresBreak source b
  later_listed sound b = then_iff (λ i. subst (In b) (later_all source) i, λ i. subst (In b) (sym (later_all source)) i) (then_iff (listed (later_asked source) b) (later_same source sound b))

  -- the list of breaches is what is broken as written
  pub broken_kept : IsSource source → (b : Breach) → In b (breaches source) ↔ IsBrokenIn source b
  broken_kept is b = by (first_of source) refl
    where
      by : (l : List Breach) → first_of source ≡ l → In b (breaches source) ↔ IsBrokenIn source b
      by [] e =
          let sound = sound_all source (source_proper source is) (nil_left (types_breaches source.universe (names_of source) (definitions source) 0 source.types) (measures_breaches (names_of source) 0 (measures source)) e) in
          let none : (a : Breach) → DefinitionsBreak source a → ⊥ = λ a d. subst (In a) e ((first_listed a).1 d) in
          let whole : breaches source ≡ later_of source = ap (λ l. l or_if_none later_of source) e in
          let later = later_listed sound b in (
            λ i. inr (none, later.0 (subst (In b) whole i)),
            λ h. elim h [ inl d ↦ absurd (none b d) | inr k ↦ subst (In b) (sym whole) (later.1 k.1) ],
          )
      by (x ∷ xs) e =
          let whole : breaches source ≡ first_of source = ap (λ l. l or_if_none later_of source) e ∙ sym e in (
            λ i. inl ((first_listed b).0 (subst (In b) whole i)),
            λ h. elim h [ inl d ↦ subst (In b) (sym whole) ((first_listed b).1 d) | inr k ↦ absurd (k.0 x ((first_listed x).0 (subst (In x) (sym e) (inl refl)))) ],
          )

  -- and its first is the first that is broken
  pub first_kept : IsSource source → (b : Breach) → BreaksFirst source b ↔ IsFirstBrokenIn source b
  first_kept is b = (
    λ (rest, e). (
      (broken_kept is b).0 (subst (In b) (sym e) (inl refl)),
      λ a h. first_breach_is_least source b a is (rest, e) ((broken_kept is a).1 h),
    ),
    λ (broken, least). back broken least (breaches source) refl,
  )
    where
      back : IsBrokenIn source b → ((a : Breach) → IsBrokenIn source a → b.token ≤ a.token) → (l : List Breach) → breaches source ≡ l → BreaksFirst source b
      back broken least [] e = absurd (subst (In b) e ((broken_kept is b).1 broken))
      back broken least (x ∷ xs) e =
          let there : In x (breaches source) = subst (In x) (sym e) (inl refl) in
          let here : In b (breaches source) = (broken_kept is b).1 broken in
          let one : x.token ≤ b.token = first_breach_is_least source x b is (xs, e) here in
          let other : b.token ≤ x.token = least x ((broken_kept is x).0 there) in
          let same : x ≡ b = breaches_are_single source x b is there here (omega (arith, one, other)) in
          (xs, e ∙ ap (λ z. z ∷ xs) same)

  -- nothing is listed where nothing is broken
  pub nothing_kept : IsSource source → (breaches source ≡ []) ↔ ((b : Breach) → IsBrokenIn source b → ⊥)
  nothing_kept is = (λ e b h. subst (In b) e ((broken_kept is b).1 h), λ none. by none (breaches source) refl)
    where
      by : ((b : Breach) → IsBrokenIn source b → ⊥) → (l : List Breach) → breaches source ≡ l → breaches source ≡ []
      by none [] e = e
      by none (x ∷ xs) e = absurd (none x ((broken_kept is x).0 (subst (In x) (sym e) (inl refl))))
