-- What statements break by nodes, and by types in their places.
use Rattle.std.proofs.Common.{◌≡◌, ◌⊎◌, ◌↔◌, ℕ, List, [], ◌∷◌, ◌++◌, length, Option, Some, None, Bool, true, false, refl, sym, ap, ◌∙◌, subst, inl, inr, nat_eq}
use Rattle.std.specs.Prelude.{if◌then◌else◌}
use Rattle.std.proofs.lemmas.Bool.{eqb-true, eq-eqb}
use Rattle.luo_model.specs.declared.program.Part.{Part}
use Rattle.luo_model.specs.declared.program.Shape.{Shape}
use Rattle.luo_model.specs.declared.program.Shape.TheVariants as shape
use Rattle.luo_model.specs.Scopes.Stands.{Stand, stands, IsCollection}
use Rattle.luo_source.specs.declared.names.Name.{Name}
use Rattle.luo_source.specs.declared.statements.Pattern.{Pattern}
use Rattle.luo_source.specs.Plain.Statements.{Stmt, Skip, Charge, Call, Block, Case, Forall, Stmts, no_stmts, a_stmt, SourceArms, no_source_arms, a_source_arm}
use Rattle.luo_source.specs.Plain.Source.{Source}
use Rattle.luo_rules.specs.declared.rule.Breach.{Breach}
use Rattle.luo_rules.specs.declared.setting.Variable.{Variable}
use Rattle.luo_rules.specs.Settings.{found, case_stands}
use Rattle.luo_rules.specs.Patterns.{fits, bound, factor_names}
use Rattle.luo_rules.specs.Definitions.{definitions, names_of}
use Rattle.luo_rules.specs.Nodes.{setting_of}
use Rattle.luo_rules.specs.StatementBreaches.{count_arms, walked}
use Rattle.luo_rules.specs.Asked.{Asked, a_measure, a_procedure, uses, reads, hands, cases, walks, matches, type_asked, repeats_asked, arm_asked, arms_inside, case_asked, walk_inside, stmt_asked, stmts_asked, arms_asked}
use Rattle.luo_rules.specs.Asked as asked
use Rattle.luo_rules.specs.Broken.{other_argument, other_arms, misfit, no_collection, unbound}
use Rattle.luo_rules.proofs.Lists.{some_same, none_some}
use Rattle.luo_rules.proofs.DefinitionFacts.{SoundAll}
use Rattle.luo_meaning.specs.Places.{Placed, of_name, IsCollectionAt}
use Rattle.luo_meaning.specs.Scopes.{Scope, type_at, one_variable, Look, looked_at, AreLooks, Fits, BindsScope}
use Rattle.luo_meaning.specs.Broken.{BreaksSome, Unbound, OtherArgument, CallBreaks, Misfit, PatternBreaks, OtherCount, NoCollection, StmtBreaks, StmtsBreak, ArmsBreak}
use Rattle.luo_meaning.proofs.Sits.{shape_at_node}
use Rattle.luo_meaning.proofs.PlacedTypes.{HoldsAt, same_type}
use Rattle.luo_meaning.proofs.BrokenNames.{or_iff, then_iff, Asks, One, asks_nil, asks_cons, asks_append, asks_one, of_names, some_of_names, type_names, repeat_names}
use Rattle.luo_meaning.proofs.BrokenScopes.{false_true, not_true, Found, AgreeScope, found_agree, one_agrees, AgreeLook, AgreeLooks, look_holds, looks_length, looks_down, looks_up, collection_same, component_holds, fits_same, typed_same, bound_agrees, binds_there, parameter_is, known_parameter}

module _ (source : Source) (all : SoundAll source.universe (names_of source) (definitions source)) where
  -- a variable isn't bound
  pub unbound_same : (scope : List Variable) (types : Scope) → AgreeScope source scope types → (var : Name) (b : Breach) → One source (reads scope var) b ↔ Unbound source types var b
  unbound_same scope types agree var b = (forth b, back)
    where
      both : Found source (found scope var) (type_at types var.text)
      both = found_agree source scope types agree var

      forth : (b : Breach) → One source (reads scope var) b → Unbound source types var b
      forth b (unbound e) = elim both [ inl h ↦ (h.1, refl) | inr h ↦ absurd (none_some h.0 (sym e ∙ h.2)) ]

      back : Unbound source types var b → One source (reads scope var) b
      back (e, is) = elim both [ inl h ↦ subst (One source (reads scope var)) (sym is) (unbound h.0) | inr h ↦ absurd (none_some h.1 (sym e ∙ h.3)) ]

  -- an argument of another type
  pub hands_same : (scope : List Variable) (types : Scope) → AgreeScope source scope types → (arg callee : Name) (b : Breach) → One source (hands scope arg callee) b ↔ OtherArgument source types arg callee b
  hands_same scope types agree arg callee b = (forth b, back)
    where
      both : Found source (found scope arg) (type_at types arg.text)
      both = found_agree source scope types agree arg

      forth : (b : Breach) → One source (hands scope arg callee) b → OtherArgument source types arg callee b
      forth b (other_argument variable node e on differ) = elim both [
        | inl h ↦ absurd (none_some variable (sym h.0 ∙ e))
        | inr (v, a, f, t, h) ↦
            let k = known_parameter source all callee node on in
            let same : v ≡ variable = some_same v variable (sym f ∙ e) in
            (a, k.0, t, k.1, k.2, (λ s. differ (sym (ap (λ (z : ℕ × Part). z.1.node) same) ∙ (same_type source all v.1.node node a (of_name k.0.on) h k.3).0 s)), refl)
      ]

      back : OtherArgument source types arg callee b → One source (hands scope arg callee) b
      back (a, p, t, means, on, differ, is) = elim both [
        | inl h ↦ absurd (none_some a (sym h.1 ∙ t))
        | inr (v, other, f, u, h) ↦
            let k = parameter_is source all callee p means on in
            let one : other ≡ a = some_same other a (sym u ∙ t) in
            subst (One source (hands scope arg callee)) (sym is)
            (other_argument v k.0 f k.1 (λ s. differ ((same_type source all v.1.node k.0 a (of_name p.on) (subst (HoldsAt source v.1.node) one h) k.2).1 s)))
      ]

  -- a call
  pub call_same : (scope : List Variable) (types : Scope) → AgreeScope source scope types → (callee arg : Name) (b : Breach)
      → Asks source (uses a_procedure callee ∷ (reads scope arg ∷ (hands scope arg callee ∷ []))) b ↔ CallBreaks source types callee arg b
  call_same scope types agree callee arg b =
      then_iff (asks_cons source (uses a_procedure callee) (reads scope arg ∷ (hands scope arg callee ∷ [])) b)
      (or_iff (of_names source (uses a_procedure callee) b tt)
      (then_iff (asks_cons source (reads scope arg) (hands scope arg callee ∷ []) b)
      (or_iff (unbound_same scope types agree arg b) (then_iff (asks_one source (hands scope arg callee) b) (hands_same scope types agree arg callee b)))))

  -- a pattern
  misfit_same : (s : Stand) (l : Look) → AgreeLook source s l → (var : Name) (p : Pattern) (b : Breach) → One source (matches s var p) b ↔ Misfit source l var p b
  misfit_same s l agree var p b = (forth b, λ (t, n, is). subst (One source (matches s var p)) (sym is) (misfit ((typed_same source all p).0 t) (not_true (fits (setting_of source) s p) (λ e. n (same.1 e)))))
    where
      same : Fits source l p ↔ (fits (setting_of source) s p ≡ true)
      same = fits_same source all s l p agree

      forth : (b : Breach) → One source (matches s var p) b → Misfit source l var p b
      forth b (misfit t f) = ((typed_same source all p).1 t, (λ g. false_true (fits (setting_of source) s p) f (same.0 g)), refl)

  -- what is asked where something holds
  pub if_asked : (c : Bool) (qs : List Asked) (b : Breach) → Asks source (if c then qs else []) b ↔ ((c ≡ true) × Asks source qs b)
  if_asked true qs b = (λ h. (refl, h), λ h. h.1)
  if_asked false qs b = (λ h. absurd h.1, λ h. absurd (false_true false refl h.0))

  -- an arm
  pub arm_same : (s : Stand) (l : Look) → AgreeLook source s l → (var : Name) (p : Pattern) (inner : List Asked) (b : Breach) (Inner : Scope → Type 0)
      → ((scope : Scope) → BindsScope source p (looked_at l) scope → Asks source inner b ↔ Inner scope)
      → Asks source (arm_asked (setting_of source) s var p inner) b ↔ (PatternBreaks source l var p b ⊎ (Fits source l p × ((scope : Scope) × BindsScope source p (looked_at l) scope × Inner scope)))
  arm_same s l agree var p inner b Inner same = (
    λ h. elim (first.0 h) [
      | inl t ↦ inl (inl ((types_only.0 t)))
      | inr h ↦ elim (second.0 h) [
        | inl m ↦ inl (inr (inl ((misfit_same s l agree var p b).0 m)))
        | inr h ↦ elim (third.0 h) [
          | inl r ↦ inl (inr (inr (repeats_only.0 r)))
          | inr h ↦ let g = (if_asked (fits (setting_of source) s p) inner b).0 h in let f = fit.1 g.0 in let k = binds_there source all l p f in inr (f, (k.0, k.1, (same k.0 k.1).0 g.1))
        ]
      ]
    ],
    λ h. elim h [
      | inl h ↦ elim h [
        | inl t ↦ first.1 (inl (types_only.1 t))
        | inr h ↦ elim h [
          | inl m ↦ first.1 (inr (second.1 (inl ((misfit_same s l agree var p b).1 m))))
          | inr r ↦ first.1 (inr (second.1 (inr (third.1 (inl (repeats_only.1 r))))))
        ]
      ]
      | inr (f, (k, binds, i)) ↦ first.1 (inr (second.1 (inr (third.1 (inr ((if_asked (fits (setting_of source) s p) inner b).1 (fit.0 f, (same k binds).1 i)))))))
    ],
  )
    where
      rest : List Asked
      rest = if fits (setting_of source) s p then inner else []

      fit : Fits source l p ↔ (fits (setting_of source) s p ≡ true)
      fit = fits_same source all s l p agree

      first : Asks source (type_asked p ++ (matches s var p ∷ (repeats_asked [] (factor_names p) ++ rest))) b ↔ (Asks source (type_asked p) b ⊎ Asks source (matches s var p ∷ (repeats_asked [] (factor_names p) ++ rest)) b)
      first = asks_append source (type_asked p) (matches s var p ∷ (repeats_asked [] (factor_names p) ++ rest)) b

      second : Asks source (matches s var p ∷ (repeats_asked [] (factor_names p) ++ rest)) b ↔ (One source (matches s var p) b ⊎ Asks source (repeats_asked [] (factor_names p) ++ rest) b)
      second = asks_cons source (matches s var p) (repeats_asked [] (factor_names p) ++ rest) b

      third : Asks source (repeats_asked [] (factor_names p) ++ rest) b ↔ (Asks source (repeats_asked [] (factor_names p)) b ⊎ Asks source rest b)
      third = asks_append source (repeats_asked [] (factor_names p)) rest b

      types_only : Asks source (type_asked p) b ↔ BreaksSome source (type_asked p) b
      types_only = some_of_names source (type_asked p) b (type_names source p)

      repeats_only : Asks source (repeats_asked [] (factor_names p)) b ↔ BreaksSome source (repeats_asked [] (factor_names p)) b
      repeats_only = some_of_names source (repeats_asked [] (factor_names p)) b (repeat_names source [] (factor_names p))

  -- a case
  abbrev pub CaseBreaks : Scope → Name → ℕ → Breach → (List Look → Type 0) → Type 0
  CaseBreaks types var n b Inner =
      Unbound source types var b ⊎ OtherCount source types var n b
      ⊎ ((a : Placed) × (looks : List Look) × (type_at types var.text ≡ Some a) × AreLooks source a looks × (n ≡ length looks) × Inner looks)

  pub case_same : (scope : List Variable) (types : Scope) → AgreeScope source scope types → (var : Name) (n : ℕ) (inner : List Asked) (b : Breach) (Inner : List Look → Type 0)
      → ((looks : List Look) → AgreeLooks source (case_stands (setting_of source) (found scope var)) looks → Asks source inner b ↔ Inner looks)
      → Asks source (case_asked (setting_of source) scope var n inner) b ↔ CaseBreaks types var n b Inner
  case_same scope types agree var n inner b Inner same =
      then_iff (asks_cons source (reads scope var) (cases scope var n ∷ arms_inside (setting_of source) (found scope var) n inner) b)
      (or_iff (unbound_same scope types agree var b)
      (then_iff (asks_cons source (cases scope var n) (arms_inside (setting_of source) (found scope var) n inner) b) (or_iff (counted b) (inside_forth, inside_back))))
    where
      both : Found source (found scope var) (type_at types var.text)
      both = found_agree source scope types agree var

      -- the stands of a variable that is found
      stood : (v : ℕ × Part) → found scope var ≡ Some v → case_stands (setting_of source) (found scope var) ≡ stands v.1 (shape_at_node source v.1.node)
      stood v e = ap (case_stands (setting_of source)) e

      agreed : (v : ℕ × Part) (a : Placed) (looks : List Look) → found scope var ≡ Some v → HoldsAt source v.1.node a → AreLooks source a looks → AgreeLooks source (case_stands (setting_of source) (found scope var)) looks
      agreed v a looks e h are = subst (λ z. AgreeLooks source z looks) (sym (stood v e)) (looks_down source all v.1 a looks h are)

      counted_forth : (b : Breach) → One source (cases scope var n) b → OtherCount source types var n b
      counted_forth b (other_arms variable e differ) = elim both [
        | inl h ↦ absurd (none_some variable (sym h.0 ∙ e))
        | inr (v, a, f, t, h) ↦
            let same_v : v ≡ variable = some_same v variable (sym f ∙ e) in
            let up = looks_up source all v.1.node a h in
            let long = looks_length source (stands v.1 (shape_at_node source v.1.node)) up.0 (looks_down source all v.1 a up.0 h up.1) in
            (a, up.0, t, up.1, (λ m. differ (m ∙ (sym long ∙ ap (λ (z : ℕ × Part). length (stands z.1 (shape_at_node source z.1.node))) same_v))), refl)
      ]

      counted_back : (b : Breach) → OtherCount source types var n b → One source (cases scope var n) b
      counted_back b (a, looks, t, are, differ, is) = elim both [
        | inl h ↦ absurd (none_some a (sym h.1 ∙ t))
        | inr (v, other, f, u, h) ↦
            let one : other ≡ a = some_same other a (sym u ∙ t) in
            let long = looks_length source (stands v.1 (shape_at_node source v.1.node)) looks (looks_down source all v.1 a looks (subst (HoldsAt source v.1.node) one h) are) in
            subst (One source (cases scope var n)) (sym is) (other_arms v f (λ m. differ (m ∙ long)))
      ]

      counted : (b : Breach) → One source (cases scope var n) b ↔ OtherCount source types var n b
      counted b = (counted_forth b, counted_back b)

      inside_of : (o : Option (ℕ × Part)) (v : ℕ × Part) → o ≡ Some v → Asks source (arms_inside (setting_of source) o n inner) b ↔ ((n ≡ length (case_stands (setting_of source) o)) × Asks source inner b)
      inside_of None v e = absurd (none_some v e)
      inside_of (Some w) v e =
          let k = if_asked (nat_eq n (length (case_stands (setting_of source) (Some w)))) inner b in (
            λ h. let g = k.0 h in (eqb-true n (length (case_stands (setting_of source) (Some w))) g.0, g.1),
            λ g. k.1 (eq-eqb n (length (case_stands (setting_of source) (Some w))) g.0, g.1),
          )

      none_inside : (o : Option (ℕ × Part)) → o ≡ None → Asks source (arms_inside (setting_of source) o n inner) b → ⊥
      none_inside None e h = absurd h.1
      none_inside (Some w) e h = absurd (none_some w (sym e))

      inside_forth : Asks source (arms_inside (setting_of source) (found scope var) n inner) b → (a : Placed) × (looks : List Look) × (type_at types var.text ≡ Some a) × AreLooks source a looks × (n ≡ length looks) × Inner looks
      inside_forth h = elim both [
        | inl g ↦ absurd (none_inside (found scope var) g.0 h)
        | inr (v, a, f, t, holds) ↦
            let k = (inside_of (found scope var) v f).0 h in
            let up = looks_up source all v.1.node a holds in
            let agree_looks = agreed v a up.0 f holds up.1 in
            (a, up.0, t, up.1, k.0 ∙ looks_length source (case_stands (setting_of source) (found scope var)) up.0 agree_looks, (same up.0 agree_looks).0 k.1)
      ]

      inside_back : (a : Placed) × (looks : List Look) × (type_at types var.text ≡ Some a) × AreLooks source a looks × (n ≡ length looks) × Inner looks → Asks source (arms_inside (setting_of source) (found scope var) n inner) b
      inside_back (a, looks, t, are, many, i) = elim both [
        | inl g ↦ absurd (none_some a (sym g.1 ∙ t))
        | inr (v, other, f, u, holds) ↦
            let one : other ≡ a = some_same other a (sym u ∙ t) in
            let agree_looks = agreed v a looks f (subst (HoldsAt source v.1.node) one holds) are in
            (inside_of (found scope var) v f).1 (many ∙ sym (looks_length source (case_stands (setting_of source) (found scope var)) looks agree_looks), (same looks agree_looks).1 i)
      ]

  -- a walk
  pub walk_same : (scope : List Variable) (types : Scope) → AgreeScope source scope types → (over : Name) (inner : List Asked) (b : Breach) (Inner : Placed → Type 0)
      → ((v : ℕ × Part) (f : Placed) → found scope over ≡ Some v → HoldsAt source (walked (setting_of source) (found scope over)).node f → Asks source inner b ↔ Inner f)
      → Asks source (reads scope over ∷ (walks scope over ∷ walk_inside (setting_of source) (found scope over) inner)) b
      ↔ (Unbound source types over b ⊎ NoCollection source types over b ⊎ ((a : Placed) × (f : Placed) × (type_at types over.text ≡ Some a) × IsCollectionAt source a f × Inner f))
  walk_same scope types agree over inner b Inner same =
      then_iff (asks_cons source (reads scope over) (walks scope over ∷ walk_inside (setting_of source) (found scope over) inner) b)
      (or_iff (unbound_same scope types agree over b)
      (then_iff (asks_cons source (walks scope over) (walk_inside (setting_of source) (found scope over) inner) b) (or_iff (walks_forth b, walks_back b) (inside_forth, inside_back))))
    where
      both : Found source (found scope over) (type_at types over.text)
      both = found_agree source scope types agree over

      walks_forth : (b : Breach) → One source (walks scope over) b → NoCollection source types over b
      walks_forth b (no_collection variable e n) = elim both [
        | inl h ↦ absurd (none_some variable (sym h.0 ∙ e))
        | inr (v, a, f, t, h) ↦
            let same_v : v ≡ variable = some_same v variable (sym f ∙ e) in
            (a, t, (λ g u. n (subst (λ (z : ℕ × Part). IsCollection (shape_at_node source z.1.node)) same_v ((collection_same source all v.1.node a h).0 (g, u)))), refl)
      ]

      walks_back : (b : Breach) → NoCollection source types over b → One source (walks scope over) b
      walks_back b (a, t, n, is) = elim both [
        | inl h ↦ absurd (none_some a (sym h.1 ∙ t))
        | inr (v, other, f, u, h) ↦
            let one : other ≡ a = some_same other a (sym u ∙ t) in
            subst (One source (walks scope over)) (sym is) (no_collection v f (λ c. let k = (collection_same source all v.1.node a (subst (HoldsAt source v.1.node) one h)).1 c in n k.0 k.1))
      ]

      of_shape : (s : Shape) → Asks source (asked.of_collection s inner) b ↔ (IsCollection s × Asks source inner b)
      of_shape (shape.Atom weight) = (λ h. absurd h.1, λ h. absurd h.0)
      of_shape (shape.Union parts) = (λ h. absurd h.1, λ h. absurd h.0)
      of_shape (shape.Product parts) = (λ h. absurd h.1, λ h. absurd h.0)
      of_shape (shape.Coll kind part low high) = (λ h. (tt, h), λ h. h.1)

      inside_of : (o : Option (ℕ × Part)) (v : ℕ × Part) → o ≡ Some v → Asks source (walk_inside (setting_of source) o inner) b ↔ (IsCollection (shape_at_node source v.1.node) × Asks source inner b)
      inside_of None v e = absurd (none_some v e)
      inside_of (Some w) v e = subst (λ (z : ℕ × Part). Asks source (walk_inside (setting_of source) (Some w) inner) b ↔ (IsCollection (shape_at_node source z.1.node) × Asks source inner b)) (some_same w v e) (of_shape (shape_at_node source w.1.node))

      none_inside : (o : Option (ℕ × Part)) → o ≡ None → Asks source (walk_inside (setting_of source) o inner) b → ⊥
      none_inside None e h = absurd h.1
      none_inside (Some w) e h = absurd (none_some w (sym e))

      holds_inside : (v : ℕ × Part) (a f : Placed) → found scope over ≡ Some v → HoldsAt source v.1.node a → IsCollectionAt source a f → HoldsAt source (walked (setting_of source) (found scope over)).node f
      holds_inside v a f e h u = subst (λ o. HoldsAt source (walked (setting_of source) o).node f) (sym e) (component_holds source all v.1.node a f h u)

      inside_forth : Asks source (walk_inside (setting_of source) (found scope over) inner) b → (a : Placed) × (f : Placed) × (type_at types over.text ≡ Some a) × IsCollectionAt source a f × Inner f
      inside_forth h = elim both [
        | inl g ↦ absurd (none_inside (found scope over) g.0 h)
        | inr (v, a, f, t, holds) ↦
            let k = (inside_of (found scope over) v f).0 h in
            let u = (collection_same source all v.1.node a holds).1 k.0 in
            (a, u.0, t, u.1, (same v u.0 f (holds_inside v a u.0 f holds u.1)).0 k.1)
      ]

      inside_back : (a : Placed) × (f : Placed) × (type_at types over.text ≡ Some a) × IsCollectionAt source a f × Inner f → Asks source (walk_inside (setting_of source) (found scope over) inner) b
      inside_back (a, g, t, u, i) = elim both [
        | inl h ↦ absurd (none_some a (sym h.1 ∙ t))
        | inr (v, other, f, w, holds) ↦
            let one : other ≡ a = some_same other a (sym w ∙ t) in
            let h : HoldsAt source v.1.node a = subst (HoldsAt source v.1.node) one holds in
            (inside_of (found scope over) v f).1 ((collection_same source all v.1.node a h).0 (g, u), (same v g f (holds_inside v a g f h u)).1 i)
      ]

  mutual
    pub stmt_same : (stmt : Stmt) (scope : List Variable) (types : Scope) → AgreeScope source scope types → (b : Breach) → Asks source (stmt_asked (setting_of source) scope stmt) b ↔ StmtBreaks source types stmt b
    stmt_same Skip scope types agree b = asks_nil source b
    stmt_same (Charge measure) scope types agree b = then_iff (asks_one source (uses a_measure measure) b) (of_names source (uses a_measure measure) b tt)
    stmt_same (Call callee arg) scope types agree b = call_same scope types agree callee arg b
    stmt_same (Block stmts) scope types agree b = stmts_same stmts scope types agree b
    stmt_same (Case var arms) scope types agree b =
        let ss = case_stands (setting_of source) (found scope var) in
        case_same scope types agree var (count_arms arms) (arms_asked (setting_of source) ss var arms) b (λ looks. ArmsBreak source looks var arms b)
        (λ looks agree_looks. arms_same arms ss looks var agree_looks b)
    stmt_same (Forall var over body) scope types agree b =
        let inside : List Variable = record { name = var.text; part = walked (setting_of source) (found scope over) } ∷ [] in
        walk_same scope types agree over (stmt_asked (setting_of source) inside body) b (λ f. StmtBreaks source (one_variable var f) body b)
        (λ v f e h. stmt_same body inside (one_variable var f) (one_agrees source var (walked (setting_of source) (found scope over)) f h) b)

    pub stmts_same : (row : Stmts) (scope : List Variable) (types : Scope) → AgreeScope source scope types → (b : Breach) → Asks source (stmts_asked (setting_of source) scope row) b ↔ StmtsBreak source types row b
    stmts_same no_stmts scope types agree b = asks_nil source b
    stmts_same (a_stmt stmt rest) scope types agree b =
        then_iff (asks_append source (stmt_asked (setting_of source) scope stmt) (stmts_asked (setting_of source) scope rest) b) (or_iff (stmt_same stmt scope types agree b) (stmts_same rest scope types agree b))

    arms_same : (row : SourceArms) (ss : List Stand) (looks : List Look) (var : Name) → AgreeLooks source ss looks → (b : Breach) → Asks source (arms_asked (setting_of source) ss var row) b ↔ ArmsBreak source looks var row b
    arms_same no_source_arms [] [] var agree b = asks_nil source b
    arms_same no_source_arms [] (l ∷ looks) var agree b = absurd agree
    arms_same no_source_arms (s ∷ ss) [] var agree b = absurd agree
    arms_same no_source_arms (s ∷ ss) (l ∷ looks) var agree b = asks_nil source b
    arms_same (a_source_arm pattern body rest) [] [] var agree b = asks_nil source b
    arms_same (a_source_arm pattern body rest) [] (l ∷ looks) var agree b = absurd agree
    arms_same (a_source_arm pattern body rest) (s ∷ ss) [] var agree b = absurd agree
    arms_same (a_source_arm pattern body rest) (s ∷ ss) (l ∷ looks) var agree b =
        let inner = stmt_asked (setting_of source) (bound (setting_of source) s pattern) body in
        let one = arm_same s l agree.0 var pattern inner b (λ scope. StmtBreaks source scope body b)
        (λ scope binds. stmt_same body (bound (setting_of source) s pattern) scope (bound_agrees source all s pattern (looked_at l) scope (look_holds source s l agree.0) binds) b) in
        let more = arms_same rest ss looks var agree.1 b in
        let join = asks_append source (arm_asked (setting_of source) s var pattern inner) (arms_asked (setting_of source) ss var rest) b in (
          λ h. elim (join.0 h) [ inl g ↦ elim (one.0 g) [ inl k ↦ inl k | inr k ↦ inr (inl k) ] | inr g ↦ inr (inr (more.0 g)) ],
          λ h. elim h [ inl k ↦ join.1 (inl (one.1 (inl k))) | inr h ↦ elim h [ inl k ↦ join.1 (inl (one.1 (inr k))) | inr g ↦ join.1 (inr (more.1 g)) ] ],
        )
