-- Some site of statements in the core form is some site of the statements as written.
use Rattle.std.proofs.Common.{◌≡◌, ◌⊎◌, ◌↔◌, ℕ, suc, ◌+◌, List, [], ◌∷◌, length, Option, Some, None, refl, sym, ap, ◌∙◌, subst, inl, inr, arith}
use Rattle.luo_model.specs.declared.program.Part.{Part}
use Rattle.luo_model.specs.declared.program.Shape.{Shape}
use Rattle.luo_model.specs.declared.program.Shape.TheVariants as shape
use Rattle.luo_model.specs.Tree.{Tree, Trees, Coll}
use Rattle.luo_model.specs.Program as plain
use Rattle.luo_model.specs.Program.{Does, Items, no_items, item, Arms, shape_of}
use Rattle.luo_model.specs.Charges as model
use Rattle.luo_model.specs.Levels as level_of
use Rattle.luo_model.specs.Levels.{WholeLevel, WorkLevel}
use Rattle.luo_model.specs.Charges.{Work, of_body, of_call, of_case, of_walk, EachCharges, Charges, CaseCharges, WorkCharges}
use Rattle.luo_model.specs.Scopes.Stands.{Stand, stands, component, IsCollection, no_part, part_at, bound_parts}
use Rattle.luo_model.specs.Scopes.ValueBodies.{join_items}
use Rattle.luo_source.specs.declared.names.Name.{Name}
use Rattle.luo_source.specs.Plain.Types.{TypeExpr}
use Rattle.luo_source.specs.Plain.Statements.{Stmt, Skip, Charge, Call, Block, Case, Forall, Stmts, no_stmts, a_stmt, SourceArms, no_source_arms, a_source_arm}
use Rattle.luo_source.specs.Plain.Source.{Source}
use Rattle.luo_rules.specs.declared.rule.Breach.{Breach}
use Rattle.luo_rules.specs.declared.setting.Setting.{Setting}
use Rattle.luo_rules.specs.declared.setting.Variable.{Variable}
use Rattle.luo_rules.specs.declared.names.Meaning.TheVariants as mean
use Rattle.luo_rules.specs.Meanings.{meaning, procedure_use, procedure_of}
use Rattle.luo_rules.specs.Settings.{meant, signature_meant, shape_at, found, place_of, argument_breaches, case_stands}
use Rattle.luo_rules.specs.Patterns as patterns
use Rattle.luo_rules.specs.Patterns.{bind_of, arm_breaches}
use Rattle.luo_rules.specs.Definitions.{names_of, measures}
use Rattle.luo_rules.specs.TypeBreaches.{measures_breaches}
use Rattle.luo_rules.specs.Nodes.{setting_of}
use Rattle.luo_rules.specs.StatementBreaches.{count_arms, walked, walk_into, walk_breaches, stmt_breaches, stmts_breaches, arms_breaches}
use Rattle.luo_rules.specs.StatementCore.{stmt_sites, arms_sites, stmt_items, stmts_items, arms_core, stmt_own}
use Rattle.luo_rules.specs.Whole.{core}
use Rattle.luo_rules.proofs.Lists.{some_same, nil_left, nil_right, index_get}
use Rattle.luo_rules.proofs.PatternFacts.{arm_fits, case_fits}
use Rattle.luo_rules.proofs.ProperBodies.{ProperStmt, ProperStmts, ProperArms}
use Rattle.luo_rules.proofs.ValueFits.{procedure_meant}
use Rattle.luo_rules.proofs.CleanSource.{Clean}
use Rattle.luo_meaning.specs.Charges.{ArmsCharge, ProcCharges, StmtCharges}
use Rattle.luo_meaning.specs.Levels.{CallLevel, ProcLevel, StmtLevel}
use Rattle.luo_meaning.specs.Types.{Types, type_of, IsCollectionOf, AreStands, BindsTypes}
use Rattle.luo_meaning.specs.Sites.{SomeSite, SomeSites, SomeArm}
use Rattle.luo_meaning.proofs.Steps.{each_map, agree_one}
use Rattle.luo_meaning.proofs.StatementsKept.{argument_found, arms_kept, stmt_kept}
use Rattle.luo_meaning.proofs.ProceduresKept.{charges_kept, keeps_all}
use Rattle.luo_meaning.proofs.LevelsKept.{own_free, call_kept, levels_kept, stmt_level}
use Rattle.luo_meaning.proofs.SiteWorks.{InItems, InArms}
use Rattle.luo_meaning.proofs.Sits.{shape_at_node}
use Rattle.luo_meaning.proofs.Typing.{Holds, SameStands, IsTyped, AgreeTypes, stands_up, stands_down, component_up, component_down}
use Rattle.luo_meaning.proofs.TypedScopes.{typed_one, bound_typed, types_bound}

-- a walk without breach goes over a collection
pub record Walked (s : Setting) (o : Option (ℕ × Part)) (inner : List Breach) : Type 0 where
  pub v : ℕ × Part
  pub is : o ≡ Some v
  pub collection : IsCollection (shape_at s v.1.node)
  pub none : inner ≡ []

walk_in : (form : Shape) (source : Name) (inner : List Breach) → walk_into form source inner ≡ [] → IsCollection form × (inner ≡ [])
walk_in (shape.Atom weight) source inner e = absurd (cc)
walk_in (shape.Union parts) source inner e = absurd (cc)
walk_in (shape.Product parts) source inner e = absurd (cc)
walk_in (shape.Coll kind part low high) source inner e = (tt, e)

pub walk_there : (s : Setting) (o : Option (ℕ × Part)) (source : Name) (inner : List Breach) → walk_breaches s o source inner ≡ [] → Walked s o inner
walk_there s None source inner e = absurd (cc)
walk_there s (Some v) source inner e = let w = walk_in (shape_at s v.1.node) source inner e in record { v = v; is = refl; collection = w.0; none = w.1 }

-- what is said of a site by its number, the node or the type of its variable, its charges and its level
abbrev pub InNode : Type 1
InNode = ℕ → ℕ → (Tree → ℕ → Type 0) → (ℕ → Type 0) → Type 0

abbrev pub InType : Type 1
InType = ℕ → TypeExpr → (Tree → ℕ → Type 0) → (ℕ → Type 0) → Type 0

-- Q of a node and P of a type expression agree where the node stands for it, and charges and level are the same
abbrev pub Related : Source → InNode → InType → Type 1
Related source Q P =
    (i x : ℕ) (e : TypeExpr) (C D : Tree → ℕ → Type 0) (L M : ℕ → Type 0) → Holds source x e → ((t : Tree) (q : ℕ) → C t q ↔ D t q) → ((n : ℕ) → L n ↔ M n)
    → Q i x C L ↔ P i e D M

module _ (source : Source) (c : Clean source) (none : measures_breaches (names_of source) 0 (measures source) ≡ []) (Q : InNode) (P : InType) (related : Related source Q P) where
  -- the core form's side
  abbrev pub At : ℕ → ℕ → Work → Type 0
  At i x w = Q i x (WorkCharges (core source) w) (WorkLevel (core source) w)

  -- procedures are as deep as they are written
  levels : (text : List ℕ) (f : ℕ) → meaning (names_of source) text ≡ Some (mean.Procedure f) → (n : ℕ) → WholeLevel (core source) f n ↔ ProcLevel source text n
  levels = levels_kept source c

  pub at_zero : (n : ℕ) → (n ≡ 0) ↔ (n ≡ 0)
  at_zero n = (λ h. h, λ h. h)

  pub in_join : (vars : List Part) (a b : Items) → InItems (core source) At vars (join_items a b) ↔ (InItems (core source) At vars a ⊎ InItems (core source) At vars b)
  in_join vars no_items b = (λ h. inr h, λ h. elim h [ inl h ↦ absurd h | inr h ↦ h ])
  in_join vars (item i is) b =
      let rest = in_join vars is b in (
        λ h. elim h [ inl h ↦ inl (inl h) | inr h ↦ elim (rest.0 h) [ inl h ↦ inl (inr h) | inr h ↦ inr h ] ],
        λ h. elim h [ inl h ↦ elim h [ inl h ↦ inl h | inr h ↦ inr (rest.1 (inl h)) ] | inr h ↦ inr (rest.1 (inr h)) ],
      )

  -- the part of a variable
  pub place_part : (scope : List Variable) (types : Types) (vars : List Part) (name : Name) (v : ℕ × Part) → found scope name ≡ Some v → IsTyped source types vars name.text v.0 v.1 → part_at vars (place_of (found scope name)) ≡ v.1
  place_part scope types vars name v e t = ap (λ o. part_at vars (place_of o)) e ∙ index_get vars v.0 v.1 no_part t.there

  pub call_some : (scope : List Variable) (types : Types) (vars : List Part) → AgreeTypes source scope types vars → (first : ℕ) (callee arg : Name) → procedure_use (meant (setting_of source) callee) callee ≡ [] → (on : Option ℕ) → argument_breaches (found scope arg) on arg callee ≡ []
      → InItems (core source) At vars (item (plain.Call (place_of (found scope arg)) (procedure_of (meant (setting_of source) callee)) first) no_items) ↔ ((e : TypeExpr) × (type_of types arg.text ≡ Some e) × P first e (ProcCharges source callee.text) (CallLevel (ProcLevel source) callee.text))
  call_some scope types vars agree first callee arg called on argument =
      let s = setting_of source in
      let f = procedure_meant (meant s callee) callee called in
      let v = argument_found (found scope arg) on arg callee argument in
      let t = agree arg v.0 v.1 in
      let part = place_part scope types vars arg v.0 v.1 t in
      let g = procedure_of (meant s callee) in
      let number : g ≡ f.0 = ap procedure_of f.1 in
      let C : Tree → ℕ → Type 0 = λ u q. Charges (core source) g u q in
      let D : Tree → ℕ → Type 0 = λ u q. ProcCharges source callee.text u q in
      let same : (u : Tree) (q : ℕ) → C u q ↔ D u q = λ u q. let k = charges_kept source c none callee.text f.0 f.1 u q in (λ h. k.0 (subst (λ n. Charges (core source) n u q) number h), λ h. subst (λ n. Charges (core source) n u q) (sym number) (k.1 h)) in
      let L : ℕ → Type 0 = λ n. (m : ℕ) × WholeLevel (core source) g m × (n ≡ suc m) in
      let M : ℕ → Type 0 = CallLevel (ProcLevel source) callee.text in
      let r = related first v.0.1.node t.e C D L M t.holds same (λ n. call_kept (WholeLevel (core source)) (ProcLevel source) s levels callee called n) in (
        λ h. elim h [ inl h ↦ (t.e, t.type, r.0 (subst (λ (n : Part). Q first n.node C L) part h)) | inr h ↦ absurd h ],
        λ h. let one : h.0 ≡ t.e = some_same h.0 t.e (sym h.1 ∙ t.type) in inl (subst (λ (n : Part). Q first n.node C L) (sym part) (r.1 (subst (λ z. P first z D M) one h.2))),
      )

  mutual
    pub stmt_some : (stmt : Stmt) (scope : List Variable) (types : Types) (vars : List Part) → AgreeTypes source scope types vars → (first : ℕ) → ProperStmt stmt → stmt_breaches (setting_of source) scope stmt ≡ []
        → InItems (core source) At vars (stmt_items (setting_of source) scope first stmt) ↔ SomeSite source P types first stmt
    stmt_some Skip scope types vars agree first p e = (λ h. h, λ h. h)
    stmt_some (Charge measure) scope types vars agree first p e = (λ h. h, λ h. h)
    stmt_some (Call callee arg) scope types vars agree first p e =
        let s = setting_of source in
        let on = (signature_meant s (meant s callee)).on in
        call_some scope types vars agree first callee arg (nil_left (procedure_use (meant s callee) callee) (argument_breaches (found scope arg) on arg callee) e) on (nil_right (procedure_use (meant s callee) callee) (argument_breaches (found scope arg) on arg callee) e)
    stmt_some (Block stmts) scope types vars agree first p e = stmts_some stmts scope types vars agree first p e
    stmt_some (Case var arms) scope types vars agree first p e =
        let s = setting_of source in
        let o = found scope var in
        let k = case_fits s o var (count_arms arms) (arms_breaches s (case_stands s o) var arms) e in
        let v = k.variable in
        let t = agree var v k.is in
        let part = place_part scope types vars var v k.is t in
        let x = part_at vars (place_of o) in
        let cs = case_stands s o in
        let stood : cs ≡ stands v.1 (shape_at_node source v.1.node) = ap (case_stands s) k.is in
        let stood_x : stands x (shape_at_node source x.node) ≡ cs = ap (λ (n : Part). stands n (shape_at_node source n.node)) part ∙ sym stood in
        let long : length cs ≡ count_arms arms = ap length stood ∙ sym k.many in
        let core_arms : Arms = arms_core s cs first arms in
        let C : Tree → ℕ → Type 0 = λ u q. CaseCharges (Charges (core source)) core_arms u q in
        let D : Tree → ℕ → Type 0 = λ u q. ArmsCharge source (ProcCharges source) arms u q in
        let Z : ℕ → Type 0 = λ n. n ≡ 0 in
        let site = first + arms_sites arms in
        let r = related site v.1.node t.e C D Z Z t.holds (λ u q. arms_kept source (Charges (core source)) (ProcCharges source) s (keeps_all source c none) arms cs var first long k.none u q) at_zero in
        let inner : (es : List TypeExpr) → AreStands source t.e es → InArms (core source) At cs core_arms ↔ SomeArm source P es first arms =
        λ es are. arms_some arms cs es var (subst (λ z. SameStands source z es) (sym stood) (stands_down source c v.1 t.e es t.holds are)) first p.1 long k.none in
        let up = stands_up source c v.1 t.e t.holds (omega (arith, k.many, p.0)) in (
          λ h. elim h [
            | inl h ↦ elim h [
              | inl h ↦ (t.e, up.es, t.type, up.are, inl (r.0 (subst (λ (n : Part). Q site n.node C Z) part h)))
              | inr h ↦ (t.e, up.es, t.type, up.are, inr ((inner up.es up.are).0 (subst (λ z. InArms (core source) At z core_arms) stood_x h)))
            ]
            | inr h ↦ absurd h
          ],
          λ h.
              let one : h.0 ≡ t.e = some_same h.0 t.e (sym h.2 ∙ t.type) in
              let are = subst (λ z. AreStands source z h.1) one h.3 in
              elim h.4 [
                | inl g ↦ inl (inl (subst (λ (n : Part). Q site n.node C Z) (sym part) (r.1 (subst (λ z. P site z D Z) one g))))
                | inr g ↦ inl (inr (subst (λ z. InArms (core source) At z core_arms) (sym stood_x) ((inner h.1 are).1 g)))
              ],
        )
    stmt_some (Forall var over body) scope types vars agree first p e =
        let s = setting_of source in
        let o = found scope over in
        let inside : List Variable = record { name = var.text; part = walked s o } ∷ [] in
        let w = walk_there s o over (stmt_breaches s inside body) e in
        let v = w.v in
        let t = agree over v w.is in
        let part = place_part scope types vars over v w.is t in
        let x = part_at vars (place_of o) in
        let y = component (shape_at_node source x.node) in
        let y_is : y ≡ component (shape_at_node source v.1.node) = ap (λ (n : Part). component (shape_at_node source n.node)) part in
        let y_walked : y ≡ walked s o = y_is ∙ sym (ap (walked s) w.is) in
        let core_body : plain.Body = Does (stmt_own s body) (stmt_items s inside first body) in
        let kept : (u : Tree) (q : ℕ) → model.BodyCharges (Charges (core source)) core_body (u ∷ []) q ↔ StmtCharges source (ProcCharges source) ((var.text, u) ∷ []) body q =
        λ u q. stmt_kept source (Charges (core source)) (ProcCharges source) s (keeps_all source c none) body inside ((var.text, u) ∷ []) (u ∷ []) (agree_one var.text (walked s o) u) first w.none q in
        let B : Tree → ℕ → Type 0 = λ u q. model.BodyCharges (Charges (core source)) core_body (u ∷ []) q in
        let E : Tree → ℕ → Type 0 = λ u q. StmtCharges source (ProcCharges source) ((var.text, u) ∷ []) body q in
        let C : Tree → ℕ → Type 0 = λ u q. (ts : Trees) × (u ≡ Coll ts) × EachCharges B ts q in
        let D : Tree → ℕ → Type 0 = λ u q. (ts : Trees) × (u ≡ Coll ts) × EachCharges E ts q in
        let walks : (u : Tree) (q : ℕ) → C u q ↔ D u q = λ u q. (λ h. (h.0, h.1, each_map B E (λ a b. (kept a b).0) h.0 q h.2), λ h. (h.0, h.1, each_map E B (λ a b. (kept a b).1) h.0 q h.2)) in
        let Z : ℕ → Type 0 = λ n. n ≡ 0 in
        let site = first + stmt_sites body + 1 in
        let body_site = first + stmt_sites body in
        let L : ℕ → Type 0 = level_of.BodyLevel (WholeLevel (core source)) core_body in
        let M : ℕ → Type 0 = StmtLevel (ProcLevel source) body in
        let deep : (n : ℕ) → L n ↔ M n =
        λ n. let free = own_free (WholeLevel (core source)) (stmt_own s body) (stmt_items s inside first body) n in
        let b = stmt_level (WholeLevel (core source)) (ProcLevel source) s levels body inside first w.none n in (λ h. b.0 (free.0 h), λ h. free.1 (b.1 h)) in
        let r = related site v.1.node t.e C D Z Z t.holds walks at_zero in
        let holds : (f : TypeExpr) → IsCollectionOf source t.e f → Holds source y.node f = λ f is. subst (λ (n : Part). Holds source n.node f) (sym y_is) (component_down source c v.1.node t.e f t.holds is) in
        let whole : (f : TypeExpr) → IsCollectionOf source t.e f → Q body_site y.node B L ↔ P body_site f E M = λ f is. related body_site y.node f B E L M (holds f is) kept deep in
        let inner : (f : TypeExpr) → IsCollectionOf source t.e f → InItems (core source) At (y ∷ []) (stmt_items s inside first body) ↔ SomeSite source P ((var.text, f) ∷ []) first body =
        λ f is. stmt_some body inside ((var.text, f) ∷ []) (y ∷ []) (typed_one source c var.text y (walked s o) f y_walked (holds f is)) first p w.none in
        let up = component_up source c v.1.node t.e t.holds w.collection in (
          λ h. elim h [
            | inl h ↦ elim h [
              | inl h ↦ (t.e, up.0, t.type, up.1, inl (r.0 (subst (λ (n : Part). Q site n.node C Z) part h)))
              | inr h ↦ elim h [
                | inl h ↦ (t.e, up.0, t.type, up.1, inr (inl ((whole up.0 up.1).0 h)))
                | inr h ↦ (t.e, up.0, t.type, up.1, inr (inr ((inner up.0 up.1).0 h)))
              ]
            ]
            | inr h ↦ absurd h
          ],
          λ h.
              let one : h.0 ≡ t.e = some_same h.0 t.e (sym h.2 ∙ t.type) in
              let is = subst (λ z. IsCollectionOf source z h.1) one h.3 in
              elim h.4 [
                | inl g ↦ inl (inl (subst (λ (n : Part). Q site n.node C Z) (sym part) (r.1 (subst (λ z. P site z D Z) one g))))
                | inr g ↦ elim g [
                  | inl g ↦ inl (inr (inl ((whole h.1 is).1 g)))
                  | inr g ↦ inl (inr (inr ((inner h.1 is).1 g)))
                ]
              ],
        )

    pub stmts_some : (row : Stmts) (scope : List Variable) (types : Types) (vars : List Part) → AgreeTypes source scope types vars → (first : ℕ) → ProperStmts row → stmts_breaches (setting_of source) scope row ≡ []
        → InItems (core source) At vars (stmts_items (setting_of source) scope first row) ↔ SomeSites source P types first row
    stmts_some no_stmts scope types vars agree first p e = (λ h. h, λ h. h)
    stmts_some (a_stmt stmt rest) scope types vars agree first p e =
        let s = setting_of source in
        let one = stmt_some stmt scope types vars agree first p.0 (nil_left (stmt_breaches s scope stmt) (stmts_breaches s scope rest) e) in
        let more = stmts_some rest scope types vars agree (first + stmt_sites stmt) p.1 (nil_right (stmt_breaches s scope stmt) (stmts_breaches s scope rest) e) in
        let join = in_join vars (stmt_items s scope first stmt) (stmts_items s scope (first + stmt_sites stmt) rest) in (
          λ h. elim (join.0 h) [ inl h ↦ inl (one.0 h) | inr h ↦ inr (more.0 h) ],
          λ h. elim h [ inl h ↦ join.1 (inl (one.1 h)) | inr h ↦ join.1 (inr (more.1 h)) ],
        )

    arms_some : (row : SourceArms) (ss : List Stand) (es : List TypeExpr) (var : Name) → SameStands source ss es → (first : ℕ) → ProperArms row → length ss ≡ count_arms row → arms_breaches (setting_of source) ss var row ≡ []
        → InArms (core source) At ss (arms_core (setting_of source) ss first row) ↔ SomeArm source P es first row
    arms_some no_source_arms [] [] var stand first p l e = (λ h. h, λ h. h)
    arms_some no_source_arms [] (f ∷ es) var stand first p l e = absurd stand
    arms_some no_source_arms (t ∷ ss) es var stand first p l e = absurd (omega (arith, l))
    arms_some (a_source_arm pattern body rest) [] es var stand first p l e = absurd (omega (arith, l))
    arms_some (a_source_arm pattern body rest) (t ∷ ss) [] var stand first p l e = absurd stand
    arms_some (a_source_arm pattern body rest) (t ∷ ss) (f ∷ es) var stand first p l e =
        let s = setting_of source in
        let inner = stmt_breaches s (patterns.bound s t pattern) body in
        let a = arm_fits s t var pattern inner (nil_left (arm_breaches s t var pattern inner) (arms_breaches s ss var rest) e) in
        let body_some : (types : Types) → BindsTypes source pattern f types → InItems (core source) At (bound_parts (core source) t (bind_of pattern)) (stmt_items s (patterns.bound s t pattern) first body) ↔ SomeSite source P types first body =
        λ types b. stmt_some body (patterns.bound s t pattern) types (bound_parts (core source) t (bind_of pattern)) (bound_typed source c t pattern f types stand.0 b) first p.0 a.1 in
        let up = types_bound source c t pattern f stand.0 a.0 in
        let more = arms_some rest ss es var stand.1 (first + stmt_sites body) p.1 (omega (arith, l)) (nil_right (arm_breaches s t var pattern inner) (arms_breaches s ss var rest) e) in (
          λ h. elim h [ inl h ↦ inl (up.0, up.1, (body_some up.0 up.1).0 h) | inr h ↦ inr (more.0 h) ],
          λ h. elim h [ inl g ↦ inl ((body_some g.0 g.1).1 g.2) | inr h ↦ inr (more.1 h) ],
        )
