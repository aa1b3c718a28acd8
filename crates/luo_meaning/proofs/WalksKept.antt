-- The walks over multisets and powersets, counted in both forms.
use Rattle.std.proofs.Common.{◌≡◌, ◌↔◌, ℕ, zero, suc, ◌+◌, List, [], ◌∷◌, length, sum_by, Option, Some, slice_get, refl, sym, ap, ◌∙◌, subst, arith}
use Rattle.std.proofs.lemmas.List.Sums.{sum_by-cons}
use Rattle.luo_model.specs.declared.program.Kind.{Kind}
use Rattle.luo_model.specs.declared.program.Kind.TheVariants.{Sequence, Set, Cycle, Multiset, Powerset}
use Rattle.luo_model.specs.declared.program.Part.{Part}
use Rattle.luo_model.specs.declared.program.Shape.TheVariants as shape
use Rattle.luo_model.specs.Program as plain
use Rattle.luo_model.specs.Program.{Procedure, Body, Does, Items, no_items, item, Arms}
use Rattle.luo_model.specs.Scopes.Stands.{Stand, stands, component, no_part, part_at, bound_parts}
use Rattle.luo_model.specs.Scopes.ValueBodies.{join_items, value_items, values_items, value_arm_bodies, value_sites}
use Rattle.luo_model.specs.Scopes.Walks as model
use Rattle.luo_model.specs.Scopes.Walks.{body_walks, items_walks, arms_walks}
use Rattle.luo_model.specs.Program.{Value, Values, no_values, value, ValueArms, no_value_arms, value_arm}
use Rattle.luo_source.specs.declared.names.Name.{Name}
use Rattle.luo_source.specs.Plain.Types.{TypeExpr, Named}
use Rattle.luo_source.specs.Plain.Statements.{Stmt, Skip, Charge, Call, Block, Case, Forall, Stmts, no_stmts, a_stmt, SourceArms, no_source_arms, a_source_arm}
use Rattle.luo_source.specs.Plain.Source.{Source, ProcBody, Statements, ProcDef}
use Rattle.luo_rules.specs.declared.setting.Variable.{Variable}
use Rattle.luo_rules.specs.Settings.{found, place_of, case_stands, meant, def_node, type_node, part_meant}
use Rattle.luo_rules.specs.Patterns as patterns
use Rattle.luo_rules.specs.Patterns.{bind_of, arm_breaches}
use Rattle.luo_rules.specs.Counted.{multiset_of}
use Rattle.luo_rules.specs.Nodes.{Spot, named_part, setting_of}
use Rattle.luo_rules.specs.StatementBreaches.{count_arms, walked, stmt_breaches, stmts_breaches, arms_breaches}
use Rattle.luo_rules.specs.StatementCore.{stmt_sites, stmt_items, stmts_items, arms_core}
use Rattle.luo_source.specs.Plain.Source as proc
use Rattle.luo_rules.specs.ValueCore.{value_core}
use Rattle.luo_rules.specs.Definitions.{definitions, names_of, definition_meant}
use Rattle.luo_rules.specs.Checks.{IsSource}
use Rattle.luo_rules.proofs.ProperSource.{ProperBody, ProperProc, source_proper}
use Rattle.luo_rules.proofs.SourceFacts.{all_get}
use Rattle.luo_meaning.proofs.RowsKept.{clean_source, named_sits}
use Rattle.luo_rules.specs.Whole.{core, breaches, walk_count, parameter, body_breaches, body_core, sites_of, proc_core, procs_core}
use Rattle.luo_rules.proofs.Lists.{some_same, nil_left, nil_right, index_get}
use Rattle.luo_rules.proofs.PatternFacts.{arm_fits, case_fits}
use Rattle.luo_rules.proofs.ProperBodies.{ProperStmt, ProperStmts, ProperArms}
use Rattle.luo_rules.proofs.CleanSource.{Clean, clean_proc, def_node_is}
use Rattle.luo_meaning.specs.Types.{Types, IsCollectionOf, collection_of, AreStands, BindsTypes}
use Rattle.luo_meaning.specs.Walks.{IsWalkOver, walk_over, StmtWalks, StmtsWalk, ArmsWalk, BodyWalks, ProcsWalk}
use Rattle.luo_meaning.proofs.Sits.{shape_at_node}
use Rattle.luo_meaning.proofs.Typing.{Holds, SameStands, AgreeTypes, down, stands_up, stands_down, component_up, component_down, shape_of_construct}
use Rattle.luo_meaning.proofs.TypedScopes.{typed_one, bound_typed, types_bound}
use Rattle.luo_meaning.proofs.SitesKept.{walk_there}

kind_walks : (kind : Kind) (part : Part) (low : ℕ) (high : Option ℕ) → model.multiset_of (shape.Coll kind part low high) ≡ multiset_of kind
kind_walks Sequence part low high = refl
kind_walks Set part low high = refl
kind_walks Cycle part low high = refl
kind_walks Multiset part low high = refl
kind_walks Powerset part low high = refl

module _ (source : Source) (c : Clean source) where
  join_walks : (vars : List Part) (a b : Items) → items_walks (core source) vars (join_items a b) ≡ items_walks (core source) vars a + items_walks (core source) vars b
  join_walks vars no_items b = omega arith
  join_walks vars (item i is) b = omega (arith, join_walks vars is b)

  -- how much a walk counts
  walk_down : (x : ℕ) (e f : TypeExpr) (n : ℕ) → Holds source x e → IsWalkOver source e f n → (n ≡ model.multiset_of (shape_at_node source x)) × IsCollectionOf source e f
  walk_down x e f n h (walk_over {kind} {bound} {at} l) =
      let k = down source c l x h in
      (sym (ap model.multiset_of (shape_of_construct source c _ x tt k refl) ∙ kind_walks kind _ _ _), collection_of l)

  walk_up : (x : ℕ) (e f : TypeExpr) → Holds source x e → IsCollectionOf source e f → IsWalkOver source e f (model.multiset_of (shape_at_node source x))
  walk_up x e f h (collection_of {kind} {bound} {at} l) =
      let k = down source c l x h in
      subst (IsWalkOver source e f) (sym (ap model.multiset_of (shape_of_construct source c _ x tt k refl) ∙ kind_walks kind _ _ _)) (walk_over l)

  part_is : (vars : List Part) (scope : List Variable) (name : Name) (v : ℕ × Part) → found scope name ≡ Some v → slice_get vars v.0 ≡ Some v.1 → part_at vars (place_of (found scope name)) ≡ v.1
  part_is vars scope name v e t = ap (λ o. part_at vars (place_of o)) e ∙ index_get vars v.0 v.1 no_part t

  mutual
    pub stmt_walks : (stmt : Stmt) (scope : List Variable) (types : Types) (vars : List Part) → AgreeTypes source scope types vars → (first : ℕ) → ProperStmt stmt → stmt_breaches (setting_of source) scope stmt ≡ [] → (n : ℕ)
        → (n ≡ items_walks (core source) vars (stmt_items (setting_of source) scope first stmt)) ↔ StmtWalks source types stmt n
    stmt_walks Skip scope types vars agree first p e n = (λ h. h, λ h. h)
    stmt_walks (Charge measure) scope types vars agree first p e n = (λ h. h, λ h. h)
    stmt_walks (Call callee arg) scope types vars agree first p e n = (λ h. omega (arith, h), λ h. omega (arith, h))
    stmt_walks (Block stmts) scope types vars agree first p e n = stmts_walks stmts scope types vars agree first p e n
    stmt_walks (Case var arms) scope types vars agree first p e n =
        let s = setting_of source in
        let o = found scope var in
        let k = case_fits s o var (count_arms arms) (arms_breaches s (case_stands s o) var arms) e in
        let v = k.variable in
        let t = agree var v k.is in
        let part = part_is vars scope var v k.is t.there in
        let x = part_at vars (place_of o) in
        let cs = case_stands s o in
        let stood : cs ≡ stands v.1 (shape_at_node source v.1.node) = ap (case_stands s) k.is in
        let stood_x : stands x (shape_at_node source x.node) ≡ cs = ap (λ (n : Part). stands n (shape_at_node source n.node)) part ∙ sym stood in
        let long : length cs ≡ count_arms arms = ap length stood ∙ sym k.many in
        let core_arms : Arms = arms_core s cs first arms in
        let same : arms_walks (core source) (stands x (shape_at_node source x.node)) core_arms ≡ arms_walks (core source) cs core_arms = ap (λ z. arms_walks (core source) z core_arms) stood_x in
        let inner : (es : List TypeExpr) → AreStands source t.e es → (n ≡ arms_walks (core source) cs core_arms) ↔ ArmsWalk source es arms n =
        λ es are. arms_walks_kept arms cs es var (subst (λ z. SameStands source z es) (sym stood) (stands_down source c v.1 t.e es t.holds are)) first p.1 long k.none n in
        let up = stands_up source c v.1 t.e t.holds (omega (arith, k.many, p.0)) in (
          λ h. (t.e, up.es, t.type, up.are, (inner up.es up.are).0 (omega (arith, h, same))),
          λ h.
              let one : h.0 ≡ t.e = some_same h.0 t.e (sym h.2 ∙ t.type) in
              let m = (inner h.1 (subst (λ z. AreStands source z h.1) one h.3)).1 h.4 in
              omega (arith, m, same),
        )
    stmt_walks (Forall var over body) scope types vars agree first p e n =
        let s = setting_of source in
        let o = found scope over in
        let inside : List Variable = record { name = var.text; part = walked s o } ∷ [] in
        let w = walk_there s o over (stmt_breaches s inside body) e in
        let v = w.v in
        let t = agree over v w.is in
        let part = part_is vars scope over v w.is t.there in
        let x = part_at vars (place_of o) in
        let y = component (shape_at_node source x.node) in
        let y_is : y ≡ component (shape_at_node source v.1.node) = ap (λ (n : Part). component (shape_at_node source n.node)) part in
        let y_walked : y ≡ walked s o = y_is ∙ sym (ap (walked s) w.is) in
        let count : model.multiset_of (shape_at_node source x.node) ≡ model.multiset_of (shape_at_node source v.1.node) = ap (λ (n : Part). model.multiset_of (shape_at_node source n.node)) part in
        let inner : (f : TypeExpr) → IsCollectionOf source t.e f → (m : ℕ) → (m ≡ items_walks (core source) (y ∷ []) (stmt_items s inside first body)) ↔ StmtWalks source ((var.text, f) ∷ []) body m =
        λ f is m. stmt_walks body inside ((var.text, f) ∷ []) (y ∷ []) (typed_one source c var.text y (walked s o) f y_walked (subst (λ (n : Part). Holds source n.node f) (sym y_is) (component_down source c v.1.node t.e f t.holds is))) first p w.none m in
        let up = component_up source c v.1.node t.e t.holds w.collection in
        let walks = items_walks (core source) (y ∷ []) (stmt_items s inside first body) in (
          λ h. (t.e, up.0, model.multiset_of (shape_at_node source v.1.node), walks, t.type, walk_up v.1.node t.e up.0 t.holds up.1, (inner up.0 up.1 walks).0 refl, omega (arith, h, count)),
          λ h.
              let one : h.0 ≡ t.e = some_same h.0 t.e (sym h.4 ∙ t.type) in
              let d = walk_down v.1.node t.e h.1 h.2 t.holds (subst (λ z. IsWalkOver source z h.1 h.2) one h.5) in
              let m = (inner h.1 d.1 h.3).1 h.6 in
              omega (arith, h.7, m, d.0, count),
        )

    pub stmts_walks : (row : Stmts) (scope : List Variable) (types : Types) (vars : List Part) → AgreeTypes source scope types vars → (first : ℕ) → ProperStmts row → stmts_breaches (setting_of source) scope row ≡ [] → (n : ℕ)
        → (n ≡ items_walks (core source) vars (stmts_items (setting_of source) scope first row)) ↔ StmtsWalk source types row n
    stmts_walks no_stmts scope types vars agree first p e n = (λ h. h, λ h. h)
    stmts_walks (a_stmt stmt rest) scope types vars agree first p e n =
        let s = setting_of source in
        let one = stmt_walks stmt scope types vars agree first p.0 (nil_left (stmt_breaches s scope stmt) (stmts_breaches s scope rest) e) in
        let more = stmts_walks rest scope types vars agree (first + stmt_sites stmt) p.1 (nil_right (stmt_breaches s scope stmt) (stmts_breaches s scope rest) e) in
        let is = stmt_items s scope first stmt in
        let js = stmts_items s scope (first + stmt_sites stmt) rest in
        let join = join_walks vars is js in (
          λ h. (items_walks (core source) vars is, items_walks (core source) vars js, (one _).0 refl, (more _).0 refl, omega (arith, h, join)),
          λ h. let a = (one h.0).1 h.2 in let b = (more h.1).1 h.3 in omega (arith, h.4, a, b, join),
        )

    arms_walks_kept : (row : SourceArms) (ss : List Stand) (es : List TypeExpr) (var : Name) → SameStands source ss es → (first : ℕ) → ProperArms row → length ss ≡ count_arms row → arms_breaches (setting_of source) ss var row ≡ [] → (n : ℕ)
        → (n ≡ arms_walks (core source) ss (arms_core (setting_of source) ss first row)) ↔ ArmsWalk source es row n
    arms_walks_kept no_source_arms [] es var stand first p l e n = (λ h. h, λ h. h)
    arms_walks_kept no_source_arms (t ∷ ss) es var stand first p l e n = absurd (omega (arith, l))
    arms_walks_kept (a_source_arm pattern body rest) [] es var stand first p l e n = absurd (omega (arith, l))
    arms_walks_kept (a_source_arm pattern body rest) (t ∷ ss) [] var stand first p l e n = absurd stand
    arms_walks_kept (a_source_arm pattern body rest) (t ∷ ss) (f ∷ es) var stand first p l e n =
        let s = setting_of source in
        let inner = stmt_breaches s (patterns.bound s t pattern) body in
        let a = arm_fits s t var pattern inner (nil_left (arm_breaches s t var pattern inner) (arms_breaches s ss var rest) e) in
        let vars = bound_parts (core source) t (bind_of pattern) in
        let is = stmt_items s (patterns.bound s t pattern) first body in
        let one : (types : Types) → BindsTypes source pattern f types → (m : ℕ) → (m ≡ items_walks (core source) vars is) ↔ StmtWalks source types body m =
        λ types b m. stmt_walks body (patterns.bound s t pattern) types vars (bound_typed source c t pattern f types stand.0 b) first p.0 a.1 m in
        let up = types_bound source c t pattern f stand.0 a.0 in
        let more = arms_walks_kept rest ss es var stand.1 (first + stmt_sites body) p.1 (omega (arith, l)) (nil_right (arm_breaches s t var pattern inner) (arms_breaches s ss var rest) e) in (
          λ h. (up.0, items_walks (core source) vars is, arms_walks (core source) ss (arms_core s ss (first + stmt_sites body) rest), up.1, (one up.0 up.1 _).0 refl, (more _).0 refl, h),
          λ h. let x = (one h.0 h.3 h.1).1 h.4 in let y = (more h.2).1 h.5 in omega (arith, h.6, x, y),
        )

  -- values have no walks
  mutual
    pub value_walks : (v : Value) (first : ℕ) (vars : List Part) → items_walks (core source) vars (value_items first v) ≡ 0
    value_walks (plain.Given var) first vars = refl
    value_walks (plain.Made var callee) first vars = refl
    value_walks (plain.Atom weight own) first vars = refl
    value_walks (plain.Tuple vs) first vars = values_walks vs first vars
    value_walks (plain.Branch number v) first vars = value_walks v first vars
    value_walks (plain.Chosen var arms) first vars = omega (arith, value_arms_walks arms first (stands (part_at vars var) (shape_at_node source (part_at vars var).node)))

    values_walks : (vs : Values) (first : ℕ) (vars : List Part) → items_walks (core source) vars (values_items first vs) ≡ 0
    values_walks no_values first vars = refl
    values_walks (value v vs) first vars = join_walks vars (value_items first v) (values_items (first + value_sites v) vs) ∙ omega (arith, value_walks v first vars, values_walks vs (first + value_sites v) vars)

    value_arms_walks : (arms : ValueArms) (first : ℕ) (ss : List Stand) → arms_walks (core source) ss (value_arm_bodies first arms) ≡ 0
    value_arms_walks no_value_arms first [] = refl
    value_arms_walks no_value_arms first (t ∷ ss) = refl
    value_arms_walks (value_arm bind v arms) first [] = refl
    value_arms_walks (value_arm bind v arms) first (t ∷ ss) = omega (arith, value_walks v first (bound_parts (core source) t bind), value_arms_walks arms (first + value_sites v) ss)

  body_walks_kept : (p : ProcDef) (body : ProcBody) (n at : ℕ) → Holds source (part_meant (setting_of source) (meant (setting_of source) p.on)).node (Named p.on) → ProperBody body → body_breaches (setting_of source) p (Some n) body ≡ [] → (m : ℕ)
      → (m ≡ body_walks (core source) (part_meant (setting_of source) (meant (setting_of source) p.on) ∷ []) (body_core (setting_of source) p at body)) ↔ BodyWalks source ((p.param.text, Named p.on) ∷ []) body m
  body_walks_kept p (Statements stmts) n at holds proper e m =
      let s = setting_of source in
      let x = part_meant s (meant s p.on) in
      stmts_walks stmts (parameter s p) ((p.param.text, Named p.on) ∷ []) (x ∷ []) (typed_one source c p.param.text x x (Named p.on) refl holds) at proper e m
  body_walks_kept p (proc.Value colon result v) n at holds proper e m =
      let s = setting_of source in
      let none = value_walks (value_core s (parameter s p) (type_node s result) v) at (part_meant s (meant s p.on) ∷ []) in
      (λ h. h ∙ none, λ h. h ∙ sym none)

  procs_walks : (g first : ℕ) (ps : List ProcDef) → ((k : ℕ) (p : ProcDef) → slice_get ps k ≡ Some p → ProperProc p × (slice_get source.procs (g + k) ≡ Some p)) → (m : ℕ)
      → (m ≡ sum_by (λ (P : Procedure). body_walks (core source) (P.on ∷ []) P.body) (procs_core (setting_of source) first ps)) ↔ ProcsWalk source ps m
  procs_walks g first [] there m = (λ h. h, λ h. h)
  procs_walks g first (p ∷ ps) there m =
      let s = setting_of source in
      let h0 = there zero p refl in
      let k = clean_proc source c (g + 0) p h0.1 in
      let x = (part_meant s (meant s p.on)).node in
      let node : x ≡ def_node s k.i = ap (λ o. (part_meant s o).node) k.on in
      let spot : Spot = record { node = 0; place = 0 } in
      let holds : Holds source x (Named p.on) = record {
        owner = 0;
        spot = spot;
        sits = named_sits source c p.on k.i k.on spot;
        at = ap (λ o. (named_part (names_of source) (definitions source) (definition_meant o)).node) k.on ∙ (sym (def_node_is source c k.i k.below) ∙ sym node);
      } in
      let one = body_walks_kept p p.body (def_node s k.i) first holds h0.0 k.body in
      let more = procs_walks (suc g) (first + sites_of s p p.body + 1) ps (λ j q e. let h = there (suc j) q e in (h.0, ap (slice_get source.procs) (omega arith) ∙ h.1)) in
      let count : Procedure → ℕ = λ (P : Procedure). body_walks (core source) (P.on ∷ []) P.body in
      let rest = procs_core s (first + sites_of s p p.body + 1) ps in
      let sum = sum_by-cons count (proc_core s first p) rest in (
        λ h. (count (proc_core s first p), sum_by count rest, (one _).0 refl, (more _).0 refl, h ∙ sum),
        λ h. let a = (one h.0).1 h.2 in let b = (more h.1).1 h.3 in h.4 ∙ (ap (λ z. z + h.1) a ∙ ap (λ z. count (proc_core s first p) + z) b) ∙ sym sum,
      )

-- the walks of the core form and of the source
pub walks_kept : (source : Source) → IsSource source → breaches source ≡ [] → (m : ℕ) → (m ≡ walk_count (core source)) ↔ ProcsWalk source source.procs m
walks_kept source is none =
    procs_walks source (clean_source source is none) 0 0 source.procs
    (λ k p e. (all_get ProperProc source.procs k p (source_proper source is).bodies e, ap (slice_get source.procs) (omega arith) ∙ e))
