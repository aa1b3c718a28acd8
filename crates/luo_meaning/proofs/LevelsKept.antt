-- The levels of bodies and procedures in the core form are those of the source as written.
use Rattle.std.proofs.Common.{◌≡◌, ◌↔◌, ℕ, zero, suc, ◌+◌, List, [], ◌∷◌, ◌++◌, Option, Some, None, slice_get, refl, sym, ap, ◌∙◌, subst, arith}
use Rattle.std.specs.Prelude.{max}
use Rattle.luo_model.specs.Program as plain
use Rattle.luo_model.specs.Program.{Procedure, Body, Does, Items, no_items, item, Item, Arms}
use Rattle.luo_model.specs.Levels as model
use Rattle.luo_model.specs.Levels.{ItemLevel, ItemsLevel, LevelWithin, WholeLevel}
use Rattle.luo_model.specs.Scopes.ValueBodies.{join_items, value_items, values_items, value_arm_bodies}
use Rattle.luo_model.specs.Scopes.ValueBodies as scopes
use Rattle.luo_source.specs.declared.names.Name.{Name}
use Rattle.luo_source.specs.Plain.Statements.{Stmt, Skip, Charge, Call, Block, Case, Forall, Stmts, no_stmts, a_stmt}
use Rattle.luo_source.specs.Plain.Values as value
use Rattle.luo_source.specs.Plain.Values.{SourceValue, Given, Made, Atom, Tuple, Branch, SourceValues, no_source_values, a_source_value}
use Rattle.luo_source.specs.Plain.Source.{ProcBody, Statements, Value, ProcDef, Source}
use Rattle.luo_rules.specs.declared.names.Meaning.TheVariants as mean
use Rattle.luo_rules.specs.declared.setting.Setting.{Setting}
use Rattle.luo_rules.specs.declared.setting.Variable.{Variable}
use Rattle.luo_rules.specs.Breaches.{◌or_if_none◌}
use Rattle.luo_rules.specs.Meanings.{meaning, type_use, procedure_use, procedure_of}
use Rattle.luo_rules.specs.Settings.{meant, signature_meant, found, place_of, argument_breaches, case_stands, def_node, type_node}
use Rattle.luo_rules.specs.ValueBreaches as values
use Rattle.luo_rules.specs.ValueBreaches.{part_nodes, inner_node, count_values, value_breaches, values_breaches}
use Rattle.luo_rules.specs.ValueCore.{value_core, values_core, value_arms_core}
use Rattle.luo_rules.specs.Definitions.{names_of}
use Rattle.luo_rules.specs.Nodes.{setting_of}
use Rattle.luo_rules.specs.StatementBreaches.{walked, stmt_breaches, stmts_breaches}
use Rattle.luo_rules.specs.StatementCore.{stmt_own, stmts_own, stmt_sites, arms_sites, stmt_items, stmts_items, arms_core}
use Rattle.luo_rules.specs.Whole.{result_breaches, parameter, body_breaches, body_core, proc_core, core}
use Rattle.luo_rules.proofs.Lists.{some_same, nil_left, nil_right, none_first}
use Rattle.luo_rules.proofs.CleanSource.{Clean, clean_proc, proc_get}
use Rattle.luo_rules.proofs.ValueFits.{procedure_meant}
use Rattle.luo_meaning.specs.Levels.{CallLevel, StmtLevel, StmtsLevel, ValueLevel, ValuesLevel, BodyLevel, ProcLevelWithin, ProcLevel}
use Rattle.luo_meaning.proofs.Named.{procedure_named, named_procedure}
use Rattle.luo_meaning.proofs.ProceduresKept.{procedure_number}

module _ (R : ℕ → ℕ → Type 0) where
  -- the level of items as that of a body
  abbrev pub Level : Items → ℕ → Type 0
  Level items n = model.BodyLevel R (Does 0 items) n

  -- what a body charges itself has no part in its level
  pub own_free : (own : ℕ) (items : Items) (n : ℕ) → model.BodyLevel R (Does own items) n ↔ Level items n
  own_free own no_items n = (λ h. h, λ h. h)
  own_free own (item i is) n = (λ h. h, λ h. h)

  -- an item and those behind it
  item_split : (i : Item) (is : Items) (n : ℕ) → Level (item i is) n ↔ ((a : ℕ) × (b : ℕ) × ItemLevel R i a × Level is b × (n ≡ max (suc a) b))
  item_split i no_items n = (
    λ (m, (a, b, one, none, e), f). (a, 0, one, refl, omega (arith, none, e, f)),
    λ (a, b, one, none, e). (a, (a, 0, one, refl, omega arith), omega (arith, none, e)),
  )
  item_split i (item j is) n = (
    λ (m, (a, b, one, rest, e), f). (a, suc b, one, (b, rest, refl), omega (arith, e, f)),
    λ (a, b, one, (m, rest, g), e). (max a m, (a, m, one, rest, refl), omega (arith, g, e)),
  )

  level_join : (a b : Items) (n : ℕ) → Level (join_items a b) n ↔ ((x : ℕ) × (y : ℕ) × Level a x × Level b y × (n ≡ max x y))
  level_join no_items b n = (
    λ h. (0, n, refl, h, omega arith),
    λ (x, y, none, h, e). let same : y ≡ n = omega (arith, none, e) in subst (Level b) same h,
  )
  level_join (item i is) b n = (
    λ h.
        let (k, l, one, rest, e) = (item_split i (join_items is b) n).0 h in
        let (x, y, left, right, f) = (level_join is b l).0 rest in
        (max (suc k) x, y, (item_split i is (max (suc k) x)).1 (k, x, one, left, refl), right, omega (arith, e, f)),
    λ (x, y, left, right, e).
        let (k, l, one, rest, f) = (item_split i is x).0 left in
        (item_split i (join_items is b) n).1 (k, max l y, one, (level_join is b (max l y)).1 (l, y, rest, right, refl), omega (arith, e, f)),
  )

  -- an item by itself
  level_one : (i : Item) (n : ℕ) → Level (item i no_items) n ↔ ((a : ℕ) × ItemLevel R i a × (n ≡ suc a))
  level_one i n = (
    λ (m, (a, b, one, none, e), f). (a, one, omega (arith, none, e, f)),
    λ (a, one, e). (a, (a, 0, one, refl, omega arith), e),
  )

module _ (R : ℕ → ℕ → Type 0) (S : List ℕ → ℕ → Type 0) (s : Setting) (calls : (text : List ℕ) (f : ℕ) → meaning s.names text ≡ Some (mean.Procedure f) → (n : ℕ) → R f n ↔ S text n) where
  -- the level of a call
  pub call_kept : (callee : Name) → procedure_use (meant s callee) callee ≡ [] → (n : ℕ) → ((m : ℕ) × R (procedure_of (meant s callee)) m × (n ≡ suc m)) ↔ CallLevel S callee.text n
  call_kept callee called n =
      let f = procedure_meant (meant s callee) callee called in
      let number : procedure_of (meant s callee) ≡ f.0 = ap procedure_of f.1 in (
        λ (m, r, e). (m, (calls callee.text f.0 f.1 m).0 (subst (λ g. R g m) number r), e),
        λ (m, r, e). (m, subst (λ g. R g m) (sym number) ((calls callee.text f.0 f.1 m).1 r), e),
      )

  call_item : (var site : ℕ) (callee : Name) → procedure_use (meant s callee) callee ≡ [] → (n : ℕ) → Level R (item (plain.Call var (procedure_of (meant s callee)) site) no_items) n ↔ ((m : ℕ) × CallLevel S callee.text m × (n ≡ suc m))
  call_item var site callee called n =
      let one = level_one R (plain.Call var (procedure_of (meant s callee)) site) n in (
        λ h. let r = one.0 h in (r.0, (call_kept callee called r.0).0 r.1, r.2),
        λ h. one.1 (h.0, (call_kept callee called h.0).1 h.1, h.2),
      )

  -- a case and a walk
  case_item : (var site : ℕ) (arms : Arms) (n : ℕ) → Level R (item (plain.Case var arms site) no_items) n ↔ (n ≡ 1)
  case_item var site arms n =
      let one = level_one R (plain.Case var arms site) n in (
        λ h. let r = one.0 h in omega (arith, r.1, r.2),
        λ h. one.1 (0, refl, h),
      )

  walk_item : (var body_site site : ℕ) (body : Body) (n : ℕ) → Level R (item (plain.Forall var body body_site site) no_items) n ↔ (n ≡ 1)
  walk_item var body_site site body n =
      let one = level_one R (plain.Forall var body body_site site) n in (
        λ h. let r = one.0 h in omega (arith, r.1, r.2),
        λ h. one.1 (0, refl, h),
      )

  mutual
    pub stmt_level : (stmt : Stmt) (scope : List Variable) (first : ℕ) → stmt_breaches s scope stmt ≡ [] → (n : ℕ) → Level R (stmt_items s scope first stmt) n ↔ StmtLevel S stmt n
    stmt_level Skip scope first e n = (λ h. h, λ h. h)
    stmt_level (Charge measure) scope first e n = (λ h. h, λ h. h)
    stmt_level (Call callee arg) scope first e n = call_item (place_of (found scope arg)) first callee (nil_left (procedure_use (meant s callee) callee) (argument_breaches (found scope arg) (signature_meant s (meant s callee)).on arg callee) e) n
    stmt_level (Block stmts) scope first e n = stmts_level stmts scope first e n
    stmt_level (Case var arms) scope first e n =
        case_item (place_of (found scope var)) (first + arms_sites arms) (arms_core s (case_stands s (found scope var)) first arms) n
    stmt_level (Forall var over body) scope first e n =
        let inside : List Variable = record { name = var.text; part = walked s (found scope over) } ∷ [] in
        walk_item (place_of (found scope over)) (first + stmt_sites body) (first + stmt_sites body + 1) (Does (stmt_own s body) (stmt_items s inside first body)) n

    pub stmts_level : (row : Stmts) (scope : List Variable) (first : ℕ) → stmts_breaches s scope row ≡ [] → (n : ℕ) → Level R (stmts_items s scope first row) n ↔ StmtsLevel S row n
    stmts_level no_stmts scope first e n = (λ h. h, λ h. h)
    stmts_level (a_stmt stmt rest) scope first e n =
        let join = level_join R (stmt_items s scope first stmt) (stmts_items s scope (first + stmt_sites stmt) rest) n in
        let one = stmt_level stmt scope first (nil_left (stmt_breaches s scope stmt) (stmts_breaches s scope rest) e) in
        let more = stmts_level rest scope (first + stmt_sites stmt) (nil_right (stmt_breaches s scope stmt) (stmts_breaches s scope rest) e) in (
          λ h. let r = join.0 h in (r.0, r.1, (one r.0).0 r.2, (more r.1).0 r.3, r.4),
          λ h. join.1 (h.0, h.1, (one h.0).1 h.2, (more h.1).1 h.3, h.4),
        )

  mutual
    value_level : (v : SourceValue) (scope : List Variable) (first : ℕ) (expected : Option ℕ) → value_breaches s scope expected v ≡ [] → (n : ℕ) → Level R (value_items first (value_core s scope expected v)) n ↔ ValueLevel S v n
    value_level (Given name) scope first expected e n = (λ h. h, λ h. h)
    value_level (Made callee arg) scope first expected e n =
        let signature = signature_meant s (meant s callee) in
        let front = procedure_use (meant s callee) callee or_if_none values.result_breaches expected signature.result callee in
        let argument = argument_breaches (found scope arg) signature.on arg callee in
        call_item (place_of (found scope arg)) first callee (none_first (procedure_use (meant s callee) callee) (values.result_breaches expected signature.result callee) (nil_left front argument e)) n
    value_level (Atom charge at) scope first expected e n = (λ h. h, λ h. h)
    value_level (Tuple parts at) scope first expected e n =
        let nodes = part_nodes s expected (count_values parts) in
        values_level parts scope first nodes (nil_right _ (values_breaches s scope nodes parts) e) n
    value_level (Branch number at inner) scope first expected e n =
        let node = inner_node s expected number in
        value_level inner scope first node (nil_right _ (value_breaches s scope node inner) e) n
    value_level (value.Case var arms) scope first expected e n =
        let core_arms = value_arms_core s (case_stands s (found scope var)) expected arms in
        case_item (place_of (found scope var)) (first + scopes.value_arms_sites core_arms) (value_arm_bodies first core_arms) n

    values_level : (row : SourceValues) (scope : List Variable) (first : ℕ) (nodes : List ℕ) → values_breaches s scope nodes row ≡ [] → (n : ℕ) → Level R (values_items first (values_core s scope nodes row)) n ↔ ValuesLevel S row n
    values_level no_source_values scope first nodes e n = (λ h. h, λ h. h)
    values_level (a_source_value v rest) scope first [] e n =
        let core_value = value_core s scope None v in
        let next = first + scopes.value_sites core_value in
        let join = level_join R (value_items first core_value) (values_items next (values_core s scope [] rest)) n in
        let one = value_level v scope first None (nil_left (value_breaches s scope None v) (values_breaches s scope [] rest) e) in
        let more = values_level rest scope next [] (nil_right (value_breaches s scope None v) (values_breaches s scope [] rest) e) in (
          λ h. let r = join.0 h in (r.0, r.1, (one r.0).0 r.2, (more r.1).0 r.3, r.4),
          λ h. join.1 (h.0, h.1, (one h.0).1 h.2, (more h.1).1 h.3, h.4),
        )
    values_level (a_source_value v rest) scope first (node ∷ nodes) e n =
        let core_value = value_core s scope (Some node) v in
        let next = first + scopes.value_sites core_value in
        let join = level_join R (value_items first core_value) (values_items next (values_core s scope nodes rest)) n in
        let one = value_level v scope first (Some node) (nil_left (value_breaches s scope (Some node) v) (values_breaches s scope nodes rest) e) in
        let more = values_level rest scope next nodes (nil_right (value_breaches s scope (Some node) v) (values_breaches s scope nodes rest) e) in (
          λ h. let r = join.0 h in (r.0, r.1, (one r.0).0 r.2, (more r.1).0 r.3, r.4),
          λ h. join.1 (h.0, h.1, (one h.0).1 h.2, (more h.1).1 h.3, h.4),
        )

  -- a body in the scope of its parameter
  pub body_level : (p : ProcDef) (body : ProcBody) (node at : ℕ) → body_breaches s p (Some node) body ≡ [] → (n : ℕ) → model.BodyLevel R (body_core s p at body) n ↔ BodyLevel S body n
  body_level p (Statements stmts) node at none n =
      let free = own_free R (stmts_own s stmts) (stmts_items s (parameter s p) at stmts) n in
      let list = stmts_level stmts (parameter s p) at none n in
      (λ h. list.0 (free.0 h), λ h. free.1 (list.1 h))
  body_level p (Value colon result value) node at none n =
      let made = value_core s (parameter s p) (type_node s result) value in
      let free = own_free R (scopes.value_own made) (value_items at made) n in
      let list = value_level value (parameter s p) at (type_node s result)
      (nil_right (result_breaches s.universe colon p.name ++ type_use (meant s result) result) (value_breaches s (parameter s p) (type_node s result) value) none) n in
      (λ h. list.0 (free.0 h), λ h. free.1 (list.1 h))

module _ (source : Source) (c : Clean source) where
  -- the procedure at a place of the source
  here : (R : ℕ → ℕ → Type 0) (S : List ℕ → ℕ → Type 0) → ((text : List ℕ) (f : ℕ) → meaning (names_of source) text ≡ Some (mean.Procedure f) → (n : ℕ) → R f n ↔ S text n)
      → (f : ℕ) (p : ProcDef) → slice_get source.procs f ≡ Some p → (at n : ℕ) → model.BodyLevel R (body_core (setting_of source) p at p.body) n ↔ BodyLevel S p.body n
  here R S calls f p e at n =
      let s = setting_of source in
      let k = clean_proc source c f p e in
      body_level R S s calls p p.body (def_node s k.i) at k.body n

  within_kept : (depth : ℕ) (text : List ℕ) (f : ℕ) → meaning (names_of source) text ≡ Some (mean.Procedure f) → (n : ℕ) → LevelWithin (core source).procs depth f n ↔ ProcLevelWithin source depth text n
  within_kept zero text f e n = (λ h. h, λ h. h)
  within_kept (suc depth) text f e n =
      let s = setting_of source in
      let R : ℕ → ℕ → Type 0 = LevelWithin (core source).procs depth in
      let S : List ℕ → ℕ → Type 0 = ProcLevelWithin source depth in
      let p = procedure_named source c text f e in
      let there = proc_get s 0 source.procs f p.0 p.1 in (
        λ h.
            let same : h.0 ≡ proc_core s there.0 p.0 = some_same h.0 (proc_core s there.0 p.0) (sym h.1 ∙ there.1) in
            (p.0, p.2, (here R S (within_kept depth) f p.0 p.1 there.0 n).0 (subst (λ (P : Procedure). model.BodyLevel R P.body n) same h.2)),
        λ h.
            let g = named_procedure source c text h.0 h.1 in
            let number : g.0 ≡ f = procedure_number g.0 f (sym g.2 ∙ e) in
            let is : slice_get source.procs f ≡ Some h.0 = ap (slice_get source.procs) (sym number) ∙ g.1 in
            let core_is = proc_get s 0 source.procs f h.0 is in
            (proc_core s core_is.0 h.0, core_is.1, (here R S (within_kept depth) f h.0 is core_is.0 n).1 h.2),
      )

  -- the level of a procedure
  pub levels_kept : (text : List ℕ) (f : ℕ) → meaning (names_of source) text ≡ Some (mean.Procedure f) → (n : ℕ) → WholeLevel (core source) f n ↔ ProcLevel source text n
  levels_kept text f e n = (λ h. (h.0, (within_kept h.0 text f e n).0 h.1), λ h. (h.0, (within_kept h.0 text f e n).1 h.1))

  -- the level of its body
  pub whole_kept : (f : ℕ) (p : ProcDef) → slice_get source.procs f ≡ Some p → (at n : ℕ) → model.BodyLevel (WholeLevel (core source)) (body_core (setting_of source) p at p.body) n ↔ BodyLevel (ProcLevel source) p.body n
  whole_kept f p e at n = here (WholeLevel (core source)) (ProcLevel source) levels_kept f p e at n
