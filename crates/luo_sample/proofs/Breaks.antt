-- A sample breaks no rule of types and names.
use Rattle.std.proofs.Common.{◌≡◌, ◌<◌, ◌≤◌, ◌+◌, ◌*◌, ℕ, zero, suc, List, [], ◌∷◌, ◌++◌, length, refl, ap, sym, ◌∙◌, subst, arith, Some, None, Option, slice_get, codes}
use Rattle.std.specs.Prelude.{flat_map, map, slice_index_or, Bool, true, nat_eq, if◌then◌else◌}
use Rattle.std.proofs.lemmas.Bool.{eq-eqb}
use Rattle.std.specs.Option.{option_map}
use Rattle.luo_model.specs.declared.program.Universe.{Universe}
use Rattle.luo_model.specs.declared.program.Universe.TheVariants.{Unlabelled, Labelled}
use Rattle.luo_model.specs.declared.program.Part.{Part}
use Rattle.luo_model.specs.declared.program.Def.{Def}
use Rattle.luo_model.specs.declared.program.Kind.{Kind}
use Rattle.luo_model.specs.declared.program.Shape.TheVariants as shape
use Rattle.luo_model.specs.Invariant.{bare}
use Rattle.luo_model.specs.Scopes.Stands.{stands, inside, factors, component}
use Rattle.luo_source.specs.declared.names.Name.{Name}
use Rattle.luo_source.specs.Plain.Types.{Atom, TypeDef}
use Rattle.luo_source.specs.declared.types.MeasureDef.{MeasureDef}
use Rattle.luo_source.specs.declared.statements.Pattern.TheVariants as pattern
use Rattle.luo_source.specs.Plain.Statements.{Stmt, Skip, Call, Block, Case, Forall, SourceArms}
use Rattle.luo_source.specs.Plain.Source.{ProcDef, Source}
use Rattle.luo_rules.specs.declared.names.Meaning.{Meaning}
use Rattle.luo_rules.specs.declared.names.Meaning.TheVariants as mean
use Rattle.luo_rules.specs.declared.rule.Breach.{Breach}
use Rattle.luo_rules.specs.declared.setting.Setting.{Setting}
use Rattle.luo_rules.specs.declared.setting.Variable.{Variable}
use Rattle.luo_rules.specs.Breaches.{◌or_if_none◌, broken_at}
use Rattle.luo_rules.specs.declared.rule.Rule.TheVariants.{Y1, Y9, Y10}
use Rattle.luo_model.specs.Scopes.Stands.{Stand}
use Rattle.luo_rules.specs.Meanings.{meaning, type_use, measure_use, procedure_use}
use Rattle.luo_rules.specs.Settings.{meant, def_node, node_meant, signature_meant, shape_at, found, argument_breaches, no_signature}
use Rattle.luo_rules.specs.Settings as settings
use Rattle.luo_rules.specs.Patterns.{is_node, has_factors, repeated, variables, bound, fits, misfit, arm_breaches, case_breaches}
use Rattle.luo_rules.specs.Definitions.{Definition, values, copies, definitions, definition_meant, names_of}
use Rattle.luo_rules.specs.inner.Naming.{node_of}
use Rattle.luo_rules.specs.Nodes.{named_node, defs_from, setting_of, signature_of}
use Rattle.luo_rules.specs.TypeBreaches.{is_meaning, name_breaches, kind_breaches, expr_breaches, type_breaches, types_breaches, measures_breaches}
use Rattle.luo_rules.specs.StatementBreaches.{count_arms, stmt_breaches, arms_breaches, walk_into, walk_breaches, walked}
use Rattle.luo_rules.specs.Whole.{breaches, body_breaches, proc_breaches, procs_breaches, parameter}
use Rattle.luo_rules.proofs.Lists.{index_get}
use Rattle.luo_sample.specs.declared.choice.Choice.{Choice}
use Rattle.luo_sample.specs.Text.{type_name, proc_name, kind_chosen}
use Rattle.luo_sample.proofs.Form.{at, token, IsSource, AllTypes, AreTypes, AreProcs, AreAnalyzed, OneMeasure, atom_def, type_of, type_form, unit_def, proc_of, proc_form, two_calls, one_walk, arms_form}
use Rattle.luo_sample.proofs.Lines.{IsSmallChoice}
use Rattle.luo_sample.proofs.Nodes.{type_node}
use Rattle.luo_sample.proofs.Facts as facts

-- lists without elements

both : {A : Type 0} (xs ys : List A) → xs ≡ [] → ys ≡ [] → xs ++ ys ≡ []
both xs ys e f = ap (λ z. z ++ ys) e ∙ f

either : (xs ys : List Breach) → xs ≡ [] → ys ≡ [] → (xs or_if_none ys) ≡ []
either xs ys e f = ap (λ z. z or_if_none ys) e ∙ f

chosen : (b : Bool) (xs ys : List Breach) → b ≡ true → xs ≡ [] → (if b then xs else ys) ≡ []
chosen b xs ys e f = ap (λ b. if b then xs else ys) e ∙ f

-- uses of names

type_clean : (m : Option Meaning) (i : ℕ) (name : Name) → m ≡ Some (mean.Definition i) → type_use m name ≡ []
type_clean m i name e = ap (λ m. type_use m name) e

proc_clean : (m : Option Meaning) (i : ℕ) (name : Name) → m ≡ Some (mean.Procedure i) → procedure_use m name ≡ []
proc_clean m i name e = ap (λ m. procedure_use m name) e

new_clean : (names : List (List ℕ × Meaning)) (name : Name) (own : Meaning) → meaning names name.text ≡ Some own → is_meaning (Some own) own ≡ true → name_breaches names name own ≡ []
new_clean names name own e f = chosen (is_meaning (meaning names name.text) own) [] (broken_at Y1 name) (ap (λ m. is_meaning m own) e ∙ f) refl

kind_clean : (u : Universe) (k at : ℕ) → kind_breaches u (kind_chosen u k) at ≡ []
kind_clean Unlabelled zero at = refl
kind_clean Unlabelled (suc zero) at = refl
kind_clean Unlabelled (suc (suc k)) at = refl
kind_clean Labelled zero at = refl
kind_clean Labelled (suc zero) at = refl
kind_clean Labelled (suc (suc k)) at = refl

same_number : (n : ℕ) → nat_eq n n ≡ true
same_number n = eq-eqb n n refl

equal_nodes : (v : ℕ × Part) (n : ℕ) (arg callee : Name) → v.1.node ≡ n → argument_breaches (Some v) (Some n) arg callee ≡ []
equal_nodes v n arg callee e = chosen (nat_eq v.1.node n) [] (record { rule = Y9; token = arg.at; names = arg.text ∷ callee.text ∷ [] } ∷ []) (eq-eqb v.1.node n e) refl

-- statements

module _ (st : Setting) where
  call_clean : (scope : List Variable) (callee arg : Name) (v : ℕ × Part) (j n : ℕ) → found scope arg ≡ Some v → meant st callee ≡ Some (mean.Procedure j) → (signature_meant st (meant st callee)).on ≡ Some n → v.1.node ≡ n
      → stmt_breaches st scope (Call callee arg) ≡ []
  call_clean scope callee arg v j n f m g e =
      both _ _ (proc_clean (meant st callee) j callee m)
      (ap (λ o. argument_breaches o (signature_meant st (meant st callee)).on arg callee) f ∙ (ap (λ o. argument_breaches (Some v) o arg callee) g ∙ equal_nodes v n arg callee e))

  walk_clean : (scope : List Variable) (var source : Name) (body : Stmt) (v : ℕ × Part) (kind : Kind) (part : Part) (low : ℕ) (high : Option ℕ) → found scope source ≡ Some v → shape_at st v.1.node ≡ shape.Coll kind part low high
      → stmt_breaches st (record { name = var.text; part = part } ∷ []) body ≡ [] → stmt_breaches st scope (Forall var source body) ≡ []
  walk_clean scope var source body v kind part low high f h b =
      ap (λ o. walk_breaches st o source (stmt_breaches st (record { name = var.text; part = walked st o } ∷ []) body)) f
      ∙ (ap (λ S. walk_into S source (stmt_breaches st (record { name = var.text; part = component S } ∷ []) body)) h ∙ b)

  case_clean : (scope : List Variable) (var : Name) (arms : SourceArms) (v : ℕ × Part) (all : List Stand) → found scope var ≡ Some v → stands v.1 (shape_at st v.1.node) ≡ all → count_arms arms ≡ length all
      → arms_breaches st all var arms ≡ [] → stmt_breaches st scope (Case var arms) ≡ []
  case_clean scope var arms v all f e l b =
      ap (λ o. case_breaches st o var (count_arms arms) (arms_breaches st (settings.case_stands st o) var arms)) f
      ∙ chosen (nat_eq (count_arms arms) (length (stands v.1 (shape_at st v.1.node)))) (arms_breaches st (stands v.1 (shape_at st v.1.node)) var arms) (broken_at Y10 var) (eq-eqb _ _ (l ∙ sym (ap length e)))
      (ap (λ L. arms_breaches st L var arms) e ∙ b)

  parts_clean : (y : Part) (parts : List Part) (var : Name) (names : List Name) (k : ℕ) (body : Stmt) → shape_at st y.node ≡ shape.Product parts → length parts ≡ length names → repeated [] names ≡ []
      → stmt_breaches st (variables names parts) body ≡ [] → arm_breaches st (inside y) var (pattern.Parts names k) (stmt_breaches st (bound st (inside y) (pattern.Parts names k)) body) ≡ []
  parts_clean y parts var names k body e l r b =
      let fit : has_factors (length names) (shape_at st y.node) ≡ true = ap (has_factors (length names)) e ∙ eq-eqb (length parts) (length names) l in
      both _ _ (both _ _ (ap (λ z. misfit z (pattern.Parts names k) var) fit) r)
      (chosen (has_factors (length names) (shape_at st y.node)) (stmt_breaches st (variables names (factors (shape_at st y.node))) body) [] fit (ap (λ S. stmt_breaches st (variables names (factors S)) body) e ∙ b))

  skip_clean : (y : Part) (i : ℕ) (var type : Name) → meant st type ≡ Some (mean.Definition i) → settings.type_node st type ≡ Some y.node → arm_breaches st (inside y) var (pattern.Named type) (stmt_breaches st (bound st (inside y) (pattern.Named type)) Skip) ≡ []
  skip_clean y i var type m e =
      let fit : fits st (inside y) (pattern.Named type) ≡ true = ap (λ o. is_node o y.node) e ∙ same_number y.node in
      both _ _ (both _ [] (either _ _ (type_clean (meant st type) i type m) (ap (λ z. misfit z (pattern.Named type) var) fit)) refl) (ap (λ b. if b then [] else []) fit)

module _ (u : Universe) (choices : ℕ → Choice) (small : (i : ℕ) → IsSmallChoice (choices i)) (s : Source) (q : IsSource u choices s) where
  abbrev names : List (List ℕ × Meaning)
  names = names_of s

  abbrev defs : List Definition
  defs = definitions s

  type_meant : (i : ℕ) → i < 20 → meaning names (type_name i) ≡ Some (mean.Definition (suc i))
  type_meant i l = facts.type_meant u choices small s q i l

  proc_meant : (i : ℕ) → i < 20 → meaning names (proc_name i) ≡ Some (mean.Procedure i)
  proc_meant i l = facts.proc_meant u choices small s q i l

  z_meant : meaning names (codes "z") ≡ Some (mean.Definition 0)
  z_meant = facts.z_meant u choices small s q

  -- definitions

  type_sound : (i : ℕ) → i < 20 → (ks : List ℕ) → type_breaches u names defs (suc i) (type_form u i (choices i) ks) ≡ []
  type_sound i l ks =
      let z = λ (k : ℕ). type_clean (meaning names (codes "z")) 0 (at (codes "z") k) z_meant in
      let t = λ (j : ℕ) (h : j < 20) (k : ℕ). type_clean (meaning names (type_name j)) (suc j) (at (type_name j) k) (type_meant j h) in
      let c = small i in
      both _ _
      (both _ [] (new_clean names (at (type_name i) (token ks 0)) (mean.Definition (suc i)) (type_meant i l) (same_number (suc i))) refl)
      (either _ _
      (both _ _ (z (token ks 1))
      (both _ _ (both _ _ (z (token ks 2)) (both _ _ (t (choices i).first c.first (token ks 3)) (both _ [] (t (choices i).second c.second (token ks 4)) refl)))
      (both _ [] (both _ _ (z (token ks 6)) (both _ [] (both _ [] (both _ _ (kind_clean u (choices i).kind (token ks 8)) (t (choices i).inner c.inner (token ks 7))) refl) refl)) refl)))
      refl)

  types_sound : (i n : ℕ) (ds : List TypeDef) → AreTypes u choices i n ds → i + n ≤ 20 → (o : ℕ) → o ≡ suc i → types_breaches u names defs o ds ≡ []
  types_sound i zero [] e l o h = refl
  types_sound i zero (d ∷ ds) e l o h = absurd e
  types_sound i (suc n) [] e l o h = absurd e
  types_sound i (suc n) (_ ∷ ds) (type_of ks, e) l o h =
      both _ _ (subst (λ o. type_breaches u names defs o (type_form u i (choices i) ks) ≡ []) (sym h) (type_sound i (omega (arith, l)) ks)) (types_sound (suc i) n ds e (omega (arith, l)) (o + 1) (omega (arith, h)))

  all_sound : (ds : List TypeDef) → AllTypes u choices ds → types_breaches u names defs 0 ds ≡ []
  all_sound [] e = absurd e
  all_sound (_ ∷ ds) (atom_def {a = a} {b = b}, e) = both _ _ (both _ _ (both _ [] (new_clean names (at (codes "z") a) (mean.Definition 0) z_meant refl) refl) (either _ _ (atom_sound u b) refl)) (types_sound 0 20 ds e (omega arith) 1 refl)
    where
      atom_sound : (u : Universe) (b : ℕ) → expr_breaches u names (Atom 1 b 0) ≡ []
      atom_sound Labelled b = refl
      atom_sound Unlabelled b = refl

  measures_sound : (ms : List MeasureDef) → OneMeasure ms → measures_breaches names 0 (flat_map values ms) ≡ []
  measures_sound [] e = absurd e
  measures_sound (_ ∷ []) (unit_def {a = a}) = both _ [] (new_clean names (at (codes "unit") a) (mean.Measure 0 1) (facts.unit_meant u choices small s q) refl) refl
  measures_sound (_ ∷ (_ ∷ _)) e = absurd e

  -- procedures

  abbrev st : Setting
  st = setting_of s

  abbrev At : List Def → ℕ → ℕ → Type 0
  At ds k x = (d : Def) × (slice_get ds k ≡ Some d) × (d.whole.node ≡ x)

  defs_at : (i n : ℕ) (ds : List TypeDef) → AreTypes u choices i n ds → (x k : ℕ) → k < n → At (defs_from names defs x (flat_map copies ds)) k (x + 4 * k)
  defs_at i zero ds e x k l = absurd (omega (arith, l))
  defs_at i (suc n) [] e x k l = absurd e
  defs_at i (suc n) (_ ∷ ds) (type_of ks, e) x zero l = (record { name = type_name i; whole = bare x }, refl, omega arith)
  defs_at i (suc n) (_ ∷ ds) (type_of ks, e) x (suc k) l = let r = defs_at (suc i) n ds e (x + 4) k (omega (arith, l)) in (r.0, r.1, omega (arith, r.2))

  type_at : (ds : List TypeDef) → AllTypes u choices ds → (i : ℕ) → i < 20 → At (defs_from names defs 0 (flat_map copies ds)) (suc i) (1 + 4 * i)
  type_at [] e i l = absurd e
  type_at (_ ∷ ds) (atom_def, e) i l = defs_at 0 20 ds e 1 i l

  z_at : (ds : List TypeDef) → AllTypes u choices ds → At (defs_from names defs 0 (flat_map copies ds)) 0 0
  z_at [] e = absurd e
  z_at (_ ∷ ds) (atom_def, e) = (record { name = codes "z"; whole = bare 0 }, refl, refl)

  node_is : (i x : ℕ) → At st.defs i x → def_node st i ≡ x
  node_is i x (d, get, e) = ap (λ (d : Def). d.whole.node) (index_get st.defs i d (record { name = []; whole = record { node = 0; name = None } }) get) ∙ e

  type_is : (i k : ℕ) → i < 20 → settings.type_node st (at (type_name i) k) ≡ Some (1 + 4 * i)
  type_is i k l = ap (node_meant st) (type_meant i l) ∙ ap Some (node_is (suc i) (1 + 4 * i) (type_at s.types q.types i l))

  part_is : (i : ℕ) → i < 20 → (settings.part_meant st (meaning names (type_name i))).node ≡ 1 + 4 * i
  part_is i l = ap (λ m. (settings.part_meant st m).node) (type_meant i l) ∙ node_is (suc i) (1 + 4 * i) (type_at s.types q.types i l)

  z_is : (k : ℕ) → settings.type_node st (at (codes "z") k) ≡ Some 0
  z_is k = ap (node_meant st) z_meant ∙ ap Some (node_is 0 0 (z_at s.types q.types))

  signature_at : (i n : ℕ) (ps : List ProcDef) → AreProcs choices i n ps → (k j : ℕ) → k < n → j ≡ i + k → (slice_index_or (map (signature_of names defs) ps) k no_signature).on ≡ named_node names defs (at (type_name j) 0)
  signature_at i zero ps e k j l h = absurd (omega (arith, l))
  signature_at i (suc n) [] e k j l h = absurd e
  signature_at i (suc n) (_ ∷ ps) (proc_of ks, e) zero j l h = let same : i ≡ j = omega (arith, h) in ap (λ j. named_node names defs (at (type_name j) 0)) same
  signature_at i (suc n) (_ ∷ ps) (proc_of ks, e) (suc k) j l h = signature_at (suc i) n ps e k j (omega (arith, l)) (omega (arith, h))

  signature_is : (i k : ℕ) → i < 20 → (signature_meant st (meant st (at (proc_name i) k))).on ≡ Some (1 + 4 * i)
  signature_is i k l =
      ap (λ m. (signature_meant st m).on) (proc_meant i l)
      ∙ (signature_at 0 20 s.procs q.procs i i l (omega arith)
      ∙ (ap (λ m. option_map (node_of names defs) (definition_meant m)) (type_meant i l)
      ∙ ap Some (type_node u choices names s.types q.types i (omega (arith, l)) ∙ omega arith)))

  proc_sound : (i : ℕ) → i < 20 → (ks : List ℕ) → proc_breaches st i (proc_form i (choices i) ks) ≡ []
  proc_sound i l ks =
      let c = small i in
      let ch : Choice = choices i in
      let y : ℕ = 1 + 4 * i in
      let x : Part = settings.part_meant st (meaning names (type_name i)) in
      let z : Part = facts.part u choices small s q (codes "z") in
      let first : Part = facts.part u choices small s q (type_name ch.first) in
      let second : Part = facts.part u choices small s q (type_name ch.second) in
      let inner : Part = facts.part u choices small s q (type_name ch.inner) in
      let var : Name = at (codes "x") (token ks 4) in
      let call = λ (scope : List Variable) (j k : ℕ) (h : j < 20) (arg : Name) (v : ℕ × Part) (f : found scope arg ≡ Some v) (e : v.1.node ≡ 1 + 4 * j). call_clean st scope (at (proc_name j) k) arg v j (1 + 4 * j) f (proc_meant j h) (signature_is j k h) e in
      let scope3 : List Variable = record { name = codes "a"; part = z } ∷ record { name = codes "b"; part = first } ∷ record { name = codes "c"; part = second } ∷ [] in
      let scope2 : List Variable = record { name = codes "a"; part = z } ∷ record { name = codes "b"; part = bare (y + 3) } ∷ [] in
      let scope1 : List Variable = record { name = codes "u"; part = inner } ∷ [] in
      let calls = both _ _ (call scope3 ch.first (token ks 10) c.first (at (codes "b") (token ks 11)) (1, first) refl (facts.type_part u choices small s q ch.first c.first))
      (both _ [] (call scope3 ch.second (token ks 12) c.second (at (codes "c") (token ks 13)) (2, second) refl (facts.type_part u choices small s q ch.second c.second)) refl) in
      let walk = both _ [] (walk_clean st scope2 (at (codes "u") (token ks 17)) (at (codes "b") (token ks 18)) (Call (at (proc_name ch.inner) (token ks 19)) (at (codes "u") (token ks 20))) (1, bare (y + 3)) _ inner _ _ refl (facts.many_shape u choices small s q i l)
      (call scope1 ch.inner (token ks 19) c.inner (at (codes "u") (token ks 20)) (0, inner) refl (facts.type_part u choices small s q ch.inner c.inner))) refl in
      let skips = skip_clean st z 0 var (at (codes "z") (token ks 5)) z_meant (z_is (token ks 5) ∙ ap Some (sym (facts.z_part u choices small s q))) in
      let inside_pair = parts_clean st (bare (y + 1)) (z ∷ first ∷ second ∷ []) var (at (codes "a") (token ks 6) ∷ at (codes "b") (token ks 7) ∷ at (codes "c") (token ks 8) ∷ []) (token ks 9) (Block (two_calls ch ks)) (facts.pair_shape u choices small s q i l) refl refl calls in
      let inside_holder = parts_clean st (bare (y + 2)) (z ∷ bare (y + 3) ∷ []) var (at (codes "a") (token ks 14) ∷ at (codes "b") (token ks 15) ∷ []) (token ks 16) (Block (one_walk ch ks)) (facts.holder_shape u choices small s q i l) refl refl walk in
      let cases = case_clean st (parameter st (proc_form i ch ks)) var (arms_form ch ks) (0, x) (inside z ∷ inside (bare (y + 1)) ∷ inside (bare (y + 2)) ∷ []) refl (ap (stands x) (ap (shape_at st) (part_is i l) ∙ facts.whole_shape u choices small s q i l)) refl
      (both _ _ skips (both _ _ inside_pair (both _ [] inside_holder refl))) in
      both _ _
      (both _ _ (new_clean names (at (proc_name i) (token ks 0)) (mean.Procedure i) (proc_meant i l) (same_number i)) (type_clean (meaning names (type_name i)) (suc i) (at (type_name i) (token ks 2)) (type_meant i l)))
      (ap (λ o. body_breaches st (proc_form i ch ks) o (proc_form i ch ks).body) (type_is i (token ks 2) l)
      ∙ both _ _ (ap (λ m. measure_use m (at (codes "unit") (token ks 3))) (facts.unit_meant u choices small s q)) (both _ [] cases refl))

  procs_sound : (i n : ℕ) (ps : List ProcDef) → AreProcs choices i n ps → i + n ≤ 20 → procs_breaches st i ps ≡ []
  procs_sound i zero [] e l = refl
  procs_sound i zero (p ∷ ps) e l = absurd e
  procs_sound i (suc n) [] e l = absurd e
  procs_sound i (suc n) (_ ∷ ps) (proc_of ks, e) l = both _ _ (proc_sound i (omega (arith, l)) ks) (procs_sound (suc i) n ps e (omega (arith, l)))

  analyses_sound : (i n : ℕ) (ns : List Name) → AreAnalyzed i n ns → i + n ≤ 20 → flat_map (λ name. procedure_use (meant st name) name) ns ≡ []
  analyses_sound i zero [] e l = refl
  analyses_sound i zero (x ∷ xs) e l = absurd e
  analyses_sound i (suc n) [] e l = absurd e
  analyses_sound i (suc n) (name ∷ ns) (f, e) l = both _ _ (proc_clean (meant st name) i name (ap (meaning names) f ∙ proc_meant i (omega (arith, l)))) (analyses_sound (suc i) n ns e (omega (arith, l)))

  -- no rule Y1 to Y15 is broken
  pub none_broken : breaches s ≡ []
  none_broken =
      let sound = both _ _ (subst (λ v. types_breaches v names defs 0 s.types ≡ []) (sym q.universe_is) (all_sound s.types q.types)) (measures_sound s.measures q.measures) in
      either _ _ sound (both _ _ (procs_sound 0 20 s.procs q.procs (omega arith)) (analyses_sound 0 8 s.analyses q.analyses (omega arith)))
