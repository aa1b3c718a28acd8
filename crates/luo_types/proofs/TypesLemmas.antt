-- What the limits and the check of definitions say of each definition.
use Rattle.std.proofs.Common.{◌≡◌, ℕ, suc, ◌+◌, ◌*◌, ◌≤◌, max, List, [], ◌∷◌, ◌++◌, map, length, flat_map, sum_by, length-append, refl, ap, ◌∙◌, sym, subst, arith}
use Rattle.std.proofs.lemmas.List.Sums.{sum_by-cons}
use Rattle.luo_num.specs.declared.limits.TheConstants.{BOUND_LIMIT, DEFINITION_LIMIT, NODE_LIMIT}
use Rattle.luo_model.specs.declared.program.Universe.{Universe}
use Rattle.luo_source.specs.declared.names.Name.{Name}
use Rattle.luo_source.specs.declared.types.TypeDef as held
use Rattle.luo_source.specs.declared.source.Source as read
use Rattle.luo_source.specs.declared.source.ProcDef as told
use Rattle.luo_model.specs.declared.program.Def.{Def}
use Rattle.luo_model.specs.declared.program.Node.{Node}
use Rattle.luo_rules.specs.declared.setting.Setting.{Setting}
use Rattle.luo_rules.specs.declared.setting.Signature.{Signature}
use Rattle.luo_rules.specs.Nodes.{defs_from, nodes_from, signature_of, setting_of}
use Rattle.luo_source.specs.View.{type_def_of, proc_def_of, plain_source}
use Rattle.luo_source.specs.Plain.Types.{TypeExpr, TypeDef}
use Rattle.luo_source.specs.Plain.Source.{ProcDef, Source}
use Rattle.luo_types.specs.inner.Held.{copies_of}
use Rattle.luo_rules.specs.declared.names.Meaning.{Meaning}
use Rattle.luo_rules.specs.declared.rule.Breach.{Breach}
use Rattle.luo_rules.specs.Breaches.{◌or_if_none◌}
use Rattle.luo_rules.specs.Counted.{own_nodes, greatest_bound, greatest_by}
use Rattle.luo_rules.specs.Definitions.{Definition, copies, definitions, measures, with_definitions, with_measures, with_procedures, names_of}
use Rattle.luo_rules.specs.TypeBreaches.{expr_breaches, new_types, circle_breaches, type_breaches, types_breaches, measures_breaches, first_breaches}
use Rattle.luo_types.specs.inner.NodeLists.{MeanBelow}
use Rattle.luo_rules.specs.Checks.{IsWithinLimits}
use Rattle.luo_rules.proofs.SourceFacts.{within_limits}
use Rattle.luo_types.proofs.LimitLemmas.{sum_map}
use Rattle.luo_types.proofs.MeanLemmas.{mean_below}
use Rattle.luo_types.proofs.NodeLemmas.{none-of-append}

-- a copy of this right side
abbrev copy : TypeExpr → Name → Definition
copy right name = record { name = name; right = right }

-- one definition for each name
pub length_definitions : (types : List TypeDef) → length (flat_map copies types) ≡ sum_by (λ (d : TypeDef). length d.names) types
length_definitions [] = refl
length_definitions (d ∷ ds) = omega (arith, length-append (copies d) (flat_map copies ds), length_map (copy d.body) d.names, length_definitions ds, sum_by-cons (λ (d : TypeDef). length d.names) d ds)
  where
    length_map : (f : Name → Definition) (xs : List Name) → length (map f xs) ≡ length xs
    length_map f [] = refl
    length_map f (x ∷ xs) = ap suc (length_map f xs)

abbrev nodes : Definition → ℕ
nodes d = own_nodes d.right

sum-append : (xs ys : List Definition) → sum_by nodes (xs ++ ys) ≡ sum_by nodes xs + sum_by nodes ys
sum-append [] ys = omega arith
sum-append (x ∷ xs) ys = omega (arith, sum_by-cons nodes x (xs ++ ys), sum-append xs ys, sum_by-cons nodes x xs)

sum_copies : (right : TypeExpr) (names : List Name) → sum_by nodes (map (copy right) names) ≡ length names * own_nodes right
sum_copies right [] = omega arith
sum_copies right (name ∷ names) = omega (arith, sum_by-cons nodes (copy right name) (map (copy right) names), sum_copies right names)

-- each name has its own nodes
pub nodes_definitions : (types : List TypeDef) → sum_by nodes (flat_map copies types) ≡ sum_by (λ (d : TypeDef). length d.names * own_nodes d.body) types
nodes_definitions [] = refl
nodes_definitions (d ∷ ds) = omega (arith, sum-append (copies d) (flat_map copies ds), sum_copies d.body d.names, nodes_definitions ds, sum_by-cons (λ (d : TypeDef). length d.names * own_nodes d.body) d ds)

abbrev bound : Definition → ℕ
bound d = greatest_bound d.right

greatest-append : (xs ys : List Definition) → greatest_by bound (xs ++ ys) ≡ max (greatest_by bound xs) (greatest_by bound ys)
greatest-append [] ys = omega arith
greatest-append (x ∷ xs) ys = omega (arith, greatest-append xs ys)

greatest_copies : (right : TypeExpr) (names : List Name) → greatest_by bound (map (copy right) names) ≤ greatest_bound right
greatest_copies right [] = omega arith
greatest_copies right (name ∷ names) = omega (arith, greatest_copies right names)

-- no definition has a greater number than all of them
pub greatest_definitions : (types : List TypeDef) → greatest_by bound (flat_map copies types) ≤ greatest_by (λ (d : TypeDef). greatest_bound d.body) types
greatest_definitions [] = omega arith
greatest_definitions (d ∷ ds) = omega (arith, greatest-append (copies d) (flat_map copies ds), greatest_copies d.body d.names, greatest_definitions ds)

module _ (universe : Universe) (names : List (List ℕ × Meaning)) (defs : List Definition) where
  abbrev breaches : Definition → List Breach
  breaches d = expr_breaches universe names d.right

  first_none : (xs ys : List Breach) → (xs or_if_none ys) ≡ [] → xs ≡ []
  first_none [] ys e = refl
  first_none (x ∷ xs) ys e = cc

  flat-append : (xs ys : List Definition) → flat_map breaches xs ≡ [] → flat_map breaches ys ≡ [] → flat_map breaches (xs ++ ys) ≡ []
  flat-append [] ys e f = f
  flat-append (x ∷ xs) ys e f =
      let none = none-of-append (breaches x) (flat_map breaches xs) e in
      ap (λ bs. bs ++ flat_map breaches (xs ++ ys)) none.0 ∙ flat-append xs ys none.1 f

  clean_copies : (right : TypeExpr) (owners : List Name) → expr_breaches universe names right ≡ [] → flat_map breaches (map (copy right) owners) ≡ []
  clean_copies right [] e = refl
  clean_copies right (name ∷ owners) e = ap (λ bs. bs ++ flat_map breaches (map (copy right) owners)) e ∙ clean_copies right owners e

  -- no right side breaks a rule
  pub clean_definitions : (i : ℕ) (types : List TypeDef) → types_breaches universe names defs i types ≡ [] → flat_map breaches (flat_map copies types) ≡ []
  clean_definitions i [] e = refl
  clean_definitions i (d ∷ ds) e =
      let none = none-of-append (type_breaches universe names defs i d) (types_breaches universe names defs (i + length d.names) ds) e in
      let right = first_none (expr_breaches universe names d.body) (circle_breaches names defs i d.names d.body) (none-of-append (new_types names i d.names) _ none.0).1 in
      flat-append (copies d) (flat_map copies ds) (clean_copies d.body d.names right) (clean_definitions (i + length d.names) ds none.1)

-- the breaches of definitions and measures, by what is known of a source
pub known_breaches : (s : Source) (types : List TypeDef) (defs : List Definition) (ms : List (Name × ℕ)) (names : List (List ℕ × Meaning)) → types ≡ s.types → defs ≡ definitions s → ms ≡ measures s → names ≡ names_of s
    → types_breaches s.universe names defs 0 types ++ measures_breaches names 0 ms ≡ first_breaches s
known_breaches s types defs ms names a b c d = cc

-- the definitions of the types that the code holds
pub copies_same : (types : List held.TypeDef) → flat_map copies_of types ≡ flat_map copies (map type_def_of types)
copies_same [] = refl
copies_same (d ∷ ds) = ap (λ z. copies_of d ++ z) (copies_same ds)

-- the definitions of a source within the limits
pub record Few (s : read.Source) (defs : List Definition) : Type 0 where
  pub owners : sum_by (λ (d : held.TypeDef). length d.names) s.types ≤ DEFINITION_LIMIT
  pub nodes : sum_by (λ (d : Definition). own_nodes d.right) defs ≤ NODE_LIMIT
  pub bounds : greatest_by (λ (d : Definition). greatest_bound d.right) defs ≤ BOUND_LIMIT

pub few : (s : read.Source) (defs : List Definition) → IsWithinLimits (plain_source s) → defs ≡ definitions (plain_source s) → Few s defs
few s defs e is =
    let w = within_limits (plain_source s) e in
    let types = map type_def_of s.types in
    record {
      owners = omega (arith, w.definitions, sum_map (λ (d : TypeDef). length d.names) type_def_of s.types);
      nodes = omega (arith, w.nodes, nodes_definitions types, ap (sum_by (λ (d : Definition). own_nodes d.right)) is);
      bounds = omega (arith, w.bounds, greatest_definitions types, ap (greatest_by (λ (d : Definition). greatest_bound d.right)) is);
    }

-- the right sides of a source without breaches have none
pub clean_source : (s : Source) (universe : Universe) (names : List (List ℕ × Meaning)) (defs : List Definition) → universe ≡ s.universe → names ≡ names_of s → defs ≡ definitions s → first_breaches s ≡ []
    → flat_map (λ (d : Definition). expr_breaches universe names d.right) defs ≡ []
clean_source s universe names defs a b c e =
    ap (λ (u : Universe). flat_map (λ (d : Definition). expr_breaches u names d.right) defs) a
    ∙ ap (λ (ns : List (List ℕ × Meaning)). flat_map (λ (d : Definition). expr_breaches s.universe ns d.right) defs) b
    ∙ ap (flat_map (λ (d : Definition). expr_breaches s.universe (names_of s) d.right)) c
    ∙ clean_definitions s.universe (names_of s) (definitions s) 0 s.types (none-of-append (types_breaches s.universe (names_of s) (definitions s) 0 s.types) (measures_breaches (names_of s) 0 (measures s)) e).0

-- the names of a source mean its definitions
pub known_below : (s : Source) (defs : List Definition) (names : List (List ℕ × Meaning)) → defs ≡ definitions s → names ≡ names_of s → MeanBelow names (length defs)
known_below s defs names a b = subst (λ ns. MeanBelow ns (length defs)) (sym b) (subst (λ (ds : List Definition). MeanBelow (names_of s) (length ds)) (sym a) (mean_below s))

-- the names of a source, by what is known of it
pub known_names : (s : Source) (defs : List Definition) (ms : List (Name × ℕ)) (procs : List ProcDef) (names : List (List ℕ × Meaning)) → names ≡ with_procedures (with_measures (with_definitions [] 0 defs) 0 ms) 0 procs
    → defs ≡ definitions s → ms ≡ measures s → procs ≡ s.procs → names ≡ names_of s
known_names s defs ms procs names e a b c =
    e ∙ ap (λ (ds : List Definition). with_procedures (with_measures (with_definitions [] 0 ds) 0 ms) 0 procs) a
    ∙ ap (λ (m : List (Name × ℕ)). with_procedures (with_measures (with_definitions [] 0 (definitions s)) 0 m) 0 procs) b
    ∙ ap (λ (ps : List ProcDef). with_procedures (with_measures (with_definitions [] 0 (definitions s)) 0 (measures s)) 0 ps) c

map_map : {A B C : Type 0} (f : B → C) (g : A → B) (xs : List A) → map (λ x. f (g x)) xs ≡ map f (map g xs)
map_map f g [] = refl
map_map f g (x ∷ xs) = ap (λ l. f (g x) ∷ l) (map_map f g xs)

same_setting : (made whole : Setting) → made.universe ≡ whole.universe → made.names ≡ whole.names → made.defs ≡ whole.defs → made.nodes ≡ whole.nodes → made.signatures ≡ whole.signatures → made ≡ whole
same_setting made whole a b c d e =
    let of = λ (universe : Universe) (names : List (List ℕ × Meaning)) (defs : List Def) (nodes : List Node) (signatures : List Signature).
    let s : Setting = record { universe = universe; names = names; defs = defs; nodes = nodes; signatures = signatures } in s in
    ap (λ z. of z made.names made.defs made.nodes made.signatures) a ∙ ap (λ z. of whole.universe z made.defs made.nodes made.signatures) b ∙ ap (λ z. of whole.universe whole.names z made.nodes made.signatures) c
    ∙ ap (λ z. of whole.universe whole.names whole.defs z made.signatures) d ∙ ap (of whole.universe whole.names whole.defs whole.nodes) e

-- the setting of a source, by what is known of it
pub made_setting : (s : read.Source) (made : Setting) (names : List (List ℕ × Meaning)) (defs : List Definition) (procs : List told.ProcDef) → names ≡ names_of (plain_source s) → defs ≡ definitions (plain_source s) → procs ≡ s.procs
    → made.universe ≡ s.universe → made.names ≡ names → made.defs ≡ defs_from names defs 0 defs → made.nodes ≡ nodes_from names defs 0 0 defs → made.signatures ≡ map (λ p. signature_of names defs (proc_def_of p)) procs → made ≡ setting_of (plain_source s)
made_setting s made names defs procs en ed ep u n d k g =
    let source = plain_source s in
    same_setting made (setting_of source) u (n ∙ en)
    (d ∙ ap (λ z. defs_from z defs 0 defs) en ∙ ap (λ z. defs_from (names_of source) z 0 z) ed)
    (k ∙ ap (λ z. nodes_from z defs 0 0 defs) en ∙ ap (λ z. nodes_from (names_of source) z 0 0 z) ed)
    (g ∙ ap (map (λ p. signature_of names defs (proc_def_of p))) ep ∙ map_map (signature_of names defs) proc_def_of s.procs ∙ ap (λ z. map (signature_of z defs) source.procs) en ∙ ap (λ z. map (signature_of (names_of source) z) source.procs) ed)
