-- Sources that differ at most in their places have one text.
use Rattle.std.proofs.Common.{◌≡◌, ℕ, ◌+◌, List, [], ◌∷◌, ◌++◌, refl, ap, sym, ◌∙◌, map, flat_map, codes, decimal, Option, None, Some}
use Rattle.std.specs.List.{join_by, AllZip}
use Rattle.luo_scan.specs.declared.token.Token.{Token}
use Rattle.luo_scan.specs.Tokens.{Tokens}
use Rattle.luo_source.specs.declared.names.Name.{Name}
use Rattle.luo_source.specs.declared.types.Bound.{Bound}
use Rattle.luo_source.specs.declared.types.MeasureDef.{MeasureDef}
use Rattle.luo_source.specs.declared.statements.Pattern.{Pattern}
use Rattle.luo_source.specs.declared.statements.Pattern.TheVariants as pattern
use Rattle.luo_source.specs.declared.source.Source as declared
use Rattle.luo_source.specs.Plain.Types.{TypeExpr, TypeExprs, TypeDef}
use Rattle.luo_source.specs.Plain.Statements.{Stmt, Stmts, SourceArms}
use Rattle.luo_source.specs.Plain.Values.{SourceValue, SourceValues, SourceValueArms}
use Rattle.luo_source.specs.Plain.Source.{ProcBody, Statements, Value, ProcDef}
use Rattle.luo_source.specs.View.{plain_source}
use Rattle.luo_source.specs.Grammar.{Derives}
use Rattle.luo_print.specs.Layout.{joined, lines, name_list, new_line}
use Rattle.luo_print.specs.CanonicalTypes.{kind_text, range_text, bound_text, expr_text, expr_texts, type_def_line, measure_line}
use Rattle.luo_print.specs.CanonicalStatements.{pattern_text, call_text, block_of, case_of, stmt_text, stmt_texts, arm_texts}
use Rattle.luo_print.specs.CanonicalValues.{charge_text, opening, closing, value_text, value_texts, value_arm_texts}
use Rattle.luo_print.specs.Canonical.{universe_line, body_text, proc_text, analyze_line, canonical}
use Rattle.luo_print.specs.Same.{SameName, SameNames, SameBound, SameExpr, SameExprs, same_named, same_epsilon, same_atom, same_union, same_product, same_collection, no_exprs, more_exprs, SameTypeDef, SameMeasure, SamePattern, SameStmt, SameStmts, SameArms, same_skip, same_charge, same_call, same_block, same_case, same_forall, no_stmts, more_stmts, no_arms, more_arms, SameCharge, SameValue, SameValues, SameValueArms, same_given, same_made, same_atom_value, same_tuple, same_branch, same_chosen, no_values, more_values, no_value_arms, more_value_arms, SameBody, SameProc, SameSource}
use Rattle.luo_print.specs.Laws.{SameText, FormatsOnce}
use Rattle.luo_print.proofs.Joins.{joined_map}
use Rattle.luo_print.proofs.SourceBack.{reads_back}

-- lists

join_same : {X : Type 0} (f : X → List ℕ) (between : List ℕ) (xs ys : List X) → map f xs ≡ map f ys → join_by f between xs ≡ join_by f between ys
join_same f between xs ys e = sym (joined_map f between xs) ∙ ap (joined between) e ∙ joined_map f between ys

map_same : {X : Type 0} (f : X → List ℕ) (R : X → X → Type 0) → ((x y : X) → R x y → f x ≡ f y) → (xs ys : List X) → AllZip R xs ys → map f xs ≡ map f ys
map_same f R h [] [] s = refl
map_same f R h [] (y ∷ ys) s = absurd s
map_same f R h (x ∷ xs) [] s = absurd s
map_same f R h (x ∷ xs) (y ∷ ys) s = ap (λ z. z ∷ map f xs) (h x y s.0) ∙ ap (λ z. f y ∷ z) (map_same f R h xs ys s.1)

flat_same : {X : Type 0} (f : X → List ℕ) (R : X → X → Type 0) → ((x y : X) → R x y → f x ≡ f y) → (xs ys : List X) → AllZip R xs ys → flat_map f xs ≡ flat_map f ys
flat_same f R h [] [] s = refl
flat_same f R h [] (y ∷ ys) s = absurd s
flat_same f R h (x ∷ xs) [] s = absurd s
flat_same f R h (x ∷ xs) (y ∷ ys) s = ap (λ z. z ++ flat_map f xs) (h x y s.0) ∙ ap (λ z. f y ++ z) (flat_same f R h xs ys s.1)

names_same : (ms ns : List Name) → SameNames ms ns → name_list ms ≡ name_list ns
names_same ms ns s = join_same (λ n. n.text) (codes ", ") ms ns (map_same (λ n. n.text) SameName (λ m n e. e) ms ns s)

-- types

bound_same : (b c : Option Bound) → SameBound b c → bound_text b ≡ bound_text c
bound_same None None s = refl
bound_same None (Some c) s = absurd s
bound_same (Some b) None s = absurd s
bound_same (Some b) (Some c) s = ap (λ r. codes ", card " ++ range_text r) s

mutual
  expr_same : {t u : TypeExpr} → SameExpr t u → expr_text t ≡ expr_text u
  expr_same (same_named s) = s
  expr_same same_epsilon = refl
  expr_same same_atom = refl
  expr_same (same_union s) = ap (joined (codes " | ")) (exprs_same s)
  expr_same (same_product s) = ap (λ z. codes "product(" ++ joined (codes ", ") z ++ codes ")") (exprs_same s)
  expr_same (same_collection {kind = kind} {t = t} {u = u} {b = b} {c = c} s e) =
      ap (λ z. kind_text kind ++ codes "(" ++ z ++ bound_text b ++ codes ")") (expr_same s)
      ∙ ap (λ z. kind_text kind ++ codes "(" ++ expr_text u ++ z ++ codes ")") (bound_same b c e)

  exprs_same : {ts us : TypeExprs} → SameExprs ts us → expr_texts ts ≡ expr_texts us
  exprs_same no_exprs = refl
  exprs_same (more_exprs {t = t} {u = u} {ts = ts} {us = us} s ss) = ap (λ z. z ∷ expr_texts ts) (expr_same s) ∙ ap (λ z. expr_text u ∷ z) (exprs_same ss)

type_def_same : (d e : TypeDef) → SameTypeDef d e → type_def_line d ≡ type_def_line e
type_def_same d e s =
    ap (λ z. codes "type " ++ z ++ codes " = " ++ expr_text d.body ++ codes ";\n") (names_same d.names e.names s.0)
    ∙ ap (λ z. codes "type " ++ name_list e.names ++ codes " = " ++ z ++ codes ";\n") (expr_same s.1)

measure_same : (d e : MeasureDef) → SameMeasure d e → measure_line d ≡ measure_line e
measure_same d e s =
    ap (λ z. codes "measure " ++ z ++ codes " : " ++ decimal d.value ++ codes ";\n") (names_same d.names e.names s.0)
    ∙ ap (λ z. codes "measure " ++ name_list e.names ++ codes " : " ++ decimal z ++ codes ";\n") s.1

-- statements

pattern_same : (p q : Pattern) → SamePattern p q → pattern_text p ≡ pattern_text q
pattern_same (pattern.Named m) (pattern.Named n) s = s
pattern_same (pattern.NamedWhole m i) (pattern.NamedWhole n j) s = ap (λ z. z ++ codes " as " ++ i.text) s.0 ∙ ap (λ z. n.text ++ codes " as " ++ z) s.1
pattern_same (pattern.NamedParts m is) (pattern.NamedParts n js) s = ap (λ z. z ++ codes "(" ++ name_list is ++ codes ")") s.0 ∙ ap (λ z. n.text ++ codes "(" ++ z ++ codes ")") (names_same is js s.1)
pattern_same (pattern.Parts ms k) (pattern.Parts ns l) s = ap (λ z. codes "(" ++ z ++ codes ")") (names_same ms ns s)
pattern_same (pattern.Any k) (pattern.Any l) s = refl
pattern_same (pattern.AnyWhole m k) (pattern.AnyWhole n l) s = ap (λ z. codes "_ as " ++ z) s
pattern_same _ _ s = absurd s

call_same : (f g a b : Name) → SameName f g → SameName a b → call_text f a ≡ call_text g b
call_same f g a b e h = ap (λ z. z ++ codes "(" ++ a.text ++ codes ")") e ∙ ap (λ z. g.text ++ codes "(" ++ z ++ codes ")") h

case_same : (n : ℕ) (x y : Name) (arms others : List (List ℕ)) → SameName x y → arms ≡ others → case_of n x arms ≡ case_of n y others
case_same n x y arms others e h = ap (λ z. codes "case " ++ z ++ codes " of" ++ lines (n + 2) arms ++ new_line n ++ codes "end") e ∙ ap (case_of n y) h

arm_same : (p q : Pattern) (a b : List ℕ) → SamePattern p q → a ≡ b → pattern_text p ++ codes " : " ++ a ≡ pattern_text q ++ codes " : " ++ b
arm_same p q a b s e = ap (λ z. z ++ codes " : " ++ a) (pattern_same p q s) ∙ ap (λ z. pattern_text q ++ codes " : " ++ z) e

mutual
  stmt_same : (n : ℕ) {s t : Stmt} → SameStmt s t → stmt_text n s ≡ stmt_text n t
  stmt_same n same_skip = refl
  stmt_same n (same_charge e) = e
  stmt_same n (same_call {f = f} {g = g} {a = a} {b = b} e h) = call_same f g a b e h
  stmt_same n (same_block s) = ap (block_of n) (stmts_same (n + 2) s)
  stmt_same n (same_case {x = x} {y = y} {arms = arms} {others = others} e s) = case_same n x y (arm_texts (n + 2) arms) (arm_texts (n + 2) others) e (arms_same (n + 2) s)
  stmt_same n (same_forall {x = x} {y = y} {c = c} {d = d} {s = s} {t = t} e h r) =
      ap (λ z. codes "forall " ++ z ++ codes " in " ++ c.text ++ codes " do " ++ stmt_text n s) e
      ∙ ap (λ z. codes "forall " ++ y.text ++ codes " in " ++ z ++ codes " do " ++ stmt_text n s) h
      ∙ ap (λ z. codes "forall " ++ y.text ++ codes " in " ++ d.text ++ codes " do " ++ z) (stmt_same n r)

  stmts_same : (n : ℕ) {ss ts : Stmts} → SameStmts ss ts → stmt_texts n ss ≡ stmt_texts n ts
  stmts_same n no_stmts = refl
  stmts_same n (more_stmts {s = s} {t = t} {ss = ss} {ts = ts} e es) = ap (λ z. z ∷ stmt_texts n ss) (stmt_same n e) ∙ ap (λ z. stmt_text n t ∷ z) (stmts_same n es)

  arms_same : (n : ℕ) {arms others : SourceArms} → SameArms arms others → arm_texts n arms ≡ arm_texts n others
  arms_same n no_arms = refl
  arms_same n (more_arms {p = p} {q = q} {s = s} {t = t} {arms = arms} {others = others} e h r) =
      ap (λ z. z ∷ arm_texts n arms) (arm_same p q (stmt_text n s) (stmt_text n t) e (stmt_same n h))
      ∙ ap (λ z. (pattern_text q ++ codes " : " ++ stmt_text n t) ∷ z) (arms_same n r)

-- values

charge_same : (m n : Option Name) → SameCharge m n → charge_text m ≡ charge_text n
charge_same None None s = refl
charge_same None (Some n) s = absurd s
charge_same (Some m) None s = absurd s
charge_same (Some m) (Some n) s = ap (λ z. z ++ codes " ") s

opening_same : {v w : SourceValue} → SameValue v w → opening v ≡ opening w
opening_same (same_given e) = refl
opening_same (same_made e h) = refl
opening_same (same_atom_value e) = refl
opening_same (same_tuple s) = refl
opening_same (same_branch s) = refl
opening_same (same_chosen e s) = refl

closing_same : {v w : SourceValue} → SameValue v w → closing v ≡ closing w
closing_same (same_given e) = refl
closing_same (same_made e h) = refl
closing_same (same_atom_value e) = refl
closing_same (same_tuple s) = refl
closing_same (same_branch s) = refl
closing_same (same_chosen e s) = refl

mutual
  value_same : (n : ℕ) {v w : SourceValue} → SameValue v w → value_text n v ≡ value_text n w
  value_same n (same_given e) = e
  value_same n (same_made {f = f} {g = g} {a = a} {b = b} e h) = call_same f g a b e h
  value_same n (same_atom_value {m = m} {n = o} e) = ap (λ z. z ++ codes "atom") (charge_same m o e)
  value_same n (same_tuple s) = ap (λ z. codes "product(" ++ joined (codes ", ") z ++ codes ")") (values_same n s)
  value_same n (same_branch {number = number} {v = v} {w = w} s) =
      ap (λ z. decimal number ++ codes " : " ++ (z ++ value_text n v ++ closing v)) (opening_same s)
      ∙ ap (λ z. decimal number ++ codes " : " ++ (opening w ++ z ++ closing v)) (value_same n s)
      ∙ ap (λ z. decimal number ++ codes " : " ++ (opening w ++ value_text n w ++ z)) (closing_same s)
  value_same n (same_chosen {x = x} {y = y} {arms = arms} {others = others} e s) = case_same n x y (value_arm_texts (n + 2) arms) (value_arm_texts (n + 2) others) e (value_arms_same (n + 2) s)

  values_same : (n : ℕ) {vs ws : SourceValues} → SameValues vs ws → value_texts n vs ≡ value_texts n ws
  values_same n no_values = refl
  values_same n (more_values {v = v} {w = w} {vs = vs} {ws = ws} s ss) = ap (λ z. z ∷ value_texts n vs) (value_same n s) ∙ ap (λ z. value_text n w ∷ z) (values_same n ss)

  value_arms_same : (n : ℕ) {arms others : SourceValueArms} → SameValueArms arms others → value_arm_texts n arms ≡ value_arm_texts n others
  value_arms_same n no_value_arms = refl
  value_arms_same n (more_value_arms {p = p} {q = q} {v = v} {w = w} {arms = arms} {others = others} e h r) =
      ap (λ z. z ∷ value_arm_texts n arms) (arm_same p q (value_text n v) (value_text n w) e (value_same n h))
      ∙ ap (λ z. (pattern_text q ++ codes " : " ++ value_text n w) ∷ z) (value_arms_same n r)

-- sources

body_same : (b c : ProcBody) → SameBody b c → body_text b ≡ body_text c
body_same (Statements ss) (Statements ts) s = ap (λ z. codes ";\n" ++ block_of 0 z) (stmts_same 2 s)
body_same (Statements ss) (Value l n w) s = absurd s
body_same (Value k m v) (Statements ts) s = absurd s
body_same (Value k m v) (Value l n w) s = ap (λ z. codes " : " ++ z ++ codes ";\n" ++ value_text 0 v) s.0 ∙ ap (λ z. codes " : " ++ n.text ++ codes ";\n" ++ z) (value_same 0 s.1)

proc_same : (p q : ProcDef) → SameProc p q → proc_text p ≡ proc_text q
proc_same p q (name, param, on, body) =
    ap (λ z. codes "procedure " ++ z ++ codes "(" ++ p.param.text ++ codes " : " ++ p.on.text ++ codes ")" ++ body_text p.body ++ codes ";\n") name
    ∙ ap (λ z. codes "procedure " ++ q.name.text ++ codes "(" ++ z ++ codes " : " ++ p.on.text ++ codes ")" ++ body_text p.body ++ codes ";\n") param
    ∙ ap (λ z. codes "procedure " ++ q.name.text ++ codes "(" ++ q.param.text ++ codes " : " ++ z ++ codes ")" ++ body_text p.body ++ codes ";\n") on
    ∙ ap (λ z. codes "procedure " ++ q.name.text ++ codes "(" ++ q.param.text ++ codes " : " ++ q.on.text ++ codes ")" ++ z ++ codes ";\n") (body_same p.body q.body body)

analyze_same : (m n : Name) → SameName m n → analyze_line m ≡ analyze_line n
analyze_same m n e = ap (λ z. codes "analyze " ++ z ++ codes ";\n") e

pub same_text : SameText
same_text s t (universe, types, measures, procs, analyses) =
    ap (λ z. universe_line z ++ flat_map type_def_line s.types ++ flat_map measure_line s.measures ++ flat_map proc_text s.procs ++ flat_map analyze_line s.analyses) universe
    ∙ ap (λ z. universe_line t.universe ++ z ++ flat_map measure_line s.measures ++ flat_map proc_text s.procs ++ flat_map analyze_line s.analyses) (flat_same type_def_line SameTypeDef type_def_same s.types t.types types)
    ∙ ap (λ z. universe_line t.universe ++ flat_map type_def_line t.types ++ z ++ flat_map proc_text s.procs ++ flat_map analyze_line s.analyses) (flat_same measure_line SameMeasure measure_same s.measures t.measures measures)
    ∙ ap (λ z. universe_line t.universe ++ flat_map type_def_line t.types ++ flat_map measure_line t.measures ++ z ++ flat_map analyze_line s.analyses) (flat_same proc_text SameProc proc_same s.procs t.procs procs)
    ∙ ap (λ z. universe_line t.universe ++ flat_map type_def_line t.types ++ flat_map measure_line t.measures ++ flat_map proc_text t.procs ++ z) (flat_same analyze_line SameName analyze_same s.analyses t.analyses analyses)

formats_step : (source : declared.Source)
    → (again : List Token) × (read : declared.Source) × Tokens (canonical (plain_source source)) again × Derives (canonical (plain_source source)) again read × SameSource (plain_source source) (plain_source read)
    → (again : List Token) × (read : declared.Source) × Tokens (canonical (plain_source source)) again × Derives (canonical (plain_source source)) again read × (canonical (plain_source read) ≡ canonical (plain_source source))
formats_step source (again, read, t, d, s) = (again, read, t, d, sym (same_text (plain_source source) (plain_source read) s))

pub formats_once : FormatsOnce
formats_once text tokens source t d = formats_step source (reads_back text tokens source t d)
