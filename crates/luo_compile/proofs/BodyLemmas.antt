-- Parts, items, arms and equations, one by one.
use Rattle.std.proofs.Common.{◌≡◌, ℕ, zero, suc, ◌+◌, ◌<◌, ◌≤◌, List, [], ◌∷◌, ◌++◌, length, map, take, get_or, refl, sym, ap, ◌∙◌, append_assoc, subst, arith, add-one, ◌-◌, false, ltb, Option, Some, None, slice_get, Result, IfOk}
use Rattle.std.proofs.lemmas.Result.{IfOk-weaker}
use Rattle.std.proofs.lemmas.Option.{slice_get-get_or, slice_get_past}
use Rattle.std.proofs.lemmas.Bool.Decides.{nat_tests}
use Rattle.std.proofs.lemmas.List.{map-append, take_all}
use Rattle.luo_model.specs.declared.body.Bind.{Bind}
use Rattle.luo_model.specs.declared.body.Bind.TheVariants.{Nothing, Whole, Parts}
use Rattle.luo_model.specs.declared.program.Part.{Part}
use Rattle.luo_model.specs.declared.program.Def.{Def}
use Rattle.luo_model.specs.declared.program.Proc.{Proc}
use Rattle.luo_model.specs.declared.body.Body.{Body}
use Rattle.luo_model.specs.declared.body.Item.{Item, Case, Forall}
use Rattle.luo_model.specs.declared.body.Arm.{Arm}
use Rattle.luo_model.specs.declared.program.Kind.{Kind}
use Rattle.luo_model.specs.declared.program.Shape.{Shape}
use Rattle.luo_model.specs.declared.program.Shape.TheVariants as shape
use Rattle.luo_model.specs.Program as plain
use Rattle.luo_model.specs.Program.{Program, Procedure, no_node, shape_of}
use Rattle.luo_model.specs.View.{item_of, item_list, body_of, procedure_of}
use Rattle.luo_model.specs.Lists.{arm_list}
use Rattle.luo_model.specs.Scopes.Stands.{Stand, inside, itself, stand_part, stands, part_at}
use Rattle.luo_model.proofs.ViewLemmas.{case_item, walk_item}
use Rattle.luo_equation.specs.Expr as made
use Rattle.luo_equation.specs.Expr.{Exprs, no_exprs, expr}
use Rattle.luo_equation.specs.View.{expr_of, equation_of}
use Rattle.luo_equation.specs.declared.equation.Expr as done
use Rattle.luo_equation.specs.declared.equation.Equation as done_equation
use Rattle.luo_equation.specs.Equation.{Equation}
use Rattle.luo_equation.specs.declared.equation.Left.TheVariants as left
use Rattle.luo_system.specs.Plain.{join_exprs, terms_of, factors_of, opened, as_sum, sum_of, closed_product, product_of, walk_of}
use Rattle.luo_system.specs.System.{exprs_of, shape_expr, node_expr, inside_expr, part_expr, others, item_var, own_expr, body_expr, items_exprs, item_expr, term_expr, case_expr, arms_exprs, arm_expr, walk_expr, walk_body_expr, descriptor, defs_from, procs_from}
use Rattle.luo_compile.proofs.CodeLemmas.{exprs-behind, put_behind, put_end, sum_done}

take-more : {X : Type 0} (xs : List X) (j : ℕ) (x : X) → j < length xs → x ≡ get_or xs j x → take (suc j) xs ≡ take j xs ++ x ∷ []
take-more [] j x h e = absurd (omega (arith, h))
take-more (y ∷ xs) zero x h e = ap (λ z. z ∷ []) (sym e)
take-more (y ∷ xs) (suc j) x h e = ap (λ l. y ∷ l) (take-more xs j x (omega (arith, h)) e)

-- ---- nodes
get_or-none : {X : Type 0} (xs : List X) (i : ℕ) (d : X) → slice_get xs i ≡ None → get_or xs i d ≡ d
get_or-none [] i d e = refl
get_or-none (x ∷ xs) zero d e = absurd (cc)
get_or-none (x ∷ xs) (suc i) d e = get_or-none xs i d e

pub no_shape : (p : Program) (x : ℕ) → slice_get p.nodes x ≡ None → shape_of p x ≡ shape.Union []
no_shape p x e = ap (λ n. n.shape) (get_or-none p.nodes x no_node e)

-- what a call answers is the same as this
pub same_as : {E : Type 0} (r : Result done.Expr E) (y z : made.Expr) → y ≡ z → IfOk r (λ e. expr_of e ≡ y) → IfOk r (λ e. expr_of e ≡ z)
same_as r y z same = IfOk-weaker r (λ e. expr_of e ≡ y) (λ e. expr_of e ≡ z) (λ e h. h ∙ same)

node_there : (p : Program) (depth x : ℕ) → (depth ≡ 0 → ⊥) → shape_expr (inside_expr p (depth - 1)) (shape_of p x) ≡ node_expr p depth x
node_there p zero x h = absurd (h refl)
node_there p (suc d) x h = ap (λ k. shape_expr (inside_expr p k) (shape_of p x)) (let e : suc d - 1 ≡ d = omega arith in e)

module _ (p : Program) (depth x : ℕ) (some : depth ≡ 0 → ⊥) (s : Shape) (at : shape_of p x ≡ s) where
  made_of : (t : Shape) → s ≡ t → shape_expr (inside_expr p (depth - 1)) t ≡ node_expr p depth x
  made_of t is = sym (ap (shape_expr (inside_expr p (depth - 1))) (at ∙ is)) ∙ node_there p depth x some

  pub union_node : (parts slice : List Part) → s ≡ shape.Union parts → slice ≡ parts → sum_of (exprs_of (inside_expr p (depth - 1)) slice) ≡ node_expr p depth x
  union_node parts slice is l = ap (λ ps. sum_of (exprs_of (inside_expr p (depth - 1)) ps)) l ∙ made_of (shape.Union parts) is

  pub product_node : (parts slice : List Part) → s ≡ shape.Product parts → slice ≡ parts → product_of (exprs_of (inside_expr p (depth - 1)) slice) ≡ node_expr p depth x
  product_node parts slice is l = ap (λ ps. product_of (exprs_of (inside_expr p (depth - 1)) ps)) l ∙ made_of (shape.Product parts) is

  pub coll_node : (kind : Kind) (part : Part) (low : ℕ) (high : Option ℕ) (inner : made.Expr) → s ≡ shape.Coll kind part low high → inner ≡ inside_expr p (depth - 1) part
      → made.Coll kind inner low high ≡ node_expr p depth x
  coll_node kind part low high inner is e = ap (λ i. made.Coll kind i low high) e ∙ made_of (shape.Coll kind part low high) is

pub no_node_there : (p : Program) (depth x : ℕ) → (depth ≡ 0 → ⊥) → shape_of p x ≡ shape.Union [] → made.Number 0 ≡ node_expr p depth x
unfolding sum_of
no_node_there p depth x some at = made_of p depth x some (shape.Union []) at (shape.Union []) refl

-- ---- all but one
others-other : (i : ℕ) (xs : List Part) (j : ℕ) (x : Part) → j < length xs → x ≡ get_or xs j x → (j ≡ i → ⊥) → others i (take (suc j) xs) ≡ others i (take j xs) ++ x ∷ []
others-other i [] j x h e n = absurd (omega (arith, h))
others-other zero (y ∷ xs) zero x h e n = absurd (n refl)
others-other zero (y ∷ xs) (suc j) x h e n = take-more xs j x (omega (arith, h)) e
others-other (suc i) (y ∷ xs) zero x h e n = ap (λ z. z ∷ []) (sym e)
others-other (suc i) (y ∷ xs) (suc j) x h e n = ap (λ l. y ∷ l) (others-other i xs j x (omega (arith, h)) e (λ m. n (ap suc m)))

others-same : (i : ℕ) (xs : List Part) → others i (take (suc i) xs) ≡ others i (take i xs)
others-same zero [] = refl
others-same (suc i) [] = refl
others-same zero (y ∷ xs) = refl
others-same (suc i) (y ∷ xs) = ap (λ l. y ∷ l) (others-same i xs)

module _ (g : Part → made.Expr) (xs : List Part) (i : ℕ) where
  pub put_other : (j : ℕ) (x : Part) (e : made.Expr) (old now new : Exprs) → j < length xs → x ≡ get_or xs j x → (j ≡ i → ⊥) → e ≡ g x
      → new ≡ join_exprs now (factors_of e) → now ≡ join_exprs old (opened factors_of (exprs_of g (others i (take j xs))))
      → new ≡ join_exprs old (opened factors_of (exprs_of g (others i (take (j + 1) xs))))
  put_other j x e old now new l at other same n h =
      rw add-one (put_behind factors_of (exprs_of g (others i (take j xs))) e (g x) (exprs_of g (others i (take (suc j) xs))) old now new
      (ap (exprs_of g) (others-other i xs j x l at other) ∙ exprs-behind g (others i (take j xs)) x) same n h)

  pub put_same : (j : ℕ) (old now : Exprs) → j ≡ i → now ≡ join_exprs old (opened factors_of (exprs_of g (others i (take j xs))))
      → now ≡ join_exprs old (opened factors_of (exprs_of g (others i (take (j + 1) xs))))
  put_same j old now e h = rw add-one (h ∙ ap (λ l. join_exprs old (opened factors_of (exprs_of g l))) (sym (ap (λ k. others i (take (suc k) xs)) e ∙ others-same i xs
      ∙ ap (λ k. others i (take k xs)) (sym e))))

  pub others_end : (j : ℕ) (old now : Exprs) → length xs ≤ j → now ≡ join_exprs old (opened factors_of (exprs_of g (others i (take j xs))))
      → now ≡ join_exprs old (opened factors_of (exprs_of g (others i xs)))
  others_end j old now l h = h ∙ ap (λ ys. join_exprs old (opened factors_of (exprs_of g (others i ys)))) (take_all j xs l)

-- ---- a sum and a product with one more in front
sum_put : (d : made.Expr) (rest start one two : Exprs) (e : made.Expr) → start ≡ no_exprs → one ≡ join_exprs start (terms_of d) → two ≡ join_exprs one (opened terms_of rest)
    → e ≡ as_sum two → e ≡ sum_of (expr d rest)
unfolding sum_of
sum_put d rest start one two e s a b n = n ∙ ap as_sum (b ∙ ap (λ l. join_exprs l (opened terms_of rest)) (a ∙ ap (λ l. join_exprs l (terms_of d)) s))

pub product_put : (d : made.Expr) (rest start one two : Exprs) (e : made.Expr) → start ≡ no_exprs → one ≡ join_exprs start (factors_of d)
    → two ≡ join_exprs one (opened factors_of rest) → e ≡ closed_product two → e ≡ product_of (expr d rest)
unfolding product_of
product_put d rest start one two e s a b n = n ∙ ap closed_product (b ∙ ap (λ l. join_exprs l (opened factors_of rest)) (a ∙ ap (λ l. join_exprs l (factors_of d)) s))

-- ---- items
pub items_are : (p : Program) (vars : List Part) (is : List Item) → items_exprs p vars (item_list is) ≡ exprs_of (λ i. term_expr p vars (item_of i)) is
items_are p vars [] = refl
items_are p vars (i ∷ is) = ap (λ l. expr (term_expr p vars (item_of i)) l) (items_are p vars is)

pub term_made : (p : Program) (vars : List Part) (i : plain.Item) (var : ℕ) (d : made.Expr) (start one two : Exprs) (e : made.Expr) → d ≡ item_expr p vars i → var ≡ item_var i
    → start ≡ no_exprs → one ≡ join_exprs start (factors_of d)
    → two ≡ join_exprs one (opened factors_of (exprs_of (part_expr p) (others var vars))) → e ≡ closed_product two → e ≡ term_expr p vars i
term_made p vars i var d start one two e same at s a b n =
    product_put d (exprs_of (part_expr p) (others var vars)) start one two e s a b n
    ∙ ap (λ f. product_of (expr f (exprs_of (part_expr p) (others var vars)))) same ∙ ap (λ v. product_of (expr (item_expr p vars i) (exprs_of (part_expr p) (others v vars)))) at

pub body_made : (p : Program) (whole vars : List Part) (body : Body) (items : List Item) (own : made.Expr) (i : ℕ) (start one now : Exprs) (e : made.Expr) → items ≡ body.items
    → own ≡ own_expr p whole body.own → start ≡ no_exprs
    → one ≡ join_exprs start (terms_of own) → length items ≤ i → now ≡ join_exprs one (opened terms_of (exprs_of (λ (i : Item). term_expr p vars (item_of i)) (take i items)))
    → e ≡ as_sum now → e ≡ body_expr p whole vars (body_of body)
body_made p whole vars body items own i start one now e is same s a l h n =
    sum_put own (exprs_of (λ (i : Item). term_expr p vars (item_of i)) items) start one now e s a (put_end terms_of (λ (i : Item). term_expr p vars (item_of i)) items i one now l h) n
    ∙ ap (λ o. sum_of (expr o (exprs_of (λ (i : Item). term_expr p vars (item_of i)) items))) same
    ∙ ap (λ es. sum_of (expr (own_expr p whole body.own) es)) (sym (items_are p vars items) ∙ ap (λ l. items_exprs p vars (item_list l)) is)

module _ (p : Program) (vars : List Part) (i : Item) where
  pub case_made : (var : ℕ) (arms slice : List Arm) (site : ℕ) (on : Part) → i ≡ Case var arms site → slice ≡ arms → on ≡ part_at vars var
      → case_expr p on (arm_list slice) ≡ item_expr p vars (item_of i)
  case_made var arms slice site on is s at =
      ap (λ o. case_expr p o (arm_list slice)) at ∙ ap (λ (l : List Arm). case_expr p (part_at vars var) (arm_list l)) s ∙ sym (ap (item_expr p vars) (ap item_of is ∙ case_item var arms site))

  pub walk_made : (var : ℕ) (body : Body) (body_site site : ℕ) (on : Part) → i ≡ Forall var body body_site site → on ≡ part_at vars var
      → walk_body_expr p on (body_of body) ≡ item_expr p vars (item_of i)
  walk_made var body body_site site on is at = ap (λ o. walk_body_expr p o (body_of body)) at ∙ sym (ap (item_expr p vars) (ap item_of is ∙ walk_item var body body_site site))

-- ---- walks
pub walk_done : (p : Program) (on : Part) (body : plain.Body) (s : Shape) (kind : Kind) (part : Part) (low : ℕ) (high : Option ℕ) (inner marked : made.Expr)
    → shape_of p on.node ≡ s → s ≡ shape.Coll kind part low high → inner ≡ part_expr p part
    → marked ≡ body_expr p (part ∷ []) (part ∷ []) body → walk_of kind inner low high marked ≡ walk_body_expr p on body
walk_done p on body s kind part low high inner marked at is e same =
    ap (λ i. walk_of kind i low high marked) e ∙ ap (walk_of kind (part_expr p part) low high) same
    ∙ sym (ap (λ t. walk_expr (part_expr p) t (λ c. body_expr p (c ∷ []) (c ∷ []) body)) (at ∙ is))

-- ---- arms
pub union_stands : (parts made : List Part) (on : Part) (s t : Shape) → made ≡ parts → s ≡ shape.Union parts → t ≡ s → made ≡ map stand_part (stands on t)
union_stands parts made on s t m e f = m ∙ sym (back parts) ∙ ap (λ z. map stand_part (stands on z)) (sym (f ∙ e))
  where
    back : (parts : List Part) → map stand_part (map inside parts) ≡ parts
    back [] = refl
    back (part ∷ parts) = ap (λ l. part ∷ l) (back parts)

pub some_there : (xs : List Part) (i : ℕ) (x : Part) → i < length xs → x ≡ get_or xs i x → slice_get xs i ≡ Some x
some_there xs i x h e = slice_get-get_or xs i x h ∙ ap Some (sym e)

past : (i n : ℕ) → false ≡ ltb i n → n ≤ i
past i n h = grind (arith, nat_tests)

pub none_there : (xs : List Part) (i : ℕ) → false ≡ ltb i (length xs) → slice_get xs i ≡ None
none_there xs i h = slice_get_past xs i (past i (length xs) h)

module _ (p : Program) where
  -- no arm is left
  arms-end : (stands : List Part) → arms_exprs p (map inside stands) plain.no_arms ≡ no_exprs
  arms-end [] = refl
  arms-end (t ∷ stands) = refl

  arms-more : (stands : List Part) (arms : List Arm) (i : ℕ) (stand : Part) (arm : Arm) → i < length arms → arm ≡ get_or arms i arm → slice_get stands i ≡ Some stand
      → arms_exprs p (map inside stands) (arm_list (take (suc i) arms)) ≡ join_exprs (arms_exprs p (map inside stands) (arm_list (take i arms))) (expr (arm_expr p (inside stand) arm.bind (body_of arm.body)) no_exprs)
  arms-more stands [] i stand arm h e s = absurd (omega (arith, h))
  arms-more [] (a ∷ arms) i stand arm h e s = absurd (cc)
  arms-more (t ∷ stands) (a ∷ arms) zero stand arm h e s = ap (λ l. expr (arm_expr p (inside t) a.bind (body_of a.body)) l) (arms-end stands)
      ∙ ap (λ (b : Arm). expr (arm_expr p (inside t) b.bind (body_of b.body)) no_exprs) (sym e) ∙ ap (λ u. expr (arm_expr p (inside u) arm.bind (body_of arm.body)) no_exprs) (one s)
    where
      one : Some t ≡ Some stand → t ≡ stand
      one h = cc
  arms-more (t ∷ stands) (a ∷ arms) (suc i) stand arm h e s = ap (λ l. expr (arm_expr p (inside t) a.bind (body_of a.body)) l) (arms-more stands arms i stand arm (omega (arith, h)) e s)

  arms-none : (stands : List Part) (arms : List Arm) (i : ℕ) → slice_get stands i ≡ None → arms_exprs p (map inside stands) (arm_list (take (suc i) arms)) ≡ arms_exprs p (map inside stands) (arm_list (take i arms))
  arms-none stands [] zero s = refl
  arms-none stands [] (suc i) s = refl
  arms-none [] (a ∷ arms) zero s = refl
  arms-none [] (a ∷ arms) (suc i) s = refl
  arms-none (t ∷ stands) (a ∷ arms) zero s = absurd (cc)
  arms-none (t ∷ stands) (a ∷ arms) (suc i) s = ap (λ l. expr (arm_expr p (inside t) a.bind (body_of a.body)) l) (arms-none stands arms i s)

  pub put_arm : (stands : List Part) (arms : List Arm) (i : ℕ) (stand : Part) (arm : Arm) (e : made.Expr) (old now new : Exprs) → i < length arms → arm ≡ get_or arms i arm
      → slice_get stands i ≡ Some stand
      → e ≡ arm_expr p (inside stand) arm.bind (body_of arm.body) → new ≡ join_exprs now (terms_of e)
      → now ≡ join_exprs old (opened terms_of (arms_exprs p (map inside stands) (arm_list (take i arms)))) → new ≡ join_exprs old (opened terms_of (arms_exprs p (map inside stands) (arm_list (take (i + 1) arms))))
  put_arm stands arms i stand arm e old now new l at s same n h =
      rw add-one (put_behind terms_of (arms_exprs p (map inside stands) (arm_list (take i arms))) e (arm_expr p (inside stand) arm.bind (body_of arm.body)) (arms_exprs p (map inside stands) (arm_list (take (suc i) arms))) old now new
      (arms-more stands arms i stand arm l at s) same n h)

  pub no_arm : (stands : List Part) (arms : List Arm) (i : ℕ) (old now : Exprs) → slice_get stands i ≡ None
      → now ≡ join_exprs old (opened terms_of (arms_exprs p (map inside stands) (arm_list (take i arms)))) → now ≡ join_exprs old (opened terms_of (arms_exprs p (map inside stands) (arm_list (take (i + 1) arms))))
  no_arm stands arms i old now s h = rw add-one (h ∙ ap (λ l. join_exprs old (opened terms_of l)) (sym (arms-none stands arms i s)))

  -- what an arm is for shows in no descriptor but by its part
  arm_same : (S : Stand) (bind : Bind) (body : plain.Body) → arm_expr p (inside (stand_part S)) bind body ≡ arm_expr p S bind body
  arm_same (inside part) bind body = refl
  arm_same (itself part) Nothing body = refl
  arm_same (itself part) Whole body = refl
  arm_same (itself part) (Parts k) body = refl

  arms_same : (Ss : List Stand) (arms : plain.Arms) → arms_exprs p (map inside (map stand_part Ss)) arms ≡ arms_exprs p Ss arms
  arms_same [] plain.no_arms = refl
  arms_same [] (plain.arm bind body arms) = refl
  arms_same (S ∷ Ss) plain.no_arms = refl
  arms_same (S ∷ Ss) (plain.arm bind body arms) =
      ap (λ e. expr e (arms_exprs p (map inside (map stand_part Ss)) arms)) (arm_same S bind body) ∙ ap (λ es. expr (arm_expr p S bind body) es) (arms_same Ss arms)

  pub arms_done : (on : Part) (standing : List Part) (arms : List Arm) (i : ℕ) (now : Exprs) (e : made.Expr) → standing ≡ map stand_part (stands on (shape_of p on.node)) → length arms ≤ i
      → now ≡ opened terms_of (arms_exprs p (map inside standing) (arm_list (take i arms))) → e ≡ as_sum now
      → e ≡ case_expr p on (arm_list arms)
  arms_done on standing arms i now e s l h n =
      sum_done (arms_exprs p (map inside standing) (arm_list arms)) now e (h ∙ ap (λ (l : List Arm). opened terms_of (arms_exprs p (map inside standing) (arm_list l))) (take_all i arms l)) n
      ∙ ap (λ (ss : List Part). sum_of (arms_exprs p (map inside ss) (arm_list arms))) s
      ∙ ap sum_of (arms_same (stands on (shape_of p on.node)) (arm_list arms))

  -- ---- equations
  abbrev defined : ℕ → Def → Equation
  defined k d = record { left = left.Series k; right = part_expr p d.whole }

  abbrev described : ℕ → Procedure → Equation
  described k P = record { left = left.Tau k; right = descriptor p P }

  defs-more : (k : ℕ) (ds : List Def) (i : ℕ) (d : Def) → i < length ds → d ≡ get_or ds i d → defs_from p k (take (suc i) ds) ≡ defs_from p k (take i ds) ++ defined (k + i) d ∷ []
  defs-more k [] i d h e = absurd (omega (arith, h))
  defs-more k (y ∷ ds) zero d h e = ap (λ j. defined j y ∷ []) (let q : k ≡ k + 0 = omega arith in q) ∙ ap (λ z. defined (k + 0) z ∷ []) (sym e)
  defs-more k (y ∷ ds) (suc i) d h e = ap (λ l. defined k y ∷ l) (defs-more (suc k) ds i d (omega (arith, h)) e
      ∙ ap (λ j. defs_from p (suc k) (take i ds) ++ defined j d ∷ []) (let q : suc k + i ≡ k + suc i = omega arith in q))

  procs-more : (k : ℕ) (Ps : List Proc) (i : ℕ) (P : Proc) → i < length Ps → P ≡ get_or Ps i P
      → procs_from p k (map procedure_of (take (suc i) Ps)) ≡ procs_from p k (map procedure_of (take i Ps)) ++ described (k + i) (procedure_of P) ∷ []
  procs-more k [] i P h e = absurd (omega (arith, h))
  procs-more k (y ∷ Ps) zero P h e = ap (λ j. described j (procedure_of y) ∷ []) (let q : k ≡ k + 0 = omega arith in q) ∙ ap (λ z. described (k + 0) (procedure_of z) ∷ []) (sym e)
  procs-more k (y ∷ Ps) (suc i) P h e = ap (λ l. described k (procedure_of y) ∷ l) (procs-more (suc k) Ps i P (omega (arith, h)) e
      ∙ ap (λ j. procs_from p (suc k) (map procedure_of (take i Ps)) ++ described j (procedure_of P) ∷ []) (let q : suc k + i ≡ k + suc i = omega arith in q))

  -- the loops over definitions and procedures
  pub put_def : (ds slice : List Def) (i : ℕ) (d : Def) (right : done.Expr) (old now new : List done_equation.Equation) → slice ≡ ds → i < length slice → d ≡ get_or slice i d
      → new ≡ now ++ record { left = left.Series i; right = right } ∷ []
      → expr_of right ≡ part_expr p d.whole → map equation_of now ≡ map equation_of old ++ defs_from p 0 (take i ds) → map equation_of new ≡ map equation_of old ++ defs_from p 0 (take (i + 1) ds)
  put_def ds slice i d right old now new e l at n r h =
      rw add-one (ap (map equation_of) n ∙ map-append equation_of now (record { left = left.Series i; right = right } ∷ [])
      ∙ ap (λ es. es ++ record { left = left.Series i; right = expr_of right } ∷ []) h
      ∙ ap (λ f. (map equation_of old ++ defs_from p 0 (take i ds)) ++ record { left = left.Series i; right = f } ∷ []) r
      ∙ append_assoc (map equation_of old) (defs_from p 0 (take i ds)) (defined i d ∷ [])
      ∙ ap (λ k. map equation_of old ++ (defs_from p 0 (take i ds) ++ defined k d ∷ [])) (let q : i ≡ 0 + i = omega arith in q)
      ∙ ap (λ es. map equation_of old ++ es) (sym (defs-more 0 ds i d (subst (λ (xs : List Def). i < length xs) e l) (at ∙ ap (λ (xs : List Def). get_or xs i d) e))))

  pub put_proc : (Ps slice : List Proc) (i : ℕ) (P : Proc) (right : done.Expr) (old now new : List done_equation.Equation) → slice ≡ Ps → i < length slice → P ≡ get_or slice i P
      → new ≡ now ++ record { left = left.Tau i; right = right } ∷ []
      → expr_of right ≡ descriptor p (procedure_of P) → map equation_of now ≡ map equation_of old ++ procs_from p 0 (map procedure_of (take i Ps))
      → map equation_of new ≡ map equation_of old ++ procs_from p 0 (map procedure_of (take (i + 1) Ps))
  put_proc Ps slice i P right old now new e l at n r h =
      rw add-one (ap (map equation_of) n ∙ map-append equation_of now (record { left = left.Tau i; right = right } ∷ []) ∙ ap (λ es. es ++ record { left = left.Tau i; right = expr_of right } ∷ []) h
      ∙ ap (λ f. (map equation_of old ++ procs_from p 0 (map procedure_of (take i Ps))) ++ record { left = left.Tau i; right = f } ∷ []) r
      ∙ append_assoc (map equation_of old) (procs_from p 0 (map procedure_of (take i Ps))) (described i (procedure_of P) ∷ [])
      ∙ ap (λ k. map equation_of old ++ (procs_from p 0 (map procedure_of (take i Ps)) ++ described k (procedure_of P) ∷ [])) (let q : i ≡ 0 + i = omega arith in q)
      ∙ ap (λ es. map equation_of old ++ es) (sym (procs-more 0 Ps i P (subst (λ (xs : List Proc). i < length xs) e l) (at ∙ ap (λ (xs : List Proc). get_or xs i P) e))))
