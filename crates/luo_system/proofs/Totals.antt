-- The totals of a well-founded program meet the descriptors.
use Rattle.std.proofs.Common.{◌≡◌, ℕ, zero, suc, ◌+◌, ◌<◌, ◌≤◌, refl, sym, ◌∙◌, ap, arith, subst, ℤ, pos}
use Rattle.std.proofs.Common.{◌+ℤ◌, ◌*ℤ◌, nat_abs, Some, ◌⊎◌, inl, inr, ⊎_elim, List, [], ◌∷◌, map, length, slice_get, get_or}
use Rattle.std.proofs.lemmas.Int.{ints}
use Rattle.std.proofs.lemmas.Option.{slice_get-get_or}
use Rattle.luo_finite.specs.Listing.{In}
use Rattle.luo_finite.specs.Range.{sum_below}
use Rattle.luo_model.specs.declared.program.Part.{Part}
use Rattle.luo_model.specs.declared.program.Shape.{Shape}
use Rattle.luo_model.specs.declared.program.Shape.TheVariants as shape
use Rattle.luo_model.specs.declared.body.Bind.{Bind}
use Rattle.luo_model.specs.declared.body.Bind.TheVariants.{Nothing, Whole, Parts}
use Rattle.luo_model.specs.Tree.{Tree, Atom, Inj, Tup, Coll}
use Rattle.luo_model.specs.Program.{Program, Procedure, Body, Does, Items, no_items, item, Item, Call, Case, Forall, Arms, no_arms, arm, shape_of}
use Rattle.luo_model.specs.Member.{Fits}
use Rattle.luo_model.specs.Charges.{parts_of, bound}
use Rattle.luo_model.specs.Scopes.Stands.{Stand, inside, itself, stand_part, stands, factors, component, IsCollection, IsProductOf, MayBind, bound_parts, part_at, no_part}
use Rattle.luo_model.specs.Scopes.Fits.{FitsBody, FitsItems, FitsItem, FitsArms}
use Rattle.luo_model.specs.Invariant.{IsProgram, IsPart}
use Rattle.luo_finite.specs.Walk.{Walk}
use Rattle.luo_model.specs.Founded.{HasZero, KeepsSize, SameSize, IsFounded}
use Rattle.luo_finite.proofs.Places.{In_get, some_same, none_some}
use Rattle.luo_counting.specs.Counted.{over_components}
use Rattle.luo_counting.proofs.TreeParts.{SumsAt-union}
use Rattle.luo_equation.specs.Series.{times, point, sum_z}
use Rattle.luo_equation.specs.Expr.{Expr, Exprs, Number, expr, Table, coef, sum_of_coefs, product_of_coefs}
use Rattle.luo_equation.proofs.Ring.{number-times}
use Rattle.luo_equation.proofs.SeriesLemmas.{sum_z-shift, sum_z-pos, sum_z-same}
use Rattle.luo_system.specs.Plain.{product_of}
use Rattle.luo_system.specs.System.{exprs_of, part_expr, whole_parts, others, item_var, walk_expr, body_expr, items_exprs, item_expr, arms_exprs}
use Rattle.luo_system.proofs.PlainLaws.{coef-sum, coef-product, coef-walk}
use Rattle.luo_system.proofs.Values.{products_in, products-exprs, products-all}
use Rattle.luo_system.proofs.Counts.{count_of, zero_or_none, CZ}
use Rattle.luo_system.proofs.Definitions.{part_there}
use Rattle.luo_system.proofs.Descriptors.{node_of, at_get, others_in, AreThere}
use Rattle.luo_system.proofs.Charging.{tree_at, body_charge, items_charge, item_charge, arms_charge, charge_of}
use Rattle.luo_system.proofs.Scopes.{IsSum, sum-at, sum-same, sum-add, sum-own, sum-none, sum-abs, pos-abs, IsNone, RestNone, Scoped, scoped_one, scoped_none, scoped_parts, walk_sum}

module _ (p : Program) (q : IsProgram p) (f : IsFounded p) (v : Table) (vx : (part : Part) → IsPart p part → (m : ℕ) → coef p.universe v (part_expr p part) m ≡ CZ p q f part m) where
  abbrev W : ℕ → Tree → ℕ
  W = charge_of p q f

  -- the table has the totals of the procedures on node z at m
  abbrev pub Right : ℕ → ℕ → Type 0
  Right m z = (g : ℕ) (P : Procedure) → slice_get p.procs g ≡ Some P → P.on.node ≡ z → IsSum p q f z (W g) m (v.y g m)

  abbrev pub RightBehind : ℕ → ℕ → Type 0
  RightBehind m z = (k w : ℕ) → Walk (SameSize p) (suc k) z w → Right m w

  abbrev pub RightFrom : ℕ → ℕ → Type 0
  RightFrom m z = Right m z × RightBehind m z

  abbrev pub Below : ℕ → Type 0
  Below m = (k : ℕ) → k < m → (z : ℕ) → Right k z

  step_on : (m x y : ℕ) → RightBehind m x → SameSize p x y → RightFrom m y
  step_on m x y a s = (a 0 y (y, s, refl), λ k w r. a (suc k) w (y, s, r))

  all_or_none : (parts : List Part) → ((part : Part) → In part parts → HasZero p part.node) ⊎ ((part : Part) × In part parts × IsNone p q f part.node)
  all_or_none [] = inl (λ part i. absurd i)
  all_or_none (part ∷ parts) = ⊎_elim
      (λ z. ⊎_elim (λ a. inl (λ w i. ⊎_elim (λ e. subst (λ (y : Part). HasZero p y.node) (sym e) z) (λ j. a w j) i)) (λ s. inr (s.0, inr s.1, s.2)) (all_or_none parts))
      (λ n. inr (part, inl refl, n)) (zero_or_none p q f part.node)

  factor_or : (x : ℕ) (parts : List Part) → shape_of p x ≡ shape.Product parts → (j : ℕ) (part : Part) → slice_get parts j ≡ Some part → SameSize p x part.node ⊎ RestNone p q f parts j
  factor_or x parts is j part e = ⊎_elim
      (λ a. inl (subst (λ s. KeepsSize (HasZero p) s part.node) (sym is) (j, part, e, refl, λ k other g o. a other (others_in parts j k other g o))))
      (λ s. inr s) (all_or_none (others j parts))

  abbrev pub ItemNear : ℕ → List Part → Item → Type 0
  ItemNear m vars (Call var callee site) = IsSum p q f (part_at vars var).node (W callee) m (v.y callee m)
  ItemNear m vars (Case var arms site) = RightBehind m (part_at vars var).node
  ItemNear m vars (Forall var body body_site site) = RightBehind m (part_at vars var).node

  abbrev pub ItemsNear : ℕ → List Part → Items → Type 0
  ItemsNear m vars no_items = Unit {0}
  ItemsNear m vars (item i is) = (ItemNear m vars i ⊎ RestNone p q f vars (item_var i)) × ItemsNear m vars is

  abbrev pub BodyNear : ℕ → List Part → Body → Type 0
  BodyNear m vars (Does own is) = ItemsNear m vars is

  abbrev ScopeNear : ℕ → List Part → Type 0
  ScopeNear m vars = (j : ℕ) (part : Part) → slice_get vars j ≡ Some part → RightFrom m part.node ⊎ RestNone p q f vars j

  item_near : (m : ℕ) (vars : List Part) (i : Item) → FitsItem p vars i → ScopeNear m vars → ItemNear m vars i ⊎ RestNone p q f vars (item_var i)
  item_near m vars (Call var callee site) w s =
      ⊎_elim (λ a. inl (subst (λ (y : Part). IsSum p q f y.node (W callee) m (v.y callee m)) (sym (at_get vars var w.1 w.3)) (a.0 callee w.0 w.2 (sym w.4)))) (λ z. inr z) (s var w.1 w.3)
  item_near m vars (Case var arms site) w s =
      ⊎_elim (λ a. inl (subst (λ (y : Part). RightBehind m y.node) (sym (at_get vars var w.0 w.1)) a.1)) (λ z. inr z) (s var w.0 w.1)
  item_near m vars (Forall var body body_site site) w s =
      ⊎_elim (λ a. inl (subst (λ (y : Part). RightBehind m y.node) (sym (at_get vars var w.0 w.1)) a.1)) (λ z. inr z) (s var w.0 w.1)

  items_near : (m : ℕ) (vars : List Part) (is : Items) → FitsItems p vars is → ScopeNear m vars → ItemsNear m vars is
  items_near m vars no_items w s = tt
  items_near m vars (item i is) w s = (item_near m vars i w.0 s, items_near m vars is w.1 s)

  body_near : (m : ℕ) (vars : List Part) (body : Body) → FitsBody p vars body → ScopeNear m vars → BodyNear m vars body
  body_near m vars (Does own is) w s = items_near m vars is w.1 s

  all_near : (m : ℕ) (vars : List Part) → ((z : ℕ) → Right m z) → ScopeNear m vars
  all_near m vars a j part e = inl (a part.node, λ k w r. a w)

  near_below : (i : Item) (vars : List Part) → FitsItem p vars i → (k : ℕ) → ((z : ℕ) → Right k z) → ItemNear k vars i
  near_below (Call var callee site) vars w k a =
      a (part_at vars var).node callee w.0 w.2 (sym w.4 ∙ ap node_of (sym (at_get vars var w.1 w.3)))
  near_below (Case var arms site) vars w k a = λ j z r. a z
  near_below (Forall var body body_site site) vars w k a = λ j z r. a z

  rest-value : (parts : List Part) → AreThere p parts → (m : ℕ) → product_of_coefs p.universe v (exprs_of (part_expr p) parts) m ≡ products_in p.universe (CZ p q f) parts m
  rest-value parts a m =
      products-exprs p.universe v (part_expr p) parts m
      ∙ products-all p.universe (λ y. Unit {0}) (λ part k. coef p.universe v (part_expr p part) k) (CZ p q f) parts m (λ part i k l. vx part (a part i) k)

  in_others : (parts : List Part) (j : ℕ) (other : Part) → In other (others j parts) → In other parts
  in_others [] j other i = i
  in_others (part ∷ parts) zero other i = inr i
  in_others (part ∷ parts) (suc j) other i = ⊎_elim (λ e. inl e) (λ k. inr (in_others parts j other k)) i

  own_sum : (x own m : ℕ) (whole : List Part) → AreThere p whole → products_in p.universe (CZ p q f) whole m ≡ pos (count_of p q f x m) → IsSum p q f x (λ s. own) m
      (coef p.universe v (product_of (expr (Number own) (exprs_of (part_expr p) whole))) m)
  own_sum x own m whole a e =
      let u = p.universe in
      let es : Exprs = exprs_of (part_expr p) whole in
      sum-at p q f x (λ s. own) m (pos own *ℤ pos (count_of p q f x m)) (coef u v (product_of (expr (Number own) es)) m)
      (sym (coef-product u v (expr (Number own) es) m ∙ number-times u (pos own) (product_of_coefs u v es) m ∙ ap (λ z. pos own *ℤ z) (rest-value whole a m ∙ e)))
      (sum-own p q f x own m)

  -- ---- the scope of an arm
  arm_near : (m : ℕ) (S : Stand) (bind : Bind) → MayBind p S bind → RightBehind m (stand_part S).node → (bind ≡ Whole → Right m (stand_part S).node) → ScopeNear m (bound_parts p S bind)
  arm_near m S Nothing w a g j part h = absurd (none_some part h)
  arm_near m S Whole w a g zero part h = inl (subst (λ (y : Part). RightFrom m y.node) (some_same (stand_part S) part h) (g refl, a))
  arm_near m S Whole w a g (suc j) part h = absurd (none_some part h)
  arm_near m S (Parts k) w a g j part h = by_shape (shape_of p (stand_part S).node) refl h
    where
      by_shape : (s : Shape) → shape_of p (stand_part S).node ≡ s → slice_get (factors s) j ≡ Some part → RightFrom m part.node ⊎ RestNone p q f (factors s) j
      by_shape (shape.Atom weight) is h = absurd (none_some part h)
      by_shape (shape.Union parts) is h = absurd (none_some part h)
      by_shape (shape.Product parts) is h = ⊎_elim (λ s. inl (step_on m (stand_part S).node part.node a s)) (λ z. inr z) (factor_or (stand_part S).node parts is j part h)
      by_shape (shape.Coll kind c low high) is h = absurd (none_some part h)

  arm_scoped : (S : Stand) → IsPart p (stand_part S) → (bind : Bind) → MayBind p S bind → Scoped p q f (stand_part S).node (bound bind) (whole_parts p S bind)
      (bound_parts p S bind)
  arm_scoped S h Nothing w = scoped_none p q f (stand_part S) h
  arm_scoped S h Whole w = scoped_one p q f (stand_part S) h
  arm_scoped S h (Parts k) w = by_shape (shape_of p (stand_part S).node) refl (product_of_k S w)
    where
      product_of_k : (S : Stand) → MayBind p S (Parts k) → IsProductOf k (shape_of p (stand_part S).node)
      product_of_k (inside y) w = w
      product_of_k (itself y) w = w

      by_shape : (s : Shape) → shape_of p (stand_part S).node ≡ s → IsProductOf k (shape_of p (stand_part S).node) → Scoped p q f (stand_part S).node parts_of (factors s) (factors s)
      by_shape (shape.Atom weight) is o = absurd (subst (IsProductOf k) is o)
      by_shape (shape.Union parts) is o = absurd (subst (IsProductOf k) is o)
      by_shape (shape.Product parts) is o = scoped_parts p q f (stand_part S).node parts is (λ part i. (part_there p q (stand_part S).node (shape.Product parts) is part i).0)
      by_shape (shape.Coll kind c low high) is o = absurd (subst (IsProductOf k) is o)

  -- ---- cases
  -- the coefficient of the arm at a place
  abbrev arm_coef : ℕ → List Stand → Arms → ℕ → ℤ
  arm_coef m (stand ∷ rest) (arm bind body arms) zero = coef p.universe v (body_expr p (whole_parts p stand bind) (bound_parts p stand bind) body) m
  arm_coef m (stand ∷ rest) (arm bind body arms) (suc i) = arm_coef m rest arms i
  arm_coef m _ _ i = pos 0

  arms_coefs : (m : ℕ) (parts : List Part) (arms : Arms) → FitsArms p (map inside parts) arms → sum_of_coefs p.universe v (arms_exprs p (map inside parts) arms) m ≡ sum_z
      (arm_coef m (map inside parts) arms) (length parts)
  arms_coefs m [] no_arms w = refl
  arms_coefs m [] (arm bind body arms) w = refl
  arms_coefs m (part ∷ parts) no_arms w = absurd w
  arms_coefs m (part ∷ parts) (arm bind body arms) w =
      ap (λ z. coef p.universe v (body_expr p (whole_parts p (inside part) bind) (bound_parts p (inside part) bind) body) m +ℤ z) (arms_coefs m parts arms w.2)
      ∙ sym (sum_z-shift (arm_coef m (map inside (part ∷ parts)) (arm bind body arms)) (length parts))

  case_sum : (arms : Arms) (X : Part) (s : Shape) → shape_of p X.node ≡ s → 1 ≤ length (stands X s) → FitsArms p (stands X s) arms → (m : ℕ)
      → ((parts : List Part) → shape_of p X.node ≡ shape.Union parts → FitsArms p (map inside parts) arms → (i : ℕ) (part : Part)
      → slice_get parts i ≡ Some part → IsSum p q f part.node (λ t. arms_charge W arms (Inj (suc i) t)) m (arm_coef m (map inside parts) arms i))
      → ((parts : List Part) → shape_of p X.node ≡ shape.Product parts → FitsArms p (itself X ∷ []) arms → IsSum p q f X.node (arms_charge W arms) m
      (sum_of_coefs p.universe v (arms_exprs p (itself X ∷ []) arms) m))
      → IsSum p q f X.node (arms_charge W arms) m (sum_of_coefs p.universe v (arms_exprs p (stands X s) arms) m)
  case_sum arms X (shape.Atom weight) is l w m union product = absurd (omega arith)
  case_sum arms X (shape.Coll kind c low high) is l w m union product = absurd (omega arith)
  case_sum arms X (shape.Product parts) is l w m union product = product parts is w
  case_sum arms X (shape.Union parts) is l w m union product =
      let t : ℕ → ℕ = λ i. nat_abs (arm_coef m (map inside parts) arms i) in (
        sum_below t (length parts),
        SumsAt-union p X.node parts is m (arms_charge W arms) t (λ i part e. sum-abs p q f part.node (λ t. arms_charge W arms (Inj (suc i) t)) m (arm_coef m (map inside parts) arms i) (union parts is w i part e)),
        arms_coefs m parts arms w
            ∙ sum_z-same (arm_coef m (map inside parts) arms) (λ i. pos (t i)) (length parts) (λ i h.
            let e = slice_get-get_or parts i no_part h in let s = union parts is w i (get_or parts i no_part) e in pos-abs p q f (arm_coef m (map inside parts) arms i) s.0 s.2)
            ∙ sum_z-pos t (length parts),
      )

  -- ---- walks
  walk_near : (x : ℕ) (s : Shape) → shape_of p x ≡ s → IsCollection s → (B : Part → Expr) (w : Tree → ℕ) (m : ℕ)
      → ((k : ℕ) → k < m → IsSum p q f (component s).node w k (coef p.universe v (B (component s)) k))
      → (SameSize p x (component s).node → IsSum p q f (component s).node w m (coef p.universe v (B (component s)) m))
      → IsSum p q f x (over_components w) m (coef p.universe v (walk_expr (part_expr p) s B) m)
  walk_near x (shape.Atom weight) is o B w m below here = absurd o
  walk_near x (shape.Union parts) is o B w m below here = absurd o
  walk_near x (shape.Product parts) is o B w m below here = absurd o
  walk_near x (shape.Coll kind c low high) is o B w m below here =
      let u = p.universe in
      let h : IsPart p c = (part_there p q x (shape.Coll kind c low high) is c (inl refl)).0 in
      sum-at p q f x (over_components w) m (point u kind (CZ p q f c) (coef u v (B c)) low high m) (coef u v (walk_expr (part_expr p) (shape.Coll kind c low high) B) m)
      (ap (λ (g : ℕ → ℤ). point u kind g (coef u v (B c)) low high m) (λ i k. sym (vx c h k) i) ∙ sym (coef-walk u v kind (part_expr p c) low high (B c) m))
      (walk_sum p q f x kind c low high is w (coef u v (B c)) m below (λ r. here (subst (λ s. KeepsSize (HasZero p) s c.node) (sym is) (refl, r))))

  component_there : (x : ℕ) (s : Shape) → shape_of p x ≡ s → IsCollection s → IsPart p (component s)
  component_there x (shape.Atom weight) is w = absurd w
  component_there x (shape.Union parts) is w = absurd w
  component_there x (shape.Product parts) is w = absurd w
  component_there x (shape.Coll kind c low high) is w = (part_there p q x (shape.Coll kind c low high) is c (inl refl)).0

  alone_scope : (m : ℕ) (c : Part) → RightFrom m c.node → ScopeNear m (c ∷ [])
  alone_scope m c a zero part e = inl (subst (λ (y : Part). RightFrom m y.node) (some_same c part e) a)
  alone_scope m c a (suc j) part e = absurd (none_some part e)

  item_get : (vars : List Part) (i : Item) → FitsItem p vars i → (part : Part) × (slice_get vars (item_var i) ≡ Some part)
  item_get vars (Call var callee site) w = (w.1, w.3)
  item_get vars (Case var arms site) w = (w.0, w.1)
  item_get vars (Forall var body body_site site) w = (w.0, w.1)

  one_arm : (bind : Bind) (body : Body) (parts : List Part) (s : Tree) → Fits p (shape.Product parts) s → body_charge W body (bound bind s) ≡ arms_charge W (arm bind body no_arms) s
  one_arm bind body parts (Atom w l) m = absurd m
  one_arm bind body parts (Inj i t) m = absurd m
  one_arm bind body parts (Tup ts) m = refl
  one_arm bind body parts (Coll ts) m = absurd m

  -- ---- THE LAW: descriptors have the sums of what bodies charge
  mutual
    pub body_sum : (body : Body) (x : ℕ) (scope : Tree → List Tree) (whole vars : List Part) → Scoped p q f x scope whole vars → FitsBody p vars body → (m : ℕ) → Below m
        → BodyNear m vars body
        → IsSum p q f x (λ s. body_charge W body (scope s)) m (coef p.universe v (body_expr p whole vars body) m)
    body_sum (Does own is) x scope whole vars sc w m below near =
        let u = p.universe in
        let O : Expr = product_of (expr (Number own) (exprs_of (part_expr p) whole)) in
        sum-at p q f x (λ s. own + items_charge W is (scope s)) m (coef u v O m +ℤ sum_of_coefs u v (items_exprs p vars is) m) (coef u v (body_expr p whole vars (Does own is)) m)
        (sym (coef-sum u v (expr O (items_exprs p vars is)) m))
        (sum-add p q f x (λ s. own) (λ s. items_charge W is (scope s)) m (coef u v O m) (sum_of_coefs u v (items_exprs p vars is) m) (own_sum x own m whole sc.whole_there (sc.own m))
        (items_sum is x scope whole vars sc w.1 m below near))

    items_sum : (is : Items) (x : ℕ) (scope : Tree → List Tree) (whole vars : List Part) → Scoped p q f x scope whole vars → FitsItems p vars is → (m : ℕ) → Below m → ItemsNear m vars is
        → IsSum p q f x (λ s. items_charge W is (scope s)) m (sum_of_coefs p.universe v (items_exprs p vars is) m)
    items_sum no_items x scope whole vars sc w m below near = sum-none p q f x m
    items_sum (item i is) x scope whole vars sc w m below near =
        let u = p.universe in
        let j : ℕ = item_var i in
        let E : Expr = item_expr p vars i in
        let es : Exprs = exprs_of (part_expr p) (others j vars) in
        let g = item_get vars i w.0 in
        let at : (k : ℕ) → IsSum p q f (part_at vars j).node (item_charge W i) k (coef u v E k) → IsSum p q f g.0.node (item_charge W i) k (coef u v E k) =
        λ k s. subst (λ (y : Part). IsSum p q f y.node (item_charge W i) k (coef u v E k)) (at_get vars j g.0 g.1) s in
        let term = sc.term j g.0 g.1 (item_charge W i) (coef u v E) m
        (λ k l. at k (item_sum i vars sc.vars_there w.0 k (λ o h. below o (omega arith)) (near_below i vars w.0 k (below k l))))
        (⊎_elim (λ n. inl (at m (item_sum i vars sc.vars_there w.0 m below n))) (λ r. inr r) near.0) in
        sum-add p q f x (λ s. item_charge W i (tree_at (scope s) j)) (λ s. items_charge W is (scope s)) m (coef u v (product_of (expr E es)) m) (sum_of_coefs u v (items_exprs p vars is) m)
        (sum-at p q f x (λ s. item_charge W i (tree_at (scope s) j)) m (times u (coef u v E) (products_in u (CZ p q f) (others j vars)) m) (coef u v (product_of (expr E es)) m)
        (sym (coef-product u v (expr E es) m ∙ ap (λ (h : ℕ → ℤ). times u (coef u v E) h m) (λ o k. rest-value (others j vars) (λ part i. sc.vars_there part (in_others vars j part i)) k o))) term)
        (items_sum is x scope whole vars sc w.1 m below near.1)

    item_sum : (i : Item) (vars : List Part) → AreThere p vars → FitsItem p vars i → (m : ℕ) → Below m → ItemNear m vars i → IsSum p q f (part_at vars (item_var i)).node
        (item_charge W i) m (coef p.universe v (item_expr p vars i) m)
    item_sum (Call var callee site) vars b w m below near = near
    item_sum (Case var arms site) vars b w m below near =
        let u = p.universe in
        let X : Part = part_at vars var in
        let same : X ≡ w.0 = at_get vars var w.0 w.1 in
        let h : IsPart p X = subst (IsPart p) (sym same) (b w.0 (In_get vars var w.0 w.1)) in
        let e : w.0 ≡ X = sym same in
        let s : Shape = shape_of p X.node in
        sum-at p q f X.node (arms_charge W arms) m (sum_of_coefs u v (arms_exprs p (stands X s) arms) m) (coef u v (item_expr p vars (Case var arms site)) m)
        (sym (coef-sum u v (arms_exprs p (stands X s) arms) m))
        (case_sum arms X s refl (subst (λ (y : Part). 1 ≤ length (stands y (shape_of p y.node))) e w.2) (subst (λ (y : Part). FitsArms p (stands y (shape_of p y.node)) arms) e w.3) m
        (λ parts is k i part g. branch_sum arms parts k (λ y o. (part_there p q X.node (shape.Union parts) is y o).0) m below
        (λ y o. step_on m X.node y.node near (subst (λ z. KeepsSize (HasZero p) z y.node) (sym is) (y, o, refl))) i part g)
        (λ parts is k. product_sum arms X h parts is k m below near))
    item_sum (Forall var body body_site site) vars b w m below near =
        let X : Part = part_at vars var in
        let same : X ≡ w.0 = at_get vars var w.0 w.1 in
        let e : w.0 ≡ X = sym same in
        let s : Shape = shape_of p X.node in
        let c : Part = component s in
        let coll : IsCollection s = subst (λ (y : Part). IsCollection (shape_of p y.node)) e w.2 in
        let fit : FitsBody p (c ∷ []) body = subst (λ (y : Part). FitsBody p (component (shape_of p y.node) ∷ []) body) e w.3 in
        let sc = scoped_one p q f c (component_there X.node s refl coll) in
        walk_near X.node s refl coll (λ part. body_expr p (part ∷ []) (part ∷ []) body) (λ t. body_charge W body (t ∷ [])) m
        (λ k l. body_sum body c.node (λ t. t ∷ []) (c ∷ []) (c ∷ []) sc fit k (λ j h. below j (omega arith)) (body_near k (c ∷ []) body fit (all_near k (c ∷ []) (below k l))))
        (λ o. body_sum body c.node (λ t. t ∷ []) (c ∷ []) (c ∷ []) sc fit m below (body_near m (c ∷ []) body fit (alone_scope m c (step_on m X.node c.node near o))))

    branch_sum : (arms : Arms) (parts : List Part) → FitsArms p (map inside parts) arms → AreThere p parts → (m : ℕ) → Below m →
        ((part : Part) → In part parts → RightFrom m part.node)
        → (i : ℕ) (part : Part) → slice_get parts i ≡ Some part → IsSum p q f part.node (λ t. arms_charge W arms (Inj (suc i) t)) m (arm_coef m (map inside parts) arms i)
    branch_sum arms [] w b m below near i part e = absurd (none_some part e)
    branch_sum no_arms (y ∷ parts) w b m below near i part e = absurd w
    branch_sum (arm bind body arms) (y ∷ parts) w b m below near zero part e =
        let S : Stand = inside y in
        let a = near y (inl refl) in
        subst (λ (z : Part). IsSum p q f z.node (λ t. body_charge W body (bound bind t)) m (coef p.universe v (body_expr p (whole_parts p S bind) (bound_parts p S bind) body) m)) (some_same y part e)
        (body_sum body y.node (bound bind) (whole_parts p S bind) (bound_parts p S bind) (arm_scoped S (b y (inl refl)) bind w.0) w.1 m below
        (body_near m (bound_parts p S bind) body w.1 (arm_near m S bind w.0 a.1 (λ g. a.0))))
    branch_sum (arm bind body arms) (y ∷ parts) w b m below near (suc i) part e = branch_sum arms parts w.2 (λ z j. b z (inr j)) m below (λ z j. near z (inr j)) i part e

    product_sum : (arms : Arms) (X : Part) → IsPart p X → (parts : List Part) → shape_of p X.node ≡ shape.Product parts → FitsArms p (itself X ∷ []) arms → (m : ℕ) → Below m
        → RightBehind m X.node
        → IsSum p q f X.node (arms_charge W arms) m (sum_of_coefs p.universe v (arms_exprs p (itself X ∷ []) arms) m)
    product_sum no_arms X h parts is w m below near = absurd w
    product_sum (arm bind body (arm c d arms)) X h parts is w m below near = absurd w.2
    product_sum (arm bind body no_arms) X h parts is w m below near =
        let S : Stand = itself X in
        let Z : ℤ = coef p.universe v (body_expr p (whole_parts p S bind) (bound_parts p S bind) body) m in
        sum-at p q f X.node (arms_charge W (arm bind body no_arms)) m Z (Z +ℤ pos 0) (omega (arith, ints))
        (sum-same p q f X.node (λ s. body_charge W body (bound bind s)) (arms_charge W (arm bind body no_arms)) m Z (λ s k. one_arm bind body parts s (subst (λ y. Fits p y s) is k))
        (body_sum body X.node (bound bind) (whole_parts p S bind) (bound_parts p S bind) (arm_scoped S h bind w.0) w.1 m below
        (body_near m (bound_parts p S bind) body w.1 (arm_near m S bind w.0 near (λ g. absurd (subst (MayBind p S) g w.0))))))
