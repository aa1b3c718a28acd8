-- Descriptors: where they look.
use Rattle.std.proofs.Common.{◌≡◌, ℕ, zero, suc, ◌<◌, refl, sym, ◌∙◌, ap, arith, subst, ℤ, pos, ◌+ℤ◌, Option, Some, ◌⊎◌, inl, inr, ⊎_elim, List, [], ◌∷◌, map, slice_get}
use Rattle.std.proofs.lemmas.Int.{ints}
use Rattle.std.proofs.lemmas.Option.{get_or_from_slice_get}
use Rattle.luo_finite.specs.Listing.{In}
use Rattle.luo_model.specs.declared.program.Kind.{Kind}
use Rattle.luo_model.specs.declared.program.Part.{Part}
use Rattle.luo_model.specs.declared.program.Shape.{Shape}
use Rattle.luo_model.specs.declared.program.Shape.TheVariants as shape
use Rattle.luo_model.specs.declared.body.Bind.{Bind}
use Rattle.luo_model.specs.declared.body.Bind.TheVariants.{Nothing, Whole, Parts}
use Rattle.luo_model.specs.Program.{Program, Procedure, Body, Does, Items, no_items, item, Item, Call, Case, Forall, Arms, no_arms, arm, shape_of}
use Rattle.luo_model.specs.Member.{IsWithin}
use Rattle.luo_finite.proofs.Membership.{In-map_back}
use Rattle.luo_model.specs.Scopes.Stands.{Stand, inside, itself, stand_part, stands, factors, component, IsCollection, MayBind, bound_parts, part_at, no_part}
use Rattle.luo_model.specs.Scopes.Fits.{FitsBody, FitsItems, FitsItem, FitsArms}
use Rattle.luo_model.specs.Invariant.{IsProgram, IsPart, inner_parts}
use Rattle.luo_finite.specs.Walk.{Walk}
use Rattle.luo_model.specs.Founded.{HasZero, KeepsSize, SameSize, IsFounded}
use Rattle.luo_finite.proofs.Places.{In_get, some_same, none_some}
use Rattle.luo_equation.specs.Series.{times, point}
use Rattle.luo_equation.specs.Expr.{Expr, Exprs, Number, expr, Table, coef, sum_of_coefs, product_of_coefs}
use Rattle.luo_equation.proofs.Local.{times-same, point-same}
use Rattle.luo_system.specs.Plain.{product_of}
use Rattle.luo_system.specs.System.{exprs_of, part_expr, whole_parts, others, item_var, walk_expr, body_expr, items_exprs, item_expr, arms_exprs}
use Rattle.luo_system.proofs.PlainLaws.{coef-sum, coef-product, coef-walk}
use Rattle.luo_system.proofs.Values.{products_in, products-exprs, products-all, products-low}
use Rattle.luo_system.proofs.Counts.{count_of, zero_or_none, solid_part, CZ}
use Rattle.luo_system.proofs.Definitions.{part_there}

abbrev pub node_of : Part → ℕ
node_of part = part.node

pub at_get : (vars : List Part) (var : ℕ) (part : Part) → slice_get vars var ≡ Some part → part_at vars var ≡ part
at_get vars var part e = get_or_from_slice_get vars var part no_part e

pub others_in : (parts : List Part) (j k : ℕ) (other : Part) → slice_get parts k ≡ Some other → (k ≡ j → ⊥) → In other (others j parts)
others_in [] j k other e o = absurd (none_some other e)
others_in (part ∷ parts) zero zero other e o = absurd (o refl)
others_in (part ∷ parts) zero (suc k) other e o = In_get parts k other e
others_in (part ∷ parts) (suc j) zero other e o = inl (sym (some_same part other e))
others_in (part ∷ parts) (suc j) (suc k) other e o = inr (others_in parts j k other e (λ q. o (ap suc q)))

in_others : (parts : List Part) (j : ℕ) (other : Part) → In other (others j parts) → In other parts
in_others [] j other i = i
in_others (part ∷ parts) zero other i = inr i
in_others (part ∷ parts) (suc j) other i = ⊎_elim (λ e. inl e) (λ k. inr (in_others parts j other k)) i

abbrev pub AreThere : Program → List Part → Type 0
AreThere p parts = (part : Part) → In part parts → IsPart p part

pub factors_there : (s : Shape) (part : Part) → In part (factors s) → In part (inner_parts s)
factors_there (shape.Atom weight) part i = i
factors_there (shape.Union parts) part i = absurd i
factors_there (shape.Product parts) part i = i
factors_there (shape.Coll kind q low high) part i = absurd i

module _ (p : Program) (q : IsProgram p) (f : IsFounded p) where
  abbrev RestZero : List Part → ℕ → Type 0
  RestZero vars j = products_in p.universe (CZ p q f) (others j vars) 0 ≡ pos 0

  all_or_none : (parts : List Part) → ((part : Part) → In part parts → HasZero p part.node) ⊎ ((part : Part) × In part parts × (count_of p q f part.node 0 ≡ 0))
  all_or_none [] = inl (λ part i. absurd i)
  all_or_none (part ∷ parts) = ⊎_elim
      (λ z. ⊎_elim (λ a. inl (λ v i. ⊎_elim (λ e. subst (λ (w : Part). HasZero p w.node) (sym e) z) (λ j. a v j) i)) (λ s. inr (s.0, inr s.1, s.2)) (all_or_none parts))
      (λ n. inr (part, inl refl, n.1)) (zero_or_none p q f part.node)

  -- a factor has the size of the whole only where each other may be of size 0
  factor_or : (x : ℕ) (parts : List Part) → shape_of p x ≡ shape.Product parts → (j : ℕ) (part : Part) → slice_get parts j ≡ Some part → SameSize p x part.node ⊎ RestZero parts j
  factor_or x parts is j part e = ⊎_elim
      (λ a. inl (subst (λ s. KeepsSize (HasZero p) s part.node) (sym is) (j, part, e, refl, λ k other g o. a other (others_in parts j k other g o))))
      (λ s. let z : pos (count_of p q f s.0.node 0) ≡ pos 0 = ap pos s.2 in inr (products-low p.universe (λ y. Unit {0}) (CZ p q f) (CZ p q f) (others j parts) (s.0, s.1, (z, z))).0)
      (all_or_none (others j parts))

  module _ (t v : Table) (tx : (part : Part) → IsPart p part → (m : ℕ) → coef p.universe t (part_expr p part) m ≡ CZ p q f part m)
      (vx : (part : Part) → IsPart p part → (m : ℕ) → coef p.universe v (part_expr p part) m ≡ CZ p q f part m) where
    -- the procedures on node z have equal numbers at m
    abbrev pub Agree : ℕ → ℕ → Type 0
    Agree m z = (g : ℕ) (P : Procedure) → slice_get p.procs g ≡ Some P → P.on.node ≡ z → t.y g m ≡ v.y g m

    -- and those on nodes that are reached from z by same-size steps
    abbrev pub AgreeBehind : ℕ → ℕ → Type 0
    AgreeBehind m z = (k w : ℕ) → Walk (SameSize p) (suc k) z w → Agree m w

    abbrev pub AgreeFrom : ℕ → ℕ → Type 0
    AgreeFrom m z = Agree m z × AgreeBehind m z

    step_on : (m x y : ℕ) → AgreeBehind m x → SameSize p x y → AgreeFrom m y
    step_on m x y a s = (a 0 y (y, s, refl), λ k w r. a (suc k) w (y, s, r))

    abbrev pub ItemNear : ℕ → List Part → Item → Type 0
    ItemNear m vars (Call var callee site) = t.y callee m ≡ v.y callee m
    ItemNear m vars (Case var arms site) = AgreeBehind m (part_at vars var).node
    ItemNear m vars (Forall var body body_site site) = AgreeBehind m (part_at vars var).node

    abbrev pub ItemsNear : ℕ → List Part → Items → Type 0
    ItemsNear m vars no_items = Unit {0}
    ItemsNear m vars (item i is) = (ItemNear m vars i ⊎ RestZero vars (item_var i)) × ItemsNear m vars is

    abbrev ScopeNear : ℕ → List Part → Type 0
    ScopeNear m vars = (j : ℕ) (part : Part) → slice_get vars j ≡ Some part → AgreeFrom m part.node ⊎ RestZero vars j

    item_near : (m : ℕ) (vars : List Part) (i : Item) → FitsItem p vars i → ScopeNear m vars → ItemNear m vars i ⊎ RestZero vars (item_var i)
    item_near m vars (Call var callee site) w s =
        ⊎_elim (λ a. inl (a.0 callee w.0 w.2 (sym w.4))) (λ z. inr z) (s var w.1 w.3)
    item_near m vars (Case var arms site) w s =
        ⊎_elim (λ a. inl (subst (λ (y : Part). AgreeBehind m y.node) (sym (at_get vars var w.0 w.1)) a.1)) (λ z. inr z) (s var w.0 w.1)
    item_near m vars (Forall var body body_site site) w s =
        ⊎_elim (λ a. inl (subst (λ (y : Part). AgreeBehind m y.node) (sym (at_get vars var w.0 w.1)) a.1)) (λ z. inr z) (s var w.0 w.1)

    items_near : (m : ℕ) (vars : List Part) (is : Items) → FitsItems p vars is → ScopeNear m vars → ItemsNear m vars is
    items_near m vars no_items w s = tt
    items_near m vars (item i is) w s = (item_near m vars i w.0 s, items_near m vars is w.1 s)

    -- all numbers at m are equal
    abbrev pub AllAgree : ℕ → Type 0
    AllAgree m = (g : ℕ) (P : Procedure) → slice_get p.procs g ≡ Some P → t.y g m ≡ v.y g m

    near_below : (i : Item) (vars : List Part) → FitsItem p vars i → (k : ℕ) → AllAgree k → ItemNear k vars i
    near_below (Call var callee site) vars w k a = a callee w.0 w.2
    near_below (Case var arms site) vars w k a = λ j z r g P h o. a g P h
    near_below (Forall var body body_site site) vars w k a = λ j z r g P h o. a g P h

    all_near : (m : ℕ) (vars : List Part) → AllAgree m → ScopeNear m vars
    all_near m vars a j part e = inl ((λ g P k o. a g P k), λ k w r g P h o. a g P h)

    rest-value : (w : Table) → ((part : Part) → IsPart p part → (m : ℕ) → coef p.universe w (part_expr p part) m ≡ CZ p q f part m) → (parts : List Part) → AreThere p parts → (m : ℕ)
        → product_of_coefs p.universe w (exprs_of (part_expr p) parts) m ≡ products_in p.universe (CZ p q f) parts m
    rest-value w h parts a m =
        products-exprs p.universe w (part_expr p) parts m
        ∙ products-all p.universe (λ y. Unit {0}) (λ part k. coef p.universe w (part_expr p part) k) (CZ p q f) parts m (λ part i k l. h part (a part i) k)

    term_near : (m : ℕ) (vars : List Part) → AreThere p vars → (j : ℕ) (E : Expr) → ((k : ℕ) → k < m → coef p.universe t E k ≡ coef p.universe v E k) →
        (coef p.universe t E m ≡ coef p.universe v E m) ⊎ RestZero vars j
        → coef p.universe t (product_of (expr E (exprs_of (part_expr p) (others j vars)))) m ≡ coef p.universe v (product_of (expr E (exprs_of (part_expr p) (others j vars)))) m
    term_near m vars a j E below here =
        let u = p.universe in
        let es : Exprs = exprs_of (part_expr p) (others j vars) in
        let b : AreThere p (others j vars) = λ part i. a part (in_others vars j part i) in
        let rt = rest-value t tx (others j vars) b in
        let rv = rest-value v vx (others j vars) b in
        coef-product u t (expr E es) m
        ∙ times-same u (coef u t E) (coef u v E) (product_of_coefs u t es) (product_of_coefs u v es) m below (λ k l. rt k ∙ sym (rv k))
        (⊎_elim (λ e. inl e) (λ z. inr (rt 0 ∙ z, rv 0 ∙ z)) here) (inl (rt m ∙ sym (rv m)))
        ∙ sym (coef-product u v (expr E es) m)

    own-same : (m own : ℕ) (whole : List Part) → AreThere p whole → coef p.universe t (product_of (expr (Number own) (exprs_of (part_expr p) whole))) m ≡ coef p.universe v
        (product_of (expr (Number own) (exprs_of (part_expr p) whole))) m
    own-same m own whole a =
        let u = p.universe in
        let es : Exprs = exprs_of (part_expr p) whole in
        coef-product u t (expr (Number own) es) m
        ∙ ap (λ (g : ℕ → ℤ). times u (coef u t (Number own)) g m) (λ i k. (rest-value t tx whole a k ∙ sym (rest-value v vx whole a k)) i)
        ∙ sym (coef-product u v (expr (Number own) es) m)

    -- ---- the scope of an arm
    arm_scope : (m : ℕ) (S : Stand) (bind : Bind) → AgreeBehind m (stand_part S).node → (bind ≡ Whole → Agree m (stand_part S).node)
        → ScopeNear m (bound_parts p S bind)
    arm_scope m S Nothing a g j part h = absurd (none_some part h)
    arm_scope m S Whole a g zero part h = inl (subst (λ (y : Part). AgreeFrom m y.node) (some_same (stand_part S) part h) (g refl, a))
    arm_scope m S Whole a g (suc j) part h = absurd (none_some part h)
    arm_scope m S (Parts k) a g j part h = by_shape (shape_of p (stand_part S).node) refl h
      where
        by_shape : (s : Shape) → shape_of p (stand_part S).node ≡ s → slice_get (factors s) j ≡ Some part → AgreeFrom m part.node ⊎ RestZero (factors s) j
        by_shape (shape.Atom weight) is h = absurd (none_some part h)
        by_shape (shape.Union parts) is h = absurd (none_some part h)
        by_shape (shape.Product parts) is h = ⊎_elim (λ s. inl (step_on m (stand_part S).node part.node a s)) (λ z. inr z) (factor_or (stand_part S).node parts is j part h)
        by_shape (shape.Coll kind c low high) is h = absurd (none_some part h)

    bound_there : (stand : Stand) (bind : Bind) → IsPart p (stand_part stand) → AreThere p (bound_parts p stand bind)
    bound_there stand Nothing h part i = absurd i
    bound_there stand Whole h part i = ⊎_elim (λ e. subst (IsPart p) (sym e) h) (λ k. absurd k) i
    bound_there stand (Parts k) h part i = (part_there p q (stand_part stand).node (shape_of p (stand_part stand).node) refl part (factors_there (shape_of p (stand_part stand).node) part i)).0

    whole_there : (stand : Stand) (bind : Bind) → IsPart p (stand_part stand) → AreThere p (whole_parts p stand bind)
    whole_there stand Nothing h part i = ⊎_elim (λ e. subst (IsPart p) (sym e) h) (λ k. absurd k) i
    whole_there stand Whole h part i = ⊎_elim (λ e. subst (IsPart p) (sym e) h) (λ k. absurd k) i
    whole_there stand (Parts k) h part i = (part_there p q (stand_part stand).node (shape_of p (stand_part stand).node) refl part (factors_there (shape_of p (stand_part stand).node) part i)).0

    component_step : (x : ℕ) (kind : Kind) (part : Part) (low : ℕ) (high : Option ℕ) → shape_of p x ≡ shape.Coll kind part low high → IsWithin low high 1 → SameSize p x part.node
    component_step x kind part low high is w = subst (λ s. KeepsSize (HasZero p) s part.node) (sym is) (refl, w)

    abbrev pub BodyNear : ℕ → List Part → Body → Type 0
    BodyNear m vars (Does own is) = ItemsNear m vars is

    body_near : (m : ℕ) (vars : List Part) (body : Body) → FitsBody p vars body → ScopeNear m vars → BodyNear m vars body
    body_near m vars (Does own is) w s = items_near m vars is w.1 s

    abbrev Below : ℕ → Type 0
    Below m = (k : ℕ) → k < m → AllAgree k

    abbrev AreStands : List Stand → Type 0
    AreStands all = (stand : Stand) → In stand all → IsPart p (stand_part stand)

    stands_there : (X : Part) → IsPart p X → (s : Shape) → shape_of p X.node ≡ s → AreStands (stands X s)
    stands_there X h (shape.Atom weight) is part i = absurd i
    stands_there X h (shape.Union parts) is stand i =
        let r = In-map_back inside stand parts i in
        subst (λ (z : Stand). IsPart p (stand_part z)) (sym r.2) (part_there p q X.node (shape.Union parts) is r.0 r.1).0
    stands_there X h (shape.Product parts) is stand i = ⊎_elim (λ e. subst (λ (z : Stand). IsPart p (stand_part z)) (sym e) h) (λ k. absurd k) i
    stands_there X h (shape.Coll kind c low high) is part i = absurd i

    stands_behind : (m : ℕ) (X : Part) → AgreeBehind m X.node → (s : Shape) → shape_of p X.node ≡ s → (stand : Stand) → In stand (stands X s) → AgreeBehind m (stand_part stand).node
    stands_behind m X a (shape.Atom weight) is stand i = absurd i
    stands_behind m X a (shape.Union parts) is stand i =
        let r = In-map_back inside stand parts i in
        subst (λ (z : Stand). AgreeBehind m (stand_part z).node) (sym r.2) (step_on m X.node r.0.node a (subst (λ s. KeepsSize (HasZero p) s r.0.node) (sym is) (r.0, r.1, refl))).1
    stands_behind m X a (shape.Product parts) is stand i = ⊎_elim (λ e. subst (λ (y : Stand). AgreeBehind m (stand_part y).node) (sym e) a) (λ k. absurd k) i
    stands_behind m X a (shape.Coll kind c low high) is stand i = absurd i

    stands_agree : (m : ℕ) (X : Part) → AgreeBehind m X.node → (s : Shape) → shape_of p X.node ≡ s → (stand : Stand) → In stand (stands X s) → MayBind p stand Whole → Agree m (stand_part stand).node
    stands_agree m X a (shape.Atom weight) is stand i w = absurd i
    stands_agree m X a (shape.Union parts) is stand i w =
        let r = In-map_back inside stand parts i in
        subst (λ (z : Stand). Agree m (stand_part z).node) (sym r.2) (step_on m X.node r.0.node a (subst (λ s. KeepsSize (HasZero p) s r.0.node) (sym is) (r.0, r.1, refl))).0
    stands_agree m X a (shape.Product parts) is stand i w =
        ⊎_elim (λ e. absurd (subst (λ (z : Stand). MayBind p z Whole) e w)) (λ k. absurd k) i
    stands_agree m X a (shape.Coll kind c low high) is stand i w = absurd i

    -- ---- walks
    component_there : (x : ℕ) (s : Shape) → shape_of p x ≡ s → IsCollection s → AreThere p (component s ∷ [])
    component_there x (shape.Atom weight) is w part i = absurd w
    component_there x (shape.Union parts) is w part i = absurd w
    component_there x (shape.Product parts) is w part i = absurd w
    component_there x (shape.Coll kind c low high) is w part i = (part_there p q x (shape.Coll kind c low high) is part i).0

    walk_near : (x : ℕ) (s : Shape) → shape_of p x ≡ s → IsCollection s → (B : Part → Expr) (m : ℕ)
        → ((k : ℕ) → k < m → coef p.universe t (B (component s)) k ≡ coef p.universe v (B (component s)) k)
        → (SameSize p x (component s).node → coef p.universe t (B (component s)) m ≡ coef p.universe v (B (component s)) m)
        → coef p.universe t (walk_expr (part_expr p) s B) m ≡ coef p.universe v (walk_expr (part_expr p) s B) m
    walk_near x (shape.Atom weight) is w B m below here = absurd w
    walk_near x (shape.Union parts) is w B m below here = absurd w
    walk_near x (shape.Product parts) is w B m below here = absurd w
    walk_near x (shape.Coll kind c low high) is w B m below here =
        let u = p.universe in
        let h : IsPart p c = (part_there p q x (shape.Coll kind c low high) is c (inl refl)).0 in
        let z : CZ p q f c 0 ≡ pos 0 = ap pos (solid_part p q f x kind c low high is).1 in
        coef-walk u t kind (part_expr p c) low high (B c) m
        ∙ ap (λ (g : ℕ → ℤ). point u kind g (coef u t (B c)) low high m) (λ i k. tx c h k i)
        ∙ point-same u kind (CZ p q f c) (coef u t (B c)) (coef u v (B c)) low high m z below (λ o. here (component_step x kind c low high is o))
        ∙ ap (λ (g : ℕ → ℤ). point u kind g (coef u v (B c)) low high m) (λ i k. sym (vx c h k) i)
        ∙ sym (coef-walk u v kind (part_expr p c) low high (B c) m)

    alone_scope : (m : ℕ) (c : Part) → AgreeFrom m c.node → ScopeNear m (c ∷ [])
    alone_scope m c a zero part e = inl (subst (λ (y : Part). AgreeFrom m y.node) (some_same c part e) a)
    alone_scope m c a (suc j) part e = absurd (none_some part e)

    -- THE LAW of locality of descriptors
    mutual
      pub body_same : (body : Body) (whole vars : List Part) → AreThere p whole → AreThere p vars → FitsBody p vars body → (m : ℕ) → Below m → BodyNear m vars body
          → coef p.universe t (body_expr p whole vars body) m ≡ coef p.universe v (body_expr p whole vars body) m
      body_same (Does own is) whole vars a b w m below near =
          let u = p.universe in
          let O : Expr = product_of (expr (Number own) (exprs_of (part_expr p) whole)) in
          coef-sum u t (expr O (items_exprs p vars is)) m
          ∙ (let e : coef u t O m +ℤ sum_of_coefs u t (items_exprs p vars is) m ≡ coef u v O m +ℤ sum_of_coefs u v (items_exprs p vars is) m =
          omega (arith, ints, own-same m own whole a, items_same is vars b w.1 m below near) in e)
          ∙ sym (coef-sum u v (expr O (items_exprs p vars is)) m)

      items_same : (is : Items) (vars : List Part) → AreThere p vars → FitsItems p vars is → (m : ℕ) → Below m → ItemsNear m vars is
          → sum_of_coefs p.universe t (items_exprs p vars is) m ≡ sum_of_coefs p.universe v (items_exprs p vars is) m
      items_same no_items vars b w m below near = refl
      items_same (item i is) vars b w m below near =
          let e = term_near m vars b (item_var i) (item_expr p vars i)
          (λ k l. item_same i vars b w.0 k (λ j h. below j (omega arith)) (near_below i vars w.0 k (below k l)))
          (⊎_elim (λ n. inl (item_same i vars b w.0 m below n)) (λ z. inr z) near.0) in
          omega (arith, ints, e, items_same is vars b w.1 m below near.1)

      item_same : (i : Item) (vars : List Part) → AreThere p vars → FitsItem p vars i → (m : ℕ) → Below m → ItemNear m vars i → coef p.universe t
          (item_expr p vars i) m ≡ coef p.universe v (item_expr p vars i) m
      item_same (Call var callee site) vars b w m below near = near
      item_same (Case var arms site) vars b w m below near =
          let u = p.universe in
          let X : Part = part_at vars var in
          let same : X ≡ w.0 = at_get vars var w.0 w.1 in
          let h : IsPart p X = subst (IsPart p) (sym same) (b w.0 (In_get vars var w.0 w.1)) in
          let s : Shape = shape_of p X.node in
          let fit : FitsArms p (stands X s) arms = subst (λ (y : Part). FitsArms p (stands y (shape_of p y.node)) arms) (sym same) w.3 in
          coef-sum u t (arms_exprs p (stands X s) arms) m
          ∙ arms_same arms (stands X s) (stands_there X h s refl) fit m below (stands_behind m X near s refl) (stands_agree m X near s refl)
          ∙ sym (coef-sum u v (arms_exprs p (stands X s) arms) m)
      item_same (Forall var body body_site site) vars b w m below near =
          let X : Part = part_at vars var in
          let same : X ≡ w.0 = at_get vars var w.0 w.1 in
          let s : Shape = shape_of p X.node in
          let c : Part = component s in
          let coll : IsCollection s = subst (λ (y : Part). IsCollection (shape_of p y.node)) (sym same) w.2 in
          let fit : FitsBody p (c ∷ []) body = subst (λ (y : Part). FitsBody p (component (shape_of p y.node) ∷ []) body) (sym same) w.3 in
          let there : AreThere p (c ∷ []) = component_there X.node s refl coll in
          walk_near X.node s refl coll (λ part. body_expr p (part ∷ []) (part ∷ []) body) m
          (λ k l. body_same body (c ∷ []) (c ∷ []) there there fit k (λ j h. below j (omega arith)) (body_near k (c ∷ []) body fit (all_near k (c ∷ []) (below k l))))
          (λ o. body_same body (c ∷ []) (c ∷ []) there there fit m below (body_near m (c ∷ []) body fit (alone_scope m c (step_on m X.node c.node near o))))

      arms_same : (arms : Arms) (stands : List Stand) → AreStands stands → FitsArms p stands arms → (m : ℕ) → Below m
          → ((stand : Stand) → In stand stands → AgreeBehind m (stand_part stand).node) → ((stand : Stand) → In stand stands → MayBind p stand Whole → Agree m (stand_part stand).node)
          → sum_of_coefs p.universe t (arms_exprs p stands arms) m ≡ sum_of_coefs p.universe v (arms_exprs p stands arms) m
      arms_same no_arms [] b w m below near all = refl
      arms_same no_arms (stand ∷ rest) b w m below near all = refl
      arms_same (arm bind body arms) [] b w m below near all = refl
      arms_same (arm bind body arms) (stand ∷ rest) b w m below near all =
          let h : IsPart p (stand_part stand) = b stand (inl refl) in
          let e = body_same body (whole_parts p stand bind) (bound_parts p stand bind) (whole_there stand bind h) (bound_there stand bind h) w.1 m below
          (body_near m (bound_parts p stand bind) body w.1
          (arm_scope m stand bind (near stand (inl refl)) (λ g. all stand (inl refl) (subst (MayBind p stand) g w.0)))) in
          omega (arith, ints, e, arms_same arms rest (λ part i. b part (inr i)) w.2 m below (λ part i. near part (inr i)) (λ part i. all part (inr i)))
