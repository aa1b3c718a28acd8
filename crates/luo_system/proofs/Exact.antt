-- No quotient of the system leaves a remainder in the right table.
use Rattle.std.proofs.Common.{◌≡◌, ℕ, zero, suc, ◌+◌, ◌<◌, ◌≤◌, refl, sym, ◌∙◌, arith, subst, ℤ, pos, Bool}
use Rattle.std.proofs.Common.{true, false, Option, Some, None, IfSome, ◌⊎◌, inl, inr, ⊎_elim, List, [], ◌∷◌, length, slice_get}
use Rattle.luo_finite.specs.Listing.{In}
use Rattle.luo_model.specs.declared.program.Universe.{Universe}
use Rattle.luo_model.specs.declared.program.Universe.TheVariants.{Unlabelled, Labelled}
use Rattle.luo_model.specs.declared.program.Kind.{Kind}
use Rattle.luo_model.specs.declared.program.Kind.TheVariants.{Sequence, Set, Cycle, Multiset, Powerset}
use Rattle.luo_model.specs.declared.program.Part.{Part}
use Rattle.luo_model.specs.declared.program.Def.{Def}
use Rattle.luo_model.specs.declared.program.Shape.{Shape}
use Rattle.luo_model.specs.declared.program.Shape.TheVariants as shape
use Rattle.luo_model.specs.declared.body.Bind.{Bind}
use Rattle.luo_model.specs.declared.body.Bind.TheVariants.{Nothing, Whole, Parts}
use Rattle.luo_model.specs.Program.{Program, Body, Does, Items, no_items, item, Item, Call, Case, Forall, Arms, no_arms, arm, shape_of}
use Rattle.luo_model.specs.Invariant.{IsProgram, IsPart, inner_parts}
use Rattle.luo_model.specs.Founded.{IsFounded}
use Rattle.luo_model.proofs.NodeLemmas.{node_at_place}
use Rattle.luo_counting.specs.Items.{Suits}
use Rattle.luo_equation.specs.Series.{IsExactOf}
use Rattle.luo_equation.specs.Expr.{Expr, Exprs, Number, Power, Series, Tau, Sum, Prod, Coll, Point, no_exprs, expr, Table, coef, IsExact, AreExact}
use Rattle.luo_equation.proofs.CountLaws.{exact_of}
use Rattle.luo_system.specs.Plain.{join_exprs, terms_of, all_terms, as_sum, sum_of, factors_of, all_factors, as_product, is_zero, has_zero, unless_zero, product_of, walk_of}
use Rattle.luo_system.specs.System.{named, exprs_of, shape_expr, node_expr, part_expr}
use Rattle.luo_system.specs.System.{whole_parts, others, item_var, walk_expr, body_expr, items_exprs, item_expr, arms_exprs}
use Rattle.luo_counting.proofs.OfPrograms.{suits_program}
use Rattle.luo_system.proofs.Counts.{count_of, CZ, C, solid_part}
use Rattle.luo_system.proofs.Definitions.{part_there, part_holds, node_holds}
use Rattle.luo_model.specs.Scopes.Stands.{Stand, inside, itself, stand_part, stands, factors, component, bound_parts, part_at}
use Rattle.luo_finite.proofs.Membership.{In-map_back}

-- ---- plain form
module _ (u : Universe) (t : Table) (n : ℕ) where
  exact-join : (es fs : Exprs) → AreExact u t es n → AreExact u t fs n → AreExact u t (join_exprs es fs) n
  exact-join no_exprs fs x y = y
  exact-join (expr e es) fs x y = (x.0, exact-join es fs x.1 y)

  exact-terms : (e : Expr) → IsExact u t e n → AreExact u t (terms_of e) n
  exact-terms (Number zero) x = tt
  exact-terms (Number (suc c)) x = (x, tt)
  exact-terms (Power w) x = (x, tt)
  exact-terms (Series i) x = (x, tt)
  exact-terms (Tau i) x = (x, tt)
  exact-terms (Sum es) x = x
  exact-terms (Prod es) x = (x, tt)
  exact-terms (Coll kind e low high) x = (x, tt)
  exact-terms (Point kind e low high b) x = (x, tt)

  exact-all_terms : (es : Exprs) → AreExact u t es n → AreExact u t (all_terms es) n
  exact-all_terms no_exprs x = tt
  exact-all_terms (expr e es) x = exact-join (terms_of e) (all_terms es) (exact-terms e x.0) (exact-all_terms es x.1)

  exact-as_sum : (es : Exprs) → AreExact u t es n → IsExact u t (as_sum es) n
  exact-as_sum no_exprs x = tt
  exact-as_sum (expr e no_exprs) x = x.0
  exact-as_sum (expr e (expr g es)) x = x

  pub exact-sum : (es : Exprs) → AreExact u t es n → IsExact u t (sum_of es) n
  unfolding sum_of
  exact-sum es x = exact-as_sum (all_terms es) (exact-all_terms es x)

  exact-factors : (e : Expr) → IsExact u t e n → AreExact u t (factors_of e) n
  exact-factors (Number zero) x = (x, tt)
  exact-factors (Number (suc zero)) x = tt
  exact-factors (Number (suc (suc c))) x = (x, tt)
  exact-factors (Power w) x = (x, tt)
  exact-factors (Series i) x = (x, tt)
  exact-factors (Tau i) x = (x, tt)
  exact-factors (Sum es) x = (x, tt)
  exact-factors (Prod es) x = x
  exact-factors (Coll kind e low high) x = (x, tt)
  exact-factors (Point kind e low high b) x = (x, tt)

  exact-all_factors : (es : Exprs) → AreExact u t es n → AreExact u t (all_factors es) n
  exact-all_factors no_exprs x = tt
  exact-all_factors (expr e es) x = exact-join (factors_of e) (all_factors es) (exact-factors e x.0) (exact-all_factors es x.1)

  exact-as_product : (es : Exprs) → AreExact u t es n → IsExact u t (as_product es) n
  exact-as_product no_exprs x = tt
  exact-as_product (expr e no_exprs) x = x.0
  exact-as_product (expr e (expr g es)) x = x

  exact-unless : (b : Bool) (e : Expr) → IsExact u t e n → IsExact u t (unless_zero b e) n
  exact-unless true e x = tt
  exact-unless false e x = x

  pub exact-product : (es : Exprs) → AreExact u t es n → IsExact u t (product_of es) n
  unfolding product_of
  exact-product es x = exact-unless (has_zero (all_factors es)) (as_product (all_factors es)) (exact-as_product (all_factors es) (exact-all_factors es x))

  pub exact-walk : (kind : Kind) (e : Expr) (low : ℕ) (high : Option ℕ) (b : Expr) → IsExact u t (Point kind e low high b) n → IsExact u t (walk_of kind e low high b) n
  unfolding walk_of
  exact-walk kind e low high b x = exact-unless (is_zero b) (Point kind e low high b) x

  pub exact-exprs : (e : Part → Expr) (parts : List Part) → ((part : Part) → In part parts → IsExact u t (e part) n) → AreExact u t (exprs_of e parts) n
  exact-exprs e [] h = tt
  exact-exprs e (part ∷ parts) h = (h part (inl refl), exact-exprs e parts (λ v i. h v (inr i)))

suits_any : (u : Universe) (kind : Kind) (low k : ℕ) → Suits u kind low → Suits u kind (suc k)
suits_any u Sequence low k s = tt
suits_any Labelled Set low k s = tt
suits_any Labelled Cycle low k s = omega arith
suits_any Unlabelled Multiset low k s = tt
suits_any Unlabelled Powerset low k s = tt
suits_any Unlabelled Set low k s = s
suits_any Unlabelled Cycle low k s = s
suits_any Labelled Multiset low k s = s
suits_any Labelled Powerset low k s = s

module _ (p : Program) (q : IsProgram p) (f : IsFounded p) (v : Table) (right : (i : ℕ) (d : Def) → slice_get p.defs i ≡ Some d → (n : ℕ) → v.x i n ≡ pos (count_of p q f d.whole.node n)) where
  inner_exact : (x : ℕ) (kind : Kind) (part : Part) (low : ℕ) (high : Option ℕ) → shape_of p x ≡ shape.Coll kind part low high → (E : Expr) →
      ((m : ℕ) → coef p.universe v E m ≡ CZ p q f part m) → (k m : ℕ) → IsExactOf p.universe kind (coef p.universe v E) k m
  inner_exact x kind part low high is E h zero m = tt
  inner_exact x kind part low high is E h (suc k) m =
      subst (λ (g : ℕ → ℤ). IsExactOf p.universe kind g (suc k) m) (λ i j. sym (h j) i)
      (exact_of (C p q f part) (solid_part p q f x kind part low high is).1 p.universe kind (suc k) m (suits_any p.universe kind low k (suits_program p q x kind part low high is)))

  named_exact : (o : Option ℕ) (E : Expr) (n : ℕ) → (o ≡ None → IsExact p.universe v E n) → IsExact p.universe v (named o E) n
  named_exact (Some i) E n h = tt
  named_exact None E n h = h refl

  -- THE LAW of definitions
  pub node_exact : (rounds x : ℕ) → x < length p.nodes → length p.nodes ≤ rounds + x → (n : ℕ) → IsExact p.universe v (node_expr p rounds x) n
  node_exact zero x l b n = tt
  node_exact (suc r) x l b n =
      let e : Part → Expr = λ part. named part.name (node_expr p r part.node) in
      let there : (part : Part) → In part (inner_parts (shape_of p x)) → IsPart p part × (part.name ≡ None → x < part.node) = part_there p q x (shape_of p x) refl in
      shape_exact e (shape_of p x) refl n
      (λ part i. named_exact part.name (node_expr p r part.node) n (λ o. let a = (there part i).1 o in let c = ((there part i).0).0 in node_exact r part.node c (omega (arith, b, a)) n))
      (λ part i m. let w = there part i in
      part_holds p q f v m (λ j d g k h. right j d g k) part w.0 m (omega arith) (node_expr p r part.node)
      (λ o. let a = w.1 o in let c = w.0.0 in node_holds p q f v m (λ j d g k h. right j d g k) r part.node c (omega (arith, b, a)) m (omega arith)) part.name refl)
    where
      shape_exact : (e : Part → Expr) (s : Shape) → shape_of p x ≡ s → (n : ℕ) → ((part : Part) → In part (inner_parts s) → IsExact p.universe v (e part) n) →
          ((part : Part) → In part (inner_parts s) → (m : ℕ) → coef p.universe v (e part) m ≡ CZ p q f part m) → IsExact p.universe v (shape_expr e s) n
      shape_exact e (shape.Atom zero) is n h g = tt
      shape_exact e (shape.Atom (suc w)) is n h g = tt
      shape_exact e (shape.Union parts) is n h g = exact-sum p.universe v n (exprs_of e parts) (exact-exprs p.universe v n e parts h)
      shape_exact e (shape.Product parts) is n h g = exact-product p.universe v n (exprs_of e parts) (exact-exprs p.universe v n e parts h)
      shape_exact e (shape.Coll kind part low high) is n h g = (h part (inl refl), λ k m o a. inner_exact x kind part low high is (e part) (g part (inl refl)) k m)

  pub part_exact : (part : Part) → IsPart p part → (n : ℕ) → IsExact p.universe v (part_expr p part) n
  part_exact part h n = named_exact part.name (node_expr p (length p.nodes) part.node) n (λ o. node_exact (length p.nodes) part.node h.0 (omega arith) n)

  -- ---- descriptors
  abbrev AreParts : List Part → Type 0
  AreParts parts = (part : Part) → In part parts → IsPart p part

  lone_part : (X : Part) → IsPart p X → AreParts (X ∷ [])
  lone_part X h part i = ⊎_elim (λ e. subst (IsPart p) (sym e) h) (λ k. absurd k) i

  factor_parts : (x : ℕ) (s : Shape) → shape_of p x ≡ s → AreParts (factors s)
  factor_parts x (shape.Atom weight) is part i = absurd i
  factor_parts x (shape.Union parts) is part i = absurd i
  factor_parts x (shape.Product parts) is part i = (part_there p q x (shape.Product parts) is part i).0
  factor_parts x (shape.Coll kind c low high) is part i = absurd i

  bound_are : (stand : Stand) (bind : Bind) → IsPart p (stand_part stand) → AreParts (bound_parts p stand bind)
  bound_are stand Nothing h part i = absurd i
  bound_are stand Whole h part i = lone_part (stand_part stand) h part i
  bound_are stand (Parts k) h part i = factor_parts (stand_part stand).node (shape_of p (stand_part stand).node) refl part i

  whole_are : (stand : Stand) (bind : Bind) → IsPart p (stand_part stand) → AreParts (whole_parts p stand bind)
  whole_are stand Nothing h = lone_part (stand_part stand) h
  whole_are stand Whole h = lone_part (stand_part stand) h
  whole_are stand (Parts k) h = factor_parts (stand_part stand).node (shape_of p (stand_part stand).node) refl

  lone_stand : (X : Part) → IsPart p X → (stand : Stand) → In stand (itself X ∷ []) → IsPart p (stand_part stand)
  lone_stand X h stand i = ⊎_elim (λ e. subst (λ (z : Stand). IsPart p (stand_part z)) (sym e) h) (λ k. absurd k) i

  -- a variable that isn't there stands for no product
  at_is : (vars : List Part) → AreParts vars → (var : ℕ) → IsPart p (part_at vars var) ⊎ ((part_at vars var).name ≡ None)
  at_is [] a var = inr refl
  at_is (part ∷ vars) a zero = inl (a part (inl refl))
  at_is (part ∷ vars) a (suc var) = at_is vars (λ w i. a w (inr i)) var

  abbrev AreStands : List Stand → Type 0
  AreStands stands = (stand : Stand) → In stand stands → IsPart p (stand_part stand)

  stands_are : (X : Part) → IsPart p X ⊎ (X.name ≡ None) → (s : Shape) → shape_of p X.node ≡ s → AreStands (stands X s)
  stands_are X h (shape.Atom weight) is part i = absurd i
  stands_are X h (shape.Union parts) is stand i =
      let r = In-map_back inside stand parts i in
      subst (λ (z : Stand). IsPart p (stand_part z)) (sym r.2) (part_there p q X.node (shape.Union parts) is r.0 r.1).0
  stands_are X h (shape.Coll kind c low high) is part i = absurd i
  stands_are X (inl h) (shape.Product parts) is stand i = lone_stand X h stand i
  stands_are X (inr e) (shape.Product parts) is part i = lone_stand X (
    ⊎_elim (λ n. n.3) (λ o. absurd (let g : shape.Union [] ≡ shape.Product parts = sym o ∙ is in cc)) (node_at_place p X.node),
    subst (λ o. IfSome o (λ i. (d : Def) × (slice_get p.defs i ≡ Some d) × (X.node ≡ d.whole.node))) (sym e) tt,
  ) part i

  in_others : (parts : List Part) (j : ℕ) (other : Part) → In other (others j parts) → In other parts
  in_others [] j other i = i
  in_others (part ∷ parts) zero other i = inr i
  in_others (part ∷ parts) (suc j) other i = ⊎_elim (λ e. inl e) (λ k. inr (in_others parts j other k)) i

  walk_exact : (x : ℕ) (s : Shape) → shape_of p x ≡ s → (B : Part → Expr) (n : ℕ) → IsExact p.universe v (B (component s)) n →
      ((part : Part) → IsPart p part → (m : ℕ) → coef p.universe v (part_expr p part) m ≡ CZ p q f part m) → IsExact p.universe v (walk_expr (part_expr p) s B) n
  walk_exact x (shape.Atom weight) is B n h g = tt
  walk_exact x (shape.Union parts) is B n h g = tt
  walk_exact x (shape.Product parts) is B n h g = tt
  walk_exact x (shape.Coll kind c low high) is B n h g =
      let w = (part_there p q x (shape.Coll kind c low high) is c (inl refl)).0 in
      exact-walk p.universe v n kind (part_expr p c) low high (B c) (part_exact c w n, h, λ k m o a. inner_exact x kind c low high is (part_expr p c) (g c w) k m)

  component_are : (x : ℕ) (s : Shape) → shape_of p x ≡ s → AreParts (component s ∷ []) ⊎ ((B : Part → Expr) → walk_expr (part_expr p) s B ≡ Number 0)
  component_are x (shape.Atom weight) is = inr (λ B. refl)
  component_are x (shape.Union parts) is = inr (λ B. refl)
  component_are x (shape.Product parts) is = inr (λ B. refl)
  component_are x (shape.Coll kind c low high) is = inl (lone_part c (part_there p q x (shape.Coll kind c low high) is c (inl refl)).0)

  module _ (vx : (part : Part) → IsPart p part → (m : ℕ) → coef p.universe v (part_expr p part) m ≡ CZ p q f part m) (n : ℕ) where
    parts_exact : (parts : List Part) → AreParts parts → AreExact p.universe v (exprs_of (part_expr p) parts) n
    parts_exact parts a = exact-exprs p.universe v n (part_expr p) parts (λ part i. part_exact part (a part i) n)

    -- THE LAW of descriptors
    mutual
      pub body_exact : (body : Body) (whole vars : List Part) → AreParts whole → AreParts vars → IsExact p.universe v (body_expr p whole vars body) n
      body_exact (Does own is) whole vars a b =
          exact-sum p.universe v n (expr (product_of (expr (Number own) (exprs_of (part_expr p) whole))) (items_exprs p vars is))
          (exact-product p.universe v n (expr (Number own) (exprs_of (part_expr p) whole)) (tt, parts_exact whole a), items_exact is vars b)

      items_exact : (is : Items) (vars : List Part) → AreParts vars → AreExact p.universe v (items_exprs p vars is) n
      items_exact no_items vars b = tt
      items_exact (item i is) vars b = (
        exact-product p.universe v n (expr (item_expr p vars i) (exprs_of (part_expr p) (others (item_var i) vars)))
            (item_exact i vars b, parts_exact (others (item_var i) vars) (λ part k. b part (in_others vars (item_var i) part k))),
        items_exact is vars b,
      )

      item_exact : (i : Item) (vars : List Part) → AreParts vars → IsExact p.universe v (item_expr p vars i) n
      item_exact (Call var callee site) vars b = tt
      item_exact (Case var arms site) vars b =
          let X : Part = part_at vars var in
          let s : Shape = shape_of p X.node in
          exact-sum p.universe v n (arms_exprs p (stands X s) arms) (arms_exact arms (stands X s) (stands_are X (at_is vars b var) s refl))
      item_exact (Forall var body body_site site) vars b =
          let X : Part = part_at vars var in
          let s : Shape = shape_of p X.node in
          let c : Part = component s in
          ⊎_elim
          (λ a. walk_exact X.node s refl (λ part. body_expr p (part ∷ []) (part ∷ []) body) n (body_exact body (c ∷ []) (c ∷ []) a a) vx)
          (λ z. subst (λ E. IsExact p.universe v E n) (sym (z (λ part. body_expr p (part ∷ []) (part ∷ []) body))) tt)
          (component_are X.node s refl)

      arms_exact : (arms : Arms) (stands : List Stand) → AreStands stands → AreExact p.universe v (arms_exprs p stands arms) n
      arms_exact no_arms [] b = tt
      arms_exact no_arms (stand ∷ rest) b = tt
      arms_exact (arm bind body arms) [] b = tt
      arms_exact (arm bind body arms) (stand ∷ rest) b = (
        body_exact body (whole_parts p stand bind) (bound_parts p stand bind) (whole_are stand bind (b stand (inl refl))) (bound_are stand bind (b stand (inl refl))),
        arms_exact arms rest (λ part i. b part (inr i)),
      )
