-- In a program that keeps W4 each procedure charges one number on each member of its parameter's node.
use Rattle.std.proofs.Common.{◌≡◌, ℕ, zero, suc, ◌+◌, ◌≤◌, ◌<◌, List, [], ◌∷◌, inl, inr, length, map, refl, sym, ◌∙◌, ap, subst, arith, Some, slice_get}
use Rattle.std.proofs.lemmas.Option.{slice_get_within, get_or_from_slice_get}
use Rattle.luo_model.specs.declared.body.Bind.{Bind}
use Rattle.luo_model.specs.declared.body.Bind.TheVariants.{Nothing, Whole, Parts}
use Rattle.luo_model.specs.declared.program.Part.{Part}
use Rattle.luo_model.specs.declared.program.Shape.{Shape}
use Rattle.luo_model.specs.declared.program.Shape.TheVariants as shape
use Rattle.luo_model.specs.Tree.{Tree, Trees, Atom, Inj, Tup, Coll, none, more, to_list}
use Rattle.luo_model.specs.Program.{Program, Procedure, Body, Does, Items, no_items, item, Call, Case, Forall, Arms, no_arms, arm, shape_of, site_node}
use Rattle.luo_model.specs.Member.{Fits, FitAll, FitEach, Member}
use Rattle.luo_model.specs.Charges.{parts_of, bound, EachCharges, BodyCharges, ItemsCharge, CaseCharges, Charges, Work, of_body, of_call, of_case, of_walk, works_of, WorkCharges, SiteCharges}
use Rattle.luo_model.specs.Scopes.Stands.{inside, itself, stands, factors, component, IsCollection, IsProductOf, MayBind, bound_parts}
use Rattle.luo_model.specs.Scopes.Fits.{FitsBody, FitsItems, FitsArms}
use Rattle.luo_model.specs.Invariant.{IsProgram}
use Rattle.luo_model.proofs.ChargeLemmas.{charges_one}
use Rattle.luo_model.proofs.DepthLemmas.{charges_by_body}
use Rattle.luo_model.proofs.SiteLemmas.{site_charges_are_single}
use Rattle.luo_model.proofs.WorkLemmas.{WorkOn, works_length, work_at, sites_are_apart}
use Rattle.luo_model.specs.declared.program.Site.{Site}
use Rattle.luo_finite.specs.Listing.{In}
use Rattle.luo_finite.specs.Walk.{OnCircle}
use Rattle.luo_model.specs.Founded.{CallsAmong, CallsIn, OwnCall}
use Rattle.luo_finite.proofs.Places.{some_same, none_some, In_get, get_within}
use Rattle.luo_finite.proofs.Walks.{LeadsTo, no_path, longer_path, short_path}

-- how many atoms, branches, tuples and collections a tree has
abbrev mutual
  pub parts_in : Tree → ℕ
  parts_in (Atom w l) = 1
  parts_in (Inj i t) = suc (parts_in t)
  parts_in (Tup ts) = suc (all_parts_in ts)
  parts_in (Coll ts) = suc (all_parts_in ts)

  pub all_parts_in : Trees → ℕ
  all_parts_in none = 0
  all_parts_in (more t ts) = parts_in t + all_parts_in ts

module _ (p : Program) where
  -- the variables of a scope are members of their nodes, and no larger than this
  abbrev pub Bound : ℕ → List Part → List Tree → Type 0
  Bound b [] [] = Unit {0}
  Bound b (x ∷ xs) (t ∷ ts) = Member p x.node t × (parts_in t ≤ b) × Bound b xs ts
  Bound b _ _ = ⊥

  bound_at : (b : ℕ) (xs : List Part) (ts : List Tree) (var : ℕ) (x : Part) → Bound b xs ts → slice_get xs var ≡ Some x → (t : Tree) × (slice_get ts var ≡ Some t) × Member p x.node t × (parts_in t ≤ b)
  bound_at b [] [] var x h e = absurd (none_some x e)
  bound_at b [] (t ∷ ts) var x h e = absurd h
  bound_at b (y ∷ xs) [] var x h e = absurd h
  bound_at b (y ∷ xs) (t ∷ ts) zero x h e = (t, refl, subst (λ (z : Part). Member p z.node t) (some_same y x e) h.0, h.1)
  bound_at b (y ∷ xs) (t ∷ ts) (suc var) x h e = bound_at b xs ts var x h.2 e

  bound_factors : (b : ℕ) (parts : List Part) (ts : Trees) → FitAll p parts ts → all_parts_in ts ≤ b → Bound b parts (to_list ts)
  bound_factors b [] none m h = tt
  bound_factors b [] (more t ts) m h = absurd m
  bound_factors b (part ∷ parts) none m h = absurd m
  bound_factors b (part ∷ parts) (more t ts) m h = (m.0, omega arith, bound_factors b parts ts m.1 (omega arith))

  -- the parts of a member of a product
  product_bound : (b k : ℕ) (s : Shape) (t : Tree) → IsProductOf k s → Fits p s t → parts_in t ≤ suc b → Bound b (factors s) (parts_of t)
  product_bound b k (shape.Atom w) t i m h = absurd i
  product_bound b k (shape.Union parts) t i m h = absurd i
  product_bound b k (shape.Coll kind part low high) t i m h = absurd i
  product_bound b k (shape.Product parts) (Atom w l) i m h = absurd m
  product_bound b k (shape.Product parts) (Inj j t) i m h = absurd m
  product_bound b k (shape.Product parts) (Tup ts) i m h = bound_factors b parts ts m (omega arith)
  product_bound b k (shape.Product parts) (Coll ts) i m h = absurd m

  -- what an arm binds inside a branch, and of a product
  bound_inside : (b : ℕ) (y : Part) (bind : Bind) (t : Tree) → MayBind p (inside y) bind → Member p y.node t → parts_in t ≤ b → Bound b (bound_parts p (inside y) bind) (bound bind t)
  bound_inside b y Nothing t i m h = tt
  bound_inside b y Whole t i m h = (m, h, tt)
  bound_inside b y (Parts k) t i m h = product_bound b k (shape_of p y.node) t i m (omega arith)

  bound_itself : (b : ℕ) (x : Part) (bind : Bind) (t : Tree) → MayBind p (itself x) bind → Member p x.node t → parts_in t ≤ suc b → Bound b (bound_parts p (itself x) bind) (bound bind t)
  bound_itself b x Nothing t i m h = tt
  bound_itself b x Whole t i m h = absurd i
  bound_itself b x (Parts k) t i m h = product_bound b k (shape_of p x.node) t i m h

  -- what is charged on structures that are no larger than this
  abbrev pub Charging : ℕ → Type 0
  Charging b = (f : ℕ) (P : Procedure) → slice_get p.procs f ≡ Some P → (t : Tree) → Member p P.on.node t → parts_in t ≤ b → (q : ℕ) × Charges p f t q

  each_charged : (b : ℕ) (C : Tree → ℕ → Type 0) (part : Part) → ((t : Tree) → Member p part.node t → parts_in t ≤ b → (q : ℕ) × C t q)
      → (ts : Trees) → FitEach p part ts → all_parts_in ts ≤ b → (q : ℕ) × EachCharges C ts q
  each_charged b C part h none m l = (0, refl)
  each_charged b C part h (more t ts) m l =
      let x = h t m.0 (omega arith) in
      let y = each_charged b C part h ts m.1 (omega arith) in
      (x.0 + y.0, (x.0, y.0, x.1, y.1, refl))

  walk_charged : (c : ℕ) (s : Shape) → IsCollection s → (C : List Tree → ℕ → Type 0) → (t : Tree) → Fits p s t → parts_in t ≤ suc c
      → ((u : Tree) → Member p (component s).node u → parts_in u ≤ c → (q : ℕ) × C (u ∷ []) q) → (q : ℕ) × (ts : Trees) × (t ≡ Coll ts) × EachCharges (λ u. C (u ∷ [])) ts q
  walk_charged c (shape.Atom w) i C t m h each = absurd i
  walk_charged c (shape.Union parts) i C t m h each = absurd i
  walk_charged c (shape.Product parts) i C t m h each = absurd i
  walk_charged c (shape.Coll kind part low high) i C (Atom w l) m h each = absurd m
  walk_charged c (shape.Coll kind part low high) i C (Inj j t) m h each = absurd m
  walk_charged c (shape.Coll kind part low high) i C (Tup ts) m h each = absurd m
  walk_charged c (shape.Coll kind part low high) i C (Coll ts) m h each =
      let r = each_charged c (λ u. C (u ∷ [])) part each ts m.1 (omega arith) in
      (r.0, ts, refl, r.1)

  -- a case on a member of a union or a product
  case_charged : (c : ℕ) (arms : Arms) (x : Part) (s : Shape) → shape_of p x.node ≡ s → 1 ≤ length (stands x s) → FitsArms p (stands x s) arms → (t : Tree) → Fits p s t → parts_in t ≤ suc c
      → ((parts : List Part) → FitsArms p (map inside parts) arms → (i : ℕ) (u : Tree) (part : Part) → slice_get parts i ≡ Some part → Member p part.node u → parts_in u ≤ c → (q : ℕ) × CaseCharges (Charges p) arms (Inj (suc i) u) q)
      → (FitsArms p (itself x ∷ []) arms → (ts : Trees) → Member p x.node (Tup ts) → parts_in (Tup ts) ≤ suc c → (q : ℕ) × CaseCharges (Charges p) arms (Tup ts) q)
      → (q : ℕ) × CaseCharges (Charges p) arms t q
  case_charged c arms x (shape.Atom w) e l f t m h union product = absurd (omega arith)
  case_charged c arms x (shape.Coll kind part low high) e l f t m h union product = absurd (omega arith)
  case_charged c arms x (shape.Union parts) e l f (Atom w k) m h union product = absurd m
  case_charged c arms x (shape.Union parts) e l f (Inj zero t) m h union product = absurd m
  case_charged c arms x (shape.Union parts) e l f (Inj (suc i) t) m h union product = union parts f i t m.0 m.1 m.2 (omega arith)
  case_charged c arms x (shape.Union parts) e l f (Tup ts) m h union product = absurd m
  case_charged c arms x (shape.Union parts) e l f (Coll ts) m h union product = absurd m
  case_charged c arms x (shape.Product parts) e l f (Atom w k) m h union product = absurd m
  case_charged c arms x (shape.Product parts) e l f (Inj i t) m h union product = absurd m
  case_charged c arms x (shape.Product parts) e l f (Coll ts) m h union product = absurd m
  case_charged c arms x (shape.Product parts) e l f (Tup ts) m h union product = product f ts (subst (λ z. Fits p z (Tup ts)) (sym e) m) h

  mutual
    -- in a scope with variables up to b calls are charged as is said, and inside it all is up to c
    items_charged : (b c : ℕ) → b ≤ suc c → Charging c → (items : Items) (xs : List Part) (vars : List Tree) → FitsItems p xs items → Bound b xs vars
        → ((g : ℕ) (P : Procedure) → CallsAmong g items → slice_get p.procs g ≡ Some P → (t : Tree) → Member p P.on.node t → parts_in t ≤ b → (q : ℕ) × Charges p g t q)
        → (q : ℕ) × ItemsCharge (Charges p) items vars q
    items_charged b c h inner no_items xs vars f v call = (0, refl)
    items_charged b c h inner (item (Call var callee site) is) xs vars f v call =
        let r = bound_at b xs vars var f.0.1 v f.0.3 in
        let x = call callee f.0.0 (inl refl) f.0.2 r.0 (subst (λ z. Member p z r.0) f.0.4 r.2) r.3 in
        let y = items_charged b c h inner is xs vars f.1 v (λ g P i. call g P (inr i)) in
        (x.0 + y.0, (x.0, y.0, (r.0, r.1, x.1), y.1, refl))
    items_charged b c h inner (item (Case var arms site) is) xs vars f v call =
        let r = bound_at b xs vars var f.0.0 v f.0.1 in
        let x = case_charged c arms f.0.0 (shape_of p f.0.0.node) refl f.0.2 f.0.3 r.0 r.2 (omega (arith, r.3))
        (λ parts g i u part e m l. branch_charged c inner arms parts g i u part e m l) (λ g ts m l. product_charged c inner arms f.0.0 g ts m l) in
        let y = items_charged b c h inner is xs vars f.1 v call in
        (x.0 + y.0, (x.0, y.0, (r.0, r.1, x.1), y.1, refl))
    items_charged b c h inner (item (Forall var body body_site site) is) xs vars f v call =
        let r = bound_at b xs vars var f.0.0 v f.0.1 in
        let x = walk_charged c (shape_of p f.0.0.node) f.0.2 (BodyCharges (Charges p) body) r.0 r.2 (omega (arith, r.3)) (λ t m l. body_charged c inner body (component (shape_of p f.0.0.node) ∷ []) (t ∷ []) f.0.3 (m, l, tt)) in
        let y = items_charged b c h inner is xs vars f.1 v call in
        (x.0 + y.0, (x.0, y.0, (x.1, r.1 ∙ ap Some x.2, x.3), y.1, refl))

    body_charged : (c : ℕ) → Charging c → (body : Body) (xs : List Part) (vars : List Tree) → FitsBody p xs body → Bound c xs vars → (q : ℕ) × BodyCharges (Charges p) body vars q
    body_charged c inner (Does own items) xs vars f v =
        let r = items_charged c c (omega arith) inner items xs vars f.1 v (λ g P i e t m l. inner g P e t m l) in
        (own + r.0, (r.0, r.1, refl))

    product_charged : (c : ℕ) → Charging c → (arms : Arms) (x : Part) → FitsArms p (itself x ∷ []) arms → (ts : Trees) → Member p x.node (Tup ts) → parts_in (Tup ts) ≤ suc c → (q : ℕ) × CaseCharges (Charges p) arms (Tup ts) q
    product_charged c inner no_arms x f ts m h = absurd f
    product_charged c inner (arm bind body (arm other more_body arms)) x f ts m h = absurd f.2
    product_charged c inner (arm bind body no_arms) x f ts m h =
        body_charged c inner body (bound_parts p (itself x) bind) (bound bind (Tup ts)) f.1 (bound_itself c x bind (Tup ts) f.0 m h)

    branch_charged : (c : ℕ) → Charging c → (arms : Arms) (parts : List Part) → FitsArms p (map inside parts) arms → (i : ℕ) (t : Tree) (part : Part) → slice_get parts i ≡ Some part
        → Member p part.node t → parts_in t ≤ c → (q : ℕ) × CaseCharges (Charges p) arms (Inj (suc i) t) q
    branch_charged c inner arms [] f i t part e m h = absurd (none_some part e)
    branch_charged c inner no_arms (first ∷ parts) f i t part e m h = absurd f
    branch_charged c inner (arm bind body no_arms) (first ∷ parts) f zero t part e m h =
        body_charged c inner body (bound_parts p (inside first) bind) (bound bind t) f.1 (bound_inside c first bind t f.0 (subst (λ (z : Part). Member p z.node t) (sym (some_same first part e)) m) h)
    branch_charged c inner (arm bind body (arm other more_body arms)) (first ∷ parts) f zero t part e m h =
        body_charged c inner body (bound_parts p (inside first) bind) (bound bind t) f.1 (bound_inside c first bind t f.0 (subst (λ (z : Part). Member p z.node t) (sym (some_same first part e)) m) h)
    branch_charged c inner (arm bind body no_arms) (first ∷ parts) f (suc i) t part e m h = branch_charged c inner no_arms parts f.2 i t part e m h
    branch_charged c inner (arm bind body (arm other more_body arms)) (first ∷ parts) f (suc i) t part e m h = branch_charged c inner (arm other more_body arms) parts f.2 i t part e m h

  module _ (q : IsProgram p) (none : (f : ℕ) → OnCircle (OwnCall p) f → ⊥) where
    some_parts : (t : Tree) → 1 ≤ parts_in t
    some_parts (Atom w l) = omega arith
    some_parts (Inj i t) = omega arith
    some_parts (Tup ts) = omega arith
    some_parts (Coll ts) = omega arith

    whole_charged : (b c : ℕ) → b ≤ suc c → Charging c → (body : Body) (x : Part) (t : Tree) → FitsBody p (x ∷ []) body → Member p x.node t → parts_in t ≤ b
        → ((g : ℕ) (P : Procedure) → CallsIn g body → slice_get p.procs g ≡ Some P → (u : Tree) → Member p P.on.node u → parts_in u ≤ b → (q : ℕ) × Charges p g u q)
        → (q : ℕ) × BodyCharges (Charges p) body (t ∷ []) q
    whole_charged b c h inner (Does own items) x t f m l call =
        let r = items_charged b c h inner items (x ∷ []) (t ∷ []) f.1 (m, l, tt) call in
        (own + r.0, (r.0, r.1, refl))

    -- by the size of the structure, and at one size along the calls on the parameter
    charging : (b left f : ℕ) (P : Procedure) → slice_get p.procs f ≡ Some P → (path : List ℕ) → LeadsTo (OwnCall p) (length p.procs) path f → length p.procs ≤ left + length path
        → (t : Tree) → Member p P.on.node t → parts_in t ≤ b → (q : ℕ) × Charges p f t q
    charging zero left f P e path l h t m s = absurd (omega (arith, some_parts t))
    charging (suc c) zero f P e path l h t m s = absurd (omega (arith, short_path (OwnCall p) none (length p.procs) path f l (slice_get_within p.procs f P e)))
    charging (suc c) (suc left) f P e path l h t m s =
        let r = whole_charged (suc c) c (omega arith)
        (λ g Q d u n k. charging c (length p.procs) g Q d [] (no_path (OwnCall p) (length p.procs) g) (omega arith) u n k)
        P.body P.on t (q.procedures f P e).1 m s
        (λ g Q i d u n k. charging (suc c) left g Q d (f ∷ path) (longer_path (OwnCall p) none (length p.procs) path f g l (slice_get_within p.procs f P e) (P, e, i)) (omega arith) u n k) in
        (r.0, charges_by_body p f P t r.0 e r.1)

    pub charge_exists : (f : ℕ) (P : Procedure) → slice_get p.procs f ≡ Some P → (t : Tree) → Member p P.on.node t → (q : ℕ) × Charges p f t q
    charge_exists f P e t m = charging (parts_in t) (length p.procs) f P e [] (no_path (OwnCall p) (length p.procs) f) (omega arith) t m (omega arith)

    -- THE LAW: exactly one
    pub one_charge : (f : ℕ) (P : Procedure) → slice_get p.procs f ≡ Some P → (t : Tree) → Member p P.on.node t → (a : ℕ) × Charges p f t a × ((b : ℕ) → Charges p f t b → b ≡ a)
    one_charge f P e t m = let r = charge_exists f P e t m in (r.0, r.1, λ b c. charges_one p f t b r.0 c r.1)

    -- and so does each site on each member of its node
    work_charged : (x : Part) (work : Work) → WorkOn p x work → (t : Tree) → Member p x.node t → (a : ℕ) × WorkCharges p work t a
    work_charged x (of_body body) f t m = body_charged (parts_in t) (λ g P e u n l. charge_exists g P e u n) body (x ∷ []) (t ∷ []) f (m, omega arith, tt)
    work_charged x (of_call callee) f t m = charge_exists callee f.0 f.1 t (subst (λ y. Member p y t) (sym f.2) m)
    work_charged x (of_case arms) f t m =
        let inner : Charging (parts_in t) = λ g P e u n l. charge_exists g P e u n in
        case_charged (parts_in t) arms x (shape_of p x.node) refl f.0 f.1 t m (omega arith)
        (λ parts g i u part e n l. branch_charged (parts_in t) inner arms parts g i u part e n l) (λ g ts n l. product_charged (parts_in t) inner arms x g ts n l)
    work_charged x (of_walk body) f t m =
        let r = walk_charged (parts_in t) (shape_of p x.node) f.0 (BodyCharges (Charges p) body) t m (omega arith)
        (λ u n l. body_charged (parts_in t) (λ g P e v o k. charge_exists g P e v o) body (component (shape_of p x.node) ∷ []) (u ∷ []) f.1 (n, l, tt)) in
        (r.0, (r.1, r.2, r.3))

    pub site_charge : (i : ℕ) → i < length p.sites → (t : Tree) → Member p (site_node p i) t → (a : ℕ) × SiteCharges p i t a
    site_charge i h t m =
        let w = get_within (works_of p) i (omega (arith, works_length p q)) in
        let at = work_at p q i w.0 w.1 in
        let here : site_node p i ≡ at.0.node = ap (λ (s : Site). s.node) (get_or_from_slice_get p.sites i at.0 (record { node = 0; caller = 0; place = 0 }) at.1) in
        let r = work_charged at.3.0 w.0.1 at.3.2 t (subst (λ x. Member p x t) (here ∙ sym at.3.1) m) in
        (r.0, (w.0.1, subst (λ s. In (s, w.0.1) (works_of p)) at.2 (In_get (works_of p) i w.0 w.1), r.1))

    pub one_site_charge : (i : ℕ) → i < length p.sites → (t : Tree) → Member p (site_node p i) t → (a : ℕ) × SiteCharges p i t a × ((b : ℕ) → SiteCharges p i t b → b ≡ a)
    one_site_charge i h t m = let r = site_charge i h t m in (r.0, r.1, λ b c. site_charges_are_single p (sites_are_apart p q) i t b r.0 c r.1)
