-- What bodies charge, as numbers.
use Rattle.std.proofs.Common.{◌≡◌, ℕ, zero, suc, ◌+◌, ◌≤◌, refl, sym, ◌∙◌, ap, arith, subst, Option, Some, None, ◌⊎◌, inl, inr, List, [], ◌∷◌, map, length, slice_get, get_or}
use Rattle.std.proofs.lemmas.Option.{get_or_from_slice_get}
use Rattle.luo_model.specs.declared.program.Part.{Part}
use Rattle.luo_model.specs.declared.program.Shape.{Shape}
use Rattle.luo_model.specs.declared.program.Shape.TheVariants as shape
use Rattle.luo_model.specs.declared.body.Bind.{Bind}
use Rattle.luo_model.specs.declared.body.Bind.TheVariants.{Nothing, Whole, Parts}
use Rattle.luo_model.specs.Tree.{Tree, Trees, Atom, Inj, Tup, Coll, none, more, to_list}
use Rattle.luo_model.specs.Program.{Program, Procedure, Body, Does, Items, no_items, item, Item, Call, Case, Forall, Arms, no_arms, arm, shape_of}
use Rattle.luo_model.specs.Member.{Member, Fits, FitAll}
use Rattle.luo_model.specs.Charges.{parts_of, bound, EachCharges, BodyCharges, ItemsCharge, ItemCharges, CaseCharges, Charges}
use Rattle.luo_model.specs.Scopes.Stands.{Stand, inside, itself, stand_part, stands, factors, component, IsCollection, MayBind, bound_parts}
use Rattle.luo_model.specs.Scopes.Fits.{FitsBody, FitsItems, FitsItem, FitsArms}
use Rattle.luo_model.specs.Invariant.{IsProgram}
use Rattle.luo_model.proofs.ChargeLemmas.{charges_one}
use Rattle.luo_model.proofs.DepthLemmas.{charges_by_body}
use Rattle.luo_model.specs.Founded.{IsFounded}
use Rattle.luo_finite.proofs.Places.{some_same, none_some}
use Rattle.luo_finite.proofs.Decided.{Decided}
use Rattle.luo_model.proofs.Decisions.{fits_decided}
use Rattle.luo_founded.proofs.Charged.{one_charge}
use Rattle.luo_counting.specs.Counted.{over_components}
use Rattle.luo_counting.proofs.TreeCharges.{each_charges}
use Rattle.luo_system.specs.System.{item_var}

option_or : {A : Type 0} (o : Option A) → ((a : A) × (o ≡ Some a)) ⊎ (o ≡ None)
option_or (Some a) = inl (a, refl)
option_or None = inr refl

-- the variable at a place
abbrev pub tree_at : List Tree → ℕ → Tree
tree_at vars var = get_or vars var (Atom 0 0)

pub tree_get : (vars : List Tree) (var : ℕ) (t : Tree) → slice_get vars var ≡ Some t → tree_at vars var ≡ t
tree_get vars var t e = get_or_from_slice_get vars var t (Atom 0 0) e

-- w says what procedures charge
module _ (w : ℕ → Tree → ℕ) where
  abbrev mutual
    pub body_charge : Body → List Tree → ℕ
    body_charge (Does own is) vars = own + items_charge is vars

    pub items_charge : Items → List Tree → ℕ
    items_charge no_items vars = 0
    items_charge (item i is) vars = item_charge i (tree_at vars (item_var i)) + items_charge is vars

    -- an item looks at its own variable alone
    pub item_charge : Item → Tree → ℕ
    item_charge (Call var callee site) t = w callee t
    item_charge (Case var arms site) t = arms_charge arms t
    item_charge (Forall var body body_site site) t = over_components (λ s. body_charge body (s ∷ [])) t

    pub arms_charge : Arms → Tree → ℕ
    arms_charge (arm bind body arms) (Inj (suc zero) t) = body_charge body (bound bind t)
    arms_charge (arm bind body arms) (Inj (suc (suc i)) t) = arms_charge arms (Inj (suc i) t)
    arms_charge (arm bind body no_arms) (Tup ts) = body_charge body (bound bind (Tup ts))
    arms_charge _ _ = 0

module _ (p : Program) (q : IsProgram p) (f : IsFounded p) where
  charge_at : (g : ℕ) (P : Procedure) → slice_get p.procs g ≡ Some P → (t : Tree) → Decided (Fits p (shape_of p P.on.node) t) → ℕ
  charge_at g P k t (inl m) = (one_charge p q f.no_endless g P k t m).0
  charge_at g P k t (inr n) = 0

  charge_by : (g : ℕ) (t : Tree) → ((P : Procedure) × (slice_get p.procs g ≡ Some P)) ⊎ (slice_get p.procs g ≡ None) → ℕ
  charge_by g t (inr e) = 0
  charge_by g t (inl r) = charge_at g r.0 r.1 t (fits_decided p t (shape_of p r.0.on.node))

  -- what procedure g charges on a structure
  pub charge_of : ℕ → Tree → ℕ
  charge_of g t = charge_by g t (option_or (slice_get p.procs g))

  pub charge_is : (g : ℕ) (P : Procedure) → slice_get p.procs g ≡ Some P → (t : Tree) → Member p P.on.node t → Charges p g t (charge_of g t)
  unfolding charge_of charge_by charge_at
  charge_is g P e t m = by_option (option_or (slice_get p.procs g))
    where
      by_member : (Q : Procedure) (k : slice_get p.procs g ≡ Some Q) → Member p Q.on.node t → (d : Decided (Fits p (shape_of p Q.on.node) t)) → Charges p g t (charge_at g Q k t d)
      by_member Q k m (inl o) = (one_charge p q f.no_endless g Q k t o).1
      by_member Q k m (inr n) = absurd (n m)

      by_option : (o : ((Q : Procedure) × (slice_get p.procs g ≡ Some Q)) ⊎ (slice_get p.procs g ≡ None)) → Charges p g t (charge_by g t o)
      by_option (inl r) = by_member r.0 r.1 (subst (λ (Q : Procedure). Member p Q.on.node t) (some_same P r.0 (sym e ∙ r.1)) m) (fits_decided p t (shape_of p r.0.on.node))
      by_option (inr n) = absurd (none_some P (sym n ∙ e))

  -- the variables are members of their nodes
  abbrev pub InScope : List Part → List Tree → Type 0
  InScope parts vars = (j : ℕ) (y : Part) → slice_get parts j ≡ Some y → (t : Tree) × (slice_get vars j ≡ Some t) × Member p y.node t

  pub scope_factors : (parts : List Part) (ts : Trees) → FitAll p parts ts → InScope parts (to_list ts)
  scope_factors [] none m j y e = absurd (none_some y e)
  scope_factors [] (more t ts) m j y e = absurd m
  scope_factors (part ∷ parts) none m j y e = absurd m
  scope_factors (part ∷ parts) (more t ts) m zero y e = (t, refl, subst (λ (z : Part). Member p z.node t) (some_same part y e) m.0)
  scope_factors (part ∷ parts) (more t ts) m (suc j) y e = scope_factors parts ts m.1 j y e

  scope_lone : (y : Part) (t : Tree) → Member p y.node t → InScope (y ∷ []) (t ∷ [])
  scope_lone y t m zero z e = (t, refl, subst (λ (v : Part). Member p v.node t) (some_same y z e) m)
  scope_lone y t m (suc j) z e = absurd (none_some z e)

  pub scope_bound : (S : Stand) (bind : Bind) (t : Tree) → MayBind p S bind → Member p (stand_part S).node t → InScope (bound_parts p S bind) (bound bind t)
  scope_bound S Nothing t w m j y e = absurd (none_some y e)
  scope_bound S Whole t w m j y e = scope_lone (stand_part S) t m j y e
  scope_bound S (Parts k) t w m j y e = by_shape (shape_of p (stand_part S).node) t m e
    where
      by_shape : (s : Shape) (t : Tree) → Fits p s t → slice_get (factors s) j ≡ Some y → (u : Tree) × (slice_get (parts_of t) j ≡ Some u) × Member p y.node u
      by_shape (shape.Atom weight) t m e = absurd (none_some y e)
      by_shape (shape.Union parts) t m e = absurd (none_some y e)
      by_shape (shape.Coll kind c low high) t m e = absurd (none_some y e)
      by_shape (shape.Product parts) (Atom v l) m e = absurd m
      by_shape (shape.Product parts) (Inj i t) m e = absurd m
      by_shape (shape.Product parts) (Tup ts) m e = scope_factors parts ts m j y e
      by_shape (shape.Product parts) (Coll ts) m e = absurd m

  walk_right : (s : Shape) → IsCollection s → (C : Tree → ℕ → Type 0) (w : Tree → ℕ) → (t : Tree) → Fits p s t → ((u : Tree) → Member p (component s).node u → C u (w u)) → (ts : Trees) ×
      (t ≡ Coll ts) × EachCharges C ts (over_components w t)
  walk_right (shape.Atom weight) i C w t m h = absurd i
  walk_right (shape.Union parts) i C w t m h = absurd i
  walk_right (shape.Product parts) i C w t m h = absurd i
  walk_right (shape.Coll kind c low high) i C w (Atom v l) m h = absurd m
  walk_right (shape.Coll kind c low high) i C w (Inj j t) m h = absurd m
  walk_right (shape.Coll kind c low high) i C w (Tup ts) m h = absurd m
  walk_right (shape.Coll kind c low high) i C w (Coll ts) m h = (ts, refl, each_charges p c C w ts m.1 h)

  -- a case charges what the arm does that is for the structure
  abbrev ArmsRight : Arms → Shape → Tree → Type 0
  ArmsRight arms s t = CaseCharges (Charges p) arms t (arms_charge charge_of arms t)

  case_right : (arms : Arms) (x : Part) (s : Shape) → shape_of p x.node ≡ s → 1 ≤ length (stands x s) → FitsArms p (stands x s) arms → (t : Tree) → Fits p s t
      → ((parts : List Part) → FitsArms p (map inside parts) arms → (i : ℕ) (u : Tree) (part : Part) → slice_get parts i ≡ Some part → Member p part.node u
      → CaseCharges (Charges p) arms (Inj (suc i) u) (arms_charge charge_of arms (Inj (suc i) u)))
      → (FitsArms p (itself x ∷ []) arms → (ts : Trees) → Member p x.node (Tup ts) → CaseCharges (Charges p) arms (Tup ts) (arms_charge charge_of arms (Tup ts)))
      → CaseCharges (Charges p) arms t (arms_charge charge_of arms t)
  case_right arms x (shape.Atom weight) is l w t m union product = absurd (omega arith)
  case_right arms x (shape.Coll kind c low high) is l w t m union product = absurd (omega arith)
  case_right arms x (shape.Union parts) is l w (Atom v k) m union product = absurd m
  case_right arms x (shape.Union parts) is l w (Inj zero t) m union product = absurd m
  case_right arms x (shape.Union parts) is l w (Inj (suc i) t) m union product = union parts w i t m.0 m.1 m.2
  case_right arms x (shape.Union parts) is l w (Tup ts) m union product = absurd m
  case_right arms x (shape.Union parts) is l w (Coll ts) m union product = absurd m
  case_right arms x (shape.Product parts) is l w (Atom v k) m union product = absurd m
  case_right arms x (shape.Product parts) is l w (Inj j t) m union product = absurd m
  case_right arms x (shape.Product parts) is l w (Tup ts) m union product = product w ts (subst (λ s. Fits p s (Tup ts)) (sym is) m)
  case_right arms x (shape.Product parts) is l w (Coll ts) m union product = absurd m

  mutual
    pub body_right : (body : Body) (nodes : List Part) (vars : List Tree) → FitsBody p nodes body → InScope nodes vars → BodyCharges (Charges p) body vars (body_charge charge_of body vars)
    body_right (Does own is) nodes vars w s = (items_charge charge_of is vars, items_right is nodes vars w.1 s, refl)

    items_right : (is : Items) (nodes : List Part) (vars : List Tree) → FitsItems p nodes is → InScope nodes vars → ItemsCharge (Charges p) is vars (items_charge charge_of is vars)
    items_right no_items nodes vars w s = refl
    items_right (item i is) nodes vars w s = (item_charge charge_of i (tree_at vars (item_var i)), items_charge charge_of is vars, item_right i nodes vars w.0 s, items_right is nodes vars w.1 s, refl)

    item_right : (i : Item) (nodes : List Part) (vars : List Tree) → FitsItem p nodes i → InScope nodes vars → ItemCharges (Charges p) i vars (item_charge charge_of i (tree_at vars (item_var i)))
    item_right (Call var callee site) nodes vars w s =
        let r = s var w.1 w.3 in (r.0, r.1, subst (λ t. Charges p callee r.0 (charge_of callee t)) (sym (tree_get vars var r.0 r.1)) (charge_is callee w.0 w.2 r.0 (subst (λ z. Member p z r.0) w.4 r.2)))
    item_right (Case var arms site) nodes vars w s =
        let r = s var w.0 w.1 in (
          r.0,
          r.1,
          subst (λ t. CaseCharges (Charges p) arms r.0 (arms_charge charge_of arms t)) (sym (tree_get vars var r.0 r.1))
              (case_right arms w.0 (shape_of p w.0.node) refl w.2 w.3 r.0 r.2 (λ parts v j u part e m. branch_right arms parts v j u part e m) (λ v ts m. product_right arms w.0 v ts m)),
        )
    item_right (Forall var body body_site site) nodes vars w s =
        let r = s var w.0 w.1 in
        let k = walk_right (shape_of p w.0.node) w.2 (λ u. BodyCharges (Charges p) body (u ∷ [])) (λ u. body_charge charge_of body (u ∷ [])) r.0 r.2
        (λ u m. body_right body (component (shape_of p w.0.node) ∷ []) (u ∷ []) w.3 (scope_lone (component (shape_of p w.0.node)) u m)) in (
          k.0,
          r.1 ∙ ap Some k.1,
          subst (λ t. EachCharges (λ u. BodyCharges (Charges p) body (u ∷ [])) k.0 (over_components (λ u. body_charge charge_of body (u ∷ [])) t))
              (sym (tree_get vars var r.0 r.1)) k.2,
        )

    product_right : (arms : Arms) (x : Part) → FitsArms p (itself x ∷ []) arms → (ts : Trees) → Member p x.node (Tup ts) → CaseCharges (Charges p) arms (Tup ts) (arms_charge charge_of arms (Tup ts))
    product_right no_arms x w ts m = absurd w
    product_right (arm bind body no_arms) x w ts m = body_right body (bound_parts p (itself x) bind) (bound bind (Tup ts)) w.1 (scope_bound (itself x) bind (Tup ts) w.0 m)
    product_right (arm bind body (arm b c arms)) x w ts m = absurd w.2

    branch_right : (arms : Arms) (parts : List Part) → FitsArms p (map inside parts) arms → (i : ℕ) (t : Tree) (part : Part) → slice_get parts i ≡ Some part
        → Member p part.node t
        → CaseCharges (Charges p) arms (Inj (suc i) t) (arms_charge charge_of arms (Inj (suc i) t))
    branch_right arms [] w i t part e m = absurd (none_some part e)
    branch_right no_arms (v ∷ parts) w i t part e m = absurd w
    branch_right (arm bind body arms) (v ∷ parts) w zero t part e m =
        body_right body (bound_parts p (inside v) bind) (bound bind t) w.1 (scope_bound (inside v) bind t w.0 (subst (λ (y : Part). Member p y.node t) (sym (some_same v part e)) m))
    branch_right (arm bind body arms) (v ∷ parts) w (suc i) t part e m = branch_right arms parts w.2 i t part e m

  -- ---- THE LAW: a procedure charges what its body does
  pub charge_body : (g : ℕ) (P : Procedure) → slice_get p.procs g ≡ Some P → (t : Tree) → Member p P.on.node t → charge_of g t ≡ body_charge charge_of P.body (t ∷ [])
  charge_body g P e t m =
      charges_one p g t (charge_of g t) (body_charge charge_of P.body (t ∷ [])) (charge_is g P e t m)
      (charges_by_body p g P t (body_charge charge_of P.body (t ∷ [])) e (body_right P.body (P.on ∷ []) (t ∷ []) (q.procedures g P e).1 (scope_lone P.on t m)))
