-- A procedure with a result makes exactly one structure of each member, which is a member and has no labels.
use Rattle.std.proofs.Common.{◌≡◌, ℕ, zero, suc, ◌+◌, ◌≤◌, List, [], ◌∷◌, inl, inr, length, map, refl, sym, ap, subst, ◌∙◌, arith, Some, slice_get}
use Rattle.std.proofs.lemmas.Option.{slice_get_within}
use Rattle.luo_finite.specs.Walk.{OnCircle}
use Rattle.luo_finite.proofs.Places.{some_same, none_some}
use Rattle.luo_finite.proofs.Walks.{LeadsTo, no_path, longer_path, short_path}
use Rattle.luo_model.specs.declared.body.Bind.{Bind}
use Rattle.luo_model.specs.declared.body.Bind.TheVariants.{Nothing, Whole, Parts}
use Rattle.luo_model.specs.declared.program.Part.{Part}
use Rattle.luo_model.specs.declared.program.Shape.{Shape}
use Rattle.luo_model.specs.declared.program.Shape.TheVariants as shape
use Rattle.luo_model.specs.declared.program.Universe.TheVariants.{Unlabelled}
use Rattle.luo_model.specs.Tree.{Tree, Trees, Atom, Inj, Tup, Coll, none, more, to_list, labels_of}
use Rattle.luo_model.specs.Program as plain
use Rattle.luo_model.specs.Program.{Program, Procedure, Result, Value, Values, ValueArms, no_value_arms, value_arm, shape_of}
use Rattle.luo_model.specs.Charges.{parts_of, bound}
use Rattle.luo_model.specs.Founded.{CallsIn, OwnCall}
use Rattle.luo_model.specs.Invariant.{IsProgram}
use Rattle.luo_model.specs.Member.{IsLabel, Fits, FitAll, Member}
use Rattle.luo_model.specs.Scopes.Stands.{inside, itself, stands, factors, IsProductOf, MayBind, bound_parts}
use Rattle.luo_model.specs.Scopes.Fits.{FitsValue, FitsValues, FitsValueArms}
use Rattle.luo_model.proofs.Unlabelled.{no_labels, nothing_in}
use Rattle.luo_founded.proofs.Charged.{parts_in, all_parts_in, Bound}
use Rattle.luo_interp.specs.Laws.{EachMakesOne}
use Rattle.luo_interp.specs.Makes.{ValueMakes, ValuesMake, ArmsMake, MakesWithin, Makes}
use Rattle.luo_interp.specs.inner.Values.{ValueCalls, ValuesCall}
use Rattle.luo_interp.proofs.ChargeSteps.{some_parts}
use Rattle.luo_interp.proofs.MakeSteps.{value_wider, values_wider, value_calls, result_fits}

-- what calls of any depth make, calls of some depth do
module _ (p : Program) where
  deeper : (d e : ℕ) → d ≤ e → (f : ℕ) (s u : Tree) → MakesWithin p.procs d f s u → MakesWithin p.procs e f s u
  deeper zero e h f s u m = absurd m
  deeper (suc d) zero h f s u m = absurd (omega (arith, h))
  deeper (suc d) (suc e) h f s u m = (m.0, m.1, m.2, m.3, value_wider (MakesWithin p.procs d) (MakesWithin p.procs e) (deeper d e (omega (arith, h))) m.1.value (s ∷ []) u m.4)

  mutual
    value_depth : (v : Value) (vars : List Tree) (u : Tree) → ValueMakes (Makes p) v vars u → (d : ℕ) × ValueMakes (MakesWithin p.procs d) v vars u
    value_depth (plain.Given var) vars u m = (0, m)
    value_depth (plain.Made var callee) vars u m = (m.2.0, (m.0, m.1, m.2.1))
    value_depth (plain.Atom w own) vars u m = (0, m)
    value_depth (plain.Tuple vs) vars u m = let r = values_depth vs vars m.0 m.1 in (r.0, (m.0, r.1, m.2))
    value_depth (plain.Branch number v) vars u m = let r = value_depth v vars m.0 m.1 in (r.0, (m.0, r.1, m.2))
    value_depth (plain.Chosen var arms) vars u m = let r = arms_depth arms m.0 u m.2 in (r.0, (m.0, m.1, r.1))

    values_depth : (vs : Values) (vars : List Tree) (us : Trees) → ValuesMake (Makes p) vs vars us → (d : ℕ) × ValuesMake (MakesWithin p.procs d) vs vars us
    values_depth plain.no_values vars us m = (0, m)
    values_depth (plain.value v vs) vars us m =
        let a = value_depth v vars m.0 m.2 in
        let b = values_depth vs vars m.1 m.3 in
        let d = a.0 + b.0 in (
          d,
          (
            m.0,
            m.1,
            value_wider (MakesWithin p.procs a.0) (MakesWithin p.procs d) (deeper a.0 d (omega arith)) v vars m.0 a.1,
            values_wider (MakesWithin p.procs b.0) (MakesWithin p.procs d) (deeper b.0 d (omega arith)) vs vars m.1 b.1,
            m.4,
          ),
        )

    arms_depth : (arms : ValueArms) (t u : Tree) → ArmsMake (Makes p) arms t u → (d : ℕ) × ArmsMake (MakesWithin p.procs d) arms t u
    arms_depth no_value_arms (Atom w l) u m = absurd m
    arms_depth no_value_arms (Inj zero t) u m = absurd m
    arms_depth no_value_arms (Inj (suc zero) t) u m = absurd m
    arms_depth no_value_arms (Inj (suc (suc i)) t) u m = absurd m
    arms_depth no_value_arms (Tup ts) u m = absurd m
    arms_depth no_value_arms (Coll ts) u m = absurd m
    arms_depth (value_arm b v no_value_arms) (Tup ts) u m = value_depth v (bound b (Tup ts)) u m
    arms_depth (value_arm b v (value_arm d other arms)) (Tup ts) u m = absurd m
    arms_depth (value_arm b v no_value_arms) (Inj zero t) u m = absurd m
    arms_depth (value_arm b v (value_arm d other arms)) (Inj zero t) u m = absurd m
    arms_depth (value_arm b v no_value_arms) (Inj (suc zero) t) u m = value_depth v (bound b t) u m
    arms_depth (value_arm b v (value_arm d other arms)) (Inj (suc zero) t) u m = value_depth v (bound b t) u m
    arms_depth (value_arm b v no_value_arms) (Inj (suc (suc i)) t) u m = arms_depth no_value_arms (Inj (suc i) t) u m
    arms_depth (value_arm b v (value_arm d other arms)) (Inj (suc (suc i)) t) u m = arms_depth (value_arm d other arms) (Inj (suc i) t) u m
    arms_depth (value_arm b v no_value_arms) (Atom w l) u m = absurd m
    arms_depth (value_arm b v (value_arm d other arms)) (Atom w l) u m = absurd m
    arms_depth (value_arm b v no_value_arms) (Coll ts) u m = absurd m
    arms_depth (value_arm b v (value_arm d other arms)) (Coll ts) u m = absurd m

  makes_by_value : (f : ℕ) (P : Procedure) (r : Result) (s u : Tree) → slice_get p.procs f ≡ Some P → P.result ≡ Some r → ValueMakes (Makes p) r.value (s ∷ []) u → Makes p f s u
  makes_by_value f P r s u e g m = let d = value_depth r.value (s ∷ []) u m in (suc d.0, (P, r, e, g, d.1))

-- what called procedures make is one structure, and so is what a value makes
module _ (R S : ℕ → Tree → Tree → Type 0) (one : (f : ℕ) (t u w : Tree) → R f t u → S f t w → u ≡ w) where
  mutual
    value_one : (v : Value) (vars : List Tree) (u w : Tree) → ValueMakes R v vars u → ValueMakes S v vars w → u ≡ w
    value_one (plain.Given var) vars u w m n = some_same u w (sym m ∙ n)
    value_one (plain.Made var callee) vars u w m n = one callee m.0 u w m.2 (subst (λ t. S callee t w) (some_same n.0 m.0 (sym n.1 ∙ m.1)) n.2)
    value_one (plain.Atom weight own) vars u w m n = m ∙ sym n
    value_one (plain.Tuple vs) vars u w m n = m.2 ∙ ap Tup (values_one vs vars m.0 n.0 m.1 n.1) ∙ sym n.2
    value_one (plain.Branch number v) vars u w m n = m.2 ∙ ap (Inj number) (value_one v vars m.0 n.0 m.1 n.1) ∙ sym n.2
    value_one (plain.Chosen var arms) vars u w m n = arms_one arms m.0 u w m.2 (subst (λ t. ArmsMake S arms t w) (some_same n.0 m.0 (sym n.1 ∙ m.1)) n.2)

    values_one : (vs : Values) (vars : List Tree) (us ws : Trees) → ValuesMake R vs vars us → ValuesMake S vs vars ws → us ≡ ws
    values_one plain.no_values vars us ws m n = m ∙ sym n
    values_one (plain.value v vs) vars us ws m n = m.4 ∙ ap (λ t. more t m.1) (value_one v vars m.0 n.0 m.2 n.2) ∙ ap (more n.0) (values_one vs vars m.1 n.1 m.3 n.3) ∙ sym n.4

    arms_one : (arms : ValueArms) (t u w : Tree) → ArmsMake R arms t u → ArmsMake S arms t w → u ≡ w
    arms_one no_value_arms (Atom x l) u w m n = absurd m
    arms_one no_value_arms (Inj zero t) u w m n = absurd m
    arms_one no_value_arms (Inj (suc zero) t) u w m n = absurd m
    arms_one no_value_arms (Inj (suc (suc i)) t) u w m n = absurd m
    arms_one no_value_arms (Tup ts) u w m n = absurd m
    arms_one no_value_arms (Coll ts) u w m n = absurd m
    arms_one (value_arm b v no_value_arms) (Tup ts) u w m n = value_one v (bound b (Tup ts)) u w m n
    arms_one (value_arm b v (value_arm d other arms)) (Tup ts) u w m n = absurd m
    arms_one (value_arm b v no_value_arms) (Inj zero t) u w m n = absurd m
    arms_one (value_arm b v (value_arm d other arms)) (Inj zero t) u w m n = absurd m
    arms_one (value_arm b v no_value_arms) (Inj (suc zero) t) u w m n = value_one v (bound b t) u w m n
    arms_one (value_arm b v (value_arm d other arms)) (Inj (suc zero) t) u w m n = value_one v (bound b t) u w m n
    arms_one (value_arm b v no_value_arms) (Inj (suc (suc i)) t) u w m n = arms_one no_value_arms (Inj (suc i) t) u w m n
    arms_one (value_arm b v (value_arm d other arms)) (Inj (suc (suc i)) t) u w m n = arms_one (value_arm d other arms) (Inj (suc i) t) u w m n
    arms_one (value_arm b v no_value_arms) (Atom x l) u w m n = absurd m
    arms_one (value_arm b v (value_arm d other arms)) (Atom x l) u w m n = absurd m
    arms_one (value_arm b v no_value_arms) (Coll ts) u w m n = absurd m
    arms_one (value_arm b v (value_arm d other arms)) (Coll ts) u w m n = absurd m

within_one : (p : Program) (d e f : ℕ) (s u w : Tree) → MakesWithin p.procs d f s u → MakesWithin p.procs e f s w → u ≡ w
within_one p zero e f s u w m n = absurd m
within_one p (suc d) zero f s u w m n = absurd n
within_one p (suc d) (suc e) f s u w m n =
    let P : n.0 ≡ m.0 = some_same n.0 m.0 (sym n.2 ∙ m.2) in
    let r : n.1 ≡ m.1 = some_same n.1 m.1 (sym n.3 ∙ ap (λ (z : Procedure). z.result) P ∙ m.3) in
    value_one (MakesWithin p.procs d) (MakesWithin p.procs e) (within_one p d e) m.1.value (s ∷ []) u w m.4 (subst (λ (z : Result). ValueMakes (MakesWithin p.procs e) z.value (s ∷ []) w) r n.4)

module _ (p : Program) (plain_atoms : p.universe ≡ Unlabelled) where
  -- a structure of this node that a scope of structures with at most so many parts makes
  bound_at : (b : ℕ) (xs : List Part) (ts : List Tree) (var : ℕ) (x : Part) → Bound p b xs ts → slice_get xs var ≡ Some x → (t : Tree) × (slice_get ts var ≡ Some t) × Member p x.node t × (parts_in t ≤ b)
  bound_at b [] [] var x h e = absurd (none_some x e)
  bound_at b [] (t ∷ ts) var x h e = absurd h
  bound_at b (y ∷ xs) [] var x h e = absurd h
  bound_at b (y ∷ xs) (t ∷ ts) zero x h e = (t, refl, subst (λ (z : Part). Member p z.node t) (some_same y x e) h.0, h.1)
  bound_at b (y ∷ xs) (t ∷ ts) (suc var) x h e = bound_at b xs ts var x h.2 e

  bound_factors : (b : ℕ) (parts : List Part) (ts : Trees) → FitAll p parts ts → all_parts_in ts ≤ b → Bound p b parts (to_list ts)
  bound_factors b [] none m h = tt
  bound_factors b [] (more t ts) m h = absurd m
  bound_factors b (part ∷ parts) none m h = absurd m
  bound_factors b (part ∷ parts) (more t ts) m h = (m.0, omega arith, bound_factors b parts ts m.1 (omega arith))

  product_bound : (b k : ℕ) (s : Shape) (t : Tree) → IsProductOf k s → Fits p s t → parts_in t ≤ suc b → Bound p b (factors s) (parts_of t)
  product_bound b k (shape.Atom w) t i m h = absurd i
  product_bound b k (shape.Union parts) t i m h = absurd i
  product_bound b k (shape.Coll kind part low high) t i m h = absurd i
  product_bound b k (shape.Product parts) (Atom w l) i m h = absurd m
  product_bound b k (shape.Product parts) (Inj j t) i m h = absurd m
  product_bound b k (shape.Product parts) (Tup ts) i m h = bound_factors b parts ts m (omega arith)
  product_bound b k (shape.Product parts) (Coll ts) i m h = absurd m

  bound_inside : (b : ℕ) (y : Part) (bind : Bind) (t : Tree) → MayBind p (inside y) bind → Member p y.node t → parts_in t ≤ b → Bound p b (bound_parts p (inside y) bind) (bound bind t)
  bound_inside b y Nothing t i m h = tt
  bound_inside b y Whole t i m h = (m, h, tt)
  bound_inside b y (Parts k) t i m h = product_bound b k (shape_of p y.node) t i m (omega arith)

  bound_itself : (b : ℕ) (x : Part) (bind : Bind) (t : Tree) → MayBind p (itself x) bind → Member p x.node t → parts_in t ≤ suc b → Bound p b (bound_parts p (itself x) bind) (bound bind t)
  bound_itself b x Nothing t i m h = tt
  bound_itself b x Whole t i m h = absurd i
  bound_itself b x (Parts k) t i m h = product_bound b k (shape_of p x.node) t i m h

  -- what is made of structures that are no larger than this
  abbrev Making : ℕ → Type 0
  Making b = (f : ℕ) (P : Procedure) (r : Result) → slice_get p.procs f ≡ Some P → P.result ≡ Some r → (t : Tree) → Member p P.on.node t → parts_in t ≤ b → (u : Tree) × Makes p f t u × Member p r.on.node u

  atom_member : (x w : ℕ) → shape_of p x ≡ shape.Atom w → Member p x (Atom w 0)
  atom_member x w e = subst (λ z. Fits p z (Atom w 0)) (sym e) (refl, subst (λ u. IsLabel u w 0) (sym plain_atoms) refl)

  branch_member : (x number i : ℕ) (parts : List Part) (part : Part) (u : Tree) → shape_of p x ≡ shape.Union parts → number ≡ suc i → slice_get parts i ≡ Some part → Member p part.node u → Member p x (Inj number u)
  branch_member x number i parts part u e n at m = subst (λ z. Fits p z (Inj number u)) (sym e) (subst (λ k. Fits p (shape.Union parts) (Inj k u)) (sym n) (part, at, m))

  tuple_member : (x k : ℕ) (s : Shape) → shape_of p x ≡ s → IsProductOf k s → (ts : Trees) → ((parts : List Part) → s ≡ shape.Product parts → FitAll p parts ts) → Member p x (Tup ts)
  tuple_member x k (shape.Atom w) e i ts h = absurd i
  tuple_member x k (shape.Union parts) e i ts h = absurd i
  tuple_member x k (shape.Product parts) e i ts h = subst (λ z. Fits p z (Tup ts)) (sym e) (h parts refl)
  tuple_member x k (shape.Coll kind part low high) e i ts h = absurd i

  product_parts : (k : ℕ) (s : Shape) → IsProductOf k s → (parts : List Part) × (s ≡ shape.Product parts) × (factors s ≡ parts)
  product_parts k (shape.Atom w) i = absurd i
  product_parts k (shape.Union parts) i = absurd i
  product_parts k (shape.Product parts) i = (parts, refl, refl)
  product_parts k (shape.Coll kind part low high) i = absurd i

  -- a case on a member of a union or a product
  case_made : (c : ℕ) (arms : ValueArms) (x : Part) (expected : ℕ) (s : Shape) → shape_of p x.node ≡ s → 1 ≤ length (stands x s) → FitsValueArms p (stands x s) expected arms → (t : Tree) → Fits p s t → parts_in t ≤ suc c
      → ((parts : List Part) → FitsValueArms p (map inside parts) expected arms → (i : ℕ) (u : Tree) (part : Part) → slice_get parts i ≡ Some part → Member p part.node u → parts_in u ≤ c → (w : Tree) × ArmsMake (Makes p) arms (Inj (suc i) u) w × Member p expected w)
      → (FitsValueArms p (itself x ∷ []) expected arms → (ts : Trees) → Member p x.node (Tup ts) → parts_in (Tup ts) ≤ suc c → (w : Tree) × ArmsMake (Makes p) arms (Tup ts) w × Member p expected w)
      → (w : Tree) × ArmsMake (Makes p) arms t w × Member p expected w
  case_made c arms x expected (shape.Atom w) e l f t m h union product = absurd (omega arith)
  case_made c arms x expected (shape.Coll kind part low high) e l f t m h union product = absurd (omega arith)
  case_made c arms x expected (shape.Union parts) e l f (Atom w k) m h union product = absurd m
  case_made c arms x expected (shape.Union parts) e l f (Inj zero t) m h union product = absurd m
  case_made c arms x expected (shape.Union parts) e l f (Inj (suc i) t) m h union product = union parts f i t m.0 m.1 m.2 (omega arith)
  case_made c arms x expected (shape.Union parts) e l f (Tup ts) m h union product = absurd m
  case_made c arms x expected (shape.Union parts) e l f (Coll ts) m h union product = absurd m
  case_made c arms x expected (shape.Product parts) e l f (Atom w k) m h union product = absurd m
  case_made c arms x expected (shape.Product parts) e l f (Inj i t) m h union product = absurd m
  case_made c arms x expected (shape.Product parts) e l f (Coll ts) m h union product = absurd m
  case_made c arms x expected (shape.Product parts) e l f (Tup ts) m h union product = product f ts (subst (λ z. Fits p z (Tup ts)) (sym e) m) h

  mutual
    -- in a scope with variables up to b calls make what is said, and inside it all is up to c
    value_made : (b c : ℕ) → b ≤ suc c → Making c → (v : Value) (xs : List Part) (vars : List Tree) (expected : ℕ) → FitsValue p xs expected v → Bound p b xs vars
        → ((g : ℕ) (P : Procedure) (r : Result) → ValueCalls g v → slice_get p.procs g ≡ Some P → P.result ≡ Some r → (t : Tree) → Member p P.on.node t → parts_in t ≤ b → (u : Tree) × Makes p g t u × Member p r.on.node u)
        → (u : Tree) × ValueMakes (Makes p) v vars u × Member p expected u
    value_made b c h inner (plain.Given var) xs vars expected f v call =
        let r = bound_at b xs vars var f.0 v f.1 in (r.0, r.1, subst (λ z. Member p z r.0) f.2 r.2)
    value_made b c h inner (plain.Made var callee) xs vars expected f v call =
        let r = bound_at b xs vars var f.2 v f.4 in
        let x = call callee f.0 f.1 refl f.3 f.6 r.0 (subst (λ z. Member p z r.0) f.5 r.2) r.3 in
        (x.0, (r.0, r.1, x.1), subst (λ n. Member p n x.0) f.7 x.2)
    value_made b c h inner (plain.Atom weight own) xs vars expected f v call = (Atom weight 0, refl, atom_member expected weight f.0)
    value_made b c h inner (plain.Tuple vs) xs vars expected f v call =
        let d = product_parts _ (shape_of p expected) f.0 in
        let r = values_made b c h inner vs xs vars d.0 (subst (λ ns. FitsValues p xs ns vs) d.2 f.1) v call in
        (Tup r.0, (r.0, r.1, refl), subst (λ z. Fits p z (Tup r.0)) (sym d.1) r.2)
    value_made b c h inner (plain.Branch number w) xs vars expected f v call =
        let r = value_made b c h inner w xs vars f.2.node f.6 v call in
        (Inj number r.0, (r.0, r.1, refl), branch_member expected number f.1 f.0 f.2 r.0 f.3 f.4 f.5 r.2)
    value_made b c h inner (plain.Chosen var arms) xs vars expected f v call =
        let r = bound_at b xs vars var f.0 v f.1 in
        let x = case_made c arms f.0 expected (shape_of p f.0.node) refl f.2 f.3 r.0 r.2 (omega (arith, r.3))
        (λ parts g i u part e m l. branch_made c inner arms expected parts g i u part e m l) (λ g ts m l. product_made c inner arms f.0 expected g ts m l) in
        (x.0, (r.0, r.1, x.1), x.2)

    values_made : (b c : ℕ) → b ≤ suc c → Making c → (vs : Values) (xs : List Part) (vars : List Tree) (parts : List Part) → FitsValues p xs parts vs → Bound p b xs vars
        → ((g : ℕ) (P : Procedure) (r : Result) → ValuesCall g vs → slice_get p.procs g ≡ Some P → P.result ≡ Some r → (t : Tree) → Member p P.on.node t → parts_in t ≤ b → (u : Tree) × Makes p g t u × Member p r.on.node u)
        → (us : Trees) × ValuesMake (Makes p) vs vars us × FitAll p parts us
    values_made b c h inner plain.no_values xs vars [] f v call = (none, refl, tt)
    values_made b c h inner plain.no_values xs vars (part ∷ parts) f v call = absurd f
    values_made b c h inner (plain.value w vs) xs vars [] f v call = absurd f
    values_made b c h inner (plain.value w vs) xs vars (part ∷ parts) f v call =
        let x = value_made b c h inner w xs vars part.node f.0 v (λ g P r i. call g P r (inl i)) in
        let y = values_made b c h inner vs xs vars parts f.1 v (λ g P r i. call g P r (inr i)) in
        (more x.0 y.0, (x.0, y.0, x.1, y.1, refl), (x.2, y.2))

    product_made : (c : ℕ) → Making c → (arms : ValueArms) (x : Part) (expected : ℕ) → FitsValueArms p (itself x ∷ []) expected arms → (ts : Trees) → Member p x.node (Tup ts) → parts_in (Tup ts) ≤ suc c → (w : Tree) × ArmsMake (Makes p) arms (Tup ts) w × Member p expected w
    product_made c inner no_value_arms x expected f ts m h = absurd f
    product_made c inner (value_arm bind v (value_arm other w arms)) x expected f ts m h = absurd f.2
    product_made c inner (value_arm bind v no_value_arms) x expected f ts m h = value_made c c (omega arith) inner v (bound_parts p (itself x) bind) (bound bind (Tup ts)) expected f.1 (bound_itself c x bind (Tup ts) f.0 m h) (λ g P r i e k t n l. inner g P r e k t n l)

    branch_made : (c : ℕ) → Making c → (arms : ValueArms) (expected : ℕ) (parts : List Part) → FitsValueArms p (map inside parts) expected arms → (i : ℕ) (t : Tree) (part : Part) → slice_get parts i ≡ Some part
        → Member p part.node t → parts_in t ≤ c → (w : Tree) × ArmsMake (Makes p) arms (Inj (suc i) t) w × Member p expected w
    branch_made c inner arms expected [] f i t part e m h = absurd (none_some part e)
    branch_made c inner no_value_arms expected (first ∷ parts) f i t part e m h = absurd f
    branch_made c inner (value_arm bind v no_value_arms) expected (first ∷ parts) f zero t part e m h =
        value_made c c (omega arith) inner v (bound_parts p (inside first) bind) (bound bind t) expected f.1 (bound_inside c first bind t f.0 (subst (λ (z : Part). Member p z.node t) (sym (some_same first part e)) m) h) (λ g P r i e k t n l. inner g P r e k t n l)
    branch_made c inner (value_arm bind v (value_arm other w arms)) expected (first ∷ parts) f zero t part e m h =
        value_made c c (omega arith) inner v (bound_parts p (inside first) bind) (bound bind t) expected f.1 (bound_inside c first bind t f.0 (subst (λ (z : Part). Member p z.node t) (sym (some_same first part e)) m) h) (λ g P r i e k t n l. inner g P r e k t n l)
    branch_made c inner (value_arm bind v no_value_arms) expected (first ∷ parts) f (suc i) t part e m h = branch_made c inner no_value_arms expected parts f.2 i t part e m h
    branch_made c inner (value_arm bind v (value_arm other w arms)) expected (first ∷ parts) f (suc i) t part e m h = branch_made c inner (value_arm other w arms) expected parts f.2 i t part e m h

  module _ (q : IsProgram p) (founded : (f : ℕ) → OnCircle (OwnCall p) f → ⊥) where
    -- by the size of the structure, and at one size along the calls on the parameter
    making : (b left f : ℕ) (P : Procedure) (r : Result) → slice_get p.procs f ≡ Some P → P.result ≡ Some r → (path : List ℕ) → LeadsTo (OwnCall p) (length p.procs) path f → length p.procs ≤ left + length path
        → (t : Tree) → Member p P.on.node t → parts_in t ≤ b → (u : Tree) × Makes p f t u × Member p r.on.node u
    making zero left f P r e k path l h t m s = absurd (omega (arith, some_parts t))
    making (suc c) zero f P r e k path l h t m s = absurd (omega (arith, short_path (OwnCall p) founded (length p.procs) path f l (slice_get_within p.procs f P e)))
    making (suc c) (suc left) f P r e k path l h t m s =
        let fits = result_fits p q f P r e k in
        let x = value_made (suc c) c (omega arith)
        (λ g Q o d n u a i. making c (length p.procs) g Q o d n [] (no_path (OwnCall p) (length p.procs) g) (omega arith) u a i)
        r.value (P.on ∷ []) (t ∷ []) r.on.node fits.2 (m, s, tt)
        (λ g Q o i d n u a j. making (suc c) left g Q o d n (f ∷ path) (longer_path (OwnCall p) founded (length p.procs) path f g l (slice_get_within p.procs f P e) (P, e, subst (CallsIn g) (sym fits.3.1) (value_calls g fits.3.0 r.value i))) (omega arith) u a j) in
        (x.0, makes_by_value p f P r t x.0 e k x.1, x.2)

    pub made_exists : (f : ℕ) (P : Procedure) (r : Result) → slice_get p.procs f ≡ Some P → P.result ≡ Some r → (t : Tree) → Member p P.on.node t → (u : Tree) × Makes p f t u × Member p r.on.node u
    made_exists f P r e k t m = making (parts_in t) (length p.procs) f P r e k [] (no_path (OwnCall p) (length p.procs) f) (omega arith) t m (omega arith)

-- THE LAW: exactly one, a member without labels
pub each_makes_one : EachMakesOne
each_makes_one p q founded f P r e k s m =
    let unlabelled = (result_fits p q f P r e k).1 in
    let x = made_exists p unlabelled q founded.no_endless f P r e k s m in
    (x.0, x.1, x.2, nothing_in (labels_of x.0) (no_labels p unlabelled x.0 (shape_of p r.on.node) x.2), λ other o. within_one p o.0 x.1.0 f s other x.0 o.1 x.1.1)
