-- The total of each site is the number of its recipe.
use Rattle.std.proofs.Common.{◌≡◌, ℕ, zero, suc, ◌+◌, ◌*◌, ◌≤◌, List, [], ◌∷◌, inl, length, map, get_or, sum_by, refl, sym, ◌∙◌, ap, subst, arith, Some, Option, slice_get, flat_map}
use Rattle.std.proofs.lemmas.List.Sums.{sum_by-cons}
use Rattle.std.proofs.lemmas.Option.{get_or_from_slice_get}
use Rattle.luo_finite.specs.Listing.{In}
use Rattle.luo_finite.specs.Range.{sum_below}
use Rattle.luo_finite.proofs.Ranges.{sum_below-shift}
use Rattle.luo_finite.proofs.Membership.{In-append_left, In-append_right}
use Rattle.luo_finite.proofs.Places.{some_same, none_some}
use Rattle.luo_finite.proofs.Sums.{Sums-none, Sums-unique}
use Rattle.luo_model.specs.declared.body.Bind.{Bind}
use Rattle.luo_model.specs.declared.body.Bind.TheVariants.{Whole}
use Rattle.luo_model.specs.declared.program.Kind.{Kind}
use Rattle.luo_model.specs.declared.program.Part.{Part}
use Rattle.luo_model.specs.declared.program.Shape.{Shape}
use Rattle.luo_model.specs.declared.program.Shape.TheVariants as shape
use Rattle.luo_model.specs.Tree.{Tree, Atom, Inj, Tup, Coll}
use Rattle.luo_model.specs.Program.{Program, Procedure, Body, Arms, no_arms, arm, shape_of}
use Rattle.luo_model.specs.Member.{Fits, Member}
use Rattle.luo_model.specs.Structures.{IsStructureOn, labels_from}
use Rattle.luo_model.specs.Charges.{bound, BodyCharges, CaseCharges, Charges, WorkCharges}
use Rattle.luo_model.specs.Scopes.Stands.{Stand, inside, itself, stands, component, IsCollection, bound_parts}
use Rattle.luo_model.specs.Scopes.Fits.{FitsBody, FitsArms}
use Rattle.luo_model.specs.Tables.{IsTotal}
use Rattle.luo_model.specs.Invariant.{IsProgram}
use Rattle.luo_model.specs.Founded.{IsFounded}
use Rattle.luo_model.proofs.DepthLemmas.{charges_by_body}
use Rattle.luo_model.proofs.TableLemmas.{totals_are_single}
use Rattle.luo_model.proofs.WorkLemmas.{sites_are_apart}
use Rattle.luo_counting.specs.Counted.{SumsAt}
use Rattle.luo_counting.proofs.Numbered.{room_of}
use Rattle.luo_counting.proofs.TreeCharges.{total_of_site, arm_at, case_total, walk_total}
use Rattle.luo_recipes.specs.Tasks.{Doing, does, calls, chooses, walks, work_of, Job, jobs_of_body, jobs_of_arms, jobs_of_procedure, jobs_of, Scope, scope_of, scopes_of, whole_sites, recipe_of, stand_nodes, scope_number, walk_number, recipe_number}
use Rattle.luo_recipes.proofs.CountLemmas.{number, number_known, light, suits, solid, component_none}
use Rattle.luo_recipes.proofs.TotalLemmas.{weight, total, total_is}
use Rattle.luo_recipes.proofs.JobLemmas.{job_is}
use Rattle.luo_recipes.proofs.ScopeLemmas.{bound_is, bind_fits, BindFits, parts_bound, bound_stands, job_charges, job_total, body_weight, scope_charged, scope_total}

no_part : Part
no_part = record { node = 0; name = Option.None }

in_flat_map : {A B : Type 0} (g : A → List B) (xs : List A) (i : ℕ) (x : A) (y : B) → slice_get xs i ≡ Some x → In y (g x) → In y (flat_map g xs)
in_flat_map g [] i x y e h = absurd (none_some x e)
in_flat_map g (z ∷ xs) zero x y e h = In-append_left y (g z) (flat_map g xs) (subst (λ t. In y (g t)) (sym (some_same z x e)) h)
in_flat_map g (z ∷ xs) (suc i) x y e h = In-append_right y (g z) (flat_map g xs) (in_flat_map g xs i x y e h)

-- the whole of a procedure is among the jobs
pub whole_among : (p : Program) (f : ℕ) (P : Procedure) → slice_get p.procs f ≡ Some P → In (record { site = P.site; on = P.on; doing = does P.body }) (jobs_of p)
whole_among p f P e =
    let j : Job = record { site = P.site; on = P.on; doing = does P.body } in
    in_flat_map (jobs_of_procedure p) p.procs f P j e (In-append_right j (jobs_of_body p (P.on ∷ []) P.body) (j ∷ []) (inl refl))

module _ (p : Program) (q : IsProgram p) (f : IsFounded p) where
  abbrev AreAmong : List Job → Type 0
  AreAmong jobs = (z : Job) → In z jobs → In z (jobs_of p)

  -- where a site's work charges w s on each member s and w has this sum
  from_sum : (j : Job) → In j (jobs_of p) → (n t : ℕ) (w : Tree → ℕ) → ((s : Tree) → Member p j.on.node s → WorkCharges p (work_of j.doing) s (w s)) → SumsAt p j.on.node w n t → IsTotal p j.site n t
  from_sum j i n t w c s =
      let k = job_is p q j i in
      total_of_site p j.site n t (work_of j.doing) w k.there (λ z m. c z (subst (λ x. Member p x z) k.node_is m)) (subst (λ x. SumsAt p x w n t) (sym k.node_is) s)

  one_scope : (S : Scope) (n : ℕ) → scope_number p.universe (number p q f) (total p q f) S n ≡ sum_by (λ (Z : Scope). scope_number p.universe (number p q f) (total p q f) Z n) (S ∷ [])
  one_scope S n = omega (arith, sum_by-cons (λ (Z : Scope). scope_number p.universe (number p q f) (total p q f) Z n) S [])

  abbrev IsRight : Job → ℕ → Type 0
  IsRight j n = IsTotal p j.site n (recipe_number p (number p q f) (total p q f) (recipe_of p j.on.node j.doing) n)

  -- ---- bodies
  body_is : (site : ℕ) (x : Part) (n : ℕ) (body : Body) → In (record { site = site; on = x; doing = does body }) (jobs_of p) → IsRight (record { site = site; on = x; doing = does body }) n
  body_is site x n body i =
      let j : Job = record { site = site; on = x; doing = does body } in
      let k = job_is p q j i in
      subst (IsTotal p site n) (one_scope (scope_of p x.node Whole body) n)
      (from_sum j i n (scope_number p.universe (number p q f) (total p q f) (scope_of p x.node Whole body) n) (λ s. body_weight p q f body (s ∷ []))
      (λ s m. scope_charged p q f body (x ∷ []) (s ∷ []) k.fits (bound_stands p x Whole s tt m) k.inner) (scope_total p q f x n Whole body tt k.fits k.inner))

  -- ---- calls
  call_is : (site : ℕ) (x : Part) (n callee : ℕ) → In (record { site = site; on = x; doing = calls callee }) (jobs_of p) → IsRight (record { site = site; on = x; doing = calls callee }) n
  call_is site x n callee i =
      let j : Job = record { site = site; on = x; doing = calls callee } in
      let k = job_is p q j i in
      let P : Procedure = k.fits.0 in
      let e : slice_get p.procs callee ≡ Some P = k.fits.1 in
      let whole : Job = record { site = P.site; on = P.on; doing = does P.body } in
      let there : In whole (jobs_of p) = whole_among p callee P e in
      let w : Tree → ℕ = weight p q f P.site in
      let same : P.on.node ≡ x.node = k.fits.2 in
      let one : total p q f P.site n ≡ scope_number p.universe (number p q f) (total p q f) (record { own = 0; node = x.node; sites = whole_sites (slice_get p.procs callee); parts = [] }) n =
      from_sites (total p q f P.site n) (sum_by (λ (s : ℕ). total p q f s n) (P.site ∷ [])) (number p q f x.node n) (sum_by-cons (λ (s : ℕ). total p q f s n) P.site [])
      ∙ ap (λ (o : Option Procedure). scope_number p.universe (number p q f) (total p q f) (record { own = 0; node = x.node; sites = whole_sites o; parts = [] }) n) (sym e) in
      subst (IsTotal p site n) (one ∙ one_scope (record { own = 0; node = x.node; sites = whole_sites (slice_get p.procs callee); parts = [] }) n)
      (from_sum j i n (total p q f P.site n) w
      (λ s m. charges_by_body p callee P s (w s) e (job_charges p q f whole there s (subst (λ y. Member p y s) (sym same) m)))
      (subst (λ y. SumsAt p y w n (total p q f P.site n)) same (job_total p q f whole there n)))
    where
      from_sites : (a b c : ℕ) → b ≡ a + 0 → a ≡ 0 * c + (b + 0)
      from_sites a b c e = omega (arith, e)

  -- ---- cases
  -- what stands for an arm
  pub record HasArm (parts : List Part) (arms : Arms) (part : Part) (b : ℕ) : Type 0 where
    pub bind : Bind
    pub body : Body
    pub is : arm_at arms b ≡ Some (bind, body)
    pub may : BindFits p part bind
    pub fits : FitsBody p (parts_bound p part bind) body
    pub inner : AreAmong (jobs_of_body p (parts_bound p part bind) body)

  abbrev insides : List Part → List Stand
  insides parts = map inside parts

  abbrev nodes : List Part → List ℕ
  nodes parts = map (λ (part : Part). part.node) parts

  arm_there : (arms : Arms) (parts : List Part) → FitsArms p (insides parts) arms → AreAmong (jobs_of_arms p (insides parts) arms) → (b : ℕ) (part : Part) → slice_get parts b ≡ Some part → HasArm parts arms part b
  arm_there arms [] g a b part e = absurd (none_some part e)
  arm_there no_arms (first ∷ parts) g a b part e = absurd g
  arm_there (arm bind body arms) (first ∷ parts) g a zero part e =
      let same : first ≡ part = some_same first part e in
      let bound_same = bound_is p (inside first) bind in
      subst (λ (z : Part). HasArm (first ∷ parts) (arm bind body arms) z 0) same (record {
        bind = bind;
        body = body;
        is = refl;
        may = bind_fits p (inside first) bind g.0;
        fits = subst (λ (xs : List Part). FitsBody p xs body) bound_same g.1;
        inner = subst (λ (xs : List Part). AreAmong (jobs_of_body p xs body)) bound_same (λ z k. a z (In-append_left z (jobs_of_body p (bound_parts p (inside first) bind) body) (jobs_of_arms p (insides parts) arms) k));
      })
  arm_there (arm bind body arms) (first ∷ parts) g a (suc b) part e =
      let r = arm_there arms parts g.2 (λ z k. a z (In-append_right z (jobs_of_body p (bound_parts p (inside first) bind) body) (jobs_of_arms p (insides parts) arms) k)) b part e in
      record { bind = r.bind; body = r.body; is = r.is; may = r.may; fits = r.fits; inner = r.inner }

  abbrev arm_weight : Option (Bind × Body) → Tree → ℕ
  arm_weight (Some z) s = body_weight p q f z.1 (bound z.0 s)
  arm_weight Option.None s = 0

  abbrev arm_number : Option (Bind × Body) → ℕ → ℕ → ℕ
  arm_number (Some z) y n = scope_number p.universe (number p q f) (total p q f) (scope_of p y z.0 z.1) n
  arm_number Option.None y n = 0

  arms_sum : (arms : Arms) (parts : List Part) (n : ℕ) → FitsArms p (insides parts) arms
      → sum_below (λ b. arm_number (arm_at arms b) (get_or parts b no_part).node n) (length parts) ≡ sum_by (λ (S : Scope). scope_number p.universe (number p q f) (total p q f) S n) (scopes_of p (nodes parts) arms)
  arms_sum arms [] n g = refl
  arms_sum no_arms (first ∷ parts) n g = absurd g
  arms_sum (arm bind body arms) (first ∷ parts) n g =
      sum_below-shift (λ b. arm_number (arm_at (arm bind body arms) b) (get_or (first ∷ parts) b no_part).node n) (length parts)
      ∙ ap (λ m. scope_number p.universe (number p q f) (total p q f) (scope_of p first.node bind body) n + m) (arms_sum arms parts n g.2)
      ∙ sym (sum_by-cons (λ (S : Scope). scope_number p.universe (number p q f) (total p q f) S n) (scope_of p first.node bind body) (scopes_of p (nodes parts) arms))

  union_is : (site : ℕ) (x : Part) (n : ℕ) (arms : Arms) (parts : List Part) → In (record { site = site; on = x; doing = chooses arms }) (jobs_of p) → shape_of p x.node ≡ shape.Union parts
      → FitsArms p (insides parts) arms → AreAmong (jobs_of_arms p (insides parts) arms)
      → IsTotal p site n (sum_by (λ (S : Scope). scope_number p.universe (number p q f) (total p q f) S n) (scopes_of p (nodes parts) arms))
  union_is site x n arms parts i e g a =
      let k = job_is p q (record { site = site; on = x; doing = chooses arms }) i in
      subst (IsTotal p site n) (arms_sum arms parts n g)
      (case_total p site n arms parts (λ b. arm_weight (arm_at arms b)) (λ b. arm_number (arm_at arms b) (get_or parts b no_part).node n) k.there (ap (shape_of p) k.node_is ∙ e)
      (λ b part h.
      let r = arm_there arms parts g a b part h in (
        r.bind,
        r.body,
        r.is,
        (λ s m. subst (λ (o : Option (Bind × Body)). BodyCharges (Charges p) r.body (bound r.bind s) (arm_weight o s)) (sym r.is)
            (scope_charged p q f r.body (parts_bound p part r.bind) (bound r.bind s) r.fits (bound_stands p part r.bind s r.may m) r.inner)),
        subst (λ (z : Part). SumsAt p part.node (arm_weight (arm_at arms b)) n (arm_number (arm_at arms b) z.node n)) (sym (get_or_from_slice_get parts b part no_part h))
            (subst (λ (o : Option (Bind × Body)). SumsAt p part.node (arm_weight o) n (arm_number o part.node n)) (sym r.is) (scope_total p q f part n r.bind r.body r.may r.fits r.inner)),
      )))

  tuple_charges : (parts : List Part) (bind : Bind) (body : Body) (w : ℕ) (s : Tree) → Fits p (shape.Product parts) s → BodyCharges (Charges p) body (bound bind s) w → CaseCharges (Charges p) (arm bind body no_arms) s w
  tuple_charges parts bind body w (Atom v l) m c = absurd m
  tuple_charges parts bind body w (Inj b t) m c = absurd m
  tuple_charges parts bind body w (Tup us) m c = c
  tuple_charges parts bind body w (Coll us) m c = absurd m

  product_is : (site : ℕ) (x : Part) (n : ℕ) (arms : Arms) (parts : List Part) → In (record { site = site; on = x; doing = chooses arms }) (jobs_of p) → shape_of p x.node ≡ shape.Product parts
      → FitsArms p (itself x ∷ []) arms → AreAmong (jobs_of_arms p (itself x ∷ []) arms)
      → IsTotal p site n (sum_by (λ (S : Scope). scope_number p.universe (number p q f) (total p q f) S n) (scopes_of p (x.node ∷ []) arms))
  product_is site x n no_arms parts i e g a = absurd g
  product_is site x n (arm bind body (arm other more_body arms)) parts i e g a = absurd g.2
  product_is site x n (arm bind body no_arms) parts i e g a =
      let bound_same = bound_is p (itself x) bind in
      let may = bind_fits p (itself x) bind g.0 in
      let fits : FitsBody p (parts_bound p x bind) body = subst (λ (xs : List Part). FitsBody p xs body) bound_same g.1 in
      let inner : AreAmong (jobs_of_body p (parts_bound p x bind) body) = subst (λ (xs : List Part). AreAmong (jobs_of_body p xs body)) bound_same (λ z k. a z (In-append_left z (jobs_of_body p (bound_parts p (itself x) bind) body) [] k)) in
      subst (IsTotal p site n) (one_scope (scope_of p x.node bind body) n)
      (from_sum (record { site = site; on = x; doing = chooses (arm bind body no_arms) }) i n (scope_number p.universe (number p q f) (total p q f) (scope_of p x.node bind body) n) (λ s. body_weight p q f body (bound bind s))
      (λ s m. tuple_charges parts bind body (body_weight p q f body (bound bind s)) s (subst (λ (z : Shape). Fits p z s) e m) (scope_charged p q f body (parts_bound p x bind) (bound bind s) fits (bound_stands p x bind s may m) inner))
      (scope_total p q f x n bind body may fits inner))

  case_of : (site : ℕ) (x : Part) (n : ℕ) (arms : Arms) (s : Shape) → In (record { site = site; on = x; doing = chooses arms }) (jobs_of p) → shape_of p x.node ≡ s → 1 ≤ length (stands x s) → FitsArms p (stands x s) arms → AreAmong (jobs_of_arms p (stands x s) arms)
      → IsTotal p site n (sum_by (λ (S : Scope). scope_number p.universe (number p q f) (total p q f) S n) (scopes_of p (stand_nodes x.node s) arms))
  case_of site x n arms (shape.Atom w) i e l g a = absurd (omega (arith, l))
  case_of site x n arms (shape.Coll kind part low high) i e l g a = absurd (omega (arith, l))
  case_of site x n arms (shape.Union parts) i e l g a = union_is site x n arms parts i e g a
  case_of site x n arms (shape.Product parts) i e l g a = product_is site x n arms parts i e g a

  case_is : (site : ℕ) (x : Part) (n : ℕ) (arms : Arms) → In (record { site = site; on = x; doing = chooses arms }) (jobs_of p) → IsRight (record { site = site; on = x; doing = chooses arms }) n
  case_is site x n arms i = let k = job_is p q (record { site = site; on = x; doing = chooses arms }) i in case_of site x n arms (shape_of p x.node) i refl k.fits.0 k.fits.1 k.inner

  -- ---- walks
  collection_there : (s : Shape) → IsCollection s → (kind : Kind) × (part : Part) × (low : ℕ) × (high : Option ℕ) × (s ≡ shape.Coll kind part low high)
  collection_there (shape.Atom w) i = absurd i
  collection_there (shape.Union parts) i = absurd i
  collection_there (shape.Product parts) i = absurd i
  collection_there (shape.Coll kind part low high) i = (kind, part, low, high, refl)

  walk_is : (site : ℕ) (x : Part) (n body_site : ℕ) (body : Body) → In (record { site = site; on = x; doing = walks body body_site }) (jobs_of p) → IsRight (record { site = site; on = x; doing = walks body body_site }) n
  walk_is site x n body_site body i =
      let k = job_is p q (record { site = site; on = x; doing = walks body body_site }) i in
      let c = collection_there (shape_of p x.node) k.fits.0 in
      let kind : Kind = c.0 in
      let part : Part = c.1 in
      let e : shape_of p x.node ≡ shape.Coll kind part c.2 c.3 = c.4 in
      let own : Job = record { site = body_site; on = component (shape_of p x.node); doing = does body } in
      let among : In own (jobs_of p) = k.inner own (In-append_right own (jobs_of_body p (component (shape_of p x.node) ∷ []) body) (own ∷ []) (inl refl)) in
      let here : (component (shape_of p x.node)).node ≡ part.node = ap (λ (s : Shape). (component s).node) e in
      let known : (m : ℕ) → SumsAt p part.node (weight p q f body_site) m (total p q f body_site m) = λ m. subst (λ y. SumsAt p y (weight p q f body_site) m (total p q f body_site m)) here (job_total p q f own among m) in
      let r = room_of p.universe 0 in
      let none : total p q f body_site 0 ≡ 0 =
      Sums-unique (IsStructureOn p part.node (labels_from 1 0) 0) (weight p q f body_site) (total p q f body_site 0) 0 (known 0 (labels_from 1 0) r)
      (Sums-none (IsStructureOn p part.node (labels_from 1 0) 0) (weight p q f body_site) (λ t m. solid p q f x.node c.2 kind part c.3 e t m.0 m.1)) in
      subst (λ (s : Shape). IsTotal p site n (walk_number p.universe (number p q f) (total p q f) s body_site n)) (sym e)
      (walk_total p site n body kind part c.2 c.3 (weight p q f body_site) (number p q f part.node) (total p q f body_site) k.there (ap (shape_of p) k.node_is ∙ e) (light p q f) (suits p q f x.node c.2 kind part c.3 e) (solid p q f x.node c.2 kind part c.3 e)
      (λ t m. job_charges p q f own among t (subst (λ y. Member p y t) (sym here) m)) (component_none p q f x.node c.2 kind part c.3 e) none
      (λ m a b. (number_known p q f part.node m, known m)) (λ o. (number_known p q f part.node n, known n)))

  recipe_is : (site : ℕ) (x : Part) (n : ℕ) (d : Doing) → In (record { site = site; on = x; doing = d }) (jobs_of p) → IsRight (record { site = site; on = x; doing = d }) n
  recipe_is site x n (does body) i = body_is site x n body i
  recipe_is site x n (calls callee) i = call_is site x n callee i
  recipe_is site x n (chooses arms) i = case_is site x n arms i
  recipe_is site x n (walks body body_site) i = walk_is site x n body_site body i

  -- THE LAW: the total of a site is the number of its recipe
  pub equation : (j : Job) (n : ℕ) → In j (jobs_of p) → total p q f j.site n ≡ recipe_number p (number p q f) (total p q f) (recipe_of p j.on.node j.doing) n
  equation j n i =
      totals_are_single p (sites_are_apart p q) j.site n (total p q f j.site n) (recipe_number p (number p q f) (total p q f) (recipe_of p j.on.node j.doing) n) (total_is p q f j.site n (job_is p q j i).within) (recipe_is j.site j.on n j.doing i)
