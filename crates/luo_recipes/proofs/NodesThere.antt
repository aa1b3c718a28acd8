-- The nodes of jobs are there.
use Rattle.std.proofs.Common.{◌≡◌, ℕ, ◌<◌, inl, inr, ⊎_elim, List, [], ◌∷◌, ◌++◌, length, flat_map, slice_get, refl, sym, subst, Some}
use Rattle.std.proofs.lemmas.Option.{get_or_from_slice_get}
use Rattle.luo_finite.specs.Listing.{In}
use Rattle.luo_finite.proofs.Membership.{In-append_cases, In-map_back}
use Rattle.luo_finite.proofs.Places.{In_get, place_in}
use Rattle.luo_model.specs.declared.body.Bind.{Bind}
use Rattle.luo_model.specs.declared.body.Bind.TheVariants.{Nothing, Whole, Parts}
use Rattle.luo_model.specs.declared.program.Part.{Part}
use Rattle.luo_model.specs.declared.program.Shape.{Shape}
use Rattle.luo_model.specs.declared.program.Shape.TheVariants as shape
use Rattle.luo_model.specs.Program.{Program, Procedure, Body, Does, Items, no_items, item, Item, Call, Case, Forall, Arms, no_arms, arm, shape_of}
use Rattle.luo_model.specs.Scopes.Stands.{Stand, stand_part, inside, stands, factors, component, IsCollection, bound_parts, part_at, no_part}
use Rattle.luo_model.specs.Scopes.Fits.{FitsBody, FitsItems, FitsItem, FitsArms}
use Rattle.luo_model.specs.Invariant.{IsProgram, inner_parts}
use Rattle.luo_model.proofs.NodeLemmas.{node_at_place}
use Rattle.luo_recipes.specs.Tasks.{does, calls, chooses, walks, Job, jobs_of_body, jobs_of_items, jobs_of_item, jobs_of_arms, jobs_of_procedure, jobs_of}

module _ (p : Program) (q : IsProgram p) where
  abbrev pub AreThere : List Part → Type 0
  AreThere xs = (x : Part) → In x xs → x.node < length p.nodes

  abbrev JobsThere : List Job → Type 0
  JobsThere jobs = (j : Job) → In j jobs → j.on.node < length p.nodes

  pub inner_there : (x : ℕ) (part : Part) → In part (inner_parts (shape_of p x)) → part.node < length p.nodes
  inner_there x part i = ⊎_elim
      (λ n. (q.parts_there x n.0 n.1 part (subst (λ (s : Shape). In part (inner_parts s)) n.2 i)).0)
      (λ o. absurd (subst (λ (s : Shape). In part (inner_parts s)) o i)) (node_at_place p x)

  -- the nodes of factors, and the node of components
  factors_there : (s : Shape) → ((part : Part) → In part (inner_parts s) → part.node < length p.nodes) → AreThere (factors s)
  factors_there (shape.Atom w) h x i = absurd i
  factors_there (shape.Union parts) h x i = absurd i
  factors_there (shape.Coll kind part low high) h x i = absurd i
  factors_there (shape.Product parts) h x i = h x i

  component_there : (s : Shape) → ((part : Part) → In part (inner_parts s) → part.node < length p.nodes) → IsCollection s → (component s).node < length p.nodes
  component_there (shape.Atom w) h i = absurd i
  component_there (shape.Union parts) h i = absurd i
  component_there (shape.Product parts) h i = absurd i
  component_there (shape.Coll kind part low high) h i = h part (inl refl)

  stands_there : (x : Part) (s : Shape) → x.node < length p.nodes → ((part : Part) → In part (inner_parts s) → part.node < length p.nodes) → (z : Stand) → In z (stands x s) → (stand_part z).node < length p.nodes
  stands_there x (shape.Atom w) l h z i = absurd i
  stands_there x (shape.Coll kind part low high) l h z i = absurd i
  stands_there x (shape.Union parts) l h z i = let r = In-map_back inside z parts i in subst (λ (w : Stand). (stand_part w).node < length p.nodes) (sym r.2) (h r.0 r.1)
  stands_there x (shape.Product parts) l h z (inl e) = subst (λ (w : Stand). (stand_part w).node < length p.nodes) (sym e) l
  stands_there x (shape.Product parts) l h z (inr i) = absurd i

  one_there : (x : Part) → x.node < length p.nodes → AreThere (x ∷ [])
  one_there x l y (inl e) = subst (λ (z : Part). z.node < length p.nodes) (sym e) l
  one_there x l y (inr i) = absurd i

  bound_there : (stand : Stand) (bind : Bind) → (stand_part stand).node < length p.nodes → AreThere (bound_parts p stand bind)
  bound_there stand Nothing l = λ x i. absurd i
  bound_there stand Whole l = one_there (stand_part stand) l
  bound_there stand (Parts k) l = factors_there (shape_of p (stand_part stand).node) (inner_there (stand_part stand).node)

  var_node : (vars : List Part) (var : ℕ) (x : Part) → AreThere vars → slice_get vars var ≡ Some x → (part_at vars var).node < length p.nodes
  var_node vars var x a e = subst (λ (z : Part). z.node < length p.nodes) (sym (get_or_from_slice_get vars var x no_part e)) (a x (In_get vars var x e))

  both_there : (i j : List Job) → JobsThere i → JobsThere j → JobsThere (i ++ j)
  both_there i j a b x h = ⊎_elim (a x) (b x) (In-append_cases x i j h)

  last_there : (j : Job) → j.on.node < length p.nodes → JobsThere (j ∷ [])
  last_there j l x (inl e) = subst (λ (z : Job). z.on.node < length p.nodes) (sym e) l
  last_there j l x (inr i) = absurd i

  mutual
    body_there : (body : Body) (vars : List Part) → FitsBody p vars body → AreThere vars → JobsThere (jobs_of_body p vars body)
    body_there (Does own items) vars f a = items_there items vars f.1 a

    items_there : (items : Items) (vars : List Part) → FitsItems p vars items → AreThere vars → JobsThere (jobs_of_items p vars items)
    items_there no_items vars f a = λ j h. absurd h
    items_there (item i is) vars f a = both_there (jobs_of_item p vars i) (jobs_of_items p vars is) (item_there i vars f.0 a) (items_there is vars f.1 a)

    item_there : (i : Item) (vars : List Part) → FitsItem p vars i → AreThere vars → JobsThere (jobs_of_item p vars i)
    item_there (Call var callee site) vars f a = last_there (record { site = site; on = part_at vars var; doing = calls callee }) (var_node vars var f.1 a f.3)
    item_there (Case var arms site) vars f a =
        let x = part_at vars var in
        let e : x ≡ f.0 = get_or_from_slice_get vars var f.0 no_part f.1 in
        let l : x.node < length p.nodes = var_node vars var f.0 a f.1 in
        both_there (jobs_of_arms p (stands x (shape_of p x.node)) arms) (record { site = site; on = x; doing = chooses arms } ∷ [])
        (arms_there arms (stands x (shape_of p x.node)) (subst (λ (y : Part). FitsArms p (stands y (shape_of p y.node)) arms) (sym e) f.3) (stands_there x (shape_of p x.node) l (inner_there x.node)))
        (last_there (record { site = site; on = x; doing = chooses arms }) l)
    item_there (Forall var body body_site site) vars f a =
        let x = part_at vars var in
        let e : x ≡ f.0 = get_or_from_slice_get vars var f.0 no_part f.1 in
        let l : x.node < length p.nodes = var_node vars var f.0 a f.1 in
        let y = component (shape_of p x.node) in
        let m : y.node < length p.nodes =
        component_there (shape_of p x.node) (inner_there x.node) (subst (λ (z : Part). IsCollection (shape_of p z.node)) (sym e) f.2) in
        both_there (jobs_of_body p (y ∷ []) body) (record { site = body_site; on = y; doing = does body } ∷ (record { site = site; on = x; doing = walks body body_site } ∷ []))
        (body_there body (y ∷ []) (subst (λ (z : Part). FitsBody p (component (shape_of p z.node) ∷ []) body) (sym e) f.3) (one_there y m))
        (both_there (record { site = body_site; on = y; doing = does body } ∷ []) (record { site = site; on = x; doing = walks body body_site } ∷ [])
        (last_there (record { site = body_site; on = y; doing = does body }) m) (last_there (record { site = site; on = x; doing = walks body body_site }) l))

    arms_there : (arms : Arms) (all : List Stand) → FitsArms p all arms → ((z : Stand) → In z all → (stand_part z).node < length p.nodes) → JobsThere (jobs_of_arms p all arms)
    arms_there no_arms [] f a = λ j h. absurd h
    arms_there no_arms (stand ∷ rest) f a = absurd f
    arms_there (arm bind body arms) [] f a = absurd f
    arms_there (arm bind body arms) (stand ∷ rest) f a =
        both_there (jobs_of_body p (bound_parts p stand bind) body) (jobs_of_arms p rest arms)
        (body_there body (bound_parts p stand bind) f.1 (bound_there stand bind (a stand (inl refl)))) (arms_there arms rest f.2 (λ z i. a z (inr i)))

  all_there : (Ps : List Procedure) → ((P : Procedure) → In P Ps → FitsBody p (P.on ∷ []) P.body × (P.on.node < length p.nodes)) → JobsThere (flat_map (jobs_of_procedure p) Ps)
  all_there [] h = λ j i. absurd i
  all_there (P ∷ Ps) h =
      let k = h P (inl refl) in
      both_there (jobs_of_procedure p P) (flat_map (jobs_of_procedure p) Ps)
      (both_there (jobs_of_body p (P.on ∷ []) P.body) (record { site = P.site; on = P.on; doing = does P.body } ∷ []) (body_there P.body (P.on ∷ []) k.0 (one_there P.on k.1)) (last_there (record { site = P.site; on = P.on; doing = does P.body }) k.1))
      (all_there Ps (λ Q i. h Q (inr i)))

  pub job_node_there : (j : Job) → In j (jobs_of p) → j.on.node < length p.nodes
  job_node_there = all_there p.procs (λ P i. let r = place_in P p.procs i in let k = q.procedures r.0 P r.1 in (k.1, k.0.0.0))
