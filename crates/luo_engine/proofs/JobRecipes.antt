-- The recipes of a program are those of its jobs, and the rows of their factors are there.
use Rattle.std.proofs.Common.{◌≡◌, inl, inr, ⊎_elim, ℕ, suc, ◌<◌, List, [], ◌∷◌, ◌++◌, length, map, flat_map, slice_get, refl, sym, ◌∙◌, ap, subst, None, Some, Option}
use Rattle.std.proofs.lemmas.List.{map-append}
use Rattle.luo_finite.specs.Listing.{In}
use Rattle.luo_finite.proofs.Places.{place_in, get_map, In_get}
use Rattle.luo_finite.proofs.Membership.{In-map_back}
use Rattle.std.proofs.lemmas.Option.{get_or_from_slice_get}
use Rattle.luo_model.specs.declared.body.Bind.{Bind}
use Rattle.luo_model.specs.declared.body.Bind.TheVariants.{Nothing, Whole, Parts}
use Rattle.luo_model.specs.declared.program.Part.{Part}
use Rattle.luo_model.specs.declared.program.Shape.{Shape}
use Rattle.luo_model.specs.declared.program.Shape.TheVariants as shape
use Rattle.luo_model.specs.Program.{Program, Procedure, Body, Does, Items, no_items, item, Item, Call, Case, Forall, Arms, no_arms, arm, shape_of, site_node}
use Rattle.luo_model.specs.Scopes.Stands.{Stand, stand_part, stands, factors, component, bound_parts, part_at, no_part}
use Rattle.luo_model.specs.Scopes.Fits.{FitsBody, FitsItems, FitsItem, FitsArms}
use Rattle.luo_model.specs.Invariant.{IsProgram}
use Rattle.luo_model.proofs.NodeLemmas.{node_at_place}
use Rattle.luo_engine.specs.inner.Filled.{IsLaid}
use Rattle.luo_engine.specs.inner.Laying.{recipes_of_body, recipes_of_items, recipes_of_item, recipes_of_arms, recipes_of_procedure, recipes_of}
use Rattle.luo_recipes.specs.Tasks.{Doing, does, calls, chooses, walks, Job, jobs_of_body, jobs_of_items, jobs_of_item, jobs_of_arms, jobs_of_procedure, jobs_of, FactorSites, Scope, factors_from, scope_of, scopes_of, stand_nodes, Recipe, recipe_of}
use Rattle.luo_recipes.proofs.JobLemmas.{job_is}
use Rattle.luo_engine.proofs.LaidLemmas.{HasRows, RecipeRows}

module _ (p : Program) where
  -- the recipe of a job, by its site's node
  abbrev pub recipe_at : Job → Recipe
  recipe_at j = recipe_of p (site_node p j.site) j.doing

  join : {A B : Type 0} (f : A → B) (xs ys : List A) (vs ws : List B) → map f xs ≡ vs → map f ys ≡ ws → map f (xs ++ ys) ≡ vs ++ ws
  join f xs ys vs ws e h = map-append f xs ys ∙ ap (λ l. l ++ map f ys) e ∙ ap (λ l. vs ++ l) h

  mutual
    body_same : (body : Body) (vars : List Part) → FitsBody p vars body → map recipe_at (jobs_of_body p vars body) ≡ recipes_of_body p body
    body_same (Does own items) vars f = items_same items vars f.1

    items_same : (items : Items) (vars : List Part) → FitsItems p vars items → map recipe_at (jobs_of_items p vars items) ≡ recipes_of_items p items
    items_same no_items vars f = refl
    items_same (item i is) vars f = join recipe_at (jobs_of_item p vars i) (jobs_of_items p vars is) (recipes_of_item p i) (recipes_of_items p is) (item_same i vars f.0) (items_same is vars f.1)

    item_same : (i : Item) (vars : List Part) → FitsItem p vars i → map recipe_at (jobs_of_item p vars i) ≡ recipes_of_item p i
    item_same (Call var callee site) vars f = refl
    item_same (Case var arms site) vars f =
        let x = part_at vars var in
        let e : x ≡ f.0 = get_or_from_slice_get vars var f.0 no_part f.1 in
        join recipe_at (jobs_of_arms p (stands x (shape_of p x.node)) arms) (record { site = site; on = x; doing = chooses arms } ∷ []) (recipes_of_arms p arms) (recipe_of p (site_node p site) (chooses arms) ∷ [])
        (arms_same arms (stands x (shape_of p x.node)) (subst (λ (y : Part). FitsArms p (stands y (shape_of p y.node)) arms) (sym e) f.3)) refl
    item_same (Forall var body body_site site) vars f =
        let x = part_at vars var in
        let e : x ≡ f.0 = get_or_from_slice_get vars var f.0 no_part f.1 in
        let y = component (shape_of p x.node) in
        join recipe_at (jobs_of_body p (y ∷ []) body) (record { site = body_site; on = y; doing = does body } ∷ (record { site = site; on = x; doing = walks body body_site } ∷ [])) (recipes_of_body p body)
        (recipe_of p (site_node p body_site) (does body) ∷ (recipe_of p (site_node p site) (walks body body_site) ∷ []))
        (body_same body (y ∷ []) (subst (λ (z : Part). FitsBody p (component (shape_of p z.node) ∷ []) body) (sym e) f.3)) refl

    arms_same : (arms : Arms) (all : List Stand) → FitsArms p all arms → map recipe_at (jobs_of_arms p all arms) ≡ recipes_of_arms p arms
    arms_same no_arms [] f = refl
    arms_same no_arms (stand ∷ rest) f = absurd f
    arms_same (arm bind body arms) [] f = absurd f
    arms_same (arm bind body arms) (stand ∷ rest) f =
        join recipe_at (jobs_of_body p (bound_parts p stand bind) body) (jobs_of_arms p rest arms) (recipes_of_body p body) (recipes_of_arms p arms) (body_same body (bound_parts p stand bind) f.1) (arms_same arms rest f.2)

  all_same : (Ps : List Procedure) → ((P : Procedure) → In P Ps → FitsBody p (P.on ∷ []) P.body) → map recipe_at (flat_map (jobs_of_procedure p) Ps) ≡ flat_map (recipes_of_procedure p) Ps
  all_same [] h = refl
  all_same (P ∷ Ps) h =
      join recipe_at (jobs_of_procedure p P) (flat_map (jobs_of_procedure p) Ps) (recipes_of_procedure p P) (flat_map (recipes_of_procedure p) Ps)
      (join recipe_at (jobs_of_body p (P.on ∷ []) P.body) (record { site = P.site; on = P.on; doing = does P.body } ∷ []) (recipes_of_body p P.body) (recipe_of p (site_node p P.site) (does P.body) ∷ []) (body_same P.body (P.on ∷ []) (h P (inl refl))) refl)
      (all_same Ps (λ Q i. h Q (inr i)))

  pub recipes_are : IsProgram p → map recipe_at (jobs_of p) ≡ recipes_of p
  recipes_are q = all_same p.procs (λ P i. let r = place_in P p.procs i in (q.procedures r.0 P r.1).1)

  -- the recipe at the place of a job is the job's
  pub recipe_there : IsProgram p → (i : ℕ) (j : Job) → slice_get (jobs_of p) i ≡ Some j → slice_get (recipes_of p) i ≡ Some (recipe_of p j.on.node j.doing)
  recipe_there q i j e =
      ap (λ (l : List Recipe). slice_get l i) (sym (recipes_are q)) ∙ get_map recipe_at (jobs_of p) i j e
      ∙ ap (λ x. Some (recipe_of p x j.doing)) (job_is p q j (In_get (jobs_of p) i j e)).node_is

  -- ---- rows
  module _ (starts : List ℕ) (rows : List (Option ℕ)) (laid : IsLaid p starts rows) where
    nodes_are : (is : Items) (j : ℕ) (parts : List Part) → map (λ (part : Part). Some part.node) parts ≡ map (λ (F : FactorSites). Some F.node) (factors_from is j parts)
    nodes_are is j [] = refl
    nodes_are is j (part ∷ parts) = ap (λ (l : List (Option ℕ)). Some part.node ∷ l) (nodes_are is (suc j) parts)

    pub product_there : (y : ℕ) (parts : List Part) → shape_of p y ≡ shape.Product parts → y < length p.nodes
    product_there y parts e = ⊎_elim (λ n. n.3) (λ o. absurd (never parts (sym o ∙ e))) (node_at_place p y)
      where
        never : (parts : List Part) → shape.Union [] ≡ shape.Product parts → ⊥
        never parts e = absurd (cc)

    parts_have : (own y : ℕ) (is : Items) (s : Shape) → shape_of p y ≡ s → HasRows starts rows (record { own = own; node = y; sites = []; parts = factors_from is 0 (factors s) })
    parts_have own y is (shape.Atom w) e = inl refl
    parts_have own y is (shape.Union parts) e = inl refl
    parts_have own y is (shape.Coll kind part low high) e = inl refl
    parts_have own y is (shape.Product parts) e = let r = laid.products y parts (product_there y parts e) e in inr (r.0, r.1 ∙ ap (λ (l : List (Option ℕ)). l ++ (None ∷ r.0)) (nodes_are is 0 parts))

    scope_has : (y : ℕ) (bind : Bind) (body : Body) → HasRows starts rows (scope_of p y bind body)
    scope_has y Nothing (Does own is) = inl refl
    scope_has y Whole (Does own is) = inl refl
    scope_has y (Parts k) (Does own is) = parts_have own y is (shape_of p y) refl

    scopes_have : (all : List ℕ) (arms : Arms) (S : Scope) → In S (scopes_of p all arms) → HasRows starts rows S
    scopes_have [] arms S h = absurd h
    scopes_have (y ∷ rest) no_arms S h = absurd h
    scopes_have (y ∷ rest) (arm bind body arms) S (inl e) = subst (HasRows starts rows) (sym e) (scope_has y bind body)
    scopes_have (y ∷ rest) (arm bind body arms) S (inr h) = scopes_have rest arms S h

    recipe_has : (x : ℕ) (d : Doing) → RecipeRows starts rows (recipe_of p x d)
    recipe_has x (does body) = λ S h. ⊎_elim (λ e. subst (HasRows starts rows) (sym e) (scope_has x Whole body)) (λ i. absurd i) h
    recipe_has x (calls callee) = λ S h. ⊎_elim (λ e. subst (HasRows starts rows) (sym e) (inl refl)) (λ i. absurd i) h
    recipe_has x (chooses arms) = scopes_have (stand_nodes x (shape_of p x)) arms
    recipe_has x (walks body body_site) = tt

    pub recipes_have : IsProgram p → (r : Recipe) → In r (recipes_of p) → RecipeRows starts rows r
    recipes_have q r h =
        let b = In-map_back recipe_at r (jobs_of p) (subst (In r) (sym (recipes_are q)) h) in
        subst (RecipeRows starts rows) (sym b.2) (recipe_has (site_node p b.0.site) b.0.doing)
