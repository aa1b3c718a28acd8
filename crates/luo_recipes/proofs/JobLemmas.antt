-- The jobs of a program: their sites, their nodes, and the jobs inside them.
use Rattle.std.proofs.Common.{◌≡◌, ◌⊎◌, ℕ, zero, suc, ◌+◌, ◌≤◌, ◌<◌, List, [], ◌∷◌, ◌++◌, inl, inr, ⊎_elim, length, map, flat_map, refl, sym, ◌∙◌, ap, subst, arith, Some, slice_get}
use Rattle.std.proofs.lemmas.Option.{get_or_from_slice_get, slice_get_within}
use Rattle.std.proofs.lemmas.List.{map-append}
use Rattle.luo_finite.specs.Listing.{In}
use Rattle.luo_finite.proofs.Membership.{In-append_left, In-append_right, In-append_cases}
use Rattle.luo_finite.proofs.Places.{some_same, none_some, place_in, get_map}
use Rattle.luo_model.specs.declared.program.Part.{Part}
use Rattle.luo_model.specs.declared.program.Site.{Site}
use Rattle.luo_model.specs.Program.{Program, Procedure, Body, Does, Items, no_items, item, Item, Call, Case, Forall, Arms, no_arms, arm, shape_of, site_node}
use Rattle.luo_model.specs.Charges.{Work, of_body, of_walk, works_of_body, works_of_items, works_of_item, works_of_arms, works_of_procedure, works_of}
use Rattle.luo_model.specs.Scopes.Stands.{Stand, stands, component, bound_parts, part_at, no_part, IsCollection}
use Rattle.luo_model.specs.Scopes.Fits.{FitsBody, FitsItems, FitsItem, FitsArms}
use Rattle.luo_model.specs.Scopes.Sites.{body_sites, items_sites, item_sites, arms_sites}
use Rattle.luo_model.specs.Invariant.{IsProgram, procedure_sites, placed, sites_from, numbered_from}
use Rattle.luo_model.proofs.WorkLemmas.{WorkOn}
use Rattle.luo_recipes.specs.Tasks.{does, calls, chooses, walks, work_of, Job, jobs_of_body, jobs_of_items, jobs_of_item, jobs_of_arms, jobs_of_procedure, jobs_of, inner_jobs}

abbrev Inside : {A : Type 0} → List A → List A → Type 0
Inside {A} xs ys = (x : A) → In x xs → In x ys

-- the job's work is among these, fits, and what is inside it is among these jobs
pub record IsJobIn (p : Program) (W : List (ℕ × Work)) (Z : List Job) (j : Job) : Type 0 where
  pub there : In (j.site, work_of j.doing) W
  pub fits : WorkOn p j.on (work_of j.doing)
  pub inner : (z : Job) → In z (inner_jobs p j.on j.doing) → In z Z

module _ (p : Program) where
  abbrev AreJobs : List (ℕ × Work) → List Job → Type 0
  AreJobs works jobs = (W : List (ℕ × Work)) (Z : List Job) → Inside works W → Inside jobs Z → (j : Job) → In j jobs → IsJobIn p W Z j

  jobs_both : (v w : List (ℕ × Work)) (i j : List Job) → AreJobs v i → AreJobs w j → AreJobs (v ++ w) (i ++ j)
  jobs_both v w i j a b W Z f g x h =
      ⊎_elim (λ k. a W Z (λ y l. f y (In-append_left y v w l)) (λ y l. g y (In-append_left y i j l)) x k)
      (λ k. b W Z (λ y l. f y (In-append_right y v w l)) (λ y l. g y (In-append_right y i j l)) x k) (In-append_cases x i j h)

  -- one more job, with the jobs inside it before it
  last_job : (works : List (ℕ × Work)) (jobs : List Job) (j : Job) → WorkOn p j.on (work_of j.doing) → ((z : Job) → In z (inner_jobs p j.on j.doing) → In z jobs)
      → (W : List (ℕ × Work)) (Z : List Job) → Inside (works ++ (j.site, work_of j.doing) ∷ []) W → Inside (jobs ++ j ∷ []) Z → (x : Job) → j ≡ x → IsJobIn p W Z x
  last_job works jobs j fits inner W Z f g x e = subst (IsJobIn p W Z) e (record {
    there = f (j.site, work_of j.doing) (In-append_right (j.site, work_of j.doing) works ((j.site, work_of j.doing) ∷ []) (inl refl));
    fits = fits;
    inner = λ z l. g z (In-append_left z jobs (j ∷ []) (inner z l));
  })

  jobs_last : (works : List (ℕ × Work)) (jobs : List Job) (j : Job) → AreJobs works jobs → WorkOn p j.on (work_of j.doing) → ((z : Job) → In z (inner_jobs p j.on j.doing) → In z jobs)
      → AreJobs (works ++ (j.site, work_of j.doing) ∷ []) (jobs ++ j ∷ [])
  jobs_last works jobs j a fits inner W Z f g x h = by (In-append_cases x jobs (j ∷ []) h)
    where
      by : In x jobs ⊎ In x (j ∷ []) → IsJobIn p W Z x
      by (inl k) = a W Z (λ y l. f y (In-append_left y works ((j.site, work_of j.doing) ∷ []) l)) (λ y l. g y (In-append_left y jobs (j ∷ []) l)) x k
      by (inr (inl e)) = last_job works jobs j fits inner W Z f g x (sym e)
      by (inr (inr l)) = absurd l

  append_two : {A : Type 0} (xs : List A) (a b : A) → (xs ++ a ∷ []) ++ b ∷ [] ≡ xs ++ a ∷ (b ∷ [])
  append_two [] a b = refl
  append_two (x ∷ xs) a b = ap (λ l. x ∷ l) (append_two xs a b)

  mutual
    body_jobs : (body : Body) (vars : List Part) → FitsBody p vars body → AreJobs (works_of_body body) (jobs_of_body p vars body)
    body_jobs (Does own items) vars f = items_jobs items vars f.1

    items_jobs : (items : Items) (vars : List Part) → FitsItems p vars items → AreJobs (works_of_items items) (jobs_of_items p vars items)
    items_jobs no_items vars f = λ W Z a b j h. absurd h
    items_jobs (item i is) vars f = jobs_both (works_of_item i) (works_of_items is) (jobs_of_item p vars i) (jobs_of_items p vars is) (item_jobs i vars f.0) (items_jobs is vars f.1)

    item_jobs : (i : Item) (vars : List Part) → FitsItem p vars i → AreJobs (works_of_item i) (jobs_of_item p vars i)
    item_jobs (Call var callee site) vars f =
        jobs_last [] [] (record { site = site; on = part_at vars var; doing = calls callee }) (λ W Z a b j h. absurd h) (f.0, f.2, sym (ap (λ (z : Part). z.node) (get_or_from_slice_get vars var f.1 no_part f.3) ∙ f.4)) (λ z l. absurd l)
    item_jobs (Case var arms site) vars f =
        let e : part_at vars var ≡ f.0 = get_or_from_slice_get vars var f.0 no_part f.1 in
        let g : (1 ≤ length (stands (part_at vars var) (shape_of p (part_at vars var).node))) × FitsArms p (stands (part_at vars var) (shape_of p (part_at vars var).node)) arms =
        subst (λ (x : Part). (1 ≤ length (stands x (shape_of p x.node))) × FitsArms p (stands x (shape_of p x.node)) arms) (sym e) (f.2, f.3) in
        jobs_last (works_of_arms arms) (jobs_of_arms p (stands (part_at vars var) (shape_of p (part_at vars var).node)) arms) (record { site = site; on = part_at vars var; doing = chooses arms })
        (arms_jobs arms (stands (part_at vars var) (shape_of p (part_at vars var).node)) g.1) g (λ z l. l)
    item_jobs (Forall var body body_site site) vars f =
        let x = part_at vars var in
        let e : x ≡ f.0 = get_or_from_slice_get vars var f.0 no_part f.1 in
        let g : IsCollection (shape_of p x.node) × FitsBody p (component (shape_of p x.node) ∷ []) body =
        subst (λ (y : Part). IsCollection (shape_of p y.node) × FitsBody p (component (shape_of p y.node) ∷ []) body) (sym e) (f.2, f.3) in
        let inside : List Job = jobs_of_body p (component (shape_of p x.node) ∷ []) body in
        let own : Job = record { site = body_site; on = component (shape_of p x.node); doing = does body } in
        let walk : Job = record { site = site; on = x; doing = walks body body_site } in
        let first : AreJobs (works_of_body body ++ (body_site, of_body body) ∷ []) (inside ++ own ∷ []) =
        jobs_last (works_of_body body) inside own (body_jobs body (component (shape_of p x.node) ∷ []) g.1) g.1 (λ z l. l) in
        subst (λ w. AreJobs w (inside ++ own ∷ (walk ∷ []))) (append_two (works_of_body body) (body_site, of_body body) (site, of_walk body))
        (subst (AreJobs ((works_of_body body ++ (body_site, of_body body) ∷ []) ++ (site, of_walk body) ∷ [])) (append_two inside own walk)
        (jobs_last (works_of_body body ++ (body_site, of_body body) ∷ []) (inside ++ own ∷ []) walk first g (λ z l. l)))

    arms_jobs : (arms : Arms) (all : List Stand) → FitsArms p all arms → AreJobs (works_of_arms arms) (jobs_of_arms p all arms)
    arms_jobs no_arms [] f = λ W Z a b j h. absurd h
    arms_jobs no_arms (stand ∷ rest) f = absurd f
    arms_jobs (arm bind body arms) [] f = absurd f
    arms_jobs (arm bind body arms) (stand ∷ rest) f =
        jobs_both (works_of_body body) (works_of_arms arms) (jobs_of_body p (bound_parts p stand bind) body) (jobs_of_arms p rest arms) (body_jobs body (bound_parts p stand bind) f.1) (arms_jobs arms rest f.2)

  all_jobs : (Ps : List Procedure) → ((P : Procedure) → In P Ps → FitsBody p (P.on ∷ []) P.body) → AreJobs (flat_map works_of_procedure Ps) (flat_map (jobs_of_procedure p) Ps)
  all_jobs [] h = λ W Z a b j k. absurd k
  all_jobs (P ∷ Ps) h =
      jobs_both (works_of_procedure P) (flat_map works_of_procedure Ps) (jobs_of_procedure p P) (flat_map (jobs_of_procedure p) Ps)
      (jobs_last (works_of_body P.body) (jobs_of_body p (P.on ∷ []) P.body) (record { site = P.site; on = P.on; doing = does P.body }) (body_jobs P.body (P.on ∷ []) (h P (inl refl))) (h P (inl refl)) (λ z l. l))
      (all_jobs Ps (λ Q i. h Q (inr i)))

  -- jobs by their sites and nodes
  abbrev pub at : Job → ℕ × ℕ
  at j = (j.site, j.on.node)

  join : {A B : Type 0} (f : A → B) (xs ys : List A) (vs ws : List B) → map f xs ≡ vs → map f ys ≡ ws → map f (xs ++ ys) ≡ vs ++ ws
  join f xs ys vs ws e h = map-append f xs ys ∙ ap (λ l. l ++ map f ys) e ∙ ap (λ l. vs ++ l) h

  mutual
    body_at : (body : Body) (vars : List Part) → map at (jobs_of_body p vars body) ≡ body_sites p vars body
    body_at (Does own items) vars = items_at items vars

    items_at : (items : Items) (vars : List Part) → map at (jobs_of_items p vars items) ≡ items_sites p vars items
    items_at no_items vars = refl
    items_at (item i is) vars = join at (jobs_of_item p vars i) (jobs_of_items p vars is) (item_sites p vars i) (items_sites p vars is) (item_at i vars) (items_at is vars)

    item_at : (i : Item) (vars : List Part) → map at (jobs_of_item p vars i) ≡ item_sites p vars i
    item_at (Call var callee site) vars = refl
    item_at (Case var arms site) vars =
        let x = part_at vars var in
        join at (jobs_of_arms p (stands x (shape_of p x.node)) arms) (record { site = site; on = x; doing = chooses arms } ∷ []) (arms_sites p (stands x (shape_of p x.node)) arms) ((site, x.node) ∷ []) (arms_at arms (stands x (shape_of p x.node))) refl
    item_at (Forall var body body_site site) vars =
        let x = part_at vars var in
        let y = component (shape_of p x.node) in
        join at (jobs_of_body p (y ∷ []) body) (record { site = body_site; on = y; doing = does body } ∷ (record { site = site; on = x; doing = walks body body_site } ∷ [])) (body_sites p (y ∷ []) body) ((body_site, y.node) ∷ ((site, x.node) ∷ []))
        (body_at body (y ∷ [])) refl

    arms_at : (arms : Arms) (all : List Stand) → map at (jobs_of_arms p all arms) ≡ arms_sites p all arms
    arms_at no_arms [] = refl
    arms_at no_arms (stand ∷ rest) = refl
    arms_at (arm bind body arms) [] = refl
    arms_at (arm bind body arms) (stand ∷ rest) =
        join at (jobs_of_body p (bound_parts p stand bind) body) (jobs_of_arms p rest arms) (body_sites p (bound_parts p stand bind) body) (arms_sites p rest arms) (body_at body (bound_parts p stand bind)) (arms_at arms rest)

  -- sites by their numbers and nodes
  abbrev node_of : ℕ × Site → ℕ × ℕ
  node_of s = (s.0, s.1.node)

  placed_nodes : (f place : ℕ) (sites : List (ℕ × ℕ)) → map node_of (placed f place sites) ≡ sites
  placed_nodes f place [] = refl
  placed_nodes f place (site ∷ rest) = ap (λ l. site ∷ l) (placed_nodes f (place + 1) rest)

  all_at : (f : ℕ) (Ps : List Procedure) → map at (flat_map (jobs_of_procedure p) Ps) ≡ map node_of (sites_from p f Ps)
  all_at f [] = refl
  all_at f (P ∷ Ps) =
      join at (jobs_of_procedure p P) (flat_map (jobs_of_procedure p) Ps) (procedure_sites p P) (map node_of (sites_from p (f + 1) Ps))
      (join at (jobs_of_body p (P.on ∷ []) P.body) (record { site = P.site; on = P.on; doing = does P.body } ∷ []) (body_sites p (P.on ∷ []) P.body) ((P.site, P.on.node) ∷ []) (body_at P.body (P.on ∷ [])) refl)
      (all_at (f + 1) Ps)
      ∙ ap (λ l. l ++ map node_of (sites_from p (f + 1) Ps)) (sym (placed_nodes f 0 (procedure_sites p P)))
      ∙ sym (map-append node_of (placed f 0 (procedure_sites p P)) (sites_from p (f + 1) Ps))

  numbered_at : (k : ℕ) (sites : List Site) (i : ℕ) (s : ℕ × ℕ) → slice_get (map node_of (numbered_from k sites)) i ≡ Some s → (site : Site) × (slice_get sites i ≡ Some site) × (s.0 ≡ k + i) × (s.1 ≡ site.node)
  numbered_at k [] i s e = absurd (none_some s e)
  numbered_at k (site ∷ rest) zero s e = let same : (k, site.node) ≡ s = some_same (k, site.node) s e in (site, refl, omega (arith, ap (λ (z : ℕ × ℕ). z.0) same), sym (ap (λ (z : ℕ × ℕ). z.1) same))
  numbered_at k (site ∷ rest) (suc i) s e = let r = numbered_at (k + 1) rest i s e in (r.0, r.1, omega (arith, r.2), r.3)

  numbered_length : (k : ℕ) (sites : List Site) → length (map node_of (numbered_from k sites)) ≡ length sites
  numbered_length k [] = refl
  numbered_length k (site ∷ rest) = omega (arith, numbered_length (k + 1) rest)

  at_length : (jobs : List Job) → length (map at jobs) ≡ length jobs
  at_length [] = refl
  at_length (j ∷ jobs) = omega (arith, at_length jobs)

-- the job is one of the program, on its site's node
pub record IsJob (p : Program) (j : Job) : Type 0 where
  pub there : In (j.site, work_of j.doing) (works_of p)
  pub node_is : site_node p j.site ≡ j.on.node
  pub within : j.site < length p.sites
  pub fits : WorkOn p j.on (work_of j.doing)
  pub inner : (z : Job) → In z (inner_jobs p j.on j.doing) → In z (jobs_of p)

module _ (p : Program) (q : IsProgram p) where
  jobs_at : map (at p) (jobs_of p) ≡ map (node_of p) (numbered_from 0 p.sites)
  jobs_at = all_at p 0 p.procs ∙ ap (map (node_of p)) q.sites

  -- there is one job for each site, and the one at place i is that of site i
  pub jobs_length : length (jobs_of p) ≡ length p.sites
  jobs_length = sym (at_length p (jobs_of p)) ∙ ap length jobs_at ∙ numbered_length p 0 p.sites

  -- what stands at a place
  job_place : (i : ℕ) (j : Job) → slice_get (jobs_of p) i ≡ Some j → (site : Site) × (slice_get p.sites i ≡ Some site) × (j.site ≡ 0 + i) × (j.on.node ≡ site.node)
  job_place i j e = numbered_at p 0 p.sites i (j.site, j.on.node) (ap (λ (l : List (ℕ × ℕ)). slice_get l i) (sym jobs_at) ∙ get_map (at p) (jobs_of p) i j e)

  pub job_site : (i : ℕ) (j : Job) → slice_get (jobs_of p) i ≡ Some j → j.site ≡ i
  job_site i j e = omega (arith, (job_place i j e).2)

  pub job_is : (j : Job) → In j (jobs_of p) → IsJob p j
  job_is j h =
      let a = all_jobs p p.procs (λ P i. let r = place_in P p.procs i in (q.procedures r.0 P r.1).1) (works_of p) (jobs_of p) (λ w i. i) (λ z i. i) j h in
      let r = place_in j (jobs_of p) h in
      let s = job_place r.0 j r.1 in
      let e : j.site ≡ r.0 = omega (arith, s.2) in
      record {
        there = a.there;
        node_is = ap (λ (t : Site). t.node) (get_or_from_slice_get p.sites j.site s.0 (record { node = 0; caller = 0; place = 0 }) (ap (slice_get p.sites) e ∙ s.1)) ∙ sym s.3;
        within = omega (arith, e, slice_get_within p.sites r.0 s.0 s.1);
        fits = a.fits;
        inner = a.inner;
      }
