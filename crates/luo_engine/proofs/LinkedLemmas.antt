-- What the links of a layout name is there.
use Rattle.std.proofs.Common.{◌≡◌, ◌⊎◌, inl, inr, ⊎_elim, ℕ, zero, suc, ◌+◌, ◌<◌, List, [], ◌∷◌, ◌++◌, length, map, drop, slice_get, slice_index, refl, sym, ◌∙◌, ap, subst, arith, None, Some, Option}
use Rattle.std.proofs.lemmas.List.{length-append}
use Rattle.luo_finite.specs.Listing.{In}
use Rattle.luo_finite.proofs.Membership.{In-map_back}
use Rattle.luo_finite.proofs.Places.{none_some}
use Rattle.luo_model.specs.declared.program.Part.{Part}
use Rattle.luo_model.specs.Program.{Program, site_node}
use Rattle.luo_model.specs.Levels.{IsRank, IsLevel}
use Rattle.luo_model.specs.View.{plain_of}
use Rattle.luo_engine.specs.declared.points.Link.{Link}
use Rattle.luo_engine.specs.declared.sites.Laid.{Laid}
use Rattle.luo_engine.specs.inner.Filled.{rank_of, IsOrderOf}
use Rattle.luo_engine.specs.inner.Listed.{IsSiteBefore}
use Rattle.luo_engine.specs.inner.Laid.{IsLinked}
use Rattle.luo_engine.specs.inner.Laying.{links_from, rows_of_scope, rows_of_scopes, lay_all, recipes_of}
use Rattle.luo_engine.specs.inner.Plan.{Planned, IsPlan}
use Rattle.luo_engine.specs.inner.Starts.{HaveRoom}
use Rattle.luo_recipes.specs.Tasks.{Job, jobs_of, FactorSites, Scope, Recipe, of_scopes, of_each, recipe_of}
use Rattle.luo_engine.specs.inner.Totals.{ArePlanned}
use Rattle.luo_recipes.proofs.CountLemmas.{number}
use Rattle.luo_engine.proofs.inner.RowLemmas.{room-there}
use Rattle.luo_recipes.proofs.JobLemmas.{job_is, jobs_length}
use Rattle.luo_engine.proofs.ScopeReads.{ScopeFalls}
use Rattle.luo_engine.proofs.FallLemmas.{job_falls}
use Rattle.luo_recipes.proofs.NodesThere.{job_node_there}
use Rattle.luo_engine.proofs.LaidLemmas.{HasRows, RecipeRows, rows_of_recipe, rows_of_all, laid_tasks, laid_length, laid_links}
use Rattle.luo_engine.proofs.JobRecipes.{recipe_at, recipes_are, recipe_there, product_there, recipes_have}

module _ (N W R : ℕ) where
  abbrev Good : Link → Type 0
  Good l = (l.node < N) × (l.behind < R) × ((s : ℕ) → In s l.sites → s < W)

  abbrev AllLinked : List (Option Link) → Type 0
  AllLinked rows = (r : ℕ) (l : Link) → slice_get rows r ≡ Some (Some l) → Good l × (r + 1 < length rows)

  linked_both : (xs ys : List (Option Link)) → AllLinked xs → AllLinked ys → AllLinked (xs ++ ys)
  linked_both [] ys a b r l e = b r l e
  linked_both (x ∷ xs) ys a b zero l e = let k = a zero l e in (k.0, omega (arith, k.1, length-append xs ys))
  linked_both (x ∷ xs) ys a b (suc r) l e = let k = linked_both xs ys (λ q m h. let g = a (suc q) m h in (g.0, omega (arith, g.1))) b r l e in (k.0, omega (arith, k.1))

  link_same : (a l : Link) → Some (Some a) ≡ Some (Some l) → a ≡ l
  link_same a l e = cc

  linked_factors : (start : ℕ) (Fs : List FactorSites) → ((F : FactorSites) → In F Fs → (F.node < N) × ((s : ℕ) → In s F.sites → s < W)) → start + length Fs < R ⊎ (Fs ≡ []) → AllLinked (links_from start Fs ++ None ∷ [])
  linked_factors start [] h room zero l e = absurd (cc)
  linked_factors start [] h room (suc r) l e = absurd (none_some (Some l) e)
  linked_factors start (F ∷ Fs) h room zero l e =
      let k = h F (inl refl) in
      let long : start + length (F ∷ Fs) < R = ⊎_elim (λ g. g) (λ g. absurd (cc)) room in
      (subst Good (link_same (record { node = F.node; behind = suc start; sites = F.sites }) l e) (k.0, omega (arith, long), k.1), omega (arith, length-append (links_from (suc start) Fs) (None ∷ [])))
  linked_factors start (F ∷ Fs) h room (suc r) l e =
      let long : start + length (F ∷ Fs) < R = ⊎_elim (λ g. g) (λ g. absurd (cc)) room in
      let k = linked_factors (suc start) Fs (λ G i. h G (inr i)) (inl (omega (arith, long))) r l e in (k.0, omega (arith, k.1))

  none_linked : AllLinked []
  none_linked r l e = absurd (none_some (Some l) e)

  nodes_long : (Fs : List FactorSites) (start : ℕ) (rest factors : List (Option ℕ)) → drop start factors ≡ map (λ (F : FactorSites). Some F.node) Fs ++ (None ∷ rest) → length factors ≡ R → start + length Fs < R
  nodes_long Fs start rest factors e long = omega (arith, room-there (λ (F : FactorSites). F.node) Fs rest factors start e, long)

  module _ (starts : List ℕ) (factors : List (Option ℕ)) (long : length factors ≡ R) (Before : ℕ → ℕ → Type 0) (C : ℕ → ℕ → ℕ) where
    scope_linked : (S : Scope) (i : ℕ) → HasRows starts factors S → ScopeFalls N W Before C S i → AllLinked (rows_of_scope starts S)
    scope_linked S i r f =
        linked_factors (slice_index starts S.node) S.parts (λ F h. (f.parts_there F h, λ s g. f.part_sites_there F s h g))
        (⊎_elim (λ e. inr e) (λ d. inl (nodes_long S.parts (slice_index starts S.node) d.0 factors d.1 long)) r)

    scopes_linked : (Ss : List Scope) (i : ℕ) → ((S : Scope) → In S Ss → HasRows starts factors S) → ((S : Scope) → In S Ss → ScopeFalls N W Before C S i) → AllLinked (rows_of_scopes starts Ss)
    scopes_linked [] i h f = none_linked
    scopes_linked (S ∷ Ss) i h f = linked_both (rows_of_scope starts S) (rows_of_scopes starts Ss) (scope_linked S i (h S (inl refl)) (f S (inl refl))) (scopes_linked Ss i (λ Z k. h Z (inr k)) (λ Z k. f Z (inr k)))

    recipe_linked : (r : Recipe) (i : ℕ) → RecipeRows starts factors r → ((Ss : List Scope) → r ≡ of_scopes Ss → (S : Scope) → In S Ss → ScopeFalls N W Before C S i) → AllLinked (rows_of_recipe starts factors r)
    recipe_linked (of_scopes Ss) i h f = scopes_linked Ss i h (f Ss refl)
    recipe_linked (of_each x b) i h f = none_linked

    all_linked : (rs : List Recipe) → ((r : Recipe) → In r rs → AllLinked (rows_of_recipe starts factors r)) → AllLinked (rows_of_all starts factors rs)
    all_linked [] h = none_linked
    all_linked (r ∷ rs) h = linked_both (rows_of_recipe starts factors r) (rows_of_all starts factors rs) (h r (inl refl)) (all_linked rs (λ q i. h q (inr i)))

-- there is room for the rows of products
pub room_of_plan : (plan : Planned) → IsPlan plan → HaveRoom (plain_of plan.program) plan.starts
room_of_plan plan is = (
  is.laid.wide,
  λ x parts e.
      let r = is.laid.products x parts (product_there (plain_of plan.program) plan.starts plan.factors is.laid x parts e) e in
      omega (arith, room-there (λ (part : Part). part.node) parts r.0 plan.factors (slice_index plan.starts x) r.1, is.few),
)

module _ (plan : Planned) (is : IsPlan plan) (ranks levels order : List ℕ) (laid : Laid) (wide : length ranks ≡ length plan.program.sites) (deep : length levels ≡ length plan.program.sites)
    (ranked : (i : ℕ) → i < length plan.program.sites → IsRank (plain_of plan.program) (site_node (plain_of plan.program) i) (rank_of ranks i)) (levelled : (i : ℕ) → i < length plan.program.sites → IsLevel (plain_of plan.program) i (rank_of levels i))
    (ordered : IsOrderOf (length ranks) (IsSiteBefore ranks levels) order) (made : laid ≡ lay_all plan.starts (record { tasks = []; links = [] }) (recipes_of (plain_of plan.program))) where
  abbrev P : Program
  P = plain_of plan.program

  each_linked : (r : Recipe) → In r (recipes_of P) → (q : ℕ) (l : Link) → slice_get (rows_of_recipe plan.starts plan.factors r) q ≡ Some (Some l) → ((l.node < length P.nodes) × (l.behind < length plan.factors) × ((s : ℕ) → In s l.sites → s < length P.sites)) × (q + 1 < length (rows_of_recipe plan.starts plan.factors r))
  each_linked r h =
      let b = In-map_back (recipe_at P) r (jobs_of P) (subst (In r) (sym (recipes_are P is.proper)) h) in
      let j : Job = b.0 in
      let k = job_is P is.proper j b.1 in
      recipe_linked (length P.nodes) (length P.sites) (length plan.factors) plan.starts plan.factors refl (IsSiteBefore ranks levels) (number P is.proper is.founded) r j.site (recipes_have P plan.starts plan.factors is.laid is.proper r h)
      (λ Ss e. job_falls P is.proper is.founded ranks levels ranked levelled (λ y g. (rank_of plan.ranks y, is.ranked.ranked y g)) j Ss b.1 (job_node_there P is.proper j b.1) (ap (λ x. recipe_of P x j.doing) (sym k.node_is) ∙ sym b.2 ∙ e))

  sites_linked : (q : ℕ) (l : Link) → slice_get laid.links q ≡ Some (Some l) → IsLinked (length P.nodes) (length P.sites) (length plan.factors) (length laid.links) q l
  sites_linked q l e =
      let same = laid_links plan.starts plan.factors (recipes_of P) laid made in
      let k = all_linked (length P.nodes) (length P.sites) (length plan.factors) plan.starts plan.factors refl (IsSiteBefore ranks levels) (number P is.proper is.founded) (recipes_of P) each_linked q l (ap (λ (ls : List (Option Link)). slice_get ls q) (sym same) ∙ e) in
      record { node = k.0.0; behind = k.0.1; next = omega (arith, k.1, ap length same); sites_there = k.0.2 }

  -- the sites of a plan
  pub sites_planned : ArePlanned plan (record { ranks = ranks; levels = levels; order = order; tasks = laid.tasks; links = laid.links })
  sites_planned = record {
    plan_is = is;
    sites_are = record {
      ranks_wide = wide;
      levels_wide = deep;
      ranked = ranked;
      levelled = levelled;
      ordered = subst (λ n. IsOrderOf n (IsSiteBefore ranks levels) order) wide ordered;
      linked = sites_linked;
      tasks_wide = laid_length plan.starts plan.factors (recipes_of P) laid made ∙ sym (ap length (recipes_are P is.proper)) ∙ same_length (jobs_of P) ∙ jobs_length P is.proper;
      tasks_are = λ i j t a b. laid_tasks plan.starts plan.factors (recipes_of P) laid made (λ r h. recipes_have P plan.starts plan.factors is.laid is.proper r h) i (recipe_of P j.on.node j.doing) t (recipe_there P is.proper i j a) b;
    };
  }
    where
      same_length : (js : List Job) → length (map (recipe_at P) js) ≡ length js
      same_length [] = refl
      same_length (j ∷ js) = omega (arith, same_length js)
