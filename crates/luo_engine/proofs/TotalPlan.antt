-- The totals of a plan's sites, from what comes before them.
use Rattle.std.proofs.Common.{◌≡◌, ◌⊎◌, ℕ, ◌+◌, ◌≤◌, ◌<◌, inl, inr, ⊎_elim, List, [], ◌∷◌, length, sum_by, drop, slice_get, slice_index, refl, sym, ◌∙◌, ap, subst, arith, Some, None, Option}
use Rattle.std.proofs.lemmas.Option.{get_or_from_slice_get, slice_get_within}
use Rattle.luo_num.specs.declared.TheConstants.{MAX}
use Rattle.luo_num.specs.Mark.{capped}
use Rattle.luo_finite.specs.Listing.{In}
use Rattle.luo_finite.proofs.Sums.{Counts-unique}
use Rattle.luo_finite.proofs.Places.{some_same, In_get, get_within, less_or_same}
use Rattle.luo_finite.proofs.Membership.{In-append_right}
use Rattle.luo_counting.specs.Sharing.{shares}
use Rattle.luo_model.specs.declared.program.Universe.{Universe}
use Rattle.luo_model.specs.declared.program.Kind.{Kind}
use Rattle.luo_model.specs.declared.program.Part.{Part}
use Rattle.luo_model.specs.declared.program.Shape.{Shape}
use Rattle.luo_model.specs.declared.program.Shape.TheVariants as shape
use Rattle.luo_model.specs.Program.{Program, shape_of, site_node}
use Rattle.luo_model.specs.Structures.{IsStructure}
use Rattle.luo_model.specs.Member.{IsWithin}
use Rattle.luo_model.specs.Scopes.Stands.{component, IsCollection}
use Rattle.luo_model.specs.Charges.{of_body, of_walk, works_of}
use Rattle.luo_model.specs.Levels.{IsRank}
use Rattle.luo_model.specs.Tables.{IsCount, IsTotal}
use Rattle.luo_model.specs.View.{plain_of}
use Rattle.luo_model.proofs.TableLemmas.{totals_are_single}
use Rattle.luo_model.proofs.WorkLemmas.{sites_are_apart}
use Rattle.luo_counting.proofs.TreeCollections.{count_of_all}
use Rattle.luo_engine.specs.declared.points.Link.{Link}
use Rattle.luo_engine.specs.declared.tasks.Scope.{Scope}
use Rattle.luo_engine.specs.declared.tasks.Task.{Task}
use Rattle.luo_engine.specs.declared.tasks.Task.TheVariants.{Scopes, Walk}
use Rattle.luo_engine.specs.declared.tasks.Sites.{Sites}
use Rattle.luo_engine.specs.inner.Grid.{entry_of, IsSet}
use Rattle.luo_recipes.specs.Shares.{inner, tail_of}
use Rattle.luo_engine.specs.inner.Points.{point_of, open_point, ArePointsOpen}
use Rattle.luo_engine.specs.inner.Filled.{rank_of, IsRightOf, AreCounted, NumbersTo, IsFirstPastOf}
use Rattle.luo_engine.specs.inner.Listed.{IsSiteBefore}
use Rattle.luo_engine.specs.inner.Laid.{laid_number, IsScopeThere, IsScope, AreScopes, IsTask, AreTotalled}
use Rattle.luo_engine.specs.inner.Plan.{Planned}
use Rattle.luo_engine.specs.inner.Asked.{AskedWalk}
use Rattle.luo_engine.specs.inner.Walks.{IsWalk, walk_or, walk_at, IsAskedWalk, IsWalkAsked, AllowsOne, HasTotals}
use Rattle.luo_engine.specs.inner.Totals.{ArePlanned, AreWalked}
use Rattle.luo_recipes.specs.Tasks.{Doing, does, calls, chooses, walks, work_of, Job, jobs_of_body, jobs_of, Recipe, of_scopes, of_each, recipe_of, recipe_number, scope_number}
use Rattle.luo_recipes.specs.Tasks as plain
use Rattle.luo_recipes.proofs.ShareLemmas.{shares-same, inner-same}
use Rattle.luo_engine.proofs.inner.EntryLemmas.{sum_by-same}
use Rattle.luo_engine.proofs.inner.RowLemmas.{end-there}
use Rattle.luo_recipes.proofs.CountLemmas.{number, obeys}
use Rattle.luo_recipes.proofs.TotalLemmas.{total, total_is}
use Rattle.luo_engine.proofs.inner.FillLemmas.{one_way_nodes, filled_more, past_first, placed_before}
use Rattle.luo_recipes.proofs.JobLemmas.{job_is, job_site, jobs_length}
use Rattle.luo_recipes.proofs.RecipeLemmas.{equation}
use Rattle.luo_engine.proofs.ScopeReads.{ScopeFalls, scopes_read}
use Rattle.luo_engine.proofs.FallLemmas.{job_falls}
use Rattle.luo_recipes.proofs.NodesThere.{job_node_there}

pub one_way_sites : (ranks levels : List ℕ) (i j : ℕ) → IsSiteBefore ranks levels j i → IsSiteBefore ranks levels i j → ⊥
one_way_sites ranks levels i j (inl a) (inl b) = absurd (omega arith)
one_way_sites ranks levels i j (inl a) (inr b) = absurd (omega (arith, b.0))
one_way_sites ranks levels i j (inr a) (inl b) = absurd (omega (arith, a.0))
one_way_sites ranks levels i j (inr a) (inr b) = one_way_nodes levels i j a.1 b.1

less_or_eq : (a b : ℕ) → a < b + 1 → (a < b) ⊎ (a ≡ b)
less_or_eq a b h = grind arith

less_or_not : (a b : ℕ) → (a < b) ⊎ (b ≤ a)
less_or_not a b = grind arith

-- charged rows read no further than their size
point-same : (u : Universe) (C f g : ℕ → ℕ → ℕ) (factors : List (Option ℕ)) (links : List (Option Link)) (n : ℕ) → ((s k : ℕ) → k ≤ n → f s k ≡ g s k) → point_of u C f factors links n ≡ point_of u C g factors links n
point-same u C f g factors [] n h = refl
point-same u C f g factors (None ∷ links) n h = refl
point-same u C f g factors (Some l ∷ links) n h =
    let R : ℕ → ℕ = tail_of u C (drop l.behind factors) in
    let a : sum_by (λ s. shares u (f s) R n) l.sites ≡ sum_by (λ s. shares u (g s) R n) l.sites = sum_by-same (λ s. shares u (f s) R n) (λ s. shares u (g s) R n) l.sites (λ s j. shares-same u (f s) R (g s) R n (h s) (λ k l. refl)) in
    let b : shares u (C l.node) (point_of u C f factors links) n ≡ shares u (C l.node) (point_of u C g factors links) n =
    shares-same u (C l.node) (point_of u C f factors links) (C l.node) (point_of u C g factors links) n (λ k l. refl) (λ k l. point-same u C f g factors links k (λ s j m. h s j (omega arith))) in
    omega (arith, a, b)

open_point-same : (u : Universe) (C f g : ℕ → ℕ → ℕ) (factors : List (Option ℕ)) (links : List (Option Link)) (n : ℕ) → ((s k : ℕ) → k < n → f s k ≡ g s k) → open_point u C f factors links n ≡ open_point u C g factors links n
open_point-same u C f g factors [] n h = refl
open_point-same u C f g factors (None ∷ links) n h = refl
open_point-same u C f g factors (Some l ∷ links) n h =
    let R : ℕ → ℕ = tail_of u C (drop l.behind factors) in
    let a : sum_by (λ s. inner u (f s) R n) l.sites ≡ sum_by (λ s. inner u (g s) R n) l.sites = sum_by-same (λ s. inner u (f s) R n) (λ s. inner u (g s) R n) l.sites (λ s j. inner-same u (f s) R (g s) R n (h s) (λ k l. refl)) in
    let b : inner u (C l.node) (point_of u C f factors links) n ≡ inner u (C l.node) (point_of u C g factors links) n =
    inner-same u (C l.node) (point_of u C f factors links) (C l.node) (point_of u C g factors links) n (λ k l. refl) (λ k l. point-same u C f g factors links k (λ s j m. h s j (omega arith))) in
    omega (arith, a, b)

pub points_kept : (old new : List (List ℕ)) (i n value : ℕ) → IsSet old new i n value → (u : Universe) (counts : List (List ℕ)) (factors : List (Option ℕ)) (partials : List (List ℕ)) (links : List (Option Link)) (points : List (List ℕ)) (r : ℕ)
    → ArePointsOpen u counts old factors partials links points n r → ArePointsOpen u counts new factors partials links points n r
points_kept old new i n value set u counts factors partials links points r o = record {
  below = record {
    products = o.below.products;
    links_there = λ q l e. let a = o.below.links_there q l e in record { node = a.node; behind = a.behind; next = a.next; sites = λ s j. omega (arith, a.sites s j, set.wide) };
    wide = o.below.wide;
    totals_reach = λ y h. omega (arith, o.below.totals_reach y (omega (arith, h, set.wide)), set.long y);
    points_reach = o.below.points_reach;
    closed = λ q m h l. o.below.closed q m h l ∙ ap capped (point-same u (entry_of counts) (entry_of old) (entry_of new) factors (drop q links) m (λ s k g. sym (set.other_size s k (λ e. absurd (omega arith)))));
  };
  open_rows = λ q h. o.open_rows q h ∙ ap capped (open_point-same u (entry_of counts) (entry_of old) (entry_of new) factors (drop q links) n (λ s k g. sym (set.other_size s k (λ e. absurd (omega arith)))));
}

module _ (plan : Planned) (s : Sites) (fixed : ArePlanned plan s) where
  abbrev pub P : Program
  P = plain_of plan.program

  abbrev pub Before : ℕ → ℕ → Type 0
  Before = IsSiteBefore s.ranks s.levels

  unique : (i n a b : ℕ) → i < length plan.program.sites → IsTotal P i n a → IsTotal P i n b → a ≡ b
  unique i n a b h x y = totals_are_single P (sites_are_apart P fixed.plan_is.proper) i n a b x y

  -- the table of a walk is as it was where its place is
  asked_same : (n_max asked : ℕ) (old new : List (Option AskedWalk)) (j b : ℕ) → slice_get new j ≡ slice_get old j → IsWalkAsked P n_max old j b asked → IsWalkAsked P n_max new j b asked
  asked_same n_max asked old new j b e a walk =
      let h = a walk in
      let here : slice_get new j ≡ Some (Some (walk_at old j)) = e ∙ h.there in
      let same : walk_at new j ≡ walk_at old j = ap walk_or (get_or_from_slice_get new j (Some (walk_at old j)) None here) in
      record { there = here ∙ ap (λ (w : AskedWalk). Some (Some w)) (sym same); asked = subst (IsAskedWalk P j b walk n_max asked) (sym same) h.asked }

  ranks_there : (y : ℕ) → y < length P.nodes → (r : ℕ) × IsRank P y r
  ranks_there y h = (rank_of plan.ranks y, fixed.plan_is.ranked.ranked y h)

  module _ (k i : ℕ) (place : slice_get s.order k ≡ Some i) where
    pub site_there : i < length plan.program.sites
    site_there = fixed.sites_are.ordered.there k i place

    pub task_there : i < length s.tasks
    task_there = omega (arith, fixed.sites_are.tasks_wide, site_there)

    pub job_there : (j : Job) × (slice_get (jobs_of P) i ≡ Some j)
    job_there = get_within (jobs_of P) i (omega (arith, jobs_length P fixed.plan_is.proper, site_there))

    job_in : In job_there.0 (jobs_of P)
    job_in = In_get (jobs_of P) i job_there.0 job_there.1

    site_is : job_there.0.site ≡ i
    site_is = job_site P fixed.plan_is.proper i job_there.0 job_there.1

    -- the recipe of the site
    abbrev pub recipe : Recipe
    recipe = recipe_of P job_there.0.on.node job_there.0.doing

    pub task_is : (t : Task) → slice_get s.tasks i ≡ Some t → IsTask plan.factors s.links recipe t
    task_is t e = fixed.sites_are.tasks_are i job_there.0 t job_there.1 e

    scopes_in : (zs : List Scope) → slice_get s.tasks i ≡ Some (Scopes zs) → (Ss : List plain.Scope) × (recipe ≡ of_scopes Ss) × AreScopes plan.factors s.links Ss zs
    scopes_in zs e = by recipe refl (task_is (Scopes zs) e)
      where
        by : (r : Recipe) → recipe ≡ r → IsTask plan.factors s.links r (Scopes zs) → (Ss : List plain.Scope) × (recipe ≡ of_scopes Ss) × AreScopes plan.factors s.links Ss zs
        by (of_scopes Ss) e a = (Ss, e, a)
        by (of_each x b) e a = absurd a

    all_fall : (Ss : List plain.Scope) → recipe ≡ of_scopes Ss → (S : plain.Scope) → In S Ss → ScopeFalls (length P.nodes) (length P.sites) Before (number P fixed.plan_is.proper fixed.plan_is.founded) S i
    all_fall Ss e S h =
        subst (λ z. ScopeFalls (length P.nodes) (length P.sites) Before (number P fixed.plan_is.proper fixed.plan_is.founded) S z) site_is
        (job_falls P fixed.plan_is.proper fixed.plan_is.founded s.ranks s.levels fixed.sites_are.ranked fixed.sites_are.levelled ranks_there job_there.0 Ss job_in (job_node_there P fixed.plan_is.proper job_there.0 job_in) e S h)

    scope_there : (S : plain.Scope) (Z : Scope) → IsScope plan.factors s.links S Z → ScopeFalls (length P.nodes) (length P.sites) Before (number P fixed.plan_is.proper fixed.plan_is.founded) S i → IsScopeThere (length P.nodes) (length P.sites) s.links Z
    scope_there S Z a f = record {
      node = subst (λ x. x < length P.nodes) (sym a.node) f.node;
      sites_there = λ t h. f.sites_there t (subst (In t) a.sites h);
      end_row = ap (λ k. slice_get s.links (Z.start + k)) a.arity ∙ end-there (λ (l : Link). l) a.row a.laid.0 s.links Z.start a.laid.1;
    }

    each_there : (Ss : List plain.Scope) (Zs : List Scope) → AreScopes plan.factors s.links Ss Zs → ((S : plain.Scope) → In S Ss → ScopeFalls (length P.nodes) (length P.sites) Before (number P fixed.plan_is.proper fixed.plan_is.founded) S i)
        → (Z : Scope) → In Z Zs → IsScopeThere (length P.nodes) (length P.sites) s.links Z
    each_there [] [] a f Z h = absurd h
    each_there [] (Y ∷ Zs) a f Z h = absurd a
    each_there (S ∷ Ss) [] a f Z h = absurd h
    each_there (S ∷ Ss) (Y ∷ Zs) a f Z (inl e) = subst (IsScopeThere (length P.nodes) (length P.sites) s.links) (sym e) (scope_there S Y a.0 (f S (inl refl)))
    each_there (S ∷ Ss) (Y ∷ Zs) a f Z (inr h) = each_there Ss Zs a.1 (λ R j. f R (inr j)) Z h

    -- what its scopes name is there
    pub scopes_there : (zs : List Scope) (nodes width : ℕ) (links : List (Option Link)) → slice_get s.tasks i ≡ Some (Scopes zs) → nodes ≡ length plan.program.nodes → width ≡ length plan.program.sites → links ≡ s.links
        → (Z : Scope) → In Z zs → IsScopeThere nodes width links Z
    scopes_there zs nodes width links e a b c Z h =
        let r = scopes_in zs e in
        subst (λ (l : List (Option Link)). IsScopeThere nodes width l Z) (sym c) (subst (λ m. IsScopeThere m width s.links Z) (sym a) (subst (λ m. IsScopeThere (length plan.program.nodes) m s.links Z) (sym b) (each_there r.0 zs r.2 (all_fall r.0 r.1) Z h)))

    module _ (counts totals : List (List ℕ)) (n : ℕ) (counted : AreCounted P plan.order counts n (length plan.order)) (totalled : AreTotalled P s.order totals n k) where
      count_is : (x m : ℕ) → x < length P.nodes → m < n + 1 → entry_of counts x m ≡ number P fixed.plan_is.proper fixed.plan_is.founded x m
      count_is x m h l =
          let C = number P fixed.plan_is.proper fixed.plan_is.founded in
          let known : (m : ℕ) → IsCount P x m (C x m) = λ m. count_of_all P x m (C x m) ((obeys P fixed.plan_is.proper fixed.plan_is.founded).known x m) in
          let at = fixed.plan_is.ordered.complete x h in
          ⊎_elim (λ (g : m < n). Counts-unique (IsStructure P x m) (entry_of counts x m) (C x m) (counted.below x m h g).0 (known m))
          (λ (e : m ≡ n). subst (λ j. entry_of counts x j ≡ C x j) (sym e)
          (Counts-unique (IsStructure P x n) (entry_of counts x n) (C x n) (counted.done at.0 x (slice_get_within plan.order at.0 x at.1) at.1).0 (known n)))
          (less_or_eq m n l)

      -- the scopes give the total
      pub scopes_total : (zs : List Scope) (value : ℕ) → slice_get s.tasks i ≡ Some (Scopes zs) → value ≡ capped (sum_by (laid_number plan.program.universe (entry_of counts) (entry_of totals) plan.factors s.links n) zs) → NumbersTo (IsTotal P) i n value
      scopes_total zs value e v =
          let q = fixed.plan_is.proper in
          let f = fixed.plan_is.founded in
          let r = scopes_in zs e in
          let same : total P q f i n ≡ sum_by (λ S. scope_number plan.program.universe (number P q f) (total P q f) S n) r.0 =
          ap (λ z. total P q f z n) (sym site_is) ∙ equation P q f job_there.0 n job_in ∙ ap (λ (y : Recipe). recipe_number P (number P q f) (total P q f) y n) r.1 in
          record {
            number = total P q f i n;
            is_number = total_is P q f i n site_there;
            marked = v
                ∙ ap capped
                (scopes_read P Before s.order (number P q f) (total P q f) counts totals n k i place count_is (λ t m h. total_is P q f t m h) (λ t m a b h x y. unique t m a b h x y) fixed.sites_are.ordered (one_way_sites s.ranks s.levels) totalled
                plan.program.universe plan.factors s.links r.0 zs (all_fall r.0 r.1) r.2 ∙ sym same);
          }

      at_place : (value : ℕ) → NumbersTo (IsTotal P) i n value → NumbersTo (IsTotal P) (slice_index s.order k) n value
      at_place value v = subst (λ j. NumbersTo (IsTotal P) j n value) (sym (get_or_from_slice_get s.order k i 0 place)) v

      pub scopes_to : (zs : List Scope) (value : ℕ) (u : Universe) (factors : List (Option ℕ)) (links : List (Option Link)) (scopes : List Scope) → slice_get s.tasks i ≡ Some (Scopes zs) → u ≡ plan.program.universe → factors ≡ plan.factors → links ≡ s.links → scopes ≡ zs
          → value ≡ capped (sum_by (laid_number u (entry_of counts) (entry_of totals) factors links n) scopes) → NumbersTo (IsTotal P) (slice_index s.order k) n value
      scopes_to zs value u factors links scopes e a b c d v =
          at_place value (scopes_total zs value e
          (v ∙ ap (λ (w : Universe). capped (sum_by (laid_number w (entry_of counts) (entry_of totals) factors links n) scopes)) a
          ∙ ap (λ (fs : List (Option ℕ)). capped (sum_by (laid_number plan.program.universe (entry_of counts) (entry_of totals) fs links n) scopes)) b
          ∙ ap (λ (ls : List (Option Link)). capped (sum_by (laid_number plan.program.universe (entry_of counts) (entry_of totals) plan.factors ls n) scopes)) c
          ∙ ap (λ (zs : List Scope). capped (sum_by (laid_number plan.program.universe (entry_of counts) (entry_of totals) plan.factors s.links n) zs)) d))

    -- ---- walks

    module _ (collection body : ℕ) (walk : slice_get s.tasks i ≡ Some (Walk collection body)) where
      collection_there : (t : Shape) → IsCollection t → (kind : Kind) × (part : Part) × (low : ℕ) × (high : Option ℕ) × (t ≡ shape.Coll kind part low high)
      collection_there (shape.Atom w) i = absurd i
      collection_there (shape.Union parts) i = absurd i
      collection_there (shape.Product parts) i = absurd i
      collection_there (shape.Coll kind part low high) i = (kind, part, low, high, refl)

      walk_of : (d : Doing) (site : ℕ) (on : Part) → In (record { site = site; on = on; doing = d }) (jobs_of P) → site ≡ i → IsTask plan.factors s.links (recipe_of P on.node d) (Walk collection body) → IsWalk P i body
      walk_of (does b) site on h e a = absurd a
      walk_of (calls callee) site on h e a = absurd a
      walk_of (chooses arms) site on h e a = absurd a
      walk_of (walks b body_site) site on h e a =
          let q = fixed.plan_is.proper in
          let w = job_is P q (record { site = site; on = on; doing = walks b body_site }) h in
          let c = collection_there (shape_of P on.node) w.fits.0 in
          let own : Job = record { site = body_site; on = component (shape_of P on.node); doing = does b } in
          let o = job_is P q own (w.inner own (In-append_right own (jobs_of_body P (component (shape_of P on.node) ∷ []) b) (own ∷ []) (inl refl))) in
          let here : site_node P i ≡ on.node = ap (site_node P) (sym e) ∙ w.node_is in
          record {
            site = subst (λ z. z < length P.sites) e w.within;
            kind = c.0;
            part = c.1;
            low = c.2;
            high = c.3;
            body = b;
            shape = ap (shape_of P) here ∙ c.4;
            walk = subst (λ z. In (z, of_walk b) (works_of P)) e w.there;
            inner = subst (λ z. In (z, of_body b) (works_of P)) (sym a.1) o.there;
            there = subst (λ z. z < length P.sites) (sym a.1) o.within;
            node = ap (site_node P) a.1 ∙ o.node_is ∙ ap (λ (t : Shape). (component t).node) c.4;
          }

      pub walk_is : IsWalk P i body
      walk_is = walk_of job_there.0.doing job_there.0.site job_there.0.on job_in site_is (task_is (Walk collection body) walk)

      -- the body comes before where one component is allowed
      body_before : AllowsOne (shape_of P (site_node P i)) → Before body i
      body_before o =
          let w = walk_is in
          let one : IsWithin w.low w.high 1 = subst AllowsOne w.shape o in
          let fall = (obeys P fixed.plan_is.proper fixed.plan_is.founded).component_falls (site_node P i) w.low w.kind w.part w.high w.shape one in
          inl (fall (rank_of s.ranks i) (rank_of s.ranks body) (fixed.sites_are.ranked i site_there) (subst (λ x. IsRank P x (rank_of s.ranks body)) w.node (fixed.sites_are.ranked body w.there)))

      pub body_totals : (totals : List (List ℕ)) (n : ℕ) → AreTotalled P s.order totals n k → HasTotals P totals body n
      body_totals totals n t =
          let l : body < length totals = omega (arith, t.wide, walk_is.there) in
          record { there = l; reach = t.reach body l; below = λ m h. t.below body m walk_is.there h }

      pub body_here : (totals : List (List ℕ)) (n : ℕ) → AreTotalled P s.order totals n k → AllowsOne (shape_of P (site_node P i)) → IsRightOf (IsTotal P) totals body n
      body_here totals n t o =
          let at = fixed.sites_are.ordered.complete body walk_is.there in
          t.done at.0 body (placed_before (length plan.program.sites) Before (one_way_sites s.ranks s.levels) s.order fixed.sites_are.ordered k i place at.0 body at.1 (body_before o)) at.1

      pub body_asked : (n_max n : ℕ) (tables : List (Option AskedWalk)) → AreWalked P n_max s tables n k → IsWalkAsked P n_max tables i body n
      body_asked n_max n tables a = a.to_ask k i collection body (omega arith) place walk

      same_body : (c b : ℕ) → Walk collection body ≡ Walk c b → body ≡ b
      same_body c b e = cc

      -- another place holds another site
      apart : (j t : ℕ) → slice_get s.order j ≡ Some t → (j ≡ k → ⊥) → t ≡ i → ⊥
      apart j t e n q =
          let g : slice_get s.order j ≡ Some i = e ∙ ap Some q in
          ⊎_elim (λ (h : j < k). let b = fixed.sites_are.ordered.rising j k i i h g place in absurd (one_way_sites s.ranks s.levels i i b b))
          (λ (h : k ≤ j). ⊎_elim (λ (l : k < j). let b = fixed.sites_are.ordered.rising k j i i l place g in absurd (one_way_sites s.ranks s.levels i i b b)) (λ (l : k ≡ j). n (sym l)) (less_or_same k j h)) (less_or_not j k)

      pub walks_more : (n_max n : ℕ) (old new : List (Option AskedWalk)) → AreWalked P n_max s old n k → IsWalkAsked P n_max new i body (n + 1) → ((j : ℕ) → (j ≡ i → ⊥) → slice_get new j ≡ slice_get old j) → AreWalked P n_max s new n (k + 1)
      walks_more n_max n old new a h others = record {
        asked = λ j t c b l e w. ⊎_elim
            (λ (g : j < k). asked_same n_max (n + 1) old new t b (others t (apart j t e (λ q. absurd (omega (arith, g, q))))) (a.asked j t c b g e w))
            (λ (g : j ≡ k).
            let here : t ≡ i = some_same t i (sym e ∙ ap (slice_get s.order) g ∙ place) in
            let same : body ≡ b = same_body c b (some_same (Walk collection body) (Walk c b) (sym walk ∙ ap (slice_get s.tasks) (sym here) ∙ w)) in
            subst (λ z. IsWalkAsked P n_max new z b (n + 1)) (sym here) (subst (λ z. IsWalkAsked P n_max new i z (n + 1)) same h))
            (less_or_eq j k l);
        to_ask = λ j t c b l e w. asked_same n_max n old new t b (others t (apart j t e (λ q. absurd (omega (arith, l, q))))) (a.to_ask j t c b (omega (arith, l)) e w);
      }

    -- a site without a walk asks no table
    pub walks_kept : (n_max n : ℕ) (tables : List (Option AskedWalk)) (zs : List Scope) → slice_get s.tasks i ≡ Some (Scopes zs) → AreWalked P n_max s tables n k → AreWalked P n_max s tables n (k + 1)
    walks_kept n_max n tables zs task a = record {
      asked = λ j t c b l e w. ⊎_elim (λ (g : j < k). a.asked j t c b g e w)
          (λ (g : j ≡ k). absurd (never zs c b (some_same (Scopes zs) (Walk c b) (sym task ∙ ap (slice_get s.tasks) (sym (some_same t i (sym e ∙ ap (slice_get s.order) g ∙ place))) ∙ w)))) (less_or_eq j k l);
      to_ask = λ j t c b l e w. a.to_ask j t c b (omega (arith, l)) e w;
    }
      where
        never : (zs : List Scope) (c b : ℕ) → Scopes zs ≡ Walk c b → ⊥
        never zs c b e = absurd (cc)

    -- ---- one more total
    pub totalled_more : (totals new : List (List ℕ)) (n value : ℕ) → AreTotalled P s.order totals n k → NumbersTo (IsTotal P) (slice_index s.order k) n value → IsSet totals new i n value → value ≤ MAX → AreTotalled P s.order new n (k + 1)
    totalled_more totals new n value t v set small =
        filled_more totals new i n value set (IsTotal P) (length plan.program.sites) Before (λ y b. one_way_sites s.ranks s.levels y y b b) s.order fixed.sites_are.ordered k place t
        (subst (λ j. NumbersTo (IsTotal P) j n value) (get_or_from_slice_get s.order k i 0 place) v) small

    pub first_total : (totals : List (List ℕ)) (n value : ℕ) → AreTotalled P s.order totals n k → NumbersTo (IsTotal P) (slice_index s.order k) n value → MAX < value → IsFirstPastOf (IsTotal P) (length plan.program.sites) (IsSiteBefore s.ranks s.levels) n i
    first_total totals n value t v past =
        past_first (IsTotal P) (length plan.program.sites) Before (one_way_sites s.ranks s.levels) (λ y m c d h x z. unique y m c d h x z) s.order fixed.sites_are.ordered totals n k i place value t
        (subst (λ j. NumbersTo (IsTotal P) j n value) (get_or_from_slice_get s.order k i 0 place) v) past
