-- The layout of a program's recipes gives the tasks of its sites.
use Rattle.std.proofs.Common.{◌≡◌, ◌⊎◌, inl, inr, ℕ, zero, suc, List, [], ◌∷◌, ◌++◌, length, map, drop, slice_get, slice_index, refl, sym, ◌∙◌, ap, subst, arith, None, Some, Option, append_assoc}
use Rattle.std.proofs.lemmas.List.{append-nil}
use Rattle.luo_finite.specs.Listing.{In}
use Rattle.luo_finite.proofs.Places.{some_same, none_some}
use Rattle.luo_engine.specs.declared.points.Link.{Link}
use Rattle.luo_engine.specs.declared.tasks.Task.{Task}
use Rattle.luo_engine.specs.declared.tasks.Task.TheVariants.{Scopes, Walk}
use Rattle.luo_engine.specs.declared.sites.Laid.{Laid}
use Rattle.luo_engine.specs.inner.Laid.{factor_of, IsScope, AreScopes, IsTask}
use Rattle.luo_engine.specs.inner.Laying.{links_from, rows_of_scope, rows_of_scopes, placed_scope, placed_scopes, lay, lay_all}
use Rattle.luo_recipes.specs.Tasks.{Doing, does, calls, chooses, walks, Job, jobs_of_body, jobs_of_items, jobs_of_item, jobs_of_arms, jobs_of_procedure, jobs_of, FactorSites, Recipe, of_scopes, of_each, recipe_of}
use Rattle.luo_recipes.specs.Tasks as plain

-- what stands behind so many
drop_prefix : {A : Type 0} (xs ys : List A) → drop (length xs) (xs ++ ys) ≡ ys
drop_prefix [] ys = refl
drop_prefix (x ∷ xs) ys = drop_prefix xs ys

-- ---- one scope

-- the links of factors, without the options
bare_links : ℕ → List FactorSites → List Link
bare_links start [] = []
bare_links start (F ∷ Fs) = record { node = F.node; behind = suc start; sites = F.sites } ∷ bare_links (suc start) Fs

bare_are : (start : ℕ) (Fs : List FactorSites) → links_from start Fs ≡ map (λ (l : Link). Some l) (bare_links start Fs)
unfolding bare_links
bare_are start [] = refl
bare_are start (F ∷ Fs) = ap (λ (l : List (Option Link)). Some (record { node = F.node; behind = suc start; sites = F.sites }) ∷ l) (bare_are (suc start) Fs)

bare_factors : (start : ℕ) (Fs : List FactorSites) → map factor_of (bare_links start Fs) ≡ Fs
unfolding bare_links
bare_factors start [] = refl
bare_factors start (F ∷ Fs) = ap (λ (l : List FactorSites). F ∷ l) (bare_factors (suc start) Fs)

bare_length : (start : ℕ) (Fs : List FactorSites) → length (bare_links start Fs) ≡ length Fs
unfolding bare_links
bare_length start [] = refl
bare_length start (F ∷ Fs) = omega (arith, bare_length (suc start) Fs)

drop_more_one : {A : Type 0} (k : ℕ) (xs : List A) (y : A) (ys : List A) → drop k xs ≡ y ∷ ys → drop (suc k) xs ≡ ys
drop_more_one zero [] y ys e = absurd (cc)
drop_more_one zero (x ∷ xs) y ys e = tail_same x y xs ys e
  where
    tail_same : {A : Type 0} (x y : A) (xs ys : List A) → x ∷ xs ≡ y ∷ ys → xs ≡ ys
    tail_same x y xs ys e = cc
drop_more_one (suc k) [] y ys e = absurd (cc)
drop_more_one (suc k) (x ∷ xs) y ys e = drop_more_one k xs y ys e

-- behind each factor's row stand the factors behind it
BehindFrom : List (Option ℕ) → List Link → Type 0
BehindFrom factors ls = (before after : List Link) (l : Link) → ls ≡ before ++ (l ∷ after) → (rest : List (Option ℕ)) × (drop l.behind factors ≡ map (λ m. Some m.node) after ++ (None ∷ rest))

bare_behind : (factors : List (Option ℕ)) (rest : List (Option ℕ)) (start : ℕ) (Fs : List FactorSites) → drop start factors ≡ map (λ (F : FactorSites). Some F.node) Fs ++ (None ∷ rest) → BehindFrom factors (bare_links start Fs)
unfolding bare_links BehindFrom
bare_behind factors rest start [] e before after l h = absurd (none_there before h)
  where
    none_there : (before : List Link) → [] ≡ before ++ (l ∷ after) → ⊥
    none_there [] h = absurd (cc)
    none_there (b ∷ before) h = absurd (cc)
bare_behind factors rest start (F ∷ Fs) e [] after l h =
    let first : record { node = F.node; behind = suc start; sites = F.sites } ≡ l = cc in
    let others : bare_links (suc start) Fs ≡ after = cc in
    let d : drop (suc start) factors ≡ map (λ (G : FactorSites). Some G.node) Fs ++ (None ∷ rest) = drop_more_one start factors (Some F.node) (map (λ (G : FactorSites). Some G.node) Fs ++ (None ∷ rest)) e in
    (rest, ap (λ (z : Link). drop z.behind factors) (sym first) ∙ d ∙ ap (λ (l : List (Option ℕ)). l ++ (None ∷ rest)) (nodes_are (suc start) Fs ∙ ap (λ (ls : List Link). map (λ (m : Link). Some m.node) ls) others))
  where
    nodes_are : (start : ℕ) (Fs : List FactorSites) → map (λ (G : FactorSites). Some G.node) Fs ≡ map (λ (m : Link). Some m.node) (bare_links start Fs)
    nodes_are start [] = refl
    nodes_are start (F ∷ Fs) = ap (λ (l : List (Option ℕ)). Some F.node ∷ l) (nodes_are (suc start) Fs)
bare_behind factors rest start (F ∷ Fs) e (b ∷ before) after l h =
    let others : bare_links (suc start) Fs ≡ before ++ (l ∷ after) = cc in
    bare_behind factors rest (suc start) Fs (drop_more_one start factors (Some F.node) (map (λ (G : FactorSites). Some G.node) Fs ++ (None ∷ rest)) e) before after l others

-- the rows of a scope's factors stand where its node's do; a scope without factors needs none
abbrev pub HasRows : List ℕ → List (Option ℕ) → plain.Scope → Type 0
HasRows starts factors S = (S.parts ≡ []) ⊎ ((rest : List (Option ℕ)) × (drop (slice_index starts S.node) factors ≡ map (λ (F : FactorSites). Some F.node) S.parts ++ (None ∷ rest)))

module _ (starts : List ℕ) (factors : List (Option ℕ)) where
  behind_of : (S : plain.Scope) → HasRows starts factors S → BehindFrom factors (bare_links (slice_index starts S.node) S.parts)
  unfolding bare_links BehindFrom
  behind_of S (inl e) before after l h = absurd (none_there before (ap (bare_links (slice_index starts S.node)) (sym e) ∙ h))
    where
      none_there : (before : List Link) → [] ≡ before ++ (l ∷ after) → ⊥
      none_there [] h = absurd (cc)
      none_there (b ∷ before) h = absurd (cc)
  behind_of S (inr r) before after l h = bare_behind factors r.0 (slice_index starts S.node) S.parts r.1 before after l h

  -- a scope that stands behind others, and before others
  scope_laid : (S : plain.Scope) (before after : List (Option Link)) → HasRows starts factors S → IsScope factors (before ++ (rows_of_scope starts S ++ after)) S (placed_scope (length before) S)
  unfolding BehindFrom
  scope_laid S before after r =
      let from = slice_index starts S.node in record {
        own = refl;
        node = refl;
        sites = refl;
        row = bare_links from S.parts;
        parts = bare_factors from S.parts;
        laid = (after, drop_prefix before (rows_of_scope starts S ++ after) ∙ append_assoc (links_from from S.parts) (None ∷ []) after ∙ ap (λ (l : List (Option Link)). l ++ (None ∷ after)) (bare_are from S.parts));
        arity = sym (bare_length from S.parts);
        behind = λ b a l h. behind_of S r b a l h;
      }

  scopes_laid : (Ss : List plain.Scope) (before after : List (Option Link)) → ((S : plain.Scope) → In S Ss → HasRows starts factors S) → AreScopes factors (before ++ (rows_of_scopes starts Ss ++ after)) Ss (placed_scopes starts before Ss)
  scopes_laid [] before after h = tt
  scopes_laid (S ∷ Ss) before after h = (
    subst (λ (l : List (Option Link)). IsScope factors (before ++ l) S (placed_scope (length before) S)) (sym (append_assoc (rows_of_scope starts S) (rows_of_scopes starts Ss) after)) (scope_laid S before (rows_of_scopes starts Ss ++ after) (h S (inl refl))),
    subst (λ (l : List (Option Link)). AreScopes factors l Ss (placed_scopes starts (before ++ rows_of_scope starts S) Ss)) (append_assoc before (rows_of_scope starts S) (rows_of_scopes starts Ss ++ after) ∙ ap (λ (l : List (Option Link)). before ++ l) (sym (append_assoc (rows_of_scope starts S) (rows_of_scopes starts Ss) after)))
        (scopes_laid Ss (before ++ rows_of_scope starts S) after (λ R i. h R (inr i))),
  )

  -- ---- all recipes
  abbrev pub rows_of_recipe : Recipe → List (Option Link)
  rows_of_recipe (of_scopes Ss) = rows_of_scopes starts Ss
  rows_of_recipe (of_each x b) = []

  abbrev task_of : List (Option Link) → Recipe → Task
  task_of links (of_scopes Ss) = Scopes (placed_scopes starts links Ss)
  task_of links (of_each x b) = Walk x b

  abbrev pub RecipeRows : Recipe → Type 0
  RecipeRows (of_scopes Ss) = (S : plain.Scope) → In S Ss → HasRows starts factors S
  RecipeRows (of_each x b) = Unit {0}

  task_is : (r : Recipe) (before after : List (Option Link)) → RecipeRows r → IsTask factors (before ++ (rows_of_recipe r ++ after)) r (task_of before r)
  task_is (of_scopes Ss) before after h = scopes_laid Ss before after h
  task_is (of_each x b) before after h = (refl, refl)

  abbrev pub rows_of_all : List Recipe → List (Option Link)
  rows_of_all [] = []
  rows_of_all (r ∷ rs) = rows_of_recipe r ++ rows_of_all rs

  tasks_of_all : List (Option Link) → List Recipe → List Task
  tasks_of_all links [] = []
  tasks_of_all links (r ∷ rs) = task_of links r ∷ tasks_of_all (links ++ rows_of_recipe r) rs

  lay_is : (l : Laid) (r : Recipe) → ◌≡◌ {A = Laid} (lay starts l r) (record { tasks = l.tasks ++ task_of l.links r ∷ []; links = l.links ++ rows_of_recipe r })
  lay_is l (of_scopes Ss) = refl
  lay_is l (of_each x b) = λ t. record { tasks = l.tasks ++ Walk x b ∷ []; links = sym (append-nil l.links) t }

  all_links : (l : Laid) (rs : List Recipe) → (lay_all starts l rs).links ≡ l.links ++ rows_of_all rs
  all_links l [] = sym (append-nil l.links)
  all_links l (r ∷ rs) = all_links (lay starts l r) rs ∙ ap (λ (z : Laid). z.links ++ rows_of_all rs) (lay_is l r) ∙ append_assoc l.links (rows_of_recipe r) (rows_of_all rs)

  all_tasks : (l : Laid) (rs : List Recipe) → (lay_all starts l rs).tasks ≡ l.tasks ++ tasks_of_all l.links rs
  unfolding tasks_of_all
  all_tasks l [] = sym (append-nil l.tasks)
  all_tasks l (r ∷ rs) = all_tasks (lay starts l r) rs ∙ ap (λ (z : Laid). z.tasks ++ tasks_of_all z.links rs) (lay_is l r) ∙ append_assoc l.tasks (task_of l.links r ∷ []) (tasks_of_all (l.links ++ rows_of_recipe r) rs)

  each_task : (rs : List Recipe) (before : List (Option Link)) → ((r : Recipe) → In r rs → RecipeRows r) → (i : ℕ) (r : Recipe) (t : Task) → slice_get rs i ≡ Some r → slice_get (tasks_of_all before rs) i ≡ Some t → IsTask factors (before ++ rows_of_all rs) r t
  unfolding tasks_of_all
  each_task [] before h i r t e g = absurd (none_some r e)
  each_task (q ∷ rs) before h zero r t e g =
      let same : q ≡ r = some_same q r e in
      let task : task_of before q ≡ t = some_same (task_of before q) t g in
      subst (λ (z : Task). IsTask factors (before ++ (rows_of_recipe q ++ rows_of_all rs)) r z) task (subst (λ (z : Recipe). IsTask factors (before ++ (rows_of_recipe q ++ rows_of_all rs)) z (task_of before q)) same (task_is q before (rows_of_all rs) (h q (inl refl))))
  each_task (q ∷ rs) before h (suc i) r t e g =
      subst (λ (l : List (Option Link)). IsTask factors l r t) (append_assoc before (rows_of_recipe q) (rows_of_all rs)) (each_task rs (before ++ rows_of_recipe q) (λ z k. h z (inr k)) i r t e g)

  tasks_length : (rs : List Recipe) (before : List (Option Link)) → length (tasks_of_all before rs) ≡ length rs
  unfolding tasks_of_all
  tasks_length [] before = refl
  tasks_length (r ∷ rs) before = omega (arith, tasks_length rs (before ++ rows_of_recipe r))

  -- the task at a place is the one of the recipe there
  pub laid_tasks : (rs : List Recipe) (l : Laid) → l ≡ lay_all starts (record { tasks = []; links = [] }) rs → ((r : Recipe) → In r rs → RecipeRows r) → (i : ℕ) (r : Recipe) (t : Task) → slice_get rs i ≡ Some r → slice_get l.tasks i ≡ Some t → IsTask factors l.links r t
  laid_tasks rs l e h i r t a b =
      subst (λ (ls : List (Option Link)). IsTask factors ls r t) (sym (ap (λ (z : Laid). z.links) e ∙ all_links (record { tasks = []; links = [] }) rs))
      (each_task rs [] h i r t a (ap (λ (ts : List Task). slice_get ts i) (sym (ap (λ (z : Laid). z.tasks) e ∙ all_tasks (record { tasks = []; links = [] }) rs)) ∙ b))

  pub laid_length : (rs : List Recipe) (l : Laid) → l ≡ lay_all starts (record { tasks = []; links = [] }) rs → length l.tasks ≡ length rs
  laid_length rs l e = ap (λ (z : Laid). length z.tasks) e ∙ ap length (all_tasks (record { tasks = []; links = [] }) rs) ∙ tasks_length rs []

  pub laid_links : (rs : List Recipe) (l : Laid) → l ≡ lay_all starts (record { tasks = []; links = [] }) rs → l.links ≡ rows_of_all rs
  laid_links rs l e = ap (λ (z : Laid). z.links) e ∙ all_links (record { tasks = []; links = [] }) rs
