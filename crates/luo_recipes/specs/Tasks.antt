-- The sites of a program with what is done there, and what the total of each is made of.
use Rattle.std.specs.Prelude.{ℕ, suc, ◌+◌, ◌*◌, ◌==◌, if◌then◌else◌, List, [], ◌∷◌, ◌++◌, map, flat_map, sum_by, slice_get, Option, Some, None}
use Rattle.luo_model.specs.declared.body.Bind.{Bind}
use Rattle.luo_model.specs.declared.body.Bind.TheVariants.{Nothing, Whole, Parts}
use Rattle.luo_model.specs.declared.program.Universe.{Universe}
use Rattle.luo_model.specs.declared.program.Part.{Part}
use Rattle.luo_model.specs.declared.program.Shape.{Shape}
use Rattle.luo_model.specs.declared.program.Shape.TheVariants as shape
use Rattle.luo_model.specs.Program.{Program, Procedure, Body, Does, Items, no_items, item, Item, Call, Case, Forall, Arms, arm, shape_of}
use Rattle.luo_model.specs.Charges.{Work, of_body, of_call, of_case, of_walk}
use Rattle.luo_model.specs.Scopes.Stands.{Stand, stands, factors, component, bound_parts, part_at}
use Rattle.luo_counting.specs.Numbers.{coll_total}
use Rattle.luo_recipes.specs.Shares.{point_all}

-- what is done at a site, and for a walk the site of its body
pub data Doing : Type 0 where
  does : Body → Doing
  calls : ℕ → Doing
  chooses : Arms → Doing
  walks : Body → (body_site : ℕ) → Doing

abbrev pub work_of : Doing → Work
work_of (does body) = of_body body
work_of (calls callee) = of_call callee
work_of (chooses arms) = of_case arms
work_of (walks body body_site) = of_walk body

-- a site, its variable, and what is done there
pub record Job : Type 0 where
  pub site : ℕ
  pub on : Part
  pub doing : Doing

abbrev mutual
  -- the jobs of a body, in the order of their sites
  pub jobs_of_body : Program → List Part → Body → List Job
  jobs_of_body p vars (Does own items) = jobs_of_items p vars items

  pub jobs_of_items : Program → List Part → Items → List Job
  jobs_of_items p vars no_items = []
  jobs_of_items p vars (item i is) = jobs_of_item p vars i ++ jobs_of_items p vars is

  pub jobs_of_item : Program → List Part → Item → List Job
  jobs_of_item p vars (Call var callee site) =
      record { site = site; on = part_at vars var; doing = calls callee } ∷ []
  jobs_of_item p vars (Case var arms site) =
      jobs_of_arms p (stands (part_at vars var) (shape_of p (part_at vars var).node)) arms
      ++ record { site = site; on = part_at vars var; doing = chooses arms } ∷ []
  jobs_of_item p vars (Forall var body body_site site) =
      jobs_of_body p (component (shape_of p (part_at vars var).node) ∷ []) body
      ++ record {
        site = body_site;
        on = component (shape_of p (part_at vars var).node);
        doing = does body;
      }
      ∷ (record { site = site; on = part_at vars var; doing = walks body body_site } ∷ [])

  pub jobs_of_arms : Program → List Stand → Arms → List Job
  jobs_of_arms p (stand ∷ rest) (arm bind body arms) =
      jobs_of_body p (bound_parts p stand bind) body ++ jobs_of_arms p rest arms
  jobs_of_arms p _ _ = []

-- the jobs of a procedure, its whole last
abbrev pub jobs_of_procedure : Program → Procedure → List Job
jobs_of_procedure p P =
    jobs_of_body p (P.on ∷ []) P.body
    ++ record { site = P.site; on = P.on; doing = does P.body } ∷ []

abbrev pub jobs_of : Program → List Job
jobs_of p = flat_map (jobs_of_procedure p) p.procs

-- the jobs inside a job
abbrev pub inner_jobs : Program → Part → Doing → List Job
inner_jobs p x (does body) = jobs_of_body p (x ∷ []) body
inner_jobs p x (calls callee) = []
inner_jobs p x (chooses arms) = jobs_of_arms p (stands x (shape_of p x.node)) arms
inner_jobs p x (walks body body_site) =
    jobs_of_body p (component (shape_of p x.node) ∷ []) body
    ++ record { site = body_site; on = component (shape_of p x.node); doing = does body } ∷ []

-- a factor of a product that a scope binds, with the sites on it
pub record FactorSites : Type 0 where
  pub node : ℕ
  pub sites : List ℕ

-- a scope: what it charges on each structure of a node, the sites on that structure, and those on
-- its factors
pub record Scope : Type 0 where
  pub own : ℕ
  pub node : ℕ
  pub sites : List ℕ
  pub parts : List FactorSites

-- what a total is made of: scopes, or a walk over a collection with the site of its body
pub data Recipe : Type 0 where
  of_scopes : List Scope → Recipe
  of_each : (collection body_site : ℕ) → Recipe

abbrev pub var_in : Item → ℕ
var_in (Call var callee site) = var
var_in (Case var arms site) = var
var_in (Forall var body body_site site) = var

abbrev pub site_in : Item → ℕ
site_in (Call var callee site) = site
site_in (Case var arms site) = site
site_in (Forall var body body_site site) = site

-- the sites of the items on this variable
abbrev pub sites_on : ℕ → Items → List ℕ
sites_on j no_items = []
sites_on j (item i is) = if var_in i == j then site_in i ∷ sites_on j is else sites_on j is

-- these factors, the variables from this one on
abbrev pub factors_from : Items → ℕ → List Part → List FactorSites
factors_from is j [] = []
factors_from is j (part ∷ parts) =
    record { node = part.node; sites = sites_on j is } ∷ factors_from is (suc j) parts

-- the scope of a body on structures of a node, where so much of them is bound
abbrev pub scope_of : Program → ℕ → Bind → Body → Scope
scope_of p y Nothing (Does own is) = record { own = own; node = y; sites = []; parts = [] }
scope_of p y Whole (Does own is) = record { own = own; node = y; sites = sites_on 0 is; parts = [] }
scope_of p y (Parts k) (Does own is) =
    record { own = own; node = y; sites = []; parts = factors_from is 0 (factors (shape_of p y)) }

-- the nodes of what the arms of a case on node x stand for
abbrev pub stand_nodes : ℕ → Shape → List ℕ
stand_nodes x (shape.Union parts) = map (λ part. part.node) parts
stand_nodes x (shape.Product parts) = x ∷ []
stand_nodes x _ = []

-- the scopes of arms on structures of these nodes
abbrev pub scopes_of : Program → List ℕ → Arms → List Scope
scopes_of p (y ∷ rest) (arm bind body arms) = scope_of p y bind body ∷ scopes_of p rest arms
scopes_of p _ _ = []

abbrev pub whole_sites : Option Procedure → List ℕ
whole_sites None = []
whole_sites (Some P) = P.site ∷ []

abbrev pub recipe_of : Program → ℕ → Doing → Recipe
recipe_of p x (does body) = of_scopes (scope_of p x Whole body ∷ [])
recipe_of p x (calls callee) =
    of_scopes (record {
      own = 0;
      node = x;
      sites = whole_sites (slice_get p.procs callee);
      parts = [];
    } ∷ [])
recipe_of p x (chooses arms) = of_scopes (scopes_of p (stand_nodes x (shape_of p x)) arms)
recipe_of p x (walks body body_site) = of_each x body_site

-- the counts of a factor, and the totals of its sites
abbrev pub factor_counts : (ℕ → ℕ → ℕ) → FactorSites → ℕ → ℕ
factor_counts counts f = counts f.node

abbrev pub factor_totals : (ℕ → ℕ → ℕ) → FactorSites → ℕ → ℕ
factor_totals totals f n = sum_by (λ s. totals s n) f.sites

abbrev pub scope_number : Universe → (ℕ → ℕ → ℕ) → (ℕ → ℕ → ℕ) → Scope → ℕ → ℕ
scope_number u counts totals S n =
    S.own * counts S.node n
    + (sum_by (λ s. totals s n) S.sites
    + point_all u (factor_counts counts) (factor_totals totals) S.parts n)

abbrev pub walk_number : Universe → (ℕ → ℕ → ℕ) → (ℕ → ℕ → ℕ) → Shape → ℕ → ℕ → ℕ
walk_number u counts totals (shape.Coll kind part low high) body_site n =
    coll_total u kind (counts part.node) (totals body_site) low high n
walk_number u counts totals _ body_site n = 0

-- the total that a recipe gives at size n
abbrev pub recipe_number : Program → (ℕ → ℕ → ℕ) → (ℕ → ℕ → ℕ) → Recipe → ℕ → ℕ
recipe_number p counts totals (of_scopes scopes) n =
    sum_by (λ S. scope_number p.universe counts totals S n) scopes
recipe_number p counts totals (of_each x body_site) n =
    walk_number p.universe counts totals (shape_of p x) body_site n
