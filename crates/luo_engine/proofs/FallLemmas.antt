-- What a scope names comes before its site: by the ranks of nodes, and on one node by levels.
use Rattle.std.proofs.Common.{◌≡◌, ◌⊎◌, ℕ, zero, suc, ◌+◌, ◌≤◌, ◌<◌, ◌==◌, Bool, true, false, if◌then◌else◌, max, inl, inr, ⊎_elim, List, [], ◌∷◌, ◌++◌, length, map, slice_get, refl, sym, ◌∙◌, ap, subst, arith, Some, Option}
use Rattle.std.proofs.lemmas.Bool.{eqb-true}
use Rattle.std.proofs.lemmas.Option.{get_or_from_slice_get}
use Rattle.luo_finite.specs.Listing.{In}
use Rattle.luo_finite.proofs.Membership.{In-append_left, In-append_right, In-append_cases, In-itself, around}
use Rattle.luo_finite.proofs.Places.{some_same, get_map, at_place}
use Rattle.luo_model.specs.declared.body.Bind.{Bind}
use Rattle.luo_model.specs.declared.body.Bind.TheVariants.{Nothing, Whole, Parts}
use Rattle.luo_model.specs.declared.program.Part.{Part}
use Rattle.luo_model.specs.declared.program.Shape.{Shape}
use Rattle.luo_model.specs.declared.program.Shape.TheVariants as shape
use Rattle.luo_model.specs.Program.{Program, Procedure, Body, Does, Items, no_items, item, Item, Call, Case, Forall, Arms, no_arms, arm, shape_of, site_node}
use Rattle.luo_model.specs.Charges.{works_of}
use Rattle.luo_model.specs.Levels.{IsRank, ItemLevel, ItemsLevel, BodyLevel, LevelWithin, WholeLevel, WorkLevel, IsLevel}
use Rattle.luo_model.specs.Scopes.Stands.{inside, itself, stands, factors, MayBind, bound_parts, part_at, no_part}
use Rattle.luo_model.specs.Scopes.Fits.{FitsArms}
use Rattle.luo_model.specs.Invariant.{IsProgram, inner_parts}
use Rattle.luo_model.specs.Founded.{IsFounded}
use Rattle.luo_model.proofs.NodeLemmas.{node_at_place}
use Rattle.luo_model.proofs.WorkLemmas.{sites_are_apart}
use Rattle.luo_recipes.specs.Obeys.{Falls}
use Rattle.luo_engine.specs.inner.Filled.{rank_of}
use Rattle.luo_engine.specs.inner.Listed.{IsSiteBefore}
use Rattle.luo_recipes.specs.Tasks.{Doing, does, calls, chooses, walks, work_of, Job, jobs_of_body, jobs_of_items, jobs_of_item, jobs_of_arms, jobs_of, FactorSites, Scope, var_in, site_in, sites_on, factors_from, scope_of, scopes_of, stand_nodes, whole_sites, of_scopes, of_each, recipe_of}
use Rattle.luo_recipes.proofs.CountLemmas.{number, obeys}
use Rattle.luo_recipes.proofs.JobLemmas.{job_is}
use Rattle.luo_recipes.proofs.ScopeLemmas.{second_one, BindFits, parts_bound, bound_is, bind_fits, own_job, own_in, own_node, own_site, product_there}
use Rattle.luo_recipes.proofs.RecipeLemmas.{whole_among}
use Rattle.luo_engine.proofs.ScopeReads.{OtherFactorHasNone, ScopeFalls}

-- ---- levels

-- one level at most, where what is called has one
module _ (R S : ℕ → ℕ → Type 0) (one : (g a b : ℕ) → R g a → S g b → a ≡ b) where
  item_one : (i : Item) (a b : ℕ) → ItemLevel R i a → ItemLevel S i b → a ≡ b
  item_one (Call var callee site) a b x y = omega (arith, one callee x.0 y.0 x.1 y.1, x.2, y.2)
  item_one (Case var arms site) a b x y = x ∙ sym y
  item_one (Forall var body body_site site) a b x y = x ∙ sym y

  items_one : (is : Items) (a b : ℕ) → ItemsLevel R is a → ItemsLevel S is b → a ≡ b
  items_one no_items a b x y = x ∙ sym y
  items_one (item i is) a b x y =
      let h = item_one i x.0 y.0 x.2 y.2 in
      let t = items_one is x.1 y.1 x.3 y.3 in
      x.4 ∙ ap (λ k. max k x.1) h ∙ ap (max y.0) t ∙ sym y.4

  body_one : (body : Body) (a b : ℕ) → BodyLevel R body a → BodyLevel S body b → a ≡ b
  body_one (Does own no_items) a b x y = x ∙ sym y
  body_one (Does own (item i is)) a b x y = omega (arith, items_one (item i is) x.0 y.0 x.1 y.1, x.2, y.2)

level_one : (procs : List Procedure) (d e g a b : ℕ) → LevelWithin procs d g a → LevelWithin procs e g b → a ≡ b
level_one procs zero e g a b x y = absurd x
level_one procs (suc d) zero g a b x y = absurd y
level_one procs (suc d) (suc e) g a b x y =
    body_one (LevelWithin procs d) (LevelWithin procs e) (λ h m k u v. level_one procs d e h m k u v) x.0.body a b x.2
    (subst (λ (P : Procedure). BodyLevel (LevelWithin procs e) P.body b) (some_same y.0 x.0 (sym y.1 ∙ x.1)) y.2)

whole_one : (p : Program) (g a b : ℕ) → WholeLevel p g a → WholeLevel p g b → a ≡ b
whole_one p g a b x y = level_one p.procs x.0 y.0 g a b x.1 y.1

-- the item is one of these
abbrev pub Among : Item → Items → Type 0
Among it no_items = ⊥
Among it (item i is) = (it ≡ i) ⊎ Among it is

at_most_left : (a b : ℕ) → a ≤ max a b
at_most_left a b = grind arith

at_most_right : (a b c : ℕ) → a ≤ c → a ≤ max b c
at_most_right a b c h = grind arith

item_below : (p : Program) (it : Item) (is : Items) (a m : ℕ) → Among it is → ItemLevel (WholeLevel p) it a → ItemsLevel (WholeLevel p) is m → a ≤ m
item_below p it no_items a m h x y = absurd h
item_below p it (item i is) a m (inl e) x y =
    let s : a ≡ y.0 = item_one (WholeLevel p) (WholeLevel p) (whole_one p) i a y.0 (subst (λ (z : Item). ItemLevel (WholeLevel p) z a) e x) y.2 in
    omega (arith, s, y.4, at_most_left y.0 y.1)
item_below p it (item i is) a m (inr h) x y = omega (arith, y.4, at_most_right a y.0 y.1 (item_below p it is a y.1 h x y.3))

body_above : (p : Program) (it : Item) (own : ℕ) (is : Items) (a n : ℕ) → Among it is → ItemLevel (WholeLevel p) it a → BodyLevel (WholeLevel p) (Does own is) n → a < n
body_above p it own no_items a n h x y = absurd h
body_above p it own (item i is) a n h x y = omega (arith, item_below p it (item i is) a y.0 h x y.1, y.2)

-- ---- ranks

rank_one : (p : Program) (x r s : ℕ) → IsRank p x r → IsRank p x s → r ≡ s
rank_one p x r s (a, most) (b, other) = omega (arith, most s b.0 b.1, other r a.0 a.1)

-- ---- items on a variable

module _ (p : Program) where
  -- an item on a variable, with its own job among these
  pub record IsOn (xs : List Part) (is : Items) (j s : ℕ) : Type 0 where
    pub it : Item
    pub var : var_in it ≡ j
    pub site : site_in it ≡ s
    pub among : Among it is
    pub own : In (own_job p xs it) (jobs_of_items p xs is)

  some_on : (xs : List Part) (is : Items) (j s : ℕ) → In s (sites_on j is) → IsOn xs is j s
  some_on xs no_items j s h = absurd h
  some_on xs (item i is) j s h = by (λ g. some_on xs is j s g) (var_in i == j) refl
    where
      wider : IsOn xs is j s → IsOn xs (item i is) j s
      wider r = record { it = r.it; var = r.var; site = r.site; among = inr r.among; own = In-append_right (own_job p xs r.it) (jobs_of_item p xs i) (jobs_of_items p xs is) r.own }

      first : (var_in i ≡ j) → s ≡ site_in i → IsOn xs (item i is) j s
      first e g = record { it = i; var = e; site = sym g; among = inl refl; own = In-append_left (own_job p xs i) (jobs_of_item p xs i) (jobs_of_items p xs is) (own_in p xs i) }

      by : (In s (sites_on j is) → IsOn xs is j s) → (b : Bool) → (var_in i == j) ≡ b → IsOn xs (item i is) j s
      by rest true e =
          ⊎_elim (λ g. first (eqb-true (var_in i) j e) g) (λ g. wider (rest g))
          (subst (λ (b : Bool). In s (if b then site_in i ∷ sites_on j is else sites_on j is)) e h)
      by rest false e = wider (rest (subst (λ (b : Bool). In s (if b then site_in i ∷ sites_on j is else sites_on j is)) e h))

-- ---- factors

factor_there : (is : Items) (j : ℕ) (ps : List Part) (other : Part) → In other ps → (o : FactorSites) × In o (factors_from is j ps) × (o.node ≡ other.node)
factor_there is j [] other h = absurd h
factor_there is j (part ∷ ps) other (inl e) = (record { node = part.node; sites = sites_on j is }, inl refl, ap (λ (z : Part). z.node) (sym e))
factor_there is j (part ∷ ps) other (inr h) = let r = factor_there is (suc j) ps other h in (r.0, inr r.1, r.2)

-- a factor with those before and behind it
pub record IsSplit (is : Items) (j : ℕ) (ps : List Part) (before after : List FactorSites) (F : FactorSites) : Type 0 where
  pub first : List Part
  pub part : Part
  pub last : List Part
  pub parts : ps ≡ first ++ part ∷ last
  pub node : part.node ≡ F.node
  pub sites : F.sites ≡ sites_on (j + length first) is
  pub first_there : (other : Part) → In other first → (o : FactorSites) × In o before × (o.node ≡ other.node)
  pub last_there : (other : Part) → In other last → (o : FactorSites) × In o after × (o.node ≡ other.node)

head_same : (a b : FactorSites) (xs ys : List FactorSites) → a ∷ xs ≡ b ∷ ys → a ≡ b
head_same a b xs ys e = cc

tail_same : (a b : FactorSites) (xs ys : List FactorSites) → a ∷ xs ≡ b ∷ ys → xs ≡ ys
tail_same a b xs ys e = cc

none_behind : (before after : List FactorSites) (F : FactorSites) → [] ≡ before ++ F ∷ after → ⊥
none_behind [] after F e = absurd (cc)
none_behind (b ∷ before) after F e = absurd (cc)

split : (is : Items) (j : ℕ) (ps : List Part) (before after : List FactorSites) (F : FactorSites) → factors_from is j ps ≡ before ++ F ∷ after → IsSplit is j ps before after F
split is j [] before after F e = absurd (none_behind before after F e)
split is j (part ∷ ps) [] after F e =
    let h : record { node = part.node; sites = sites_on j is } ≡ F = head_same (record { node = part.node; sites = sites_on j is }) F (factors_from is (suc j) ps) after e in
    let t = tail_same (record { node = part.node; sites = sites_on j is }) F (factors_from is (suc j) ps) after e in
    record {
      first = [];
      part = part;
      last = ps;
      parts = refl;
      node = ap (λ (z : FactorSites). z.node) h;
      sites = sym (ap (λ (z : FactorSites). z.sites) h) ∙ ap (λ k. sites_on k is) (none_more j);
      first_there = λ other i. absurd i;
      last_there = λ other i. let r = factor_there is (suc j) ps other i in (r.0, subst (In r.0) t r.1, r.2);
    }
  where
    none_more : (j : ℕ) → j ≡ j + 0
    none_more j = omega arith
split is j (part ∷ ps) (b ∷ before) after F e =
    let h : record { node = part.node; sites = sites_on j is } ≡ b = head_same (record { node = part.node; sites = sites_on j is }) b (factors_from is (suc j) ps) (before ++ F ∷ after) e in
    let t = tail_same (record { node = part.node; sites = sites_on j is }) b (factors_from is (suc j) ps) (before ++ F ∷ after) e in
    let r = split is (suc j) ps before after F t in
    record {
      first = part ∷ r.first;
      part = r.part;
      last = r.last;
      parts = ap (λ l. part ∷ l) r.parts;
      node = r.node;
      sites = r.sites ∙ ap (λ k. sites_on k is) (one_more j (length r.first));
      first_there = λ other i. ⊎_elim (λ g. (b, inl refl, sym (ap (λ (z : FactorSites). z.node) h) ∙ ap (λ (z : Part). z.node) (sym g))) (λ g. let o = r.first_there other g in (o.0, inr o.1, o.2)) i;
      last_there = r.last_there;
    }
  where
    one_more : (j k : ℕ) → suc j + k ≡ j + suc k
    one_more j k = omega arith

-- ---- scopes

module _ (p : Program) (q : IsProgram p) (f : IsFounded p) (ranks levels : List ℕ) (ranked : (i : ℕ) → i < length p.sites → IsRank p (site_node p i) (rank_of ranks i)) (levelled : (i : ℕ) → i < length p.sites → IsLevel p i (rank_of levels i))
    (ranks_there : (y : ℕ) → y < length p.nodes → (r : ℕ) × IsRank p y r) where
  abbrev Before : ℕ → ℕ → Type 0
  Before = IsSiteBefore ranks levels

  abbrev IsScopeFall : Scope → ℕ → Type 0
  IsScopeFall S i = ScopeFalls (length p.nodes) (length p.sites) Before (number p q f) S i

  -- the work at a job's site
  job_level : (j : Job) → In j (jobs_of p) → WorkLevel p (work_of j.doing) (rank_of levels j.site)
  job_level j h =
      let k = job_is p q j h in
      let l = levelled j.site k.within in
      subst (λ w. WorkLevel p w (rank_of levels j.site)) (second_one (works_of p) (sites_are_apart p q) j.site l.0 (work_of j.doing) l.1 k.there) l.2

  job_rank : (j : Job) → In j (jobs_of p) → IsRank p j.on.node (rank_of ranks j.site)
  job_rank j h = let k = job_is p q j h in subst (λ x. IsRank p x (rank_of ranks j.site)) k.node_is (ranked j.site k.within)

  own_level : (xs : List Part) (it : Item) (n : ℕ) → WorkLevel p (work_of (own_job p xs it).doing) n → ItemLevel (WholeLevel p) it n
  own_level xs (Call var callee site) n l = l
  own_level xs (Case var arms site) n l = l
  own_level xs (Forall var body body_site site) n l = l

  -- a node that has structures is there
  part_there : (y : ℕ) (parts : List Part) (part : Part) → shape_of p y ≡ shape.Product parts → In part parts → part.node < length p.nodes
  part_there y parts part e i = ⊎_elim
      (λ n. (q.parts_there y n.0 n.1 part (subst (λ (s : Shape). In part (inner_parts s)) (sym e ∙ n.2) i)).0)
      (λ o. absurd (never parts (sym o ∙ e))) (node_at_place p y)
    where
      never : (parts : List Part) → shape.Union [] ≡ shape.Product parts → ⊥
      never parts e = absurd (cc)

  branch_there : (y : ℕ) (parts : List Part) (part : Part) → shape_of p y ≡ shape.Union parts → In part parts → part.node < length p.nodes
  branch_there y parts part e i = ⊎_elim
      (λ n. (q.parts_there y n.0 n.1 part (subst (λ (s : Shape). In part (inner_parts s)) (sym e ∙ n.2) i)).0)
      (λ o. absurd (subst (λ (ps : List Part). In part ps) (same parts (sym e ∙ o)) i)) (node_at_place p y)
    where
      same : (parts : List Part) → shape.Union parts ≡ shape.Union [] → parts ≡ []
      same parts e = cc

  -- the site of an item on a variable whose node is z
  on_site : (xs : List Part) (is : Items) (j s : ℕ) (z : Part) → slice_get xs j ≡ Some z → ((w : Job) → In w (jobs_of_items p xs is) → In w (jobs_of p)) → In s (sites_on j is) → (s < length p.sites) × (site_node p s ≡ z.node)
  on_site xs is j s z e a h =
      let o = some_on p xs is j s h in
      let k = job_is p q (own_job p xs o.it) (a (own_job p xs o.it) o.own) in
      let same : (own_job p xs o.it).site ≡ s = own_site p xs o.it ∙ o.site in
      let here : (own_job p xs o.it).on ≡ z = own_node p xs o.it ∙ ap (part_at xs) o.var ∙ get_or_from_slice_get xs j z no_part e in
      (subst (λ t. t < length p.sites) same k.within, ap (site_node p) (sym same) ∙ k.node_is ∙ ap (λ (x : Part). x.node) here)

  -- a site whose node's rank is below
  lower : (s i y r : ℕ) → s < length p.sites → site_node p s ≡ y → IsRank p y r → r < rank_of ranks i → Before s i
  lower s i y r h e k l = inl (omega (arith, l, rank_one p y (rank_of ranks s) r (subst (λ x. IsRank p x (rank_of ranks s)) e (ranked s h)) k))

  -- where a factor's part is, and its sites
  split_in : (is : Items) (parts : List Part) (F : FactorSites) → In F (factors_from is 0 parts) → (before : List FactorSites) × (after : List FactorSites) × IsSplit is 0 parts before after F
  split_in is parts F h = let u = around F (factors_from is 0 parts) h in (u.before, u.after, split is 0 parts u.before u.after F u.is)

  module _ (y : ℕ) (is : Items) (parts : List Part) (product : shape_of p y ≡ shape.Product parts) (a : (w : Job) → In w (jobs_of_items p parts is) → In w (jobs_of p)) (before after : List FactorSites) (F : FactorSites)
      (e : IsSplit is 0 parts before after F) where
    split_part : In e.part parts
    split_part = subst (In e.part) (sym e.parts) (In-itself e.part e.first e.last)

    split_there : F.node < length p.nodes
    split_there = subst (λ z. z < length p.nodes) e.node (part_there y parts e.part product split_part)

    place_is : slice_get parts (0 + length e.first) ≡ Some e.part
    place_is =
        (ap (λ (ps : List Part). slice_get ps (0 + length e.first)) e.parts ∙ ap (slice_get (e.first ++ e.part ∷ e.last)) (no_more (length e.first)) ∙ at_place e.first e.last e.part)
      where
        no_more : (k : ℕ) → 0 + k ≡ k
        no_more k = omega arith

    split_site : (s : ℕ) → In s F.sites → (s < length p.sites) × (site_node p s ≡ F.node)
    split_site s h = let o = on_site parts is (0 + length e.first) s e.part place_is a (subst (In s) e.sites h) in (o.0, o.1 ∙ e.node)

    split_falls : (i r s : ℕ) → IsRank p y r → r ≤ rank_of ranks i → (OtherFactorHasNone (number p q f) before after → ⊥) → In s F.sites → IsSiteBefore ranks levels s i
    split_falls i r s k l n h =
        let site = split_site s h in
        let rank = ranks_there F.node split_there in
        let fall : Falls p y e.part.node = (obeys p q f).factor_falls y e.first e.last e.part (product ∙ ap shape.Product e.parts)
        (λ o. n (⊎_elim (λ g. let t = e.first_there o.0 g in (t.0, In-append_left t.0 before after t.1, ap (λ x. number p q f x 0) t.2 ∙ o.2))
        (λ g. let t = e.last_there o.0 g in (t.0, In-append_right t.0 before after t.1, ap (λ x. number p q f x 0) t.2 ∙ o.2)) (In-append_cases o.0 e.first e.last o.1))) in
        lower s i F.node rank.0 site.0 site.1 rank.1 (omega (arith, l, fall r rank.0 k (subst (λ z. IsRank p z rank.0) (sym e.node) rank.1)))

  -- a scope on a node of no greater rank, whose sites on the node itself come before
  scope_falls : (i : ℕ) (y : Part) (r : ℕ) (bind : Bind) (body : Body) → y.node < length p.nodes → IsRank p y.node r → r ≤ rank_of ranks i → BindFits p y bind → ((w : Job) → In w (jobs_of_body p (parts_bound p y bind) body) → In w (jobs_of p))
      → ((s : ℕ) → s < length p.sites → site_node p s ≡ y.node → In s (scope_of p y.node bind body).sites → Before s i) → IsScopeFall (scope_of p y.node bind body) i
  scope_falls i y r Nothing (Does own is) there k l b a w = record {
    node = there;
    sites_there = λ s h. absurd h;
    parts_there = λ F h. absurd h;
    part_sites_there = λ F s h. absurd h;
    sites_fall = λ s h. absurd h;
    parts_fall = λ before after F s e. absurd (none_behind before after F e);
  }
  scope_falls i y r Whole (Does own is) there k l b a w = record {
    node = there;
    sites_there = λ s h. (on_site (y ∷ []) is 0 s y refl a h).0;
    parts_there = λ F h. absurd h;
    part_sites_there = λ F s h. absurd h;
    sites_fall = λ s h. let o = on_site (y ∷ []) is 0 s y refl a h in w s o.0 o.1 h;
    parts_fall = λ before after F s e. absurd (none_behind before after F e);
  }
  scope_falls i y r (Parts m) (Does own is) there k l b a w =
      let z = product_there p q f m (shape_of p y.node) b in
      let same : factors (shape_of p y.node) ≡ z.0 = ap factors z.1 in
      let a2 : (w : Job) → In w (jobs_of_items p z.0 is) → In w (jobs_of p) = subst (λ (xs : List Part). (w : Job) → In w (jobs_of_items p xs is) → In w (jobs_of p)) same a in
      subst (λ (xs : List Part). IsScopeFall (record { own = own; node = y.node; sites = []; parts = factors_from is 0 xs }) i) (sym same) (record {
        node = there;
        sites_there = λ s h. absurd h;
        parts_there = λ F h. let e = split_in is z.0 F h in split_there y.node is z.0 z.1 a2 e.0 e.1 F e.2;
        part_sites_there = λ F s h g. let e = split_in is z.0 F h in (split_site y.node is z.0 z.1 a2 e.0 e.1 F e.2 s g).0;
        sites_fall = λ s h. absurd h;
        parts_fall = λ before after F s e n g. split_falls y.node is z.0 z.1 a2 before after F (split is 0 z.0 before after F e) i r s k l n g;
      })

  -- ---- what is done at a site
  module _ (site : ℕ) (x : Part) where
    abbrev AllFall : List Scope → Type 0
    AllFall scopes = (S : Scope) → In S scopes → IsScopeFall S site

    one_falls : (S : Scope) → IsScopeFall S site → AllFall (S ∷ [])
    one_falls S h Z (inl e) = subst (λ (R : Scope). IsScopeFall R site) (sym e) h
    one_falls S h Z (inr i) = absurd i

    -- on one node a lower level comes first
    by_level : (s : ℕ) → s < length p.sites → site_node p s ≡ x.node → IsRank p x.node (rank_of ranks site) → rank_of levels s < rank_of levels site → Before s site
    by_level s h e k l = inr (rank_one p x.node (rank_of ranks s) (rank_of ranks site) (subst (λ y. IsRank p y (rank_of ranks s)) e (ranked s h)) k, inl l)

    body_falls : (body : Body) → x.node < length p.nodes → In (record { site = site; on = x; doing = does body }) (jobs_of p) → AllFall (scope_of p x.node Whole body ∷ [])
    body_falls (Does own is) there h =
        let j : Job = record { site = site; on = x; doing = does (Does own is) } in
        let k = job_is p q j h in
        let rank = job_rank j h in
        let high = job_level j h in
        one_falls (scope_of p x.node Whole (Does own is))
        (scope_falls site x (rank_of ranks site) Whole (Does own is) there rank (omega arith) tt k.inner
        (λ s t e g.
        let o = some_on p (x ∷ []) is 0 s g in
        let own_l = own_level (x ∷ []) o.it (rank_of levels s) (subst (λ z. WorkLevel p (work_of (own_job p (x ∷ []) o.it).doing) (rank_of levels z)) (own_site p (x ∷ []) o.it ∙ o.site) (job_level (own_job p (x ∷ []) o.it) (k.inner (own_job p (x ∷ []) o.it) o.own))) in
        by_level s t e rank (body_above p o.it own is (rank_of levels s) (rank_of levels site) o.among own_l high)))

    call_falls : (callee : ℕ) → x.node < length p.nodes → In (record { site = site; on = x; doing = calls callee }) (jobs_of p) → AllFall (record { own = 0; node = x.node; sites = whole_sites (slice_get p.procs callee); parts = [] } ∷ [])
    call_falls callee there h =
        let j : Job = record { site = site; on = x; doing = calls callee } in
        let k = job_is p q j h in
        let P : Procedure = k.fits.0 in
        let whole : Job = record { site = P.site; on = P.on; doing = does P.body } in
        let among : In whole (jobs_of p) = whole_among p callee P k.fits.1 in
        let w = job_is p q whole among in
        let high : (m : ℕ) × WholeLevel p callee m × (rank_of levels site ≡ suc m) = job_level j h in
        let low : BodyLevel (WholeLevel p) P.body (rank_of levels P.site) = job_level whole among in
        let same : high.0 ≡ rank_of levels P.site = whole_level callee P k.fits.1 high.0 (rank_of levels P.site) high.1 low in
        let before : Before P.site site = by_level P.site w.within (w.node_is ∙ k.fits.2) (job_rank j h) (omega (arith, same, high.2)) in
        let named : (s : ℕ) → In s (whole_sites (slice_get p.procs callee)) → s ≡ P.site =
        λ s i. only P.site s (subst (λ (o : Option Procedure). In s (whole_sites o)) k.fits.1 i) in
        one_falls (record { own = 0; node = x.node; sites = whole_sites (slice_get p.procs callee); parts = [] }) (record {
          node = there;
          sites_there = λ s i. subst (λ z. z < length p.sites) (sym (named s i)) w.within;
          parts_there = λ F i. absurd i;
          part_sites_there = λ F s i. absurd i;
          sites_fall = λ s i. subst (λ z. Before z site) (sym (named s i)) before;
          parts_fall = λ before after F s e. absurd (none_behind before after F e);
        })
      where
        only : (a s : ℕ) → In s (a ∷ []) → s ≡ a
        only a s (inl e) = e
        only a s (inr i) = absurd i

        whole_level : (g : ℕ) (P : Procedure) → slice_get p.procs g ≡ Some P → (m n : ℕ) → WholeLevel p g m → BodyLevel (WholeLevel p) P.body n → m ≡ n
        whole_level g P e m n (zero, l) b = absurd l
        whole_level g P e m n (suc d, l) b =
            body_one (LevelWithin p.procs d) (WholeLevel p) (λ h a b u v. level_one p.procs d v.0 h a b u v.1) P.body m n
            (subst (λ (R : Procedure). BodyLevel (LevelWithin p.procs d) R.body m) (some_same l.0 P (sym l.1 ∙ e)) l.2) b

    arms_fall : (r : ℕ) → IsRank p x.node r → r ≡ rank_of ranks site → (arms : Arms) (parts : List Part) → ((part : Part) → In part parts → (part.node < length p.nodes) × Falls p x.node part.node) → FitsArms p (map inside parts) arms
        → ((w : Job) → In w (jobs_of_arms p (map inside parts) arms) → In w (jobs_of p)) → AllFall (scopes_of p (map (λ (part : Part). part.node) parts) arms)
    arms_fall r k e arms [] all g a S h = absurd h
    arms_fall r k e no_arms (first ∷ parts) all g a S h = absurd g
    arms_fall r k e (arm bind body arms) (first ∷ parts) all g a S (inl same) =
        let here = all first (inl refl) in
        let rank = ranks_there first.node here.0 in
        let below : rank.0 < rank_of ranks site = omega (arith, here.1 r rank.0 k rank.1, e) in
        subst (λ (R : Scope). IsScopeFall R site) (sym same)
        (scope_falls site first rank.0 bind body here.0 rank.1 (omega arith) (bind_fits p (inside first) bind g.0)
        (subst (λ (xs : List Part). (w : Job) → In w (jobs_of_body p xs body) → In w (jobs_of p)) (bound_is p (inside first) bind)
        (λ w i. a w (In-append_left w (jobs_of_body p (bound_parts p (inside first) bind) body) (jobs_of_arms p (map inside parts) arms) i)))
        (λ s t o i. lower s site first.node rank.0 t o rank.1 below))
    arms_fall r k e (arm bind body arms) (first ∷ parts) all g a S (inr h) =
        arms_fall r k e arms parts (λ part i. all part (inr i)) g.2 (λ w i. a w (In-append_right w (jobs_of_body p (bound_parts p (inside first) bind) body) (jobs_of_arms p (map inside parts) arms) i)) S h

    tuple_falls : (arms : Arms) (parts : List Part) → x.node < length p.nodes → IsRank p x.node (rank_of ranks site) → FitsArms p (itself x ∷ []) arms → ((w : Job) → In w (jobs_of_arms p (itself x ∷ []) arms) → In w (jobs_of p)) → AllFall (scopes_of p (x.node ∷ []) arms)
    tuple_falls no_arms parts there k g a = absurd g
    tuple_falls (arm bind body (arm other more_body arms)) parts there k g a = absurd g.2
    tuple_falls (arm bind body no_arms) parts there k g a =
        one_falls (scope_of p x.node bind body)
        (scope_falls site x (rank_of ranks site) bind body there k (omega arith) (bind_fits p (itself x) bind g.0)
        (subst (λ (xs : List Part). (w : Job) → In w (jobs_of_body p xs body) → In w (jobs_of p)) (bound_is p (itself x) bind) (λ w i. a w (In-append_left w (jobs_of_body p (bound_parts p (itself x) bind) body) [] i)))
        (λ s t o i. absurd (no_sites s bind body g.0 i)))
      where
        no_sites : (s : ℕ) (bind : Bind) (body : Body) → MayBind p (itself x) bind → In s (scope_of p x.node bind body).sites → ⊥
        no_sites s Nothing (Does own is) m i = i
        no_sites s Whole (Does own is) m i = m
        no_sites s (Parts k) (Does own is) m i = i

    case_falls : (arms : Arms) (s : Shape) → shape_of p x.node ≡ s → x.node < length p.nodes → IsRank p x.node (rank_of ranks site) → 1 ≤ length (stands x s) → FitsArms p (stands x s) arms → ((w : Job) → In w (jobs_of_arms p (stands x s) arms) → In w (jobs_of p)) → AllFall (scopes_of p (stand_nodes x.node s) arms)
    case_falls arms (shape.Atom w) e there k l g a = absurd (omega (arith, l))
    case_falls arms (shape.Coll kind part low high) e there k l g a = absurd (omega (arith, l))
    case_falls arms (shape.Union parts) e there k l g a = arms_fall (rank_of ranks site) k refl arms parts (λ part i. (branch_there x.node parts part e i, (obeys p q f).branch_falls x.node parts part e i)) g a
    case_falls arms (shape.Product parts) e there k l g a = tuple_falls arms parts there k g a

  -- THE LAW: what the scopes of a job name comes before its site
  pub job_falls : (j : Job) (scopes : List Scope) → In j (jobs_of p) → j.on.node < length p.nodes → recipe_of p j.on.node j.doing ≡ of_scopes scopes → (S : Scope) → In S scopes → ScopeFalls (length p.nodes) (length p.sites) (IsSiteBefore ranks levels) (number p q f) S j.site
  job_falls j scopes h there e = by j.doing h e
    where
      same : (a b : List Scope) → of_scopes a ≡ of_scopes b → a ≡ b
      same a b e = cc

      never : (y b : ℕ) → of_each y b ≡ of_scopes scopes → ⊥
      never y b e = absurd (cc)

      by : (d : Doing) → In (record { site = j.site; on = j.on; doing = d }) (jobs_of p) → recipe_of p j.on.node d ≡ of_scopes scopes → AllFall j.site j.on scopes
      by (does body) i e = subst (AllFall j.site j.on) (same (scope_of p j.on.node Whole body ∷ []) scopes e) (body_falls j.site j.on body there i)
      by (calls callee) i e = subst (AllFall j.site j.on) (same (record { own = 0; node = j.on.node; sites = whole_sites (slice_get p.procs callee); parts = [] } ∷ []) scopes e) (call_falls j.site j.on callee there i)
      by (chooses arms) i e =
          let k = job_is p q (record { site = j.site; on = j.on; doing = chooses arms }) i in
          subst (AllFall j.site j.on) (same (scopes_of p (stand_nodes j.on.node (shape_of p j.on.node)) arms) scopes e)
          (case_falls j.site j.on arms (shape_of p j.on.node) refl there (job_rank (record { site = j.site; on = j.on; doing = chooses arms }) i) k.fits.0 k.fits.1 k.inner)
      by (walks body body_site) i e = absurd (never j.on.node body_site e)
