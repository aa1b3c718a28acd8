-- What a scope of items charges: over the structures of its node, the number of the scope.
use Rattle.std.proofs.Common.{◌≡◌, ℕ, zero, suc, ◌+◌, ◌*◌, List, [], ◌∷◌, inl, inr, map, sum_by, refl, sym, ◌∙◌, ap, subst, arith, Some, slice_get}
use Rattle.std.proofs.lemmas.List.Sums.{sum_by-cons}
use Rattle.std.proofs.lemmas.Option.{get_or_from_slice_get, slice_get_within}
use Rattle.luo_finite.specs.Listing.{In, NoDouble, Sums}
use Rattle.luo_finite.proofs.Membership.{In-append_left, In-append_right}
use Rattle.luo_finite.proofs.Places.{some_same, none_some, length_map}
use Rattle.luo_model.specs.declared.body.Bind.{Bind}
use Rattle.luo_model.specs.declared.body.Bind.TheVariants.{Nothing, Whole, Parts}
use Rattle.luo_model.specs.declared.program.Part.{Part}
use Rattle.luo_model.specs.declared.program.Shape.{Shape}
use Rattle.luo_model.specs.declared.program.Shape.TheVariants as shape
use Rattle.luo_model.specs.Tree.{Tree, Trees, Atom, Inj, Tup, Coll, none, more, to_list}
use Rattle.luo_model.specs.Program.{Program, Body, Does, Items, no_items, item, Item, Call, Case, Forall, shape_of}
use Rattle.luo_model.specs.Member.{Fits, FitAll, Member}
use Rattle.luo_model.specs.Structures.{IsStructureOn}
use Rattle.luo_model.specs.Charges.{bound, parts_of, BodyCharges, ItemCharges, CaseCharges, EachCharges, Charges, works_of, WorkCharges}
use Rattle.luo_model.specs.Scopes.Stands.{Stand, stand_part, inside, itself, stands, factors, component, IsProductOf, MayBind, bound_parts, part_at, no_part}
use Rattle.luo_model.specs.Scopes.Fits.{FitsBody, FitsItems, FitsItem}
use Rattle.luo_model.specs.Invariant.{IsProgram}
use Rattle.luo_model.specs.Founded.{IsFounded}
use Rattle.luo_model.proofs.WorkLemmas.{sites_are_apart}
use Rattle.luo_counting.specs.Sharing.{IsRoom, products}
use Rattle.luo_counting.specs.Counted.{SumsAt, CountsAt}
use Rattle.luo_counting.proofs.TreeParts.{sums_in, AreBelow, AreAt}
use Rattle.luo_counting.proofs.TreeCharges.{sum_in, HaveCharges, body_charges, HaveTotals, all_of, body_total, plain, place, at_part, SumsAt-part}
use Rattle.luo_recipes.specs.Tasks.{does, calls, chooses, walks, work_of, Job, jobs_of_body, jobs_of_items, jobs_of_item, jobs_of_arms, jobs_of, var_in, site_in, sites_on, factors_from, scope_of, scope_number}
use Rattle.luo_recipes.proofs.CountLemmas.{number, number_known, light}
use Rattle.luo_recipes.proofs.TotalLemmas.{weight, weight_charged, total, total_known}
use Rattle.luo_recipes.proofs.JobLemmas.{job_is}
use Rattle.luo_recipes.proofs.PointSums.{sites_here, column, pointed, point_more, point_none}

-- where no two first parts are equal, a first part has one second
in_firsts : {B : Type 0} (l : List (ℕ × B)) (i : ℕ) (v : B) → In (i, v) l → In i (map (λ w. w.0) l)
in_firsts [] i v h = absurd h
in_firsts (w ∷ l) i v (inl e) = inl (ap (λ x. x.0) e)
in_firsts (w ∷ l) i v (inr h) = inr (in_firsts l i v h)

pub second_one : {B : Type 0} (l : List (ℕ × B)) → NoDouble (map (λ w. w.0) l) → (i : ℕ) (v w : B) → In (i, v) l → In (i, w) l → v ≡ w
second_one [] d i v w h k = absurd h
second_one (x ∷ l) d i v w (inl e) (inl g) = ap (λ z. z.1) (e ∙ sym g)
second_one (x ∷ l) d i v w (inl e) (inr k) = absurd (d.0 (subst (λ z. In z (map (λ w. w.0) l)) (ap (λ z. z.0) e) (in_firsts l i w k)))
second_one (x ∷ l) d i v w (inr h) (inl g) = absurd (d.0 (subst (λ z. In z (map (λ w. w.0) l)) (ap (λ z. z.0) g) (in_firsts l i v h)))
second_one (x ∷ l) d i v w (inr h) (inr k) = second_one l d.1 i v w h k

at_part_here : (j : ℕ) (w : Tree → ℕ) (ts : List Tree) (t : Tree) → slice_get ts j ≡ Some t → at_part j w ts ≡ w t
at_part_here j w [] t e = absurd (none_some t e)
at_part_here zero w (u ∷ ts) t e = ap w (some_same u t e)
at_part_here (suc j) w (u ∷ ts) t e = at_part_here j w ts t e

-- what may be bound of a part, and what is bound
abbrev pub BindFits : Program → Part → Bind → Type 0
BindFits p y (Parts k) = IsProductOf k (shape_of p y.node)
BindFits p y _ = Unit {0}

abbrev pub parts_bound : Program → Part → Bind → List Part
parts_bound p y Nothing = []
parts_bound p y Whole = y ∷ []
parts_bound p y (Parts k) = factors (shape_of p y.node)

pub bound_is : (p : Program) (stand : Stand) (bind : Bind) → bound_parts p stand bind ≡ parts_bound p (stand_part stand) bind
bound_is p (inside y) Nothing = refl
bound_is p (inside y) Whole = refl
bound_is p (inside y) (Parts k) = refl
bound_is p (itself y) Nothing = refl
bound_is p (itself y) Whole = refl
bound_is p (itself y) (Parts k) = refl

pub bind_fits : (p : Program) (stand : Stand) (bind : Bind) → MayBind p stand bind → BindFits p (stand_part stand) bind
bind_fits p stand Nothing m = tt
bind_fits p stand Whole m = tt
bind_fits p (inside y) (Parts k) m = m
bind_fits p (itself y) (Parts k) m = m

module _ (p : Program) where
  -- the trees stand for variables of these nodes
  abbrev pub Stands : List Part → List Tree → Type 0
  Stands xs vars = (j : ℕ) (x : Part) → slice_get xs j ≡ Some x → (t : Tree) × (slice_get vars j ≡ Some t) × Member p x.node t

  parts_stand : (parts : List Part) (ts : Trees) → FitAll p parts ts → Stands parts (to_list ts)
  parts_stand [] none m j x e = absurd (none_some x e)
  parts_stand [] (more t ts) m j x e = absurd m
  parts_stand (part ∷ parts) none m j x e = absurd m
  parts_stand (part ∷ parts) (more t ts) m zero x e = (t, refl, subst (λ (y : Part). Member p y.node t) (some_same part x e) m.0)
  parts_stand (part ∷ parts) (more t ts) m (suc j) x e = parts_stand parts ts m.1 j x e

  product_stands : (k : ℕ) (s : Shape) (t : Tree) → IsProductOf k s → Fits p s t → Stands (factors s) (parts_of t)
  product_stands k (shape.Atom w) t i m = absurd i
  product_stands k (shape.Union parts) t i m = absurd i
  product_stands k (shape.Coll kind part low high) t i m = absurd i
  product_stands k (shape.Product parts) (Atom w l) i m = absurd m
  product_stands k (shape.Product parts) (Inj j t) i m = absurd m
  product_stands k (shape.Product parts) (Tup ts) i m = parts_stand parts ts m
  product_stands k (shape.Product parts) (Coll ts) i m = absurd m

  one_stands : (y : Part) (t : Tree) → Member p y.node t → Stands (y ∷ []) (t ∷ [])
  one_stands y t m zero x e = (t, refl, subst (λ (z : Part). Member p z.node t) (some_same y x e) m)
  one_stands y t m (suc j) x e = absurd (none_some x e)

  no_stands : (t : Tree) → Stands [] []
  no_stands t j x e = absurd (none_some x e)

  pub bound_stands : (y : Part) (bind : Bind) (t : Tree) → BindFits p y bind → Member p y.node t → Stands (parts_bound p y bind) (bound bind t)
  bound_stands y Nothing t f m = no_stands t
  bound_stands y Whole t f m = one_stands y t m
  bound_stands y (Parts k) t f m = product_stands k (shape_of p y.node) t f m

  -- the job of an item itself
  abbrev pub own_job : List Part → Item → Job
  own_job xs (Call var callee site) = record { site = site; on = part_at xs var; doing = calls callee }
  own_job xs (Case var arms site) = record { site = site; on = part_at xs var; doing = chooses arms }
  own_job xs (Forall var body body_site site) = record { site = site; on = part_at xs var; doing = walks body body_site }

  pub own_in : (xs : List Part) (i : Item) → In (own_job xs i) (jobs_of_item p xs i)
  own_in xs (Call var callee site) = inl refl
  own_in xs (Case var arms site) = In-append_right (own_job xs (Case var arms site)) (jobs_of_arms p (stands (part_at xs var) (shape_of p (part_at xs var).node)) arms) (own_job xs (Case var arms site) ∷ []) (inl refl)
  own_in xs (Forall var body body_site site) =
      In-append_right (own_job xs (Forall var body body_site site)) (jobs_of_body p (component (shape_of p (part_at xs var).node) ∷ []) body)
      (record { site = body_site; on = component (shape_of p (part_at xs var).node); doing = does body } ∷ (own_job xs (Forall var body body_site site) ∷ [])) (inr (inl refl))

  -- the variable of an item is bound
  var_there : (xs : List Part) (i : Item) → FitsItem p xs i → (x : Part) × (slice_get xs (var_in i) ≡ Some x)
  var_there xs (Call var callee site) f = (f.1, f.3)
  var_there xs (Case var arms site) f = (f.0, f.1)
  var_there xs (Forall var body body_site site) f = (f.0, f.1)

  pub own_node : (xs : List Part) (i : Item) → (own_job xs i).on ≡ part_at xs (var_in i)
  own_node xs (Call var callee site) = refl
  own_node xs (Case var arms site) = refl
  own_node xs (Forall var body body_site site) = refl

  pub own_site : (xs : List Part) (i : Item) → (own_job xs i).site ≡ site_in i
  own_site xs (Call var callee site) = refl
  own_site xs (Case var arms site) = refl
  own_site xs (Forall var body body_site site) = refl

  module _ (q : IsProgram p) (f : IsFounded p) where
    W : ℕ → Tree → ℕ
    W = weight p q f

    T : ℕ → ℕ → ℕ
    T = total p q f

    C : ℕ → ℕ → ℕ
    C = number p q f

    -- a job charges its site's weight
    pub job_charges : (j : Job) → In j (jobs_of p) → (t : Tree) → Member p j.on.node t → WorkCharges p (work_of j.doing) t (weight p q f j.site t)
    job_charges j i t m =
        let k = job_is p q j i in
        let s = weight_charged p q f j.site k.within t (subst (λ x. Member p x t) (sym k.node_is) m) in
        subst (λ w. WorkCharges p w t (weight p q f j.site t)) (second_one (works_of p) (sites_are_apart p q) j.site s.0 (work_of j.doing) s.1 k.there) s.2

    pub job_total : (j : Job) → In j (jobs_of p) → (n : ℕ) → SumsAt p j.on.node (weight p q f j.site) n (total p q f j.site n)
    job_total j i n = let k = job_is p q j i in subst (λ x. SumsAt p x (weight p q f j.site) n (total p q f j.site n)) k.node_is (total_known p q f j.site n k.within)

    abbrev AreAmong : List Job → Type 0
    AreAmong jobs = (z : Job) → In z jobs → In z (jobs_of p)

    -- what each item charges in a scope
    abbrev pub item_weights : Items → List (List Tree → ℕ)
    item_weights no_items = []
    item_weights (item i is) = at_part (var_in i) (weight p q f (site_in i)) ∷ item_weights is

    item_charged : (i : Item) (xs : List Part) (vars : List Tree) → FitsItem p xs i → Stands xs vars → In (own_job xs i) (jobs_of p) → ItemCharges (Charges p) i vars (at_part (var_in i) (weight p q f (site_in i)) vars)
    item_charged (Call var callee site) xs vars g h j =
        let r = h var g.1 g.3 in
        let m = subst (λ (x : Part). Member p x.node r.0) (sym (get_or_from_slice_get xs var g.1 no_part g.3)) r.2 in
        (r.0, r.1, subst (λ a. Charges p callee r.0 a) (sym (at_part_here var (weight p q f site) vars r.0 r.1)) (job_charges (own_job xs (Call var callee site)) j r.0 m))
    item_charged (Case var arms site) xs vars g h j =
        let r = h var g.0 g.1 in
        let m = subst (λ (x : Part). Member p x.node r.0) (sym (get_or_from_slice_get xs var g.0 no_part g.1)) r.2 in
        (r.0, r.1, subst (λ a. CaseCharges (Charges p) arms r.0 a) (sym (at_part_here var (weight p q f site) vars r.0 r.1)) (job_charges (own_job xs (Case var arms site)) j r.0 m))
    item_charged (Forall var body body_site site) xs vars g h j =
        let r = h var g.0 g.1 in
        let m = subst (λ (x : Part). Member p x.node r.0) (sym (get_or_from_slice_get xs var g.0 no_part g.1)) r.2 in
        let c = job_charges (own_job xs (Forall var body body_site site)) j r.0 m in
        (c.0, r.1 ∙ ap Some c.1, subst (λ a. EachCharges (λ t. BodyCharges (Charges p) body (t ∷ [])) c.0 a) (sym (at_part_here var (weight p q f site) vars r.0 r.1)) c.2)

    items_charged : (is : Items) (xs : List Part) (vars : List Tree) → FitsItems p xs is → Stands xs vars → AreAmong (jobs_of_items p xs is) → HaveCharges p is (item_weights is) vars
    items_charged no_items xs vars g h a = tt
    items_charged (item i is) xs vars g h a = (
      item_charged i xs vars g.0 h (a (own_job xs i) (In-append_left (own_job xs i) (jobs_of_item p xs i) (jobs_of_items p xs is) (own_in xs i))),
      items_charged is xs vars g.1 h (λ z k. a z (In-append_right z (jobs_of_item p xs i) (jobs_of_items p xs is) k)),
    )

    abbrev pub body_weight : Body → List Tree → ℕ
    body_weight (Does own is) vars = own + sum_in (item_weights is) vars

    -- a body charges its weight
    pub scope_charged : (body : Body) (xs : List Part) (vars : List Tree) → FitsBody p xs body → Stands xs vars → AreAmong (jobs_of_body p xs body) → BodyCharges (Charges p) body vars (body_weight body vars)
    scope_charged (Does own is) xs vars g h a = body_charges p own is (item_weights is) vars (items_charged is xs vars g.1 h a)

    -- an item's total, where its variable has this node
    item_total : (i : Item) (xs : List Part) (x : Part) (n : ℕ) → slice_get xs (var_in i) ≡ Some x → In (own_job xs i) (jobs_of p) → SumsAt p x.node (weight p q f (site_in i)) n (total p q f (site_in i) n)
    item_total i xs x n e j =
        subst (λ s. SumsAt p x.node (weight p q f s) n (total p q f s n)) (own_site xs i)
        (subst (λ (y : Part). SumsAt p y.node (weight p q f (own_job xs i).site) n (total p q f (own_job xs i).site n)) (own_node xs i ∙ get_or_from_slice_get xs (var_in i) x no_part e) (job_total (own_job xs i) j n))

    -- ---- the structure itself
    whole_totals : Items → ℕ → List ℕ
    whole_totals no_items n = []
    whole_totals (item i is) n = total p q f (site_in i) n ∷ whole_totals is n

    only_var : (y : Part) (v : ℕ) (x : Part) → slice_get (y ∷ []) v ≡ Some x → v ≡ 0
    only_var y zero x e = refl
    only_var y (suc v) x e = absurd (none_some x e)

    whole_have : (y : Part) (n : ℕ) (L : List ℕ) → IsRoom p.universe L n → (is : Items) → FitsItems p (y ∷ []) is → AreAmong (jobs_of_items p (y ∷ []) is) → HaveTotals (IsStructureOn p y.node L n) (bound Whole) (item_weights is) (whole_totals is n)
    unfolding whole_totals
    whole_have y n L r no_items g a = tt
    whole_have y n L r (item i is) g a =
        let v = var_there (y ∷ []) i g.0 in
        let z : var_in i ≡ 0 = only_var y (var_in i) v.0 v.1 in
        let here : y ≡ v.0 = some_same y v.0 (ap (slice_get (y ∷ [])) (sym z) ∙ v.1) in (
          subst (λ (k : ℕ). Sums (IsStructureOn p y.node L n) (λ s. at_part k (weight p q f (site_in i)) (s ∷ [])) (total p q f (site_in i) n)) (sym z)
              (item_total i (y ∷ []) y n (v.1 ∙ ap Some (sym here)) (a (own_job (y ∷ []) i) (In-append_left (own_job (y ∷ []) i) (jobs_of_item p (y ∷ []) i) (jobs_of_items p (y ∷ []) is) (own_in (y ∷ []) i))) L r),
          whole_have y n L r is g.1 (λ w k. a w (In-append_right w (jobs_of_item p (y ∷ []) i) (jobs_of_items p (y ∷ []) is) k)),
        )

    whole_sum : (y : Part) (n : ℕ) (is : Items) → FitsItems p (y ∷ []) is → all_of (whole_totals is n) ≡ sum_by (λ s. total p q f s n) (sites_on 0 is)
    unfolding whole_totals
    whole_sum y n no_items g = refl
    whole_sum y n (item i is) g =
        let v = var_there (y ∷ []) i g.0 in
        ap (λ k. total p q f (site_in i) n + k) (whole_sum y n is g.1)
        ∙ sym (sum_by-cons (λ s. total p q f s n) (site_in i) (sites_on 0 is))
        ∙ ap (λ (l : List ℕ). sum_by (λ s. total p q f s n) l) (sym (sites_here i is 0 (only_var y (var_in i) v.0 v.1)))

    -- ---- its parts
    part_totals : List Part → Items → ℕ → List ℕ
    part_totals parts no_items n = []
    part_totals parts (item i is) n =
        products p.universe (sums_in (place (column p.universe (number p q f) (total p q f)) (var_in i) (weight p q f (site_in i)) (total p q f (site_in i)) parts)) n ∷ part_totals parts is n

    abbrev col : Part → ℕ → ℕ
    col part = number p q f part.node

    plain_below : (parts : List Part) (n : ℕ) → AreBelow p (plain col parts) n
    plain_below [] n = tt
    plain_below (part ∷ parts) n = ((λ m l. number_known p q f part.node m), plain_below parts n)

    plain_at : (parts : List Part) (n : ℕ) → AreAt p (plain col parts) n
    plain_at [] n = tt
    plain_at (part ∷ parts) n = (inl (number_known p q f part.node n), inl (plain_at parts n))

    place_below : (j : ℕ) (w : Tree → ℕ) (b : ℕ → ℕ) (parts : List Part) (n : ℕ) → ((x : Part) (m : ℕ) → slice_get parts j ≡ Some x → SumsAt p x.node w m (b m)) → AreBelow p (place col j w b parts) n
    place_below j w b [] n h = tt
    place_below zero w b (part ∷ parts) n h = ((λ m l. h part m refl), plain_below parts n)
    place_below (suc j) w b (part ∷ parts) n h = ((λ m l. number_known p q f part.node m), place_below j w b parts n h)

    place_at : (j : ℕ) (w : Tree → ℕ) (b : ℕ → ℕ) (parts : List Part) (n : ℕ) → ((x : Part) (m : ℕ) → slice_get parts j ≡ Some x → SumsAt p x.node w m (b m)) → AreAt p (place col j w b parts) n
    place_at j w b [] n h = tt
    place_at zero w b (part ∷ parts) n h = (inl (h part n refl), inl (plain_at parts n))
    place_at (suc j) w b (part ∷ parts) n h = (inl (number_known p q f part.node n), inl (place_at j w b parts n h))

    module _ (y : Part) (k n : ℕ) (parts : List Part) (is_product : shape_of p y.node ≡ shape.Product parts) where
      parts_have : (L : List ℕ) → IsRoom p.universe L n → (is : Items) → FitsItems p parts is → AreAmong (jobs_of_items p parts is) → HaveTotals (IsStructureOn p y.node L n) parts_of (item_weights is) (part_totals parts is n)
      unfolding part_totals
      parts_have L r no_items g a = tt
      parts_have L r (item i is) g a =
          let v = var_there parts i g.0 in
          let own = a (own_job parts i) (In-append_left (own_job parts i) (jobs_of_item p parts i) (jobs_of_items p parts is) (own_in parts i)) in
          let known : (x : Part) (m : ℕ) → slice_get parts (var_in i) ≡ Some x → SumsAt p x.node (weight p q f (site_in i)) m (total p q f (site_in i) m) = λ x m e. item_total i parts x m e own in (
            SumsAt-part p y.node parts (var_in i) n (weight p q f (site_in i)) (total p q f (site_in i)) col (light p q f) is_product (slice_get_within parts (var_in i) v.0 v.1)
                (place_below (var_in i) (weight p q f (site_in i)) (total p q f (site_in i)) parts n known) (place_at (var_in i) (weight p q f (site_in i)) (total p q f (site_in i)) parts n known) L r,
            parts_have L r is g.1 (λ w z. a w (In-append_right w (jobs_of_item p parts i) (jobs_of_items p parts is) z)),
          )

      parts_sum : (is : Items) → FitsItems p parts is → all_of (part_totals parts is n) ≡ pointed p.universe (number p q f) (total p q f) is 0 parts n
      unfolding part_totals
      parts_sum no_items g = sym (point_none p.universe (number p q f) (total p q f) 0 parts n)
      parts_sum (item i is) g =
          let v = var_there parts i g.0 in
          ap (λ m. products p.universe (sums_in (place (column p.universe (number p q f) (total p q f)) (var_in i) (weight p q f (site_in i)) (total p q f (site_in i)) parts)) n + m) (parts_sum is g.1)
          ∙ sym (point_more p.universe (number p q f) (total p q f) i is 0 (var_in i) (weight p q f (site_in i)) parts n (omega arith) (slice_get_within parts (var_in i) v.0 v.1))

    pub product_there : (k : ℕ) (s : Shape) → IsProductOf k s → (parts : List Part) × (s ≡ shape.Product parts)
    product_there k (shape.Atom w) i = absurd i
    product_there k (shape.Union parts) i = absurd i
    product_there k (shape.Coll kind part low high) i = absurd i
    product_there k (shape.Product parts) i = (parts, refl)

    number_here : (y n : ℕ) → CountsAt p y n (number p q f y n)
    number_here y n = number_known p q f y n

    only_none : (is : Items) → FitsItems p [] is → is ≡ no_items
    only_none no_items g = refl
    only_none (item i is) g = let v = var_there [] i g.0 in absurd (none_some v.0 v.1)

    -- THE LAW of scopes
    pub scope_total : (y : Part) (n : ℕ) (bind : Bind) (body : Body) → BindFits p y bind → FitsBody p (parts_bound p y bind) body → AreAmong (jobs_of_body p (parts_bound p y bind) body)
        → SumsAt p y.node (λ s. body_weight body (bound bind s)) n (scope_number p.universe (number p q f) (total p q f) (scope_of p y.node bind body) n)
    scope_total y n Nothing (Does own is) b g a L r =
        subst (λ (l : Items). Sums (IsStructureOn p y.node L n) (λ s. own + sum_in (item_weights l) []) (own * number p q f y.node n + (0 + 0))) (sym (only_none is g.1))
        (body_total (IsStructureOn p y.node L n) (λ s. []) own (number p q f y.node n) [] [] (number_here y.node n L r) tt)
    scope_total y n Whole (Does own is) b g a L r =
        subst (Sums (IsStructureOn p y.node L n) (λ s. own + sum_in (item_weights is) (s ∷ []))) (omega (arith, whole_sum y n is g.1))
        (body_total (IsStructureOn p y.node L n) (bound Whole) own (number p q f y.node n) (item_weights is) (whole_totals is n) (number_here y.node n L r) (whole_have y n L r is g.1 a))
    scope_total y n (Parts k) (Does own is) b g a L r =
        let z = product_there k (shape_of p y.node) b in
        let e : factors (shape_of p y.node) ≡ z.0 = ap factors z.1 in
        let g2 : FitsItems p z.0 is = subst (λ (xs : List Part). FitsItems p xs is) e g.1 in
        let a2 : AreAmong (jobs_of_items p z.0 is) = subst (λ (xs : List Part). AreAmong (jobs_of_items p xs is)) e a in
        subst (λ (s : Shape). Sums (IsStructureOn p y.node L n) (λ t. own + sum_in (item_weights is) (parts_of t)) (scope_number p.universe (number p q f) (total p q f) (record { own = own; node = y.node; sites = []; parts = factors_from is 0 (factors s) }) n)) (sym z.1)
        (subst (Sums (IsStructureOn p y.node L n) (λ t. own + sum_in (item_weights is) (parts_of t))) (omega (arith, parts_sum y k n z.0 z.1 is g2))
        (body_total (IsStructureOn p y.node L n) parts_of own (number p q f y.node n) (item_weights is) (part_totals z.0 is n) (number_here y.node n L r) (parts_have y k n z.0 z.1 L r is g2 a2)))
