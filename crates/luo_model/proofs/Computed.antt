-- Charges, computed: what the definitions say follows wherever a number comes out.
use Rattle.std.proofs.Common.{◌≡◌, ◌+◌, ℕ, zero, suc, Bool, true, false, cond, List, [], ◌∷◌, inl, inr, refl, subst, Option, Some, None, slice_get, nat_eq, sum_by}
use Rattle.std.proofs.lemmas.Bool.{eqb-true}
use Rattle.luo_finite.specs.Listing.{In}
use Rattle.luo_finite.proofs.Sums.{Sums-at}
use Rattle.luo_finite.proofs.Totals.{Totals-of}
use Rattle.luo_model.specs.Tree.{Tree, Trees, Atom, Inj, Tup, Coll, none, more}
use Rattle.luo_model.specs.Program.{Program, Procedure, Body, Does, Items, no_items, item, Item, Call, Case, Forall, Arms, no_arms, arm, site_node}
use Rattle.luo_model.specs.Structures.{IsStructure, IsListing}
use Rattle.luo_model.specs.Charges.{bound, EachCharges, BodyCharges, ItemsCharge, ItemCharges, CaseCharges, ChargesWithin, Charges, Work, of_body, of_call, of_case, of_walk, works_of, WorkCharges, SiteCharges}
use Rattle.luo_model.specs.Tables.{IsTotal}
use Rattle.luo_model.proofs.Tests.{both, every}
use Rattle.luo_model.proofs.Candidates.{first_true, second_true, every_at}

-- ---- numbers that may be missing

abbrev pub add : Option ℕ → Option ℕ → Option ℕ
add (Some a) (Some b) = Some (a + b)
add _ _ = None

record Added (a b : Option ℕ) (q : ℕ) : Type 0 where
  left : ℕ
  right : ℕ
  is_left : a ≡ Some left
  is_right : b ≡ Some right
  is : q ≡ left + right

some_is : (a b : ℕ) → Some a ≡ Some b → b ≡ a
some_is a b e = cc

added : (a b : Option ℕ) (q : ℕ) → add a b ≡ Some q → Added a b q
added (Some a) (Some b) q e = record { left = a; right = b; is_left = refl; is_right = refl; is = some_is (a + b) q e }
added (Some a) None q e = absurd (cc)
added None (Some b) q e = absurd (cc)
added None None q e = absurd (cc)

abbrev pub with_some : {A : Type 0} → Option A → (A → Option ℕ) → Option ℕ
with_some None f = None
with_some (Some x) f = f x

there : {A : Type 0} (o : Option A) (f : A → Option ℕ) (q : ℕ) → with_some o f ≡ Some q → (x : A) × (o ≡ Some x) × (f x ≡ Some q)
there None f q e = absurd (cc)
there (Some x) f q e = (x, refl, e)

abbrev pub add_each : (Tree → Option ℕ) → Trees → Option ℕ
add_each f none = Some 0
add_each f (more t ts) = add (f t) (add_each f ts)

abbrev pub add_walk : (Tree → Option ℕ) → Tree → Option ℕ
add_walk f (Coll ts) = add_each f ts
add_walk f _ = None

each_is : (f : Tree → Option ℕ) (C : Tree → ℕ → Type 0) → ((t : Tree) (q : ℕ) → f t ≡ Some q → C t q) → (ts : Trees) (q : ℕ) → add_each f ts ≡ Some q → EachCharges C ts q
each_is f C h none q e = some_is 0 q e
each_is f C h (more t ts) q e = let r = added (f t) (add_each f ts) q e in (r.left, r.right, h t r.left r.is_left, each_is f C h ts r.right r.is_right, r.is)

walk_is : (f : Tree → Option ℕ) (t : Tree) (q : ℕ) → add_walk f t ≡ Some q → (ts : Trees) × (t ≡ Coll ts) × (add_each f ts ≡ Some q)
walk_is f (Atom w l) q e = absurd (cc)
walk_is f (Inj i t) q e = absurd (cc)
walk_is f (Tup ts) q e = absurd (cc)
walk_is f (Coll ts) q e = (ts, refl, e)

-- ---- bodies, where call gives what a called procedure charges

module _ (call : ℕ → Tree → Option ℕ) where
  abbrev mutual
    pub body_charge : Body → List Tree → Option ℕ
    body_charge (Does own items) vars = add (Some own) (items_charge items vars)

    pub items_charge : Items → List Tree → Option ℕ
    items_charge no_items vars = Some 0
    items_charge (item i is) vars = add (item_charge i vars) (items_charge is vars)

    pub item_charge : Item → List Tree → Option ℕ
    item_charge (Call var callee site) vars = with_some (slice_get vars var) (call callee)
    item_charge (Case var arms site) vars = with_some (slice_get vars var) (case_charge arms)
    item_charge (Forall var body body_site site) vars = with_some (slice_get vars var) (add_walk (λ t. body_charge body (t ∷ [])))

    pub case_charge : Arms → Tree → Option ℕ
    case_charge (arm bind body arms) (Inj (suc zero) t) = body_charge body (bound bind t)
    case_charge (arm bind body arms) (Inj (suc (suc i)) t) = case_charge arms (Inj (suc i) t)
    case_charge (arm bind body no_arms) (Tup ts) = body_charge body (bound bind (Tup ts))
    case_charge _ _ = None

  module _ (R : ℕ → Tree → ℕ → Type 0) (so : (f : ℕ) (t : Tree) (q : ℕ) → call f t ≡ Some q → R f t q) where
    mutual
      pub body_is : (body : Body) (vars : List Tree) (q : ℕ) → body_charge body vars ≡ Some q → BodyCharges R body vars q
      body_is (Does own items) vars q e =
          let r = added (Some own) (items_charge items vars) q e in
          (r.right, items_are items vars r.right r.is_right, subst (λ m. q ≡ m + r.right) (some_is own r.left r.is_left) r.is)

      items_are : (items : Items) (vars : List Tree) (q : ℕ) → items_charge items vars ≡ Some q → ItemsCharge R items vars q
      items_are no_items vars q e = some_is 0 q e
      items_are (item i is) vars q e =
          let r = added (item_charge i vars) (items_charge is vars) q e in
          (r.left, r.right, item_is i vars r.left r.is_left, items_are is vars r.right r.is_right, r.is)

      item_is : (i : Item) (vars : List Tree) (q : ℕ) → item_charge i vars ≡ Some q → ItemCharges R i vars q
      item_is (Call var callee site) vars q e = let r = there (slice_get vars var) (call callee) q e in (r.0, r.1, so callee r.0 q r.2)
      item_is (Case var arms site) vars q e = let r = there (slice_get vars var) (case_charge arms) q e in (r.0, r.1, case_is arms r.0 q r.2)
      item_is (Forall var body body_site site) vars q e =
          let f : Tree → Option ℕ = λ t. body_charge body (t ∷ []) in
          let r = there (slice_get vars var) (add_walk f) q e in
          let w = walk_is f r.0 q r.2 in
          (w.0, subst (λ t. slice_get vars var ≡ Some t) w.1 r.1, each_is f (λ t. BodyCharges R body (t ∷ [])) (λ t m k. body_is body (t ∷ []) m k) w.0 q w.2)

      pub case_is : (arms : Arms) (t : Tree) (q : ℕ) → case_charge arms t ≡ Some q → CaseCharges R arms t q
      case_is no_arms (Atom w l) q e = absurd (cc)
      case_is no_arms (Inj zero t) q e = absurd (cc)
      case_is no_arms (Inj (suc zero) t) q e = absurd (cc)
      case_is no_arms (Inj (suc (suc i)) t) q e = absurd (cc)
      case_is no_arms (Tup ts) q e = absurd (cc)
      case_is no_arms (Coll ts) q e = absurd (cc)
      case_is (arm b body no_arms) (Tup ts) q e = body_is body (bound b (Tup ts)) q e
      case_is (arm b body (arm d other arms)) (Tup ts) q e = absurd (cc)
      case_is (arm b body no_arms) (Inj zero t) q e = absurd (cc)
      case_is (arm b body (arm d other arms)) (Inj zero t) q e = absurd (cc)
      case_is (arm b body no_arms) (Inj (suc zero) t) q e = body_is body (bound b t) q e
      case_is (arm b body (arm d other arms)) (Inj (suc zero) t) q e = body_is body (bound b t) q e
      case_is (arm b body no_arms) (Inj (suc (suc i)) t) q e = case_is no_arms (Inj (suc i) t) q e
      case_is (arm b body (arm d other arms)) (Inj (suc (suc i)) t) q e = case_is (arm d other arms) (Inj (suc i) t) q e
      case_is (arm b body no_arms) (Atom w l) q e = absurd (cc)
      case_is (arm b body (arm d other arms)) (Atom w l) q e = absurd (cc)
      case_is (arm b body no_arms) (Coll ts) q e = absurd (cc)
      case_is (arm b body (arm d other arms)) (Coll ts) q e = absurd (cc)

-- ---- procedures and sites

-- by calls at most so deep
abbrev pub charge_within : List Procedure → ℕ → ℕ → Tree → Option ℕ
charge_within procs zero f s = None
charge_within procs (suc depth) f s = with_some (slice_get procs f) (λ P. body_charge (charge_within procs depth) P.body (s ∷ []))

within_is : (procs : List Procedure) (depth f : ℕ) (s : Tree) (q : ℕ) → charge_within procs depth f s ≡ Some q → ChargesWithin procs depth f s q
within_is procs zero f s q e = absurd (cc)
within_is procs (suc depth) f s q e =
    let r = there (slice_get procs f) (λ P. body_charge (charge_within procs depth) P.body (s ∷ [])) q e in
    (r.0, r.1, body_is (charge_within procs depth) (ChargesWithin procs depth) (within_is procs depth) r.0.body (s ∷ []) q r.2)

module _ (p : Program) (depth : ℕ) where
  abbrev pub charge : ℕ → Tree → Option ℕ
  charge = charge_within p.procs depth

  pub charge_is : (f : ℕ) (s : Tree) (q : ℕ) → charge f s ≡ Some q → Charges p f s q
  charge_is f s q e = (depth, within_is p.procs depth f s q e)

  abbrev pub work_charge : Work → Tree → Option ℕ
  work_charge (of_body body) s = body_charge charge body (s ∷ [])
  work_charge (of_call callee) s = charge callee s
  work_charge (of_case arms) s = case_charge charge arms s
  work_charge (of_walk body) s = add_walk (λ t. body_charge charge body (t ∷ [])) s

  work_is : (work : Work) (s : Tree) (q : ℕ) → work_charge work s ≡ Some q → WorkCharges p work s q
  work_is (of_body body) s q e = body_is charge (Charges p) charge_is body (s ∷ []) q e
  work_is (of_call callee) s q e = charge_is callee s q e
  work_is (of_case arms) s q e = case_is charge (Charges p) charge_is arms s q e
  work_is (of_walk body) s q e =
      let f : Tree → Option ℕ = λ t. body_charge charge body (t ∷ []) in
      let w = walk_is f s q e in
      (w.0, w.1, each_is f (λ t. BodyCharges (Charges p) body (t ∷ [])) (λ t m k. body_is charge (Charges p) charge_is body (t ∷ []) m k) w.0 q w.2)

-- what is done at the first site of this number
abbrev pub work_at : ℕ → List (ℕ × Work) → Option Work
work_at i [] = None
work_at i (w ∷ ws) = cond (nat_eq i w.0) (Some w.1) (work_at i ws)

work_in : (i : ℕ) (ws : List (ℕ × Work)) (work : Work) → work_at i ws ≡ Some work → In (i, work) ws
work_in i [] work e = absurd (cc)
work_in i (w ∷ ws) work e = by (nat_eq i w.0) refl (work_in i ws work) e
  where
    same : Some w.1 ≡ Some work → work ≡ w.1
    same e = cc

    by : (b : Bool) → nat_eq i w.0 ≡ b → (work_at i ws ≡ Some work → In (i, work) ws) → cond b (Some w.1) (work_at i ws) ≡ Some work → In (i, work) (w ∷ ws)
    by true f rest k = inl (λ j. (eqb-true i w.0 f j, same k j))
    by false f rest k = inr (rest k)

-- the charge of a site, and 0 where none comes out
abbrev pub site_charge : Program → ℕ → ℕ → Tree → Option ℕ
site_charge p depth i s = with_some (work_at i (works_of p)) (λ work. work_charge p depth work s)

site_is : (p : Program) (depth i : ℕ) (s : Tree) (q : ℕ) → site_charge p depth i s ≡ Some q → SiteCharges p i s q
site_is p depth i s q e =
    let r = there (work_at i (works_of p)) (λ work. work_charge p depth work s) q e in
    (r.0, work_in i (works_of p) r.0 r.1, work_is p depth r.0 s q r.2)

abbrev pub is_known : Option ℕ → Bool
is_known None = false
is_known (Some q) = true

abbrev pub number : Option ℕ → ℕ
number None = 0
number (Some q) = q

known : (o : Option ℕ) → is_known o ≡ true → o ≡ Some (number o)
known None e = absurd (cc)
known (Some q) e = refl

-- ---- totals

-- over this listing the charges of the site are known, and sum to this
abbrev pub is_total : Program → ℕ → ℕ → List Tree → ℕ → Bool
is_total p depth i l t = both (every (λ s. is_known (site_charge p depth i s)) l) (nat_eq (sum_by (λ s. number (site_charge p depth i s)) l) t)

pub total_is : (p : Program) (depth i n : ℕ) (l : List Tree) (t : ℕ) → IsListing p (site_node p i) n l → is_total p depth i l t ≡ true → IsTotal p i n t
total_is p depth i n l t h e =
    let w : Tree → ℕ = λ s. number (site_charge p depth i s) in
    let k : Tree → Bool = λ s. is_known (site_charge p depth i s) in
    Totals-of (IsStructure p (site_node p i) n) (SiteCharges p i) w t
    (λ s m. site_is p depth i s (w s) (known (site_charge p depth i s) (every_at k l s (first_true (every k l) _ e) (h.complete s m))))
    (Sums-at (IsStructure p (site_node p i) n) w l t h (eqb-true (sum_by w l) t (second_true (every k l) _ e)))
