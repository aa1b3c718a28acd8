-- What a procedure charges, step by step of the interpreter.
use Rattle.std.proofs.Common.{◌≡◌, ℕ, zero, suc, ◌+◌, ◌-◌, ◌<◌, ◌≤◌, List, [], ◌∷◌, inl, inr, ⊎_elim, length, drop, get_or, map, max, refl, sym, ap, subst, ◌∙◌, arith, Some, None, slice_get}
use Rattle.std.proofs.lemmas.List.{drop_all, drop_more}
use Rattle.std.proofs.lemmas.Option.{slice_get_within}
use Rattle.luo_finite.specs.Walk.{OnCircle}
use Rattle.luo_finite.proofs.Places.{get_map, length_map, some_same, none_some}
use Rattle.luo_finite.proofs.Walks.{no_path, few_steps}
use Rattle.luo_num.specs.Mark.{capped}
use Rattle.luo_num.specs.declared.TheConstants.{MARK, MAX}
use Rattle.luo_num.specs.declared.limits.TheConstants.{PROCEDURE_LIMIT}
use Rattle.luo_model.specs.declared.body.Arm.{Arm}
use Rattle.luo_model.specs.declared.body.Body.{Body}
use Rattle.luo_model.specs.declared.body.Item.{Item, Case, Forall, Call}
use Rattle.luo_model.specs.declared.body.Bind.{Bind}
use Rattle.luo_model.specs.declared.body.Bind.TheVariants.{Nothing, Whole, Parts}
use Rattle.luo_model.specs.declared.program.Proc.{Proc}
use Rattle.luo_model.specs.declared.program.Shape.{Shape}
use Rattle.luo_model.specs.declared.program.Shape.TheVariants as shape
use Rattle.luo_model.specs.Tree.{Tree, Trees, Inj, Tup, Coll, none, more, to_list}
use Rattle.luo_model.specs.Tree as tree
use Rattle.luo_model.specs.Program as plain
use Rattle.luo_model.specs.Program.{Program, Procedure, Arms, no_arms, arm, shape_of}
use Rattle.luo_model.specs.Charges.{parts_of, bound, EachCharges, BodyCharges, ItemsCharge, ItemCharges, CaseCharges, ChargesWithin, Charges, Work, of_call, of_case, of_walk, WorkCharges}
use Rattle.luo_model.specs.Founded.{CallsAmong, OwnCall, IsFounded}
use Rattle.luo_model.specs.Invariant.{IsProgram, IsAllowed}
use Rattle.luo_model.specs.Lists.{arm_list}
use Rattle.luo_model.specs.Member.{Member}
use Rattle.luo_model.specs.declared.program.Part.{Part}
use Rattle.luo_model.specs.Scopes.Stands.{Stand, itself, stands, component, MayBind, bound_parts}
use Rattle.luo_model.specs.Scopes.Fits.{FitsItems, FitsItem, FitsArms}
use Rattle.luo_model.specs.View.{Held, plain_of, procedure_of, item_of, item_list, body_of}
use Rattle.luo_model.proofs.NodeLemmas.{node_at_place}
use Rattle.luo_model.proofs.SiteLemmas.{procedures_charge_their_bodies}
use Rattle.luo_model.proofs.ViewLemmas.{case_item, walk_item}
use Rattle.luo_founded.proofs.Charged.{parts_in, all_parts_in, charge_exists}
use Rattle.luo_struct.specs.declared.structure.Structure.{Structure}
use Rattle.luo_struct.specs.View.{tree_of, tree_list}
use Rattle.luo_interp.specs.inner.Short.{Ends, IsShort, AreShort, BodyIsShort, ItemIsShort, StandsBody, StandItems, StandsItem, StandArms}

-- the most parts that one of these structures has
abbrev pub reach : List Tree → ℕ
reach [] = 0
reach (t ∷ ts) = max (parts_in t) (reach ts)

-- the parts below a structure itself
abbrev pub beneath : Tree → ℕ
beneath t = parts_in t - 1

pub some_parts : (t : Tree) → 1 ≤ parts_in t
some_parts (tree.Atom w l) = omega arith
some_parts (Inj i t) = omega arith
some_parts (Tup ts) = omega arith
some_parts (Coll ts) = omega arith

pub part_reach : (ts : List Tree) (i : ℕ) (t : Tree) → slice_get ts i ≡ Some t → parts_in t ≤ reach ts
part_reach [] i t e = absurd (none_some t e)
part_reach (x ∷ ts) zero t e = omega (arith, ap parts_in (some_same x t e))
part_reach (x ∷ ts) (suc i) t e = omega (arith, part_reach ts i t e)

pub all_reach : (ts : Trees) → reach (to_list ts) ≤ all_parts_in ts
all_reach none = omega arith
all_reach (more t ts) = omega (arith, all_reach ts)

pub bound_reach : (bind : Bind) (t : Tree) → reach (bound bind t) ≤ parts_in t
bound_reach Nothing t = omega (arith, some_parts t)
bound_reach Whole t = omega arith
bound_reach (Parts k) (tree.Atom w l) = omega arith
bound_reach (Parts k) (Inj i t) = omega arith
bound_reach (Parts k) (Tup ts) = omega (arith, all_reach ts)
bound_reach (Parts k) (Coll ts) = omega arith

-- a list from one of its elements on
pub at_element : {A : Type 0} (xs : List A) (i : ℕ) (x : A) → i < length xs → x ≡ get_or xs i x → drop i xs ≡ x ∷ drop (i + 1) xs
at_element xs i x h e = drop_more xs i x h ∙ ap (λ y. y ∷ drop (i + 1) xs) (sym e)

pub got : {A : Type 0} (xs : List A) (i : ℕ) (x : A) → i < length xs → x ≡ get_or xs i x → slice_get xs i ≡ Some x
got [] i x h e = absurd (omega arith)
got (y ∷ xs) zero x h e = ap Some (sym e)
got (y ∷ xs) (suc i) x h e = got xs i x (omega arith) e

-- where R is of each list the sum of what its elements have, the sum so far, with that of what is left, is marked as that of all
pub record SumSoFar (A : Type 0) (R : List A → ℕ → Type 0) (xs : List A) (i sum : ℕ) : Type 0 where
  pub small : sum ≤ MARK
  pub left : (q : ℕ) → R xs q → (r : ℕ) × R (drop i xs) r × (capped (sum + r) ≡ capped q)

module _ (A : Type 0) (R : List A → ℕ → Type 0) (E : A → ℕ → Type 0) (xs : List A) where
  pub sum_start : SumSoFar A R xs 0 0
  sum_start = record { small = omega arith; left = λ q c. (q, c, let e : capped (0 + q) ≡ capped q = omega arith in e) }

  pub sum_next : ((x : A) (ys : List A) (q : ℕ) → R (x ∷ ys) q → (a : ℕ) × (b : ℕ) × E x a × R ys b × (q ≡ a + b)) → (i : ℕ) (x : A) (sum one new : ℕ) → i < length xs → x ≡ get_or xs i x
      → ((a : ℕ) → E x a → one ≡ capped a) → new ≡ capped (sum + one) → SumSoFar A R xs i sum → SumSoFar A R xs (i + 1) new
  sum_next step i x sum one new l at each is h = record {
    small = omega (arith, is);
    left = λ q c.
        let r = h.left q c in
        let d = step x (drop (i + 1) xs) r.0 (subst (λ ys. R ys r.0) (at_element xs i x l at) r.1) in
        let e : one ≡ capped d.0 = each d.0 d.2 in
        let f : r.0 ≡ d.0 + d.1 = d.4 in
        let g : capped (sum + r.0) ≡ capped q = r.2 in
        (d.1, d.3, added sum one new d.0 d.1 r.0 q e is f g);
  }
    where
      added : (sum one new a b r q : ℕ) → one ≡ capped a → new ≡ capped (sum + one) → r ≡ a + b → capped (sum + r) ≡ capped q → capped (new + b) ≡ capped q
      added sum one new a b r q e is f g = omega arith

  pub sum_end : ((q : ℕ) → R [] q → q ≡ 0) → (i sum : ℕ) → length xs ≤ i → SumSoFar A R xs i sum → (q : ℕ) → R xs q → sum ≡ capped q
  sum_end stop i sum l h q c =
      let r = h.left q c in
      let e : r.0 ≡ 0 = stop r.0 (subst (λ ys. R ys r.0) (drop_all i xs l) r.1) in
      ended sum r.0 q h.small e r.2
    where
      ended : (sum r q : ℕ) → sum ≤ MARK → r ≡ 0 → capped (sum + r) ≡ capped q → sum ≡ capped q
      ended sum r q s e g = omega arith

-- at least one step is left, and one fewer after a call
pub some_left : (p : Program) (left f : ℕ) → IsShort p left f → 0 < left
some_left p left f h = h 0 f refl

pub call_short : (p : Program) (left f : ℕ) (P : Procedure) → slice_get p.procs f ≡ Some P → IsShort p left f → BodyIsShort p (left - 1) P.body
call_short p left f P e h g i steps y w = less steps left (h (suc steps) y (g, (P, e, i), w))
  where
    less : (steps left : ℕ) → suc steps < left → steps < left - 1
    less steps left h = omega arith

-- without circles calls on one structure are fewer than the procedures and one more
pub all_short : (p : Program) → ((f : ℕ) → OnCircle (OwnCall p) f → ⊥) → (f : ℕ) → IsShort p (length p.procs + 1) f
all_short p founded f steps g w =
    omega (arith, few_steps (OwnCall p) founded (length p.procs) (λ x y o. slice_get_within p.procs x o.0 o.1) steps f g [] (no_path (OwnCall p) (length p.procs) f) w)

-- the charges of a procedure are those of its body, and there are none where it isn't there
pub body_charges : (p : Program) (f : ℕ) (P : Procedure) (s : Tree) (q : ℕ) → slice_get p.procs f ≡ Some P → Charges p f s q → BodyCharges (Charges p) P.body (s ∷ []) q
body_charges p f P s q e c = (procedures_charge_their_bodies p f P s q e).0 c

pub no_procedure : (p : Program) (f : ℕ) (s : Tree) (q : ℕ) → slice_get p.procs f ≡ None → Charges p f s q → ⊥
no_procedure p f s q e c = go c.0 c.1
  where
    go : (depth : ℕ) → ChargesWithin p.procs depth f s q → ⊥
    go zero w = w
    go (suc depth) w = none_some w.0 (sym e ∙ w.1)

-- variables of the code as trees
pub tree_at : (ss : List Structure) (var : ℕ) (s : Structure) → slice_get ss var ≡ Some s → slice_get (to_list (tree_list ss)) var ≡ Some (tree_of s)
tree_at [] var s e = absurd (none_some s e)
tree_at (x ∷ ss) zero s e = ap (λ z. Some (tree_of z)) (some_same x s e)
tree_at (x ∷ ss) (suc var) s e = tree_at ss var s e

pub no_tree : (ss : List Structure) (var : ℕ) → slice_get ss var ≡ None → slice_get (to_list (tree_list ss)) var ≡ None
no_tree [] var e = refl
no_tree (x ∷ ss) zero e = absurd (none_some x (sym e))
no_tree (x ∷ ss) (suc var) e = no_tree ss var e

module _ (R : ℕ → Tree → ℕ → Type 0) where
  -- a structure of a branch takes its arm
  pub branch_taken : (arms : List Arm) (place : ℕ) (a : Arm) (t : Tree) (q : ℕ) → slice_get arms place ≡ Some a → CaseCharges R (arm_list arms) (Inj (suc place) t) q → BodyCharges R (body_of a.body) (bound a.bind t) q
  branch_taken [] place a t q e c = absurd (none_some a e)
  branch_taken (x ∷ []) zero a t q e c = subst (λ (z : Arm). BodyCharges R (body_of z.body) (bound z.bind t) q) (some_same x a e) c
  branch_taken (x ∷ (y ∷ arms)) zero a t q e c = subst (λ (z : Arm). BodyCharges R (body_of z.body) (bound z.bind t) q) (some_same x a e) c
  branch_taken (x ∷ []) (suc place) a t q e c = absurd (none_some a e)
  branch_taken (x ∷ (y ∷ arms)) (suc place) a t q e c = branch_taken (y ∷ arms) place a t q e c

  pub no_arm : (arms : List Arm) (place : ℕ) (t : Tree) (q : ℕ) → slice_get arms place ≡ None → CaseCharges R (arm_list arms) (Inj (suc place) t) q → ⊥
  no_arm [] zero t q e c = c
  no_arm [] (suc place) t q e c = c
  no_arm (x ∷ []) zero t q e c = none_some x (sym e)
  no_arm (x ∷ (y ∷ arms)) zero t q e c = none_some x (sym e)
  no_arm (x ∷ []) (suc place) t q e c = no_arm [] place t q refl c
  no_arm (x ∷ (y ∷ arms)) (suc place) t q e c = no_arm (y ∷ arms) place t q e c

  pub no_branch : (arms : List Arm) (t : Tree) (q : ℕ) → CaseCharges R (arm_list arms) (Inj zero t) q → ⊥
  no_branch [] t q c = c
  no_branch (x ∷ []) t q c = c
  no_branch (x ∷ (y ∷ arms)) t q c = c

  -- a case charges on structures of branches and on tuples alone, and on these by one arm
  pub no_atom : (arms : List Arm) (w l q : ℕ) → CaseCharges R (arm_list arms) (tree.Atom w l) q → ⊥
  no_atom [] w l q c = c
  no_atom (x ∷ []) w l q c = c
  no_atom (x ∷ (y ∷ arms)) w l q c = c

  pub no_collection : (arms : List Arm) (ts : Trees) (q : ℕ) → CaseCharges R (arm_list arms) (Coll ts) q → ⊥
  no_collection [] ts q c = c
  no_collection (x ∷ []) ts q c = c
  no_collection (x ∷ (y ∷ arms)) ts q c = c

  pub one_arm : (arms : List Arm) (ts : Trees) (q : ℕ) → (length arms ≡ 1 → ⊥) → CaseCharges R (arm_list arms) (Tup ts) q → ⊥
  one_arm [] ts q n c = c
  one_arm (x ∷ []) ts q n c = n refl
  one_arm (x ∷ (y ∷ arms)) ts q n c = c

-- what stands in a scope
module _ (p : Program) where
  pub item_stands : (items : List Item) (i : ℕ) (x : Item) → slice_get items i ≡ Some x → StandItems p (item_list items) → StandsItem p (item_of x)
  item_stands items i x e h = (h.0, go items i e h.1)
    where
      go : (items : List Item) (i : ℕ) → slice_get items i ≡ Some x → FitsItems p h.0 (item_list items) → FitsItem p h.0 (item_of x)
      go [] i e f = absurd (none_some x e)
      go (y ∷ items) zero e f = subst (λ z. FitsItem p h.0 (item_of z)) (some_same y x e) f.0
      go (y ∷ items) (suc i) e f = go items i e f.1

  pub case_stands : (i : Item) (var site : ℕ) (arms same : List Arm) → i ≡ Case var arms site → same ≡ arms → StandsItem p (item_of i) → StandArms p (arm_list same)
  case_stands i var site arms same e f h =
      let g : FitsItem p h.0 (plain.Case var (arm_list arms) site) = subst (FitsItem p h.0) (ap item_of e ∙ case_item var arms site) h.1 in
      subst (λ z. StandArms p (arm_list z)) (sym f) (g.0, g.3)

  pub walk_stands : (i : Item) (var body_site site : ℕ) (body : Body) → i ≡ Forall var body body_site site → StandsItem p (item_of i) → StandsBody p (body_of body)
  walk_stands i var body_site site body e h =
      let g : FitsItem p h.0 (plain.Forall var (body_of body) body_site site) = subst (FitsItem p h.0) (ap item_of e ∙ walk_item var body body_site site) h.1 in
      (component (shape_of p g.0.node) ∷ [], g.3)

  pub arm_stands : (arms : List Arm) (place : ℕ) (a : Arm) → slice_get arms place ≡ Some a → StandArms p (arm_list arms) → StandsBody p (body_of a.body)
  arm_stands arms place a e h = go (stands h.0 (shape_of p h.0.node)) arms place e h.1
    where
      go : (ss : List Stand) (arms : List Arm) (place : ℕ) → slice_get arms place ≡ Some a → FitsArms p ss (arm_list arms) → StandsBody p (body_of a.body)
      go ss [] place e f = absurd (none_some a e)
      go [] (x ∷ arms) place e f = absurd f
      go (s ∷ ss) (x ∷ arms) zero e f = subst (λ (z : Arm). StandsBody p (body_of z.body)) (some_same x a e) (bound_parts p s x.bind, f.1)
      go (s ∷ ss) (x ∷ arms) (suc place) e f = go ss arms place e f.2

  -- the one arm of a case doesn't bind a whole
  pub parts_or_nothing : IsProgram p → (a : Arm) → a.bind ≡ Whole → StandArms p (arm_list (a ∷ [])) → ⊥
  parts_or_nothing q a e h = ⊎_elim
      (λ n. go h.0 (shape_of p h.0.node) (subst (IsAllowed p.universe) (sym n.2) (q.allowed h.0.node n.0 n.1)) a.bind e h.1)
      (λ n. subst (λ z. FitsArms p (stands h.0 z) (arm_list (a ∷ []))) n h.1) (node_at_place p h.0.node)
    where
      go : (x : Part) (s : Shape) → IsAllowed p.universe s → (b : Bind) → b ≡ Whole → FitsArms p (stands x s) (arm b (body_of a.body) no_arms) → ⊥
      go x (shape.Atom w) k b e f = f
      go x (shape.Union []) k b e f = f
      go x (shape.Union (part ∷ [])) k b e f = omega (arith, k.0)
      go x (shape.Union (part ∷ (other ∷ parts))) k b e f = f.2
      go x (shape.Product parts) k b e f = subst (λ c. MayBind p (itself x) c) e f.0
      go x (shape.Coll kind part low high) k b e f = f

-- calls among items
pub call_among : (g : ℕ) (i : plain.Item) (is : plain.Items) → CallsAmong g (plain.item i plain.no_items) → CallsAmong g (plain.item i is)
call_among g (plain.Call var callee site) is h = ⊎_elim (λ e. inl e) (λ n. absurd n) h
call_among g (plain.Case var arms site) is h = absurd h
call_among g (plain.Forall var body body_site site) is h = absurd h

pub call_behind : (g : ℕ) (i : plain.Item) (is : plain.Items) → CallsAmong g is → CallsAmong g (plain.item i is)
call_behind g (plain.Call var callee site) is h = inr h
call_behind g (plain.Case var arms site) is h = h
call_behind g (plain.Forall var body body_site site) is h = h

pub item_short : (p : Program) (left : ℕ) (items : List Item) (i : ℕ) (x : Item) → slice_get items i ≡ Some x → AreShort p left (item_list items) → ItemIsShort p left (item_of x)
item_short p left items i x e h g c = h g (go items i e)
  where
    go : (items : List Item) (i : ℕ) → slice_get items i ≡ Some x → CallsAmong g (item_list items)
    go [] i e = absurd (none_some x e)
    go (y ∷ items) zero e = call_among g (item_of y) (item_list items) (subst (λ z. CallsAmong g (plain.item (item_of z) plain.no_items)) (sym (some_same y x e)) c)
    go (y ∷ items) (suc i) e = call_behind g (item_of y) (item_list items) (go items i e)

pub parts_are_bound : (bind : Bind) (k : ℕ) (t : Tree) (ts : Trees) → bind ≡ Parts k → t ≡ Tup ts → to_list ts ≡ bound bind t
parts_are_bound bind k t ts e f = ap parts_of (sym f) ∙ ap (λ b. bound b t) (sym e)

-- what an item is done on, and what is done there
abbrev pub var_of : plain.Item → ℕ
var_of (plain.Call var callee site) = var
var_of (plain.Case var arms site) = var
var_of (plain.Forall var body body_site site) = var

abbrev pub work_of : plain.Item → Work
work_of (plain.Call var callee site) = of_call callee
work_of (plain.Case var arms site) = of_case arms
work_of (plain.Forall var body body_site site) = of_walk body

item_works : (p : Program) (i : plain.Item) (vars : List Tree) (t : Tree) (q : ℕ) → slice_get vars (var_of i) ≡ Some t → ItemCharges (Charges p) i vars q → WorkCharges p (work_of i) t q
item_works p (plain.Call var callee site) vars t q e c = subst (λ z. Charges p callee z q) (some_same c.0 t (sym c.1 ∙ e)) c.2
item_works p (plain.Case var arms site) vars t q e c = subst (λ z. CaseCharges (Charges p) arms z q) (some_same c.0 t (sym c.1 ∙ e)) c.2
item_works p (plain.Forall var body body_site site) vars t q e c = (c.0, some_same t (Coll c.0) (sym e ∙ c.1), c.2)

item_stops : (p : Program) (i : plain.Item) (vars : List Tree) (q : ℕ) → slice_get vars (var_of i) ≡ None → ItemCharges (Charges p) i vars q → ⊥
item_stops p (plain.Call var callee site) vars q e c = none_some c.0 (sym e ∙ c.1)
item_stops p (plain.Case var arms site) vars q e c = none_some c.0 (sym e ∙ c.1)
item_stops p (plain.Forall var body body_site site) vars q e c = none_some (Coll c.0) (sym e ∙ c.1)

pub no_get : {A : Type 0} (xs : List A) (i : ℕ) → length xs ≤ i → slice_get xs i ≡ None
no_get [] i h = refl
no_get (x ∷ xs) zero h = absurd (omega arith)
no_get (x ∷ xs) (suc i) h = no_get xs i (omega arith)

module _ (p : Program) where
  pub item_charged : (x : Item) (i : plain.Item) (ss : List Structure) (s : Structure) (n : ℕ) → item_of x ≡ i → slice_get ss (var_of i) ≡ Some s → ((q : ℕ) → WorkCharges p (work_of i) (tree_of s) q → n ≡ capped q)
      → (q : ℕ) → ItemCharges (Charges p) (item_of x) (to_list (tree_list ss)) q → n ≡ capped q
  item_charged x i ss s n e g each q c = each q (item_works p i (to_list (tree_list ss)) (tree_of s) q (tree_at ss (var_of i) s g) (subst (λ z. ItemCharges (Charges p) z (to_list (tree_list ss)) q) e c))

  pub item_unbound : (x : Item) (i : plain.Item) (ss : List Structure) → item_of x ≡ i → length ss ≤ var_of i → (q : ℕ) → ItemCharges (Charges p) (item_of x) (to_list (tree_list ss)) q → 0 ≡ capped q
  item_unbound x i ss e g q c = absurd (item_stops p i (to_list (tree_list ss)) q (no_tree ss (var_of i) (no_get ss (var_of i) g)) (subst (λ z. ItemCharges (Charges p) z (to_list (tree_list ss)) q) e c))

  pub body_charged : (body : Body) (items : List Item) (vars : List Tree) (one new : ℕ) → items ≡ body.items → ((q : ℕ) → ItemsCharge (Charges p) (item_list items) vars q → one ≡ capped q) → new ≡ capped (body.own + one)
      → (q : ℕ) → BodyCharges (Charges p) (body_of body) vars q → new ≡ capped q
  body_charged body items vars one new e each is q c = total one body.own c.0 q new (each c.0 (subst (λ z. ItemsCharge (Charges p) (item_list z) vars c.0) (sym e) c.1)) is c.2
    where
      total : (one own r q new : ℕ) → one ≡ capped r → new ≡ capped (own + one) → q ≡ own + r → new ≡ capped q
      total one own r q new f i g = omega arith

  pub branch_charged : (arms : List Arm) (s inner : Tree) (branch place : ℕ) (a : Arm) (vars : List Tree) (n : ℕ) → s ≡ Inj branch inner → branch ≡ place + 1 → slice_get arms place ≡ Some a → vars ≡ bound a.bind inner
      → ((q : ℕ) → BodyCharges (Charges p) (body_of a.body) vars q → n ≡ capped q) → (q : ℕ) → CaseCharges (Charges p) (arm_list arms) s q → n ≡ capped q
  branch_charged arms s inner branch place a vars n e f g h each q c =
      each q (subst (λ z. BodyCharges (Charges p) (body_of a.body) z q) (sym h) (branch_taken (Charges p) arms place a inner q g (subst (λ z. CaseCharges (Charges p) (arm_list arms) z q) (e ∙ ap (λ b. Inj b inner) (next place branch f)) c)))
    where
      next : (place branch : ℕ) → branch ≡ place + 1 → branch ≡ suc place
      next place branch f = omega arith

  pub branch_missing : (arms : List Arm) (s inner : Tree) (branch place : ℕ) → s ≡ Inj branch inner → branch ≡ place + 1 → length arms ≤ place → (q : ℕ) → CaseCharges (Charges p) (arm_list arms) s q → 0 ≡ capped q
  branch_missing arms s inner branch place e f g q c =
      absurd (no_arm (Charges p) arms place inner q (no_get arms place g) (subst (λ z. CaseCharges (Charges p) (arm_list arms) z q) (e ∙ ap (λ b. Inj b inner) (next place branch f)) c))
    where
      next : (place branch : ℕ) → branch ≡ place + 1 → branch ≡ suc place
      next place branch f = omega arith

  one_taken : (arms : List Arm) (a : Arm) (ts : Trees) (q : ℕ) → length arms ≡ 1 → slice_get arms 0 ≡ Some a → CaseCharges (Charges p) (arm_list arms) (Tup ts) q → BodyCharges (Charges p) (body_of a.body) (bound a.bind (Tup ts)) q
  one_taken [] a ts q l e c = absurd (omega arith)
  one_taken (x ∷ []) a ts q l e c = subst (λ (z : Arm). BodyCharges (Charges p) (body_of z.body) (bound z.bind (Tup ts)) q) (some_same x a e) c
  one_taken (x ∷ (y ∷ arms)) a ts q l e c = absurd (omega arith)

  pub tuple_charged : (arms : List Arm) (s : Tree) (ts : Trees) (a : Arm) (k n : ℕ) → s ≡ Tup ts → length arms ≡ 1 → slice_get arms 0 ≡ Some a → a.bind ≡ Parts k
      → ((q : ℕ) → BodyCharges (Charges p) (body_of a.body) (to_list ts) q → n ≡ capped q) → (q : ℕ) → CaseCharges (Charges p) (arm_list arms) s q → n ≡ capped q
  tuple_charged arms s ts a k n e l g b each q c =
      each q (subst (λ z. BodyCharges (Charges p) (body_of a.body) (bound z (Tup ts)) q) b (one_taken arms a ts q l g (subst (λ z. CaseCharges (Charges p) (arm_list arms) z q) e c)))

  alone : (arms : List Arm) (a : Arm) → length arms ≡ 1 → slice_get arms 0 ≡ Some a → arms ≡ a ∷ []
  alone [] a l e = absurd (omega arith)
  alone (x ∷ []) a l e = ap (λ z. z ∷ []) (some_same x a e)
  alone (x ∷ (y ∷ arms)) a l e = absurd (omega arith)

  pub nothing_bound : IsProgram p → (arms : List Arm) (s : Tree) (ts : Trees) (a : Arm) (n : ℕ) → StandArms p (arm_list arms) → s ≡ Tup ts → length arms ≡ 1 → slice_get arms 0 ≡ Some a → ((k : ℕ) → a.bind ≡ Parts k → ⊥)
      → ((q : ℕ) → BodyCharges (Charges p) (body_of a.body) [] q → n ≡ capped q) → (q : ℕ) → CaseCharges (Charges p) (arm_list arms) s q → n ≡ capped q
  nothing_bound i arms s ts a n stand e l g not each q c =
      go a.bind refl (one_taken arms a ts q l g (subst (λ z. CaseCharges (Charges p) (arm_list arms) z q) e c))
    where
      go : (b : Bind) → a.bind ≡ b → BodyCharges (Charges p) (body_of a.body) (bound a.bind (Tup ts)) q → n ≡ capped q
      go Nothing f d = each q (subst (λ z. BodyCharges (Charges p) (body_of a.body) (bound z (Tup ts)) q) f d)
      go Whole f d = absurd (parts_or_nothing p i a f (subst (λ z. StandArms p (arm_list z)) (alone arms a l g) stand))
      go (Parts k) f d = absurd (not k f)

  pub more_arms : (arms : List Arm) (s : Tree) (ts : Trees) → s ≡ Tup ts → (length arms ≡ 1 → ⊥) → (q : ℕ) → CaseCharges (Charges p) (arm_list arms) s q → 0 ≡ capped q
  more_arms arms s ts e n q c = absurd (one_arm (Charges p) arms ts q n (subst (λ z. CaseCharges (Charges p) (arm_list arms) z q) e c))

-- what is inside a structure has fewer parts
pub branch_falls : (s inner : Tree) (branch : ℕ) (bind : Bind) (vars : List Tree) → s ≡ Inj branch inner → vars ≡ bound bind inner → reach vars ≤ beneath s
branch_falls s inner branch bind vars e f = omega (arith, ap reach f, bound_reach bind inner, ap beneath e)

pub tuple_falls : (s : Tree) (ts : Trees) → s ≡ Tup ts → reach (to_list ts) ≤ beneath s
tuple_falls s ts e = omega (arith, all_reach ts, ap beneath e)

pub part_falls : (s : Tree) (ss : List Structure) (i : ℕ) (x : Structure) → s ≡ Coll (tree_list ss) → slice_get ss i ≡ Some x → parts_in (tree_of x) ≤ beneath s
part_falls s ss i x e g = omega (arith, part_reach (to_list (tree_list ss)) i (tree_of x) (tree_at ss i x g), all_reach (tree_list ss), ap beneath e)

-- the program of the code
pub all_left : (h : Held) (n : ℕ) → n ≡ length h.procs → ((f : ℕ) → OnCircle (OwnCall (plain_of h)) f → ⊥) → (f : ℕ) → IsShort (plain_of h) (n + 1) f
all_left h n e founded f steps g w = omega (arith, all_short (plain_of h) founded f steps g w, length_map procedure_of h.procs, e)

pub proc_at : (h : Held) (procs : List Proc) (f : ℕ) (P : Proc) → procs ≡ h.procs → Some P ≡ slice_get procs f → slice_get (plain_of h).procs f ≡ Some (procedure_of P)
proc_at h procs f P e g = get_map procedure_of h.procs f P (ap (λ z. slice_get z f) (sym e) ∙ sym g)

pub no_proc : (h : Held) (procs : List Proc) (f : ℕ) → procs ≡ h.procs → None ≡ slice_get procs f → slice_get (plain_of h).procs f ≡ None
no_proc h procs f e g = none_map h.procs f (ap (λ z. slice_get z f) (sym e) ∙ sym g)
  where
    none_map : (ps : List Proc) (f : ℕ) → slice_get ps f ≡ None → slice_get (map procedure_of ps) f ≡ None
    none_map [] f e = refl
    none_map (P ∷ ps) zero e = absurd (none_some P (sym e))
    none_map (P ∷ ps) (suc f) e = none_map ps f e

pub called : (p : Program) (left : ℕ) (x : Item) (var callee site : ℕ) → x ≡ Call var callee site → ItemIsShort p left (item_of x) → IsShort p left callee
called p left x var callee site e h = subst (λ i. ItemIsShort p left i) (ap item_of e) h callee (inl refl)

pub ending : (p : Program) → IsProgram p → IsFounded p → Ends p
ending p q f = record { program = q; founded = f.no_endless }

pub few : (h : Held) → Ends (plain_of h) → length h.procs ≤ PROCEDURE_LIMIT
few h e = omega (arith, e.program.few_procedures, length_map procedure_of h.procs)

pub walked : (p : Program) (body : plain.Body) (s : Structure) (ss : List Structure) (n : ℕ) → tree_of s ≡ Coll (tree_list ss) → ((q : ℕ) → EachCharges (λ t. BodyCharges (Charges p) body (t ∷ [])) (tree_list ss) q → n ≡ capped q)
    → (q : ℕ) → WorkCharges p (of_walk body) (tree_of s) q → n ≡ capped q
walked p body s ss n e each q c = each q (subst (λ ts. EachCharges (λ t. BodyCharges (Charges p) body (t ∷ [])) ts q) (same c.0 (tree_list ss) (sym c.1 ∙ e)) c.2)
  where
    same : (ts us : Trees) → Coll ts ≡ Coll us → ts ≡ us
    same ts us f = cc

-- what is answered, where whatever the definitions charge the marked number is n
pub right_charge : (p : Program) → Ends p → (f : ℕ) (t : Tree) → (P : Procedure) × (slice_get p.procs f ≡ Some P) × Member p P.on.node t → (n : ℕ) → ((q : ℕ) → Charges p f t q → n ≡ capped q) → n ≤ MAX → Charges p f t n × (n ≤ MAX)
right_charge p ends f t there n each h =
    let r = charge_exists p ends.program ends.founded f there.0 there.1 t there.2 in
    (subst (Charges p f t) (small r.0 n (each r.0 r.1) h) r.1, h)
  where
    small : (q n : ℕ) → n ≡ capped q → n ≤ MAX → q ≡ n
    small q n e h = omega arith

pub over_charge : (p : Program) → Ends p → (f : ℕ) (t : Tree) → (P : Procedure) × (slice_get p.procs f ≡ Some P) × Member p P.on.node t → (n : ℕ) → ((q : ℕ) → Charges p f t q → n ≡ capped q) → MAX < n → (q : ℕ) × Charges p f t q × (MAX < q)
over_charge p ends f t there n each h =
    let r = charge_exists p ends.program ends.founded f there.0 there.1 t there.2 in
    (r.0, r.1, large r.0 n (each r.0 r.1) h)
  where
    large : (q n : ℕ) → n ≡ capped q → MAX < n → MAX < q
    large q n e h = omega arith
