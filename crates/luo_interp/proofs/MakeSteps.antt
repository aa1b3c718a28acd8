-- What a procedure makes of a structure, step by step of the interpreter.
use Rattle.std.proofs.Common.{◌≡◌, ℕ, zero, suc, ◌+◌, ◌-◌, ◌*◌, ◌<◌, ◌≤◌, List, [], ◌∷◌, ◌++◌, inl, inr, ⊎_elim, length, drop, get_or, refl, sym, ap, subst, ◌∙◌, arith, Some, None, slice_get, IfSome}
use Rattle.std.proofs.Math.Nat.{mul-le-mul_left}
use Rattle.std.proofs.lemmas.List.{drop_all, append-nil}
use Rattle.std.specs.Option.{option_map}
use Rattle.luo_finite.proofs.Places.{some_same, none_some}
use Rattle.luo_model.specs.declared.body.Bind.{Bind}
use Rattle.luo_model.specs.declared.body.Bind.TheVariants.{Nothing, Whole, Parts}
use Rattle.luo_model.specs.declared.program.Proc.{Proc}
use Rattle.luo_model.specs.declared.program.Universe.TheVariants.{Unlabelled}
use Rattle.luo_model.specs.declared.program.Shape.{Shape}
use Rattle.luo_model.specs.declared.program.Shape.TheVariants as shape
use Rattle.luo_model.specs.declared.value.Made.{Made}
use Rattle.luo_model.specs.declared.value.Value.{Value, Call}
use Rattle.luo_model.specs.declared.value.ValueArm.{ValueArm}
use Rattle.luo_model.specs.Tree.{Tree, Trees, Inj, Tup, Coll, none, more, to_list, from_list}
use Rattle.luo_model.specs.Tree as tree
use Rattle.luo_model.specs.Program as plain
use Rattle.luo_model.specs.Program.{Program, Procedure, Result, ValueArms, no_value_arms, value_arm, shape_of}
use Rattle.luo_model.specs.Charges.{bound}
use Rattle.luo_model.specs.Founded.{CallsAmong, CallsIn}
use Rattle.luo_model.specs.Invariant.{IsProgram, IsAllowed, IsNamed}
use Rattle.luo_model.specs.declared.program.Part.{Part}
use Rattle.luo_model.specs.Scopes.Stands.{Stand, itself, stands, MayBind, bound_parts}
use Rattle.luo_model.specs.Scopes.Fits.{FitsValue, FitsValues, FitsValueArms}
use Rattle.luo_model.specs.Scopes.ValueBodies.{join_items, value_items, values_items, value_body}
use Rattle.luo_model.specs.View.{Held, plain_of, procedure_of, result_of, value_of}
use Rattle.luo_model.proofs.NodeLemmas.{node_at_place}
use Rattle.luo_struct.specs.declared.structure.Structure.{Structure}
use Rattle.luo_struct.specs.View.{tree_of, tree_list}
use Rattle.luo_interp.specs.Makes.{ValueMakes, ValuesMake, ArmsMake, MakesWithin, Makes}
use Rattle.luo_interp.specs.inner.Short.{IsShort}
use Rattle.luo_model.specs.Lists.{value_list, value_arm_list}
use Rattle.luo_interp.specs.inner.Values.{ValueCalls, ValuesCall, ValueIsShort, ValuesAreShort, StandsValue, StandValues, StandValueArms}
use Rattle.luo_interp.specs.inner.ValueSizes.{value_size, values_size, value_arms_size, result_size, results_size, largest}
use Rattle.luo_interp.proofs.ChargeSteps.{at_element, no_get, tree_at, no_tree, call_behind, call_short}

-- a measure by a key, and among equal keys by the size of a value
pub weight : Program → ℕ → ℕ → ℕ
weight p k z = k * (largest p + 1) + z

pub by_key : (p : Program) (k l z w : ℕ) → z ≤ largest p → k < l → weight p k z < weight p l w
unfolding weight
by_key p k l z w s h = go (largest p) (mul-le-mul_left (largest p + 1) (let e : k + 1 ≤ l = omega arith in e)) s
  where
    go : (m : ℕ) → (m + 1) * (k + 1) ≤ (m + 1) * l → z ≤ m → k * (m + 1) + z < l * (m + 1) + w
    go m f s = omega (arith, f)

pub by_size : (p : Program) (k l z w : ℕ) → k ≤ l → z < w → weight p k z < weight p l w
unfolding weight
by_size p k l z w h s = go (largest p) (mul-le-mul_left (largest p + 1) h)
  where
    go : (m : ℕ) → (m + 1) * k ≤ (m + 1) * l → k * (m + 1) + z < l * (m + 1) + w
    go m f = omega (arith, f)

-- no result is larger than the largest
pub result_small : (p : Program) (f : ℕ) (P : Procedure) (r : Result) → slice_get p.procs f ≡ Some P → P.result ≡ Some r → value_size r.value ≤ largest p
unfolding largest
result_small p f P r e g = go p.procs f e
  where
    go : (ps : List Procedure) (f : ℕ) → slice_get ps f ≡ Some P → value_size r.value ≤ results_size ps
    go [] f e = absurd (none_some P e)
    go (x ∷ ps) zero e = omega (arith, ap (λ (z : Procedure). result_size z.result) (some_same x P e), ap result_size g)
    go (x ∷ ps) (suc f) e = omega (arith, go ps f e)

-- the structures made so far, with those of the values that are left, are all
pub record MadeSoFar (R : ℕ → Tree → Tree → Type 0) (values : List Value) (vars : List Tree) (i : ℕ) (made : List Structure) : Type 0 where
  pub left : (ts : Trees) → ValuesMake R (value_list values) vars ts → (us : Trees) × ValuesMake R (value_list (drop i values)) vars us × (to_list ts ≡ to_list (tree_list made) ++ to_list us)

trees_push : (ss : List Structure) (s : Structure) (us : List Tree) → to_list (tree_list (ss ++ s ∷ [])) ++ us ≡ to_list (tree_list ss) ++ (tree_of s ∷ us)
trees_push [] s us = refl
trees_push (x ∷ ss) s us = ap (λ l. tree_of x ∷ l) (trees_push ss s us)

from_to : (ts : Trees) → from_list (to_list ts) ≡ ts
from_to none = refl
from_to (more t ts) = ap (more t) (from_to ts)

module _ (R : ℕ → Tree → Tree → Type 0) (values : List Value) (vars : List Tree) where
  pub made_start : MadeSoFar R values vars 0 []
  made_start = record { left = λ ts k. (ts, k, refl) }

  pub made_next : (i : ℕ) (v : Value) (one : Structure) (made new : List Structure) → i < length values → v ≡ get_or values i v → ((t : Tree) → ValueMakes R (value_of v) vars t → tree_of one ≡ t) → new ≡ made ++ one ∷ []
      → MadeSoFar R values vars i made → MadeSoFar R values vars (i + 1) new
  made_next i v one made new l at each is h = record {
    left = λ ts k.
        let r = h.left ts k in
        let d = subst (λ vs. ValuesMake R (value_list vs) vars r.0) (at_element values i v l at) r.1 in
        (d.1, d.3, r.2 ∙ ap (λ us. to_list (tree_list made) ++ to_list us) d.4 ∙ ap (λ t. to_list (tree_list made) ++ (t ∷ to_list d.1)) (sym (each d.0 d.2)) ∙ sym (trees_push made one (to_list d.1)) ∙ ap (λ ss. to_list (tree_list ss) ++ to_list d.1) (sym is));
  }

  pub made_end : (i : ℕ) (made : List Structure) → length values ≤ i → MadeSoFar R values vars i made → (ts : Trees) → ValuesMake R (value_list values) vars ts → tree_list made ≡ ts
  made_end i made l h ts k =
      let r = h.left ts k in
      let e : r.0 ≡ none = subst (λ vs. ValuesMake R (value_list vs) vars r.0) (drop_all i values l) r.1 in
      sym (from_to (tree_list made)) ∙ ap from_list (sym (r.2 ∙ ap (λ us. to_list (tree_list made) ++ to_list us) e ∙ append-nil (to_list (tree_list made)))) ∙ from_to ts

-- the parts of what stands in a scope, and how far their calls go
module _ (p : Program) where
  pub values_stand : (values : List Value) (i : ℕ) (v : Value) → slice_get values i ≡ Some v → StandValues p (value_list values) → StandsValue p (value_of v)
  values_stand values i v e h = go h.1 values i e h.2
    where
      go : (parts : List Part) (values : List Value) (i : ℕ) → slice_get values i ≡ Some v → FitsValues p h.0 parts (value_list values) → StandsValue p (value_of v)
      go parts [] i e f = absurd (none_some v e)
      go [] (x ∷ values) i e f = absurd f
      go (y ∷ parts) (x ∷ values) zero e f = subst (λ z. StandsValue p (value_of z)) (some_same x v e) (h.0, y.node, f.0)
      go (y ∷ parts) (x ∷ values) (suc i) e f = go parts values i e f.1

  pub values_short : (left : ℕ) (values : List Value) (i : ℕ) (v : Value) → slice_get values i ≡ Some v → ValuesAreShort p left (value_list values) → ValueIsShort p left (value_of v)
  values_short left values i v e h g c = h g (go values i e)
    where
      go : (values : List Value) (i : ℕ) → slice_get values i ≡ Some v → ValuesCall g (value_list values)
      go [] i e = absurd (none_some v e)
      go (x ∷ values) zero e = inl (subst (λ z. ValueCalls g (value_of z)) (sym (some_same x v e)) c)
      go (x ∷ values) (suc i) e = inr (go values i e)

  pub tuple_stands : (v : plain.Value) (vs : plain.Values) → v ≡ plain.Tuple vs → StandsValue p v → StandValues p vs
  tuple_stands v vs e h = let f : FitsValue p h.0 h.1 (plain.Tuple vs) = subst (FitsValue p h.0 h.1) e h.2 in (h.0, _, f.1)

  pub branch_stands : (v : plain.Value) (number : ℕ) (inner : plain.Value) → v ≡ plain.Branch number inner → StandsValue p v → StandsValue p inner
  branch_stands v number inner e h = let f : FitsValue p h.0 h.1 (plain.Branch number inner) = subst (FitsValue p h.0 h.1) e h.2 in (h.0, f.2.node, f.6)

  pub case_value_stands : (v : plain.Value) (var : ℕ) (arms : ValueArms) → v ≡ plain.Chosen var arms → StandsValue p v → StandValueArms p arms
  case_value_stands v var arms e h = let f : FitsValue p h.0 h.1 (plain.Chosen var arms) = subst (FitsValue p h.0 h.1) e h.2 in (f.0, h.1, f.3)

  pub tuple_short : (left : ℕ) (v : plain.Value) (vs : plain.Values) → v ≡ plain.Tuple vs → ValueIsShort p left v → ValuesAreShort p left vs
  tuple_short left v vs e h = subst (λ z. ValueIsShort p left z) e h

  pub branch_short : (left : ℕ) (v : plain.Value) (number : ℕ) (inner : plain.Value) → v ≡ plain.Branch number inner → ValueIsShort p left v → ValueIsShort p left inner
  branch_short left v number inner e h = subst (λ z. ValueIsShort p left z) e h

  pub value_arm_stands : (arms : List ValueArm) (place : ℕ) (a : ValueArm) → slice_get arms place ≡ Some a → StandValueArms p (value_arm_list arms) → StandsValue p (value_of a.value)
  value_arm_stands arms place a e h = go (stands h.0 (shape_of p h.0.node)) arms place e h.2
    where
      go : (ss : List Stand) (arms : List ValueArm) (place : ℕ) → slice_get arms place ≡ Some a → FitsValueArms p ss h.1 (value_arm_list arms) → StandsValue p (value_of a.value)
      go ss [] place e f = absurd (none_some a e)
      go [] (x ∷ arms) place e f = absurd f
      go (s ∷ ss) (x ∷ arms) zero e f = subst (λ (z : ValueArm). StandsValue p (value_of z.value)) (some_same x a e) (bound_parts p s x.bind, h.1, f.1)
      go (s ∷ ss) (x ∷ arms) (suc place) e f = go ss arms place e f.2

  pub no_whole : IsProgram p → (a : ValueArm) → a.bind ≡ Whole → StandValueArms p (value_arm_list (a ∷ [])) → ⊥
  no_whole q a e h = ⊎_elim
      (λ n. go h.0 (shape_of p h.0.node) (subst (IsAllowed p.universe) (sym n.2) (q.allowed h.0.node n.0 n.1)) a.bind e h.2)
      (λ n. subst (λ z. FitsValueArms p (stands h.0 z) h.1 (value_arm_list (a ∷ []))) n h.2) (node_at_place p h.0.node)
    where
      go : (x : Part) (s : Shape) → IsAllowed p.universe s → (b : Bind) → b ≡ Whole → FitsValueArms p (stands x s) h.1 (value_arm b (value_of a.value) no_value_arms) → ⊥
      go x (shape.Atom w) k b e f = f
      go x (shape.Union []) k b e f = f
      go x (shape.Union (part ∷ [])) k b e f = omega (arith, k.0)
      go x (shape.Union (part ∷ (other ∷ parts))) k b e f = f.2
      go x (shape.Product parts) k b e f = subst (λ c. MayBind p (itself x) c) e f.0
      go x (shape.Coll kind part low high) k b e f = f

-- sizes of parts
pub values_smaller : (values : List Value) (i : ℕ) (v : Value) → slice_get values i ≡ Some v → value_size (value_of v) < values_size (value_list values)
values_smaller [] i v e = absurd (none_some v e)
values_smaller (x ∷ values) zero v e = omega (arith, ap (λ z. value_size (value_of z)) (some_same x v e))
values_smaller (x ∷ values) (suc i) v e = omega (arith, values_smaller values i v e)

pub arm_smaller : (arms : List ValueArm) (i : ℕ) (a : ValueArm) → slice_get arms i ≡ Some a → value_size (value_of a.value) < value_arms_size (value_arm_list arms)
arm_smaller [] i a e = absurd (none_some a e)
arm_smaller (x ∷ arms) zero a e = omega (arith, ap (λ (z : ValueArm). value_size (value_of z.value)) (some_same x a e))
arm_smaller (x ∷ arms) (suc i) a e = omega (arith, arm_smaller arms i a e)

-- what a value calls in its own scope, its body does
join_left : (g : ℕ) (is js : plain.Items) → CallsAmong g is → CallsAmong g (join_items is js)
join_left g plain.no_items js h = absurd h
join_left g (plain.item (plain.Call var callee site) is) js h = ⊎_elim (λ e. inl e) (λ n. inr (join_left g is js n)) h
join_left g (plain.item (plain.Case var arms site) is) js h = join_left g is js h
join_left g (plain.item (plain.Forall var body body_site site) is) js h = join_left g is js h

join_right : (g : ℕ) (is js : plain.Items) → CallsAmong g js → CallsAmong g (join_items is js)
join_right g plain.no_items js h = h
join_right g (plain.item i is) js h = call_behind g i (join_items is js) (join_right g is js h)

mutual
  pub value_calls : (g first : ℕ) (v : plain.Value) → ValueCalls g v → CallsAmong g (value_items first v)
  value_calls g first (plain.Given var) h = absurd h
  value_calls g first (plain.Made var callee) h = inl h
  value_calls g first (plain.Atom w own) h = absurd h
  value_calls g first (plain.Tuple vs) h = values_call g first vs h
  value_calls g first (plain.Branch number v) h = value_calls g first v h
  value_calls g first (plain.Chosen var arms) h = absurd h

  values_call : (g first : ℕ) (vs : plain.Values) → ValuesCall g vs → CallsAmong g (values_items first vs)
  values_call g first plain.no_values h = absurd h
  values_call g first (plain.value v vs) (inl h) = join_left g (value_items first v) _ (value_calls g first v h)
  values_call g first (plain.value v vs) (inr h) = join_right g (value_items first v) _ (values_call g _ vs h)

pub result_short : (p : Program) (left f : ℕ) (P : Procedure) (v : plain.Value) → slice_get p.procs f ≡ Some P → ((first : ℕ) × (P.body ≡ value_body first v)) → IsShort p left f → ValueIsShort p (left - 1) v
result_short p left f P v e b h g c = call_short p left f P e h g (subst (CallsIn g) (sym b.1) (value_calls g b.0 v c))

-- where called procedures make more, so does what calls them
module _ (R S : ℕ → Tree → Tree → Type 0) (wider : (f : ℕ) (t u : Tree) → R f t u → S f t u) where
  mutual
    pub value_wider : (v : plain.Value) (vars : List Tree) (u : Tree) → ValueMakes R v vars u → ValueMakes S v vars u
    value_wider (plain.Given var) vars u m = m
    value_wider (plain.Made var callee) vars u m = (m.0, m.1, wider callee m.0 u m.2)
    value_wider (plain.Atom w own) vars u m = m
    value_wider (plain.Tuple vs) vars u m = (m.0, values_wider vs vars m.0 m.1, m.2)
    value_wider (plain.Branch number v) vars u m = (m.0, value_wider v vars m.0 m.1, m.2)
    value_wider (plain.Chosen var arms) vars u m = (m.0, m.1, arms_wider arms m.0 u m.2)

    pub values_wider : (vs : plain.Values) (vars : List Tree) (us : Trees) → ValuesMake R vs vars us → ValuesMake S vs vars us
    values_wider plain.no_values vars us m = m
    values_wider (plain.value v vs) vars us m = (m.0, m.1, value_wider v vars m.0 m.2, values_wider vs vars m.1 m.3, m.4)

    pub arms_wider : (arms : ValueArms) (t u : Tree) → ArmsMake R arms t u → ArmsMake S arms t u
    arms_wider no_value_arms (tree.Atom w l) u m = absurd m
    arms_wider no_value_arms (Inj zero t) u m = absurd m
    arms_wider no_value_arms (Inj (suc zero) t) u m = absurd m
    arms_wider no_value_arms (Inj (suc (suc i)) t) u m = absurd m
    arms_wider no_value_arms (Tup ts) u m = absurd m
    arms_wider no_value_arms (Coll ts) u m = absurd m
    arms_wider (value_arm b v no_value_arms) (Tup ts) u m = value_wider v (bound b (Tup ts)) u m
    arms_wider (value_arm b v (value_arm d other arms)) (Tup ts) u m = absurd m
    arms_wider (value_arm b v no_value_arms) (Inj zero t) u m = absurd m
    arms_wider (value_arm b v (value_arm d other arms)) (Inj zero t) u m = absurd m
    arms_wider (value_arm b v no_value_arms) (Inj (suc zero) t) u m = value_wider v (bound b t) u m
    arms_wider (value_arm b v (value_arm d other arms)) (Inj (suc zero) t) u m = value_wider v (bound b t) u m
    arms_wider (value_arm b v no_value_arms) (Inj (suc (suc i)) t) u m = arms_wider no_value_arms (Inj (suc i) t) u m
    arms_wider (value_arm b v (value_arm d other arms)) (Inj (suc (suc i)) t) u m = arms_wider (value_arm d other arms) (Inj (suc i) t) u m
    arms_wider (value_arm b v no_value_arms) (tree.Atom w l) u m = absurd m
    arms_wider (value_arm b v (value_arm d other arms)) (tree.Atom w l) u m = absurd m
    arms_wider (value_arm b v no_value_arms) (Coll ts) u m = absurd m
    arms_wider (value_arm b v (value_arm d other arms)) (Coll ts) u m = absurd m

pub called_value : (p : Program) (left : ℕ) (v : Value) (var callee : ℕ) → v ≡ Call var callee → ValueIsShort p left (value_of v) → IsShort p left callee
called_value p left v var callee e h = subst (λ z. ValueIsShort p left z) (ap value_of e) h callee refl

-- a call of a procedure with a result
pub result_at : (h : Held) (f : ℕ) (P : Proc) (m : Made) → slice_get (plain_of h).procs f ≡ Some (procedure_of P) → P.result ≡ Some m → (procedure_of P).result ≡ Some (result_of m)
result_at h f P m e g = ap (λ o. option_map result_of o) g

pub makes_value : (p : Program) (f : ℕ) (P : Procedure) (r : Result) (s made : Tree) → slice_get p.procs f ≡ Some P → P.result ≡ Some r → Makes p f s made → ValueMakes (Makes p) r.value (s ∷ []) made
makes_value p f P r s made e g m = go m.0 m.1
  where
    go : (depth : ℕ) → MakesWithin p.procs depth f s made → ValueMakes (Makes p) r.value (s ∷ []) made
    go zero m = absurd m
    go (suc depth) m = value_wider (MakesWithin p.procs depth) (Makes p) (λ g t u k. (depth, k)) r.value (s ∷ []) made
        (subst (λ (z : Result). ValueMakes (MakesWithin p.procs depth) z.value (s ∷ []) made) (some_same m.1 r (sym m.3 ∙ ap (λ (z : Procedure). z.result) (some_same m.0 P (sym m.2 ∙ e)) ∙ g)) m.4)

pub no_result : (p : Program) (f : ℕ) (P : Procedure) (s made : Tree) → slice_get p.procs f ≡ Some P → P.result ≡ None → Makes p f s made → ⊥
no_result p f P s made e g m = go m.0 m.1
  where
    go : (depth : ℕ) → MakesWithin p.procs depth f s made → ⊥
    go zero m = m
    go (suc depth) m = none_some m.1 (sym g ∙ ap (λ (z : Procedure). z.result) (sym (some_same m.0 P (sym m.2 ∙ e))) ∙ m.3)

pub no_maker : (p : Program) (f : ℕ) (s made : Tree) → slice_get p.procs f ≡ None → Makes p f s made → ⊥
no_maker p f s made e m = go m.0 m.1
  where
    go : (depth : ℕ) → MakesWithin p.procs depth f s made → ⊥
    go zero m = m
    go (suc depth) m = none_some m.0 (sym e ∙ m.2)

pub result_fits : (p : Program) → IsProgram p → (f : ℕ) (P : Procedure) (r : Result) → slice_get p.procs f ≡ Some P → P.result ≡ Some r
    → IsNamed p r.on × (p.universe ≡ Unlabelled) × FitsValue p (P.on ∷ []) r.on.node r.value × ((first : ℕ) × (P.body ≡ value_body first r.value))
result_fits p q f P r e g =
    subst (λ o. IfSome o (λ (r : Result). IsNamed p r.on × (p.universe ≡ Unlabelled) × FitsValue p (P.on ∷ []) r.on.node r.value × ((first : ℕ) × (P.body ≡ value_body first r.value)))) g (q.procedures f P e).2

-- what values of each form make
pub given_made : (R : ℕ → Tree → Tree → Type 0) (v : plain.Value) (var : ℕ) (ss : List Structure) (s : Structure) (t : Tree) → v ≡ plain.Given var → slice_get ss var ≡ Some s → ValueMakes R v (to_list (tree_list ss)) t → tree_of s ≡ t
given_made R v var ss s t e g m = some_same (tree_of s) t (sym (tree_at ss var s g) ∙ subst (λ z. ValueMakes R z (to_list (tree_list ss)) t) e m)

pub given_unmade : (R : ℕ → Tree → Tree → Type 0) (v : plain.Value) (var : ℕ) (ss : List Structure) (t : Tree) → v ≡ plain.Given var → length ss ≤ var → ValueMakes R v (to_list (tree_list ss)) t → ⊥
given_unmade R v var ss t e g m = none_some t (sym (no_tree ss var (no_get ss var g)) ∙ subst (λ z. ValueMakes R z (to_list (tree_list ss)) t) e m)

pub call_made : (R : ℕ → Tree → Tree → Type 0) (v : plain.Value) (var callee : ℕ) (ss : List Structure) (s : Structure) (t : Tree) → v ≡ plain.Made var callee → slice_get ss var ≡ Some s → ValueMakes R v (to_list (tree_list ss)) t → R callee (tree_of s) t
call_made R v var callee ss s t e g m =
    let d : ValueMakes R (plain.Made var callee) (to_list (tree_list ss)) t = subst (λ z. ValueMakes R z (to_list (tree_list ss)) t) e m in
    subst (λ z. R callee z t) (some_same d.0 (tree_of s) (sym d.1 ∙ tree_at ss var s g)) d.2

pub call_unmade : (R : ℕ → Tree → Tree → Type 0) (v : plain.Value) (var callee : ℕ) (ss : List Structure) (t : Tree) → v ≡ plain.Made var callee → length ss ≤ var → ValueMakes R v (to_list (tree_list ss)) t → ⊥
call_unmade R v var callee ss t e g m =
    let d : ValueMakes R (plain.Made var callee) (to_list (tree_list ss)) t = subst (λ z. ValueMakes R z (to_list (tree_list ss)) t) e m in
    none_some d.0 (sym (no_tree ss var (no_get ss var g)) ∙ d.1)

pub case_made : (R : ℕ → Tree → Tree → Type 0) (v : plain.Value) (var : ℕ) (arms : ValueArms) (ss : List Structure) (s : Structure) (t : Tree) → v ≡ plain.Chosen var arms → slice_get ss var ≡ Some s → ValueMakes R v (to_list (tree_list ss)) t → ArmsMake R arms (tree_of s) t
case_made R v var arms ss s t e g m =
    let d : ValueMakes R (plain.Chosen var arms) (to_list (tree_list ss)) t = subst (λ z. ValueMakes R z (to_list (tree_list ss)) t) e m in
    subst (λ z. ArmsMake R arms z t) (some_same d.0 (tree_of s) (sym d.1 ∙ tree_at ss var s g)) d.2

pub case_unmade : (R : ℕ → Tree → Tree → Type 0) (v : plain.Value) (var : ℕ) (arms : ValueArms) (ss : List Structure) (t : Tree) → v ≡ plain.Chosen var arms → length ss ≤ var → ValueMakes R v (to_list (tree_list ss)) t → ⊥
case_unmade R v var arms ss t e g m =
    let d : ValueMakes R (plain.Chosen var arms) (to_list (tree_list ss)) t = subst (λ z. ValueMakes R z (to_list (tree_list ss)) t) e m in
    none_some d.0 (sym (no_tree ss var (no_get ss var g)) ∙ d.1)

pub tuple_value_made : (R : ℕ → Tree → Tree → Type 0) (v : plain.Value) (vs : plain.Values) (vars : List Tree) (made : Structure) (parts : List Structure) (t : Tree) → v ≡ plain.Tuple vs → tree_of made ≡ Tup (tree_list parts)
    → ((ts : Trees) → ValuesMake R vs vars ts → tree_list parts ≡ ts) → ValueMakes R v vars t → tree_of made ≡ t
tuple_value_made R v vs vars made parts t e f each m =
    let d : ValueMakes R (plain.Tuple vs) vars t = subst (λ z. ValueMakes R z vars t) e m in
    f ∙ ap Tup (each d.0 d.1) ∙ sym d.2

pub branch_value_made : (R : ℕ → Tree → Tree → Type 0) (v inner : plain.Value) (number : ℕ) (vars : List Tree) (made one : Structure) (t : Tree) → v ≡ plain.Branch number inner → tree_of made ≡ Inj number (tree_of one)
    → ((u : Tree) → ValueMakes R inner vars u → tree_of one ≡ u) → ValueMakes R v vars t → tree_of made ≡ t
branch_value_made R v inner number vars made one t e f each m =
    let d : ValueMakes R (plain.Branch number inner) vars t = subst (λ z. ValueMakes R z vars t) e m in
    f ∙ ap (Inj number) (each d.0 d.1) ∙ sym d.2

-- the arm that a structure takes
module _ (p : Program) where
  arm_taken : (arms : List ValueArm) (place : ℕ) (a : ValueArm) (t u : Tree) → slice_get arms place ≡ Some a → ArmsMake (Makes p) (value_arm_list arms) (Inj (suc place) t) u → ValueMakes (Makes p) (value_of a.value) (bound a.bind t) u
  arm_taken [] place a t u e m = absurd (none_some a e)
  arm_taken (x ∷ []) zero a t u e m = subst (λ (z : ValueArm). ValueMakes (Makes p) (value_of z.value) (bound z.bind t) u) (some_same x a e) m
  arm_taken (x ∷ (y ∷ arms)) zero a t u e m = subst (λ (z : ValueArm). ValueMakes (Makes p) (value_of z.value) (bound z.bind t) u) (some_same x a e) m
  arm_taken (x ∷ []) (suc place) a t u e m = absurd (none_some a e)
  arm_taken (x ∷ (y ∷ arms)) (suc place) a t u e m = arm_taken (y ∷ arms) place a t u e m

  no_arm_there : (arms : List ValueArm) (place : ℕ) (t u : Tree) → slice_get arms place ≡ None → ArmsMake (Makes p) (value_arm_list arms) (Inj (suc place) t) u → ⊥
  no_arm_there [] zero t u e m = m
  no_arm_there [] (suc place) t u e m = m
  no_arm_there (x ∷ []) zero t u e m = none_some x (sym e)
  no_arm_there (x ∷ (y ∷ arms)) zero t u e m = none_some x (sym e)
  no_arm_there (x ∷ []) (suc place) t u e m = no_arm_there [] place t u refl m
  no_arm_there (x ∷ (y ∷ arms)) (suc place) t u e m = no_arm_there (y ∷ arms) place t u e m

  branch_arm : (arms : List ValueArm) (s inner u : Tree) (branch place : ℕ) → s ≡ Inj branch inner → branch ≡ place + 1 → ArmsMake (Makes p) (value_arm_list arms) s u → ArmsMake (Makes p) (value_arm_list arms) (Inj (suc place) inner) u
  branch_arm arms s inner u branch place e f m = subst (λ z. ArmsMake (Makes p) (value_arm_list arms) z u) (e ∙ ap (λ b. Inj b inner) (next f)) m
    where
      next : branch ≡ place + 1 → branch ≡ suc place
      next f = omega arith

  pub branch_made : (arms : List ValueArm) (s inner : Tree) (branch place : ℕ) (a : ValueArm) (vars : List Tree) (u : Tree) → s ≡ Inj branch inner → branch ≡ place + 1 → slice_get arms place ≡ Some a → vars ≡ bound a.bind inner
      → ArmsMake (Makes p) (value_arm_list arms) s u → ValueMakes (Makes p) (value_of a.value) vars u
  branch_made arms s inner branch place a vars u e f g h m = subst (λ z. ValueMakes (Makes p) (value_of a.value) z u) (sym h) (arm_taken arms place a inner u g (branch_arm arms s inner u branch place e f m))

  pub branch_unmade : (arms : List ValueArm) (s inner u : Tree) (branch place : ℕ) → s ≡ Inj branch inner → branch ≡ place + 1 → length arms ≤ place → ArmsMake (Makes p) (value_arm_list arms) s u → ⊥
  branch_unmade arms s inner u branch place e f g m = no_arm_there arms place inner u (no_get arms place g) (branch_arm arms s inner u branch place e f m)

  pub no_branch_made : (arms : List ValueArm) (s inner u : Tree) (branch : ℕ) → s ≡ Inj branch inner → branch ≡ 0 → ArmsMake (Makes p) (value_arm_list arms) s u → ⊥
  no_branch_made arms s inner u branch e f m = go arms (subst (λ z. ArmsMake (Makes p) (value_arm_list arms) z u) (e ∙ ap (λ b. Inj b inner) f) m)
    where
      go : (arms : List ValueArm) → ArmsMake (Makes p) (value_arm_list arms) (Inj 0 inner) u → ⊥
      go [] m = m
      go (x ∷ []) m = m
      go (x ∷ (y ∷ arms)) m = m

  pub no_atom_made : (arms : List ValueArm) (s u : Tree) (w l : ℕ) → s ≡ tree.Atom w l → ArmsMake (Makes p) (value_arm_list arms) s u → ⊥
  no_atom_made arms s u w l e m = go arms (subst (λ z. ArmsMake (Makes p) (value_arm_list arms) z u) e m)
    where
      go : (arms : List ValueArm) → ArmsMake (Makes p) (value_arm_list arms) (tree.Atom w l) u → ⊥
      go [] m = m
      go (x ∷ []) m = m
      go (x ∷ (y ∷ arms)) m = m

  pub no_collection_made : (arms : List ValueArm) (s u : Tree) (ts : Trees) → s ≡ Coll ts → ArmsMake (Makes p) (value_arm_list arms) s u → ⊥
  no_collection_made arms s u ts e m = go arms (subst (λ z. ArmsMake (Makes p) (value_arm_list arms) z u) e m)
    where
      go : (arms : List ValueArm) → ArmsMake (Makes p) (value_arm_list arms) (Coll ts) u → ⊥
      go [] m = m
      go (x ∷ []) m = m
      go (x ∷ (y ∷ arms)) m = m

  tuple_arm : (arms : List ValueArm) (s : Tree) (ts : Trees) (a : ValueArm) (u : Tree) → s ≡ Tup ts → length arms ≡ 1 → slice_get arms 0 ≡ Some a → ArmsMake (Makes p) (value_arm_list arms) s u → ValueMakes (Makes p) (value_of a.value) (bound a.bind (Tup ts)) u
  tuple_arm arms s ts a u e l g m = go arms l g (subst (λ z. ArmsMake (Makes p) (value_arm_list arms) z u) e m)
    where
      go : (arms : List ValueArm) → length arms ≡ 1 → slice_get arms 0 ≡ Some a → ArmsMake (Makes p) (value_arm_list arms) (Tup ts) u → ValueMakes (Makes p) (value_of a.value) (bound a.bind (Tup ts)) u
      go [] l g m = absurd (omega arith)
      go (x ∷ []) l g m = subst (λ (z : ValueArm). ValueMakes (Makes p) (value_of z.value) (bound z.bind (Tup ts)) u) (some_same x a g) m
      go (x ∷ (y ∷ arms)) l g m = absurd (omega arith)

  pub tuple_made : (arms : List ValueArm) (s : Tree) (ts : Trees) (a : ValueArm) (k : ℕ) (u : Tree) → s ≡ Tup ts → length arms ≡ 1 → slice_get arms 0 ≡ Some a → a.bind ≡ Parts k
      → ArmsMake (Makes p) (value_arm_list arms) s u → ValueMakes (Makes p) (value_of a.value) (to_list ts) u
  tuple_made arms s ts a k u e l g b m = subst (λ z. ValueMakes (Makes p) (value_of a.value) (bound z (Tup ts)) u) b (tuple_arm arms s ts a u e l g m)

  lone : (arms : List ValueArm) (a : ValueArm) → length arms ≡ 1 → slice_get arms 0 ≡ Some a → arms ≡ a ∷ []
  lone [] a l e = absurd (omega arith)
  lone (x ∷ []) a l e = ap (λ z. z ∷ []) (some_same x a e)
  lone (x ∷ (y ∷ arms)) a l e = absurd (omega arith)

  pub nothing_made : IsProgram p → (arms : List ValueArm) (s : Tree) (ts : Trees) (a : ValueArm) (u : Tree) → StandValueArms p (value_arm_list arms) → s ≡ Tup ts → length arms ≡ 1 → slice_get arms 0 ≡ Some a → ((k : ℕ) → a.bind ≡ Parts k → ⊥)
      → ArmsMake (Makes p) (value_arm_list arms) s u → ValueMakes (Makes p) (value_of a.value) [] u
  nothing_made i arms s ts a u stand e l g not m = go a.bind refl (tuple_arm arms s ts a u e l g m)
    where
      go : (b : Bind) → a.bind ≡ b → ValueMakes (Makes p) (value_of a.value) (bound a.bind (Tup ts)) u → ValueMakes (Makes p) (value_of a.value) [] u
      go Nothing f d = subst (λ z. ValueMakes (Makes p) (value_of a.value) (bound z (Tup ts)) u) f d
      go Whole f d = absurd (no_whole p i a f (subst (λ z. StandValueArms p (value_arm_list z)) (lone arms a l g) stand))
      go (Parts k) f d = absurd (not k f)

  pub more_arms_made : (arms : List ValueArm) (s : Tree) (ts : Trees) (u : Tree) → s ≡ Tup ts → (length arms ≡ 1 → ⊥) → ArmsMake (Makes p) (value_arm_list arms) s u → ⊥
  more_arms_made arms s ts u e n m = go arms n (subst (λ z. ArmsMake (Makes p) (value_arm_list arms) z u) e m)
    where
      go : (arms : List ValueArm) → (length arms ≡ 1 → ⊥) → ArmsMake (Makes p) (value_arm_list arms) (Tup ts) u → ⊥
      go [] n m = m
      go (x ∷ []) n m = n refl
      go (x ∷ (y ∷ arms)) n m = m
