-- Items that fit, with their sites in order.
use Rattle.std.proofs.Common.{◌≡◌, ℕ, suc, ◌+◌, ◌*◌, ◌≤◌, List, [], ◌∷◌, ◌++◌, length, Some, slice_get, refl, sym, ap, ◌∙◌, subst, arith, append_assoc, length-append}
use Rattle.std.proofs.Math.Nat.{mul-le-mul_right}
use Rattle.luo_num.specs.declared.limits.TheConstants.{NUMBER_LIMIT, STATEMENT_LIMIT}
use Rattle.luo_model.specs.declared.body.Bind.{Bind}
use Rattle.luo_model.specs.declared.program.Part.{Part}
use Rattle.luo_model.specs.Program.{Program, Does, Items, no_items, item, Item, Call, Case, Forall, Arms, no_arms, arm, shape_of}
use Rattle.luo_model.specs.Scopes.Stands.{Stand, stands, component, IsCollection, MayBind, bound_parts, part_at, no_part}
use Rattle.luo_model.specs.Scopes.Fits.{FitsItems, FitsItem, FitsArms}
use Rattle.luo_model.specs.Scopes.ValueBodies.{join_items}
use Rattle.luo_model.specs.Scopes.Sites.{items_sites, item_sites, arms_sites}
use Rattle.luo_model.specs.Scopes.Walks.{items_in}
use Rattle.luo_rules.proofs.Lists.{index_get}

-- sites with numbers from this one on
abbrev pub NumbersFrom : ℕ → List (ℕ × ℕ) → Type 0
NumbersFrom k [] = Unit {0}
NumbersFrom k (x ∷ xs) = (x.0 ≡ k) × NumbersFrom (suc k) xs

pub numbers_append : (k j : ℕ) (xs ys : List (ℕ × ℕ)) → j ≡ k + length xs → NumbersFrom k xs → NumbersFrom j ys → NumbersFrom k (xs ++ ys)
numbers_append k j [] ys e h g = subst (λ n. NumbersFrom n ys) (e ∙ omega arith) g
numbers_append k j (x ∷ xs) ys e h g = (h.0, numbers_append (suc k) j xs ys (omega arith) h.1 g)

pub join_sites : (p : Program) (vars : List Part) (xs ys : Items) → items_sites p vars (join_items xs ys) ≡ items_sites p vars xs ++ items_sites p vars ys
join_sites p vars no_items ys = refl
join_sites p vars (item i xs) ys = ap (λ l. item_sites p vars i ++ l) (join_sites p vars xs ys) ∙ sym (append_assoc (item_sites p vars i) (items_sites p vars xs) (items_sites p vars ys))

pub join_fits : (p : Program) (vars : List Part) (xs ys : Items) → FitsItems p vars xs → FitsItems p vars ys → FitsItems p vars (join_items xs ys)
join_fits p vars no_items ys h g = g
join_fits p vars (item i xs) ys h g = (h.0, join_fits p vars xs ys h.1 g)

pub join_in : (xs ys : Items) → items_in (join_items xs ys) ≡ items_in xs + items_in ys
join_in no_items ys = omega arith
join_in (item i xs) ys = omega (arith, join_in xs ys)

-- items that fit, with so many sites from this number on
pub record GoodItems (p : Program) (vars : List Part) (first count : ℕ) (items : Items) : Type 0 where
  pub fits : FitsItems p vars items
  pub many : length (items_sites p vars items) ≡ count
  pub numbers : NumbersFrom first (items_sites p vars items)

-- arms that fit, with so many sites from this number on
pub record GoodArms (p : Program) (ss : List Stand) (first count : ℕ) (arms : Arms) : Type 0 where
  pub fits : FitsArms p ss arms
  pub many : length (arms_sites p ss arms) ≡ count
  pub numbers : NumbersFrom first (arms_sites p ss arms)

pub good_none : (p : Program) (vars : List Part) (first : ℕ) → GoodItems p vars first 0 no_items
good_none p vars first = record { fits = tt; many = refl; numbers = tt }

pub good_join : (p : Program) (vars : List Part) (first a b : ℕ) (xs ys : Items) → GoodItems p vars first a xs → GoodItems p vars (first + a) b ys → GoodItems p vars first (a + b) (join_items xs ys)
good_join p vars first a b xs ys h g =
    let e = join_sites p vars xs ys in
    record {
      fits = join_fits p vars xs ys h.fits g.fits;
      many = ap length e ∙ length-append (items_sites p vars xs) (items_sites p vars ys) ∙ omega (arith, h.many, g.many);
      numbers = subst (NumbersFrom first) (sym e) (numbers_append first (first + a) (items_sites p vars xs) (items_sites p vars ys) (omega (arith, h.many)) h.numbers g.numbers);
    }

pub good_call : (p : Program) (vars : List Part) (var callee first : ℕ) → FitsItem p vars (Call var callee first) → GoodItems p vars first 1 (item (Call var callee first) no_items)
good_call p vars var callee first h = record { fits = (h, tt); many = refl; numbers = (refl, tt) }

-- one site behind others
one_behind : (first a node : ℕ) (xs : List (ℕ × ℕ)) → length xs ≡ a → NumbersFrom first xs → NumbersFrom first (xs ++ (first + a, node) ∷ [])
one_behind first a node xs e h = numbers_append first (first + a) xs ((first + a, node) ∷ []) (omega arith) h (refl, tt)

-- the sites of one item are those of items
alone : (p : Program) (vars : List Part) (i : Item) (first count : ℕ) (sites : List (ℕ × ℕ)) → item_sites p vars i ≡ sites → FitsItem p vars i → length sites ≡ count → NumbersFrom first sites → GoodItems p vars first count (item i no_items)
alone p vars i first count sites e h l n =
    let all : items_sites p vars (item i no_items) ≡ sites = append_nil (item_sites p vars i) ∙ e in
    record { fits = (h, tt); many = ap length all ∙ l; numbers = subst (NumbersFrom first) (sym all) n }
  where
    append_nil : (xs : List (ℕ × ℕ)) → xs ++ [] ≡ xs
    append_nil [] = refl
    append_nil (x ∷ xs) = ap (λ l. x ∷ l) (append_nil xs)

pub good_case : (p : Program) (vars : List Part) (var : ℕ) (x : Part) (first a : ℕ) (arms : Arms) → slice_get vars var ≡ Some x → 1 ≤ length (stands x (shape_of p x.node)) → GoodArms p (stands x (shape_of p x.node)) first a arms
    → GoodItems p vars first (a + 1) (item (Case var arms (first + a)) no_items)
good_case p vars var x first a arms e some g =
    let here : part_at vars var ≡ x = index_get vars var x no_part e in
    let inner : List (ℕ × ℕ) = arms_sites p (stands x (shape_of p x.node)) arms in
    alone p vars (Case var arms (first + a)) first (a + 1) (inner ++ (first + a, x.node) ∷ []) (ap (λ n. arms_sites p (stands n (shape_of p n.node)) arms ++ (first + a, n.node) ∷ []) here) (x, e, some, g.fits)
    (length-append inner ((first + a, x.node) ∷ []) ∙ ap (λ n. n + 1) g.many) (one_behind first a x.node inner g.many g.numbers)

pub good_forall : (p : Program) (vars : List Part) (var : ℕ) (x : Part) (first a own : ℕ) (items : Items) → slice_get vars var ≡ Some x → IsCollection (shape_of p x.node) → own ≤ STATEMENT_LIMIT * NUMBER_LIMIT → GoodItems p (component (shape_of p x.node) ∷ []) first a items
    → GoodItems p vars first (a + 2) (item (Forall var (Does own items) (first + a) (first + a + 1)) no_items)
good_forall p vars var x first a own items e c l g =
    let here : part_at vars var ≡ x = index_get vars var x no_part e in
    let inner : List (ℕ × ℕ) = items_sites p (component (shape_of p x.node) ∷ []) items in
    let last : List (ℕ × ℕ) = (first + a, (component (shape_of p x.node)).node) ∷ (first + a + 1, x.node) ∷ [] in
    let order : NumbersFrom (first + a) last = (refl, (omega arith, tt)) in
    alone p vars (Forall var (Does own items) (first + a) (first + a + 1)) first (a + 2) (inner ++ last)
    (ap (λ n. items_sites p (component (shape_of p n.node) ∷ []) items ++ (first + a, (component (shape_of p n.node)).node) ∷ (first + a + 1, n.node) ∷ []) here) (x, e, c, (l, g.fits))
    (length-append inner last ∙ ap (λ n. n + 2) g.many) (numbers_append first (first + a) inner last (omega (arith, g.many)) g.numbers order)

pub good_no_arms : (p : Program) (first : ℕ) → GoodArms p [] first 0 no_arms
good_no_arms p first = record { fits = tt; many = refl; numbers = tt }

pub good_arm : (p : Program) (stand : Stand) (ss : List Stand) (bind : Bind) (own first a b : ℕ) (items : Items) (arms : Arms) → MayBind p stand bind → own ≤ STATEMENT_LIMIT * NUMBER_LIMIT → GoodItems p (bound_parts p stand bind) first a items → GoodArms p ss (first + a) b arms
    → GoodArms p (stand ∷ ss) first (a + b) (arm bind (Does own items) arms)
good_arm p stand ss bind own first a b items arms m l h g = record {
  fits = (m, (l, h.fits), g.fits);
  many = length-append (items_sites p (bound_parts p stand bind) items) (arms_sites p ss arms) ∙ omega (arith, h.many, g.many);
  numbers = numbers_append first (first + a) (items_sites p (bound_parts p stand bind) items) (arms_sites p ss arms) (omega (arith, h.many)) h.numbers g.numbers;
}

-- a sum of so many charges is within the limit
pub own_within : (own k g : ℕ) → own ≤ k * g → k ≤ STATEMENT_LIMIT → own ≤ STATEMENT_LIMIT * g
own_within own k g h l = let m : k * g ≤ STATEMENT_LIMIT * g = mul-le-mul_right g l in omega (arith, m)
