-- A founded program, and a table from 1 on in which its equations hold.
use Rattle.std.proofs.Common.{◌≡◌, ℕ, zero, suc, ◌<◌, ◌≤◌, [], ◌∷◌, slice_get, Some, inl, inr, ⊎_elim, refl, sym, ap, subst, arith, ℤ, pos, negsuc}
use Rattle.luo_finite.specs.Listing.{In}
use Rattle.luo_finite.proofs.Places.{some_same, none_some}
use Rattle.luo_model.specs.declared.program.Universe.TheVariants.{Unlabelled}
use Rattle.luo_model.specs.declared.program.Shape.TheVariants as shape
use Rattle.luo_model.specs.declared.program.Part.{Part}
use Rattle.luo_model.specs.declared.program.Def.{Def}
use Rattle.luo_model.specs.declared.program.Node.{Node}
use Rattle.luo_model.specs.Invariant as invariant
use Rattle.luo_model.specs.Invariant.{IsProgram, IsPart, IsWhole, IsAllowed, bare, inner_parts, NamingEnds, at_construct}
use Rattle.luo_model.specs.Founded.{IsFounded, BuiltWithin, IsInhabited, SameSize, BreaksW2}
use Rattle.luo_model.specs.Examples.{part}
use Rattle.luo_founded.proofs.FactLemmas.{no_circle_falling}
use Rattle.luo_equation.specs.Series.{over_shares_z}
use Rattle.luo_equation.specs.Expr.{coef, IsExact}
use Rattle.luo_equation.specs.Equation.{Equation}
use Rattle.luo_equation.specs.declared.equation.Left.TheVariants as left
use Rattle.luo_system.specs.Plain.{sum_of, product_of}
use Rattle.luo_system.specs.System.{system, part_expr}
use Rattle.luo_system.specs.Holding.{left_number, Holds}
use Rattle.luo_system.specs.Facts.{by_name, def}
use Rattle.luo_system.specs.Starts.{pairs, started_at_one, PairsHoldFromOne, StartsAreNeeded}

-- ---- it is a program
abbrev whole : Node
whole = record { shape = shape.Union (part 1 ∷ (part 2 ∷ [])); owner = 0; place = 0 }

abbrev leaf : Node
leaf = record { shape = shape.Atom 1; owner = 0; place = 1 }

abbrev pair : Node
pair = record { shape = shape.Product (by_name 0 0 ∷ (by_name 0 0 ∷ [])); owner = 0; place = 2 }

at_node : (P : ℕ → Node → Type 0) → P 0 whole → P 1 leaf → P 2 pair → (x : ℕ) (node : Node) → slice_get pairs.nodes x ≡ Some node → P x node
at_node P a b c zero node e = subst (P 0) (some_same whole node e) a
at_node P a b c (suc zero) node e = subst (P 1) (some_same leaf node e) b
at_node P a b c (suc (suc zero)) node e = subst (P 2) (some_same pair node e) c
at_node P a b c (suc (suc (suc x))) node e = absurd (none_some node e)

in_two : (P : Part → Type 0) (a b : Part) → P a → P b → (q : Part) → In q (a ∷ (b ∷ [])) → P q
in_two P a b x y q i = ⊎_elim (λ e. subst P (sym e) x) (λ j. ⊎_elim (λ e. subst P (sym e) y) (λ z. absurd z) j) i

at_def : (P : ℕ → Def → Type 0) → P 0 (def (part 0)) → (i : ℕ) (d : Def) → slice_get pairs.defs i ≡ Some d → P i d
at_def P a zero d e = subst (P 0) (some_same (def (part 0)) d e) a
at_def P a (suc i) d e = absurd (none_some d e)

unnamed : (y : ℕ) → bare y ≡ by_name 0 0 → ⊥
unnamed y e = none_some 0 (ap (λ (q : Part). q.name) e)

is_part : (x : ℕ) → x < 3 → IsPart pairs (part x)
is_part x l = (l, tt)

is_named : IsPart pairs (by_name 0 0)
is_named = (omega arith, (def (part 0), refl, refl))

holds_leaf : invariant.Holds pairs 0 1
holds_leaf = record { node = whole; inner = leaf; is_node = refl; is_inner = refl; part = inl refl; behind = omega arith; together = refl; not_first = λ e. omega (arith, e) }

holds_pair : invariant.Holds pairs 0 2
holds_pair = record { node = whole; inner = pair; is_node = refl; is_inner = refl; part = inr (inl refl); behind = omega arith; together = refl; not_first = λ e. omega (arith, e) }

-- what holds a node is node 0
only_whole : (y x : ℕ) (node : Node) → slice_get pairs.nodes x ≡ Some node → In (bare y) (inner_parts node.shape) → x ≡ 0
only_whole y = at_node (λ x node. In (bare y) (inner_parts node.shape) → x ≡ 0) (λ i. refl) (λ i. absurd i)
    (λ i. absurd (⊎_elim (λ e. unnamed y e) (λ j. ⊎_elim (λ e. unnamed y e) (λ z. z) j) i))

one_place_whole : (y i j : ℕ) → slice_get (part 1 ∷ (part 2 ∷ [])) i ≡ Some (bare y) → slice_get (part 1 ∷ (part 2 ∷ [])) j ≡ Some (bare y) → i ≡ j
one_place_whole y zero zero e f = refl
one_place_whole y zero (suc zero) e f = absurd (omega (arith, ap (λ (q : Part). q.node) (some_same (part 1) (bare y) e), ap (λ (q : Part). q.node) (some_same (part 2) (bare y) f)))
one_place_whole y (suc zero) zero e f = absurd (omega (arith, ap (λ (q : Part). q.node) (some_same (part 2) (bare y) e), ap (λ (q : Part). q.node) (some_same (part 1) (bare y) f)))
one_place_whole y (suc zero) (suc zero) e f = refl
one_place_whole y (suc (suc i)) j e f = absurd (none_some (bare y) e)
one_place_whole y zero (suc (suc j)) e f = absurd (none_some (bare y) f)
one_place_whole y (suc zero) (suc (suc j)) e f = absurd (none_some (bare y) f)

no_place_pair : (y i : ℕ) → slice_get (by_name 0 0 ∷ (by_name 0 0 ∷ [])) i ≡ Some (bare y) → ⊥
no_place_pair y zero e = unnamed y (sym (some_same (by_name 0 0) (bare y) e))
no_place_pair y (suc zero) e = unnamed y (sym (some_same (by_name 0 0) (bare y) e))
no_place_pair y (suc (suc i)) e = none_some (bare y) e

pairs_are : IsProgram pairs
pairs_are = record {
  wholes_there = at_def (λ i d. IsPart pairs d.whole) (is_part 0 (omega arith));
  parts_there = at_node (λ x node. (q : Part) → In q (inner_parts node.shape) → IsPart pairs q) (in_two (IsPart pairs) (part 1) (part 2) (is_part 1 (omega arith)) (is_part 2 (omega arith)))
      (λ q i. absurd i) (in_two (IsPart pairs) (by_name 0 0) (by_name 0 0) is_named is_named);
  analyses_there = λ f i. absurd i;
  owners_there = at_node (λ x node. node.owner < 1) (omega arith) (omega arith) (omega arith);
  first_place = refl;
  in_order = (inl (refl, refl), (inl (refl, refl), tt));
  wholes_first = at_def (λ i d. IsWhole pairs i d.whole) (inl (refl, (whole, refl, refl, refl)));
  held = at_node (λ y node. (node.place ≡ 0 → ⊥) → (x : ℕ) × invariant.Holds pairs x y × ((z : ℕ) → invariant.Holds pairs z y → z ≡ x)) (λ o. absurd (o refl))
      (λ o. (0, holds_leaf, λ z h. only_whole 1 z h.node h.is_node h.part)) (λ o. (0, holds_pair, λ z h. only_whole 2 z h.node h.is_node h.part));
  bare_held = λ x y node e. at_node (λ x node. In (bare y) (inner_parts node.shape) → invariant.Holds pairs x y)
      (λ i. ⊎_elim (λ k. subst (λ (q : Part). invariant.Holds pairs 0 q.node) (sym k) holds_leaf) (λ j. ⊎_elim (λ k. subst (λ (q : Part). invariant.Holds pairs 0 q.node) (sym k) holds_pair) (λ z. absurd z) j) i)
      (λ i. absurd i) (λ i. absurd (⊎_elim (λ k. unnamed y k) (λ j. ⊎_elim (λ k. unnamed y k) (λ z. z) j) i)) x node e;
  one_place = at_node (λ x node. (y i j : ℕ) → slice_get (inner_parts node.shape) i ≡ Some (bare y) → slice_get (inner_parts node.shape) j ≡ Some (bare y) → i ≡ j) one_place_whole
      (λ y i j e. absurd (none_some (bare y) e)) (λ y i j e. absurd (no_place_pair y i e));
  naming_ends = names;
  distinct = ((λ i. i), tt);
  allowed = at_node (λ x node. IsAllowed Unlabelled node.shape) (omega arith, omega arith) (omega arith) (omega arith, omega arith);
  few_definitions = omega arith;
  few_nodes = omega arith;
  few_multisets = omega arith;
  few_procedures = omega arith;
  few_items = omega arith;
  few_analyses = omega arith;
  few_walks = omega arith;
  procedures = λ f P e. absurd (none_some P e);
  sites = refl;
}
  where
    names : (i : ℕ) → i < 1 → NamingEnds pairs i
    names zero l = at_construct (def (part 0)) refl refl
    names (suc i) l = absurd (omega (arith, l))

-- ---- it is founded
never_empty : (rounds : ℕ) → BuiltWithin (λ w. w ≡ 0) pairs rounds 0 → ⊥
never_empty zero m = m
never_empty (suc zero) m = m.2
never_empty (suc (suc r)) m = in_two (λ q. BuiltWithin (λ w. w ≡ 0) pairs (suc r) q.node → ⊥) (part 1) (part 2) (λ b. omega (arith, b)) (λ b. never_empty r (b (by_name 0 0) (inl refl))) m.0 m.1 m.2

height : ℕ → ℕ
height zero = 1
height (suc x) = 0

steps_fall : (x y : ℕ) → SameSize pairs x y → height y < height x
unfolding height
steps_fall zero y s = subst (λ z. height z < 1) s.2 (in_two (λ q. height q.node < 1) (part 1) (part 2) (omega arith) (omega arith) s.0 s.1)
steps_fall (suc zero) y s = absurd s
steps_fall (suc (suc zero)) y (zero, q, e, n, z) = let h = z 1 (by_name 0 0) refl (λ i. omega (arith, i)) in absurd (never_empty h.0 h.1)
steps_fall (suc (suc zero)) y (suc i, q, e, n, z) = let h = z 0 (by_name 0 0) refl (λ k. omega (arith, k)) in absurd (never_empty h.0 h.1)
steps_fall (suc (suc (suc x))) y s = absurd s.1

pairs_founded : IsFounded pairs
pairs_founded = record {
  inhabited = all;
  solid = solid;
  no_circle = no_circle_falling (SameSize pairs) height steps_fall;
  no_endless = λ f c. none_some c.1.1.0 c.1.1.1;
}
  where
    all : (x : ℕ) → x < 3 → IsInhabited pairs x
    all zero l = (2, (part 1, inl refl, tt))
    all (suc zero) l = (1, tt)
    all (suc (suc zero)) l = (3, in_two (λ q. BuiltWithin (λ w. Unit {0}) pairs 2 q.node) (by_name 0 0) (by_name 0 0) (part 1, inl refl, tt) (part 1, inl refl, tt))
    all (suc (suc (suc x))) l = absurd (omega (arith, l))

    solid : (x : ℕ) → BreaksW2 pairs x → ⊥
    solid zero b = b
    solid (suc zero) b = b
    solid (suc (suc zero)) b = b
    solid (suc (suc (suc x))) b = b

-- ---- its equation holds
keep : (n : ℕ) → n ≤ 2 → (left_number started_at_one (left.Series 0) n ≡ coef Unlabelled started_at_one (part_expr pairs (part 0)) n) × IsExact Unlabelled started_at_one (part_expr pairs (part 0)) n
unfolding sum_of product_of over_shares_z
keep zero l = (refl, (tt, ((tt, (tt, tt)), tt)))
keep (suc zero) l = (refl, (tt, ((tt, (tt, tt)), tt)))
keep (suc (suc zero)) l = (refl, (tt, ((tt, (tt, tt)), tt)))
keep (suc (suc (suc n))) l = absurd (omega (arith, l))

all_keep : Holds Unlabelled (system pairs) 2 started_at_one
all_keep e i n l = ⊎_elim
    (λ g. subst (λ (y : Equation). (left_number started_at_one y.left n ≡ coef Unlabelled started_at_one y.right n) × IsExact Unlabelled started_at_one y.right n) (sym g) (keep n l))
    (λ z. absurd z) i

pub pairs-hold : PairsHoldFromOne
pairs-hold = (pairs_are, pairs_founded, all_keep)

-- ---- and -1 counts nothing
IsBelow : ℤ → Type 0
IsBelow (pos n) = ⊥
IsBelow (negsuc n) = Unit {0}

no_count : (c : ℕ) → negsuc 0 ≡ pos c → ⊥
unfolding IsBelow
no_count c e = subst IsBelow e tt

pub starts-needed : StartsAreNeeded
starts-needed h = let c = (h pairs pairs_are pairs_founded 2 started_at_one all_keep).counts 0 (def (part 0)) refl 1 (omega arith) in no_count c.0 c.2
