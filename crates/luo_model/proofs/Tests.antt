-- Tests that decide what the definitions say of a tree, so that facts about small programs are computed.
use Rattle.std.proofs.Common.{◌≡◌, ◌≤◌, ◌<◌, ℕ, zero, suc, Bool, true, false, cond, List, [], ◌∷◌, ◌⊎◌, inl, inr, ⊎_elim, length, refl, sym, ap, subst, Option, Some, None, slice_get, nat_eq, nat_le, nat_lt}
use Rattle.std.specs.Prelude.{Decides}
use Rattle.std.proofs.lemmas.Bool.{eqb-true, eq-eqb, leb-true, le-leb, ltb-true, lt-ltb}
use Rattle.std.specs.declared.cmp.Ordering.{Ordering}
use Rattle.std.specs.declared.cmp.Ordering.TheVariants.{Less, Equal, Greater}
use Rattle.luo_finite.specs.Listing.{In, NoDouble, Pairwise}
use Rattle.luo_model.specs.declared.program.Universe.{Universe}
use Rattle.luo_model.specs.declared.program.Universe.TheVariants.{Unlabelled, Labelled}
use Rattle.luo_model.specs.declared.program.Kind.{Kind}
use Rattle.luo_model.specs.declared.program.Kind.TheVariants.{Sequence, Set, Cycle, Multiset, Powerset}
use Rattle.luo_model.specs.declared.program.Part.{Part}
use Rattle.luo_model.specs.declared.program.Shape.{Shape}
use Rattle.luo_model.specs.declared.program.Shape.TheVariants as shape
use Rattle.luo_model.specs.Tree.{Tree, Trees, Atom, Inj, Tup, Coll, none, more, to_list, size_of, labels_of, least_label}
use Rattle.luo_model.specs.Order.{order_of, IsBefore}
use Rattle.luo_model.specs.Program.{Program, shape_of}
use Rattle.luo_model.specs.Standing.{IsLed}
use Rattle.luo_model.specs.Member.{Fits, FitAll, FitEach, IsLabel, IsWithin, ComponentsStand}
use Rattle.luo_model.specs.Structures.{Holds, Carries, IsStructureOn, IsStructure, labels_from}
use Rattle.luo_model.proofs.OrderLemmas.{order_equal, order_itself}
use Rattle.luo_model.proofs.ChargeLemmas.{some_one}

-- ---- tests joined

abbrev pub both : Bool → Bool → Bool
both true b = b
both false b = false

abbrev pub either : Bool → Bool → Bool
either true b = true
either false b = b

abbrev pub opposite : Bool → Bool
opposite true = false
opposite false = true

abbrev pub every : {A : Type 0} → (A → Bool) → List A → Bool
every test [] = true
every test (x ∷ xs) = both (test x) (every test xs)

abbrev pub is_pairwise : {A : Type 0} → (A → A → Bool) → List A → Bool
is_pairwise test [] = true
is_pairwise test (x ∷ xs) = both (every (test x) xs) (is_pairwise test xs)

abbrev pub is_among : {A : Type 0} → (A → A → Bool) → A → List A → Bool
is_among same x [] = false
is_among same x (y ∷ ys) = either (same x y) (is_among same x ys)

abbrev pub is_single : {A : Type 0} → (A → A → Bool) → List A → Bool
is_single same [] = true
is_single same (x ∷ xs) = both (opposite (is_among same x xs)) (is_single same xs)

pub both_decide : {P Q : Type 0} (a b : Bool) → Decides a P → Decides b Q → Decides (both a b) (P × Q)
both_decide true b h k = (λ e. (h.0 refl, k.0 e), λ x. k.1 x.1)
both_decide false b h k = (λ e. absurd (cc), λ x. h.1 x.0)

pub three_decide : {P Q R : Type 0} (a b c : Bool) → Decides a P → Decides b Q → Decides c R → Decides (both a (both b c)) (P × Q × R)
three_decide true b c h k l = (λ e. let r = (both_decide b c k l).0 e in (h.0 refl, r.0, r.1), λ x. (both_decide b c k l).1 (x.1, x.2))
three_decide false b c h k l = (λ e. absurd (cc), λ x. h.1 x.0)

either_decide : {P Q : Type 0} (a b : Bool) → Decides a P → Decides b Q → Decides (either a b) (P ⊎ Q)
either_decide true b h k = (λ e. inl (h.0 refl), λ x. refl)
either_decide false b h k = (λ e. inr (k.0 e), λ x. ⊎_elim (λ p. absurd (let e = h.1 p in cc)) (λ q. k.1 q) x)

pub opposite_decides : {P : Type 0} (a : Bool) → Decides a P → Decides (opposite a) (P → ⊥)
opposite_decides true h = (λ e. absurd (cc), λ n. absurd (n (h.0 refl)))
opposite_decides false h = (λ e p. let f = h.1 p in cc, λ n. refl)

pub every_decides : {A : Type 0} (P : A → Type 0) (test : A → Bool) → ((x : A) → Decides (test x) (P x)) → (xs : List A) → Decides (every test xs) ((x : A) → In x xs → P x)
every_decides P test d [] = (λ e x i. absurd i, λ h. refl)
every_decides P test d (y ∷ ys) =
    let r = both_decide (test y) (every test ys) (d y) (every_decides P test d ys) in (
      (λ e x i. ⊎_elim (λ f. subst P (sym f) (r.0 e).0) (λ j. (r.0 e).1 x j) i),
      λ h. r.1 (h y (inl refl), λ x i. h x (inr i)),
    )

pub pairwise_decides : {A : Type 0} (R : A → A → Type 0) (test : A → A → Bool) → ((x y : A) → Decides (test x y) (R x y)) → (xs : List A) → Decides (is_pairwise test xs) (Pairwise R xs)
pairwise_decides R test d [] = (λ e. tt, λ h. refl)
pairwise_decides R test d (x ∷ xs) = both_decide (every (test x) xs) (is_pairwise test xs) (every_decides (R x) (test x) (d x) xs) (pairwise_decides R test d xs)

pub among_decides : {A : Type 0} (same : A → A → Bool) → ((x y : A) → Decides (same x y) (x ≡ y)) → (x : A) (xs : List A) → Decides (is_among same x xs) (In x xs)
among_decides same d x [] = (λ e. cc, λ h. absurd h)
among_decides same d x (y ∷ ys) = either_decide (same x y) (is_among same x ys) (d x y) (among_decides same d x ys)

pub single_decides : {A : Type 0} (same : A → A → Bool) → ((x y : A) → Decides (same x y) (x ≡ y)) → (xs : List A) → Decides (is_single same xs) (NoDouble xs)
single_decides same d [] = (λ e. tt, λ h. refl)
single_decides same d (x ∷ xs) =
    both_decide (opposite (is_among same x xs)) (is_single same xs) (opposite_decides (is_among same x xs) (among_decides same d x xs)) (single_decides same d xs)

-- ---- numbers, and the order

pub equal_decides : (a b : ℕ) → Decides (nat_eq a b) (a ≡ b)
equal_decides a b = (eqb-true a b, eq-eqb a b)

pub le_decides : (a b : ℕ) → Decides (nat_le a b) (a ≤ b)
le_decides a b = (leb-true a b, le-leb a b)

lt_decides : (a b : ℕ) → Decides (nat_lt a b) (a < b)
lt_decides a b = (ltb-true a b, lt-ltb a b)

abbrev pub is_less : Ordering → Bool
is_less Less = true
is_less Equal = false
is_less Greater = false

abbrev pub is_equal : Ordering → Bool
is_equal Less = false
is_equal Equal = true
is_equal Greater = false

less_decides : (o : Ordering) → Decides (is_less o) (o ≡ Less)
less_decides Less = (λ e. refl, λ e. refl)
less_decides Equal = (λ e. cc, λ e. cc)
less_decides Greater = (λ e. cc, λ e. cc)

equal_is : (o : Ordering) → is_equal o ≡ true → o ≡ Equal
equal_is Less e = absurd (cc)
equal_is Equal e = refl
equal_is Greater e = absurd (cc)

abbrev pub comes_before : Tree → Tree → Bool
comes_before s t = is_less (order_of s t)

abbrev pub same_tree : Tree → Tree → Bool
same_tree s t = is_equal (order_of s t)

pub before_decides : (s t : Tree) → Decides (comes_before s t) (IsBefore s t)
before_decides s t = less_decides (order_of s t)

pub same_decides : (s t : Tree) → Decides (same_tree s t) (s ≡ t)
same_decides s t = (λ e. order_equal s t (equal_is (order_of s t) e), λ e. subst (λ u. is_equal (order_of s u) ≡ true) e (ap is_equal (order_itself s)))

-- ---- members

abbrev pub is_label : Universe → ℕ → ℕ → Bool
is_label Unlabelled weight label = nat_eq label 0
is_label Labelled weight label = cond (nat_eq weight 1) (nat_le 1 label) (nat_eq label 0)

label_by : (b : Bool) (w l : ℕ) → Decides b (w ≡ 1) → Decides (cond b (nat_le 1 l) (nat_eq l 0)) (IsLabel Labelled w l)
label_by true w l d = (λ e. ((λ z. leb-true 1 l e), λ n. absurd (n (d.0 refl))), λ h. le-leb 1 l (h.0 (d.0 refl)))
label_by false w l d = (λ e. ((λ z. absurd (let f = d.1 z in cc)), λ n. eqb-true l 0 e), λ h. eq-eqb l 0 (h.1 (λ z. let f = d.1 z in cc)))

label_decides : (u : Universe) (w l : ℕ) → Decides (is_label u w l) (IsLabel u w l)
label_decides Unlabelled w l = equal_decides l 0
label_decides Labelled w l = label_by (nat_eq w 1) w l (equal_decides w 1)

abbrev pub is_within : ℕ → Option ℕ → ℕ → Bool
is_within low (Some high) k = both (nat_le low k) (nat_le k high)
is_within low None k = nat_le low k

within_decides : (low : ℕ) (high : Option ℕ) (k : ℕ) → Decides (is_within low high k) (IsWithin low high k)
within_decides low (Some high) k = both_decide (nat_le low k) (nat_le k high) (le_decides low k) (le_decides k high)
within_decides low None k = le_decides low k

abbrev pub is_led : List Tree → Bool
is_led [] = true
is_led (t ∷ ts) = every (λ s. nat_le (least_label t) (least_label s)) ts

led_decides : (ts : List Tree) → Decides (is_led ts) (IsLed least_label ts)
led_decides [] = (λ e. tt, λ h. refl)
led_decides (t ∷ ts) = every_decides (λ s. least_label t ≤ least_label s) (λ s. nat_le (least_label t) (least_label s)) (λ s. le_decides (least_label t) (least_label s)) ts

abbrev pub stands_as : Kind → List Tree → Bool
stands_as Sequence ts = true
stands_as Set ts = is_pairwise (λ s t. nat_lt (least_label s) (least_label t)) ts
stands_as Cycle ts = is_led ts
stands_as Multiset ts = is_pairwise (λ s t. opposite (comes_before s t)) ts
stands_as Powerset ts = is_pairwise (λ s t. comes_before t s) ts

stand_decides : (kind : Kind) (ts : List Tree) → Decides (stands_as kind ts) (ComponentsStand kind ts)
stand_decides Sequence ts = (λ e. tt, λ h. refl)
stand_decides Set ts = pairwise_decides (λ s t. least_label s < least_label t) (λ s t. nat_lt (least_label s) (least_label t)) (λ s t. lt_decides (least_label s) (least_label t)) ts
stand_decides Cycle ts = led_decides ts
stand_decides Multiset ts = pairwise_decides (λ s t. IsBefore s t → ⊥) (λ s t. opposite (comes_before s t)) (λ s t. opposite_decides (comes_before s t) (before_decides s t)) ts
stand_decides Powerset ts = pairwise_decides (λ s t. IsBefore t s) (λ s t. comes_before t s) (λ s t. before_decides t s) ts

abbrev pub on_part : Option Part → (Part → Bool) → Bool
on_part None test = false
on_part (Some part) test = test part

module _ (p : Program) where
  abbrev mutual
    pub fits : Tree → Shape → Bool
    fits (Atom w l) (shape.Atom weight) = both (nat_eq w weight) (is_label p.universe w l)
    fits (Inj (suc i) t) (shape.Union parts) = on_part (slice_get parts i) (λ part. fits t (shape_of p part.node))
    fits (Tup ts) (shape.Product parts) = all_fit ts parts
    fits (Coll ts) (shape.Coll kind part low high) = both (is_within low high (length (to_list ts))) (both (each_fits ts part) (stands_as kind (to_list ts)))
    fits _ _ = false

    pub all_fit : Trees → List Part → Bool
    all_fit none [] = true
    all_fit (more t ts) (part ∷ parts) = both (fits t (shape_of p part.node)) (all_fit ts parts)
    all_fit _ _ = false

    pub each_fits : Trees → Part → Bool
    each_fits none part = true
    each_fits (more t ts) part = both (fits t (shape_of p part.node)) (each_fits ts part)

  on_part_decides : (o : Option Part) (test : Part → Bool) (t : Tree) → ((part : Part) → Decides (test part) (Fits p (shape_of p part.node) t))
      → Decides (on_part o test) ((part : Part) × (o ≡ Some part) × Fits p (shape_of p part.node) t)
  on_part_decides None test t h = (λ e. absurd (cc), λ r. absurd (let f = r.1 in cc))
  on_part_decides (Some part) test t h =
      (λ e. (part, refl, (h part).0 e), λ r. (h part).1 (subst (λ (q : Part). Fits p (shape_of p q.node) t) (sym (some_one part r.0 r.1)) r.2))

  never : {P : Type 0} → (P → ⊥) → Decides false P
  never n = (λ e. absurd (cc), λ h. absurd (n h))

  mutual
    pub fits_decides : (t : Tree) (s : Shape) → Decides (fits t s) (Fits p s t)
    fits_decides (Atom w l) (shape.Atom weight) = both_decide (nat_eq w weight) (is_label p.universe w l) (equal_decides w weight) (label_decides p.universe w l)
    fits_decides (Inj zero t) (shape.Union parts) = never (λ h. h)
    fits_decides (Inj (suc i) t) (shape.Union parts) = on_part_decides (slice_get parts i) (λ part. fits t (shape_of p part.node)) t (λ part. fits_decides t (shape_of p part.node))
    fits_decides (Tup ts) (shape.Product parts) = all_decide ts parts
    fits_decides (Coll ts) (shape.Coll kind part low high) =
        three_decide (is_within low high (length (to_list ts))) (each_fits ts part) (stands_as kind (to_list ts)) (within_decides low high (length (to_list ts))) (each_decides ts part) (stand_decides kind (to_list ts))
    fits_decides t s = never (λ h. h)

    all_decide : (ts : Trees) (parts : List Part) → Decides (all_fit ts parts) (FitAll p parts ts)
    all_decide none [] = (λ e. tt, λ h. refl)
    all_decide none (part ∷ parts) = never (λ h. h)
    all_decide (more t ts) [] = never (λ h. h)
    all_decide (more t ts) (part ∷ parts) = both_decide (fits t (shape_of p part.node)) (all_fit ts parts) (fits_decides t (shape_of p part.node)) (all_decide ts parts)

    each_decides : (ts : Trees) (part : Part) → Decides (each_fits ts part) (FitEach p part ts)
    each_decides none part = (λ e. tt, λ h. refl)
    each_decides (more t ts) part = both_decide (fits t (shape_of p part.node)) (each_fits ts part) (fits_decides t (shape_of p part.node)) (each_decides ts part)

-- ---- structures

abbrev pub holds : List ℕ → List ℕ → Bool
holds L labels = both (is_single nat_eq labels) (both (every (λ x. is_among nat_eq x L) labels) (every (λ x. is_among nat_eq x labels) L))

abbrev pub carries : Universe → List ℕ → Tree → Bool
carries Unlabelled L t = true
carries Labelled L t = holds L (labels_of t)

abbrev pub is_structure_on : Program → ℕ → List ℕ → ℕ → Tree → Bool
is_structure_on p x L n t = both (fits p t (shape_of p x)) (both (nat_eq (size_of t) n) (carries p.universe L t))

abbrev pub is_structure : Program → ℕ → ℕ → Tree → Bool
is_structure p x n t = is_structure_on p x (labels_from 1 n) n t

holds_decides : (L labels : List ℕ) → Decides (holds L labels) (Holds L labels)
holds_decides L labels =
    three_decide (is_single nat_eq labels) (every (λ x. is_among nat_eq x L) labels) (every (λ x. is_among nat_eq x labels) L) (single_decides nat_eq equal_decides labels)
    (every_decides (λ x. In x L) (λ x. is_among nat_eq x L) (λ x. among_decides nat_eq equal_decides x L) labels)
    (every_decides (λ x. In x labels) (λ x. is_among nat_eq x labels) (λ x. among_decides nat_eq equal_decides x labels) L)

carries_decides : (u : Universe) (L : List ℕ) (t : Tree) → Decides (carries u L t) (Carries u L t)
carries_decides Unlabelled L t = (λ e. tt, λ h. refl)
carries_decides Labelled L t = holds_decides L (labels_of t)

pub structure_on_decides : (p : Program) (x : ℕ) (L : List ℕ) (n : ℕ) (t : Tree) → Decides (is_structure_on p x L n t) (IsStructureOn p x L n t)
structure_on_decides p x L n t =
    three_decide (fits p t (shape_of p x)) (nat_eq (size_of t) n) (carries p.universe L t) (fits_decides p t (shape_of p x)) (equal_decides (size_of t) n) (carries_decides p.universe L t)

pub structure_decides : (p : Program) (x n : ℕ) (t : Tree) → Decides (is_structure p x n t) (IsStructure p x n t)
structure_decides p x n t = structure_on_decides p x (labels_from 1 n) n t
