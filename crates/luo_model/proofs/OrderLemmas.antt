-- The order of structures is total. It compares structures as it would two lists of numbers, their codes.
use Rattle.std.proofs.Common.{◌≡◌, ℕ, ◌<◌, List, [], ◌∷◌, Bool, true, false, refl, sym, ◌∙◌, ap, subst, arith}
use Rattle.std.specs.declared.cmp.Ordering.{Ordering}
use Rattle.std.specs.declared.cmp.Ordering.TheVariants.{Less, Equal, Greater}
use Rattle.std.specs.Cmp.{IsTotalOrder}
use Rattle.std.specs.Cmp.Lexicographic.{slice_cmp}
use Rattle.std.specs.Ordering.{nat_cmp, on, MatchOrdering, ordering_then, ordering_reverse, is_gt}
use Rattle.std.proofs.lemmas.Cmp.{nat_list_cmp_total, on_total, ranked, tied_itself, upto}
use Rattle.luo_finite.proofs.Pairwise.{pairwise_from_neighbours}
use Rattle.luo_model.specs.Tree.{Tree, Trees, Atom, Inj, Tup, Coll, none, more, size_of, labels_of, least_label}
use Rattle.luo_model.specs.Order.{sorted, then_by, by_size_and_labels, by_form, by_parts, order_of, IsBefore, IsNotBefore}
use Rattle.luo_model.specs.Laws.{OrderIsTotal, NeighboursStand}

-- the labels with a sign before each and another at the end
unfoldable ended : List ℕ → List ℕ → List ℕ
ended [] rest = 0 ∷ rest
ended (x ∷ xs) rest = 1 ∷ (x ∷ ended xs rest)

abbrev headed : Tree → List ℕ → List ℕ
headed s rest = size_of s ∷ ended (sorted (labels_of s)) rest

abbrev mutual
  form_code : Tree → List ℕ → List ℕ
  form_code (Atom w l) rest = 0 ∷ (w ∷ (l ∷ rest))
  form_code (Inj i t) rest = 1 ∷ (i ∷ headed t (form_code t rest))
  form_code (Tup ts) rest = 2 ∷ parts_code ts rest
  form_code (Coll ts) rest = 3 ∷ parts_code ts rest

  parts_code : Trees → List ℕ → List ℕ
  parts_code none rest = 0 ∷ rest
  parts_code (more t ts) rest = 1 ∷ headed t (form_code t (parts_code ts rest))

abbrev code : Tree → List ℕ
code s = headed s (form_code s [])

abbrev lists : List ℕ → List ℕ → Ordering
lists xs ys = slice_cmp nat_cmp xs ys

then_same : (a b : Ordering) → ordering_then a b ≡ then_by a b
then_same Less b = refl
then_same Equal b = refl
then_same Greater b = refl

then_assoc : (a b c : Ordering) → then_by a (then_by b c) ≡ then_by (then_by a b) c
then_assoc Less b c = refl
then_assoc Equal b c = refl
then_assoc Greater b c = refl

then_end : (a : Ordering) → then_by a Equal ≡ a
then_end Less = refl
then_end Equal = refl
then_end Greater = refl

-- two numbers, and then what follows, of which this is known
number_cmp : (x y : ℕ) (xs ys : List ℕ) (o : Ordering) → lists xs ys ≡ o → lists (x ∷ xs) (y ∷ ys) ≡ then_by (nat_cmp x y) o
number_cmp x y xs ys o e = then_same (nat_cmp x y) (lists xs ys) ∙ ap (then_by (nat_cmp x y)) e

ended_cmp : (as' bs xs ys : List ℕ) → lists (ended as' xs) (ended bs ys) ≡ then_by (lists as' bs) (lists xs ys)
unfolding ended
ended_cmp [] [] xs ys = refl
ended_cmp [] (b ∷ bs) xs ys = refl
ended_cmp (a ∷ as') [] xs ys = refl
ended_cmp (a ∷ as') (b ∷ bs) xs ys =
    number_cmp a b (ended as' xs) (ended bs ys) (then_by (lists as' bs) (lists xs ys)) (ended_cmp as' bs xs ys)
    ∙ then_assoc (nat_cmp a b) (lists as' bs) (lists xs ys)
    ∙ ap (λ o. then_by o (lists xs ys)) (sym (then_same (nat_cmp a b) (lists as' bs)))

headed_cmp : (s t : Tree) (xs ys : List ℕ) → lists (headed s xs) (headed t ys) ≡ then_by (by_size_and_labels s t) (lists xs ys)
headed_cmp s t xs ys =
    let size = nat_cmp (size_of s) (size_of t) in
    let labels = lists (sorted (labels_of s)) (sorted (labels_of t)) in
    number_cmp (size_of s) (size_of t) (ended (sorted (labels_of s)) xs) (ended (sorted (labels_of t)) ys) (then_by labels (lists xs ys)) (ended_cmp (sorted (labels_of s)) (sorted (labels_of t)) xs ys)
    ∙ then_assoc size labels (lists xs ys)

-- a structure with its size and labels before it
whole_cmp : (s t : Tree) (xs ys : List ℕ) → lists (form_code s xs) (form_code t ys) ≡ then_by (by_form s t) (lists xs ys)
    → lists (headed s (form_code s xs)) (headed t (form_code t ys)) ≡ then_by (then_by (by_size_and_labels s t) (by_form s t)) (lists xs ys)
whole_cmp s t xs ys e =
    headed_cmp s t (form_code s xs) (form_code t ys) ∙ ap (then_by (by_size_and_labels s t)) e ∙ then_assoc (by_size_and_labels s t) (by_form s t) (lists xs ys)

mutual
  form_cmp : (s t : Tree) (xs ys : List ℕ) → lists (form_code s xs) (form_code t ys) ≡ then_by (by_form s t) (lists xs ys)
  form_cmp (Atom w l) (Atom v k) xs ys =
      number_cmp w v (l ∷ xs) (k ∷ ys) (then_by (nat_cmp l k) (lists xs ys)) (then_same (nat_cmp l k) (lists xs ys)) ∙ then_assoc (nat_cmp w v) (nat_cmp l k) (lists xs ys)
  form_cmp (Inj i s) (Inj j t) xs ys =
      let inside = then_by (by_size_and_labels s t) (by_form s t) in
      number_cmp i j (headed s (form_code s xs)) (headed t (form_code t ys)) (then_by inside (lists xs ys)) (whole_cmp s t xs ys (form_cmp s t xs ys)) ∙ then_assoc (nat_cmp i j) inside (lists xs ys)
  form_cmp (Tup ss) (Tup ts) xs ys = parts_cmp ss ts xs ys
  form_cmp (Coll ss) (Coll ts) xs ys = parts_cmp ss ts xs ys
  form_cmp s t xs ys = refl

  parts_cmp : (ss ts : Trees) (xs ys : List ℕ) → lists (parts_code ss xs) (parts_code ts ys) ≡ then_by (by_parts ss ts) (lists xs ys)
  parts_cmp none none xs ys = refl
  parts_cmp none (more t ts) xs ys = refl
  parts_cmp (more s ss) none xs ys = refl
  parts_cmp (more s ss) (more t ts) xs ys =
      let first = then_by (by_size_and_labels s t) (by_form s t) in
      whole_cmp s t (parts_code ss xs) (parts_code ts ys) (form_cmp s t (parts_code ss xs) (parts_code ts ys))
      ∙ ap (then_by first) (parts_cmp ss ts xs ys) ∙ then_assoc first (by_parts ss ts) (lists xs ys)

order_is_code : (s t : Tree) → on code (slice_cmp nat_cmp) s t ≡ order_of s t
unfolding order_of
order_is_code s t = whole_cmp s t [] [] (form_cmp s t [] []) ∙ then_end (then_by (by_size_and_labels s t) (by_form s t))

pub order_total : IsTotalOrder order_of
order_total = subst IsTotalOrder (λ i s t. order_is_code s t i) (on_total code nat_list_cmp_total)

-- where no difference is found, there is none
nat_equal : (x y : ℕ) → nat_cmp x y ≡ Equal → x ≡ y
nat_equal x y e = subst (λ r. MatchOrdering r (x < y) (x ≡ y) (y < x)) e (ranked x y (nat_cmp x y) refl)

first_equal : (a b : Ordering) → then_by a b ≡ Equal → a ≡ Equal
first_equal Less b e = absurd (cc)
first_equal Equal b e = refl
first_equal Greater b e = absurd (cc)

second_equal : (a b : Ordering) → then_by a b ≡ Equal → b ≡ Equal
second_equal Less b e = absurd (cc)
second_equal Equal b e = e
second_equal Greater b e = absurd (cc)

mutual
  form_equal : (s t : Tree) → by_form s t ≡ Equal → s ≡ t
  form_equal (Atom w l) (Atom v k) e =
      let a : w ≡ v = nat_equal w v (first_equal (nat_cmp w v) (nat_cmp l k) e) in
      let b : l ≡ k = nat_equal l k (second_equal (nat_cmp w v) (nat_cmp l k) e) in
      λ i. Atom (a i) (b i)
  form_equal (Inj i s) (Inj j t) e =
      let rest = then_by (by_size_and_labels s t) (by_form s t) in
      let a : i ≡ j = nat_equal i j (first_equal (nat_cmp i j) rest e) in
      let b : s ≡ t = form_equal s t (second_equal (by_size_and_labels s t) (by_form s t) (second_equal (nat_cmp i j) rest e)) in
      λ k. Inj (a k) (b k)
  form_equal (Tup ss) (Tup ts) e = ap Tup (parts_equal ss ts e)
  form_equal (Coll ss) (Coll ts) e = ap Coll (parts_equal ss ts e)
  form_equal s t e = absurd (cc)

  parts_equal : (ss ts : Trees) → by_parts ss ts ≡ Equal → ss ≡ ts
  parts_equal none none e = refl
  parts_equal none (more t ts) e = absurd (cc)
  parts_equal (more s ss) none e = absurd (cc)
  parts_equal (more s ss) (more t ts) e =
      let first = then_by (by_size_and_labels s t) (by_form s t) in
      let a : s ≡ t = form_equal s t (second_equal (by_size_and_labels s t) (by_form s t) (first_equal first (by_parts ss ts) e)) in
      let b : ss ≡ ts = parts_equal ss ts (second_equal first (by_parts ss ts) e) in
      λ k. more (a k) (b k)

pub order_equal : (s t : Tree) → order_of s t ≡ Equal → s ≡ t
unfolding order_of
order_equal s t e = form_equal s t (second_equal (by_size_and_labels s t) (by_form s t) e)

pub order_itself : (s : Tree) → order_of s s ≡ Equal
order_itself s = tied_itself order_total s

pub order_is_total : OrderIsTotal
order_is_total = (order_total, order_itself, order_equal)

not_above : (o : Ordering) → (o ≡ Less → ⊥) → is_gt (ordering_reverse o) ≡ false
not_above Less h = absurd (h refl)
not_above Equal h = refl
not_above Greater h = refl

turned_below : (o : Ordering) → o ≡ Less → is_gt (ordering_reverse o) ≡ true
turned_below o e = ap (λ a. is_gt (ordering_reverse a)) e

never_both : (b : Bool) → b ≡ true → b ≡ false → ⊥
never_both b e f = absurd (cc)

turned : (s t : Tree) → is_gt (order_of t s) ≡ is_gt (ordering_reverse (order_of s t))
turned s t = ap is_gt (order_total.antisymm t s)

pub not_before_through : (s t u : Tree) → IsNotBefore s t → IsNotBefore t u → IsNotBefore s u
not_before_through s t u h k e =
    never_both (is_gt (order_of u s)) (turned s u ∙ turned_below (order_of s u) e)
    (upto order_total u t s (turned t u ∙ not_above (order_of t u) k) (turned s t ∙ not_above (order_of s t) h))

pub neighbours_stand : NeighboursStand
neighbours_stand = (
  (λ ts h. pairwise_from_neighbours (λ s t. least_label s < least_label t) ts (λ s t u a b. omega (arith, a, b)) h),
  (λ ts h. pairwise_from_neighbours IsNotBefore ts not_before_through h),
  (λ ts h. pairwise_from_neighbours (λ s t. IsBefore t s) ts (λ s t u a b. order_total.trans u t s b a) h),
)
