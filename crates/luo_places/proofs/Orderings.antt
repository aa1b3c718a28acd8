-- The order of structures, by size, by labels and by form.
use Rattle.std.proofs.Common.{◌≡◌, ℕ, ◌≤◌, ◌<◌, List, [], ◌∷◌, ◌⊎◌, inl, inr, ⊎_elim, Bool, true, false, refl, sym, ◌∙◌, ap, subst, arith, if◌then◌else◌, nat_le}
use Rattle.std.specs.declared.cmp.Ordering.{Ordering}
use Rattle.std.specs.declared.cmp.Ordering.TheVariants.{Less, Equal, Greater}
use Rattle.std.specs.Cmp.Lexicographic.{slice_cmp}
use Rattle.std.specs.Ordering.{nat_cmp}
use Rattle.std.proofs.lemmas.Bool.Decides.{leb_tells}
use Rattle.luo_finite.specs.Listing.{In, NoDouble}
use Rattle.luo_finite.proofs.Pairwise.{pairwise_unique}
use Rattle.luo_model.specs.Tree.{Tree, Trees, more, size_of, labels_of}
use Rattle.luo_model.specs.Order.{put, sorted, then_by, by_size_and_labels, by_form, by_parts, order_of, IsBefore}
use Rattle.luo_model.specs.Structures.{Rising, Holds}
use Rattle.luo_model.proofs.OrderLemmas.{order_equal, order_itself}
use Rattle.luo_finite.proofs.Orders.{nat_less, nat_itself, list_itself, lists_ordered}
use Rattle.luo_counting.proofs.Orders.{trees_ordered}
use Rattle.luo_finite.specs.Places.{Lexical, Lex}
use Rattle.luo_places.specs.Numbers.{PartsBefore}

pub then_cases : (a b : Ordering) → then_by a b ≡ Less → (a ≡ Less) ⊎ ((a ≡ Equal) × (b ≡ Less))
then_cases Less b e = inl refl
then_cases Equal b e = inr (refl, e)
then_cases Greater b e = absurd (cc)

pub then_less : (a b : Ordering) → a ≡ Less → then_by a b ≡ Less
then_less a b e = ap (λ o. then_by o b) e

pub then_more : (a b : Ordering) → a ≡ Equal → b ≡ Less → then_by a b ≡ Less
then_more a b e f = ap (λ o. then_by o b) e ∙ f

pub le_or : (m n : ℕ) → (m ≤ n) ⊎ (n < m)
le_or m n = grind arith

pub less_or : (m n : ℕ) → m ≤ n → (m < n) ⊎ (m ≡ n)
less_or m n h = grind arith

-- sorted labels
In-put : (x : ℕ) (l : List ℕ) (z : ℕ) → In z (put x l) → (z ≡ x) ⊎ In z l
In-put x [] z i = i
In-put x (y ∷ ys) z i = by (nat_le x y) i (In-put x ys z)
  where
    by : (b : Bool) → In z (if b then x ∷ (y ∷ ys) else y ∷ put x ys) → (In z (put x ys) → (z ≡ x) ⊎ In z ys) → (z ≡ x) ⊎ ((z ≡ y) ⊎ In z ys)
    by true i h = i
    by false i h = ⊎_elim (λ e. inr (inl e)) (λ j. ⊎_elim (λ e. inl e) (λ k. inr (inr k)) (h j)) i

put_In : (x : ℕ) (l : List ℕ) (z : ℕ) → (z ≡ x) ⊎ In z l → In z (put x l)
put_In x [] z i = i
put_In x (y ∷ ys) z i = by (nat_le x y) (put_In x ys z)
  where
    by : (b : Bool) → ((z ≡ x) ⊎ In z ys → In z (put x ys)) → In z (if b then x ∷ (y ∷ ys) else y ∷ put x ys)
    by true h = i
    by false h = ⊎_elim (λ e. inr (h (inl e))) (λ j. ⊎_elim (λ e. inl e) (λ k. inr (h (inr k))) j) i

put_rises : (x : ℕ) (l : List ℕ) → Rising l → (In x l → ⊥) → Rising (put x l)
put_rises x [] r absent = ((λ z i. absurd i), tt)
put_rises x (y ∷ ys) r absent = by (nat_le x y) (leb_tells x y) (put_rises x ys r.1 (λ i. absent (inr i)))
  where
    by : (b : Bool) → ((b ≡ true) × (x ≤ y)) ⊎ ((b ≡ false) × (y < x)) → Rising (put x ys) → Rising (if b then x ∷ (y ∷ ys) else y ∷ put x ys)
    by true (inl h) q =
        ((λ z i. ⊎_elim (λ (e : z ≡ y). ⊎_elim (λ l. omega (arith, l, e)) (λ (k : x ≡ y). absurd (absent (inl k))) (less_or x y h.1)) (λ j. let k : y < z = r.0 z j in omega (arith, k, h.1)) i), r)
    by true (inr h) q = absurd (cc)
    by false (inl h) q = absurd (cc)
    by false (inr h) q = ((λ z i. ⊎_elim (λ (e : z ≡ x). omega (arith, e, h.1)) (λ j. r.0 z j) (In-put x ys z i)), q)

pub In-sorted : (l : List ℕ) (z : ℕ) → In z (sorted l) → In z l
In-sorted [] z i = i
In-sorted (x ∷ l) z i = ⊎_elim (λ e. inl e) (λ j. inr (In-sorted l z j)) (In-put x (sorted l) z i)

pub sorted_In : (l : List ℕ) (z : ℕ) → In z l → In z (sorted l)
sorted_In [] z i = i
sorted_In (x ∷ l) z i = put_In x (sorted l) z (⊎_elim (λ e. inl e) (λ j. inr (sorted_In l z j)) i)

-- the labels of S, each once, are S when sorted
pub sorted_is : (S ls : List ℕ) → Rising S → Holds S ls → sorted ls ≡ S
sorted_is S ls r h =
    pairwise_unique (λ x y. x < y) (sorted ls) S (λ x y a b. omega (arith, a, b)) (rises ls h.0) r (λ z i. h.1 z (In-sorted ls z i)) (λ z i. sorted_In ls z (h.2 z i))
  where
    rises : (l : List ℕ) → NoDouble l → Rising (sorted l)
    rises [] d = tt
    rises (x ∷ l) d = put_rises x (sorted l) (rises l d.1) (λ i. d.0 (In-sorted l x i))

-- what an order by size, then by labels, then by something else gives
pub record IsByRoom {A : Type 0} (size : A → ℕ) (lab : A → List ℕ) (R : A → A → Type 0) : Type 0 where
  pub by_size : (x y : A) → size x < size y → R x y
  pub by_labels : (x y : A) → size x ≡ size y → Lexical (sorted (lab x)) (sorted (lab y)) → R x y
  pub one_way : (x y : A) → R x y → R y x → ⊥

module _ {A : Type 0} (size : A → ℕ) (lab : A → List ℕ) (R : A → A → Type 0) (o : IsByRoom size lab R) where
  pub size_le : (x y : A) → R x y → size x ≤ size y
  size_le x y h = ⊎_elim (λ l. l) (λ l. absurd (o.one_way x y h (o.by_size y x l))) (le_or (size x) (size y))

  pub labels_le : (x y : A) → R x y → size x ≡ size y → Lexical (sorted (lab x)) (sorted (lab y)) ⊎ (sorted (lab x) ≡ sorted (lab y))
  labels_le x y h e =
      ⊎_elim (λ l. inl l) (λ k. ⊎_elim (λ q. inr q) (λ g. absurd (o.one_way x y h (o.by_labels y x (sym e) g))) k) (lists_ordered.either (sorted (lab x)) (sorted (lab y)))

-- structures
pub trees_by_room : IsByRoom size_of labels_of IsBefore
unfolding order_of
trees_by_room = record {
  by_size = λ s t l. then_less (by_size_and_labels s t) (by_form s t) (then_less (nat_cmp (size_of s) (size_of t)) (slice_cmp nat_cmp (sorted (labels_of s)) (sorted (labels_of t))) (nat_less (size_of s) (size_of t) l));
  by_labels = λ s t e l.
      then_less (by_size_and_labels s t) (by_form s t)
      (then_more (nat_cmp (size_of s) (size_of t)) (slice_cmp nat_cmp (sorted (labels_of s)) (sorted (labels_of t))) (subst (λ n. nat_cmp (size_of s) n ≡ Equal) e (nat_itself (size_of s))) l);
  one_way = trees_ordered.one_way;
}

-- of one size and the same labels, the form decides
pub same_room : (s t : Tree) → size_of s ≡ size_of t → sorted (labels_of s) ≡ sorted (labels_of t) → order_of s t ≡ by_form s t
unfolding order_of
same_room s t e f = ap (λ o. then_by o (by_form s t))
    (ap (λ o. then_by o (slice_cmp nat_cmp (sorted (labels_of s)) (sorted (labels_of t)))) (subst (λ n. nat_cmp (size_of s) n ≡ Equal) e (nat_itself (size_of s)))
    ∙ subst (λ l. slice_cmp nat_cmp (sorted (labels_of s)) l ≡ Equal) f (list_itself (sorted (labels_of s))))

-- lists of structures, as pairs of the first and the rest
pub parts_lex : (s t : Tree) (ss ts : Trees) → PartsBefore (more s ss) (more t ts) → Lex IsBefore PartsBefore (s, ss) (t, ts)
unfolding order_of
parts_lex s t ss ts e = ⊎_elim (λ l. inl l) (λ k. inr (trees_equal s t k.0, k.1)) (then_cases (then_by (by_size_and_labels s t) (by_form s t)) (by_parts ss ts) e)
  where
    trees_equal : (s t : Tree) → then_by (by_size_and_labels s t) (by_form s t) ≡ Equal → s ≡ t
    trees_equal s t e = order_equal s t e

pub lex_parts : (s t : Tree) (ss ts : Trees) → Lex IsBefore PartsBefore (s, ss) (t, ts) → PartsBefore (more s ss) (more t ts)
unfolding order_of
lex_parts s t ss ts (inl l) = then_less (then_by (by_size_and_labels s t) (by_form s t)) (by_parts ss ts) l
lex_parts s t ss ts (inr k) = then_more (then_by (by_size_and_labels s t) (by_form s t)) (by_parts ss ts) (itself s t k.0) k.1
  where
    itself : (s t : Tree) → s ≡ t → then_by (by_size_and_labels s t) (by_form s t) ≡ Equal
    itself s t e = subst (λ v. order_of s v ≡ Equal) e (order_itself s)
