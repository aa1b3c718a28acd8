-- Structures of the code, compared part by part.
use Rattle.std.proofs.Common.{◌≡◌, ℕ, zero, suc, ◌+◌, ◌<◌, ◌≤◌, List, [], ◌∷◌, length, drop, get_or, refl, sym, ap, subst, ◌∙◌, arith, length-append, length-drop}
use Rattle.std.proofs.lemmas.List.{drop_all, drop_more}
use Rattle.std.specs.declared.cmp.Ordering.{Ordering}
use Rattle.std.specs.declared.cmp.Ordering.TheVariants.{Less, Equal, Greater}
use Rattle.std.specs.Ordering.{nat_cmp}
use Rattle.luo_finite.proofs.Orders.{nat_less, nat_itself}
use Rattle.luo_model.specs.Tree.{Tree, Trees, Inj, Tup, Coll, none, more, size_of, labels_of, all_labels_of}
use Rattle.luo_model.specs.Order.{then_by, by_size_and_labels, by_form, by_parts, order_of}
use Rattle.luo_struct.specs.declared.structure.Structure.{Structure}
use Rattle.luo_struct.specs.View.{tree_of, tree_list}
use Rattle.luo_struct.specs.Small.{IsSmall, AreSmall}

then_equal : (o r : Ordering) → Equal ≡ o → then_by o r ≡ r
then_equal o r e = sym (ap (λ q. then_by q r) e)

then_unequal : (o r : Ordering) → (o ≡ Equal → ⊥) → then_by o r ≡ o
then_unequal Less r n = refl
then_unequal Equal r n = absurd (n refl)
then_unequal Greater r n = refl

pub branches_compare : (a b : Tree) (i j : ℕ) (s t : Tree) (o : Ordering) → a ≡ Inj i s → b ≡ Inj j t → Equal ≡ nat_cmp i j → o ≡ order_of s t → o ≡ by_form a b
unfolding order_of
branches_compare a b i j s t o ea eb e is = is ∙ sym (then_equal (nat_cmp i j) (order_of s t) e) ∙ (λ k. by_form (sym ea k) (sym eb k))

pub tuples_compare : (a b : Tree) (ss ts : Trees) (o : Ordering) → a ≡ Tup ss → b ≡ Tup ts → o ≡ by_parts ss ts → o ≡ by_form a b
tuples_compare a b ss ts o ea eb is = is ∙ (λ k. by_form (sym ea k) (sym eb k))

pub collections_compare : (a b : Tree) (ss ts : Trees) (o : Ordering) → a ≡ Coll ss → b ≡ Coll ts → o ≡ by_parts ss ts → o ≡ by_form a b
collections_compare a b ss ts o ea eb is = is ∙ (λ k. by_form (sym ea k) (sym eb k))

pub order_by_form : (s t : Tree) (o r : Ordering) → Equal ≡ by_size_and_labels s t → r ≡ by_form s t → r ≡ order_of s t
unfolding order_of
order_by_form s t o r e is = is ∙ sym (then_equal (by_size_and_labels s t) (by_form s t) e)

pub order_by_size : (s t : Tree) (o : Ordering) → o ≡ by_size_and_labels s t → (o ≡ Equal → ⊥) → o ≡ order_of s t
unfolding order_of
order_by_size s t o is n = is ∙ sym (then_unequal (by_size_and_labels s t) (by_form s t) (λ e. n (is ∙ e)))

-- the comparison of all parts is that of those that are left
abbrev pub SameLeft : List Structure → List Structure → ℕ → Type 0
SameLeft ss ts i = (i ≤ length ts) × (by_parts (tree_list ss) (tree_list ts) ≡ by_parts (tree_list (drop i ss)) (tree_list (drop i ts)))

pub at_part : (ss : List Structure) (i : ℕ) (s : Structure) → i < length ss → s ≡ get_or ss i s → tree_list (drop i ss) ≡ more (tree_of s) (tree_list (drop (i + 1) ss))
at_part ss i s h e = ap tree_list (drop_more ss i s h ∙ ap (λ y. y ∷ drop (i + 1) ss) (sym e))

no_part : (ss : List Structure) (i : ℕ) → length ss ≤ i → tree_list (drop i ss) ≡ none
no_part ss i h = ap tree_list (drop_all i ss h)

length_left : (ts : List Structure) (i : ℕ) → i ≤ length ts → length (drop i ts) + i ≡ length ts
length_left ts i h = omega (arith, length-drop i ts)

module _ (ss ts : List Structure) (i : ℕ) (h : SameLeft ss ts i) where
  here : (s t : Structure) → i < length ss → s ≡ get_or ss i s → i < length ts → t ≡ get_or ts i t
      → by_parts (tree_list ss) (tree_list ts) ≡ then_by (order_of (tree_of s) (tree_of t)) (by_parts (tree_list (drop (i + 1) ss)) (tree_list (drop (i + 1) ts)))
  unfolding order_of
  here s t l e m f = h.1 ∙ (λ k. by_parts (at_part ss i s l e k) (at_part ts i t m f k))

  pub left_next : (s t : Structure) (o : Ordering) → i < length ss → s ≡ get_or ss i s → i < length ts → t ≡ get_or ts i t → o ≡ order_of (tree_of s) (tree_of t) → o ≡ Equal → SameLeft ss ts (i + 1)
  left_next s t o l e m f is q =
      (omega arith, here s t l e m f ∙ then_equal (order_of (tree_of s) (tree_of t)) (by_parts (tree_list (drop (i + 1) ss)) (tree_list (drop (i + 1) ts))) (sym q ∙ is))

  pub left_unequal : (s t : Structure) (o : Ordering) → i < length ss → s ≡ get_or ss i s → i < length ts → t ≡ get_or ts i t → o ≡ order_of (tree_of s) (tree_of t) → (o ≡ Equal → ⊥)
      → o ≡ by_parts (tree_list ss) (tree_list ts)
  left_unequal s t o l e m f is n =
      is ∙ sym (here s t l e m f ∙ then_unequal (order_of (tree_of s) (tree_of t)) (by_parts (tree_list (drop (i + 1) ss)) (tree_list (drop (i + 1) ts))) (λ q. n (is ∙ q)))

  pub left_longer : (s : Structure) → i < length ss → s ≡ get_or ss i s → length ts ≤ i → Greater ≡ by_parts (tree_list ss) (tree_list ts)
  left_longer s l e m = sym (h.1 ∙ (λ k. by_parts (at_part ss i s l e k) (no_part ts i m k)))

  pub left_end : (o : Ordering) → length ss ≤ i → i ≤ length ss → o ≡ nat_cmp (length ss) (length ts) → o ≡ by_parts (tree_list ss) (tree_list ts)
  left_end o l m is = is ∙ sym (h.1 ∙ ap (λ t. by_parts t (tree_list (drop i ts))) (no_part ss i l) ∙ by_rest (drop i ts) (omega (arith, length_left ts i h.0)))
    where
      by_rest : (rest : List Structure) → length ss + length rest ≡ length ts → by_parts none (tree_list rest) ≡ nat_cmp (length ss) (length ts)
      by_rest [] e = sym (ap (nat_cmp (length ss)) (the_same e) ∙ nat_itself (length ss))
        where
          the_same : length ss + 0 ≡ length ts → length ts ≡ length ss
          the_same e = omega (arith, e)
      by_rest (t ∷ rest) e = sym (nat_less (length ss) (length ts) (omega (arith, e)))

pub small_inner : (a s : Tree) (i : ℕ) → a ≡ Inj i s → IsSmall a → IsSmall s
small_inner a s i e h = subst IsSmall e h

pub small_tuple : (a : Tree) (ss : Trees) → a ≡ Tup ss → IsSmall a → AreSmall ss
small_tuple a ss e h = subst IsSmall e h

pub small_collection : (a : Tree) (ss : Trees) → a ≡ Coll ss → IsSmall a → AreSmall ss
small_collection a ss e h = subst IsSmall e h

pub small_part : (ss : List Structure) (i : ℕ) (s : Structure) → i < length ss → s ≡ get_or ss i s → AreSmall (tree_list ss) → IsSmall (tree_of s)
small_part [] i s l e h = absurd (omega arith)
small_part (x ∷ ss) zero s l e h =
    (omega (arith, h.0, ap (λ t. size_of (tree_of t)) e), omega (arith, h.1, length-append (labels_of (tree_of x)) (all_labels_of (tree_list ss)), ap (λ t. length (labels_of (tree_of t))) e))
small_part (x ∷ ss) (suc i) s l e h =
    small_part ss i s (omega arith) e (omega (arith, h.0), omega (arith, h.1, length-append (labels_of (tree_of x)) (all_labels_of (tree_list ss))))
