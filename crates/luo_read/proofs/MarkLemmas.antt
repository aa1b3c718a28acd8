-- Which labels are marked.
use Rattle.std.proofs.Common.{◌≡◌, ◌↔◌, ◌⊎◌, inl, inr, ⊎_elim, ℕ, zero, suc, ◌+◌, ◌-◌, ◌≤◌, ◌<◌, List, [], ◌∷◌, ◌++◌, Bool, true, false, IsTrue, length, get_or, take, replicate, set, refl, sym, ap, subst, ◌∙◌, arith, add-one}
use Rattle.std.proofs.lemmas.List.{length-replicate}
use Rattle.luo_finite.specs.Listing.{In}
use Rattle.luo_model.specs.Tree.{Tree, labels_of, all_labels_of}
use Rattle.luo_struct.specs.declared.structure.Structure.{Structure}
use Rattle.luo_struct.specs.View.{tree_of, tree_list}
use Rattle.luo_read.specs.inner.Marks.{mark, mark_all, AllMarked, HasTo}

pub mark_append : (ms : List Bool) (xs ys : List ℕ) → mark_all ms (xs ++ ys) ≡ mark_all (mark_all ms xs) ys
mark_append ms [] ys = refl
mark_append ms (x ∷ xs) ys = mark_append (mark ms x) xs ys

mark_place : (ms : List Bool) (place : ℕ) → place < length ms → set ms place true ≡ mark ms (suc place)
mark_place [] place h = absurd (omega arith)
mark_place (m ∷ ms) zero h = refl
mark_place (m ∷ ms) (suc place) h = ap (λ r. m ∷ r) (mark_place ms place (omega arith))

mark_beyond : (ms : List Bool) (place : ℕ) → length ms ≤ place → ms ≡ mark ms (suc place)
mark_beyond [] place h = refl
mark_beyond (m ∷ ms) zero h = absurd (omega arith)
mark_beyond (m ∷ ms) (suc place) h = ap (λ r. m ∷ r) (mark_beyond ms place (omega arith))

pub mark_set : (ms : List Bool) (label : ℕ) → (label ≡ 0 → ⊥) → label - 1 < length ms → set ms (label - 1) true ≡ mark ms label
mark_set ms label l h = mark_place ms (label - 1) h ∙ ap (mark ms) (back label l)
  where
    back : (label : ℕ) → (label ≡ 0 → ⊥) → suc (label - 1) ≡ label
    back label l = omega (arith, l)

pub mark_past : (ms : List Bool) (label : ℕ) → (label ≡ 0 → ⊥) → length ms ≤ label - 1 → ms ≡ mark ms label
mark_past ms label l h = mark_beyond ms (label - 1) h ∙ ap (mark ms) (back label l)
  where
    back : (label : ℕ) → (label ≡ 0 → ⊥) → suc (label - 1) ≡ label
    back label l = omega (arith, l)

pub marked_next : (ss : List Structure) (i : ℕ) (s : Structure) (ms were now : List Bool) → i < length ss → s ≡ get_or ss i s
    → were ≡ mark_all ms (all_labels_of (tree_list (take i ss))) → now ≡ mark_all were (labels_of (tree_of s)) → now ≡ mark_all ms (all_labels_of (tree_list (take (i + 1) ss)))
marked_next ss i s ms were now l e w n = n ∙ ap (λ z. mark_all z (labels_of (tree_of s))) w ∙ rw add-one (go ss i s ms l e)
  where
    go : (ss : List Structure) (i : ℕ) (s : Structure) (ms : List Bool) → i < length ss → s ≡ get_or ss i s
        → mark_all (mark_all ms (all_labels_of (tree_list (take i ss)))) (labels_of (tree_of s)) ≡ mark_all ms (all_labels_of (tree_list (take (suc i) ss)))
    go [] i s ms l e = absurd (omega arith)
    go (x ∷ ss) zero s ms l e = ap (λ z. mark_all ms (labels_of (tree_of z))) e ∙ sym (mark_append ms (labels_of (tree_of x)) [])
    go (x ∷ ss) (suc i) s ms l e =
        ap (λ z. mark_all z (labels_of (tree_of s))) (mark_append ms (labels_of (tree_of x)) (all_labels_of (tree_list (take i ss))))
        ∙ go ss i s (mark_all ms (labels_of (tree_of x))) (omega arith) e
        ∙ sym (mark_append ms (labels_of (tree_of x)) (all_labels_of (tree_list (take (suc i) ss))))

-- ---- which are marked

mark_long : (ms : List Bool) (label : ℕ) → length (mark ms label) ≡ length ms
mark_long ms zero = refl
mark_long [] (suc label) = refl
mark_long (m ∷ ms) (suc zero) = refl
mark_long (m ∷ ms) (suc (suc label)) = omega (arith, mark_long ms (suc label))

marks_long : (ms : List Bool) (labels : List ℕ) → length (mark_all ms labels) ≡ length ms
marks_long ms [] = refl
marks_long ms (x ∷ xs) = marks_long (mark ms x) xs ∙ mark_long ms x

mark_at : (ms : List Bool) (label k : ℕ) → k < length ms → (get_or (mark ms label) k true ≡ true) ↔ ((get_or ms k true ≡ true) ⊎ (k + 1 ≡ label))
mark_at ms zero k l = ((λ h. inl h), λ h. ⊎_elim (λ e. e) (λ (e : k + 1 ≡ 0). absurd (omega (arith, e))) h)
mark_at [] (suc label) k l = absurd (omega arith)
mark_at (m ∷ ms) (suc zero) zero l = ((λ h. inr refl), λ h. refl)
mark_at (m ∷ ms) (suc zero) (suc k) l = ((λ h. inl h), λ h. ⊎_elim (λ e. e) (λ (e : suc k + 1 ≡ 1). absurd (omega (arith, e))) h)
mark_at (m ∷ ms) (suc (suc label)) zero l = ((λ h. inl h), λ h. ⊎_elim (λ e. e) (λ (e : 0 + 1 ≡ suc (suc label)). absurd (omega (arith, e))) h)
mark_at (m ∷ ms) (suc (suc label)) (suc k) l =
    let r = mark_at ms (suc label) k (omega arith) in
    ((λ h. ⊎_elim (λ e. inl e) (λ (e : k + 1 ≡ suc label). inr (omega (arith, e))) (r.0 h)), λ h. r.1 (⊎_elim (λ e. inl e) (λ (e : suc k + 1 ≡ suc (suc label)). inr (omega (arith, e))) h))

marks_at : (labels : List ℕ) (ms : List Bool) (k : ℕ) → k < length ms → (get_or (mark_all ms labels) k true ≡ true) ↔ ((get_or ms k true ≡ true) ⊎ In (k + 1) labels)
marks_at [] ms k l = ((λ h. inl h), λ h. ⊎_elim (λ e. e) (λ i. absurd i) h)
marks_at (x ∷ xs) ms k l =
    let r = marks_at xs (mark ms x) k (omega (arith, mark_long ms x)) in
    let q = mark_at ms x k l in (
      (λ h. ⊎_elim (λ e. ⊎_elim (λ f. inl f) (λ f. inr (inl f)) (q.0 e)) (λ i. inr (inr i)) (r.0 h)),
      λ h. r.1 (⊎_elim (λ e. inl (q.1 (inl e))) (λ i. ⊎_elim (λ f. inl (q.1 (inr f))) (λ j. inr j) i) h),
    )

unmarked : (n k : ℕ) → k < n → get_or (replicate n false) k true ≡ true → ⊥
unmarked zero k l e = omega arith
unmarked (suc n) zero l e = let h : false ≡ true = e in cc
unmarked (suc n) (suc k) l e = unmarked n k (omega arith) e

-- where nothing was marked, each is marked where each is a label
pub all_marked : (t : Tree) (n : ℕ) (ms now : List Bool) → ms ≡ replicate n false → length ms ≡ n → now ≡ mark_all ms (labels_of t) → AllMarked now ↔ HasTo t n
all_marked t n ms now e l m = (
  (λ h k j. ⊎_elim (λ f. absurd (unmarked n k j (subst (λ z. get_or z k true ≡ true) e f))) (λ i. i) ((at k j).0 (subst (λ z. get_or z k true ≡ true) m (h k (omega (arith, j, l, long)))))),
  λ h k j. subst (λ z. get_or z k true ≡ true) (sym m) ((at k (omega (arith, j, l, long))).1 (inr (h k (omega (arith, j, l, long))))),
)
  where
    long : length now ≡ length ms
    long = ap length m ∙ marks_long ms (labels_of t)

    at : (k : ℕ) → k < n → (get_or (mark_all ms (labels_of t)) k true ≡ true) ↔ ((get_or ms k true ≡ true) ⊎ In (k + 1) (labels_of t))
    at k j = marks_at (labels_of t) ms k (omega (arith, j, l))

pub fresh_marks : (count long : ℕ) (items now : List Bool) → now ≡ take count items ++ replicate (count - long) false → items ≡ [] → long ≡ 0 → now ≡ replicate count false
fresh_marks count long items now e i l = e ∙ ap (λ z. z ++ replicate (count - long) false) (none count items i) ∙ ap (λ z. replicate z false) (all count long l)
  where
    none : (n : ℕ) (l : List Bool) → l ≡ [] → take n l ≡ []
    none zero l e = refl
    none (suc n) l e = ap (take (suc n)) e

    all : (n m : ℕ) → m ≡ 0 → n - m ≡ n
    all n m e = omega (arith, e)

pub marked_so : (t : Tree) (n : ℕ) (ms now : List Bool) (r : Bool) → ms ≡ replicate n false → now ≡ mark_all ms (labels_of t) → (IsTrue r ↔ AllMarked now) → IsTrue r ↔ HasTo t n
marked_so t n ms now r e m d =
    let h = all_marked t n ms now e (ap length e ∙ length-replicate n false) m in
    ((λ q. h.0 (d.0 q)), λ q. d.1 (h.1 q))
