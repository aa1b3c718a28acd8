-- Passes over the labels of structures, part by part.
use Rattle.std.proofs.Common.{◌≡◌, ℕ, zero, suc, ◌+◌, ◌<◌, List, [], ◌∷◌, ◌++◌, length, take, get_or, min, refl, sym, ap, ◌∙◌, arith, add-one, append_assoc, if◌then◌else◌, nat_lt}
use Rattle.std.proofs.lemmas.List.{append-nil}
use Rattle.luo_struct.specs.declared.structure.Structure.{Structure}
use Rattle.luo_model.specs.Tree.{labels_of, all_labels_of}
use Rattle.luo_struct.specs.View.{tree_of, tree_list}
use Rattle.luo_struct.specs.inner.Passes.{lesser, next_above, copies_of}

pub labels-take : (ss : List Structure) (i : ℕ) (s : Structure) → i < length ss → s ≡ get_or ss i s
    → all_labels_of (tree_list (take (i + 1) ss)) ≡ all_labels_of (tree_list (take i ss)) ++ labels_of (tree_of s)
labels-take ss i s h e = rw add-one (go ss i s h e)
  where
    go : (ss : List Structure) (i : ℕ) (s : Structure) → i < length ss → s ≡ get_or ss i s → all_labels_of (tree_list (take (suc i) ss)) ≡ all_labels_of (tree_list (take i ss)) ++ labels_of (tree_of s)
    go [] i s h e = absurd (omega arith)
    go (x ∷ ss) zero s h e = append-nil (labels_of (tree_of x)) ∙ ap (λ t. labels_of (tree_of t)) (sym e)
    go (x ∷ ss) (suc i) s h e = ap (λ l. labels_of (tree_of x) ++ l) (go ss i s (omega arith) e) ∙ sym (append_assoc (labels_of (tree_of x)) (all_labels_of (tree_list (take i ss))) (labels_of (tree_of s)))

min_suc : (a b : ℕ) → (k : ℕ) × (min (suc a) (suc b) ≡ suc k)
min_suc a b = (min a b, grind arith)

pub lesser_assoc : (a b c : ℕ) → lesser (lesser a b) c ≡ lesser a (lesser b c)
lesser_assoc zero b c = refl
lesser_assoc (suc a) zero c = refl
lesser_assoc (suc a) (suc b) zero =
    let m = min_suc a b in ap (λ z. lesser z zero) m.1 ∙ sym m.1
lesser_assoc (suc a) (suc b) (suc c) =
    let m = min_suc a b in let n = min_suc b c in
    ap (λ z. lesser z (suc c)) m.1 ∙ ap (λ z. min z (suc c)) (sym m.1) ∙ assoc (suc a) (suc b) (suc c) ∙ ap (λ z. min (suc a) z) n.1 ∙ ap (λ z. lesser (suc a) z) (sym n.1)
  where
    assoc : (x y z : ℕ) → min (min x y) z ≡ min x (min y z)
    assoc x y z = grind arith

pub lesser_comm : (a b : ℕ) → lesser a b ≡ lesser b a
lesser_comm zero zero = refl
lesser_comm zero (suc b) = refl
lesser_comm (suc a) zero = refl
lesser_comm (suc a) (suc b) = comm (suc a) (suc b)
  where
    comm : (x y : ℕ) → min x y ≡ min y x
    comm x y = grind arith

pub lesser_none : (a : ℕ) → lesser a 0 ≡ a
lesser_none zero = refl
lesser_none (suc a) = refl

pub next-append : (past : ℕ) (xs ys : List ℕ) → next_above past (xs ++ ys) ≡ lesser (next_above past xs) (next_above past ys)
next-append past [] ys = refl
next-append past (x ∷ xs) ys =
    let head : ℕ = if nat_lt past x then x else 0 in
    ap (lesser head) (next-append past xs ys) ∙ sym (lesser_assoc head (next_above past xs) (next_above past ys))

pub copies-append : (x : ℕ) (xs ys : List ℕ) → copies_of x (xs ++ ys) ≡ copies_of x xs + copies_of x ys
copies-append x [] ys = omega arith
copies-append x (y ∷ xs) ys = omega (arith, copies-append x xs ys)

pub next_more : (past : ℕ) (ss : List Structure) (i : ℕ) (s : Structure) (least next new : ℕ) → i < length ss → s ≡ get_or ss i s
    → next ≡ next_above past (labels_of (tree_of s)) → new ≡ lesser least next
    → least ≡ next_above past (all_labels_of (tree_list (take i ss))) → new ≡ next_above past (all_labels_of (tree_list (take (i + 1) ss)))
next_more past ss i s least next new h at e is so =
    is ∙ ap (λ l. lesser l next) so ∙ ap (lesser (next_above past (all_labels_of (tree_list (take i ss))))) e
    ∙ sym (next-append past (all_labels_of (tree_list (take i ss))) (labels_of (tree_of s))) ∙ ap (next_above past) (sym (labels-take ss i s h at))

pub copies_more : (x : ℕ) (ss : List Structure) (i : ℕ) (s : Structure) → i < length ss → s ≡ get_or ss i s
    → copies_of x (all_labels_of (tree_list (take (i + 1) ss))) ≡ copies_of x (all_labels_of (tree_list (take i ss))) + copies_of x (labels_of (tree_of s))
copies_more x ss i s h at = ap (copies_of x) (labels-take ss i s h at) ∙ copies-append x (all_labels_of (tree_list (take i ss))) (labels_of (tree_of s))
