-- Two lists of labels in rising order, label by label.
use Rattle.std.proofs.Common.{◌≡◌, ℕ, zero, suc, ◌-◌, ◌^◌, ◌<◌, List, [], ◌∷◌, ◌++◌, ◌⊎◌, inl, inr, ⊎_elim, length, min, refl, sym, ap, ◌∙◌, arith, replicate}
use Rattle.std.specs.Cmp.Lexicographic.{slice_cmp}
use Rattle.std.specs.Ordering.{nat_cmp}
use Rattle.luo_finite.specs.Listing.{In}
use Rattle.luo_finite.proofs.Membership.{In-append_cases}
use Rattle.luo_model.specs.Tree.{Tree, Trees, Atom, Inj, Tup, Coll, none, more, labels_of, all_labels_of}
use Rattle.luo_model.specs.Order.{sorted}
use Rattle.luo_struct.specs.inner.Passes.{next_above, copies_of}
use Rattle.luo_struct.proofs.SortedLemmas.{sorted_rises, next-sorted, copies-sorted, copies_few, beyond, first_of, next_first, beyond_split, beyond_none, next_above_past, In-sorted, In-beyond, less_copies, more_copies, same_copies, first_decides}

mutual
  pub labels_positive : (t : Tree) (z : ℕ) → In z (labels_of t) → 0 < z
  labels_positive (Atom w zero) z i = absurd i
  labels_positive (Atom w (suc l)) z i = ⊎_elim (λ (e : z ≡ suc l). omega (arith, e)) (λ a. absurd a) i
  labels_positive (Inj b t) z i = labels_positive t z i
  labels_positive (Tup ts) z i = all_positive ts z i
  labels_positive (Coll ts) z i = all_positive ts z i

  all_positive : (ts : Trees) (z : ℕ) → In z (all_labels_of ts) → 0 < z
  all_positive none z i = absurd i
  all_positive (more t ts) z i = ⊎_elim (λ a. labels_positive t z a) (λ a. all_positive ts z a) (In-append_cases z (labels_of t) (all_labels_of ts) i)

-- the comparison of all labels is that of those above `past`
abbrev pub SameBeyond : Tree → Tree → ℕ → Type 0
SameBeyond s t past =
    slice_cmp nat_cmp (sorted (labels_of s)) (sorted (labels_of t)) ≡ slice_cmp nat_cmp (beyond past (sorted (labels_of s))) (beyond past (sorted (labels_of t)))

pub beyond_start : (s t : Tree) → SameBeyond s t 0
beyond_start s t =
    let a = beyond_none (sorted (labels_of s)) (λ z i. labels_positive s z (In-sorted z (labels_of s) i)) in
    let b = beyond_none (sorted (labels_of t)) (λ z i. labels_positive t z (In-sorted z (labels_of t) i)) in
    λ i. slice_cmp nat_cmp (sym a i) (sym b i)

first_is : (s : Tree) (past label : ℕ) → label ≡ next_above past (labels_of s) → first_of (beyond past (sorted (labels_of s))) ≡ label
first_is s past label e = sym (next_first past (sorted (labels_of s)) (sorted_rises (labels_of s))) ∙ next-sorted past (labels_of s) ∙ sym e

positive_beyond : (s : Tree) (past z : ℕ) → In z (beyond past (sorted (labels_of s))) → 0 < z
positive_beyond s past z i = labels_positive s z (In-sorted z (labels_of s) (In-beyond past z (sorted (labels_of s)) i))

nothing : (l : List ℕ) → ((z : ℕ) → In z l → 0 < z) → first_of l ≡ 0 → l ≡ []
nothing [] p e = refl
nothing (x ∷ l) p e = absurd (omega (arith, p x (inl refl), e))

pub beyond_ends : (s t : Tree) (past label other : ℕ) → label ≡ next_above past (labels_of s) → other ≡ next_above past (labels_of t)
    → ((label ≡ other → ⊥) ⊎ ((label ≡ other) × (label ≡ 0))) → SameBeyond s t past → nat_cmp label other ≡ slice_cmp nat_cmp (sorted (labels_of s)) (sorted (labels_of t))
beyond_ends s t past label other e f c h =
    let A = beyond past (sorted (labels_of s)) in
    let B = beyond past (sorted (labels_of t)) in
    let a : first_of A ≡ label = first_is s past label e in
    let b : first_of B ≡ other = first_is t past other f in
    let d : slice_cmp nat_cmp A B ≡ nat_cmp (first_of A) (first_of B) = first_decides A B
    (⊎_elim (λ n. inl (λ q. n (sym a ∙ q ∙ b))) (λ p. inr (nothing A (positive_beyond s past) (a ∙ p.1), nothing B (positive_beyond t past) (b ∙ sym p.0 ∙ p.1))) c)
    (positive_beyond s past) (positive_beyond t past) in
    sym (h ∙ d ∙ (λ i. nat_cmp (a i) (b i)))

split : (s : Tree) (past label : ℕ) → label ≡ next_above past (labels_of s) → 0 < label
    → beyond past (sorted (labels_of s)) ≡ replicate (copies_of label (labels_of s)) label ++ beyond label (sorted (labels_of s))
split s past label e pos =
    beyond_split past label (sorted (labels_of s)) (sorted_rises (labels_of s)) (first_is s past label e) pos
    (⊎_elim (λ (n : next_above past (labels_of s) ≡ 0). absurd (omega (arith, n, e))) (λ (k : past < next_above past (labels_of s)). omega (arith, k, e)) (next_above_past past (labels_of s)))
    ∙ ap (λ n. replicate n label ++ beyond label (sorted (labels_of s))) (copies-sorted label (labels_of s))

after : (s : Tree) (label : ℕ) → ((first_of (beyond label (sorted (labels_of s))) ≡ 0) × (beyond label (sorted (labels_of s)) ≡ [])) ⊎ (label < first_of (beyond label (sorted (labels_of s))))
after s label =
    let B = beyond label (sorted (labels_of s)) in
    let f : first_of B ≡ next_above label (labels_of s) = first_is s label (next_above label (labels_of s)) refl in
    ⊎_elim (λ n. inl (f ∙ n, nothing B (positive_beyond s label) (f ∙ n))) (λ (k : label < next_above label (labels_of s)). inr (omega (arith, k, f))) (next_above_past label (labels_of s))

module _ (s t : Tree) (past label other : ℕ) (e : label ≡ next_above past (labels_of s)) (f : other ≡ next_above past (labels_of t)) (same : label ≡ other) (pos : 0 < label) (h : SameBeyond s t past) where
  parted : slice_cmp nat_cmp (sorted (labels_of s)) (sorted (labels_of t))
      ≡ slice_cmp nat_cmp (replicate (copies_of label (labels_of s)) label ++ beyond label (sorted (labels_of s))) (replicate (copies_of label (labels_of t)) label ++ beyond label (sorted (labels_of t)))
  parted =
      let a = split s past label e pos in
      let b = split t past label (same ∙ f) pos in
      h ∙ (λ i. slice_cmp nat_cmp (a i) (b i))

  pub fewer_here : (next : ℕ) → next ≡ next_above label (labels_of s) → copies_of label (labels_of s) < copies_of label (labels_of t)
      → nat_cmp next label ≡ slice_cmp nat_cmp (sorted (labels_of s)) (sorted (labels_of t))
  fewer_here next n l = sym (parted
      ∙ less_copies label pos (copies_of label (labels_of s)) (copies_of label (labels_of t)) (beyond label (sorted (labels_of s))) (beyond label (sorted (labels_of t))) l (after s label)
      ∙ ap (λ x. nat_cmp x label) (first_is s label next n))

  pub fewer_there : (next : ℕ) → next ≡ next_above label (labels_of t) → copies_of label (labels_of t) < copies_of label (labels_of s)
      → nat_cmp label next ≡ slice_cmp nat_cmp (sorted (labels_of s)) (sorted (labels_of t))
  fewer_there next n l = sym (parted
      ∙ more_copies label pos (copies_of label (labels_of s)) (copies_of label (labels_of t)) (beyond label (sorted (labels_of s))) (beyond label (sorted (labels_of t))) l (after t label)
      ∙ ap (nat_cmp label) (first_is t label next n))

  pub beyond_next : copies_of label (labels_of s) ≡ copies_of label (labels_of t) → SameBeyond s t label
  beyond_next q = parted ∙ same_copies label pos (copies_of label (labels_of s)) (copies_of label (labels_of t)) (beyond label (sorted (labels_of s))) (beyond label (sorted (labels_of t))) q

-- a number of copies within u64
pub copies_exact : (s : Tree) (label n : ℕ) → n ≡ min (copies_of label (labels_of s)) (2 ^ 64 - 1) → length (labels_of s) < 2 ^ 64 - 1 → n ≡ copies_of label (labels_of s)
copies_exact s label n e h = omega (arith, copies_few label (labels_of s))

pub label_more : (s : Tree) (past label : ℕ) → label ≡ next_above past (labels_of s) → 0 < label → past < label
label_more s past label e pos = ⊎_elim (λ (n : next_above past (labels_of s) ≡ 0). absurd (omega (arith, n, e))) (λ (k : past < next_above past (labels_of s)). omega (arith, k, e)) (next_above_past past (labels_of s))
