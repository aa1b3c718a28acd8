-- Labels from 1 on, each once.
use Rattle.std.proofs.Common.{◌≡◌, ◌↔◌, ℕ, zero, suc, ◌+◌, ◌-◌, ◌^◌, ◌<◌, ◌≤◌, List, [], ◌∷◌, ◌++◌, ◌⊎◌, inl, inr, ⊎_elim, Bool, true, IsTrue, length, min, refl, sym, ap, subst, ◌∙◌, arith, nat_lt}
use Rattle.luo_finite.specs.Listing.{In, NoDouble}
use Rattle.luo_finite.proofs.Membership.{around, In-without}
use Rattle.luo_finite.proofs.Decided.{same_number}
use Rattle.luo_model.specs.declared.program.Universe.{Universe}
use Rattle.luo_model.specs.declared.program.Universe.TheVariants.{Unlabelled, Labelled}
use Rattle.luo_model.specs.Tree.{Tree, size_of, labels_of}
use Rattle.luo_model.specs.Program.{Program, shape_of}
use Rattle.luo_model.specs.Member.{Member}
use Rattle.luo_model.specs.Structures.{labels_from, Holds, Carries, IsStructure}
use Rattle.luo_struct.specs.inner.Passes.{lesser, next_above}
use Rattle.luo_struct.proofs.SortedLemmas.{lt_cases, one, next_above_past}
use Rattle.luo_struct.proofs.MemberLemmas.{labels_few}

-- ---- what a pass finds

lesser_one : (x y : ℕ) → (lesser x y ≡ x) ⊎ (lesser x y ≡ y)
lesser_one zero y = inr refl
lesser_one (suc x) zero = inl refl
lesser_one (suc x) (suc y) = either (suc x) (suc y)
  where
    either : (a b : ℕ) → (min a b ≡ a) ⊎ (min a b ≡ b)
    either a b = grind arith

lesser_low : (x y z : ℕ) → 0 < z → ((x ≡ z) ⊎ ((0 < y) × (y ≤ z))) → (0 < lesser x y) × (lesser x y ≤ z)
lesser_low zero y z p h = ⊎_elim (λ (e : 0 ≡ z). absurd (omega (arith, e, p))) (λ k. k) h
lesser_low (suc x) zero z p h = ⊎_elim (λ (e : suc x ≡ z). (omega arith, omega (arith, e))) (λ k. absurd (omega (arith, k.0))) h
lesser_low (suc x) (suc y) z p h = ⊎_elim (λ e. low (suc x) (suc y) z (inl (omega (arith, e))) (omega arith) (omega arith)) (λ k. low (suc x) (suc y) z (inr k.1) (omega arith) (omega arith)) h
  where
    low : (a b z : ℕ) → (a ≤ z) ⊎ (b ≤ z) → 0 < a → 0 < b → (0 < min a b) × (min a b ≤ z)
    low a b z (inl h) p q = (grind arith, grind arith)
    low a b z (inr h) p q = (grind arith, grind arith)

pub next_in : (past : ℕ) (xs : List ℕ) → (next_above past xs ≡ 0) ⊎ In (next_above past xs) xs
next_in past [] = inl refl
next_in past (x ∷ xs) = ⊎_elim
    (λ e. ⊎_elim (λ c. inr (inl (e ∙ ap (one x) c.1))) (λ c. inl (e ∙ ap (one x) c.1)) (lt_cases past x))
    (λ e. ⊎_elim (λ n. inl (e ∙ n)) (λ i. inr (inr (subst (λ (z : ℕ). In z xs) (sym e) i))) (next_in past xs))
    (lesser_one (one x (nat_lt past x)) (next_above past xs))

pub next_low : (past z : ℕ) (xs : List ℕ) → In z xs → past < z → (0 < next_above past xs) × (next_above past xs ≤ z)
next_low past z [] i h = absurd i
next_low past z (x ∷ xs) i h =
    lesser_low (one x (nat_lt past x)) (next_above past xs) z (omega (arith, h))
    (⊎_elim (λ (e : z ≡ x). ⊎_elim (λ c. inl (ap (one x) c.1 ∙ sym e)) (λ c. absurd (omega (arith, c.0, e, h))) (lt_cases past x)) (λ j. inr (next_low past z xs j h)) i)

-- ---- the loop

abbrev pub HasTo : Tree → ℕ → Type 0
HasTo t n = (k : ℕ) → k < n → In (k + 1) (labels_of t)

pub has_next : (t : Tree) (past next : ℕ) → next ≡ next_above past (labels_of t) → (next ≡ 0 → ⊥) → next - 1 ≡ past → HasTo t past → HasTo t next
has_next t past next e n d h k l =
    ⊎_elim (λ (q : k < past). h k q) (λ (q : k ≡ past).
    ⊎_elim (λ (z : next_above past (labels_of t) ≡ 0). absurd (n (e ∙ z))) (λ i. subst (λ (z : ℕ). In z (labels_of t)) (at k past next q d n e) i) (next_in past (labels_of t)))
    (cases k past next l d)
  where
    cases : (k past next : ℕ) → k < next → next - 1 ≡ past → (k < past) ⊎ (k ≡ past)
    cases k past next l d = grind arith

    at : (k past next : ℕ) → k ≡ past → next - 1 ≡ past → (next ≡ 0 → ⊥) → next ≡ next_above past (labels_of t) → next_above past (labels_of t) ≡ k + 1
    at k past zero q d n e = absurd (n refl)
    at k past (suc next) q d n e = omega (arith, q, d, e)

pub has_fails : (t : Tree) (past next count : ℕ) → next ≡ next_above past (labels_of t) → past < count → (next ≡ 0) ⊎ (next - 1 ≡ past → ⊥) → HasTo t count → ⊥
has_fails t past next count e l c h =
    let low = next_low past (past + 1) (labels_of t) (h past l) (omega arith) in
    ⊎_elim (λ (z : next ≡ 0). omega (arith, z, e, low.0)) (λ n. n (exact_one past next (omega (arith, e, low.1)) (omega (arith, e, low.0)) (⊎_elim (λ (z : next_above past (labels_of t) ≡ 0). absurd (omega (arith, z, low.0))) (λ (k : past < next_above past (labels_of t)). omega (arith, k, e)) (next_above_past past (labels_of t))))) c
  where
    exact_one : (past next : ℕ) → next ≤ past + 1 → 0 < next → past < next → next - 1 ≡ past
    exact_one past next h p q = omega arith

-- ---- a list that holds all of another and is no longer

NoDouble-with : (x : ℕ) (before after : List ℕ) → NoDouble (before ++ after) → (In x (before ++ after) → ⊥) → NoDouble (before ++ x ∷ after)
NoDouble-with x [] after d n = (n, d)
NoDouble-with x (y ∷ before) after d n =
    ((λ i. ⊎_elim (λ (e : y ≡ x). n (inl (sym e))) (λ (q : y ≡ x → ⊥). d.0 (In-without x y before after i q)) (same_number y x)), NoDouble-with x before after d.1 (λ i. n (inr i)))

length_around : (x : ℕ) (before after : List ℕ) → length (before ++ x ∷ after) ≡ suc (length (before ++ after))
length_around x [] after = refl
length_around x (y ∷ before) after = omega (arith, length_around x before after)

pub holds_exactly : (L ys : List ℕ) → NoDouble L → ((x : ℕ) → In x L → In x ys) → length ys ≤ length L → NoDouble ys × ((x : ℕ) → In x ys → In x L)
holds_exactly [] [] d h l = (tt, λ x i. i)
holds_exactly [] (y ∷ ys) d h l = absurd (omega arith)
holds_exactly (x ∷ L) ys d h l =
    let r = around x ys (h x (inl refl)) in
    let rest : List ℕ = r.before ++ r.after in
    let more' = holds_exactly L rest d.1 (λ z i. In-without x z r.before r.after (subst (λ (m : List ℕ). In z m) r.is (h z (inr i))) (λ e. d.0 (subst (λ (w : ℕ). In w L) e i)))
    (omega (arith, l, ap length r.is, length_around x r.before r.after)) in (
      subst NoDouble (sym r.is) (NoDouble-with x r.before r.after more'.0 (λ i. d.0 (more'.1 x i))),
      λ z i. ⊎_elim (λ (e : z ≡ x). inl e) (λ (n : z ≡ x → ⊥). inr (more'.1 z (In-without x z r.before r.after (subst (λ (m : List ℕ). In z m) r.is i) n))) (same_number z x),
    )

-- ---- the labels from 1 to n

labels_high : (first n x : ℕ) → In x (labels_from first n) → first ≤ x
labels_high first zero x i = absurd i
labels_high first (suc n) x i = ⊎_elim (λ (e : x ≡ first). omega (arith, e)) (λ j. omega (arith, labels_high (first + 1) n x j)) i

labels_single : (first n : ℕ) → NoDouble (labels_from first n)
labels_single first zero = tt
labels_single first (suc n) = ((λ i. absurd (omega (arith, labels_high (first + 1) n first i))), labels_single (first + 1) n)

labels_long : (first n : ℕ) → length (labels_from first n) ≡ n
labels_long first zero = refl
labels_long first (suc n) = omega (arith, labels_long (first + 1) n)

In_labels : (first n k : ℕ) → k < n → In (k + first) (labels_from first n)
In_labels first zero k h = absurd (omega arith)
In_labels first (suc n) zero h = inl (omega arith)
In_labels first (suc n) (suc k) h = inr (subst (λ (z : ℕ). In z (labels_from (first + 1) n)) (moved k first) (In_labels (first + 1) n k (omega arith)))
  where
    moved : (k first : ℕ) → k + (first + 1) ≡ suc k + first
    moved k first = omega arith

labels_place : (first n x : ℕ) → In x (labels_from first n) → (k : ℕ) × (k < n) × (x ≡ k + first)
labels_place first zero x i = absurd i
labels_place first (suc n) x i = ⊎_elim (λ (e : x ≡ first). (0, omega arith, omega (arith, e))) (λ j. let r = labels_place (first + 1) n x j in (suc r.0, omega (arith, r.1), omega (arith, r.2))) i

module _ (p : Program) (x : ℕ) (t : Tree) (m : Member p x t) where
  pub whole_labelled : (n : ℕ) (r : Bool) → n ≡ size_of t → p.universe ≡ Labelled → (IsTrue r ↔ HasTo t n) → IsTrue r ↔ IsStructure p x (size_of t) t
  whole_labelled n r e u d = (
    (λ q. (m, refl, subst (λ (v : Universe). Carries v (labels_from 1 (size_of t)) t) (sym u) (carried (d.0 q)))),
    λ s. d.1 (held (subst (λ (v : Universe). Carries v (labels_from 1 (size_of t)) t) u s.2)),
  )
    where
      carried : HasTo t n → Holds (labels_from 1 (size_of t)) (labels_of t)
      carried h =
          let into : (z : ℕ) → In z (labels_from 1 (size_of t)) → In z (labels_of t) =
          λ z i. let k = labels_place 1 (size_of t) z i in subst (λ (w : ℕ). In w (labels_of t)) (sym k.2) (h k.0 (omega (arith, k.1, e))) in
          let r = holds_exactly (labels_from 1 (size_of t)) (labels_of t) (labels_single 1 (size_of t)) into (omega (arith, labels_few p (shape_of p x) t m, labels_long 1 (size_of t))) in
          (r.0, r.1, into)

      held : Holds (labels_from 1 (size_of t)) (labels_of t) → HasTo t n
      held h k l = h.2 (k + 1) (In_labels 1 (size_of t) k (omega (arith, l, e)))

  pub whole_unlabelled : p.universe ≡ Unlabelled → IsTrue true ↔ IsStructure p x (size_of t) t
  whole_unlabelled u = ((λ q. (m, refl, subst (λ (v : Universe). Carries v (labels_from 1 (size_of t)) t) (sym u) tt)), λ s. refl)

pub next_past : (t : Tree) (past next : ℕ) → next ≡ next_above past (labels_of t) → (next ≡ 0 → ⊥) → past < next
next_past t past next e n = ⊎_elim (λ (z : next_above past (labels_of t) ≡ 0). absurd (n (e ∙ z))) (λ (k : past < next_above past (labels_of t)). omega (arith, k, e)) (next_above_past past (labels_of t))

pub has_all : (t : Tree) (past count : ℕ) → count ≤ past → HasTo t past → IsTrue true ↔ HasTo t count
has_all t past count l h = ((λ e k j. h k (omega (arith, l, j))), λ g. refl)

pub whole_size : (t : Tree) (n : ℕ) → n ≡ min (size_of t) (2 ^ 64 - 1) → size_of t < 2 ^ 64 - 1 → n ≡ size_of t
whole_size t n e h = omega (arith, e, h)
