-- Structures of a node are written by the rules, and the text of one gives it.
use Rattle.std.proofs.Common.{◌≡◌, ℕ, zero, suc, ◌+◌, ◌*◌, ◌-◌, ◌^◌, ◌≤◌, ◌<◌, List, [], ◌∷◌, inl, ⊎_elim, decimal, length, refl, sym, ap, subst, ◌∙◌, arith, length-append}
use Rattle.std.proofs.lemmas.Option.{slice_get_within}
use Rattle.luo_finite.specs.Listing.{In}
use Rattle.luo_finite.proofs.Membership.{In-append_left, In-append_right}
use Rattle.luo_model.specs.declared.program.Universe.{Universe}
use Rattle.luo_model.specs.declared.program.Universe.TheVariants.{Unlabelled, Labelled}
use Rattle.luo_model.specs.declared.program.Part.{Part}
use Rattle.luo_model.specs.declared.program.Shape.{Shape}
use Rattle.luo_model.specs.declared.program.Shape.TheVariants as shape
use Rattle.luo_model.specs.Tree.{Tree, Trees, Atom, Inj, Tup, Coll, none, more, to_list, size_of, sizes_of, labels_of, all_labels_of}
use Rattle.luo_model.specs.Program.{Program, shape_of}
use Rattle.luo_model.specs.Invariant.{IsProgram, IsAllowed, greatest_weight}
use Rattle.luo_model.specs.Member.{IsLabel, Fits, FitAll, FitEach}
use Rattle.luo_model.specs.Structures.{labels_from, Carries}
use Rattle.luo_model.proofs.NodeLemmas.{node_at_place}
use Rattle.luo_struct.specs.Text.{structure_text, joined, followed}
use Rattle.luo_read.specs.Written.{IsWritten, AreWritten}
use Rattle.luo_read.specs.Reading.{IsNamed}
use Rattle.luo_read.specs.inner.Machine.{normal, all_normal}
use Rattle.luo_read.specs.inner.Readers.{IsRead}
use Rattle.luo_read.proofs.RunLemmas.{one_normal}

-- ---- sizes of what is read

mutual
  size_bound : (t : Tree) → IsWritten t → size_of (normal t) ≤ 999999 * length (structure_text t)
  size_bound (Atom w zero) h = omega (arith, h)
  size_bound (Atom w (suc l)) h = omega arith
  size_bound (Inj i t) h = omega (arith, size_bound t h.2, length-append (decimal i) (58 ∷ structure_text t))
  size_bound (Tup ts) h = omega (arith, sizes_bound ts h.1, length-append (joined ts) (41 ∷ []))
  size_bound (Coll ts) h = omega (arith, sizes_bound ts h, length-append (joined ts) (93 ∷ []))

  sizes_bound : (ts : Trees) → AreWritten ts → sizes_of (all_normal ts) ≤ 999999 * length (joined ts)
  sizes_bound none h = omega arith
  sizes_bound (more t ts) h = omega (arith, size_bound t h.0, follow_bound ts h.1, length-append (structure_text t) (followed ts))

  follow_bound : (ts : Trees) → AreWritten ts → sizes_of (all_normal ts) ≤ 999999 * length (followed ts)
  follow_bound none h = omega arith
  follow_bound (more t ts) h = omega (arith, size_bound t h.0, follow_bound ts h.1, length-append (structure_text t) (followed ts))

pub read_small : (text : List ℕ) (t : Tree) → IsRead text t → length text ≤ 65536 → size_of t < 2 ^ 64 - 1
read_small text t r l = omega (arith, size_bound t r.written, ap size_of r.plain, ap length r.its_text, l)

-- ---- members

weight_one : (u : Universe) (w l : ℕ) → IsLabel u w (suc l) → 1 ≡ w
weight_one Unlabelled w l h = absurd (omega (arith, h))
weight_one Labelled zero l h = absurd (omega (arith, h.1 (λ e. absurd (omega (arith, e)))))
weight_one Labelled (suc zero) l h = refl
weight_one Labelled (suc (suc w)) l h = absurd (omega (arith, h.1 (λ e. absurd (omega (arith, e)))))

mutual
  fits_plain : (p : Program) (s : Shape) (t : Tree) → Fits p s t → normal t ≡ t
  fits_plain p (shape.Atom weight) (Atom w zero) h = refl
  fits_plain p (shape.Atom weight) (Atom w (suc l)) h = ap (λ z. Atom z (suc l)) (weight_one p.universe w l h.1)
  fits_plain p (shape.Union parts) (Inj (suc i) t) h = ap (Inj (suc i)) (fits_plain p (shape_of p h.0.node) t h.2)
  fits_plain p (shape.Product parts) (Tup ts) h = ap Tup (factors_plain p parts ts h)
  fits_plain p (shape.Coll kind part low high) (Coll ts) h = ap Coll (components_plain p part ts h.1)
  fits_plain p s t h = absurd h

  factors_plain : (p : Program) (parts : List Part) (ts : Trees) → FitAll p parts ts → all_normal ts ≡ ts
  factors_plain p [] none h = refl
  factors_plain p (part ∷ parts) (more t ts) h = (λ i. more (fits_plain p (shape_of p part.node) t h.0 i) (factors_plain p parts ts h.1 i))
  factors_plain p [] (more t ts) h = absurd h
  factors_plain p (part ∷ parts) none h = absurd h

  components_plain : (p : Program) (part : Part) (ts : Trees) → FitEach p part ts → all_normal ts ≡ ts
  components_plain p part none h = refl
  components_plain p part (more t ts) h = (λ i. more (fits_plain p (shape_of p part.node) t h.0 i) (components_plain p part ts h.1 i))

-- what is needed of the construct of a node
abbrev IsFine : Universe → Shape → Type 0
IsFine u (shape.Atom weight) = weight ≤ greatest_weight u
IsFine u (shape.Union parts) = length parts ≤ 64
IsFine u (shape.Product parts) = 2 ≤ length parts
IsFine u (shape.Coll kind part low high) = Unit {0}

fine_allowed : (u : Universe) (s : Shape) → IsAllowed u s → IsFine u s
fine_allowed u (shape.Atom weight) h = h
fine_allowed u (shape.Union parts) h = h.1
fine_allowed u (shape.Product parts) h = h.0
fine_allowed u (shape.Coll kind part low high) h = tt

weight_low : (u : Universe) (w : ℕ) → w ≤ greatest_weight u → w ≤ 999999
weight_low Unlabelled w h = omega (arith, h)
weight_low Labelled w h = omega (arith, h)

module _ (p : Program) (inv : IsProgram p) where
  fine : (x : ℕ) → IsFine p.universe (shape_of p x)
  fine x = ⊎_elim (λ r. subst (IsFine p.universe) (sym r.2) (fine_allowed p.universe r.0.shape (inv.allowed x r.0 r.1))) (λ e. subst (IsFine p.universe) (sym e) (omega arith)) (node_at_place p x)

  -- labels are below the greatest number
  abbrev AreLow : List ℕ → Type 0
  AreLow labels = p.universe ≡ Labelled → (x : ℕ) → In x labels → x ≤ 999999

  label_low : (u : Universe) (w l : ℕ) → p.universe ≡ u → IsLabel u w (suc l) → AreLow (suc l ∷ []) → suc l ≤ 999999
  label_low Unlabelled w l e h low = absurd (omega (arith, h))
  label_low Labelled w l e h low = low e (suc l) (inl refl)

  mutual
    fits_written : (s : Shape) (t : Tree) → IsFine p.universe s → Fits p s t → AreLow (labels_of t) → IsWritten t
    fits_written (shape.Atom weight) (Atom w zero) f h low = weight_low p.universe w (omega (arith, f, h.0))
    fits_written (shape.Atom weight) (Atom w (suc l)) f h low = label_low p.universe w l refl h.1 low
    fits_written (shape.Union parts) (Inj (suc i) t) f h low = (omega arith, omega (arith, f, slice_get_within parts i h.0 h.1), fits_written (shape_of p h.0.node) t (fine h.0.node) h.2 low)
    fits_written (shape.Product parts) (Tup ts) f h low = let r = factors_written parts ts h low in (omega (arith, f, r.0), r.1)
    fits_written (shape.Coll kind part bottom high) (Coll ts) f h low = components_written part ts h.1 low
    fits_written s t f h low = absurd h

    factors_written : (parts : List Part) (ts : Trees) → FitAll p parts ts → AreLow (all_labels_of ts) → (length parts ≡ length (to_list ts)) × AreWritten ts
    factors_written [] none h low = (refl, tt)
    factors_written (part ∷ parts) (more t ts) h low =
        let r = factors_written parts ts h.1 (λ e x i. low e x (In-append_right x (labels_of t) (all_labels_of ts) i)) in
        (omega (arith, r.0), (fits_written (shape_of p part.node) t (fine part.node) h.0 (λ e x i. low e x (In-append_left x (labels_of t) (all_labels_of ts) i)), r.1))
    factors_written [] (more t ts) h low = absurd h
    factors_written (part ∷ parts) none h low = absurd h

    components_written : (part : Part) (ts : Trees) → FitEach p part ts → AreLow (all_labels_of ts) → AreWritten ts
    components_written part none h low = tt
    components_written part (more t ts) h low = (
      fits_written (shape_of p part.node) t (fine part.node) h.0 (λ e x i. low e x (In-append_left x (labels_of t) (all_labels_of ts) i)),
      components_written part ts h.1
          (λ e x i. low e x (In-append_right x (labels_of t) (all_labels_of ts) i)),
    )

  -- in the labelled universe a structure has no more atoms than its text has bytes
  module _ (u : p.universe ≡ Labelled) where
    one : (w : ℕ) → w ≤ greatest_weight p.universe → w ≤ 1
    one w h = subst (λ v. w ≤ greatest_weight v) u h

    mutual
      fits_long : (s : Shape) (t : Tree) → IsFine p.universe s → Fits p s t → size_of t ≤ length (structure_text t)
      fits_long (shape.Atom weight) (Atom w zero) f h = omega (arith, one weight f, h.0)
      fits_long (shape.Atom weight) (Atom w (suc l)) f h = omega (arith, one weight f, h.0)
      fits_long (shape.Union parts) (Inj (suc i) t) f h = omega (arith, fits_long (shape_of p h.0.node) t (fine h.0.node) h.2, length-append (decimal (suc i)) (58 ∷ structure_text t))
      fits_long (shape.Product parts) (Tup ts) f h = omega (arith, (factors_long parts ts h).0, length-append (joined ts) (41 ∷ []))
      fits_long (shape.Coll kind part low high) (Coll ts) f h = omega (arith, (components_long part ts h.1).0, length-append (joined ts) (93 ∷ []))
      fits_long s t f h = absurd h

      factors_long : (parts : List Part) (ts : Trees) → FitAll p parts ts → (sizes_of ts ≤ length (joined ts)) × (sizes_of ts ≤ length (followed ts))
      factors_long [] none h = (omega arith, omega arith)
      factors_long (part ∷ parts) (more t ts) h =
          let a = fits_long (shape_of p part.node) t (fine part.node) h.0 in
          let b = factors_long parts ts h.1 in
          (omega (arith, a, b.1, length-append (structure_text t) (followed ts)), omega (arith, a, b.1, length-append (structure_text t) (followed ts)))
      factors_long [] (more t ts) h = absurd h
      factors_long (part ∷ parts) none h = absurd h

      components_long : (part : Part) (ts : Trees) → FitEach p part ts → (sizes_of ts ≤ length (joined ts)) × (sizes_of ts ≤ length (followed ts))
      components_long part none h = (omega arith, omega arith)
      components_long part (more t ts) h =
          let a = fits_long (shape_of p part.node) t (fine part.node) h.0 in
          let b = components_long part ts h.1 in
          (omega (arith, a, b.1, length-append (structure_text t) (followed ts)), omega (arith, a, b.1, length-append (structure_text t) (followed ts)))

  -- ---- structures of a node with a text

  labels_below : (first n x : ℕ) → In x (labels_from first n) → x < first + n
  labels_below first zero x i = absurd i
  labels_below first (suc n) x i = ⊎_elim (λ (e : x ≡ first). omega (arith, e)) (λ j. omega (arith, labels_below (first + 1) n x j)) i

  module _ (x : ℕ) (text : List ℕ) (l : length text ≤ 65536) where
    named_written : (t : Tree) → IsNamed p x text t → IsWritten t
    named_written t n =
        fits_written (shape_of p x) t (fine x) n.0.0
        (λ u y i. let h = subst (λ v. Carries v (labels_from 1 (size_of t)) t) u n.0.2 in omega
        (arith, labels_below 1 (size_of t) y (h.1 y i), fits_long u (shape_of p x) t (fine x) n.0.0, ap length n.1, l))

    -- the structure that is read is the one
    pub named_read : (r t : Tree) → IsRead text r → IsNamed p x text t → t ≡ r
    named_read r t h n = sym (fits_plain p (shape_of p x) t n.0.0) ∙ one_normal t r (named_written t n) h.written (n.1 ∙ sym h.its_text) ∙ h.plain

    pub one_named : (t u : Tree) → IsNamed p x text t → IsNamed p x text u → t ≡ u
    one_named t u n m = sym (fits_plain p (shape_of p x) t n.0.0) ∙ one_normal t u (named_written t n) (named_written u m) (n.1 ∙ sym m.1) ∙ fits_plain p (shape_of p x) u m.0.0
