-- Whether a tree is a structure of a node of some size on some labels is decided.
use Rattle.std.proofs.Common.{◌≡◌, ℕ, zero, suc, ◌≤◌, ◌<◌, List, [], ◌∷◌, inl, inr, ⊎_elim, length, refl, sym, ◌∙◌, subst, Option, Some, None, slice_get}
use Rattle.std.specs.declared.cmp.Ordering.{Ordering}
use Rattle.std.specs.declared.cmp.Ordering.TheVariants.{Less, Equal, Greater}
use Rattle.luo_finite.specs.Listing.{In}
use Rattle.luo_model.specs.declared.program.Universe.{Universe}
use Rattle.luo_model.specs.declared.program.Universe.TheVariants.{Unlabelled, Labelled}
use Rattle.luo_model.specs.declared.program.Kind.{Kind}
use Rattle.luo_model.specs.declared.program.Kind.TheVariants.{Sequence, Set, Cycle, Multiset, Powerset}
use Rattle.luo_model.specs.declared.program.Part.{Part}
use Rattle.luo_model.specs.declared.program.Shape.{Shape}
use Rattle.luo_model.specs.declared.program.Shape.TheVariants as shape
use Rattle.luo_model.specs.Tree.{Tree, Trees, Atom, Inj, Tup, Coll, none, more, to_list, size_of, labels_of, least_label}
use Rattle.luo_model.specs.Order.{order_of, IsBefore, IsNotBefore}
use Rattle.luo_model.specs.Standing.{IsLed}
use Rattle.luo_model.specs.Program.{Program, shape_of}
use Rattle.luo_model.specs.Member.{Fits, FitAll, FitEach, IsLabel, IsWithin, ComponentsStand}
use Rattle.luo_model.specs.Structures.{Holds, Carries, IsStructureOn}
use Rattle.luo_model.proofs.OrderLemmas.{order_equal, order_itself}
use Rattle.luo_finite.proofs.Places.{some_same, none_some}
use Rattle.luo_finite.proofs.Decided.{Decided, In_decided, both_decided, three_decided, same_number, le_decided, lt_decided, each_decided, pairwise_decided, single_decided}

less_decided : (o : Ordering) → Decided (o ≡ Less)
less_decided Less = inl refl
less_decided Equal = inr (λ e. cc)
less_decided Greater = inr (λ e. cc)

not_less_decided : (o : Ordering) → Decided (o ≡ Less → ⊥)
not_less_decided Less = inr (λ h. h refl)
not_less_decided Equal = inl (λ e. cc)
not_less_decided Greater = inl (λ e. cc)

equal_decided : (o : Ordering) → Decided (o ≡ Equal)
equal_decided Less = inr (λ e. cc)
equal_decided Equal = inl refl
equal_decided Greater = inr (λ e. cc)

pub same_tree : (s t : Tree) → Decided (s ≡ t)
same_tree s t = ⊎_elim (λ e. inl (order_equal s t e)) (λ n. inr (λ e. n (subst (λ u. order_of s u ≡ Equal) e (order_itself s)))) (equal_decided (order_of s t))

label_decided : (u : Universe) (w l : ℕ) → Decided (IsLabel u w l)
label_decided Unlabelled w l = same_number l 0
label_decided Labelled w l = ⊎_elim
    (λ (e : w ≡ 1). ⊎_elim (λ h. inl (λ z. h, λ n. absurd (n e))) (λ n. inr (λ h. n (h.0 e))) (le_decided 1 l))
    (λ (n : w ≡ 1 → ⊥). ⊎_elim (λ e. inl (λ z. absurd (n z), λ z. e)) (λ m. inr (λ h. m (h.1 n))) (same_number l 0))
    (same_number w 1)

pub within_decided : (low : ℕ) (high : Option ℕ) (k : ℕ) → Decided (IsWithin low high k)
within_decided low None k = le_decided low k
within_decided low (Some high) k = both_decided (le_decided low k) (le_decided k high)

led_decided : (ts : List Tree) → Decided (IsLed least_label ts)
led_decided [] = inl tt
led_decided (t ∷ ts) = each_decided (λ s. least_label t ≤ least_label s) (λ s. le_decided (least_label t) (least_label s)) ts

stand_decided : (kind : Kind) (ts : List Tree) → Decided (ComponentsStand kind ts)
stand_decided Sequence ts = inl tt
stand_decided Set ts = pairwise_decided (λ s t. least_label s < least_label t) (λ s t. lt_decided (least_label s) (least_label t)) ts
stand_decided Cycle ts = led_decided ts
stand_decided Multiset ts = pairwise_decided IsNotBefore (λ s t. not_less_decided (order_of s t)) ts
stand_decided Powerset ts = pairwise_decided (λ s t. IsBefore t s) (λ s t. less_decided (order_of t s)) ts

module _ (p : Program) where
  branch_decided : (parts : List Part) (i : ℕ) (t : Tree) (o : Option Part) → slice_get parts i ≡ o → ((part : Part) → Decided (Fits p (shape_of p part.node) t))
      → Decided ((part : Part) × (slice_get parts i ≡ Some part) × Fits p (shape_of p part.node) t)
  branch_decided parts i t None e h = inr (λ r. none_some r.0 (sym e ∙ r.1))
  branch_decided parts i t (Some part) e h =
      ⊎_elim (λ m. inl (part, e, m)) (λ n. inr (λ r. n (subst (λ (q : Part). Fits p (shape_of p q.node) t) (some_same r.0 part (sym r.1 ∙ e)) r.2))) (h part)

  mutual
    pub fits_decided : (t : Tree) (s : Shape) → Decided (Fits p s t)
    fits_decided (Atom w l) (shape.Atom weight) = both_decided (same_number w weight) (label_decided p.universe w l)
    fits_decided (Inj zero t) (shape.Union parts) = inr (λ h. h)
    fits_decided (Inj (suc i) t) (shape.Union parts) = branch_decided parts i t (slice_get parts i) refl (λ part. fits_decided t (shape_of p part.node))
    fits_decided (Tup ts) (shape.Product parts) = all_decided ts parts
    fits_decided (Coll ts) (shape.Coll kind part low high) = three_decided (within_decided low high (length (to_list ts))) (all_fit_decided ts part) (stand_decided kind (to_list ts))
    fits_decided t s = inr (λ h. h)

    all_decided : (ts : Trees) (parts : List Part) → Decided (FitAll p parts ts)
    all_decided none [] = inl tt
    all_decided none (part ∷ parts) = inr (λ h. h)
    all_decided (more t ts) [] = inr (λ h. h)
    all_decided (more t ts) (part ∷ parts) = both_decided (fits_decided t (shape_of p part.node)) (all_decided ts parts)

    all_fit_decided : (ts : Trees) (part : Part) → Decided (FitEach p part ts)
    all_fit_decided none part = inl tt
    all_fit_decided (more t ts) part = both_decided (fits_decided t (shape_of p part.node)) (all_fit_decided ts part)

  holds_decided : (L labels : List ℕ) → Decided (Holds L labels)
  holds_decided L labels = three_decided (single_decided labels) (each_decided (λ x. In x L) (λ x. In_decided same_number x L) labels) (each_decided (λ x. In x labels) (λ x. In_decided same_number x labels) L)

  carries_decided : (u : Universe) (L : List ℕ) (t : Tree) → Decided (Carries u L t)
  carries_decided Unlabelled L t = inl tt
  carries_decided Labelled L t = holds_decided L (labels_of t)

  pub structure_decided : (x : ℕ) (L : List ℕ) (n : ℕ) (t : Tree) → Decided (IsStructureOn p x L n t)
  structure_decided x L n t = three_decided (fits_decided t (shape_of p x)) (same_number (size_of t) n) (carries_decided p.universe L t)
