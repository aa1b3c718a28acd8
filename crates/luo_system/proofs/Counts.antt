-- The counts of a well-founded program meet the equations of its nodes.
use Rattle.std.proofs.Common.{◌≡◌, ℕ, zero, suc, ◌<◌, refl, sym, ◌∙◌, ap, arith, subst, ℤ, pos, Option, ◌⊎◌, inl, inr, ⊎_elim, List, [], ◌∷◌, ◌++◌, length, get_or, sum_by, append_assoc}
use Rattle.std.proofs.lemmas.Int.{ints}
use Rattle.std.proofs.lemmas.Option.{get_or_from_slice_get}
use Rattle.std.proofs.lemmas.List.Sums.{sum_by-cons}
use Rattle.luo_finite.specs.Listing.{In, Lists}
use Rattle.luo_finite.specs.Range.{sum_below, unit}
use Rattle.luo_finite.proofs.Sums.{Sums-by, Counts-from, Counts-unique}
use Rattle.luo_finite.proofs.Ranges.{sum_below-places}
use Rattle.luo_finite.proofs.Membership.{In-append_cases}
use Rattle.luo_model.specs.declared.program.Universe.{Universe}
use Rattle.luo_model.specs.declared.program.Universe.TheVariants.{Unlabelled, Labelled}
use Rattle.luo_model.specs.declared.program.Kind.{Kind}
use Rattle.luo_model.specs.declared.program.Kind.TheVariants.{Sequence, Set, Cycle, Multiset, Powerset}
use Rattle.luo_model.specs.declared.program.Part.{Part}
use Rattle.luo_model.specs.declared.program.Shape.{Shape}
use Rattle.luo_model.specs.declared.program.Shape.TheVariants as shape
use Rattle.luo_model.specs.Tree.{Tree, size_of, labels_of}
use Rattle.luo_model.specs.Program.{Program, shape_of}
use Rattle.luo_model.specs.Member.{Member}
use Rattle.luo_model.specs.Structures.{IsStructure, Carries, Holds}
use Rattle.luo_model.specs.Tables.{IsCount}
use Rattle.luo_model.specs.Invariant.{IsProgram, IsAllowed, IsKind, IsLow}
use Rattle.luo_model.specs.Founded.{HasZero, HasEmptyComponent, KeepsSize, SameSize, IsFounded}
use Rattle.luo_model.proofs.NodeLemmas.{node_at_place}
use Rattle.luo_finite.proofs.Places.{In_get}
use Rattle.luo_founded.proofs.OtherParts.{others_by_place}
use Rattle.luo_founded.proofs.MadeLemmas.{zero_of_member}
use Rattle.luo_founded.proofs.Listed.{listing_exists}
use Rattle.luo_counting.specs.Sharing.{products}
use Rattle.luo_counting.specs.Items.{Suits}
use Rattle.luo_counting.specs.Numbers.{coll_count, back}
use Rattle.luo_counting.specs.Counted.{CountsAt, IsLight, AreLight}
use Rattle.luo_counting.proofs.OfPrograms.{light_program, suits_program}
use Rattle.luo_counting.proofs.Two.{IsSized}
use Rattle.luo_counting.proofs.TreeCollections.{node_known, members_sized, count_of_all}
use Rattle.luo_counting.proofs.TreeParts.{Factor, parts_in, HasNoEmpty, SomeHasNoEmpty, AreBelow, AreAt, SumsAt-union}
use Rattle.luo_counting.proofs.TreeParts as numbers
use Rattle.luo_counting.proofs.TreeCharges.{plain, CountsAt-product}
use Rattle.luo_counting.proofs.Atoms.{CountsAt-atom, CountsAt-no_atom}
use Rattle.luo_equation.specs.Series.{only_at, times}
use Rattle.luo_equation.proofs.SeriesLemmas.{times-pos, unit-pos}
use Rattle.luo_equation.proofs.CountLaws.{coll-pos}
use Rattle.luo_model.specs.Scopes.Stands.{no_part}
use Rattle.luo_system.proofs.Steps.{by_size_and_step}
use Rattle.luo_system.proofs.Values.{sums_in, products_in, shape_value}

module _ (p : Program) (q : IsProgram p) (f : IsFounded p) where
  light : AreLight p
  light = light_program p q

  -- the number of structures of node x of size n
  pub count_of : ℕ → ℕ → ℕ
  count_of x n = sum_by (λ t. 1) (listing_exists p q f x n).0

  pub count_is : (x n : ℕ) → IsCount p x n (count_of x n)
  unfolding count_of
  count_is x n = let l = listing_exists p q f x n in Counts-from (IsStructure p x n) (sum_by (λ t. 1) l.0) (Sums-by (IsStructure p x n) (λ t. 1) l.0 l.1)

  pub count_one : (x n c : ℕ) → IsCount p x n c → c ≡ count_of x n
  count_one x n c k = Counts-unique (IsStructure p x n) c (count_of x n) k (count_is x n)

  -- a structure of size 0, or none and a count of 0
  no_labels : (u : Universe) (x : ℕ) (t : Tree) → IsSized u (Member p x) size_of labels_of → Member p x t → size_of t ≡ 0 → Carries u [] t
  no_labels Unlabelled x t s m e = tt
  no_labels Labelled x t s m e = subst (Holds []) (sym (empty (labels_of t) (sym (s t m) ∙ e))) (tt, (λ y i. i), λ y i. i)
    where
      empty : (l : List ℕ) → length l ≡ 0 → l ≡ []
      empty [] e = refl
      empty (y ∷ l) e = absurd (omega arith)

  pub zero_or_none : (x : ℕ) → HasZero p x ⊎ (((t : Tree) → Member p x t → size_of t ≡ 0 → ⊥) × (count_of x 0 ≡ 0))
  unfolding count_of
  zero_or_none x = by_list (listing_exists p q f x 0).0 (listing_exists p q f x 0).1
    where
      by_list : (l : List Tree) → Lists (IsStructure p x 0) l → HasZero p x ⊎ (((t : Tree) → Member p x t → size_of t ≡ 0 → ⊥) × (sum_by (λ t. 1) l ≡ 0))
      by_list [] h = inr ((λ t m e. h.complete t (m, e, no_labels p.universe x t (members_sized p light x) m e)), refl)
      by_list (t ∷ l) h = let s = h.sound t (inl refl) in inl (zero_of_member p x t s.0 s.1)

  pub solid_part : (x : ℕ) (kind : Kind) (part : Part) (low : ℕ) (high : Option ℕ) → shape_of p x ≡ shape.Coll kind part low high → ((t : Tree) → Member p part.node t → size_of t ≡ 0 → ⊥) ×
      (count_of part.node 0 ≡ 0)
  solid_part x kind part low high is = ⊎_elim (λ z. absurd (f.solid x (subst (HasEmptyComponent p) (sym is) z))) (λ n. n) (zero_or_none part.node)

  -- ---- the number of a construct, over the counts of its parts
  abbrev pub C : Part → ℕ → ℕ
  C part n = count_of part.node n

  abbrev number_of : Shape → ℕ → ℕ
  number_of (shape.Atom weight) n = back weight unit n
  number_of (shape.Union parts) n = sum_below (λ i. C (get_or parts i no_part) n) (length parts)
  number_of (shape.Product parts) n = products p.universe (numbers.sums_in (plain C parts)) n
  number_of (shape.Coll kind part low high) n = coll_count p.universe kind (C part) low high n

  module _ (n x : ℕ) (known : (m y : ℕ) → m < n → CountsAt p y m (count_of y m)) (same : (y : ℕ) → SameSize p x y → CountsAt p y n (count_of y n)) where
    all_below : (parts : List Part) → AreBelow p (plain C parts) n
    all_below [] = tt
    all_below (part ∷ parts) = ((λ m l. known m part.node l), all_below parts)

    abbrev AllZero : List Part → Type 0
    AllZero parts = (part : Part) → In part parts → HasZero p part.node

    zero_or_some : (parts : List Part) → AllZero parts ⊎ SomeHasNoEmpty p (plain C parts)
    zero_or_some [] = inl (λ part i. absurd i)
    zero_or_some (part ∷ parts) = ⊎_elim
        (λ z. ⊎_elim (λ a. inl (λ v i. ⊎_elim (λ e. subst (λ (w : Part). HasZero p w.node) (sym e) z) (λ j. a v j) i)) (λ s. inr (inr s)) (zero_or_some parts))
        (λ n. inr (inl n)) (zero_or_none part.node)

    all_at : (before parts : List Part) → shape_of p x ≡ shape.Product (before ++ parts) → AllZero before → AreAt p (plain C parts) n
    all_at before [] is b = tt
    all_at before (part ∷ parts) is b = (
      ⊎_elim (λ z. inl (same part.node (subst (λ s. KeepsSize (HasZero p) s part.node) (sym is) (others_by_place (HasZero p) (before ++ part ∷ parts) before part parts refl b z))))
          (λ s. inr s) (zero_or_some parts),
      ⊎_elim
          (λ z. inl (all_at (before ++ part ∷ []) parts (is ∙ ap shape.Product (sym (append_assoc before (part ∷ []) parts)))
          (λ v i. ⊎_elim (λ j. b v j) (λ j. ⊎_elim (λ e. subst (λ (w : Part). HasZero p w.node) (sym e) z) (λ k. absurd k) j) (In-append_cases v before (part ∷ []) i))))
          (λ o. inr o) (zero_or_none part.node),
    )

    atom_counted : (weight : ℕ) → shape_of p x ≡ shape.Atom weight → CountsAt p x n (back weight unit n)
    atom_counted weight is = ⊎_elim
        (λ e. subst (CountsAt p x n) (sym (ap (back weight unit) e ∙ at_weight weight)) (CountsAt-atom p x weight is light n e))
        (λ o. subst (CountsAt p x n) (sym (elsewhere weight n o)) (CountsAt-no_atom p x weight is light n o)) (eq_or n weight)
      where
        eq_or : (a b : ℕ) → (a ≡ b) ⊎ (a ≡ b → ⊥)
        eq_or a b = grind arith

        at_weight : (w : ℕ) → back w unit w ≡ 1
        at_weight zero = refl
        at_weight (suc w) = at_weight w

        elsewhere : (w n : ℕ) → (n ≡ w → ⊥) → back w unit n ≡ 0
        elsewhere zero zero o = absurd (o refl)
        elsewhere zero (suc n) o = refl
        elsewhere (suc w) zero o = refl
        elsewhere (suc w) (suc n) o = elsewhere w n (λ e. o (ap suc e))

    shape_counted : (s : Shape) → shape_of p x ≡ s → CountsAt p x n (number_of s n)
    shape_counted (shape.Atom weight) is = atom_counted weight is
    shape_counted (shape.Union parts) is =
        SumsAt-union p x parts is n (λ s. 1) (λ i. C (get_or parts i no_part) n) (λ i part e.
        subst (λ (v : Part). CountsAt p part.node n (C v n)) (sym (get_or_from_slice_get parts i part no_part e))
        (same part.node (subst (λ s. KeepsSize (HasZero p) s part.node) (sym is) (part, In_get parts i part e, refl))))
    shape_counted (shape.Product parts) is = CountsAt-product p x parts n C light is (all_below parts) (all_at [] parts is (λ part i. absurd i))
    shape_counted (shape.Coll kind part low high) is =
        let o = solid_part x kind part low high is in
        λ L r. (node_known p x kind part low high is light (suits_program p q x kind part low high is) o.0 (λ t. 1) (C part) (C part) n o.1 o.1
        (λ m i l. (known m part.node l, known m part.node l))
        (λ w. let k = same part.node (subst (λ s. KeepsSize (HasZero p) s part.node) (sym is) (refl, w)) in (k, k)) L r).count

  -- THE LAW: each node has its count on all labels
  pub counted : (n x : ℕ) → CountsAt p x n (count_of x n)
  counted n x = by_size_and_step p f (λ n x. CountsAt p x n (count_of x n)) (λ n x known same.
      let k = shape_counted n x known same (shape_of p x) refl in
      subst (CountsAt p x n) (count_one x n (number_of (shape_of p x) n) (count_of_all p x n (number_of (shape_of p x) n) k)) k) n x

  pub count_number : (n x : ℕ) (s : Shape) → shape_of p x ≡ s → number_of s n ≡ count_of x n
  count_number n x s is = count_one x n (number_of s n) (count_of_all p x n (number_of s n) (shape_counted n x (λ m y l. counted m y) (λ y r. counted n y) s is))

  -- ---- as integers
  abbrev pub CZ : Part → ℕ → ℤ
  CZ part n = pos (count_of part.node n)

  pub sums-pos : (parts : List Part) (n : ℕ) → sums_in CZ parts n ≡ pos (sum_by (λ part. C part n) parts)
  sums-pos [] n = refl
  sums-pos (part ∷ parts) n = omega (arith, ints, sums-pos parts n, sum_by-cons (λ part. C part n) part parts)

  pub products-pos : (parts : List Part) (n : ℕ) → products_in p.universe CZ parts n ≡ pos (products p.universe (numbers.sums_in (plain C parts)) n)
  products-pos [] n = unit-pos n
  products-pos (part ∷ parts) n =
      ap (λ (g : ℕ → ℤ). times p.universe (CZ part) g n) (λ i m. products-pos parts m i) ∙ times-pos p.universe (C part) (products p.universe (numbers.sums_in (plain C parts))) n

  only-pos : (w n : ℕ) → only_at w (pos 1) n ≡ pos (back w unit n)
  only-pos zero n = unit-pos n
  only-pos (suc w) zero = refl
  only-pos (suc w) (suc n) = only-pos w n

  -- THE LAW: the counts meet the equations of the nodes
  pub node_value : (x n : ℕ) (s : Shape) → shape_of p x ≡ s → shape_value p.universe CZ s n ≡ pos (count_of x n)
  node_value x n s is = by_shape s is ∙ ap pos (count_number n x s is)
    where
      by_shape : (s : Shape) → shape_of p x ≡ s → shape_value p.universe CZ s n ≡ pos (number_of s n)
      by_shape (shape.Atom weight) is = only-pos weight n
      by_shape (shape.Union parts) is = sums-pos parts n ∙ ap pos (sym (sum_below-places (λ part. C part n) parts no_part))
      by_shape (shape.Product parts) is = products-pos parts n
      by_shape (shape.Coll kind part low high) is = coll-pos (C part) (solid_part x kind part low high is).1 p.universe kind low high n (suits_program p q x kind part low high is)
