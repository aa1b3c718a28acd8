-- An inhabited node has a structure.
use Rattle.std.proofs.Common.{◌≡◌, ℕ, zero, suc, ◌+◌, ◌*◌, ◌≤◌, ◌<◌, List, [], ◌∷◌, ◌++◌, ◌⊎◌, inl, inr, ⊎_elim, length, refl, sym, ◌∙◌, ap, subst, arith, min, sum_by, Option, Some, None}
use Rattle.std.specs.declared.cmp.Ordering.TheVariants.{Less, Equal}
use Rattle.luo_finite.specs.Listing.{In, NoDouble, Pairwise}
use Rattle.luo_num.specs.declared.limits.TheConstants.{SIZE_LIMIT}
use Rattle.luo_model.specs.declared.program.Universe.{Universe}
use Rattle.luo_model.specs.declared.program.Universe.TheVariants.{Unlabelled, Labelled}
use Rattle.luo_model.specs.declared.program.Kind.{Kind}
use Rattle.luo_model.specs.declared.program.Kind.TheVariants.{Sequence, Set, Cycle, Multiset, Powerset}
use Rattle.luo_model.specs.declared.program.Part.{Part}
use Rattle.luo_model.specs.declared.program.Shape.{Shape}
use Rattle.luo_model.specs.declared.program.Shape.TheVariants as shape
use Rattle.luo_model.specs.Tree.{Tree, Trees, Atom, Inj, Tup, Coll, none, more, to_list, size_of, sizes_of, labels_of, all_labels_of, least_of, least_label}
use Rattle.luo_model.specs.Order.{IsBefore, IsNotBefore}
use Rattle.luo_model.specs.Program.{Program, shape_of}
use Rattle.luo_model.specs.Member.{Fits, FitAll, FitEach, IsLabel, IsWithin, ComponentsStand}
use Rattle.luo_model.specs.Structures.{Holds, labels_from, Carries, IsStructure}
use Rattle.luo_model.specs.Invariant.{IsProgram, IsAllowed}
use Rattle.luo_model.proofs.OrderLemmas.{order_itself}
use Rattle.luo_founded.proofs.Bounded.{not_empty}
use Rattle.luo_founded.proofs.LeastLemmas.{least_low}
use Rattle.luo_founded.specs.inner.Least.{least_part, least_by, IsSettled, IsLeastTo}
use Rattle.luo_model.specs.Founded.{IsBuilt, BuiltWithin, IsInhabited, IsFounded}
use Rattle.luo_model.proofs.NodeLemmas.{node_at_place}
use Rattle.luo_finite.proofs.Places.{place_in}
use Rattle.std.proofs.lemmas.List.Sums.{sum_by-cons}
use Rattle.std.proofs.Math.Nat.{suc-mul}

labels_join : (a m n : ℕ) → labels_from a m ++ labels_from (a + m) n ≡ labels_from a (m + n)
labels_join a zero n = ap (λ k. labels_from k n) (let e : a + 0 ≡ a = omega arith in e) ∙ ap (labels_from a) (let e : n ≡ 0 + n = omega arith in e)
labels_join a (suc m) n =
    ap (λ k. a ∷ (labels_from (a + 1) m ++ labels_from k n)) (let e : a + suc m ≡ a + 1 + m = omega arith in e)
    ∙ ap (λ l. a ∷ l) (labels_join (a + 1) m n)
    ∙ ap (labels_from a) (let e : suc (m + n) ≡ suc m + n = omega arith in e)

In_labels : (a n x : ℕ) → In x (labels_from a n) → a ≤ x
In_labels a zero x i = absurd i
In_labels a (suc n) x i = ⊎_elim (λ (e : x ≡ a). omega arith) (λ j. omega (arith, In_labels (a + 1) n x j)) i

single_labels : (a n : ℕ) → NoDouble (labels_from a n)
single_labels a zero = tt
single_labels a (suc n) = (λ i. absurd (omega (arith, In_labels (a + 1) n a i)), single_labels (a + 1) n)

least_labels : (a n : ℕ) → least_of (labels_from a (suc n)) ≡ a
least_labels a zero = refl
least_labels a (suc n) = ap (min a) (least_labels (a + 1) n) ∙ lower a
  where
    lower : (a : ℕ) → min a (a + 1) ≡ a
    lower a = grind arith

-- a structure of this construct and of one size, for each first label
pub record Grown (p : Program) (s : Shape) (size : ℕ) : Type 0 where
  tree : ℕ → Tree
  fits : (k : ℕ) → Fits p s (tree k)
  sized : (k : ℕ) → size_of (tree k) ≡ size
  labelled : p.universe ≡ Labelled → (k : ℕ) → labels_of (tree k) ≡ labels_from (suc k) size

pub record GrownAll (p : Program) (parts : List Part) (size : ℕ) : Type 0 where
  trees : ℕ → Trees
  fits : (k : ℕ) → FitAll p parts (trees k)
  sized : (k : ℕ) → sizes_of (trees k) ≡ size
  labelled : p.universe ≡ Labelled → (k : ℕ) → all_labels_of (trees k) ≡ labels_from (suc k) size

unlabelled_labelled : Unlabelled ≡ Labelled → ⊥
unlabelled_labelled e = cc

module _ (p : Program) where
  grown_atom : (v : Universe) → p.universe ≡ v → (w : ℕ) → IsAllowed v (shape.Atom w) → Grown p (shape.Atom w) w
  grown_atom Unlabelled u w a = record {
    tree = λ k. Atom w 0;
    fits = λ k. (refl, subst (λ v. IsLabel v w 0) (sym u) refl);
    sized = λ k. refl;
    labelled = λ e. absurd (unlabelled_labelled (sym u ∙ e));
  }
  grown_atom Labelled u zero a = record {
    tree = λ k. Atom 0 0;
    fits = λ k. (refl, subst (λ v. IsLabel v 0 0) (sym u) (λ e. absurd (omega arith), λ n. refl));
    sized = λ k. refl;
    labelled = λ e k. refl;
  }
  grown_atom Labelled u (suc zero) a = record {
    tree = λ k. Atom 1 (suc k);
    fits = λ k. (refl, subst (λ v. IsLabel v 1 (suc k)) (sym u) (λ e. omega arith, λ n. absurd (n refl)));
    sized = λ k. refl;
    labelled = λ e k. refl;
  }
  grown_atom Labelled u (suc (suc w)) a = absurd (omega (arith, a))

  grown_none : GrownAll p [] 0
  grown_none = record { trees = λ k. none; fits = λ k. tt; sized = λ k. refl; labelled = λ e k. refl }

  grown_more : (part : Part) (parts : List Part) (m n : ℕ) → Grown p (shape_of p part.node) m → GrownAll p parts n → GrownAll p (part ∷ parts) (m + n)
  grown_more part parts m n a b = record {
    trees = λ k. more (a.tree k) (b.trees (k + m));
    fits = λ k. (a.fits k, b.fits (k + m));
    sized = λ k. omega (arith, a.sized k, b.sized (k + m));
    labelled = λ e k.
        ap (λ l. l ++ all_labels_of (b.trees (k + m))) (a.labelled e k)
        ∙ ap (λ l. labels_from (suc k) m ++ l) (b.labelled e (k + m))
        ∙ ap (λ i. labels_from (suc k) m ++ labels_from i n) (let q : suc (k + m) ≡ suc k + m = omega arith in q)
        ∙ labels_join (suc k) m n;
  }

  grown_all : (parts : List Part) → ((part : Part) → In part parts → (n : ℕ) × Grown p (shape_of p part.node) n) → (n : ℕ) × GrownAll p parts n
  grown_all [] h = (0, grown_none)
  grown_all (part ∷ parts) h =
      let a = h part (inl refl) in
      let b = grown_all parts (λ other i. h other (inr i)) in
      (a.0 + b.0, grown_more part parts a.0 b.0 a.1 b.1)

  -- so many structures of a component, each with its first label so far behind the one before
  module _ (part : Part) (size : ℕ) (g : Grown p (shape_of p part.node) size) (jump : ℕ) where
    copies : ℕ → ℕ → Trees
    copies zero k = none
    copies (suc c) k = more (g.tree k) (copies c (k + jump))

    total : ℕ → ℕ
    total zero = 0
    total (suc c) = size + total c

    copies_fit : (c k : ℕ) → FitEach p part (copies c k)
    unfolding copies
    copies_fit zero k = tt
    copies_fit (suc c) k = (g.fits k, copies_fit c (k + jump))

    copies_count : (c k : ℕ) → length (to_list (copies c k)) ≡ c
    unfolding copies
    copies_count zero k = refl
    copies_count (suc c) k = omega (arith, copies_count c (k + jump))

    copies_sized : (c k : ℕ) → sizes_of (copies c k) ≡ total c
    unfolding copies total
    copies_sized zero k = refl
    copies_sized (suc c) k = omega (arith, g.sized k, copies_sized c (k + jump))

    copies_labelled : jump ≡ size → p.universe ≡ Labelled → (c k : ℕ) → all_labels_of (copies c k) ≡ labels_from (suc k) (total c)
    unfolding copies total
    copies_labelled j u zero k = refl
    copies_labelled j u (suc c) k =
        ap (λ l. l ++ all_labels_of (copies c (k + jump))) (g.labelled u k)
        ∙ ap (λ l. labels_from (suc k) size ++ l) (copies_labelled j u c (k + jump))
        ∙ ap (λ m. labels_from (suc k) size ++ labels_from m (total c)) (let q : suc (k + jump) ≡ suc k + size = omega arith in q)
        ∙ labels_join (suc k) size (total c)

    total_is : (c : ℕ) → total c ≡ c * size
    unfolding total
    total_is zero = omega arith
    total_is (suc c) = omega (arith, total_is c, suc-mul c size)

    -- where each has a label, its least is its first
    least_is : p.universe ≡ Labelled → 1 ≤ size → (k : ℕ) → least_label (g.tree k) ≡ suc k
    least_is u h k = ap least_of (g.labelled u k) ∙ of_size size h k
      where
        of_size : (n : ℕ) → 1 ≤ n → (k : ℕ) → least_of (labels_from (suc k) n) ≡ suc k
        of_size zero h k = absurd (omega arith)
        of_size (suc n) h k = least_labels (suc k) n

    copies_least : p.universe ≡ Labelled → 1 ≤ size → (c k : ℕ) (s : Tree) → In s (to_list (copies c k)) → suc k ≤ least_label s
    unfolding copies
    copies_least u h zero k s i = absurd i
    copies_least u h (suc c) k s i = ⊎_elim (λ e. omega (arith, ap least_label e, least_is u h k)) (λ j. omega (arith, copies_least u h c (k + jump) s j)) i

    copies_rise : p.universe ≡ Labelled → 1 ≤ size → jump ≡ size → (c k : ℕ) → Pairwise (λ s t. least_label s < least_label t) (to_list (copies c k))
    unfolding copies
    copies_rise u h j zero k = tt
    copies_rise u h j (suc c) k = (λ s i. omega (arith, least_is u h k, copies_least u h c (k + jump) s i), copies_rise u h j c (k + jump))

    copies_led : p.universe ≡ Labelled → 1 ≤ size → (c k : ℕ) → ComponentsStand Cycle (to_list (copies c k))
    unfolding copies
    copies_led u h zero k = tt
    copies_led u h (suc c) k = λ s i. omega (arith, least_is u h k, copies_least u h c (k + jump) s i)

    copies_same : jump ≡ 0 → (c k : ℕ) (s : Tree) → In s (to_list (copies c k)) → s ≡ g.tree k
    unfolding copies
    copies_same j zero k s i = absurd i
    copies_same j (suc c) k s i = ⊎_elim (λ e. e) (λ m. copies_same j c (k + jump) s m ∙ ap g.tree (let e : k + jump ≡ k = omega arith in e)) i

    copies_fall : jump ≡ 0 → (c k : ℕ) → Pairwise IsNotBefore (to_list (copies c k))
    unfolding copies
    copies_fall j zero k = tt
    copies_fall j (suc c) k = (
      λ s i. subst (λ (t : Tree). IsNotBefore (g.tree k) t) (sym (copies_same j c (k + jump) s i ∙ ap g.tree (let e : k + jump ≡ k = omega arith in e))) (not_before (g.tree k)),
      copies_fall j c (k + jump),
    )
      where
        not_before : (t : Tree) → IsNotBefore t t
        not_before t e = let clash : Equal ≡ Less = sym (order_itself t) ∙ e in cc

    copies_few : (c k : ℕ) → c ≤ 1 → Pairwise (λ s t. IsBefore t s) (to_list (copies c k))
    unfolding copies
    copies_few zero k h = tt
    copies_few (suc zero) k h = (λ s i. absurd i, tt)
    copies_few (suc (suc c)) k h = absurd (omega arith)

    grown_copies : (kind : Kind) (low : ℕ) (high : Option ℕ) → IsWithin low high low → ((k : ℕ) → ComponentsStand kind (to_list (copies low k))) → (p.universe ≡ Labelled → jump ≡ size) → Grown p (shape.Coll kind part low high) (total low)
    grown_copies kind low high w stand j = record {
      tree = λ k. Coll (copies low k);
      fits = λ k. (subst (IsWithin low high) (sym (copies_count low k)) w, copies_fit low k, stand k);
      sized = λ k. copies_sized low k;
      labelled = λ u k. copies_labelled (j u) u low k;
    }

  none_stand : (kind : Kind) → ComponentsStand kind []
  none_stand Sequence = tt
  none_stand Set = tt
  none_stand Cycle = tt
  none_stand Multiset = tt
  none_stand Powerset = tt

  grown_empty : (kind : Kind) (part : Part) (low : ℕ) (high : Option ℕ) → low ≡ 0 → Grown p (shape.Coll kind part low high) 0
  grown_empty kind part low high e = record {
    tree = λ k. Coll none;
    fits = λ k. (fine high, tt, none_stand kind);
    sized = λ k. refl;
    labelled = λ u k. refl;
  }
    where
      fine : (high : Option ℕ) → IsWithin low high 0
      fine None = omega arith
      fine (Some most) = (omega arith, omega arith)

  low_itself : (u : Universe) (kind : Kind) (part : Part) (low : ℕ) (high : Option ℕ) → IsAllowed u (shape.Coll kind part low high) → IsWithin low high low
  low_itself u kind part low None a = omega arith
  low_itself u kind part low (Some most) a = (omega arith, a.3.0)

  grown_coll : (kind : Kind) (part : Part) (low : ℕ) (high : Option ℕ) → IsAllowed p.universe (shape.Coll kind part low high) → (size : ℕ) → Grown p (shape_of p part.node) size → 1 ≤ size → Grown p (shape.Coll kind part low high) (low * size)
  grown_coll Sequence part low high a size g h = subst (Grown p (shape.Coll Sequence part low high)) (total_is part size g size low)
      (grown_copies part size g size Sequence low high (low_itself p.universe Sequence part low high a) (λ k. tt) (λ u. refl))
  grown_coll Set part low high a size g h = subst (Grown p (shape.Coll Set part low high)) (total_is part size g size low)
      (grown_copies part size g size Set low high (low_itself p.universe Set part low high a) (λ k. copies_rise part size g size a.0 h refl low k) (λ u. refl))
  grown_coll Cycle part low high a size g h = subst (Grown p (shape.Coll Cycle part low high)) (total_is part size g size low)
      (grown_copies part size g size Cycle low high (low_itself p.universe Cycle part low high a) (λ k. copies_led part size g size a.0 h low k) (λ u. refl))
  grown_coll Multiset part low high a size g h = subst (Grown p (shape.Coll Multiset part low high)) (total_is part size g 0 low)
      (grown_copies part size g 0 Multiset low high (low_itself p.universe Multiset part low high a) (λ k. copies_fall part size g 0 refl low k) (λ u. absurd (unlabelled_labelled (sym a.0 ∙ u))))
  grown_coll Powerset part low high a size g h = subst (Grown p (shape.Coll Powerset part low high)) (total_is part size g 0 low)
      (grown_copies part size g 0 Powerset low high (low_itself p.universe Powerset part low high a) (λ k. copies_few part size g 0 low k a.1) (λ u. absurd (unlabelled_labelled (sym a.0 ∙ u))))

  module _ (q : IsProgram p) (f : IsFounded p) where
    allowed_of : (x : ℕ) (s : Shape) → shape_of p x ≡ s → (s ≡ shape.Union [] → ⊥) → IsAllowed p.universe s
    allowed_of x s e n = ⊎_elim (λ a. subst (IsAllowed p.universe) (sym a.2 ∙ e) (q.allowed x a.0 a.1)) (λ u. absurd (n (sym e ∙ u))) (node_at_place p x)

    grown_branch : (parts : List Part) (part : Part) (n : ℕ) → In part parts → Grown p (shape_of p part.node) n → Grown p (shape.Union parts) n
    grown_branch parts part n h g = let i = place_in part parts h in record {
      tree = λ k. Inj (suc i.0) (g.tree k);
      fits = λ k. (part, i.1, g.fits k);
      sized = g.sized;
      labelled = g.labelled;
    }

    grown_product : (parts : List Part) (n : ℕ) → GrownAll p parts n → Grown p (shape.Product parts) n
    grown_product parts n g = record { tree = λ k. Tup (g.trees k); fits = g.fits; sized = g.sized; labelled = g.labelled }

    grown_rows : (x : ℕ) (kind : Kind) (part : Part) (low : ℕ) (high : Option ℕ) (n : ℕ) → shape_of p x ≡ shape.Coll kind part low high → Grown p (shape_of p part.node) n → Grown p (shape.Coll kind part low high) (low * n)
    grown_rows x kind part low high n e g =
        grown_coll kind part low high (allowed_of x (shape.Coll kind part low high) e (λ z. cc)) n g (subst (λ n. 1 ≤ n) (g.sized 0) (not_empty p q f x kind part low high e (g.tree 0) (g.fits 0)))

    grown_shape : (x : ℕ) (s : Shape) (Q : ℕ → Type 0) → shape_of p x ≡ s → ((y : ℕ) → Q y → (n : ℕ) × Grown p (shape_of p y) n) → IsBuilt (λ w. Unit {0}) Q s → (n : ℕ) × Grown p s n
    grown_shape x (shape.Atom w) Q e h m = (w, grown_atom p.universe refl w (allowed_of x (shape.Atom w) e (λ z. cc)))
    grown_shape x (shape.Union parts) Q e h m = let g = h m.0.node m.2 in (g.0, grown_branch parts m.0 g.0 m.1 g.1)
    grown_shape x (shape.Product parts) Q e h m = let g = grown_all parts (λ part i. h part.node (m part i)) in (g.0, grown_product parts g.0 g.1)
    grown_shape x (shape.Coll kind part low high) Q e h m = ⊎_elim
        (λ z. (0, grown_empty kind part low high z))
        (λ w. let g = h part.node w in (low * g.0, grown_rows x kind part low high g.0 e g.1))
        m

    grown : (d x : ℕ) → BuiltWithin (λ w. Unit {0}) p d x → (n : ℕ) × Grown p (shape_of p x) n
    grown zero x m = absurd m
    grown (suc d) x m = grown_shape x (shape_of p x) (BuiltWithin (λ w. Unit {0}) p d) refl (grown d) m

    carries : (v : Universe) → p.universe ≡ v → (n : ℕ) (t : Tree) → (p.universe ≡ Labelled → labels_of t ≡ labels_from 1 n) → Carries v (labels_from 1 n) t
    carries Unlabelled u n t h = tt
    carries Labelled u n t h = subst (Holds (labels_from 1 n)) (sym (h u)) (single_labels 1 n, λ x i. i, λ x i. i)

    pub structure_of : (x n : ℕ) → Grown p (shape_of p x) n → (s : Tree) × IsStructure p x n s
    structure_of x n g = (g.tree 0, (g.fits 0, g.sized 0, carries p.universe refl n (g.tree 0) (λ u. g.labelled u 0)))

    -- an inhabited node has a structure
    pub structure_exists : (x : ℕ) → IsInhabited p x → (n : ℕ) × (s : Tree) × IsStructure p x n s
    structure_exists x m =
        let g = grown m.0 x m.1 in
        let r = structure_of x g.0 g.1 in
        (g.0, r.0, r.1)

    -- and so has every node
    pub each_has_structure : (x : ℕ) → x < length p.nodes → (n : ℕ) × (s : Tree) × IsStructure p x n s
    each_has_structure x h = structure_exists x (f.inhabited x h)

    -- where T is backed by structures up to the last size, so is what the construct makes of it
    abbrev pub IsBacked : (ℕ → ℕ) → Type 0
    IsBacked T = (x : ℕ) → T x ≤ SIZE_LIMIT → Grown p (shape_of p x) (T x)

    least_branch : (T : ℕ → ℕ) (parts : List Part) → least_part T parts ≤ SIZE_LIMIT → (part : Part) × In part parts × (T part.node ≡ least_part T parts)
    least_branch T [] h = absurd (omega arith)
    least_branch T (part ∷ parts) h = ⊎_elim
        (λ a. (part, inl refl, sym a))
        (λ b. let r = least_branch T parts (omega (arith, b)) in (r.0, inr r.1, r.2 ∙ sym b))
        (min_cases (T part.node) (least_part T parts))
      where
        min_cases : (a b : ℕ) → (min a b ≡ a) ⊎ (min a b ≡ b)
        min_cases a b = grind arith

    least_all : (T : ℕ → ℕ) → IsBacked T → (parts : List Part) → sum_by (λ (part : Part). T part.node) parts ≤ SIZE_LIMIT → GrownAll p parts (sum_by (λ (part : Part). T part.node) parts)
    least_all T b [] h = grown_none
    least_all T b (part ∷ parts) h =
        let e = sum_by-cons (λ (other : Part). T other.node) part parts in
        subst (GrownAll p (part ∷ parts)) (sym e) (grown_more part parts (T part.node) (sum_by (λ (other : Part). T other.node) parts) (b part.node (omega (arith, e))) (least_all T b parts (omega (arith, e))))

    pub least_backed : (T : ℕ → ℕ) → IsBacked T → (x : ℕ) (s : Shape) → shape_of p x ≡ s → least_by T s ≤ SIZE_LIMIT → Grown p s (least_by T s)
    least_backed T b x (shape.Atom w) e h = grown_atom p.universe refl w (allowed_of x (shape.Atom w) e (λ z. cc))
    least_backed T b x (shape.Union parts) e h =
        let r = least_branch T parts h in
        subst (Grown p (shape.Union parts)) r.2 (grown_branch parts r.0 (T r.0.node) r.1 (b r.0.node (omega (arith, r.2))))
    least_backed T b x (shape.Product parts) e h = grown_product parts (sum_by (λ (part : Part). T part.node) parts) (least_all T b parts h)
    least_backed T b x (shape.Coll kind part zero high) e h =
        subst (Grown p (shape.Coll kind part zero high)) (let z : 0 ≡ zero * T part.node = omega arith in z) (grown_empty kind part zero high refl)
    least_backed T b x (shape.Coll kind part (suc low) high) e h =
        grown_rows x kind part (suc low) high (T part.node) e (b part.node (omega (arith, suc-mul low (T part.node))))

    -- THE LAW: a settled table that is backed has the least sizes
    pub least_sizes : (T : ℕ → ℕ) → IsSettled p T → IsBacked T → (x : ℕ) → IsLeastTo p x (T x)
    least_sizes T s b x = record {
      low = λ m t i. omega (arith, least_low p T s x t i.0, i.1);
      there = λ h. structure_of x (T x) (b x h);
    }
