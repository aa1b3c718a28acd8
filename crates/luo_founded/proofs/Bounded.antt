-- In a program that keeps W1 to W3 the trees of a node of one size are of bounded height, and so all among finitely many.
use Rattle.std.proofs.Common.{◌≡◌, ℕ, zero, suc, ◌+◌, ◌≤◌, ◌<◌, List, [], ◌∷◌, ◌++◌, inl, ⊎_elim, length, refl, sym, ◌∙◌, ap, subst, arith, append_assoc, Option}
use Rattle.std.proofs.lemmas.Option.{slice_get_within}
use Rattle.luo_finite.specs.Listing.{In}
use Rattle.luo_finite.proofs.Membership.{In-append_left, In-append_right, In-append_cases}
use Rattle.luo_model.specs.declared.program.Kind.{Kind}
use Rattle.luo_model.specs.declared.program.Part.{Part}
use Rattle.luo_model.specs.declared.program.Shape.{Shape}
use Rattle.luo_model.specs.declared.program.Shape.TheVariants as shape
use Rattle.luo_model.specs.Tree.{Tree, Trees, Atom, Inj, Tup, Coll, none, more, to_list, size_of, sizes_of, label_list, labels_of, all_labels_of}
use Rattle.luo_model.specs.Program.{Program, shape_of}
use Rattle.luo_model.specs.Member.{Fits, FitAll, FitEach, Member, IsWithin}
use Rattle.luo_model.specs.Invariant.{IsProgram, IsAllowed}
use Rattle.luo_founded.proofs.MadeLemmas.{zero_of_member, zero_of_all}
use Rattle.luo_model.specs.Founded.{HasZero, KeepsSize, SameSize, HasEmptyComponent, IsFounded}
use Rattle.luo_finite.proofs.Places.{none_some, In_get, less_or_same}
use Rattle.luo_model.proofs.NodeLemmas.{node_at_place}
use Rattle.luo_founded.proofs.OtherParts.{others_by_place}
use Rattle.luo_finite.proofs.Walks.{LeadsTo, no_path, longer_path, short_path}
use Rattle.luo_model.proofs.AllTrees.{InBox, AllInBox, trees_to, in_trees}

-- a height that no tree of this size passes, where there are so many nodes
unfoldable pub height_for : ℕ → ℕ → ℕ
height_for nodes zero = suc nodes
height_for nodes (suc n) = height_for nodes n + suc nodes

some_height : (nodes n : ℕ) → suc nodes ≤ height_for nodes n
unfolding height_for
some_height nodes zero = omega arith
some_height nodes (suc n) = omega (arith, some_height nodes n)

higher : (nodes m n : ℕ) → m < n → height_for nodes m + suc nodes ≤ height_for nodes n
unfolding height_for
higher nodes m zero h = absurd (omega arith)
higher nodes m (suc n) h = ⊎_elim
    (λ (l : m < n). omega (arith, higher nodes m n l))
    (λ (e : m ≡ n). omega (arith, ap (height_for nodes) e))
    (less_or_same m n (omega arith))

pub nothing_fits : (p : Program) (t : Tree) → Fits p (shape.Union []) t → ⊥
nothing_fits p (Atom w l) m = m
nothing_fits p (Inj zero t) m = m
nothing_fits p (Inj (suc i) t) m = none_some m.0 m.1
nothing_fits p (Tup ts) m = m
nothing_fits p (Coll ts) m = m

pub there : (p : Program) (x : ℕ) (t : Tree) → Member p x t → x < length p.nodes
there p x t m = ⊎_elim (λ n. n.3) (λ e. absurd (nothing_fits p t (subst (λ s. Fits p s t) e m))) (node_at_place p x)

pub allowed_at : (p : Program) → IsProgram p → (x : ℕ) (t : Tree) → Member p x t → IsAllowed p.universe (shape_of p x)
allowed_at p q x t m = ⊎_elim (λ n. subst (IsAllowed p.universe) (sym n.2) (q.allowed x n.0 n.1)) (λ e. absurd (nothing_fits p t (subst (λ s. Fits p s t) e m))) (node_at_place p x)

pub as_many : (p : Program) (parts : List Part) (ts : Trees) → FitAll p parts ts → length (to_list ts) ≡ length parts
as_many p [] none m = refl
as_many p [] (more t ts) m = absurd m
as_many p (part ∷ parts) none m = absurd m
as_many p (part ∷ parts) (more t ts) m = omega (arith, as_many p parts ts m.1)

module _ (p : Program) (q : IsProgram p) (f : IsFounded p) where
  pub not_empty : (x : ℕ) (kind : Kind) (part : Part) (low : ℕ) (high : Option ℕ) → shape_of p x ≡ shape.Coll kind part low high → (t : Tree) → Member p part.node t → 1 ≤ size_of t
  not_empty x kind part low high e t m = positive (size_of t) (λ z. f.solid x (subst (HasEmptyComponent p) (sym e) (zero_of_member p part.node t m z)))
    where
      positive : (n : ℕ) → (n ≡ 0 → ⊥) → 1 ≤ n
      positive n h = grind arith

  -- each component counts in the size
  pub no_more_than_size : (x : ℕ) (kind : Kind) (part : Part) (low : ℕ) (high : Option ℕ) → shape_of p x ≡ shape.Coll kind part low high → (ts : Trees) → FitEach p part ts → length (to_list ts) ≤ sizes_of ts
  no_more_than_size x kind part low high e none m = omega arith
  no_more_than_size x kind part low high e (more t ts) m = omega (arith, not_empty x kind part low high e t m.0, no_more_than_size x kind part low high e ts m.1)

  module _ (bound : ℕ) (labels : List ℕ) (zero_in : In 0 labels) where
    label_in : (l : ℕ) → ((y : ℕ) → In y (label_list l) → In y labels) → In l labels
    label_in zero h = zero_in
    label_in (suc l) h = h (suc l) (inl refl)

    mutual
      boxed : (t : Tree) (x : ℕ) (s : Shape) → shape_of p x ≡ s → Fits p s t → ((y : ℕ) → In y (labels_of t) → In y labels) → size_of t + 64 ≤ bound
          → (path : List ℕ) → LeadsTo (SameSize p) (length p.nodes) path x → (h : ℕ) → height_for (length p.nodes) (size_of t) ≤ h + length path → InBox bound labels t h
      boxed t x s e m c b path l zero k =
          absurd (omega (arith, some_height (length p.nodes) (size_of t), short_path (SameSize p) f.no_circle (length p.nodes) path x l (there p x t (subst (λ z. Fits p z t) (sym e) m))))
      boxed (Atom w label) x (shape.Atom weight) e m c b path l (suc h) k = (omega arith, label_in label c)
      boxed (Inj zero t) x (shape.Union parts) e m c b path l (suc h) k = absurd m
      boxed (Inj (suc i) t) x (shape.Union parts) e m c b path l (suc h) k =
          let there-x : x < length p.nodes = there p x (Inj (suc i) t) (subst (λ z. Fits p z (Inj (suc i) t)) (sym e) m) in
          let few : IsAllowed p.universe (shape.Union parts) = subst (IsAllowed p.universe) e (allowed_at p q x (Inj (suc i) t) (subst (λ z. Fits p z (Inj (suc i) t)) (sym e) m)) in
          let place : i < length parts = slice_get_within parts i m.0 m.1 in
          let few-parts : length parts ≤ 64 = few.1 in (
            omega arith,
            boxed t m.0.node (shape_of p m.0.node) refl m.2 c b (x ∷ path)
                (longer_path (SameSize p) f.no_circle (length p.nodes) path x m.0.node l there-x (subst (λ z. KeepsSize (HasZero p) z m.0.node) (sym e) (m.0, In_get parts i m.0 m.1, refl))) h (omega arith),
          )
      boxed (Tup ts) x (shape.Product parts) e m c b path l (suc h) k =
          let there-x : x < length p.nodes = there p x (Tup ts) (subst (λ z. Fits p z (Tup ts)) (sym e) m) in
          let few : IsAllowed p.universe (shape.Product parts) = subst (IsAllowed p.universe) e (allowed_at p q x (Tup ts) (subst (λ z. Fits p z (Tup ts)) (sym e) m)) in
          let few-parts : length parts ≤ 64 = few.1 in (
            omega (arith, as_many p parts ts m),
            factors_boxed ts x parts [] parts e refl (sizes_of ts) 0 (omega arith) (λ z part i. absurd i) m c b there-x path l h k,
          )
      boxed (Coll ts) x (shape.Coll kind part low high) e m c b path l (suc h) k =
          let there-x : x < length p.nodes = there p x (Coll ts) (subst (λ z. Fits p z (Coll ts)) (sym e) m) in (
            omega (arith, no_more_than_size x kind part low high e ts m.1),
            components_boxed ts x kind part low high e (sizes_of ts) 0 0 (length (to_list ts)) (omega arith) (omega arith) (omega arith) m.0 m.1 c b there-x path l h k,
          )
      boxed t x s e m c b path l (suc h) k = absurd m

      -- the factors behind some that have size k together
      factors_boxed : (ts : Trees) (x : ℕ) (parts before after : List Part) → shape_of p x ≡ shape.Product parts → parts ≡ before ++ after → (n k : ℕ) → n ≡ k + sizes_of ts
          → (k ≡ 0 → (part : Part) → In part before → HasZero p part.node) → FitAll p after ts → ((y : ℕ) → In y (all_labels_of ts) → In y labels) → n + 64 ≤ bound → x < length p.nodes
          → (path : List ℕ) → LeadsTo (SameSize p) (length p.nodes) path x → (h : ℕ) → height_for (length p.nodes) n ≤ suc h + length path → AllInBox bound labels ts h
      factors_boxed none x parts before after e d n k s z m c b v path l h g = tt
      factors_boxed (more t ts) x parts before [] e d n k s z m c b v path l h g = absurd m
      factors_boxed (more t ts) x parts before (part ∷ after) e d n k s z m c b v path l h g = (
        ⊎_elim
            (λ (less : size_of t < n). boxed t part.node (shape_of p part.node) refl m.0 (λ y i. c y (In-append_left y (labels_of t) (all_labels_of ts) i)) (omega arith) [] (no_path (SameSize p) (length p.nodes) part.node) h
            (omega (arith, higher (length p.nodes) (size_of t) n less, short_path (SameSize p) f.no_circle (length p.nodes) path x l v)))
            (λ (same : size_of t ≡ n). boxed t part.node (shape_of p part.node) refl m.0 (λ y i. c y (In-append_left y (labels_of t) (all_labels_of ts) i)) (omega arith) (x ∷ path)
            (longer_path (SameSize p) f.no_circle (length p.nodes) path x part.node l v
            (subst (λ w. KeepsSize (HasZero p) w part.node) (sym e) (others_by_place (HasZero p) parts before part after d (z (omega arith)) (zero_of_all p ts after m.1 (omega arith))))) h
            (omega (arith, ap (height_for (length p.nodes)) same)))
            (less_or_same (size_of t) n (omega arith)),
        factors_boxed ts x parts (before ++ part ∷ []) after e (d ∙ sym (append_assoc before (part ∷ []) after)) n (k + size_of t) (omega arith)
            (λ w other i. ⊎_elim (λ j. z (omega arith) other j)
            (λ j. ⊎_elim (λ r. subst (λ (a : Part). HasZero p a.node) (sym r) (zero_of_member p part.node t m.0 (omega arith))) (λ a. absurd a) j) (In-append_cases other before (part ∷ []) i))
            m.1 (λ y i. c y (In-append_right y (labels_of t) (all_labels_of ts) i)) b v path l h g,
      )

      -- the components behind c others that have size k together
      components_boxed : (ts : Trees) (x : ℕ) (kind : Kind) (part : Part) (low : ℕ) (high : Option ℕ) → shape_of p x ≡ shape.Coll kind part low high → (n k c total : ℕ) → n ≡ k + sizes_of ts → c ≤ k
          → total ≡ c + length (to_list ts) → IsWithin low high total → FitEach p part ts → ((y : ℕ) → In y (all_labels_of ts) → In y labels) → n + 64 ≤ bound → x < length p.nodes
          → (path : List ℕ) → LeadsTo (SameSize p) (length p.nodes) path x → (h : ℕ) → height_for (length p.nodes) n ≤ suc h + length path → AllInBox bound labels ts h
      components_boxed none x kind part low high e n k c total s r u w m a b v path l h g = tt
      components_boxed (more t ts) x kind part low high e n k c total s r u w m a b v path l h g = (
        ⊎_elim
            (λ (less : size_of t < n). boxed t part.node (shape_of p part.node) refl m.0 (λ y i. a y (In-append_left y (labels_of t) (all_labels_of ts) i)) (omega arith) [] (no_path (SameSize p) (length p.nodes) part.node) h
            (omega (arith, higher (length p.nodes) (size_of t) n less, short_path (SameSize p) f.no_circle (length p.nodes) path x l v)))
            (λ (same : size_of t ≡ n). boxed t part.node (shape_of p part.node) refl m.0 (λ y i. a y (In-append_left y (labels_of t) (all_labels_of ts) i)) (omega arith) (x ∷ path)
            (longer_path (SameSize p) f.no_circle (length p.nodes) path x part.node l v
            (subst (λ w. KeepsSize (HasZero p) w part.node) (sym e) (refl, subst (IsWithin low high) (let one : total ≡ 1 = omega (arith, no_more_than_size x kind part low high e ts m.1) in one) w))) h
            (omega (arith, ap (height_for (length p.nodes)) same)))
            (less_or_same (size_of t) n (omega arith)),
        components_boxed ts x kind part low high e n (k + size_of t) (suc c) total (omega arith) (omega (arith, not_empty x kind part low high e t m.0)) (omega arith) w m.1
            (λ y i. a y (In-append_right y (labels_of t) (all_labels_of ts) i)) b v path l h g,
      )

    -- all members of this size with these labels are among finitely many trees
    pub members_among : (x : ℕ) (t : Tree) → Member p x t → ((y : ℕ) → In y (labels_of t) → In y labels) → size_of t + 64 ≤ bound → In t (trees_to bound labels (height_for (length p.nodes) (size_of t)))
    members_among x t m c b = in_trees bound labels t (height_for (length p.nodes) (size_of t))
        (boxed t x (shape_of p x) refl m c b [] (no_path (SameSize p) (length p.nodes) x) (height_for (length p.nodes) (size_of t)) (omega arith))
