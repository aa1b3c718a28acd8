-- What answers the goals of a step: atoms, unions, and structures of parts.
use Rattle.std.proofs.Common.{◌≡◌, ℕ, zero, suc, ◌+◌, ◌-◌, ◌≤◌, ◌<◌, List, [], ◌∷◌, inl, inr, ⊎_elim, length, refl, sym, ◌∙◌, ap, subst, arith, Option, Some, slice_get, slice_index_or}
use Rattle.std.proofs.lemmas.Option.{get_or_from_slice_get, slice_get-get_or, slice_get_within}
use Rattle.luo_finite.specs.Listing.{In}
use Rattle.luo_finite.proofs.Membership.{In-at}
use Rattle.luo_model.specs.declared.program.Universe.{Universe}
use Rattle.luo_model.specs.declared.program.Universe.TheVariants.{Unlabelled, Labelled}
use Rattle.luo_model.specs.declared.program.Kind.{Kind}
use Rattle.luo_model.specs.declared.program.Part.{Part}
use Rattle.luo_model.specs.declared.program.Shape.{Shape}
use Rattle.luo_model.specs.declared.program.Shape.TheVariants as shape
use Rattle.luo_model.specs.Tree.{Tree, Trees, Atom, Inj, Tup, Coll, none, to_list, from_list}
use Rattle.luo_model.specs.Order.{IsBefore}
use Rattle.luo_model.specs.Program.{Program, shape_of}
use Rattle.luo_model.specs.Member.{Fits, IsLabel}
use Rattle.luo_model.specs.Structures.{IsStructureOn, Carries, Rising}
use Rattle.luo_model.specs.View.{plain_of}
use Rattle.luo_places.specs.Tails.{tail_of, TailOn, IsSpread}
use Rattle.luo_counting.specs.Sharing.{IsRoom}
use Rattle.luo_counting.proofs.TreeCollections.{carries_bears, back_list, in_components, Components}
use Rattle.luo_places.specs.steps.Next.{IsNext, IsFirst, IsLast}
use Rattle.luo_places.specs.steps.Laws.{StandsBy}
use Rattle.luo_places.proofs.steps.Pairs.{of_some}
use Rattle.luo_places.proofs.steps.Trees.{Next-branch, Next-union, Last-union, atom_last}
use Rattle.luo_places.proofs.steps.Tails.{product_stands, collection_stands}
use Rattle.luo_struct.specs.declared.structure.Structure.{Structure}
use Rattle.luo_struct.specs.View.{tree_of, tree_list}
use Rattle.luo_rank.specs.inner.Lookup.{Looked, IsCounted, entry_of, tail_at, behind, Stands, AreThere, no_part, part_entry}
use Rattle.luo_rank.proofs.StepLemmas.{union_there, union_few}
use Rattle.luo_stepper.specs.declared.stepping.Step.{Step}
use Rattle.luo_stepper.specs.declared.stepping.Step.TheVariants as step
use Rattle.luo_stepper.specs.declared.stepping.Row.TheVariants as row
use Rattle.luo_stepper.specs.inner.Stepping.{AreLabels, Here, IsHere, AreHere, IsSome, AreSome, Stepped, Moved, Branched, IsFirstFrom, node_of}
use Rattle.luo_stepper.proofs.LabelLaws.{labels_room}

-- ATOMS
no_label : (L : List ℕ) → ((x : ℕ) → In x L → ⊥) → L ≡ []
no_label [] h = refl
no_label (y ∷ L) h = absurd (h y (inl refl))

one_label : (l : ℕ) (L : List ℕ) → Rising L → In l L → ((x : ℕ) → In x L → In x (l ∷ [])) → l ∷ [] ≡ L
one_label l [] r i h = absurd i
one_label l (y ∷ []) r i h = ⊎_elim (λ e. ap (λ v. v ∷ []) (sym e)) (λ f. absurd f) (h y (inl refl))
one_label l (y ∷ (z ∷ L)) r i h =
    ⊎_elim (λ e. ⊎_elim (λ g. absurd (let q : y < z = r.0 z (inl refl) in omega (arith, q, e, g))) (λ f. absurd f) (h z (inr (inl refl)))) (λ f. absurd f) (h y (inl refl))

atom_labels : (u : Universe) (L : List ℕ) (n w l : ℕ) (labels : List ℕ) → AreLabels u L n → Carries u L (Atom w l) → IsLabel u w l → (l ≡ 0 → labels ≡ []) → ((l ≡ 0 → ⊥) → labels ≡ l ∷ []) → labels ≡ L
atom_labels Unlabelled L n w l labels a c m z o = z m ∙ sym a
atom_labels Labelled L n w zero labels a c m z o = z refl ∙ sym (no_label L (λ x i. c.2 x i))
atom_labels Labelled L n w (suc l) labels a c m z o = o (λ e. let q : suc l ≡ 0 = e in omega (arith, q)) ∙ one_label (suc l) L a.0 (c.1 (suc l) (inl refl)) c.2

atom_shape : (p : Program) (h : Shape) (w l : ℕ) → Fits p h (Atom w l) → (h ≡ shape.Atom w) × IsLabel p.universe w l
atom_shape p (shape.Atom weight) w l f = (ap shape.Atom (sym f.0), f.1)
atom_shape p (shape.Union parts) w l f = absurd f
atom_shape p (shape.Product parts) w l f = absurd f
atom_shape p (shape.Coll kind part low high) w l f = absurd f

pub atom_told : (t : Looked) (x w l : ℕ) (labels : List ℕ) → (l ≡ 0 → labels ≡ []) → ((l ≡ 0 → ⊥) → labels ≡ l ∷ []) → Stepped t x (Atom w l) labels (step.Last w)
atom_told t x w l labels z o = λ L n h.
    let q = atom_shape (plain_of t.program) (shape_of (plain_of t.program) x) w l h.is.0 in
    (h.is.1, atom_labels t.program.universe L n w l labels h.labels h.is.2 q.1 z o, atom_last (plain_of t.program) x w n L q.0 l h.is)

-- UNIONS
inner_carries : (u : Universe) (L : List ℕ) (i : ℕ) (s : Tree) → Carries u L (Inj i s) → Carries u L s
inner_carries Unlabelled L i s c = tt
inner_carries Labelled L i s c = c

module _ (t : Looked) (k : IsCounted t) (x : ℕ) (node : x < length t.program.nodes) (parts : List Part) (is : shape_of (plain_of t.program) x ≡ shape.Union parts) where
  abbrev p : Program
  p = plain_of t.program

  -- the branch and what is in it
  pub union_here : (branch : ℕ) (s : Tree) (L : List ℕ) (n : ℕ) → IsHere t x L n (Inj branch s) → (branch ≡ suc (branch - 1)) × (branch - 1 < length parts) × IsHere t (node_of parts (branch - 1)) L n s
  union_here branch s L n h =
      let k = by branch (subst (λ z. Fits p z (Inj branch s)) is h.is.0) h in
      let q : k.0 ≡ branch - 1 = omega (arith, k.1) in
      (k.1 ∙ ap suc q, subst (λ i. i < length parts) q k.2, subst (λ i. IsHere t (node_of parts i) L n s) q k.3)
    where
      by : (branch : ℕ) → Fits p (shape.Union parts) (Inj branch s) → IsHere t x L n (Inj branch s) → (i : ℕ) × (branch ≡ suc i) × (i < length parts) × IsHere t (node_of parts i) L n s
      by zero f m = absurd f
      by (suc i) f m = (
        i,
        refl,
        slice_get_within parts i f.0 f.1,
        record {
          labels = m.labels;
          within = m.within;
          is = subst (λ (o : Part). Here t o.node L n s) (sym (get_or_from_slice_get parts i f.0 no_part f.1)) (f.2, m.is.1, inner_carries t.program.universe L (suc i) s m.is.2);
        },
      )

  module _ (branch : ℕ) (s : Tree) (here : IsSome t x (Inj branch s)) where
    room : IsRoom t.program.universe here.0 here.1
    room = labels_room t.program.universe here.0 here.1 here.2.labels

    pub parts_there : AreThere parts (length t.program.nodes)
    parts_there = union_there t k x here.1 0 here.0 node room here.2.within parts is

    pub parts_few : length parts ≤ 64
    parts_few = union_few t k x here.1 0 here.0 node room here.2.within parts is

    pub branch_some : 1 ≤ branch
    branch_some = omega (arith, (union_here branch s here.0 here.1 here.2).0)

    pub branch_there : branch - 1 < length parts
    branch_there = (union_here branch s here.0 here.1 here.2).1

    pub branch_node : node_of parts (branch - 1) < length t.program.nodes
    branch_node = parts_there (slice_index_or parts (branch - 1) no_part) (In-at parts (branch - 1) no_part branch_there)

    pub inner_here : IsSome t (node_of parts (branch - 1)) s
    inner_here = (here.0, here.1, (union_here branch s here.0 here.1 here.2).2)

    same_branch : (L : List ℕ) (n : ℕ) (u : Tree) → IsNext (Here t x L n) IsBefore (Inj (suc (branch - 1)) s) u → IsNext (Here t x L n) IsBefore (Inj branch s) u
    same_branch L n u m = let e : suc (branch - 1) ≡ branch = omega (arith, branch_some) in subst (λ b. IsNext (Here t x L n) IsBefore (Inj b s) u) e m

    pub branch_went : (labels labels_new : List ℕ) (u whole : Structure) → Stepped t (node_of parts (branch - 1)) s labels (step.Next u) → tree_of whole ≡ Inj ((branch - 1) + 1) (tree_of u) → Stepped t x (Inj branch s) labels_new (step.Next whole)
    branch_went labels labels_new u whole m e = λ L n h.
        let q = union_here branch s L n h in
        let r = labels_room t.program.universe L n h.labels in
        let w = Next-branch p x n L r parts is (branch - 1) (slice_index_or parts (branch - 1) no_part) (slice_get-get_or parts (branch - 1) no_part branch_there) s (tree_of u) (m L n q.2) in
        let one : suc (branch - 1) ≡ (branch - 1) + 1 = omega arith in
        same_branch L n (tree_of whole) (subst (IsNext (Here t x L n) IsBefore (Inj (suc (branch - 1)) s)) (ap (λ b. Inj b (tree_of u)) one ∙ sym e) w)

    no_branch : (L : List ℕ) (n m : ℕ) (part : Part) → IsRoom t.program.universe L n → n ≤ t.last → (1 ≤ part_entry t.counts parts n m → ⊥) → slice_get parts m ≡ Some part → (v : Tree) → IsStructureOn p part.node L n v → ⊥
    no_branch L n m part r within e f v q =
        let w : slice_index_or parts m no_part ≡ part = get_or_from_slice_get parts m part no_part f in
        e (of_some (Here t (node_of parts m) L n) (entry_of t.counts (node_of parts m) n) v
        (k.numbers.right (node_of parts m) n (parts_there (slice_index_or parts m no_part) (In-at parts m no_part (slice_get_within parts m part f))) within L r)
        (subst (λ (o : Part). Here t o.node L n v) (sym w) q))

    -- the branch was at its last
    module _ (labels : List ℕ) (m : ℕ) (last : Stepped t (node_of parts (branch - 1)) s labels (step.Last m)) where
      pub last_labels : AreLabels t.program.universe labels m
      last_labels =
          let q = last here.0 here.1 (union_here branch s here.0 here.1 here.2).2 in
          subst (λ v. AreLabels t.program.universe labels v) (sym q.0) (subst (λ v. AreLabels t.program.universe v here.1) (sym q.1) here.2.labels)

      pub last_within : m ≤ t.last
      last_within = let q = last here.0 here.1 (union_here branch s here.0 here.1 here.2).2 in omega (arith, q.0, here.2.within)

      pub branch_turned : (out : Step) → Branched t parts m labels (branch - 1) out → Stepped t x (Inj branch s) labels out
      branch_turned (step.Next u) (j, v, e, l, found, first) = λ L n h.
          let a = union_here branch s L n h in
          let q = last L n a.2 in
          let r = labels_room t.program.universe L n h.labels in
          let found' = subst (λ c. IsFirstFrom (λ b. 1 ≤ part_entry t.counts parts c b) ((branch - 1) + 1) (length parts) j) q.0 found in
          let first' = subst (λ c. IsFirst (Here t (node_of parts j) L c) IsBefore v) q.0 (subst (λ M. IsFirst (Here t (node_of parts j) M m) IsBefore v) q.1 first) in
          same_branch L n (tree_of u)
          (subst (IsNext (Here t x L n) IsBefore (Inj (suc (branch - 1)) s)) (sym e)
          (Next-union p x n L r parts is (branch - 1) j (slice_index_or parts (branch - 1) no_part) (slice_index_or parts j no_part) (slice_get-get_or parts (branch - 1) no_part branch_there) (slice_get-get_or parts j no_part l)
          (omega (arith, found'.past)) (λ b part c d. no_branch L n b part r h.within (found'.empty b (omega (arith, c.0)) c.1) d) s v q.2 first'))
      branch_turned (step.Last c) (same, found) = λ L n h.
          let a = union_here branch s L n h in
          let q = last L n a.2 in
          let r = labels_room t.program.universe L n h.labels in
          let found' = subst (λ c. IsFirstFrom (λ b. 1 ≤ part_entry t.counts parts c b) ((branch - 1) + 1) (length parts) (length parts)) q.0 found in
          let one : suc (branch - 1) ≡ branch = omega (arith, branch_some) in (
            same ∙ q.0,
            q.1,
            subst (λ b. IsLast (Here t x L n) IsBefore (Inj b s)) one
                (Last-union p x n L r parts is (branch - 1) (slice_index_or parts (branch - 1) no_part) (slice_get-get_or parts (branch - 1) no_part branch_there)
                (λ b part c d. no_branch L n b part r h.within (found'.empty b (omega (arith, c)) (slice_get_within parts b part d)) d) s q.2),
          )
      branch_turned step.Untold b = tt

-- PRODUCTS AND COLLECTIONS
pub product_shape : (p : Program) (h : Shape) (ts : Trees) → Fits p h (Tup ts) → (parts : List Part) × (h ≡ shape.Product parts)
product_shape p (shape.Atom weight) ts f = absurd f
product_shape p (shape.Union parts) ts f = absurd f
product_shape p (shape.Product parts) ts f = (parts, refl)
product_shape p (shape.Coll kind part low high) ts f = absurd f

pub coll_shape : (p : Program) (h : Shape) (ts : Trees) → Fits p h (Coll ts) → (kind : Kind) × (part : Part) × (low : ℕ) × (high : Option ℕ) × (h ≡ shape.Coll kind part low high)
coll_shape p (shape.Atom weight) ts f = absurd f
coll_shape p (shape.Union parts) ts f = absurd f
coll_shape p (shape.Product parts) ts f = absurd f
coll_shape p (shape.Coll kind part low high) ts f = (kind, part, low, high, refl)

coll_same : (us ts : Trees) → Coll us ≡ Coll ts → us ≡ ts
coll_same us ts e = cc

module _ (t : Looked) (x : ℕ) where
  tup_are : (parts : List Part) → shape_of (plain_of t.program) x ≡ shape.Product parts → (L : List ℕ) (n : ℕ) (ts : Trees) → IsHere t x L n (Tup ts) → AreHere t x 0 L n ts
  tup_are parts is L n ts h = record {
    labels = h.labels;
    within = h.within;
    stands = subst (λ v. Stands v t.last 0 n) (sym is) (let q : 0 ≤ length parts = omega arith in q);
    are = subst (λ v. TailOn (plain_of t.program) (tail_of v) L n ts) (sym is)
        (subst (λ v. Fits (plain_of t.program) v (Tup ts)) is h.is.0, h.is.1, carries_bears t.program.universe L (Tup ts) h.is.2);
  }

  coll_are : (kind : Kind) (part : Part) (low : ℕ) (high : Option ℕ) → shape_of (plain_of t.program) x ≡ shape.Coll kind part low high → (L : List ℕ) (n : ℕ) (ts : Trees) → IsHere t x L n (Coll ts) → AreHere t x 0 L n ts
  coll_are kind part low high is L n ts h =
      let q = in_components (plain_of t.program) x kind part low high is L n (Coll ts) h.is in
      let e : from_list q.0 ≡ ts = coll_same (from_list q.0) ts (sym q.2) in
      record {
        labels = h.labels;
        within = h.within;
        stands = subst (λ v. Stands v t.last 0 n) (sym is) (let q : 0 + n ≤ t.last = omega (arith, h.within) in q);
        are = subst (λ v. TailOn (plain_of t.program) (tail_of v) L n ts) (sym is)
            (subst (Components (plain_of t.program) x kind part low high is L n) (sym (back_list q.0) ∙ ap to_list e) q.1);
      }

  pub tup_here : (ts : Trees) (L : List ℕ) (n : ℕ) → IsHere t x L n (Tup ts) → AreHere t x 0 L n ts
  tup_here ts L n h = let q = product_shape (plain_of t.program) (shape_of (plain_of t.program) x) ts h.is.0 in tup_are q.0 q.1 L n ts h

  pub coll_here : (ts : Trees) (L : List ℕ) (n : ℕ) → IsHere t x L n (Coll ts) → AreHere t x 0 L n ts
  coll_here ts L n h = let q = coll_shape (plain_of t.program) (shape_of (plain_of t.program) x) ts h.is.0 in coll_are q.0 q.1 q.2 q.3 q.4 L n ts h

  pub tup_some : (ts : Trees) → IsSome t x (Tup ts) → AreSome t x 0 ts
  tup_some ts h = (h.0, h.1, tup_here ts h.0 h.1 h.2)

  pub coll_some : (ts : Trees) → IsSome t x (Coll ts) → AreSome t x 0 ts
  coll_some ts h = (h.0, h.1, coll_here ts h.0 h.1 h.2)

  pub tup_spread : (ts : Trees) → IsSome t x (Tup ts) → IsSpread (tail_at (plain_of t.program) x 0)
  tup_spread ts h = let q = product_shape (plain_of t.program) (shape_of (plain_of t.program) x) ts h.2.is.0 in subst (λ v. IsSpread (tail_of v)) (sym q.1) tt

  tup_stands : (ts : Trees) (L : List ℕ) (n : ℕ) → IsHere t x L n (Tup ts) → StandsBy (plain_of t.program) x n L (tail_at (plain_of t.program) x 0) Tup
  tup_stands ts L n h =
      let q = product_shape (plain_of t.program) (shape_of (plain_of t.program) x) ts h.is.0 in
      subst (λ v. StandsBy (plain_of t.program) x n L (tail_of v) Tup) (sym q.1) (product_stands (plain_of t.program) x n L (labels_room t.program.universe L n h.labels) q.0 q.1)

  coll_stands : (ts : Trees) (L : List ℕ) (n : ℕ) → IsHere t x L n (Coll ts) → StandsBy (plain_of t.program) x n L (tail_at (plain_of t.program) x 0) Coll
  coll_stands ts L n h =
      let q = coll_shape (plain_of t.program) (shape_of (plain_of t.program) x) ts h.is.0 in
      subst (λ v. StandsBy (plain_of t.program) x n L (tail_of v) Coll) (sym q.4) (collection_stands (plain_of t.program) x n L (labels_room t.program.universe L n h.labels) q.0 q.1 q.2 q.3 q.4)

  behind_nothing : (new : Trees) (us : Trees) → new ≡ behind none us → us ≡ new
  behind_nothing new us e = sym e

  -- the parts went on, or ended
  module _ (form : Trees → Tree) (ts : Trees) (are : (L : List ℕ) (n : ℕ) → IsHere t x L n (form ts) → AreHere t x 0 L n ts) (stand : (L : List ℕ) (n : ℕ) → IsHere t x L n (form ts) → StandsBy (plain_of t.program) x n L (tail_at (plain_of t.program) x 0) form)
      (new : List Structure) (labels : List ℕ) where
    went_by : (whole : Structure) → Moved t x 0 [] ts new labels row.On → tree_of whole ≡ form (tree_list new) → Stepped t x (form ts) labels (step.Next whole)
    went_by whole m e = λ L n h.
        let r = m L n (are L n h) in
        subst (IsNext (Here t x L n) IsBefore (form ts)) (ap form (sym r.2) ∙ sym e) ((stand L n h).next ts r.0 r.1)

    ended_by : (c : ℕ) → Moved t x 0 [] ts new labels (row.Ended c) → Stepped t x (form ts) labels (step.Last c)
    ended_by c m = λ L n h. let r = m.1 L n (are L n h) in (r.0, r.1, (stand L n h).last ts r.2)

  pub tup_went : (ts : Trees) (new : List Structure) (labels : List ℕ) (whole : Structure) → Moved t x 0 [] ts new labels row.On → tree_of whole ≡ Tup (tree_list new) → Stepped t x (Tup ts) labels (step.Next whole)
  tup_went ts new labels whole m e = went_by Tup ts (tup_here ts) (tup_stands ts) new labels whole m e

  pub tup_ended : (ts : Trees) (new : List Structure) (labels : List ℕ) (c : ℕ) → Moved t x 0 [] ts new labels (row.Ended c) → Stepped t x (Tup ts) labels (step.Last c)
  tup_ended ts new labels c m = ended_by Tup ts (tup_here ts) (tup_stands ts) new labels c m

  pub coll_went : (ts : Trees) (new : List Structure) (labels : List ℕ) (whole : Structure) → Moved t x 0 [] ts new labels row.On → tree_of whole ≡ Coll (tree_list new) → Stepped t x (Coll ts) labels (step.Next whole)
  coll_went ts new labels whole m e = went_by Coll ts (coll_here ts) (coll_stands ts) new labels whole m e

  pub coll_ended : (ts : Trees) (new : List Structure) (labels : List ℕ) (c : ℕ) → Moved t x 0 [] ts new labels (row.Ended c) → Stepped t x (Coll ts) labels (step.Last c)
  coll_ended ts new labels c m = ended_by Coll ts (coll_here ts) (coll_stands ts) new labels c m
