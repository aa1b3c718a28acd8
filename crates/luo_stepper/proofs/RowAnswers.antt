-- What answers the goals of a step through the parts that are left.
use Rattle.std.proofs.Common.{◌≡◌, ℕ, ◌+◌, ◌-◌, ◌*◌, ◌≤◌, ◌<◌, List, [], ◌∷◌, ◌++◌, length, sym, ◌∙◌, ap, subst, arith, Some, slice_get, Bool, true, false}
use Rattle.luo_model.specs.Tree.{Trees, more, size_of}
use Rattle.luo_model.specs.Order.{IsBefore}
use Rattle.luo_model.specs.Program.{shape_of}
use Rattle.luo_model.specs.View.{plain_of}
use Rattle.luo_places.specs.Numbers.{PartsBefore}
use Rattle.luo_places.specs.Tails.{first_node, IsSpread}
use Rattle.luo_places.specs.steps.Next.{IsNext, IsLast}
use Rattle.luo_struct.specs.declared.structure.Structure.{Structure}
use Rattle.luo_struct.specs.View.{tree_of, tree_list}
use Rattle.luo_rank.specs.inner.Lookup.{Looked, IsCounted, Stands, IsLeft, tail_at, behind, left_count}
use Rattle.luo_stepper.specs.declared.stepping.Step.TheVariants as step
use Rattle.luo_stepper.specs.declared.stepping.Row.TheVariants as row
use Rattle.luo_stepper.specs.inner.Stepping.{AreLabels, Here, Left, IsHere, AreHere, IsSome, AreSome, HasPart, Stepped, Moved, Began, Turned, IsRoomOf, IsSplit, from_place, up_to, weight_of, weights_of}
use Rattle.luo_stepper.proofs.LabelLaws.{share_split}
use Rattle.luo_stepper.proofs.ListLemmas.{own_at, end_at, trees_own, before_own, last_same, one_more, joined_behind}
use Rattle.luo_stepper.proofs.RowLaws.{Parted, parted, row_rest, row_first, row_room, row_turned, row_ended, row_none}

module _ (t : Looked) (k : IsCounted t) (x f : ℕ) (spread : IsSpread (tail_at (plain_of t.program) x f)) (items : List Structure) where
  -- nothing is left
  pub answer_end : f ≡ length items → (labels : List ℕ) → labels ≡ [] → Moved t x f (up_to f items) (tree_list (from_place f items)) items labels (row.Ended 0)
  answer_end e labels z =
      let q = end_at items in
      let a : from_place f items ≡ [] = subst (λ g. from_place g items ≡ []) (sym e) q.0 in
      let b : items ≡ up_to f items = subst (λ g. items ≡ up_to g items) (sym e) q.1 in (
        b,
        λ L n h. let r = row_none t k x f spread L n (subst (λ v. AreHere t x f L n (tree_list v)) a h) in
            (r.0, z ∙ r.1, subst (λ v. IsLast (Left t x f L n) PartsBefore (tree_list v)) (sym a) r.2),
      )

  module _ (here : AreSome t x f (tree_list (from_place f items))) (some : f < length items) where
    own : (s : Structure) × (slice_get items f ≡ Some s)
    own = own_at f items some

    abbrev s : Structure
    s = own.0

    abbrev rest : Trees
    rest = tree_list (from_place (f + 1) items)

    abbrev all : Trees
    all = tree_list (from_place f items)

    abbrev node : ℕ
    node = first_node (tail_at (plain_of t.program) x f)

    trees : all ≡ more (tree_of s) rest
    trees = trees_own f items s own.1

    whole : (L : List ℕ) (n : ℕ) → AreHere t x f L n all → AreHere t x f L n (more (tree_of s) rest)
    whole L n h = subst (AreHere t x f L n) trees h

    part : (L : List ℕ) (n : ℕ) → AreHere t x f L n all → (C T : List ℕ) × Parted t x f L n (tree_of s) rest C T (size_of (tree_of s)) (n - size_of (tree_of s))
    part L n h = parted t k x f spread L n (tree_of s) rest (whole L n h)

    back_next : (L : List ℕ) (n : ℕ) (us : Trees) → IsNext (Left t x f L n) PartsBefore (more (tree_of s) rest) us → IsNext (Left t x f L n) PartsBefore all us
    back_next L n us m = subst (λ v. IsNext (Left t x f L n) PartsBefore v us) (sym trees) m

    -- the rest is stepped through
    pub rest_here : AreSome t x (f + 1) rest
    rest_here = let q = part here.0 here.1 here.2 in (q.1, here.1 - size_of (tree_of s), q.2.rest)

    pub rest_falls : 2 * weights_of rest + 1 < 2 * weights_of all + 1
    rest_falls = omega (arith, ap weights_of trees)

    pub has_part : HasPart t x f
    has_part = let q = part here.0 here.1 here.2 in (here.1, here.2.stands, q.2.left)

    -- it went on
    pub answer_on : (new : List Structure) (others labels : List ℕ) → Moved t x (f + 1) (up_to (f + 1) items) rest new others row.On → Moved t x f (up_to f items) all new labels row.On
    answer_on new others labels m = λ L n h.
        let q = part L n h in
        let r = m q.1 (n - size_of (tree_of s)) q.2.rest in (
          more (tree_of s) r.0,
          back_next L n (more (tree_of s) r.0) (row_rest t k x f spread L n (tree_of s) rest (whole L n h) q.0 q.1 (size_of (tree_of s)) (n - size_of (tree_of s)) q.2 r.0 r.1),
          joined_behind (up_to f items) (up_to (f + 1) items) new s r.0 (before_own f items s own.1) r.2,
        )

    -- it was the last, of size j on the labels `others`
    module _ (mid : List Structure) (others : List ℕ) (j : ℕ) (ended : Moved t x (f + 1) (up_to (f + 1) items) rest mid others (row.Ended j)) where
      mid_is : mid ≡ up_to f items ++ s ∷ []
      mid_is = ended.0 ∙ before_own f items s own.1

      pub mid_some : 1 ≤ length mid
      mid_some = subst (λ v. 1 ≤ length v) (sym mid_is) (one_more (up_to f items) s)

      parting : (L : List ℕ) (n : ℕ) → AreHere t x f L n all → (C : List ℕ) × Parted t x f L n (tree_of s) rest C others (size_of (tree_of s)) j × IsLast (Left t x (f + 1) others j) PartsBefore rest
      parting L n h =
          let q = part L n h in
          let e = ended.1 q.1 (n - size_of (tree_of s)) q.2.rest in (
            q.0,
            subst (λ m. Parted t x f L n (tree_of s) rest q.0 others (size_of (tree_of s)) m) (sym e.0) (subst (λ T. Parted t x f L n (tree_of s) rest q.0 T (size_of (tree_of s)) (n - size_of (tree_of s))) (sym e.1) q.2),
            subst (λ m. IsLast (Left t x (f + 1) others m) PartsBefore rest) (sym e.0) (subst (λ T. IsLast (Left t x (f + 1) T (n - size_of (tree_of s))) PartsBefore rest) (sym e.1) e.2),
          )

      module _ (front : List Structure) (o : Structure) (taken : mid ≡ front ++ o ∷ []) (y : ℕ) (is : y ≡ node) where
        front_is : (front ≡ up_to f items) × (o ≡ s)
        front_is = last_same front (up_to f items) o s (sym taken ∙ mid_is)

        own_on : (C : List ℕ) (i : ℕ) → IsHere t node C i (tree_of s) → IsHere t y C i (tree_of o)
        own_on C i m = subst (λ z. IsHere t z C i (tree_of o)) (sym is) (subst (λ (v : Structure). IsHere t node C i (tree_of v)) (sym front_is.1) m)

        -- the first is stepped on
        pub own_here : IsSome t y (tree_of o)
        own_here = let q = parting here.0 here.1 here.2 in (q.0, size_of (tree_of s), own_on q.0 (size_of (tree_of s)) q.1.own)

        pub own_falls : 2 * weight_of (tree_of o) < 2 * weights_of all + 1
        own_falls = omega (arith, ap weights_of trees, ap (λ (v : Structure). weight_of (tree_of v)) front_is.1)

        -- and the rest begins again
        pub begin_stands : Stands (shape_of (plain_of t.program) x) t.last (f + 1) j
        begin_stands = (parting here.0 here.1 here.2).1.rest.stands

        pub begin_labels : AreLabels t.program.universe others j
        begin_labels = (parting here.0 here.1 here.2).1.rest.labels

        pub begin_within : j ≤ t.last
        begin_within = (parting here.0 here.1 here.2).1.rest.within

        pub begin_some : 1 ≤ left_count t x (f + 1) j
        begin_some = (parting here.0 here.1 here.2).1.rest_some

        pub answer_first : (next : Structure) (push new : List Structure) (own_labels labels : List ℕ) → Stepped t y (tree_of o) own_labels (step.Next next) → push ≡ front ++ next ∷ [] → Began t x (f + 1) others j (tree_list push) (tree_list new)
            → Moved t x f (up_to f items) all new labels row.On
        answer_first next push new own_labels labels m e (us, b, w) = λ L n h.
            let q = parting L n h in
            let g = m q.0 (size_of (tree_of s)) (own_on q.0 (size_of (tree_of s)) q.1.own) in
            let g' = subst (λ z. IsNext (Here t z q.0 (size_of (tree_of s))) IsBefore (tree_of s) (tree_of next)) is (subst (λ (v : Structure). IsNext (Here t y q.0 (size_of (tree_of s))) IsBefore (tree_of v) (tree_of next)) front_is.1 g) in (
              more (tree_of next) us,
              back_next L n (more (tree_of next) us) (row_first t k x f spread L n (tree_of s) rest (whole L n h) q.0 others (size_of (tree_of s)) j q.1 (tree_of next) us g' q.2 b),
              subst (λ v. tree_list new ≡ behind (tree_list v) (more (tree_of next) us)) front_is.0 (joined_behind front push new next us e w),
            )

        -- the first was the last too, of size i on the labels `own_labels`
        module _ (own_labels : List ℕ) (i : ℕ) (last : Stepped t y (tree_of o) own_labels (step.Last i)) where
          both : (L : List ℕ) (n : ℕ) → AreHere t x f L n all → Parted t x f L n (tree_of s) rest own_labels others i j × IsLast (Here t node own_labels i) IsBefore (tree_of s) × IsLast (Left t x (f + 1) others j) PartsBefore rest
          both L n h =
              let q = parting L n h in
              let e = last q.0 (size_of (tree_of s)) (own_on q.0 (size_of (tree_of s)) q.1.own) in
              let l = subst (λ z. IsLast (Here t z q.0 (size_of (tree_of s))) IsBefore (tree_of s)) is (subst (λ (v : Structure). IsLast (Here t y q.0 (size_of (tree_of s))) IsBefore (tree_of v)) front_is.1 e.2) in (
                subst (λ m. Parted t x f L n (tree_of s) rest own_labels others m j) (sym e.0) (subst (λ C. Parted t x f L n (tree_of s) rest C others (size_of (tree_of s)) j) (sym e.1) q.1),
                subst (λ m. IsLast (Here t node own_labels m) IsBefore (tree_of s)) (sym e.0) (subst (λ C. IsLast (Here t node C (size_of (tree_of s))) IsBefore (tree_of s)) (sym e.1) l),
                q.2,
              )

          sum_is : (L : List ℕ) (n : ℕ) → AreHere t x f L n all → i + j ≡ n
          sum_is L n h = (both L n h).0.sum

          split : (L : List ℕ) (n : ℕ) → AreHere t x f L n all → IsSplit L own_labels others
          split L n h = let q = (both L n h).0 in share_split t.program.universe L own_labels others n i j h.labels q.share q.rest.labels

          pub merge_asked : (L : List ℕ) × IsSplit L own_labels others
          merge_asked = (here.0, split here.0 here.1 here.2)

          pub sum_small : i + j ≤ t.last
          sum_small = omega (arith, sum_is here.0 here.1 here.2, here.2.within)

          module _ (old labels : List ℕ) (none : old ≡ []) (merged : (L : List ℕ) → IsSplit L own_labels others → labels ≡ old ++ L) where
            labels_are : (L : List ℕ) (n : ℕ) → AreHere t x f L n all → labels ≡ L
            labels_are L n h = merged L (split L n h) ∙ ap (λ v. v ++ L) none

            pub turn_stands : Stands (shape_of (plain_of t.program) x) t.last f (i + j)
            turn_stands = subst (Stands (shape_of (plain_of t.program) x) t.last f) (sym (sum_is here.0 here.1 here.2)) here.2.stands

            pub turn_left : IsLeft (tail_at (plain_of t.program) x f) (i + j)
            turn_left = subst (IsLeft (tail_at (plain_of t.program) x f)) (sym (sum_is here.0 here.1 here.2)) (both here.0 here.1 here.2).0.left

            pub turn_room : IsRoomOf t x f labels (i + j) i own_labels
            turn_room =
                let q = (both here.0 here.1 here.2).0 in
                subst (λ m. IsRoomOf t x f labels m i own_labels) (sym (sum_is here.0 here.1 here.2))
                (subst (λ M. IsRoomOf t x f M here.1 i own_labels) (sym (labels_are here.0 here.1 here.2)) (row_room t k x f spread here.0 here.1 (tree_of s) rest (whole here.0 here.1 here.2) own_labels others i j q))

            turned_on : (new : List Structure) (went : Bool) → Turned t x f labels (i + j) i own_labels front new went → (L : List ℕ) (n : ℕ) → AreHere t x f L n all → Turned t x f L n i own_labels front new went
            turned_on new went m L n h = subst (λ a. Turned t x f L a i own_labels front new went) (sum_is L n h) (subst (λ M. Turned t x f M (i + j) i own_labels front new went) (labels_are L n h) m)

            pub answer_turned : (new : List Structure) → Turned t x f labels (i + j) i own_labels front new true → Moved t x f (up_to f items) all new labels row.On
            answer_turned new m = λ L n h.
                let q = both L n h in
                let r = turned_on new true m L n h in
                let v = r.4 in
                let us = r.5 in (
                  more v us,
                  back_next L n (more v us) (row_turned t k x f spread L n (tree_of s) rest (whole L n h) own_labels others i j q.0 r.0 r.1 r.2 v us r.3 q.1 q.2 r.6 r.7),
                  subst (λ w. tree_list new ≡ behind (tree_list w) (more v us)) front_is.0 r.8,
                )

            pub answer_ended : (new : List Structure) → Turned t x f labels (i + j) i own_labels front new false → Moved t x f (up_to f items) all new labels (row.Ended (i + j))
            answer_ended new m = (
              m.1 ∙ front_is.0,
              λ L n h.
                  let q = both L n h in
                  let r = turned_on new false m L n h in
                  (sum_is L n h, labels_are L n h, subst (IsLast (Left t x f L n) PartsBefore) (sym trees) (row_ended t k x f spread L n (tree_of s) rest (whole L n h) own_labels others i j q.0 r.0 q.1 q.2)),
            )
