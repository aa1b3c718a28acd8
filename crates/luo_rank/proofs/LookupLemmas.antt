-- Looking up a structure: what stands at a place, and that its parts are less work.
use Rattle.std.proofs.Common.{◌≡◌, ℕ, zero, suc, ◌+◌, ◌*◌, ◌-◌, ◌≤◌, ◌<◌, List, [], ◌∷◌, ◌++◌, append_assoc, ◌⊎◌, inl, inr, ⊎_elim, length, refl, sym, ◌∙◌, ap, subst, arith, Option, Some, None}
use Rattle.std.proofs.lemmas.Nat.{mul-le}
use Rattle.luo_finite.specs.Listing.{In}
use Rattle.luo_finite.specs.Each.{Each, total}
use Rattle.luo_finite.specs.Places.{IsPlace}
use Rattle.luo_finite.proofs.Falling.{IsOrder}
use Rattle.luo_finite.proofs.PlacesExist.{some_place}
use Rattle.luo_finite.proofs.Places.{around_place, at_place}
use Rattle.luo_finite.proofs.Sums.{Sums-one, Sums-unique}
use Rattle.luo_finite.proofs.Membership.{In-append_cases}
use Rattle.luo_model.specs.declared.program.Universe.{Universe}
use Rattle.luo_model.specs.declared.program.Universe.TheVariants.{Unlabelled, Labelled}
use Rattle.luo_model.specs.declared.program.Kind.{Kind}
use Rattle.luo_model.specs.declared.program.Part.{Part}
use Rattle.luo_model.specs.declared.program.Shape.{Shape}
use Rattle.luo_model.specs.declared.program.Shape.TheVariants as shape
use Rattle.luo_model.specs.Tree.{Tree, Trees, Atom, Inj, Tup, Coll, none, more, size_of, sizes_of, to_list, from_list, label_list}
use Rattle.luo_model.specs.Order.{IsBefore}
use Rattle.luo_model.specs.Program.{Program, shape_of}
use Rattle.luo_model.specs.Member.{Fits, FitAll, Member, IsLabel, IsWithin}
use Rattle.luo_model.specs.Structures.{IsStructureOn, Carries}
use Rattle.luo_model.specs.Founded.{HasZero, KeepsSize}
use Rattle.luo_counting.specs.Sharing.{IsRoom}
use Rattle.luo_counting.specs.Counted.{IsLight}
use Rattle.luo_counting.proofs.Planes.{times_suc}
use Rattle.luo_counting.proofs.Orders.{trees_ordered}
use Rattle.luo_counting.proofs.TreeCollections.{list_back}
use Rattle.luo_founded.proofs.MadeLemmas.{zero_of_member, zero_of_all}
use Rattle.luo_places.specs.Numbers.{ListBefore, PartsBefore, AllowsOne, one_less}
use Rattle.luo_places.specs.Tails.{kind_behind, Tail, factors, items, tail_of, behind_first, first_node, TailOn, tail_count, IsHead, AreNumbers, IsThere, GoesOn, IsFirst}
use Rattle.luo_places.proofs.Someone.{some_of}
use Rattle.luo_places.proofs.Tails.{there_behind, tail_counted}
use Rattle.luo_places.proofs.TreePlaces.{Place-atom, atom_alone, list_order, order_list}
use Rattle.luo_rank.specs.inner.Lookup.{behind, label_on, AreRanks, work, IsLess, IsUnder}

-- THE ORDER of rows of trees
module _ {A : Type 0} (R : A → A → Type 0) (o : IsOrder R) where
  never : (xs ys : List A) → ListBefore R xs ys → ListBefore R ys xs → ⊥
  never [] [] a b = a
  never [] (y ∷ ys) a b = b
  never (x ∷ xs) [] a b = a
  never (x ∷ xs) (y ∷ ys) (inl a) (inl b) = o.one_way x y a b
  never (x ∷ xs) (y ∷ ys) (inl a) (inr b) = let h : R x x = subst (R x) b.0 a in o.one_way x x h h
  never (x ∷ xs) (y ∷ ys) (inr a) (inl b) = let h : R y y = subst (R y) a.0 b in o.one_way y y h h
  never (x ∷ xs) (y ∷ ys) (inr a) (inr b) = never xs ys a.1 b.1

  goes : (xs ys zs : List A) → ListBefore R xs ys → ListBefore R ys zs → ListBefore R xs zs
  goes [] [] zs a b = absurd a
  goes [] (y ∷ ys) [] a b = absurd b
  goes [] (y ∷ ys) (z ∷ zs) a b = tt
  goes (x ∷ xs) [] zs a b = absurd a
  goes (x ∷ xs) (y ∷ ys) [] a b = absurd b
  goes (x ∷ xs) (y ∷ ys) (z ∷ zs) (inl a) (inl b) = inl (o.through x y z a b)
  goes (x ∷ xs) (y ∷ ys) (z ∷ zs) (inl a) (inr b) = inl (subst (R x) b.0 a)
  goes (x ∷ xs) (y ∷ ys) (z ∷ zs) (inr a) (inl b) = inl (subst (λ v. R v z) (sym a.0) b)
  goes (x ∷ xs) (y ∷ ys) (z ∷ zs) (inr a) (inr b) = inr (a.0 ∙ b.0, goes xs ys zs a.1 b.1)

  one_of : (xs ys : List A) → ListBefore R xs ys ⊎ (xs ≡ ys) ⊎ ListBefore R ys xs
  one_of [] [] = inr (inl refl)
  one_of [] (y ∷ ys) = inl tt
  one_of (x ∷ xs) [] = inr (inr tt)
  one_of (x ∷ xs) (y ∷ ys) = by (o.either x y) (one_of xs ys)
    where
      by : R x y ⊎ (x ≡ y) ⊎ R y x → ListBefore R xs ys ⊎ (xs ≡ ys) ⊎ ListBefore R ys xs → ListBefore R (x ∷ xs) (y ∷ ys) ⊎ (x ∷ xs ≡ y ∷ ys) ⊎ ListBefore R (y ∷ ys) (x ∷ xs)
      by (inl a) k = inl (inl a)
      by (inr (inr a)) k = inr (inr (inl a))
      by (inr (inl e)) (inl b) = inl (inr (e, b))
      by (inr (inl e)) (inr (inl f)) = inr (inl (λ i. e i ∷ f i))
      by (inr (inl e)) (inr (inr b)) = inr (inr (inr (sym e, b)))

to_lists : (ss ts : Trees) → PartsBefore ss ts → ListBefore IsBefore (to_list ss) (to_list ts)
to_lists ss ts h = list_order (to_list ss) (to_list ts) (subst (λ v. PartsBefore v (from_list (to_list ts))) (sym (list_back ss)) (subst (PartsBefore ss) (sym (list_back ts)) h))

of_lists : (ss ts : Trees) → ListBefore IsBefore (to_list ss) (to_list ts) → PartsBefore ss ts
of_lists ss ts h = subst (PartsBefore ss) (list_back ts) (subst (λ v. PartsBefore v (from_list (to_list ts))) (list_back ss) (order_list (to_list ss) (to_list ts) h))

pub parts_ordered : IsOrder PartsBefore
parts_ordered = record {
  one_way = λ ss ts a b. never IsBefore trees_ordered (to_list ss) (to_list ts) (to_lists ss ts a) (to_lists ts ss b);
  through = λ ss ts us a b. of_lists ss us (goes IsBefore trees_ordered (to_list ss) (to_list ts) (to_list us) (to_lists ss ts a) (to_lists ts us b));
  either = λ ss ts. ⊎_elim (λ a. inl (of_lists ss ts a)) (λ k. ⊎_elim (λ (e : to_list ss ≡ to_list ts). inr (inl (sym (list_back ss) ∙ ap from_list e ∙ list_back ts))) (λ b. inr (inr (of_lists ts ss b))) k)
      (one_of IsBefore trees_ordered (to_list ss) (to_list ts));
}

pub behind_none : (ts : Trees) → behind ts none ≡ ts
behind_none none = refl
behind_none (more t ts) = ap (more t) (behind_none ts)

pub behind_more : (old : Trees) (t : Tree) (ts : Trees) → behind (behind old (more t none)) ts ≡ behind old (more t ts)
behind_more none t ts = refl
behind_more (more s old) t ts = ap (more s) (behind_more old t ts)

module _ (p : Program) (nodes last : ℕ) (a : ℕ → ℕ → ℕ) (t : AreNumbers p nodes last a) where
  -- THE WORK falls
  module _ (rank : ℕ → ℕ) (ranked : AreRanks p rank) where
    less_work : (x y i n : ℕ) → i < n → work p rank y i < work p rank x n
    less_work x y i n l = omega (arith, mul-le (suc i) (suc (length p.nodes)) n (suc (length p.nodes)) l (let q : suc (length p.nodes) ≤ suc (length p.nodes) = omega arith in q), ranked.below y, suc_times i (suc (length p.nodes)))
      where
        suc_times : (i w : ℕ) → suc i * w ≡ w + i * w
        suc_times i w = times_suc i w

    less_or : (i n : ℕ) → i ≤ n → (i < n) ⊎ (i ≡ n)
    less_or i n l = grind arith

    product_less : (x : ℕ) (before after : List Part) (used n : ℕ) (ts : Trees) → shape_of p x ≡ shape.Product (before ++ after) → FitAll p after ts → used + sizes_of ts ≡ n → (used ≡ 0 → (part : Part) → In part before → HasZero p part.node)
        → IsLess p rank (work p rank x n) (factors after) ts
    product_less x before [] used n none is m e zeros = tt
    product_less x before [] used n (more s ts) is m e zeros = absurd m
    product_less x before (part ∷ after) used n none is m e zeros = absurd m
    product_less x before (part ∷ after) used n (more s ts) is m e zeros = (
      ⊎_elim (λ l. less_work x part.node (size_of s) n l)
          (λ (q : size_of s ≡ n).
          let k : rank part.node < rank x = ranked.steps x part.node (subst (λ v. KeepsSize (HasZero p) v part.node) (sym is)
          (length before, part, at_place before after part, refl, λ k other g ne. ⊎_elim (λ i. zeros (omega (arith, q, e)) other i) (λ i. zero_of_all p ts after m.1 (omega (arith, q, e)) other i) (around_place before after part other k g ne))) in
          subst (λ v. work p rank part.node v < work p rank x n) (sym q) (omega (arith, k)))
          (less_or (size_of s) n (omega (arith, e))),
      product_less x (before ++ part ∷ []) after (used + size_of s) n ts (is ∙ ap shape.Product (sym (append_assoc before (part ∷ []) after))) m.1 (omega (arith, e))
          (λ o other w. ⊎_elim (λ i. zeros (omega (arith, o)) other i) (λ b. ⊎_elim (λ (q : other ≡ part). subst (λ (v : Part). HasZero p v.node) (sym q) (zero_of_member p part.node s m.0 (omega (arith, o)))) (λ c. absurd c) b)
          (In-append_cases other before (part ∷ []) w)),
    )

    one_within : (xs : List Tree) (s : Tree) → In s xs → size_of s ≤ total size_of xs
    one_within [] s i = absurd i
    one_within (x ∷ xs) s (inl e) = omega (arith, ap size_of e)
    one_within (x ∷ xs) s (inr i) = omega (arith, one_within xs s i)

    alone : (y : ℕ) (solid : (s : Tree) → Member p y s → size_of s ≡ 0 → ⊥) (xs : List Tree) (s : Tree) → Each (Member p y) xs → In s xs → size_of s ≡ total size_of xs → length xs ≡ 1
    alone y solid [] s m i e = absurd i
    alone y solid (x ∷ []) s m i e = refl
    alone y solid (x ∷ (z ∷ xs)) s m (inl q) e = absurd (solid z m.1.0 (omega (arith, e, ap size_of q)))
    alone y solid (x ∷ (z ∷ xs)) s m (inr i) e = absurd (solid x m.0 (omega (arith, e, one_within (z ∷ xs) s i)))

    all_less : (most : ℕ) (kind : Kind) (y low : ℕ) (high : Option ℕ) (ts : Trees) → ((s : Tree) → In s (to_list ts) → work p rank y (size_of s) < most) → IsLess p rank most (items kind y low high) ts
    all_less most kind y low high none h = tt
    all_less most kind y low high (more s ts) h = (h s (inl refl), all_less most (kind_behind kind) y (low - 1) (one_less high) ts (λ u i. h u (inr i)))

    pub top_less : (x n : ℕ) (L : List ℕ) (ts : Trees) → IsThere p nodes (tail_of (shape_of p x)) → TailOn p (tail_of (shape_of p x)) L n ts → IsLess p rank (work p rank x n) (tail_of (shape_of p x)) ts
    top_less x n L ts there m = by (shape_of p x) refl there m
      where
        by : (s : Shape) → shape_of p x ≡ s → IsThere p nodes (tail_of s) → TailOn p (tail_of s) L n ts → IsLess p rank (work p rank x n) (tail_of s) ts
        by (shape.Atom w) is there m = product_none ts m.0
          where
            product_none : (ts : Trees) → FitAll p [] ts → IsLess p rank (work p rank x n) (factors []) ts
            product_none none m = tt
            product_none (more s ts) m = absurd m
        by (shape.Union parts) is there m = product_none ts m.0
          where
            product_none : (ts : Trees) → FitAll p [] ts → IsLess p rank (work p rank x n) (factors []) ts
            product_none none m = tt
            product_none (more s ts) m = absurd m
        by (shape.Product parts) is there m = product_less x [] parts 0 n ts is m.0 (omega (arith, m.1)) (λ o part i. absurd i)
        by (shape.Coll kind part low high) is there m = all_less (work p rank x n) kind part.node low high ts
            (λ s i. ⊎_elim (λ l. less_work x part.node (size_of s) n l)
            (λ (q : size_of s ≡ n).
            let one : IsWithin low high 1 = subst (IsWithin low high) (alone part.node there.2 (to_list ts) s m.1 i (omega (arith, q, m.3))) m.0 in
            let k : rank part.node < rank x = ranked.steps x part.node (subst (λ v. KeepsSize (HasZero p) v part.node) (sym is) (refl, one)) in
            subst (λ v. work p rank part.node v < work p rank x n) (sym q) (omega (arith, k)))
            (less_or (size_of s) n (omega (arith, one_within (to_list ts) s i, m.3))))

    -- the first, and then the rest
    module _ (tail : Tail) (there : IsThere p nodes tail) (node : first_node tail < nodes) (L S T : List ℕ) (n r size q place back most : ℕ) (within : n ≤ last) (first : IsFirst p a tail n r size q place back) (room : IsRoom p.universe L n)
        (room_first : IsRoom p.universe S size) (room_rest : IsRoom p.universe T (n - size)) (head : IsHead p.universe tail L size q S T) (under : IsUnder p rank most tail L n r) where
      a_first : (s : Tree) × IsPlace (IsStructureOn p (first_node tail) S size) IsBefore place s
      a_first = some_place (IsStructureOn p (first_node tail) S size) IsBefore trees_ordered (a (first_node tail) size) (t.right (first_node tail) size node (omega (arith, first.sizes, within)) S room_first) place first.first

      a_rest : (ts : Trees) × IsPlace (TailOn p (behind_first tail) T (n - size)) PartsBefore back ts
      a_rest = some_place (TailOn p (behind_first tail) T (n - size)) PartsBefore parts_ordered (tail_count p.universe a (behind_first tail) (n - size))
          (tail_counted p nodes last a t (behind_first tail) (there_behind p nodes last a t tail there) (n - size) (omega (arith, within)) T room_rest) back first.second

      pub first_falls : work p rank (first_node tail) size < most
      first_falls =
          let u = under (more a_first.0 a_rest.0) (first.step L S T room head a_first.0 a_rest.0 a_first.1 a_rest.1) in
          subst (λ i. work p rank (first_node tail) i < most) a_first.1.there.1 u.0

      pub rest_under : IsUnder p rank most (behind_first tail) T (n - size) back
      rest_under ts m = (under (more a_first.0 ts) (first.step L S T room head a_first.0 ts a_first.1 m)).1

  -- ATOMS
  pub atom_place : (x weight n r : ℕ) (L : List ℕ) → shape_of p x ≡ shape.Atom weight → x < nodes → n ≤ last → IsRoom p.universe L n → r < a x n → IsPlace (IsStructureOn p x L n) IsBefore r (Atom weight (label_on p.universe L))
  atom_place x weight n r L is i l room h =
      let s = t.right x n i l L room in
      let m = some_of (IsStructureOn p x L n) (a x n) r s h in
      let k = atom_of p.universe refl m.0 (subst (λ z. Fits p z m.0) is m.1.0) m.1.1 m.1.2 in
      let one : a x n ≡ 1 = Sums-unique (IsStructureOn p x L n) (λ s. 1) (a x n) 1 s (Sums-one (IsStructureOn p x L n) (λ s. 1) (Atom weight (label_on p.universe L)) k (atom_alone p x weight n L is (label_on p.universe L) k)) in
      subst (λ i. IsPlace (IsStructureOn p x L n) IsBefore i (Atom weight (label_on p.universe L))) (let e : 0 ≡ r = omega (arith, one, h) in e) (Place-atom p x weight n L is (label_on p.universe L) k)
    where
      in_one : (k l : ℕ) → In k (label_list l) → k ≡ l
      in_one k zero i = absurd i
      in_one k (suc l) i = ⊎_elim (λ e. e) (λ j. absurd j) i

      one_or : (w : ℕ) → (w ≡ 1) ⊎ (w ≡ 1 → ⊥)
      one_or w = grind arith

      right_label : (u : Universe) (w k : ℕ) (L : List ℕ) → (u ≡ Labelled → w ≤ 1) → IsLabel u w k → w ≡ n → IsRoom u L n → Carries u L (Atom w k) → k ≡ label_on u L
      right_label Unlabelled w k L light f e room c = f
      right_label Labelled w k [] light f e room c = f.1 (λ o. omega (arith, o, e, room.1))
      right_label Labelled w k (j ∷ L) light f e room c = sym (in_one j k (c.2 j (inl refl)))

      atom_of : (u : Universe) → p.universe ≡ u → (s : Tree) → Fits p (shape.Atom weight) s → size_of s ≡ n → Carries p.universe L s → IsStructureOn p x L n (Atom weight (label_on p.universe L))
      atom_of u v (Atom w k) f e c =
          let z : k ≡ label_on p.universe L = right_label p.universe w k L (λ o. subst (λ y. y ≤ 1) (sym f.0) (subst IsLight is (t.light o x))) f.1 e room c in
          subst (λ y. IsStructureOn p x L n (Atom y (label_on p.universe L))) f.0
          (subst (λ y. IsStructureOn p x L n (Atom w y)) z (subst (λ y. Fits p y (Atom w k)) (sym is) f, e, c))
      atom_of u v (Inj i s) f e c = absurd f
      atom_of u v (Tup ts) f e c = absurd f
      atom_of u v (Coll ts) f e c = absurd f

  -- going on, and the end
  pub goes_on : (kind : Kind) (y low : ℕ) (high : Option ℕ) (n r : ℕ) (L : List ℕ) → IsThere p nodes (items kind y low high) → n ≤ last → IsRoom p.universe L n → 1 ≤ n → r < tail_count p.universe a (items kind y low high) n → GoesOn (items kind y low high) n
  goes_on kind y low high n r L there l room g h =
      let m = some_of (TailOn p (items kind y low high) L n) (tail_count p.universe a (items kind y low high) n) r (tail_counted p nodes last a t (items kind y low high) there n l L room) h in
      (g, allows high m.0 m.1.0 m.1.3)
    where
      allows : (high : Option ℕ) (ts : Trees) → IsWithin low high (length (to_list ts)) → total size_of (to_list ts) ≡ n → AllowsOne high
      allows None ts w e = tt
      allows (Some high) none w e = absurd (omega (arith, e, g))
      allows (Some high) (more s ts) w e = omega (arith, w.1)
