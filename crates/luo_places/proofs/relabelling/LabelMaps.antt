-- The rising map from labels to as many others, and counts and sums on any labels.
use Rattle.std.proofs.Common.{◌≡◌, ℕ, zero, suc, ◌+◌, ◌≤◌, ◌<◌, ◌==◌, Bool, true, false, if◌then◌else◌, inl, inr, List, [], ◌∷◌, map, length, refl, sym, ◌∙◌, ap, subst, arith}
use Rattle.std.proofs.lemmas.Bool.{eq-eqb, eqb-true}
use Rattle.luo_finite.specs.Listing.{In, Sums}
use Rattle.luo_finite.specs.Each.{Each}
use Rattle.luo_finite.proofs.Membership.{In-map, In-map_back}
use Rattle.luo_finite.proofs.Doubles.{NoDouble-map}
use Rattle.luo_finite.proofs.Sums.{Sums-map, Sums-iff, Sums-same, Counts-to}
use Rattle.luo_model.specs.declared.program.Universe.{Universe}
use Rattle.luo_model.specs.declared.program.Universe.TheVariants.{Unlabelled, Labelled}
use Rattle.luo_model.specs.Tree.{Tree, Trees, Atom, Inj, Tup, Coll, none, more, label_list, labels_of, all_labels_of}
use Rattle.luo_model.specs.Program.{Program}
use Rattle.luo_model.specs.Member.{Member}
use Rattle.luo_model.specs.Structures.{Rising, Holds, Carries, IsStructure, IsStructureOn, labels_from}
use Rattle.luo_model.specs.Tables.{IsCount}
use Rattle.luo_counting.specs.Sharing.{IsRoom}
use Rattle.luo_counting.specs.Counted.{SumsAt, CountsAt}
use Rattle.luo_counting.proofs.Numbered.{labels_rise, labels_long}
use Rattle.luo_places.specs.relabelling.Relabelling.{sent, relabelled, all_relabelled, Rises, IsAmong}
use Rattle.luo_places.proofs.relabelling.LabelLemmas.{Each-left, Each-right, Each-all, size_sent, labels_sent}
use Rattle.luo_places.proofs.relabelling.Relabelled.{member_sent}

-- the label of L that stands where l stands in K
abbrev pub carried : List ℕ → List ℕ → ℕ → ℕ
carried [] L l = 0
carried (k ∷ K) [] l = 0
carried (k ∷ K) (j ∷ L) l = if l == k then j else carried K L l

at_first : (k j l : ℕ) (K L : List ℕ) → l ≡ k → carried (k ∷ K) (j ∷ L) l ≡ j
at_first k j l K L e = ap (λ (b : Bool). if b then j else carried K L l) (eq-eqb l k e)

at_rest : (k j l : ℕ) (K L : List ℕ) → (l ≡ k → ⊥) → carried (k ∷ K) (j ∷ L) l ≡ carried K L l
at_rest k j l K L n = by (l == k) refl
  where
    by : (b : Bool) → (l == k) ≡ b → (if l == k then j else carried K L l) ≡ carried K L l
    by true e = absurd (n (eqb-true l k e))
    by false e = ap (λ (b : Bool). if b then j else carried K L l) e

less_apart : (a b : ℕ) → a < b → b ≡ a → ⊥
less_apart a b h e = absurd (omega arith)

carried_in : (K L : List ℕ) → Rising K → length K ≡ length L → (l : ℕ) → In l K → In (carried K L l) L
carried_in [] L r e l i = absurd i
carried_in (k ∷ K) [] r e l i = absurd (omega (arith, e))
carried_in (k ∷ K) (j ∷ L) r e l (inl q) = inl (at_first k j l K L q)
carried_in (k ∷ K) (j ∷ L) r e l (inr i) = inr (subst (λ m. In m L) (sym (at_rest k j l K L (less_apart k l (r.0 l i)))) (carried_in K L r.1 (omega (arith, e)) l i))

carried_rises : (K L : List ℕ) → Rising K → Rising L → length K ≡ length L → (l m : ℕ) → In l K → In m K → l < m → carried K L l < carried K L m
carried_rises [] L r s e l m i h g = absurd i
carried_rises (k ∷ K) [] r s e l m i h g = absurd (omega (arith, e))
carried_rises (k ∷ K) (j ∷ L) r s e l m (inl q) (inl p) g = absurd (omega (arith, q, p, g))
carried_rises (k ∷ K) (j ∷ L) r s e l m (inl q) (inr h) g =
    omega (arith, at_first k j l K L q, at_rest k j m K L (less_apart k m (r.0 m h)), s.0 (carried K L m) (carried_in K L r.1 (omega (arith, e)) m h))
carried_rises (k ∷ K) (j ∷ L) r s e l m (inr i) (inl p) g = absurd (omega (arith, r.0 l i, p, g))
carried_rises (k ∷ K) (j ∷ L) r s e l m (inr i) (inr h) g =
    omega (arith, at_rest k j l K L (less_apart k l (r.0 l i)), at_rest k j m K L (less_apart k m (r.0 m h)), carried_rises K L r.1 s.1 (omega (arith, e)) l m i h g)

carried_back : (K L : List ℕ) → Rising K → Rising L → length K ≡ length L → (l : ℕ) → In l K → carried L K (carried K L l) ≡ l
carried_back [] L r s e l i = absurd i
carried_back (k ∷ K) [] r s e l i = absurd (omega (arith, e))
carried_back (k ∷ K) (j ∷ L) r s e l (inl q) = at_first j k (carried (k ∷ K) (j ∷ L) l) L K (at_first k j l K L q) ∙ sym q
carried_back (k ∷ K) (j ∷ L) r s e l (inr i) =
    let there : In (carried K L l) L = carried_in K L r.1 (omega (arith, e)) l i in
    ap (carried (j ∷ L) (k ∷ K)) (at_rest k j l K L (less_apart k l (r.0 l i)))
    ∙ at_rest j k (carried K L l) L K (less_apart j (carried K L l) (s.0 (carried K L l) there))
    ∙ carried_back K L r.1 s.1 (omega (arith, e)) l i

-- as many labels, which rise and are at least 1
pub record AreLabels (L : List ℕ) (n : ℕ) : Type 0 where
  pub rising : Rising L
  pub long : length L ≡ n
  pub some : (l : ℕ) → In l L → 1 ≤ l

pub first_labels : (n : ℕ) → AreLabels (labels_from 1 n) n
first_labels n = record { rising = labels_rise 1 n; long = labels_long 1 n; some = from 1 n (omega arith) }
  where
    from : (k n : ℕ) → 1 ≤ k → (l : ℕ) → In l (labels_from k n) → 1 ≤ l
    from k zero h l i = absurd i
    from k (suc n) h l (inl e) = omega (arith, e, h)
    from k (suc n) h l (inr i) = from (k + 1) n (omega (arith, h)) l i

module _ (K L : List ℕ) (n : ℕ) (k_labels : AreLabels K n) (l_labels : AreLabels L n) where
  as_long : length K ≡ length L
  as_long = k_labels.long ∙ sym l_labels.long

  pub rises : Rises (carried K L) K
  rises = record {
    labels = λ l i. l_labels.some (carried K L l) (carried_in K L k_labels.rising as_long l i);
    rising = carried_rises K L k_labels.rising l_labels.rising as_long;
  }

  sent_is : (l : ℕ) → In l K → sent (carried K L) l ≡ carried K L l
  sent_is zero i = absurd (omega (arith, k_labels.some 0 i))
  sent_is (suc l) i = refl

  sent_back : (l : ℕ) → IsAmong K l → sent (carried L K) (sent (carried K L) l) ≡ l
  sent_back zero a = refl
  sent_back (suc l) (inl e) = absurd (omega (arith, e))
  sent_back (suc l) (inr i) = by (carried K L (suc l)) (l_labels.some (carried K L (suc l)) (carried_in K L k_labels.rising as_long (suc l) i)) ∙ carried_back K L k_labels.rising l_labels.rising as_long (suc l) i
    where
      by : (m : ℕ) → 1 ≤ m → sent (carried L K) m ≡ carried L K m
      by zero h = absurd (omega arith)
      by (suc m) h = refl

  label_back : (l : ℕ) → Each (IsAmong K) (label_list l) → sent (carried L K) (sent (carried K L) l) ≡ l
  label_back zero m = refl
  label_back (suc l) m = sent_back (suc l) m.0

  mutual
    pub back : (t : Tree) → Each (IsAmong K) (labels_of t) → relabelled (carried L K) (relabelled (carried K L) t) ≡ t
    back (Atom w l) m = ap (Atom w) (label_back l m)
    back (Inj i t) m = ap (Inj i) (back t m)
    back (Tup ts) m = ap Tup (all_back ts m)
    back (Coll ts) m = ap Coll (all_back ts m)

    all_back : (ts : Trees) → Each (IsAmong K) (all_labels_of ts) → all_relabelled (carried L K) (all_relabelled (carried K L) ts) ≡ ts
    all_back none m = refl
    all_back (more t ts) m =
        let a = back t (Each-left (IsAmong K) (labels_of t) (all_labels_of ts) m) in
        let b = all_back ts (Each-right (IsAmong K) (labels_of t) (all_labels_of ts) m) in
        λ i. more (a i) (b i)

  pub among_held : (t : Tree) → Holds K (labels_of t) → Each (IsAmong K) (labels_of t)
  among_held t h = Each-all (IsAmong K) (labels_of t) (λ l i. inr (h.1 l i))

  one_of : (l m : ℕ) → In l K → In m K → sent (carried K L) l ≡ sent (carried K L) m → l ≡ m
  one_of l m i j e = sym (sent_back l (inr i)) ∙ ap (sent (carried L K)) e ∙ sent_back m (inr j)

  held_sent : (t : Tree) → Holds K (labels_of t) → ((l : ℕ) → In l L → In (carried L K l) K × (sent (carried K L) (carried L K l) ≡ l)) → Holds L (labels_of (relabelled (carried K L) t))
  held_sent t h onto =
      let e : labels_of (relabelled (carried K L) t) ≡ map (sent (carried K L)) (labels_of t) = labels_sent (carried K L) K rises t (among_held t h) in
      subst (Holds L) (sym e) (
        NoDouble-map (sent (carried K L)) (labels_of t) h.0 (λ l m i j q. one_of l m (h.1 l i) (h.1 m j) q),
        λ l i. let b = In-map_back (sent (carried K L)) l (labels_of t) i in subst (λ m. In m L) (sym (b.2 ∙ sent_is b.0 (h.1 b.0 b.1))) (carried_in K L k_labels.rising as_long b.0 (h.1 b.0 b.1)),
        λ l i. let o = onto l i in subst (λ m. In m (map (sent (carried K L)) (labels_of t))) o.1 (In-map (sent (carried K L)) (carried L K l) (labels_of t) (h.2 (carried L K l) o.0)),
      )

module _ (K L : List ℕ) (n : ℕ) (k_labels : AreLabels K n) (l_labels : AreLabels L n) where
  abbrev over : Tree → Tree
  over t = relabelled (carried K L) t

  onto : (l : ℕ) → In l L → In (carried L K l) K × (sent (carried K L) (carried L K l) ≡ l)
  onto l i =
      let e = sym (as_long K L n k_labels l_labels) in
      let j : In (carried L K l) K = carried_in L K l_labels.rising e l i in
      (j, sent_is K L n k_labels l_labels (carried L K l) j ∙ carried_back L K l_labels.rising k_labels.rising e l i)

  module _ (p : Program) (labelled : p.universe ≡ Labelled) (x : ℕ) where
    holds_of : (J : List ℕ) (t : Tree) → Carries p.universe J t → Holds J (labels_of t)
    holds_of J t c = subst (λ u. Carries u J t) labelled c

    -- a structure on K is one on L with the labels of L
    pub structure_sent : (m : ℕ) (t : Tree) → IsStructureOn p x K m t → IsStructureOn p x L m (over t)
    structure_sent m t s =
        let h = holds_of K t s.2 in (
          member_sent (carried K L) K (rises K L n k_labels l_labels) p x t (among_held K L n k_labels l_labels t h) s.0,
          size_sent (carried K L) t ∙ s.1,
          subst (λ u. Carries u L (over t)) (sym labelled) (held_sent K L n k_labels l_labels t h onto),
        )

    pub structure_back : (m : ℕ) (t : Tree) → IsStructureOn p x K m t → relabelled (carried L K) (over t) ≡ t
    structure_back m t s = back K L n k_labels l_labels t (among_held K L n k_labels l_labels t (holds_of K t s.2))

module _ (p : Program) (labelled : p.universe ≡ Labelled) (x : ℕ) (K L : List ℕ) (n : ℕ) (k_labels : AreLabels K n) (l_labels : AreLabels L n) where
  -- sums on K are sums on L, where the weights stay
  pub sums_sent : (w v : Tree → ℕ) (m t : ℕ) → ((s : Tree) → IsStructureOn p x K m s → v (relabelled (carried K L) s) ≡ w s) → Sums (IsStructureOn p x K m) w t → Sums (IsStructureOn p x L m) v t
  sums_sent w v m t stays sums =
      Sums-iff (λ y. (s : Tree) × IsStructureOn p x K m s × (y ≡ relabelled (carried K L) s)) (IsStructureOn p x L m) v t
      (λ y (s, i, e). subst (IsStructureOn p x L m) (sym e) (structure_sent K L n k_labels l_labels p labelled x m s i))
      (λ y i. (relabelled (carried L K) y, structure_sent L K n l_labels k_labels p labelled x m y i, sym (structure_back L K n l_labels k_labels p labelled x m y i)))
      (Sums-map (IsStructureOn p x K m) (relabelled (carried K L)) v t
      (λ a b i j e. sym (structure_back K L n k_labels l_labels p labelled x m a i) ∙ ap (relabelled (carried L K)) e ∙ structure_back K L n k_labels l_labels p labelled x m b j)
      (Sums-same (IsStructureOn p x K m) w (λ s. v (relabelled (carried K L) s)) t (λ s i. sym (stays s i)) sums))

-- a weight that relabelling keeps, as long as the structure stays a member
module _ (p : Program) (x n : ℕ) where
  -- the sum over the structures on 1 to n is the sum on any labels
  pub sums_at : (w : Tree → ℕ) (t : ℕ) → ((f : ℕ → ℕ) (s : Tree) → Member p x s → Member p x (relabelled f s) → w (relabelled f s) ≡ w s) → Sums (IsStructure p x n) w t → SumsAt p x w n t
  sums_at w t stays sums L room = by p.universe refl room
    where
      by : (u : Universe) → p.universe ≡ u → IsRoom u L n → Sums (IsStructureOn p x L n) w t
      by Unlabelled e r =
          Sums-iff (IsStructure p x n) (IsStructureOn p x L n) w t
          (λ s i. (i.0, i.1, subst (λ u. Carries u L s) (sym e) tt)) (λ s i. (i.0, i.1, subst (λ u. Carries u (labels_from 1 n) s) (sym e) tt)) sums
      by Labelled e r =
          sums_sent p e x (labels_from 1 n) L n (first_labels n) (record { rising = r.0; long = r.1; some = r.2 }) w w n t
          (λ s i. stays (carried (labels_from 1 n) L) s i.0 (structure_sent (labels_from 1 n) L n (first_labels n) (record { rising = r.0; long = r.1; some = r.2 }) p e x n s i).0) sums

  pub counts_at : (c : ℕ) → IsCount p x n c → CountsAt p x n c
  counts_at c k = sums_at (λ s. 1) c (λ f s i m. refl) (Counts-to (IsStructure p x n) c k)
