-- Numbered items are counted on any labels, and so are their collections.
use Rattle.std.proofs.Common.{◌≡◌, ℕ, zero, suc, ◌+◌, ◌≤◌, ◌<◌, List, [], inl, inr, length, refl, sym, ◌∙◌, ap, subst, arith, Option}
use Rattle.std.specs.declared.cmp.Ordering.{Ordering}
use Rattle.std.specs.declared.cmp.Ordering.TheVariants.{Equal}
use Rattle.std.specs.Cmp.{IsTotalOrder}
use Rattle.std.specs.Cmp.Lexicographic.{slice_cmp}
use Rattle.std.specs.Ordering.{nat_cmp, on, then_cmp, ordering_then}
use Rattle.std.proofs.lemmas.Cmp.{nat_cmp_total, nat_list_cmp_total, on_total, then_total}
use Rattle.luo_finite.specs.Listing.{In, Sums}
use Rattle.luo_finite.specs.Range.{sum_below}
use Rattle.luo_finite.proofs.Pairwise.{pairwise_unique}
use Rattle.luo_finite.proofs.Sums.{Sums-iff, Sums-map, Sums-same, Sums-unique, Counts-from, Counts-to}
use Rattle.luo_finite.proofs.Ranges.{Sums-below, Counts-below}
use Rattle.luo_model.specs.declared.program.Universe.{Universe}
use Rattle.luo_model.specs.declared.program.Universe.TheVariants.{Unlabelled, Labelled}
use Rattle.luo_model.specs.declared.program.Kind.{Kind}
use Rattle.luo_model.specs.Member.{IsWithin}
use Rattle.luo_model.specs.Structures.{Rising, Holds, labels_from}
use Rattle.luo_model.specs.Numbered.{Numbered, size_in, number_in, labels_in, IsNumbered, numbered_cmp, IsEarlier, IsCollectionCount, IsCollectionTotal, NumberedCollection}
use Rattle.luo_counting.specs.Sharing.{IsRoom}
use Rattle.luo_counting.specs.Items.{On, Suits}
use Rattle.luo_counting.specs.Numbers.{coll_count, coll_total}
use Rattle.luo_counting.specs.Laws.{CollectionsAreCounted, CollectionsAreTotalled}
use Rattle.luo_counting.proofs.Measures.{Measures}
use Rattle.luo_counting.proofs.Two.{IsSized, Rising-NoDouble}
use Rattle.luo_counting.proofs.Counts.{Ready, Measures-collections}
use Rattle.luo_finite.proofs.Falling.{IsOrder, IsBySize}
use Rattle.luo_finite.proofs.Orders.{order_from, nat_less, nat_equal, list_equal, then_left, then_right}

by_labels : Numbered → Numbered → Ordering
by_labels = then_cmp (on labels_in (slice_cmp nat_cmp)) (on number_in nat_cmp)

numbered_total : IsTotalOrder numbered_cmp
numbered_total = then_total (on_total size_in nat_cmp_total) (then_total (on_total labels_in nat_list_cmp_total) (on_total number_in nat_cmp_total))

numbered_equal : (v w : Numbered) → numbered_cmp v w ≡ Equal → v ≡ w
numbered_equal v w e =
    let s = nat_cmp (size_in v) (size_in w) in
    let l = slice_cmp nat_cmp (labels_in v) (labels_in w) in
    let n = nat_cmp (number_in v) (number_in w) in
    let a : size_in v ≡ size_in w = nat_equal (size_in v) (size_in w) (then_left s (ordering_then l n) e) in
    let b : labels_in v ≡ labels_in w = list_equal (labels_in v) (labels_in w) (then_left l n (then_right s (ordering_then l n) e)) in
    let c : number_in v ≡ number_in w = nat_equal (number_in v) (number_in w) (then_right l n (then_right s (ordering_then l n) e)) in
    λ i. record { size = a i; number = c i; labels = b i }

pub numbered_ordered : IsOrder IsEarlier
numbered_ordered = order_from numbered_cmp numbered_total numbered_equal

pub numbered_by_size : IsBySize size_in IsEarlier
numbered_by_size v w h = ap (λ o. ordering_then o (ordering_then (slice_cmp nat_cmp (labels_in v) (labels_in w)) (nat_cmp (number_in v) (number_in w)))) (nat_less (size_in v) (size_in w) h)

-- two rising lists of the same labels are equal
pub rising_one : (L labels : List ℕ) → Rising L → Rising labels → Holds L labels → labels ≡ L
rising_one L labels r s h = pairwise_unique (λ x y. x < y) labels L (λ x y a b. omega (arith, a, b)) s r h.1 h.2

module _ (a : ℕ → ℕ) where
  -- the item of a number on given labels
  item_at : Universe → List ℕ → ℕ → ℕ → Numbered
  item_at Unlabelled S n i = record { size = n; number = i; labels = [] }
  item_at Labelled S n i = record { size = n; number = i; labels = S }

  item_on : (u : Universe) (S : List ℕ) (n : ℕ) → IsRoom u S n → (v : Numbered) → (i : ℕ) × (i < a n) × (v ≡ item_at u S n i) → On u (IsNumbered u a) size_in labels_in S n v
  unfolding item_at
  item_on Unlabelled S n r v k = subst (On Unlabelled (IsNumbered Unlabelled a) size_in labels_in S n) (sym k.2) ((k.1, refl), refl, tt)
  item_on Labelled S n r v k = subst (On Labelled (IsNumbered Labelled a) size_in labels_in S n) (sym k.2) ((k.1, (r.0, r.1)), refl, (Rising-NoDouble S r.0, (λ x i. i), λ x i. i))

  on_item : (u : Universe) (S : List ℕ) (n : ℕ) → IsRoom u S n → (v : Numbered) → On u (IsNumbered u a) size_in labels_in S n v → (i : ℕ) × (i < a n) × (v ≡ item_at u S n i)
  unfolding item_at
  on_item Unlabelled S n r v m = (v.number, subst (λ j. v.number < a j) m.1 m.0.0, λ i. record { size = m.1 i; number = v.number; labels = m.0.1 i })
  on_item Labelled S n r v m =
      let e : v.labels ≡ S = rising_one S v.labels r.0 m.0.1.0 m.2 in
      (v.number, subst (λ j. v.number < a j) m.1 m.0.0, λ i. record { size = m.1 i; number = v.number; labels = e i })

  item_number : (u : Universe) (S : List ℕ) (n i : ℕ) → number_in (item_at u S n i) ≡ i
  unfolding item_at
  item_number Unlabelled S n i = refl
  item_number Labelled S n i = refl

  sums_on : (u : Universe) (S : List ℕ) (n : ℕ) → IsRoom u S n → (w : Numbered → ℕ) (t : ℕ) → Sums (λ i. i < a n) (λ i. w (item_at u S n i)) t → Sums (On u (IsNumbered u a) size_in labels_in S n) w t
  sums_on u S n r w t s =
      Sums-iff (λ v. (i : ℕ) × (i < a n) × (v ≡ item_at u S n i)) (On u (IsNumbered u a) size_in labels_in S n) w t (item_on u S n r) (on_item u S n r)
      (Sums-map (λ i. i < a n) (item_at u S n) w t (λ i j p q e. sym (item_number u S n i) ∙ ap number_in e ∙ item_number u S n j) s)

  item_size : (u : Universe) (S : List ℕ) (n i : ℕ) → size_in (item_at u S n i) ≡ n
  unfolding item_at
  item_size Unlabelled S n i = refl
  item_size Labelled S n i = refl

  -- on any labels there are as many items as a says, and their charges are those of the numbers
  pub items_known : (q : ℕ → ℕ → ℕ) (u : Universe) (S : List ℕ) (n : ℕ) → IsRoom u S n → Measures (On u (IsNumbered u a) size_in labels_in S n) (λ v. q (size_in v) (number_in v)) (a n) (sum_below (q n) (a n))
  items_known q u S n r = record {
    count = sums_on u S n r (λ v. 1) (a n) (Counts-to (λ i. i < a n) (a n) (Counts-below (a n)));
    total = sums_on u S n r (λ v. q (size_in v) (number_in v)) (sum_below (q n) (a n))
        (Sums-same (λ i. i < a n) (q n) (λ i. q (size_in (item_at u S n i)) (number_in (item_at u S n i))) (sum_below (q n) (a n))
        (λ i h. ap (q n) (sym (item_number u S n i)) ∙ ap (λ m. q m (number_in (item_at u S n i))) (sym (item_size u S n i))) (Sums-below (q n) (a n)));
  }

  pub numbered_sized : (u : Universe) → IsSized u (IsNumbered u a) size_in labels_in
  numbered_sized Unlabelled = tt
  numbered_sized Labelled = λ v m. sym m.1.1

  pub numbered_ready : (q : ℕ → ℕ → ℕ) (b : ℕ → ℕ) (u : Universe) (n : ℕ) (wanted : Type 0) → a 0 ≡ 0 → ((m : ℕ) → sum_below (q m) (a m) ≡ b m) → Ready u (IsNumbered u a) size_in labels_in (λ v. q (size_in v) (number_in v)) a b n wanted
  numbered_ready q b u n wanted z e = record {
    sized = numbered_sized u;
    none = λ v m h. let l : v.number < a 0 = subst (λ j. v.number < a j) h m.0 in omega (arith, l, z);
    no_count = z;
    no_total = sym (e 0) ∙ ap (sum_below (q 0)) z;
    below = λ m p h S s. known m S s;
    here = λ o S s. known n S s;
  }
    where
      known : (m : ℕ) (S : List ℕ) → IsRoom u S m → Measures (On u (IsNumbered u a) size_in labels_in S m) (λ v. q (size_in v) (number_in v)) (a m) (b m)
      known m S s = subst (Measures (On u (IsNumbered u a) size_in labels_in S m) (λ v. q (size_in v) (number_in v)) (a m)) (e m) (items_known q u S m s)

In_labels : (first n x : ℕ) → In x (labels_from first n) → first ≤ x
In_labels first zero x i = absurd i
In_labels first (suc n) x (inl e) = omega (arith, e)
In_labels first (suc n) x (inr i) = omega (arith, In_labels (first + 1) n x i)

pub labels_rise : (first n : ℕ) → Rising (labels_from first n)
labels_rise first zero = tt
labels_rise first (suc n) = ((λ x i. omega (arith, In_labels (first + 1) n x i)), labels_rise (first + 1) n)

pub labels_long : (first n : ℕ) → length (labels_from first n) ≡ n
labels_long first zero = refl
labels_long first (suc n) = omega (arith, labels_long (first + 1) n)

pub room_of : (u : Universe) (n : ℕ) → IsRoom u (labels_from 1 n) n
room_of Unlabelled n = tt
room_of Labelled n = (labels_rise 1 n, labels_long 1 n, λ x i. In_labels 1 n x i)

-- THE LAW of numbered collections: the number of all, and for every choice of charges with the sums b their sum
pub coll_total_is : (u : Universe) (kind : Kind) (low : ℕ) (high : Option ℕ) (a b : ℕ → ℕ) (q : ℕ → ℕ → ℕ) (n : ℕ) → Suits u kind low → a 0 ≡ 0 → ((m : ℕ) → sum_below (q m) (a m) ≡ b m)
    → IsCollectionCount u kind low high a n (coll_count u kind a low high n) × IsCollectionTotal u kind low high a q n (coll_total u kind a b low high n)
coll_total_is u kind low high a b q n s z e =
    let m = Measures-collections (IsNumbered u a) size_in labels_in (λ v. q (size_in v) (number_in v)) a b IsEarlier numbered_ordered numbered_by_size u kind low high n (labels_from 1 n) s (room_of u n) (numbered_ready a q b u n (IsWithin low high 1) z e) in
    (Counts-from (NumberedCollection u kind low high a n) (coll_count u kind a low high n) m.count, m.total)

-- the number looks at sizes below n, and at n only where one item is within the bounds
pub coll_count-needed : (u : Universe) (kind : Kind) (low : ℕ) (high : Option ℕ) (a c : ℕ → ℕ) (n : ℕ) → Suits u kind low → a 0 ≡ 0 → c 0 ≡ 0 → ((m : ℕ) → m < n → a m ≡ c m) → (IsWithin low high 1 → a n ≡ c n) → coll_count u kind a low high n ≡ coll_count u kind c low high n
coll_count-needed u kind low high a c n s z y e o =
    let q : ℕ → ℕ → ℕ = λ m i. 0 in
    let r = numbered_ready a q (λ m. sum_below (q m) (a m)) u n (IsWithin low high 1) z (λ m. refl) in
    let t : Ready u (IsNumbered u a) size_in labels_in (λ v. 0) c (λ m. sum_below (q m) (a m)) n (IsWithin low high 1) = record {
      sized = r.sized;
      none = r.none;
      no_count = y;
      no_total = r.no_total;
      below = λ m p h S f. subst (λ (k : ℕ). Measures (On u (IsNumbered u a) size_in labels_in S m) (λ v. 0) k (sum_below (q m) (a m))) (e m h) (r.below m p h S f);
      here = λ w S f. subst (λ (k : ℕ). Measures (On u (IsNumbered u a) size_in labels_in S n) (λ v. 0) k (sum_below (q n) (a n))) (o w) (r.here w S f);
    } in
    Sums-unique (NumberedCollection u kind low high a n) (λ xs. 1) (coll_count u kind a low high n) (coll_count u kind c low high n)
    (Measures-collections (IsNumbered u a) size_in labels_in (λ v. 0) a (λ m. sum_below (q m) (a m)) IsEarlier numbered_ordered numbered_by_size u kind low high n (labels_from 1 n) s (room_of u n) r).count
    (Measures-collections (IsNumbered u a) size_in labels_in (λ v. 0) c (λ m. sum_below (q m) (a m)) IsEarlier numbered_ordered numbered_by_size u kind low high n (labels_from 1 n) s (room_of u n) t).count

pub collections_counted : CollectionsAreCounted
collections_counted u kind low high a n s z = (coll_total_is u kind low high a (λ m. sum_below (λ i. 0) (a m)) (λ m i. 0) n s z (λ m. refl)).0

pub collections_totalled : CollectionsAreTotalled
collections_totalled u kind low high a b q n s z e = (coll_total_is u kind low high a b q n s z e).1
