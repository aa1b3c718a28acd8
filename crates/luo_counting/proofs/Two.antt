-- Two things that share a size and its labels.
use Rattle.std.proofs.Common.{◌≡◌, ℕ, zero, suc, ◌+◌, ◌*◌, ◌-◌, ◌≤◌, ◌<◌, List, [], ◌++◌, length, refl, sym, ◌∙◌, ap, subst, sum_by, arith}
use Rattle.std.proofs.Math.Nat.{add-mul}
use Rattle.luo_finite.specs.Listing.{In, NoDouble, Sums}
use Rattle.luo_finite.specs.Range.{below, sum_below, convolve}
use Rattle.luo_finite.proofs.Doubles.{same_length}
use Rattle.luo_finite.proofs.Pairwise.{NoDouble-pairwise}
use Rattle.luo_finite.proofs.Sums.{Sums-iff, Sums-over}
use Rattle.luo_finite.proofs.Ranges.{In-below, below_In, Sums-over_below, sum_below-same, sum_below-add, sum_below-shift}
use Rattle.luo_finite.specs.Binomial.{choose}
use Rattle.luo_finite.proofs.Binomials.{choose-past}
use Rattle.luo_model.specs.declared.program.Universe.{Universe}
use Rattle.luo_model.specs.declared.program.Universe.TheVariants.{Unlabelled, Labelled}
use Rattle.luo_model.specs.Structures.{Rising, Holds}
use Rattle.luo_model.specs.Collections.{Bears}
use Rattle.luo_counting.specs.Sharing.{splits, over_splits, over_shares, shares, IsRoom}
use Rattle.luo_counting.specs.Items.{On}
use Rattle.luo_counting.proofs.Splits.{Two, split-one, NoDouble-splits, split-rising, split-length, split-left, split-right, sum_by-splits, Holds-split, split-Holds}

-- the size of an item in the labelled universe is the number of its labels
abbrev pub IsSized : {A : Type 0} → Universe → (A → Type 0) → (A → ℕ) → (A → List ℕ) → Type 0
IsSized Unlabelled M size lab = Unit {0}
IsSized {A} Labelled M size lab = (x : A) → M x → size x ≡ length (lab x)

pub Rising-NoDouble : (L : List ℕ) → Rising L → NoDouble L
Rising-NoDouble L r = NoDouble-pairwise (λ x y. x < y) L (λ x h. omega arith) r

pub Holds-length : (L ls : List ℕ) → Rising L → Holds L ls → length ls ≡ length L
Holds-length L ls r h = same_length ls L h.0 (Rising-NoDouble L r) h.1 h.2

-- both together have size n and the labels L
abbrev pub PairOn : {A B : Type 0} → Universe → (A → Type 0) → (B → Type 0) → (A → ℕ) → (B → ℕ) → (A → List ℕ) → (B → List ℕ) → List ℕ → ℕ → A × B → Type 0
PairOn u M N size other la lb L n z = M z.0 × N z.1 × (size z.0 + other z.1 ≡ n) × Bears u L (la z.0 ++ lb z.1)

-- one of size i on S, the other of size j on T
abbrev pub Apart : {A B : Type 0} → Universe → (A → Type 0) → (B → Type 0) → (A → ℕ) → (B → ℕ) → (A → List ℕ) → (B → List ℕ) → List ℕ → List ℕ → ℕ → ℕ → A × B → Type 0
Apart u M N size other la lb S T i j z = On u M size la S i z.0 × On u N other lb T j z.1

-- no labels
no_labels : List ℕ
no_labels = []

module _ {A B : Type 0} (M : A → Type 0) (N : B → Type 0) (size : A → ℕ) (other : B → ℕ) (la : A → List ℕ) (lb : B → List ℕ) (w : A × B → ℕ) (c : ℕ → ℕ → ℕ) (n : ℕ) where
  -- unlabelled: the key is the size of the first
  KeyedSize : ℕ → A × B → Type 0
  KeyedSize k z = Apart Unlabelled M N size other la lb [] [] k (n - k) z

  unlabelled_pairs : (L : List ℕ) → ((S T : List ℕ) (i j : ℕ) → IsRoom Unlabelled S i → IsRoom Unlabelled T j → i + j ≡ n → Sums (Apart Unlabelled M N size other la lb S T i j) w (c i j))
      → Sums (PairOn Unlabelled M N size other la lb L n) w (sum_below (λ k. c k (n - k)) (suc n))
  unfolding KeyedSize
  unlabelled_pairs L h =
      Sums-iff (λ z. (k : ℕ) × In k (below (suc n)) × KeyedSize k z) (PairOn Unlabelled M N size other la lb L n) w (sum_below (λ k. c k (n - k)) (suc n))
      (λ z r. let k = below_In (suc n) r.0 r.1 in (r.2.0.0, r.2.1.0, omega (arith, r.2.0.1, r.2.1.1), tt))
      (λ z m. (size z.0, In-below (suc n) (size z.0) (omega (arith, m.2)), ((m.0, refl, tt), (m.1, omega (arith, m.2), tt))))
      (Sums-over_below KeyedSize w (λ k. c k (n - k)) (suc n) (λ i j z p q. sym p.0.1 ∙ q.0.1)
      (λ k l. h [] [] k (n - k) tt tt (omega arith)))

  -- labelled: the key is a split of the labels
  Keyed : List ℕ → Two → A × B → Type 0
  Keyed L y z = In y (splits L) × Apart Labelled M N size other la lb y.0 y.1 (length y.0) (length y.1) z

  one_split : (L : List ℕ) → Rising L → (x y : Two) (z : A × B) → Keyed L x z → Keyed L y z → x ≡ y
  unfolding Keyed
  one_split L r x y z a b = split-one L x y r a.0 b.0 (λ m k. b.1.0.2.1 m (a.1.0.2.2 m k)) (λ m k. a.1.0.2.1 m (b.1.0.2.2 m k))

  labelled_pairs : (L : List ℕ) → Rising L → length L ≡ n → ((x : ℕ) → In x L → 1 ≤ x) → IsSized Labelled M size la → IsSized Labelled N other lb
      → ((S T : List ℕ) (i j : ℕ) → IsRoom Labelled S i → IsRoom Labelled T j → i + j ≡ n → Sums (Apart Labelled M N size other la lb S T i j) w (c i j))
      → Sums (PairOn Labelled M N size other la lb L n) w (over_splits c n)
  unfolding Keyed
  labelled_pairs L r e pos s t h =
      subst (Sums (PairOn Labelled M N size other la lb L n) w) (sum_by-splits c L ∙ ap (over_splits c) e)
      (Sums-iff (λ z. (y : Two) × In y (splits L) × Keyed L y z) (PairOn Labelled M N size other la lb L n) w (sum_by (λ (y : Two). c (length y.0) (length y.1)) (splits L))
      (λ z k. let q = k.2.1 in (q.0.0, q.1.0, omega (arith, q.0.1, q.1.1, split-length L k.0 k.1, e), split-Holds L (la z.0) (lb z.1) k.0 r k.1 q.0.2 q.1.2))
      (λ z m. let k = Holds-split L (la z.0) (lb z.1) m.3 in
      let q = split-rising L k.0 r k.1 in
      (k.0, k.1, (k.1, ((m.0, s z.0 m.0 ∙ Holds-length (k.0).0 (la z.0) q.0 k.2.0, k.2.0), (m.1, t z.1 m.1 ∙ Holds-length (k.0).1 (lb z.1) q.1 k.2.1, k.2.1)))))
      (Sums-over (Keyed L) w (λ (y : Two). c (length y.0) (length y.1)) (splits L) (NoDouble-splits L r) (one_split L r)
      (λ y i. let q = split-rising L y r i in
      Sums-iff (Apart Labelled M N size other la lb y.0 y.1 (length y.0) (length y.1)) (Keyed L y) w (c (length y.0) (length y.1)) (λ z a. (i, a)) (λ z a. a.1)
      (h y.0 y.1 (length y.0) (length y.1) (q.0, refl, λ m j. pos m (split-left L y m i j)) (q.1, refl, λ m j. pos m (split-right L y m i j)) (omega (arith, split-length L y i, e))))))

  -- THE LAW of two: in both universes the sum over the pairs is the sum over the ways to share
  pub Sums-two : (u : Universe) (L : List ℕ) → IsRoom u L n → IsSized u M size la → IsSized u N other lb
      → ((S T : List ℕ) (i j : ℕ) → IsRoom u S i → IsRoom u T j → i + j ≡ n → Sums (Apart u M N size other la lb S T i j) w (c i j))
      → Sums (PairOn u M N size other la lb L n) w (over_shares u c n)
  unfolding over_shares
  Sums-two Unlabelled L r s t h = unlabelled_pairs L h
  Sums-two Labelled L r s t h = labelled_pairs L r.0 r.1 r.2 s t h

over_splits-add : (c d : ℕ → ℕ → ℕ) (n : ℕ) → over_splits (λ i j. c i j + d i j) n ≡ over_splits c n + over_splits d n
over_splits-add c d zero = refl
over_splits-add c d (suc n) = omega (arith, over_splits-add (λ i j. c (suc i) j) (λ i j. d (suc i) j) n, over_splits-add (λ i j. c i (suc j)) (λ i j. d i (suc j)) n)

pub over_shares-add : (u : Universe) (c d : ℕ → ℕ → ℕ) (n : ℕ) → over_shares u (λ i j. c i j + d i j) n ≡ over_shares u c n + over_shares u d n
unfolding over_shares
over_shares-add Unlabelled c d n = sum_below-add (λ k. c k (n - k)) (λ k. d k (n - k)) (suc n)
over_shares-add Labelled c d n = over_splits-add c d n

over_splits-same : (c d : ℕ → ℕ → ℕ) (n : ℕ) → ((i j : ℕ) → i + j ≡ n → c i j ≡ d i j) → over_splits c n ≡ over_splits d n
over_splits-same c d zero h = h 0 0 (omega arith)
over_splits-same c d (suc n) h =
    let e : over_splits (λ i j. c (suc i) j) n ≡ over_splits (λ i j. d (suc i) j) n = over_splits-same (λ i j. c (suc i) j) (λ i j. d (suc i) j) n (λ i j q. h (suc i) j (omega (arith, q))) in
    let f : over_splits (λ i j. c i (suc j)) n ≡ over_splits (λ i j. d i (suc j)) n = over_splits-same (λ i j. c i (suc j)) (λ i j. d i (suc j)) n (λ i j q. h i (suc j) (omega (arith, q))) in
    omega (arith, e, f)

-- it looks at what shares n alone
pub over_shares-same : (u : Universe) (c d : ℕ → ℕ → ℕ) (n : ℕ) → ((i j : ℕ) → i + j ≡ n → c i j ≡ d i j) → over_shares u c n ≡ over_shares u d n
unfolding over_shares
over_shares-same Unlabelled c d n h = sum_below-same (λ k. c k (n - k)) (λ k. d k (n - k)) (suc n) (λ k l. h k (n - k) (omega arith))
over_shares-same Labelled c d n h = over_splits-same c d n h

-- unlabelled shares are those of the base
pub shares-unlabelled : (a b : ℕ → ℕ) (n : ℕ) → shares Unlabelled a b n ≡ convolve a b n
unfolding over_shares convolve
shares-unlabelled a b n = refl

-- so many splits have k labels in the first
pub splits_choose : (c : ℕ → ℕ → ℕ) (n : ℕ) → over_splits c n ≡ sum_below (λ k. choose n k * c k (n - k)) (suc n)
splits_choose c zero = omega arith
splits_choose c (suc n) =
    let f : ℕ → ℕ = λ k. choose (suc n) k * c k (suc n - k) in
    let g : ℕ → ℕ = λ k. choose n k * c k (suc n - k) in
    let s1 : ℕ → ℕ = λ k. choose n k * c (suc k) (n - k) in
    let e1 : sum_below f (suc (suc n)) ≡ f 0 + sum_below (λ k. f (suc k)) (suc n) = sum_below-shift f (suc n) in
    let e2 : sum_below (λ k. f (suc k)) (suc n) ≡ sum_below (λ k. s1 k + g (suc k)) (suc n) = sum_below-same (λ k. f (suc k)) (λ k. s1 k + g (suc k)) (suc n) (λ k l.
    add-mul (choose n k) (choose n (suc k)) (c (suc k) (suc n - suc k)) ∙ ap (λ m. choose n k * c (suc k) m + g (suc k)) (let q : suc n - suc k ≡ n - k = omega arith in q)) in
    let e3 : sum_below (λ k. s1 k + g (suc k)) (suc n) ≡ sum_below s1 (suc n) + sum_below (λ k. g (suc k)) (suc n) = sum_below-add s1 (λ k. g (suc k)) (suc n) in
    let e4 : sum_below g (suc (suc n)) ≡ g 0 + sum_below (λ k. g (suc k)) (suc n) = sum_below-shift g (suc n) in
    let e5 : g (suc n) ≡ 0 = ap (λ m. m * c (suc n) (suc n - suc n)) (choose-past n (suc n) (omega arith)) ∙ zero_times (c (suc n) (suc n - suc n)) in
    let e6 : sum_below g (suc n) ≡ sum_below (λ k. choose n k * c k (suc (n - k))) (suc n) = sum_below-same g (λ k. choose n k * c k (suc (n - k))) (suc n) (λ k l.
    ap (λ m. choose n k * c k m) (let q : suc n - k ≡ suc (n - k) = omega arith in q)) in
    omega (arith, splits_choose (λ i j. c (suc i) j) n, splits_choose (λ i j. c i (suc j)) n, e1, e2, e3, e4, e5, e6)
  where
    zero_times : (m : ℕ) → 0 * m ≡ 0
    zero_times m = omega arith

pub share-is_binomial : (a b : ℕ → ℕ) (n : ℕ) → shares Labelled a b n ≡ sum_below (λ k. choose n k * (a k * b (n - k))) (suc n)
unfolding over_shares
share-is_binomial a b n = splits_choose (λ i j. a i * b j) n
