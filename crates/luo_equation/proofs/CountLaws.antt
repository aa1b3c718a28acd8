-- THE LAWS: the coefficient of a collection is a count, and that of a point a total; no quotient leaves a remainder.
use Rattle.std.proofs.Common.{◌≡◌, ℕ, zero, suc, ◌+◌, ◌*◌, ◌<◌, refl, sym, ◌∙◌, ap, arith, ℤ, pos, ◌*ℤ◌, Option}
use Rattle.std.proofs.Math.IntN.{pos-*ℤ-pos}
use Rattle.std.proofs.Math.Nat.{mul-pos}
use Rattle.luo_finite.specs.Range.{sum_below}
use Rattle.luo_finite.proofs.Sums.{Counts-unique, Sums-unique}
use Rattle.luo_model.specs.declared.program.Universe.{Universe}
use Rattle.luo_model.specs.declared.program.Universe.TheVariants.{Unlabelled, Labelled}
use Rattle.luo_model.specs.declared.program.Kind.{Kind}
use Rattle.luo_model.specs.declared.program.Kind.TheVariants.{Sequence, Set, Cycle, Multiset, Powerset}
use Rattle.luo_counting.specs.Items.{Suits}
use Rattle.luo_counting.specs.Sharing.{shares}
use Rattle.luo_counting.specs.Numbers.{rows, sets, cycles, plane, of_k, totals_of_k, coll_count, coll_total, terms}
use Rattle.luo_model.specs.Numbered.{NumberedCollection, charged}
use Rattle.luo_counting.proofs.Numbered.{coll_total_is}
use Rattle.luo_equation.specs.Series.{floor, factorial, times, power, coll_of, point_of, coll, point, IsExactOf}
use Rattle.luo_equation.specs.Laws.{CollectionsAreCounted, PointsAreTotals}
use Rattle.luo_equation.proofs.Integers.{floor-exact}
use Rattle.luo_equation.proofs.SeriesLemmas.{sum_z-same, sum_z-pos, unit-pos, power-pos, times-pos}
use Rattle.luo_equation.proofs.Shares.{rows-sets, rows-cycles, row_totals-is, set_totals-is, cycle_totals-is}
use Rattle.luo_equation.proofs.Classes.{plane-none}
use Rattle.luo_equation.proofs.Copies.{all-zero, as_z}
use Rattle.luo_equation.proofs.BagLaws.{bags-are, bags-exact, point-is, bag-points}

pub factorial_pos : (k : ℕ) → 0 < factorial k
factorial_pos zero = omega arith
factorial_pos (suc k) = mul-pos (let h : 0 < suc k = omega arith in h) (factorial_pos k)

module _ (a : ℕ → ℕ) (z : a 0 ≡ 0) where
  abbrev A : ℕ → ℤ
  A m = pos (a m)

  set-dividend : (k n : ℕ) → power Labelled A k n ≡ pos (factorial k * sets a k n)
  set-dividend k n = power-pos Labelled a k n ∙ ap pos (rows-sets a z k n)

  cycle-dividend : (k n : ℕ) → power Labelled A (suc k) n ≡ pos (suc k * cycles a (suc k) n)
  cycle-dividend k n = power-pos Labelled a (suc k) n ∙ ap pos (rows-cycles a z k n)

  -- collections of k components
  pub coll_of-pos : (u : Universe) (kind : Kind) (k n : ℕ) → Suits u kind k → coll_of u kind A k n ≡ pos (of_k u kind a k n)
  coll_of-pos u Sequence zero n s = unit-pos n
  coll_of-pos u Sequence (suc k) n s = power-pos u a (suc k) n
  coll_of-pos Labelled Set zero n s = unit-pos n
  coll_of-pos Labelled Set (suc k) n s = ap (λ y. floor y (factorial (suc k))) (set-dividend (suc k) n) ∙ floor-exact (factorial (suc k)) (sets a (suc k) n) (factorial_pos (suc k))
  coll_of-pos Labelled Cycle zero n s = absurd (omega (arith, s))
  coll_of-pos Labelled Cycle (suc k) n s = ap (λ y. floor y (suc k)) (cycle-dividend k n) ∙ floor-exact (suc k) (cycles a (suc k) n) (omega arith)
  coll_of-pos Unlabelled Multiset zero n s = unit-pos n ∙ ap pos (sym (plane-none Multiset a n n))
  coll_of-pos Unlabelled Multiset (suc k) n s = (bags-are Multiset tt a z n (suc k) n (omega arith)).0
  coll_of-pos Unlabelled Powerset zero n s = unit-pos n ∙ ap pos (sym (plane-none Powerset a n n))
  coll_of-pos Unlabelled Powerset (suc k) n s = (bags-are Powerset tt a z n (suc k) n (omega arith)).0
  coll_of-pos Unlabelled Set k n s = absurd s
  coll_of-pos Unlabelled Cycle k n s = absurd s
  coll_of-pos Labelled Multiset k n s = absurd s
  coll_of-pos Labelled Powerset k n s = absurd s

  pub exact_of : (u : Universe) (kind : Kind) (k n : ℕ) → Suits u kind k → IsExactOf u kind A k n
  exact_of u kind zero n s = tt
  exact_of u Sequence (suc k) n s = tt
  exact_of Labelled Set (suc k) n s = (pos (sets a (suc k) n), set-dividend (suc k) n ∙ sym (pos-*ℤ-pos (factorial (suc k)) (sets a (suc k) n)))
  exact_of Labelled Cycle (suc k) n s = (pos (cycles a (suc k) n), cycle-dividend k n ∙ sym (pos-*ℤ-pos (suc k) (cycles a (suc k) n)))
  exact_of Unlabelled Multiset (suc k) n s = bags-exact Multiset tt a z n k n (omega arith)
  exact_of Unlabelled Powerset (suc k) n s = bags-exact Powerset tt a z n k n (omega arith)
  exact_of Unlabelled Set (suc k) n s = absurd s
  exact_of Unlabelled Cycle (suc k) n s = absurd s
  exact_of Labelled Multiset (suc k) n s = absurd s
  exact_of Labelled Powerset (suc k) n s = absurd s

  module _ (b : ℕ → ℕ) (h : (m : ℕ) → a m ≡ 0 → b m ≡ 0) where
    abbrev B : ℕ → ℤ
    B m = pos (b m)

    -- points of k components
    pub point_of-pos : (u : Universe) (kind : Kind) (k n : ℕ) → Suits u kind k → point_of u kind A B k n ≡ pos (totals_of_k u kind a b k n)
    point_of-pos u Sequence zero n s = refl
    point_of-pos u Sequence (suc k) n s =
        ap (λ (f : ℕ → ℤ). pos (suc k) *ℤ times u B f n) (λ i m. power-pos u a k m i) ∙ ap (λ y. pos (suc k) *ℤ y) (times-pos u b (rows u a k) n) ∙ pos-*ℤ-pos (suc k) (shares u b (rows u a k) n) ∙ ap pos (sym (row_totals-is u a b k n))
    point_of-pos Labelled Set zero n s = refl
    point_of-pos Labelled Set (suc k) n s = ap (λ (f : ℕ → ℤ). times Labelled B f n) (λ i m. coll_of-pos Labelled Set k m tt i) ∙ times-pos Labelled b (sets a k) n ∙ ap pos (sym (set_totals-is a b (h 0 z) k n))
    point_of-pos Labelled Cycle zero n s = refl
    point_of-pos Labelled Cycle (suc k) n s = ap (λ (f : ℕ → ℤ). times Labelled B f n) (λ i m. power-pos Labelled a k m i) ∙ times-pos Labelled b (rows Labelled a k) n ∙ ap pos (sym (cycle_totals-is a b (h 0 z) k n))
    point_of-pos Unlabelled Multiset zero n s = sym (bag-points Multiset tt a b h n 0 n ∙ all-zero Multiset b n (as_z (plane Multiset a n)) n)
    point_of-pos Unlabelled Multiset (suc k) n s = point-is Multiset tt a z n b (h 0 z) h (suc k) n (omega arith)
    point_of-pos Unlabelled Powerset zero n s = sym (bag-points Powerset tt a b h n 0 n ∙ all-zero Powerset b n (as_z (plane Powerset a n)) n)
    point_of-pos Unlabelled Powerset (suc k) n s = point-is Powerset tt a z n b (h 0 z) h (suc k) n (omega arith)
    point_of-pos Unlabelled Set k n s = absurd s
    point_of-pos Unlabelled Cycle k n s = absurd s
    point_of-pos Labelled Multiset k n s = absurd s
    point_of-pos Labelled Powerset k n s = absurd s

  suits_more : (u : Universe) (kind : Kind) (low i : ℕ) → Suits u kind low → Suits u kind (low + i)
  suits_more u Sequence low i s = tt
  suits_more Labelled Set low i s = tt
  suits_more Labelled Cycle low i s = omega (arith, s)
  suits_more Unlabelled Multiset low i s = tt
  suits_more Unlabelled Powerset low i s = tt
  suits_more Unlabelled Set low i s = s
  suits_more Unlabelled Cycle low i s = s
  suits_more Labelled Multiset low i s = s
  suits_more Labelled Powerset low i s = s

  pub coll-pos : (u : Universe) (kind : Kind) (low : ℕ) (high : Option ℕ) (n : ℕ) → Suits u kind low → coll u kind A low high n ≡ pos (coll_count u kind a low high n)
  unfolding coll coll_count
  coll-pos u kind low high n s =
      sum_z-same (λ i. coll_of u kind A (low + i) n) (λ i. pos (of_k u kind a (low + i) n)) (terms low high n) (λ i l. coll_of-pos u kind (low + i) n (suits_more u kind low i s))
      ∙ sum_z-pos (λ i. of_k u kind a (low + i) n) (terms low high n)

  pub point-pos : (b : ℕ → ℕ) → ((m : ℕ) → a m ≡ 0 → b m ≡ 0) → (u : Universe) (kind : Kind) (low : ℕ) (high : Option ℕ) (n : ℕ) → Suits u kind low
      → point u kind A (λ m. pos (b m)) low high n ≡ pos (coll_total u kind a b low high n)
  unfolding point coll_total
  point-pos b h u kind low high n s =
      sum_z-same (λ i. point_of u kind A (λ m. pos (b m)) (low + i) n) (λ i. pos (totals_of_k u kind a b (low + i) n)) (terms low high n) (λ i l. point_of-pos b h u kind (low + i) n (suits_more u kind low i s))
      ∙ sum_z-pos (λ i. totals_of_k u kind a b (low + i) n) (terms low high n)

pub collections-counted : CollectionsAreCounted
collections-counted u kind low high a n c s z k =
    coll-pos a z u kind low high n s
    ∙ ap pos (Counts-unique (NumberedCollection u kind low high a n) (coll_count u kind a low high n) c (coll_total_is u kind low high a (λ m. sum_below (λ i. 0) (a m)) (λ m i. 0) n s z (λ m. refl)).0 k)

pub points-total : PointsAreTotals
points-total u kind low high a q n t s z k =
    let b : ℕ → ℕ = λ m. sum_below (q m) (a m) in
    point-pos a z b (λ m e. ap (sum_below (q m)) e) u kind low high n s
    ∙ ap pos (Sums-unique (NumberedCollection u kind low high a n) (charged q) (coll_total u kind a b low high n) t (coll_total_is u kind low high a b q n s z (λ m. refl)).1 k)
