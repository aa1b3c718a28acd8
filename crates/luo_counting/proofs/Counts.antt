-- The law of counts and totals is the law of four-fold numbers, read at two places.
use Rattle.std.proofs.Common.{◌≡◌, ℕ, ◌≤◌, ◌<◌, ◌*◌, List, refl, sym, subst, Option}
use Rattle.std.proofs.Math.Nat.{mul-zero, zero-mul}
use Rattle.luo_finite.specs.Listing.{Sums}
use Rattle.luo_finite.proofs.Sums.{Sums-same, Sums-constant}
use Rattle.luo_finite.specs.Each.{total}
use Rattle.luo_model.specs.declared.program.Universe.{Universe}
use Rattle.luo_model.specs.declared.program.Kind.{Kind}
use Rattle.luo_model.specs.Member.{IsWithin}
use Rattle.luo_model.specs.Collections.{IsCollectionOf}
use Rattle.luo_counting.specs.Sharing.{IsRoom}
use Rattle.luo_counting.specs.Items.{On, Suits}
use Rattle.luo_counting.specs.Numbers.{coll_count, coll_total}
use Rattle.luo_counting.specs.Weights.{Measured, product}
use Rattle.luo_counting.specs.WeightNumbers.{coll_in}
use Rattle.luo_counting.specs.Fours.{Four, Place, plain, left, right, both, four, point, chosen_four}
use Rattle.luo_counting.proofs.Measures.{Measures}
use Rattle.luo_counting.proofs.Two.{IsSized}
use Rattle.luo_finite.proofs.Falling.{IsOrder, IsBySize}
use Rattle.luo_counting.proofs.Fours.{four_algebra, product-point}
use Rattle.luo_counting.proofs.Closed.{four_closes}
use Rattle.luo_counting.proofs.Collections.{Measured-collections}
use Rattle.luo_counting.proofs.Projections.{coll_plain, coll_left}
use Rattle.luo_counting.proofs.Rows as many

-- what is known of the items for a collection of size n: there is none of size 0, and those of smaller sizes, and of size n where they are wanted, have a count and a total
pub record Ready {A : Type 0} (u : Universe) (M : A → Type 0) (size : A → ℕ) (lab : A → List ℕ) (w : A → ℕ) (a b : ℕ → ℕ) (n : ℕ) (wanted : Type 0) : Type 0 where
  pub sized : IsSized u M size lab
  pub none : (x : A) → M x → size x ≡ 0 → ⊥
  pub no_count : a 0 ≡ 0
  pub no_total : b 0 ≡ 0
  pub below : (m : ℕ) → 1 ≤ m → m < n → (S : List ℕ) → IsRoom u S m → Measures (On u M size lab S m) w (a m) (b m)
  pub here : wanted → (S : List ℕ) → IsRoom u S n → Measures (On u M size lab S n) w (a n) (b n)

-- a count and a total, with nothing beside them
pub alone : {A : Type 0} (P : A → Type 0) (w : A → ℕ) (c t : ℕ) → Measures P w c t → Measured Four P (point w (λ x. 0)) (four c t 0 0)
alone P w c t m plain = m.count
alone P w c t m left = m.total
alone P w c t m right = subst (Sums P (λ x. 0)) (zero-mul c) (Sums-constant P 0 c m.count)
alone P w c t m both = Sums-same P (λ x. 0) (λ x. w x * 0) 0 (λ x p. sym (mul-zero (w x))) (subst (Sums P (λ x. 0)) (zero-mul c) (Sums-constant P 0 c m.count))

module _ {A : Type 0} (M : A → Type 0) (size : A → ℕ) (lab : A → List ℕ) (w : A → ℕ) (a b : ℕ → ℕ) (Before : A → A → Type 0) (order : IsOrder Before) (by_size : IsBySize size Before) where
  zeros : (u : Universe) (n : ℕ) (wanted : Type 0) → Ready u M size lab w a b n wanted → (k : Place) → four (a 0) (b 0) 0 0 k ≡ 0
  zeros u n wanted r plain = r.no_count
  zeros u n wanted r left = r.no_total
  zeros u n wanted r right = refl
  zeros u n wanted r both = refl

  ready_alone : (u : Universe) (n : ℕ) (wanted : Type 0) → Ready u M size lab w a b n wanted → many.Ready Four u M size lab (point w (λ x. 0)) (λ m. four (a m) (b m) 0 0) n wanted
  ready_alone u n wanted r = record {
    sized = r.sized;
    none = r.none;
    no_number = zeros u n wanted r;
    below = λ m i l S q. alone (On u M size lab S m) w (a m) (b m) (r.below m i l S q);
    here = λ o S q. alone (On u M size lab S n) w (a n) (b n) (r.here o S q);
  }

  -- THE LAW of collections, of counts and totals
  pub Measures-collections : (u : Universe) (kind : Kind) (low : ℕ) (high : Option ℕ) (n : ℕ) (L : List ℕ) → Suits u kind low → IsRoom u L n → Ready u M size lab w a b n (IsWithin low high 1)
      → Measures (IsCollectionOf u M size lab Before kind low high L n) (total w) (coll_count u kind a low high n) (coll_total u kind a b low high n)
  Measures-collections u kind low high n L s q r =
      let m = Measured-collections Four four_algebra M size lab (point w (λ x. 0)) chosen_four (four_closes w (λ x. 0)) (λ m. four (a m) (b m) 0 0) Before order by_size u kind low high n L s q (ready_alone u n (IsWithin low high 1) r) in
      record {
        count = subst (Sums (IsCollectionOf u M size lab Before kind low high L n) (λ xs. 1)) (coll_plain a b (λ m. 0) (λ m. 0) u kind low high n)
            (Sums-same (IsCollectionOf u M size lab Before kind low high L n) (λ xs. product Four (point w (λ x. 0)) xs plain) (λ xs. 1) (coll_in Four chosen_four u kind (λ m. four (a m) (b m) 0 0) low high n plain) (λ xs k. product-point w (λ x. 0) xs plain) (m plain));
        total = subst (Sums (IsCollectionOf u M size lab Before kind low high L n) (total w)) (coll_left a b (λ m. 0) (λ m. 0) u kind low high n)
            (Sums-same (IsCollectionOf u M size lab Before kind low high L n) (λ xs. product Four (point w (λ x. 0)) xs left) (total w) (coll_in Four chosen_four u kind (λ m. four (a m) (b m) 0 0) low high n left) (λ xs k. product-point w (λ x. 0) xs left) (m left));
      }
