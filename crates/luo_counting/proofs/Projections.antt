-- Of the four-fold numbers the first is the count, and the next the total.
use Rattle.std.proofs.Common.{◌≡◌, ℕ, zero, suc, ◌+◌, ◌*◌, ◌-◌, refl, ◌∙◌, ap, arith, Option}
use Rattle.luo_finite.proofs.Ranges.{sum_below-same}
use Rattle.luo_model.specs.declared.program.Universe.{Universe}
use Rattle.luo_model.specs.declared.program.Universe.TheVariants.{Labelled}
use Rattle.luo_model.specs.declared.program.Kind.{Kind}
use Rattle.luo_model.specs.declared.program.Kind.TheVariants.{Sequence, Set, Cycle, Multiset, Powerset}
use Rattle.luo_counting.specs.Numbers.{rows, row_totals, sets, set_totals, cycles, cycle_totals, chosen, chosen_totals, back, plane, plane_totals, of_k, totals_of_k, terms, coll_count, coll_total}
use Rattle.luo_counting.specs.Sharing.{shares}
use Rattle.luo_counting.specs.WeightNumbers.{rows_in, sets_in, cycles_in, plane_in, of_k_in, coll_in}
use Rattle.luo_counting.specs.Fours.{Four, Place, plain, left, four, chosen_four}
use Rattle.luo_counting.proofs.Two.{over_shares-same, over_shares-add}

module _ (a b d g : ℕ → ℕ) where
  abbrev pub F : ℕ → Place → ℕ
  F m = four (a m) (b m) (d m) (g m)

  shares_plain : (u : Universe) (f : ℕ → Place → ℕ) (x y : ℕ → ℕ) (n : ℕ) → ((j : ℕ) → f j plain ≡ y j) → shares u x (λ j. f j plain) n ≡ shares u x y n
  shares_plain u f x y n e = over_shares-same u (λ i j. x i * f j plain) (λ i j. x i * y j) n (λ i j q. ap (λ m. x i * m) (e j))

  pub rows_plain : (u : Universe) (k n : ℕ) → rows_in Four u F k n plain ≡ rows u a k n
  rows_plain u zero zero = refl
  rows_plain u zero (suc n) = refl
  rows_plain u (suc k) n = over_shares-same u (λ i j. a i * rows_in Four u F k j plain + 0) (λ i j. a i * rows u a k j) n (λ i j e. omega (arith, ap (λ m. a i * m) (rows_plain u k j)))

  pub rows_left : (u : Universe) (k n : ℕ) → rows_in Four u F k n left ≡ row_totals u a b k n
  rows_left u zero zero = refl
  rows_left u zero (suc n) = refl
  rows_left u (suc k) n =
      over_shares-same u (λ i j. b i * rows_in Four u F k j plain + (a i * rows_in Four u F k j left + 0)) (λ i j. b i * rows u a k j + a i * row_totals u a b k j) n
      (λ i j e. omega (arith, ap (λ m. b i * m) (rows_plain u k j), ap (λ m. a i * m) (rows_left u k j)))
      ∙ over_shares-add u (λ i j. b i * rows u a k j) (λ i j. a i * row_totals u a b k j) n

  sets_plain : (k n : ℕ) → sets_in Four F k n plain ≡ sets a k n
  sets_plain zero zero = refl
  sets_plain zero (suc n) = refl
  sets_plain (suc k) zero = refl
  sets_plain (suc k) (suc n) = over_shares-same Labelled (λ i j. a (suc i) * sets_in Four F k j plain + 0) (λ i j. a (suc i) * sets a k j) n (λ i j e. omega (arith, ap (λ m. a (suc i) * m) (sets_plain k j)))

  sets_left : (k n : ℕ) → sets_in Four F k n left ≡ set_totals a b k n
  sets_left zero zero = refl
  sets_left zero (suc n) = refl
  sets_left (suc k) zero = refl
  sets_left (suc k) (suc n) =
      over_shares-same Labelled (λ i j. b (suc i) * sets_in Four F k j plain + (a (suc i) * sets_in Four F k j left + 0)) (λ i j. b (suc i) * sets a k j + a (suc i) * set_totals a b k j) n
      (λ i j e. omega (arith, ap (λ m. b (suc i) * m) (sets_plain k j), ap (λ m. a (suc i) * m) (sets_left k j)))
      ∙ over_shares-add Labelled (λ i j. b (suc i) * sets a k j) (λ i j. a (suc i) * set_totals a b k j) n

  cycles_plain : (k n : ℕ) → cycles_in Four F k n plain ≡ cycles a k n
  cycles_plain zero n = refl
  cycles_plain (suc k) zero = refl
  cycles_plain (suc k) (suc n) = over_shares-same Labelled (λ i j. a (suc i) * rows_in Four Labelled F k j plain + 0) (λ i j. a (suc i) * rows Labelled a k j) n (λ i j e. omega (arith, ap (λ m. a (suc i) * m) (rows_plain Labelled k j)))

  cycles_left : (k n : ℕ) → cycles_in Four F k n left ≡ cycle_totals a b k n
  cycles_left zero n = refl
  cycles_left (suc k) zero = refl
  cycles_left (suc k) (suc n) =
      over_shares-same Labelled (λ i j. b (suc i) * rows_in Four Labelled F k j plain + (a (suc i) * rows_in Four Labelled F k j left + 0)) (λ i j. b (suc i) * rows Labelled a k j + a (suc i) * row_totals Labelled a b k j) n
      (λ i j e. omega (arith, ap (λ m. b (suc i) * m) (rows_plain Labelled k j), ap (λ m. a (suc i) * m) (rows_left Labelled k j)))
      ∙ over_shares-add Labelled (λ i j. b (suc i) * rows Labelled a k j) (λ i j. a (suc i) * row_totals Labelled a b k j) n

  plane_plain : (kind : Kind) (e k n : ℕ) → plane_in Four (λ e j. chosen_four kind (F e) j) e k n plain ≡ plane kind a e k n
  plane_plain kind zero zero zero = refl
  plane_plain kind zero zero (suc n) = refl
  plane_plain kind zero (suc k) n = refl
  plane_plain kind (suc e) k n =
      sum_below-same (λ j. chosen kind (a (suc e)) j * back (j * suc e) (λ m. plane_in Four (λ e j. chosen_four kind (F e) j) e (k - j) m plain) n + 0) (λ j. chosen kind (a (suc e)) j * back (j * suc e) (plane kind a e (k - j)) n) (suc k)
      (λ j h. omega (arith, ap (λ (f : ℕ → ℕ). chosen kind (a (suc e)) j * back (j * suc e) f n) (λ i m. plane_plain kind e (k - j) m i)))

  plane_left : (kind : Kind) (e k n : ℕ) → plane_in Four (λ e j. chosen_four kind (F e) j) e k n left ≡ plane_totals kind a b e k n
  plane_left kind zero zero zero = refl
  plane_left kind zero zero (suc n) = refl
  plane_left kind zero (suc k) n = refl
  plane_left kind (suc e) k n =
      sum_below-same
      (λ j. chosen_totals kind (a (suc e)) (b (suc e)) j * back (j * suc e) (λ m. plane_in Four (λ e j. chosen_four kind (F e) j) e (k - j) m plain) n + (chosen kind (a (suc e)) j * back (j * suc e) (λ m. plane_in Four (λ e j. chosen_four kind (F e) j) e (k - j) m left) n + 0))
      (λ j. chosen_totals kind (a (suc e)) (b (suc e)) j * back (j * suc e) (plane kind a e (k - j)) n + chosen kind (a (suc e)) j * back (j * suc e) (plane_totals kind a b e (k - j)) n) (suc k)
      (λ j h. omega (
        arith,
        ap (λ (f : ℕ → ℕ). chosen_totals kind (a (suc e)) (b (suc e)) j * back (j * suc e) f n) (λ i m. plane_plain kind e (k - j) m i),
        ap (λ (f : ℕ → ℕ). chosen kind (a (suc e)) j * back (j * suc e) f n) (λ i m. plane_left kind e (k - j) m i),
      ))

  of_k_plain : (u : Universe) (kind : Kind) (k n : ℕ) → of_k_in Four chosen_four u kind F k n plain ≡ of_k u kind a k n
  of_k_plain u Sequence k n = rows_plain u k n
  of_k_plain u Set k n = sets_plain k n
  of_k_plain u Cycle k n = cycles_plain k n
  of_k_plain u Multiset k n = plane_plain Multiset n k n
  of_k_plain u Powerset k n = plane_plain Powerset n k n

  of_k_left : (u : Universe) (kind : Kind) (k n : ℕ) → of_k_in Four chosen_four u kind F k n left ≡ totals_of_k u kind a b k n
  of_k_left u Sequence k n = rows_left u k n
  of_k_left u Set k n = sets_left k n
  of_k_left u Cycle k n = cycles_left k n
  of_k_left u Multiset k n = plane_left Multiset n k n
  of_k_left u Powerset k n = plane_left Powerset n k n

  pub coll_plain : (u : Universe) (kind : Kind) (low : ℕ) (high : Option ℕ) (n : ℕ) → coll_in Four chosen_four u kind F low high n plain ≡ coll_count u kind a low high n
  unfolding coll_in coll_count
  coll_plain u kind low high n = sum_below-same (λ m. of_k_in Four chosen_four u kind F (low + m) n plain) (λ i. of_k u kind a (low + i) n) (terms low high n) (λ i l. of_k_plain u kind (low + i) n)

  pub coll_left : (u : Universe) (kind : Kind) (low : ℕ) (high : Option ℕ) (n : ℕ) → coll_in Four chosen_four u kind F low high n left ≡ coll_total u kind a b low high n
  unfolding coll_in coll_total
  coll_left u kind low high n = sum_below-same (λ m. of_k_in Four chosen_four u kind F (low + m) n left) (λ i. totals_of_k u kind a b (low + i) n) (terms low high n) (λ i l. of_k_left u kind (low + i) n)
