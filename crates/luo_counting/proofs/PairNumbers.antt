-- The recursion of sums of products, in numbers: four terms where a total has two.
use Rattle.std.proofs.Common.{◌≡◌, ℕ, zero, suc, ◌+◌, ◌*◌, refl, ◌∙◌, ap, arith}
use Rattle.luo_model.specs.declared.program.Universe.{Universe}
use Rattle.luo_counting.specs.Sharing.{shares}
use Rattle.luo_counting.specs.Numbers.{rows, row_totals}
use Rattle.luo_counting.specs.WeightNumbers.{rows_in}
use Rattle.luo_counting.specs.Fours.{Four, plain, left, right, both, four}
use Rattle.luo_counting.proofs.Two.{over_shares-same, over_shares-add}
use Rattle.luo_counting.proofs.Projections.{rows_plain, rows_left}

module _ (a b d g : ℕ → ℕ) where
  pub rows_right : (u : Universe) (k n : ℕ) → rows_in Four u (λ m. four (a m) (b m) (d m) (g m)) k n right ≡ row_totals u a d k n
  rows_right u zero zero = refl
  rows_right u zero (suc n) = refl
  rows_right u (suc k) n =
      over_shares-same u (λ i j. d i * rows_in Four u (λ m. four (a m) (b m) (d m) (g m)) k j plain + (a i * rows_in Four u (λ m. four (a m) (b m) (d m) (g m)) k j right + 0)) (λ i j. d i * rows u a k j + a i * row_totals u a d k j) n
      (λ i j e. omega (arith, ap (λ m. d i * m) (rows_plain a b d g u k j), ap (λ m. a i * m) (rows_right u k j)))
      ∙ over_shares-add u (λ i j. d i * rows u a k j) (λ i j. a i * row_totals u a d k j) n

  pub rows_both : (u : Universe) (k n : ℕ) → let r = rows_in Four u (λ m. four (a m) (b m) (d m) (g m)) in
      r (suc k) n both ≡ shares u g (rows u a k) n + (shares u b (row_totals u a d k) n + (shares u d (row_totals u a b k) n + shares u a (λ j. r k j both) n))
  rows_both u k n =
      let r = rows_in Four u (λ m. four (a m) (b m) (d m) (g m)) in
      over_shares-same u (λ i j. g i * r k j plain + (b i * r k j right + (d i * r k j left + (a i * r k j both + 0)))) (λ i j. g i * rows u a k j + (b i * row_totals u a d k j + (d i * row_totals u a b k j + a i * r k j both))) n
      (λ i j e. omega (arith, ap (λ m. g i * m) (rows_plain a b d g u k j), ap (λ m. b i * m) (rows_right u k j), ap (λ m. d i * m) (rows_left a b d g u k j)))
      ∙ over_shares-add u (λ i j. g i * rows u a k j) (λ i j. b i * row_totals u a d k j + (d i * row_totals u a b k j + a i * r k j both)) n
      ∙ ap (λ m. shares u g (rows u a k) n + m) (over_shares-add u (λ i j. b i * row_totals u a d k j) (λ i j. d i * row_totals u a b k j + a i * r k j both) n
      ∙ ap (λ m. shares u b (row_totals u a d k) n + m) (over_shares-add u (λ i j. d i * row_totals u a b k j) (λ i j. a i * r k j both) n))
