-- Two choices of charges over numbered collections.
use Rattle.std.proofs.Common.{◌≡◌, ℕ, ◌*◌, ◌<◌, List, sym, ◌∙◌, ap, subst, arith}
use Rattle.luo_finite.specs.Listing.{Sums}
use Rattle.luo_finite.specs.Range.{sum_below}
use Rattle.luo_finite.proofs.Sums.{Sums-same}
use Rattle.luo_model.specs.declared.program.Universe.{Universe}
use Rattle.luo_model.specs.Member.{IsWithin}
use Rattle.luo_model.specs.Structures.{labels_from}
use Rattle.luo_model.specs.Numbered.{Numbered, size_in, number_in, labels_in, IsNumbered, IsEarlier, NumberedCollection, charged}
use Rattle.luo_counting.specs.Sharing.{IsRoom}
use Rattle.luo_counting.specs.Items.{On}
use Rattle.luo_counting.specs.Weights.{product, Measured}
use Rattle.luo_counting.specs.Fours.{Four, Place, plain, left, right, both, four, point, chosen_four, coll_pairs}
use Rattle.luo_counting.specs.Laws.{PairsAreTotalled}
use Rattle.luo_counting.proofs.Rows.{Ready}
use Rattle.luo_counting.proofs.Collections.{Measured-collections}
use Rattle.luo_counting.proofs.Fours.{four_algebra, product-point}
use Rattle.luo_counting.proofs.Closed.{four_closes}
use Rattle.luo_counting.proofs.Numbered.{items_known, numbered_sized, numbered_ordered, numbered_by_size, room_of}

module _ (a b d g : ℕ → ℕ) (q r : ℕ → ℕ → ℕ) (z : a 0 ≡ 0) (e : (m : ℕ) → sum_below (q m) (a m) ≡ b m) (f : (m : ℕ) → sum_below (r m) (a m) ≡ d m) (h : (m : ℕ) → sum_below (λ i. q m i * r m i) (a m) ≡ g m) where
  -- the weight of an item, and of all of one size
  abbrev weight : Numbered → Place → ℕ
  weight = point (λ v. q (size_in v) (number_in v)) (λ v. r (size_in v) (number_in v))

  abbrev sums : ℕ → Place → ℕ
  sums m = four (a m) (b m) (d m) (g m)

  known : (u : Universe) (m : ℕ) (S : List ℕ) → IsRoom u S m → Measured Four (On u (IsNumbered u a) size_in labels_in S m) weight (sums m)
  known u m S s plain = (items_known a q u S m s).count
  known u m S s left = subst (Sums (On u (IsNumbered u a) size_in labels_in S m) (λ v. q (size_in v) (number_in v))) (e m) (items_known a q u S m s).total
  known u m S s right = subst (Sums (On u (IsNumbered u a) size_in labels_in S m) (λ v. r (size_in v) (number_in v))) (f m) (items_known a r u S m s).total
  known u m S s both = subst (Sums (On u (IsNumbered u a) size_in labels_in S m) (λ v. q (size_in v) (number_in v) * r (size_in v) (number_in v))) (h m) (items_known a (λ m i. q m i * r m i) u S m s).total

  none_at_zero : (k : Place) → sums 0 k ≡ 0
  none_at_zero plain = z
  none_at_zero left = sym (e 0) ∙ ap (sum_below (q 0)) z
  none_at_zero right = sym (f 0) ∙ ap (sum_below (r 0)) z
  none_at_zero both = sym (h 0) ∙ ap (sum_below (λ i. q 0 i * r 0 i)) z

  pub pairs_ready : (u : Universe) (n : ℕ) (wanted : Type 0) → Ready Four u (IsNumbered u a) size_in labels_in weight sums n wanted
  pairs_ready u n wanted = record {
    sized = numbered_sized a u;
    none = λ v m k. let l : v.number < a 0 = subst (λ j. v.number < a j) k m.0 in omega (arith, l, z);
    no_number = none_at_zero;
    below = λ m i l S s. known u m S s;
    here = λ o S s. known u n S s;
  }

pub pairs_totalled : PairsAreTotalled
pairs_totalled u kind low high a b d g q r n s z e f h =
    let v : Numbered → ℕ = λ x. q (size_in x) (number_in x) in
    let w : Numbered → ℕ = λ x. r (size_in x) (number_in x) in
    let c : ℕ = coll_pairs u kind a b d g low high n in
    Sums-same (NumberedCollection u kind low high a n) (λ xs. product Four (point v w) xs both) (λ xs. charged q xs * charged r xs) c (λ xs m. product-point v w xs both)
    (Measured-collections Four four_algebra (IsNumbered u a) size_in labels_in (point v w) chosen_four (four_closes v w) (λ m. four (a m) (b m) (d m) (g m)) IsEarlier numbered_ordered numbered_by_size u kind low high n (labels_from 1 n) s (room_of u n)
    (pairs_ready a b d g q r z e f h u n (IsWithin low high 1)) both)
