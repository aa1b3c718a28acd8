-- Places of pairs, in both universes.
use Rattle.std.proofs.Common.{◌≡◌, ℕ, ◌+◌, ◌*◌, ◌-◌, ◌≤◌, List, [], sym, ◌∙◌, ap, subst, arith}
use Rattle.std.proofs.Math.Nat.{mul-zero}
use Rattle.luo_finite.specs.Listing.{In, Sums}
use Rattle.luo_finite.specs.Range.{sum_below}
use Rattle.luo_finite.proofs.Sums.{Sums-iff}
use Rattle.luo_finite.proofs.Ranges.{sum_below-same}
use Rattle.luo_model.specs.declared.program.Universe.{Universe}
use Rattle.luo_model.specs.declared.program.Universe.TheVariants.{Unlabelled, Labelled}
use Rattle.luo_finite.specs.Binomial.{choose}
use Rattle.luo_counting.specs.Sharing.{splits, IsRoom}
use Rattle.luo_counting.specs.Items.{On}
use Rattle.luo_counting.proofs.Two.{IsSized, PairOn}
use Rattle.luo_finite.specs.Places.{IsPlace, Lex, Lexical, IsChoice}
use Rattle.luo_places.specs.Numbers.{ways, pair_place, IsPart}
use Rattle.luo_finite.proofs.OrderedPlaces.{Place-iff}
use Rattle.luo_places.proofs.Orderings.{IsByRoom}
use Rattle.luo_finite.proofs.Choices.{choices_counted}
use Rattle.luo_places.proofs.Pairs.{Shared, unlabelled_place, labelled_place}

module _ {A B : Type 0} (M : A → Type 0) (N : B → Type 0) (size : A → ℕ) (other : B → ℕ) (la : A → List ℕ) (lb : B → List ℕ) (R : A → A → Type 0) (Q : B → B → Type 0) (o : IsByRoom size la R) (a b : ℕ → ℕ)
    (n : ℕ) where
  pub all_alike : (i r s : ℕ) → sum_below (λ k. a k * b (n - k)) i + (r * b (n - i) + s) ≡ pair_place (ways Unlabelled n) a b n i 0 r s
  unfolding pair_place
  all_alike i r s =
      let e : sum_below (λ k. a k * b (n - k)) i ≡ sum_below (λ k. (a k * b (n - k)) * 1) i = sum_below-same (λ k. a k * b (n - k)) (λ k. (a k * b (n - k)) * 1) i (λ k l. let q : a k * b (n - k) ≡ (a k * b (n - k)) * 1 = omega arith in q) in
      omega (arith, e, mul-zero (a i * b (n - i)))

  labelled_both : (L : List ℕ) → IsRoom Labelled L n → IsSized Labelled M size la → IsSized Labelled N other lb
      → ((k : ℕ) → k ≤ n → (U : List ℕ) → IsRoom Labelled U k → Sums (On Labelled M size la U k) (λ v. 1) (a k)) → ((k : ℕ) → k ≤ n → (U : List ℕ) → IsRoom Labelled U k → Sums (On Labelled N other lb U k) (λ v. 1) (b k))
      → (i j q r s : ℕ) (x : A) (y : B) (S T : List ℕ) → i + j ≡ n → In (S, T) (splits L) → IsPlace (IsChoice L i) Lexical q S → IsPlace (On Labelled M size la S i) R r x → IsPlace (On Labelled N other lb T j) Q s y
      → IsPlace (PairOn Labelled M N size other la lb L n) (Lex R Q) (pair_place (ways Labelled n) a b n i q r s) (x, y)
  unfolding pair_place
  labelled_both L room sm sn known rest i j q r s x y S T e split chosen m k =
      subst (λ h. IsPlace (PairOn Labelled M N size other la lb L n) (Lex R Q) (sum_below (λ k. (a k * b (n - k)) * choose n k) i + ((a i * b (n - i)) * q + (r * b h + s))) (x, y))
      (let f : j ≡ n - i = omega (arith, e) in f)
      (Place-iff (Shared M N size other la lb R Q o a b n (λ C. Unit {0}) (choose n) L room sm sn) (PairOn Labelled M N size other la lb L n) (Lex R Q) (Lex R Q)
      (sum_below (λ k. (a k * b (n - k)) * choose n k) i + ((a i * b (n - i)) * q + (r * b j + s))) (x, y) (λ z p. p.0) (λ z p. (p, tt)) (λ z p h. h) (λ z p h. h)
      (labelled_place M N size other la lb R Q o a b n (λ C. Unit {0}) (choose n) L room sm sn known rest i j q r s x y S T e split
      (λ h l. Sums-iff (IsChoice L h) (λ D. IsChoice L h D × Unit {0}) (λ D. 1) (choose n h) (λ D d. (d, tt)) (λ D d. d.0) (subst (λ v. Sums (IsChoice L h) (λ D. 1) (choose v h)) room.1 (choices_counted L h room.0)))
      (Place-iff (IsChoice L i) (λ D. IsChoice L i D × Unit {0}) Lexical Lexical q S (λ D d. (d, tt)) (λ D d. d.0) (λ D p h. h) (λ D p h. h) chosen) m k))

  -- THE LAW of two
  pub Place-two : (u : Universe) (L : List ℕ) → IsRoom u L n → IsSized u M size la → IsSized u N other lb
      → ((k : ℕ) → k ≤ n → (U : List ℕ) → IsRoom u U k → Sums (On u M size la U k) (λ v. 1) (a k)) → ((k : ℕ) → k ≤ n → (U : List ℕ) → IsRoom u U k → Sums (On u N other lb U k) (λ v. 1) (b k))
      → (i j q r s : ℕ) (x : A) (y : B) (S T : List ℕ) → i + j ≡ n → IsPart u L i q S T → IsPlace (On u M size la S i) R r x → IsPlace (On u N other lb T j) Q s y
      → IsPlace (PairOn u M N size other la lb L n) (Lex R Q) (pair_place (ways u n) a b n i q r s) (x, y)
  Place-two Unlabelled L room sm sn known rest i j q r s x y S T e part m k =
      subst (λ h. IsPlace (PairOn Unlabelled M N size other la lb L n) (Lex R Q) h (x, y))
      (ap (λ h. sum_below (λ k. a k * b (n - k)) i + (r * b h + s)) (let f : j ≡ n - i = omega (arith, e) in f) ∙ all_alike i r s ∙ ap (λ h. pair_place (ways Unlabelled n) a b n i h r s) (sym part))
      (unlabelled_place M N size other la lb R Q o a b n L i j r s x y e (λ h l. known h (omega (arith, l, e)) [] tt) (λ h l. rest h l [] tt) m k)
  Place-two Labelled L room sm sn known rest i j q r s x y C T e part m k = labelled_both L room sm sn known rest i j q r s x y C T e part.0 part.1 m k
