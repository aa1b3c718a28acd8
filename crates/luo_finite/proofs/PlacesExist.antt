-- Each place below the count is that of one thing.
use Rattle.std.proofs.Common.{◌≡◌, ℕ, zero, suc, ◌+◌, ◌<◌, ◌≤◌, List, [], ◌∷◌, ◌⊎◌, inl, inr, ⊎_elim, length, refl, sym, subst, arith, Some, slice_get}
use Rattle.luo_finite.specs.Listing.{Sums}
use Rattle.luo_finite.proofs.SumsBy.{length_is_sum}
use Rattle.luo_finite.proofs.Sums.{Sums-either, Sums-one}
use Rattle.luo_finite.proofs.Falling.{IsOrder, falling_listing}
use Rattle.luo_finite.specs.Places.{IsPlace}
use Rattle.luo_finite.proofs.OrderedPlaces.{listed_at, Sums-le}

get_some : {A : Type 0} (l : List A) (r : ℕ) → r < length l → (x : A) × (slice_get l r ≡ Some x)
get_some [] r h = absurd (omega (arith, h))
get_some (x ∷ l) zero h = (x, refl)
get_some (x ∷ l) (suc r) h = get_some l r (omega (arith, h))

module _ {A : Type 0} (P : A → Type 0) (Before : A → A → Type 0) (order : IsOrder Before) (c : ℕ) (s : Sums P (λ x. 1) c) where
  pub place_below : (r : ℕ) (x : A) → IsPlace P Before r x → r < c
  place_below r x m =
      let k : r + 1 ≤ c = Sums-le (λ z. (P z × Before z x) ⊎ (z ≡ x)) P (r + 1) c (λ z q. ⊎_elim (λ a. a.0) (λ e. subst P (sym e) m.there) q)
      (Sums-either (λ z. P z × Before z x) (λ z. z ≡ x) (λ z. 1) r 1 (λ z a b. let h : Before x x = subst (λ v. Before v x) b a.1 in order.one_way x x h h) m.before (Sums-one (λ z. z ≡ x) (λ z. 1) x refl (λ z e. e))) s in
      omega arith

  pub some_place : (r : ℕ) → r < c → (x : A) × IsPlace P Before r x
  some_place r h =
      let m = falling_listing (λ x y. Before y x) turned P s.exists.0 s.exists.1 in
      let k = get_some m.0 r (omega (arith, h, s.each m.0 m.2, length_is_sum m.0)) in
      (k.0, listed_at P Before order.one_way m.0 r k.0 m.2 m.1 k.1)
    where
      turned : IsOrder (λ x y. Before y x)
      turned = record {
        one_way = λ x y a b. order.one_way y x a b;
        through = λ x y z a b. order.through z y x b a;
        either = λ x y. ⊎_elim (λ a. inr (inr a)) (λ o. ⊎_elim (λ e. inr (inl e)) (λ a. inl a) o) (order.either x y);
      }
