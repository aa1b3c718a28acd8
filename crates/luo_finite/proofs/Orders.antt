-- Strict orders that comparisons make.
use Rattle.std.proofs.Common.{◌≡◌, ℕ, ◌<◌, List, [], ◌∷◌, ◌⊎◌, inl, inr, refl, subst, arith}
use Rattle.std.specs.declared.cmp.Ordering.{Ordering}
use Rattle.std.specs.declared.cmp.Ordering.TheVariants.{Less, Equal, Greater}
use Rattle.std.specs.Cmp.{IsTotalOrder}
use Rattle.std.specs.Cmp.Lexicographic.{slice_cmp}
use Rattle.std.specs.Ordering.{nat_cmp, MatchOrdering, ordering_then, ordering_reverse}
use Rattle.std.proofs.lemmas.Cmp.{ranked, nat_list_cmp_total, nat_cmp_total, tied_itself}
use Rattle.luo_finite.proofs.Falling.{IsOrder}
use Rattle.luo_finite.specs.Places.{Lexical}

module _ {A : Type 0} (cmp : A → A → Ordering) (total : IsTotalOrder cmp) (equal : (x y : A) → cmp x y ≡ Equal → x ≡ y) where
  turned_less : (o q : Ordering) → q ≡ ordering_reverse o → o ≡ Greater → q ≡ Less
  turned_less Less q e f = absurd (cc)
  turned_less Equal q e f = absurd (cc)
  turned_less Greater q e f = e

  never_both : (o q : Ordering) → q ≡ ordering_reverse o → o ≡ Less → q ≡ Less → ⊥
  never_both Less q e f g = cc
  never_both Equal q e f g = cc
  never_both Greater q e f g = cc

  cases : (x y : A) (o : Ordering) → cmp x y ≡ o → (cmp x y ≡ Less) ⊎ (x ≡ y) ⊎ (cmp y x ≡ Less)
  cases x y Less e = inl e
  cases x y Equal e = inr (inl (equal x y e))
  cases x y Greater e = inr (inr (turned_less (cmp x y) (cmp y x) (total.antisymm y x) e))

  -- a total order that finds no difference only where there is none
  pub order_from : IsOrder (λ x y. cmp x y ≡ Less)
  order_from = record {
    one_way = λ x y e f. never_both (cmp x y) (cmp y x) (total.antisymm y x) e f;
    through = λ x y z e f. total.trans x y z e f;
    either = λ x y. cases x y (cmp x y) refl;
  }

less_is : (x y : ℕ) (o : Ordering) → MatchOrdering o (x < y) (x ≡ y) (y < x) → x < y → o ≡ Less
less_is x y Less m h = refl
less_is x y Equal m h = absurd (omega arith)
less_is x y Greater m h = absurd (omega arith)

pub nat_less : (x y : ℕ) → x < y → nat_cmp x y ≡ Less
nat_less x y h = less_is x y (nat_cmp x y) (ranked x y (nat_cmp x y) refl) h

pub nat_equal : (x y : ℕ) → nat_cmp x y ≡ Equal → x ≡ y
nat_equal x y e = subst (λ r. MatchOrdering r (x < y) (x ≡ y) (y < x)) e (ranked x y (nat_cmp x y) refl)

pub then_left : (a b : Ordering) → ordering_then a b ≡ Equal → a ≡ Equal
then_left Less b e = absurd (cc)
then_left Equal b e = refl
then_left Greater b e = absurd (cc)

pub then_right : (a b : Ordering) → ordering_then a b ≡ Equal → b ≡ Equal
then_right Less b e = absurd (cc)
then_right Equal b e = e
then_right Greater b e = absurd (cc)

pub list_equal : (xs ys : List ℕ) → slice_cmp nat_cmp xs ys ≡ Equal → xs ≡ ys
list_equal [] [] e = refl
list_equal [] (y ∷ ys) e = absurd (cc)
list_equal (x ∷ xs) [] e = absurd (cc)
list_equal (x ∷ xs) (y ∷ ys) e =
    let a : x ≡ y = nat_equal x y (then_left (nat_cmp x y) (slice_cmp nat_cmp xs ys) e) in
    let b : xs ≡ ys = list_equal xs ys (then_right (nat_cmp x y) (slice_cmp nat_cmp xs ys) e) in
    λ i. a i ∷ b i

pub less_nat : (x y : ℕ) → nat_cmp x y ≡ Less → x < y
less_nat x y e = subst (λ r. MatchOrdering r (x < y) (x ≡ y) (y < x)) e (ranked x y (nat_cmp x y) refl)

pub nat_itself : (x : ℕ) → nat_cmp x x ≡ Equal
nat_itself x = tied_itself nat_cmp_total x

pub list_itself : (xs : List ℕ) → slice_cmp nat_cmp xs xs ≡ Equal
list_itself xs = tied_itself nat_list_cmp_total xs

pub lists_ordered : IsOrder Lexical
lists_ordered = order_from (slice_cmp nat_cmp) nat_list_cmp_total list_equal
