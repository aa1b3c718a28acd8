-- Of a list without doubles: it is no longer than a list that holds all its elements.
use Rattle.std.proofs.Common.{◌≡◌, ℕ, suc, ◌≤◌, ◌<◌, List, [], ◌∷◌, ◌++◌, inl, inr, length, refl, ap, subst, arith}
use Rattle.luo_finite.specs.Listing.{In, NoDouble}
use Rattle.luo_finite.specs.Range.{below}
use Rattle.luo_finite.proofs.Membership.{around, In-without}
use Rattle.luo_finite.proofs.Ranges.{In-below, length-below}

pub no_longer : {A : Type 0} (xs ys : List A) → NoDouble xs → ((x : A) → In x xs → In x ys) → length xs ≤ length ys
no_longer [] ys d h = omega arith
no_longer (x ∷ xs) ys d h =
    let r = around x ys (h x (inl refl)) in
    let q : length xs ≤ length (r.before ++ r.after) = no_longer xs (r.before ++ r.after) d.1 (λ z i. In-without x z r.before r.after (subst (λ l. In z l) r.is (h z (inr i))) (λ e. d.0 (subst (λ w. In w xs) e i))) in
    omega (arith, q, length_around x r.before r.after, ap length r.is)
  where
    length_around : {A : Type 0} (x : A) (before after : List A) → length (before ++ x ∷ after) ≡ suc (length (before ++ after))
    length_around x [] after = refl
    length_around x (y ∷ before) after = omega (arith, length_around x before after)

-- numbers below n without doubles are at most n
pub few_below : (n : ℕ) (xs : List ℕ) → NoDouble xs → ((x : ℕ) → In x xs → x < n) → length xs ≤ n
few_below n xs d h = subst (λ k. length xs ≤ k) (length-below n) (no_longer xs (below n) d (λ x i. In-below n x (h x i)))
