-- Numbers that are marked alike.
use Rattle.std.proofs.Common.{◌≡◌, ℕ, zero, suc, ◌+◌, ◌*◌, ◌-◌, ◌≤◌, ◌<◌, refl, sym, ◌∙◌, ap, arith}
use Rattle.luo_num.specs.Mark.{capped}
use Rattle.luo_num.proofs.Capped.{capped-mul}
use Rattle.luo_finite.specs.Range.{sum_below, unit}
use Rattle.luo_model.specs.declared.program.Universe.{Universe}
use Rattle.luo_counting.specs.Sharing.{shares}
use Rattle.luo_recipes.specs.Shares.{ways, paired, inner}
use Rattle.luo_engine.specs.inner.Partial.{closing}
use Rattle.luo_recipes.proofs.ShareLemmas.{shares-first, shares-inner}

pub capped-capped : (n : ℕ) → capped (capped n) ≡ capped n
capped-capped n = omega arith

pub alike-times : (a b c d : ℕ) → capped a ≡ capped c → capped b ≡ capped d → capped (a * b) ≡ capped (c * d)
alike-times a b c d e h = sym (capped-mul a b) ∙ ap (λ k. capped (k * capped b)) e ∙ ap (λ k. capped (capped c * k)) h ∙ capped-mul c d

pub alike-plus : (a b c d : ℕ) → capped a ≡ capped c → capped b ≡ capped d → capped (a + b) ≡ capped (c + d)
alike-plus a b c d e h = omega arith

pub alike-sum_below : (f g : ℕ → ℕ) (n : ℕ) → ((k : ℕ) → k < n → capped (f k) ≡ capped (g k)) → capped (sum_below f n) ≡ capped (sum_below g n)
alike-sum_below f g zero h = refl
alike-sum_below f g (suc n) h = alike-plus (f n) (sum_below f n) (g n) (sum_below g n) (h n (omega arith)) (alike-sum_below f g n (λ k l. h k (omega arith)))

pub alike-inner : (u : Universe) (a b c d : ℕ → ℕ) (n : ℕ) → ((k : ℕ) → k < n → capped (a k) ≡ capped (c k)) → ((k : ℕ) → k < n → capped (b k) ≡ capped (d k)) → capped (inner u a b n) ≡ capped (inner u c d n)
unfolding inner
alike-inner u a b c d n e h =
    alike-sum_below (λ k. paired u a b n (suc k)) (λ k. paired u c d n (suc k)) (n - 1)
    (λ k l. alike-times (ways u n (suc k)) (a (suc k) * b (n - suc k)) (ways u n (suc k)) (c (suc k) * d (n - suc k)) refl
    (alike-times (a (suc k)) (b (n - suc k)) (c (suc k)) (d (n - suc k)) (e (suc k) (omega arith)) (h (n - suc k) (omega arith))))

pub capped-unit : (n : ℕ) → unit n ≡ capped (unit n)
capped-unit zero = omega arith
capped-unit (suc n) = omega arith

-- an open entry is closed to the whole convolution
pub closing-whole : (u : Universe) (opened whole n : ℕ) (a b t : ℕ → ℕ) → opened ≡ capped (inner u a t n) → (0 < n → b 0 ≡ capped (t 0)) → whole ≡ capped (t n) → capped (closing opened a b n whole) ≡ capped (shares u a t n)
closing-whole u opened whole zero a b t e h w =
    alike-times (a 0) whole (a 0) (t 0) refl (ap capped w ∙ capped-capped (t 0)) ∙ ap capped (sym (shares-first u a t))
closing-whole u opened whole (suc m) a b t e h w =
    alike-plus opened (a 0 * whole + a (suc m) * b 0) (inner u a t (suc m)) (a 0 * t (suc m) + a (suc m) * t 0)
    (ap capped e ∙ capped-capped (inner u a t (suc m)))
    (alike-plus (a 0 * whole) (a (suc m) * b 0) (a 0 * t (suc m)) (a (suc m) * t 0)
    (alike-times (a 0) whole (a 0) (t (suc m)) refl (ap capped w ∙ capped-capped (t (suc m))))
    (alike-times (a (suc m)) (b 0) (a (suc m)) (t 0) refl (ap capped (h (omega arith)) ∙ capped-capped (t 0))))
    ∙ ap capped (sym (shares-inner u a t m))

-- one more of the ways is added
pub inner-more : (u : Universe) (a b : ℕ → ℕ) (n k way both term sum new : ℕ) → 1 ≤ k → way ≡ capped (ways u n k) → both ≡ capped (a k * b (n - k)) → term ≡ capped (way * both) → new ≡ capped (sum + term)
    → sum ≡ capped (sum_below (λ j. paired u a b n (suc j)) (k - 1)) → new ≡ capped (sum_below (λ j. paired u a b n (suc j)) (k + 1 - 1))
inner-more u a b n zero way both term sum new h w e t q s = absurd (omega arith)
inner-more u a b n (suc j) way both term sum new h w e t q s =
    let f : ℕ → ℕ = λ i. paired u a b n (suc i) in
    let S : sum ≡ capped (sum_below f j) = s ∙ ap (λ i. capped (sum_below f i)) (less j) in
    let T : capped term ≡ capped (f j) = ap capped t ∙ capped-capped (way * both) ∙ alike-times way both (ways u n (suc j)) (a (suc j) * b (n - suc j)) (ap capped w ∙ capped-capped (ways u n (suc j))) (ap capped e ∙ capped-capped (a (suc j) * b (n - suc j))) in
    q ∙ alike-plus sum term (sum_below f j) (f j) (ap capped S ∙ capped-capped (sum_below f j)) T ∙ ap capped (turn (sum_below f j) (f j)) ∙ ap (λ i. capped (sum_below f i)) (more j)
  where
    less : (j : ℕ) → suc j - 1 ≡ j
    less j = omega arith

    more : (j : ℕ) → suc j ≡ suc j + 1 - 1
    more j = omega arith

    turn : (x y : ℕ) → x + y ≡ y + x
    turn x y = omega arith
