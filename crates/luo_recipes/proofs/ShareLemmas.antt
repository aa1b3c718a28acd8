-- Sharing a size between two, and among several, in both universes.
use Rattle.std.proofs.Common.{◌≡◌, ℕ, suc, ◌+◌, ◌*◌, ◌-◌, ◌≤◌, ◌<◌, inl, inr, List, [], ◌∷◌, map, refl, sym, ◌∙◌, ap, arith}
use Rattle.std.proofs.Math.Nat.{mul-zero, zero-mul}
use Rattle.luo_finite.specs.Listing.{In}
use Rattle.luo_finite.specs.Range.{sum_below}
use Rattle.luo_finite.proofs.Ranges.{sum_below-same, sum_below-shift}
use Rattle.luo_finite.proofs.Binomials.{choose-self}
use Rattle.luo_model.specs.declared.program.Universe.{Universe}
use Rattle.luo_model.specs.declared.program.Universe.TheVariants.{Unlabelled, Labelled}
use Rattle.luo_counting.specs.Sharing.{over_shares, shares, products}
use Rattle.luo_counting.proofs.Two.{over_shares-same, share-is_binomial}
use Rattle.luo_counting.proofs.Rows.{over_shares-zero}
use Rattle.luo_recipes.specs.Shares.{ways, paired, inner}

pub times-same : (a b c d : ℕ) → a ≡ c → b ≡ d → a * b ≡ c * d
times-same a b c d e h = cc

pub none-left : (a b c d : ℕ) → a ≡ 0 → c ≡ 0 → a * b ≡ c * d
none-left a b c d e h = ap (λ k. k * b) e ∙ zero-mul b ∙ sym (zero-mul d) ∙ ap (λ k. k * d) (sym h)

pub none-right : (a b c d : ℕ) → b ≡ 0 → d ≡ 0 → a * b ≡ c * d
none-right a b c d e h = ap (λ k. a * k) e ∙ mul-zero a ∙ sym (mul-zero c) ∙ ap (λ k. c * k) (sym h)

one-times : (m : ℕ) → 1 * m ≡ m
one-times m = omega arith

ways-none : (u : Universe) (n : ℕ) → ways u n 0 ≡ 1
ways-none Unlabelled n = refl
ways-none Labelled n = refl

ways-all : (u : Universe) (n : ℕ) → ways u n n ≡ 1
ways-all Unlabelled n = refl
ways-all Labelled n = choose-self n

-- the ways by the size of the first
pub shares-paired : (u : Universe) (a b : ℕ → ℕ) (n : ℕ) → shares u a b n ≡ sum_below (paired u a b n) (suc n)
unfolding over_shares
shares-paired Unlabelled a b n = sum_below-same (λ k. a k * b (n - k)) (paired Unlabelled a b n) (suc n) (λ k l. sym (one-times (a k * b (n - k))))
shares-paired Labelled a b n = share-is_binomial a b n

pub shares-first : (u : Universe) (a b : ℕ → ℕ) → shares u a b 0 ≡ a 0 * b 0
shares-first u a b = over_shares-zero u (λ i j. a i * b j)

-- one gets all, or each gets some
pub shares-inner : (u : Universe) (a b : ℕ → ℕ) (m : ℕ) → shares u a b (suc m) ≡ inner u a b (suc m) + (a 0 * b (suc m) + a (suc m) * b 0)
unfolding inner
shares-inner u a b m =
    let f : ℕ → ℕ = paired u a b (suc m) in
    let s : sum_below f (suc m) ≡ f 0 + sum_below (λ k. f (suc k)) m = sum_below-shift f m in
    let e : f (suc m) ≡ a (suc m) * b 0 = all_left in
    let g : sum_below (λ k. f (suc k)) (suc m - 1) ≡ sum_below (λ k. f (suc k)) m = ap (sum_below (λ k. f (suc k))) (one_less m) in
    let z : f 0 ≡ a 0 * b (suc m) = all_right in
    shares-paired u a b (suc m) ∙ omega (arith, s, e, g, z)
  where
    one_less : (m : ℕ) → suc m - 1 ≡ m
    one_less m = omega arith

    itself : (n : ℕ) → n - n ≡ 0
    itself n = omega arith

    nothing : (n : ℕ) → n - 0 ≡ n
    nothing n = omega arith

    all_left : paired u a b (suc m) (suc m) ≡ a (suc m) * b 0
    all_left = ap (λ w. w * (a (suc m) * b (suc m - suc m))) (ways-all u (suc m)) ∙ one-times (a (suc m) * b (suc m - suc m)) ∙ ap (λ k. a (suc m) * b k) (itself (suc m))

    all_right : paired u a b (suc m) 0 ≡ a 0 * b (suc m)
    all_right = ap (λ w. w * (a 0 * b (suc m - 0))) (ways-none u (suc m)) ∙ one-times (a 0 * b (suc m - 0)) ∙ ap (λ k. a 0 * b k) (nothing (suc m))

-- where each gets some, only what lies between 0 and n is read
pub inner-same : (u : Universe) (a b c d : ℕ → ℕ) (n : ℕ) → ((k : ℕ) → k < n → a k ≡ c k) → ((k : ℕ) → k < n → b k ≡ d k) → inner u a b n ≡ inner u c d n
unfolding inner
inner-same u a b c d n e h =
    sum_below-same (λ k. paired u a b n (suc k)) (λ k. paired u c d n (suc k)) (n - 1)
    (λ k l. ap (λ m. ways u n (suc k) * m) (times-same (a (suc k)) (b (n - suc k)) (c (suc k)) (d (n - suc k)) (e (suc k) (omega arith)) (h (n - suc k) (omega arith))))

pub shares-same : (u : Universe) (a b c d : ℕ → ℕ) (n : ℕ) → ((k : ℕ) → k ≤ n → a k ≡ c k) → ((k : ℕ) → k ≤ n → b k ≡ d k) → shares u a b n ≡ shares u c d n
shares-same u a b c d n e h =
    over_shares-same u (λ i j. a i * b j) (λ i j. c i * d j) n
    (λ i j q. times-same (a i) (b j) (c i) (d j) (e i (omega (arith, q))) (h j (omega (arith, q))))

-- factors that are alike up to n have as many ways
pub products-same : {X : Type 0} (u : Universe) (f g : X → ℕ → ℕ) (xs : List X) (n : ℕ) → ((x : X) → In x xs → (k : ℕ) → k ≤ n → f x k ≡ g x k) → products u (map f xs) n ≡ products u (map g xs) n
products-same u f g [] n h = refl
products-same u f g (x ∷ xs) n h =
    shares-same u (f x) (products u (map f xs)) (g x) (products u (map g xs)) n (h x (inl refl))
    (λ k l. products-same u f g xs k (λ y i j m. h y (inr i) j (omega arith)))
