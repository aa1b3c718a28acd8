-- Lists that grow at the end, and sums of marked numbers.
use Rattle.std.proofs.Common.{◌≡◌, ℕ, zero, suc, ◌+◌, ◌*◌, ◌≤◌, ◌<◌, List, [], ◌∷◌, ◌++◌, ◌⊎◌, ⊎_elim, length, slice_index_or, refl, sym, ◌∙◌, ap, subst, arith}
use Rattle.std.proofs.lemmas.List.{length-append, get_or_append_left}
use Rattle.std.proofs.Math.Seq.{get_or-append_seam}
use Rattle.luo_num.specs.Mark.{capped}
use Rattle.luo_num.proofs.Capped.{capped-mul}
use Rattle.luo_finite.specs.Range.{sum_below}

last_or_before : (k n : ℕ) → k < n + 1 → (k ≡ n) ⊎ (k < n)
last_or_before k n h = grind arith

pub le_or : (m n : ℕ) → (m ≤ n) ⊎ (n < m)
le_or m n = grind arith

module _ {A : Type 0} (d : A) where
  pub pushed_long : (xs new : List A) (v : A) (n : ℕ) → length xs ≡ n → new ≡ xs ++ v ∷ [] → length new ≡ n + 1
  pushed_long xs new v n e q = ap length q ∙ length-append xs (v ∷ []) ∙ ap (λ k. k + 1) e

  -- what holds of each element and of the new one holds of all
  pub pushed : (P : ℕ → A → Type 0) (xs new : List A) (v : A) (n : ℕ) → length xs ≡ n → new ≡ xs ++ v ∷ [] → ((i : ℕ) → i < n → P i (slice_index_or xs i d)) → P n v → (i : ℕ) → i < n + 1 → P i (slice_index_or new i d)
  pushed P xs new v n e q h k i l = subst (λ (ys : List A). P i (slice_index_or ys i d)) (sym q) (⊎_elim
      (λ (s : i ≡ n). subst (λ j. P j (slice_index_or (xs ++ v ∷ []) j d)) (sym (s ∙ sym e)) (subst (P (length xs)) (sym (get_or-append_seam xs v [] d)) (subst (λ j. P j v) (sym e) k)))
      (λ s. subst (P i) (sym (get_or_append_left xs (v ∷ []) d i (omega (arith, s, e)))) (h i s))
      (last_or_before i n l))

-- SUMS
pub sum_more : (F : ℕ → ℕ) (k next sum v : ℕ) → sum ≡ capped (sum_below F k) → v ≡ capped (F k) → next ≡ k + 1 → capped (sum + v) ≡ capped (sum_below F next)
sum_more F k next sum v e q n =
    let t : capped (sum + v) ≡ capped (F k + sum_below F k) = omega (arith, e, q) in
    t ∙ ap (λ i. capped (sum_below F i)) (let r : suc k ≡ next = omega (arith, n) in r)

pub sum_tail : (F : ℕ → ℕ) (j n : ℕ) → j ≤ n → ((i : ℕ) → j ≤ i → i < n → F i ≡ 0) → sum_below F j ≡ sum_below F n
sum_tail F j zero l h = ap (sum_below F) (let q : j ≡ 0 = omega (arith, l) in q)
sum_tail F j (suc n) l h = ⊎_elim
    (λ g. let r : sum_below F j ≡ sum_below F n = sum_tail F j n g (λ i a b. h i a (omega (arith, b))) in let z : F n ≡ 0 = h n g (omega arith) in omega (arith, r, z))
    (λ g. ap (sum_below F) (let q : j ≡ suc n = omega (arith, g, l) in q))
    (le_or j n)

pub sums_marked : (F G : ℕ → ℕ) (n : ℕ) → ((j : ℕ) → j < n → capped (F j) ≡ capped (G j)) → capped (sum_below F n) ≡ capped (sum_below G n)
sums_marked F G zero h = refl
sums_marked F G (suc n) h =
    let e : capped (sum_below F n) ≡ capped (sum_below G n) = sums_marked F G n (λ j l. h j (omega (arith, l))) in
    let d : capped (F n) ≡ capped (G n) = h n (omega arith) in
    omega (arith, e, d)

pub product_marked : (x y a b : ℕ) → x ≡ capped a → y ≡ capped b → capped (x * y) ≡ capped (a * b)
product_marked x y a b e q = ap (λ i. capped (i * y)) e ∙ ap (λ i. capped (capped a * i)) q ∙ capped-mul a b
