-- Cells of a table of binomials.
use Rattle.std.proofs.Common.{◌≡◌, ℕ, zero, suc, ◌+◌, ◌*◌, ◌-◌, ◌≤◌, ◌<◌, ◌⊎◌, ⊎_elim, List, [], ◌∷◌, ◌++◌, length, slice_index, refl, sym, ◌∙◌, ap, arith, length-append}
use Rattle.luo_num.specs.Mark.{capped}
use Rattle.luo_num.proofs.Capped.{capped-add, capped-small}
use Rattle.luo_finite.specs.Binomial.{choose}
use Rattle.luo_binom.specs.declared.pascal.TheConstants.{WIDE}
use Rattle.luo_binom.specs.inner.Cells.{AreCells}
use Rattle.luo_binom.proofs.RowLemmas.{few_within}

-- the sum of the two cells above
pub cell_sum : (cells : List ℕ) (n k above : ℕ) → AreCells cells → length cells ≡ WIDE * n + k → k < WIDE → (k ≡ 0 → ⊥) → (n ≡ 0 → ⊥) → above ≡ length cells - WIDE
    → capped (slice_index cells (above - 1) + slice_index cells above) ≡ capped (choose n k)
cell_sum cells zero k above r e h f g d = absurd (g refl)
cell_sum cells (suc n) zero above r e h f g d = absurd (f refl)
cell_sum cells (suc n) (suc k) above r e h f g d =
    let a : slice_index cells (WIDE * n + k) ≡ capped (choose n k) = r n k (omega (arith, h)) (omega (arith, e)) in
    let b : slice_index cells (WIDE * n + suc k) ≡ capped (choose n (suc k)) = r n (suc k) h (omega (arith, e)) in
    let p : slice_index cells (above - 1) ≡ slice_index cells (WIDE * n + k) = ap (slice_index cells) (omega (arith, d, e)) in
    let q : slice_index cells above ≡ slice_index cells (WIDE * n + suc k) = ap (slice_index cells) (omega (arith, d, e)) in
    ap (λ i. capped (i + slice_index cells above)) (p ∙ a) ∙ ap (λ i. capped (capped (choose n k) + i)) (q ∙ b) ∙ capped-add (choose n k) (choose n (suc k))

pub cell_none : (n k : ℕ) → (k ≡ 0 → ⊥) → n ≡ 0 → 0 ≡ capped (choose n k)
cell_none n zero f e = absurd (f refl)
cell_none n (suc k) f e = ap (λ m. capped (choose m (suc k))) (sym e)

entry_below : (cells : List ℕ) (x i : ℕ) → i < length cells → slice_index (cells ++ x ∷ []) i ≡ slice_index cells i
entry_below [] x i h = absurd (omega arith)
entry_below (y ∷ cells) x zero h = refl
entry_below (y ∷ cells) x (suc i) h = entry_below cells x i (omega arith)

entry_last : (cells : List ℕ) (x i : ℕ) → i ≡ length cells → slice_index (cells ++ x ∷ []) i ≡ x
entry_last [] x i e = ap (slice_index (x ∷ [])) e
entry_last (y ∷ cells) x zero e = absurd (omega (arith, e))
entry_last (y ∷ cells) x (suc i) e = entry_last cells x i (omega (arith, e))

-- one cell more
pub cells_more : (cells : List ℕ) (next n k : ℕ) → AreCells cells → length cells ≡ WIDE * n + k → k < WIDE → next ≡ capped (choose n k) → AreCells (cells ++ next ∷ [])
cells_more cells next n k r e h v m j i l = ⊎_elim
    (λ b. entry_below cells next (WIDE * m + j) b ∙ r m j i b)
    (λ q. entry_last cells next (WIDE * m + j) q ∙ v ∙ same m j i (omega (arith, q, e)))
    (below_or (WIDE * m + j) (length cells) (omega (arith, l, length-append cells (next ∷ []))))
  where
    below_or : (x y : ℕ) → x < y + 1 → (x < y) ⊎ (x ≡ y)
    below_or x y h = grind arith

    same : (m j : ℕ) → j < WIDE → WIDE * m + j ≡ WIDE * n + k → capped (choose n k) ≡ capped (choose m j)
    same m j i q = ap (λ m. capped (choose m k)) (let p : n ≡ m = omega (arith, q, i, h) in p) ∙ ap (λ k. capped (choose m k)) (let p : k ≡ j = omega (arith, q, i, h) in p)

pub no_cells : AreCells []
no_cells n k h l = absurd (omega arith)

-- the number of choices of k of few things isn't marked
pub few_exact : (n k v : ℕ) → n ≤ 130 → v ≡ capped (choose n k) → v ≡ choose n k
few_exact n k v h e = e ∙ capped-small (choose n k) (few_within n k h)
