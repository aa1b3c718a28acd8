-- The numbers of collections by binomials.
use Rattle.std.proofs.Common.{◌≡◌, ℕ, zero, suc, ◌+◌, ◌*◌, ◌-◌, refl, sym, ◌∙◌, ap, arith}
use Rattle.luo_num.specs.Mark.{capped}
use Rattle.luo_finite.specs.Binomial.{choose}
use Rattle.luo_model.specs.declared.program.Universe.TheVariants.{Labelled}
use Rattle.luo_counting.specs.Numbers.{rows, row_totals, sets, set_totals, repeats, repeat_totals}
use Rattle.luo_counting.specs.Laws.{RowsAreBinomial, SetsAreBinomial, CyclesAreBinomial, RepeatsAreBinomial}
use Rattle.luo_finite.proofs.Binomials.{choose-self, choose-past}
use Rattle.luo_counting.proofs.Two.{share-is_binomial}

ones_repeat : (j : ℕ) → repeats 1 j ≡ 1
ones_repeat zero = refl
ones_repeat (suc j) = omega (arith, ones_repeat j)

both : {r s t u : ℕ} → r ≡ t → s ≡ u → r + s ≡ t + u
both e f = λ i. e i + f i

-- of a things, 1 at least, there are C(a + j - 1, j) multisets of j
pub repeats_is : (a j : ℕ) → repeats (suc a) j ≡ choose (a + j) j
repeats_is zero j = ones_repeat j ∙ sym (choose-self j) ∙ ap (λ n. choose n j) (let q : j ≡ 0 + j = omega arith in q)
repeats_is (suc a) zero = refl
repeats_is (suc a) (suc j) =
    let e : choose (suc a + suc j) (suc j) ≡ choose (suc (suc (a + j))) (suc j) = ap (λ n. choose n (suc j)) (let q : suc a + suc j ≡ suc (suc (a + j)) = omega arith in q) in
    let f : choose (a + suc j) (suc j) ≡ choose (suc (a + j)) (suc j) = ap (λ n. choose n (suc j)) (let q : a + suc j ≡ suc (a + j) = omega arith in q) in
    let g : choose (suc a + j) j ≡ choose (suc (a + j)) j = ap (λ n. choose n j) (let q : suc a + j ≡ suc (a + j) = omega arith in q) in
    let h : repeats (suc a) (suc j) ≡ choose (a + suc j) (suc j) = repeats_is a (suc j) in
    let i : repeats (suc (suc a)) j ≡ choose (suc a + j) j = repeats_is (suc a) j in
    omega (arith, e, f, g, h, i)

-- and over them the charges sum to t C(a + j - 1, j - 1)
pub repeat_totals-is : (a t j : ℕ) → repeat_totals a t (suc j) ≡ t * choose (a + j) j
repeat_totals-is a t j = ap (λ m. t * m) (repeats_is a j)

-- rules of labelled rows, sets and cycles
pub rows_binomial : RowsAreBinomial
rows_binomial a b k n = (share-is_binomial a (rows Labelled a k) n, both (share-is_binomial b (rows Labelled a k) n) (share-is_binomial a (row_totals Labelled a b k) n))

pub sets_binomial : SetsAreBinomial
sets_binomial a b k n = (
  share-is_binomial (λ i. a (suc i)) (sets a k) n,
  both (share-is_binomial (λ i. b (suc i)) (sets a k) n) (share-is_binomial (λ i. a (suc i)) (set_totals a b k) n),
)

pub cycles_binomial : CyclesAreBinomial
cycles_binomial a b k n = (
  share-is_binomial (λ i. a (suc i)) (rows Labelled a k) n,
  both (share-is_binomial (λ i. b (suc i)) (rows Labelled a k) n) (share-is_binomial (λ i. a (suc i)) (row_totals Labelled a b k) n),
)

pub repeats_binomial : RepeatsAreBinomial
repeats_binomial = (repeats_is, repeat_totals-is)

pub repeats_none : (c j : ℕ) → j ≡ 0 → 1 ≡ capped (repeats c j)
repeats_none zero zero e = omega arith
repeats_none (suc c) zero e = omega arith
repeats_none c (suc j) e = absurd (omega (arith, e))

pub repeats_some : (c j : ℕ) → (j ≡ 0 → ⊥) → repeats c j ≡ choose (c + (j - 1)) j
repeats_some c zero o = absurd (o refl)
repeats_some zero (suc i) o = sym (choose-past (0 + (suc i - 1)) (suc i) (omega arith))
repeats_some (suc a) (suc i) o = repeats_is a (suc i) ∙ ap (λ n. choose n (suc i)) (let q : a + suc i ≡ suc a + (suc i - 1) = omega arith in q)
