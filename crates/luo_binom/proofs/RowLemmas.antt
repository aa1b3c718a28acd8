-- Facts about binomials, computed row by row.
use Rattle.std.proofs.Common.{◌≡◌, ℕ, zero, suc, ◌+◌, ◌-◌, ◌≤◌, ◌<◌, List, [], ◌∷◌, refl, sym, ◌∙◌, ap, subst, arith, slice_index, Bool, true, false, nat_le, ◌&&◌, lit<}
use Rattle.std.specs.List.{list_all}
use Rattle.std.proofs.lemmas.Bool.Decides.{nat_tests}
use Rattle.luo_num.specs.declared.TheConstants.{MAX}
use Rattle.luo_finite.specs.Binomial.{choose}
use Rattle.luo_binom.specs.Laws.{FewAreWithin}
use Rattle.luo_binom.specs.inner.Rows.{sums, pascal_row}

-- the first sum takes in the number before the row, and each other one two neighbours
sums_first : (x : ℕ) (l : List ℕ) → slice_index (sums x l) 0 ≡ x + slice_index l 0
sums_first x [] = omega arith
sums_first x (y ∷ l) = refl

sums_next : (x k : ℕ) (l : List ℕ) → slice_index (sums x l) (suc k) ≡ slice_index l k + slice_index l (suc k)
sums_next x k [] = refl
sums_next x zero (y ∷ l) = sums_first y l
sums_next x (suc k) (y ∷ l) = sums_next y k l

-- the numbers of a row are the binomials
pub row_is : (n k : ℕ) → slice_index (pascal_row n) k ≡ choose n k
row_is zero zero = refl
row_is zero (suc k) = refl
row_is (suc n) zero = sums_first 0 (pascal_row n) ∙ ap (λ m. 0 + m) (row_is n 0) ∙ refl
row_is (suc n) (suc k) = sums_next 0 k (pascal_row n) ∙ ap (λ m. m + slice_index (pascal_row n) (suc k)) (row_is n k) ∙ ap (λ m. choose n k + m) (row_is n (suc k))

-- more things have no fewer choices
grows : (n k : ℕ) → choose n k ≤ choose (suc n) k
grows n zero = omega arith
grows n (suc k) = omega arith

grows_by : (n d k : ℕ) → choose n k ≤ choose (n + d) k
grows_by n zero k = subst (λ m. choose n k ≤ choose m k) (let q : n ≡ n + 0 = omega arith in q) (omega arith)
grows_by n (suc d) k = subst (λ m. choose n k ≤ choose m k) (let q : suc (n + d) ≡ n + suc d = omega arith in q) (omega (arith, grows_by n d k, grows (n + d) k))

-- numbers that pass a computed test
both_true : (p q : Bool) → (p && q) ≡ true → (p ≡ true) × (q ≡ true)
both_true true q e = (refl, e)
both_true false q e = absurd (cc)

le_true : (x most : ℕ) → nat_le x most ≡ true → x ≤ most
le_true x most e = grind (arith, nat_tests)

all_within : (most : ℕ) (l : List ℕ) → list_all (λ x. nat_le x most) l ≡ true → (k : ℕ) → slice_index l k ≤ most
all_within most [] e k = omega arith
all_within most (x ∷ l) e zero = le_true x most (both_true (nat_le x most) (list_all (λ x. nat_le x most) l) e).0
all_within most (x ∷ l) e (suc k) = all_within most l (both_true (nat_le x most) (list_all (λ x. nat_le x most) l) e).1 k

last_within : list_all (λ x. nat_le x MAX) (pascal_row 130) ≡ true
last_within = refl

pub few_within : (n k : ℕ) → n ≤ 130 → choose n k ≤ MAX
few_within n k h =
    let e : n + (130 - n) ≡ 130 = omega (arith, h) in
    let l : choose n k ≤ choose 130 k = subst (λ m. choose n k ≤ choose m k) e (grows_by n (130 - n) k) in
    let r : choose 130 k ≤ MAX = subst (λ m. m ≤ MAX) (row_is 130 k) (all_within MAX (pascal_row 130) last_within k) in
    omega (arith, l, r)

middle : slice_index (pascal_row 130) 65 ≡ 95067625827960698145584333020095113100
middle = refl

past : slice_index (pascal_row 131) 65 ≡ 188694833082770476622296176145946360850
past = refl

pub few_are_within : FewAreWithin
few_are_within = (few_within, sym (row_is 130 65) ∙ middle, subst (λ m. MAX < m) (sym past ∙ row_is 131 65) (lit< tt))
