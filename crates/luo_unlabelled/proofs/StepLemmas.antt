-- The numbers at a step.
use Rattle.std.proofs.Common.{◌≡◌, ℕ, zero, suc, ◌+◌, ◌*◌, ◌-◌, ◌≤◌, ◌<◌, ◌⊎◌, ⊎_elim, Bool, true, false, None, List, slice_index, refl, sym, ◌∙◌, ap, arith}
use Rattle.std.proofs.lemmas.Bool.Decides.{nat_tests}
use Rattle.std.proofs.Math.Nat.{zero-mul}
use Rattle.luo_num.specs.Mark.{capped}
use Rattle.luo_num.proofs.Capped.{capped-mul}
use Rattle.luo_finite.specs.Range.{sum_below, unit}
use Rattle.luo_finite.proofs.Ranges.{sum_below-shift}
use Rattle.luo_model.specs.declared.program.Universe.TheVariants.{Unlabelled}
use Rattle.luo_model.specs.declared.program.Kind.TheVariants.{Sequence}
use Rattle.luo_counting.specs.Numbers.{coll_count, coll_total}
use Rattle.luo_unlabelled.specs.declared.steps.Steps.{Steps}
use Rattle.luo_unlabelled.specs.inner.Steps.{convolved, most_at, step_count, step_total, empty_at}
use Rattle.luo_unlabelled.proofs.RowLemmas.{more, count-next, count-free, count-none, total-next, total-free, total-none}

most-more : (u : Bool) (i : ℕ) → most_at u (suc i) ≡ more (most_at u i)
most-more true i = refl
most-more false i = refl

pub empty_yes : (s : Steps) (i n : ℕ) → i ≤ s.free → empty_at s i n ≡ unit n
empty_yes s i n h = grind (arith, nat_tests)

empty_no : (s : Steps) (i n : ℕ) → s.free < i → empty_at s i n ≡ 0
empty_no s i n h = grind (arith, nat_tests)

le_or : (m n : ℕ) → (m ≤ n) ⊎ (n < m)
le_or m n = grind arith

-- one step more
pub step-next : (s : Steps) (a : ℕ → ℕ) (i n : ℕ) → a 0 ≡ 0 → step_count s a (suc i) n ≡ empty_at s (suc i) n + sum_below (λ j. a j * step_count s a i (n - j)) (suc n)
step-next s a i n z = ⊎_elim
    (λ l.
    ap (λ lo. coll_count Unlabelled Sequence a lo (most_at s.bounded (suc i)) n) (let q : suc i - s.free ≡ 0 = omega (arith, l) in q) ∙ ap (λ hi. coll_count Unlabelled Sequence a 0 hi n) (most-more s.bounded i)
    ∙ count-free a (most_at s.bounded i) n z ∙ ap (λ lo. unit n + sum_below (λ j. a j * coll_count Unlabelled Sequence a lo (most_at s.bounded i) (n - j)) (suc n)) (let q : 0 ≡ i - s.free = omega (arith, l) in q)
    ∙ ap (λ e. e + sum_below (λ j. a j * step_count s a i (n - j)) (suc n)) (sym (empty_yes s (suc i) n l)))
    (λ l.
    ap (λ lo. coll_count Unlabelled Sequence a lo (most_at s.bounded (suc i)) n) (let q : suc i - s.free ≡ suc (i - s.free) = omega (arith, l) in q) ∙ ap (λ hi. coll_count Unlabelled Sequence a (suc (i - s.free)) hi n) (most-more s.bounded i)
    ∙ count-next a (i - s.free) (most_at s.bounded i) n z
    ∙ (let e : empty_at s (suc i) n ≡ 0 = empty_no s (suc i) n l in let q : sum_below (λ j. a j * step_count s a i (n - j)) (suc n) ≡ empty_at s (suc i) n + sum_below (λ j. a j * step_count s a i (n - j)) (suc n) = omega (arith, e) in q))
    (le_or (suc i) s.free)

-- the first step, which goes on from itself where there is no greatest number
pub step-first : (s : Steps) (a : ℕ → ℕ) (n : ℕ) → a 0 ≡ 0 → s.bounded ≡ false → step_count s a 0 n ≡ empty_at s 0 n + sum_below (λ j. a j * step_count s a 0 (n - j)) (suc n)
step-first s a n z u =
    let q : 0 - s.free ≡ 0 = omega arith in
    ap (λ lo. coll_count Unlabelled Sequence a lo (most_at s.bounded 0) n) q ∙ ap (λ b. coll_count Unlabelled Sequence a 0 (most_at b 0) n) u ∙ count-free a None n z
    ∙ ap (λ b. unit n + sum_below (λ j. a j * coll_count Unlabelled Sequence a 0 (most_at b 0) (n - j)) (suc n)) (sym u)
    ∙ ap (λ lo. unit n + sum_below (λ j. a j * coll_count Unlabelled Sequence a lo (most_at s.bounded 0) (n - j)) (suc n)) (sym q)
    ∙ ap (λ e. e + sum_below (λ j. a j * step_count s a 0 (n - j)) (suc n)) (sym (empty_yes s 0 n (omega arith)))

pub step-none : (s : Steps) (a : ℕ → ℕ) (n : ℕ) → a 0 ≡ 0 → s.bounded ≡ true → step_count s a 0 n ≡ empty_at s 0 n
step-none s a n z u =
    ap (λ lo. coll_count Unlabelled Sequence a lo (most_at s.bounded 0) n) (let q : 0 - s.free ≡ 0 = omega arith in q) ∙ ap (λ b. coll_count Unlabelled Sequence a 0 (most_at b 0) n) u ∙ count-none a n z
    ∙ sym (empty_yes s 0 n (omega arith))

-- and so with charges
pub step_total-next : (s : Steps) (a b : ℕ → ℕ) (i n : ℕ) → a 0 ≡ 0 → b 0 ≡ 0 → step_total s a b (suc i) n ≡ sum_below (λ j. b j * step_count s a i (n - j)) (suc n) + sum_below (λ j. a j * step_total s a b i (n - j)) (suc n)
step_total-next s a b i n z y = ⊎_elim
    (λ l.
    ap (λ lo. coll_total Unlabelled Sequence a b lo (most_at s.bounded (suc i)) n) (let q : suc i - s.free ≡ 0 = omega (arith, l) in q) ∙ ap (λ hi. coll_total Unlabelled Sequence a b 0 hi n) (most-more s.bounded i)
    ∙ total-free a b (most_at s.bounded i) n z y
    ∙ ap (λ lo. sum_below (λ j. b j * coll_count Unlabelled Sequence a lo (most_at s.bounded i) (n - j)) (suc n) + sum_below (λ j. a j * coll_total Unlabelled Sequence a b lo (most_at s.bounded i) (n - j)) (suc n)) (let q : 0 ≡ i - s.free = omega (arith, l) in q))
    (λ l.
    ap (λ lo. coll_total Unlabelled Sequence a b lo (most_at s.bounded (suc i)) n) (let q : suc i - s.free ≡ suc (i - s.free) = omega (arith, l) in q) ∙ ap (λ hi. coll_total Unlabelled Sequence a b (suc (i - s.free)) hi n) (most-more s.bounded i)
    ∙ total-next a b (i - s.free) (most_at s.bounded i) n z y)
    (le_or (suc i) s.free)

pub step_total-first : (s : Steps) (a b : ℕ → ℕ) (n : ℕ) → a 0 ≡ 0 → b 0 ≡ 0 → s.bounded ≡ false → step_total s a b 0 n ≡ sum_below (λ j. b j * step_count s a 0 (n - j)) (suc n) + sum_below (λ j. a j * step_total s a b 0 (n - j)) (suc n)
step_total-first s a b n z y u =
    let q : 0 - s.free ≡ 0 = omega arith in
    ap (λ lo. coll_total Unlabelled Sequence a b lo (most_at s.bounded 0) n) q ∙ ap (λ o. coll_total Unlabelled Sequence a b 0 (most_at o 0) n) u ∙ total-free a b None n z y
    ∙ ap (λ o. sum_below (λ j. b j * coll_count Unlabelled Sequence a 0 (most_at o 0) (n - j)) (suc n) + sum_below (λ j. a j * coll_total Unlabelled Sequence a b 0 (most_at o 0) (n - j)) (suc n)) (sym u)
    ∙ ap (λ lo. sum_below (λ j. b j * coll_count Unlabelled Sequence a lo (most_at s.bounded 0) (n - j)) (suc n) + sum_below (λ j. a j * coll_total Unlabelled Sequence a b lo (most_at s.bounded 0) (n - j)) (suc n)) (sym q)

pub step_total-none : (s : Steps) (a b : ℕ → ℕ) (n : ℕ) → a 0 ≡ 0 → b 0 ≡ 0 → s.bounded ≡ true → step_total s a b 0 n ≡ 0
step_total-none s a b n z y u =
    ap (λ lo. coll_total Unlabelled Sequence a b lo (most_at s.bounded 0) n) (let q : 0 - s.free ≡ 0 = omega arith in q) ∙ ap (λ o. coll_total Unlabelled Sequence a b 0 (most_at o 0) n) u ∙ total-none a b n z y

-- marks go through sums of products
pub alike : (f g : ℕ → ℕ) (n : ℕ) → ((k : ℕ) → k < n → capped (f k) ≡ capped (g k)) → capped (sum_below f n) ≡ capped (sum_below g n)
alike f g zero h = refl
alike f g (suc n) h =
    let e : capped (sum_below f n) ≡ capped (sum_below g n) = alike f g n (λ k l. h k (omega arith)) in
    let d : capped (f n) ≡ capped (g n) = h n (omega arith) in
    omega (arith, e, d)

times_mark : (c x r : ℕ) → x ≡ capped r → capped (c * x) ≡ capped (c * r)
times_mark c x r e = ap (λ i. capped (c * i)) e ∙ sym (capped-mul c (capped r)) ∙ (let q : capped (capped r) ≡ capped r = omega arith in ap (λ i. capped (capped c * i)) q) ∙ capped-mul c r

pub convolved-is : (numbers cells : List ℕ) (f : ℕ → ℕ) (row n : ℕ) → slice_index numbers 0 ≡ 0 → ((m : ℕ) → m < n → slice_index cells (row + m) ≡ capped (f m))
    → capped (convolved numbers cells row n) ≡ capped (sum_below (λ j. slice_index numbers j * f (n - j)) (suc n))
convolved-is numbers cells f row n z h =
    let g : ℕ → ℕ = λ j. slice_index numbers j * f (n - j) in
    let d : g 0 ≡ 0 = ap (λ m. m * f (n - 0)) z ∙ zero-mul (f (n - 0)) in
    alike (λ j. slice_index numbers (suc j) * slice_index cells (row + (n - suc j))) (λ j. g (suc j)) n
    (λ j l. times_mark (slice_index numbers (suc j)) (slice_index cells (row + (n - suc j))) (f (n - suc j)) (h (n - suc j) (omega arith)))
    ∙ ap capped (let q : sum_below (λ j. g (suc j)) n ≡ sum_below g (suc n) = omega (arith, sum_below-shift g n, d) in q)
