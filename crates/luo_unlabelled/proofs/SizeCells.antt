-- Cells of rows by size alone.
use Rattle.std.proofs.Common.{◌≡◌, ℕ, zero, suc, ◌+◌, ◌*◌, ◌-◌, ◌/◌, ◌≤◌, ◌<◌, ◌⊎◌, ⊎_elim, List, length, set, replicate, slice_index, refl, sym, ◌∙◌, ap, subst, arith}
use Rattle.std.proofs.lemmas.List.{length-set, length-replicate, get_or-set_same, get_or-set_other}
use Rattle.std.proofs.lemmas.Nat.{mul-le, le-div}
use Rattle.std.proofs.Math.Nat.{mul-zero, zero-mul, div-mul-le_self}
use Rattle.luo_num.specs.Mark.{capped}
use Rattle.luo_finite.specs.Range.{sum_below}
use Rattle.luo_model.specs.declared.program.Kind.{Kind}
use Rattle.luo_model.specs.declared.program.Kind.TheVariants.{Sequence, Set, Cycle, Multiset, Powerset}
use Rattle.luo_counting.specs.Numbers.{back, repeats, chosen, chosen_totals}
use Rattle.luo_counting.proofs.Planes.{back-no}
use Rattle.luo_unlabelled.specs.inner.Planes.{AreWays, AreCharges}
use Rattle.luo_unlabelled.specs.inner.Sizes.{stepped, sized, sized_totals, from_cells, HoldsSizes, IsFolded, count_fold, total_fold}
use Rattle.luo_unlabelled.proofs.RowLemmas.{sum_below-tail}
use Rattle.luo_unlabelled.proofs.PlaneLemmas.{back_there}
use Rattle.luo_unlabelled.proofs.PartCalls.{nothing_at}
use Rattle.luo_unlabelled.proofs.SizeSteps.{stepped-same, stepped-none, stepped-nothing, stepped-marked}
use Rattle.luo_unlabelled.proofs.SizeNumbers.{sized-beyond, totals-beyond}

-- so many components of a size fit
pub taken_fit : (d m j : ℕ) → j < m / d + 1 → j * d ≤ m
taken_fit d m j h = omega (arith, mul-le j d (m / d) d (omega (arith, h)) (omega arith), div-mul-le_self m d)

small_one : (x d : ℕ) → 1 ≤ d → x ≤ x * d
small_one x d h = omega (arith, mul-le x 1 x d (omega arith) h)

pub taken_few : (d m j : ℕ) → 1 ≤ d → j < m / d + 1 → j ≤ m
taken_few d m j o h = omega (arith, taken_fit d m j h, small_one j d o)

-- one term more
pub taken_more : (ways cells : List ℕ) (d m j next sum way rest : ℕ) → sum ≡ capped (sum_below (λ j. slice_index ways j * back (j * d) (slice_index cells) m) j) → next ≡ j + 1 → j * d ≤ m → way ≡ slice_index ways j → rest ≡ slice_index cells (m - j * d)
    → capped (sum + capped (way * rest)) ≡ capped (sum_below (λ j. slice_index ways j * back (j * d) (slice_index cells) m) next)
taken_more ways cells d m j next sum way rest e n l w r =
    let f : ℕ → ℕ = λ j. slice_index ways j * back (j * d) (slice_index cells) m in
    let t : way * rest ≡ f j = ap (λ i. i * rest) w ∙ ap (λ i. slice_index ways j * i) (r ∙ sym (back_there (j * d) (slice_index cells) m l)) in
    let q : capped (sum + capped (way * rest)) ≡ capped (f j + sum_below f j) = omega (arith, e, t) in
    q ∙ ap (λ i. capped (sum_below f i)) (let g : suc j ≡ next = omega (arith, n) in g)

fits_or : (s m : ℕ) → (s ≤ m) ⊎ (m < s)
fits_or s m = grind arith

-- the terms behind are 0
pub taken_whole : (ways cells : List ℕ) (d m j sum : ℕ) → 1 ≤ d → sum ≡ capped (sum_below (λ j. slice_index ways j * back (j * d) (slice_index cells) m) j) → j ≡ m / d + 1 → sum ≡ capped (from_cells ways cells d m)
taken_whole ways cells d m j sum o e n =
    e ∙ ap capped (sum_below-tail (λ j. slice_index ways j * back (j * d) (slice_index cells) m) j (suc m) (omega (arith, n, taken_few d m (m / d) o (omega arith))) (λ i a b. ⊎_elim
    (λ l. absurd (omega (arith, a, n, le-div i m d o l)))
    (λ l. ap (λ x. slice_index ways i * x) (back-no (i * d) (slice_index cells) m l) ∙ mul-zero (slice_index ways i))
    (fits_or (i * d) m)))

pub fold_none : (g : List ℕ → ℕ → ℕ) (first : ℕ) (cells : List ℕ) → length cells ≤ first → IsFolded g first cells cells
fold_none g first cells h = record {
  long = refl;
  done = λ m a b. absurd (omega (arith, h, a, b));
  rest = λ m a. refl;
}

at_or : (k i : ℕ) → i ≤ k → (k ≡ i) ⊎ (suc i ≤ k)
at_or k i h = grind arith

-- one cell more, below those that have been written
pub fold_more : (g : List ℕ → ℕ → ℕ) (first next m v : ℕ) (old mid : List ℕ) → first ≡ suc m → next ≡ m → m < length old → v ≡ g old m → IsFolded g first old mid → IsFolded g next old (set mid m v)
fold_more g first next m v old mid e en l q f = record {
  long = length-set mid m v ∙ f.long;
  done = λ x a b. ⊎_elim
      (λ h. ap (slice_index (set mid m v)) h ∙ get_or-set_same mid m v 0 (omega (arith, l, f.long)) ∙ q ∙ ap (g old) (sym h))
      (λ h. get_or-set_other mid m x v 0 (λ t. omega (arith, t, h)) ∙ f.done x (omega (arith, e, h)) b)
      (at_or x m (omega (arith, en, a)));
  rest = λ x a. get_or-set_other mid m x v 0 (λ t. omega (arith, t, a, en)) ∙ f.rest x (omega (arith, e, a, en));
}

-- a cell goes on from itself and from smaller ones, which are as they were
pub fold_same : (g : List ℕ → ℕ → ℕ) (ways : List ℕ) (first d m : ℕ) (old mid : List ℕ) → m < first → IsFolded g first old mid → from_cells ways mid d m ≡ from_cells ways old d m
fold_same g ways first d m old mid l f = stepped-same (slice_index ways) (slice_index ways) (slice_index mid) (slice_index old) d m (λ j. refl) (λ x b. f.rest x (omega (arith, l, b)))

step_or : (m e : ℕ) → (e ≤ m) ⊎ (m < e)
step_or m e = grind arith

-- a row with a size folded in
pub fold_holds : (kind : Kind) (a : ℕ → ℕ) (ways old new now : List ℕ) (wide d e : ℕ) → e ≡ suc d → wide ≡ length old → now ≡ new → IsFolded (count_fold ways e) e old new → AreWays kind (a e) e wide ways → HoldsSizes wide (sized kind a d) old → HoldsSizes wide (sized kind a e) now
fold_holds kind a ways old new now wide d e ee ew en p w h m hm = ap (λ (l : List ℕ). slice_index l m) en ∙ ⊎_elim
    (λ l.
    p.done m l (omega (arith, hm, ew)) ∙ ap (λ x. capped (from_cells ways old x m)) ee
    ∙ stepped-marked (slice_index ways) (chosen kind (a (suc d))) (slice_index old) (sized kind a d) (suc d) m (λ j b. subst (λ x. AreWays kind (a x) x wide ways) ee w j (omega (arith, b, hm))) (λ x b. h x (omega (arith, b, hm))) ∙ ap (λ x. capped (sized kind a x m)) (sym ee))
    (λ l. p.rest m l ∙ h m hm ∙ ap capped (sym (sized-beyond kind a d m (omega (arith, l, ee)))) ∙ ap (λ x. capped (sized kind a x m)) (sym ee))
    (step_or m e)

fold_kept : (kind : Kind) (a : ℕ → ℕ) (old now : List ℕ) (wide d e : ℕ) → d ≡ e → now ≡ old → HoldsSizes wide (sized kind a d) old → HoldsSizes wide (sized kind a e) now
fold_kept kind a old now wide d e q en h m hm = ap (λ (l : List ℕ). slice_index l m) en ∙ h m hm ∙ ap (λ x. capped (sized kind a x m)) q

-- of nothing there is one choice, of nothing
chosen_nothing : (kind : Kind) → chosen kind 0 0 ≡ 1
chosen_nothing Sequence = refl
chosen_nothing Set = refl
chosen_nothing Cycle = refl
chosen_nothing Multiset = refl
chosen_nothing Powerset = refl

chosen_none : (kind : Kind) (j : ℕ) → chosen kind 0 (suc j) ≡ 0
chosen_none Sequence j = refl
chosen_none Set j = refl
chosen_none Cycle j = refl
chosen_none Multiset j = refl
chosen_none Powerset j = refl

-- a size without components leaves the row as it was
fold_idle : (kind : Kind) (a : ℕ → ℕ) (old now : List ℕ) (wide d e : ℕ) → e ≡ suc d → a e ≡ 0 → now ≡ old → HoldsSizes wide (sized kind a d) old → HoldsSizes wide (sized kind a e) now
fold_idle kind a old now wide d e ee z en h m hm =
    ap (λ (l : List ℕ). slice_index l m) en ∙ h m hm
    ∙ ap capped (sym (ap (λ x. stepped (chosen kind x) (sized kind a d) (suc d) m) (ap a (sym ee) ∙ z) ∙ stepped-none (chosen kind 0) (sized kind a d) (suc d) m (chosen_nothing kind) (chosen_none kind)))
    ∙ ap (λ x. capped (sized kind a x m)) (sym ee)

-- no size is folded in
pub fold_left : (kind : Kind) (a : ℕ → ℕ) (old now : List ℕ) (wide n : ℕ) → (2 < n → a (n - 2) ≡ 0) → now ≡ old → HoldsSizes wide (sized kind a (n - 3)) old → HoldsSizes wide (sized kind a (n - 2)) now
fold_left kind a old now wide n z en h = ⊎_elim
    (λ l. fold_idle kind a old now wide (n - 3) (n - 2) (omega (arith, l)) (z (omega (arith, l))) en h)
    (λ l. fold_kept kind a old now wide (n - 3) (n - 2) (omega (arith, l)) en h)
    (step_or n 3)

pub totals_folded : (kind : Kind) (a b : ℕ → ℕ) (ways charges counts old new : List ℕ) (wide d e : ℕ) → e ≡ suc d → wide ≡ length old → IsFolded (total_fold ways charges counts e) e old new → AreWays kind (a e) e wide ways → AreCharges kind (a e) (b e) e wide charges
    → HoldsSizes wide (sized kind a d) counts → HoldsSizes wide (sized_totals kind a b d) old → HoldsSizes wide (sized_totals kind a b e) new
totals_folded kind a b ways charges counts old new wide d e ee ew p w c h g m hm = ⊎_elim
    (λ l.
    let u : capped (from_cells charges counts (suc d) m) ≡ capped (stepped (chosen_totals kind (a (suc d)) (b (suc d))) (sized kind a d) (suc d) m) = stepped-marked (slice_index charges) (chosen_totals kind (a (suc d)) (b (suc d))) (slice_index counts) (sized kind a d) (suc d) m (λ j r. subst (λ x. AreCharges kind (a x) (b x) x wide charges) ee c j (omega (arith, r, hm))) (λ x r. h x (omega (arith, r, hm))) in
    let v : capped (from_cells ways old (suc d) m) ≡ capped (stepped (chosen kind (a (suc d))) (sized_totals kind a b d) (suc d) m) = stepped-marked (slice_index ways) (chosen kind (a (suc d))) (slice_index old) (sized_totals kind a b d) (suc d) m (λ j r. subst (λ x. AreWays kind (a x) x wide ways) ee w j (omega (arith, r, hm))) (λ x r. g x (omega (arith, r, hm))) in
    p.done m l (omega (arith, hm, ew)) ∙ ap (λ x. capped (from_cells charges counts x m + from_cells ways old x m)) ee
    ∙ both (from_cells charges counts (suc d) m) (from_cells ways old (suc d) m) (stepped (chosen_totals kind (a (suc d)) (b (suc d))) (sized kind a d) (suc d) m) (stepped (chosen kind (a (suc d))) (sized_totals kind a b d) (suc d) m) u v
    ∙ ap (λ x. capped (sized_totals kind a b x m)) (sym ee))
    (λ l. p.rest m l ∙ g m hm ∙ ap capped (sym (totals-beyond kind a b d m (omega (arith, l, ee)))) ∙ ap (λ x. capped (sized_totals kind a b x m)) (sym ee))
    (step_or m e)
  where
    both : (x y s t : ℕ) → capped x ≡ capped s → capped y ≡ capped t → capped (x + y) ≡ capped (s + t)
    both x y s t e f = omega (arith, e, f)

charged_none : (kind : Kind) (j : ℕ) → chosen_totals kind 0 0 j ≡ 0
charged_none Powerset j = refl
charged_none Sequence zero = refl
charged_none Sequence (suc j) = zero-mul (repeats 1 j)
charged_none Set zero = refl
charged_none Set (suc j) = zero-mul (repeats 1 j)
charged_none Cycle zero = refl
charged_none Cycle (suc j) = zero-mul (repeats 1 j)
charged_none Multiset zero = refl
charged_none Multiset (suc j) = zero-mul (repeats 1 j)

-- a size without components leaves the charges as they were
pub totals_left : (kind : Kind) (a b : ℕ → ℕ) (cells : List ℕ) (wide d e : ℕ) → e ≡ suc d → a e ≡ 0 → b e ≡ 0 → HoldsSizes wide (sized_totals kind a b d) cells → HoldsSizes wide (sized_totals kind a b e) cells
totals_left kind a b cells wide d e ee z y h m hm =
    let A : a (suc d) ≡ 0 = ap a (sym ee) ∙ z in
    let B : b (suc d) ≡ 0 = ap b (sym ee) ∙ y in
    let u : stepped (chosen_totals kind (a (suc d)) (b (suc d))) (sized kind a d) (suc d) m ≡ 0 =
    ap (λ x. stepped (chosen_totals kind x (b (suc d))) (sized kind a d) (suc d) m) A ∙ ap (λ x. stepped (chosen_totals kind 0 x) (sized kind a d) (suc d) m) B ∙ stepped-nothing (chosen_totals kind 0 0) (sized kind a d) (suc d) m (charged_none kind) in
    let v : stepped (chosen kind (a (suc d))) (sized_totals kind a b d) (suc d) m ≡ sized_totals kind a b d m =
    ap (λ x. stepped (chosen kind x) (sized_totals kind a b d) (suc d) m) A ∙ stepped-none (chosen kind 0) (sized_totals kind a b d) (suc d) m (chosen_nothing kind) (chosen_none kind) in
    h m hm ∙ ap capped (sym (let t : sized_totals kind a b (suc d) m ≡ sized_totals kind a b d m = omega (arith, u, v) in t)) ∙ ap (λ x. capped (sized_totals kind a b x m)) (sym ee)

pub totals_kept : (kind : Kind) (a b : ℕ → ℕ) (cells : List ℕ) (wide d e : ℕ) → d ≡ e → HoldsSizes wide (sized_totals kind a b d) cells → HoldsSizes wide (sized_totals kind a b e) cells
totals_kept kind a b cells wide d e q h m hm = h m hm ∙ ap (λ x. capped (sized_totals kind a b x m)) q

-- before the first call the row has the empty collection alone
pub empty_row : (kind : Kind) (a : ℕ → ℕ) (cells : List ℕ) (wide n : ℕ) → cells ≡ replicate n 0 → 1 ≤ n → HoldsSizes wide (sized kind a 0) (set cells 0 1)
empty_row kind a cells wide n e h zero hm = get_or-set_same cells 0 1 0 (omega (arith, h, ap length e ∙ long n)) ∙ (let q : 1 ≡ capped 1 = omega arith in q)
  where
    long : (n : ℕ) → length (replicate {A = ℕ} n 0) ≡ n
    long n = length-replicate n 0
empty_row kind a cells wide n e h (suc m) hm = get_or-set_other cells 0 (suc m) 1 0 (λ q. omega (arith, q)) ∙ ap (λ (l : List ℕ). slice_index l (suc m)) e ∙ nothing_at n (suc m) ∙ (let q : 0 ≡ capped 0 = omega arith in q)
