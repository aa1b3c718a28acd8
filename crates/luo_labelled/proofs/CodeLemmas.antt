-- What the loops and reads of the code come to.
use Rattle.std.proofs.Common.{◌≡◌, ℕ, zero, suc, ◌+◌, ◌*◌, ◌-◌, ◌≤◌, ◌<◌, ◌⊎◌, ⊎_elim, Bool, true, false, List, [], ◌∷◌, ◌++◌, length, slice_index, refl, sym, ◌∙◌, ap, subst, arith, w32, Fits}
use Rattle.std.proofs.Math.Nat.{mul-le-mul_right, add-mul, zero-mul, mul-zero}
use Rattle.luo_num.specs.Mark.{capped}
use Rattle.luo_num.proofs.Capped.{capped-add, capped-mul}
use Rattle.luo_finite.specs.Range.{sum_below}
use Rattle.luo_finite.proofs.Ranges.{sum_below-same}
use Rattle.luo_model.specs.declared.program.Kind.{Kind}
use Rattle.luo_labelled.specs.declared.steps.Steps.{Steps}
use Rattle.luo_labelled.specs.inner.Steps.{is_led, ways, joined, up_to, empty_at, rest_of, step_count, step_total, row_count, HoldsRow, HasSource, HoldsSource, IsOpen, IsPlanned}
use Rattle.luo_labelled.proofs.FirstLemmas.{IsChained}
use Rattle.luo_labelled.proofs.StepLemmas.{step_first, step_none, step_total_first, step_total_none, past_up_to}

-- the empty collection
up_to-yes : (free i : ℕ) → i ≤ free → 1 ≡ up_to free i
up_to-yes free zero h = refl
up_to-yes zero (suc i) h = absurd (omega arith)
up_to-yes (suc free) (suc i) h = up_to-yes free i (omega arith)

pub empty_yes : (free i n : ℕ) → n ≤ 0 → i ≤ free → 1 ≡ empty_at free i n
empty_yes free i zero h l = up_to-yes free i l
empty_yes free i (suc n) h l = absurd (omega arith)

pub empty_past : (free i n : ℕ) → n ≤ 0 → free < i → 0 ≡ empty_at free i n
empty_past free i zero h l = sym (past_up_to free i l)
empty_past free i (suc n) h l = absurd (omega arith)

pub empty_size : (free i n : ℕ) → 0 < n → 0 ≡ empty_at free i n
empty_size free i zero h = absurd (omega arith)
empty_size free i (suc n) h = refl

-- one term more of a sum over first components
pub term_more : (w x y both way sum term total : ℕ) → both ≡ capped (x * y) → way ≡ capped w → term ≡ capped (way * both) → sum ≡ capped total → capped (sum + term) ≡ capped (w * (x * y) + total)
term_more w x y both way sum term total e f g h =
    let q : capped (way * both) ≡ capped (w * (x * y)) = ap (λ i. capped (i * both)) f ∙ ap (λ i. capped (capped w * i)) e ∙ capped-mul w (x * y) in
    let r : capped (sum + term) ≡ capped (total + w * (x * y)) = ap (λ i. capped (i + term)) h ∙ ap (λ i. capped (capped total + i)) (g ∙ q) ∙ capped-add total (w * (x * y)) in
    r ∙ ap capped (let p : total + w * (x * y) ≡ w * (x * y) + total = omega arith in p)

pub whole_sum : (f : ℕ → ℕ) (j n sum : ℕ) → sum ≡ capped (sum_below f j) → n ≤ j → j ≤ n → sum ≡ capped (sum_below f n)
whole_sum f j n sum e l h = e ∙ ap (λ i. capped (sum_below f i)) (let q : j ≡ n = omega (arith, l, h) in q)

-- what the row before holds may stand for what it says
marked_same : (led : Bool) (a f g : ℕ → ℕ) (n : ℕ) → ((m : ℕ) → m < n → f m ≡ capped (g m)) → capped (joined led a f n) ≡ capped (joined led a g n)
marked_same led a f g n h = along n (omega arith)
  where
    term : (ℕ → ℕ) → ℕ → ℕ
    term f j = ways led n (suc j) * (a (suc j) * f (n - suc j))

    one : (w x y z : ℕ) → y ≡ capped z → capped (w * (x * y)) ≡ capped (w * (x * z))
    one w x y z e =
        sym (capped-mul w (x * y)) ∙ ap (λ i. capped (capped w * i)) (sym (capped-mul x y) ∙ ap (λ i. capped (capped x * capped i)) e ∙ ap (λ i. capped (capped x * i)) (twice z) ∙ capped-mul x z) ∙ capped-mul w (x * z)
      where
        twice : (z : ℕ) → capped (capped z) ≡ capped z
        twice z = omega arith

    along : (k : ℕ) → k ≤ n → capped (sum_below (λ j. ways led n (suc j) * (a (suc j) * f (n - suc j))) k) ≡ capped (sum_below (λ j. ways led n (suc j) * (a (suc j) * g (n - suc j))) k)
    along zero l = refl
    along (suc k) l =
        let e = along k (omega arith) in
        let d = one (ways led n (suc k)) (a (suc k)) (f (n - suc k)) (g (n - suc k)) (h (n - suc k) (omega arith)) in
        sym (capped-add (ways led n (suc k) * (a (suc k) * f (n - suc k))) (sum_below (λ j. ways led n (suc j) * (a (suc j) * f (n - suc j))) k))
        ∙ ap (λ i. capped (i + capped (sum_below (λ j. ways led n (suc j) * (a (suc j) * f (n - suc j))) k))) d
        ∙ ap (λ i. capped (capped (ways led n (suc k) * (a (suc k) * g (n - suc k))) + i)) e
        ∙ capped-add (ways led n (suc k) * (a (suc k) * g (n - suc k))) (sum_below (λ j. ways led n (suc j) * (a (suc j) * g (n - suc j))) k)

-- a row is within the cells
pub row_within : (last wide i n row cells : ℕ) → i ≤ last → n < wide → cells ≡ row_count last * wide → row ≡ (i - 1) * wide → row + n ≤ cells
row_within last wide i n row cells h l e f =
    let k : suc (i - 1) * wide ≤ row_count last * wide = mul-le-mul_right wide (few last i h) in
    let m : suc (i - 1) * wide ≡ wide + (i - 1) * wide = ap (λ j. j * wide) (let q : suc (i - 1) ≡ 1 + (i - 1) = omega arith in q) ∙ add-mul 1 (i - 1) wide ∙ ap (λ j. j + (i - 1) * wide) (let q : 1 * wide ≡ wide = omega arith in q) in
    omega (arith, k, m, e, f, l)
  where
    few : (last i : ℕ) → i ≤ last → suc (i - 1) ≤ row_count last
    few zero i h = omega (arith, h)
    few (suc last) i h = omega (arith, h)

-- the step before
pub source_behind : (unbounded : Bool) (i : ℕ) → 0 < i → HasSource unbounded i
source_behind true i h = tt
source_behind false i h = omega arith

pub source_itself : (unbounded : Bool) (i wide : ℕ) → i ≤ 0 → unbounded ≡ true → HasSource unbounded i × (0 ≡ (i - 1) * wide)
source_itself true i wide h e = (tt, sym (ap (λ m. m * wide) (let q : i - 1 ≡ 0 = omega (arith, h) in q) ∙ zero-mul wide))
source_itself false i wide h e = absurd (cc)

pub source_none : (unbounded : Bool) (i : ℕ) → i ≤ 0 → unbounded ≡ false → HasSource unbounded i → ⊥
source_none true i h e s = cc
source_none false i h e s = omega (arith, s, h)

no_source : (unbounded : Bool) (i : ℕ) → (HasSource unbounded i → ⊥) → (unbounded ≡ false) × (i ≡ 0)
no_source true i h = absurd (h tt)
no_source false zero h = (refl, refl)
no_source false (suc i) h = absurd (h (omega arith))

-- the entries
pub count_first_entry : (s : Steps) (kind : Kind) (a : ℕ → ℕ) (i n row empty rest result : ℕ) (cells : List ℕ) → IsPlanned s kind i n → a 0 ≡ 0 → HoldsSource s i n (step_count s (rest_of kind) a (i - 1)) cells
    → HasSource s.unbounded i × (row ≡ (i - 1) * s.wide) → empty ≡ empty_at s.free i n → rest ≡ capped (joined (is_led kind) a (λ m. slice_index cells (row + m)) n) → result ≡ capped (empty + rest)
    → result ≡ capped (step_count s kind a i n)
count_first_entry s kind a i n row empty rest result cells p z held (h, r) e f g =
    let q : rest ≡ capped (joined (is_led kind) a (step_count s (rest_of kind) a (i - 1)) n) = f ∙ marked_same (is_led kind) a (λ m. slice_index cells (row + m)) (step_count s (rest_of kind) a (i - 1)) n (λ m l. ap (λ t. slice_index cells (t + m)) r ∙ held h m l) in
    g ∙ ap (λ t. capped (t + rest)) e ∙ ap (λ t. capped (empty_at s.free i n + t)) q ∙ mark_right (empty_at s.free i n) (joined (is_led kind) a (step_count s (rest_of kind) a (i - 1)) n)
    ∙ ap capped (sym (step_first s kind a i n p.chained z p.may_begin h))
  where
    mark_right : (x y : ℕ) → capped (x + capped y) ≡ capped (x + y)
    mark_right x y = omega arith

pub count_none_entry : (s : Steps) (kind : Kind) (a : ℕ → ℕ) (i n empty : ℕ) → IsPlanned s kind i n → a 0 ≡ 0 → (HasSource s.unbounded i → ⊥) → empty ≡ empty_at s.free i n → empty ≡ capped (step_count s kind a i n)
count_none_entry s kind a i n empty p z h f =
    let o = no_source s.unbounded i h in
    f ∙ small s.free i n ∙ ap capped (sym (step_none s kind a i n p.chained z p.may_begin o.0 o.1))
  where
    one_or : (free i : ℕ) → up_to free i ≡ capped (up_to free i)
    one_or free zero = refl
    one_or zero (suc i) = refl
    one_or (suc free) (suc i) = one_or free i

    small : (free i n : ℕ) → empty_at free i n ≡ capped (empty_at free i n)
    small free i zero = one_or free i
    small free i (suc n) = refl

pub total_first_entry : (s : Steps) (kind : Kind) (a b : ℕ → ℕ) (i n row first behind result : ℕ) (counts totals : List ℕ) → IsPlanned s kind i n → a 0 ≡ 0 → b 0 ≡ 0
    → HoldsSource s i n (step_count s (rest_of kind) a (i - 1)) counts → HoldsSource s i n (step_total s (rest_of kind) a b (i - 1)) totals → HasSource s.unbounded i × (row ≡ (i - 1) * s.wide)
    → first ≡ capped (joined (is_led kind) b (λ m. slice_index counts (row + m)) n) → behind ≡ capped (joined (is_led kind) a (λ m. slice_index totals (row + m)) n) → result ≡ capped (first + behind)
    → result ≡ capped (step_total s kind a b i n)
total_first_entry s kind a b i n row first behind result counts totals p z y held kept (h, r) e f g =
    let x : first ≡ capped (joined (is_led kind) b (step_count s (rest_of kind) a (i - 1)) n) = e ∙ marked_same (is_led kind) b (λ m. slice_index counts (row + m)) (step_count s (rest_of kind) a (i - 1)) n (λ m l. ap (λ t. slice_index counts (t + m)) r ∙ held h m l) in
    let w : behind ≡ capped (joined (is_led kind) a (step_total s (rest_of kind) a b (i - 1)) n) = f ∙ marked_same (is_led kind) a (λ m. slice_index totals (row + m)) (step_total s (rest_of kind) a b (i - 1)) n (λ m l. ap (λ t. slice_index totals (t + m)) r ∙ kept h m l) in
    g ∙ ap (λ t. capped (t + behind)) x ∙ ap (λ t. capped (capped (joined (is_led kind) b (step_count s (rest_of kind) a (i - 1)) n) + t)) w
    ∙ capped-add (joined (is_led kind) b (step_count s (rest_of kind) a (i - 1)) n) (joined (is_led kind) a (step_total s (rest_of kind) a b (i - 1)) n)
    ∙ ap capped (sym (step_total_first s kind a b i n p.chained z y h))

pub total_none_entry : (s : Steps) (kind : Kind) (a b : ℕ → ℕ) (i n : ℕ) → IsPlanned s kind i n → a 0 ≡ 0 → b 0 ≡ 0 → (HasSource s.unbounded i → ⊥) → 0 ≡ capped (step_total s kind a b i n)
total_none_entry s kind a b i n p z y h =
    let o = no_source s.unbounded i h in
    ap capped (sym (step_total_none s kind a b i n p.chained z y o.0 o.1))
