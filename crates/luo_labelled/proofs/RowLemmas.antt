-- Cells of rows, read and written.
use Rattle.std.proofs.Common.{◌≡◌, ℕ, zero, suc, ◌+◌, ◌*◌, ◌-◌, ◌≤◌, ◌<◌, ◌⊎◌, ⊎_elim, inl, inr, Bool, true, false, List, [], ◌∷◌, ◌++◌, length, slice_index, slice_set, take, refl, sym, ◌∙◌, ap, subst, arith, length-set}
use Rattle.std.proofs.lemmas.List.{get_or-set_same, get_or-set_other}
use Rattle.std.proofs.Math.Nat.{mul-le-mul_right, add-mul, zero-mul, mul-zero}
use Rattle.luo_num.specs.Mark.{capped}
use Rattle.luo_model.specs.declared.program.Kind.{Kind}
use Rattle.luo_model.specs.declared.program.Kind.TheVariants.{Sequence, Set, Cycle, Multiset, Powerset}
use Rattle.luo_labelled.specs.declared.steps.Steps.{Steps}
use Rattle.luo_labelled.specs.inner.Steps.{rest_of, step_count, step_total, row_count, HoldsRow, HasSource, HoldsSource, HoldsBelow, HoldRows, Settling, Settled, IsOpen, IsPlan, IsPlanned}

times_more : (i w : ℕ) → suc i * w ≡ w + i * w
times_more i w = ap (λ j. j * w) (let q : suc i ≡ 1 + i = omega arith in q) ∙ add-mul 1 i w ∙ ap (λ j. j + i * w) (let q : 1 * w ≡ w = omega arith in q)

-- a cell of a row is there
pub cell_within : (last wide i m cells : ℕ) → i < last → m < wide → cells ≡ row_count last * wide → i * wide + m < cells
cell_within zero wide i m cells h l e = absurd (omega arith)
cell_within (suc last) wide i m cells h l e = omega (arith, mul-le-mul_right wide h, times_more i wide, e)

-- cells of two places are apart
apart_rows : (i k m x w : ℕ) → i < k → m < w → i * w + m < k * w + x
apart_rows i k m x w h l = omega (arith, mul-le-mul_right w h, times_more i w)

one_place : (i k m x w : ℕ) → m < w → x < w → i * w + m ≡ k * w + x → (i ≡ k) × (m ≡ x)
one_place i k m x w l r e = by (three i k)
  where
    three : (i k : ℕ) → (i < k) ⊎ ((i ≡ k) ⊎ (k < i))
    three i k = grind arith

    by : (i < k) ⊎ ((i ≡ k) ⊎ (k < i)) → (i ≡ k) × (m ≡ x)
    by (inl h) = absurd (omega (arith, apart_rows i k m x w h l, e))
    by (inr (inl h)) = (h, omega (arith, e, ap (λ j. j * w) h))
    by (inr (inr h)) = absurd (omega (arith, apart_rows k i x m w h r, e))

read_same : (cells : List ℕ) (p q v : ℕ) → q ≡ p → p < length cells → slice_index (slice_set cells p v) q ≡ v
read_same cells p q v e h = ap (slice_index (slice_set cells p v)) e ∙ get_or-set_same cells p v 0 h

read_other : (cells : List ℕ) (p q v : ℕ) → (q ≡ p → ⊥) → slice_index (slice_set cells p v) q ≡ slice_index cells q
read_other cells p q v n = get_or-set_other cells p q v 0 n

-- one step more is written
pub settling_more : (s : Steps) (F : ℕ → ℕ → ℕ) (m i next row v : ℕ) (old cells : List ℕ) → Settling s F m i old cells → i < s.last → m < s.wide → length old ≡ row_count s.last * s.wide → row ≡ i * s.wide → next ≡ i + 1
    → v ≡ capped (F i m) → Settling s F m next old (slice_set cells (row + m) v)
settling_more s F m i next row v old cells p h l e r n q = record {
  long = length-set cells (row + m) v ∙ p.long;
  before = λ k b x c.
      read_other cells (row + m) (k * s.wide + x) v (λ f. let o = one_place k i x m s.wide (omega (arith, c, l)) l (f ∙ ap (λ t. t + m) r) in omega (arith, o.1, c))
      ∙ p.before k b x c;
  written = λ k b. ⊎_elim
      (λ c. read_other cells (row + m) (k * s.wide + m) v (λ f. let o = one_place k i m m s.wide l l (f ∙ ap (λ t. t + m) r) in omega (arith, o.0, c)) ∙ p.written k c)
      (λ c. read_same cells (row + m) (k * s.wide + m) v (ap (λ t. t * s.wide + m) c ∙ ap (λ t. t + m) (sym r)) (omega (arith, cell_within s.last s.wide i m (length old) h l e, r, p.long)) ∙ q ∙ ap (λ t. capped (F t m)) (sym c))
      (less_or k i (omega (arith, b, n)));
  nothing = λ z. absurd (omega (arith, z, h));
}
  where
    less_or : (x y : ℕ) → x < suc y → (x < y) ⊎ (x ≡ y)
    less_or x y h = grind arith

pub settling_start : (s : Steps) (F : ℕ → ℕ → ℕ) (m : ℕ) (cells : List ℕ) → HoldsBelow s F m cells → Settling s F m 0 cells cells
settling_start s F m cells h = record { long = refl; before = h; written = λ k b. absurd (omega (arith, b)); nothing = λ z. refl }

pub settling_end : (s : Steps) (F : ℕ → ℕ → ℕ) (m i : ℕ) (old cells : List ℕ) → Settling s F m i old cells → s.last ≤ i → Settled s F (m + 1) old cells
settling_end s F m i old cells p h = record {
  long = p.long;
  below = λ k b x c. ⊎_elim (λ d. p.before k b x d) (λ d. ap (λ t. slice_index cells (k * s.wide + t)) d ∙ p.written k (omega (arith, b, h)) ∙ ap (λ t. capped (F k t)) (sym d)) (less_or x m (omega (arith, c)));
  nothing = p.nothing;
}
  where
    less_or : (x y : ℕ) → x < suc y → (x < y) ⊎ (x ≡ y)
    less_or x y h = grind arith

-- what the step before i has, for a step below the last
pub source_below : (s : Steps) (F : ℕ → ℕ → ℕ) (i m : ℕ) (cells : List ℕ) → HoldsBelow s F m cells → i < s.last → HoldsSource s i m (F (i - 1)) cells
source_below s F i m cells h l = λ o. h (i - 1) (omega (arith, l))

-- what stands behind a first component has its own kind behind it, and may be empty
pub rest_planned : (s : Steps) (kind : Kind) (i m : ℕ) → IsPlan s kind → rest_of kind ≡ kind → i < s.last → m < s.wide → IsPlanned s kind i m
rest_planned s kind i m p e h l = record { chained = p.chained; short = p.short; narrow = p.narrow; may_begin = begins kind e; inside = omega (arith, h); size = l }
  where
    begins : (kind : Kind) → rest_of kind ≡ kind → IsOpen kind s.free i
    begins Sequence e = tt
    begins Set e = tt
    begins Cycle e = absurd (cc)
    begins Multiset e = absurd (cc)
    begins Powerset e = absurd (cc)
