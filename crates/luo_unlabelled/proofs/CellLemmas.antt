-- Rows of cells, one behind the other.
use Rattle.std.proofs.Common.{◌≡◌, ℕ, zero, suc, ◌+◌, ◌*◌, ◌<◌, ◌⊎◌, ⊎_elim, true, false, List, length, set, slice_index, refl, sym, ◌∙◌, ap, arith}
use Rattle.std.proofs.lemmas.List.{get_or-set_same, get_or-set_other, length-set}
use Rattle.std.proofs.lemmas.Nat.{same_from_place, mul-add-lt}
use Rattle.luo_num.specs.Mark.{capped}
use Rattle.luo_finite.specs.Range.{unit}
use Rattle.luo_unlabelled.specs.declared.steps.Steps.{Steps}
use Rattle.luo_unlabelled.specs.inner.Steps.{convolved, step_count, step_total, empty_at, source, HoldsRow, HasSource, HoldsBelow, Settled, HoldsTable}
use Rattle.luo_unlabelled.proofs.StepLemmas.{empty_yes, step-next, step-first, step-none, step_total-next, step_total-first, step_total-none, convolved-is}

pub below_or : (m n : ℕ) → m < n + 1 → (m < n) ⊎ (m ≡ n)
below_or m n h = grind arith

pub cell_same : (cells : List ℕ) (p v : ℕ) → p < length cells → slice_index (set cells p v) p ≡ v
cell_same cells p v h = get_or-set_same cells p v 0 h

pub cell_other : (cells : List ℕ) (w i m k x v : ℕ) → x < w → m < w → (k ≡ i → x ≡ m → ⊥) → slice_index (set cells (i * w + m) v) (k * w + x) ≡ slice_index cells (k * w + x)
cell_other cells w i m k x v hx hm o = get_or-set_other cells (i * w + m) (k * w + x) v 0 (λ e. let q = same_from_place k x i m w hx hm e in o q.0 q.1)

unit_small : (n : ℕ) → unit n ≡ capped (unit n)
unit_small zero = omega arith
unit_small (suc n) = omega arith

-- an entry with nothing to go on from
pub entry_none : (s : Steps) (a : ℕ → ℕ) (i n r : ℕ) → i ≡ 0 → s.bounded ≡ true → a 0 ≡ 0 → r ≡ empty_at s i n → r ≡ capped (step_count s a i n)
entry_none s a zero n r i u z e =
    let q : r ≡ unit n = e ∙ empty_yes s 0 n (omega arith) in
    let t : step_count s a 0 n ≡ unit n = step-none s a n z u ∙ empty_yes s 0 n (omega arith) in
    q ∙ unit_small n ∙ ap capped (sym t)
entry_none s a (suc k) n r i u z e = absurd (omega (arith, i))

-- an entry that goes on from a row
pub entry_whole : (s : Steps) (comp cells : List ℕ) (i n row e c r : ℕ) → (i ≡ 0 → s.bounded ≡ false) → slice_index comp 0 ≡ 0 → HasSource s (step_count s (slice_index comp)) i n cells → row ≡ source i * s.wide
    → e ≡ empty_at s i n → c ≡ capped (convolved comp cells row n) → r ≡ capped (e + c) → r ≡ capped (step_count s (slice_index comp) i n)
entry_whole s comp cells zero n row e c r u z h er ee ec q =
    let a : ℕ → ℕ = slice_index comp in
    let l : capped (convolved comp cells row n) ≡ _ = convolved-is comp cells (step_count s a 0) row n z (λ m b. ap (λ p. slice_index cells (p + m)) er ∙ h (u refl) m b) in
    let t = step-first s a n z (u refl) in
    omega (arith, q, ee, ec, l, t)
entry_whole s comp cells (suc i) n row e c r u z h er ee ec q =
    let a : ℕ → ℕ = slice_index comp in
    let l : capped (convolved comp cells row n) ≡ _ = convolved-is comp cells (step_count s a i) row n z (λ m b. ap (λ p. slice_index cells (p + m)) er ∙ h m b) in
    let t = step-next s a i n z in
    omega (arith, q, ee, ec, l, t)

-- a row to go on from
pub has_source : (s : Steps) (f : ℕ → ℕ → ℕ) (i n : ℕ) (cells : List ℕ) → i < s.last → HoldsBelow s f n cells → HasSource s f i n cells
has_source s f zero n cells l h = λ u. h 0 l
has_source s f (suc i) n cells l h = h i (omega (arith, l))

-- at the last step
pub last_source : (s : Steps) (f : ℕ → ℕ → ℕ) (i n : ℕ) (cells : List ℕ) → i ≡ s.last → HoldsBelow s f n cells → HoldsRow s f s.last n cells → HasSource s f i n cells
last_source s f zero n cells e h r = λ u m b. ap (λ p. slice_index cells (p * s.wide + m)) e ∙ r m b ∙ ap (λ p. capped (f p m)) (sym e)
last_source s f (suc i) n cells e h r = h i (omega (arith, e))

place_within : (s : Steps) (i m : ℕ) (cells : List ℕ) → length cells ≡ (s.last + 1) * s.wide → i < s.last + 1 → m < s.wide → i * s.wide + m < length cells
place_within s i m cells e h l = omega (arith, e, mul-add-lt i s.wide m (s.last + 1) h l, turned (s.last + 1) s.wide)
  where
    turned : (x y : ℕ) → x * y ≡ y * x
    turned x y = search arith

-- one entry more of a size
pub settled_more : (s : Steps) (f : ℕ → ℕ → ℕ) (m i v : ℕ) (old new : List ℕ) → i < s.last → m < s.wide → length new ≡ (s.last + 1) * s.wide → v ≡ capped (f i m) → Settled s f m i old new → Settled s f m (i + 1) old (set new (i * s.wide + m) v)
settled_more s f m i v old new l hm e q st = record {
  long = length-set new (i * s.wide + m) v ∙ st.long;
  before = λ k h x b. cell_other new s.wide i m k x v (omega (arith, b, hm)) hm (λ _ g. omega (arith, g, b)) ∙ st.before k h x b;
  written = λ k h. ⊎_elim
      (λ b. cell_other new s.wide i m k m v hm hm (λ g _. omega (arith, g, b)) ∙ st.written k b)
      (λ g. ap (λ p. slice_index (set new (i * s.wide + m) v) (p * s.wide + m)) g ∙ cell_same new (i * s.wide + m) v (place_within s i m new e (omega (arith, l)) hm) ∙ q ∙ ap (λ p. capped (f p m)) (sym g))
      (below_or k i h);
  others = λ x b. cell_other new s.wide i m s.last x v b hm (λ g _. omega (arith, g, l)) ∙ st.others x b;
}

pub settled_none : (s : Steps) (f : ℕ → ℕ → ℕ) (m : ℕ) (cells : List ℕ) → HoldsBelow s f m cells → Settled s f m 0 cells cells
settled_none s f m cells h = record {
  long = refl;
  before = h;
  written = λ k l. absurd (omega (arith, l));
  others = λ x b. refl;
}

-- the answer of a call more
pub holds_more : (s : Steps) (f : ℕ → ℕ → ℕ) (n v : ℕ) (cells : List ℕ) → length cells ≡ (s.last + 1) * s.wide → n < s.wide → HoldsBelow s f n cells → HoldsRow s f s.last n cells → v ≡ capped (f s.last n) → HoldsTable s f (n + 1) (set cells (s.last * s.wide + n) v)
holds_more s f n v cells e l h r q = record {
  below = λ i m b o. cell_other cells s.wide s.last n i m v (omega (arith, o, l)) l (λ g _. omega (arith, g, b)) ∙ h i b m (omega (arith, o));
  answers = λ m b. ⊎_elim
      (λ o. cell_other cells s.wide s.last n s.last m v (omega (arith, o, l)) l (λ _ g. omega (arith, g, o)) ∙ r m o)
      (λ g. ap (λ x. slice_index (set cells (s.last * s.wide + n) v) (s.last * s.wide + x)) g ∙ cell_same cells (s.last * s.wide + n) v (place_within s s.last n cells e (omega arith) l) ∙ q ∙ ap (λ x. capped (f s.last x)) (sym g))
      (below_or m n b);
}

-- the same for charges
pub total_none : (s : Steps) (a b : ℕ → ℕ) (i n : ℕ) → i ≡ 0 → s.bounded ≡ true → a 0 ≡ 0 → b 0 ≡ 0 → 0 ≡ capped (step_total s a b i n)
total_none s a b zero n i u z y = omega (arith, step_total-none s a b n z y u)
total_none s a b (suc k) n i u z y = absurd (omega (arith, i))

pub total_whole : (s : Steps) (comp body counts cells : List ℕ) (i n row e c r : ℕ) → (i ≡ 0 → s.bounded ≡ false) → slice_index comp 0 ≡ 0 → slice_index body 0 ≡ 0 → HasSource s (step_count s (slice_index comp)) i n counts
    → HasSource s (step_total s (slice_index comp) (slice_index body)) i n cells → row ≡ source i * s.wide → e ≡ capped (convolved body counts row n) → c ≡ capped (convolved comp cells row n) → r ≡ capped (e + c) → r ≡ capped (step_total s (slice_index comp) (slice_index body) i n)
total_whole s comp body counts cells zero n row e c r u z y h g er ee ec q =
    let a : ℕ → ℕ = slice_index comp in
    let b : ℕ → ℕ = slice_index body in
    let k : capped (convolved body counts row n) ≡ _ = convolved-is body counts (step_count s a 0) row n y (λ m l. ap (λ p. slice_index counts (p + m)) er ∙ h (u refl) m l) in
    let l : capped (convolved comp cells row n) ≡ _ = convolved-is comp cells (step_total s a b 0) row n z (λ m l. ap (λ p. slice_index cells (p + m)) er ∙ g (u refl) m l) in
    let t = step_total-first s a b n z y (u refl) in
    omega (arith, q, ee, ec, k, l, t)
total_whole s comp body counts cells (suc i) n row e c r u z y h g er ee ec q =
    let a : ℕ → ℕ = slice_index comp in
    let b : ℕ → ℕ = slice_index body in
    let k : capped (convolved body counts row n) ≡ _ = convolved-is body counts (step_count s a i) row n y (λ m l. ap (λ p. slice_index counts (p + m)) er ∙ h m l) in
    let l : capped (convolved comp cells row n) ≡ _ = convolved-is comp cells (step_total s a b i) row n z (λ m l. ap (λ p. slice_index cells (p + m)) er ∙ g m l) in
    let t = step_total-next s a b i n z y in
    omega (arith, q, ee, ec, k, l, t)
