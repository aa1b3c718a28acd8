-- Cells that stand row by row.
use Rattle.std.proofs.Common.{◌≡◌, ◌⊎◌, ℕ, zero, suc, ◌+◌, ◌*◌, ◌≤◌, ◌<◌, inl, inr, ⊎_elim, List, [], length, slice_index, slice_set, take, drop, refl, sym, ◌∙◌, ap, arith}
use Rattle.std.proofs.Math.Nat.{suc-mul, zero-mul, mul-le-mul_right}
use Rattle.std.proofs.lemmas.List.{drop-drop, get_or-take, get_or-drop, get_or_past, get_or-set_same, get_or-set_other, length-take-le, length-drop, length-set}
use Rattle.luo_engine.specs.inner.Grid.{rows_of, row_of, entry_of, IsTable, IsSet, AreZero}

pub length-rows : (rows sizes : ℕ) (cells : List ℕ) → length (rows_of rows sizes cells) ≡ rows
unfolding rows_of
length-rows zero sizes cells = refl
length-rows (suc rows) sizes cells = ap suc (length-rows rows sizes (drop sizes cells))

-- row x stands from x * sizes on
pub row-at : (rows sizes x : ℕ) (cells : List ℕ) → x < rows → row_of (rows_of rows sizes cells) x ≡ take sizes (drop (x * sizes) cells)
unfolding rows_of
row-at zero sizes x cells h = absurd (omega arith)
row-at (suc rows) sizes zero cells h = ap (λ k. take sizes (drop k cells)) (sym (zero-mul sizes))
row-at (suc rows) sizes (suc x) cells h =
    row-at rows sizes x (drop sizes cells) (omega arith)
    ∙ ap (take sizes) (drop-drop (x * sizes) sizes cells ∙ ap (λ k. drop k cells) (omega (arith, suc-mul x sizes)))

pub place-within : (x rows sizes : ℕ) → x < rows → x * sizes + sizes ≤ rows * sizes
place-within x rows sizes h = omega (arith, suc-mul x sizes, mul-le-mul_right {m = suc x} {n = rows} sizes (omega arith))

less_or_not : (a b : ℕ) → (a < b) ⊎ (b ≤ a)
less_or_not a b = grind arith

-- two entries stand at two places
pub place-other : (x y m n sizes : ℕ) → m < sizes → n < sizes → y < x → y * sizes + m ≡ x * sizes + n → ⊥
place-other x y m n sizes h k l e = absurd (omega (arith, place-within y x sizes l))

module _ (rows sizes : ℕ) (cells : List ℕ) (whole : length cells ≡ rows * sizes) where
  pub row-long : (x : ℕ) → x < rows → length (row_of (rows_of rows sizes cells) x) ≡ sizes
  row-long x h =
      ap length (row-at rows sizes x cells h)
      ∙ length-take-le sizes (drop (x * sizes) cells) (omega (arith, length-drop (x * sizes) cells, place-within x rows sizes h))

  pub row-past : (x : ℕ) → rows ≤ x → row_of (rows_of rows sizes cells) x ≡ []
  row-past x h = get_or_past (rows_of rows sizes cells) x [] (omega (arith, length-rows rows sizes cells))

  pub entry-at : (x n : ℕ) → x < rows → n < sizes → entry_of (rows_of rows sizes cells) x n ≡ slice_index cells (x * sizes + n)
  entry-at x n h l =
      ap (λ (row : List ℕ). slice_index row n) (row-at rows sizes x cells h) ∙ get_or-take sizes (drop (x * sizes) cells) n 0 l ∙ get_or-drop (x * sizes) cells n 0

  pub entry-past_size : (x n : ℕ) → sizes ≤ n → entry_of (rows_of rows sizes cells) x n ≡ 0
  entry-past_size x n h =
      ⊎_elim (λ l. get_or_past (row_of (rows_of rows sizes cells) x) n 0 (omega (arith, row-long x l)))
      (λ g. ap (λ (row : List ℕ). slice_index row n) (row-past x g)) (less_or_not x rows)

  pub entry-past_row : (x n : ℕ) → rows ≤ x → entry_of (rows_of rows sizes cells) x n ≡ 0
  entry-past_row x n h = ap (λ (row : List ℕ). slice_index row n) (row-past x h)

module _ (rows sizes x n value : ℕ) (cells : List ℕ) (whole : length cells ≡ rows * sizes) (row : x < rows) (size : n < sizes) where
  abbrev pub after : List ℕ
  after = slice_set cells (x * sizes + n) value

  after_whole : length after ≡ rows * sizes
  after_whole = length-set cells (x * sizes + n) value ∙ whole

  same_long : (y : ℕ) → (y < rows) ⊎ (rows ≤ y) → length (row_of (rows_of rows sizes after) y) ≡ length (row_of (rows_of rows sizes cells) y)
  same_long y (inl h) = row-long rows sizes after after_whole y h ∙ sym (row-long rows sizes cells whole y h)
  same_long y (inr h) = ap length (row-past rows sizes after after_whole y h ∙ sym (row-past rows sizes cells whole y h))

  other_place : (y m : ℕ) → y < rows → m < sizes → (y * sizes + m ≡ x * sizes + n → ⊥) → entry_of (rows_of rows sizes after) y m ≡ entry_of (rows_of rows sizes cells) y m
  other_place y m h l e =
      entry-at rows sizes after after_whole y m h l ∙ get_or-set_other cells (x * sizes + n) (y * sizes + m) value 0 e ∙ sym (entry-at rows sizes cells whole y m h l)

  other_entry : (y m : ℕ) → ((y * sizes + m ≡ x * sizes + n) → m < sizes → ⊥) → (y < rows) ⊎ (rows ≤ y) → (m < sizes) ⊎ (sizes ≤ m) → entry_of (rows_of rows sizes after) y m ≡ entry_of (rows_of rows sizes cells) y m
  other_entry y m e (inl h) (inl l) = other_place y m h l (λ q. e q l)
  other_entry y m e (inl h) (inr g) = entry-past_size rows sizes after after_whole y m g ∙ sym (entry-past_size rows sizes cells whole y m g)
  other_entry y m e (inr g) l = entry-past_row rows sizes after after_whole y m g ∙ sym (entry-past_row rows sizes cells whole y m g)

  apart : (y m : ℕ) → m < sizes → y * sizes + m ≡ x * sizes + n → ((y ≡ x) × (m ≡ n))
  apart y m l e =
      ⊎_elim (λ (h : y < x). absurd (place-other x y m n sizes l size h e))
      (λ (g : x ≤ y). ⊎_elim (λ (h : x < y). absurd (place-other y x n m sizes size l h (sym e))) (λ (k : y ≤ x). let q : y ≡ x = omega arith in (q, omega (arith, e, ap (λ z. z * sizes) q))) (less_or_not x y))
      (less_or_not y x)

  pub is_set : IsSet (rows_of rows sizes cells) (rows_of rows sizes after) x n value
  is_set = record {
    wide = length-rows rows sizes after ∙ sym (length-rows rows sizes cells);
    long = λ y. same_long y (less_or_not y rows);
    here = entry-at rows sizes after after_whole x n row size
        ∙ get_or-set_same cells (x * sizes + n) value 0 (omega (arith, place-within x rows sizes row, whole));
    other_size = λ y m d. other_entry y m (λ e l. d (apart y m l e).1) (less_or_not y rows) (less_or_not m sizes);
    other_row = λ y m d. other_entry y m (λ e l. d (apart y m l e).0) (less_or_not y rows) (less_or_not m sizes);
  }

module _ (rows sizes : ℕ) (cells : List ℕ) (whole : length cells ≡ rows * sizes) where
  pub is_table : IsTable rows sizes (rows_of rows sizes cells)
  is_table = record { wide = length-rows rows sizes cells; long = row-long rows sizes cells whole }

  zero_entry : ((k : ℕ) → slice_index cells k ≡ 0) → (x n : ℕ) → (x < rows) ⊎ (rows ≤ x) → (n < sizes) ⊎ (sizes ≤ n) → entry_of (rows_of rows sizes cells) x n ≡ 0
  zero_entry z x n (inl h) (inl l) = entry-at rows sizes cells whole x n h l ∙ z (x * sizes + n)
  zero_entry z x n (inl h) (inr g) = entry-past_size rows sizes cells whole x n g
  zero_entry z x n (inr g) l = entry-past_row rows sizes cells whole x n g

  pub are_zero : ((k : ℕ) → slice_index cells k ≡ 0) → AreZero (rows_of rows sizes cells)
  are_zero z x n = zero_entry z x n (less_or_not x rows) (less_or_not n sizes)

pub row-there : (rows sizes x : ℕ) (cells : List ℕ) (table : List (List ℕ)) → rows_of rows sizes cells ≡ table → x < length table → x < rows
row-there rows sizes x cells table e h = omega (arith, length-rows rows sizes cells, ap length e)

-- a row that is there ends within the cells
pub row-ends : (rows sizes x : ℕ) (cells : List ℕ) (table : List (List ℕ)) → length cells ≡ rows * sizes → rows_of rows sizes cells ≡ table → x < length table → x * sizes + sizes ≤ length cells
row-ends rows sizes x cells table w e h = omega (arith, place-within x rows sizes (row-there rows sizes x cells table e h), w)

pub size-there : (rows sizes x n : ℕ) (cells : List ℕ) (table : List (List ℕ)) → length cells ≡ rows * sizes → rows_of rows sizes cells ≡ table → x < length table → n < length (row_of table x) → n < sizes
size-there rows sizes x n cells table w e h l =
    omega (arith, row-long rows sizes cells w x (row-there rows sizes x cells table e h), ap (λ (t : List (List ℕ)). length (row_of t x)) e)
