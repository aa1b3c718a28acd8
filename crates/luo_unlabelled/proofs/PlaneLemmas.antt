-- Cells of planes.
use Rattle.std.proofs.Common.{◌≡◌, ℕ, zero, suc, ◌+◌, ◌*◌, ◌-◌, ◌/◌, ◌≤◌, ◌<◌, min, ◌⊎◌, ⊎_elim, List, length, set, slice_index, refl, sym, ◌∙◌, ap, arith}
use Rattle.std.proofs.lemmas.List.{length-set}
use Rattle.std.proofs.lemmas.Nat.{mul-add-lt, mul-le, le-div}
use Rattle.std.proofs.Math.Nat.{mul-zero, zero-mul, mul-one, mul-add, div-mul-le_self}
use Rattle.luo_num.specs.Mark.{capped}
use Rattle.luo_finite.specs.Range.{sum_below}
use Rattle.luo_finite.proofs.Ranges.{sum_below-same, sum_below-zero}
use Rattle.luo_counting.specs.Numbers.{back}
use Rattle.luo_counting.proofs.Planes.{back-yes, back-no}
use Rattle.luo_unlabelled.specs.inner.Planes.{with_size, IsRowPut, IsPut, IsSlim, IsSlimBehind, sum_from}
use Rattle.luo_unlabelled.proofs.CellLemmas.{cell_same, cell_other}
use Rattle.luo_unlabelled.proofs.RowLemmas.{sum_below-tail}

pub back_there : (s : ℕ) (f : ℕ → ℕ) (m : ℕ) → s ≤ m → back s f m ≡ f (m - s)
back_there s f m h = back-yes s f (m - s) m (omega (arith, h))

-- a place that is there
pub place_in : (k j m wide n : ℕ) → (k + 1) * wide ≤ n → j ≤ k → m < wide → j * wide + m < n
place_in k j m wide n h l b = omega (arith, h, mul-add-lt j wide m (k + 1) (omega (arith, l)) b, turned (k + 1) wide)
  where
    turned : (x y : ℕ) → x * y ≡ y * x
    turned x y = search arith

-- one term more
pub copies_more : (ways cells : List ℕ) (wide d k m j next sum way rest : ℕ) → sum ≡ capped (sum_below (λ j. slice_index ways j * back (j * d) (λ x. slice_index cells ((k - j) * wide + x)) m) j) → next ≡ j + 1 → j * d ≤ m
    → way ≡ slice_index ways j → rest ≡ slice_index cells ((k - j) * wide + (m - j * d))
    → capped (sum + capped (way * rest)) ≡ capped (sum_below (λ j. slice_index ways j * back (j * d) (λ x. slice_index cells ((k - j) * wide + x)) m) next)
copies_more ways cells wide d k m j next sum way rest e n l w r =
    let f : ℕ → ℕ = λ j. slice_index ways j * back (j * d) (λ x. slice_index cells ((k - j) * wide + x)) m in
    let t : way * rest ≡ f j = ap (λ i. i * rest) w ∙ ap (λ i. slice_index ways j * i) (r ∙ sym (back_there (j * d) (λ x. slice_index cells ((k - j) * wide + x)) m l)) in
    let q : capped (sum + capped (way * rest)) ≡ capped (f j + sum_below f j) = omega (arith, e, t) in
    q ∙ ap (λ i. capped (sum_below f i)) (let g : suc j ≡ next = omega (arith, n) in g)

fits_or : (s m : ℕ) → (s ≤ m) ⊎ (m < s)
fits_or s m = grind arith

-- where more components are left than size, nothing is there
behind_none : (cells : List ℕ) (wide d k m i : ℕ) → IsSlimBehind wide d k m cells → i ≤ k → m + i < k + i * d → back (i * d) (λ x. slice_index cells ((k - i) * wide + x)) m ≡ 0
behind_none cells wide d k m i s l h = ⊎_elim
    (λ f. back_there (i * d) (λ x. slice_index cells ((k - i) * wide + x)) m f ∙ s i l f (omega (arith, f, h, l)))
    (λ f. back-no (i * d) (λ x. slice_index cells ((k - i) * wide + x)) m f)
    (fits_or (i * d) m)

-- the terms behind are 0
pub copies_whole : (ways cells : List ℕ) (wide d k m j sum most : ℕ) → sum ≡ capped (sum_below (λ j. slice_index ways j * back (j * d) (λ x. slice_index cells ((k - j) * wide + x)) m) j) → j ≡ most + 1 → most ≤ k
    → ((i : ℕ) → most < i → i ≤ k → m + i < k + i * d) → IsSlimBehind wide d k m cells → sum ≡ capped (with_size ways cells wide d k m)
copies_whole ways cells wide d k m j sum most e n l h s =
    let f : ℕ → ℕ = λ j. slice_index ways j * back (j * d) (λ x. slice_index cells ((k - j) * wide + x)) m in
    e ∙ ap capped (sum_below-tail f j (suc k) (omega (arith, n, l)) (λ i a b. ap (λ x. slice_index ways i * x) (behind_none cells wide d k m i s (omega (arith, b)) (h i (omega (arith, a, n)) (omega (arith, b)))) ∙ mul-zero (slice_index ways i)))

-- all terms are, where there are more components than the size
pub copies_none : (ways cells : List ℕ) (wide d k m : ℕ) → 1 ≤ d → m < k → IsSlimBehind wide d k m cells → 0 ≡ capped (with_size ways cells wide d k m)
copies_none ways cells wide d k m o h s =
    let f : ℕ → ℕ = λ j. slice_index ways j * back (j * d) (λ x. slice_index cells ((k - j) * wide + x)) m in
    let z : sum_below f (suc k) ≡ 0 = sum_below-zero f (suc k) (λ i b. ap (λ x. slice_index ways i * x) (behind_none cells wide d k m i s (omega (arith, b)) (omega (arith, h, mul-le i 1 i d (omega arith) o))) ∙ mul-zero (slice_index ways i)) in
    omega (arith, z)

-- what stands behind a cell is in rows below and in its own
pub slim_behind : (cells : List ℕ) (wide deep d k m : ℕ) → k < deep → m < wide → IsSlim wide deep cells → IsSlimBehind wide d k m cells
slim_behind cells wide deep d k m l b s = λ j _ _ q. s (k - j) (m - j * d) (omega (arith, l)) (omega (arith, b)) q

pub slim_less : (cells : List ℕ) (wide deep rows : ℕ) → rows ≤ deep → IsSlim wide deep cells → IsSlim wide rows cells
slim_less cells wide deep rows l s = λ k m h b q. s k m (omega (arith, h, l)) b q

-- a cell at hand, in a row that has been written up to it
pub slim_row : (g : List ℕ → ℕ → ℕ → ℕ) (wide d k m : ℕ) (old new : List ℕ) → m < wide → IsSlim wide (k + 1) old → IsRowPut g wide k m old new → IsSlimBehind wide d k m new
slim_row g wide d k m old new b s r = λ j l f q. by j (j * d) (λ e. ap (λ x. x * d) e ∙ zero-mul d) l f q
  where
    by : (j p : ℕ) → (j ≡ 0 → p ≡ 0) → j ≤ k → p ≤ m → m - p < k - j → slice_index new ((k - j) * wide + (m - p)) ≡ 0
    by zero p z l f q =
        ap (λ x. slice_index new (x * wide + (m - p))) (let e : k - 0 ≡ k = omega arith in e) ∙ ap (λ x. slice_index new (k * wide + x)) (let e : m - p ≡ m = omega (arith, z refl) in e)
        ∙ r.rest m (omega arith) b ∙ s k m (omega arith) b (omega (arith, q, z refl))
    by (suc j) p z l f q = r.others (k - suc j) (m - p) (λ e. omega (arith, e, l)) (omega (arith, b)) ∙ s (k - suc j) (m - p) (omega arith) (omega (arith, b)) q

-- the next row to be written, and those below
pub slim_put : (g : List ℕ → ℕ → ℕ → ℕ) (wide k first deep : ℕ) (old new : List ℕ) → k < first → first ≤ deep → IsSlim wide deep old → IsPut g wide first deep old new → IsSlim wide (k + 1) new
slim_put g wide k first deep old new l h s p = λ i m a b q. p.rest i m (omega (arith, a, l)) b ∙ s i m (omega (arith, a, l, h)) b q

pub back_same : (s : ℕ) (f g : ℕ → ℕ) (m : ℕ) → ((x : ℕ) → x ≤ m → s + x ≡ m → f x ≡ g x) → back s f m ≡ back s g m
back_same zero f g m h = h m (omega arith) (omega arith)
back_same (suc s) f g zero h = refl
back_same (suc s) f g (suc m) h = back_same s f g m (λ x l e. h x (omega (arith, l)) (omega (arith, e)))

-- a cell goes on from itself and from the rows below
pub with_size-same : (ways new old : List ℕ) (wide d k m : ℕ) → 1 ≤ d → m < wide → slice_index new (k * wide + m) ≡ slice_index old (k * wide + m) → ((i x : ℕ) → i < k → x < wide → slice_index new (i * wide + x) ≡ slice_index old (i * wide + x))
    → with_size ways new wide d k m ≡ with_size ways old wide d k m
with_size-same ways new old wide d k m h b e r =
    sum_below-same (λ j. slice_index ways j * back (j * d) (λ x. slice_index new ((k - j) * wide + x)) m) (λ j. slice_index ways j * back (j * d) (λ x. slice_index old ((k - j) * wide + x)) m) (suc k)
    (λ j l. ap (λ t. slice_index ways j * t) (back_same (j * d) (λ x. slice_index new ((k - j) * wide + x)) (λ x. slice_index old ((k - j) * wide + x)) m (each j l)))
  where
    times : (j : ℕ) → 1 ≤ j → 1 ≤ d → 1 ≤ j * d
    times j a b = grind arith

    each : (j : ℕ) → j < suc k → (x : ℕ) → x ≤ m → j * d + x ≡ m → slice_index new ((k - j) * wide + x) ≡ slice_index old ((k - j) * wide + x)
    each zero l x a q = ap (λ p. slice_index new (p * wide + x)) (let g : k - 0 ≡ k = omega arith in g) ∙ ap (λ p. slice_index new (k * wide + p)) (let g : x ≡ m = omega (arith, q) in g) ∙ e
        ∙ sym (ap (λ p. slice_index old (p * wide + x)) (let g : k - 0 ≡ k = omega arith in g) ∙ ap (λ p. slice_index old (k * wide + p)) (let g : x ≡ m = omega (arith, q) in g))
    each (suc j) l x a q = r (k - suc j) x (omega (arith, l)) (omega (arith, a, b))

-- a row before it is written
pub row_none : (g : List ℕ → ℕ → ℕ → ℕ) (wide k : ℕ) (cells : List ℕ) → IsRowPut g wide k 0 cells cells
row_none g wide k cells = record {
  long = refl;
  done = λ x h. absurd (omega (arith, h));
  rest = λ x h l. refl;
  others = λ i x o l. refl;
}

below_or : (m n : ℕ) → m < n + 1 → (m < n) ⊎ (m ≡ n)
below_or m n h = grind arith

-- one cell more of a row
pub row_more : (g : List ℕ → ℕ → ℕ → ℕ) (wide k m v : ℕ) (old new : List ℕ) → m < wide → k * wide + m < length new → v ≡ g old k m → IsRowPut g wide k m old new → IsRowPut g wide k (m + 1) old (set new (k * wide + m) v)
row_more g wide k m v old new b h q r = record {
  long = length-set new (k * wide + m) v ∙ r.long;
  done = λ x l. ⊎_elim
      (λ c. cell_other new wide k m k x v (omega (arith, c, b)) b (λ _ e. omega (arith, e, c)) ∙ r.done x c)
      (λ e. ap (λ p. slice_index (set new (k * wide + m) v) (k * wide + p)) e ∙ cell_same new (k * wide + m) v h ∙ q ∙ ap (λ p. g old k p) (sym e))
      (below_or x m l);
  rest = λ x l c. cell_other new wide k m k x v c b (λ _ e. omega (arith, e, l)) ∙ r.rest x (omega (arith, l)) c;
  others = λ i x o c. cell_other new wide k m i x v c b (λ e _. o e) ∙ r.others i x o c;
}

pub put_none : (g : List ℕ → ℕ → ℕ → ℕ) (wide first deep : ℕ) (cells : List ℕ) → deep ≤ first → IsPut g wide first deep cells cells
put_none g wide first deep cells h = record {
  long = refl;
  done = λ k m a b c. absurd (omega (arith, h, a, b));
  rest = λ k m a b. refl;
}

first_or : (k i : ℕ) → i ≤ k → (k ≡ i) ⊎ (suc i ≤ k)
first_or k i h = grind arith

-- one row more, below those that have been written
pub put_more : (g : List ℕ → ℕ → ℕ → ℕ) (wide k first deep : ℕ) (old mid new : List ℕ) → first ≡ suc k → k < deep → ((x : ℕ) → x < wide → g mid k x ≡ g old k x) → IsPut g wide first deep old mid → IsRowPut g wide k wide mid new → IsPut g wide k deep old new
put_more g wide k first deep old mid new e l s p r = record {
  long = r.long ∙ p.long;
  done = λ i m a b c. ⊎_elim
      (λ h. ap (λ t. slice_index new (t * wide + m)) h ∙ r.done m c ∙ s m c ∙ ap (λ t. g old t m) (sym h))
      (λ h. r.others i m (λ t. omega (arith, t, h)) c ∙ p.done i m (omega (arith, e, h)) b c)
      (first_or i k a);
  rest = λ i m a c. r.others i m (λ t. omega (arith, t, a)) c ∙ p.rest i m (omega (arith, e, a)) c;
}

-- a marked sum over a range
pub sum_more : (low k next sum v : ℕ) (f : ℕ → ℕ) → low ≤ k → next ≡ k + 1 → sum ≡ capped (sum_from low k f) → v ≡ capped (f k) → capped (sum + v) ≡ capped (sum_from low next f)
sum_more low k next sum v f l n e q =
    let g : ℕ → ℕ = λ i. f (low + i) in
    let t : g (k - low) ≡ f k = ap f (let r : low + (k - low) ≡ k = omega (arith, l) in r) in
    let u : capped (sum + v) ≡ capped (g (k - low) + sum_below g (k - low)) = omega (arith, e, q, t) in
    u ∙ ap (λ i. capped (sum_below g i)) (let r : suc (k - low) ≡ next - low = omega (arith, l, n) in r)

pub sum_whole : (low last k sum : ℕ) (f : ℕ → ℕ) → low ≤ last + 1 → sum ≡ capped (sum_from low k f) → last + 1 ≤ k → (low ≤ last + 1 → k ≤ last + 1) → sum ≡ capped (sum_from low (last + 1) f)
sum_whole low last k sum f h e l g = e ∙ ap (λ i. capped (sum_from low i f)) (let q : k ≡ last + 1 = omega (arith, l, g h) in q)

-- a component of size d has d - 1 more of size than of components
one_more : (r d : ℕ) → 1 ≤ d → r * d ≡ r * (d - 1) + r
one_more r d o =
    ap (λ x. r * x) (let e : d ≡ d - 1 + 1 = omega (arith, o) in e) ∙ mul-add r (d - 1) 1 ∙ ap (λ x. r * (d - 1) + x) (mul-one r)

pub most_fit : (d k m r : ℕ) → 2 ≤ d → k ≤ m → r ≡ min ((m - k) / (d - 1)) k → r * d ≤ m
most_fit d k m r o l e =
    let q : r ≤ (m - k) / (d - 1) = grind (arith, e) in
    let w : r ≤ k = grind (arith, e) in
    let t : r * (d - 1) ≤ (m - k) / (d - 1) * (d - 1) = mul-le r (d - 1) ((m - k) / (d - 1)) (d - 1) q (omega arith) in
    omega (arith, one_more r d (omega (arith, o)), t, div-mul-le_self (m - k) (d - 1), l, w)

-- any more of them leave less size than components
pub most_past : (d k m r : ℕ) → 2 ≤ d → k ≤ m → r ≡ min ((m - k) / (d - 1)) k → (j : ℕ) → r < j → j ≤ k → m + j < k + j * d
most_past d k m r o l e j a b = ⊎_elim
    (λ f. absurd (let q : j ≤ (m - k) / (d - 1) = le-div j (m - k) (d - 1) (omega (arith, o)) f in let w : j ≤ min ((m - k) / (d - 1)) k = grind (arith, q, b) in omega (arith, e, w, a)))
    (λ f. omega (arith, one_more j d (omega (arith, o)), f, l))
    (fits_or (j * (d - 1)) (m - k))

pub copies_fit : (d m j most : ℕ) → j ≤ most → most * d ≤ m → j * d ≤ m
copies_fit d m j most l h = omega (arith, h, mul-le j d most d l (omega arith))

-- a cell at hand is as it was, and so are the rows below
pub row_same : (g : List ℕ → ℕ → ℕ → ℕ) (ways : List ℕ) (wide d k m : ℕ) (old new : List ℕ) → 1 ≤ d → m < wide → IsRowPut g wide k m old new → with_size ways new wide d k m ≡ with_size ways old wide d k m
row_same g ways wide d k m old new h b r = with_size-same ways new old wide d k m h b (r.rest m (omega arith) b) (λ i x l c. r.others i x (λ e. omega (arith, e, l)) c)

pub put_same : (g : List ℕ → ℕ → ℕ → ℕ) (ways : List ℕ) (wide d k first deep m : ℕ) (old new : List ℕ) → 1 ≤ d → k < first → m < wide → IsPut g wide first deep old new → with_size ways new wide d k m ≡ with_size ways old wide d k m
put_same g ways wide d k first deep m old new h l b p = with_size-same ways new old wide d k m h b (p.rest k m l b) (λ i x a c. p.rest i x (omega (arith, a, l)) c)

pub total_entry : (a new old x y r : ℕ) → x ≡ capped a → y ≡ capped new → r ≡ capped (x + y) → new ≡ old → r ≡ capped (a + old)
total_entry a new old x y r e f q s = omega (arith, e, f, q, s)
