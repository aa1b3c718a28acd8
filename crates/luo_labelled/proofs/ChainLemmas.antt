-- What the calls of a table come to.
use Rattle.std.proofs.Common.{◌≡◌, ℕ, zero, suc, ◌+◌, ◌*◌, ◌-◌, ◌≤◌, ◌<◌, ◌⊎◌, ⊎_elim, inl, inr, Bool, true, false, List, [], ◌∷◌, ◌++◌, Option, Some, None, Result, Ok, Err, OkIff, length, slice_index, take, refl, sym, ◌∙◌, ap, subst, arith}
use Rattle.luo_num.specs.Mark.{capped}
use Rattle.luo_num.specs.declared.TheConstants.{MAX}
use Rattle.luo_finite.specs.Range.{sum_below}
use Rattle.luo_model.specs.declared.program.Universe.TheVariants.{Labelled}
use Rattle.luo_model.specs.declared.program.Kind.{Kind}
use Rattle.luo_model.specs.Member.{IsWithin}
use Rattle.luo_model.specs.Numbered.{IsCollectionCount, IsCollectionTotal}
use Rattle.luo_counting.specs.Items.{Suits}
use Rattle.luo_counting.specs.Numbers.{coll_count, coll_total}
use Rattle.luo_counting.proofs.Numbered.{collections_counted, collections_totalled}
use Rattle.luo_labelled.specs.Calls.{Calls, IsAbove, Agrees, GoesOn, numbers, number_of}
use Rattle.luo_labelled.specs.declared.steps.Steps.{Steps}
use Rattle.luo_labelled.specs.inner.Steps.{rest_of, steps_of, most_at, step_count, step_total, HoldRows}
use Rattle.luo_labelled.proofs.FirstLemmas.{IsChained, rest_chained, suits_chained, count_same, total_same}

-- reading a list with one number more
pub entry_below : (l : List ℕ) (x i : ℕ) → i < length l → slice_index (l ++ x ∷ []) i ≡ slice_index l i
entry_below [] x i h = absurd (omega arith)
entry_below (y ∷ l) x zero h = refl
entry_below (y ∷ l) x (suc i) h = entry_below l x i (omega arith)

pub entry_last : (l : List ℕ) (x i : ℕ) → i ≡ length l → slice_index (l ++ x ∷ []) i ≡ x
entry_last [] x i e = ap (slice_index (x ∷ [])) e
entry_last (y ∷ l) x zero e = absurd (omega (arith, e))
entry_last (y ∷ l) x (suc i) e = entry_last l x i (omega (arith, e))

pub take_reads : (l : List ℕ) (n i : ℕ) → i < n → slice_index (take n l) i ≡ slice_index l i
take_reads l zero i h = absurd (omega arith)
take_reads [] (suc n) i h = refl
take_reads (y ∷ l) (suc n) zero h = refl
take_reads (y ∷ l) (suc n) (suc i) h = take_reads l n i (omega arith)

pub take_front : (n : ℕ) (xs ys : List ℕ) → length xs ≡ n → take n (xs ++ ys) ≡ xs
take_front zero [] ys e = refl
take_front zero (x ∷ xs) ys e = absurd (omega (arith, e))
take_front (suc n) [] ys e = absurd (omega (arith, e))
take_front (suc n) (x ∷ xs) ys e = ap (λ l. x ∷ l) (take_front n xs ys (omega (arith, e)))

pub take_long : (l : List ℕ) (n : ℕ) → n ≤ length l → length (take n l) ≡ n
take_long l zero h = refl
take_long [] (suc n) h = absurd (omega (arith, h))
take_long (x ∷ l) (suc n) h = omega (arith, take_long l n (omega (arith, h)))

-- none of size 0
pub starts_empty : (l : List ℕ) (x : ℕ) → slice_index l 0 ≡ 0 → (length l ≡ 0 → x ≡ 0) → slice_index (l ++ x ∷ []) 0 ≡ 0
starts_empty [] x z h = h refl
starts_empty (y ∷ l) x z h = z

-- what is kept is what was given
pub kept_reads : (kept below : List ℕ) (here m : ℕ) → take (length below + 1) kept ≡ below ++ here ∷ [] → m ≤ length below → slice_index kept m ≡ numbers below here m
kept_reads kept below here m e h = sym (take_reads kept (length below + 1) m (omega arith)) ∙ ap (λ (l : List ℕ). slice_index l m) e

-- what was kept before is what is kept now, at the sizes that the rows look at
pub kept_earlier : (kept old below : List ℕ) (here calls m low : ℕ) (high : Option ℕ) → take (length below + 1) kept ≡ below ++ here ∷ [] → Agrees low high (take calls old) below → calls ≡ length below → suc m < length below → slice_index old m ≡ slice_index kept m
kept_earlier kept old below here calls m low high e a c h =
    sym (kept_reads kept below here m e (omega arith) ∙ entry_below below here m (omega arith) ∙ a.earlier m h ∙ take_reads old calls m (omega (arith, c)))

pub kept_last : (kept old below : List ℕ) (here calls m low : ℕ) (high : Option ℕ) → take (length below + 1) kept ≡ below ++ here ∷ [] → Agrees low high (take calls old) below → calls ≡ length below → IsWithin low high 1 → suc m ≤ length below → slice_index old m ≡ slice_index kept m
kept_last kept old below here calls m low high e a c w h = ⊎_elim
    (λ l. kept_earlier kept old below here calls m low high e a c l)
    (λ q. sym (kept_reads kept below here m e (omega arith) ∙ entry_below below here m (omega arith) ∙ a.last m q w ∙ take_reads old calls m (omega (arith, c))))
    (less_or (suc m) (length below) h)
  where
    less_or : (x y : ℕ) → x ≤ y → (x < y) ⊎ (x ≡ y)
    less_or x y h = grind arith

-- where the last step is the first, and goes on from itself, one component is within the bounds
pub whole_within : (low : ℕ) (high : Option ℕ) (n_max : ℕ) → (steps_of low high n_max).last ≡ 0 → (steps_of low high n_max).unbounded ≡ true → IsWithin low high 1
whole_within low (Some h) n_max z u = absurd (cc)
whole_within low None n_max z u = omega (arith, z)

-- rows of the same numbers
pub rows_same : (s : Steps) (F G : ℕ → ℕ → ℕ) (calls : ℕ) (cells : List ℕ) → ((i m : ℕ) → suc m < calls → F i m ≡ G i m) → (s.last ≡ 0 → s.unbounded ≡ true → (m : ℕ) → m < calls → F 0 m ≡ G 0 m) → HoldRows s F calls cells → HoldRows s G calls cells
rows_same s F G calls cells e f h = record {
  below = λ i b m l. h.below i b m l ∙ ap capped (e i m (omega (arith, l)));
  answers = λ z u m l. h.answers z u m l ∙ ap capped (f z u m l);
}

-- the rows of counts serve for the numbers that are kept now
pub count_rows : (kind : Kind) (low : ℕ) (high : Option ℕ) (n_max : ℕ) (s : Steps) (old kept below cells : List ℕ) (here calls : ℕ) → s ≡ steps_of low high n_max → slice_index old 0 ≡ 0 → slice_index below 0 ≡ 0 → (length below ≡ 0 → here ≡ 0)
    → take (length below + 1) kept ≡ below ++ here ∷ [] → Agrees low high (take calls old) below → calls ≡ length below
    → HoldRows (steps_of low high n_max) (step_count (steps_of low high n_max) (rest_of kind) (slice_index old)) calls cells → HoldRows s (step_count s (rest_of kind) (slice_index kept)) (length below) cells
count_rows kind low high n_max s old kept below cells here calls q y z x e a c h =
    let t = steps_of low high n_max in
    let w : slice_index kept 0 ≡ 0 = kept_reads kept below here 0 e (omega arith) ∙ starts_empty below here z x in
    subst (λ (s : Steps). HoldRows s (step_count s (rest_of kind) (slice_index kept)) (length below) cells) (sym q)
    (subst (λ n. HoldRows t (step_count t (rest_of kind) (slice_index kept)) n cells) c
    (rows_same t (step_count t (rest_of kind) (slice_index old)) (step_count t (rest_of kind) (slice_index kept)) calls cells
    (λ i m l. count_same (rest_of kind) (slice_index old) (slice_index kept) (i - t.free) (most i) m (rest_chained kind) y w (λ j b. kept_earlier kept old below here calls j low high e a c (omega (arith, b, l, c))))
    (λ p u m l. count_same (rest_of kind) (slice_index old) (slice_index kept) (0 - t.free) (most 0) m (rest_chained kind) y w (λ j b. kept_last kept old below here calls j low high e a c (whole_within low high n_max p u) (omega (arith, b, l, c))))
    h))
  where
    most : ℕ → Option ℕ
    most i = most_at (steps_of low high n_max).unbounded i

-- the last step has the bounds themselves
pub last_count : (kind : Kind) (a : ℕ → ℕ) (low : ℕ) (high : Option ℕ) (n_max n : ℕ) → IsAbove low high → step_count (steps_of low high n_max) kind a (steps_of low high n_max).last n ≡ coll_count Labelled kind a low high n
last_count kind a low (Some h) n_max n b = ap (λ m. coll_count Labelled kind a m (Some h) n) (let q : h - (h - low) ≡ low = omega (arith, b.0) in q)
last_count kind a low None n_max n b = ap (λ m. coll_count Labelled kind a m None n) (let q : low - 0 ≡ low = omega arith in q)

pub last_total : (kind : Kind) (a b : ℕ → ℕ) (low : ℕ) (high : Option ℕ) (n_max n : ℕ) → IsAbove low high → step_total (steps_of low high n_max) kind a b (steps_of low high n_max).last n ≡ coll_total Labelled kind a b low high n
last_total kind a b low (Some h) n_max n l = ap (λ m. coll_total Labelled kind a b m (Some h) n) (let q : h - (h - low) ≡ low = omega (arith, l.0) in q)
last_total kind a b low None n_max n l = ap (λ m. coll_total Labelled kind a b m None n) (let q : low - 0 ≡ low = omega arith in q)

-- the answer for a marked number
pub ok_capped : {E : Type 0} (r : Result ℕ E) (v n : ℕ) → OkIff r (v ≤ MAX) v → v ≡ capped n → OkIff r (n ≤ MAX) n
ok_capped (Ok x) v n h e = (omega (arith, h.0, e), omega (arith, h.0, h.1, e))
ok_capped (Err x) v n h e = λ l. h (omega (arith, l, e))

-- the number of the last step is that of the collections over the numbers given
pub next_is : (kind : Kind) (low : ℕ) (high : Option ℕ) (n_max v : ℕ) (s : Steps) (kept below : List ℕ) (here : ℕ) → IsChained kind → IsAbove low high → s ≡ steps_of low high n_max → slice_index below 0 ≡ 0 → (length below ≡ 0 → here ≡ 0)
    → take (length below + 1) kept ≡ below ++ here ∷ [] → v ≡ capped (step_count s kind (slice_index kept) s.last (length below)) → v ≡ capped (coll_count Labelled kind (numbers below here) low high (length below))
next_is kind low high n_max v s kept below here c b q z x e f =
    let w : slice_index kept 0 ≡ 0 = kept_reads kept below here 0 e (omega arith) ∙ starts_empty below here z x in
    f ∙ ap (λ (s : Steps). capped (step_count s kind (slice_index kept) s.last (length below))) q ∙ ap capped (last_count kind (slice_index kept) low high n_max (length below) b)
    ∙ ap capped (count_same kind (slice_index kept) (numbers below here) low high (length below) c w (starts_empty below here z x) (λ m l. kept_reads kept below here m e l))

pub counted_next : (t : Calls) (comp : List ℕ) (here : ℕ) → Suits Labelled t.kind t.low → GoesOn t comp here → IsCollectionCount Labelled t.kind t.low t.high (numbers comp here) (length comp) (number_of t comp here)
counted_next t comp here s g = collections_counted Labelled t.kind t.low t.high (numbers comp here) (length comp) s (starts_empty comp here g.none_empty g.here_empty)
