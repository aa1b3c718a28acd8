-- What a call of a table of charges comes to.
use Rattle.std.proofs.Common.{◌≡◌, ℕ, zero, suc, ◌+◌, ◌*◌, ◌-◌, ◌≤◌, ◌<◌, ◌⊎◌, ⊎_elim, inl, inr, List, [], ◌∷◌, ◌++◌, Option, length, slice_index, take, refl, sym, ◌∙◌, ap, subst, arith}
use Rattle.luo_num.specs.Mark.{capped}
use Rattle.luo_finite.specs.Range.{sum_below}
use Rattle.luo_model.specs.declared.program.Universe.TheVariants.{Labelled}
use Rattle.luo_model.specs.declared.program.Kind.{Kind}
use Rattle.luo_model.specs.Numbered.{IsCollectionTotal}
use Rattle.luo_counting.specs.Items.{Suits}
use Rattle.luo_counting.specs.Numbers.{coll_total}
use Rattle.luo_counting.proofs.Numbered.{collections_totalled}
use Rattle.luo_labelled.specs.Calls.{Calls, WalkCalls, AreBounds, Agrees, IsNext, numbers}
use Rattle.luo_labelled.specs.declared.steps.Steps.{Steps}
use Rattle.luo_labelled.specs.inner.Steps.{rest_of, steps_of, most_at, row_count, step_count, step_total, HoldRows}
use Rattle.luo_labelled.specs.inner.Chains.{IsWalk}
use Rattle.luo_labelled.proofs.FirstLemmas.{rest_chained, suits_chained, count_same, total_same}
use Rattle.luo_labelled.proofs.ChainLemmas.{entry_below, entry_last, take_reads, starts_empty, kept_reads, kept_earlier, kept_last, whole_within, rows_same, last_total}

-- what contracts see in a chain and in a table is the same as what they hold
pub next_views : (a b : Calls) (v w : WalkCalls) (comp body : List ℕ) (here : ℕ) → a ≡ b → v ≡ w → IsNext b w comp body here → IsNext a v comp body here
next_views a b v w comp body here e f h = subst (λ (a : Calls). IsNext a v comp body here) (sym e) (subst (λ (v : WalkCalls). IsNext b v comp body here) (sym f) h)

-- a table of the same kind and bounds
pub walk_as : (k l : Kind) (low m : ℕ) (high h : Option ℕ) (n_max n calls : ℕ) (comp body cells : List ℕ) → k ≡ l → low ≡ m → high ≡ h → n_max ≡ n → IsWalk l m h n calls comp body cells → IsWalk k low high n_max calls comp body cells
walk_as k l low m high h n_max n calls comp body cells e f g i w =
    subst (λ (x : Kind). IsWalk x low high n_max calls comp body cells) (sym e)
    (subst (λ x. IsWalk l x high n_max calls comp body cells) (sym f)
    (subst (λ (x : Option ℕ). IsWalk l m x n_max calls comp body cells) (sym g)
    (subst (λ x. IsWalk l m h x calls comp body cells) (sym i) w)))

-- a call for the size n = length body: what the chain and the table held before, what was given, and what is kept of it
pub record Situation (kind : Kind) (low : ℕ) (high : Option ℕ) (n_max : ℕ) (s : Steps) (own own_cells old old_body cells comp body kept kept_body : List ℕ) (own_calls calls x here : ℕ) : Type 0 where
  pub bounds : AreBounds kind low high n_max
  pub is : s ≡ steps_of low high n_max
  pub sizes : length comp ≡ length body
  pub calls_is : calls ≡ length body
  pub own_calls_is : own_calls ≡ suc (length body)
  pub within : length body ≤ n_max
  pub own_start : slice_index own 0 ≡ 0
  pub start : slice_index old 0 ≡ 0
  pub body_start : slice_index old_body 0 ≡ 0
  pub its_own : (m : ℕ) → m < length comp → slice_index comp m ≡ slice_index own m
  pub own_here : x ≡ slice_index own (length comp)
  pub kept_is : take (length comp + 1) kept ≡ comp ++ x ∷ []
  pub kept_body_is : take (length body + 1) kept_body ≡ body ++ here ∷ []
  pub counts_agree : Agrees low high (take calls old) comp
  pub sums_agree : Agrees low high (take calls old_body) body
  pub none_empty : slice_index body 0 ≡ 0
  pub here_empty : length body ≡ 0 → here ≡ 0
  pub own_holds : HoldRows (steps_of low high n_max) (step_count (steps_of low high n_max) (rest_of kind) (slice_index own)) own_calls own_cells
  pub holds : HoldRows (steps_of low high n_max) (step_total (steps_of low high n_max) (rest_of kind) (slice_index old) (slice_index old_body)) calls cells

module _ (kind : Kind) (low : ℕ) (high : Option ℕ) (n_max : ℕ) (s : Steps) (own own_cells old old_body cells comp body kept kept_body : List ℕ) (own_calls calls x here : ℕ)
    (f : Situation kind low high n_max s own own_cells old old_body cells comp body kept kept_body own_calls calls x here) where
  abbrev t : Steps
  t = steps_of low high n_max

  -- the numbers of components that are kept are the chain's
  pub own_reads : (m : ℕ) → m ≤ length comp → slice_index own m ≡ slice_index kept m
  own_reads m h = sym (kept_reads kept comp x m f.kept_is h ∙ ⊎_elim
      (λ l. entry_below comp x m l ∙ f.its_own m l)
      (λ e. entry_last comp x m e ∙ f.own_here ∙ ap (slice_index own) (sym e))
      (less_or m (length comp) h))
    where
      less_or : (x y : ℕ) → x ≤ y → (x < y) ⊎ (x ≡ y)
      less_or x y h = grind arith

  pub kept_start : slice_index kept 0 ≡ 0
  kept_start = sym (own_reads 0 (omega arith)) ∙ f.own_start

  pub kept_body_start : slice_index kept_body 0 ≡ 0
  kept_body_start = kept_reads kept_body body here 0 f.kept_body_is (omega arith) ∙ starts_empty body here f.none_empty f.here_empty

  pub own_rows : HoldRows s (step_count s (rest_of kind) (slice_index kept)) (length comp + 1) own_cells
  own_rows =
      subst (λ (s : Steps). HoldRows s (step_count s (rest_of kind) (slice_index kept)) (length comp + 1) own_cells) (sym f.is)
      (subst (λ n. HoldRows t (step_count t (rest_of kind) (slice_index kept)) n own_cells) (let q : own_calls ≡ length comp + 1 = omega (arith, f.own_calls_is, f.sizes) in q)
      (rows_same t (step_count t (rest_of kind) (slice_index own)) (step_count t (rest_of kind) (slice_index kept)) own_calls own_cells
      (λ i m l. count_same (rest_of kind) (slice_index own) (slice_index kept) (i - t.free) (most_at t.unbounded i) m (rest_chained kind) f.own_start kept_start (λ j b. own_reads j (omega (arith, b, l, f.own_calls_is, f.sizes))))
      (λ p u m l. count_same (rest_of kind) (slice_index own) (slice_index kept) (0 - t.free) (most_at t.unbounded 0) m (rest_chained kind) f.own_start kept_start (λ j b. own_reads j (omega (arith, b, l, f.own_calls_is, f.sizes))))
      f.own_holds))

  pub total_rows : HoldRows s (step_total s (rest_of kind) (slice_index kept) (slice_index kept_body)) (length comp) cells
  total_rows =
      subst (λ (s : Steps). HoldRows s (step_total s (rest_of kind) (slice_index kept) (slice_index kept_body)) (length comp) cells) (sym f.is)
      (subst (λ n. HoldRows t (step_total t (rest_of kind) (slice_index kept) (slice_index kept_body)) n cells) (let q : calls ≡ length comp = omega (arith, f.calls_is, f.sizes) in q)
      (rows_same t (step_total t (rest_of kind) (slice_index old) (slice_index old_body)) (step_total t (rest_of kind) (slice_index kept) (slice_index kept_body)) calls cells
      (λ i m l. total_same (rest_of kind) (slice_index old) (slice_index kept) (slice_index old_body) (slice_index kept_body) (i - t.free) (most_at t.unbounded i) m (rest_chained kind) f.start kept_start f.body_start kept_body_start
      (λ j b. kept_earlier kept old comp x calls j low high f.kept_is f.counts_agree here_calls (omega (arith, b, l, here_calls)))
      (λ j b. kept_earlier kept_body old_body body here calls j low high f.kept_body_is f.sums_agree f.calls_is (omega (arith, b, l, f.calls_is))))
      (λ p u m l. total_same (rest_of kind) (slice_index old) (slice_index kept) (slice_index old_body) (slice_index kept_body) (0 - t.free) (most_at t.unbounded 0) m (rest_chained kind) f.start kept_start f.body_start kept_body_start
      (λ j b. kept_last kept old comp x calls j low high f.kept_is f.counts_agree here_calls (whole_within low high n_max p u) (omega (arith, b, l, here_calls)))
      (λ j b. kept_last kept_body old_body body here calls j low high f.kept_body_is f.sums_agree f.calls_is (whole_within low high n_max p u) (omega (arith, b, l, f.calls_is))))
      f.holds))
    where
      here_calls : calls ≡ length comp
      here_calls = omega (arith, f.calls_is, f.sizes)

  -- the sum of the last step is that of the collections over the chain's numbers and the sums given
  pub total_is : (v : ℕ) → v ≡ capped (step_total s kind (slice_index kept) (slice_index kept_body) s.last (length comp))
      → v ≡ capped (coll_total Labelled kind (slice_index (take own_calls own)) (numbers body here) low high (length body))
  total_is v e =
      e ∙ ap (λ (s : Steps). capped (step_total s kind (slice_index kept) (slice_index kept_body) s.last (length comp))) f.is
      ∙ ap capped (last_total kind (slice_index kept) (slice_index kept_body) low high n_max (length comp) f.bounds.high_within)
      ∙ ap (λ n. capped (coll_total Labelled kind (slice_index kept) (slice_index kept_body) low high n)) f.sizes
      ∙ ap capped (total_same kind (slice_index kept) (slice_index (take own_calls own)) (slice_index kept_body) (numbers body here) low high (length body) (suits_chained kind low f.bounds.suits) kept_start given_start kept_body_start
      (starts_empty body here f.none_empty f.here_empty)
      (λ m l. sym (own_reads m (omega (arith, l, f.sizes))) ∙ sym (take_reads own own_calls m (omega (arith, l, f.own_calls_is))))
      (λ m l. kept_reads kept_body body here m f.kept_body_is l))
    where
      given_start : slice_index (take own_calls own) 0 ≡ 0
      given_start = take_reads own own_calls 0 (omega (arith, f.own_calls_is)) ∙ f.own_start

  pub totalled : (q : ℕ → ℕ → ℕ) → ((m : ℕ) → sum_below (q m) (slice_index (take own_calls own) m) ≡ numbers body here m)
      → IsCollectionTotal Labelled kind low high (slice_index (take own_calls own)) q (length body) (coll_total Labelled kind (slice_index (take own_calls own)) (numbers body here) low high (length body))
  totalled q h = collections_totalled Labelled kind low high (slice_index (take own_calls own)) (numbers body here) q (length body) f.bounds.suits (take_reads own own_calls 0 (omega (arith, f.own_calls_is)) ∙ f.own_start) h

  -- the table afterwards
  pub walk_more : (next : List ℕ) → length kept ≡ n_max + 1 → length kept_body ≡ n_max + 1 → length next ≡ row_count t.last * (n_max + 1)
      → HoldRows s (step_total s (rest_of kind) (slice_index kept) (slice_index kept_body)) (length comp + 1) next → IsWalk kind low high n_max (calls + 1) kept kept_body next
  walk_more next a b c h = record {
    bounds = f.bounds;
    reached = omega (arith, f.calls_is, f.within);
    start = kept_start;
    body_start = kept_body_start;
    sizes = a;
    body_sizes = b;
    rows = c;
    holds = subst (λ n. HoldRows t (step_total t (rest_of kind) (slice_index kept) (slice_index kept_body)) n next) (let q : length comp + 1 ≡ calls + 1 = omega (arith, f.calls_is, f.sizes) in q)
        (subst (λ (s : Steps). HoldRows s (step_total s (rest_of kind) (slice_index kept) (slice_index kept_body)) (length comp + 1) next) f.is h);
  }
