use Rattle.std.proofs.Common.{◌≡◌, ◌≤◌, ◌+◌, ◌++◌, ◌∙◌, suc, sym, subst, ap, arith, length, take, drop, ℕ, List, Option, OkIff, slice_index}
use Rattle.luo_num.specs.declared.TheConstants.{MAX}
use Rattle.luo_finite.specs.Range.{sum_below}
use Rattle.luo_model.specs.declared.program.Universe.TheVariants.{Labelled}
use Rattle.luo_model.specs.Numbered.{IsCollectionTotal}
use Rattle.luo_labelled.specs.Calls.{Calls, Agrees, numbers, total_of}
use Rattle.luo_labelled.specs.inner.Steps.{HoldRows, step_count, step_total, rest_of}
use Rattle.luo_labelled.specs.inner.Chains.{IsWalk}
use Rattle.luo_labelled.proofs.ChainLemmas.{take_front, take_long, take_reads, ok_capped}
use Rattle.luo_labelled.proofs.WalkLemmas.{Situation, next_views, walk_as, kept_start, own_rows, total_rows, total_is, totalled, walk_more}
use Rattle.luo_labelled.proofs.walk.ChainWalk.total_at.Goals as goal

pub next_total-number-requires-clause-start : goal.next_total-number-requires-clause-start
next_total-number-requires-clause-start c =
    let i = c.chain.inside in
    let o = c.self.inside in
    let v = c.chain.invariant in
    let r = next_views _ _ _ _ c.args.comp.now c.args.body.now c.args.here c.chain.view_is c.self.view_is c.requires.next in
    let w = walk_as i.kind o.kind i.low o.low i.high o.high i.n_max o.n_max o.calls o.comp.items o.body.items o.cells.items r.same_kind r.same_low r.same_high r.same_n_max c.self.invariant in
    let e = c.as_slice.ensures.value ∙ take_front o.comp.len c.keep.new.kept (drop (length c.keep.new.kept) o.comp.items) (omega (arith, c.keep.ensures.length, c.as_mut_slice.ensures.len)) in
    let f = c.as_slice-2.ensures.value ∙ take_front o.body.len c.keep-2.new.kept (drop (length c.keep-2.new.kept) o.body.items) (omega (arith, c.keep-2.ensures.length, c.as_mut_slice-2.ensures.len)) in
    let own_calls : i.calls ≡ suc (length c.args.body.now) = sym (take_long i.comp.items i.calls (omega (arith, v.reached, v.sizes))) ∙ r.answered in
    let calls : o.calls ≡ length c.args.body.now = sym (r.goes_on.sizes ∙ take_long o.body.items o.calls (omega (arith, w.reached, w.body_sizes))) in
    let s : Situation i.kind i.low i.high i.n_max c.new-steps.result i.comp.items i.cells.items o.comp.items o.body.items o.cells.items c.args.comp.now c.args.body.now c.as_slice.result.now c.as_slice-2.result.now i.calls o.calls c.given_at-last.result c.args.here = record {
      bounds = v.bounds;
      is = c.new-steps.ensures;
      sizes = r.sizes;
      calls_is = calls;
      own_calls_is = own_calls;
      within = omega (arith, own_calls, v.reached);
      own_start = v.start;
      start = w.start;
      body_start = w.body_start;
      its_own = λ m l. r.its_own m l ∙ take_reads i.comp.items i.calls m (omega (arith, l, own_calls, r.sizes));
      own_here = c.given_at-last.ensures ∙ ap (λ (t : Calls). slice_index t.given (length c.args.comp.now)) (sym c.chain.view_is) ∙ take_reads i.comp.items i.calls (length c.args.comp.now) (omega (arith, own_calls, r.sizes));
      kept_is = ap (take (length c.args.comp.now + 1)) e ∙ c.keep.ensures.kept;
      kept_body_is = ap (take (length c.args.body.now + 1)) f ∙ c.keep-2.ensures.kept;
      counts_agree = r.counts_agree;
      sums_agree = subst (λ l. Agrees l i.high (take o.calls o.body.items) c.args.body.now) (sym r.same_low) (subst (λ (h : Option ℕ). Agrees o.low h (take o.calls o.body.items) c.args.body.now) (sym r.same_high) r.goes_on.agrees);
      none_empty = r.goes_on.none_empty;
      here_empty = r.goes_on.here_empty;
      own_holds = v.holds;
      holds = w.holds;
    } in
    kept_start i.kind i.low i.high i.n_max c.new-steps.result i.comp.items i.cells.items o.comp.items o.body.items o.cells.items c.args.comp.now c.args.body.now c.as_slice.result.now c.as_slice-2.result.now i.calls o.calls c.given_at-last.result c.args.here s

pub next_total-number-requires-clause-count_rows : goal.next_total-number-requires-clause-count_rows
next_total-number-requires-clause-count_rows c =
    let i = c.chain.inside in
    let o = c.self.inside in
    let v = c.chain.invariant in
    let r = next_views _ _ _ _ c.args.comp.now c.args.body.now c.args.here c.chain.view_is c.self.view_is c.requires.next in
    let w = walk_as i.kind o.kind i.low o.low i.high o.high i.n_max o.n_max o.calls o.comp.items o.body.items o.cells.items r.same_kind r.same_low r.same_high r.same_n_max c.self.invariant in
    let e = c.as_slice.ensures.value ∙ take_front o.comp.len c.keep.new.kept (drop (length c.keep.new.kept) o.comp.items) (omega (arith, c.keep.ensures.length, c.as_mut_slice.ensures.len)) in
    let f = c.as_slice-2.ensures.value ∙ take_front o.body.len c.keep-2.new.kept (drop (length c.keep-2.new.kept) o.body.items) (omega (arith, c.keep-2.ensures.length, c.as_mut_slice-2.ensures.len)) in
    let own_calls : i.calls ≡ suc (length c.args.body.now) = sym (take_long i.comp.items i.calls (omega (arith, v.reached, v.sizes))) ∙ r.answered in
    let calls : o.calls ≡ length c.args.body.now = sym (r.goes_on.sizes ∙ take_long o.body.items o.calls (omega (arith, w.reached, w.body_sizes))) in
    let s : Situation i.kind i.low i.high i.n_max c.new-steps.result i.comp.items i.cells.items o.comp.items o.body.items o.cells.items c.args.comp.now c.args.body.now c.as_slice.result.now c.as_slice-2.result.now i.calls o.calls c.given_at-last.result c.args.here = record {
      bounds = v.bounds;
      is = c.new-steps.ensures;
      sizes = r.sizes;
      calls_is = calls;
      own_calls_is = own_calls;
      within = omega (arith, own_calls, v.reached);
      own_start = v.start;
      start = w.start;
      body_start = w.body_start;
      its_own = λ m l. r.its_own m l ∙ take_reads i.comp.items i.calls m (omega (arith, l, own_calls, r.sizes));
      own_here = c.given_at-last.ensures ∙ ap (λ (t : Calls). slice_index t.given (length c.args.comp.now)) (sym c.chain.view_is) ∙ take_reads i.comp.items i.calls (length c.args.comp.now) (omega (arith, own_calls, r.sizes));
      kept_is = ap (take (length c.args.comp.now + 1)) e ∙ c.keep.ensures.kept;
      kept_body_is = ap (take (length c.args.body.now + 1)) f ∙ c.keep-2.ensures.kept;
      counts_agree = r.counts_agree;
      sums_agree = subst (λ l. Agrees l i.high (take o.calls o.body.items) c.args.body.now) (sym r.same_low) (subst (λ (h : Option ℕ). Agrees o.low h (take o.calls o.body.items) c.args.body.now) (sym r.same_high) r.goes_on.agrees);
      none_empty = r.goes_on.none_empty;
      here_empty = r.goes_on.here_empty;
      own_holds = v.holds;
      holds = w.holds;
    } in
    subst (HoldRows c.new-steps.result (step_count c.new-steps.result (rest_of i.kind) (slice_index c.as_slice.result.now)) (length c.args.comp.now + 1)) (sym c.as_slice-3.ensures.value) (own_rows i.kind i.low i.high i.n_max c.new-steps.result i.comp.items i.cells.items o.comp.items o.body.items o.cells.items c.args.comp.now c.args.body.now c.as_slice.result.now c.as_slice-2.result.now i.calls o.calls c.given_at-last.result c.args.here s)

pub next_total-number-requires-clause-total_rows : goal.next_total-number-requires-clause-total_rows
next_total-number-requires-clause-total_rows c =
    let i = c.chain.inside in
    let o = c.self.inside in
    let v = c.chain.invariant in
    let r = next_views _ _ _ _ c.args.comp.now c.args.body.now c.args.here c.chain.view_is c.self.view_is c.requires.next in
    let w = walk_as i.kind o.kind i.low o.low i.high o.high i.n_max o.n_max o.calls o.comp.items o.body.items o.cells.items r.same_kind r.same_low r.same_high r.same_n_max c.self.invariant in
    let e = c.as_slice.ensures.value ∙ take_front o.comp.len c.keep.new.kept (drop (length c.keep.new.kept) o.comp.items) (omega (arith, c.keep.ensures.length, c.as_mut_slice.ensures.len)) in
    let f = c.as_slice-2.ensures.value ∙ take_front o.body.len c.keep-2.new.kept (drop (length c.keep-2.new.kept) o.body.items) (omega (arith, c.keep-2.ensures.length, c.as_mut_slice-2.ensures.len)) in
    let own_calls : i.calls ≡ suc (length c.args.body.now) = sym (take_long i.comp.items i.calls (omega (arith, v.reached, v.sizes))) ∙ r.answered in
    let calls : o.calls ≡ length c.args.body.now = sym (r.goes_on.sizes ∙ take_long o.body.items o.calls (omega (arith, w.reached, w.body_sizes))) in
    let s : Situation i.kind i.low i.high i.n_max c.new-steps.result i.comp.items i.cells.items o.comp.items o.body.items o.cells.items c.args.comp.now c.args.body.now c.as_slice.result.now c.as_slice-2.result.now i.calls o.calls c.given_at-last.result c.args.here = record {
      bounds = v.bounds;
      is = c.new-steps.ensures;
      sizes = r.sizes;
      calls_is = calls;
      own_calls_is = own_calls;
      within = omega (arith, own_calls, v.reached);
      own_start = v.start;
      start = w.start;
      body_start = w.body_start;
      its_own = λ m l. r.its_own m l ∙ take_reads i.comp.items i.calls m (omega (arith, l, own_calls, r.sizes));
      own_here = c.given_at-last.ensures ∙ ap (λ (t : Calls). slice_index t.given (length c.args.comp.now)) (sym c.chain.view_is) ∙ take_reads i.comp.items i.calls (length c.args.comp.now) (omega (arith, own_calls, r.sizes));
      kept_is = ap (take (length c.args.comp.now + 1)) e ∙ c.keep.ensures.kept;
      kept_body_is = ap (take (length c.args.body.now + 1)) f ∙ c.keep-2.ensures.kept;
      counts_agree = r.counts_agree;
      sums_agree = subst (λ l. Agrees l i.high (take o.calls o.body.items) c.args.body.now) (sym r.same_low) (subst (λ (h : Option ℕ). Agrees o.low h (take o.calls o.body.items) c.args.body.now) (sym r.same_high) r.goes_on.agrees);
      none_empty = r.goes_on.none_empty;
      here_empty = r.goes_on.here_empty;
      own_holds = v.holds;
      holds = w.holds;
    } in
    subst (HoldRows c.new-steps.result (step_total c.new-steps.result (rest_of i.kind) (slice_index c.as_slice.result.now) (slice_index c.as_slice-2.result.now)) (length c.args.comp.now)) (sym c.as_mut_slice-3.ensures.value) (total_rows i.kind i.low i.high i.n_max c.new-steps.result i.comp.items i.cells.items o.comp.items o.body.items o.cells.items c.args.comp.now c.args.body.now c.as_slice.result.now c.as_slice-2.result.now i.calls o.calls c.given_at-last.result c.args.here s)

pub invariant_of-self : goal.invariant_of-self
invariant_of-self c =
    let i = c.chain.inside in
    let o = c.self.inside in
    let v = c.chain.invariant in
    let r = next_views _ _ _ _ c.args.comp.now c.args.body.now c.args.here c.chain.view_is c.self.view_is c.requires.next in
    let w = walk_as i.kind o.kind i.low o.low i.high o.high i.n_max o.n_max o.calls o.comp.items o.body.items o.cells.items r.same_kind r.same_low r.same_high r.same_n_max c.self.invariant in
    let e = c.as_slice.ensures.value ∙ take_front o.comp.len c.keep.new.kept (drop (length c.keep.new.kept) o.comp.items) (omega (arith, c.keep.ensures.length, c.as_mut_slice.ensures.len)) in
    let f = c.as_slice-2.ensures.value ∙ take_front o.body.len c.keep-2.new.kept (drop (length c.keep-2.new.kept) o.body.items) (omega (arith, c.keep-2.ensures.length, c.as_mut_slice-2.ensures.len)) in
    let own_calls : i.calls ≡ suc (length c.args.body.now) = sym (take_long i.comp.items i.calls (omega (arith, v.reached, v.sizes))) ∙ r.answered in
    let calls : o.calls ≡ length c.args.body.now = sym (r.goes_on.sizes ∙ take_long o.body.items o.calls (omega (arith, w.reached, w.body_sizes))) in
    let s : Situation i.kind i.low i.high i.n_max c.new-steps.result i.comp.items i.cells.items o.comp.items o.body.items o.cells.items c.args.comp.now c.args.body.now c.as_slice.result.now c.as_slice-2.result.now i.calls o.calls c.given_at-last.result c.args.here = record {
      bounds = v.bounds;
      is = c.new-steps.ensures;
      sizes = r.sizes;
      calls_is = calls;
      own_calls_is = own_calls;
      within = omega (arith, own_calls, v.reached);
      own_start = v.start;
      start = w.start;
      body_start = w.body_start;
      its_own = λ m l. r.its_own m l ∙ take_reads i.comp.items i.calls m (omega (arith, l, own_calls, r.sizes));
      own_here = c.given_at-last.ensures ∙ ap (λ (t : Calls). slice_index t.given (length c.args.comp.now)) (sym c.chain.view_is) ∙ take_reads i.comp.items i.calls (length c.args.comp.now) (omega (arith, own_calls, r.sizes));
      kept_is = ap (take (length c.args.comp.now + 1)) e ∙ c.keep.ensures.kept;
      kept_body_is = ap (take (length c.args.body.now + 1)) f ∙ c.keep-2.ensures.kept;
      counts_agree = r.counts_agree;
      sums_agree = subst (λ l. Agrees l i.high (take o.calls o.body.items) c.args.body.now) (sym r.same_low) (subst (λ (h : Option ℕ). Agrees o.low h (take o.calls o.body.items) c.args.body.now) (sym r.same_high) r.goes_on.agrees);
      none_empty = r.goes_on.none_empty;
      here_empty = r.goes_on.here_empty;
      own_holds = v.holds;
      holds = w.holds;
    } in
    let next = c.next_total-number.new.totals in
    let long : length next ≡ o.cells.len = omega (arith, c.next_total-number.ensures.long, c.as_mut_slice-3.ensures.len) in
    let counts_after : List ℕ = take o.comp.len (c.keep.new.kept ++ drop (length c.keep.new.kept) o.comp.items) in
    let body_after : List ℕ = take o.body.len (c.keep-2.new.kept ++ drop (length c.keep-2.new.kept) o.body.items) in
    let cells_after : List ℕ = take o.cells.len (next ++ drop (length next) o.cells.items) in
    walk_as o.kind i.kind o.low i.low o.high i.high o.n_max i.n_max (o.calls + 1) counts_after body_after cells_after (sym r.same_kind) (sym r.same_low) (sym r.same_high) (sym r.same_n_max)
    (subst (λ (k : List ℕ). IsWalk i.kind i.low i.high i.n_max (o.calls + 1) k body_after cells_after) c.as_slice.ensures.value
    (subst (λ (b : List ℕ). IsWalk i.kind i.low i.high i.n_max (o.calls + 1) c.as_slice.result.now b cells_after) c.as_slice-2.ensures.value
    (subst (IsWalk i.kind i.low i.high i.n_max (o.calls + 1) c.as_slice.result.now c.as_slice-2.result.now) (sym (take_front o.cells.len next (drop (length next) o.cells.items) long))
    (walk_more i.kind i.low i.high i.n_max c.new-steps.result i.comp.items i.cells.items o.comp.items o.body.items o.cells.items c.args.comp.now c.args.body.now c.as_slice.result.now c.as_slice-2.result.now i.calls o.calls c.given_at-last.result c.args.here s next (omega (arith, ap length e, c.keep.ensures.length, ap length c.as_mut_slice.ensures.value, w.sizes)) (omega (arith, ap length f, c.keep-2.ensures.length, ap length c.as_mut_slice-2.ensures.value, w.body_sizes))
    (c.next_total-number.ensures.long ∙ ap length c.as_mut_slice-3.ensures.value ∙ w.rows) c.next_total-number.ensures.rows))))

pub returns-clause-answer : goal.returns-clause-answer
returns-clause-answer c =
    let i = c.chain.inside in
    let o = c.self.inside in
    let v = c.chain.invariant in
    let r = next_views _ _ _ _ c.args.comp.now c.args.body.now c.args.here c.chain.view_is c.self.view_is c.requires.next in
    let w = walk_as i.kind o.kind i.low o.low i.high o.high i.n_max o.n_max o.calls o.comp.items o.body.items o.cells.items r.same_kind r.same_low r.same_high r.same_n_max c.self.invariant in
    let e = c.as_slice.ensures.value ∙ take_front o.comp.len c.keep.new.kept (drop (length c.keep.new.kept) o.comp.items) (omega (arith, c.keep.ensures.length, c.as_mut_slice.ensures.len)) in
    let f = c.as_slice-2.ensures.value ∙ take_front o.body.len c.keep-2.new.kept (drop (length c.keep-2.new.kept) o.body.items) (omega (arith, c.keep-2.ensures.length, c.as_mut_slice-2.ensures.len)) in
    let own_calls : i.calls ≡ suc (length c.args.body.now) = sym (take_long i.comp.items i.calls (omega (arith, v.reached, v.sizes))) ∙ r.answered in
    let calls : o.calls ≡ length c.args.body.now = sym (r.goes_on.sizes ∙ take_long o.body.items o.calls (omega (arith, w.reached, w.body_sizes))) in
    let s : Situation i.kind i.low i.high i.n_max c.new-steps.result i.comp.items i.cells.items o.comp.items o.body.items o.cells.items c.args.comp.now c.args.body.now c.as_slice.result.now c.as_slice-2.result.now i.calls o.calls c.given_at-last.result c.args.here = record {
      bounds = v.bounds;
      is = c.new-steps.ensures;
      sizes = r.sizes;
      calls_is = calls;
      own_calls_is = own_calls;
      within = omega (arith, own_calls, v.reached);
      own_start = v.start;
      start = w.start;
      body_start = w.body_start;
      its_own = λ m l. r.its_own m l ∙ take_reads i.comp.items i.calls m (omega (arith, l, own_calls, r.sizes));
      own_here = c.given_at-last.ensures ∙ ap (λ (t : Calls). slice_index t.given (length c.args.comp.now)) (sym c.chain.view_is) ∙ take_reads i.comp.items i.calls (length c.args.comp.now) (omega (arith, own_calls, r.sizes));
      kept_is = ap (take (length c.args.comp.now + 1)) e ∙ c.keep.ensures.kept;
      kept_body_is = ap (take (length c.args.body.now + 1)) f ∙ c.keep-2.ensures.kept;
      counts_agree = r.counts_agree;
      sums_agree = subst (λ l. Agrees l i.high (take o.calls o.body.items) c.args.body.now) (sym r.same_low) (subst (λ (h : Option ℕ). Agrees o.low h (take o.calls o.body.items) c.args.body.now) (sym r.same_high) r.goes_on.agrees);
      none_empty = r.goes_on.none_empty;
      here_empty = r.goes_on.here_empty;
      own_holds = v.holds;
      holds = w.holds;
    } in
    subst (λ (t : Calls). OkIff c.within-answer.result (total_of t c.args.body.now c.args.here ≤ MAX) (total_of t c.args.body.now c.args.here)) c.chain.view_is
    (ok_capped c.within-answer.result c.next_total-number.result _ c.within-answer.ensures (total_is i.kind i.low i.high i.n_max c.new-steps.result i.comp.items i.cells.items o.comp.items o.body.items o.cells.items c.args.comp.now c.args.body.now c.as_slice.result.now c.as_slice-2.result.now i.calls o.calls c.given_at-last.result c.args.here s c.next_total-number.result c.next_total-number.ensures.number))

pub returns-clause-totalled : goal.returns-clause-totalled
returns-clause-totalled c =
    let i = c.chain.inside in
    let o = c.self.inside in
    let v = c.chain.invariant in
    let r = next_views _ _ _ _ c.args.comp.now c.args.body.now c.args.here c.chain.view_is c.self.view_is c.requires.next in
    let w = walk_as i.kind o.kind i.low o.low i.high o.high i.n_max o.n_max o.calls o.comp.items o.body.items o.cells.items r.same_kind r.same_low r.same_high r.same_n_max c.self.invariant in
    let e = c.as_slice.ensures.value ∙ take_front o.comp.len c.keep.new.kept (drop (length c.keep.new.kept) o.comp.items) (omega (arith, c.keep.ensures.length, c.as_mut_slice.ensures.len)) in
    let f = c.as_slice-2.ensures.value ∙ take_front o.body.len c.keep-2.new.kept (drop (length c.keep-2.new.kept) o.body.items) (omega (arith, c.keep-2.ensures.length, c.as_mut_slice-2.ensures.len)) in
    let own_calls : i.calls ≡ suc (length c.args.body.now) = sym (take_long i.comp.items i.calls (omega (arith, v.reached, v.sizes))) ∙ r.answered in
    let calls : o.calls ≡ length c.args.body.now = sym (r.goes_on.sizes ∙ take_long o.body.items o.calls (omega (arith, w.reached, w.body_sizes))) in
    let s : Situation i.kind i.low i.high i.n_max c.new-steps.result i.comp.items i.cells.items o.comp.items o.body.items o.cells.items c.args.comp.now c.args.body.now c.as_slice.result.now c.as_slice-2.result.now i.calls o.calls c.given_at-last.result c.args.here = record {
      bounds = v.bounds;
      is = c.new-steps.ensures;
      sizes = r.sizes;
      calls_is = calls;
      own_calls_is = own_calls;
      within = omega (arith, own_calls, v.reached);
      own_start = v.start;
      start = w.start;
      body_start = w.body_start;
      its_own = λ m l. r.its_own m l ∙ take_reads i.comp.items i.calls m (omega (arith, l, own_calls, r.sizes));
      own_here = c.given_at-last.ensures ∙ ap (λ (t : Calls). slice_index t.given (length c.args.comp.now)) (sym c.chain.view_is) ∙ take_reads i.comp.items i.calls (length c.args.comp.now) (omega (arith, own_calls, r.sizes));
      kept_is = ap (take (length c.args.comp.now + 1)) e ∙ c.keep.ensures.kept;
      kept_body_is = ap (take (length c.args.body.now + 1)) f ∙ c.keep-2.ensures.kept;
      counts_agree = r.counts_agree;
      sums_agree = subst (λ l. Agrees l i.high (take o.calls o.body.items) c.args.body.now) (sym r.same_low) (subst (λ (h : Option ℕ). Agrees o.low h (take o.calls o.body.items) c.args.body.now) (sym r.same_high) r.goes_on.agrees);
      none_empty = r.goes_on.none_empty;
      here_empty = r.goes_on.here_empty;
      own_holds = v.holds;
      holds = w.holds;
    } in
    subst (λ (t : Calls). (q : ℕ → ℕ → ℕ) → ((m : ℕ) → sum_below (q m) (slice_index t.given m) ≡ numbers c.args.body.now c.args.here m)
    → IsCollectionTotal Labelled t.kind t.low t.high (slice_index t.given) q (length c.args.body.now) (total_of t c.args.body.now c.args.here)) c.chain.view_is
    (totalled i.kind i.low i.high i.n_max c.new-steps.result i.comp.items i.cells.items o.comp.items o.body.items o.cells.items c.args.comp.now c.args.body.now c.as_slice.result.now c.as_slice-2.result.now i.calls o.calls c.given_at-last.result c.args.here s)
