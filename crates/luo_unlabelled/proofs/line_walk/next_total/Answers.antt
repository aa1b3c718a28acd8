use Rattle.std.proofs.Common.{arith, slice_index, length, ap, ◌∙◌, refl}
use Rattle.luo_num.specs.Mark.{capped}
use Rattle.luo_unlabelled.specs.inner.Steps.{step_count, step_total}
use Rattle.luo_unlabelled.proofs.CallLemmas.{totals_next, kept_empty, counts_kept, total_given, below_kept}
use Rattle.luo_unlabelled.proofs.CellLemmas.{holds_more, last_source}
use Rattle.luo_unlabelled.proofs.line_walk.next_total.Goals as goal

pub settle_totals_before-requires-clause-counted : goal.settle_totals_before-requires-clause-counted
settle_totals_before-requires-clause-counted c =
    counts_kept c.args.steps c.args.comp.now c.keep.new.kept 0 (length c.args.body.now) c.args.counts.now c.keep.ensures c.requires.sizes c.requires.comp_given (kept_empty c.keep.new.kept c.args.comp.now 0 c.keep.ensures c.requires.comp_given (λ e. omega arith)) c.requires.counted

pub settle_totals_before-requires-clause-holds : goal.settle_totals_before-requires-clause-holds
settle_totals_before-requires-clause-holds c =
    totals_next c.args.steps c.args.kept.now c.keep.new.kept c.args.sums.now c.keep-2.new.kept c.args.comp.now c.args.body.now 0 c.args.here c.args.cells.now c.requires.agree c.keep.ensures c.requires.follows c.keep-2.ensures c.requires.sizes c.requires.none_empty
    (kept_empty c.keep.new.kept c.args.comp.now 0 c.keep.ensures c.requires.comp_given (λ e. omega arith)) c.requires.none_charged (kept_empty c.keep-2.new.kept c.args.body.now c.args.here c.keep-2.ensures c.requires.body_given c.requires.here) c.requires.holds

pub total_entry-total-requires-clause-counted : goal.total_entry-total-requires-clause-counted
total_entry-total-requires-clause-counted c =
    let k = counts_kept c.args.steps c.args.comp.now c.keep.new.kept 0 (length c.args.body.now) c.args.counts.now c.keep.ensures c.requires.sizes c.requires.comp_given (kept_empty c.keep.new.kept c.args.comp.now 0 c.keep.ensures c.requires.comp_given (λ e. omega arith)) c.requires.counted in
    last_source c.args.steps (step_count c.args.steps (slice_index c.keep.new.kept)) c.args.steps.last (length c.args.body.now) c.args.counts.now refl k.below k.last

pub returns-clause-total : goal.returns-clause-total
returns-clause-total c =
    c.total_entry-total.ensures
    ∙ ap capped (total_given c.args.steps c.args.comp.now c.keep.new.kept c.keep-2.new.kept c.args.body.now 0 c.args.here c.requires.sizes c.keep.ensures c.keep-2.ensures c.requires.comp_given (kept_empty c.keep.new.kept c.args.comp.now 0 c.keep.ensures c.requires.comp_given (λ e. omega arith)) (kept_empty c.keep-2.new.kept c.args.body.now c.args.here c.keep-2.ensures c.requires.body_given c.requires.here))

pub returns-clause-kept : goal.returns-clause-kept
returns-clause-kept c = below_kept c.keep.new.kept c.args.comp.now 0 (length c.args.body.now) c.keep.ensures c.requires.sizes

pub returns-clause-holds : goal.returns-clause-holds
returns-clause-holds c =
    holds_more c.args.steps (step_total c.args.steps (slice_index c.keep.new.kept) (slice_index c.keep-2.new.kept)) (length c.args.body.now) c.total_entry-total.result c.settle_totals_before.new.cells (omega arith) c.requires.size c.settle_totals_before.ensures.below c.settle_totals_before.ensures.last c.total_entry-total.ensures
