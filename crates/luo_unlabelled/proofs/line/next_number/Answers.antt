use Rattle.std.proofs.Common.{arith, slice_index, length, ap, ◌∙◌}
use Rattle.luo_num.specs.Mark.{capped}
use Rattle.luo_unlabelled.specs.inner.Steps.{step_count}
use Rattle.luo_unlabelled.proofs.CallLemmas.{holds_next, kept_empty, count_given}
use Rattle.luo_unlabelled.proofs.CellLemmas.{holds_more}
use Rattle.luo_unlabelled.proofs.line.next_number.Goals as goal

pub settle_before-requires-clause-none_empty : goal.settle_before-requires-clause-none_empty
settle_before-requires-clause-none_empty c = kept_empty c.keep.new.kept c.args.comp.now c.args.here c.keep.ensures c.requires.given c.requires.here

pub settle_before-requires-clause-holds : goal.settle_before-requires-clause-holds
settle_before-requires-clause-holds c =
    holds_next c.args.steps c.args.kept.now c.keep.new.kept c.args.comp.now c.args.here c.args.cells.now c.requires.follows c.keep.ensures c.requires.none_empty (kept_empty c.keep.new.kept c.args.comp.now c.args.here c.keep.ensures c.requires.given c.requires.here) c.requires.holds

pub returns-clause-number : goal.returns-clause-number
returns-clause-number c =
    c.entry-number.ensures ∙ ap capped (count_given c.args.steps c.keep.new.kept c.args.comp.now c.args.here c.keep.ensures (kept_empty c.keep.new.kept c.args.comp.now c.args.here c.keep.ensures c.requires.given c.requires.here))

pub returns-clause-holds : goal.returns-clause-holds
returns-clause-holds c =
    holds_more c.args.steps (step_count c.args.steps (slice_index c.keep.new.kept)) (length c.args.comp.now) c.entry-number.result c.settle_before.new.cells (omega arith) c.requires.size c.settle_before.ensures.below c.settle_before.ensures.answers c.entry-number.ensures
