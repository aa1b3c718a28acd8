use Rattle.std.proofs.Common.{◌+◌, ◌-◌, refl, length, slice_index, arith}
use Rattle.luo_unlabelled.proofs.CallLemmas.{kept_empty, below_kept}
use Rattle.luo_unlabelled.proofs.PartTotals.{first_kept, first_now}
use Rattle.luo_unlabelled.proofs.SizeCalls.{totals_held}
use Rattle.luo_unlabelled.proofs.unbounded_walk.next_total.Goals as goal

pub advance-requires-clause-holds : goal.advance-requires-clause-holds
advance-requires-clause-holds c =
    totals_held c.args.kind (slice_index c.args.kept.now) (slice_index c.args.sums.now) (slice_index c.args.comp.now) (slice_index c.args.body.now) c.args.cells.now (length c.args.cells.now) (length c.args.body.now - 2) (length c.args.body.now - 2) refl
    (λ i l. first_kept c.args.kept.now c.args.comp.now i c.requires.agree c.requires.none_empty c.requires.comp_given (omega (arith, l, c.requires.sizes)))
    (λ i l. first_kept c.args.sums.now c.args.body.now i c.requires.sums_agree c.requires.none_charged c.requires.body_given l) c.requires.holds

pub advance-requires-clause-idle : goal.advance-requires-clause-idle
advance-requires-clause-idle c = λ t z. c.requires.idle (length c.args.body.now - 1) (omega (arith, t)) z

pub returns-clause-kept : goal.returns-clause-kept
returns-clause-kept c = below_kept c.keep.new.kept c.args.comp.now 0 (length c.args.body.now) c.keep.ensures c.requires.sizes

pub returns-clause-holds : goal.returns-clause-holds
returns-clause-holds c =
    totals_held c.args.kind (slice_index c.args.comp.now) (slice_index c.args.body.now) (slice_index c.keep.new.kept) (slice_index c.keep-2.new.kept) c.advance.new.cells (length c.args.cells.now) (length c.args.body.now - 1) (length c.args.body.now + 1 - 2) (omega arith)
    (λ i l. first_now c.keep.new.kept c.args.comp.now 0 i c.keep.ensures (kept_empty c.keep.new.kept c.args.comp.now 0 c.keep.ensures c.requires.comp_given (λ e. refl)) c.requires.comp_given (omega (arith, l, c.requires.sizes)))
    (λ i l. first_now c.keep-2.new.kept c.args.body.now c.args.here i c.keep-2.ensures (kept_empty c.keep-2.new.kept c.args.body.now c.args.here c.keep-2.ensures c.requires.body_given c.requires.here) c.requires.body_given l)
    c.advance.ensures
