use Rattle.std.proofs.Common.{ap, ◌∙◌, length, None, arith}
use Rattle.luo_num.specs.Mark.{capped}
use Rattle.luo_unlabelled.proofs.CallLemmas.{kept_empty, number_kept, number_here}
use Rattle.luo_unlabelled.proofs.PartCalls.{parts_given}
use Rattle.luo_unlabelled.proofs.SizeCalls.{row_next}
use Rattle.luo_unlabelled.proofs.unbounded.next_number.Goals as goal

pub advance-requires-clause-holds : goal.advance-requires-clause-holds
advance-requires-clause-holds c =
    λ m hm. row_next c.args.kind c.args.kept.now c.keep.new.kept c.args.comp.now c.args.cells.now c.args.here (length c.args.kept.now) c.requires.agree c.keep.ensures c.requires.none_empty
    (kept_empty c.keep.new.kept c.args.comp.now c.args.here c.keep.ensures c.requires.given c.requires.here) c.requires.holds m (omega (arith, hm, c.keep.auto.kept))

pub count_of-requires-clause-here : goal.count_of-requires-clause-here
count_of-requires-clause-here c = omega (arith, number_kept c.keep.new.kept c.args.comp.now c.args.here (length c.args.comp.now) c.keep.ensures (omega arith), number_here c.args.comp.now c.args.here, c.requires.here_small)

pub count_of-requires-clause-alone : goal.count_of-requires-clause-alone
count_of-requires-clause-alone c = λ t. number_kept c.keep.new.kept c.args.comp.now c.args.here (length c.args.comp.now) c.keep.ensures (omega arith) ∙ number_here c.args.comp.now c.args.here ∙ c.requires.here_alone t

pub returns-clause-number : goal.returns-clause-number
returns-clause-number c =
    c.count_of.ensures ∙ ap capped (parts_given c.args.kind c.args.low None c.keep.new.kept c.args.comp.now c.args.here c.requires.parts c.keep.ensures (kept_empty c.keep.new.kept c.args.comp.now c.args.here c.keep.ensures c.requires.given c.requires.here))
