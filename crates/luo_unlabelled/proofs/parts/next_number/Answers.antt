use Rattle.std.proofs.Common.{◌+◌, ap, ◌∙◌}
use Rattle.luo_num.specs.Mark.{capped}
use Rattle.luo_unlabelled.specs.inner.Planes.{last_of}
use Rattle.luo_unlabelled.proofs.CallLemmas.{kept_empty}
use Rattle.luo_unlabelled.proofs.PartCalls.{plane_next, parts_given}
use Rattle.luo_unlabelled.proofs.parts.next_number.Goals as goal

pub advance-requires-clause-holds : goal.advance-requires-clause-holds
advance-requires-clause-holds c =
    plane_next c.args.frame.kind c.args.kept.now c.keep.new.kept c.args.comp.now c.args.cells.now c.args.here (last_of c.args.frame.high c.args.frame.n_max + 1) (c.args.frame.n_max + 1) c.requires.agree c.keep.ensures c.requires.none_empty
    (kept_empty c.keep.new.kept c.args.comp.now c.args.here c.keep.ensures c.requires.given c.requires.here) c.requires.holds

pub returns-clause-number : goal.returns-clause-number
returns-clause-number c =
    c.count_of.ensures ∙ ap capped (parts_given c.args.frame.kind c.args.frame.low c.args.frame.high c.keep.new.kept c.args.comp.now c.args.here c.requires.parts c.keep.ensures (kept_empty c.keep.new.kept c.args.comp.now c.args.here c.keep.ensures c.requires.given c.requires.here))
