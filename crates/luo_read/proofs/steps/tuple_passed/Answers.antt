use Rattle.luo_read.proofs.ReaderLemmas.{tuple_comma, tuple_end, not_empty}
use Rattle.luo_read.proofs.steps.tuple_passed.Goals as goal

pub returns-in_ok-push-in-44-2 : goal.returns-in_ok-push-in-44-2
returns-in_ok-push-in-44-2 c =
    tuple_comma c.args.frames c.args.parts c.args.s c.args.byte c.requires.few c.push.new.self c.push-in-44.new.self
    c.in-44.is c.in_ok-push-in-44.ensures.ok c.in_ok-push-in-44-2.ensures.ok

pub returns-in_ok-push-in-41 : goal.returns-in_ok-push-in-41
returns-in_ok-push-in-41 c =
    tuple_end c.args.frames c.args.parts c.args.s c.args.byte c.requires.few c.push-in-41.new.self c.behind.result c.in-41.is
    (not_empty c.args.parts c.is_empty.result c.is_empty.ensures c.if-is_empty.false) c.in_ok-push-in-41.ensures.ok c.behind.ensures.ok c.behind.ensures.err
