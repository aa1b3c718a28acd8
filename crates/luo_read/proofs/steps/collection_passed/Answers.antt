use Rattle.luo_read.proofs.ReaderLemmas.{collection_comma, collection_end}
use Rattle.luo_read.proofs.steps.collection_passed.Goals as goal

pub returns-in_ok-push-in-44-2 : goal.returns-in_ok-push-in-44-2
returns-in_ok-push-in-44-2 c =
    collection_comma c.args.frames c.args.parts c.args.s c.args.byte c.requires.few c.push.new.self c.push-in-44.new.self
    c.in-44.is c.in_ok-push-in-44.ensures.ok c.in_ok-push-in-44-2.ensures.ok

pub returns-in_ok-push-in-93 : goal.returns-in_ok-push-in-93
returns-in_ok-push-in-93 c =
    collection_end c.args.frames c.args.parts c.args.s c.args.byte c.requires.few c.push-in-93.new.self c.behind.result c.in-93.is
    c.in_ok-push-in-93.ensures.ok c.behind.ensures.ok c.behind.ensures.err
