use Rattle.luo_source.specs.View.{plain_source}
use Rattle.luo_top.proofs.steps.program.core_of.Goals as goal

pub returns-in-Err : goal.returns-in-Err
returns-in-Err c = record { answers = c.check_refusal.ensures (plain_source c.args.source.now) c.in-Err.ensures.err }
