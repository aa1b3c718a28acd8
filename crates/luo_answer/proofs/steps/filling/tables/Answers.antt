use Rattle.std.proofs.Common.{subst}
use Rattle.luo_model.specs.View.{plain_of}
use Rattle.luo_engine.specs.Entries.{IsFirstOver}
use Rattle.luo_engine.specs.Run.{Run}
use Rattle.luo_answer.proofs.steps.filling.tables.Goals as goal

pub returns-in-Err-clause-passes : goal.returns-in-Err-clause-passes
returns-in-Err-clause-passes c =
    let over = c.in-Err.over in
    record { answers = c.overflow_refusal-refusal.ensures c.args.fill c.args.last (subst (λ (r : Run). IsFirstOver (plain_of r.program) r.last r.fill over.entry over.n) c.loop-i.invariant.is c.in-Err.ensures.over) }
