use Rattle.std.proofs.Common.{ap, ◌∙◌}
use Rattle.luo_model.specs.View.{Held}
use Rattle.luo_founded.proofs.LevelLoops.{procs_next, procs_end}
use Rattle.luo_founded.proofs.sites.site_levels.Goals as goal

pub loop-procedure-preserved : goal.loop-procedure-preserved
loop-procedure-preserved c = procs_next c.args.wholes.now c.as_slice-procs.result.now c.loop-procedure.procedure-index c.procedure-item.result c.loop-procedure.levels c.push_body.new.levels c.loop-procedure-test.true c.procedure-item.is c.in_ok-push_body.ensures c.loop-procedure.invariant

pub returns : goal.returns
returns c = procs_end c.args.wholes.now c.args.program.now c.as_slice-procs.result.now c.loop-procedure.procedure-index c.loop-procedure.levels (c.as_slice-procs.ensures ∙ ap (λ (h : Held). h.procs) c.program.view_is) c.loop-procedure-test.false c.loop-procedure.invariant
