use Rattle.std.proofs.Common.{ap, ◌∙◌}
use Rattle.luo_model.specs.View.{Held, plain_of}
use Rattle.luo_compile.proofs.BodyLemmas.{put_proc}
use Rattle.luo_compile.proofs.system.put_procedures.Goals as goal

pub loop-f-preserved : goal.loop-f-preserved
loop-f-preserved c =
    put_proc (plain_of c.args.program.now) c.args.program.now.procs c.as_slice-procedure-items.result.now c.loop-f.f c.procedure-item.result _ c.args.equations.now.items _ _
    (c.as_slice-procedure-items.ensures ∙ ap (λ (h : Held). h.procs) c.program.view_is) c.loop-f-test.true c.procedure-item.is c.in_ok-push.ensures.items
    c.in_ok-body_descriptor.ensures c.loop-f.invariant
