use Rattle.std.proofs.Common.{ap, ◌∙◌}
use Rattle.luo_model.specs.View.{Held, plain_of}
use Rattle.luo_compile.proofs.BodyLemmas.{put_def}
use Rattle.luo_compile.proofs.system.put_definitions.Goals as goal

pub loop-i-preserved : goal.loop-i-preserved
loop-i-preserved c =
    put_def (plain_of c.args.program.now) c.args.program.now.defs c.as_slice-def-items.result.now c.loop-i.i c.def-item.result _ c.args.equations.now.items _ _
    (c.as_slice-def-items.ensures ∙ ap (λ (h : Held). h.defs) c.program.view_is) c.loop-i-test.true c.def-item.is c.in_ok-push.ensures.items c.in_ok-part_of.ensures c.loop-i.invariant
