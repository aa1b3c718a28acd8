use Rattle.luo_model.specs.View.{plain_of}
use Rattle.luo_equation.specs.View.{expr_list}
use Rattle.luo_system.specs.Plain.{factors_of}
use Rattle.luo_model.specs.Scopes.Stands.{no_part}
use Rattle.luo_system.specs.System.{part_expr}
use Rattle.luo_compile.proofs.CodeLemmas.{put_start, put_read, put_end}
use Rattle.luo_compile.proofs.parts.add_parts.Goals as goal

pub loop-part-init : goal.loop-part-init
loop-part-init c = put_start factors_of (part_expr (plain_of c.args.program.now)) c.args.parts.now (expr_list c.args.factors.now)

pub loop-part-preserved : goal.loop-part-preserved
loop-part-preserved c =
    put_read factors_of (part_expr (plain_of c.args.program.now)) c.args.parts.now no_part c.loop-part.part-index _ (expr_list c.args.factors.now) _ _
    c.loop-part-test.true c.in_ok-part_of.ensures c.in_ok-add_factor.ensures c.loop-part.invariant

pub returns : goal.returns
returns c = put_end factors_of (part_expr (plain_of c.args.program.now)) c.args.parts.now c.loop-part.part-index (expr_list c.args.factors.now) _ c.loop-part-test.false c.loop-part.invariant
