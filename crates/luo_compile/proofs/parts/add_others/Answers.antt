use Rattle.std.proofs.Common.{sym, ap, ◌∙◌, get_or}
use Rattle.luo_model.specs.View.{plain_of}
use Rattle.luo_equation.specs.View.{expr_list}
use Rattle.luo_model.specs.Scopes.Stands.{no_part}
use Rattle.luo_system.specs.System.{part_expr}
use Rattle.luo_compile.proofs.CodeLemmas.{join_none, read_again}
use Rattle.luo_compile.proofs.BodyLemmas.{put_other, put_same, others_end}
use Rattle.luo_compile.proofs.parts.add_others.Goals as goal
use Rattle.luo_compile.proofs.parts.add_others.Goals.{then-i-but+in_ok-part_of+in_ok-add_factor, else-i-but}

pub loop-i-init : goal.loop-i-init
loop-i-init c = sym (join_none (expr_list c.args.factors.now))

pub loop-i-preserved : goal.loop-i-preserved
loop-i-preserved c =
    let g = part_expr (plain_of c.args.program.now) in
    elim c.if-i-but.branch [
      | then-i-but+in_ok-part_of+in_ok-add_factor w ↦ ap expr_list w.factors-is
          ∙ put_other g c.args.parts.now c.args.but c.loop-i.i (get_or c.args.parts.now c.loop-i.i no_part) _ (expr_list c.args.factors.now) _ _ c.loop-i-test.true
          (read_again c.args.parts.now c.loop-i.i no_part c.loop-i-test.true) w.if-i-but.true w.in_ok-part_of.ensures w.in_ok-add_factor.ensures c.loop-i.invariant
      | else-i-but w ↦ ap expr_list w.factors-is ∙ put_same g c.args.parts.now c.args.but c.loop-i.i (expr_list c.args.factors.now) _ w.if-i-but.false c.loop-i.invariant
    ]

pub returns : goal.returns
returns c = others_end (part_expr (plain_of c.args.program.now)) c.args.parts.now c.args.but c.loop-i.i (expr_list c.args.factors.now) _ c.loop-i-test.false c.loop-i.invariant
