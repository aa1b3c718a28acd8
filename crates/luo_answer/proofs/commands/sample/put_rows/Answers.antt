use Rattle.std.proofs.Common.{ap, ◌∙◌, ◌++◌, codes}
use Rattle.std.proofs.lemmas.Option.{slice_get-get_or}
use Rattle.luo_model.specs.View.{Held, plain_of}
use Rattle.luo_report.specs.Report.{row_text}
use Rattle.luo_answer.proofs.SampleRows.{put_line}
use Rattle.luo_answer.proofs.commands.sample.put_rows.Goals as goal

pub loop-i-preserved : goal.loop-i-preserved
loop-i-preserved c =
    put_line (plain_of c.args.program.now) c.args.program.now.analyses c.as_slice-callee-items.result.now c.args.rows.now c.loop-i.i _ c.row_of.result.now _ _ _
    (c.as_slice-callee-items.ensures ∙ ap (λ (h : Held). h.analyses) c.program.view_is) c.loop-i-test.true c.requires (slice_get-get_or c.as_slice-callee-items.result.now c.loop-i.i 0 c.loop-i-test.true) c.row_of.ensures
    (c.in_ok-put_row.ensures ∙ ap (λ z. z ++ row_text c.row_of.result.now) (c.in_ok-push.ensures.items ∙ ap (λ z. z ++ codes " ") c.in_ok-put_procedure.ensures)) c.loop-i.invariant
