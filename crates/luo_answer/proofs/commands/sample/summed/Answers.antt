use Rattle.std.proofs.Common.{length, ap, ◌∙◌}
use Rattle.luo_model.specs.View.{plain_of}
use Rattle.luo_answer.specs.Commands.Sample.{summary_text}
use Rattle.luo_answer.proofs.StepLemmas.{made}
use Rattle.luo_answer.proofs.SampleRows.{rows_wide}
use Rattle.luo_answer.proofs.commands.sample.summed.Goals as goal

pub summary-requires : goal.summary-requires
summary-requires c = ap length c.as_slice.ensures ∙ rows_wide (plain_of c.args.program.now) c.args.n c.args.program.now.analyses c.in_ok-rows.rows c.in_ok-rows.ensures

pub returns : goal.returns
returns c = made _ _ (c.in_ok-rows.rows, c.in_ok-rows.ensures, c.from_vec.ensures ∙ c.in_ok-text.ensures ∙ (λ i. summary_text c.args.number c.args.bytes (plain_of c.args.program.now) (c.as_slice.ensures i)))
