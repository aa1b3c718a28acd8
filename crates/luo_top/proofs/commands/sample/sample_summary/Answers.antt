use Rattle.std.proofs.Common.{◌≤◌, List, ℕ, length, sym, ap, subst, ◌∙◌, arith}
use Rattle.luo_num.specs.declared.limits.TheConstants.{TEXT_LIMIT}
use Rattle.luo_sample.proofs.Good.{each_is_good}
use Rattle.luo_answer.proofs.StepLemmas.{go, stop, starved}
use Rattle.luo_top.proofs.SampleTaken.{of_text, of_length}
use Rattle.luo_top.proofs.commands.sample.sample_summary.Goals as goal

pub text_program-requires : goal.text_program-requires
text_program-requires c = record { short = subst (λ (t : List ℕ). length t ≤ TEXT_LIMIT) (sym c.in_ok-text.ensures) (each_is_good c.args.number (omega arith)).bytes }

pub returns-in_err-text : goal.returns-in_err-text
returns-in_err-text c = starved c.from_residual.ensures.1

pub returns-in_err-program : goal.returns-in_err-program
returns-in_err-program c = stop _ (of_text c.args.number c.in_ok-text.ensures c.in_err-program.ensures) c.from_residual-in_err-program.ensures.1

pub returns : goal.returns
returns c = go _ (of_text c.args.number c.in_ok-text.ensures c.in_ok-program.ensures) (of_length c.args.number _ c.args.n _ (c.len.ensures ∙ ap length c.in_ok-text.ensures) c.sample_of.ensures)
