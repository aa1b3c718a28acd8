use Rattle.std.proofs.Common.{sum_by, sym, ◌∙◌, ap}
use Rattle.luo_num.specs.Mark.{capped}
use Rattle.luo_types.specs.inner.Held.{statements_in, body_statements_in}
use Rattle.luo_types.proofs.StatementNumbers.{stmts_counted}
use Rattle.luo_types.proofs.statement_counts.count_body.Goals as goal

pub returns-in-Statements : goal.returns-in-Statements
returns-in-Statements c =
    c.count_stmts.ensures ∙ ap (λ l. capped (sum_by statements_in l)) c.as_slice.ensures ∙ ap capped (sym (stmts_counted c.in-Statements.stmts)) ∙ ap (λ b. capped (body_statements_in b)) (sym c.in-Statements.is)
