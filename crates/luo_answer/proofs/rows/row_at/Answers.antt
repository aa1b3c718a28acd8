use Rattle.std.proofs.Common.{◌<◌, ◌∙◌, sym, ap, subst, length}
use Rattle.luo_model.specs.View.{Held, plain_of}
use Rattle.luo_model.specs.Invariant.{IsProgram}
use Rattle.luo_model.specs.Tables.{IsCount, IsTotal}
use Rattle.luo_engine.specs.Run.{Run}
use Rattle.luo_answer.proofs.RowLemmas.{node_within, site_within, row_right}
use Rattle.luo_answer.proofs.rows.row_at.Goals as goal

pub count-requires-clause-node : goal.count-requires-clause-node
count-requires-clause-node c =
    let proc = c.procedure_at-procedure.result.now in
    subst (λ (r : Run). proc.on.node < length r.program.nodes) (sym c.requires.full)
    (node_within c.args.program.now (subst (λ (h : Held). IsProgram (plain_of h)) c.program.view_is c.program.invariant) c.as_slice.result.now (c.as_slice.ensures ∙ ap (λ (h : Held). h.procs) c.program.view_is) c.args.f proc c.procedure_at-procedure.ensures)

pub total-requires-clause-site : goal.total-requires-clause-site
total-requires-clause-site c =
    let proc = c.procedure_at-procedure.result.now in
    subst (λ (r : Run). proc.site < length r.program.sites) (sym c.requires.full)
    (site_within c.args.program.now (subst (λ (h : Held). IsProgram (plain_of h)) c.program.view_is c.program.invariant) c.as_slice.result.now (c.as_slice.ensures ∙ ap (λ (h : Held). h.procs) c.program.view_is) c.args.f proc c.procedure_at-procedure.ensures)

pub returns-clause-right : goal.returns-clause-right
returns-clause-right c =
    let proc = c.procedure_at-procedure.result.now in
    row_right c.args.program.now (subst (λ (h : Held). IsProgram (plain_of h)) c.program.view_is c.program.invariant) c.as_slice.result.now (c.as_slice.ensures ∙ ap (λ (h : Held). h.procs) c.program.view_is) c.args.f proc c.procedure_at-procedure.ensures
    (record { n = c.args.n; count = c.count.result; total = c.total.result })
    (subst (λ (r : Run). IsCount (plain_of r.program) proc.on.node c.args.n c.count.result) c.requires.full c.count.ensures)
    (subst (λ (r : Run). IsTotal (plain_of r.program) proc.site c.args.n c.total.result) c.requires.full c.total.ensures)
