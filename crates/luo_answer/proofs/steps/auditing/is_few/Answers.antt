use Rattle.std.proofs.Common.{◌<◌, ◌∙◌, sym, ap, subst, arith, length}
use Rattle.luo_model.specs.Invariant.{IsProgram}
use Rattle.luo_model.specs.Tables.{IsCount}
use Rattle.luo_model.specs.View.{Held, plain_of}
use Rattle.luo_answer.proofs.AuditLemmas.{count_is, few_more, few_all}
use Rattle.luo_answer.proofs.RowLemmas.{node_within}
use Rattle.luo_answer.proofs.steps.auditing.is_few.Goals as goal

pub at-requires-clause-there : goal.at-requires-clause-there
at-requires-clause-there c =
    let proc = c.procedure_at.result.now in
    subst (λ (h : Held). proc.on.node < length h.nodes) (sym c.requires.counted)
    (node_within c.args.program.now (subst (λ (h : Held). IsProgram (plain_of h)) c.program.view_is c.program.invariant) c.as_slice.result.now (c.as_slice.ensures ∙ ap (λ (h : Held). h.procs) c.program.view_is) c.args.f proc c.procedure_at.ensures)

pub returns-then-at-gt-WALKED_LIMIT : goal.returns-then-at-gt-WALKED_LIMIT
returns-then-at-gt-WALKED_LIMIT c =
    let proc = c.procedure_at.result.now in (
      c.loop-n.n,
      c.at.result,
      omega (arith, c.loop-n-test.true),
      count_is c.args.program.now (subst (λ (h : Held). IsProgram (plain_of h)) c.program.view_is c.program.invariant) c.as_slice.result.now (c.as_slice.ensures ∙ ap (λ (h : Held). h.procs) c.program.view_is) c.args.f proc c.procedure_at.ensures
          c.loop-n.n c.at.result (subst (λ (h : Held). IsCount (plain_of h) proc.on.node c.loop-n.n c.at.result) c.requires.counted c.at.ensures.count),
      c.if-at-gt-WALKED_LIMIT.true,
    )

pub loop-n-preserved : goal.loop-n-preserved
loop-n-preserved c =
    let proc = c.procedure_at.result.now in
    few_more (plain_of c.args.program.now) c.args.f c.loop-n.n c.at.result c.loop-n.invariant
    (count_is c.args.program.now (subst (λ (h : Held). IsProgram (plain_of h)) c.program.view_is c.program.invariant) c.as_slice.result.now (c.as_slice.ensures ∙ ap (λ (h : Held). h.procs) c.program.view_is) c.args.f proc c.procedure_at.ensures
    c.loop-n.n c.at.result (subst (λ (h : Held). IsCount (plain_of h) proc.on.node c.loop-n.n c.at.result) c.requires.counted c.at.ensures.count))
    (omega (arith, c.if-at-gt-WALKED_LIMIT.false))

pub returns : goal.returns
returns c = few_all (plain_of c.args.program.now) c.args.f c.args.last c.loop-n.n (omega (arith, c.loop-n-test.false, c.loop-n.auto.n-end)) c.loop-n.invariant
