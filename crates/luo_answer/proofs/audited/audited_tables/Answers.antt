use Rattle.std.proofs.Common.{◌∙◌, ap, subst, arith}
use Rattle.std.proofs.lemmas.List.{length-map}
use Rattle.luo_finite.specs.Listing.{In}
use Rattle.luo_finite.proofs.Membership.{In-at}
use Rattle.luo_model.specs.Invariant.{IsProgram}
use Rattle.luo_model.specs.View.{Held, plain_of, procedure_of}
use Rattle.luo_answer.specs.Commands.Audit.{audited}
use Rattle.luo_answer.specs.inner.Passes.{Passes, none}
use Rattle.luo_answer.proofs.AuditLemmas.{none_tabled, tabled_more, rows_refused, all_tabled, none_refused}
use Rattle.luo_answer.proofs.OneReport.{tables_named}
use Rattle.luo_answer.proofs.StepLemmas.{same_error}
use Rattle.luo_answer.proofs.audited.audited_tables.Goals as goal

pub loop-f-init : goal.loop-f-init
loop-f-init g c = none_tabled (plain_of c.args.program.now) c.args.last c.as_slice-f-items.result.now c.new-tables.result c.new-tables.ensures

pub rows_of-requires-clause-there : goal.rows_of-requires-clause-there
rows_of-requires-clause-there g c =
    let q = subst (λ (h : Held). IsProgram (plain_of h)) c.program.view_is c.program.invariant in
    let there = subst (In _) (c.as_slice-f-items.ensures ∙ ap (λ (h : Held). h.analyses) c.program.view_is) (In-at c.as_slice-f-items.result.now c.loop-f.f-index 0 c.loop-f-test.true) in
    omega (arith, q.analyses_there _ there, length-map c.args.program.now.procs procedure_of)

pub rows_of-requires-clause-few : goal.rows_of-requires-clause-few
rows_of-requires-clause-few g c = λ lts live. c.requires.few _ (subst (In _) (c.as_slice-f-items.ensures ∙ ap (λ (h : Held). h.analyses) c.program.view_is) (In-at c.as_slice-f-items.result.now c.loop-f.f-index 0 c.loop-f-test.true))

pub returns-in_err-rows-clause-passes : goal.returns-in_err-rows-clause-passes
returns-in_err-rows-clause-passes g c =
    same_error (Passes none (audited (plain_of c.args.program.now) c.args.last)) _ _ c.from_residual.ensures.1
    (record { answers = rows_refused (plain_of c.args.program.now) c.args.last c.loop-f.f-index c.as_slice-f-items.result.now (c.as_slice-f-items.ensures ∙ ap (λ (h : Held). h.analyses) c.program.view_is) c.loop-f.tables c.loop-f.invariant c.loop-f-test.true _ c.in_err-rows.ensures })

pub loop-f-preserved : goal.loop-f-preserved
loop-f-preserved g c =
    tabled_more (plain_of c.args.program.now) c.args.last c.loop-f.f-index c.as_slice-f-items.result.now (c.as_slice-f-items.ensures ∙ ap (λ (h : Held). h.analyses) c.program.view_is) c.loop-f.tables c.loop-f.invariant c.loop-f-test.true c.in_ok-rows.rows c.in_ok-rows.ensures c.push.new.self c.in_ok-push.ensures.ok

pub returns-clause-passes : goal.returns-clause-passes
returns-clause-passes g c = record { answers = (none_refused (plain_of c.args.program.now) c.args.last c.loop-f.f-index c.as_slice-f-items.result.now (c.as_slice-f-items.ensures ∙ ap (λ (h : Held). h.analyses) c.program.view_is) c.loop-f.tables c.loop-f.invariant (omega (arith, c.loop-f-test.false)), tt) }

pub returns-clause-right : goal.returns-clause-right
returns-clause-right g c = all_tabled (plain_of c.args.program.now) c.args.last c.loop-f.f-index c.as_slice-f-items.result.now (c.as_slice-f-items.ensures ∙ ap (λ (h : Held). h.analyses) c.program.view_is) c.loop-f.tables c.loop-f.invariant (omega (arith, c.loop-f-test.false))

pub returns-clause-named : goal.returns-clause-named
returns-clause-named g c = λ t i.
    let q = subst (λ (h : Held). IsProgram (plain_of h)) c.program.view_is c.program.invariant in
    omega (
      arith,
      tables_named (plain_of c.args.program.now) q c.args.last c.loop-f.f-index c.as_slice-f-items.result.now (c.as_slice-f-items.ensures ∙ ap (λ (h : Held). h.analyses) c.program.view_is) c.loop-f.tables c.loop-f.invariant.right t i,
      length-map c.args.program.now.procs procedure_of,
    )
