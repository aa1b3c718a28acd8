use Rattle.std.proofs.Common.{◌∙◌, ap, subst, arith}
use Rattle.std.proofs.lemmas.List.{length-map}
use Rattle.luo_finite.specs.Listing.{In}
use Rattle.luo_finite.proofs.Membership.{In-at}
use Rattle.luo_model.specs.View.{Held, plain_of, procedure_of}
use Rattle.luo_model.specs.Invariant.{IsProgram}
use Rattle.luo_answer.proofs.SampleRows.{at-step}
use Rattle.luo_answer.proofs.commands.sample.rows_at.Goals as goal

pub row_at-requires-clause-there : goal.row_at-requires-clause-there
row_at-requires-clause-there c =
    let q = subst (λ (h : Held). IsProgram (plain_of h)) c.program.view_is c.program.invariant in
    let there = subst (In _) (c.as_slice-f-items.ensures ∙ ap (λ (h : Held). h.analyses) c.program.view_is) (In-at c.as_slice-f-items.result.now c.loop-f.f-index 0 c.loop-f-test.true) in
    omega (arith, q.analyses_there _ there, length-map c.args.program.now.procs procedure_of)

pub loop-f-preserved : goal.loop-f-preserved
loop-f-preserved c = at-step (plain_of c.args.program.now) c.args.n c.loop-f.f-index c.as_slice-f-items.result.now c.row_at.result c.loop-f.rows c.push.new.self c.loop-f-test.true c.loop-f.invariant c.row_at.ensures.size c.row_at.ensures.right c.in_ok-push.ensures.ok
