use Rattle.std.proofs.Common.{◌∙◌, ap, subst, arith, get_or, false}
use Rattle.std.proofs.lemmas.List.{length-map, take_all}
use Rattle.luo_finite.specs.Listing.{In}
use Rattle.luo_finite.proofs.Membership.{In-at}
use Rattle.luo_num.proofs.LimitLines.{lines-say_limits}
use Rattle.luo_model.specs.Invariant.{IsProgram}
use Rattle.luo_model.specs.View.{Held, plain_of, procedure_of}
use Rattle.luo_answer.specs.declared.status.Status.TheVariants.{Limit}
use Rattle.luo_answer.specs.Answer.{Refusal}
use Rattle.luo_answer.specs.inner.Audited.{IsFew}
use Rattle.luo_answer.proofs.AuditLemmas.{AreAllFew, all_few_more, no_too_many}
use Rattle.luo_answer.proofs.steps.auditing.few.Goals as goal

pub is_few-requires-clause-there : goal.is_few-requires-clause-there
is_few-requires-clause-there c =
    let q = subst (λ (h : Held). IsProgram (plain_of h)) c.program.view_is c.program.invariant in
    let there = subst (In _) (c.as_slice-f-items.ensures ∙ ap (λ (h : Held). h.analyses) c.program.view_is) (In-at c.as_slice-f-items.result.now c.loop-f.f-index 0 c.loop-f-test.true) in
    omega (arith, q.analyses_there _ there, length-map c.args.program.now.procs procedure_of)

pub returns-then-not-is_few : goal.returns-then-not-is_few
returns-then-not-is_few c =
    let f = get_or c.as_slice-f-items.result.now c.loop-f.f-index 0 in
    let there = subst (In _) (c.as_slice-f-items.ensures ∙ ap (λ (h : Held). h.analyses) c.program.view_is) (In-at c.as_slice-f-items.result.now c.loop-f.f-index 0 c.loop-f-test.true) in
    let more : IsFew (plain_of c.args.program.now) f c.args.last false = subst (IsFew (plain_of c.args.program.now) f c.args.last) c.if-not-is_few.true c.is_few.ensures in
    record { answers = ((f, more.0, more.1, there, more.2, more.3, more.4), ap (Refusal Limit) lines-say_limits.15) }

pub loop-f-preserved : goal.loop-f-preserved
loop-f-preserved c =
    let f = get_or c.as_slice-f-items.result.now c.loop-f.f-index 0 in
    all_few_more (plain_of c.args.program.now) c.args.last c.loop-f.f-index c.as_slice-f-items.result.now c.loop-f-test.true c.loop-f.invariant
    (subst (IsFew (plain_of c.args.program.now) f c.args.last) c.if-not-is_few.false c.is_few.ensures)

pub returns : goal.returns
returns c =
    let items = c.as_slice-f-items.ensures ∙ ap (λ (h : Held). h.analyses) c.program.view_is in
    let all = subst (AreAllFew (plain_of c.args.program.now) c.args.last) (take_all c.loop-f.f-index c.as_slice-f-items.result.now (omega (arith, c.loop-f-test.false)) ∙ items) c.loop-f.invariant in
    record { answers = ((λ a h. no_too_many (plain_of c.args.program.now) c.args.last all h.0), tt) }
