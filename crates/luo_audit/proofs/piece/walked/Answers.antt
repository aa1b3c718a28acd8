use Rattle.std.proofs.Common.{arith, sym, subst}
use Rattle.luo_list.specs.Span.{Span, Answers}
use Rattle.luo_list.proofs.WalkLemmas.{has_passed}
use Rattle.luo_audit.specs.Pieces.{sum_between}
use Rattle.luo_audit.specs.declared.auditing.AuditError.TheVariants.{Over}
use Rattle.luo_audit.proofs.WalkLemmas.{OnWay, refused, begins, takes, past_charge, past_sum, goes_on, ended}
use Rattle.luo_audit.proofs.piece.walked.Goals as goal

pub loop-cursor-init : goal.loop-cursor-init
loop-cursor-init c = begins c.args.program.now c.args.callee c.args.cursor c.requires.of c.requires.order

pub charge-requires-clause-there : goal.charge-requires-clause-there
charge-requires-clause-there c =
    takes c.args.program.now c.args.callee c.args.cursor c.requires.on c.loop-cursor.cursor c.next.new.self c.loop-cursor.total c.loop-cursor.invariant
    c.in_ok-structure.field-0 c.in-Some.structure c.in-Some.is c.in_ok-structure.ensures.answers

pub returns-in_err-charged-clause-sum : goal.returns-in_err-charged-clause-sum
returns-in_err-charged-clause-sum c = λ charges m.
    refused (sum_between charges c.args.cursor.place c.args.cursor.end) c.from_residual-in_err-charged.result Over c.from_residual-in_err-charged.ensures.1
    (past_charge c.args.program.now c.args.callee c.args.cursor c.requires.on c.loop-cursor.cursor c.next.new.self c.loop-cursor.total c.loop-cursor.invariant
    c.in_ok-structure.field-0 c.in-Some.structure c.in-Some.is c.in_ok-structure.ensures.answers c.in_err-charged.ensures charges m)

pub plus-requires-clause-a_small : goal.plus-requires-clause-a_small
plus-requires-clause-a_small c = c.loop-cursor.invariant.small

pub returns-in_err-total-clause-sum : goal.returns-in_err-total-clause-sum
returns-in_err-total-clause-sum c = λ charges m.
    refused (sum_between charges c.args.cursor.place c.args.cursor.end) c.from_residual-in_err-total.result Over c.from_residual-in_err-total.ensures.1
    (past_sum c.args.program.now c.args.callee c.args.cursor c.requires.on c.loop-cursor.cursor c.next.new.self c.loop-cursor.total c.loop-cursor.invariant
    c.in_ok-structure.field-0 c.in-Some.structure c.in-Some.is c.in_ok-structure.ensures.answers c.in_ok-charged.charged c.in_ok-charged.ensures.0 c.in_err-total.ensures charges m)

pub step_from-requires : goal.step_from-requires
step_from-requires c = has_passed c.loop-cursor.cursor c.in-Some.structure c.next.new.self (subst (λ f. Answers c.loop-cursor.cursor f c.next.new.self) c.in-Some.is c.in_ok-structure.ensures.answers)

pub loop-cursor-preserved : goal.loop-cursor-preserved
loop-cursor-preserved c =
    subst (λ (d : Span). OnWay c.args.program.now c.args.callee c.args.cursor d c.in_ok-total.total) (sym c.step_from.ensures)
    (goes_on c.args.program.now c.args.callee c.args.cursor c.requires.on c.loop-cursor.cursor c.next.new.self c.loop-cursor.total c.loop-cursor.invariant
    c.in_ok-structure.field-0 c.in-Some.structure c.in-Some.is c.in_ok-structure.ensures.answers c.in_ok-charged.charged c.in_ok-total.total c.in_ok-charged.ensures.0
    c.in_ok-total.ensures.0 c.in_ok-total.ensures.1)

pub returns-clause-small : goal.returns-clause-small
returns-clause-small c = c.loop-cursor.invariant.small

pub returns-clause-sum : goal.returns-clause-sum
returns-clause-sum c =
    ended c.args.program.now c.args.callee c.args.cursor c.requires.on c.loop-cursor.cursor c.next.new.self c.loop-cursor.total c.loop-cursor.invariant
    c.in_ok-structure.field-0 c.in_default.not-Some c.in_ok-structure.ensures.answers
