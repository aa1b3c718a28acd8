use Rattle.std.proofs.Common.{ℕ, subst, refl, arith, Ok}
use Rattle.luo_model.specs.View.{plain_of}
use Rattle.luo_audit.specs.inner.Answered.{IsPieceSum}
use Rattle.luo_audit.proofs.WalkLemmas.{none_gathered, piece_refused, sums_refused, sum_over, one_gathered, all_gathered}
use Rattle.luo_audit.proofs.auditing.gathered.Goals as goal

pub loop-i-init : goal.loop-i-init
loop-i-init c = none_gathered c.args._program.now c.args._callee c.args.n c.args.workers c.new-sums.result c.new-sums.ensures

pub returns-in_err-sum-clause-sums : goal.returns-in_err-sum-clause-sums
returns-in_err-sum-clause-sums c =
    let i : ℕ = c.loop-i.i in
    piece_refused c.args._program.now c.args._callee c.args.n c.args.workers i c.loop-i.sums c.loop-i.total c.loop-i.invariant c.in_err-sum.field-0.0
    (subst (IsPieceSum (plain_of c.args._program.now) c.args._callee c.args.n c.args.workers i) c.in_err-sum.was (c.requires.each i (Ok 0) c.loop-i-test.true))
    c.from_residual.result c.from_residual.ensures.1

pub plus-requires-clause-b_small : goal.plus-requires-clause-b_small
plus-requires-clause-b_small c =
    let i : ℕ = c.loop-i.i in
    (subst (IsPieceSum (plain_of c.args._program.now) c.args._callee c.args.n c.args.workers i) c.in_ok-sum.was (c.requires.each i (Ok 0) c.loop-i-test.true)).small

pub returns-in_err-total-clause-sums : goal.returns-in_err-total-clause-sums
returns-in_err-total-clause-sums c = λ charges m.
    let i : ℕ = c.loop-i.i in
    sums_refused charges c.args.workers c.from_residual-in_err-total.result c.from_residual-in_err-total.ensures.1
    (sum_over c.args._program.now c.args._callee c.args.n c.args.workers i c.loop-i.sums c.loop-i.total c.loop-i.invariant c.in_ok-sum.sum
    (subst (IsPieceSum (plain_of c.args._program.now) c.args._callee c.args.n c.args.workers i) c.in_ok-sum.was (c.requires.each i (Ok 0) c.loop-i-test.true))
    c.in_err-total.ensures charges m)

pub loop-i-preserved : goal.loop-i-preserved
loop-i-preserved c =
    let i : ℕ = c.loop-i.i in
    one_gathered c.args._program.now c.args._callee c.args.n c.args.workers i c.loop-i.sums c.loop-i.total c.loop-i.invariant c.in_ok-sum.sum
    (subst (IsPieceSum (plain_of c.args._program.now) c.args._callee c.args.n c.args.workers i) c.in_ok-sum.was (c.requires.each i (Ok 0) c.loop-i-test.true))
    c.push.new.self c.in_ok-total.total c.in_ok-push.ensures.ok c.in_ok-total.ensures.0 c.in_ok-total.ensures.1

pub returns-clause-sums : goal.returns-clause-sums
returns-clause-sums c =
    all_gathered c.args._program.now c.args._callee c.args.n c.args.workers c.loop-i.i c.loop-i.sums c.loop-i.total c.loop-i.invariant
    (omega (arith, c.loop-i-test.false, c.loop-i.auto.i-end)) c.requires.some
    (record { row = record { n = c.args.n; count = c.args.count; total = c.loop-i.total }; sums = c.loop-i.sums }) refl refl
