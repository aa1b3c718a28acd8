use Rattle.std.proofs.Common.{◌+◌, sym, subst, drop}
use Rattle.luo_types.proofs.Passing.{passed-on}
use Rattle.luo_types.proofs.ProceduresSoFar.{ProcsSoFar, so_far-none, at-proc, proc-room, so_far-stop, so_far-more, so_far-all}
use Rattle.luo_types.proofs.procedures.procedures.Goals as goal

pub loop-number-init : goal.loop-number-init
loop-number-init c =
    let procs = c.args.procs.now in
    subst (λ l. ProcsSoFar c.args.context.now.setting.now procs procs 0 l 0) (sym c.new-made.ensures) (so_far-none c.args.context.now.setting.now procs c.requires.statements c.requires.few)

pub procedure-requires : goal.procedure-requires
procedure-requires c =
    let s = c.args.context.now.setting.now in
    let procs = c.args.procs.now in
    let one = c.index-procs-number.result in
    let so = at-proc s procs c.loop-number.number one c.loop-number.made c.loop-number.next c.loop-number.invariant c.loop-number-test.true c.index-procs-number.is in
    record { room = proc-room s procs one (drop (c.loop-number.number + 1) procs) c.loop-number.number c.loop-number.made c.loop-number.next so }

pub returns-in_err-done-clause-stops : goal.returns-in_err-done-clause-stops
returns-in_err-done-clause-stops c =
    let s = c.args.context.now.setting.now in
    let procs = c.args.procs.now in
    let one = c.index-procs-number.result in
    let so = at-proc s procs c.loop-number.number one c.loop-number.made c.loop-number.next c.loop-number.invariant c.loop-number-test.true c.index-procs-number.is in
    passed-on _ _ _ c.from_residual.ensures.1 (so_far-stop s procs one (drop (c.loop-number.number + 1) procs) c.loop-number.number c.loop-number.made c.loop-number.next c.in_err-done.field-0.0 so c.in_err-done.ensures.stops)

pub loop-number-preserved : goal.loop-number-preserved
loop-number-preserved c =
    let s = c.args.context.now.setting.now in
    let procs = c.args.procs.now in
    let one = c.index-procs-number.result in
    let so = at-proc s procs c.loop-number.number one c.loop-number.made c.loop-number.next c.loop-number.invariant c.loop-number-test.true c.index-procs-number.is in
    so_far-more s procs one (drop (c.loop-number.number + 1) procs) c.loop-number.number c.loop-number.made c.push.new.self c.in_ok-done.done c.loop-number.next c.procedure.new.next so c.in_ok-done.ensures.ok c.in_ok-push.ensures.ok

pub returns-clause-ok : goal.returns-clause-ok
returns-clause-ok c = so_far-all c.args.context.now.setting.now c.args.procs.now c.loop-number.number c.loop-number.made c.loop-number.next c.loop-number.invariant c.loop-number-test.false
