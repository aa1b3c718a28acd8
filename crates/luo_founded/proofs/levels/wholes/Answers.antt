use Rattle.std.proofs.Common.{ap, ◌∙◌, length, arith, subst}
use Rattle.luo_model.specs.View.{Held, plain_of}
use Rattle.luo_model.specs.Invariant.{IsProgram}
use Rattle.luo_founded.proofs.LevelLemmas.{zeros_start, round, rounds_end}
use Rattle.luo_founded.proofs.levels.wholes.Goals as goal

pub loop-2-init : goal.loop-2-init
loop-2-init c = zeros_start c.args.program.now (subst (λ (h : Held). IsProgram (plain_of h)) c.program.view_is c.program.invariant) c.as_slice-procs.result.now c.loop.counter c.loop.wholes
    (c.as_slice-procs.ensures ∙ ap (λ (h : Held). h.procs) c.program.view_is) (omega (arith, c.loop-test.false, c.loop.auto.counter-end)) c.loop.invariant

pub loop-2-preserved : goal.loop-2-preserved
loop-2-preserved c = round c.args.program.now (subst (λ (h : Held). IsProgram (plain_of h)) c.program.view_is c.program.invariant) c.as_slice-procs.result.now c.loop-2.counter c.loop-2.wholes c.as_slice.result.now c.in_ok-wholes.wholes
    (c.as_slice-procs.ensures ∙ ap (λ (h : Held). h.procs) c.program.view_is) c.as_slice.ensures c.loop-2.invariant c.in_ok-wholes.ensures

pub returns-clause-right : goal.returns-clause-right
returns-clause-right c = rounds_end c.args.program.now (subst (λ (h : Held). IsProgram (plain_of h)) c.program.view_is c.program.invariant) c.loop-2.counter c.loop-2.wholes c.requires.no_circle
    (omega (arith, c.loop-2-test.false, ap length (c.as_slice-procs.ensures ∙ ap (λ (h : Held). h.procs) c.program.view_is))) c.loop-2.invariant
