use Rattle.std.proofs.Common.{subst, sym}
use Rattle.luo_model.specs.View.{Held, plain_of}
use Rattle.luo_answer.specs.Commands.Run.{run_on}
use Rattle.luo_answer.specs.inner.Found.{IsThere}
use Rattle.luo_answer.specs.inner.Passes.{Passes, itself}
use Rattle.luo_answer.proofs.StepLemmas.{go, stop}
use Rattle.luo_answer.proofs.commands.run.run_named.Goals as goal

pub run_on-requires-clause-there : goal.run_on-requires-clause-there
run_on-requires-clause-there c =
    let named = c.in_ok-place.ensures.passes.answers.1 in
    subst (λ (h : Held). IsThere (plain_of h) c.in_ok-place.place) (sym c.in_ok-ranks.ensures.same) (named.0, named.1)

pub returns-in_err-ranks : goal.returns-in_err-ranks
returns-in_err-ranks c = stop _ c.in_err-ranks.ensures.passes c.from_residual.ensures.1

pub returns-in_err-place : goal.returns-in_err-place
returns-in_err-place c = go _ c.in_ok-ranks.ensures.passes (stop _ c.in_err-place.ensures.passes c.from_residual-in_err-place.ensures.1)

pub returns : goal.returns
returns c =
    go _ c.in_ok-ranks.ensures.passes (go _ c.in_ok-place.ensures.passes
    (subst (λ (h : Held). Passes itself (run_on (plain_of h) c.args.structure.now c.in_ok-place.place) c.run_on.result) c.in_ok-ranks.ensures.same c.run_on.ensures))
