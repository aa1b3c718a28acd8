use Rattle.std.proofs.Common.{◌∙◌, ℕ, List, sym, ap, subst}
use Rattle.luo_model.specs.Invariant.{IsProgram}
use Rattle.luo_model.specs.View.{Held, plain_of}
use Rattle.luo_answer.specs.declared.status.Status.TheVariants.{Refused}
use Rattle.luo_answer.specs.Answer.{Refusal}
use Rattle.luo_answer.specs.Commands.Run.{IsProcedureNamed}
use Rattle.luo_answer.specs.WordRefusals.{unknown_line}
use Rattle.luo_answer.proofs.RunLemmas.{place_found, place_missed, node_there}
use Rattle.luo_answer.proofs.steps.structure.procedure_of.Goals as goal

pub returns-in-Some-clause-passes : goal.returns-in-Some-clause-passes
returns-in-Some-clause-passes c =
    let h = c.args.program.now in
    let named : IsProcedureNamed (plain_of h) c.args.name.now c.in-Some.f = subst (λ name. IsProcedureNamed (plain_of h) name c.in-Some.f) c.as_bytes-name.ensures.value
    (place_found h c.as_slice.result.now (c.as_slice.ensures ∙ ap (λ (k : Held). k.procs) c.program.view_is) c.as_bytes-name.result.now c.in-Some.f (sym c.place_of.ensures ∙ c.in-Some.is)) in
    record { answers = ((λ a r. r.0 c.in-Some.f named), named) }

pub returns-in-Some-clause-within : goal.returns-in-Some-clause-within
returns-in-Some-clause-within c =
    let h = c.args.program.now in
    let named = place_found h c.as_slice.result.now (c.as_slice.ensures ∙ ap (λ (k : Held). k.procs) c.program.view_is) c.as_bytes-name.result.now c.in-Some.f (sym c.place_of.ensures ∙ c.in-Some.is) in
    node_there (plain_of h) (subst (λ (k : Held). IsProgram (plain_of k)) c.program.view_is c.program.invariant) c.in-Some.f (named.0, named.1)

pub returns-in-Ok-clause-passes : goal.returns-in-Ok-clause-passes
returns-in-Ok-clause-passes c =
    let h = c.args.program.now in
    let missed = subst (λ (name : List ℕ). (f : ℕ) → IsProcedureNamed (plain_of h) name f → ⊥) c.as_bytes-name.ensures.value
    (place_missed h c.as_slice.result.now (c.as_slice.ensures ∙ ap (λ (k : Held). k.procs) c.program.view_is) c.as_bytes-name.result.now (sym c.place_of.ensures ∙ c.in-None.is)) in
    record { answers = (missed, ap (Refusal Refused) (c.in-Ok.ensures ∙ ap unknown_line c.as_bytes-name.ensures.value)) }
