use Rattle.std.proofs.Common.{◌∙◌, ℕ, List, sym, ap, subst}
use Rattle.luo_model.specs.Invariant.{IsProgram}
use Rattle.luo_model.specs.View.{Held, plain_of}
use Rattle.luo_answer.specs.declared.status.Status.TheVariants.{Refused}
use Rattle.luo_answer.specs.Answer.{Refusal}
use Rattle.luo_answer.specs.Commands.List.{IsTypeNamed}
use Rattle.luo_answer.specs.WordRefusals.{unknown_line}
use Rattle.luo_answer.proofs.TypeNames.{type_found, type_missed, type_there}
use Rattle.luo_answer.proofs.steps.listing.type_of.Goals as goal

pub returns-in-Some-clause-passes : goal.returns-in-Some-clause-passes
returns-in-Some-clause-passes c =
    let h = c.args.program.now in
    let named : IsTypeNamed (plain_of h) c.args.name.now c.in-Some.node = subst (λ name. IsTypeNamed (plain_of h) name c.in-Some.node) c.as_bytes-name.ensures.value
    (type_found h c.as_slice.result.now (c.as_slice.ensures ∙ ap (λ (k : Held). k.defs) c.program.view_is) c.as_bytes-name.result.now c.in-Some.node (sym c.def_of.ensures ∙ c.in-Some.is)) in
    record { answers = ((λ a r. r.0 c.in-Some.node named), named) }

pub returns-in-Some-clause-there : goal.returns-in-Some-clause-there
returns-in-Some-clause-there c =
    let h = c.args.program.now in
    let named = type_found h c.as_slice.result.now (c.as_slice.ensures ∙ ap (λ (k : Held). k.defs) c.program.view_is) c.as_bytes-name.result.now c.in-Some.node (sym c.def_of.ensures ∙ c.in-Some.is) in
    type_there (plain_of h) (subst (λ (k : Held). IsProgram (plain_of k)) c.program.view_is c.program.invariant) c.as_bytes-name.result.now c.in-Some.node named

pub returns-in-Ok-clause-passes : goal.returns-in-Ok-clause-passes
returns-in-Ok-clause-passes c =
    let h = c.args.program.now in
    let missed = subst (λ (name : List ℕ). (x : ℕ) → IsTypeNamed (plain_of h) name x → ⊥) c.as_bytes-name.ensures.value
    (type_missed h c.as_slice.result.now (c.as_slice.ensures ∙ ap (λ (k : Held). k.defs) c.program.view_is) c.as_bytes-name.result.now (sym c.def_of.ensures ∙ c.in-None.is)) in
    record { answers = (missed, ap (Refusal Refused) (c.in-Ok.ensures ∙ ap unknown_line c.as_bytes-name.ensures.value)) }
