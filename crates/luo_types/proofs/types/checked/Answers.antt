use Rattle.std.proofs.Common.{map, sym, ◌∙◌, flat_map, IfErr, ap, subst, rules}
use Rattle.luo_source.specs.View.{type_def_of, proc_def_of, plain_source}
use Rattle.luo_types.specs.inner.Held.{copies_of}
use Rattle.luo_rules.specs.Breaches.{StopsAt}
use Rattle.luo_rules.specs.Definitions.{values}
use Rattle.luo_value_types.proofs.StopLemmas.{none-append}
use Rattle.luo_types.proofs.TypesLemmas.{copies_same, known_names, known_breaches, known_below, few}
use Rattle.luo_types.proofs.types.checked.Goals as goal

pub new-requires-clause-few : goal.new-requires-clause-few
new-requires-clause-few c = (few c.args.source.now c.in_ok-defs.defs.items c.requires (c.in_ok-defs.ensures ∙ ap (flat_map copies_of) c.as_slice-types.ensures ∙ copies_same c.args.source.now.types)).nodes

pub new-requires-clause-below : goal.new-requires-clause-below
new-requires-clause-below c =
    let defs = c.in_ok-defs.ensures ∙ ap (flat_map copies_of) c.as_slice-types.ensures ∙ copies_same c.args.source.now.types in
    let measures = c.in_ok-measured.ensures ∙ ap (flat_map values) c.as_slice.ensures in
    known_below (plain_source c.args.source.now) c.in_ok-defs.defs.items c.in_ok-names.names defs
    (known_names (plain_source c.args.source.now) c.as_slice-2.result.now c.as_slice-3.result.now _ c.in_ok-names.names c.in_ok-names.ensures (c.as_slice-2.ensures.value ∙ defs) (c.as_slice-3.ensures.value ∙ measures) (ap (map proc_def_of) c.as_slice-4.ensures))

pub returns-in_err-check_all-clause-stops : goal.returns-in_err-check_all-clause-stops
returns-in_err-check_all-clause-stops c =
    let defs = c.in_ok-defs.ensures ∙ ap (flat_map copies_of) c.as_slice-types.ensures ∙ copies_same c.args.source.now.types in
    let measures = c.in_ok-measured.ensures ∙ ap (flat_map values) c.as_slice.ensures in
    subst (λ bs. IfErr c.from_residual-in_err-check_all.result (λ s. StopsAt bs s))
    (known_breaches (plain_source c.args.source.now) (map type_def_of c.as_slice-types.result.now) c.as_slice-5.result.now c.as_slice-6.result.now c.in_ok-names.names (ap (map type_def_of) c.as_slice-types.ensures) (c.as_slice-5.ensures.value ∙ defs) (c.as_slice-6.ensures.value ∙ measures)
    (known_names (plain_source c.args.source.now) c.as_slice-2.result.now c.as_slice-3.result.now _ c.in_ok-names.names c.in_ok-names.ensures (c.as_slice-2.ensures.value ∙ defs) (c.as_slice-3.ensures.value ∙ measures) (ap (map proc_def_of) c.as_slice-4.ensures)))
    (search rules)

pub returns-clause-ok : goal.returns-clause-ok
returns-clause-ok c =
    let defs = c.in_ok-defs.ensures ∙ ap (flat_map copies_of) c.as_slice-types.ensures ∙ copies_same c.args.source.now.types in
    let measures = c.in_ok-measured.ensures ∙ ap (flat_map values) c.as_slice.ensures in
    sym
    (known_breaches (plain_source c.args.source.now) (map type_def_of c.as_slice-types.result.now) c.as_slice-5.result.now c.as_slice-6.result.now c.in_ok-names.names (ap (map type_def_of) c.as_slice-types.ensures) (c.as_slice-5.ensures.value ∙ defs) (c.as_slice-6.ensures.value ∙ measures)
    (known_names (plain_source c.args.source.now) c.as_slice-2.result.now c.as_slice-3.result.now _ c.in_ok-names.names c.in_ok-names.ensures (c.as_slice-2.ensures.value ∙ defs) (c.as_slice-3.ensures.value ∙ measures) (ap (map proc_def_of) c.as_slice-4.ensures)))
    ∙ none-append _ _ c.in_ok-check_all.ensures.definitions c.in_ok-check_all.ensures.measures

pub returns-clause-names : goal.returns-clause-names
returns-clause-names c =
    let defs = c.in_ok-defs.ensures ∙ ap (flat_map copies_of) c.as_slice-types.ensures ∙ copies_same c.args.source.now.types in
    let measures = c.in_ok-measured.ensures ∙ ap (flat_map values) c.as_slice.ensures in
    c.in_ok-scheme.ensures.names
    ∙ known_names (plain_source c.args.source.now) c.as_slice-2.result.now c.as_slice-3.result.now _ c.in_ok-names.names c.in_ok-names.ensures (c.as_slice-2.ensures.value ∙ defs) (c.as_slice-3.ensures.value ∙ measures) (ap (map proc_def_of) c.as_slice-4.ensures)

pub returns-clause-defs : goal.returns-clause-defs
returns-clause-defs c = c.in_ok-scheme.ensures.defs ∙ c.in_ok-defs.ensures ∙ ap (flat_map copies_of) c.as_slice-types.ensures ∙ copies_same c.args.source.now.types
