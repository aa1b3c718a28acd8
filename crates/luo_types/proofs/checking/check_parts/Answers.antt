use Rattle.std.proofs.Common.{◌≤◌, sym, ◌∙◌, ap, subst, length, sum_by, flat_map, map, arith}
use Rattle.luo_num.specs.declared.limits.TheConstants.{PROCEDURE_LIMIT, STATEMENT_LIMIT}
use Rattle.luo_source.specs.View.{proc_def_of, plain_source}
use Rattle.luo_types.specs.inner.Held.{body_statements_in}
use Rattle.luo_rules.specs.Breaches.{StopsAt}
use Rattle.luo_rules.specs.Meanings.{procedure_use}
use Rattle.luo_rules.specs.Settings.{meant}
use Rattle.luo_value_types.specs.inner.Room.{HasMeasuresWithin, HasFewBranches}
use Rattle.luo_rules.specs.Counted.{body_statements}
use Rattle.luo_rules.specs.Nodes.{setting_of}
use Rattle.luo_rules.specs.Whole.{procs_breaches}
use Rattle.luo_types.proofs.CheckedParts.{measures-within, branches-few, procs-stop, analyses-stop}
use Rattle.luo_types.proofs.LimitLemmas.{sum_map}
use Rattle.std.proofs.lemmas.List.{length-map}
use Rattle.luo_types.proofs.Passing.{passed-on}
use Rattle.luo_rules.proofs.SourceFacts.{within_limits}
use Rattle.luo_types.proofs.checking.check_parts.Goals as goal

pub invariant_of-context : goal.invariant_of-context
invariant_of-context c =
    let source = plain_source c.args.source.now in
    let same = sym c.in_ok-setting.ensures.setting in
    record {
      measures = subst HasMeasuresWithin same (measures-within source c.requires.source);
      branches = subst HasFewBranches same (branches-few source c.requires.source c.requires.within c.in_ok-setting.ensures.ok);
    }

pub procedures-requires : goal.procedures-requires
procedures-requires c =
    let source = plain_source c.args.source.now in
    let limits = within_limits source c.requires.within in
    record {
      statements = subst (λ ps. sum_by (λ p. body_statements_in p.body) ps ≤ STATEMENT_LIMIT) (sym c.as_slice.ensures) (omega (arith, limits.statements, sum_map (λ p. body_statements p.body) proc_def_of c.args.source.now.procs));
      few = subst (λ ps. length ps ≤ PROCEDURE_LIMIT) (sym c.as_slice.ensures) (omega (arith, limits.procedures, length-map c.args.source.now.procs proc_def_of));
    }

pub returns-in_err-procs-clause-stops : goal.returns-in_err-procs-clause-stops
returns-in_err-procs-clause-stops c =
    let at = c.in_err-procs.field-0.0 in
    passed-on _ _ _ c.from_residual-in_err-procs.ensures.1
    (procs-stop (plain_source c.args.source.now) at c.in_ok-setting.ensures.ok
    (subst (λ ps. StopsAt (procs_breaches (setting_of (plain_source c.args.source.now)) 0 (map proc_def_of ps)) at) c.as_slice.ensures (subst (λ s. StopsAt (procs_breaches s 0 (map proc_def_of c.as_slice.result.now)) at) c.in_ok-setting.ensures.setting c.in_err-procs.ensures.stops)))

pub returns-in_err-lines-clause-stops : goal.returns-in_err-lines-clause-stops
returns-in_err-lines-clause-stops c =
    let source = plain_source c.args.source.now in
    let at = c.in_err-lines.field-0.0 in
    let procs = ap (λ s. procs_breaches s 0 source.procs) (sym c.in_ok-setting.ensures.setting) ∙ ap (λ ps. procs_breaches c.in_ok-setting.setting 0 (map proc_def_of ps)) (sym c.as_slice.ensures) ∙ c.in_ok-procs.ensures.ok.unbroken in
    passed-on _ _ _ c.from_residual-in_err-lines.ensures.1
    (analyses-stop source at c.in_ok-setting.ensures.ok procs
    (subst (λ names. StopsAt (flat_map (λ name. procedure_use (meant (setting_of source) name) name) names) at) c.as_slice-2.ensures
    (subst (λ s. StopsAt (flat_map (λ name. procedure_use (meant s name) name) c.as_slice-2.result.now) at) c.in_ok-setting.ensures.setting c.in_err-lines.ensures.stops)))
