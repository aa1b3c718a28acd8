use Rattle.std.proofs.Common.{◌≤◌, map, sum_by, ap, ◌∙◌, sym, subst}
use Rattle.luo_model.specs.View.{procedure_of}
use Rattle.luo_source.specs.View.{plain_source}
use Rattle.luo_rules.specs.Settings.{types_of}
use Rattle.luo_types.specs.inner.SitesFound.{sites_in, procedure_walks, procedure_items}
use Rattle.luo_types.proofs.CheckedParts.{few-items, too-many, is-program, is-checked}
use Rattle.luo_types.proofs.checking.decide.Goals as goal

pub sites_of-requires : goal.sites_of-requires
sites_of-requires c =
    let t = c.in_ok-setting.field-0 in
    subst (λ ps. sum_by procedure_items (map procedure_of ps) ≤ 1073741824) (sym c.as_slice.ensures) (few-items (plain_source c.args.source.now) t c.in_ok-setting.ensures.ok c.in_default.ensures.none)

pub returns-then-walks-gt-WALK_LIMIT-clause-err : goal.returns-then-walks-gt-WALK_LIMIT-clause-err
returns-then-walks-gt-WALK_LIMIT-clause-err c =
    let t = c.in_ok-setting.field-0 in
    let within = c.in_default.ensures.none in
    let walks = c.in_ok-sites.ensures.walks ∙ ap (λ ps. sum_by (procedure_walks (types_of t.setting)) (map procedure_of ps)) c.as_slice.ensures in
    (within, too-many (plain_source c.args.source.now) t c.in_ok-setting.ensures.ok c.requires within c.in_ok-sites.walks walks c.if-walks-gt-WALK_LIMIT.true)

pub invariant_of-result : goal.invariant_of-result
invariant_of-result c =
    let t = c.in_ok-setting.field-0 in
    let walks = c.in_ok-sites.ensures.walks ∙ ap (λ ps. sum_by (procedure_walks (types_of t.setting)) (map procedure_of ps)) c.as_slice.ensures in
    let sites = c.in_ok-sites.ensures.sites ∙ ap (λ ps. sites_in (types_of t.setting) 0 (map procedure_of ps)) c.as_slice.ensures in
    is-program (plain_source c.args.source.now) t c.in_ok-setting.ensures.ok c.requires c.in_default.ensures.none c.in_ok-sites.walks walks c.if-walks-gt-WALK_LIMIT.false c.in_ok-sites.sites sites

pub returns-clause-ok : goal.returns-clause-ok
returns-clause-ok c =
    let t = c.in_ok-setting.field-0 in
    let walks = c.in_ok-sites.ensures.walks ∙ ap (λ ps. sum_by (procedure_walks (types_of t.setting)) (map procedure_of ps)) c.as_slice.ensures in
    let sites = c.in_ok-sites.ensures.sites ∙ ap (λ ps. sites_in (types_of t.setting) 0 (map procedure_of ps)) c.as_slice.ensures in
    is-checked (plain_source c.args.source.now) t c.in_ok-setting.ensures.ok c.requires c.in_default.ensures.none c.in_ok-sites.walks walks c.if-walks-gt-WALK_LIMIT.false c.in_ok-sites.sites sites
