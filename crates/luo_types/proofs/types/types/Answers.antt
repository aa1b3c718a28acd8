use Rattle.std.proofs.Common.{◌∙◌}
use Rattle.luo_source.specs.View.{plain_source}
use Rattle.luo_types.proofs.TypesLemmas.{few, clean_source, made_setting}
use Rattle.luo_types.proofs.types.types.Goals as goal

pub setting-requires-clause-few : goal.setting-requires-clause-few
setting-requires-clause-few c = (few c.args.source.now _ c.requires c.in_ok-scheme.ensures.defs).nodes

pub setting-requires-clause-small : goal.setting-requires-clause-small
setting-requires-clause-small c = (few c.args.source.now _ c.requires c.in_ok-scheme.ensures.defs).bounds

pub setting-requires-clause-clean : goal.setting-requires-clause-clean
setting-requires-clause-clean c = clean_source (plain_source c.args.source.now) _ _ _ c.in_ok-scheme.ensures.universe c.in_ok-scheme.ensures.names c.in_ok-scheme.ensures.defs c.in_ok-scheme.ensures.ok

pub returns-clause-setting : goal.returns-clause-setting
returns-clause-setting c =
    made_setting c.args.source.now c.in_ok-made.made c.in_ok-scheme.scheme.names c.in_ok-scheme.scheme.defs.items c.as_slice.result.now c.in_ok-scheme.ensures.names c.in_ok-scheme.ensures.defs c.as_slice.ensures
    (c.in_ok-made.ensures.universe ∙ c.in_ok-scheme.ensures.universe) c.in_ok-made.ensures.names c.in_ok-made.ensures.defs c.in_ok-made.ensures.nodes c.in_ok-made.ensures.signatures
