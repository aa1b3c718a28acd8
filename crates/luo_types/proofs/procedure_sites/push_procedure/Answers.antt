use Rattle.std.proofs.Common.{◌∙◌}
use Rattle.luo_rules.specs.Settings.{types_of}
use Rattle.luo_types.proofs.SitesInOrder.{whole-few}
use Rattle.luo_types.proofs.procedure_sites.push_procedure.Goals as goal

pub push_sites-requires : goal.push_sites-requires
push_sites-requires c =
    whole-few (types_of c.args.setting.now) c.args.proc.now c.as_slice.result.now c.as_slice-2.result.now (record { nodes = c.new.result; walks = 0 }) c.items.new.found c.push.new.self c.as_slice-3.result.now
    c.requires (c.as_slice.ensures ∙ c.in_ok-vars.ensures) c.as_slice-2.ensures c.new.ensures c.in_ok-items.ensures c.in_ok-push.ensures.ok c.as_slice-3.ensures
