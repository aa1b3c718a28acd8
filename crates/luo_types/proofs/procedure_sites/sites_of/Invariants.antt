use Rattle.std.proofs.Common.{drop}
use Rattle.luo_rules.specs.Settings.{types_of}
use Rattle.luo_types.proofs.SitesInOrder.{ProcsFound}
use Rattle.luo_types.proofs.procedure_sites.sites_of.Given as goal

abbrev pub invariant-loop-caller : goal.invariant-loop-caller
invariant-loop-caller l = ProcsFound (types_of l.setting) l.procs (drop l.caller l.procs) l.caller l.sites l.walks
