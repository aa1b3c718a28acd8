use Rattle.std.proofs.Common.{◌≡◌, ◌++◌, drop}
use Rattle.luo_types.specs.inner.SitesFound.{sites_at}
use Rattle.luo_types.proofs.procedure_sites.push_sites.Given as goal

abbrev pub invariant-loop-place : goal.invariant-loop-place
invariant-loop-place l = l.sites ++ sites_at l.caller l.place (drop l.place l.nodes) ≡ l.initial.sites ++ sites_at l.caller 0 l.nodes
