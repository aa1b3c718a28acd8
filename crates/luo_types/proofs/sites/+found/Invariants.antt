use Rattle.std.proofs.Common.{drop}
use Rattle.luo_model.specs.Scopes.Stands.{stands}
use Rattle.luo_rules.specs.Settings.{shape_at, types_of}
use Rattle.luo_types.proofs.SitesSoFar.{ItemsSoFar, FoundSoFar}
use Rattle.luo_types.proofs.sites.+found.Given as goal

abbrev pub invariant-items-loop-one : goal.invariant-items-loop-one
invariant-items-loop-one l = ItemsSoFar (types_of l.setting) l.vars l.items (drop l.one-index l.items) l.initial.found l.found

abbrev pub invariant-arms-loop-place : goal.invariant-arms-loop-place
invariant-arms-loop-place l =
    let all = stands l.on (shape_at l.setting l.on.node) in
    FoundSoFar (types_of l.setting) all (drop l.place all) l.arms (drop l.place l.arms) l.initial.found l.found
