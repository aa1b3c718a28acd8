use Rattle.luo_engine.proofs.SitesMade.{room_there, sites_made}
use Rattle.luo_engine.proofs.planned.sites_of_plan.Goals as goal

pub sites_laid-requires : goal.sites_laid-requires
sites_laid-requires c = room_there c.args.plan.now c.program_of.result.now c.starts_of.result.now c.width-sites.ensures.plan c.program_of.ensures c.starts_of.ensures

pub returns : goal.returns
returns c =
    sites_made c.args.plan.now c.width-sites.ensures.plan c.in_ok-site_ranks.site_ranks c.in_ok-levels.levels c.in_ok-order.order c.as_slice.result.now c.as_slice-2.result.now c.starts_of.result.now c.program_of.result.now c.in_ok-laid.laid
    c.in_ok-site_ranks.ensures c.in_ok-levels.ensures c.as_slice.ensures c.as_slice-2.ensures c.program_of.ensures c.starts_of.ensures c.in_ok-order.ensures c.in_ok-laid.ensures
