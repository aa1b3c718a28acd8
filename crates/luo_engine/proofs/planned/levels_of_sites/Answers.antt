use Rattle.luo_engine.proofs.SitesMade.{levels_more}
use Rattle.luo_engine.proofs.planned.levels_of_sites.Goals as goal

pub loop-i-preserved : goal.loop-i-preserved
loop-i-preserved c = levels_more c.args.ranks.now c.args.plan.now.program c.loop-i.copied c.push.new.self c.loop-i.i c.site_level.result c.requires.same c.loop-i.invariant c.in_ok-push.ensures.ok c.site_level.ensures
