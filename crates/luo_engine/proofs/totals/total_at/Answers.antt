use Rattle.std.proofs.Common.{◌∙◌, sym, ap, subst, Some}
use Rattle.luo_model.specs.View.{plain_of}
use Rattle.luo_model.specs.Tables.{IsTotal}
use Rattle.luo_engine.specs.inner.Filled.{NumbersTo}
use Rattle.luo_finite.specs.Listing.{In}
use Rattle.std.proofs.lemmas.Option.{get_or_from_slice_get}
use Rattle.luo_engine.proofs.TotalPlan.{scopes_there, scopes_to, walk_is, body_totals, body_here, body_asked, walks_more, walks_kept}
use Rattle.luo_engine.proofs.totals.total_at.Goals as goal

pub scopes_sum-requires-clause-there : goal.scopes_sum-requires-clause-there
scopes_sum-requires-clause-there c = λ z h. scopes_there c.args.plan.now c.args.sites.now c.requires.fixed c.args.k c.site_at-i.result c.site_at-i.ensures c.in-Scopes.scopes _ _ c.as_slice.result.now (c.task_of.ensures ∙ ap Some c.in-Scopes.is) c.requires.counted.wide c.requires.totalled.wide c.as_slice.ensures z (subst (λ l. In z l) c.as_slice-in-Scopes.ensures h)

pub returns-in-Scopes-clause-number : goal.returns-in-Scopes-clause-number
returns-in-Scopes-clause-number c = scopes_to c.args.plan.now c.args.sites.now c.requires.fixed c.args.k c.site_at-i.result c.site_at-i.ensures c.args.counts.now c.args.totals.now c.args.n c.requires.counted c.requires.totalled c.in-Scopes.scopes c.scopes_sum.result c.universe.result c.factors.result.now c.as_slice.result.now c.as_slice-in-Scopes.result.now (c.task_of.ensures ∙ ap Some c.in-Scopes.is) c.universe.ensures c.factors.ensures c.as_slice.ensures c.as_slice-in-Scopes.ensures c.scopes_sum.ensures

pub returns-in-Scopes-clause-walks : goal.returns-in-Scopes-clause-walks
returns-in-Scopes-clause-walks c = λ small. walks_kept c.args.plan.now c.args.sites.now c.requires.fixed c.args.k c.site_at-i.result c.site_at-i.ensures c.args.plan.now.reach c.args.n c.args.walks.now.items c.in-Scopes.scopes (c.task_of.ensures ∙ ap Some c.in-Scopes.is) c.requires.walks

pub walk_total-requires-clause-walk : goal.walk_total-requires-clause-walk
walk_total-requires-clause-walk c = walk_is c.args.plan.now c.args.sites.now c.requires.fixed c.args.k c.site_at-i.result c.site_at-i.ensures c.in-Walk.collection c.in-Walk.body (c.task_of.ensures ∙ ap Some c.in-Walk.is)

pub walk_total-requires-clause-totals : goal.walk_total-requires-clause-totals
walk_total-requires-clause-totals c = body_totals c.args.plan.now c.args.sites.now c.requires.fixed c.args.k c.site_at-i.result c.site_at-i.ensures c.in-Walk.collection c.in-Walk.body (c.task_of.ensures ∙ ap Some c.in-Walk.is) c.args.totals.now c.args.n c.requires.totalled

pub walk_total-requires-clause-one : goal.walk_total-requires-clause-one
walk_total-requires-clause-one c = λ o. body_here c.args.plan.now c.args.sites.now c.requires.fixed c.args.k c.site_at-i.result c.site_at-i.ensures c.in-Walk.collection c.in-Walk.body (c.task_of.ensures ∙ ap Some c.in-Walk.is) c.args.totals.now c.args.n c.requires.totalled o

pub walk_total-requires-clause-asks : goal.walk_total-requires-clause-asks
walk_total-requires-clause-asks c = body_asked c.args.plan.now c.args.sites.now c.requires.fixed c.args.k c.site_at-i.result c.site_at-i.ensures c.in-Walk.collection c.in-Walk.body (c.task_of.ensures ∙ ap Some c.in-Walk.is) c.args.plan.now.reach c.args.n c.args.walks.now.items c.requires.walks

pub returns-in-Walk-clause-number : goal.returns-in-Walk-clause-number
returns-in-Walk-clause-number c = subst (λ j. NumbersTo (IsTotal (plain_of c.args.plan.now.program)) j c.args.n c.walk_total.result) (sym (get_or_from_slice_get c.args.sites.now.order c.args.k c.site_at-i.result 0 c.site_at-i.ensures)) c.walk_total.ensures.total

pub returns-in-Walk-clause-walks : goal.returns-in-Walk-clause-walks
returns-in-Walk-clause-walks c = λ small. walks_more c.args.plan.now c.args.sites.now c.requires.fixed c.args.k c.site_at-i.result c.site_at-i.ensures c.in-Walk.collection c.in-Walk.body (c.task_of.ensures ∙ ap Some c.in-Walk.is) c.args.plan.now.reach c.args.n c.args.walks.now.items c.walk_total.new.walks.items c.requires.walks (c.walk_total.ensures.walks small) c.walk_total.ensures.others
