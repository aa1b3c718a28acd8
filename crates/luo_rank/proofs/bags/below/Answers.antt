use Rattle.std.proofs.Common.{sym, ◌∙◌, subst}
use Rattle.luo_places.specs.Tails.{behind_some, tail_of}
use Rattle.luo_rank.specs.inner.Lookup.{IsBagTail}
use Rattle.luo_rank.proofs.MadeLemmas.{below_is, bag_on, bag_back, default_bag}
use Rattle.luo_rank.proofs.bags.below.Goals as goal

pub ways_at-ways-requires-clause-bag : goal.ways_at-ways-requires-clause-bag
ways_at-ways-requires-clause-bag c = bag_back c.in-Coll.kind c.in-Coll.part.node c.in-Coll.low c.in-Coll.high c.args.f (subst (λ s. IsBagTail (behind_some (tail_of s) c.args.f)) (sym c.shape.ensures ∙ c.in-Coll.is) c.requires.bag)

pub plane-requires-clause-bag : goal.plane-requires-clause-bag
plane-requires-clause-bag c =
    let is = sym c.shape.ensures ∙ c.in-Coll.is in
    subst (λ s. IsBagTail (tail_of s)) (sym is) (bag_on c.in-Coll.kind c.in-Coll.part.node c.in-Coll.low c.in-Coll.high 0 (bag_back c.in-Coll.kind c.in-Coll.part.node c.in-Coll.low c.in-Coll.high c.args.f (subst (λ s. IsBagTail (behind_some (tail_of s) c.args.f)) is c.requires.bag)))

pub returns-in-Coll : goal.returns-in-Coll
returns-in-Coll c =
    let is = sym c.shape.ensures ∙ c.in-Coll.is in
    below_is c.args.tables.now c.requires.tables.base c.args.x c.args.f c.args.n c.args.d c.args.i c.saturating_sub-least.result c.most_left.result c.copies_within.result c.ways_at-ways.result c.plane.result.now c.in-Coll.kind c.in-Coll.part c.in-Coll.low c.in-Coll.high is c.requires.bag
    c.requires.some c.requires.within c.requires.size (c.ways_at-ways.ensures.ways c.requires.some) c.plane.ensures c.saturating_sub-least.ensures c.most_left.ensures c.copies_within.ensures

pub returns-in_default : goal.returns-in_default
returns-in_default c = absurd (default_bag c.shape.result.now _ c.args.f c.shape.ensures (λ kind part low high e. c.in_default.not-Coll kind part low high e) c.requires.bag)
