use Rattle.std.proofs.Common.{sym, ap, subst, ◌≡◌, ◌<◌, ◌-◌, ◌∙◌}
use Rattle.luo_model.specs.View.{plain_of}
use Rattle.luo_places.specs.Tails.{first_node}
use Rattle.luo_rank.specs.inner.Lookup.{entry_of, tail_at, below_of, IsFirstOf}
use Rattle.luo_rank.proofs.BagLemmas.{bag_is_first, exact_below}
use Rattle.luo_rank.proofs.bags.bag_first.Goals as goal

pub returns-clause-first : goal.returns-clause-first
returns-clause-first c =
    let t = c.args.tables.now in
    let d = c.size_of_first-size.result in
    let i = c.place_of_first-place.result in
    let all : c.entry-all.result ≡ entry_of t.counts (first_node (tail_at (plain_of t.program) c.args.x c.args.f)) d = c.entry-all.ensures ∙ ap (λ y. entry_of t.counts y d) c.first_node.ensures.first in
    let from = c.place_of_first-place.ensures.from in
    let exact : c.below.result ≡ below_of t c.args.x c.args.f c.args.n d i = exact_below (below_of t c.args.x c.args.f c.args.n d i) c.below.result c.args.rank c.below.ensures from c.requires.small in
    subst (λ v. IsFirstOf t c.args.x c.args.f c.args.n c.args.rank d 0 i (c.args.rank - v)) (sym exact)
    (bag_is_first t c.requires.tables.base c.args.x c.args.f c.args.n c.args.rank c.requires.bag c.requires.size c.requires.some c.requires.rank d i c.size_of_first-size.ensures.within (subst (λ v. i < v) all c.place_of_first-place.ensures.there) from c.place_of_first-place.ensures.to)
