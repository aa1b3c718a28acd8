use Rattle.std.proofs.Common.{◌≡◌, sym, ◌∙◌, true, false}
use Rattle.luo_model.specs.View.{plain_of}
use Rattle.luo_rank.specs.inner.Lookup.{tail_at}
use Rattle.luo_rank.proofs.MadeLemmas.{bag_left}
use Rattle.luo_rank.proofs.firsts.first_of.Goals as goal

pub bag_first-requires-clause-bag : goal.bag_first-requires-clause-bag
bag_first-requires-clause-bag c = c.is_bag.ensures.bag c.if-is_bag.true

pub bag_first-requires-clause-some : goal.bag_first-requires-clause-some
bag_first-requires-clause-some c = bag_left (tail_at (plain_of c.args.tables.now.program) c.args.x c.args.f) c.args.n (c.is_bag.ensures.bag c.if-is_bag.true) c.requires.left

pub share_first-requires-clause-spread : goal.share_first-requires-clause-spread
share_first-requires-clause-spread c = c.is_bag.ensures.spread (λ e. let o : false ≡ true = sym c.if-is_bag.false ∙ e in cc)
