use Rattle.std.proofs.Common.{sym, ◌∙◌, subst}
use Rattle.luo_places.specs.Tails.{behind_some, tail_of, IsSpread}
use Rattle.luo_rank.specs.inner.Lookup.{IsBagTail}
use Rattle.luo_rank.proofs.MadeLemmas.{bag_on, spread_kind, default_spread}
use Rattle.luo_rank.proofs.tables.Tables.is_bag.Goals as goal

pub returns-in-Coll-clause-bag : goal.returns-in-Coll-clause-bag
returns-in-Coll-clause-bag c h = subst (λ v. IsBagTail (behind_some (tail_of v) c.args.f)) (sym (sym c.shape.ensures ∙ c.in-Coll.is)) (bag_on c.in-Coll.kind c.in-Coll.part.node c.in-Coll.low c.in-Coll.high c.args.f (c.is_bag.ensures.0 h))

pub returns-in-Coll-clause-spread : goal.returns-in-Coll-clause-spread
returns-in-Coll-clause-spread c h = subst (λ v. IsSpread (behind_some (tail_of v) c.args.f)) (sym (sym c.shape.ensures ∙ c.in-Coll.is)) (spread_kind c.in-Coll.kind c.in-Coll.part.node c.in-Coll.low c.in-Coll.high c.args.f (λ b. h (c.is_bag.ensures.1 b)))

pub returns-in_default : goal.returns-in_default
returns-in_default c = record {
  bag = λ h. absurd (cc);
  spread = λ h. default_spread c.shape.result.now _ c.args.f c.shape.ensures (λ kind part low high e. c.in_default.not-Coll kind part low high e);
}
