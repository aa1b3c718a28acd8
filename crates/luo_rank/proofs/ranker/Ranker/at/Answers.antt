use Rattle.std.proofs.Common.{◌<◌, sym, ap, subst}
use Rattle.luo_finite.specs.Places.{IsPlace}
use Rattle.luo_model.specs.Order.{IsBefore}
use Rattle.luo_model.specs.Structures.{IsStructure}
use Rattle.luo_model.specs.View.{plain_of}
use Rattle.luo_struct.specs.View.{tree_of}
use Rattle.luo_rank.specs.Ranked.{Ranked}
use Rattle.luo_rank.specs.inner.Lookup.{StandsAt}
use Rattle.luo_rank.proofs.MadeLemmas.{ok_into}
use Rattle.luo_rank.proofs.RankerLemmas.{looks_room, looks_rank, looks_place}
use Rattle.luo_rank.proofs.ranker.Ranker.at.Goals as goal

pub structure_at-requires-clause-tables : goal.structure_at-requires-clause-tables
structure_at-requires-clause-tables c = c.self.invariant.looked

pub structure_at-requires-clause-node : goal.structure_at-requires-clause-node
structure_at-requires-clause-node c = c.self.invariant.there

pub structure_at-requires-clause-room : goal.structure_at-requires-clause-room
structure_at-requires-clause-room c = looks_room c.self.inside.tables c.self.inside.labels c.self.inside.node c.self.inside.count c.self.invariant c.as_slice.result.now c.last-size.result c.as_slice.ensures c.last-size.ensures

pub structure_at-requires-clause-rank : goal.structure_at-requires-clause-rank
structure_at-requires-clause-rank c = looks_rank c.self.inside.tables c.self.inside.labels c.self.inside.node c.self.inside.count c.self.invariant c.as_slice.result.now c.last-size.result c.as_slice.ensures c.last-size.ensures c.args.rank
    (subst (λ m. c.args.rank < m) (sym (ap (λ (r : Ranked). r.count) c.self.view_is)) c.requires.rank)

pub returns : goal.returns
returns c = ok_into c.structure_at.result (λ s. StandsAt c.self.inside.tables c.self.inside.node c.as_slice.result.now c.last-size.result c.args.rank (tree_of s)) (λ s. IsPlace (IsStructure (plain_of c.args.self.now.program) c.args.self.now.node c.args.self.now.size) IsBefore c.args.rank (tree_of s))
    (λ s h. looks_place c.self.inside.tables c.self.inside.labels c.self.inside.node c.self.inside.count c.self.invariant c.as_slice.result.now c.last-size.result c.as_slice.ensures c.last-size.ensures c.args.self.now c.self.view_is c.args.rank (tree_of s) h) c.structure_at.ensures
