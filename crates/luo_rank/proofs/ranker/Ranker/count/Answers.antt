use Rattle.std.proofs.Common.{sym, ap, subst}
use Rattle.luo_model.specs.View.{plain_of}
use Rattle.luo_model.specs.Tables.{IsCount}
use Rattle.luo_rank.specs.Ranked.{Ranked}
use Rattle.luo_rank.proofs.RankerLemmas.{looks_small, looks_count}
use Rattle.luo_rank.proofs.ranker.Ranker.count.Goals as goal

pub returns-clause-count : goal.returns-clause-count
returns-clause-count c =
    subst (λ m. IsCount (plain_of c.args.self.now.program) c.args.self.now.node c.args.self.now.size m) (sym (ap (λ (r : Ranked). r.count) c.self.view_is))
    (looks_count c.self.inside.tables c.self.inside.labels c.self.inside.node c.self.inside.count c.self.invariant c.args.self.now c.self.view_is)

pub returns-clause-small : goal.returns-clause-small
returns-clause-small c = looks_small c.self.inside.tables c.self.inside.labels c.self.inside.node c.self.inside.count c.self.invariant
