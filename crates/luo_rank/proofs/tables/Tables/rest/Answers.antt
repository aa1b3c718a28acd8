use Rattle.std.proofs.Common.{ℕ, List, sym, subst, arith}
use Rattle.luo_rank.specs.inner.Lookup.{IsRow, AreRests}
use Rattle.luo_rank.proofs.MadeLemmas.{row_there}
use Rattle.luo_rank.proofs.tables.Tables.rest.Goals as goal

pub overflow_sub-at : goal.overflow_sub-at
overflow_sub-at c = omega (arith, (row_there c.args.self.now c.args.x c.args.f c.rows-all.result.now (subst (AreRests c.args.self.now c.args.x) (sym c.rows-all.ensures) (c.requires.tables.rests c.args.x c.requires.node)) c.requires.spread c.requires.within).0)

pub overflow_sub-at-2 : goal.overflow_sub-at-2
overflow_sub-at-2 c = omega (arith, (row_there c.args.self.now c.args.x c.args.f c.rows-all.result.now (subst (AreRests c.args.self.now c.args.x) (sym c.rows-all.ensures) (c.requires.tables.rests c.args.x c.requires.node)) c.requires.spread c.requires.within).0)

pub nth-requires : goal.nth-requires
nth-requires c = omega (arith, (row_there c.args.self.now c.args.x c.args.f c.rows-all.result.now (subst (AreRests c.args.self.now c.args.x) (sym c.rows-all.ensures) (c.requires.tables.rests c.args.x c.requires.node)) c.requires.spread c.requires.within).0)

pub returns : goal.returns
returns c = subst (λ (r : List ℕ). IsRow c.args.self.now c.args.x c.args.f r) (sym c.nth.ensures)
    (row_there c.args.self.now c.args.x c.args.f c.rows-all.result.now (subst (AreRests c.args.self.now c.args.x) (sym c.rows-all.ensures) (c.requires.tables.rests c.args.x c.requires.node)) c.requires.spread c.requires.within).1
