use Rattle.std.proofs.Common.{◌≡◌, suc, sym, ◌∙◌, true, false}
use Rattle.luo_model.specs.Program.{shape_of}
use Rattle.luo_model.specs.View.{plain_of}
use Rattle.luo_places.specs.Tails.{tail_of}
use Rattle.luo_rank.specs.inner.Lookup.{top_of, AreRows, AreRests}
use Rattle.luo_rank.proofs.MadeLemmas.{ok_into, bag_or_spread}
use Rattle.luo_rank.proofs.rests.rests_of.Goals as goal

pub returns-then-is_bag : goal.returns-then-is_bag
returns-then-is_bag c = λ s. absurd (bag_or_spread (tail_of (shape_of (plain_of c.args.tables.now.program) c.args.x)) (c.is_bag.ensures.bag c.if-is_bag.true) s)

pub rows_of-requires-clause-spread : goal.rows_of-requires-clause-spread
rows_of-requires-clause-spread c = c.is_bag.ensures.spread (λ e. let o : false ≡ true = sym c.if-is_bag.false ∙ e in cc)

pub returns-else-is_bag : goal.returns-else-is_bag
returns-else-is_bag c = ok_into c.rows_of.result (AreRows c.args.tables.now c.args.x (suc (top_of (shape_of (plain_of c.args.tables.now.program) c.args.x) c.args.tables.now.last))) (AreRests c.args.tables.now c.args.x) (λ rows r s. r) c.rows_of.ensures
