use Rattle.std.proofs.Common.{◌+◌, ◌-◌, ℕ, suc, List, [], length, slice_index_or, sym, ◌∙◌, ap, subst, arith}
use Rattle.luo_model.specs.Program.{shape_of}
use Rattle.luo_model.specs.View.{plain_of}
use Rattle.luo_places.specs.Tails.{tail_of}
use Rattle.luo_rank.specs.inner.Lookup.{top_of, IsRow, AreRows}
use Rattle.luo_rank.proofs.StepLemmas.{top_few}
use Rattle.luo_rank.proofs.MadeLemmas.{all_none, all_more, all_done, row_behind, spread_on}
use Rattle.luo_rank.proofs.rests.rows_of.Goals as goal

pub overflow_add-done-end : goal.overflow_add-done-end
overflow_add-done-end c = omega (arith, c.top-most.ensures, top_few c.args.tables.now c.requires.tables c.args.x)

pub loop-done-init : goal.loop-done-init
loop-done-init c = subst (λ (r : List (List ℕ)). AreRows c.args.tables.now c.args.x 0 r) (sym c.new-rows.ensures) (all_none c.args.tables.now c.args.x)

pub row_of-requires-clause-spread : goal.row_of-requires-clause-spread
row_of-requires-clause-spread c = spread_on (tail_of (shape_of (plain_of c.args.tables.now.program) c.args.x)) (c.top-most.result - c.loop-done.done) c.requires.spread

pub row_of-requires-clause-behind : goal.row_of-requires-clause-behind
row_of-requires-clause-behind c =
    subst (λ m. IsRow c.args.tables.now c.args.x (m - c.loop-done.done + 1) c.last_row.result.now) (sym c.top-most.ensures)
    (row_behind c.args.tables.now c.args.x c.loop-done.done c.last_row.result.now c.loop-done.rows c.loop-done.invariant (omega (arith, c.loop-done-test.true, c.top-most.ensures))
    (c.last_row.ensures ∙ ap (λ (r : List (List ℕ)). slice_index_or r (length r - 1) []) c.as_slice.ensures))

pub loop-done-preserved : goal.loop-done-preserved
loop-done-preserved c = all_more c.args.tables.now c.args.x c.loop-done.done c.in_ok-row.row c.loop-done.rows c.push.new.self c.loop-done.invariant c.in_ok-push.ensures.ok
    (subst (λ m. IsRow c.args.tables.now c.args.x (m - c.loop-done.done) c.in_ok-row.row) c.top-most.ensures c.in_ok-row.ensures)

pub returns : goal.returns
returns c = all_done c.args.tables.now c.args.x c.loop-done.done (suc (top_of (shape_of (plain_of c.args.tables.now.program) c.args.x) c.args.tables.now.last)) c.loop-done.rows (omega (arith, c.loop-done-test.false, c.loop-done.auto.done-end, c.top-most.ensures)) c.loop-done.invariant
