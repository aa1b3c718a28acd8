use Rattle.std.proofs.Common.{arith, sym, ◌∙◌, ap, List, ℕ, take, drop, ◌*◌}
use Rattle.luo_engine.specs.inner.Grid.{row_of}
use Rattle.luo_engine.proofs.inner.Flat.{row-there, row-ends, row-at}
use Rattle.luo_engine.proofs.table.Table.row.Goals as goal

pub overflow_mul-x : goal.overflow_mul-x
overflow_mul-x c = omega (arith, row-ends c.self.inside.rows c.self.inside.sizes c.args.x c.self.inside.cells.items c.args.self.now c.self.invariant c.self.view_is c.requires)

pub part-requires : goal.part-requires
part-requires c = omega (arith, row-ends c.self.inside.rows c.self.inside.sizes c.args.x c.self.inside.cells.items c.args.self.now c.self.invariant c.self.view_is c.requires)

pub returns : goal.returns
returns c =
    let i = c.self.inside in
    c.part.ensures
    ∙ ap (λ (cells : List ℕ). take i.sizes (drop (c.args.x * i.sizes) cells)) c.as_slice-cells.ensures.value
    ∙ sym (row-at i.rows i.sizes c.args.x i.cells.items (row-there i.rows i.sizes c.args.x i.cells.items c.args.self.now c.self.view_is c.requires))
    ∙ ap (λ (t : List (List ℕ)). row_of t c.args.x) c.self.view_is
