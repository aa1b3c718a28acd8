use Rattle.std.proofs.Common.{arith, subst, List, ℕ, ◌+◌, ◌*◌, slice_set}
use Rattle.luo_engine.specs.inner.Grid.{IsSet, rows_of}
use Rattle.luo_engine.proofs.inner.Flat.{row-there, row-ends, size-there, is_set}
use Rattle.luo_engine.proofs.table.Table.set.Goals as goal

pub overflow_mul-place : goal.overflow_mul-place
overflow_mul-place c = omega (arith, row-ends c.self.inside.rows c.self.inside.sizes c.args.x c.self.inside.cells.items c.args.self.now c.self.invariant c.self.view_is c.requires.row)

pub overflow_add-place : goal.overflow_add-place
overflow_add-place c = omega (arith, row-ends c.self.inside.rows c.self.inside.sizes c.args.x c.self.inside.cells.items c.args.self.now c.self.invariant c.self.view_is c.requires.row, size-there c.self.inside.rows c.self.inside.sizes c.args.x c.args.n c.self.inside.cells.items c.args.self.now c.self.invariant c.self.view_is c.requires.row c.requires.size)

pub index_mut-requires : goal.index_mut-requires
index_mut-requires c = omega (arith, row-ends c.self.inside.rows c.self.inside.sizes c.args.x c.self.inside.cells.items c.args.self.now c.self.invariant c.self.view_is c.requires.row, size-there c.self.inside.rows c.self.inside.sizes c.args.x c.args.n c.self.inside.cells.items c.args.self.now c.self.invariant c.self.view_is c.requires.row c.requires.size)

pub returns : goal.returns
returns c =
    let i = c.self.inside in
    subst (λ (old : List (List ℕ)). IsSet old (rows_of i.rows i.sizes (slice_set i.cells.items (c.args.x * i.sizes + c.args.n) c.args.value)) c.args.x c.args.n c.args.value) c.self.view_is
    (is_set i.rows i.sizes c.args.x c.args.n c.args.value i.cells.items c.self.invariant
    (row-there i.rows i.sizes c.args.x i.cells.items c.args.self.now c.self.view_is c.requires.row)
    (size-there i.rows i.sizes c.args.x c.args.n i.cells.items c.args.self.now c.self.invariant c.self.view_is c.requires.row c.requires.size))
