use Rattle.std.proofs.Common.{ℕ, suc, List, slice_index, sym, subst, arith}
use Rattle.luo_rank.specs.inner.Lookup.{IsCellRow}
use Rattle.luo_rank.proofs.MadeLemmas.{cells_none, cells_more, cells_all}
use Rattle.luo_rank.proofs.planes.row_of.Goals as goal

pub loop-n-init : goal.loop-n-init
loop-n-init c = subst (λ (r : List ℕ). IsCellRow c.args.kind (slice_index c.args.counts.now) c.args.d c.args.k 0 r) (sym c.new-row.ensures) (cells_none c.args.kind (slice_index c.args.counts.now) c.args.d c.args.k)

pub loop-n-preserved : goal.loop-n-preserved
loop-n-preserved c = cells_more c.args.kind (slice_index c.args.counts.now) c.args.d c.args.k c.loop-n.n c.cell-number.result c.loop-n.row c.push.new.self c.loop-n.invariant c.in_ok-push.ensures.ok c.cell-number.ensures

pub returns : goal.returns
returns c = cells_all c.args.kind (slice_index c.args.counts.now) c.args.d c.args.k c.loop-n.n (suc c.args.last) c.loop-n.row (omega (arith, c.loop-n-test.false, c.loop-n.auto.n-end)) c.loop-n.invariant
