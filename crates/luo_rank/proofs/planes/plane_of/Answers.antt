use Rattle.std.proofs.Common.{ℕ, List, slice_index, sym, subst, arith}
use Rattle.luo_rank.specs.inner.Lookup.{ArePlaneRows}
use Rattle.luo_rank.proofs.MadeLemmas.{rows_none, rows_more, rows_all}
use Rattle.luo_rank.proofs.planes.plane_of.Goals as goal

pub loop-k-init : goal.loop-k-init
loop-k-init c = subst (λ (r : List (List ℕ)). ArePlaneRows c.args.kind (slice_index c.args.counts.now) c.args.d c.args.last 0 r) (sym c.new-rows.ensures) (rows_none c.args.kind (slice_index c.args.counts.now) c.args.d c.args.last)

pub loop-k-preserved : goal.loop-k-preserved
loop-k-preserved c = rows_more c.args.kind (slice_index c.args.counts.now) c.args.d c.args.last c.loop-k.k c.in_ok-row.row c.loop-k.rows c.push.new.self c.loop-k.invariant c.in_ok-push.ensures.ok c.in_ok-row.ensures

pub returns : goal.returns
returns c = rows_all c.args.kind (slice_index c.args.counts.now) c.args.d c.args.last c.loop-k.k c.loop-k.rows (omega (arith, c.loop-k-test.false, c.loop-k.auto.k-end)) c.loop-k.invariant
