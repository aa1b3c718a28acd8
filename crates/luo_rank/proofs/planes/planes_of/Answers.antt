use Rattle.std.proofs.Common.{◌-◌, ℕ, suc, List, [], length, slice_index, slice_index_or, sym, ◌∙◌, ap, subst, arith}
use Rattle.luo_rank.specs.inner.Lookup.{ArePlanes}
use Rattle.luo_rank.proofs.MadeLemmas.{planes_none, planes_more, planes_all, planes_last}
use Rattle.luo_rank.proofs.planes.planes_of.Goals as goal

pub loop-d-init : goal.loop-d-init
loop-d-init c = subst (λ (r : List (List (List ℕ))). ArePlanes c.args.kind (slice_index c.args.counts.now) c.args.last 0 r) (sym c.new-planes.ensures) (planes_none c.args.kind (slice_index c.args.counts.now) c.args.last)

pub plane_of-requires-clause-behind : goal.plane_of-requires-clause-behind
plane_of-requires-clause-behind c = λ g. planes_last c.args.kind (slice_index c.args.counts.now) c.args.last c.loop-d.d c.last_plane.result.now c.loop-d.planes c.loop-d.invariant
    (c.last_plane.ensures ∙ ap (λ (r : List (List (List ℕ))). slice_index_or r (length r - 1) []) c.as_slice.ensures) g

pub loop-d-preserved : goal.loop-d-preserved
loop-d-preserved c = planes_more c.args.kind (slice_index c.args.counts.now) c.args.last c.loop-d.d c.in_ok-plane.plane c.loop-d.planes c.push.new.self c.loop-d.invariant c.in_ok-push.ensures.ok c.in_ok-plane.ensures

pub returns : goal.returns
returns c = planes_all c.args.kind (slice_index c.args.counts.now) c.args.last c.loop-d.d (suc c.args.last) c.loop-d.planes (omega (arith, c.loop-d-test.false, c.loop-d.auto.d-end)) c.loop-d.invariant
