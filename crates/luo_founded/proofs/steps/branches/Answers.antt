use Rattle.std.proofs.Common.{◌≡◌, refl, sym, arith}
use Rattle.luo_model.specs.declared.program.Part.{Part}
use Rattle.luo_finite.proofs.Places.{In_get, place_in}
use Rattle.luo_finite.proofs.Gathered.{gathers_next, gathers_all}
use Rattle.luo_founded.proofs.steps.branches.Goals as goal

pub loop-part-preserved : goal.loop-part-preserved
loop-part-preserved c = gathers_next (λ k (part : Part) y. part.node ≡ y) c.args.parts.now c.loop-part.part-index _ _ c.loop-part.nodes _ c.loop-part-test.true refl (λ z e. sym e) c.in_ok-push.ensures.ok c.loop-part.invariant

pub returns : goal.returns
returns c y =
    let h = gathers_all (λ k (part : Part) y. part.node ≡ y) c.args.parts.now c.loop-part.part-index c.loop-part.nodes (omega (arith, c.loop-part-test.false)) c.loop-part.invariant y in
    (λ i. let r = h.0 i in (r.1, In_get c.args.parts.now r.0 r.1 r.2, r.3), λ r. let i = place_in r.0 c.args.parts.now r.1 in h.1 (i.0, r.0, i.1, r.2))
