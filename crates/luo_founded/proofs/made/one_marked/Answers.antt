use Rattle.std.proofs.Common.{refl, arith}
use Rattle.luo_finite.proofs.Membership.{In-at}
use Rattle.luo_model.specs.declared.program.Part.{Part}
use Rattle.luo_founded.specs.inner.Marks.{Marked}
use Rattle.luo_finite.proofs.Loops.{all_next, all_end, all_in}
use Rattle.luo_founded.proofs.made.one_marked.Goals as goal

pub loop-part-preserved : goal.loop-part-preserved
loop-part-preserved c =
    all_next (λ k (part : Part). Marked c.args.table.now part.node → ⊥) c.args.parts.now c.loop-part.part-index _ c.loop-part.invariant (λ m. let t = c.if-is_marked.ensures.1 m in cc)

pub returns-then-is_marked : goal.returns-then-is_marked
returns-then-is_marked c = (λ t. (_, In-at c.args.parts.now c.loop-part.part-index _ c.loop-part-test.true, c.if-is_marked.ensures.0 refl), λ all. refl)

pub returns : goal.returns
returns c = (
  λ t. absurd (cc),
  λ h. absurd (all_in (λ (part : Part). Marked c.args.table.now part.node → ⊥) c.args.parts.now (all_end (λ k (part : Part). Marked c.args.table.now part.node → ⊥) c.args.parts.now c.loop-part.part-index (omega (arith, c.loop-part-test.false)) c.loop-part.invariant) h.0 h.1 h.2),
)
