use Rattle.std.proofs.Common.{IsTrue, false, refl, arith}
use Rattle.luo_model.specs.declared.program.Part.{Part}
use Rattle.luo_founded.specs.inner.Marks.{Marked}
use Rattle.luo_finite.proofs.Loops.{all_next, all_end, not_next, all_in, in_all}
use Rattle.luo_founded.proofs.made.all_marked.Goals as goal

pub loop-part-preserved : goal.loop-part-preserved
loop-part-preserved c =
    all_next (λ k (part : Part). Marked c.args.table.now part.node) c.args.parts.now c.loop-part.part-index _ c.loop-part.invariant (c.if-not-is_marked.ensures.0 refl)

pub returns-then-not-is_marked : goal.returns-then-not-is_marked
returns-then-not-is_marked c = (
  λ t. absurd (cc),
  λ all. absurd (not_next (λ k (part : Part). Marked c.args.table.now part.node) c.args.parts.now c.loop-part.part-index _ c.loop-part-test.true
      (λ h. let t : IsTrue false = c.if-not-is_marked.ensures.1 h in cc) (in_all (λ (part : Part). Marked c.args.table.now part.node) c.args.parts.now all)),
)

pub returns : goal.returns
returns c = (
  λ t. all_in (λ (part : Part). Marked c.args.table.now part.node) c.args.parts.now (all_end (λ k (part : Part). Marked c.args.table.now part.node) c.args.parts.now c.loop-part.part-index (omega (arith, c.loop-part-test.false)) c.loop-part.invariant),
  λ all. refl,
)
