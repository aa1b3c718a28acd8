use Rattle.std.proofs.Common.{arith, refl, ap, ◌∙◌, ◌+◌, ℕ}
use Rattle.luo_num.specs.Mark.{capped}
use Rattle.luo_unlabelled.proofs.SizeCells.{taken_more, taken_fit, taken_whole}
use Rattle.luo_unlabelled.proofs.sizes.taken.Goals as goal

pub loop-j-preserved : goal.loop-j-preserved
loop-j-preserved c =
    c.marked_add-sum.ensures ∙ ap (λ (i : ℕ). capped (c.loop-j.sum + i)) c.marked_mul.ensures
    ∙ taken_more c.args.ways.now c.args.cells.now c.args.d c.args.m c.loop-j.j (c.loop-j.j + 1) c.loop-j.sum _ _ c.loop-j.invariant refl (taken_fit c.args.d c.args.m c.loop-j.j c.loop-j-test.true) refl refl

pub returns : goal.returns
returns c = taken_whole c.args.ways.now c.args.cells.now c.args.d c.args.m c.loop-j.j c.loop-j.sum c.requires.some c.loop-j.invariant (omega arith)
