use Rattle.std.proofs.Common.{arith, refl, ap, ◌∙◌, ◌+◌, ℕ}
use Rattle.luo_num.specs.Mark.{capped}
use Rattle.luo_unlabelled.proofs.PlaneLemmas.{copies_more, copies_whole, copies_none, copies_fit}
use Rattle.luo_unlabelled.proofs.plane.copies.Goals as goal

pub loop-j-preserved : goal.loop-j-preserved
loop-j-preserved c =
    c.marked_add-sum.ensures ∙ ap (λ (i : ℕ). capped (c.loop-j.sum + i)) c.marked_mul.ensures
    ∙ copies_more c.args.ways.now c.args.cells.now c.args.wide c.args.d c.args.k c.args.m c.loop-j.j (c.loop-j.j + 1) c.loop-j.sum _ _ c.loop-j.invariant refl (copies_fit c.args.d c.args.m c.loop-j.j c.most_copies-most.result (omega arith) c.most_copies-most.ensures.fits) refl refl

pub returns : goal.returns
returns c = copies_whole c.args.ways.now c.args.cells.now c.args.wide c.args.d c.args.k c.args.m c.loop-j.j c.loop-j.sum c.most_copies-most.result c.loop-j.invariant (omega arith) c.most_copies-most.ensures.within c.most_copies-most.ensures.most c.requires.slim

pub returns-then-m-k : goal.returns-then-m-k
returns-then-m-k c = copies_none c.args.ways.now c.args.cells.now c.args.wide c.args.d c.args.k c.args.m c.requires.some c.if-m-k.true c.requires.slim
