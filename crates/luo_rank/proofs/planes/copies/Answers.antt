use Rattle.std.proofs.Common.{◌+◌, ◌*◌, ◌-◌, ℕ, List, slice_index, refl, ◌∙◌, ap, arith}
use Rattle.std.proofs.lemmas.Nat.{mul-le}
use Rattle.luo_num.specs.Mark.{capped}
use Rattle.luo_rank.proofs.PlaneLemmas.{copies_more, copies_past, copies_all}
use Rattle.luo_rank.proofs.planes.copies.Goals as goal

pub overflow_mul-j : goal.overflow_mul-j
overflow_mul-j c = omega (arith, mul-le c.loop-j.j c.args.d 41 40 (omega (arith, c.loop-j.invariant.1, c.requires.row)) c.requires.reach)

pub loop-j-preserved : goal.loop-j-preserved
loop-j-preserved c = (
  c.marked_add-sum.ensures ∙ ap (λ (i : ℕ). capped (c.loop-j.sum + i)) c.marked_mul.ensures
      ∙ copies_more c.args.ways.now c.args.rows.now c.args.d c.args.k c.args.n c.loop-j.j (c.loop-j.j + 1) c.loop-j.sum _ _ c.loop-j.invariant.0 refl c.if-j-d.true refl (ap (λ (r : List ℕ). slice_index r (c.args.n - c.loop-j.j * c.args.d)) c.nth-row.ensures),
  omega (arith, c.loop-j-test.true),
)

pub returns-else-j-d : goal.returns-else-j-d
returns-else-j-d c = copies_past c.args.ways.now c.args.rows.now c.args.d c.args.k c.args.n c.loop-j.j c.loop-j.sum c.loop-j.invariant.0 c.loop-j.invariant.1 c.if-j-d.false

pub returns-after-loop-j : goal.returns-after-loop-j
returns-after-loop-j c = copies_all c.args.ways.now c.args.rows.now c.args.d c.args.k c.args.n c.loop-j.j c.loop-j.sum c.loop-j.invariant.0 c.loop-j.invariant.1 c.loop-j-test.false
