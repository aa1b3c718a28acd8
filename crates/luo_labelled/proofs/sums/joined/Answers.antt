use Rattle.std.proofs.Common.{◌≡◌, ◌*◌, ◌+◌, ◌-◌, suc, slice_index, subst, ap, ◌∙◌, sym, arith, refl, ℕ}
use Rattle.luo_num.specs.Mark.{capped}
use Rattle.luo_finite.specs.Range.{sum_below}
use Rattle.luo_labelled.specs.inner.Steps.{is_led, ways}
use Rattle.luo_labelled.proofs.CodeLemmas.{term_more}
use Rattle.luo_labelled.proofs.sums.joined.Goals as goal

pub loop-j-preserved : goal.loop-j-preserved
loop-j-preserved c =
    let j = c.loop-j.j in
    let n = c.args.n in
    let next : suc j ≡ j + 1 = omega arith in
    let x : ℕ → ℕ = slice_index c.args.numbers.now in
    let y : ℕ → ℕ = λ i. slice_index c.args.cells.now (c.args.row + (n - i)) in
    let w : ℕ → ℕ = ways (is_led c.args.kind) n in
    let f : ℕ → ℕ = λ j. w (suc j) * (x (suc j) * y (suc j)) in
    c.marked_add-sum.ensures ∙ term_more (w (j + 1)) (x (j + 1)) (y (j + 1)) c.marked_mul-both.result c.ways.result c.loop-j.sum c.marked_mul.result (sum_below f j) c.marked_mul-both.ensures c.ways.ensures c.marked_mul.ensures c.loop-j.invariant
    ∙ ap (λ i. capped (w i * (x i * y i) + sum_below f j)) (sym next) ∙ ap (λ i. capped (sum_below f i)) next
