use Rattle.std.proofs.Common.{◌≡◌, ◌+◌, ◌∙◌, ap, arith, refl}
use Rattle.luo_model.specs.Structures.{labels_from}
use Rattle.luo_rank.proofs.FillLemmas.{labels_next}
use Rattle.luo_rank.proofs.ranker.labels_to.Goals as goal

pub loop-k-preserved : goal.loop-k-preserved
loop-k-preserved c = labels_next c.loop-k.k (c.loop-k.k + 1) (c.loop-k.k + 1) c.loop-k.labels c.push.new.self c.loop-k.invariant c.in_ok-push.ensures.ok refl refl

pub returns : goal.returns
returns c = c.loop-k.invariant ∙ ap (labels_from 1) (let q : c.loop-k.k ≡ c.args.n = omega (arith, c.loop-k-test.false, c.loop-k.auto.k-end) in q)
