use Rattle.std.proofs.Common.{◌∙◌}
use Rattle.luo_audit.proofs.WalkLemmas.{piece_right}
use Rattle.luo_audit.proofs.piece.piece_sum.Goals as goal

pub returns : goal.returns
returns g c =
    piece_right c.args.program.now c.args.callee c.args.n c.args.node c.args.workers c.args.piece c.requires.on c.in_ok-ranker.ranker
    (c.in_ok-ranker.ensures.made.0 ∙ c.requires.same) c.in_ok-ranker.ensures.made.1 c.in_ok-ranker.ensures.made.2 c.count-count.result c.count-count.ensures.count
    c.new-2.result
    (c.new-2.ensures ∙ (λ i. record {
      program = c.in_ok-ranker.ranker.program;
      node = c.in_ok-ranker.ranker.node;
      size = c.in_ok-ranker.ranker.size;
      place = c.begin-from.ensures.is i;
      end = c.begin-to.ensures.is i;
    }))
    c.walked.result c.walked.ensures.small c.walked.ensures.sum
