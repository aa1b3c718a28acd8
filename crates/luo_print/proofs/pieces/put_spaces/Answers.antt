use Rattle.std.proofs.Common.{◌∷◌, [], ◌++◌, append_assoc, ap, sym, ◌∙◌}
use Rattle.luo_print.proofs.Joins.{spaces_more}
use Rattle.luo_print.proofs.pieces.put_spaces.Goals as goal

pub loop-i-preserved : goal.loop-i-preserved
loop-i-preserved c =
    c.in_ok-push.ensures.items ∙ ap (λ t. t ++ 32 ∷ []) c.loop-i.invariant ∙ append_assoc c.args.text.now.items _ _ ∙ ap (λ s. c.args.text.now.items ++ s) (sym (spaces_more c.loop-i._i))
