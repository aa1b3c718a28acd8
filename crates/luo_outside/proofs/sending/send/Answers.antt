use Rattle.std.proofs.Common.{◌≡◌, [], ℕ, List, ◌++◌, ◌<◌, length, length-append, arith, ap, ◌∙◌, sym}
use Rattle.luo_outside.proofs.Sent.{sent_more}
use Rattle.luo_outside.proofs.sending.send.Goals as goal

-- nothing to send has no rest
no_rest : (bytes prefix rest : List ℕ) → bytes ≡ prefix ++ rest → bytes ≡ [] → 0 < length rest → ⊥
no_rest bytes prefix rest whole none some = omega (arith, length-append prefix rest, ap length (sym whole ∙ none))

pub loop-rest-preserved : goal.loop-rest-preserved
loop-rest-preserved g c =
    let some : 0 < length c.loop-rest.rest.now = grind arith in
    (rw c.split_at.ensures.back (sent_more _ _ _ _ _ _ c.loop-rest.invariant.0 c.in-Ok.ensures.bytes), omega arith, λ e. absurd (no_rest _ _ _ c.loop-rest.invariant.0.whole e some))
