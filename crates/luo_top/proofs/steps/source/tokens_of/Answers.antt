use Rattle.std.proofs.Common.{sym}
use Rattle.luo_scan.specs.Tokens.{Tokens}
use Rattle.luo_top.proofs.NoRefusal.{no_fault}
use Rattle.luo_top.proofs.steps.source.tokens_of.Goals as goal

pub returns-in-Ok : goal.returns-in-Ok
returns-in-Ok c =
    let t : Tokens c.args.text.now c.from_vec.result = rw (c.from_vec.ensures, sym c.as_slice.ensures) c.in-Ok.ensures.ok in
    record { answers = (no_fault _ _ t, t) }
