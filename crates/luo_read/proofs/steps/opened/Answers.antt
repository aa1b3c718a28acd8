use Rattle.std.proofs.Common.{◌∷◌, Some, refl, sym, ap, arith, length}
use Rattle.luo_read.specs.inner.Machine.{state}
use Rattle.luo_read.specs.inner.Readers.{open_of, opens_of, stage_of}
use Rattle.luo_read.proofs.ReaderLemmas.{opens_pushed, opens_few, longer, still_few}
use Rattle.luo_read.proofs.steps.opened.Goals as goal

pub returns-then-is_full : goal.returns-then-is_full
returns-then-is_full c =
    let full = c.is_full.ensures.0 c.if-is_full.true in
    (state (open_of c.args.frame ∷ opens_of c.args.frames) (stage_of c.args.stage), refl, omega (arith, opens_few c.args.frames, full, ap length c.as_slice.ensures))

pub returns : goal.returns
returns c = (
  ap (λ os. Some (state os (stage_of c.args.stage))) (sym (opens_pushed c.args.frames c.push.new.self c.args.frame c.in_ok-push.ensures.ok)),
  omega (
    arith,
    longer c.push.new.self c.args.frames c.args.frame c.in_ok-push.ensures.ok,
    still_few c.args.frames c.as_slice.result.now c.is_full.result c.requires.few c.as_slice.ensures c.is_full.ensures c.if-is_full.false,
  ),
)
