use Rattle.std.proofs.Common.{◌*◌, ◌/◌, ◌≤◌, arith}
use Rattle.std.proofs.lemmas.Nat.{le-div, mul-le}
use Rattle.luo_rank.proofs.choices.write_ways.Goals as goal

pub returns : goal.returns
returns c = λ j f.
    let h : j ≤ c.args.n / c.args.d = le-div j c.args.n c.args.d c.requires.some f in
    let l : j * 1 ≤ j * c.args.d = mul-le j 1 j c.args.d (omega arith) c.requires.some in
    (omega (arith, l, f, c.requires.long, c.loop-j.invariant.0), c.loop-j.invariant.1 j (omega (arith, h, c.loop-j-test.false)))
