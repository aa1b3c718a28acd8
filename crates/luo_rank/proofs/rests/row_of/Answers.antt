use Rattle.std.proofs.Common.{◌≡◌, length, ap, arith}
use Rattle.luo_num.specs.Mark.{capped}
use Rattle.luo_rank.specs.inner.Lookup.{left_count}
use Rattle.luo_rank.proofs.MadeLemmas.{row_all}
use Rattle.luo_rank.proofs.ListLemmas.{pushed, pushed_long}
use Rattle.luo_rank.proofs.rests.row_of.Goals as goal

pub loop-n-init : goal.loop-n-init
loop-n-init c = (ap length c.new-row.ensures, λ m h. absurd (omega (arith, h)))

pub left-number-requires-clause-stands : goal.left-number-requires-clause-stands
left-number-requires-clause-stands c = (c.width-wide.ensures.stands c.loop-n.n c.loop-n-test.true).0

pub left-number-requires-clause-size : goal.left-number-requires-clause-size
left-number-requires-clause-size c = (c.width-wide.ensures.stands c.loop-n.n c.loop-n-test.true).1

pub loop-n-preserved : goal.loop-n-preserved
loop-n-preserved c = (
  pushed_long 0 c.loop-n.row c.push.new.self c.left-number.result c.loop-n.n c.loop-n.invariant.0 c.in_ok-push.ensures.ok,
  pushed 0 (λ m v. v ≡ capped (left_count c.args.tables.now c.args.x c.args.f m)) c.loop-n.row c.push.new.self c.left-number.result c.loop-n.n c.loop-n.invariant.0 c.in_ok-push.ensures.ok c.loop-n.invariant.1 c.left-number.ensures,
)

pub returns : goal.returns
returns c = row_all c.args.tables.now c.args.x c.args.f c.width-wide.result c.loop-n.n c.loop-n.row c.width-wide.ensures.all c.loop-n-test.false c.loop-n.invariant.0 c.loop-n.invariant.1
