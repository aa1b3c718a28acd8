use Rattle.std.proofs.Common.{arith, ◌≡◌, length, subst}
use Rattle.luo_syntax.proofs.Counts.{IsShallowTo, any_token, opened_more, closed_more, shallow_more, shallow_text, first_deep}
use Rattle.luo_syntax.proofs.parsing.too_deep.Goals as goal

pub loop-i-preserved : goal.loop-i-preserved
loop-i-preserved c =
    let o = opened_more c.args.tokens.now c.loop-i.i any_token c.loop-i-test.true in
    let k = closed_more c.args.tokens.now c.loop-i.i any_token c.loop-i-test.true in
    let p = c.loop-i.invariant in
    record {
      opened = omega (arith, o, p.opened, c.opens-opened.ensures.count);
      closed = omega (arith, k, p.closed, c.closes-closed.ensures.count);
      most = omega (arith, p.most, c.opens-opened.ensures.most);
      least = omega (arith, p.least, c.closes-closed.ensures.most);
      shallow = shallow_more c.args.tokens.now c.loop-i.i p.shallow (λ d. omega (arith, d, o, k, p.opened, p.closed, c.opens-opened.ensures.count, c.closes-closed.ensures.count, c.if-opened-closed.false));
    }

pub returns-then-opened-closed : goal.returns-then-opened-closed
returns-then-opened-closed c =
    let o = opened_more c.args.tokens.now c.loop-i.i any_token c.loop-i-test.true in
    let k = closed_more c.args.tokens.now c.loop-i.i any_token c.loop-i-test.true in
    let p = c.loop-i.invariant in
    first_deep c.args.tokens.now c.loop-i.i c.loop-i-test.true (omega (arith, o, k, p.opened, p.closed, c.opens-opened.ensures.count, c.closes-closed.ensures.count, c.if-opened-closed.true)) p.shallow

pub returns : goal.returns
returns c =
    let e : c.loop-i.i ≡ length c.args.tokens.now = omega (arith, c.loop-i-test.false, c.loop-i.auto.i-end) in
    shallow_text c.args.tokens.now (subst (λ z. IsShallowTo z c.args.tokens.now) e c.loop-i.invariant.shallow)
