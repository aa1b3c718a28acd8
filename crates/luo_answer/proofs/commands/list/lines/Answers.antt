use Rattle.std.proofs.Common.{◌≡◌, ◌+◌, ℕ, List, sym, subst, arith}
use Rattle.luo_answer.specs.inner.Listed.{Shows, HasListed}
use Rattle.luo_answer.proofs.ListedLines.{none_listed, one_listed, some_left, all_listed}
use Rattle.luo_answer.proofs.commands.list.lines.Goals as goal

pub loop-i-init : goal.loop-i-init
loop-i-init c =
    subst (λ (z : List ℕ). HasListed c.args.cursor.now c.args.start 0 c.args.cursor.now z) (sym c.new-text.ensures.items) (none_listed c.args.cursor.now c.args.start c.requires.start)

pub put_next-requires : goal.put_next-requires
put_next-requires c = record { left = some_left c.args.cursor.now c.args.start c.loop-i.i c.args.many c.loop-i.cursor c.loop-i.text.items c.loop-i.invariant c.requires.many c.loop-i-test.true }

pub loop-i-preserved : goal.loop-i-preserved
loop-i-preserved c =
    one_listed c.args.cursor.now c.args.start c.loop-i.i c.loop-i.cursor c.loop-i.text.items c.put_next.new.cursor c.put_next.new.text.items c.loop-i.invariant
    (subst (λ (k : ℕ). Shows c.loop-i.cursor c.put_next.new.cursor (c.args.start + k) c.loop-i.text.items c.put_next.new.text.items) c.from.ensures c.in_ok-put_next.ensures)

pub returns : goal.returns
returns c =
    let all : c.loop-i.i ≡ c.args.many = omega (arith, c.loop-i-test.false, c.loop-i.auto.i-end) in
    all_listed c.args.cursor.now c.args.start c.args.many c.loop-i.cursor c.loop-i.text.items
    (subst (λ (k : ℕ). HasListed c.args.cursor.now c.args.start k c.loop-i.cursor c.loop-i.text.items) all c.loop-i.invariant) c.requires.many
