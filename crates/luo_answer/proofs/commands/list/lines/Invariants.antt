use Rattle.luo_answer.specs.inner.Listed.{HasListed}
use Rattle.luo_answer.proofs.commands.list.lines.Given as goal

abbrev pub invariant-loop-i : goal.invariant-loop-i
invariant-loop-i l = HasListed l.initial.cursor l.start l.i l.cursor l.text.items
