use Rattle.std.proofs.Common.{◌≡◌, ◌++◌}
use Rattle.luo_print.specs.Layout.{spaces}
use Rattle.luo_print.proofs.pieces.put_spaces.Given as goal

abbrev pub invariant-loop-i : goal.invariant-loop-i
invariant-loop-i l = l.text.items ≡ l.fn.text.items ++ spaces l._i
