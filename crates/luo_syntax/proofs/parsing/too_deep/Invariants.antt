use Rattle.std.proofs.Common.{◌≡◌, ◌≤◌, take}
use Rattle.luo_syntax.proofs.Counts.{kinds_opened, kinds_closed, IsShallowTo}
use Rattle.luo_syntax.proofs.parsing.too_deep.Given as goal

abbrev pub invariant-loop-i : goal.invariant-loop-i
invariant-loop-i l = record {
  opened : l.opened ≡ kinds_opened (take l.i l.tokens);
  closed : l.closed ≡ kinds_closed (take l.i l.tokens);
  most : l.opened ≤ l.i;
  least : l.closed ≤ l.i;
  shallow : IsShallowTo l.i l.tokens;
}
