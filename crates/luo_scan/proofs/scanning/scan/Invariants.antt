use Rattle.std.proofs.Common.{◌-◌, length}
use Rattle.luo_scan.proofs.Walk.{SoFar}
use Rattle.luo_scan.proofs.scanning.scan.Given as goal

abbrev pub invariant-pieces : goal.invariant-pieces
invariant-pieces l = SoFar l.text l.at l.tokens.items

abbrev pub decreases-pieces : goal.decreases-pieces
decreases-pieces l = length l.text - l.at
