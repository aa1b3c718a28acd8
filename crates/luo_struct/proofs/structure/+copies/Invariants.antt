use Rattle.std.proofs.Common.{◌≡◌, take}
use Rattle.luo_struct.proofs.structure.+copies.Given as goal

abbrev pub invariant-copies-loop-part : goal.invariant-copies-loop-part
invariant-copies-loop-part l = l.copies ≡ take l.part-index l.parts
