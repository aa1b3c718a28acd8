use Rattle.luo_struct.proofs.MemberLemmas.{LedFrom}
use Rattle.luo_struct.proofs.members.is_led.Given as goal

abbrev pub invariant-loop-part : goal.invariant-loop-part
invariant-loop-part l = LedFrom l.least l.rest l.part-index
