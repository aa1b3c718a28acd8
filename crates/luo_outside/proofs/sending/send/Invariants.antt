use Rattle.std.proofs.Common.{◌≡◌, [], ◌≤◌, length}
use Rattle.luo_outside.proofs.Sent.{Sent}
use Rattle.luo_outside.proofs.sending.send.Given as goal

abbrev pub invariant-loop-rest : goal.invariant-loop-rest
invariant-loop-rest g l =
    Sent (g.S.Sink.taken l.fn.sink) (g.S.Sink.taken l.sink) l.bytes l.rest
    × (g.S.Sink.faults l.fn.sink ≤ g.S.Sink.faults l.sink)
    × (l.bytes ≡ [] → l.sink ≡ l.fn.sink)

abbrev pub decreases-loop-rest : goal.decreases-loop-rest
decreases-loop-rest g l = length l.rest
