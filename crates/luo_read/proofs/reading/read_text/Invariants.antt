use Rattle.std.proofs.Common.{◌≡◌, ◌≤◌, [], Some, take, length}
use Rattle.luo_read.specs.inner.Machine.{Begin, state, run}
use Rattle.luo_read.specs.inner.Readers.{state_of}
use Rattle.luo_read.proofs.ReadLemmas.{WithinTo}
use Rattle.luo_read.proofs.reading.read_text.Given as goal

abbrev pub invariant-loop-at : goal.invariant-loop-at
invariant-loop-at l = record {
  ran : run (state [] Begin) (take l.at l.text) ≡ Some (state_of l.reader);
  few : length l.reader.frames ≤ 1000;
  within : WithinTo l.text l.at;
}
