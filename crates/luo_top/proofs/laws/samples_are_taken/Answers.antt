use Rattle.luo_top.proofs.SampleTaken.{samples_taken}
use Rattle.luo_top.proofs.laws.samples_are_taken.Goals as goal

pub returns : goal.returns
returns c = samples_taken
