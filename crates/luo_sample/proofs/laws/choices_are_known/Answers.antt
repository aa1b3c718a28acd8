use Rattle.luo_sample.proofs.Known.{universes, choices}
use Rattle.luo_sample.proofs.laws.choices_are_known.Goals as goal

pub returns-clause-universes : goal.returns-clause-universes
returns-clause-universes c = universes

pub returns-clause-choices : goal.returns-clause-choices
returns-clause-choices c = choices
