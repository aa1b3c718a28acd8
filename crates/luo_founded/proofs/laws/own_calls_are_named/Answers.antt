use Rattle.luo_founded.proofs.FactLemmas.{own_calls_are_named}
use Rattle.luo_founded.proofs.laws.own_calls_are_named.Goals as goal

pub returns : goal.returns
returns c = own_calls_are_named
