use Rattle.std.proofs.Common.{◌≡◌, drop}
use Rattle.luo_answer.specs.inner.Found.{def_of}
use Rattle.luo_answer.proofs.steps.listing.def_of.Given as goal

abbrev pub invariant-loop-definition : goal.invariant-loop-definition
invariant-loop-definition l = def_of l.defs l.name ≡ def_of (drop l.definition-index l.defs) l.name
