-- What is seen in a table of collections, and in one of charges over them.
use Rattle.luo_engine.specs.declared.collections.Counter.{Counter}
use Rattle.luo_engine.specs.declared.collections.Counter.TheVariants as counter
use Rattle.luo_engine.specs.declared.walks.Summer.{Summer}
use Rattle.luo_engine.specs.declared.walks.Summer.TheVariants as summer
use Rattle.luo_engine.specs.inner.Asked.{Asked, AskedWalk, of_line, of_parts, of_unbounded, of_labelled, of_unlabelled, of_labelled_walk, of_unlabelled_walk}

abbrev pub asked_of : Counter → Asked
asked_of (counter.Chain c) = of_labelled c
asked_of (counter.Line c) = of_unlabelled of_line c
asked_of (counter.Parts c) = of_unlabelled of_parts c
asked_of (counter.Unbounded c) = of_unlabelled of_unbounded c

abbrev pub asked_walk_of : Summer → AskedWalk
asked_walk_of (summer.Chain w) = of_labelled_walk w
asked_walk_of (summer.Line w) = of_unlabelled_walk of_line w
asked_walk_of (summer.Parts w) = of_unlabelled_walk of_parts w
asked_walk_of (summer.Unbounded w) = of_unlabelled_walk of_unbounded w
