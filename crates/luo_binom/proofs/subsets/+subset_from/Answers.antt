use Rattle.std.proofs.Common.{length, length-set, ◌-◌, arith}
use Rattle.luo_binom.proofs.SubsetLemmas.{enough, written_with, written_without, written_none}
use Rattle.luo_binom.proofs.subsets.+subset_from.Goals as goal

pub choices-with-requires-clause-within : goal.choices-with-requires-clause-within
choices-with-requires-clause-within t c = omega (arith, enough (length c.args.labels.now) (length c.args.out.now - c.args.at) c.args.rank c.requires.rank, c.in-Some.ensures.cases.1)

pub returns-then-rank-with : goal.returns-then-rank-with
returns-then-rank-with t c =
    written_with c.args.labels.now c.in-Some.rest.now c.args.out.now c.subset_from.new.out c.in-Some.first.now c.args.at c.args.rank c.in-Some.ensures.cases.0 c.requires.labels c.if-at-out.true c.subset_from.ensures (length-set c.args.out.now c.args.at c.in-Some.first.now)

pub returns-else-rank-with : goal.returns-else-rank-with
returns-else-rank-with t c =
    written_without c.args.labels.now c.in-Some.rest.now c.args.out.now c.subset_from-else-rank-with.new.out c.in-Some.first.now c.args.at c.choices-with.result c.args.rank c.in-Some.ensures.cases.0 c.requires.labels c.if-at-out.true c.choices-with.ensures c.if-rank-with.false c.subset_from-else-rank-with.ensures

pub returns-else-at-out : goal.returns-else-at-out
returns-else-at-out t c = written_none c.args.labels.now c.args.out.now c.args.at c.args.rank (omega (arith, c.if-at-out.false, c.requires.inside)) c.requires.rank
