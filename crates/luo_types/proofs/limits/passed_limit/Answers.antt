use Rattle.std.proofs.Common.{arith}
use Rattle.std.proofs.lemmas.Grind.{common_steps}
use Rattle.luo_types.proofs.LimitLemmas.{first_definitions, first_nodes, first_parts, first_bounds, first_multisets, first_procedures, first_statements, first_analyses, none_passed}
use Rattle.luo_types.proofs.limits.passed_limit.Goals as goal

pub returns-then-count_names-gt-DEFINITION_LIMIT-clause-some : goal.returns-then-count_names-gt-DEFINITION_LIMIT-clause-some
returns-then-count_names-gt-DEFINITION_LIMIT-clause-some c = first_definitions c.args.source.now (grind (arith, common_steps))

pub returns-then-counts-gt-NODE_LIMIT-clause-some : goal.returns-then-counts-gt-NODE_LIMIT-clause-some
returns-then-counts-gt-NODE_LIMIT-clause-some c = first_nodes c.args.source.now (grind (arith, common_steps)) (grind (arith, common_steps))

pub returns-then-counts-gt-PART_LIMIT-clause-some : goal.returns-then-counts-gt-PART_LIMIT-clause-some
returns-then-counts-gt-PART_LIMIT-clause-some c = first_parts c.args.source.now (grind (arith, common_steps)) (grind (arith, common_steps))

pub returns-then-counts-gt-BOUND_LIMIT-clause-some : goal.returns-then-counts-gt-BOUND_LIMIT-clause-some
returns-then-counts-gt-BOUND_LIMIT-clause-some c = first_bounds c.args.source.now (grind (arith, common_steps)) (grind (arith, common_steps))

pub returns-then-counts-gt-MULTISET_LIMIT-clause-some : goal.returns-then-counts-gt-MULTISET_LIMIT-clause-some
returns-then-counts-gt-MULTISET_LIMIT-clause-some c = first_multisets c.args.source.now (grind (arith, common_steps)) (grind (arith, common_steps))

pub returns-then-len-gt-PROCEDURE_LIMIT-clause-some : goal.returns-then-len-gt-PROCEDURE_LIMIT-clause-some
returns-then-len-gt-PROCEDURE_LIMIT-clause-some c = first_procedures c.args.source.now (grind (arith, common_steps)) (grind (arith, common_steps))

pub returns-then-count_procs-gt-STATEMENT_LIMIT-clause-some : goal.returns-then-count_procs-gt-STATEMENT_LIMIT-clause-some
returns-then-count_procs-gt-STATEMENT_LIMIT-clause-some c = first_statements c.args.source.now (grind (arith, common_steps)) (grind (arith, common_steps))

pub returns-then-len-gt-ANALYSIS_LIMIT-clause-some : goal.returns-then-len-gt-ANALYSIS_LIMIT-clause-some
returns-then-len-gt-ANALYSIS_LIMIT-clause-some c = first_analyses c.args.source.now (grind (arith, common_steps)) (grind (arith, common_steps))

pub returns-clause-none : goal.returns-clause-none
returns-clause-none c = none_passed c.args.source.now (grind (arith, common_steps))
