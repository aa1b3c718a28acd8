use Rattle.std.proofs.Common.{◌+◌, ◌*◌, length}
use Rattle.luo_syntax.proofs.TermSteps.{TermsSoFar, FactorsSoFar}
use Rattle.luo_syntax.proofs.cursor.Cursor.+types.Given as goal

abbrev pub decreases-expr : goal.decreases-expr
decreases-expr l = 4 * length l.self.now + 3

abbrev pub decreases-factors : goal.decreases-factors
decreases-factors l = 4 * length l.self.now + 4

abbrev pub decreases-product : goal.decreases-product
decreases-product l = 4 * length l.self.now + 1

abbrev pub decreases-collection : goal.decreases-collection
decreases-collection l = 4 * length l.self.now + 1

abbrev pub decreases-term : goal.decreases-term
decreases-term l = 4 * length l.self.now + 1

abbrev pub decreases-terms : goal.decreases-terms
decreases-terms l = 4 * length l.self.now + 2

abbrev pub invariant-factors-factors : goal.invariant-factors-factors
invariant-factors-factors l = FactorsSoFar l.initial.self l.self l.fn.first l.parts

abbrev pub decreases-factors-factors : goal.decreases-factors-factors
decreases-factors-factors l = length l.self

abbrev pub invariant-terms-terms : goal.invariant-terms-terms
invariant-terms-terms l = TermsSoFar l.initial.self l.self l.fn.first l.parts

abbrev pub decreases-terms-terms : goal.decreases-terms-terms
decreases-terms-terms l = length l.self
