use Rattle.std.proofs.Common.{rules, List}
use Rattle.luo_scan.specs.declared.token.Mark.TheVariants.{Comma}
use Rattle.luo_scan.specs.declared.token.TokenKind.TheVariants as kind
use Rattle.luo_scan.specs.Lexemes.{Lexeme}
use Rattle.luo_syntax.specs.inner.Next.{Misses}
use Rattle.luo_syntax.specs.inner.StopsTypes.{FactorsStop}
use Rattle.luo_syntax.proofs.Nexts.{next_past}
use Rattle.luo_syntax.proofs.TermSteps.{terms_end, terms_more, factors_end, factors_more, past_factor_end, reads_atom}
use Rattle.luo_syntax.proofs.cursor.Cursor.+types.Goals as goal

pub term-returns-in-Some-take_word_at-clause-reads : goal.term-returns-in-Some-take_word_at-clause-reads
term-returns-in-Some-take_word_at-clause-reads t c = reads_atom c.in_default.ensures c.in-Some-take_word_at.ensures c.in_ok-weight.ensures.reads

pub terms-returns-then-not-take_mark-clause-reads : goal.terms-returns-then-not-take_mark-clause-reads
terms-returns-then-not-take_mark-clause-reads t c = terms_end c.terms.invariant c.in_ok-part.ensures.reads c.if-not-take_mark.ensures c.in_ok-push-2.ensures.ok

pub terms-terms-preserved : goal.terms-terms-preserved
terms-terms-preserved t c = terms_more c.terms.invariant c.in_ok-part.ensures.reads c.if-not-take_mark.ensures c.in_ok-push-2.ensures.ok

pub factors-returns-then-take_mark-clause-reads : goal.factors-returns-then-take_mark-clause-reads
factors-returns-then-take_mark-clause-reads t c = factors_end c.factors.invariant c.in_ok-part.ensures.reads c.if-take_mark.ensures c.in_ok-push-2.ensures.ok

pub factors-factors-preserved : goal.factors-factors-preserved
factors-factors-preserved t c = factors_more c.factors.invariant c.in_ok-part.ensures.reads (next_past c.if-take_mark.ensures c.in_ok-expect_mark.ensures.reads) c.in_ok-push-2.ensures.ok

pub factors-returns-in_err-expect_mark-clause-stops : goal.factors-returns-in_err-expect_mark-clause-stops
factors-returns-in_err-expect_mark-clause-stops t c =
    let stop : (o : List Lexeme) → Misses (kind.Mark Comma) c.take_mark.new.self o → FactorsStop c.args.self.now o =
    λ o m. c.factors.invariant.stops o (past_factor_end c.in_ok-part.ensures.reads c.in_ok-part.ensures.ends c.if-take_mark.ensures m) in
    search (rules, stop)
