use Rattle.std.proofs.Common.{rules, List}
use Rattle.luo_scan.specs.declared.token.Mark.TheVariants.{Semicolon}
use Rattle.luo_scan.specs.declared.token.TokenKind.TheVariants as kind
use Rattle.luo_scan.specs.Lexemes.{Lexeme}
use Rattle.luo_syntax.specs.inner.Next.{Misses}
use Rattle.luo_syntax.specs.inner.StopsStatements.{StmtsStop, ArmsStop}
use Rattle.luo_syntax.proofs.Nexts.{next_past}
use Rattle.luo_syntax.proofs.StatementsSteps.{stmts_more, arms_more, stmts_stop, arms_stop, behind_case, behind_forall, call_past, stmt_shorter, simple_shorter}
use Rattle.luo_syntax.proofs.cursor.Cursor.+blocks.Goals as goal

pub stmts-stmts-preserved : goal.stmts-stmts-preserved
stmts-stmts-preserved t c = stmts_more c.stmts.invariant c.in_ok-stmt.ensures.reads c.in_ok-stmt.ensures.shorter (next_past c.if-take_word.ensures c.in_ok-expect_mark.ensures.reads) c.in_ok-push.ensures.ok

pub arms-arms-preserved : goal.arms-arms-preserved
arms-arms-preserved t c = arms_more c.arms.invariant c.in_ok-arm.ensures.reads c.in_ok-arm.ensures.shorter (next_past c.if-take_word.ensures c.in_ok-expect_mark.ensures.reads) c.in_ok-push.ensures.ok

pub stmts-returns-in_err-expect_mark-clause-stops : goal.stmts-returns-in_err-expect_mark-clause-stops
stmts-returns-in_err-expect_mark-clause-stops t c =
    let stop : (o : List Lexeme) → Misses (kind.Mark Semicolon) c.take_word.new.self o → StmtsStop c.args.self.now o = λ o m. stmts_stop c.stmts.invariant c.in_ok-stmt.ensures.reads c.in_ok-stmt.ensures.ends c.if-take_word.ensures m in
    search (rules, stop)

pub arms-returns-in_err-expect_mark-clause-stops : goal.arms-returns-in_err-expect_mark-clause-stops
arms-returns-in_err-expect_mark-clause-stops t c =
    let stop : (o : List Lexeme) → Misses (kind.Mark Semicolon) c.take_word.new.self o → ArmsStop c.args.self.now o = λ o m. arms_stop c.arms.invariant c.in_ok-arm.ensures.reads c.in_ok-arm.ensures.ends c.if-take_word.ensures m in
    search (rules, stop)

pub stmt-returns-then-take_word-clause-shorter : goal.stmt-returns-then-take_word-clause-shorter
stmt-returns-then-take_word-clause-shorter t c = stmt_shorter (behind_case c.if-take_word.ensures c.in_ok-read.ensures.reads)

pub stmt-returns-then-take_word-2-clause-shorter : goal.stmt-returns-then-take_word-2-clause-shorter
stmt-returns-then-take_word-2-clause-shorter t c = stmt_shorter (behind_forall c.if-take_word.ensures c.if-take_word-2.ensures c.in_ok-read-2.ensures.reads)

pub simple-returns-clause-shorter : goal.simple-returns-clause-shorter
simple-returns-clause-shorter t c = simple_shorter (call_past c.if-take_word.ensures c.if-take_word-2.ensures c.in_ok-name.ensures.reads c.if-not-take_mark.ensures c.in_ok-arg.ensures.reads)
