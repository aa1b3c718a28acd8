use Rattle.std.proofs.Common.{rules, List, length, ap, arith}
use Rattle.luo_scan.specs.declared.token.Mark.TheVariants.{Comma, Semicolon}
use Rattle.luo_scan.specs.declared.token.TokenKind.TheVariants as kind
use Rattle.luo_scan.specs.Lexemes.{Lexeme}
use Rattle.luo_syntax.specs.inner.Next.{Misses}
use Rattle.luo_syntax.specs.inner.StopsValues.{ValueStops, PartsStop, ValueArmStops, ValueArmsStop}
use Rattle.luo_syntax.proofs.Nexts.{next_past, misses_past, next_shorter, next_at_shorter, name_shorter}
use Rattle.luo_syntax.proofs.PatternSteps.{next_at_past}
use Rattle.luo_syntax.proofs.ValueSteps.{inner_shorter, reads_inner_bracketed, reads_inner_tuple, reads_inner_case}
use Rattle.luo_syntax.proofs.ValuesSoFar.{parts_end, parts_more, parts_stop_in, parts_stop, arms_end, arms_more, arms_stop_in, arms_stop, arms_smaller}
use Rattle.luo_syntax.proofs.cursor.Cursor.+values.Goals as goal

pub parts-returns-then-take_mark-clause-reads : goal.parts-returns-then-take_mark-clause-reads
parts-returns-then-take_mark-clause-reads t c = parts_end c.parts.invariant c.in_ok-part.ensures.ends c.if-take_mark.ensures c.in_ok-push-2.ensures.ok

pub parts-parts-preserved : goal.parts-parts-preserved
parts-parts-preserved t c = parts_more c.parts.invariant c.in_ok-part.ensures.ends c.if-take_mark.ensures c.in_ok-expect_mark.ensures.reads c.in_ok-push-2.ensures.ok

pub value_arms-returns-then-take_word-clause-reads : goal.value_arms-returns-then-take_word-clause-reads
value_arms-returns-then-take_word-clause-reads t c = arms_end c.arms.invariant c.in_ok-arm.ensures.reads c.if-take_word.ensures c.in_ok-push.ensures.ok

pub value_arms-arms-preserved : goal.value_arms-arms-preserved
value_arms-arms-preserved t c = arms_more c.arms.invariant c.in_ok-arm.ensures.reads c.if-take_word.ensures c.in_ok-expect_mark.ensures.reads c.in_ok-push.ensures.ok

pub value_arms-arms-smaller : goal.value_arms-arms-smaller
value_arms-arms-smaller t c = arms_smaller c.in_ok-arm.ensures.reads c.if-take_word.ensures c.in_ok-expect_mark.ensures.reads

pub parts-returns-in_err-part-clause-stops : goal.parts-returns-in_err-part-clause-stops
parts-returns-in_err-part-clause-stops t c =
    let stop : (o : List Lexeme) → ValueStops c.parts.self o → PartsStop c.args.self.now o = λ o m. parts_stop_in c.parts.invariant m in
    search (rules, stop)

pub parts-returns-in_err-expect_mark-clause-stops : goal.parts-returns-in_err-expect_mark-clause-stops
parts-returns-in_err-expect_mark-clause-stops t c =
    let stop : (o : List Lexeme) → Misses (kind.Mark Comma) c.take_mark.new.self o → PartsStop c.args.self.now o = λ o m. parts_stop c.parts.invariant c.in_ok-part.ensures.ends c.if-take_mark.ensures m in
    search (rules, stop)

pub value_arms-returns-in_err-arm-clause-stops : goal.value_arms-returns-in_err-arm-clause-stops
value_arms-returns-in_err-arm-clause-stops t c =
    let stop : (o : List Lexeme) → ValueArmStops c.arms.self o → ValueArmsStop c.args.self.now o = λ o m. arms_stop_in c.arms.invariant m in
    search (rules, stop)

pub value_arms-returns-in_err-expect_mark-clause-stops : goal.value_arms-returns-in_err-expect_mark-clause-stops
value_arms-returns-in_err-expect_mark-clause-stops t c =
    let stop : (o : List Lexeme) → Misses (kind.Mark Semicolon) c.take_word.new.self o → ValueArmsStop c.args.self.now o = λ o m. arms_stop c.arms.invariant c.in_ok-arm.ensures.reads c.if-take_word.ensures m in
    search (rules, stop)

pub inner_value-returns-then-take_mark-clause-shorter : goal.inner_value-returns-then-take_mark-clause-shorter
inner_value-returns-then-take_mark-clause-shorter t c = inner_shorter (reads_inner_bracketed (next_past c.in_default.ensures c.if-take_mark.ensures) c.in_ok-read.ensures.reads)

pub inner_value-returns-in-Some-take_word_at-clause-shorter : goal.inner_value-returns-in-Some-take_word_at-clause-shorter
inner_value-returns-in-Some-take_word_at-clause-shorter t c = inner_shorter (reads_inner_tuple (next_at_past (misses_past c.in_default.ensures c.if-take_mark.ensures) c.in-Some-take_word_at.ensures) c.in_ok-parts.ensures.reads)

pub inner_value-returns-then-take_word-clause-shorter : goal.inner_value-returns-then-take_word-clause-shorter
inner_value-returns-then-take_word-clause-shorter t c = inner_shorter (reads_inner_case (next_past (misses_past (misses_past c.in_default.ensures c.if-take_mark.ensures) c.in_default-take_word_at.ensures) c.if-take_word.ensures) c.in_ok-read-2.ensures.reads)

pub bracketed-numbered-requires : goal.bracketed-numbered-requires
bracketed-numbered-requires t c = (omega (arith, c.decreases, next_at_shorter c.in_ok-number.ensures.reads), tt)

pub inner_value-bracketed-requires : goal.inner_value-bracketed-requires
inner_value-bracketed-requires t c = (omega (arith, c.decreases, next_shorter (next_past c.in_default.ensures c.if-take_mark.ensures)), tt)

pub inner_value-tuple-requires : goal.inner_value-tuple-requires
inner_value-tuple-requires t c = (omega (arith, c.decreases, next_at_shorter (next_at_past (misses_past c.in_default.ensures c.if-take_mark.ensures) c.in-Some-take_word_at.ensures)), tt)

pub inner_value-value_case-requires : goal.inner_value-value_case-requires
inner_value-value_case-requires t c = (omega (arith, c.decreases, next_shorter (next_past (misses_past (misses_past c.in_default.ensures c.if-take_mark.ensures) c.in_default-take_word_at.ensures) c.if-take_word.ensures)), tt)

pub numbered-inner_value-requires : goal.numbered-inner_value-requires
numbered-inner_value-requires t c = (omega (arith, c.decreases, next_shorter c.in_ok-expect_mark.ensures.reads), tt)

pub parts-value-requires : goal.parts-value-requires
parts-value-requires t c = (omega (arith, c.decreases, c.parts.invariant.no_longer), tt)

pub tuple-value-requires : goal.tuple-value-requires
tuple-value-requires t c = (omega (arith, c.decreases, next_shorter c.in_ok-expect_mark.ensures.reads), tt)

pub tuple-parts-requires : goal.tuple-parts-requires
tuple-parts-requires t c = (omega (arith, c.decreases, next_shorter c.in_ok-expect_mark.ensures.reads, c.in_ok-first.ensures.shorter, next_shorter c.in_ok-expect_mark-2.ensures.reads), tt)

pub value-numbered-requires : goal.value-numbered-requires
value-numbered-requires t c = (omega (arith, c.decreases, next_at_shorter c.in-Some.ensures), tt)

pub value-inner_value-requires : goal.value-inner_value-requires
value-inner_value-requires t c = (omega (arith, c.decreases, ap length c.in_default.ensures.0), tt)

pub value_arm-value-requires : goal.value_arm-value-requires
value_arm-value-requires t c = (omega (arith, c.decreases, c.in_ok-pattern.ensures.shorter, next_shorter c.in_ok-expect_mark.ensures.reads), tt)

pub value_arms-value_arm-requires : goal.value_arms-value_arm-requires
value_arms-value_arm-requires t c = (omega (arith, c.decreases, c.arms.invariant.no_longer), tt)

pub value_case-value_arms-requires : goal.value_case-value_arms-requires
value_case-value_arms-requires t c = (omega (arith, c.decreases, name_shorter c.in_ok-var.ensures.reads, next_shorter c.in_ok-expect_word.ensures.reads), tt)
