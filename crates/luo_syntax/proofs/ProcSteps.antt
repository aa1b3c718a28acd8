-- Steps of reading procedures and analyses.
use Rattle.std.proofs.Common.{List, ◌<◌, ◌≤◌, length, ap, subst, ◌∙◌, arith}
use Rattle.std.proofs.lemmas.List.{length-append}
use Rattle.luo_scan.specs.declared.token.Mark.TheVariants.{Semicolon, Colon}
use Rattle.luo_scan.specs.declared.token.TokenKind.TheVariants as kind
use Rattle.luo_scan.specs.Lexemes.{Lexeme}
use Rattle.luo_source.specs.declared.names.Name.{Name}
use Rattle.luo_source.specs.declared.source.ProcDef.{ProcDef}
use Rattle.luo_source.specs.Ends.{No}
use Rattle.luo_syntax.specs.inner.Next.{Misses}
use Rattle.luo_source.specs.Grammar.{IsProc, proc, IsAnalyze, analyze}
use Rattle.luo_syntax.specs.inner.StopsProgram.{BodyStops, no_body, in_block, past_block, in_result, ResultStops, no_result, past_result, in_value, past_value, one_result, one_param, no_left, no_param, no_colon, no_on, no_right, whole_statements, whole_value, no_procedure, no_proc_name, in_param, in_body, no_analyze, no_analyze_name, no_analyze_end}
use Rattle.luo_syntax.proofs.Prefixes.{Moves}
use Rattle.luo_syntax.proofs.Nexts.{is_next}
use Rattle.luo_syntax.proofs.ProcMoves.{body_moves}
use Rattle.luo_syntax.proofs.ProcStuck.{reads_proc, reads_analyze}

pub analyze_shorter : {from to : List Lexeme} {name : Name} → IsAnalyze from to name → length to < length from
analyze_shorter analyze = omega arith

-- what was read isn't longer than what it was read from
moved_no_longer : {Is : List Lexeme → List Lexeme → Type 0} {from to : List Lexeme} → Moves Is from to → length to ≤ length from
moved_no_longer {to} m = omega (arith, ap length (m.cut ∙ m.prefix.is to), length-append m.prefix.list to)

pub proc_shorter : {from to : List Lexeme} {p : ProcDef} → IsProc from to p → length to < length from
proc_shorter (proc p) = omega (arith, moved_no_longer (body_moves p))

pub body_missed : {from mid at : List Lexeme} → Misses (kind.Mark Semicolon) from mid → Misses (kind.Mark Colon) mid at → BodyStops from at
body_missed m n = no_body (n.0 ∙ m.0, m.1) (subst (No (kind.Mark Colon)) m.0 n.1)

pub ruleset proc_steps = (no_left, no_param, no_colon, no_on, no_right, one_param, no_result, past_result, in_value, past_value, one_result, in_block, past_block, in_result, whole_statements, whole_value, no_procedure, no_proc_name, in_param, in_body, reads_proc, no_analyze, no_analyze_name, no_analyze_end, reads_analyze, analyze_shorter, body_missed, is_next)
