-- How definitions are put together from what is read.
use Rattle.std.proofs.Common.{ℕ, ◌<◌, List, length, arith}
use Rattle.luo_scan.specs.declared.token.Word.TheVariants.{KwType, KwMeasure}
use Rattle.luo_scan.specs.declared.token.Mark.TheVariants.{Equals, Semicolon, Colon}
use Rattle.luo_scan.specs.declared.token.TokenKind.TheVariants as kind
use Rattle.luo_scan.specs.Lexemes.{Lexeme}
use Rattle.luo_source.specs.declared.names.Name.{Name}
use Rattle.luo_source.specs.declared.types.TypeExpr.{TypeExpr}
use Rattle.luo_source.specs.declared.types.TypeDef.{TypeDef}
use Rattle.luo_source.specs.declared.types.MeasureDef.{MeasureDef}
use Rattle.luo_syntax.specs.inner.Next.{IsNext, next}
use Rattle.luo_source.specs.GrammarTypes.{AreNames, IsExpr, IsTypeDef, type_def, IsMeasure, measure_def}
use Rattle.luo_syntax.specs.inner.StopsTypes.{no_type, type_names, type_body, type_end, no_measure, measure_names, measure_number, measure_end}
use Rattle.luo_syntax.proofs.NamesSoFar.{names_shorter}
use Rattle.luo_syntax.proofs.TermSteps.{expr_shorter}

pub type_def_shorter : {from to : List Lexeme} {d : TypeDef} → IsTypeDef from to d → length to < length from
type_def_shorter (type_def p q) = omega (arith, names_shorter p, expr_shorter q)

pub measure_shorter : {from to : List Lexeme} {d : MeasureDef} → IsMeasure from to d → length to < length from
measure_shorter (measure_def p) = omega (arith, names_shorter p)

pub reads_type_def : {from mid rest last to : List Lexeme} {names : List Name} {body : TypeExpr} → IsNext (kind.Word KwType) from mid → AreNames Equals mid rest names → IsExpr rest last body → IsNext (kind.Mark Semicolon) last to → IsTypeDef from to (record { names = names; body = body })
reads_type_def next p q next = type_def p q

pub reads_measure : {from mid rest last to : List Lexeme} {names : List Name} {value : ℕ} → IsNext (kind.Word KwMeasure) from mid → AreNames Colon mid rest names → IsNext (kind.Number value) rest last → IsNext (kind.Mark Semicolon) last to → IsMeasure from to (record { names = names; value = value })
reads_measure next p next next = measure_def p

pub ruleset definition_steps = (type_def_shorter, measure_shorter, reads_type_def, reads_measure, no_type, type_names, type_body, type_end, no_measure, measure_names, measure_number, measure_end)
