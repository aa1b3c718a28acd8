-- What the grammar and the scan give of a source: proper right sides and bodies, and measures within the limit of numbers.
use Rattle.std.proofs.Common.{◌≤◌, List, Option, map, subst}
use Rattle.std.specs.List.{AllByRecursion}
use Rattle.luo_num.specs.declared.limits.TheConstants.{NUMBER_LIMIT}
use Rattle.luo_scan.specs.declared.token.Mark.{Mark}
use Rattle.luo_scan.specs.Laws.{IsFit}
use Rattle.luo_scan.specs.Lexemes.{Lexeme}
use Rattle.luo_scan.proofs.Inside.{lexemes_fit}
use Rattle.luo_source.specs.declared.names.Name.{Name}
use Rattle.luo_source.specs.declared.types.Range.{Range}
use Rattle.luo_source.specs.declared.types.Bound.{Bound}
use Rattle.luo_source.specs.declared.types.TypeExpr.{TypeExpr}
use Rattle.luo_source.specs.declared.types.TypeDef as read
use Rattle.luo_source.specs.declared.source.ProcBody as held
use Rattle.luo_source.specs.declared.source.ProcDef as told
use Rattle.luo_source.specs.declared.source.Source as declared
use Rattle.luo_source.specs.Plain.Types.{TypeDef}
use Rattle.luo_source.specs.View.{type_def_of, proc_body_of, proc_def_of, plain_source}
use Rattle.luo_source.specs.declared.types.MeasureDef.{MeasureDef}
use Rattle.luo_source.specs.Plain.Source.{ProcBody, Statements, Value, ProcDef, Source}
use Rattle.luo_source.specs.GrammarTypes.{AreNames, last_name, more_names, IsRange, exactly, at_most, at_least, between, EndsCollection, unbounded, bounded, IsExpr, one_term, union, AreTerms, last_term, more_terms, IsTerm, named, epsilon, atom, product, collection, AreFactors, last_factor, more_factors, IsTypeDef, type_def, IsMeasure, measure_def}
use Rattle.luo_source.specs.Grammar.{IsProcBody, statements_body, value_body, IsProc, proc, FromProcs, no_procs, more_procs, FromMeasures, no_measures, more_measures, FromTypes, no_types, more_types, IsProgram, labelled, unlabelled, unlabelled_unsaid}
use Rattle.luo_rules.specs.Checks.{IsSource}
use Rattle.luo_rules.proofs.NameFacts.{ValuesWithin}
use Rattle.luo_rules.proofs.ProperTypes.{ProperType, expr_proper}
use Rattle.luo_rules.proofs.ProperBodies.{ProperStmts, ProperValue, block_proper, value_proper}

abbrev AllFit : List Lexeme → Type 0
AllFit ls = AllByRecursion IsFit ls

-- what is left behind a thing of the grammar is fit too
names_rest : {close : Mark} {from to : List Lexeme} {names : List Name} → AreNames close from to names → AllFit from → AllFit to
names_rest last_name h = h.1.1
names_rest (more_names p) h = names_rest p h.1.1

range_rest : {from to : List Lexeme} {r : Range} → IsRange from to r → AllFit from → AllFit to
range_rest exactly h = h.1.1
range_rest at_most h = h.1.1
range_rest at_least h = h.1.1
range_rest between h = h.1.1.1.1

ends_rest : {from to : List Lexeme} {b : Option Bound} → EndsCollection from to b → AllFit from → AllFit to
ends_rest unbounded h = h.1
ends_rest (bounded p) h = (range_rest p h.1.1).1

mutual
  expr_rest : {from to : List Lexeme} {t : TypeExpr} → IsExpr from to t → AllFit from → AllFit to
  expr_rest (one_term p) h = term_rest p h
  expr_rest (union p ps) h = terms_rest ps (term_rest p h).1

  terms_rest : {from to : List Lexeme} {ts : List TypeExpr} → AreTerms from to ts → AllFit from → AllFit to
  terms_rest (last_term p) h = term_rest p h
  terms_rest (more_terms p ps) h = terms_rest ps (term_rest p h).1

  term_rest : {from to : List Lexeme} {t : TypeExpr} → IsTerm from to t → AllFit from → AllFit to
  term_rest named h = h.1
  term_rest epsilon h = h.1
  term_rest atom h = h.1.1.1.1
  term_rest (product p ps) h = factors_rest ps (expr_rest p h.1.1).1
  term_rest (collection w p x) h = ends_rest x (expr_rest p h.1.1)

  factors_rest : {from to : List Lexeme} {ts : List TypeExpr} → AreFactors from to ts → AllFit from → AllFit to
  factors_rest (last_factor p) h = (expr_rest p h).1
  factors_rest (more_factors p ps) h = factors_rest ps (expr_rest p h).1

type_def_rest : {from to : List Lexeme} {d : read.TypeDef} → IsTypeDef from to d → AllFit from → AllFit to
type_def_rest (type_def p q) h = (expr_rest q (names_rest p h.1)).1

measure_rest : {from to : List Lexeme} {d : MeasureDef} → IsMeasure from to d → AllFit from → (d.value ≤ NUMBER_LIMIT) × AllFit to
measure_rest (measure_def p) h = let rest = names_rest p h.1 in (rest.0.1, rest.1.1)

-- the body of a procedure is proper
abbrev pub ProperBody : ProcBody → Type 0
ProperBody (Statements stmts) = ProperStmts stmts
ProperBody (Value colon result value) = ProperValue value

abbrev pub ProperDef : TypeDef → Type 0
ProperDef d = ProperType d.body

abbrev pub ProperProc : ProcDef → Type 0
ProperProc p = ProperBody p.body

body_proper : {from to : List Lexeme} {body : held.ProcBody} → IsProcBody from to body → ProperBody (proc_body_of body)
body_proper (statements_body p) = block_proper p
body_proper (value_body p) = value_proper p

proc_proper : {from to : List Lexeme} {p : told.ProcDef} → IsProc from to p → ProperProc (proc_def_of p)
proc_proper (proc p) = body_proper p

procs_proper : {from to : List Lexeme} {ps : List told.ProcDef} {names : List Name} → FromProcs from to ps names → AllByRecursion ProperProc (map proc_def_of ps)
procs_proper (no_procs p) = tt
procs_proper (more_procs p ps) = (proc_proper p, procs_proper ps)

from_measures : {from to : List Lexeme} {ds : List MeasureDef} {ps : List told.ProcDef} {names : List Name} → FromMeasures from to ds ps names → AllFit from → ValuesWithin NUMBER_LIMIT ds × AllByRecursion ProperProc (map proc_def_of ps)
from_measures (no_measures p) h = (tt, procs_proper p)
from_measures (more_measures p ps) h = let rest = measure_rest p h in let more = from_measures ps rest.1 in ((rest.0, more.0), more.1)

def_proper : {from to : List Lexeme} {d : read.TypeDef} → IsTypeDef from to d → ProperDef (type_def_of d)
def_proper (type_def p q) = expr_proper q

-- a source is proper
pub record ProperSource (types : List TypeDef) (measures : List MeasureDef) (procs : List ProcDef) : Type 0 where
  pub right_sides : AllByRecursion ProperDef types
  pub values : ValuesWithin NUMBER_LIMIT measures
  pub bodies : AllByRecursion ProperProc procs

from_types : {from to : List Lexeme} {ts : List read.TypeDef} {ds : List MeasureDef} {ps : List told.ProcDef} {names : List Name} → FromTypes from to ts ds ps names → AllFit from → ProperSource (map type_def_of ts) ds (map proc_def_of ps)
from_types (no_types p) h = let more = from_measures p h in record { right_sides = tt; values = more.0; bodies = more.1 }
from_types (more_types p ps) h =
    let more = from_types ps (type_def_rest p h) in
    record { right_sides = (def_proper p, more.right_sides); values = more.values; bodies = more.bodies }

program_proper : {from to : List Lexeme} {s : declared.Source} → IsProgram from to s → AllFit from → ProperSource (plain_source s).types (plain_source s).measures (plain_source s).procs
program_proper (labelled p) h = from_types p h.1.1
program_proper (unlabelled p) h = from_types p h.1.1
program_proper (unlabelled_unsaid p) h = from_types p h

pub source_proper : (source : Source) → IsSource source → ProperSource source.types source.measures source.procs
source_proper source is = subst (λ (z : Source). ProperSource z.types z.measures z.procs) is.shown (program_proper is.derived (lexemes_fit is.text is.tokens is.scanned))
