-- The breaches of a source stand at rising tokens.
use Rattle.std.proofs.Common.{◌≡◌, ℕ, suc, ◌+◌, ◌<◌, ◌≤◌, List, [], ◌++◌, map, length, refl, subst, Option, Some, None, arith}
use Rattle.std.specs.List.{flat_map}
use Rattle.luo_finite.specs.Listing.{In}
use Rattle.luo_model.specs.declared.program.Universe.{Universe}
use Rattle.luo_model.specs.declared.program.Universe.TheVariants.{Unlabelled, Labelled}
use Rattle.luo_scan.specs.Lexemes.{Lexeme}
use Rattle.luo_source.specs.declared.names.Name.{Name}
use Rattle.luo_source.specs.declared.types.MeasureDef.{MeasureDef}
use Rattle.luo_source.specs.Plain.Source.{ProcDef, Source}
use Rattle.luo_source.specs.GrammarTypes.{IsTypeDef, type_def, IsMeasure, measure_def}
use Rattle.luo_source.specs.Grammar.{IsProcBody, statements_body, value_body, IsProc, proc, IsAnalyze, analyze, AreAnalyses, last_analysis, more_analyses, FromProcs, no_procs, more_procs, FromMeasures, no_measures, more_measures, FromTypes, no_types, more_types, IsProgram, labelled, unlabelled, unlabelled_unsaid}
use Rattle.luo_source.specs.declared.types.TypeDef as read
use Rattle.luo_source.specs.declared.source.ProcBody as bodies
use Rattle.luo_source.specs.declared.source.ProcDef as procs
use Rattle.luo_source.specs.declared.source.Source as declared
use Rattle.luo_source.specs.View.{type_def_of, proc_body_of, proc_def_of, plain_source}
use Rattle.luo_rules.specs.declared.names.Meaning.{Meaning}
use Rattle.luo_rules.specs.declared.names.Meaning.TheVariants as mean
use Rattle.luo_rules.specs.declared.rule.Breach.{Breach}
use Rattle.luo_rules.specs.declared.setting.Setting.{Setting}
use Rattle.luo_rules.specs.Meanings.{procedure_use}
use Rattle.luo_rules.specs.Settings.{meant, type_node}
use Rattle.luo_rules.specs.Definitions.{Definition, definitions, names_of, values}
use Rattle.luo_rules.specs.TypeBreaches.{type_breaches, types_breaches, measures_breaches}
use Rattle.luo_rules.specs.Nodes.{setting_of}
use Rattle.luo_rules.specs.Whole.{result_breaches, parameter, body_breaches, proc_breaches, procs_breaches, breaches}
use Rattle.luo_rules.specs.Checks.{IsSource, BreaksFirst}
use Rattle.luo_rules.specs.Rising.{Rises}
use Rattle.luo_rules.proofs.Rise.Lists.{At, none, single, Within, nothing, borders, lower, higher, joined, placed, led, within_or, rises, in_order, first_is_least, single_at}
use Rattle.luo_rules.proofs.Rise.Names.{From, numbered, Spans, past, follows, alone, from_lower, NamesLeft, names_lower, names_left, names_past, new_types_within, measures_within, type_use_at, procedure_use_at, name_breaches_at}
use Rattle.luo_rules.proofs.Rise.Types.{side_spans}
use Rattle.luo_rules.proofs.Rise.Patterns.{emptied}
use Rattle.luo_rules.proofs.Rise.Statements.{block_spans}
use Rattle.luo_rules.proofs.Rise.Values.{value_spans}

type_def_spans : (u : Universe) (names : List (List ℕ × Meaning)) (defs : List Definition) (i low : ℕ) {from to : List Lexeme} {d : read.TypeDef} → IsTypeDef from to d → From low from → Spans low to (type_breaches u names defs i (type_def_of d))
type_def_spans u names defs i low (type_def {k = j} {names = owners} p q) h =
    let own = names_left (j + 1) p h.1 in
    follows own.next (lower (omega (arith, h.0)) (new_types_within names i own.within)) (past (side_spans u names defs i owners own.next q own.left))

measure_left : (low : ℕ) {from to : List Lexeme} {d : MeasureDef} → IsMeasure from to d → From low from → NamesLeft low to d.names
measure_left low (measure_def {k = j} p) h =
    let read = names_past (names_past (names_left (j + 1) p h.1)) in
    record { next = read.next; left = read.left; within = names_lower (omega (arith, h.0)) read.within }

result_at : (u : Universe) (colon : ℕ) (name : Name) → At colon (result_breaches u colon name)
result_at Unlabelled colon name = none
result_at Labelled colon name = single refl

body_spans : (s : Setting) (p : ProcDef) (node : Option ℕ) (low : ℕ) {from to : List Lexeme} {body : bodies.ProcBody} → IsProcBody from to body → From low from → Spans low to (body_breaches s p node (proc_body_of body))
body_spans s p None low (statements_body {k = j} q) h = emptied (from_lower (omega (arith, h.0)) (block_spans s [] (j + 1) q h.1))
body_spans s p (Some node) low (statements_body {k = j} q) h = from_lower (omega (arith, h.0)) (block_spans s (parameter s p) (j + 1) q h.1)
body_spans s p None low (value_body {text} {colon} {at} {k = j} q) h =
    let result : Name = record { text = text; at = at } in
    let value = value_spans s [] None (j + 1) q h.1.1.1 in
    let typed = placed (type_use_at (meant s result) result) h.1.0 (omega (arith, h.1.1.0)) in
    record { next = value.next; left = value.left; within = higher (led (result_at s.universe colon p.name) h.0 typed) (borders value.within) }
body_spans s p (Some node) low (value_body {text} {colon} {at} {k = j} q) h =
    let result : Name = record { text = text; at = at } in
    let value = value_spans s (parameter s p) (type_node s result) (j + 1) q h.1.1.1 in
    let typed = placed (type_use_at (meant s result) result) h.1.0 (omega (arith, h.1.1.0)) in
    follows (j + 1) (led (result_at s.universe colon p.name) h.0 typed) value

proc_spans : (s : Setting) (f low : ℕ) {from to : List Lexeme} {p : procs.ProcDef} → IsProc from to p → From low from → Spans low to (proc_breaches s f (proc_def_of p))
proc_spans s f low (proc {text} {param} {type} {at} {param_at} {type_at} {n} {body} q) h =
    let name : Name = record { text = text; at = at } in
    let on : Name = record { text = type; at = type_at } in
    let def : ProcDef = record { name = name; param = record { text = param; at = param_at }; on = on; body = proc_body_of body } in
    let typed = placed {low = at + 1} {high = n + 1} (type_use_at (meant s on) on) (omega (arith, h.1.1.0, h.1.1.1.0, h.1.1.1.1.0, h.1.1.1.1.1.0)) (omega (arith, h.1.1.1.1.1.1.0)) in
    follows (n + 1) (led (name_breaches_at s.names name (mean.Procedure f)) (omega (arith, h.0, h.1.0)) typed) (past (body_spans s def (type_node s on) (n + 1) q h.1.1.1.1.1.1.1))

abbrev pub analysed : Setting → List Name → List Breach
analysed s names = flat_map (λ name. procedure_use (meant s name) name) names

analyze_spans : (s : Setting) (low : ℕ) {from to : List Lexeme} {name : Name} → IsAnalyze from to name → From low from → Spans low to (procedure_use (meant s name) name)
analyze_spans s low (analyze {text} {at} {l}) h =
    let name : Name = record { text = text; at = at } in
    record { next = l + 1; left = h.1.1.1; within = placed (procedure_use_at (meant s name) name) (omega (arith, h.0, h.1.0)) (omega (arith, h.1.1.0)) }

analyses_spans : (s : Setting) (low : ℕ) {from to : List Lexeme} {names : List Name} → AreAnalyses from to names → From low from → Spans low to (analysed s names)
analyses_spans s low (last_analysis p) h = alone (analyze_spans s low p h)
analyses_spans s low (more_analyses p ps) h =
    let one = analyze_spans s low p h in
    follows one.next one.within (analyses_spans s one.next ps one.left)

-- procedures, and analyze lines behind them
record Bodies (low : ℕ) (to : List Lexeme) (procs analyses : List Breach) : Type 0 where
  middle : ℕ
  before : Within low middle procs
  after : Spans middle to analyses

bodies_spans : (s : Setting) (f low : ℕ) {from to : List Lexeme} {ps : List procs.ProcDef} {names : List Name} → FromProcs from to ps names → From low from → Bodies low to (procs_breaches s f (map proc_def_of ps)) (analysed s names)
bodies_spans s f low (no_procs p) h = record { middle = low; before = nothing (omega arith); after = analyses_spans s low p h }
bodies_spans s f low (more_procs p ps) h =
    let one = proc_spans s f low p h in
    let more = bodies_spans s (suc f) one.next ps one.left in
    record { middle = more.middle; before = joined {mid = one.next} {next = one.next} one.within (omega arith) more.before; after = more.after }

-- measures from each number on, and what is behind them
record Measures (names : List (List ℕ × Meaning)) (low : ℕ) (to : List Lexeme) (ms : List (Name × ℕ)) (bodies : List Breach) : Type 0 where
  middle : ℕ
  before : (k : ℕ) → Within low middle (measures_breaches names k ms)
  after : Spans middle to bodies

measures_spans : (names : List (List ℕ × Meaning)) (s : Setting) (low : ℕ) {from to : List Lexeme} {ms : List MeasureDef} {ps : List procs.ProcDef} {analyses : List Name} → FromMeasures from to ms ps analyses → From low from → Measures names low to (flat_map values ms) (procs_breaches s 0 (map proc_def_of ps) ++ analysed s analyses)
measures_spans names s low (no_measures p) h =
    let bodies = bodies_spans s 0 low p h in
    record { middle = low; before = λ k. nothing (omega arith); after = follows bodies.middle bodies.before bodies.after }
measures_spans names s low (more_measures {m} {measures = ms} p ps) h =
    let own = measure_left low p h in
    let more = measures_spans names s own.next ps own.left in
    record { middle = more.middle; before = λ k. measures_within names k m.value (flat_map values ms) own.within more.before; after = more.after }

-- definitions, and what is behind them
record Types (names : List (List ℕ × Meaning)) (low : ℕ) (to : List Lexeme) (types : List Breach) (ms : List (Name × ℕ)) (bodies : List Breach) : Type 0 where
  middle : ℕ
  before : Within low middle types
  after : Measures names middle to ms bodies

types_spans : (u : Universe) (names : List (List ℕ × Meaning)) (defs : List Definition) (s : Setting) (i low : ℕ) {from to : List Lexeme} {ts : List read.TypeDef} {ms : List MeasureDef} {ps : List procs.ProcDef} {analyses : List Name} → FromTypes from to ts ms ps analyses → From low from → Types names low to (types_breaches u names defs i (map type_def_of ts)) (flat_map values ms) (procs_breaches s 0 (map proc_def_of ps) ++ analysed s analyses)
types_spans u names defs s i low (no_types p) h = record { middle = low; before = nothing (omega arith); after = measures_spans names s low p h }
types_spans u names defs s i low (more_types {t} p ps) h =
    let one = type_def_spans u names defs i low p h in
    let more = types_spans u names defs s (i + length t.names) one.next ps one.left in
    record { middle = more.middle; before = joined {mid = one.next} {next = one.next} one.within (omega arith) more.before; after = more.after }

-- the breaches of definitions and measures stand before those of procedures and analyze lines
abbrev pub InOrder : Source → Type 0
InOrder source = (a b : Breach) → In a (types_breaches source.universe (names_of source) (definitions source) 0 source.types ++ measures_breaches (names_of source) 0 (flat_map values source.measures))
    → In b (procs_breaches (setting_of source) 0 source.procs ++ analysed (setting_of source) source.analyses) → a.token < b.token

source_order : (source : declared.Source) (low : ℕ) {from to : List Lexeme} → FromTypes from to source.types source.measures source.procs source.analyses → From low from → InOrder (plain_source source)
source_order read low p h a b i j =
    let source = plain_source read in
    let read = types_spans source.universe (names_of source) (definitions source) (setting_of source) 0 low p h in
    in_order (joined {mid = read.middle} {next = read.middle} read.before (omega arith) (read.after.before 0)) read.after.after.within a b i j

program_order : (low : ℕ) {from to : List Lexeme} {source : declared.Source} → IsProgram from to source → From low from → InOrder (plain_source source)
program_order low (labelled {l} {types} {measures} {procs} {names} p) h = source_order (record { universe = Labelled; types = types; measures = measures; procs = procs; analyses = names }) (l + 1) p h.1.1
program_order low (unlabelled {l} {types} {measures} {procs} {names} p) h = source_order (record { universe = Unlabelled; types = types; measures = measures; procs = procs; analyses = names }) (l + 1) p h.1.1
program_order low (unlabelled_unsaid {types} {measures} {procs} {names} p) h = source_order (record { universe = Unlabelled; types = types; measures = measures; procs = procs; analyses = names }) low p h

pub first_in_order : (source : Source) → IsSource source → InOrder source
first_in_order source is = subst InOrder is.shown (program_order 0 is.derived (numbered 0 is.text is.tokens))

source_rises : (source : declared.Source) (low : ℕ) {from to : List Lexeme} → FromTypes from to source.types source.measures source.procs source.analyses → From low from → Rises (breaches (plain_source source))
source_rises read low p h =
    let source = plain_source read in
    let read = types_spans source.universe (names_of source) (definitions source) (setting_of source) 0 low p h in
    let rest = read.after.after in
    let first = joined {mid = read.middle} {next = read.middle} read.before (omega arith) (read.after.before 0) in
    rises (within_or (higher first (borders rest.within)) (lower (borders first) rest.within))

program_rises : (low : ℕ) {from to : List Lexeme} {source : declared.Source} → IsProgram from to source → From low from → Rises (breaches (plain_source source))
program_rises low (labelled {l} {types} {measures} {procs} {names} p) h = source_rises (record { universe = Labelled; types = types; measures = measures; procs = procs; analyses = names }) (l + 1) p h.1.1
program_rises low (unlabelled {l} {types} {measures} {procs} {names} p) h = source_rises (record { universe = Unlabelled; types = types; measures = measures; procs = procs; analyses = names }) (l + 1) p h.1.1
program_rises low (unlabelled_unsaid {types} {measures} {procs} {names} p) h = source_rises (record { universe = Unlabelled; types = types; measures = measures; procs = procs; analyses = names }) low p h

-- the breaches of a source are in the order of the text, each at a token of its own
pub breaches_rise : (source : Source) → IsSource source → Rises (breaches source)
breaches_rise source is = subst (λ z. Rises (breaches z)) is.shown (program_rises 0 is.derived (numbered 0 is.text is.tokens))

pub first_breach_is_least : (source : Source) (one other : Breach) → IsSource source → BreaksFirst source one → In other (breaches source) → one.token ≤ other.token
first_breach_is_least source one other is (rest, e) i =
    first_is_least one other rest (subst Rises e (breaches_rise source is)) (subst (In other) e i)

pub breaches_are_single : (source : Source) (one other : Breach) → IsSource source → In one (breaches source) → In other (breaches source) → one.token ≡ other.token → one ≡ other
breaches_are_single source one other is i j e = single_at (breaches source) (breaches_rise source is) one other i j e
