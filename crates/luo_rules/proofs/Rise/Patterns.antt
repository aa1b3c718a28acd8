-- The breaches of patterns, of variables and of cases stand at rising tokens.
use Rattle.std.proofs.Common.{ℕ, ◌+◌, ◌<◌, ◌≤◌, List, [], ◌∷◌, length, refl, Bool, true, false, Option, Some, None, nat_eq, arith}
use Rattle.std.specs.Prelude.{if◌then◌else◌}
use Rattle.luo_model.specs.Scopes.Stands.{Stand}
use Rattle.luo_scan.specs.declared.token.TokenKind.{TokenKind}
use Rattle.luo_scan.specs.Lexemes.{Lexeme, lexeme}
use Rattle.luo_source.specs.declared.names.Name.{Name}
use Rattle.luo_source.specs.declared.statements.Pattern.{Pattern}
use Rattle.luo_source.specs.declared.statements.Pattern.TheVariants as pattern
use Rattle.luo_source.specs.GrammarStatements.{IsPattern, pattern_named, pattern_whole, pattern_named_parts, pattern_parts, pattern_any, pattern_any_whole}
use Rattle.luo_model.specs.declared.program.Part.{Part}
use Rattle.luo_rules.specs.declared.rule.Breach.{Breach}
use Rattle.luo_rules.specs.declared.setting.Setting.{Setting}
use Rattle.luo_rules.specs.Settings.{meant, argument_breaches, case_stands}
use Rattle.luo_rules.specs.Patterns.{fits, first_token, pattern_type_use, factor_names, misfit, pattern_breaches, arm_breaches, case_breaches}
use Rattle.luo_rules.proofs.Rise.Lists.{At, none, single, at_if, at_or, nothing, borders, led, within_if}
use Rattle.luo_rules.proofs.Rise.Names.{From, Spans, behind, in_place, from_lower, NamesWithin, no_name, names_lower, names_left, repeated_within, type_use_at}

-- a pattern that is read from this number on
record PatternLeft (low : ℕ) (to : List Lexeme) (p : Pattern) : Type 0 where
  next : ℕ
  left : From next to
  start : low ≤ first_token p
  within : NamesWithin (first_token p + 1) next (factor_names p)

pattern_left : (low : ℕ) {from to : List Lexeme} {p : Pattern} → IsPattern from to p → From low from → PatternLeft low to p
pattern_left low (pattern_named {at}) h = record { next = at + 1; left = h.1; start = h.0; within = no_name (omega arith) }
pattern_left low (pattern_whole {at} {inner_at}) h = record { next = inner_at + 1; left = h.1.1.1; start = h.0; within = no_name (omega (arith, h.1.0, h.1.1.0)) }
pattern_left low (pattern_named_parts {at} {k = j} p) h =
    let names = names_left (j + 1) p h.1.1 in
    record { next = names.next; left = names.left; start = h.0; within = names_lower (omega (arith, h.1.0)) names.within }
pattern_left low (pattern_parts {at} p) h =
    let names = names_left (at + 1) p h.1 in
    record { next = names.next; left = names.left; start = h.0; within = names.within }
pattern_left low (pattern_any {at}) h = record { next = at + 1; left = h.1; start = h.0; within = no_name (omega arith) }
pattern_left low (pattern_any_whole {at} {name_at}) h = record { next = name_at + 1; left = h.1.1.1; start = h.0; within = no_name (omega (arith, h.1.0, h.1.1.0)) }

pattern_type_use_at : (s : Setting) (p : Pattern) → At (first_token p) (pattern_type_use s p)
pattern_type_use_at s (pattern.Named type) = type_use_at (meant s type) type
pattern_type_use_at s (pattern.NamedWhole type name) = type_use_at (meant s type) type
pattern_type_use_at s (pattern.NamedParts type names) = type_use_at (meant s type) type
pattern_type_use_at s (pattern.Parts names at) = none
pattern_type_use_at s (pattern.Any at) = none
pattern_type_use_at s (pattern.AnyWhole name at) = none

misfit_at : (fit : Bool) (p : Pattern) (var : Name) → At (first_token p) (misfit fit p var)
misfit_at true p var = none
misfit_at false p var = single refl

pub pattern_spans : (s : Setting) (stand : Stand) (var : Name) (low : ℕ) {from to : List Lexeme} {p : Pattern} → IsPattern from to p → From low from → Spans low to (pattern_breaches s stand var p)
pattern_spans s stand var low {p} is h =
    let read = pattern_left low is h in
    record { next = read.next; left = read.left; within = led (at_or (pattern_type_use_at s p) (misfit_at (fits s stand p) p var)) read.start (repeated_within [] read.within) }

-- what is spoken of where a test passes
spans_if : {low : ℕ} {to : List Lexeme} {xs : List Breach} (test : Bool) → Spans low to xs → Spans low to (if test then xs else [])
spans_if test one = record { next = one.next; left = one.left; within = within_if test one.within }

-- nothing is spoken of
pub emptied : {low : ℕ} {to : List Lexeme} {xs : List Breach} → Spans low to xs → Spans low to []
emptied one = record { next = one.next; left = one.left; within = nothing (borders one.within) }

pub arm_spans : (s : Setting) (stand : Stand) (var : Name) (p : Pattern) {low j : ℕ} {kind : TokenKind} {bytes : List ℕ} {mid to : List Lexeme} {body : List Breach} → Spans low (lexeme kind bytes j ∷ mid) (pattern_breaches s stand var p) → Spans (j + 1) to body → Spans low to (arm_breaches s stand var p body)
arm_spans s stand var p one body = behind one (spans_if (fits s stand p) body)

pub argument_at : (there : Option (ℕ × Part)) (on : Option ℕ) (arg callee : Name) → At arg.at (argument_breaches there on arg callee)
argument_at None on arg callee = single refl
argument_at (Some variable) None arg callee = none
argument_at (Some variable) (Some node) arg callee = at_if (nat_eq variable.1.node node) none (single refl)

-- a case on a variable before its arms
case_if : {low mid at : ℕ} {to : List Lexeme} {inner other : List Breach} (test : Bool) → low ≤ at → at < mid → At at other → Spans mid to inner → Spans low to (if test then inner else other)
case_if true l m p one = from_lower (omega (arith, l, m)) one
case_if false l m p one = in_place p l m one

pub case_spans : (s : Setting) (there : Option (ℕ × Part)) (var : Name) (arms : ℕ) {low mid : ℕ} {to : List Lexeme} {inner : List Breach} → low ≤ var.at → var.at < mid → Spans mid to inner → Spans low to (case_breaches s there var arms inner)
case_spans s None var arms l m one = in_place (single refl) l m one
case_spans s (Some variable) var arms l m one = case_if (nat_eq arms (length (case_stands s (Some variable)))) l m (single refl) one
