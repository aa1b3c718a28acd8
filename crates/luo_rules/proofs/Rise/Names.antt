-- Lexemes at rising numbers, and the breaches of names one behind the other.
use Rattle.std.proofs.Common.{ℕ, suc, ◌+◌, ◌<◌, ◌≤◌, List, [], ◌∷◌, ◌++◌, map, refl, Option, Some, None, arith}
use Rattle.luo_scan.specs.declared.token.Token.{Token}
use Rattle.luo_scan.specs.declared.token.Mark.{Mark}
use Rattle.luo_scan.specs.declared.token.TokenKind.{TokenKind}
use Rattle.luo_scan.specs.Lexemes.{Lexeme, lexeme, lexemes_from}
use Rattle.luo_source.specs.declared.names.Name.{Name}
use Rattle.luo_source.specs.GrammarTypes.{AreNames, last_name, more_names}
use Rattle.luo_rules.specs.declared.names.Meaning.{Meaning}
use Rattle.luo_rules.specs.declared.names.Meaning.TheVariants.{Definition, Measure, Procedure}
use Rattle.luo_rules.specs.declared.rule.Breach.{Breach}
use Rattle.luo_rules.specs.Meanings.{meaning, type_use, measure_use, procedure_use}
use Rattle.luo_rules.specs.Patterns.{is_among, repeated}
use Rattle.luo_rules.specs.TypeBreaches.{is_meaning, name_breaches, new_types, measures_breaches}
use Rattle.luo_rules.proofs.Rise.Lists.{At, none, single, at_if, Within, nothing, borders, lower, higher, joined, placed, led}

-- lexemes at rising numbers, the first at this number or behind it
abbrev pub From : ℕ → List Lexeme → Type 0
From low [] = Unit {0}
From low (lexeme kind bytes at ∷ rest) = (low ≤ at) × From (at + 1) rest

pub numbered : (at : ℕ) (text : List ℕ) (ts : List Token) → From at (lexemes_from at text ts)
numbered at text [] = tt
numbered at text (t ∷ ts) = (omega arith, numbered (at + 1) text ts)

-- what is read from this number on: its breaches rise, and before the lexemes that are left
pub record Spans (low : ℕ) (to : List Lexeme) (bs : List Breach) : Type 0 where
  pub next : ℕ
  pub left : From next to
  pub within : Within low next bs

-- one thing behind another, and a lexeme in between
pub behind : {low j : ℕ} {kind : TokenKind} {bytes : List ℕ} {mid to : List Lexeme} {xs ys : List Breach} → Spans low (lexeme kind bytes j ∷ mid) xs → Spans (j + 1) to ys → Spans low to (xs ++ ys)
behind one two = record { next = two.next; left = two.left; within = joined one.within (omega (arith, one.left.0)) two.within }

-- one thing directly behind another
pub follows : {low : ℕ} {to : List Lexeme} {xs ys : List Breach} (next : ℕ) → Within low next xs → Spans next to ys → Spans low to (xs ++ ys)
follows next w one = record { next = one.next; left = one.left; within = joined {mid = next} {next = next} w (omega arith) one.within }

-- with the lexeme behind it
pub past : {low j : ℕ} {kind : TokenKind} {bytes : List ℕ} {to : List Lexeme} {xs : List Breach} → Spans low (lexeme kind bytes j ∷ to) xs → Spans low to xs
past {j} one = record { next = j + 1; left = one.left.1; within = higher one.within (omega (arith, one.left.0)) }

-- nothing more behind it
pub alone : {low : ℕ} {to : List Lexeme} {xs : List Breach} → Spans low to xs → Spans low to (xs ++ [])
alone one = record { next = one.next; left = one.left; within = joined {next = one.next} one.within (omega arith) (nothing (omega arith)) }

pub from_lower : {low mid : ℕ} {to : List Lexeme} {xs : List Breach} → low ≤ mid → Spans mid to xs → Spans low to xs
from_lower l one = record { next = one.next; left = one.left; within = lower l one.within }

-- at most one breach, and what is read behind its token
pub led_by : {low at : ℕ} {to : List Lexeme} {xs ys : List Breach} → At at xs → low ≤ at → Spans (at + 1) to ys → Spans low to (xs ++ ys)
led_by p l one = record { next = one.next; left = one.left; within = led p l one.within }

-- at most one breach before what is read, in place of its breaches
pub in_place : {low at mid : ℕ} {to : List Lexeme} {xs ys : List Breach} → At at ys → low ≤ at → at < mid → Spans mid to xs → Spans low to ys
in_place p l m one = let b = borders one.within in record { next = one.next; left = one.left; within = placed p l (omega (arith, m, b)) }

-- uses of names
pub type_use_at : (m : Option Meaning) (name : Name) → At name.at (type_use m name)
type_use_at None name = single refl
type_use_at (Some (Definition i)) name = none
type_use_at (Some (Measure number value)) name = single refl
type_use_at (Some (Procedure f)) name = single refl

pub measure_use_at : (m : Option Meaning) (name : Name) → At name.at (measure_use m name)
measure_use_at None name = single refl
measure_use_at (Some (Definition i)) name = single refl
measure_use_at (Some (Measure number value)) name = none
measure_use_at (Some (Procedure f)) name = single refl

pub procedure_use_at : (m : Option Meaning) (name : Name) → At name.at (procedure_use m name)
procedure_use_at None name = single refl
procedure_use_at (Some (Definition i)) name = single refl
procedure_use_at (Some (Measure number value)) name = single refl
procedure_use_at (Some (Procedure f)) name = none

pub name_breaches_at : (names : List (List ℕ × Meaning)) (name : Name) (own : Meaning) → At name.at (name_breaches names name own)
name_breaches_at names name own = at_if (is_meaning (meaning names name.text) own) none (single refl)

-- names at rising tokens between two borders
pub data NamesWithin : ℕ → ℕ → List Name → Type 0 where
  no_name : {low high : ℕ} → low ≤ high → NamesWithin low high []
  name : {low high : ℕ} {n : Name} {ns : List Name} → low ≤ n.at → NamesWithin (n.at + 1) high ns → NamesWithin low high (n ∷ ns)

pub names_lower : {low mid high : ℕ} {ns : List Name} → low ≤ mid → NamesWithin mid high ns → NamesWithin low high ns
names_lower l (no_name m) = no_name (omega (arith, l, m))
names_lower l (name m w) = name (omega (arith, l, m)) w

names_higher : {low mid high : ℕ} {ns : List Name} → NamesWithin low mid ns → mid ≤ high → NamesWithin low high ns
names_higher (no_name l) h = no_name (omega (arith, l, h))
names_higher (name l w) h = name l (names_higher w h)

-- names that are read from this number on
pub record NamesLeft (low : ℕ) (to : List Lexeme) (ns : List Name) : Type 0 where
  pub next : ℕ
  pub left : From next to
  pub within : NamesWithin low next ns

pub names_left : (low : ℕ) {close : Mark} {from to : List Lexeme} {ns : List Name} → AreNames close from to ns → From low from → NamesLeft low to ns
names_left low (last_name {at} {k = j}) h = record { next = j + 1; left = h.1.1; within = name h.0 (no_name (omega (arith, h.1.0))) }
names_left low (more_names {at} {k = j} p) h =
    let rest = names_left (j + 1) p h.1.1 in
    record { next = rest.next; left = rest.left; within = name h.0 (names_lower (omega (arith, h.1.0)) rest.within) }

-- with the lexeme behind them
pub names_past : {low j : ℕ} {kind : TokenKind} {bytes : List ℕ} {to : List Lexeme} {ns : List Name} → NamesLeft low (lexeme kind bytes j ∷ to) ns → NamesLeft low to ns
names_past {j} one = record { next = j + 1; left = one.left.1; within = names_higher one.within (omega (arith, one.left.0)) }

-- the breaches of names one behind the other
pub new_types_within : (names : List (List ℕ × Meaning)) (i : ℕ) {low high : ℕ} {ns : List Name} → NamesWithin low high ns → Within low high (new_types names i ns)
new_types_within names i (no_name l) = nothing l
new_types_within names i (name {n} l w) = led (name_breaches_at names n (Definition i)) l (new_types_within names (suc i) w)

pub repeated_within : (earlier : List Name) {low high : ℕ} {ns : List Name} → NamesWithin low high ns → Within low high (repeated earlier ns)
repeated_within earlier (no_name l) = nothing l
repeated_within earlier (name {n} l w) = led (at_if (is_among n.text earlier) (single refl) none) l (repeated_within (earlier ++ n ∷ []) w)

-- the breaches of measures of one value, and of those behind them
pub measures_within : (names : List (List ℕ × Meaning)) (number value : ℕ) {low mid high : ℕ} {ns : List Name} (rest : List (Name × ℕ)) → NamesWithin low mid ns → ((k : ℕ) → Within mid high (measures_breaches names k rest)) → Within low high (measures_breaches names number (map (λ n. (n, value)) ns ++ rest))
measures_within names number value rest (no_name l) w = lower l (w number)
measures_within names number value rest (name {n} l v) w = led (name_breaches_at names n (Measure number value)) l (measures_within names (suc number) value rest v w)
