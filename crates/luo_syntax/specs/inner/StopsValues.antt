-- Parts of values, where reading a value stops, and where a value ends.
use Rattle.std.specs.Prelude.{◌≡◌, ℕ, List, ◌∷◌}
use Rattle.luo_scan.specs.declared.token.Word.TheVariants.{KwAtom, KwProduct, KwCase, KwOf, KwEnd}
use Rattle.luo_scan.specs.declared.token.Mark.TheVariants.{Semicolon, Comma, LeftRound, RightRound, Colon}
use Rattle.luo_scan.specs.declared.token.TokenKind.TheVariants as kind
use Rattle.luo_scan.specs.Lexemes.{Lexeme, lexeme}
use Rattle.luo_source.specs.declared.names.Name.{Name}
use Rattle.luo_source.specs.declared.statements.Pattern.{Pattern}
use Rattle.luo_source.specs.declared.values.SourceValue.{SourceValue}
use Rattle.luo_source.specs.declared.values.SourceValue.TheVariants.{Given, Branch, Case}
use Rattle.luo_source.specs.declared.values.SourceValueArm.{SourceValueArm}
use Rattle.luo_source.specs.GrammarStatements.{IsPattern}
use Rattle.luo_source.specs.GrammarValues.{IsValue, IsBranch, IsInner, AreParts, AreValueArms, IsValueArm}
use Rattle.luo_source.specs.Ends.{No, EndsValue}
use Rattle.luo_syntax.specs.inner.Next.{IsNext, IsNextAt, IsName, NoName, NoNumber, Misses, MissesName, MissesNumber}
use Rattle.luo_syntax.specs.inner.StopsPatterns.{PatternEnds, PatternStops}

-- ":" inner
pub data IsNumbered : List Lexeme → List Lexeme → SourceValue → Type 0 where
  numbered : {from to : List Lexeme} {b : List ℕ} {k : ℕ} {v : SourceValue} → IsInner from to v
      → IsNumbered (lexeme (kind.Mark Colon) b k ∷ from) to v

-- branch ")"
pub data IsBracketed : List Lexeme → List Lexeme → SourceValue → Type 0 where
  in_round : {from to : List Lexeme} {b : List ℕ} {k : ℕ} {v : SourceValue}
      → IsBranch from (lexeme (kind.Mark RightRound) b k ∷ to) v → IsBracketed from to v

-- "(" value "," value {"," value} ")"
pub data IsTuple : List Lexeme → List Lexeme → List SourceValue → Type 0 where
  parts : {from mid to : List Lexeme} {b c : List ℕ} {k l : ℕ} {v : SourceValue}
      {vs : List SourceValue} → IsValue from (lexeme (kind.Mark Comma) c l ∷ mid) v
      → AreParts mid to vs → IsTuple (lexeme (kind.Mark LeftRound) b k ∷ from) to (v ∷ vs)

-- name "of" pattern ":" value {";" pattern ":" value} "end"
pub data IsValueCase : List Lexeme → List Lexeme → SourceValue → Type 0 where
  arms_of : {from to : List Lexeme} {text b : List ℕ} {at k : ℕ} {arms : List SourceValueArm}
      → AreValueArms from to arms
      → IsValueCase (lexeme kind.Name text at ∷ lexeme (kind.Word KwOf) b k ∷ from) to
      (Case (record { text = text; at = at }) arms)

-- name ")"
pub data IsMade : List Lexeme → List Lexeme → Name → Type 0 where
  made_on : {to : List Lexeme} {text b : List ℕ} {at k : ℕ}
      → IsMade (lexeme kind.Name text at ∷ lexeme (kind.Mark RightRound) b k ∷ to) to
      (record { text = text; at = at })

-- a value of this form, without a branch's number, isn't gone on with here
abbrev pub InnerEnds : SourceValue → List Lexeme → Type 0
InnerEnds (Given name) ls = EndsValue ls
InnerEnds other ls = Unit {0}

-- a value is read from these lexemes to those, and isn't gone on with there
pub data WholeValue : List Lexeme → List Lexeme → SourceValue → Type 0 where
  whole_branch : {from mid to : List Lexeme} {n k : ℕ} {v : SourceValue}
      → IsNextAt (kind.Number n) k from mid → IsNumbered mid to v → InnerEnds v to
      → WholeValue from to (Branch n k v)
  whole_inner : {from to : List Lexeme} {v : SourceValue} → IsInner from to v → InnerEnds v to
      → WholeValue from to v

-- after the number of a branch the rest of it is read from these lexemes to those, and isn't gone
-- on with there
pub data WholeNumbered (n k : ℕ) : List Lexeme → List Lexeme → SourceValue → Type 0 where
  whole_numbered : {from to : List Lexeme} {v : SourceValue} → IsNumbered from to v → InnerEnds v to
      → WholeNumbered n k from to (Branch n k v)

-- an arm is read from these lexemes to those, and isn't gone on with there
pub data WholeArm : List Lexeme → List Lexeme → SourceValueArm → Type 0 where
  whole_arm : {from mid next to : List Lexeme} {p : Pattern} {v : SourceValue}
      → IsPattern from mid p → IsNext (kind.Mark Colon) mid next → WholeValue next to v
      → WholeArm from to (record { pattern = p; body = v })

-- nothing that begins a value without a branch's number comes next
abbrev pub NoInner : List Lexeme → Type 0
NoInner ls =
    No (kind.Word KwAtom) ls × No (kind.Mark LeftRound) ls × No (kind.Word KwProduct) ls
    × No (kind.Word KwCase) ls × NoName ls

-- the first of these parts is this, and the rest are read
abbrev pub ReadsParts : List Lexeme → List Lexeme → SourceValue → List SourceValue → Type 0
ReadsParts from to first vs = (us : List SourceValue) × (vs ≡ first ∷ us) × AreParts from to us

-- what stands in round brackets after a callee is being read from these lexemes, and can't go on
-- at those
pub data MadeStops : List Lexeme → List Lexeme → Type 0 where
  made_name : {from at : List Lexeme} → MissesName from at → MadeStops from at
  made_right : {from mid at : List Lexeme} {name : Name} → IsName from mid name
      → Misses (kind.Mark RightRound) mid at → MadeStops from at

mutual
  -- a value is being read from these lexemes, and can't go on at those
  pub data ValueStops : List Lexeme → List Lexeme → Type 0 where
    in_number : {from mid at : List Lexeme} {n k : ℕ} → IsNextAt (kind.Number n) k from mid
        → NumberedStops mid at → ValueStops from at
    no_value : {from at : List Lexeme} → at ≡ from → NoNumber from → NoInner from
        → ValueStops from at
    in_inner : {from at : List Lexeme} → BegunStops from at → ValueStops from at

  -- what comes after a branch's number is being read from these lexemes, and can't go on at those
  pub data NumberedStops : List Lexeme → List Lexeme → Type 0 where
    numbered_colon : {from at : List Lexeme} → Misses (kind.Mark Colon) from at
        → NumberedStops from at
    numbered_inner : {from mid at : List Lexeme} → IsNext (kind.Mark Colon) from mid
        → InnerStops mid at → NumberedStops from at

  -- a value without a branch's number is being read from these lexemes, and can't go on at those
  pub data InnerStops : List Lexeme → List Lexeme → Type 0 where
    no_inner : {from at : List Lexeme} → at ≡ from → NoInner from → InnerStops from at
    begun_inner : {from at : List Lexeme} → BegunStops from at → InnerStops from at

  -- a value without a branch's number, whose first lexeme fits, is being read from these lexemes,
  -- and can't go on at those
  pub data BegunStops : List Lexeme → List Lexeme → Type 0 where
    inner_bracketed : {from mid at : List Lexeme} → IsNext (kind.Mark LeftRound) from mid
        → BracketedStops mid at → BegunStops from at
    inner_tuple : {from mid at : List Lexeme} {k : ℕ} → IsNextAt (kind.Word KwProduct) k from mid
        → TupleStops mid at → BegunStops from at
    inner_case : {from mid at : List Lexeme} → IsNext (kind.Word KwCase) from mid
        → ValueCaseStops mid at → BegunStops from at
    inner_made : {from mid next at : List Lexeme} {name : Name} → IsName from mid name
        → IsNext (kind.Mark LeftRound) mid next → MadeStops next at → BegunStops from at

  -- a branch in round brackets is being read from these lexemes, after the first bracket, and
  -- can't go on at those
  pub data BracketedStops : List Lexeme → List Lexeme → Type 0 where
    bracketed_number : {from at : List Lexeme} → MissesNumber from at → BracketedStops from at
    bracketed_numbered : {from mid at : List Lexeme} {n k : ℕ} → IsNextAt (kind.Number n) k from mid
        → NumberedStops mid at → BracketedStops from at
    bracketed_right : {from mid next at : List Lexeme} {n k : ℕ} {v : SourceValue}
        → IsNextAt (kind.Number n) k from mid → IsNumbered mid next v → InnerEnds v next
        → Misses (kind.Mark RightRound) next at → BracketedStops from at

  -- parts of a tuple are being read from these lexemes, after the word, and can't go on at those
  pub data TupleStops : List Lexeme → List Lexeme → Type 0 where
    tuple_left : {from at : List Lexeme} → Misses (kind.Mark LeftRound) from at → TupleStops from at
    tuple_first : {from mid at : List Lexeme} → IsNext (kind.Mark LeftRound) from mid
        → ValueStops mid at → TupleStops from at
    tuple_comma : {from mid next at : List Lexeme} {v : SourceValue}
        → IsNext (kind.Mark LeftRound) from mid → WholeValue mid next v
        → Misses (kind.Mark Comma) next at → TupleStops from at
    tuple_more : {from mid next rest at : List Lexeme} {v : SourceValue}
        → IsNext (kind.Mark LeftRound) from mid → IsValue mid next v
        → IsNext (kind.Mark Comma) next rest → PartsStop rest at → TupleStops from at

  -- value {"," value} ")" are being read from these lexemes, and can't go on at those
  pub data PartsStop : List Lexeme → List Lexeme → Type 0 where
    in_part : {from at : List Lexeme} → ValueStops from at → PartsStop from at
    past_part : {from next at : List Lexeme} {v : SourceValue} → WholeValue from next v
        → No (kind.Mark RightRound) next → Misses (kind.Mark Comma) next at → PartsStop from at
    past_parts : {from next mid at : List Lexeme} {v : SourceValue} → IsValue from next v
        → IsNext (kind.Mark Comma) next mid → PartsStop mid at → PartsStop from at

  -- a case in a value is being read from these lexemes, after the word, and can't go on at those
  pub data ValueCaseStops : List Lexeme → List Lexeme → Type 0 where
    value_case_name : {from at : List Lexeme} → MissesName from at → ValueCaseStops from at
    value_case_of : {from mid at : List Lexeme} {name : Name} → IsName from mid name
        → Misses (kind.Word KwOf) mid at → ValueCaseStops from at
    value_case_arms : {from mid next at : List Lexeme} {name : Name} → IsName from mid name
        → IsNext (kind.Word KwOf) mid next → ValueArmsStop next at → ValueCaseStops from at

  -- arms of a case in a value, and `end`, are being read from these lexemes, and can't go on at
  -- those
  pub data ValueArmsStop : List Lexeme → List Lexeme → Type 0 where
    in_value_arm : {from at : List Lexeme} → ValueArmStops from at → ValueArmsStop from at
    past_value_arm : {from next at : List Lexeme} {arm : SourceValueArm} → WholeArm from next arm
        → No (kind.Word KwEnd) next → Misses (kind.Mark Semicolon) next at → ValueArmsStop from at
    past_value_arms : {from next mid at : List Lexeme} {arm : SourceValueArm}
        → IsValueArm from next arm → IsNext (kind.Mark Semicolon) next mid → ValueArmsStop mid at
        → ValueArmsStop from at

  -- an arm of a case in a value is being read from these lexemes, and can't go on at those
  pub data ValueArmStops : List Lexeme → List Lexeme → Type 0 where
    arm_pattern : {from at : List Lexeme} → PatternStops from at → ValueArmStops from at
    arm_colon : {from mid at : List Lexeme} {p : Pattern} → IsPattern from mid p → PatternEnds p mid
        → Misses (kind.Mark Colon) mid at → ValueArmStops from at
    arm_value : {from mid next at : List Lexeme} {p : Pattern} → IsPattern from mid p
        → IsNext (kind.Mark Colon) mid next → ValueStops next at → ValueArmStops from at
