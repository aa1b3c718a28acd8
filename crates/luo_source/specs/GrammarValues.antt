-- How values are read: from lexemes at hand to lexemes left.
use Rattle.std.specs.Prelude.{ℕ, List, [], ◌∷◌, None, Some}
use Rattle.luo_scan.specs.declared.token.Word.TheVariants.{KwAtom, KwProduct, KwCase, KwOf, KwEnd}
use Rattle.luo_scan.specs.declared.token.Mark.TheVariants.{Semicolon, Comma, LeftRound, RightRound, Colon}
use Rattle.luo_scan.specs.declared.token.TokenKind.TheVariants as kind
use Rattle.luo_scan.specs.Lexemes.{Lexeme, lexeme}
use Rattle.luo_source.specs.declared.statements.Pattern.{Pattern}
use Rattle.luo_source.specs.declared.values.SourceValue.{SourceValue}
use Rattle.luo_source.specs.declared.values.SourceValue.TheVariants.{Given, Made, Atom, Tuple, Branch, Case}
use Rattle.luo_source.specs.declared.values.SourceValueArm.{SourceValueArm}
use Rattle.luo_source.specs.GrammarStatements.{IsPattern}

mutual
  -- value = branch | inner
  pub data IsValue : List Lexeme → List Lexeme → SourceValue → Type 0 where
    branch_value : {from to : List Lexeme} {v : SourceValue} → IsBranch from to v
        → IsValue from to v
    inner_value : {from to : List Lexeme} {v : SourceValue} → IsInner from to v → IsValue from to v

  -- branch = num ":" inner
  pub data IsBranch : List Lexeme → List Lexeme → SourceValue → Type 0 where
    branch : {from to : List Lexeme} {b c : List ℕ} {number at k : ℕ} {v : SourceValue}
        → IsInner from to v
        → IsBranch (lexeme (kind.Number number) b at ∷ lexeme (kind.Mark Colon) c k ∷ from) to
        (Branch number at v)

  -- inner = name | name "(" name ")" | [name] "atom" | "(" branch ")" | "product" "(" value ","
  -- value {"," value} ")" | "case" name "of" pattern ":" value {";" pattern ":" value} "end"
  pub data IsInner : List Lexeme → List Lexeme → SourceValue → Type 0 where
    given : {to : List Lexeme} {text : List ℕ} {at : ℕ}
        → IsInner (lexeme kind.Name text at ∷ to) to (Given (record { text = text; at = at }))
    made : {to : List Lexeme} {text b arg c : List ℕ} {at k arg_at l : ℕ}
        → IsInner (lexeme kind.Name text at ∷ lexeme (kind.Mark LeftRound) b k
        ∷ lexeme kind.Name arg arg_at ∷ lexeme (kind.Mark RightRound) c l ∷ to) to
        (Made (record { text = text; at = at }) (record { text = arg; at = arg_at }))
    free_atom : {to : List Lexeme} {b : List ℕ} {at : ℕ}
        → IsInner (lexeme (kind.Word KwAtom) b at ∷ to) to (Atom None at)
    charged_atom : {to : List Lexeme} {text b : List ℕ} {name_at at : ℕ}
        → IsInner (lexeme kind.Name text name_at ∷ lexeme (kind.Word KwAtom) b at ∷ to) to
        (Atom (Some (record { text = text; at = name_at })) at)
    bracketed : {from to : List Lexeme} {b c : List ℕ} {k l : ℕ} {v : SourceValue}
        → IsBranch from (lexeme (kind.Mark RightRound) c l ∷ to) v
        → IsInner (lexeme (kind.Mark LeftRound) b k ∷ from) to v
    tuple : {from mid to : List Lexeme} {b c d : List ℕ} {at k l : ℕ} {v : SourceValue}
        {vs : List SourceValue} → IsValue from (lexeme (kind.Mark Comma) d l ∷ mid) v
        → AreParts mid to vs
        → IsInner (lexeme (kind.Word KwProduct) b at ∷ lexeme (kind.Mark LeftRound) c k ∷ from) to
        (Tuple (v ∷ vs) at)
    case_value : {from to : List Lexeme} {b text c : List ℕ} {k at l : ℕ}
        {arms : List SourceValueArm} → AreValueArms from to arms
        → IsInner (lexeme (kind.Word KwCase) b k ∷ lexeme kind.Name text at ∷ lexeme
        (kind.Word KwOf) c l ∷ from) to (Case (record { text = text; at = at }) arms)

  -- value {"," value} ")"
  pub data AreParts : List Lexeme → List Lexeme → List SourceValue → Type 0 where
    last_part : {from to : List Lexeme} {b : List ℕ} {k : ℕ} {v : SourceValue}
        → IsValue from (lexeme (kind.Mark RightRound) b k ∷ to) v → AreParts from to (v ∷ [])
    more_parts : {from mid to : List Lexeme} {b : List ℕ} {k : ℕ} {v : SourceValue}
        {vs : List SourceValue} → IsValue from (lexeme (kind.Mark Comma) b k ∷ mid) v
        → AreParts mid to vs → AreParts from to (v ∷ vs)

  -- pattern ":" value {";" pattern ":" value} "end"
  pub data AreValueArms : List Lexeme → List Lexeme → List SourceValueArm → Type 0 where
    last_value_arm : {from to : List Lexeme} {b : List ℕ} {k : ℕ} {arm : SourceValueArm}
        → IsValueArm from (lexeme (kind.Word KwEnd) b k ∷ to) arm → AreValueArms from to (arm ∷ [])
    more_value_arms : {from mid to : List Lexeme} {b : List ℕ} {k : ℕ} {arm : SourceValueArm}
        {arms : List SourceValueArm} → IsValueArm from (lexeme (kind.Mark Semicolon) b k ∷ mid) arm
        → AreValueArms mid to arms → AreValueArms from to (arm ∷ arms)

  -- pattern ":" value
  pub data IsValueArm : List Lexeme → List Lexeme → SourceValueArm → Type 0 where
    one_value_arm : {from mid to : List Lexeme} {b : List ℕ} {k : ℕ} {p : Pattern} {v : SourceValue}
        → IsPattern from (lexeme (kind.Mark Colon) b k ∷ mid) p → IsValue mid to v
        → IsValueArm from to (record { pattern = p; body = v })
