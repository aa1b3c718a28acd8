-- The canonical text of patterns and statements.
use Rattle.std.specs.Prelude.{ℕ, ◌+◌, List, [], ◌∷◌, ◌++◌, codes}
use Rattle.luo_source.specs.declared.names.Name.{Name}
use Rattle.luo_source.specs.declared.statements.Pattern.{Pattern}
use Rattle.luo_source.specs.declared.statements.Pattern.TheVariants.{Named, NamedWhole, NamedParts, Parts, Any, AnyWhole}
use Rattle.luo_source.specs.Plain.Statements.{Stmt, Skip, Charge, Call, Block, Case, Forall, Stmts, no_stmts, a_stmt, SourceArms, no_source_arms, a_source_arm}
use Rattle.luo_print.specs.Layout.{name_list, lines, new_line}

abbrev pub pattern_text : Pattern → List ℕ
pattern_text (Named name) = name.text
pattern_text (NamedWhole name inner) = name.text ++ codes " as " ++ inner.text
pattern_text (NamedParts name names) = name.text ++ codes "(" ++ name_list names ++ codes ")"
pattern_text (Parts names at) = codes "(" ++ name_list names ++ codes ")"
pattern_text (Any at) = codes "_"
pattern_text (AnyWhole name at) = codes "_ as " ++ name.text

-- what is called, on this variable
abbrev pub call_text : Name → Name → List ℕ
call_text callee arg = callee.text ++ codes "(" ++ arg.text ++ codes ")"

-- statements between `begin` and `end`, where `begin` stands in a line of this indentation
abbrev pub block_of : ℕ → List (List ℕ) → List ℕ
block_of n stmts = codes "begin" ++ lines (n + 2) stmts ++ new_line n ++ codes "end"

-- arms between `case` and `end`, where `case` stands in a line of this indentation
abbrev pub case_of : ℕ → Name → List (List ℕ) → List ℕ
case_of n var arms =
    codes "case " ++ var.text ++ codes " of" ++ lines (n + 2) arms ++ new_line n ++ codes "end"

abbrev mutual
  -- a statement in a line of this indentation
  pub stmt_text : ℕ → Stmt → List ℕ
  stmt_text n Skip = codes "skip"
  stmt_text n (Charge measure) = measure.text
  stmt_text n (Call callee arg) = call_text callee arg
  stmt_text n (Block stmts) = block_of n (stmt_texts (n + 2) stmts)
  stmt_text n (Case var arms) = case_of n var (arm_texts (n + 2) arms)
  stmt_text n (Forall var source body) =
      codes "forall " ++ var.text ++ codes " in " ++ source.text ++ codes " do "
      ++ stmt_text n body

  -- the texts of a list
  pub stmt_texts : ℕ → Stmts → List (List ℕ)
  stmt_texts n no_stmts = []
  stmt_texts n (a_stmt s rest) = stmt_text n s ∷ stmt_texts n rest

  -- the texts of arms
  pub arm_texts : ℕ → SourceArms → List (List ℕ)
  arm_texts n no_source_arms = []
  arm_texts n (a_source_arm pattern body rest) =
      (pattern_text pattern ++ codes " : " ++ stmt_text n body) ∷ arm_texts n rest
