-- How deep calls of a variable's own structure go.
use Rattle.std.specs.Prelude.{◌≡◌, ℕ, zero, suc, List, max}
use Rattle.luo_source.specs.Plain.Statements.{Stmt, Call, Block, Case, Forall, Stmts, no_stmts, a_stmt}
use Rattle.luo_source.specs.Plain.Values as value
use Rattle.luo_source.specs.Plain.Values.{SourceValue, Made, Tuple, Branch, SourceValues, no_source_values, a_source_value}
use Rattle.luo_source.specs.Plain.Source.{ProcBody, Statements, Value, ProcDef, Source}
use Rattle.luo_meaning.specs.Defined.{DefinesProcedure}

-- R relates the name of a procedure to its level
module _ (R : List ℕ → ℕ → Type 0) where
  -- a call's level is one more than that of its procedure
  abbrev pub CallLevel : List ℕ → ℕ → Type 0
  CallLevel callee n = (m : ℕ) × R callee m × (n ≡ suc m)

  abbrev mutual
    -- a call is one above its own level, a case and a walk are at 1, and what has none of them is
    -- at 0; of more the greatest counts
    pub StmtLevel : Stmt → ℕ → Type 0
    StmtLevel (Call callee arg) n = (m : ℕ) × CallLevel callee.text m × (n ≡ suc m)
    StmtLevel (Block stmts) n = StmtsLevel stmts n
    StmtLevel (Case var arms) n = n ≡ 1
    StmtLevel (Forall var over body) n = n ≡ 1
    StmtLevel _ n = n ≡ 0

    pub StmtsLevel : Stmts → ℕ → Type 0
    StmtsLevel no_stmts n = n ≡ 0
    StmtsLevel (a_stmt stmt rest) n =
        (a : ℕ) × (b : ℕ) × StmtLevel stmt a × StmtsLevel rest b × (n ≡ max a b)

  abbrev mutual
    -- values alike
    pub ValueLevel : SourceValue → ℕ → Type 0
    ValueLevel (Made callee arg) n = (m : ℕ) × CallLevel callee.text m × (n ≡ suc m)
    ValueLevel (Tuple parts at) n = ValuesLevel parts n
    ValueLevel (Branch number at inner) n = ValueLevel inner n
    ValueLevel (value.Case var arms) n = n ≡ 1
    ValueLevel _ n = n ≡ 0

    pub ValuesLevel : SourceValues → ℕ → Type 0
    ValuesLevel no_source_values n = n ≡ 0
    ValuesLevel (a_source_value v rest) n =
        (a : ℕ) × (b : ℕ) × ValueLevel v a × ValuesLevel rest b × (n ≡ max a b)

  abbrev pub BodyLevel : ProcBody → ℕ → Type 0
  BodyLevel (Statements stmts) n = StmtsLevel stmts n
  BodyLevel (Value colon result v) n = ValueLevel v n

-- the level of the procedure of this name, where calls go at most so deep
abbrev pub ProcLevelWithin : Source → ℕ → List ℕ → ℕ → Type 0
ProcLevelWithin source zero text n = ⊥
ProcLevelWithin source (suc depth) text n =
    (p : ProcDef) × DefinesProcedure source text p
    × BodyLevel (ProcLevelWithin source depth) p.body n

-- the level of the procedure of this name: that of its body
abbrev pub ProcLevel : Source → List ℕ → ℕ → Type 0
ProcLevel source text n = (depth : ℕ) × ProcLevelWithin source depth text n
