-- Statements as plain data.
use Rattle.luo_source.specs.declared.names.Name.{Name}
use Rattle.luo_source.specs.declared.statements.Pattern.{Pattern}

mutual
  -- nothing, a charge of a measure, a call of a procedure on a variable, statements one after
  -- another, a case on a variable, and a walk over one
  pub data Stmt : Type 0 where
    Skip : Stmt
    Charge : (measure : Name) → Stmt
    Call : (callee arg : Name) → Stmt
    Block : Stmts → Stmt
    Case : (var : Name) → SourceArms → Stmt
    Forall : (var source : Name) → Stmt → Stmt

  pub data Stmts : Type 0 where
    no_stmts : Stmts
    a_stmt : Stmt → Stmts → Stmts

  -- the arms of a case, each with its pattern
  pub data SourceArms : Type 0 where
    no_source_arms : SourceArms
    a_source_arm : Pattern → Stmt → SourceArms → SourceArms
