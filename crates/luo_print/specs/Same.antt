-- Sources that are the same but for places.
use Rattle.std.specs.Prelude.{◌≡◌, ℕ, List, Option, None, Some}
use Rattle.std.specs.List.{AllZip}
use Rattle.luo_model.specs.declared.program.Kind.{Kind}
use Rattle.luo_source.specs.declared.names.Name.{Name}
use Rattle.luo_source.specs.declared.types.Bound.{Bound}
use Rattle.luo_source.specs.declared.types.MeasureDef.{MeasureDef}
use Rattle.luo_source.specs.declared.statements.Pattern.{Pattern}
use Rattle.luo_source.specs.declared.statements.Pattern.TheVariants as pattern
use Rattle.luo_source.specs.Plain.Types as expr
use Rattle.luo_source.specs.Plain.Types.{TypeExpr, TypeExprs, TypeDef}
use Rattle.luo_source.specs.Plain.Statements as stmt
use Rattle.luo_source.specs.Plain.Statements.{Stmt, Stmts, SourceArms}
use Rattle.luo_source.specs.Plain.Values as value
use Rattle.luo_source.specs.Plain.Values.{SourceValue, SourceValues, SourceValueArms}
use Rattle.luo_source.specs.Plain.Source as body
use Rattle.luo_source.specs.Plain.Source.{ProcBody, ProcDef, Source}

abbrev pub SameName : Name → Name → Type 0
SameName m n = m.text ≡ n.text

abbrev pub SameNames : List Name → List Name → Type 0
SameNames ms ns = AllZip SameName ms ns

-- both are left out, or both are there with one range
abbrev pub SameBound : Option Bound → Option Bound → Type 0
SameBound None None = Unit {0}
SameBound (Some b) (Some c) = b.range ≡ c.range
SameBound _ _ = ⊥

mutual
  pub data SameExpr : TypeExpr → TypeExpr → Type 0 where
    same_named : {m n : Name} → SameName m n → SameExpr (expr.Named m) (expr.Named n)
    same_epsilon : {k l : ℕ} → SameExpr (expr.Epsilon k) (expr.Epsilon l)
    same_atom : {weight i j k l : ℕ} → SameExpr (expr.Atom weight i j) (expr.Atom weight k l)
    same_union : {ts us : TypeExprs} → SameExprs ts us
        → SameExpr (expr.Union ts) (expr.Union us)
    same_product : {ts us : TypeExprs} {k l : ℕ} → SameExprs ts us
        → SameExpr (expr.Product ts k) (expr.Product us l)
    same_collection : {kind : Kind} {t u : TypeExpr} {b c : Option Bound} {k l : ℕ} → SameExpr t u
        → SameBound b c → SameExpr (expr.Coll kind t b k) (expr.Coll kind u c l)

  pub data SameExprs : TypeExprs → TypeExprs → Type 0 where
    no_exprs : SameExprs expr.no_exprs expr.no_exprs
    more_exprs : {t u : TypeExpr} {ts us : TypeExprs} → SameExpr t u → SameExprs ts us
        → SameExprs (expr.an_expr t ts) (expr.an_expr u us)

abbrev pub SameTypeDef : TypeDef → TypeDef → Type 0
SameTypeDef d e = SameNames d.names e.names × SameExpr d.body e.body

abbrev pub SameMeasure : MeasureDef → MeasureDef → Type 0
SameMeasure d e = SameNames d.names e.names × (d.value ≡ e.value)

abbrev pub SamePattern : Pattern → Pattern → Type 0
SamePattern (pattern.Named m) (pattern.Named n) = SameName m n
SamePattern (pattern.NamedWhole m i) (pattern.NamedWhole n j) = SameName m n × SameName i j
SamePattern (pattern.NamedParts m is) (pattern.NamedParts n js) = SameName m n × SameNames is js
SamePattern (pattern.Parts ms k) (pattern.Parts ns l) = SameNames ms ns
SamePattern (pattern.Any k) (pattern.Any l) = Unit {0}
SamePattern (pattern.AnyWhole m k) (pattern.AnyWhole n l) = SameName m n
SamePattern _ _ = ⊥

mutual
  pub data SameStmt : Stmt → Stmt → Type 0 where
    same_skip : SameStmt stmt.Skip stmt.Skip
    same_charge : {m n : Name} → SameName m n → SameStmt (stmt.Charge m) (stmt.Charge n)
    same_call : {f g a b : Name} → SameName f g → SameName a b
        → SameStmt (stmt.Call f a) (stmt.Call g b)
    same_block : {ss ts : Stmts} → SameStmts ss ts → SameStmt (stmt.Block ss) (stmt.Block ts)
    same_case : {x y : Name} {arms others : SourceArms} → SameName x y → SameArms arms others
        → SameStmt (stmt.Case x arms) (stmt.Case y others)
    same_forall : {x y c d : Name} {s t : Stmt} → SameName x y → SameName c d → SameStmt s t
        → SameStmt (stmt.Forall x c s) (stmt.Forall y d t)

  pub data SameStmts : Stmts → Stmts → Type 0 where
    no_stmts : SameStmts stmt.no_stmts stmt.no_stmts
    more_stmts : {s t : Stmt} {ss ts : Stmts} → SameStmt s t → SameStmts ss ts
        → SameStmts (stmt.a_stmt s ss) (stmt.a_stmt t ts)

  pub data SameArms : SourceArms → SourceArms → Type 0 where
    no_arms : SameArms stmt.no_source_arms stmt.no_source_arms
    more_arms : {p q : Pattern} {s t : Stmt} {arms others : SourceArms} → SamePattern p q
        → SameStmt s t → SameArms arms others
        → SameArms (stmt.a_source_arm p s arms) (stmt.a_source_arm q t others)

-- both are left out, or both are there
abbrev pub SameCharge : Option Name → Option Name → Type 0
SameCharge None None = Unit {0}
SameCharge (Some m) (Some n) = SameName m n
SameCharge _ _ = ⊥

mutual
  pub data SameValue : SourceValue → SourceValue → Type 0 where
    same_given : {m n : Name} → SameName m n → SameValue (value.Given m) (value.Given n)
    same_made : {f g a b : Name} → SameName f g → SameName a b
        → SameValue (value.Made f a) (value.Made g b)
    same_atom_value : {m n : Option Name} {k l : ℕ} → SameCharge m n
        → SameValue (value.Atom m k) (value.Atom n l)
    same_tuple : {vs ws : SourceValues} {k l : ℕ} → SameValues vs ws
        → SameValue (value.Tuple vs k) (value.Tuple ws l)
    same_branch : {number k l : ℕ} {v w : SourceValue} → SameValue v w
        → SameValue (value.Branch number k v) (value.Branch number l w)
    same_chosen : {x y : Name} {arms others : SourceValueArms} → SameName x y
        → SameValueArms arms others → SameValue (value.Case x arms) (value.Case y others)

  pub data SameValues : SourceValues → SourceValues → Type 0 where
    no_values : SameValues value.no_source_values value.no_source_values
    more_values : {v w : SourceValue} {vs ws : SourceValues} → SameValue v w → SameValues vs ws
        → SameValues (value.a_source_value v vs) (value.a_source_value w ws)

  pub data SameValueArms : SourceValueArms → SourceValueArms → Type 0 where
    no_value_arms : SameValueArms value.no_source_value_arms value.no_source_value_arms
    more_value_arms : {p q : Pattern} {v w : SourceValue} {arms others : SourceValueArms}
        → SamePattern p q → SameValue v w → SameValueArms arms others
        → SameValueArms (value.a_source_value_arm p v arms)
        (value.a_source_value_arm q w others)

abbrev pub SameBody : ProcBody → ProcBody → Type 0
SameBody (body.Statements ss) (body.Statements ts) = SameStmts ss ts
SameBody (body.Value k m v) (body.Value l n w) = SameName m n × SameValue v w
SameBody _ _ = ⊥

abbrev pub SameProc : ProcDef → ProcDef → Type 0
SameProc p q =
    SameName p.name q.name × SameName p.param q.param × SameName p.on q.on × SameBody p.body q.body

-- two sources differ at most in their places
abbrev pub SameSource : Source → Source → Type 0
SameSource s t =
    (s.universe ≡ t.universe)
    × AllZip SameTypeDef s.types t.types
    × AllZip SameMeasure s.measures t.measures
    × AllZip SameProc s.procs t.procs
    × SameNames s.analyses t.analyses
