-- Small sources.
use Rattle.std.specs.Prelude.{ℕ, ◌+◌, List, [], ◌∷◌, codes, Some}
use Rattle.luo_model.specs.declared.program.Universe.TheVariants.{Unlabelled}
use Rattle.luo_source.specs.declared.names.Name.{Name}
use Rattle.luo_source.specs.Plain.Types.{TypeExpr, TypeDef}
use Rattle.luo_source.specs.Plain.Types as expr
use Rattle.luo_source.specs.declared.types.MeasureDef.{MeasureDef}
use Rattle.luo_source.specs.Plain.Values as made
use Rattle.luo_source.specs.Plain.Statements.{Stmts, no_stmts, a_stmt}
use Rattle.luo_source.specs.Plain.Statements as stmt
use Rattle.luo_source.specs.Plain.Source.{Statements, Value, ProcDef, Source}

-- names of one letter, by their tokens
abbrev pub a_at : ℕ → Name
a_at at = record { text = codes "a"; at = at }

abbrev pub b_at : ℕ → Name
b_at at = record { text = codes "b"; at = at }

abbrev pub m_at : ℕ → Name
m_at at = record { text = codes "m"; at = at }

abbrev pub p_at : ℕ → Name
p_at at = record { text = codes "p"; at = at }

abbrev pub u_at : ℕ → Name
u_at at = record { text = codes "u"; at = at }

abbrev pub x_at : ℕ → Name
x_at at = record { text = codes "x"; at = at }

abbrev pub z_at : ℕ → Name
z_at at = record { text = codes "z"; at = at }

-- a definition of one name
abbrev pub defines : Name → TypeExpr → TypeDef
defines name right = record { names = name ∷ []; body = right }

-- atom(1)
abbrev pub point_at : ℕ → TypeExpr
point_at at = expr.Atom 1 (at + 2) at

-- a procedure with statements
abbrev pub runs : Name → Name → Name → Stmts → ProcDef
runs name param type stmts =
    record { name = name; param = param; on = type; body = Statements stmts }

-- an unlabelled source
abbrev pub unlabelled : List TypeDef → List MeasureDef → List ProcDef → List Name → Source
unlabelled types measures procs analyses =
    record {
      universe = Unlabelled;
      types = types;
      measures = measures;
      procs = procs;
      analyses = analyses;
    }

-- type a = b; type b = a;
abbrev pub circular : Source
circular =
    unlabelled (defines (a_at 1) (expr.Named (b_at 3)) ∷ defines (b_at 6) (expr.Named (a_at 8))
    ∷ []) [] [] []

-- type z = atom(1); type z = epsilon;
abbrev pub twice : Source
twice =
    unlabelled (defines (z_at 1) (point_at 3) ∷ defines (z_at 9) (expr.Epsilon 11) ∷ []) [] [] []

-- type z = atom(1); procedure p(x : z); begin p(u) end; analyze p;
abbrev pub unbound : Source
unbound =
    unlabelled (defines (z_at 1) (point_at 3) ∷ []) []
    (runs (p_at 9) (x_at 11) (z_at 13) (a_stmt (stmt.Call (p_at 17) (u_at 19)) no_stmts) ∷ [])
    (p_at 24 ∷ [])

-- type a, b = atom(1); type z = b;
abbrev pub copied : Source
copied =
    unlabelled (record { names = a_at 1 ∷ b_at 3 ∷ []; body = point_at 5 } ∷ defines (z_at 11)
    (expr.Named (b_at 13)) ∷ []) [] [] []

-- type z = atom(1); measure m : 3; procedure p(x : z); begin m; u(x); m end; procedure u(x : z) :
-- z; m atom; analyze p;
abbrev pub called : Source
called =
    unlabelled (defines (z_at 1) (point_at 3) ∷ []) (record { names = m_at 9 ∷ []; value = 3 } ∷ [])
    (runs (p_at 14) (x_at 16) (z_at 18)
    (a_stmt (stmt.Charge (m_at 22))
    (a_stmt (stmt.Call (u_at 24) (x_at 26)) (a_stmt (stmt.Charge (m_at 29)) no_stmts)))
    ∷ record {
      name = u_at 33;
      param = x_at 35;
      on = z_at 37;
      body = Value 39 (z_at 40) (made.Atom (Some (m_at 42)) 43);
    } ∷ [])
    (p_at 46 ∷ [])
