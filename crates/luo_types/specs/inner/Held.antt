-- What is counted and broken in parts of a source, as the code holds them.
use Rattle.std.specs.Prelude.{ℕ, List}
use Rattle.luo_model.specs.declared.program.Universe.{Universe}
use Rattle.luo_source.specs.declared.types.TypeDef.{TypeDef}
use Rattle.luo_source.specs.declared.types.TypeExpr.{TypeExpr}
use Rattle.luo_source.specs.declared.statements.Stmt.{Stmt}
use Rattle.luo_source.specs.declared.source.ProcBody.{ProcBody}
use Rattle.luo_source.specs.View.{expr_of, type_def_of, stmt_of, proc_body_of}
use Rattle.luo_rules.specs.declared.names.Meaning.{Meaning}
use Rattle.luo_rules.specs.declared.rule.Breach.{Breach}
use Rattle.luo_rules.specs.Counted.{own_nodes, own_multisets, most_parts, greatest_bound, stmt_statements, body_statements}
use Rattle.luo_rules.specs.Definitions.{Definition, copies}
use Rattle.luo_rules.specs.TypeBreaches.{expr_breaches}

abbrev pub nodes_in : TypeExpr → ℕ
nodes_in e = own_nodes (expr_of e)

abbrev pub multisets_in : TypeExpr → ℕ
multisets_in e = own_multisets (expr_of e)

abbrev pub parts_in : TypeExpr → ℕ
parts_in e = most_parts (expr_of e)

abbrev pub bound_in : TypeExpr → ℕ
bound_in e = greatest_bound (expr_of e)

abbrev pub breaches_in : Universe → List (List ℕ × Meaning) → TypeExpr → List Breach
breaches_in universe names e = expr_breaches universe names (expr_of e)

abbrev pub copies_of : TypeDef → List Definition
copies_of d = copies (type_def_of d)

abbrev pub statements_in : Stmt → ℕ
statements_in s = stmt_statements (stmt_of s)

abbrev pub body_statements_in : ProcBody → ℕ
body_statements_in body = body_statements (proc_body_of body)
