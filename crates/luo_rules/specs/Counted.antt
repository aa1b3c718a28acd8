-- What is counted in a source, and the limits that it passes.
use Rattle.std.specs.Prelude.{ℕ, suc, ◌+◌, ◌*◌, max, List, [], ◌∷◌, ◌++◌, length, sum_by, Option, Some, None, nat_lt, if◌then◌else◌}
use Rattle.luo_num.specs.declared.limits.TheConstants.{ANALYSIS_LIMIT, BOUND_LIMIT, DEFINITION_LIMIT, MULTISET_LIMIT, NODE_LIMIT, PART_LIMIT, PROCEDURE_LIMIT, STATEMENT_LIMIT}
use Rattle.luo_model.specs.declared.program.Kind.{Kind}
use Rattle.luo_model.specs.declared.program.Kind.TheVariants.{Multiset, Powerset}
use Rattle.luo_source.specs.declared.types.Range.{Range}
use Rattle.luo_source.specs.declared.types.Range.TheVariants.{Exactly, AtMost, AtLeast, Between}
use Rattle.luo_source.specs.declared.types.Bound.{Bound}
use Rattle.luo_source.specs.Plain.Types.{TypeExpr, Named, Epsilon, Atom, Union, Product, Coll, TypeExprs, no_exprs, an_expr}
use Rattle.luo_source.specs.Plain.Statements.{Stmt, Skip, Charge, Call, Block, Case, Forall, Stmts, no_stmts, a_stmt, SourceArms, no_source_arms, a_source_arm}
use Rattle.luo_source.specs.Plain.Source.{ProcBody, Statements, Value, Source}
use Rattle.luo_rules.specs.Statements.{value_statements}
use Rattle.luo_rules.specs.declared.error.CountLimit.{CountLimit}
use Rattle.luo_rules.specs.declared.error.CountLimit.TheVariants as count

abbrev pub multiset_of : Kind → ℕ
multiset_of Multiset = 1
multiset_of Powerset = 1
multiset_of _ = 0

-- the greatest number of a range
abbrev pub greatest_in : Range → ℕ
greatest_in (Exactly n) = n
greatest_in (AtMost n) = n
greatest_in (AtLeast n) = n
greatest_in (Between low high) = max low high

-- the greatest number of a bound
abbrev pub greatest_of : Option Bound → ℕ
greatest_of None = 0
greatest_of (Some bound) = greatest_in bound.range

abbrev mutual
  -- the nodes of a type expression: one for each construct
  pub own_nodes : TypeExpr → ℕ
  own_nodes (Named name) = 0
  own_nodes (Epsilon at) = 1
  own_nodes (Atom weight weight_at at) = 1
  own_nodes (Union parts) = suc (own_nodes_of parts)
  own_nodes (Product parts at) = suc (own_nodes_of parts)
  own_nodes (Coll kind part bound at) = suc (own_nodes part)

  pub own_nodes_of : TypeExprs → ℕ
  own_nodes_of no_exprs = 0
  own_nodes_of (an_expr e rest) = own_nodes e + own_nodes_of rest

abbrev mutual
  -- the multisets and powersets of a type expression
  pub own_multisets : TypeExpr → ℕ
  own_multisets (Named name) = 0
  own_multisets (Epsilon at) = 0
  own_multisets (Atom weight weight_at at) = 0
  own_multisets (Union parts) = own_multisets_of parts
  own_multisets (Product parts at) = own_multisets_of parts
  own_multisets (Coll kind part bound at) = multiset_of kind + own_multisets part

  pub own_multisets_of : TypeExprs → ℕ
  own_multisets_of no_exprs = 0
  own_multisets_of (an_expr e rest) = own_multisets e + own_multisets_of rest

abbrev pub count_exprs : TypeExprs → ℕ
count_exprs no_exprs = 0
count_exprs (an_expr e rest) = suc (count_exprs rest)

abbrev mutual
  -- the most branches or factors of one union or product
  pub most_parts : TypeExpr → ℕ
  most_parts (Named name) = 0
  most_parts (Epsilon at) = 0
  most_parts (Atom weight weight_at at) = 0
  most_parts (Union parts) = max (count_exprs parts) (most_parts_of parts)
  most_parts (Product parts at) = max (count_exprs parts) (most_parts_of parts)
  most_parts (Coll kind part bound at) = most_parts part

  pub most_parts_of : TypeExprs → ℕ
  most_parts_of no_exprs = 0
  most_parts_of (an_expr e rest) = max (most_parts e) (most_parts_of rest)

abbrev mutual
  -- the greatest number in a bound
  pub greatest_bound : TypeExpr → ℕ
  greatest_bound (Named name) = 0
  greatest_bound (Epsilon at) = 0
  greatest_bound (Atom weight weight_at at) = 0
  greatest_bound (Union parts) = greatest_bound_of parts
  greatest_bound (Product parts at) = greatest_bound_of parts
  greatest_bound (Coll kind part bound at) = max (greatest_bound part) (greatest_of bound)

  pub greatest_bound_of : TypeExprs → ℕ
  greatest_bound_of no_exprs = 0
  greatest_bound_of (an_expr e rest) = max (greatest_bound e) (greatest_bound_of rest)

abbrev mutual
  -- each `skip`, charge, call, case and walk counts one, and a block what it holds
  pub stmt_statements : Stmt → ℕ
  stmt_statements Skip = 1
  stmt_statements (Charge measure) = 1
  stmt_statements (Call callee arg) = 1
  stmt_statements (Block stmts) = stmts_statements stmts
  stmt_statements (Case var arms) = suc (arms_statements arms)
  stmt_statements (Forall var source body) = suc (stmt_statements body)

  pub stmts_statements : Stmts → ℕ
  stmts_statements no_stmts = 0
  stmts_statements (a_stmt s rest) = stmt_statements s + stmts_statements rest

  pub arms_statements : SourceArms → ℕ
  arms_statements no_source_arms = 0
  arms_statements (a_source_arm pattern body rest) =
      stmt_statements body + arms_statements rest

abbrev pub body_statements : ProcBody → ℕ
body_statements (Statements stmts) = stmts_statements stmts
body_statements (Value colon result value) = value_statements value

-- the greatest number of the elements
abbrev pub greatest_by : {A : Type 0} → (A → ℕ) → List A → ℕ
greatest_by f [] = 0
greatest_by f (x ∷ xs) = max (f x) (greatest_by f xs)

-- each name of a definition counts, with its copy of the right side
abbrev pub definition_count : Source → ℕ
definition_count source = sum_by (λ d. length d.names) source.types

abbrev pub node_count : Source → ℕ
node_count source = sum_by (λ d. length d.names * own_nodes d.body) source.types

abbrev pub multiset_count : Source → ℕ
multiset_count source = sum_by (λ d. length d.names * own_multisets d.body) source.types

abbrev pub statement_count : Source → ℕ
statement_count source = sum_by (λ p. body_statements p.body) source.procs

-- the limit, where so many pass its number
abbrev pub passed : CountLimit → ℕ → ℕ → List CountLimit
passed which most counted = if nat_lt most counted then which ∷ [] else []

-- the limits that a source passes, in order, but for that on walks
abbrev pub limits_passed : Source → List CountLimit
limits_passed source =
    passed count.Definitions DEFINITION_LIMIT (definition_count source)
    ++ passed count.Nodes NODE_LIMIT (node_count source)
    ++ passed count.Parts PART_LIMIT (greatest_by (λ d. most_parts d.body) source.types)
    ++ passed count.Bounds BOUND_LIMIT (greatest_by (λ d. greatest_bound d.body) source.types)
    ++ passed count.Multisets MULTISET_LIMIT (multiset_count source)
    ++ passed count.Procedures PROCEDURE_LIMIT (length source.procs)
    ++ passed count.Statements STATEMENT_LIMIT (statement_count source)
    ++ passed count.Analyses ANALYSIS_LIMIT (length source.analyses)
