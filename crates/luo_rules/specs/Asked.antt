-- What the rules speak of in a source: each use of a name, each construct and each pattern, with
-- the scope in which it stands.
use Rattle.std.specs.Prelude.{ℕ, suc, ◌+◌, List, [], ◌∷◌, ◌++◌, map, length, Option, Some, None, Bool, nat_eq, if◌then◌else◌, codes, decimal}
use Rattle.luo_model.specs.declared.program.Kind.{Kind}
use Rattle.luo_model.specs.declared.program.Part.{Part}
use Rattle.luo_model.specs.declared.program.Shape.{Shape}
use Rattle.luo_model.specs.declared.program.Shape.TheVariants as shape
use Rattle.luo_model.specs.Scopes.Stands.{Stand}
use Rattle.luo_source.specs.declared.names.Name.{Name}
use Rattle.luo_source.specs.declared.types.Bound.{Bound}
use Rattle.luo_source.specs.Plain.Types.{TypeExpr, Named, Epsilon, Atom, Union, Product, Coll, TypeExprs, no_exprs, an_expr, TypeDef}
use Rattle.luo_source.specs.declared.statements.Pattern.{Pattern}
use Rattle.luo_source.specs.declared.statements.Pattern.TheVariants as pattern
use Rattle.luo_source.specs.Plain.Statements.{Stmt, Skip, Charge, Call, Block, Case, Forall, Stmts, no_stmts, a_stmt, SourceArms, no_source_arms, a_source_arm}
use Rattle.luo_source.specs.Plain.Values.{SourceValue, SourceValues, no_source_values, a_source_value, SourceValueArms, no_source_value_arms, a_source_value_arm}
use Rattle.luo_source.specs.Plain.Values as made
use Rattle.luo_source.specs.Plain.Source.{ProcBody, Statements, Value, ProcDef, Source}
use Rattle.luo_rules.specs.declared.names.Meaning.{Meaning}
use Rattle.luo_rules.specs.declared.names.Meaning.TheVariants as mean
use Rattle.luo_rules.specs.declared.setting.Setting.{Setting}
use Rattle.luo_rules.specs.declared.setting.Variable.{Variable}
use Rattle.luo_rules.specs.Settings.{type_node, shape_at, found, case_stands}
use Rattle.luo_rules.specs.Patterns.{bound, fits, factor_names, has_factors}
use Rattle.luo_rules.specs.ValueBreaches.{is_atom, has_branch, part_nodes, inner_node, count_values, count_value_arms}
use Rattle.luo_rules.specs.Definitions.{measures}
use Rattle.luo_rules.specs.StatementBreaches.{count_arms, walked}
use Rattle.luo_rules.specs.Nodes.{setting_of}
use Rattle.luo_rules.specs.Whole.{parameter}

-- what a name is used as
pub data Sort : Type 0 where
  a_type a_measure a_procedure : Sort

pub data Asked : Type 0 where
  -- a name that is defined here to mean this, and one that is used
  defines : Name → Meaning → Asked
  uses : Sort → Name → Asked
  -- the word of a collection and its token; its bound; the number of an atom and its token
  collects : Kind → ℕ → Asked
  bounds : Kind → Bound → Asked
  weighs : ℕ → ℕ → Asked
  -- a right side that is a name, of the definitions of these names from number i on
  renames : ℕ → List Name → Name → Asked
  -- the colon before the result of a procedure of this name
  results : ℕ → Name → Asked
  -- a variable in a scope: read; handed to a callee; in a case of so many arms; walked over; handed
  -- on where a node is expected
  reads : List Variable → Name → Asked
  hands : List Variable → Name → Name → Asked
  cases : List Variable → Name → ℕ → Asked
  walks : List Variable → Name → Asked
  gives : List Variable → Option ℕ → Name → Asked
  -- the pattern of an arm that stands for this, in a case on this variable; a name of a pattern
  -- after these
  matches : Stand → Name → Pattern → Asked
  repeats : List Name → Name → Asked
  -- a callee whose result is of the node that is expected; a construct at this token, of this text,
  -- where one that passes a test is expected
  makes : Option ℕ → Name → Asked
  builds : (Shape → Bool) → Option ℕ → ℕ → List ℕ → Asked

-- ---- definitions and measures

abbrev pub bound_asked : Kind → Option Bound → List Asked
bound_asked kind None = []
bound_asked kind (Some bound) = bounds kind bound ∷ []

abbrev mutual
  pub expr_asked : TypeExpr → List Asked
  expr_asked (Named name) = uses a_type name ∷ []
  expr_asked (Epsilon at) = []
  expr_asked (Atom weight weight_at at) = weighs weight weight_at ∷ []
  expr_asked (Union parts) = exprs_asked parts
  expr_asked (Product parts at) = exprs_asked parts
  expr_asked (Coll kind part bound at) =
      collects kind at ∷ (expr_asked part ++ bound_asked kind bound)

  pub exprs_asked : TypeExprs → List Asked
  exprs_asked no_exprs = []
  exprs_asked (an_expr e rest) = expr_asked e ++ exprs_asked rest

abbrev pub renames_asked : ℕ → List Name → TypeExpr → List Asked
renames_asked i owners (Named name) = renames i owners name ∷ []
renames_asked i owners _ = []

abbrev pub new_asked : ℕ → List Name → List Asked
new_asked i [] = []
new_asked i (name ∷ rest) = defines name (mean.Definition i) ∷ new_asked (suc i) rest

abbrev pub types_asked : ℕ → List TypeDef → List Asked
types_asked i [] = []
types_asked i (d ∷ ds) =
    (new_asked i d.names ++ (expr_asked d.body ++ renames_asked i d.names d.body))
    ++ types_asked (i + length d.names) ds

abbrev pub measures_asked : ℕ → List (Name × ℕ) → List Asked
measures_asked k [] = []
measures_asked k (m ∷ ms) = defines m.0 (mean.Measure k m.1) ∷ measures_asked (suc k) ms

-- ---- patterns, cases and walks: arms are spoken of where there are as many as what they stand
-- for, what is inside an arm where the pattern fits, and what is inside a walk where the variable
-- is a collection

abbrev pub type_asked : Pattern → List Asked
type_asked (pattern.Named type) = uses a_type type ∷ []
type_asked (pattern.NamedWhole type name) = uses a_type type ∷ []
type_asked (pattern.NamedParts type names) = uses a_type type ∷ []
type_asked _ = []

abbrev pub repeats_asked : List Name → List Name → List Asked
repeats_asked earlier [] = []
repeats_asked earlier (name ∷ names) =
    repeats earlier name ∷ repeats_asked (earlier ++ name ∷ []) names

abbrev pub arm_asked : Setting → Stand → Name → Pattern → List Asked → List Asked
arm_asked s stand var p body =
    type_asked p
    ++ (matches stand var p
    ∷ (repeats_asked [] (factor_names p) ++ (if fits s stand p then body else [])))

abbrev pub arms_inside : Setting → Option (ℕ × Part) → ℕ → List Asked → List Asked
arms_inside s None arms inner = []
arms_inside s (Some variable) arms inner =
    if nat_eq arms (length (case_stands s (Some variable))) then inner else []

abbrev pub case_asked : Setting → List Variable → Name → ℕ → List Asked → List Asked
case_asked s scope var arms inner =
    reads scope var ∷ (cases scope var arms ∷ arms_inside s (found scope var) arms inner)

abbrev pub of_collection : Shape → List Asked → List Asked
of_collection (shape.Coll kind part low high) inner = inner
of_collection _ inner = []

abbrev pub walk_inside : Setting → Option (ℕ × Part) → List Asked → List Asked
walk_inside s None inner = []
walk_inside s (Some variable) inner = of_collection (shape_at s variable.1.node) inner

-- ---- statements

abbrev mutual
  pub stmt_asked : Setting → List Variable → Stmt → List Asked
  stmt_asked s scope Skip = []
  stmt_asked s scope (Charge measure) = uses a_measure measure ∷ []
  stmt_asked s scope (Call callee arg) =
      uses a_procedure callee ∷ (reads scope arg ∷ (hands scope arg callee ∷ []))
  stmt_asked s scope (Block stmts) = stmts_asked s scope stmts
  stmt_asked s scope (Case var arms) =
      case_asked s scope var (count_arms arms)
      (arms_asked s (case_stands s (found scope var)) var arms)
  stmt_asked s scope (Forall var source body) =
      reads scope source ∷ (walks scope source
      ∷ walk_inside s (found scope source)
      (stmt_asked s (record { name = var.text; part = walked s (found scope source) } ∷ []) body))

  pub stmts_asked : Setting → List Variable → Stmts → List Asked
  stmts_asked s scope no_stmts = []
  stmts_asked s scope (a_stmt stmt rest) = stmt_asked s scope stmt ++ stmts_asked s scope rest

  pub arms_asked : Setting → List Stand → Name → SourceArms → List Asked
  arms_asked s stands var no_source_arms = []
  arms_asked s [] var (a_source_arm p body rest) = []
  arms_asked s (stand ∷ stands) var (a_source_arm p body rest) =
      arm_asked s stand var p (stmt_asked s (bound s stand p) body) ++ arms_asked s stands var rest

-- ---- values

abbrev pub charge_asked : Option Name → List Asked
charge_asked None = []
charge_asked (Some measure) = uses a_measure measure ∷ []

abbrev mutual
  pub value_asked : Setting → List Variable → Option ℕ → SourceValue → List Asked
  value_asked s scope expected (made.Given name) =
      reads scope name ∷ (gives scope expected name ∷ [])
  value_asked s scope expected (made.Made callee arg) =
      uses a_procedure callee
      ∷ (makes expected callee ∷ (reads scope arg ∷ (hands scope arg callee ∷ [])))
  value_asked s scope expected (made.Atom charge at) =
      charge_asked charge ++ builds is_atom expected at (codes "atom") ∷ []
  value_asked s scope expected (made.Tuple parts at) =
      builds (has_factors (count_values parts)) expected at (codes "product")
      ∷ values_asked s scope (part_nodes s expected (count_values parts)) parts
  value_asked s scope expected (made.Branch number at inner) =
      builds (has_branch number) expected at (decimal number)
      ∷ value_asked s scope (inner_node s expected number) inner
  value_asked s scope expected (made.Case var arms) =
      case_asked s scope var (count_value_arms arms)
      (value_arms_asked s (case_stands s (found scope var)) expected var arms)

  pub values_asked : Setting → List Variable → List ℕ → SourceValues → List Asked
  values_asked s scope nodes no_source_values = []
  values_asked s scope [] (a_source_value v rest) =
      value_asked s scope None v ++ values_asked s scope [] rest
  values_asked s scope (node ∷ nodes) (a_source_value v rest) =
      value_asked s scope (Some node) v ++ values_asked s scope nodes rest

  pub value_arms_asked : Setting → List Stand → Option ℕ → Name → SourceValueArms
      → List Asked
  value_arms_asked s stands expected var no_source_value_arms = []
  value_arms_asked s [] expected var (a_source_value_arm p body rest) = []
  value_arms_asked s (stand ∷ stands) expected var (a_source_value_arm p body rest) =
      arm_asked s stand var p (value_asked s (bound s stand p) expected body)
      ++ value_arms_asked s stands expected var rest

-- ---- procedures, and the whole source

-- a body is spoken of where the type of the parameter is known
abbrev pub body_asked : Setting → ProcDef → Option ℕ → ProcBody → List Asked
body_asked s p None (Statements stmts) = []
body_asked s p (Some node) (Statements stmts) =
    stmts_asked s (parameter s p) stmts
body_asked s p None (Value colon result value) = results colon p.name ∷ (uses a_type result ∷ [])
body_asked s p (Some node) (Value colon result value) =
    results colon p.name
    ∷ (uses a_type result ∷ value_asked s (parameter s p) (type_node s result) value)

abbrev pub procs_asked : Setting → ℕ → List ProcDef → List Asked
procs_asked s f [] = []
procs_asked s f (p ∷ ps) =
    (defines p.name (mean.Procedure f)
    ∷ (uses a_type p.on ∷ body_asked s p (type_node s p.on) p.body)) ++ procs_asked s (suc f) ps

-- of definitions and measures, and of procedures and analyze lines
abbrev pub first_asked : Source → List Asked
first_asked source = types_asked 0 source.types ++ measures_asked 0 (measures source)

abbrev pub later_asked : Source → List Asked
later_asked source =
    procs_asked (setting_of source) 0 source.procs ++ map (uses a_procedure) source.analyses

-- all that the rules speak of in a source
abbrev pub asked : Source → List Asked
asked source = first_asked source ++ later_asked source
