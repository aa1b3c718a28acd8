-- The breaches of a whole source, and its core form.
use Rattle.std.specs.Prelude.{◌≡◌, ℕ, suc, ◌+◌, List, [], ◌∷◌, ◌++◌, map, flat_map, sum_by, Option, Some, None}
use Rattle.luo_model.specs.declared.program.Universe.{Universe}
use Rattle.luo_model.specs.declared.program.Universe.TheVariants.{Unlabelled, Labelled}
use Rattle.luo_model.specs.Program as plain
use Rattle.luo_model.specs.Scopes.ValueBodies.{value_body, value_sites}
use Rattle.luo_model.specs.Scopes.Walks.{body_walks}
use Rattle.luo_model.specs.Invariant.{sites_from}
use Rattle.luo_source.specs.declared.names.Name.{Name}
use Rattle.luo_source.specs.Plain.Source.{ProcBody, Statements, Value, ProcDef, Source}
use Rattle.luo_rules.specs.declared.names.Meaning.TheVariants as mean
use Rattle.luo_rules.specs.declared.rule.Breach.{Breach}
use Rattle.luo_rules.specs.declared.rule.Rule.TheVariants.{Y14}
use Rattle.luo_rules.specs.declared.setting.Setting.{Setting}
use Rattle.luo_rules.specs.declared.setting.Variable.{Variable}
use Rattle.luo_rules.specs.Breaches.{broken, ◌or_if_none◌}
use Rattle.luo_rules.specs.Meanings.{type_use, procedure_use, procedure_of}
use Rattle.luo_rules.specs.Settings.{meant, type_node, part_meant, types_of}
use Rattle.luo_rules.specs.ValueBreaches.{value_breaches}
use Rattle.luo_rules.specs.ValueCore.{value_core}
use Rattle.luo_rules.specs.Definitions.{definitions, measures, names_of}
use Rattle.luo_rules.specs.TypeBreaches.{name_breaches, types_breaches, measures_breaches}
use Rattle.luo_rules.specs.Nodes.{setting_of}
use Rattle.luo_rules.specs.StatementBreaches.{stmts_breaches}
use Rattle.luo_rules.specs.StatementCore.{stmts_own, stmts_sites, stmts_items}

-- a procedure with a result in the labelled universe
abbrev pub result_breaches : Universe → ℕ → Name → List Breach
result_breaches Unlabelled colon name = []
result_breaches Labelled colon name = broken Y14 colon name.text

-- the scope of a procedure: its parameter, of the type that its name means
abbrev pub parameter : Setting → ProcDef → List Variable
parameter s p = record { name = p.param.text; part = part_meant s (meant s p.on) } ∷ []

-- the breaches of a procedure's body; those inside are spoken of where the type of the parameter is
-- known
abbrev pub body_breaches : Setting → ProcDef → Option ℕ → ProcBody → List Breach
body_breaches s p None (Statements stmts) = []
body_breaches s p (Some node) (Statements stmts) =
    stmts_breaches s (parameter s p) stmts
body_breaches s p None (Value colon result value) =
    result_breaches s.universe colon p.name ++ type_use (meant s result) result
body_breaches s p (Some node) (Value colon result value) =
    result_breaches s.universe colon p.name ++ type_use (meant s result) result
    ++ value_breaches s (parameter s p) (type_node s result) value

-- the breaches of procedure f
abbrev pub proc_breaches : Setting → ℕ → ProcDef → List Breach
proc_breaches s f p =
    name_breaches s.names p.name (mean.Procedure f) ++ type_use (meant s p.on) p.on
    ++ body_breaches s p (type_node s p.on) p.body

abbrev pub procs_breaches : Setting → ℕ → List ProcDef → List Breach
procs_breaches s f [] = []
procs_breaches s f (p ∷ ps) = proc_breaches s f p ++ procs_breaches s (suc f) ps

-- the breaches of a source in text order; procedures and analyze lines are spoken of where the
-- definitions and measures have none
abbrev pub breaches : Source → List Breach
breaches source =
    (types_breaches source.universe (names_of source) (definitions source) 0 source.types
    ++ measures_breaches (names_of source) 0 (measures source))
    or_if_none (procs_breaches (setting_of source) 0 source.procs
    ++ flat_map (λ name. procedure_use (meant (setting_of source) name) name) source.analyses)

-- the value that a procedure with a result makes
abbrev pub made_value : Setting → ProcDef → ProcBody → Option plain.Value
made_value s p (Statements stmts) = None
made_value s p (Value colon result value) =
    Some (value_core s (parameter s p) (type_node s result) value)

abbrev pub body_core : Setting → ProcDef → ℕ → ProcBody → plain.Body
body_core s p first (Statements stmts) =
    plain.Does (stmts_own s stmts) (stmts_items s (parameter s p) first stmts)
body_core s p first (Value colon result value) =
    value_body first
    (value_core s (parameter s p) (type_node s result) value)

abbrev pub sites_of : Setting → ProcDef → ProcBody → ℕ
sites_of s p (Statements stmts) = stmts_sites stmts
sites_of s p (Value colon result value) =
    value_sites (value_core s (parameter s p) (type_node s result) value)

abbrev pub result_core : Setting → ProcDef → ProcBody → Option plain.Result
result_core s p (Statements stmts) = None
result_core s p (Value colon result value) =
    Some (record {
      on = part_meant s (meant s result);
      value = value_core s (parameter s p) (type_node s result) value;
    })

-- a procedure whose sites have numbers from this one on, its whole last
abbrev pub proc_core : Setting → ℕ → ProcDef → plain.Procedure
proc_core s first p = record {
  name = p.name.text;
  on = part_meant s (meant s p.on);
  body = body_core s p first p.body;
  site = first + sites_of s p p.body;
  result = result_core s p p.body;
}

abbrev pub procs_core : Setting → ℕ → List ProcDef → List plain.Procedure
procs_core s first [] = []
procs_core s first (p ∷ ps) =
    proc_core s first p ∷ procs_core s (first + sites_of s p p.body + 1) ps

-- a program of these procedures, with its sites
abbrev pub with_sites : Setting → List plain.Procedure → List ℕ → plain.Program
with_sites s procs analyses = record {
  universe = s.universe;
  defs = s.defs;
  nodes = s.nodes;
  procs = procs;
  sites = map (λ site. site.1) (sites_from (types_of s) 0 procs);
  analyses = analyses;
}

-- the core form of a source
abbrev pub core : Source → plain.Program
core source =
    with_sites (setting_of source) (procs_core (setting_of source) 0 source.procs)
    (map (λ name. procedure_of (meant (setting_of source) name)) source.analyses)

-- the program is the core form of a source that breaks no rule
abbrev pub IsCore : Source → plain.Program → Type 0
IsCore source p = (breaches source ≡ []) × (p ≡ core source)

-- the walks of a program over multisets and powersets
abbrev pub walk_count : plain.Program → ℕ
walk_count p = sum_by (λ (P : plain.Procedure). body_walks p (P.on ∷ []) P.body) p.procs
