-- The nodes of definitions, and the setting of a source.
use Rattle.std.specs.Prelude.{ℕ, suc, ◌+◌, List, [], ◌∷◌, ◌++◌, map, Option, Some, None}
use Rattle.std.specs.Option.{option_map}
use Rattle.luo_model.specs.declared.program.Part.{Part}
use Rattle.luo_model.specs.declared.program.Def.{Def}
use Rattle.luo_model.specs.declared.program.Node.{Node}
use Rattle.luo_model.specs.declared.program.Shape.TheVariants as shape
use Rattle.luo_model.specs.Invariant.{bare}
use Rattle.luo_source.specs.declared.names.Name.{Name}
use Rattle.luo_source.specs.Plain.Types.{TypeExpr, Named, Epsilon, Atom, Union, Product, Coll, TypeExprs, no_exprs, an_expr}
use Rattle.luo_source.specs.Plain.Source.{ProcBody, Statements, Value, ProcDef, Source}
use Rattle.luo_rules.specs.declared.names.Meaning.{Meaning}
use Rattle.luo_rules.specs.declared.setting.Setting.{Setting}
use Rattle.luo_rules.specs.declared.setting.Signature.{Signature}
use Rattle.luo_rules.specs.Meanings.{meaning}
use Rattle.luo_rules.specs.Counted.{own_nodes}
use Rattle.luo_rules.specs.Definitions.{Definition, definitions, names_of, definition_meant}
use Rattle.luo_rules.specs.inner.Naming.{node_of}
use Rattle.luo_rules.specs.TypeBreaches.{low_of, high_of}

-- where a construct stands: its number as a node, and its place in its definition
pub record Spot : Type 0 where
  pub node : ℕ
  pub place : ℕ

abbrev pub behind : Spot → ℕ → Spot
behind at n = record { node = at.node + n; place = at.place + n }

module _ (names : List (List ℕ × Meaning)) (defs : List Definition) where
  -- the part that stands for a definition by its name
  abbrev pub named_part : Option ℕ → Part
  named_part None = bare 0
  named_part (Some i) = record { node = node_of names defs i; name = Some i }

  -- the part that stands for a type expression at this spot: a definition by its name, or a
  -- construct by itself
  abbrev pub part_at : Spot → TypeExpr → Part
  part_at at (Named name) = named_part (definition_meant (meaning names name.text))
  part_at at _ = bare at.node

  -- the parts that stand for type expressions, one after the other
  abbrev pub parts_at : Spot → TypeExprs → List Part
  parts_at at no_exprs = []
  parts_at at (an_expr e rest) = part_at at e ∷ parts_at (behind at (own_nodes e)) rest

  abbrev mutual
    -- the nodes of a type expression of definition `owner`: a construct stands before those inside
    -- it
    pub nodes_at : ℕ → Spot → TypeExpr → List Node
    nodes_at owner at (Named name) = []
    nodes_at owner at (Epsilon token) =
        record { shape = shape.Atom 0; owner = owner; place = at.place } ∷ []
    nodes_at owner at (Atom weight weight_at token) =
        record { shape = shape.Atom weight; owner = owner; place = at.place } ∷ []
    nodes_at owner at (Union parts) =
        record {
          shape = shape.Union (parts_at (behind at 1) parts);
          owner = owner;
          place = at.place;
        } ∷ all_nodes_at owner (behind at 1) parts
    nodes_at owner at (Product parts token) =
        record {
          shape = shape.Product (parts_at (behind at 1) parts);
          owner = owner;
          place = at.place;
        } ∷ all_nodes_at owner (behind at 1) parts
    nodes_at owner at (Coll kind part bound token) =
        record {
          shape = shape.Coll kind (part_at (behind at 1) part) (low_of kind bound)
              (high_of bound);
          owner = owner;
          place = at.place;
        } ∷ nodes_at owner (behind at 1) part

    pub all_nodes_at : ℕ → Spot → TypeExprs → List Node
    all_nodes_at owner at no_exprs = []
    all_nodes_at owner at (an_expr e rest) =
        nodes_at owner at e ++ all_nodes_at owner (behind at (own_nodes e)) rest

  -- the spot of a definition's first node
  abbrev pub start : ℕ → Spot
  start x = record { node = x; place = 0 }

  -- definitions from number i on, their nodes from x on
  abbrev pub defs_from : ℕ → List Definition → List Def
  defs_from x [] = []
  defs_from x (d ∷ ds) =
      record { name = d.name.text; whole = part_at (start x) d.right }
      ∷ defs_from (x + own_nodes d.right) ds

  abbrev pub nodes_from : ℕ → ℕ → List Definition → List Node
  nodes_from i x [] = []
  nodes_from i x (d ∷ ds) =
      nodes_at i (start x) d.right ++ nodes_from (suc i) (x + own_nodes d.right) ds

-- the node of a type of this name
abbrev pub named_node : List (List ℕ × Meaning) → List Definition → Name → Option ℕ
named_node names defs name =
    option_map (node_of names defs) (definition_meant (meaning names name.text))

-- the result's type of a procedure, where it has a result
abbrev pub result_name : ProcBody → Option Name
result_name (Statements stmts) = None
result_name (Value colon result value) = Some result

abbrev pub signature_of : List (List ℕ × Meaning) → List Definition → ProcDef → Signature
signature_of names defs p =
    record {
      on = named_node names defs p.on;
      result = option_map (named_node names defs) (result_name p.body);
    }

-- the types of a source with their nodes, its names, and the signatures of its procedures
abbrev pub setting_of : Source → Setting
setting_of source = record {
  universe = source.universe;
  names = names_of source;
  defs = defs_from (names_of source) (definitions source) 0 (definitions source);
  nodes = nodes_from (names_of source) (definitions source) 0 0 (definitions source);
  signatures = map (signature_of (names_of source) (definitions source)) source.procs;
}
