-- The core forms of sources, in full.
use Rattle.std.specs.Prelude.{◌≡◌, [], ◌∷◌, codes, Some}
use Rattle.luo_model.specs.declared.body.Bind.TheVariants.{Nothing, Whole, Parts}
use Rattle.luo_model.specs.declared.program.Universe.TheVariants.{Unlabelled}
use Rattle.luo_model.specs.declared.program.Kind.TheVariants.{Set, Cycle}
use Rattle.luo_model.specs.declared.program.Shape.TheVariants as shape
use Rattle.luo_model.specs.Program.{Program, Does, no_items, item, Call, Case, no_arms, arm, Given, Made, Atom, Tuple, Branch, Chosen, no_values, value, no_value_arms, value_arm}
use Rattle.luo_model.specs.Programs.{named, alone, node, definition, procedure, site, only, binary, permutations, partitions, hierarchies, rooted}
use Rattle.luo_source.specs.Plain.Source.{Source}
use Rattle.luo_rules.specs.Sources.{binary_source, permutations_source, partitions_source, hierarchies_source, rooted_source, few_cycles, nested, copying}
use Rattle.luo_rules.specs.Whole.{breaches, core}

-- the source breaks no rule, and this is its core form
abbrev pub HasWhole : Source → Program → Type 0
HasWhole source p = (breaches source ≡ []) × (core source ≡ p)

-- bounds stand in the nodes
abbrev pub few_cycles_core : Program
few_cycles_core = record permutations {
  nodes =
      node (shape.Atom 1) 0 0 ∷ node (shape.Coll Cycle (named 0 0) 1 (Some 3)) 1 0
      ∷ node (shape.Coll Set (named 1 1) 2 (Some 2)) 2 0 ∷ [];
}

-- what blocks charge is charged by the body around them, and their items stand among its own
abbrev pub nested_core : Program
nested_core = record {
  universe = Unlabelled;
  defs = definition (codes "z") (alone 0) ∷ definition (codes "pair") (alone 1) ∷ [];
  nodes = node (shape.Atom 1) 0 0 ∷ node (shape.Product (named 0 0 ∷ named 0 0 ∷ [])) 1 0 ∷ [];
  procs =
      procedure (codes "p") (named 1 1)
      (Does 3 (item (Case 0
      (arm (Parts 2) (Does 2 (item (Call 1 1 0) no_items)) no_arms) 1) no_items)) 2
      ∷ procedure (codes "q") (named 0 0) (Does 1 no_items) 3
      ∷ [];
  sites = site 0 0 0 ∷ site 1 0 1 ∷ site 1 0 2 ∷ site 0 1 0 ∷ [];
  analyses = 1 ∷ 0 ∷ [];
}

-- a value gives the body of its procedure, with the charges of its atoms, its calls and its cases
abbrev pub copying_core : Program
copying_core = record {
  universe = Unlabelled;
  defs =
      definition (codes "zero") (alone 0) ∷ definition (codes "one") (alone 1)
      ∷ definition (codes "bit") (alone 2) ∷ definition (codes "pair") (alone 3) ∷ [];
  nodes =
      node (shape.Atom 1) 0 0
      ∷ node (shape.Atom 1) 1 0
      ∷ node (shape.Union (named 0 0 ∷ named 1 1 ∷ [])) 2 0
      ∷ node (shape.Product (named 2 2 ∷ named 2 2 ∷ [])) 3 0
      ∷ [];
  procs =
      record {
        name = codes "turn";
        on = named 2 2;
        body =
            only (item (Case 0 (arm Nothing (Does 3 no_items)
            (arm Whole (Does 0 no_items) no_arms)) 0) no_items);
        site = 1;
        result =
            Some (record {
              on = named 2 2;
              value = Chosen 0
                  (value_arm Nothing (Branch 2 (Atom 1 3))
                  (value_arm Whole (Branch 1 (Atom 1 0)) no_value_arms));
            });
      }
      ∷ record {
        name = codes "both";
        on = named 3 3;
        body =
            only (item (Case 0 (arm (Parts 2)
            (only (item (Call 1 0 2) no_items)) no_arms) 3) no_items);
        site = 4;
        result =
            Some (record {
              on = named 3 3;
              value = Chosen 0
                  (value_arm (Parts 2)
                  (Tuple (value (Made 1 0) (value (Given 0) no_values))) no_value_arms);
            });
      }
      ∷ [];
  sites = site 2 0 0 ∷ site 2 0 1 ∷ site 2 1 0 ∷ site 3 1 1 ∷ site 3 1 2 ∷ [];
  analyses = 1 ∷ [];
}

-- the texts of binary trees, permutations, partitions, hierarchies and rooted trees have the core
-- forms of which counts and totals are known
abbrev pub CoresAreThePrograms : Type 0
CoresAreThePrograms =
    HasWhole binary_source binary
    × HasWhole permutations_source permutations
    × HasWhole partitions_source partitions
    × HasWhole hierarchies_source hierarchies
    × HasWhole rooted_source rooted
    × HasWhole few_cycles few_cycles_core
    × HasWhole nested nested_core
    × HasWhole copying copying_core
