-- Going from names to definitions, by at most so many steps.
use Rattle.std.specs.Prelude.{ℕ, zero, suc, List, [], ◌∷◌, length, Option, Some, None, if◌then◌else◌, nat_eq}
use Rattle.std.specs.Option.{option_map}
use Rattle.luo_rules.specs.declared.names.Meaning.{Meaning}
use Rattle.luo_rules.specs.Definitions.{Definition, or_by, next, first_node, name_of}

-- the node of definition i, by at most so many steps from a name to its definition
abbrev pub node_within : List (List ℕ × Meaning) → List Definition → ℕ → ℕ → ℕ
node_within names defs zero i = 0
node_within names defs (suc steps) i =
    or_by (next names defs i) (node_within names defs steps) (first_node defs i)

-- the node of definition i: the first of the definition to which names lead from it
abbrev pub node_of : List (List ℕ × Meaning) → List Definition → ℕ → ℕ
node_of names defs i = node_within names defs (suc (length defs)) i

-- the names that lead from definition i to `home`, by at most so many steps
abbrev pub way_within : List (List ℕ × Meaning) → List Definition → ℕ → ℕ → ℕ
    → Option (List (List ℕ))
way_within names defs home zero i = None
way_within names defs home (suc steps) i =
    or_by (next names defs i)
    (λ j. if nat_eq j home then Some (name_of defs home ∷ []) else option_map
    (λ way. name_of defs j ∷ way) (way_within names defs home steps j)) None

-- the circle on which definition i lies: its name, those it leads through, and its name again
abbrev pub circle : List (List ℕ × Meaning) → List Definition → ℕ → Option (List (List ℕ))
circle names defs i =
    option_map (λ way. name_of defs i ∷ way) (way_within names defs i (length defs) i)
