-- The breaches of definitions and measures, in text order.
use Rattle.std.specs.Prelude.{ℕ, suc, ◌+◌, List, [], ◌∷◌, ◌++◌, length, Option, Some, None, Bool, true, false, nat_eq, nat_le, if◌then◌else◌, codes, decimal}
use Rattle.luo_model.specs.declared.program.Universe.{Universe}
use Rattle.luo_model.specs.declared.program.Universe.TheVariants.{Unlabelled, Labelled}
use Rattle.luo_model.specs.declared.program.Kind.{Kind}
use Rattle.luo_model.specs.declared.program.Kind.TheVariants.{Sequence, Set, Cycle, Multiset, Powerset}
use Rattle.luo_model.specs.Invariant.{greatest_weight}
use Rattle.luo_source.specs.declared.names.Name.{Name}
use Rattle.luo_source.specs.declared.types.Range.{Range}
use Rattle.luo_source.specs.declared.types.Range.TheVariants.{Exactly, AtMost, AtLeast, Between}
use Rattle.luo_source.specs.declared.types.Bound.{Bound}
use Rattle.luo_source.specs.Plain.Types.{TypeExpr, Named, Epsilon, Atom, Union, Product, Coll, TypeExprs, no_exprs, an_expr, TypeDef}
use Rattle.luo_source.specs.Plain.Source.{Source}
use Rattle.luo_rules.specs.declared.names.Meaning.{Meaning}
use Rattle.luo_rules.specs.declared.names.Meaning.TheVariants as mean
use Rattle.luo_rules.specs.declared.rule.Breach.{Breach}
use Rattle.luo_rules.specs.declared.rule.Rule.TheVariants.{Y1, Y4, Y5, Y6, Y7, Y8}
use Rattle.luo_rules.specs.Breaches.{broken, broken_at, ◌or_if_none◌}
use Rattle.luo_rules.specs.Meanings.{meaning, type_use}
use Rattle.luo_rules.specs.Definitions.{Definition, definitions, measures, names_of}
use Rattle.luo_rules.specs.inner.Naming.{circle}

-- the meaning is this one
abbrev pub is_meaning : Option Meaning → Meaning → Bool
is_meaning (Some (mean.Definition i)) (mean.Definition j) = nat_eq i j
is_meaning (Some (mean.Measure k v)) (mean.Measure l w) = nat_eq k l
is_meaning (Some (mean.Procedure f)) (mean.Procedure g) = nat_eq f g
is_meaning _ _ = false

-- a name that is defined here to mean this, and has another definition before
abbrev pub name_breaches : List (List ℕ × Meaning) → Name → Meaning → List Breach
name_breaches names name own =
    if is_meaning (meaning names name.text) own then [] else broken_at Y1 name

abbrev pub kind_word : Kind → List ℕ
kind_word Sequence = codes "sequence"
kind_word Set = codes "set"
kind_word Cycle = codes "cycle"
kind_word Multiset = codes "multiset"
kind_word Powerset = codes "powerset"

-- the word of a collection that this universe doesn't have
abbrev pub kind_breaches : Universe → Kind → ℕ → List Breach
kind_breaches Unlabelled Set at = broken Y5 at (kind_word Set)
kind_breaches Labelled Multiset at = broken Y5 at (kind_word Multiset)
kind_breaches Labelled Powerset at = broken Y5 at (kind_word Powerset)
kind_breaches Unlabelled Cycle at = broken Y6 at (kind_word Cycle)
kind_breaches _ _ at = []

-- the least and the greatest number of components
abbrev pub least_of : Kind → ℕ
least_of Cycle = 1
least_of _ = 0

abbrev pub low_in : Kind → Range → ℕ
low_in kind (Exactly n) = n
low_in kind (AtMost n) = least_of kind
low_in kind (AtLeast n) = n
low_in kind (Between low high) = low

abbrev pub high_in : Range → Option ℕ
high_in (Exactly n) = Some n
high_in (AtMost n) = Some n
high_in (AtLeast n) = None
high_in (Between low high) = Some high

abbrev pub low_of : Kind → Option Bound → ℕ
low_of kind None = least_of kind
low_of kind (Some bound) = low_in kind bound.range

abbrev pub high_of : Option Bound → Option ℕ
high_of None = None
high_of (Some bound) = high_in bound.range

abbrev pub is_at_most : ℕ → Option ℕ → Bool
is_at_most low None = true
is_at_most low (Some high) = nat_le low high

-- the kind may have so many components at least
abbrev pub is_low : Kind → ℕ → Bool
is_low Cycle low = nat_le 1 low
is_low Powerset low = nat_le low 1
is_low _ low = true

-- a bound that holds of no number, of a cycle that may be empty, or of a powerset of at least two
-- components
abbrev pub bound_breaches : Kind → Option Bound → List Breach
bound_breaches kind None = []
bound_breaches kind (Some bound) =
    if is_at_most (low_in kind bound.range)
    (high_in bound.range) then (if is_low kind
    (low_in kind bound.range) then [] else broken Y7 bound.at
    (kind_word kind)) else broken Y7 bound.at (kind_word kind)

abbrev mutual
  -- the breaches of a right side, or of a part of one
  pub expr_breaches : Universe → List (List ℕ × Meaning) → TypeExpr → List Breach
  expr_breaches universe names (Named name) = type_use (meaning names name.text) name
  expr_breaches universe names (Epsilon at) = []
  expr_breaches universe names (Atom weight weight_at at) =
      if nat_le weight (greatest_weight universe) then [] else broken Y8 weight_at (decimal weight)
  expr_breaches universe names (Union parts) = exprs_breaches universe names parts
  expr_breaches universe names (Product parts at) = exprs_breaches universe names parts
  expr_breaches universe names (Coll kind part bound at) =
      kind_breaches universe kind at ++ expr_breaches universe names part
      ++ bound_breaches kind bound

  pub exprs_breaches : Universe → List (List ℕ × Meaning) → TypeExprs
      → List Breach
  exprs_breaches universe names no_exprs = []
  exprs_breaches universe names (an_expr e rest) =
      expr_breaches universe names e ++ exprs_breaches universe names rest

-- the first that there is
abbrev pub first_some : {A : Type 0} → Option A → Option A → Option A
first_some (Some x) other = Some x
first_some None other = other

-- the first circle on which one of so many definitions lies, from definition i on
abbrev pub first_circle : List (List ℕ × Meaning) → List Definition → ℕ → List Name
    → Option (List (List ℕ))
first_circle names defs i [] = None
first_circle names defs i (name ∷ rest) =
    first_some (circle names defs i) (first_circle names defs (suc i) rest)

abbrev pub circle_breach : Name → Option (List (List ℕ)) → List Breach
circle_breach name None = []
circle_breach name (Some chain) = record { rule = Y4; token = name.at; names = chain } ∷ []

-- a right side that is a name, of definitions from i on that lie on a circle
abbrev pub circle_breaches : List (List ℕ × Meaning) → List Definition → ℕ → List Name → TypeExpr
    → List Breach
circle_breaches names defs i owners (Named name) =
    circle_breach name (first_circle names defs i owners)
circle_breaches names defs i owners _ = []

-- the names of definitions from i on
abbrev pub new_types : List (List ℕ × Meaning) → ℕ → List Name → List Breach
new_types names i [] = []
new_types names i (name ∷ rest) =
    name_breaches names name (mean.Definition i) ++ new_types names (suc i) rest

abbrev pub type_breaches : Universe → List (List ℕ × Meaning) → List Definition → ℕ → TypeDef
    → List Breach
type_breaches universe names defs i d =
    new_types names i d.names
    ++ (expr_breaches universe names d.body or_if_none circle_breaches names defs i d.names d.body)

abbrev pub types_breaches : Universe → List (List ℕ × Meaning) → List Definition → ℕ → List TypeDef
    → List Breach
types_breaches universe names defs i [] = []
types_breaches universe names defs i (d ∷ ds) =
    type_breaches universe names defs i d
    ++ types_breaches universe names defs (i + length d.names) ds

-- the names of measures from number k on
abbrev pub measures_breaches : List (List ℕ × Meaning) → ℕ → List (Name × ℕ) → List Breach
measures_breaches names k [] = []
measures_breaches names k (m ∷ ms) =
    name_breaches names m.0 (mean.Measure k m.1) ++ measures_breaches names (suc k) ms

-- the breaches of the definitions and measures of a source, in text order
abbrev pub first_breaches : Source → List Breach
first_breaches source =
    types_breaches source.universe (names_of source) (definitions source) 0 source.types
    ++ measures_breaches (names_of source) 0 (measures source)
