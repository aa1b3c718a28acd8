-- Which rule is broken where, and with which names: a sentence for each rule.
use Rattle.std.specs.Prelude.{◌≡◌, ◌<◌, ℕ, List, [], ◌∷◌, length, Some, None, Bool, true, false, IsTrue, IsFalse, decimal}
use Rattle.luo_finite.specs.Listing.{In}
use Rattle.luo_model.specs.declared.program.Universe.TheVariants.{Unlabelled, Labelled}
use Rattle.luo_model.specs.declared.program.Kind.{Kind}
use Rattle.luo_model.specs.declared.program.Kind.TheVariants.{Cycle}
use Rattle.luo_model.specs.declared.program.Part.{Part}
use Rattle.luo_model.specs.declared.program.Shape.{Shape}
use Rattle.luo_model.specs.Scopes.Stands.{Stand, IsCollection}
use Rattle.luo_model.specs.Invariant.{IsKind, IsLow, greatest_weight}
use Rattle.luo_source.specs.declared.names.Name.{Name}
use Rattle.luo_source.specs.declared.types.Bound.{Bound}
use Rattle.luo_source.specs.declared.statements.Pattern.{Pattern}
use Rattle.luo_source.specs.declared.statements.Pattern.TheVariants as pattern
use Rattle.luo_source.specs.Plain.Source.{Source}
use Rattle.luo_rules.specs.declared.names.Meaning.{Meaning}
use Rattle.luo_rules.specs.declared.names.Meaning.TheVariants as mean
use Rattle.luo_rules.specs.declared.rule.Rule.{Rule}
use Rattle.luo_rules.specs.declared.rule.Rule.TheVariants.{Y1, Y2, Y3, Y4, Y5, Y6, Y7, Y8, Y9, Y10, Y11, Y12, Y13, Y14, Y15}
use Rattle.luo_rules.specs.declared.rule.Breach.{Breach}
use Rattle.luo_rules.specs.declared.setting.Setting.{Setting}
use Rattle.luo_rules.specs.declared.setting.Variable.{Variable}
use Rattle.luo_rules.specs.Settings.{meant, signature_meant, shape_at, found, case_stands}
use Rattle.luo_rules.specs.Patterns.{fits, first_token, is_among}
use Rattle.luo_rules.specs.Definitions.{Definition, definitions}
use Rattle.luo_rules.specs.Circles.{IsFirstCircle}
use Rattle.luo_rules.specs.TypeBreaches.{is_meaning, kind_word, low_in, high_in}
use Rattle.luo_rules.specs.Nodes.{setting_of}
use Rattle.luo_rules.specs.Asked.{Sort, a_type, a_measure, a_procedure, Asked, defines, uses, collects, bounds, weighs, renames, results, reads, hands, cases, walks, gives, matches, repeats, makes, builds, asked}

-- the rule at this name, about it, and at a token, about this
abbrev pub at_name : Rule → Name → Breach
at_name rule name = record { rule = rule; token = name.at; names = name.text ∷ [] }

abbrev pub at_token : Rule → ℕ → List ℕ → Breach
at_token rule token text = record { rule = rule; token = token; names = text ∷ [] }

-- the meaning is of this sort
abbrev pub is_sort : Sort → Meaning → Bool
is_sort a_type (mean.Definition i) = true
is_sort a_measure (mean.Measure number value) = true
is_sort a_procedure (mean.Procedure f) = true
is_sort _ _ = false

-- the name means a type, and a procedure
abbrev pub IsType : Setting → Name → Type 0
IsType s name = (i : ℕ) × (meant s name ≡ Some (mean.Definition i))

abbrev pub IsProcedure : Setting → Name → Type 0
IsProcedure s name = (f : ℕ) × (meant s name ≡ Some (mean.Procedure f))

-- the type that a pattern names, if any, is one
abbrev pub IsTyped : Setting → Pattern → Type 0
IsTyped s (pattern.Named type) = IsType s type
IsTyped s (pattern.NamedWhole type name) = IsType s type
IsTyped s (pattern.NamedParts type names) = IsType s type
IsTyped s _ = Unit {0}

pub data Breaks (defs : List Definition) (s : Setting) : Asked → Breach → Type 0 where
  -- a name is defined that another definition before has, or a variable stands twice in a pattern
  defined_again : {name : Name} {own : Meaning} → IsFalse (is_meaning (meant s name) own)
      → Breaks defs s (defines name own) (at_name Y1 name)
  bound_again : {earlier : List Name} {name : Name} → IsTrue (is_among name.text earlier)
      → Breaks defs s (repeats earlier name) (at_name Y1 name)
  -- a name that is used has no meaning, or is of another sort
  undefined : {sort : Sort} {name : Name} → meant s name ≡ None
      → Breaks defs s (uses sort name) (at_name Y2 name)
  other_sort : {sort : Sort} {name : Name} (m : Meaning) → meant s name ≡ Some m
      → IsFalse (is_sort sort m) → Breaks defs s (uses sort name) (at_name Y3 name)
  -- a right side is a type's name, and one of its definitions lies on a circle of such names; the
  -- first that does is told
  circle : {i : ℕ} {owners : List Name} {name : Name} (chain : List (List ℕ)) → IsType s name
      → IsFirstCircle s.names defs i owners chain
      → Breaks defs s (renames i owners name) (record { rule = Y4; token = name.at; names = chain })
  -- a set in the unlabelled universe, a multiset or a powerset in the labelled, and a cycle in the
  -- unlabelled
  other_universe : {kind : Kind} {at : ℕ} → (IsKind s.universe kind → ⊥) → (kind ≡ Cycle → ⊥)
      → Breaks defs s (collects kind at) (at_token Y5 at (kind_word kind))
  unlabelled_cycle : {at : ℕ} → s.universe ≡ Unlabelled
      → Breaks defs s (collects Cycle at) (at_token Y6 at (kind_word Cycle))
  -- a low bound above the high one, and one that the kind doesn't have
  no_number : {kind : Kind} {bound : Bound} (high : ℕ) → high_in bound.range ≡ Some high
      → high < low_in kind bound.range
      → Breaks defs s (bounds kind bound) (at_token Y7 bound.at (kind_word kind))
  low_bound : {kind : Kind} {bound : Bound} → (IsLow kind (low_in kind bound.range) → ⊥)
      → Breaks defs s (bounds kind bound) (at_token Y7 bound.at (kind_word kind))
  -- an atom is heavier than the universe allows
  heavy : {weight at : ℕ} → greatest_weight s.universe < weight
      → Breaks defs s (weighs weight at) (at_token Y8 at (decimal weight))
  -- an argument is of another node than the parameter
  other_argument : {scope : List Variable} {arg callee : Name} (variable : ℕ × Part) (node : ℕ)
      → found scope arg ≡ Some variable → (signature_meant s (meant s callee)).on ≡ Some node
      → (variable.1.node ≡ node → ⊥)
      → Breaks defs s (hands scope arg callee)
      (record { rule = Y9; token = arg.at; names = arg.text ∷ callee.text ∷ [] })
  -- a case has not as many arms as there are things for them to stand for: branches of a union, one
  -- for a product, and nothing else
  other_arms : {scope : List Variable} {var : Name} {arms : ℕ} (variable : ℕ × Part)
      → found scope var ≡ Some variable → (arms ≡ length (case_stands s (Some variable)) → ⊥)
      → Breaks defs s (cases scope var arms) (at_name Y10 var)
  -- a pattern doesn't fit
  misfit : {stand : Stand} {var : Name} {p : Pattern} → IsTyped s p → IsFalse (fits s stand p)
      → Breaks defs s (matches stand var p) (at_token Y11 (first_token p) var.text)
  -- a walk is over what is no collection
  no_collection : {scope : List Variable} {var : Name} (variable : ℕ × Part)
      → found scope var ≡ Some variable → (IsCollection (shape_at s variable.1.node) → ⊥)
      → Breaks defs s (walks scope var) (at_name Y12 var)
  -- a variable isn't bound by its scope
  unbound : {scope : List Variable} {var : Name} → found scope var ≡ None
      → Breaks defs s (reads scope var) (at_name Y13 var)
  -- a procedure with a result stands in the labelled universe
  labelled_result : {colon : ℕ} {name : Name} → s.universe ≡ Labelled
      → Breaks defs s (results colon name) (at_token Y14 colon name.text)
  -- where a structure of a node is expected, there is a variable of another, a procedure with
  -- another result or with none, or a construct that isn't the node's
  other_variable : {scope : List Variable} {var : Name} (node : ℕ) (variable : ℕ × Part)
      → found scope var ≡ Some variable → (variable.1.node ≡ node → ⊥)
      → Breaks defs s (gives scope (Some node) var) (at_name Y15 var)
  no_result : {callee : Name} (node : ℕ) → IsProcedure s callee
      → (signature_meant s (meant s callee)).result ≡ None
      → Breaks defs s (makes (Some node) callee) (at_name Y15 callee)
  other_result : {callee : Name} (node given : ℕ) → IsProcedure s callee
      → (signature_meant s (meant s callee)).result ≡ Some (Some given) → (given ≡ node → ⊥)
      → Breaks defs s (makes (Some node) callee) (at_name Y15 callee)
  other_construct : {test : Shape → Bool} {at : ℕ} {text : List ℕ} (node : ℕ)
      → IsFalse (test (shape_at s node))
      → Breaks defs s (builds test (Some node) at text) (at_token Y15 at text)

-- the source breaks this rule here, with these names
abbrev pub IsBroken : Source → Breach → Type 0
IsBroken source b =
    (q : Asked) × In q (asked source) × Breaks (definitions source) (setting_of source) q b
