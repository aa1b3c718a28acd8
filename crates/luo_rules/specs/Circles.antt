-- Where names lead from definition to definition, and circles of names.
use Rattle.std.specs.Prelude.{◌≡◌, ℕ, ◌+◌, ◌<◌, List, [], ◌∷◌, ◌++◌, map, length, Some, None}
use Rattle.luo_finite.specs.Listing.{NoDouble}
use Rattle.luo_source.specs.declared.names.Name.{Name}
use Rattle.luo_rules.specs.declared.names.Meaning.{Meaning}
use Rattle.luo_rules.specs.Definitions.{Definition, next, name_of}

module _ (names : List (List ℕ × Meaning)) (defs : List Definition) where
  -- from definition i one comes to definition j by going from names to what they name, through
  -- these definitions, i the first of them
  abbrev pub Leads : ℕ → List ℕ → ℕ → Type 0
  Leads i [] j = i ≡ j
  Leads i (p ∷ ps) j = (p ≡ i) × (k : ℕ) × (next names defs i ≡ Some k) × Leads k ps j

  -- and j is no name
  abbrev pub EndsAt : ℕ → ℕ → Type 0
  EndsAt i j = (ps : List ℕ) × Leads i ps j × (next names defs j ≡ None)

  -- definition i lies on a circle: its name, those of the other definitions on it, each once, and
  -- its name again
  abbrev pub IsCircle : ℕ → List (List ℕ) → Type 0
  IsCircle i chain =
      (ps : List ℕ) × Leads i (i ∷ ps) i × NoDouble (i ∷ ps)
      × (chain ≡ name_of defs i ∷ map (name_of defs) ps ++ name_of defs i ∷ [])

  -- the circle of the first that lies on one, of definitions with these names from number i on
  abbrev pub IsFirstCircle : ℕ → List Name → List (List ℕ) → Type 0
  IsFirstCircle i owners chain =
      (k : ℕ) × (k < length owners) × IsCircle (i + k) chain
      × ((m : ℕ) (other : List (List ℕ)) → m < k → IsCircle (i + m) other → ⊥)
