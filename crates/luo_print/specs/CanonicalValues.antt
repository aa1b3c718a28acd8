-- The canonical text of values.
use Rattle.std.specs.Prelude.{ℕ, ◌+◌, List, [], ◌∷◌, ◌++◌, codes, decimal, Option, None, Some}
use Rattle.luo_source.specs.declared.names.Name.{Name}
use Rattle.luo_source.specs.Plain.Values.{SourceValue, Given, Made, Atom, Tuple, Branch, Case, SourceValues, no_source_values, a_source_value, SourceValueArms, no_source_value_arms, a_source_value_arm}
use Rattle.luo_print.specs.Layout.{joined}
use Rattle.luo_print.specs.CanonicalStatements.{pattern_text, call_text, case_of}

-- the measure charged at an atom
abbrev pub charge_text : Option Name → List ℕ
charge_text None = []
charge_text (Some measure) = measure.text ++ codes " "

-- what stands before a value directly inside a branch: round brackets are put round a branch
abbrev pub opening : SourceValue → List ℕ
opening (Branch number at inner) = codes "("
opening other = []

-- what comes after a value directly inside a branch
abbrev pub closing : SourceValue → List ℕ
closing (Branch number at inner) = codes ")"
closing other = []

abbrev mutual
  -- a value in a line of this indentation
  pub value_text : ℕ → SourceValue → List ℕ
  value_text n (Given name) = name.text
  value_text n (Made callee arg) = call_text callee arg
  value_text n (Atom charge at) = charge_text charge ++ codes "atom"
  value_text n (Tuple parts at) =
      codes "product(" ++ joined (codes ", ") (value_texts n parts) ++ codes ")"
  value_text n (Branch number at inner) =
      decimal number ++ codes " : " ++ (opening inner ++ value_text n inner ++ closing inner)
  value_text n (Case var arms) = case_of n var (value_arm_texts (n + 2) arms)

  -- the texts of a list
  pub value_texts : ℕ → SourceValues → List (List ℕ)
  value_texts n no_source_values = []
  value_texts n (a_source_value v rest) = value_text n v ∷ value_texts n rest

  -- the texts of arms
  pub value_arm_texts : ℕ → SourceValueArms → List (List ℕ)
  value_arm_texts n no_source_value_arms = []
  value_arm_texts n (a_source_value_arm pattern body rest) =
      (pattern_text pattern ++ codes " : " ++ value_text n body) ∷ value_arm_texts n rest
