-- The breaches of small sources, for each rule.
use Rattle.std.specs.Prelude.{◌≡◌, [], ◌∷◌, codes, decimal}
use Rattle.luo_rules.specs.declared.rule.Rule.TheVariants.{Y1, Y2, Y3, Y5, Y6, Y7, Y8, Y9, Y10, Y11, Y12, Y13, Y14, Y15}
use Rattle.luo_rules.specs.Whole.{breaches}
use Rattle.luo_rules.specs.Broken.{at_token}
use Rattle.luo_rules.specs.BrokenSources.{second_variable, second_procedure, undefined_type, measure_as_type, wrong_uses, kinds_with_labels, kinds_without, low_cycles, low_powerset, heavy, heavy_label, other_argument, case_on_atom, missing_arm, wrong_pattern, wrong_and_twice, walk_on_atom, outer_variable, labelled_result, other_results, no_results, result_and_argument, other_constructs, no_branch}

-- what definitions and measures break, and uses of names
abbrev pub DefinitionsAreTold : Type 0
DefinitionsAreTold =
    (breaches second_procedure ≡ at_token Y1 20 (codes "p") ∷ [])
    × (breaches undefined_type ≡ at_token Y2 13 (codes "y") ∷ [])
    × (breaches measure_as_type ≡ at_token Y3 18 (codes "m") ∷ [])
    × (breaches wrong_uses
    ≡ at_token Y2 17 (codes "q") ∷ at_token Y3 22 (codes "z") ∷ at_token Y3 27 (codes "p")
    ∷ at_token Y3 31 (codes "z") ∷ [])
    × (breaches kinds_with_labels
    ≡ at_token Y5 11 (codes "set") ∷ at_token Y6 19 (codes "cycle") ∷ [])
    × (breaches kinds_without
    ≡ at_token Y5 13 (codes "multiset") ∷ at_token Y5 21 (codes "powerset") ∷ [])
    × (breaches low_cycles ≡ at_token Y7 17 (codes "cycle") ∷ at_token Y7 29 (codes "cycle") ∷ [])
    × (breaches low_powerset ≡ at_token Y7 15 (codes "powerset") ∷ [])
    × (breaches heavy ≡ at_token Y8 5 (decimal 17) ∷ [])
    × (breaches heavy_label ≡ at_token Y8 7 (decimal 2) ∷ [])

-- what statements break: arguments, cases, patterns, walks and scopes
abbrev pub StatementsAreTold : Type 0
StatementsAreTold =
    (breaches second_variable ≡ at_token Y1 33 (codes "a") ∷ [])
    × (breaches other_argument
    ≡ record { rule = Y9; token = 27; names = codes "x" ∷ codes "q" ∷ [] } ∷ [])
    × (breaches case_on_atom ≡ at_token Y10 18 (codes "x") ∷ [])
    × (breaches missing_arm ≡ at_token Y10 25 (codes "x") ∷ [])
    × (breaches wrong_pattern ≡ at_token Y11 27 (codes "x") ∷ [])
    × (breaches wrong_and_twice ≡ at_token Y11 32 (codes "x") ∷ at_token Y1 35 (codes "a") ∷ [])
    × (breaches walk_on_atom ≡ at_token Y12 20 (codes "x") ∷ [])
    × (breaches outer_variable ≡ at_token Y13 32 (codes "x") ∷ [])

-- what procedures with a result break
abbrev pub ResultsAreTold : Type 0
ResultsAreTold =
    (breaches labelled_result ≡ at_token Y14 17 (codes "p") ∷ [])
    × (breaches other_results ≡ at_token Y15 47 (codes "b") ∷ at_token Y15 49 (codes "q") ∷ [])
    × (breaches no_results ≡ at_token Y15 18 (codes "q") ∷ [])
    × (breaches result_and_argument
    ≡ at_token Y15 18 (codes "q") ∷ at_token Y13 20 (codes "c") ∷ [])
    × (breaches other_constructs
    ≡ at_token Y15 28 (codes "atom") ∷ at_token Y15 40 (codes "product") ∷ [])
    × (breaches no_branch ≡ at_token Y15 25 (decimal 3) ∷ [])
