-- The first of the limits that are passed.
use Rattle.std.proofs.Common.{◌≡◌, ℕ, ◌+◌, ◌*◌, ◌<◌, max, List, [], ◌∷◌, ◌++◌, map, length, sum_by, refl, ap, ◌∙◌, subst, sym, cond}
use Rattle.std.proofs.lemmas.List.{length-map}
use Rattle.std.proofs.lemmas.Bool.{lt-ltb}
use Rattle.std.proofs.lemmas.List.Sums.{sum_by-cons}
use Rattle.luo_num.specs.declared.limits.TheConstants.{ANALYSIS_LIMIT, BOUND_LIMIT, DEFINITION_LIMIT, MULTISET_LIMIT, NODE_LIMIT, PART_LIMIT, PROCEDURE_LIMIT, STATEMENT_LIMIT}
use Rattle.luo_source.specs.declared.source.Source.{Source}
use Rattle.luo_rules.specs.declared.error.CountLimit.{CountLimit}
use Rattle.luo_rules.specs.declared.error.CountLimit.TheVariants.{Definitions, Nodes, Parts, Bounds, Multisets, Procedures, Statements, Analyses}
use Rattle.luo_source.specs.View.{type_def_of, proc_def_of, plain_source}
use Rattle.luo_rules.specs.Counted.{passed, limits_passed, own_nodes, own_multisets, most_parts, greatest_bound, greatest_by, body_statements}
use Rattle.luo_types.specs.inner.Held.{nodes_in, multisets_in, parts_in, bound_in, body_statements_in}
use Rattle.luo_rules.specs.Checks.{PassesFirst, IsWithinLimits}

-- this is the first of the limits
abbrev IsFirst : List CountLimit → CountLimit → Type 0
IsFirst limits which = (rest : List CountLimit) × (limits ≡ which ∷ rest)

first-left : (xs ys : List CountLimit) (which : CountLimit) → IsFirst xs which → IsFirst (xs ++ ys) which
first-left xs ys which (rest, e) = (rest ++ ys, ap (λ z. z ++ ys) e)

first-right : (xs ys : List CountLimit) (which : CountLimit) → xs ≡ [] → IsFirst ys which → IsFirst (xs ++ ys) which
first-right xs ys which e p = subst (λ z. IsFirst (z ++ ys) which) (sym e) p

over : (which : CountLimit) (most n : ℕ) → most < n → IsFirst (passed which most n) which
over which most n h = ([], ap (λ b. cond b (which ∷ []) []) (lt-ltb _ _ h))

-- what is counted in the source that the code holds
abbrev pub definition_count : Source → ℕ
definition_count s = sum_by (λ d. length d.names) s.types

abbrev pub node_count : Source → ℕ
node_count s = sum_by (λ d. length d.names * nodes_in d.body) s.types

abbrev pub multiset_count : Source → ℕ
multiset_count s = sum_by (λ d. length d.names * multisets_in d.body) s.types

abbrev pub statement_count : Source → ℕ
statement_count s = sum_by (λ p. body_statements_in p.body) s.procs

-- the limits that are passed up to each
abbrev pub to_definitions : Source → List CountLimit
to_definitions s = passed Definitions DEFINITION_LIMIT (definition_count s)

abbrev pub to_nodes : Source → List CountLimit
to_nodes s = to_definitions s ++ passed Nodes NODE_LIMIT (node_count s)

abbrev pub to_parts : Source → List CountLimit
to_parts s = to_nodes s ++ passed Parts PART_LIMIT (greatest_by (λ d. parts_in d.body) s.types)

abbrev pub to_bounds : Source → List CountLimit
to_bounds s = to_parts s ++ passed Bounds BOUND_LIMIT (greatest_by (λ d. bound_in d.body) s.types)

abbrev pub to_multisets : Source → List CountLimit
to_multisets s = to_bounds s ++ passed Multisets MULTISET_LIMIT (multiset_count s)

abbrev pub to_procedures : Source → List CountLimit
to_procedures s = to_multisets s ++ passed Procedures PROCEDURE_LIMIT (length s.procs)

abbrev pub to_statements : Source → List CountLimit
to_statements s = to_procedures s ++ passed Statements STATEMENT_LIMIT (statement_count s)

abbrev pub to_analyses : Source → List CountLimit
to_analyses s = to_statements s ++ passed Analyses ANALYSIS_LIMIT (length s.analyses)

pub sum_map : {A B : Type 0} (f : B → ℕ) (g : A → B) (xs : List A) → sum_by f (map g xs) ≡ sum_by (λ x. f (g x)) xs
sum_map f g [] = refl
sum_map f g (x ∷ xs) = sum_by-cons f (g x) (map g xs) ∙ ap (λ n. f (g x) + n) (sum_map f g xs) ∙ sym (sum_by-cons (λ x. f (g x)) x xs)

greatest_map : {A B : Type 0} (f : B → ℕ) (g : A → B) (xs : List A) → greatest_by f (map g xs) ≡ greatest_by (λ x. f (g x)) xs
greatest_map f g [] = refl
greatest_map f g (x ∷ xs) = ap (max (f (g x))) (greatest_map f g xs)

-- the limits that are passed, by what the code holds
abbrev limits_by : ℕ → ℕ → ℕ → ℕ → ℕ → ℕ → ℕ → ℕ → List CountLimit
limits_by a b c d e f g h =
    passed Definitions DEFINITION_LIMIT a ++ passed Nodes NODE_LIMIT b ++ passed Parts PART_LIMIT c ++ passed Bounds BOUND_LIMIT d ++ passed Multisets MULTISET_LIMIT e ++ passed Procedures PROCEDURE_LIMIT f
    ++ passed Statements STATEMENT_LIMIT g ++ passed Analyses ANALYSIS_LIMIT h

same_by : (a a' b b' c c' d d' e e' f f' g g' h : ℕ) → a ≡ a' → b ≡ b' → c ≡ c' → d ≡ d' → e ≡ e' → f ≡ f' → g ≡ g' → limits_by a b c d e f g h ≡ limits_by a' b' c' d' e' f' g' h
same_by a a' b b' c c' d d' e e' f f' g g' h p q r s t u v = cc

pub limits_same : (s : Source) → limits_passed (plain_source s) ≡ to_analyses s
limits_same s =
    same_by _ _ _ _ _ _ _ _ _ _ _ _ _ _ (length s.analyses) (sum_map (λ d. length d.names) type_def_of s.types) (sum_map (λ d. length d.names * own_nodes d.body) type_def_of s.types)
    (greatest_map (λ d. most_parts d.body) type_def_of s.types) (greatest_map (λ d. greatest_bound d.body) type_def_of s.types) (sum_map (λ d. length d.names * own_multisets d.body) type_def_of s.types)
    (length-map s.procs proc_def_of) (sum_map (λ p. body_statements p.body) proc_def_of s.procs)

told : (s : Source) (which : CountLimit) → IsFirst (to_analyses s) which → PassesFirst (plain_source s) which
told s which h = subst (λ l. IsFirst l which) (sym (limits_same s)) h

pub none_passed : (s : Source) → to_analyses s ≡ [] → IsWithinLimits (plain_source s)
none_passed s e = limits_same s ∙ e

-- the first limit that is passed, where those before it are not
pub first_definitions : (s : Source) → DEFINITION_LIMIT < definition_count s → PassesFirst (plain_source s) Definitions
first_definitions s more = told s Definitions (first-left (to_statements s) _ Definitions (first-left (to_procedures s) _ Definitions (first-left (to_multisets s) _ Definitions (first-left (to_bounds s) _ Definitions (first-left (to_parts s) _ Definitions (first-left (to_nodes s) _ Definitions (first-left (to_definitions s) _ Definitions (over Definitions DEFINITION_LIMIT _ more))))))))

pub first_nodes : (s : Source) → to_definitions s ≡ [] → NODE_LIMIT < node_count s → PassesFirst (plain_source s) Nodes
first_nodes s none more = told s Nodes (first-left (to_statements s) _ Nodes (first-left (to_procedures s) _ Nodes (first-left (to_multisets s) _ Nodes (first-left (to_bounds s) _ Nodes (first-left (to_parts s) _ Nodes (first-left (to_nodes s) _ Nodes (first-right (to_definitions s) _ Nodes none (over Nodes NODE_LIMIT _ more))))))))

pub first_parts : (s : Source) → to_nodes s ≡ [] → PART_LIMIT < greatest_by (λ d. parts_in d.body) s.types → PassesFirst (plain_source s) Parts
first_parts s none more = told s Parts (first-left (to_statements s) _ Parts (first-left (to_procedures s) _ Parts (first-left (to_multisets s) _ Parts (first-left (to_bounds s) _ Parts (first-left (to_parts s) _ Parts (first-right (to_nodes s) _ Parts none (over Parts PART_LIMIT _ more)))))))

pub first_bounds : (s : Source) → to_parts s ≡ [] → BOUND_LIMIT < greatest_by (λ d. bound_in d.body) s.types → PassesFirst (plain_source s) Bounds
first_bounds s none more = told s Bounds (first-left (to_statements s) _ Bounds (first-left (to_procedures s) _ Bounds (first-left (to_multisets s) _ Bounds (first-left (to_bounds s) _ Bounds (first-right (to_parts s) _ Bounds none (over Bounds BOUND_LIMIT _ more))))))

pub first_multisets : (s : Source) → to_bounds s ≡ [] → MULTISET_LIMIT < multiset_count s → PassesFirst (plain_source s) Multisets
first_multisets s none more = told s Multisets (first-left (to_statements s) _ Multisets (first-left (to_procedures s) _ Multisets (first-left (to_multisets s) _ Multisets (first-right (to_bounds s) _ Multisets none (over Multisets MULTISET_LIMIT _ more)))))

pub first_procedures : (s : Source) → to_multisets s ≡ [] → PROCEDURE_LIMIT < length s.procs → PassesFirst (plain_source s) Procedures
first_procedures s none more = told s Procedures (first-left (to_statements s) _ Procedures (first-left (to_procedures s) _ Procedures (first-right (to_multisets s) _ Procedures none (over Procedures PROCEDURE_LIMIT _ more))))

pub first_statements : (s : Source) → to_procedures s ≡ [] → STATEMENT_LIMIT < statement_count s → PassesFirst (plain_source s) Statements
first_statements s none more = told s Statements (first-left (to_statements s) _ Statements (first-right (to_procedures s) _ Statements none (over Statements STATEMENT_LIMIT _ more)))

pub first_analyses : (s : Source) → to_statements s ≡ [] → ANALYSIS_LIMIT < length s.analyses → PassesFirst (plain_source s) Analyses
first_analyses s none more = told s Analyses (first-right (to_statements s) _ Analyses none (over Analyses ANALYSIS_LIMIT _ more))
