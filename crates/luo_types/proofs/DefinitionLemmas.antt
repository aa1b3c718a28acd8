-- Definitions one behind the other.
use Rattle.std.proofs.Common.{◌≡◌, ℕ, suc, ◌+◌, ◌<◌, ◌≤◌, List, [], ◌++◌, length, get_or, drop, flat_map, sum_by, append_assoc, add-one, ap, ◌∙◌, sym, arith}
use Rattle.std.proofs.lemmas.List.Sums.{sum_by-cons}
use Rattle.luo_num.specs.declared.limits.TheConstants.{BOUND_LIMIT, NODE_LIMIT}
use Rattle.luo_model.specs.declared.program.Universe.{Universe}
use Rattle.luo_model.specs.declared.program.Node.{Node}
use Rattle.luo_rules.specs.declared.names.Meaning.{Meaning}
use Rattle.luo_rules.specs.Counted.{own_nodes, greatest_bound, greatest_by}
use Rattle.luo_rules.specs.Definitions.{Definition}
use Rattle.luo_rules.specs.TypeBreaches.{expr_breaches}
use Rattle.luo_rules.specs.Nodes.{nodes_at, nodes_from}
use Rattle.luo_types.proofs.NodeLemmas.{none-of-append, drop_at}

-- the next of definitions, and those behind it
pub record NextDefinition (universe : Universe) (names : List (List ℕ × Meaning)) (node : ℕ) (d : Definition) (rest : List Definition) : Type 0 where
  pub room : node + own_nodes d.right + sum_by (λ (d : Definition). own_nodes d.right) rest ≤ NODE_LIMIT
  pub clean : expr_breaches universe names d.right ≡ []
  pub clean_rest : flat_map (λ (d : Definition). expr_breaches universe names d.right) rest ≡ []
  pub small : greatest_bound d.right ≤ BOUND_LIMIT
  pub small_rest : greatest_by (λ (d : Definition). greatest_bound d.right) rest ≤ BOUND_LIMIT

pub next_definition : (universe : Universe) (names : List (List ℕ × Meaning)) (node : ℕ) (ds : List Definition) (i : ℕ) (d : Definition) → i < length ds → d ≡ get_or ds i d
    → node + sum_by (λ (d : Definition). own_nodes d.right) (drop i ds) ≤ NODE_LIMIT → flat_map (λ (d : Definition). expr_breaches universe names d.right) (drop i ds) ≡ []
    → greatest_by (λ (d : Definition). greatest_bound d.right) (drop i ds) ≤ BOUND_LIMIT → NextDefinition universe names node d (drop (i + 1) ds)
next_definition universe names node ds i d h is room clean small =
    let cut = drop_at ds i d h is in
    let none = none-of-append _ _ (sym (ap (flat_map (λ (d : Definition). expr_breaches universe names d.right)) cut) ∙ clean) in
    record {
      room = omega (arith, room, ap (sum_by (λ (d : Definition). own_nodes d.right)) cut, sum_by-cons (λ (d : Definition). own_nodes d.right) d (drop (i + 1) ds));
      clean = none.0;
      clean_rest = none.1;
      small = omega (arith, small, ap (greatest_by (λ (d : Definition). greatest_bound d.right)) cut);
      small_rest = omega (arith, small, ap (greatest_by (λ (d : Definition). greatest_bound d.right)) cut);
    }

-- the nodes of the next definition stand before those of the definitions behind it
pub nodes_from_next : (names : List (List ℕ × Meaning)) (defs : List Definition) (x : ℕ) (ds : List Definition) (i : ℕ) (d : Definition) (before after : List Node) (count : ℕ) → i < length ds → d ≡ get_or ds i d
    → count ≡ own_nodes d.right → after ≡ before ++ nodes_at names defs i (record { node = x; place = 0 }) d.right
    → after ++ nodes_from names defs (i + 1) (x + count) (drop (i + 1) ds) ≡ before ++ nodes_from names defs i x (drop i ds)
nodes_from_next names defs x ds i d before after count h is counted put =
    ap (λ ns. ns ++ nodes_from names defs (i + 1) (x + count) (drop (i + 1) ds)) put
    ∙ append_assoc before (nodes_at names defs i (record { node = x; place = 0 }) d.right) (nodes_from names defs (i + 1) (x + count) (drop (i + 1) ds))
    ∙ ap (λ j. before ++ (nodes_at names defs i (record { node = x; place = 0 }) d.right ++ nodes_from names defs j (x + count) (drop (i + 1) ds))) (add-one i)
    ∙ ap (λ n. before ++ (nodes_at names defs i (record { node = x; place = 0 }) d.right ++ nodes_from names defs (suc i) (x + n) (drop (i + 1) ds))) counted
    ∙ ap (λ l. before ++ nodes_from names defs i x l) (sym (drop_at ds i d h is))
