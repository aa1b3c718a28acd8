-- Where names lead from definition to definition.
use Rattle.std.proofs.Common.{◌≡◌, ℕ, zero, suc, ◌-◌, List, Some, refl, ap, ◌∙◌, sym, arith}
use Rattle.luo_rules.specs.declared.names.Meaning.{Meaning}
use Rattle.luo_rules.specs.Definitions.{Definition, next, first_node, or_by}
use Rattle.luo_rules.specs.inner.Naming.{node_within}

-- a step from a name to its definition
pub node_next : (names : List (List ℕ × Meaning)) (defs : List Definition) (at named steps : ℕ) → next names defs at ≡ Some named → (steps ≡ 0 → ⊥)
    → node_within names defs (suc (steps - 1)) named ≡ node_within names defs (suc steps) at
node_next names defs at named zero e n = absurd (n refl)
node_next names defs at named (suc k) e n =
    let less : suc k - 1 ≡ k = omega arith in
    ap (λ m. node_within names defs (suc m) named) less ∙ sym (ap (λ o. or_by o (node_within names defs (suc k)) (first_node defs at)) e)
