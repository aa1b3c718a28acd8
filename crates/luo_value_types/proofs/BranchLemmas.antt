-- Branches of unions by their numbers from 1.
use Rattle.std.proofs.Common.{◌≡◌, ℕ, zero, suc, ◌-◌, ◌<◌, ◌≤◌, List, [], ◌∷◌, Some, None, length, get_or, refl, sym, ap, subst, ◌∙◌, arith}
use Rattle.luo_model.specs.declared.program.Part.{Part}
use Rattle.luo_rules.specs.ValueBreaches.{branch_at}

pub branch_zero : (parts : List Part) (number : ℕ) → number ≡ 0 → branch_at parts number ≡ None
branch_zero parts number e = subst (λ z. branch_at parts z ≡ None) (sym e) (at_zero parts)
  where
    at_zero : (parts : List Part) → branch_at parts 0 ≡ None
    at_zero [] = refl
    at_zero (part ∷ parts) = refl

pub branch_past : (parts : List Part) (number : ℕ) → length parts < number → branch_at parts number ≡ None
branch_past [] number past = refl
branch_past (part ∷ parts) zero past = refl
branch_past (part ∷ parts) (suc zero) past = absurd (omega arith)
branch_past (part ∷ parts) (suc (suc i)) past = branch_past parts (suc i) (omega arith)

behind : (parts : List Part) (i : ℕ) (d : Part) → i < length parts → Some (get_or parts i d).node ≡ branch_at parts (suc i)
behind [] i d low = absurd (omega arith)
behind (part ∷ parts) zero d low = refl
behind (part ∷ parts) (suc i) d low = behind parts i d (omega arith)

pub branch_there : (parts : List Part) (number : ℕ) (d : Part) → 1 ≤ number → number ≤ length parts → Some (get_or parts (number - 1) d).node ≡ branch_at parts number
branch_there parts number d low high =
    let same : suc (number - 1) ≡ number = omega arith in
    behind parts (number - 1) d (omega arith) ∙ ap (branch_at parts) same

pub ruleset branches = (branch_zero, branch_past, branch_there)
