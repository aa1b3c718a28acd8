-- What a step of a run is, and steps in order.
use Rattle.std.specs.Prelude.{◌≡◌, ◌⊎◌, ⊤, ℕ, List}
use Rattle.luo_finite.specs.Steps.{With}
use Rattle.luo_answer.specs.declared.status.Status.{Status}
use Rattle.luo_answer.specs.Answer.{Answer, Output, Refusal}

-- a step: the answers by which it ends the run, and what it hands on to the next
pub record Step (X : Type 0) : Type 1 where
  pub refuses : Answer → Type 0
  pub hands : X → Type 0

-- no answer is given
abbrev pub HasNone : (Answer → Type 0) → Type 0
HasNone refuses = (answer : Answer) → refuses answer → ⊥

-- one step: its refusals, and where none stands what it makes
infixr 3 ◌or_makes◌
abbrev pub ◌or_makes◌ : {X : Type 0} → (Answer → Type 0) → (X → Type 0) → Step X
(refuses or_makes made) = record { refuses = refuses; hands = λ x. HasNone refuses × made x }

-- two steps in order: a refusal of the first, or of the second over what the first hands on, and
-- what the second hands on
infixr 2 ◌and_then◌
unfoldable pub ◌and_then◌ : {X Y : Type 0} → Step X → (X → Step Y) → Step Y
(first and_then second) = record {
  refuses = λ answer. first.refuses answer ⊎ With first.hands (λ x. (second x).refuses) answer;
  hands = With first.hands (λ x. (second x).hands);
}

-- this refusal, where a fact holds
abbrev pub RefusedWhere : Type 0 → Status → List ℕ → Answer → Type 0
RefusedWhere fact status bytes answer = fact × (answer ≡ Refusal status bytes)

-- a step that refuses where a fact holds, and else lets the run go on
abbrev pub refused_where : Type 0 → Status → List ℕ → Step ⊤
refused_where fact status bytes = RefusedWhere fact status bytes or_makes λ x. ⊤

-- a step without refusal
abbrev pub makes : {X : Type 0} → (X → Type 0) → Step X
makes made = (λ answer. ⊥) or_makes made

-- the answers of a run that ends with the bytes that its last step hands on
abbrev pub ends : Step (List ℕ) → Answer → Type 0
ends step answer =
    step.refuses answer ⊎ ((bytes : List ℕ) × step.hands bytes × (answer ≡ Output bytes))
