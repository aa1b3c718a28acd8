-- Facts and numbers of the elements of a list.
use Rattle.std.specs.Prelude.{ℕ, ◌+◌, List, [], ◌∷◌}

-- M holds of each element
abbrev pub Each : {A : Type 0} → (A → Type 0) → List A → Type 0
Each M [] = Unit {0}
Each M (x ∷ xs) = M x × Each M xs

-- the sum of the numbers f of the elements
abbrev pub total : {A : Type 0} → (A → ℕ) → List A → ℕ
total f [] = 0
total f (x ∷ xs) = f x + total f xs
