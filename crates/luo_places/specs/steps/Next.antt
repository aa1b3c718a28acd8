-- What comes next, what is first and what is last.
use Rattle.std.specs.Prelude.{List, [], ◌∷◌}

-- P holds of both, s is before t, and nothing of which P holds is between
pub record IsNext {A : Type 0} (P : A → Type 0) (Before : A → A → Type 0) (s t : A) : Type 0 where
  pub here : P s
  pub there : P t
  pub rises : Before s t
  pub between : (y : A) → P y → Before s y → Before y t → ⊥

-- P holds of x, and of nothing before it
pub record IsFirst {A : Type 0} (P : A → Type 0) (Before : A → A → Type 0) (x : A) : Type 0 where
  pub there : P x
  pub before : (y : A) → P y → Before y x → ⊥

-- P holds of x, and of nothing after it
pub record IsLast {A : Type 0} (P : A → Type 0) (Before : A → A → Type 0) (x : A) : Type 0 where
  pub there : P x
  pub after : (y : A) → P y → Before x y → ⊥

-- after x each is the next of the one before it, to the last
abbrev pub StepsFrom : {A : Type 0} → (A → Type 0) → (A → A → Type 0) → A → List A → Type 0
StepsFrom P Before x [] = IsLast P Before x
StepsFrom P Before x (y ∷ l) = IsNext P Before x y × StepsFrom P Before y l

-- from the first each is the next of the one before it, to the last
abbrev pub Steps : {A : Type 0} → (A → Type 0) → (A → A → Type 0) → List A → Type 0
Steps {A} P Before [] = (y : A) → P y → ⊥
Steps P Before (x ∷ l) = IsFirst P Before x × StepsFrom P Before x l
