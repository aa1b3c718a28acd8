-- What the check of well-foundedness answers.
use Rattle.std.specs.Prelude.{◌≡◌, ◌⊎◌, ℕ}
use Rattle.luo_finite.specs.Walk.{OnCircle, IsNamedCircle}
use Rattle.luo_model.specs.Program.{Program}
use Rattle.luo_model.specs.Founded.{SameSize, OwnCall, BreaksW1, BreaksW2, IsLeast}
use Rattle.luo_founded.specs.declared.checking.NotFounded.{NotFounded}
use Rattle.luo_founded.specs.declared.checking.NotFounded.TheVariants.{W1, W2, W3, W4, NoMemory}

-- the first rule that is broken: it and no earlier one is, and the node is its least, or the chain
-- is the circle that is named
abbrev pub Breaks : Program → NotFounded → Type 0
Breaks p (W1 x) = IsLeast (BreaksW1 p) x
Breaks p (W2 x) = ((y : ℕ) → BreaksW1 p y → ⊥) × IsLeast (BreaksW2 p) x
Breaks p (W3 chain) =
    ((y : ℕ) → BreaksW1 p y → ⊥) × ((y : ℕ) → BreaksW2 p y → ⊥)
    × ((x : ℕ) × IsNamedCircle (SameSize p) x chain)
Breaks p (W4 chain) =
    ((y : ℕ) → BreaksW1 p y → ⊥) × ((y : ℕ) → BreaksW2 p y → ⊥)
    × ((y : ℕ) → OnCircle (SameSize p) y → ⊥) × ((f : ℕ) × IsNamedCircle (OwnCall p) f chain)
Breaks p NoMemory = ⊥

-- what is answered in place of ranks: the first rule that is broken, or that memory was refused
abbrev pub Refuses : Program → NotFounded → Type 0
Refuses p NoMemory = Unit {0}
Refuses p e = Breaks p e

abbrev pub WantsMemory : NotFounded → Type 0
WantsMemory e = e ≡ NoMemory

-- the answer is e, or that memory was refused
abbrev pub Answers : NotFounded → NotFounded → Type 0
Answers e answer = (answer ≡ e) ⊎ WantsMemory answer
