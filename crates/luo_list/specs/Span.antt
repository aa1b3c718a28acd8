-- A cursor as contracts see it, what it answers, and walks to its end.
use Rattle.std.specs.Prelude.{◌≡◌, ◌<◌, ◌+◌, ℕ, List, [], ◌∷◌, Option, Some, None}
use Rattle.luo_model.specs.Tree.{Tree}
use Rattle.luo_model.specs.Order.{IsBefore}
use Rattle.luo_model.specs.Structures.{IsStructure}
use Rattle.luo_model.specs.View.{Held, plain_of}
use Rattle.luo_finite.specs.Places.{IsPlace}
use Rattle.luo_struct.specs.declared.structure.Structure.{Structure}
use Rattle.luo_struct.specs.View.{tree_of}

-- the program, the node and the size whose structures are walked, the next place, and the place
-- where the walk ends
pub record Span : Type 0 where
  pub program : Held
  pub node : ℕ
  pub size : ℕ
  pub place : ℕ
  pub end : ℕ

-- the tree has this place among those of the span
abbrev pub StandsAt : Span → ℕ → Tree → Type 0
StandsAt c r t = IsPlace (IsStructure (plain_of c.program) c.node c.size) IsBefore r t

-- the tree has the place before the next one
abbrev pub HasPassed : Span → Tree → Type 0
HasPassed c t = (r : ℕ) × (r + 1 ≡ c.place) × StandsAt c r t

-- what a cursor answers, and what it is after it: nothing at the end, else the structure at the
-- next place
abbrev pub Answers : Span → Option Structure → Span → Type 0
Answers c None d = (c.place ≡ c.end) × (d ≡ c)
Answers c (Some s) d =
    (c.place < c.end) × StandsAt c c.place (tree_of s) × (d ≡ record c { place = c.place + 1 })

-- what a cursor answers one after the other, until it answers nothing
abbrev pub Walk : Span → List Structure → Type 0
Walk c [] = Answers c None c
Walk c (s ∷ ss) = (d : Span) × Answers c (Some s) d × Walk d ss

-- what a cursor answers on the way from one span to another
abbrev pub Goes : Span → List Structure → Span → Type 0
Goes c [] d = d ≡ c
Goes c (s ∷ ss) d = (e : Span) × Answers c (Some s) e × Goes e ss d
