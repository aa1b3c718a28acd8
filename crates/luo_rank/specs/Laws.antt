-- What the words of this crate have to give.
use Rattle.std.specs.Prelude.{◌≡◌, ℕ}
use Rattle.luo_finite.specs.Places.{IsPlace}
use Rattle.luo_model.specs.Tree.{Tree}
use Rattle.luo_model.specs.Order.{IsBefore}
use Rattle.luo_model.specs.Program.{Program}
use Rattle.luo_model.specs.Structures.{IsStructure}

-- the place of what stands at a place is this place, and what stands at the place of a structure is
-- this structure
abbrev pub PlacesAreInverse : Type 0
PlacesAreInverse = (p : Program) (x n r : ℕ) (s : Tree) → IsPlace (IsStructure p x n) IsBefore r s
    → ((q : ℕ) → IsPlace (IsStructure p x n) IsBefore q s → q ≡ r)
    × ((t : Tree) → IsPlace (IsStructure p x n) IsBefore r t → t ≡ s)
