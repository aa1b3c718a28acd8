-- What the words of this crate have to give.
use Rattle.std.specs.Prelude.{◌≡◌, ℕ, ◌<◌, List, Some, slice_get}
use Rattle.luo_model.specs.Tree.{Tree}
use Rattle.luo_model.specs.Order.{IsBefore}
use Rattle.luo_model.specs.Program.{Program}
use Rattle.luo_model.specs.Structures.{IsStructure, IsOrderedListing}
use Rattle.luo_model.specs.Tables.{IsCount}
use Rattle.luo_finite.specs.Places.{IsPlace}

-- at place r of an ordered listing stands s exactly where s has place r
abbrev pub PlacesAreInListings : Type 0
PlacesAreInListings =
    (p : Program) (x n : ℕ) (l : List Tree) (r : ℕ) (s : Tree) → IsOrderedListing p x n l
    → (IsPlace (IsStructure p x n) IsBefore r s → slice_get l r ≡ Some s)
    × (slice_get l r ≡ Some s → IsPlace (IsStructure p x n) IsBefore r s)

-- a structure has one place, a place has one structure, and the places are those below the count
abbrev pub PlacesAreSingle : Type 0
PlacesAreSingle =
    (p : Program) (x n : ℕ)
    → ((r q : ℕ) (s : Tree) → IsPlace (IsStructure p x n) IsBefore r s
    → IsPlace (IsStructure p x n) IsBefore q s → r ≡ q)
    × ((r : ℕ) (s t : Tree) → IsPlace (IsStructure p x n) IsBefore r s
    → IsPlace (IsStructure p x n) IsBefore r t → s ≡ t)
    × ((c r : ℕ) (s : Tree) → IsCount p x n c → IsPlace (IsStructure p x n) IsBefore r s → r < c)
    × ((c r : ℕ) → IsCount p x n c → r < c → (s : Tree) × IsPlace (IsStructure p x n) IsBefore r s)
