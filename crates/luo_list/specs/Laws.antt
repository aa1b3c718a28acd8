-- What the words of this crate have to give.
use Rattle.std.specs.Prelude.{◌≡◌, ◌+◌, ◌-◌, ℕ, List, map, length, slice_get, Some, take, drop}
use Rattle.luo_model.specs.Tree.{Tree}
use Rattle.luo_model.specs.Structures.{IsOrderedListing}
use Rattle.luo_model.specs.View.{plain_of}
use Rattle.luo_struct.specs.declared.structure.Structure.{Structure}
use Rattle.luo_struct.specs.View.{tree_of}
use Rattle.luo_list.specs.Span.{Span, StandsAt, Walk}

-- a walk is the stretch of the ordered listing from its place to its end
abbrev pub WalksAreStretches : Type 0
WalksAreStretches =
    (c : Span) (ss : List Structure) (l : List Tree)
    → IsOrderedListing (plain_of c.program) c.node c.size l → Walk c ss
    → map tree_of ss ≡ take (c.end - c.place) (drop c.place l)

-- a walk has as many structures as there are places, and each stands at its own
abbrev pub WalksGoInOrder : Type 0
WalksGoInOrder = (c : Span) (ss : List Structure) → Walk c ss
    → (c.place + length ss ≡ c.end)
    × ((i : ℕ) (s : Structure) → slice_get ss i ≡ Some s → StandsAt c (c.place + i) (tree_of s))
