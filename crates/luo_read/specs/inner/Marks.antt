-- Labels by marks.
use Rattle.std.specs.Prelude.{◌≡◌, ℕ, zero, suc, ◌+◌, ◌<◌, List, [], ◌∷◌, Bool, true, length, slice_index_or}
use Rattle.luo_finite.specs.Listing.{In}
use Rattle.luo_model.specs.Tree.{Tree, labels_of}

-- the mark of a label, where there is one, set
abbrev pub mark : List Bool → ℕ → List Bool
mark ms zero = ms
mark [] (suc label) = []
mark (m ∷ ms) (suc zero) = true ∷ ms
mark (m ∷ ms) (suc (suc label)) = m ∷ mark ms (suc label)

abbrev pub mark_all : List Bool → List ℕ → List Bool
mark_all ms [] = ms
mark_all ms (label ∷ labels) = mark_all (mark ms label) labels

abbrev pub AllMarked : List Bool → Type 0
AllMarked ms = (k : ℕ) → k < length ms → slice_index_or ms k true ≡ true

-- each number from 1 to n is a label
abbrev pub HasTo : Tree → ℕ → Type 0
HasTo t n = (k : ℕ) → k < n → In (k + 1) (labels_of t)
