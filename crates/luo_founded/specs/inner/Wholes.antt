-- Levels of sites, from the levels of the wholes that are called.
use Rattle.std.specs.Prelude.{◌≡◌, ℕ, suc, List, [], ◌∷◌, ◌++◌, Some, map, length, max, slice_get}
use Rattle.luo_model.specs.Program.{Program, Body, Does, Items, no_items, item, Item, Call, Case, Forall}
use Rattle.luo_model.specs.Charges.{Work, of_body, of_call, of_case, of_walk, works_of_body}
use Rattle.luo_model.specs.Levels.{WholeLevel}
use Rattle.luo_founded.specs.inner.Longest.{past}

-- 1 more than the level of the whole that is called, and 0 for a case or a walk
abbrev pub item_level : List ℕ → Item → ℕ
item_level wholes (Call var callee site) = past (slice_get wholes callee)
item_level wholes (Case var arms site) = 0
item_level wholes (Forall var body body_site site) = 0

-- the greatest of these
abbrev pub items_level : List ℕ → Items → ℕ
items_level wholes no_items = 0
items_level wholes (item i is) = max (item_level wholes i) (items_level wholes is)

-- 1 more than the greatest level of the items, and 0 without items
abbrev pub body_level : List ℕ → Body → ℕ
body_level wholes (Does own no_items) = 0
body_level wholes (Does own (item i is)) = suc (items_level wholes (item i is))

abbrev pub work_level : List ℕ → Work → ℕ
work_level wholes (of_body body) = body_level wholes body
work_level wholes (of_call callee) = past (slice_get wholes callee)
work_level wholes (of_case arms) = 0
work_level wholes (of_walk body) = 0

-- the levels of sites, by what is done there
abbrev pub levels_of : List ℕ → List (ℕ × Work) → List ℕ
levels_of wholes works = map (λ w. work_level wholes w.1) works

-- those of the sites of a body, and its own after them
abbrev pub levels_of_body : List ℕ → Body → List ℕ
levels_of_body wholes body = levels_of wholes (works_of_body body) ++ body_level wholes body ∷ []

-- the level of the whole of each procedure
pub record AreWholes (p : Program) (wholes : List ℕ) : Type 0 where
  pub long : length wholes ≡ length p.procs
  pub each : (f r : ℕ) → slice_get wholes f ≡ Some r → WholeLevel p f r
