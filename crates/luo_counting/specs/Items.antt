-- Collections of items of any type: which of them there are, and on which labels.
use Rattle.std.specs.Prelude.{◌≡◌, ℕ, ◌≤◌, List, length, flat_map}
use Rattle.luo_finite.specs.Each.{Each, total}
use Rattle.luo_model.specs.declared.program.Universe.{Universe}
use Rattle.luo_model.specs.declared.program.Universe.TheVariants.{Unlabelled, Labelled}
use Rattle.luo_model.specs.declared.program.Kind.{Kind}
use Rattle.luo_model.specs.declared.program.Kind.TheVariants.{Sequence, Set, Cycle, Multiset, Powerset}
use Rattle.luo_model.specs.Collections.{Bears}

-- an item of size n, on the labels L
abbrev pub On : {A : Type 0} → Universe → (A → Type 0) → (A → ℕ) → (A → List ℕ) → List ℕ → ℕ → A
    → Type 0
On u M size lab L n x = M x × (size x ≡ n) × Bears u L (lab x)

-- k items of size n together, on the labels L
abbrev pub RowOn : {A : Type 0} → Universe → (A → Type 0) → (A → ℕ) → (A → List ℕ) → List ℕ → ℕ → ℕ
    → List A → Type 0
RowOn u M size lab L k n xs =
    Each M xs × (length xs ≡ k) × (total size xs ≡ n) × Bears u L (flat_map lab xs)

-- the universe has this kind, with at least so many items
abbrev pub Suits : Universe → Kind → ℕ → Type 0
Suits u Sequence low = Unit {0}
Suits Labelled Set low = Unit {0}
Suits Labelled Cycle low = 1 ≤ low
Suits Unlabelled Multiset low = Unit {0}
Suits Unlabelled Powerset low = Unit {0}
Suits _ _ low = ⊥
