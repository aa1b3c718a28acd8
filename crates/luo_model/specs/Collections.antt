-- Collections of items of any type.
use Rattle.std.specs.Prelude.{◌≡◌, ℕ, List, Option, length, flat_map}
use Rattle.luo_finite.specs.Each.{Each, total}
use Rattle.luo_model.specs.declared.program.Universe.{Universe}
use Rattle.luo_model.specs.declared.program.Universe.TheVariants.{Unlabelled, Labelled}
use Rattle.luo_model.specs.declared.program.Kind.{Kind}
use Rattle.luo_model.specs.Tree.{least_of}
use Rattle.luo_model.specs.Member.{IsWithin}
use Rattle.luo_model.specs.Standing.{StandAs}
use Rattle.luo_model.specs.Structures.{Holds}

-- in the labelled universe these labels are those of L, each once
abbrev pub Bears : Universe → List ℕ → List ℕ → Type 0
Bears Unlabelled L labels = Unit {0}
Bears Labelled L labels = Holds L labels

-- a collection of size n on the labels L: items of M, as many as the bounds allow, that stand as
-- the kind wants them
abbrev pub IsCollectionOf : {A : Type 0} → Universe → (A → Type 0) → (A → ℕ) → (A → List ℕ)
    → (A → A → Type 0) → Kind → ℕ → Option ℕ → List ℕ → ℕ → List A → Type 0
IsCollectionOf u M size labels Before kind low high L n xs =
    IsWithin low high (length xs) × Each M xs × StandAs (λ x. least_of (labels x)) Before kind xs
    × (total size xs ≡ n) × Bears u L (flat_map labels xs)
