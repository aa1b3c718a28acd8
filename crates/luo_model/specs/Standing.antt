-- How the items of a collection stand. Items are of any type that has a least label and an order:
-- structures are one, numbered items another.
use Rattle.std.specs.Prelude.{ℕ, ◌≤◌, ◌<◌, List, [], ◌∷◌}
use Rattle.luo_finite.specs.Listing.{In, Pairwise}
use Rattle.luo_model.specs.declared.program.Kind.{Kind}
use Rattle.luo_model.specs.declared.program.Kind.TheVariants.{Sequence, Set, Cycle, Multiset, Powerset}

-- the least label of the first item isn't above that of any other
abbrev pub IsLed : {A : Type 0} → (A → ℕ) → List A → Type 0
IsLed least [] = Unit {0}
IsLed {A} least (x ∷ xs) = (y : A) → In y xs → least x ≤ least y

-- the items stand as the kind wants them: the least labels of a set rise, a cycle begins with the
-- item of the least label, the items of a multiset never rise in the order, and those of a powerset
-- fall
abbrev pub StandAs : {A : Type 0} → (A → ℕ) → (A → A → Type 0) → Kind → List A → Type 0
StandAs least Before Sequence xs = Unit {0}
StandAs least Before Set xs = Pairwise (λ x y. least x < least y) xs
StandAs least Before Cycle xs = IsLed least xs
StandAs least Before Multiset xs = Pairwise (λ x y. Before x y → ⊥) xs
StandAs least Before Powerset xs = Pairwise (λ x y. Before y x) xs
