-- The levels of the sites of a procedure that calls itself in a walk.
use Rattle.std.proofs.Common.{ℕ, refl, inl, inr}
use Rattle.luo_model.specs.Levels.{WholeLevel, IsLevel}
use Rattle.luo_model.specs.Programs.{hierarchies}
use Rattle.luo_model.specs.FactsLevels.{LevelsOfHierarchies}

-- the level of the whole
whole : WholeLevel hierarchies 0 1
whole = (1, (_, refl, (0, (0, 0, refl, refl, refl), refl)))

pub levels-hierarchies : LevelsOfHierarchies
levels-hierarchies = (
  (_, inl refl, (1, whole, refl)),
  (_, inr (inl refl), (2, (2, 0, (1, whole, refl), refl, refl), refl)),
  (_, inr (inr (inl refl)), refl),
  (_, inr (inr (inr (inl refl))), refl),
  (_, inr (inr (inr (inr (inl refl)))), (0, (0, 0, refl, refl, refl), refl)),
)
