-- The levels of the sites of a procedure that calls itself in a walk.
use Rattle.luo_model.specs.Levels.{IsLevel}
use Rattle.luo_model.specs.Programs.{hierarchies}

-- the call is one above the whole, the body of the walk one above the call; the walk and the case
-- are at 0, and the whole, whose body is a case, at 1
abbrev pub LevelsOfHierarchies : Type 0
LevelsOfHierarchies =
    IsLevel hierarchies 0 2 × IsLevel hierarchies 1 3 × IsLevel hierarchies 2 0
    × IsLevel hierarchies 3 0 × IsLevel hierarchies 4 1
