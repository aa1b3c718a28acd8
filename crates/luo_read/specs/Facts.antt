-- Where some texts stop, and what some open.
use Rattle.std.specs.Prelude.{codes}
use Rattle.luo_read.specs.Written.{IsStructureText, IsUnreadable}
use Rattle.luo_read.specs.Nesting.{OpensAt}

-- a tuple of one part, a leading zero, a label and a branch of 0, a seventh digit, and texts that
-- end too soon
abbrev pub TextsStop : Type 0
TextsStop =
    IsUnreadable (codes "(a1)") 3 × IsUnreadable (codes "a007") 2 × IsUnreadable (codes "#0") 1
    × IsUnreadable (codes "0:a1") 0
    × IsUnreadable (codes "a1234567") 7 × IsUnreadable (codes "(a1,") 4 × IsUnreadable (codes "") 0

-- a whole text, a branch in a tuple in a collection, and a collection after two parts of a tuple
abbrev pub TextsNest : Type 0
TextsNest =
    IsStructureText (codes "1:(a2,#3)") × OpensAt 3 (codes "[(a1,2:") × OpensAt 2 (codes "(a1,[],[")
