-- How structures are written.
use Rattle.std.specs.Prelude.{◌≡◌, codes}
use Rattle.luo_model.specs.Tree.{Tree, Trees, Atom, Inj, Tup, Coll, none, more}
use Rattle.luo_struct.specs.Text.{structure_text}

abbrev pub three : Tree → Tree → Tree → Trees
three s t u = more s (more t (more u none))

-- atoms by weight or label, branches by number, tuples in round and collections in square brackets,
-- their parts from left to right
abbrev pub StructuresAreWritten : Type 0
StructuresAreWritten =
    (structure_text (Atom 12 0) ≡ codes "a12") × (structure_text (Atom 1 12) ≡ codes "#12")
    × (structure_text (Inj 2 (Inj 13 (Atom 0 0))) ≡ codes "2:13:a0")
    × (structure_text (Tup (three (Atom 1 0) (Atom 2 0) (Atom 3 0))) ≡ codes "(a1,a2,a3)")
    × (structure_text (Coll (three (Atom 3 0) (Atom 2 0) (Atom 1 0))) ≡ codes "[a3,a2,a1]")
    × (structure_text (Coll (three (Coll (three (Atom 1 1) (Atom 1 3) (Atom 1 2)))
    (Tup (more (Atom 1 4) (more (Inj 1 (Atom 1 6)) none))) (Coll (more (Atom 1 5) none))))
    ≡ codes "[[#1,#3,#2],(#4,1:#6),[#5]]")
    × (structure_text (Coll none) ≡ codes "[]") × (structure_text (Tup none) ≡ codes "()")
