-- `list FILE TYPE N START COUNT` from the program on.
use Rattle.std.specs.Prelude.{◌≡◌, ◌<◌, ◌+◌, ℕ, List, [], ◌∷◌, ◌++◌, codes, decimal, take, drop, Some, slice_get}
use Rattle.luo_num.specs.declared.limits.TheConstants.{COUNT_LIMIT}
use Rattle.luo_model.specs.declared.program.Def.{Def}
use Rattle.luo_model.specs.declared.table.Fill.TheVariants.{Counts}
use Rattle.luo_model.specs.Program.{Program}
use Rattle.luo_model.specs.Structures.{IsOrderedListing}
use Rattle.luo_model.specs.Tree.{Tree}
use Rattle.luo_struct.specs.Text.{structure_text}
use Rattle.luo_answer.specs.declared.status.Status.TheVariants.{Refused, Limit}
use Rattle.luo_answer.specs.Lines.{line}
use Rattle.luo_answer.specs.Step.{Step, ◌or_makes◌, ◌and_then◌, RefusedWhere, makes}
use Rattle.luo_answer.specs.Steps.{founded, list_sized, tables}
use Rattle.luo_answer.specs.WordRefusals.{unknown_line, count_line}

-- x is the node of the type of this name
abbrev pub IsTypeNamed : Program → List ℕ → ℕ → Type 0
IsTypeNamed p name x =
    (i : ℕ) × (d : Def) × (slice_get p.defs i ≡ Some d) × (d.name ≡ name) × (d.whole.node ≡ x)

-- a word that names no type, and else the node of the type of this name
abbrev pub type_of : Program → List ℕ → Step ℕ
type_of p name =
    RefusedWhere ((x : ℕ) → IsTypeNamed p name x → ⊥) Refused
    (unknown_line name) or_makes IsTypeNamed p name

-- a number of structures past its limit is refused
abbrev pub counted : ℕ → Step ℕ
counted k = RefusedWhere (COUNT_LIMIT < k) Limit count_line or_makes λ count. count ≡ k

-- a line for each tree, the first of which has place r: the place, a space, and the text
abbrev pub list_lines : ℕ → List Tree → List ℕ
list_lines r [] = []
list_lines r (t ∷ ts) = line (decimal r ++ codes " " ++ structure_text t) ++ list_lines (r + 1) ts

-- the lines of the trees from place `start` on, at most k of them
abbrev pub lines_from : ℕ → ℕ → List Tree → List ℕ
lines_from start k l = list_lines start (take k (drop start l))

-- these bytes are the lines of the structures of node x of size n from place `start` on, at most k
-- of them
abbrev pub IsListText : Program → ℕ → ℕ → ℕ → ℕ → List ℕ → Type 0
IsListText p x n start k bytes =
    (l : List Tree) × IsOrderedListing p x n l × (bytes ≡ lines_from start k l)

abbrev pub listed : Program → ℕ → ℕ → ℕ → ℕ → Step (List ℕ)
listed p x n start k = makes (IsListText p x n start k)

-- from the type on
abbrev pub list_of : Program → ℕ → ℕ → ℕ → ℕ → Step (List ℕ)
list_of p n start k x =
    list_sized n and_then λ size. counted k and_then λ count. tables Counts p size
    and_then λ _. listed p x size start count

-- from the program on
abbrev pub list_named : List ℕ → ℕ → ℕ → ℕ → Program → Step (List ℕ)
list_named name n start k p = founded p and_then λ _. type_of p name and_then list_of p n start k
