-- Pieces of text, and how they are put together.
use Rattle.std.specs.Prelude.{ℕ, List, ◌++◌, codes}
use Rattle.std.specs.List.{join_by, repeat}
use Rattle.luo_source.specs.declared.names.Name.{Name}

-- so many spaces
abbrev pub spaces : ℕ → List ℕ
spaces n = repeat n (codes " ")

-- a line feed and this indentation
abbrev pub new_line : ℕ → List ℕ
new_line n = codes "\n" ++ spaces n

-- names with `, ` between them
abbrev pub name_list : List Name → List ℕ
name_list names = join_by (λ n. n.text) (codes ", ") names

-- texts with this between them
abbrev pub joined : List ℕ → List (List ℕ) → List ℕ
joined between texts = join_by (λ t. t) between texts

-- texts on new lines of this indentation, with `;` after each but the last
abbrev pub lines : ℕ → List (List ℕ) → List ℕ
lines n texts = join_by (λ t. new_line n ++ t) (codes ";") texts
