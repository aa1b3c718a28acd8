-- What a listing has shown on the way.
use Rattle.std.specs.Prelude.{◌≡◌, ℕ, ◌+◌, ◌++◌, List, codes, decimal, length, map, Some}
use Rattle.luo_list.specs.Span.{Span, Answers, Goes}
use Rattle.luo_struct.specs.declared.structure.Structure.{Structure}
use Rattle.luo_struct.specs.Text.{structure_text}
use Rattle.luo_struct.specs.View.{tree_of}
use Rattle.luo_answer.specs.Commands.List.{list_lines}
use Rattle.luo_answer.specs.Lines.{line}

-- a cursor answered a structure, whose line with this place was put behind a text
abbrev pub Shows : Span → Span → ℕ → List ℕ → List ℕ → Type 0
Shows before after place old new =
    (s : Structure) × Answers before (Some s) after
    × (new ≡ old ++ line (decimal place ++ codes " " ++ structure_text (tree_of s)))

-- from a cursor on so many structures were shown, the first with this place, and there the cursor
-- stands now
pub record HasListed (first : Span) (start many : ℕ) (now : Span) (text : List ℕ) : Type 0 where
  pub shown : List Structure
  pub long : length shown ≡ many
  pub goes : Goes first shown now
  pub place : now.place ≡ start + many
  pub end : now.end ≡ first.end
  pub written : text ≡ list_lines start (map tree_of shown)
