-- What a source tells of its files.
use Rattle.std.specs.Prelude.{◌≡◌, ℕ, ◌<◌, List, length, if◌then◌else◌, Option, None, Some}
use Rattle.std.specs.Str.{bytes_eq}
use Rattle.luo_answer.specs.declared.status.Status.TheVariants.{Limit}
use Rattle.luo_answer.specs.Answer.{Answer, Untold}
use Rattle.luo_answer.specs.Step.{Step, ◌or_makes◌, RefusedWhere}

-- the content of the file of a name, where it is told
abbrev pub Told : Type 0
Told = List ℕ → Option (List ℕ)

-- the same but for a file, which isn't told
abbrev pub without : List ℕ → Told → Told
without file told name = if bytes_eq name file then None else told name

-- a content that isn't told, or that is too long
abbrev pub ReadingRefusal : ℕ → List ℕ → Option (List ℕ) → Answer → Type 0
ReadingRefusal most line None answer = answer ≡ Untold
ReadingRefusal most line (Some text) answer = RefusedWhere (most < length text) Limit line answer

-- a file of at most so many bytes is read
abbrev pub reading : ℕ → List ℕ → List ℕ → Told → Step (List ℕ)
reading most line file told =
    ReadingRefusal most line (told file) or_makes λ text. told file ≡ Some text
