-- `format FILE`
use Rattle.std.specs.Prelude.{◌≡◌, ℕ, List}
use Rattle.luo_print.specs.Canonical.{canonical}
use Rattle.luo_answer.specs.Step.{Step, ◌and_then◌, makes}
use Rattle.luo_answer.specs.Told.{Told}
use Rattle.luo_top.specs.Steps.{file_source}

-- the canonical text of the source
abbrev pub format : List ℕ → Told → Step (List ℕ)
format file told =
    file_source file told and_then λ source. makes (λ bytes. bytes ≡ canonical source)
