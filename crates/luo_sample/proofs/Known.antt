-- The known samples, by computation.
use Rattle.std.proofs.Common.{refl}
use Rattle.std.specs.Fmt.{digits}
use Rattle.rand_core.specs.Steps.{first_words, u32_at, word_bytes}
use Rattle.rand_core.specs.Pcg32Seed.{pcg32_seed}
use Rattle.luo_sample.specs.Text.{numbered}
use Rattle.luo_sample.specs.Facts.{Words, Universes, Choices, FirstLines, MiddleLines, LastLines}

pub words : Words
unfolding first_words u32_at pcg32_seed word_bytes
words = (refl, refl, refl, refl)

pub universes : Universes
unfolding u32_at pcg32_seed word_bytes
universes = (refl, refl, refl, refl)

pub choices : Choices
unfolding u32_at pcg32_seed word_bytes
choices = (refl, refl, refl)

pub first_lines : FirstLines
unfolding u32_at pcg32_seed word_bytes digits numbered
first_lines = (refl, refl)

pub middle_lines : MiddleLines
unfolding u32_at pcg32_seed word_bytes digits numbered
middle_lines = refl

pub last_lines : LastLines
unfolding u32_at pcg32_seed word_bytes digits numbered
last_lines = (refl, refl)
