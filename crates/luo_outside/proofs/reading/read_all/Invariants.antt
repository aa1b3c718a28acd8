use Rattle.std.proofs.Common.{◌≡◌, ℕ, List, ◌≤◌, ◌-◌, vec_len}
use Rattle.std.specs.Io.KnownBytes.{Consumes}
use Rattle.luo_outside.specs.Causes.{NoneFell}
use Rattle.luo_num.specs.declared.limits.TheConstants.{TEXT_LIMIT}
use Rattle.luo_outside.proofs.reading.read_all.Given as goal

abbrev pub invariant-loop-count : goal.invariant-loop-count
invariant-loop-count g l =
    (vec_len l.bytes ≤ TEXT_LIMIT)
    × g.F.Files.found l.files l.name
    × Consumes (g.F.Files.named l.fn.files l.name) (g.F.Files.left l.files) l.bytes.items
    × NoneFell (g.F.Files.faults l.fn.files) (g.F.Files.faults l.files)
    × ((n : List ℕ) → g.F.Files.named l.files n ≡ g.F.Files.named l.fn.files n)

abbrev pub decreases-loop-count : goal.decreases-loop-count
decreases-loop-count g l = TEXT_LIMIT - vec_len l.bytes
