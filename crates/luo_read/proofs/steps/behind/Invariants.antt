use Rattle.std.proofs.Common.{◌≡◌, ◌≤◌, length}
use Rattle.luo_struct.specs.View.{tree_of}
use Rattle.luo_read.specs.inner.Machine.{closed}
use Rattle.luo_read.specs.inner.Readers.{opens_of}
use Rattle.luo_read.proofs.steps.behind.Given as goal

abbrev pub invariant-loop-frame : goal.invariant-loop-frame
invariant-loop-frame l = (closed (opens_of l.frames) (tree_of l.s) ≡ closed (opens_of l.initial.frames) (tree_of l.initial.s)) × (length l.frames ≤ length l.initial.frames)

abbrev pub decreases-loop-frame : goal.decreases-loop-frame
decreases-loop-frame l = length l.frames
