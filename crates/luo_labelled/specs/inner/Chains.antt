-- What the tables hold.
use Rattle.std.specs.Prelude.{◌≡◌, ℕ, suc, ◌+◌, ◌*◌, ◌≤◌, List, length, slice_index, Option}
use Rattle.luo_model.specs.declared.program.Kind.{Kind}
use Rattle.luo_labelled.specs.Calls.{AreBounds}
use Rattle.luo_labelled.specs.inner.Steps.{rest_of, steps_of, step_count, step_total, row_count, HoldRows}

-- the numbers of components that were given, and the numbers of what comes after a first one
pub record IsChain (kind : Kind) (low : ℕ) (high : Option ℕ) (n_max calls : ℕ)
    (comp cells : List ℕ) : Type 0 where
  pub bounds : AreBounds kind low high n_max
  pub reached : calls ≤ n_max + 1
  pub start : slice_index comp 0 ≡ 0
  pub sizes : length comp ≡ n_max + 1
  pub rows : length cells ≡ row_count (steps_of low high n_max).last * (n_max + 1)
  pub holds : HoldRows (steps_of low high n_max)
      (step_count (steps_of low high n_max) (rest_of kind) (slice_index comp)) calls cells

-- besides, the sums of charges, and those over what comes after a first component
pub record IsWalk (kind : Kind) (low : ℕ) (high : Option ℕ) (n_max calls : ℕ)
    (comp body cells : List ℕ) : Type 0 where
  pub bounds : AreBounds kind low high n_max
  pub reached : calls ≤ n_max + 1
  pub start : slice_index comp 0 ≡ 0
  pub body_start : slice_index body 0 ≡ 0
  pub sizes : length comp ≡ n_max + 1
  pub body_sizes : length body ≡ n_max + 1
  pub rows : length cells ≡ row_count (steps_of low high n_max).last * (n_max + 1)
  pub holds : HoldRows (steps_of low high n_max)
      (step_total (steps_of low high n_max) (rest_of kind) (slice_index comp)
      (slice_index body)) calls cells
