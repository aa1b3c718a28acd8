-- The tables of walks before the first size.
use Rattle.std.specs.Prelude.{◌≡◌, ℕ, ◌<◌, List, length, slice_get, Option, Some}
use Rattle.luo_model.specs.Program.{Program, site_node}
use Rattle.luo_engine.specs.declared.tasks.Task.{Task}
use Rattle.luo_engine.specs.declared.tasks.Task.TheVariants.{Walk}
use Rattle.luo_engine.specs.inner.Asked.{Asked, AskedWalk, unasked_walk}
use Rattle.luo_engine.specs.inner.Collections.{table_at}

-- of the sites below i each with a walk has a table for it
pub record AreMadeBelow
    (p : Program) (tasks : List Task) (tables : List (Option Asked))
    (walks : List (Option AskedWalk))
    (i : ℕ) : Type 0 where
  pub wide : length walks ≡ i
  pub made : (j collection body : ℕ) → j < i → slice_get tasks j ≡ Some (Walk collection body)
      → slice_get walks j ≡ Some (Some (unasked_walk (table_at tables (site_node p j))))
