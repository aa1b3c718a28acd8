-- Layers of a graph: from where walks of 0, 1, 2, .. steps lead home.
use Rattle.std.specs.Prelude.{◌≡◌, ℕ, List, Bool, Some, length, slice_get}
use Rattle.luo_founded.specs.inner.Graph.{IsLayer}

-- the first k layers
pub record AreLayers (edges : List (List ℕ)) (home k : ℕ) (layers : List (List Bool)) : Type 0 where
  pub many : length layers ≡ k
  pub layer : (j : ℕ) (table : List Bool) → slice_get layers j ≡ Some table
      → IsLayer edges home j table
