-- The layout of the nodes before some node.
use Rattle.std.specs.Prelude.{◌≡◌, ℕ, ◌+◌, ◌*◌, ◌<◌, ◌≤◌, List, [], ◌∷◌, ◌++◌, length, map, Option, Some, None, slice_index, drop}
use Rattle.luo_num.specs.declared.limits.TheConstants.{PART_LIMIT}
use Rattle.luo_model.specs.declared.program.Part.{Part}
use Rattle.luo_model.specs.declared.program.Shape.{Shape}
use Rattle.luo_model.specs.declared.program.Shape.TheVariants.{Atom, Union, Product, Coll}
use Rattle.luo_model.specs.Program.{Program, shape_of}
use Rattle.luo_model.specs.Levels.{IsRank}
use Rattle.luo_engine.specs.declared.layout.Layout.{Layout}
use Rattle.luo_engine.specs.inner.Partial.{AreLinks}

-- the rows of a product: its factors, and the end
abbrev pub rows_of_parts : List Part → List (Option ℕ)
rows_of_parts parts = map (λ part. Some part.node) parts ++ None ∷ []

-- one more node: the rows of a product come after all others
abbrev pub laid_behind : Layout → Shape → Layout
laid_behind l (Product parts) =
    record {
      starts = l.starts ++ length l.factors ∷ [];
      factors = l.factors ++ rows_of_parts parts;
    }
laid_behind l (Atom weight) = record { starts = l.starts ++ 0 ∷ []; factors = l.factors }
laid_behind l (Union parts) = record { starts = l.starts ++ 0 ∷ []; factors = l.factors }
laid_behind l (Coll kind part low high) =
    record { starts = l.starts ++ 0 ∷ []; factors = l.factors }

-- the nodes below x are laid out
pub record AreLaidBelow (p : Program) (l : Layout) (x : ℕ) : Type 0 where
  pub wide : length l.starts ≡ x
  pub links : AreLinks l.factors (length p.nodes)
  pub few : length l.factors ≤ (PART_LIMIT + 1) * x
  pub products : (y : ℕ) (parts : List Part) → y < x → shape_of p y ≡ Product parts
      → (rest : List (Option ℕ))
      × (drop (slice_index l.starts y) l.factors
      ≡ map (λ part. Some part.node) parts ++ (None ∷ rest))

-- the ranks of the nodes below x
pub record AreRanksBelow (p : Program) (ranks : List ℕ) (x : ℕ) : Type 0 where
  pub wide : length ranks ≡ x
  pub ranked : (y : ℕ) → y < x → IsRank p y (slice_index ranks y)
