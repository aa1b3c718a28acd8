-- The numbers of components that a program gives to the calls of a table, size by size.
use Rattle.std.specs.Prelude.{◌≡◌, ℕ, suc, ◌≤◌, ◌<◌, List, length, slice_index, Option}
use Rattle.luo_num.specs.declared.TheConstants.{MAX}
use Rattle.luo_model.specs.Member.{IsWithin}
use Rattle.luo_labelled.specs.Calls as labelled
use Rattle.luo_unlabelled.specs.Calls as unlabelled

-- numbers of components by size: no component is empty, and no number is above the last
pub record AreComponents (comp : List ℕ) : Type 0 where
  pub none_empty : slice_index comp 0 ≡ 0
  pub small : (m : ℕ) → slice_index comp m ≤ MAX

-- the calls for the first n sizes were given these numbers; that of the last size counts only where
-- one component is within the bounds
pub record AreGiven (low : ℕ) (high : Option ℕ) (comp : List ℕ) (n : ℕ)
    (given : List ℕ) : Type 0 where
  pub sizes : length given ≡ n
  pub earlier : (m : ℕ) → suc m < n → slice_index given m ≡ slice_index comp m
  pub last : (m : ℕ) → suc m ≡ n → IsWithin low high 1 → slice_index given m ≡ slice_index comp m

-- and of these numbers those below the last size were kept
pub record AreKept (comp : List ℕ) (n : ℕ) (kept : List ℕ) : Type 0 where
  pub earlier : (m : ℕ) → suc m < n → slice_index kept m ≡ slice_index comp m

-- a table and a walk over it are for the same collections: labelled ones
pub record AreAlike (table walk : labelled.Calls) : Type 0 where
  pub kind : table.kind ≡ walk.kind
  pub low : table.low ≡ walk.low
  pub high : table.high ≡ walk.high
  pub n_max : table.n_max ≡ walk.n_max

-- and unlabelled ones
pub record AreSame (table walk : unlabelled.Calls) : Type 0 where
  pub kind : table.kind ≡ walk.kind
  pub low : table.low ≡ walk.low
  pub high : table.high ≡ walk.high
  pub n_max : table.n_max ≡ walk.n_max
