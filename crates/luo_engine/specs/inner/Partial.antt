-- Rows of partial products, before and after the entries of a size are known.
use Rattle.std.specs.Prelude.{◌≡◌, ℕ, zero, suc, ◌+◌, ◌*◌, ◌<◌, ◌≤◌, List, length, drop, slice_get, Option, Some}
use Rattle.luo_num.specs.Mark.{capped}
use Rattle.luo_model.specs.declared.program.Universe.{Universe}
use Rattle.luo_recipes.specs.Shares.{tail_of, open_of}
use Rattle.luo_engine.specs.inner.Grid.{Reaches, entry_of}

-- each factor has a row of counts, and a row of partial products after it
abbrev pub AreLinks : List (Option ℕ) → ℕ → Type 0
AreLinks factors nodes =
    (r y : ℕ) → slice_get factors r ≡ Some (Some y) → (y < nodes) × (r + 1 < length factors)

-- what row r holds at size n once the entries of size n are known
abbrev pub IsClosed : Universe → List (List ℕ) → List (Option ℕ) → List (List ℕ) → ℕ → ℕ → Type 0
IsClosed u counts factors partials r n =
    entry_of partials r n ≡ capped (tail_of u (entry_of counts) (drop r factors) n)

-- what row r holds at size n before
abbrev pub IsOpen : Universe → List (List ℕ) → List (Option ℕ) → List (List ℕ) → ℕ → ℕ → Type 0
IsOpen u counts factors partials r n =
    entry_of partials r n ≡ capped (open_of u (entry_of counts) (drop r factors) n)

-- the tables of counts and of partial products reach size n, and are closed at the sizes below it
pub record AreClosedBelow
    (u : Universe) (counts : List (List ℕ)) (factors : List (Option ℕ)) (partials : List (List ℕ))
    (n : ℕ) : Type 0 where
  pub links : AreLinks factors (length counts)
  pub wide : length partials ≡ length factors
  pub counts_reach : Reaches n counts
  pub partials_reach : Reaches n partials
  pub closed : (r m : ℕ) → r < length factors → m < n → IsClosed u counts factors partials r m

-- and open at size n before row r
pub record AreOpenBefore
    (u : Universe) (counts : List (List ℕ)) (factors : List (Option ℕ)) (partials : List (List ℕ))
    (n r : ℕ) : Type 0 where
  pub below : AreClosedBelow u counts factors partials n
  pub open_rows : (q : ℕ) → q < r → IsOpen u counts factors partials q n

-- and closed at size n from row r on
pub record AreClosedFrom
    (u : Universe) (counts : List (List ℕ)) (factors : List (Option ℕ)) (partials : List (List ℕ))
    (n r : ℕ) : Type 0 where
  pub before : AreOpenBefore u counts factors partials n r
  pub closed_rows : (q : ℕ) → r ≤ q → q < length factors → IsClosed u counts factors partials q n

-- an open entry with what the entries of size n add: one of the two gets all
abbrev pub closing : ℕ → (ℕ → ℕ) → (ℕ → ℕ) → ℕ → ℕ → ℕ
closing opened a b zero whole = a 0 * whole
closing opened a b (suc m) whole = opened + (a 0 * whole + a (suc m) * b 0)
