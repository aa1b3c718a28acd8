-- What marks keep.
use Rattle.std.specs.Prelude.{◌≡◌, ℕ, ◌+◌, ◌*◌, ◌≤◌, ◌<◌, ◌↔◌}
use Rattle.luo_num.specs.Mark.{capped}
use Rattle.luo_num.specs.declared.TheConstants.{MAX}

-- a sum is marked right where its terms are marked before it
abbrev pub CappedSum : Type 0
CappedSum = (a b : ℕ) → capped (capped a + capped b) ≡ capped (a + b)

-- a product is marked right where its factors are marked before it
abbrev pub CappedProduct : Type 0
CappedProduct = (a b : ℕ) → capped (capped a * capped b) ≡ capped (a * b)

-- a number up to the last one stays as it is
abbrev pub CappedSmall : Type 0
CappedSmall = (n : ℕ) → n ≤ MAX → capped n ≡ n

-- exactly a number that overflows is marked
abbrev pub CappedPast : Type 0
CappedPast = (n : ℕ) → (MAX < capped n) ↔ (MAX < n)
