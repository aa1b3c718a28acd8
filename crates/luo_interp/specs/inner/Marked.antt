-- Numbers as a table with marks holds them.
use Rattle.std.specs.Prelude.{◌≡◌, ℕ}
use Rattle.luo_num.specs.Mark.{capped}

-- whatever number C holds of, n is that number, marked where it overflows
abbrev pub Marks : (ℕ → Type 0) → ℕ → Type 0
Marks C n = (q : ℕ) → C q → n ≡ capped q
