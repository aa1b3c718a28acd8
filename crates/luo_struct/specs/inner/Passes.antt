-- What passes over labels find.
use Rattle.std.specs.Prelude.{ℕ, zero, suc, ◌+◌, List, [], ◌∷◌, if◌then◌else◌, nat_lt, nat_eq, min}

-- the lesser of two labels, where 0 is none
abbrev pub lesser : ℕ → ℕ → ℕ
lesser zero y = y
lesser (suc x) zero = suc x
lesser (suc x) (suc y) = min (suc x) (suc y)

-- the least number above `past`, or 0 where there is none
abbrev pub next_above : ℕ → List ℕ → ℕ
next_above past [] = 0
next_above past (x ∷ xs) = lesser (if nat_lt past x then x else 0) (next_above past xs)

-- how often a number stands
abbrev pub copies_of : ℕ → List ℕ → ℕ
copies_of x [] = 0
copies_of x (y ∷ ys) = (if nat_eq x y then 1 else 0) + copies_of x ys
