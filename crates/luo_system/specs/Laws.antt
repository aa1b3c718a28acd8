-- Plain form keeps coefficients; quotients in coefficients are rounded down.
use Rattle.std.specs.Prelude.{◌≡◌, ℕ, suc, ◌<◌, Option, ℤ, pos, ◌+ℤ◌, ◌*ℤ◌}
use Rattle.luo_model.specs.declared.program.Universe.{Universe}
use Rattle.luo_model.specs.declared.program.Kind.{Kind}
use Rattle.luo_equation.specs.Series.{floor, point}
use Rattle.luo_equation.specs.Expr.{Expr, Exprs, Table, coef, sum_of_coefs, product_of_coefs}
use Rattle.luo_system.specs.Plain.{sum_of, product_of, walk_of}

-- of sums
abbrev pub SumsKeepCoefficients : Type 0
SumsKeepCoefficients =
    (u : Universe) (t : Table) (es : Exprs) (n : ℕ) → coef u t (sum_of es) n ≡ sum_of_coefs u t es n

-- of products
abbrev pub ProductsKeepCoefficients : Type 0
ProductsKeepCoefficients =
    (u : Universe) (t : Table) (es : Exprs) (n : ℕ)
    → coef u t (product_of es) n ≡ product_of_coefs u t es n

-- of walks
abbrev pub WalksKeepCoefficients : Type 0
WalksKeepCoefficients =
    (u : Universe) (t : Table) (kind : Kind) (inner : Expr) (low : ℕ) (high : Option ℕ)
    (body : Expr) (n : ℕ)
    → coef u t (walk_of kind inner low high body) n
    ≡ point u kind (coef u t inner) (coef u t body) low high n

-- a quotient by k + 1 leaves a remainder from 0 to k, also where the dividend is negative
abbrev pub QuotientsRoundDown : Type 0
QuotientsRoundDown =
    (z : ℤ) (k : ℕ) → (r : ℕ) × (r < suc k) × (z ≡ pos (suc k) *ℤ floor z (suc k) +ℤ pos r)
