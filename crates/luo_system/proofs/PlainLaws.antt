-- Plain form keeps coefficients, and quotients without remainders.
use Rattle.std.proofs.Common.{◌≡◌, ℕ, zero, suc, refl, sym, ◌∙◌, ap, arith, ℤ, pos, ◌+ℤ◌, Bool, true, false, ◌||◌, Option, ◌⊎◌, inl, inr, ⊎_elim}
use Rattle.std.proofs.lemmas.Int.{ints}
use Rattle.luo_model.specs.declared.program.Universe.{Universe}
use Rattle.luo_model.specs.declared.program.Kind.{Kind}
use Rattle.luo_equation.specs.Series.{only_at, times, point}
use Rattle.luo_equation.specs.Expr.{Expr, Exprs, Number, Power, Series, Tau, Sum, Prod, Coll, Point, no_exprs, expr, Table, coef, sum_of_coefs, product_of_coefs}
use Rattle.luo_equation.proofs.Ring.{times_assoc, unit-times, times-unit, zero-times, times-zero}
use Rattle.luo_equation.proofs.UpTo.{point-zero}
use Rattle.luo_system.specs.Plain.{join_exprs, terms_of, all_terms, as_sum, sum_of, factors_of, all_factors, as_product, is_zero, has_zero, unless_zero, product_of, walk_of}

module _ (u : Universe) (t : Table) where
  -- ---- sums
  sum-join : (es fs : Exprs) (n : ℕ) → sum_of_coefs u t (join_exprs es fs) n ≡ sum_of_coefs u t es n +ℤ sum_of_coefs u t fs n
  sum-join no_exprs fs n = omega (arith, ints)
  sum-join (expr e es) fs n = omega (arith, ints, sum-join es fs n)

  zero-number : (n : ℕ) → only_at 0 (pos 0) n ≡ pos 0
  zero-number zero = refl
  zero-number (suc n) = refl

  sum-terms : (e : Expr) (n : ℕ) → sum_of_coefs u t (terms_of e) n ≡ coef u t e n
  sum-terms (Number zero) n = sym (zero-number n)
  sum-terms (Number (suc c)) n = omega (arith, ints)
  sum-terms (Power w) n = omega (arith, ints)
  sum-terms (Series i) n = omega (arith, ints)
  sum-terms (Tau i) n = omega (arith, ints)
  sum-terms (Sum es) n = refl
  sum-terms (Prod es) n = omega (arith, ints)
  sum-terms (Coll kind e low high) n = omega (arith, ints)
  sum-terms (Point kind e low high b) n = omega (arith, ints)

  sum-all : (es : Exprs) (n : ℕ) → sum_of_coefs u t (all_terms es) n ≡ sum_of_coefs u t es n
  sum-all no_exprs n = refl
  sum-all (expr e es) n = omega (arith, ints, sum-join (terms_of e) (all_terms es) n, sum-terms e n, sum-all es n)

  sum-as : (es : Exprs) (n : ℕ) → coef u t (as_sum es) n ≡ sum_of_coefs u t es n
  sum-as no_exprs n = zero-number n
  sum-as (expr e no_exprs) n = omega (arith, ints)
  sum-as (expr e (expr f fs)) n = refl

  -- THE LAW of sums
  pub coef-sum : (es : Exprs) (n : ℕ) → coef u t (sum_of es) n ≡ sum_of_coefs u t es n
  unfolding sum_of
  coef-sum es n = sum-as (all_terms es) n ∙ sum-all es n

  -- ---- products
  product-join : (es fs : Exprs) (n : ℕ) → product_of_coefs u t (join_exprs es fs) n ≡ times u (product_of_coefs u t es) (product_of_coefs u t fs) n
  product-join no_exprs fs n = sym (unit-times u (product_of_coefs u t fs) n)
  product-join (expr e es) fs n =
      ap (λ (f : ℕ → ℤ). times u (coef u t e) f n) (λ i m. product-join es fs m i) ∙ sym (times_assoc u (coef u t e) (product_of_coefs u t es) (product_of_coefs u t fs) n)

  alone : (e : Expr) (n : ℕ) → product_of_coefs u t (expr e no_exprs) n ≡ coef u t e n
  alone e n = times-unit u (coef u t e) n

  product-factors : (e : Expr) (n : ℕ) → product_of_coefs u t (factors_of e) n ≡ coef u t e n
  product-factors (Number zero) n = alone (Number 0) n
  product-factors (Number (suc zero)) n = refl
  product-factors (Number (suc (suc c))) n = alone (Number (suc (suc c))) n
  product-factors (Power w) n = alone (Power w) n
  product-factors (Series i) n = alone (Series i) n
  product-factors (Tau i) n = alone (Tau i) n
  product-factors (Sum es) n = alone (Sum es) n
  product-factors (Prod es) n = refl
  product-factors (Coll kind e low high) n = alone (Coll kind e low high) n
  product-factors (Point kind e low high b) n = alone (Point kind e low high b) n

  product-all : (es : Exprs) (n : ℕ) → product_of_coefs u t (all_factors es) n ≡ product_of_coefs u t es n
  product-all no_exprs n = refl
  product-all (expr e es) n =
      product-join (factors_of e) (all_factors es) n
      ∙ ap (λ (f : ℕ → ℤ). times u f (product_of_coefs u t (all_factors es)) n) (λ i m. product-factors e m i)
      ∙ ap (λ (f : ℕ → ℤ). times u (coef u t e) f n) (λ i m. product-all es m i)

  product-as : (es : Exprs) (n : ℕ) → coef u t (as_product es) n ≡ product_of_coefs u t es n
  product-as no_exprs n = refl
  product-as (expr e no_exprs) n = sym (alone e n)
  product-as (expr e (expr f fs)) n = refl

  pub is-zero : (e : Expr) → is_zero e ≡ true → (n : ℕ) → coef u t e n ≡ pos 0
  is-zero (Number zero) h n = zero-number n
  is-zero (Number (suc c)) h n = absurd (cc)
  is-zero (Power w) h n = absurd (cc)
  is-zero (Series i) h n = absurd (cc)
  is-zero (Tau i) h n = absurd (cc)
  is-zero (Sum es) h n = absurd (cc)
  is-zero (Prod es) h n = absurd (cc)
  is-zero (Coll kind e low high) h n = absurd (cc)
  is-zero (Point kind e low high b) h n = absurd (cc)

  bool_or : (b : Bool) → (b ≡ true) ⊎ (b ≡ false)
  bool_or true = inl refl
  bool_or false = inr refl

  has-zero : (es : Exprs) → has_zero es ≡ true → (n : ℕ) → product_of_coefs u t es n ≡ pos 0
  has-zero no_exprs h n = absurd (cc)
  has-zero (expr e es) h n = ⊎_elim
      (λ y. zero-times u (coef u t e) (product_of_coefs u t es) n (λ m. is-zero e y m))
      (λ y. times-zero u (coef u t e) (product_of_coefs u t es) n (λ m. has-zero es (sym (ap (λ b. b || has_zero es) y) ∙ h) m))
      (bool_or (is_zero e))

  -- THE LAW of products
  pub coef-product : (es : Exprs) (n : ℕ) → coef u t (product_of es) n ≡ product_of_coefs u t es n
  unfolding product_of
  coef-product es n = ⊎_elim
      (λ y. ap (λ b. coef u t (unless_zero b (as_product (all_factors es))) n) y ∙ zero-number n ∙ sym (has-zero (all_factors es) y n) ∙ product-all es n)
      (λ y. ap (λ b. coef u t (unless_zero b (as_product (all_factors es))) n) y ∙ product-as (all_factors es) n ∙ product-all es n)
      (bool_or (has_zero (all_factors es)))

  -- THE LAW of walks
  pub coef-walk : (kind : Kind) (inner : Expr) (low : ℕ) (high : Option ℕ) (body : Expr) (n : ℕ) → coef u t (walk_of kind inner low high body) n ≡ point u kind (coef u t inner)
      (coef u t body) low high n
  unfolding walk_of
  coef-walk kind inner low high body n = ⊎_elim
      (λ y. ap (λ b. coef u t (unless_zero b (Point kind inner low high body)) n) y
      ∙ zero-number n ∙ sym (point-zero u (coef u t inner) (coef u t body) (is-zero body y) kind low high n))
      (λ y. ap (λ b. coef u t (unless_zero b (Point kind inner low high body)) n) y)
      (bool_or (is_zero body))
