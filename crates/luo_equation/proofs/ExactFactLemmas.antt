-- Quotients that leave a remainder.
use Rattle.std.proofs.Common.{arith, pos}
use Rattle.std.proofs.lemmas.Int.{ints}
use Rattle.luo_equation.specs.Series.{IsMultiple, over_shares_z}
use Rattle.luo_equation.specs.ExactFacts.{RemaindersAreSeen}

odd : IsMultiple 2 (pos 1) → ⊥
odd (q, e) = omega (arith, ints, e)

pub remainders-seen : RemaindersAreSeen
unfolding over_shares_z
remainders-seen = (
  λ e. odd (e.1 2 0 (omega arith) (omega arith)),
  λ e. odd (e.1 2 0 (omega arith) (omega arith)),
  λ e. odd (e.2 2 0 (omega arith) (omega arith)),
  λ e. odd (e.2 2 0 (omega arith) (omega arith)),
  λ e. odd (e.1.0.1 2 0 (omega arith) (omega arith)),
  λ e. odd (e.1.0.1 2 0 (omega arith) (omega arith)),
  λ e. odd (e.0.1 2 0 (omega arith) (omega arith)),
  λ e. odd (e.0.1 2 0 (omega arith) (omega arith)),
  λ e. odd (e.1.1 2 0 (omega arith) (omega arith)),
)
