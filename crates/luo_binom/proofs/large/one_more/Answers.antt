use Rattle.std.proofs.Common.{◌≡◌, ◌<◌, ℕ, ◌+◌, ◌-◌, ◌*◌, ◌/◌, suc, sym, ap, ◌∙◌, subst, arith}
use Rattle.luo_finite.specs.Binomial.{choose}
use Rattle.luo_binom.proofs.BinomialLemmas.{next_of}
use Rattle.luo_num.proofs.CommonDivisors.{divisor_some, quotient_some}
use Rattle.luo_binom.proofs.Divisors.{quotient_is}
use Rattle.std.specs.Int.{IsGcd}
use Rattle.luo_binom.proofs.large.one_more.Goals as goal

-- the product of the two quotients is the next number
product_is : (number a i shared : ℕ) → i < a → number ≡ choose a i → IsGcd number (i + 1) shared → (number / shared) * ((a - i) / ((i + 1) / shared)) ≡ choose a (i + 1)
product_is number a i shared h e g =
    quotient_is number (i + 1) (a - i) (choose a (i + 1)) shared (omega arith) g
    (subst (λ s. s * choose a s ≡ (a - i) * number) (let q : suc i ≡ i + 1 = omega arith in q) (next_of a i (omega arith) ∙ ap (λ m. (a - i) * m) (sym e)))

pub nonzero_div-number : goal.nonzero_div-number
nonzero_div-number c = divisor_some c.args.number (c.args.i + 1) c.gcd-shared.result (omega arith) c.gcd-shared.ensures

pub nonzero_div-i : goal.nonzero_div-i
nonzero_div-i c = divisor_some c.args.number (c.args.i + 1) c.gcd-shared.result (omega arith) c.gcd-shared.ensures

pub nonzero_div-a : goal.nonzero_div-a
nonzero_div-a c = quotient_some c.args.number (c.args.i + 1) c.gcd-shared.result (omega arith) c.gcd-shared.ensures

pub returns-in-Some : goal.returns-in-Some
returns-in-Some c = let e = product_is c.args.number c.args.a c.args.i c.gcd-shared.result c.requires.less c.requires.number c.gcd-shared.ensures in (omega (arith, e, c.in-Some.ensures.1, c.if-next-le-MAX.true), omega (arith, e, c.in-Some.ensures.1))

pub returns-in_default : goal.returns-in_default
returns-in_default c = λ h. let e = product_is c.args.number c.args.a c.args.i c.gcd-shared.result c.requires.less c.requires.number c.gcd-shared.ensures in omega (arith, e, h, c.in-Some.ensures.1, c.if-next-le-MAX.false)

pub returns-in_default-2 : goal.returns-in_default-2
returns-in_default-2 c = λ h. let e = product_is c.args.number c.args.a c.args.i c.gcd-shared.result c.requires.less c.requires.number c.gcd-shared.ensures in c.in_default.ensures (omega (arith, e, h))
