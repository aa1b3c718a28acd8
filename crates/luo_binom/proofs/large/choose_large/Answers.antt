use Rattle.std.proofs.Common.{◌≡◌, ◌≤◌, ◌-◌, sym, subst, arith, SomeIff, ℕ}
use Rattle.luo_num.specs.declared.TheConstants.{MAX}
use Rattle.luo_finite.specs.Binomial.{choose}
use Rattle.luo_finite.proofs.Binomials.{choose-past}
use Rattle.luo_binom.proofs.BinomialLemmas.{others_of}
use Rattle.luo_binom.proofs.large.choose_large.Goals as goal

pub returns-then-taken-a : goal.returns-then-taken-a
returns-then-taken-a c =
    let e : choose c.args.a c.args.j ≡ 0 = choose-past c.args.a c.args.j (omega (arith, c.if-taken-a.true, c.from-taken.ensures)) in
    (omega (arith, e), sym e)

pub returns-else-taken-a-2 : goal.returns-else-taken-a-2
returns-else-taken-a-2 c =
    let e : c.from-taken.result ≡ c.args.j = omega (arith, c.from-taken.ensures) in
    let f : choose c.args.a (c.args.a - c.from-taken.result) ≡ choose c.args.a c.args.j = subst (λ i. choose c.args.a (c.args.a - c.from-taken.result) ≡ choose c.args.a i) e (others_of c.args.a c.from-taken.result (omega (arith, c.if-taken-a.false))) in
    let P : ℕ → Type 0 = λ m. SomeIff c.choose_few-else-taken-a-2.result (m ≤ MAX) m in
    subst P f c.choose_few-else-taken-a-2.ensures
