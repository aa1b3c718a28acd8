-- Choices as binomials.
use Rattle.std.proofs.Common.{◌≡◌, ℕ, zero, suc, ◌+◌, ◌*◌, ◌-◌, refl, sym, ◌∙◌, ap, arith}
use Rattle.luo_num.specs.Mark.{capped}
use Rattle.luo_num.proofs.Capped.{capped-mul}
use Rattle.luo_finite.specs.Binomial.{choose}
use Rattle.luo_counting.specs.Numbers.{repeats, repeat_totals, subset_totals}
use Rattle.luo_finite.proofs.Binomials.{choose-past}
use Rattle.luo_counting.proofs.Binomials.{repeats_is}

times_marked : (t x c : ℕ) → x ≡ capped c → capped (t * x) ≡ capped (t * c)
times_marked t x c e = ap (λ i. capped (t * i)) e ∙ sym (capped-mul t (capped c)) ∙ (let q : capped (capped c) ≡ capped c = omega arith in ap (λ i. capped (capped t * i)) q) ∙ capped-mul t c

pub repeats_charged : (c t j x r : ℕ) → (j ≡ 0 → ⊥) → x ≡ capped (choose (c + (j - 1)) (j - 1)) → r ≡ capped (t * x) → r ≡ capped (repeat_totals c t j)
repeats_charged c t zero x r o e q = absurd (o refl)
repeats_charged c t (suc i) x r o e q =
    let k : suc i - 1 ≡ i = omega arith in
    q ∙ times_marked t x (choose (c + (suc i - 1)) (suc i - 1)) e ∙ ap (λ m. capped (t * choose (c + m) m)) k ∙ ap (λ m. capped (t * m)) (sym (repeats_is c i))

pub subsets_charged : (c t j x r : ℕ) → (j ≡ 0 → ⊥) → (c ≡ 0 → ⊥) → x ≡ capped (choose (c - 1) (j - 1)) → r ≡ capped (t * x) → r ≡ capped (subset_totals c t j)
subsets_charged c t zero x r o n e q = absurd (o refl)
subsets_charged zero t j x r o n e q = absurd (n refl)
subsets_charged (suc a) t (suc i) x r o n e q = q ∙ times_marked t x (choose (suc a - 1) (suc i - 1)) e ∙ ap (λ m. capped (t * choose m (suc i - 1))) (let k : suc a - 1 ≡ a = omega arith in k) ∙ ap (λ m. capped (t * choose a m)) (let k : suc i - 1 ≡ i = omega arith in k)

pub subsets_none : (c t j : ℕ) → j ≡ 0 → 0 ≡ capped (subset_totals c t j)
subsets_none zero t j e = omega arith
subsets_none (suc c) t zero e = omega arith
subsets_none (suc c) t (suc j) e = absurd (omega (arith, e))
