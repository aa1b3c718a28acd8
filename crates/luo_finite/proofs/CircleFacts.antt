-- Which of two shortest circles is named.
use Rattle.std.proofs.Common.{◌≡◌, ◌⊎◌, ℕ, suc, ◌≤◌, ◌<◌, List, [], ◌∷◌, length, inl, inr, ⊎_elim, refl, arith}
use Rattle.luo_finite.specs.Laws.{Forks, FirstCircleIsNamed}
use Rattle.luo_finite.specs.Walk.{OnCircle, IsCircle, IsNotAfter, IsNamedCircle}

long : (other : List ℕ) → IsCircle Forks 0 other → 3 ≤ length other
long [] h = absurd h
long (x ∷ []) h = absurd h
long (x ∷ (y ∷ [])) (begins, (step, more), ends) = absurd (⊎_elim (λ f. ⊎_elim (λ e. omega (arith, e, ends)) (λ e. omega (arith, e, ends)) f.1) (λ f. ⊎_elim (λ e. omega (arith, e, begins)) (λ e. omega (arith, e, begins)) f.1) step)
long (x ∷ (y ∷ (z ∷ rest))) h = omega arith

first : (other : List ℕ) → IsCircle Forks 0 other → 3 ≡ length other → IsNotAfter (0 ∷ (1 ∷ (0 ∷ []))) other
first [] h e = absurd h
first (x ∷ []) h e = absurd h
first (x ∷ (y ∷ [])) h e = absurd (omega (arith, e))
first (x ∷ (y ∷ (z ∷ []))) (begins, (step, more), ends) e = inr (
  omega (arith, begins),
  ⊎_elim
      (λ f. ⊎_elim (λ g. inr (omega (arith, g), inr (omega (arith, ends), tt))) (λ g. inl (omega (arith, g))) f.1)
      (λ f. absurd (⊎_elim (λ g. omega (arith, g, begins)) (λ g. omega (arith, g, begins)) f.1)) step,
)
first (x ∷ (y ∷ (z ∷ (u ∷ rest)))) h e = absurd (omega (arith, e))

out : Forks 0 1
out = inl (refl, inl refl)

back : Forks 1 0
back = inr (refl, inl refl)

circle : IsCircle Forks 0 (0 ∷ (1 ∷ (0 ∷ [])))
circle = (refl, (out, (back, tt)), refl)

on_circle : OnCircle Forks 0
on_circle = (1, (1, out, (0, back, refl)))

pub first-circle_named : FirstCircleIsNamed
first-circle_named = (
  record { circle = circle; least = λ y h. omega arith; shortest = long; first = first },
  λ h. ⊎_elim (λ l. omega (arith, l)) (λ r. ⊎_elim (λ l. omega (arith, l)) (λ s. omega (arith, s.0)) r.1) (h.first (0 ∷ (1 ∷ (0 ∷ []))) circle refl),
  λ h. omega (arith, h.least 0 on_circle),
  λ h. omega (arith, h.shortest (0 ∷ (1 ∷ (0 ∷ []))) circle),
)
