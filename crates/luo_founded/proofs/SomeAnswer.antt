-- It can't be that no answer is right: what isn't founded has a first breach.
use Rattle.std.proofs.Common.{◌≡◌, ℕ, zero, suc, ◌≤◌, ◌<◌, List, [], ◌∷◌, ⊎_elim, refl, sym, subst, arith, length}
use Rattle.luo_finite.specs.Walk.{Walk, OnCircle, IsNamedCircle}
use Rattle.luo_finite.proofs.Places.{less_or_same}
use Rattle.luo_model.specs.Program.{Program}
use Rattle.luo_model.specs.Founded.{IsInhabited, IsFounded, BreaksW1, BreaksW2, IsLeast, SameSize, OwnCall}
use Rattle.luo_founded.specs.declared.checking.NotFounded.{NotFounded}
use Rattle.luo_founded.specs.declared.checking.NotFounded.TheVariants.{W1, W2, W3, W4}
use Rattle.luo_founded.specs.inner.Graph.{IsFirstWay}
use Rattle.luo_founded.specs.Found.{Breaks}
use Rattle.luo_founded.proofs.CircleLemmas.{named_circle}

-- where there is one, it can't be that none is the least
module _ (P : ℕ → Type 0) (none : (x : ℕ) → IsLeast P x → ⊥) where
  none_up_to : (n x : ℕ) → x < n → P x → ⊥
  none_up_to zero x h q = omega (arith, h)
  none_up_to (suc n) x h q = ⊎_elim
      (λ (a : x < n). none_up_to n x a q)
      (λ (b : x ≡ n). none x (q, λ y r. not_less x y (λ l. none_up_to n y (omega (arith, l, b)) r)))
      (less_or_same x n (omega (arith, h)))
    where
      not_less : (a b : ℕ) → (b < a → ⊥) → a ≤ b
      not_less a b h = grind arith

  pub none_at_all : (x : ℕ) → P x → ⊥
  none_at_all x q = none_up_to (suc x) x (omega arith) q

-- where it can't be that one fails, it can't be that not all hold
all_below : (P : ℕ → Type 0) (n : ℕ) → ((x : ℕ) → x < n → (P x → ⊥) → ⊥) → (((x : ℕ) → x < n → P x) → ⊥) → ⊥
all_below P zero h fails = fails (λ x l. absurd (omega (arith, l)))
all_below P (suc n) h fails = all_below P n (λ x l. h x (omega (arith, l))) (λ before. h n (omega arith) (λ here. fails (λ x l. ⊎_elim (λ (a : x < n). before x a) (λ (b : x ≡ n). subst P (sym b) here) (less_or_same x n (omega (arith, l))))))

module _ (R : ℕ → ℕ → Type 0) where
  -- where walks of so many steps lead home, one is the first way
  some_way : (home k at : ℕ) → Walk R k at home → ((way : List ℕ) → IsFirstWay R home k at way → ⊥) → ⊥
  some_way home zero at w none = none (at ∷ []) (w, refl)
  some_way home (suc k) at w none = none_at_all (λ z. R at z × Walk R k z home)
      (λ z l. some_way home k z l.0.1 (λ way f. none (at ∷ way) (refl, (z, l.0.0, (λ other r v. l.1 other (r, v)), f)))) w.0 (w.1, w.2)

  -- where a circle is, one is named
  pub some_circle : ((x : ℕ) (chain : List ℕ) → IsNamedCircle R x chain → ⊥) → (x : ℕ) → OnCircle R x → ⊥
  some_circle none = none_at_all (OnCircle R) (λ home least. none_at_all (λ k. Walk R (suc k) home home)
      (λ k few. some_way home (suc k) home few.0 (λ chain f. none home chain (named_circle R home k chain f (λ j l w. absurd (omega (arith, l, few.1 j w))) (λ y l c. absurd (omega (arith, l, least.1 y c))))))
      least.0.0 least.0.1)

module _ (p : Program) (none : (e : NotFounded) → Breaks p e → ⊥) where
  no_w1 : (x : ℕ) → BreaksW1 p x → ⊥
  no_w1 = none_at_all (BreaksW1 p) (λ x l. none (W1 x) l)

  no_w2 : (x : ℕ) → BreaksW2 p x → ⊥
  no_w2 = none_at_all (BreaksW2 p) (λ x l. none (W2 x) (no_w1, l))

  no_w3 : (x : ℕ) → OnCircle (SameSize p) x → ⊥
  no_w3 = some_circle (SameSize p) (λ x chain c. none (W3 chain) (no_w1, no_w2, (x, c)))

  no_w4 : (f : ℕ) → OnCircle (OwnCall p) f → ⊥
  no_w4 = some_circle (OwnCall p) (λ f chain c. none (W4 chain) (no_w1, no_w2, no_w3, (f, c)))

  pub founded_or_first : (IsFounded p → ⊥) → ⊥
  founded_or_first fails = all_below (IsInhabited p) (length p.nodes) (λ x l n. no_w1 x (l, n)) (λ all. fails (record {
    inhabited = all;
    solid = no_w2;
    no_circle = no_w3;
    no_endless = no_w4;
  }))
