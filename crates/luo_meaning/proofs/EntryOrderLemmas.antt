-- The order of the counts and totals of a source, one sentence a rule.
use Rattle.std.proofs.Common.{ℕ, ◌<◌, inl, inr, ⊎_elim, refl, arith}
use Rattle.luo_meaning.specs.Entries.{LessOr}
use Rattle.luo_meaning.specs.EntryOrder.{LesserSizesComeFirst, CountsComeFirst, CountsGoByRank, TotalsGoByRank, TotalsGoByLevel}

not_less : (m n : ℕ) (A : Type 0) → m < n → LessOr n m A → ⊥
not_less m n A l h = ⊎_elim (λ k. omega (arith, l, k)) (λ k. omega (arith, l, k.0)) h

same_less : (n : ℕ) (A : Type 0) → (A → ⊥) → LessOr n n A → ⊥
same_less n A none h = ⊎_elim (λ k. omega (arith, k)) (λ k. none k.1) h

pub sizes-first : LesserSizesComeFirst
sizes-first p a b m n l = (inl l, not_less m n _ l)

pub counts-first : CountsComeFirst
counts-first p x i n = (inr (refl, tt), same_less n _ (λ h. h))

pub counts-rank : CountsGoByRank
counts-rank p x y r q a b = (λ l. (r, q, a, b, inl l), λ e l. (r, q, a, b, inr (e, l)))

pub totals-rank : TotalsGoByRank
totals-rank p i j r q l m a b c d h = (r, q, l, m, a, b, c, d, inl h)

pub totals-level : TotalsGoByLevel
totals-level p i j r l m a b c d = (
  λ h. (r, r, l, m, a, b, c, d, inr (refl, inl h)),
  λ e h. (r, r, l, m, a, b, c, d, inr (refl, inr (e, h))),
)
