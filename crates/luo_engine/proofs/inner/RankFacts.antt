-- Each node of a founded program has a rank, and has one.
use Rattle.std.proofs.Common.{◌≡◌, ℕ, zero, suc, ◌+◌, ◌≤◌, ◌<◌, [], refl, arith, length}
use Rattle.luo_finite.specs.Walk.{Walk, IsLongest}
use Rattle.luo_finite.proofs.Walks.{no_path, few_steps}
use Rattle.luo_model.specs.Program.{Program}
use Rattle.luo_model.specs.Invariant.{IsProgram}
use Rattle.luo_model.specs.Founded.{IsFounded, SameSize}
use Rattle.luo_model.specs.Levels.{IsRank}
use Rattle.luo_founded.proofs.StepsGraph.{step_there}

pub not_less : (a b : ℕ) → (b < a → ⊥) → a ≤ b
not_less a b h = grind arith

-- where walks have at most so many steps, it can't be that none is the longest
module _ (R : ℕ → ℕ → Type 0) (most x : ℕ) (few : (k y : ℕ) → Walk R k x y → k ≤ most) (none : (r : ℕ) → IsLongest R x r → ⊥) where
  no_walk : (d k y : ℕ) → most < k + d → Walk R k x y → ⊥
  no_walk zero k y h w = omega (arith, h, few k y w)
  no_walk (suc d) k y h w = none k ((y, w), λ j z v. not_less j k (λ l. no_walk d j z (omega (arith, h, l)) v))

  longest_comes : ⊥
  longest_comes = no_walk (suc most) 0 x (omega arith) refl

pub rank_comes : (p : Program) → IsProgram p → IsFounded p → (x : ℕ) → ((r : ℕ) → IsRank p x r → ⊥) → ⊥
rank_comes p q f x none = longest_comes (SameSize p) (length p.nodes) x
    (λ k y w. omega (arith, few_steps (SameSize p) f.no_circle (length p.nodes) (λ a b s. (step_there p q a b s).2) k x y [] (no_path (SameSize p) (length p.nodes) x) w))
    none

pub rank_one : (p : Program) (x r s : ℕ) → IsRank p x r → IsRank p x s → r ≡ s
rank_one p x r s a b = let l : r ≤ s = b.1 r a.0.0 a.0.1 in let g : s ≤ r = a.1 s b.0.0 b.0.1 in omega arith
