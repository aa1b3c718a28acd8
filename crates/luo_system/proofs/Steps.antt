-- Induction by size, and along steps of the same size, of which there is no circle.
use Rattle.std.proofs.Common.{◌≡◌, ℕ, zero, suc, ◌+◌, ◌≤◌, ◌<◌, List, [], ◌∷◌, ◌⊎◌, ⊎_elim, length, subst, arith}
use Rattle.std.proofs.lemmas.Option.{slice_get_within}
use Rattle.luo_finite.specs.Listing.{In}
use Rattle.luo_model.specs.declared.program.Part.{Part}
use Rattle.luo_model.specs.Program.{Program}
use Rattle.luo_finite.specs.Walk.{OnCircle}
use Rattle.luo_model.specs.Founded.{HasZero, KeepsSize, SameSize, OwnCall, IsFounded}
use Rattle.luo_finite.proofs.Walks.{LeadsTo, no_path, longer_path, short_path}
use Rattle.luo_model.proofs.NodeLemmas.{node_at_place}

-- numbers below N, related without a circle
module _ (R : ℕ → ℕ → Type 0) (N : ℕ) (none : (x : ℕ) → OnCircle R x → ⊥) (there : (x y : ℕ) → R x y → x < N) where
  within_or : (a b : ℕ) → (a < b) ⊎ (b ≤ a)
  within_or a b = grind arith

  -- induction along the relation
  module _ (P : ℕ → Type 0) (step : (x : ℕ) → ((y : ℕ) → R x y → P y) → P x) where
    along : (left x : ℕ) (path : List ℕ) → LeadsTo R N path x → N ≤ left + length path → P x
    along zero x path h l = ⊎_elim (λ (b : x < N). absurd (let s : length path < N = short_path R none N path x h b in omega (arith, s)))
        (λ (b : N ≤ x). step x (λ y r. absurd (omega (arith, there x y r)))) (within_or x N)
    along (suc left) x path h l = step x (λ y r. along left y (x ∷ path) (longer_path R none N path x y h (there x y r) r) (omega (arith, l)))

    pub by_relation : (x : ℕ) → P x
    by_relation x = along N x [] (no_path R N x) (omega arith)

  -- induction by size first
  module _ (P : ℕ → ℕ → Type 0) (step : (n x : ℕ) → ((m y : ℕ) → m < n → P m y) → ((y : ℕ) → R x y → P n y) → P n x) where
    below_bound : (bound n x : ℕ) → n < bound → P n x
    below_bound zero n x h = absurd (omega arith)
    below_bound (suc bound) n x h = by_relation (P n) (λ z same. step n z (λ m y l. below_bound bound m y (omega arith)) same) x

    pub by_size : (n x : ℕ) → P n x
    by_size n x = below_bound (suc n) n x (omega arith)

pub step_there : (p : Program) (x y : ℕ) → SameSize p x y → x < length p.nodes
step_there p x y s = ⊎_elim (λ n. n.3) (λ e. absurd (nothing (subst (λ v. KeepsSize (HasZero p) v y) e s))) (node_at_place p x)
  where
    nothing : (part : Part) × In part [] × (part.node ≡ y) → ⊥
    nothing r = r.1

pub call_there : (p : Program) (f g : ℕ) → OwnCall p f g → f < length p.procs
call_there p f g c = slice_get_within p.procs f c.0 c.1

-- THE PRINCIPLE: by size, and then along same-size steps
pub by_size_and_step : (p : Program) → IsFounded p → (P : ℕ → ℕ → Type 0) → ((n x : ℕ) → ((m y : ℕ) → m < n → P m y) → ((y : ℕ) → SameSize p x y → P n y) → P n x) → (n x : ℕ) → P n x
by_size_and_step p f P step n x = by_size (SameSize p) (length p.nodes) f.no_circle (step_there p) P step n x
