-- At most one answer is right.
use Rattle.std.proofs.Common.{◌≡◌, ◌⊎◌, ℕ, ◌≤◌, inl, inr, ⊎_elim, refl, ap, arith, Ok, Err, MatchResult, IfOk, IfErr}
use Rattle.std.specs.declared.result.Result.{Result}
use Rattle.luo_model.specs.Program.{Program}
use Rattle.luo_model.specs.Founded.{IsFounded, BreaksW1, BreaksW2, IsLeast, SameSize, OwnCall}
use Rattle.luo_founded.specs.declared.checking.NotFounded.{NotFounded}
use Rattle.luo_founded.specs.declared.checking.NotFounded.TheVariants.{W1, W2, W3, W4, NoMemory}
use Rattle.luo_founded.specs.Found.{Breaks, Refuses, WantsMemory, Answers}
use Rattle.luo_founded.proofs.CircleLemmas.{circle_on, named_once}

least_once : (P : ℕ → Type 0) (x y : ℕ) → IsLeast P x → IsLeast P y → x ≡ y
least_once P x y a b = let l : x ≤ y = a.1 y b.0 in let g : y ≤ x = b.1 x a.0 in omega arith

module _ (p : Program) where
  -- in a founded program no rule is broken
  pub founded_keeps : IsFounded p → (e : NotFounded) → Breaks p e → ⊥
  founded_keeps f (W1 x) b = b.0.1 (f.inhabited x b.0.0)
  founded_keeps f (W2 x) b = f.solid x b.1.0
  founded_keeps f (W3 chain) b = f.no_circle b.2.0 (circle_on (SameSize p) b.2.0 chain b.2.1.circle)
  founded_keeps f (W4 chain) b = f.no_endless b.3.0 (circle_on (OwnCall p) b.3.0 chain b.3.1.circle)
  founded_keeps f NoMemory b = b

  -- and elsewhere one is the first
  pub first_once : (d e : NotFounded) → Breaks p d → Breaks p e → d ≡ e
  first_once (W1 x) (W1 y) a b = ap W1 (least_once (BreaksW1 p) x y a b)
  first_once (W1 x) (W2 y) a b = absurd (b.0 x a.0)
  first_once (W1 x) (W3 d) a b = absurd (b.0 x a.0)
  first_once (W1 x) (W4 d) a b = absurd (b.0 x a.0)
  first_once (W2 x) (W1 y) a b = absurd (a.0 y b.0)
  first_once (W2 x) (W2 y) a b = ap W2 (least_once (BreaksW2 p) x y a.1 b.1)
  first_once (W2 x) (W3 d) a b = absurd (b.1 x a.1.0)
  first_once (W2 x) (W4 d) a b = absurd (b.1 x a.1.0)
  first_once (W3 c) (W1 y) a b = absurd (a.0 y b.0)
  first_once (W3 c) (W2 y) a b = absurd (a.1 y b.1.0)
  first_once (W3 c) (W3 d) a b = ap W3 (named_once (SameSize p) a.2.0 b.2.0 c d a.2.1 b.2.1)
  first_once (W3 c) (W4 d) a b = absurd (b.2 a.2.0 (circle_on (SameSize p) a.2.0 c a.2.1.circle))
  first_once (W4 c) (W1 y) a b = absurd (a.0 y b.0)
  first_once (W4 c) (W2 y) a b = absurd (a.1 y b.1.0)
  first_once (W4 c) (W3 d) a b = absurd (a.2 b.2.0 (circle_on (SameSize p) b.2.0 d b.2.1.circle))
  first_once (W4 c) (W4 d) a b = ap W4 (named_once (OwnCall p) a.3.0 b.3.0 c d a.3.1 b.3.1)
  first_once NoMemory e a b = absurd a
  first_once (W1 x) NoMemory a b = absurd b
  first_once (W2 x) NoMemory a b = absurd b
  first_once (W3 c) NoMemory a b = absurd b
  first_once (W4 c) NoMemory a b = absurd b

  refused_or_first : (e : NotFounded) → Refuses p e → Breaks p e ⊎ WantsMemory e
  refused_or_first (W1 x) r = inl r
  refused_or_first (W2 x) r = inl r
  refused_or_first (W3 chain) r = inl r
  refused_or_first (W4 chain) r = inl r
  refused_or_first NoMemory r = inr refl

  pub never_refused : (e : NotFounded) → IsFounded p → Refuses p e → WantsMemory e
  never_refused e f r = ⊎_elim (λ b. absurd (founded_keeps f e b)) (λ w. w) (refused_or_first e r)

  pub only_first : (e answer : NotFounded) → Breaks p e → Refuses p answer → Answers e answer
  only_first e answer b r = ⊎_elim (λ a. inl (first_once answer e a b)) (λ w. inr w) (refused_or_first answer r)

  -- both of a result
  pub always_of : {A : Type 0} (P : A → Type 0) (r : Result A NotFounded) → MatchResult r P (Refuses p) → IsFounded p → IfErr r WantsMemory
  always_of P (Ok a) m f = tt
  always_of P (Err e) m f = never_refused e f m

  pub first_of : {A : Type 0} (P : A → Type 0) (r : Result A NotFounded) → MatchResult r P (Refuses p) → IfOk r (λ _. IsFounded p) → (e : NotFounded) → Breaks p e → MatchResult r (λ _. ⊥) (Answers e)
  first_of P (Ok a) m f e b = founded_keeps f e b
  first_of P (Err answer) m f e b = only_first e answer b m
