-- Counts and totals at once: of what P holds of there are c, and the numbers w sum to t.
use Rattle.std.proofs.Common.{◌≡◌, ℕ}
use Rattle.luo_finite.specs.Listing.{Sums}
use Rattle.luo_finite.proofs.Sums.{Sums-iff, Sums-map}

pub record Measures {A : Type 0} (P : A → Type 0) (w : A → ℕ) (c t : ℕ) : Type 0 where
  pub count : Sums P (λ x. 1) c
  pub total : Sums P w t

pub Measures-iff : {A : Type 0} (P Q : A → Type 0) (w : A → ℕ) (c t : ℕ) → ((x : A) → P x → Q x) → ((x : A) → Q x → P x) → Measures P w c t → Measures Q w c t
Measures-iff P Q w c t there back m = record { count = Sums-iff P Q (λ x. 1) c there back m.count; total = Sums-iff P Q w t there back m.total }

pub Measures-map : {A B : Type 0} (P : A → Type 0) (f : A → B) (w : B → ℕ) (c t : ℕ) → ((x y : A) → P x → P y → f x ≡ f y → x ≡ y) → Measures P (λ x. w (f x)) c t → Measures (λ y. (x : A) × P x × (y ≡ f x)) w c t
Measures-map P f w c t one m = record { count = Sums-map P f (λ y. 1) c one m.count; total = Sums-map P f w t one m.total }
