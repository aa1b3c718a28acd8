-- Sums over pairs.
use Rattle.std.proofs.Common.{◌≡◌, ℕ, ◌*◌, List, refl, sym, ◌∙◌, ap, subst, sum_by}
use Rattle.luo_finite.specs.Listing.{In, Counts, Sums}
use Rattle.luo_finite.proofs.SumsBy.{sum_by-times_right}
use Rattle.luo_finite.proofs.Sums.{Sums-over, Sums-iff, Sums-map, Sums-times, Counts-from, Counts-to}

-- the sum of the products is the product of the sums
pub Sums-pairs : {A B : Type 0} (P : A → Type 0) (R : B → Type 0) (f : A → ℕ) (g : B → ℕ) (s t : ℕ) → Sums P f s → Sums R g t → Sums (λ (z : A × B). P z.0 × R z.1) (λ z. f z.0 * g z.1) (s * t)
Sums-pairs {A} {B} P R f g s t a b =
    let Q : A → A × B → Type 0 = λ x z. (y : B) × R y × (z ≡ (x, y)) in
    let l : List A = a.exists.0 in
    let e : sum_by (λ x. f x * t) l ≡ s * t = sum_by-times_right f t l ∙ ap (λ n. n * t) (a.each l a.exists.1) in
    let o : Sums (λ z. (x : A) × In x l × Q x z) (λ z. f z.0 * g z.1) (sum_by (λ x. f x * t) l) =
    Sums-over Q (λ z. f z.0 * g z.1) (λ x. f x * t) l a.exists.1.single
    (λ i j z p q. ap (λ (v : A × B). v.0) (sym p.2 ∙ q.2))
    (λ x i. Sums-map R (λ y. (x, y)) (λ z. f z.0 * g z.1) (f x * t) (λ y z p q h. ap (λ (v : A × B). v.1) h) (Sums-times R g (f x) t b)) in
    subst (Sums (λ (z : A × B). P z.0 × R z.1) (λ z. f z.0 * g z.1)) e
    (Sums-iff (λ z. (x : A) × In x l × Q x z) (λ z. P z.0 × R z.1) (λ z. f z.0 * g z.1) (sum_by (λ x. f x * t) l)
    (λ z r. let k = r.2 in (subst P (ap (λ (v : A × B). v.0) (sym k.2)) (a.exists.1.sound r.0 r.1), subst R (ap (λ (v : A × B). v.1) (sym k.2)) k.1))
    (λ z r. (z.0, a.exists.1.complete z.0 r.0, (z.1, r.1, refl))) o)

-- the number of pairs is the product of the numbers
pub Counts-pairs : {A B : Type 0} (P : A → Type 0) (R : B → Type 0) (c d : ℕ) → Counts P c → Counts R d → Counts (λ (z : A × B). P z.0 × R z.1) (c * d)
Counts-pairs {A} {B} P R c d a b =
    Counts-from (λ (z : A × B). P z.0 × R z.1) (c * d) (Sums-pairs P R (λ x. 1) (λ y. 1) c d (Counts-to P c a) (Counts-to R d b))
