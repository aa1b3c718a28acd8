-- Sums over what a predicate holds of.
use Rattle.std.proofs.Common.{◌≡◌, ℕ, ◌+◌, ◌*◌, List, [], ◌∷◌, ◌++◌, ◌⊎◌, refl, sym, ◌∙◌, ap, subst, map, sum_by, arith}
use Rattle.std.proofs.lemmas.List.Sums.{sum_by-cons, sum_by-append}
use Rattle.luo_finite.specs.Listing.{In, NoDouble, Lists, Counts, Sums}
use Rattle.luo_finite.proofs.SumsBy.{sum_by-map, sum_by-same, sum_by-add, sum_by-times, length_is_sum}
use Rattle.luo_finite.proofs.Listings.{Lists-same_sum, Lists-iff, Lists-itself, Lists-none, Lists-one, Lists-either, Lists-map, joined, Lists-joined, sum_by-joined}

-- any listing serves
pub Sums-by : {A : Type 0} (P : A → Type 0) (w : A → ℕ) (l : List A) → Lists P l → Sums P w (sum_by w l)
Sums-by P w l h = record { exists = (l, h); each = λ m k. Lists-same_sum P w m l k h }

pub Sums-at : {A : Type 0} (P : A → Type 0) (w : A → ℕ) (l : List A) (t : ℕ) → Lists P l → sum_by w l ≡ t → Sums P w t
Sums-at P w l t h e = subst (Sums P w) e (Sums-by P w l h)

-- over the elements of a list without doubles
pub Sums-list : {A : Type 0} (w : A → ℕ) (l : List A) → NoDouble l → Sums (λ x. In x l) w (sum_by w l)
Sums-list w l d = Sums-by (λ x. In x l) w l (Lists-itself l d)

-- what holds of the same things has the same sum
pub Sums-iff : {A : Type 0} (P Q : A → Type 0) (w : A → ℕ) (t : ℕ) → ((x : A) → P x → Q x) → ((x : A) → Q x → P x) → Sums P w t → Sums Q w t
Sums-iff P Q w t there back s = record {
  exists = (s.exists.0, Lists-iff P Q s.exists.0 there back s.exists.1);
  each = λ l h. s.each l (Lists-iff Q P l back there h);
}

-- there is one sum
pub Sums-unique : {A : Type 0} (P : A → Type 0) (w : A → ℕ) (s t : ℕ) → Sums P w s → Sums P w t → s ≡ t
Sums-unique P w s t a b = sym (a.each a.exists.0 a.exists.1) ∙ b.each a.exists.0 a.exists.1

-- a count is a sum of ones
pub Counts-from : {A : Type 0} (P : A → Type 0) (c : ℕ) → Sums P (λ x. 1) c → Counts P c
Counts-from P c s = record { exists = s.exists; each = λ l h. length_is_sum l ∙ s.each l h }

pub Counts-to : {A : Type 0} (P : A → Type 0) (c : ℕ) → Counts P c → Sums P (λ x. 1) c
Counts-to P c s = record { exists = s.exists; each = λ l h. sym (length_is_sum l) ∙ s.each l h }

pub Counts-unique : {A : Type 0} (P : A → Type 0) (c d : ℕ) → Counts P c → Counts P d → c ≡ d
Counts-unique P c d a b = sym (a.each a.exists.0 a.exists.1) ∙ b.each a.exists.0 a.exists.1

pub Counts-iff : {A : Type 0} (P Q : A → Type 0) (c : ℕ) → ((x : A) → P x → Q x) → ((x : A) → Q x → P x) → Counts P c → Counts Q c
Counts-iff P Q c there back s = record {
  exists = (s.exists.0, Lists-iff P Q s.exists.0 there back s.exists.1);
  each = λ l h. s.each l (Lists-iff Q P l back there h);
}

-- nothing, and one thing
pub Sums-none : {A : Type 0} (P : A → Type 0) (w : A → ℕ) → ((x : A) → P x → ⊥) → Sums P w 0
Sums-none P w h = Sums-at P w [] 0 (Lists-none P h) refl

pub Sums-one : {A : Type 0} (P : A → Type 0) (w : A → ℕ) (a : A) → P a → ((x : A) → P x → x ≡ a) → Sums P w (w a)
Sums-one P w a p h = Sums-at P w (a ∷ []) (w a) (Lists-one P a p h) (omega (arith, sum_by-cons w a []))

-- what holds of one or of the other, and of nothing both do
pub Sums-either : {A : Type 0} (P Q : A → Type 0) (w : A → ℕ) (s t : ℕ) → ((x : A) → P x → Q x → ⊥) → Sums P w s → Sums Q w t → Sums (λ x. P x ⊎ Q x) w (s + t)
Sums-either P Q w s t apart a b =
    Sums-at (λ x. P x ⊎ Q x) w (a.exists.0 ++ b.exists.0) (s + t) (Lists-either P Q a.exists.0 b.exists.0 apart a.exists.1 b.exists.1)
    (sum_by-append w a.exists.0 b.exists.0 ∙ ap (λ n. n + sum_by w b.exists.0) (a.each a.exists.0 a.exists.1) ∙ ap (λ n. s + n) (b.each b.exists.0 b.exists.1))

-- an image under a function that is one to one on P
pub Sums-map : {A B : Type 0} (P : A → Type 0) (f : A → B) (w : B → ℕ) (t : ℕ) → ((x y : A) → P x → P y → f x ≡ f y → x ≡ y) → Sums P (λ x. w (f x)) t → Sums (λ y. (x : A) × P x × (y ≡ f x)) w t
Sums-map P f w t one s =
    Sums-at (λ y. (x : _) × P x × (y ≡ f x)) w (map f s.exists.0) t (Lists-map P f s.exists.0 one s.exists.1)
    (sum_by-map w f s.exists.0 ∙ s.each s.exists.0 s.exists.1)

-- THE LAW: where each element has exactly one key among ks, the sum is the sum over the keys
pub Sums-over : {I A : Type 0} (Q : I → A → Type 0) (w : A → ℕ) (t : I → ℕ) (ks : List I) → NoDouble ks → ((i j : I) (x : A) → Q i x → Q j x → i ≡ j) → ((i : I) → In i ks → Sums (Q i) w (t i)) → Sums (λ x. (i : I) × In i ks × Q i x) w (sum_by t ks)
Sums-over Q w t ks d one s =
    Sums-at (λ x. (i : _) × In i ks × Q i x) w (joined ks (λ i h. (s i h).exists.0)) (sum_by t ks)
    (Lists-joined Q ks (λ i h. (s i h).exists.0) d (λ i h. (s i h).exists.1) one)
    (sum_by-joined w t ks (λ i h. (s i h).exists.0) (λ i h. (s i h).each (s i h).exists.0 (s i h).exists.1))

-- the numbers f and g together
pub Sums-add : {A : Type 0} (P : A → Type 0) (f g : A → ℕ) (s t : ℕ) → Sums P f s → Sums P g t → Sums P (λ x. f x + g x) (s + t)
Sums-add P f g s t a b = record {
  exists = a.exists;
  each = λ l h. sum_by-add f g l ∙ ap (λ n. n + sum_by g l) (a.each l h) ∙ ap (λ n. s + n) (b.each l h);
}

-- numbers that are equal on P
pub Sums-same : {A : Type 0} (P : A → Type 0) (f g : A → ℕ) (s : ℕ) → ((x : A) → P x → f x ≡ g x) → Sums P f s → Sums P g s
Sums-same P f g s equal a = record {
  exists = a.exists;
  each = λ l h. sym (sum_by-same f g l (λ x i. equal x (h.sound x i))) ∙ a.each l h;
}

-- a constant factor
pub Sums-times : {A : Type 0} (P : A → Type 0) (f : A → ℕ) (k s : ℕ) → Sums P f s → Sums P (λ x. k * f x) (k * s)
Sums-times P f k s a = record {
  exists = a.exists;
  each = λ l h. sum_by-times f k l ∙ ap (λ n. k * n) (a.each l h);
}

-- one number for each
pub Sums-constant : {A : Type 0} (P : A → Type 0) (k c : ℕ) → Sums P (λ x. 1) c → Sums P (λ x. k) (k * c)
Sums-constant P k c a = Sums-same P (λ x. k * 1) (λ x. k) (k * c) (λ x p. omega arith) (Sums-times P (λ x. 1) k c a)
