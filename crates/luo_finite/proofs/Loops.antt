-- What a loop over a list has found to hold of each element.
use Rattle.std.proofs.Common.{◌≡◌, ℕ, ◌+◌, ◌<◌, ◌≤◌, ◌⊎◌, ⊎_elim, List, length, get_or, Some, slice_get, sym, ap, ◌∙◌, subst, arith}
use Rattle.std.proofs.lemmas.Option.{slice_get_within, slice_get-get_or, get_or_from_slice_get}
use Rattle.luo_finite.specs.Listing.{In}
use Rattle.luo_finite.proofs.Places.{place_in, In_get}

-- P holds of each element before place n, with its place
abbrev pub AllBefore : {A : Type 0} → (ℕ → A → Type 0) → List A → ℕ → Type 0
AllBefore {A} P xs n = (k : ℕ) (x : A) → k < n → slice_get xs k ≡ Some x → P k x

-- and of each element
abbrev pub AllAt : {A : Type 0} → (ℕ → A → Type 0) → List A → Type 0
AllAt {A} P xs = (k : ℕ) (x : A) → slice_get xs k ≡ Some x → P k x

cases : (k n : ℕ) → k < n + 1 → (k < n) ⊎ (k ≡ n)
cases k n h = grind arith

pub all_next : {A : Type 0} (P : ℕ → A → Type 0) (xs : List A) (n : ℕ) (d : A) → AllBefore P xs n → P n (get_or xs n d) → AllBefore P xs (n + 1)
all_next P xs n d before here k y h e =
    ⊎_elim (λ (a : k < n). before k y a e)
    (λ (b : k ≡ n).
    let same : get_or xs n d ≡ y = get_or_from_slice_get xs n y d (ap (λ i. slice_get xs i) (sym b) ∙ e) in
    subst (λ i. P i y) (sym b) (subst (P n) same here)) (cases k n h)

pub all_more : {A : Type 0} (P : ℕ → A → Type 0) (xs : List A) (n : ℕ) (x : A) → x ≡ get_or xs n x → AllBefore P xs n → P n x → AllBefore P xs (n + 1)
all_more P xs n x is before here = all_next P xs n x before (subst (P n) is here)

pub all_end : {A : Type 0} (P : ℕ → A → Type 0) (xs : List A) (n : ℕ) → length xs ≤ n → AllBefore P xs n → AllAt P xs
all_end P xs n long before k x e = before k x (omega (arith, slice_get_within xs k x e, long)) e

-- an element of which it doesn't hold
pub not_next : {A : Type 0} (P : ℕ → A → Type 0) (xs : List A) (n : ℕ) (d : A) → n < length xs → (P n (get_or xs n d) → ⊥) → AllAt P xs → ⊥
not_next P xs n d h fails all = fails (all n (get_or xs n d) (slice_get-get_or xs n d h))

pub not_all : {A : Type 0} (P : ℕ → A → Type 0) (xs : List A) (n : ℕ) (x : A) → n < length xs → x ≡ get_or xs n x → (P n x → ⊥) → AllAt P xs → ⊥
not_all P xs n x h is fails all = not_next P xs n x h (λ p. fails (subst (P n) (sym is) p)) all

pub all_in : {A : Type 0} (P : A → Type 0) (xs : List A) → AllAt (λ k x. P x) xs → (x : A) → In x xs → P x
all_in P xs all x i = let r = place_in x xs i in all r.0 x r.1

pub in_all : {A : Type 0} (P : A → Type 0) (xs : List A) → ((x : A) → In x xs → P x) → AllAt (λ k x. P x) xs
in_all P xs all k x e = all x (In_get xs k x e)
