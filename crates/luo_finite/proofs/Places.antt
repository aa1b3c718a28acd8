-- What stands at the places of a list.
use Rattle.std.proofs.Common.{◌≡◌, ℕ, zero, suc, ◌+◌, ◌≤◌, ◌<◌, List, [], ◌∷◌, ◌++◌, ◌⊎◌, inl, inr, ⊎_elim, length, map, refl, sym, ap, arith, Some, None, slice_get}
use Rattle.luo_finite.specs.Listing.{In}

pub less_or_same : (a b : ℕ) → a ≤ b → (a < b) ⊎ (a ≡ b)
less_or_same a b h = grind arith

pub some_same : {A : Type 0} (x y : A) → Some x ≡ Some y → x ≡ y
some_same x y e = cc

pub none_some : {A : Type 0} (x : A) → None ≡ Some x → ⊥
none_some x e = cc

-- the elements of a list are what stands at its places
pub In_get : {A : Type 0} (xs : List A) (i : ℕ) (x : A) → slice_get xs i ≡ Some x → In x xs
In_get [] i x e = absurd (none_some x e)
In_get (y ∷ xs) zero x e = inl (sym (some_same y x e))
In_get (y ∷ xs) (suc i) x e = inr (In_get xs i x e)

pub place_in : {A : Type 0} (x : A) (xs : List A) → In x xs → (i : ℕ) × (slice_get xs i ≡ Some x)
place_in x [] h = absurd h
place_in x (y ∷ xs) h = ⊎_elim (λ e. (zero, ap Some (sym e))) (λ i. let p = place_in x xs i in (suc p.0, p.1)) h

-- something stands at each place within the length
pub get_within : {A : Type 0} (xs : List A) (i : ℕ) → i < length xs → (x : A) × (slice_get xs i ≡ Some x)
get_within [] i h = absurd (omega arith)
get_within (x ∷ xs) zero h = (x, refl)
get_within (x ∷ xs) (suc i) h = get_within xs i (omega arith)

-- a list with one element more behind it
pub get_last : {A : Type 0} (old : List A) (b : A) (x : ℕ) (y : A) → slice_get (old ++ b ∷ []) x ≡ Some y → (slice_get old x ≡ Some y) ⊎ ((x ≡ length old) × (b ≡ y))
get_last [] b zero y m = inr (refl, some_same b y m)
get_last [] b (suc x) y m = absurd (none_some y m)
get_last (c ∷ old) b zero y m = inl m
get_last (c ∷ old) b (suc x) y m = ⊎_elim (λ k. inl k) (λ k. inr (omega (arith, k.0), k.1)) (get_last old b x y m)

pub get_old : {A : Type 0} (old : List A) (b : A) (x : ℕ) (y : A) → slice_get old x ≡ Some y → slice_get (old ++ b ∷ []) x ≡ Some y
get_old [] b x y m = absurd (none_some y m)
get_old (c ∷ old) b zero y m = m
get_old (c ∷ old) b (suc x) y m = get_old old b x y m

pub get_new : {A : Type 0} (old : List A) (b : A) → slice_get (old ++ b ∷ []) (length old) ≡ Some b
get_new [] b = refl
get_new (c ∷ old) b = get_new old b

pub one_longer : {A : Type 0} (old : List A) (b : A) → length (old ++ b ∷ []) ≡ length old + 1
one_longer [] b = refl
one_longer (c ∷ old) b = omega (arith, one_longer old b)

-- an image, place by place
pub get_map : {A B : Type 0} (f : A → B) (xs : List A) (i : ℕ) (x : A) → slice_get xs i ≡ Some x → slice_get (map f xs) i ≡ Some (f x)
get_map f [] i x e = absurd (none_some x e)
get_map f (y ∷ xs) zero x e = ap (λ z. Some (f z)) (some_same y x e)
get_map f (y ∷ xs) (suc i) x e = get_map f xs i x e

pub get_map_back : {A B : Type 0} (f : A → B) (xs : List A) (i : ℕ) (y : B) → slice_get (map f xs) i ≡ Some y → (x : A) × (slice_get xs i ≡ Some x) × (f x ≡ y)
get_map_back f [] i y e = absurd (none_some y e)
get_map_back f (x ∷ xs) zero y e = (x, refl, some_same (f x) y e)
get_map_back f (x ∷ xs) (suc i) y e = get_map_back f xs i y e

pub length_map : {A B : Type 0} (f : A → B) (xs : List A) → length (map f xs) ≡ length xs
length_map f [] = refl
length_map f (x ∷ xs) = omega (arith, length_map f xs)

-- a list around one of its elements, place by place
pub around_place : {A : Type 0} (before after : List A) (x y : A) (k : ℕ) → slice_get (before ++ x ∷ after) k ≡ Some y → (k ≡ length before → ⊥) → In y before ⊎ In y after
around_place [] after x y zero e n = absurd (n refl)
around_place [] after x y (suc k) e n = inr (In_get after k y e)
around_place (z ∷ before) after x y zero e n = inl (inl (sym (some_same z y e)))
around_place (z ∷ before) after x y (suc k) e n = ⊎_elim (λ i. inl (inr i)) (λ i. inr i) (around_place before after x y k e (λ q. n (omega (arith, q))))

pub at_place : {A : Type 0} (before after : List A) (x : A) → slice_get (before ++ x ∷ after) (length before) ≡ Some x
at_place [] after x = refl
at_place (z ∷ before) after x = at_place before after x
