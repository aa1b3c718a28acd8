-- Places of lists, and empty lists.
use Rattle.std.proofs.Common.{◌≡◌, ℕ, zero, suc, ◌+◌, ◌<◌, ◌⊎◌, List, [], ◌∷◌, ◌++◌, map, length, Some, None, slice_get, refl, sym, ap, ◌∙◌, inl, inr, arith}
use Rattle.std.specs.Prelude.{slice_index_or, if◌then◌else◌, Bool, true, false, flat_map}
use Rattle.std.proofs.lemmas.Option.{get_or_from_slice_get}
use Rattle.luo_finite.specs.Listing.{In, NoDouble}
use Rattle.luo_rules.specs.declared.rule.Breach.{Breach}
use Rattle.luo_rules.specs.Breaches.{◌or_if_none◌}

pub some_same : {A : Type 0} (x y : A) → Some x ≡ Some y → x ≡ y
some_same x y e = cc

pub none_some : {A : Type 0} (x : A) → None ≡ Some x → ⊥
none_some x e = cc

pub get_left : {A : Type 0} (xs ys : List A) (i : ℕ) (x : A) → slice_get xs i ≡ Some x → slice_get (xs ++ ys) i ≡ Some x
get_left [] ys i x e = absurd (none_some x e)
get_left (z ∷ xs) ys zero x e = e
get_left (z ∷ xs) ys (suc i) x e = get_left xs ys i x e

pub get_right : {A : Type 0} (xs ys : List A) (i j : ℕ) → j ≡ length xs + i → slice_get (xs ++ ys) j ≡ slice_get ys i
get_right [] ys i j e = ap (slice_get ys) (e ∙ omega arith)
get_right (z ∷ xs) ys i zero e = absurd (omega arith)
get_right (z ∷ xs) ys i (suc j) e = get_right xs ys i j (omega arith)

pub get_cases : {A : Type 0} (xs ys : List A) (i : ℕ) (x : A) → slice_get (xs ++ ys) i ≡ Some x → (slice_get xs i ≡ Some x) ⊎ ((j : ℕ) × (i ≡ length xs + j) × (slice_get ys j ≡ Some x))
get_cases [] ys i x e = inr (i, omega arith, e)
get_cases (z ∷ xs) ys zero x e = inl e
get_cases (z ∷ xs) ys (suc i) x e =
    elim (get_cases xs ys i x e) [ inl h ↦ inl h | inr h ↦ let e : suc i ≡ suc (length xs) + h.0 = omega (arith, h.1) in inr (h.0, e, h.2) ]

pub get_below : {A : Type 0} (xs : List A) (i : ℕ) → i < length xs → (x : A) × (slice_get xs i ≡ Some x)
get_below [] i h = absurd (omega arith)
get_below (z ∷ xs) zero h = (z, refl)
get_below (z ∷ xs) (suc i) h = get_below xs i (omega arith)

pub below_get : {A : Type 0} (xs : List A) (i : ℕ) (x : A) → slice_get xs i ≡ Some x → i < length xs
below_get [] i x e = absurd (none_some x e)
below_get (z ∷ xs) zero x e = omega arith
below_get (z ∷ xs) (suc i) x e = omega (arith, below_get xs i x e)

pub index_get : {A : Type 0} (xs : List A) (i : ℕ) (x d : A) → slice_get xs i ≡ Some x → slice_index_or xs i d ≡ x
index_get xs i x d e = get_or_from_slice_get xs i x d e

pub In_get : {A : Type 0} (xs : List A) (i : ℕ) (x : A) → slice_get xs i ≡ Some x → In x xs
In_get [] i x e = absurd (none_some x e)
In_get (y ∷ xs) zero x e = inl (sym (some_same y x e))
In_get (y ∷ xs) (suc i) x e = inr (In_get xs i x e)

pub place_in : {A : Type 0} (x : A) (xs : List A) → In x xs → (i : ℕ) × (slice_get xs i ≡ Some x)
place_in x [] h = absurd h
place_in x (y ∷ xs) h = elim h [ inl e ↦ (zero, ap Some (sym e)) | inr h ↦ let p = place_in x xs h in (suc p.0, p.1) ]

pub get_map : {A B : Type 0} (f : A → B) (xs : List A) (i : ℕ) (x : A) → slice_get xs i ≡ Some x → slice_get (map f xs) i ≡ Some (f x)
get_map f [] i x e = absurd (none_some x e)
get_map f (y ∷ xs) zero x e = ap (λ z. Some (f z)) (some_same y x e)
get_map f (y ∷ xs) (suc i) x e = get_map f xs i x e

pub map_get : {A B : Type 0} (f : A → B) (xs : List A) (i : ℕ) (y : B) → slice_get (map f xs) i ≡ Some y → (x : A) × (slice_get xs i ≡ Some x) × (y ≡ f x)
map_get f [] i y e = absurd (none_some y e)
map_get f (x ∷ xs) zero y e = (x, refl, sym (some_same (f x) y e))
map_get f (x ∷ xs) (suc i) y e = map_get f xs i y e

-- no two places have equal elements
pub places_apart : {A : Type 0} (xs : List A) → ((i j : ℕ) (x : A) → slice_get xs i ≡ Some x → slice_get xs j ≡ Some x → i ≡ j) → NoDouble xs
places_apart [] h = tt
places_apart (x ∷ xs) h = (
  λ i. let p = place_in x xs i in let e : zero ≡ suc p.0 = h zero (suc p.0) x refl p.1 in absurd (omega (arith, e)),
  places_apart xs (λ i j y p q. let e : suc i ≡ suc j = h (suc i) (suc j) y p q in omega (arith, e)),
)

-- nothing in front and nothing behind
pub nil_left : {A : Type 0} (xs ys : List A) → xs ++ ys ≡ [] → xs ≡ []
nil_left [] ys e = refl
nil_left (x ∷ xs) ys e = absurd (cc)

pub nil_right : {A : Type 0} (xs ys : List A) → xs ++ ys ≡ [] → ys ≡ []
nil_right [] ys e = e
nil_right (x ∷ xs) ys e = absurd (cc)

pub none_first : (xs ys : List Breach) → (xs or_if_none ys) ≡ [] → xs ≡ []
none_first [] ys e = refl
none_first (x ∷ xs) ys e = absurd (cc)

pub none_then : (xs ys : List Breach) → (xs or_if_none ys) ≡ [] → ys ≡ []
none_then [] ys e = e
none_then (x ∷ xs) ys e = absurd (cc)

-- of a choice that is empty
pub chosen_true : {A : Type 0} (b : Bool) (xs : List A) (x : A) → (if b then xs else (x ∷ [])) ≡ [] → b ≡ true
chosen_true true xs x e = refl
chosen_true false xs x e = absurd (cc)

pub chosen_same : {A : Type 0} (b : Bool) (xs ys : List A) → b ≡ true → (if b then xs else ys) ≡ [] → xs ≡ []
chosen_same true xs ys t e = e
chosen_same false xs ys t e = absurd (cc)

pub flat_nil : {A B : Type 0} (f : A → List B) (xs : List A) (i : ℕ) (x : A) → flat_map f xs ≡ [] → slice_get xs i ≡ Some x → f x ≡ []
flat_nil f [] i x e h = absurd (none_some x h)
flat_nil f (y ∷ xs) zero x e h = ap f (sym (some_same y x h)) ∙ nil_left (f y) (flat_map f xs) e
flat_nil f (y ∷ xs) (suc i) x e h = flat_nil f xs i x (nil_right (f y) (flat_map f xs) e) h
