-- What it is to be an element of a list.
use Rattle.std.proofs.Common.{◌≡◌, ℕ, zero, suc, ◌<◌, List, [], ◌∷◌, ◌++◌, ◌⊎◌, inl, inr, ⊎_elim, refl, sym, ap, map, length, get_or, arith}
use Rattle.luo_finite.specs.Listing.{In}

-- the elements of two lists, one behind the other, are those of either
pub In-append_left : {A : Type 0} (x : A) (xs ys : List A) → In x xs → In x (xs ++ ys)
In-append_left x [] ys h = absurd h
In-append_left x (y ∷ xs) ys (inl e) = inl e
In-append_left x (y ∷ xs) ys (inr h) = inr (In-append_left x xs ys h)

pub In-append_right : {A : Type 0} (x : A) (xs ys : List A) → In x ys → In x (xs ++ ys)
In-append_right x [] ys h = h
In-append_right x (y ∷ xs) ys h = inr (In-append_right x xs ys h)

pub In-append_cases : {A : Type 0} (x : A) (xs ys : List A) → In x (xs ++ ys) → In x xs ⊎ In x ys
In-append_cases x [] ys h = inr h
In-append_cases x (y ∷ xs) ys (inl e) = inl (inl e)
In-append_cases x (y ∷ xs) ys (inr h) = ⊎_elim (λ a. inl (inr a)) (λ b. inr b) (In-append_cases x xs ys h)

-- the elements of an image are the images of the elements
pub In-map : {A B : Type 0} (f : A → B) (x : A) (xs : List A) → In x xs → In (f x) (map f xs)
In-map f x [] h = absurd h
In-map f x (y ∷ xs) (inl e) = inl (ap f e)
In-map f x (y ∷ xs) (inr h) = inr (In-map f x xs h)

pub In-map_back : {A B : Type 0} (f : A → B) (y : B) (xs : List A) → In y (map f xs) → (x : A) × In x xs × (y ≡ f x)
In-map_back f y [] h = absurd h
In-map_back f y (x ∷ xs) (inl e) = (x, inl refl, e)
In-map_back f y (x ∷ xs) (inr h) = let r = In-map_back f y xs h in (r.0, inr r.1, r.2)

-- a list around one of its elements
pub record Around {A : Type 0} (x : A) (l : List A) : Type 0 where
  pub before : List A
  pub after : List A
  pub is : l ≡ before ++ x ∷ after

pub around : {A : Type 0} (x : A) (l : List A) → In x l → Around x l
around x [] h = absurd h
around x (y ∷ l) (inl e) = record { before = []; after = l; is = ap (λ z. z ∷ l) (sym e) }
around x (y ∷ l) (inr h) =
    let r = around x l h in
    record { before = y ∷ r.before; after = r.after; is = ap (λ z. y ∷ z) r.is }

-- the element itself is in the list around it
pub In-itself : {A : Type 0} (x : A) (before after : List A) → In x (before ++ x ∷ after)
In-itself x [] after = inl refl
In-itself x (y ∷ before) after = inr (In-itself x before after)

-- what is in the list around x and is not x is in the rest
pub In-without : {A : Type 0} (x z : A) (before after : List A) → In z (before ++ x ∷ after) → (z ≡ x → ⊥) → In z (before ++ after)
In-without x z [] after (inl e) other = absurd (other e)
In-without x z [] after (inr h) other = h
In-without x z (y ∷ before) after (inl e) other = inl e
In-without x z (y ∷ before) after (inr h) other = inr (In-without x z before after h other)

-- what is in the rest is in the list around x
pub In-with : {A : Type 0} (x z : A) (before after : List A) → In z (before ++ after) → In z (before ++ x ∷ after)
In-with x z [] after h = inr h
In-with x z (y ∷ before) after (inl e) = inl e
In-with x z (y ∷ before) after (inr h) = inr (In-with x z before after h)

-- what stands at a place of a list is an element of it
pub In-at : {A : Type 0} (xs : List A) (i : ℕ) (d : A) → i < length xs → In (get_or xs i d) xs
In-at [] i d h = absurd (omega arith)
In-at (x ∷ xs) zero d h = inl refl
In-at (x ∷ xs) (suc i) d h = inr (In-at xs i d (omega arith))
