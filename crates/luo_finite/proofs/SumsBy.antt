-- Sums of numbers over the elements of a list.
use Rattle.std.proofs.Common.{◌≡◌, ℕ, ◌+◌, ◌*◌, List, [], ◌∷◌, ◌++◌, inl, inr, length, refl, sym, ◌∙◌, ap, map, sum_by, arith}
use Rattle.std.proofs.lemmas.List.Sums.{sum_by-cons}
use Rattle.std.proofs.Math.Nat.{add-mul, mul-add, mul-zero, zero-mul}
use Rattle.luo_finite.specs.Listing.{In}

-- an element may be counted first
pub sum_by-around : {A : Type 0} (w : A → ℕ) (x : A) (before after : List A) → sum_by w (before ++ x ∷ after) ≡ w x + sum_by w (before ++ after)
sum_by-around w x [] after = sum_by-cons w x after
sum_by-around w x (y ∷ before) after =
    let h : sum_by w (before ++ x ∷ after) ≡ w x + sum_by w (before ++ after) = sum_by-around w x before after in
    let p : sum_by w (y ∷ (before ++ x ∷ after)) ≡ w y + sum_by w (before ++ x ∷ after) = sum_by-cons w y (before ++ x ∷ after) in
    let q : sum_by w (y ∷ (before ++ after)) ≡ w y + sum_by w (before ++ after) = sum_by-cons w y (before ++ after) in
    omega arith

-- the sum over an image
pub sum_by-map : {A B : Type 0} (w : B → ℕ) (f : A → B) (l : List A) → sum_by w (map f l) ≡ sum_by (λ x. w (f x)) l
sum_by-map w f [] = refl
sum_by-map w f (x ∷ l) = sum_by-cons w (f x) (map f l) ∙ ap (λ n. w (f x) + n) (sum_by-map w f l) ∙ sym (sum_by-cons (λ z. w (f z)) x l)

-- numbers that are equal on the list have equal sums
pub sum_by-same : {A : Type 0} (v w : A → ℕ) (l : List A) → ((x : A) → In x l → v x ≡ w x) → sum_by v l ≡ sum_by w l
sum_by-same v w [] h = refl
sum_by-same v w (x ∷ l) h =
    let e : sum_by v l ≡ sum_by w l = sum_by-same v w l (λ z i. h z (inr i)) in
    let d : v x ≡ w x = h x (inl refl) in
    let p : sum_by v (x ∷ l) ≡ v x + sum_by v l = sum_by-cons v x l in
    let q : sum_by w (x ∷ l) ≡ w x + sum_by w l = sum_by-cons w x l in
    omega arith

-- a sum of sums is the sum of the two
pub sum_by-add : {A : Type 0} (f g : A → ℕ) (l : List A) → sum_by (λ x. f x + g x) l ≡ sum_by f l + sum_by g l
sum_by-add f g [] = refl
sum_by-add f g (x ∷ l) = omega (arith, sum_by-add f g l, sum_by-cons (λ x. f x + g x) x l, sum_by-cons f x l, sum_by-cons g x l)

-- a factor comes out of a sum
pub sum_by-times : {A : Type 0} (f : A → ℕ) (c : ℕ) (l : List A) → sum_by (λ x. c * f x) l ≡ c * sum_by f l
sum_by-times f c [] = sym (mul-zero c)
sum_by-times f c (x ∷ l) = omega (arith, sum_by-times f c l, sum_by-cons (λ x. c * f x) x l, ap (λ n. c * n) (sum_by-cons f x l), mul-add c (f x) (sum_by f l))

pub sum_by-times_right : {A : Type 0} (f : A → ℕ) (c : ℕ) (l : List A) → sum_by (λ x. f x * c) l ≡ sum_by f l * c
sum_by-times_right f c [] = sym (zero-mul c)
sum_by-times_right f c (x ∷ l) = omega (arith, sum_by-times_right f c l, sum_by-cons (λ x. f x * c) x l, ap (λ n. n * c) (sum_by-cons f x l), add-mul (f x) (sum_by f l) c)

-- a length is a sum of ones
pub length_is_sum : {A : Type 0} (xs : List A) → length xs ≡ sum_by (λ x. 1) xs
length_is_sum [] = refl
length_is_sum (x ∷ xs) =
    let h : length xs ≡ sum_by (λ x. 1) xs = length_is_sum xs in
    let p : sum_by (λ z. 1) (x ∷ xs) ≡ 1 + sum_by (λ z. 1) xs = sum_by-cons (λ z. 1) x xs in
    omega arith
