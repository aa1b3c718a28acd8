-- Lists in which each element is related to all behind it.
use Rattle.std.proofs.Common.{◌≡◌, List, [], ◌∷◌, ◌++◌, inl, inr, ⊎_elim, refl, sym, ◌∙◌, subst, map}
use Rattle.luo_finite.specs.Listing.{In, NoDouble, Pairwise, Neighbours}
use Rattle.luo_finite.proofs.Membership.{In-append_left, In-append_right, In-append_cases, In-map, In-map_back}

-- for a transitive relation it is enough to look at neighbours
pub pairwise_from_neighbours : {A : Type 0} (R : A → A → Type 0) (xs : List A) → ((x y z : A) → R x y → R y z → R x z) → Neighbours R xs → Pairwise R xs
pairwise_from_neighbours R [] trans h = tt
pairwise_from_neighbours R (x ∷ []) trans h = ((λ y i. absurd i), tt)
pairwise_from_neighbours R (x ∷ (y ∷ rest)) trans h =
    let p = pairwise_from_neighbours R (y ∷ rest) trans h.1 in
    ((λ z i. ⊎_elim (λ e. subst (λ v. R x v) (sym e) h.0) (λ j. trans x y z h.0 (p.0 z j)) i), p)

-- and neighbours are always related
pub neighbours_from_pairwise : {A : Type 0} (R : A → A → Type 0) (xs : List A) → Pairwise R xs → Neighbours R xs
neighbours_from_pairwise R [] h = tt
neighbours_from_pairwise R (x ∷ []) h = tt
neighbours_from_pairwise R (x ∷ (y ∷ rest)) h = (h.0 y (inl refl), neighbours_from_pairwise R (y ∷ rest) h.1)

-- where nothing is related to itself there are no doubles
pub NoDouble-pairwise : {A : Type 0} (R : A → A → Type 0) (xs : List A) → ((x : A) → R x x → ⊥) → Pairwise R xs → NoDouble xs
NoDouble-pairwise R [] never h = tt
NoDouble-pairwise R (x ∷ xs) never h = ((λ i. never x (h.0 x i)), NoDouble-pairwise R xs never h.1)

-- a list without doubles is one of elements that differ pairwise
pub pairwise_differ : {A : Type 0} (xs : List A) → NoDouble xs → Pairwise (λ x y. x ≡ y → ⊥) xs
pairwise_differ [] d = tt
pairwise_differ (x ∷ xs) d = ((λ y i e. d.0 (subst (λ z. In z xs) (sym e) i)), pairwise_differ xs d.1)

-- a relation that follows from another on the elements
pub Pairwise-into : {A : Type 0} (R S : A → A → Type 0) (xs : List A) → ((x y : A) → In x xs → In y xs → R x y → S x y) → Pairwise R xs → Pairwise S xs
Pairwise-into R S [] f h = tt
Pairwise-into R S (x ∷ xs) f h = ((λ y i. f x y (inl refl) (inr i) (h.0 y i)), Pairwise-into R S xs (λ a b i j. f a b (inr i) (inr j)) h.1)

-- two lists, each element of the first related to each of the second
pub Pairwise-append : {A : Type 0} (R : A → A → Type 0) (xs ys : List A) → Pairwise R xs → Pairwise R ys → ((x y : A) → In x xs → In y ys → R x y) → Pairwise R (xs ++ ys)
Pairwise-append R [] ys h k across = k
Pairwise-append R (x ∷ xs) ys h k across =
    ((λ y i. ⊎_elim (λ a. h.0 y a) (λ b. across x y (inl refl) b) (In-append_cases y xs ys i)), Pairwise-append R xs ys h.1 k (λ a b i j. across a b (inr i) j))

-- and back
pub Pairwise-append_left : {A : Type 0} (R : A → A → Type 0) (xs ys : List A) → Pairwise R (xs ++ ys) → Pairwise R xs
Pairwise-append_left R [] ys h = tt
Pairwise-append_left R (x ∷ xs) ys h = ((λ y i. h.0 y (In-append_left y xs ys i)), Pairwise-append_left R xs ys h.1)

pub Pairwise-append_right : {A : Type 0} (R : A → A → Type 0) (xs ys : List A) → Pairwise R (xs ++ ys) → Pairwise R ys
Pairwise-append_right R [] ys h = h
Pairwise-append_right R (x ∷ xs) ys h = Pairwise-append_right R xs ys h.1

pub Pairwise-append_across : {A : Type 0} (R : A → A → Type 0) (xs ys : List A) → Pairwise R (xs ++ ys) → (x y : A) → In x xs → In y ys → R x y
Pairwise-append_across R [] ys h a b i j = absurd i
Pairwise-append_across R (x ∷ xs) ys h a b (inl e) j = subst (λ z. R z b) (sym e) (h.0 b (In-append_right b xs ys j))
Pairwise-append_across R (x ∷ xs) ys h a b (inr i) j = Pairwise-append_across R xs ys h.1 a b i j

-- an image
pub Pairwise-map : {A B : Type 0} (R : B → B → Type 0) (f : A → B) (xs : List A) → Pairwise (λ x y. R (f x) (f y)) xs → Pairwise R (map f xs)
Pairwise-map R f [] h = tt
Pairwise-map R f (x ∷ xs) h =
    ((λ y i. let r = In-map_back f y xs i in subst (λ z. R (f x) z) (sym r.2) (h.0 r.0 r.1)), Pairwise-map R f xs h.1)

pub Pairwise-map_back : {A B : Type 0} (R : B → B → Type 0) (f : A → B) (xs : List A) → Pairwise R (map f xs) → Pairwise (λ x y. R (f x) (f y)) xs
Pairwise-map_back R f [] h = tt
Pairwise-map_back R f (x ∷ xs) h = ((λ y i. h.0 (f y) (In-map f y xs i)), Pairwise-map_back R f xs h.1)

-- two lists in a strict order that hold the same elements are equal
pub pairwise_unique : {A : Type 0} (R : A → A → Type 0) (xs ys : List A) → ((x y : A) → R x y → R y x → ⊥) → Pairwise R xs → Pairwise R ys → ((x : A) → In x xs → In x ys) → ((x : A) → In x ys → In x xs) → xs ≡ ys
pairwise_unique R [] [] strict h k there back = refl
pairwise_unique R [] (y ∷ ys) strict h k there back = absurd (back y (inl refl))
pairwise_unique R (x ∷ xs) [] strict h k there back = absurd (there x (inl refl))
pairwise_unique {A} R (x ∷ xs) (y ∷ ys) strict h k there back =
    let e : x ≡ y = ⊎_elim (λ q. q) (λ i. ⊎_elim (λ q. sym q) (λ j. absurd (strict x y (h.0 y j) (k.0 x i))) (back y (inl refl))) (there x (inl refl)) in
    let there_rest : (z : A) → In z xs → In z ys =
    λ z i. ⊎_elim (λ q. absurd (strict x z (h.0 z i) (subst (λ v. R v x) (e ∙ sym q) (subst (λ v. R x v) (q ∙ sym e) (h.0 z i))))) (λ j. j) (there z (inr i)) in
    let back_rest : (z : A) → In z ys → In z xs =
    λ z i. ⊎_elim (λ q. absurd (strict y z (k.0 z i) (subst (λ v. R v y) (sym e ∙ sym q) (subst (λ v. R y v) (q ∙ e) (k.0 z i))))) (λ j. j) (back z (inr i)) in
    let d : xs ≡ ys = pairwise_unique R xs ys strict h.1 k.1 there_rest back_rest in
    λ i. e i ∷ d i
