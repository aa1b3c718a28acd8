-- Lists without doubles: how they are put together, and that their elements alone decide their sums.
use Rattle.std.proofs.Common.{◌≡◌, ℕ, ◌+◌, List, [], ◌∷◌, ◌++◌, inl, inr, ⊎_elim, length, refl, sym, ◌∙◌, ap, subst, map, sum_by}
use Rattle.std.proofs.lemmas.List.Sums.{sum_by-cons}
use Rattle.luo_finite.specs.Listing.{In, NoDouble}
use Rattle.luo_finite.proofs.Membership.{In-append_left, In-append_right, In-append_cases, In-map, In-map_back, around, In-itself, In-without, In-with}
use Rattle.luo_finite.proofs.SumsBy.{sum_by-around, length_is_sum}

-- two lists without doubles and with no element in common
pub NoDouble-append : {A : Type 0} (xs ys : List A) → NoDouble xs → NoDouble ys → ((x : A) → In x xs → In x ys → ⊥) → NoDouble (xs ++ ys)
NoDouble-append [] ys d e apart = e
NoDouble-append (x ∷ xs) ys d e apart =
    ((λ i. ⊎_elim d.0 (apart x (inl refl)) (In-append_cases x xs ys i)), NoDouble-append xs ys d.1 e (λ z i. apart z (inr i)))

-- and back: each is without doubles, and they have no element in common
pub NoDouble-append_left : {A : Type 0} (xs ys : List A) → NoDouble (xs ++ ys) → NoDouble xs
NoDouble-append_left [] ys d = tt
NoDouble-append_left (x ∷ xs) ys d = ((λ i. d.0 (In-append_left x xs ys i)), NoDouble-append_left xs ys d.1)

pub NoDouble-append_right : {A : Type 0} (xs ys : List A) → NoDouble (xs ++ ys) → NoDouble ys
NoDouble-append_right [] ys d = d
NoDouble-append_right (x ∷ xs) ys d = NoDouble-append_right xs ys d.1

pub NoDouble-append_apart : {A : Type 0} (xs ys : List A) → NoDouble (xs ++ ys) → (x : A) → In x xs → In x ys → ⊥
NoDouble-append_apart [] ys d z i j = i
NoDouble-append_apart (x ∷ xs) ys d z (inl e) j = d.0 (In-append_right x xs ys (subst (λ y. In y ys) e j))
NoDouble-append_apart (x ∷ xs) ys d z (inr i) j = NoDouble-append_apart xs ys d.1 z i j

-- an image under a function that is one to one on the list
pub NoDouble-map : {A B : Type 0} (f : A → B) (xs : List A) → NoDouble xs → ((x y : A) → In x xs → In y xs → f x ≡ f y → x ≡ y) → NoDouble (map f xs)
NoDouble-map f [] d one = tt
NoDouble-map f (x ∷ xs) d one = (
  (λ h. let r = In-map_back f (f x) xs h in d.0 (subst (λ z. In z xs) (sym (one x r.0 (inl refl) (inr r.1) r.2)) r.1)),
  NoDouble-map f xs d.1 (λ a b p q. one a b (inr p) (inr q)),
)

-- and back
pub NoDouble-map_back : {A B : Type 0} (f : A → B) (xs : List A) → NoDouble (map f xs) → NoDouble xs
NoDouble-map_back f [] d = tt
NoDouble-map_back f (x ∷ xs) d = ((λ i. d.0 (In-map f x xs i)), NoDouble-map_back f xs d.1)

-- without one of its elements a list still has no doubles, and does not hold that element
pub NoDouble-without : {A : Type 0} (x : A) (before after : List A) → NoDouble (before ++ x ∷ after) → NoDouble (before ++ after) × (In x (before ++ after) → ⊥)
NoDouble-without x [] after h = (h.1, h.0)
NoDouble-without x (y ∷ before) after h =
    let r = NoDouble-without x before after h.1 in (
      (λ i. h.0 (In-with x y before after i), r.0),
      λ i. ⊎_elim (λ e. h.0 (subst (λ z. In z (before ++ x ∷ after)) e (In-itself x before after))) (λ j. r.1 j) i,
    )

-- two lists without doubles that hold the same elements have the same sums
pub same_sum : {A : Type 0} (w : A → ℕ) (xs ys : List A) → NoDouble xs → NoDouble ys → ((x : A) → In x xs → In x ys) → ((x : A) → In x ys → In x xs) → sum_by w xs ≡ sum_by w ys
same_sum w [] [] d e there back = refl
same_sum w [] (y ∷ ys) d e there back = absurd (back y (inl refl))
same_sum w (x ∷ xs) ys d e there back =
    let r = around x ys (there x (inl refl)) in
    let rest = r.before ++ r.after in
    let k = NoDouble-without x r.before r.after (subst NoDouble r.is e) in
    let there_rest : (z : _) → In z xs → In z rest =
    λ z i. In-without x z r.before r.after (subst (λ l. In z l) r.is (there z (inr i))) (λ q. d.0 (subst (λ t. In t xs) q i)) in
    let back_rest : (z : _) → In z rest → In z xs =
    λ z i. ⊎_elim (λ q. absurd (k.1 (subst (λ t. In t rest) q i))) (λ j. j) (back z (subst (λ l. In z l) (sym r.is) (In-with x z r.before r.after i))) in
    let h : sum_by w xs ≡ sum_by w rest = same_sum w xs rest d.1 k.0 there_rest back_rest in
    sum_by-cons w x xs ∙ ap (λ n. w x + n) h ∙ sym (sum_by-around w x r.before r.after) ∙ ap (sum_by w) (sym r.is)

-- and the same length
pub same_length : {A : Type 0} (xs ys : List A) → NoDouble xs → NoDouble ys → ((x : A) → In x xs → In x ys) → ((x : A) → In x ys → In x xs) → length xs ≡ length ys
same_length xs ys d e there back = length_is_sum xs ∙ same_sum (λ x. 1) xs ys d e there back ∙ sym (length_is_sum ys)
