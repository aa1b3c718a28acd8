-- Elements of lists, by their places.
use Rattle.std.proofs.Common.{◌≡◌, ℕ, zero, suc, ◌+◌, List, [], ◌∷◌, Some, None, get_or, slice_get, drop, refl, sym, ◌∙◌, ap, add-one}

-- past the end of a list
pub get_or-none : {X : Type 0} (xs : List X) (i : ℕ) (d : X) → slice_get xs i ≡ None → get_or xs i d ≡ d
get_or-none [] i d e = refl
get_or-none (x ∷ xs) zero d e = cc
get_or-none (x ∷ xs) (suc i) d e = get_or-none xs i d e

-- what is left of a list at a place, by the element there
pub drop-slice_get : {X : Type 0} (xs : List X) (i : ℕ) (x : X) → slice_get xs i ≡ Some x → drop i xs ≡ x ∷ drop (i + 1) xs
drop-slice_get [] i x e = cc
drop-slice_get (y ∷ xs) zero x e = cc
drop-slice_get (y ∷ xs) (suc i) x e = drop-slice_get xs i x e ∙ ap (λ k. x ∷ drop k xs) (add-one i) ∙ ap (λ k. x ∷ drop k (y ∷ xs)) (sym (add-one (suc i)))

pub drop-slice_none : {X : Type 0} (xs : List X) (i : ℕ) → slice_get xs i ≡ None → drop i xs ≡ []
drop-slice_none [] zero e = refl
drop-slice_none [] (suc i) e = refl
drop-slice_none (y ∷ xs) zero e = cc
drop-slice_none (y ∷ xs) (suc i) e = drop-slice_none xs i e
