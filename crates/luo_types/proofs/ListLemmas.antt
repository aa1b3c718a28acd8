-- Lists by their places.
use Rattle.std.proofs.Common.{◌≡◌, ℕ, zero, suc, ◌+◌, ◌<◌, List, [], ◌∷◌, ◌++◌, Some, length, slice_get, refl, ap, ◌∙◌, sym, arith, length-append, eq-or-lt_of_le, ◌⊎◌, inl, inr}

front : {A : Type 0} (xs : List A) (x : A) (k : ℕ) → k < length xs → slice_get (xs ++ x ∷ []) k ≡ slice_get xs k
front [] x k h = absurd (omega arith)
front (y ∷ ys) x zero h = refl
front (y ∷ ys) x (suc k) h = front ys x k (omega arith)

end : {A : Type 0} (xs : List A) (x : A) → slice_get (xs ++ x ∷ []) (length xs) ≡ Some x
end [] x = refl
end (y ∷ ys) x = end ys x

-- one element more of a list by places
pub each_more : (f : ℕ → ℕ) (xs more : List ℕ) (i x : ℕ) → length xs ≡ i → ((k : ℕ) → k < i → slice_get xs k ≡ Some (f k)) → x ≡ f i → more ≡ xs ++ x ∷ []
    → (length more ≡ i + 1) × ((k : ℕ) → k < i + 1 → slice_get more k ≡ Some (f k))
each_more f xs more i x n each is e = (
  ap length e ∙ length-append xs (x ∷ []) ∙ ap (λ m. m + 1) n,
  λ k h. ap (λ l. slice_get l k) e ∙ at k (eq-or-lt_of_le (omega arith)),
)
  where
    at : (k : ℕ) → (k ≡ i) ⊎ (k < i) → slice_get (xs ++ x ∷ []) k ≡ Some (f k)
    at k (inl same) = ap (slice_get (xs ++ x ∷ [])) (same ∙ sym n) ∙ end xs x ∙ ap Some (is ∙ ap f (sym same))
    at k (inr less) = front xs x k (omega arith) ∙ each k less
