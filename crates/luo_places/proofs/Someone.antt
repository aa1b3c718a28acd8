-- What is counted is there, and has a place.
use Rattle.std.proofs.Common.{◌≡◌, ℕ, ◌<◌, List, [], ◌∷◌, inl, refl, arith, sum_by}
use Rattle.luo_finite.specs.Listing.{Lists, Sums}

-- where more than nothing is counted, there is something
pub some_of : {A : Type 0} (P : A → Type 0) (c r : ℕ) → Sums P (λ x. 1) c → r < c → (x : A) × P x
some_of P c r s l = pick s.exists.0 s.exists.1 (s.each s.exists.0 s.exists.1)
  where
    pick : (l : List _) → Lists P l → sum_by (λ x. 1) l ≡ c → (x : _) × P x
    pick [] h e = absurd (let q : 0 ≡ c = e in omega (arith, q, l))
    pick (x ∷ xs) h e = (x, h.sound x (inl refl))
