-- Spaces, and texts put together.
use Rattle.std.proofs.Common.{◌≡◌, ℕ, ◌+◌, List, [], ◌∷◌, ◌++◌, refl, ap, map, flat_map, zero, suc, add-one, codes}
use Rattle.std.specs.List.{join_by}
use Rattle.luo_print.specs.Layout.{spaces, joined, new_line, lines}

spaces_suc : (n : ℕ) → spaces (suc n) ≡ spaces n ++ 32 ∷ []
spaces_suc zero = refl
spaces_suc (suc n) = ap (λ s. 32 ∷ s) (spaces_suc n)

pub spaces_more : (n : ℕ) → spaces (n + 1) ≡ spaces n ++ 32 ∷ []
spaces_more n = rw add-one (spaces_suc n)

flat_map_map : {X : Type 0} (f : X → List ℕ) (between : List ℕ) (xs : List X) → flat_map (λ t. between ++ t) (map f xs) ≡ flat_map (λ x. between ++ f x) xs
flat_map_map f between [] = refl
flat_map_map f between (x ∷ xs) = ap (λ t. (between ++ f x) ++ t) (flat_map_map f between xs)

-- texts of a list put together
pub joined_map : {X : Type 0} (f : X → List ℕ) (between : List ℕ) (xs : List X) → joined between (map f xs) ≡ join_by f between xs
joined_map f between [] = refl
joined_map f between (x ∷ xs) = ap (λ t. f x ++ t) (flat_map_map f between xs)

lines_flat : {X : Type 0} (f : X → List ℕ) (n : ℕ) (xs : List X) → flat_map (λ t. codes ";" ++ (new_line n ++ t)) (map f xs) ≡ flat_map (λ x. codes ";" ++ (new_line n ++ f x)) xs
lines_flat f n [] = refl
lines_flat f n (x ∷ xs) = ap (λ t. (codes ";" ++ (new_line n ++ f x)) ++ t) (lines_flat f n xs)

-- lines of the texts of a list
pub lines_map : {X : Type 0} (f : X → List ℕ) (n : ℕ) (xs : List X) → lines n (map f xs) ≡ join_by (λ x. new_line n ++ f x) (codes ";") xs
lines_map f n [] = refl
lines_map f n (x ∷ xs) = ap (λ t. (new_line n ++ f x) ++ t) (lines_flat f n xs)
