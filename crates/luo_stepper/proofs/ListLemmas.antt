-- Structures at a place of a list, and what stands behind them.
use Rattle.std.proofs.Common.{◌≡◌, ℕ, zero, suc, ◌+◌, ◌≤◌, ◌<◌, List, [], ◌∷◌, ◌++◌, length, refl, ◌∙◌, ap, arith, Some, slice_get}
use Rattle.luo_model.specs.Tree.{Trees, none, more}
use Rattle.luo_struct.specs.declared.structure.Structure.{Structure}
use Rattle.luo_struct.specs.View.{tree_of, tree_list}
use Rattle.luo_rank.specs.inner.Lookup.{behind}
use Rattle.luo_stepper.specs.inner.Stepping.{from_place, up_to}
use Rattle.luo_rank.proofs.LookupLemmas.{behind_more}

get_own : (k : ℕ) (xs : List Structure) (s : Structure) → slice_get xs k ≡ Some s → from_place k xs ≡ s ∷ from_place (suc k) xs
get_own k [] s e = absurd (cc)
get_own zero (x ∷ xs) s e = let q : x ≡ s = cc in ap (λ v. v ∷ xs) q
get_own (suc k) (x ∷ xs) s e = get_own k xs s e

up_own : (k : ℕ) (xs : List Structure) (s : Structure) → slice_get xs k ≡ Some s → up_to (suc k) xs ≡ up_to k xs ++ s ∷ []
up_own k [] s e = absurd (cc)
up_own zero (x ∷ xs) s e = let q : x ≡ s = cc in ap (λ v. v ∷ []) q
up_own (suc k) (x ∷ xs) s e = ap (λ v. x ∷ v) (up_own k xs s e)

-- something stands at a place within
pub own_at : (f : ℕ) (xs : List Structure) → f < length xs → (s : Structure) × (slice_get xs f ≡ Some s)
own_at f [] l = absurd (omega (arith, l))
own_at zero (x ∷ xs) l = (x, refl)
own_at (suc f) (x ∷ xs) l = own_at f xs (omega (arith, l))

-- and nothing at the end
pub end_at : (xs : List Structure) → (from_place (length xs) xs ≡ []) × (xs ≡ up_to (length xs) xs)
end_at [] = (refl, refl)
end_at (x ∷ xs) = let q = end_at xs in (q.0, ap (λ v. x ∷ v) q.1)

-- all of them
pub all_from : (xs : List Structure) → (from_place 0 xs ≡ xs) × (up_to 0 xs ≡ [])
all_from xs = (refl, refl)

pub trees_own : (f : ℕ) (xs : List Structure) (s : Structure) → slice_get xs f ≡ Some s → tree_list (from_place f xs) ≡ more (tree_of s) (tree_list (from_place (f + 1) xs))
trees_own f xs s e = ap tree_list (get_own f xs s e) ∙ ap (λ g. more (tree_of s) (tree_list (from_place g xs))) (let q : suc f ≡ f + 1 = omega arith in q)

pub before_own : (f : ℕ) (xs : List Structure) (s : Structure) → slice_get xs f ≡ Some s → up_to (f + 1) xs ≡ up_to f xs ++ s ∷ []
before_own f xs s e = ap (λ g. up_to g xs) (let q : f + 1 ≡ suc f = omega arith in q) ∙ up_own f xs s e

-- the last of two equal lists
pub last_same : (xs ys : List Structure) (a b : Structure) → xs ++ a ∷ [] ≡ ys ++ b ∷ [] → (xs ≡ ys) × (a ≡ b)
last_same [] [] a b e = (refl, let q : a ≡ b = cc in q)
last_same [] (y ∷ ys) a b e = absurd (longer ys b (let q : [] ≡ ys ++ b ∷ [] = cc in q))
  where
    longer : (ys : List Structure) (b : Structure) → [] ≡ ys ++ b ∷ [] → ⊥
    longer [] b e = cc
    longer (y ∷ ys) b e = cc
last_same (x ∷ xs) [] a b e = absurd (longer xs a (let q : xs ++ a ∷ [] ≡ [] = cc in q))
  where
    longer : (ys : List Structure) (b : Structure) → ys ++ b ∷ [] ≡ [] → ⊥
    longer [] b e = cc
    longer (y ∷ ys) b e = cc
last_same (x ∷ xs) (y ∷ ys) a b e =
    let q : x ≡ y = cc in
    let r = last_same xs ys a b (let w : xs ++ a ∷ [] ≡ ys ++ b ∷ [] = cc in w) in
    ((λ i. q i ∷ r.0 i), r.1)

pub one_more : (xs : List Structure) (s : Structure) → 1 ≤ length (xs ++ s ∷ [])
one_more [] s = omega arith
one_more (x ∷ xs) s = omega (arith, one_more xs s)

pub list_behind : (xs : List Structure) (s : Structure) → tree_list (xs ++ s ∷ []) ≡ behind (tree_list xs) (more (tree_of s) none)
list_behind [] s = refl
list_behind (x ∷ xs) s = ap (more (tree_of x)) (list_behind xs s)

-- behind one more
pub joined_behind : (xs ys new : List Structure) (s : Structure) (us : Trees) → ys ≡ xs ++ s ∷ [] → tree_list new ≡ behind (tree_list ys) us → tree_list new ≡ behind (tree_list xs) (more (tree_of s) us)
joined_behind xs ys new s us e w = w ∙ ap (λ v. behind (tree_list v) us) e ∙ ap (λ v. behind v us) (list_behind xs s) ∙ behind_more (tree_list xs) (tree_of s) us
