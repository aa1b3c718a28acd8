-- The sums of pieces add up.
use Rattle.std.proofs.Common.{◌≡◌, ◌≤◌, ◌<◌, ◌+◌, ◌-◌, ◌*◌, ◌/◌, ◌%◌, ◌⊎◌, min, ℕ, zero, suc, List, [], ◌∷◌, ◌++◌, length, take, drop, sum, refl, ap, sym, ◌∙◌, arith}
use Rattle.std.specs.Prelude.{Some, slice_get}
use Rattle.std.proofs.lemmas.List.Sums.{sum_by-cons}
use Rattle.std.proofs.lemmas.Nat.{div-add-mod'}
use Rattle.luo_finite.proofs.Places.{some_same, none_some}
use Rattle.luo_audit.specs.Pieces.{start, sum_between, piece_sum, piece_sums_from, piece_sums}

sum_more : (x : ℕ) (xs : List ℕ) → sum (x ∷ xs) ≡ x + sum xs
sum_more x xs = sum_by-cons (λ x. x) x xs

none_taken : (n : ℕ) → sum (take n []) ≡ 0
none_taken zero = refl
none_taken (suc n) = refl

-- a sum up to a later place
pub between : (xs : List ℕ) (a n m : ℕ) → m ≡ a + n → sum (take a xs) + sum (take n (drop a xs)) ≡ sum (take m xs)
between xs zero n m e = let same : m ≡ n = omega (arith, e) in omega (arith, ap (λ k. sum (take k xs)) same)
between [] (suc a) n m e = omega (arith, none_taken n, none_taken m)
between (x ∷ xs) (suc a) n zero e = absurd (omega (arith, e))
between (x ∷ xs) (suc a) n (suc m) e = omega (arith, sum_more x (take a xs), sum_more x (take m xs), between xs a n m (omega (arith, e)))

pub up_to : (xs : List ℕ) (a b : ℕ) → a ≤ b → sum (take a xs) + sum_between xs a b ≡ sum (take b xs)
up_to xs a b l = between xs a (b - a) b (omega (arith, l))

all_taken : (xs : List ℕ) → sum (take (length xs) xs) ≡ sum xs
all_taken [] = refl
all_taken (x ∷ xs) = omega (arith, sum_more x (take (length xs) xs), sum_more x xs, all_taken xs)

-- a sum over a list cut at any rising places
sums_at : (xs : List ℕ) (workers : ℕ) → ((i : ℕ) → start (length xs) workers i ≤ start (length xs) workers (i + 1)) → (i n : ℕ)
    → sum (take (start (length xs) workers i) xs) + sum (piece_sums_from xs workers i n) ≡ sum (take (start (length xs) workers (i + n)) xs)
sums_at xs workers rise i zero = let same : i ≡ i + 0 = omega arith in omega (arith, ap (λ k. sum (take (start (length xs) workers k) xs)) same)
sums_at xs workers rise i (suc n) =
    let next : suc i + n ≡ i + suc n = omega arith in
    let one : i + 1 ≡ suc i = omega arith in
    omega (
      arith,
      sum_more (piece_sum xs workers i) (piece_sums_from xs workers (suc i) n),
      up_to xs (start (length xs) workers i) (start (length xs) workers (i + 1)) (rise i),
      ap (λ k. sum (take (start (length xs) workers k) xs)) one,
      sums_at xs workers rise (suc i) n,
      ap (λ k. sum (take (start (length xs) workers k) xs)) next,
    )

-- starts rise, from 0 to the count

pub start_rises : (count workers i : ℕ) → start count workers i ≤ start count workers (i + 1)
start_rises count workers i = by (count / workers) (count % workers)
  where
    by : (q r : ℕ) → i * q + min i r ≤ (i + 1) * q + min (i + 1) r
    by q r = grind arith

pub start_first : (count workers : ℕ) → start count workers 0 ≡ 0
start_first count workers = by (count / workers) (count % workers)
  where
    by : (q r : ℕ) → 0 * q + min 0 r ≡ 0
    by q r = grind arith

pub start_last : (count workers : ℕ) → 0 < workers → start count workers workers ≡ count
start_last count workers l = by (count / workers) (count % workers) (omega (arith, l)) (div-add-mod' count workers)
  where
    by : (q r : ℕ) → r < workers → q * workers + r ≡ count → workers * q + min workers r ≡ count
    by q r m e = grind (arith, e, m)

-- the pieces sum to the whole, for every number of workers
pub pieces_add_up : (xs : List ℕ) (workers : ℕ) → 0 < workers → sum (piece_sums xs workers) ≡ sum xs
unfolding piece_sums
pieces_add_up xs workers l =
    let c : ℕ = length xs in
    let zero_first : sum (take (start c workers 0) xs) ≡ 0 = ap (λ k. sum (take k xs)) (start_first c workers) in
    let same : 0 + workers ≡ workers = omega arith in
    let last : sum (take (start c workers (0 + workers)) xs) ≡ sum xs = ap (λ k. sum (take (start c workers k) xs)) same ∙ (ap (λ k. sum (take k xs)) (start_last c workers l) ∙ all_taken xs) in
    omega (arith, zero_first, last, sums_at xs workers (start_rises c workers) 0 workers)

-- fronts

taken_at_most : (n : ℕ) (xs : List ℕ) → sum (take n xs) ≤ sum xs
taken_at_most zero xs = omega arith
taken_at_most (suc n) [] = omega arith
taken_at_most (suc n) (x ∷ xs) = omega (arith, sum_more x (take n xs), sum_more x xs, taken_at_most n xs)

pub piece_at_most : (xs : List ℕ) (workers k : ℕ) → piece_sum xs workers k ≤ sum xs
piece_at_most xs workers k =
    let a : ℕ = start (length xs) workers k in
    let b : ℕ = start (length xs) workers (k + 1) in
    omega (arith, up_to xs a b (start_rises (length xs) workers k), taken_at_most b xs)

pub front_at_most : (xs : List ℕ) (workers k : ℕ) → sum (piece_sums_from xs workers 0 k) ≤ sum xs
front_at_most xs workers k = omega (arith, sums_at xs workers (start_rises (length xs) workers) 0 k, taken_at_most (start (length xs) workers (0 + k)) xs)

from_more : (xs : List ℕ) (workers i k : ℕ) → piece_sums_from xs workers i (suc k) ≡ piece_sums_from xs workers i k ++ piece_sum xs workers (i + k) ∷ []
from_more xs workers i zero = let same : i ≡ i + 0 = omega arith in ap (λ j. piece_sum xs workers j ∷ []) same
from_more xs workers i (suc k) =
    let same : suc i + k ≡ i + suc k = omega arith in
    ap (λ z. piece_sum xs workers i ∷ z) (from_more xs workers (suc i) k ∙ ap (λ j. piece_sums_from xs workers (suc i) k ++ piece_sum xs workers j ∷ []) same)

pub one_more : (xs : List ℕ) (workers k : ℕ) → piece_sums_from xs workers 0 k ++ piece_sum xs workers k ∷ [] ≡ piece_sums_from xs workers 0 (k + 1)
one_more xs workers k =
    let same : 0 + k ≡ k = omega arith in
    let next : suc k ≡ k + 1 = omega arith in
    sym (from_more xs workers 0 k ∙ ap (λ j. piece_sums_from xs workers 0 k ++ piece_sum xs workers j ∷ []) same) ∙ ap (λ n. piece_sums_from xs workers 0 n) next

sum_last : (xs : List ℕ) (x : ℕ) → sum (xs ++ x ∷ []) ≡ sum xs + x
sum_last [] x = omega (arith, sum_more x [])
sum_last (y ∷ xs) x = omega (arith, sum_more y (xs ++ x ∷ []), sum_more y xs, sum_last xs x)

pub sum_one_more : (xs : List ℕ) (workers k : ℕ) → sum (piece_sums_from xs workers 0 (k + 1)) ≡ sum (piece_sums_from xs workers 0 k) + piece_sum xs workers k
sum_one_more xs workers k = sym (ap sum (one_more xs workers k)) ∙ sum_last (piece_sums_from xs workers 0 k) (piece_sum xs workers k)

pub all_pieces : (xs : List ℕ) (workers : ℕ) → piece_sums_from xs workers 0 workers ≡ piece_sums xs workers
unfolding piece_sums
all_pieces xs workers = refl

-- walks

take_next : (xs : List ℕ) (k m : ℕ) (x : ℕ) → slice_get xs k ≡ Some x → m ≡ k + 1 → sum (take m xs) ≡ sum (take k xs) + x
take_next [] k m x e n = absurd (none_some x e)
take_next (y ∷ xs) k zero x e n = absurd (omega (arith, n))
take_next (y ∷ xs) zero (suc m) x e n =
    let none : m ≡ 0 = omega (arith, n) in
    let same : y ≡ x = some_same y x e in
    omega (arith, sum_more y (take m xs), ap (λ k. sum (take k xs)) none, same)
take_next (y ∷ xs) (suc k) (suc m) x e n = omega (arith, sum_more y (take m xs), sum_more y (take k xs), take_next xs k m x e (omega (arith, n)))

-- one step of a walk
pub step : (xs : List ℕ) (from place after to x : ℕ) → from ≤ place → place < to → slice_get xs place ≡ Some x → after ≡ place + 1
    → (sum_between xs from after ≡ sum_between xs from place + x) × (sum_between xs from after ≤ sum_between xs from to)
step xs from place after to x l m e f =
    let next = take_next xs place after x e f in
    let now = up_to xs from place l in
    let then = up_to xs from after (omega (arith, l, f)) in
    let all = up_to xs from to (omega (arith, l, m)) in
    let more = up_to xs after to (omega (arith, m, f)) in
    (omega (arith, next, now, then), omega (arith, then, all, more))

pub nothing_between : (xs : List ℕ) (place : ℕ) → sum_between xs place place ≡ 0
nothing_between xs place = let none : place - place ≡ 0 = omega arith in ap (λ k. sum (take k (drop place xs))) none

-- the lengths of pieces differ by at most one
pub piece_length : (count workers i : ℕ) → (start count workers (i + 1) ≡ start count workers i + count / workers) ⊎ (start count workers (i + 1) ≡ start count workers i + count / workers + 1)
piece_length count workers i = by (count / workers) (count % workers)
  where
    by : (q r : ℕ) → ((i + 1) * q + min (i + 1) r ≡ i * q + min i r + q) ⊎ ((i + 1) * q + min (i + 1) r ≡ i * q + min i r + q + 1)
    by q r = grind arith

-- a place where a piece begins is no later than the end of the list
pub start_within : (count workers i : ℕ) → 0 < workers → i ≤ workers → start count workers i ≤ count
start_within count workers i l m = by (count / workers) (count % workers) (omega (arith, l)) (div-add-mod' count workers)
  where
    by : (q r : ℕ) → r < workers → q * workers + r ≡ count → i * q + min i r ≤ count
    by q r n e = grind (arith, e, n, m)

-- one sum for each piece
pub sums_long : (xs : List ℕ) (workers i n : ℕ) → length (piece_sums_from xs workers i n) ≡ n
sums_long xs workers i zero = refl
sums_long xs workers i (suc n) = ap suc (sums_long xs workers (suc i) n)
