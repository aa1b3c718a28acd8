-- Prefixes of a list whose bytes are all of one kind.
use Rattle.std.proofs.Common.{◌≡◌, ◌≤◌, ◌<◌, ◌+◌, ℕ, zero, suc, List, [], ◌∷◌, ◌++◌, length, take, drop, get_or, add-one, true, bytes_eq, ap, sym, subst, ◌∙◌, arith}
use Rattle.std.proofs.Math.Seq.{drop-length}
use Rattle.std.proofs.lemmas.List.{take-append-drop}
use Rattle.std.proofs.lemmas.Slice.Eq.{bytes_eq-Decides}
use Rattle.std.specs.Bool.{Decides}
use Rattle.std.specs.List.{AllByRecursion}
use Rattle.luo_scan.specs.Prefixes.{Stops, IsRun}

-- a prefix of one kind is no longer than a prefix that no byte of the kind follows
pub prefix_at_most : (P : ℕ → Type 0) (ps rest qs after : List ℕ) → ps ++ rest ≡ qs ++ after → Stops P rest → AllByRecursion P qs → length qs ≤ length ps
prefix_at_most P [] rest [] after e s a = omega arith
prefix_at_most P [] [] (q ∷ qs) after e s a = cc
prefix_at_most P [] (r ∷ rs) (q ∷ qs) after e s a =
    let h : q ≡ r = cc in absurd (s (subst P h a.0))
prefix_at_most P (p ∷ ps) rest [] after e s a = omega arith
prefix_at_most P (p ∷ ps) rest (q ∷ qs) after e s a =
    let h = prefix_at_most P ps rest qs after (cc) s a.1 in omega arith

-- one more byte of a kind
pub all_more : {A : Type 0} (P : A → Type 0) (i : ℕ) (xs : List A) (d : A) → i < length xs → AllByRecursion P (take i xs) → P (get_or xs i d) → AllByRecursion P (take (i + 1) xs)
all_more P zero [] d h a p = absurd (omega arith)
all_more P zero (x ∷ xs) d h a p = (p, tt)
all_more P (suc i) [] d h a p = absurd (omega arith)
all_more P (suc i) (x ∷ xs) d h a p =
    rw add-one (a.0, subst (λ n. AllByRecursion P (take n xs)) (add-one i) (all_more P i xs d (omega arith) a.1 p))

pub stops_at : (P : ℕ → Type 0) (i : ℕ) (xs : List ℕ) → i < length xs → (P (get_or xs i 0) → ⊥) → Stops P (drop i xs)
stops_at P zero [] h n = tt
stops_at P zero (x ∷ xs) h n = n
stops_at P (suc i) [] h n = tt
stops_at P (suc i) (x ∷ xs) h n = stops_at P i xs (omega arith) n

pub run_ends : (P : ℕ → Type 0) (i : ℕ) (xs : List ℕ) → i < length xs → AllByRecursion P (take i xs) → (P (get_or xs i 0) → ⊥) → IsRun P xs i
run_ends P i xs h a n = record { within = omega arith; all = a; stops = stops_at P i xs h n }

pub run_whole : (P : ℕ → Type 0) (n : ℕ) (xs : List ℕ) → n ≡ length xs → AllByRecursion P (take n xs) → IsRun P xs n
run_whole P n xs e a =
    record { within = omega arith; all = a; stops = subst (λ z. Stops P z) (sym (subst (λ k. drop k xs ≡ []) (sym e) (drop-length xs))) tt }

pub starts_prefix : (text needle : List ℕ) → true ≡ bytes_eq needle (take (length needle) text) → (after : List ℕ) × (text ≡ needle ++ after)
starts_prefix text needle e =
    let d : Decides (bytes_eq needle (take (length needle) text)) (needle ≡ take (length needle) text) = bytes_eq-Decides _ _ in
    let f : needle ≡ take (length needle) text = d.0 (sym e) in
    (drop (length needle) text, sym (take-append-drop (length needle) text) ∙ ap (λ z. z ++ drop (length needle) text) (sym f))
