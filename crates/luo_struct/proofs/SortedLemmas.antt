-- Sorted lists, label by label.
use Rattle.std.proofs.Common.{◌≡◌, ℕ, zero, suc, ◌+◌, ◌<◌, ◌≤◌, List, [], ◌∷◌, ◌++◌, ◌⊎◌, inl, inr, ⊎_elim, length, min, refl, sym, ap, subst, ◌∙◌, arith, if◌then◌else◌, nat_lt, nat_eq, nat_le, Bool, true, false, replicate}
use Rattle.std.specs.declared.cmp.Ordering.{Ordering}
use Rattle.std.specs.declared.cmp.Ordering.TheVariants.{Greater}
use Rattle.std.specs.Cmp.Lexicographic.{slice_cmp}
use Rattle.std.specs.Ordering.{nat_cmp, ordering_then, ordering_reverse}
use Rattle.std.proofs.lemmas.Bool.{ltb-true, lt-ltb}
use Rattle.std.proofs.lemmas.Bool.Decides.{Decides-eqb, nat_tests}
use Rattle.std.proofs.lemmas.Cmp.{nat_cmp_total}
use Rattle.luo_finite.specs.Listing.{In, Pairwise}
use Rattle.luo_finite.proofs.Orders.{nat_less, nat_itself}
use Rattle.luo_model.specs.Order.{put, sorted}
use Rattle.luo_struct.specs.inner.Passes.{lesser, next_above, copies_of}
use Rattle.luo_struct.proofs.PassLemmas.{lesser_assoc, lesser_comm}

pub nat_greater : (x y : ℕ) → y < x → nat_cmp x y ≡ Greater
nat_greater x y h = nat_cmp_total.antisymm x y ∙ ap ordering_reverse (nat_less y x h)

-- the cases of a test
pub lt_cases : (a b : ℕ) → ((a < b) × (nat_lt a b ≡ true)) ⊎ ((b ≤ a) × (nat_lt a b ≡ false))
lt_cases a b = by (nat_lt a b) refl
  where
    by : (t : Bool) → nat_lt a b ≡ t → ((a < b) × (nat_lt a b ≡ true)) ⊎ ((b ≤ a) × (nat_lt a b ≡ false))
    by true e = inl (ltb-true a b e, e)
    by false e = inr (⊎_elim (λ h. h) (λ h. absurd (differ (sym (lt-ltb a b h) ∙ e))) (either a b), e)
      where
        differ : true ≡ false → ⊥
        differ e = cc

        either : (a b : ℕ) → (b ≤ a) ⊎ (a < b)
        either a b = grind arith

eq_cases : (a b : ℕ) → ((a ≡ b) × (nat_eq a b ≡ true)) ⊎ ((a ≡ b → ⊥) × (nat_eq a b ≡ false))
eq_cases a b = by (nat_eq a b) refl
  where
    by : (t : Bool) → nat_eq a b ≡ t → ((a ≡ b) × (nat_eq a b ≡ true)) ⊎ ((a ≡ b → ⊥) × (nat_eq a b ≡ false))
    by true e = inl ((Decides-eqb a b).0 e, e)
    by false e = inr ((λ h. differ (sym ((Decides-eqb a b).1 h) ∙ e)), e)
      where
        differ : true ≡ false → ⊥
        differ e = cc

-- each is at most those behind it
abbrev Rises : List ℕ → Type 0
Rises xs = Pairwise (λ x y. x ≤ y) xs

In-put : (x z : ℕ) (ys : List ℕ) → In z (put x ys) → (z ≡ x) ⊎ In z ys
In-put x z [] i = ⊎_elim (λ e. inl e) (λ a. absurd a) i
In-put x z (y ∷ ys) i = by (nat_le x y) i (λ j. In-put x z ys j)
  where
    by : (b : Bool) → In z (if b then x ∷ (y ∷ ys) else y ∷ put x ys) → (In z (put x ys) → (z ≡ x) ⊎ In z ys) → (z ≡ x) ⊎ In z (y ∷ ys)
    by true i ih = i
    by false i ih = ⊎_elim (λ e. inr (inl e)) (λ j. ⊎_elim (λ e. inl e) (λ k. inr (inr k)) (ih j)) i

le_cases : (a b : ℕ) (t : Bool) → nat_le a b ≡ t → ((a ≤ b) × (t ≡ true)) ⊎ ((b ≤ a) × (t ≡ false))
le_cases a b t e = grind (arith, nat_tests)

put_rises : (x : ℕ) (ys : List ℕ) → Rises ys → Rises (put x ys)
put_rises x [] r = ((λ y i. absurd i), tt)
put_rises x (y ∷ ys) r = by (nat_le x y) (le_cases x y (nat_le x y) refl) (put_rises x ys r.1)
  where
    differ : {A : Type 0} → true ≡ false → A
    differ e = cc

    by : (b : Bool) → ((x ≤ y) × (b ≡ true)) ⊎ ((y ≤ x) × (b ≡ false)) → Rises (put x ys) → Rises (if b then x ∷ (y ∷ ys) else y ∷ put x ys)
    by true (inl h) ih = ((λ z i. ⊎_elim (λ (e : z ≡ y). omega (arith, h.0, e)) (λ j. omega (arith, h.0, r.0 z j)) i), r)
    by true (inr h) ih = differ h.1
    by false (inl h) ih = differ (sym h.1)
    by false (inr h) ih = ((λ z i. ⊎_elim (λ (e : z ≡ x). omega (arith, h.0, e)) (λ j. r.0 z j) (In-put x z ys i)), ih)

pub sorted_rises : (xs : List ℕ) → Rises (sorted xs)
sorted_rises [] = tt
sorted_rises (x ∷ xs) = put_rises x (sorted xs) (sorted_rises xs)

-- what a pass finds doesn't depend on the order
next-put : (past x : ℕ) (ys : List ℕ) → next_above past (put x ys) ≡ next_above past (x ∷ ys)
next-put past x [] = refl
next-put past x (y ∷ ys) = by (nat_le x y) (next-put past x ys)
  where
    by : (b : Bool) → next_above past (put x ys) ≡ next_above past (x ∷ ys) → next_above past (if b then x ∷ (y ∷ ys) else y ∷ put x ys) ≡ next_above past (x ∷ (y ∷ ys))
    by true ih = refl
    by false ih =
        let a : ℕ = if nat_lt past x then x else 0 in
        let b : ℕ = if nat_lt past y then y else 0 in
        ap (lesser b) ih ∙ sym (lesser_assoc b a (next_above past ys)) ∙ ap (λ z. lesser z (next_above past ys)) (lesser_comm b a) ∙ lesser_assoc a b (next_above past ys)

pub next-sorted : (past : ℕ) (xs : List ℕ) → next_above past (sorted xs) ≡ next_above past xs
next-sorted past [] = refl
next-sorted past (x ∷ xs) = next-put past x (sorted xs) ∙ ap (lesser (if nat_lt past x then x else 0)) (next-sorted past xs)

copies-put : (c x : ℕ) (ys : List ℕ) → copies_of c (put x ys) ≡ copies_of c (x ∷ ys)
copies-put c x [] = refl
copies-put c x (y ∷ ys) = by (nat_le x y) (copies-put c x ys)
  where
    by : (b : Bool) → copies_of c (put x ys) ≡ copies_of c (x ∷ ys) → copies_of c (if b then x ∷ (y ∷ ys) else y ∷ put x ys) ≡ copies_of c (x ∷ (y ∷ ys))
    by true ih = refl
    by false ih = omega (arith, ih)

pub copies-sorted : (c : ℕ) (xs : List ℕ) → copies_of c (sorted xs) ≡ copies_of c xs
copies-sorted c [] = refl
copies-sorted c (x ∷ xs) = copies-put c x (sorted xs) ∙ ap (λ n. (if nat_eq c x then 1 else 0) + n) (copies-sorted c xs)

abbrev one_if : Bool → ℕ
one_if b = if b then 1 else 0

pub copies_few : (c : ℕ) (xs : List ℕ) → copies_of c xs ≤ length xs
copies_few c [] = omega arith
copies_few c (x ∷ xs) = ⊎_elim (λ h. omega (arith, ap one_if h.1, copies_few c xs)) (λ h. omega (arith, ap one_if h.1, copies_few c xs)) (eq_cases c x)

-- what is above `past` of a rising list
abbrev pub beyond : ℕ → List ℕ → List ℕ
beyond past [] = []
beyond past (x ∷ xs) = if nat_lt past x then x ∷ xs else beyond past xs

abbrev pub first_of : List ℕ → ℕ
first_of [] = 0
first_of (x ∷ xs) = x

abbrev picks : ℕ → List ℕ → Bool → List ℕ
picks past (x ∷ xs) b = if b then x ∷ xs else beyond past xs
picks past [] b = []

abbrev pub one : ℕ → Bool → ℕ
one x b = if b then x else 0

lesser_first : (x n : ℕ) → 0 < x → ((n ≡ 0) ⊎ (x ≤ n)) → lesser x n ≡ x
lesser_first zero n h g = absurd (omega arith)
lesser_first (suc x) zero h g = refl
lesser_first (suc x) (suc n) h g = ⊎_elim (λ (e : suc n ≡ 0). absurd (omega (arith, e))) (λ (k : suc x ≤ suc n). small (suc x) (suc n) k) g
  where
    small : (a b : ℕ) → a ≤ b → min a b ≡ a
    small a b h = grind arith

lesser_least : (x a b : ℕ) → ((a ≡ 0) ⊎ (x ≤ a)) → ((b ≡ 0) ⊎ (x ≤ b)) → (lesser a b ≡ 0) ⊎ (x ≤ lesser a b)
lesser_least x zero b g h = h
lesser_least x (suc a) zero g h = g
lesser_least x (suc a) (suc b) g h = inr (⊎_elim (λ (e : suc a ≡ 0). absurd (omega (arith, e))) (λ (k : x ≤ suc a). ⊎_elim (λ (e : suc b ≡ 0). absurd (omega (arith, e))) (λ (l : x ≤ suc b). both x (suc a) (suc b) k l) h) g)
  where
    both : (x a b : ℕ) → x ≤ a → x ≤ b → x ≤ min a b
    both x a b h g = grind arith

next_least : (past x : ℕ) (xs : List ℕ) → ((y : ℕ) → In y xs → x ≤ y) → (next_above past xs ≡ 0) ⊎ (x ≤ next_above past xs)
next_least past x [] h = inl refl
next_least past x (y ∷ xs) h =
    lesser_least x (one y (nat_lt past y)) (next_above past xs)
    (⊎_elim (λ c. inr (omega (arith, h y (inl refl), ap (one y) c.1))) (λ c. inl (ap (one y) c.1)) (lt_cases past y))
    (next_least past x xs (λ z i. h z (inr i)))

pub next_first : (past : ℕ) (xs : List ℕ) → Rises xs → next_above past xs ≡ first_of (beyond past xs)
next_first past [] r = refl
next_first past (x ∷ xs) r = ⊎_elim
    (λ c. ap (λ n. lesser n (next_above past xs)) (ap (one x) c.1) ∙ lesser_first x (next_above past xs) (omega (arith, c.0)) (next_least past x xs r.0) ∙ sym (ap (λ b. first_of (picks past (x ∷ xs) b)) c.1))
    (λ c. ap (λ n. lesser n (next_above past xs)) (ap (one x) c.1) ∙ next_first past xs r.1 ∙ sym (ap (λ b. first_of (picks past (x ∷ xs) b)) c.1))
    (lt_cases past x)

beyond_all : (x : ℕ) (xs : List ℕ) → ((y : ℕ) → In y xs → x < y) → (copies_of x xs ≡ 0) × (beyond x xs ≡ xs)
beyond_all x [] h = (refl, refl)
beyond_all x (y ∷ xs) h = ⊎_elim
    (λ c. (⊎_elim (λ e. absurd (omega (arith, c.0, e.0))) (λ e. omega (arith, ap one_if e.1, (beyond_all x xs (λ z i. h z (inr i))).0)) (eq_cases x y), ap (picks x (y ∷ xs)) c.1))
    (λ c. absurd (omega (arith, c.0, h y (inl refl)))) (lt_cases x y)

-- a rising list from x on is so many copies of x, and what is above it
copies_first : (x : ℕ) (xs : List ℕ) → Rises xs → ((y : ℕ) → In y xs → x ≤ y) → xs ≡ replicate (copies_of x xs) x ++ beyond x xs
copies_first x [] r h = refl
copies_first x (y ∷ xs) r h = ⊎_elim
    (λ c. let all = beyond_all x (y ∷ xs) (λ z i. ⊎_elim (λ e. omega (arith, c.0, e)) (λ j. omega (arith, c.0, r.0 z j)) i) in
    sym (ap (λ n. replicate n x ++ beyond x (y ∷ xs)) all.0 ∙ all.1))
    (λ c. let e : x ≡ y = omega (arith, c.0, h y (inl refl)) in
    ⊎_elim (λ q. ap (λ z. z ∷ xs) (sym e) ∙ ap (λ l. x ∷ l) (copies_first x xs r.1 (λ z i. h z (inr i)))
    ∙ sym (ap (λ n. replicate n x ++ beyond x (y ∷ xs)) (ap (λ b. one_if b + copies_of x xs) q.1 ∙ plus (copies_of x xs)) ∙ ap (λ b. x ∷ (replicate (copies_of x xs) x ++ picks x (y ∷ xs) b)) c.1))
    (λ q. absurd (q.0 e)) (eq_cases x y))
    (lt_cases x y)
  where
    plus : (n : ℕ) → 1 + n ≡ suc n
    plus n = omega arith

pub beyond_split : (past x : ℕ) (xs : List ℕ) → Rises xs → first_of (beyond past xs) ≡ x → 0 < x → past < x → beyond past xs ≡ replicate (copies_of x xs) x ++ beyond x xs
beyond_split past x [] r e pos h = absurd (omega (arith, e))
beyond_split past x (y ∷ xs) r e pos h = ⊎_elim
    (λ c. let same : y ≡ x = sym (ap (λ b. first_of (picks past (y ∷ xs) b)) c.1) ∙ e in
    ap (picks past (y ∷ xs)) c.1 ∙ copies_first x (y ∷ xs) r (λ z i. ⊎_elim (λ q. omega (arith, same, q)) (λ j. omega (arith, same, r.0 z j)) i))
    (λ c. ap (picks past (y ∷ xs)) c.1 ∙ beyond_split past x xs r.1 (sym (ap (λ b. first_of (picks past (y ∷ xs) b)) c.1) ∙ e) pos h
    ∙ ap (λ n. replicate n x ++ beyond x xs) (⊎_elim (λ q. absurd (omega (arith, q.0, c.0))) (λ q. omega (arith, ap one_if q.1)) (eq_cases x y))
    ∙ ap (λ l. replicate (copies_of x (y ∷ xs)) x ++ l) (⊎_elim (λ q. absurd (omega (arith, q.0, c.0))) (λ q. sym (ap (picks x (y ∷ xs)) q.1)) (lt_cases x y)))
    (lt_cases past y)

-- what is beyond 0 of positive numbers is all of them
pub beyond_none : (xs : List ℕ) → ((y : ℕ) → In y xs → 0 < y) → beyond 0 xs ≡ xs
beyond_none [] h = refl
beyond_none (x ∷ xs) h = ⊎_elim (λ c. ap (picks 0 (x ∷ xs)) c.1) (λ c. absurd (omega (arith, c.0, h x (inl refl)))) (lt_cases 0 x)

pub next_above_past : (past : ℕ) (xs : List ℕ) → (next_above past xs ≡ 0) ⊎ (past < next_above past xs)
next_above_past past [] = inl refl
next_above_past past (x ∷ xs) = lesser_least (suc past) (one x (nat_lt past x)) (next_above past xs)
    (⊎_elim (λ c. inr (omega (arith, c.0, ap (one x) c.1))) (λ c. inl (ap (one x) c.1)) (lt_cases past x)) (next_above_past past xs)

pub In-sorted : (z : ℕ) (xs : List ℕ) → In z (sorted xs) → In z xs
In-sorted z [] i = i
In-sorted z (x ∷ xs) i = ⊎_elim (λ e. inl e) (λ j. inr (In-sorted z xs j)) (In-put x z (sorted xs) i)

module _ (x : ℕ) (pos : 0 < x) where
  pub less_copies : (i j : ℕ) (A B : List ℕ) → i < j → ((first_of A ≡ 0) × (A ≡ [])) ⊎ (x < first_of A)
      → slice_cmp nat_cmp (replicate i x ++ A) (replicate j x ++ B) ≡ nat_cmp (first_of A) x
  less_copies i zero A B h c = absurd (omega arith)
  less_copies zero (suc j) [] B h c = sym (nat_less 0 x pos)
  less_copies zero (suc j) (a ∷ A) B h c = ⊎_elim (λ e. nothing (a ∷ A) e.1) (λ k. ap (λ o. ordering_then o (slice_cmp nat_cmp A (replicate j x ++ B))) (nat_greater a x k) ∙ sym (nat_greater a x k)) c
    where
      nothing : (l : List ℕ) → l ≡ [] → slice_cmp nat_cmp l (x ∷ (replicate j x ++ B)) ≡ nat_cmp (first_of l) x
      nothing [] e = sym (nat_less 0 x pos)
      nothing (b ∷ l) e = absurd (cc)
  less_copies (suc i) (suc j) A B h c = ap (λ o. ordering_then o (slice_cmp nat_cmp (replicate i x ++ A) (replicate j x ++ B))) (nat_itself x) ∙ less_copies i j A B (omega arith) c

  pub more_copies : (i j : ℕ) (A B : List ℕ) → j < i → ((first_of B ≡ 0) × (B ≡ [])) ⊎ (x < first_of B)
      → slice_cmp nat_cmp (replicate i x ++ A) (replicate j x ++ B) ≡ nat_cmp x (first_of B)
  more_copies zero j A B h c = absurd (omega arith)
  more_copies (suc i) zero A [] h c = sym (nat_greater x 0 pos)
  more_copies (suc i) zero A (b ∷ B) h c = ⊎_elim (λ e. nothing (b ∷ B) e.1) (λ k. ap (λ o. ordering_then o (slice_cmp nat_cmp (replicate i x ++ A) B)) (nat_less x b k) ∙ sym (nat_less x b k)) c
    where
      nothing : (l : List ℕ) → l ≡ [] → slice_cmp nat_cmp (x ∷ (replicate i x ++ A)) l ≡ nat_cmp x (first_of l)
      nothing [] e = sym (nat_greater x 0 pos)
      nothing (d ∷ l) e = absurd (cc)
  more_copies (suc i) (suc j) A B h c = ap (λ o. ordering_then o (slice_cmp nat_cmp (replicate i x ++ A) (replicate j x ++ B))) (nat_itself x) ∙ more_copies i j A B (omega arith) c

  pub same_copies : (i j : ℕ) (A B : List ℕ) → i ≡ j → slice_cmp nat_cmp (replicate i x ++ A) (replicate j x ++ B) ≡ slice_cmp nat_cmp A B
  same_copies i j A B e = subst (λ n. slice_cmp nat_cmp (replicate i x ++ A) (replicate n x ++ B) ≡ slice_cmp nat_cmp A B) e (go i)
    where
      go : (i : ℕ) → slice_cmp nat_cmp (replicate i x ++ A) (replicate i x ++ B) ≡ slice_cmp nat_cmp A B
      go zero = refl
      go (suc i) = ap (λ o. ordering_then o (slice_cmp nat_cmp (replicate i x ++ A) (replicate i x ++ B))) (nat_itself x) ∙ go i

-- where the first numbers differ, or there are none
pub first_decides : (A B : List ℕ) → ((first_of A ≡ first_of B) → ⊥) ⊎ ((A ≡ []) × (B ≡ [])) → ((a : ℕ) → In a A → 0 < a) → ((b : ℕ) → In b B → 0 < b)
    → slice_cmp nat_cmp A B ≡ nat_cmp (first_of A) (first_of B)
first_decides [] [] c p q = refl
first_decides [] (b ∷ B) c p q = sym (nat_less 0 b (q b (inl refl)))
first_decides (a ∷ A) [] c p q = sym (nat_greater a 0 (p a (inl refl)))
first_decides (a ∷ A) (b ∷ B) (inl n) p q = unequal a b n (slice_cmp nat_cmp A B)
  where
    unequal : (a b : ℕ) → (a ≡ b → ⊥) → (o : Ordering) → ordering_then (nat_cmp a b) o ≡ nat_cmp a b
    unequal a b n o = ⊎_elim (λ (h : a < b). ap (λ r. ordering_then r o) (nat_less a b h) ∙ sym (nat_less a b h)) (λ (h : b < a). ap (λ r. ordering_then r o) (nat_greater a b h) ∙ sym (nat_greater a b h)) (differ a b n)
      where
        differ : (a b : ℕ) → (a ≡ b → ⊥) → (a < b) ⊎ (b < a)
        differ a b n = grind arith
first_decides (a ∷ A) (b ∷ B) (inr e) p q = absurd (some a A e.0)
  where
    some : (a : ℕ) (A : List ℕ) → a ∷ A ≡ [] → ⊥
    some a A e = cc

pub In-beyond : (past z : ℕ) (xs : List ℕ) → In z (beyond past xs) → In z xs
In-beyond past z [] i = i
In-beyond past z (x ∷ xs) i = by (nat_lt past x) (λ j. In-beyond past z xs j) i
  where
    by : (b : Bool) → (In z (beyond past xs) → In z xs) → In z (picks past (x ∷ xs) b) → In z (x ∷ xs)
    by true ih i = i
    by false ih i = inr (ih i)

pub next_positive : (x : ℕ) → 0 < x → (if nat_lt 0 x then x else 0) ≡ x
next_positive x h = ⊎_elim (λ c. ap (one x) c.1) (λ c. absurd (omega (arith, c.0, h))) (lt_cases 0 x)
