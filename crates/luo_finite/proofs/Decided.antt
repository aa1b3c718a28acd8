-- What is decided; and the listing of a decided predicate, from a list that holds all of it.
use Rattle.std.proofs.Common.{◌≡◌, ℕ, ◌≤◌, ◌<◌, List, [], ◌∷◌, ◌++◌, ◌⊎◌, inl, inr, ⊎_elim, refl, sym, subst, sum_by, arith}
use Rattle.luo_finite.specs.Listing.{In, NoDouble, Pairwise, Lists, Totals}
use Rattle.luo_finite.proofs.Membership.{In-append_left, In-append_right}
use Rattle.luo_finite.proofs.Sums.{Sums-by}
use Rattle.luo_finite.proofs.Totals.{Totals-of}

abbrev pub Decided : Type 0 → Type 0
Decided A = A ⊎ (A → ⊥)

pub In_decided : {A : Type 0} → ((x y : A) → Decided (x ≡ y)) → (x : A) (xs : List A) → Decided (In x xs)
In_decided same x [] = inr (λ h. h)
In_decided same x (y ∷ ys) = ⊎_elim (λ e. inl (inl e)) (λ d. ⊎_elim (λ i. inl (inr i)) (λ n. inr (λ h. ⊎_elim d n h)) (In_decided same x ys)) (same x y)

pub both_decided : {A B : Type 0} → Decided A → Decided B → Decided (A × B)
both_decided a b = ⊎_elim (λ x. ⊎_elim (λ y. inl (x, y)) (λ n. inr (λ h. n h.1)) b) (λ n. inr (λ h. n h.0)) a

pub three_decided : {A B C : Type 0} → Decided A → Decided B → Decided C → Decided (A × B × C)
three_decided a b c = ⊎_elim (λ x. ⊎_elim (λ y. ⊎_elim (λ z. inl (x, y, z)) (λ n. inr (λ h. n h.2)) c) (λ n. inr (λ h. n h.1)) b) (λ n. inr (λ h. n h.0)) a

pub same_number : (a b : ℕ) → Decided (a ≡ b)
same_number a b = grind arith

pub le_decided : (a b : ℕ) → Decided (a ≤ b)
le_decided a b = grind arith

pub lt_decided : (a b : ℕ) → Decided (a < b)
lt_decided a b = grind arith

pub each_decided : {A : Type 0} (P : A → Type 0) → ((x : A) → Decided (P x)) → (xs : List A) → Decided ((x : A) → In x xs → P x)
each_decided P d [] = inl (λ x i. absurd i)
each_decided P d (y ∷ ys) = ⊎_elim
    (λ a. ⊎_elim (λ b. inl (λ x i. ⊎_elim (λ e. subst P (sym e) a) (λ j. b x j) i)) (λ n. inr (λ h. n (λ x i. h x (inr i)))) (each_decided P d ys))
    (λ n. inr (λ h. n (h y (inl refl)))) (d y)

pub pairwise_decided : {A : Type 0} (R : A → A → Type 0) → ((x y : A) → Decided (R x y)) → (xs : List A) → Decided (Pairwise R xs)
pairwise_decided R d [] = inl tt
pairwise_decided R d (x ∷ xs) = both_decided (each_decided (R x) (d x) xs) (pairwise_decided R d xs)

pub single_decided : (xs : List ℕ) → Decided (NoDouble xs)
single_decided [] = inl tt
single_decided (x ∷ xs) = both_decided (⊎_elim (λ i. inr (λ h. h i)) (λ n. inl n) (In_decided same_number x xs)) (single_decided xs)

-- the elements of a list that P holds of, each once
sifted : {A : Type 0} (P : A → Type 0) → ((x y : A) → Decided (x ≡ y)) → ((x : A) → Decided (P x)) → (cover : List A)
    → (l : List A) × NoDouble l × ((x : A) → In x l → P x) × ((x : A) → In x cover → P x → In x l)
sifted P same dec [] = ([], tt, λ x i. absurd i, λ x i q. absurd i)
sifted {A} P same dec (c ∷ cs) =
    let r = sifted P same dec cs in
    let l : List A = r.0 in
    let d : NoDouble l = r.1 in
    let s : (x : A) → In x l → P x = r.2 in
    let k : (x : A) → In x cs → P x → In x l = r.3 in
    ⊎_elim
    (λ (h : P c). ⊎_elim
    (λ (i : In c l). (l, d, s, λ x j q. ⊎_elim (λ e. subst (λ z. In z l) (sym e) i) (λ m. k x m q) j))
    (λ (not : In c l → ⊥). (c ∷ l, (not, d), λ x j. ⊎_elim (λ e. subst P (sym e) h) (λ m. s x m) j, λ x j q. ⊎_elim (λ e. inl e) (λ m. inr (k x m q)) j))
    (In_decided same c l))
    (λ (not : P c → ⊥). (l, d, s, λ x j q. ⊎_elim (λ e. absurd (not (subst P e q))) (λ m. k x m q) j))
    (dec c)

pub Listed-by : {A : Type 0} (P : A → Type 0) → ((x y : A) → Decided (x ≡ y)) → ((x : A) → Decided (P x)) → (cover : List A) → ((x : A) → P x → In x cover)
    → (l : List A) × Lists P l
Listed-by P same dec cover h =
    let r = sifted P same dec cover in
    (r.0, record { single = r.1; sound = r.2; complete = λ x q. r.3 x (h x q) q })

-- the lists that f makes of the elements, one behind the other
unfoldable pub spread : {A B : Type 0} → (A → List B) → List A → List B
spread f [] = []
spread f (x ∷ xs) = f x ++ spread f xs

pub In-spread : {A B : Type 0} (f : A → List B) (x : A) (xs : List A) (y : B) → In x xs → In y (f x) → In y (spread f xs)
unfolding spread
In-spread f x [] y h i = absurd h
In-spread f x (z ∷ xs) y (inl e) i = In-append_left y (f z) (spread f xs) (subst (λ w. In y (f w)) e i)
In-spread f x (z ∷ xs) y (inr h) i = In-append_right y (f z) (spread f xs) (In-spread f x xs y h i)

-- what a decided fact gives, and 0 where it doesn't hold
abbrev pub given : {A : Type 0} → Decided A → (A → ℕ) → ℕ
given (inl a) f = f a
given (inr n) f = 0

given_right : {A : Type 0} (d : Decided A) (f : A → ℕ) (R : ℕ → Type 0) → ((a : A) → R (f a)) → A → R (given d f)
given_right (inl b) f R h a = h b
given_right (inr n) f R h a = absurd (n a)

-- where each element of a listing has a number, there is a total
pub Totals-by : {A : Type 0} (P : A → Type 0) (R : A → ℕ → Type 0) → ((x : A) → Decided (P x)) → ((x : A) → P x → (q : ℕ) × R x q) → (l : List A) → Lists P l → (t : ℕ) × Totals P R t
Totals-by {A} P R dec number l h =
    let w : A → ℕ = λ x. given (dec x) (λ a. (number x a).0) in
    (sum_by w l, Totals-of P R w (sum_by w l) (λ x a. given_right (dec x) (λ b. (number x b).0) (R x) (λ b. (number x b).1) a) (Sums-by P w l h))
