-- Totals as sums over the pairs of an element and its number.
use Rattle.std.proofs.Common.{◌≡◌, ℕ, ◌+◌, List, [], ◌∷◌, inl, inr, refl, sym, ◌∙◌, ap, subst, map, sum_by, sum}
use Rattle.std.specs.List.{AllZip}
use Rattle.std.proofs.lemmas.List.Sums.{sum_by-cons}
use Rattle.luo_finite.specs.Listing.{In, NoDouble, Lists, Sums, Totals}
use Rattle.luo_finite.proofs.Membership.{In-map, In-map_back}
use Rattle.luo_finite.proofs.Sums.{Sums-at}
use Rattle.luo_finite.proofs.Totals.{IsFunctionalOn, Paired}

abbrev pub pair_up : {A : Type 0} → List A → List ℕ → List (A × ℕ)
pair_up [] qs = []
pair_up (x ∷ l) [] = []
pair_up (x ∷ l) (q ∷ qs) = (x, q) ∷ pair_up l qs

In-pair_up : {A : Type 0} (R : A → ℕ → Type 0) (l : List A) (qs : List ℕ) → AllZip R l qs → (v : A × ℕ) → In v (pair_up l qs) → In v.0 l × R v.0 v.1
In-pair_up R [] qs z v i = absurd i
In-pair_up R (x ∷ l) [] z v i = absurd i
In-pair_up {A} R (x ∷ l) (q ∷ qs) z v (inl e) = (inl (ap (λ (w : A × ℕ). w.0) e), subst (λ (w : A × ℕ). R w.0 w.1) (sym e) z.0)
In-pair_up R (x ∷ l) (q ∷ qs) z v (inr i) = let r = In-pair_up R l qs z.1 v i in (inr r.0, r.1)

pair_up-In : {A : Type 0} (R : A → ℕ → Type 0) (l : List A) (qs : List ℕ) → ((x : A) (a b : ℕ) → In x l → R x a → R x b → a ≡ b) → AllZip R l qs → (v : A × ℕ) → In v.0 l → R v.0 v.1 → In v (pair_up l qs)
pair_up-In R [] qs one z v i r = absurd i
pair_up-In R (x ∷ l) [] one z v i r = absurd z
pair_up-In {A} R (x ∷ l) (q ∷ qs) one z v (inl e) r =
    let p : v.1 ≡ q = one x v.1 q (inl refl) (subst (λ y. R y v.1) e r) z.0 in
    inl (λ i. (e i, p i))
pair_up-In R (x ∷ l) (q ∷ qs) one z v (inr i) r = inr (pair_up-In R l qs (λ y a b j. one y a b (inr j)) z.1 v i r)

NoDouble-pair_up : {A : Type 0} (R : A → ℕ → Type 0) (l : List A) (qs : List ℕ) → AllZip R l qs → NoDouble l → NoDouble (pair_up l qs)
NoDouble-pair_up R [] qs z d = tt
NoDouble-pair_up R (x ∷ l) [] z d = absurd z
NoDouble-pair_up R (x ∷ l) (q ∷ qs) z d = ((λ i. d.0 (In-pair_up R l qs z.1 (x, q) i).0), NoDouble-pair_up R l qs z.1 d.1)

sum-pair_up : {A : Type 0} (R : A → ℕ → Type 0) (l : List A) (qs : List ℕ) → AllZip R l qs → sum_by (λ (v : A × ℕ). v.1) (pair_up l qs) ≡ sum qs
sum-pair_up R [] [] z = refl
sum-pair_up R [] (q ∷ qs) z = absurd z
sum-pair_up R (x ∷ l) [] z = absurd z
sum-pair_up {A} R (x ∷ l) (q ∷ qs) z = sum_by-cons (λ (v : A × ℕ). v.1) (x, q) (pair_up l qs) ∙ ap (λ n. q + n) (sum-pair_up R l qs z.1) ∙ sym (sum_by-cons (λ q. q) q qs)

-- a listing of P and the numbers of its elements make a listing of the pairs
pub Lists-pair_up : {A : Type 0} (P : A → Type 0) (R : A → ℕ → Type 0) (l : List A) (qs : List ℕ) → IsFunctionalOn P R → Lists P l → AllZip R l qs → Lists (Paired P R) (pair_up l qs)
Lists-pair_up P R l qs one h z = record {
  single = NoDouble-pair_up R l qs z h.single;
  sound = λ v i. let r = In-pair_up R l qs z v i in (h.sound v.0 r.0, r.1);
  complete = λ v r. pair_up-In R l qs (λ x a b i. one x a b (h.sound x i)) z v (h.complete v.0 r.0) r.1;
}

-- the numbers of the elements of a list, where each has one
numbers_of : {A : Type 0} (R : A → ℕ → Type 0) (l : List A) → ((x : A) → In x l → (q : ℕ) × R x q) → (qs : List ℕ) × AllZip R l qs
numbers_of R [] h = ([], tt)
numbers_of R (x ∷ l) h =
    let q = h x (inl refl) in
    let r = numbers_of R l (λ z i. h z (inr i)) in
    (q.0 ∷ r.0, (q.1, r.1))

-- the first parts of a listing of the pairs are a listing of P
NoDouble-firsts : {A : Type 0} (l : List (A × ℕ)) → NoDouble l → ((u v : A × ℕ) → In u l → In v l → u.0 ≡ v.0 → u ≡ v) → NoDouble (map (λ (v : A × ℕ). v.0) l)
NoDouble-firsts [] d one = tt
NoDouble-firsts {A} (u ∷ l) d one = (
  (λ i. let r = In-map_back (λ (v : A × ℕ). v.0) u.0 l i in d.0 (subst (λ z. In z l) (sym (one u r.0 (inl refl) (inr r.1) r.2)) r.1)),
  NoDouble-firsts l d.1 (λ a b i j. one a b (inr i) (inr j)),
)

pub Lists-firsts : {A : Type 0} (P : A → Type 0) (R : A → ℕ → Type 0) (l : List (A × ℕ)) → IsFunctionalOn P R → ((x : A) → P x → (q : ℕ) × R x q) → Lists (Paired P R) l → Lists P (map (λ (v : A × ℕ). v.0) l)
Lists-firsts {A} P R l one some h = record {
  single = NoDouble-firsts l h.single (λ u v i j e.
      let a = h.sound u i in
      let b = h.sound v j in
      let q : u.1 ≡ v.1 = one u.0 u.1 v.1 a.0 a.1 (subst (λ y. R y v.1) (sym e) b.1) in
      λ k. (e k, q k));
  sound = λ x i. let r = In-map_back (λ (v : A × ℕ). v.0) x l i in subst P (sym r.2) (h.sound r.0 r.1).0;
  complete = λ x p. let q = some x p in In-map (λ (v : A × ℕ). v.0) (x, q.0) l (h.complete (x, q.0) (p, q.1));
}

-- where R gives each x of P one number, the sum over the pairs is the total
pub Totals-from : {A : Type 0} (P : A → Type 0) (R : A → ℕ → Type 0) (t : ℕ) → IsFunctionalOn P R → ((x : A) → P x → (q : ℕ) × R x q) → Sums (Paired P R) (λ v. v.1) t → Totals P R t
Totals-from {A} P R t one some s = record {
  exists = (map (λ (v : A × ℕ). v.0) s.exists.0, Lists-firsts P R s.exists.0 one some s.exists.1);
  each = λ l h.
      let r = numbers_of R l (λ x i. some x (h.sound x i)) in
      (r.0, r.1, sym (sum-pair_up R l r.0 r.1) ∙ s.each (pair_up l r.0) (Lists-pair_up P R l r.0 one h r.1));
}

-- and back
pub Totals-to : {A : Type 0} (P : A → Type 0) (R : A → ℕ → Type 0) (t : ℕ) → IsFunctionalOn P R → Totals P R t → Sums (Paired P R) (λ v. v.1) t
Totals-to P R t one a =
    let l = a.exists.0 in
    let q = a.each l a.exists.1 in
    Sums-at (Paired P R) (λ v. v.1) (pair_up l q.0) t (Lists-pair_up P R l q.0 one a.exists.1 q.1) (sum-pair_up R l q.0 q.1 ∙ q.2)
