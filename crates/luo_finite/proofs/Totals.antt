-- Totals: sums of the numbers that a relation gives.
use Rattle.std.proofs.Common.{◌≡◌, ℕ, List, [], ◌∷◌, inl, inr, refl, sym, ◌∙◌, ap, map, sum}
use Rattle.std.specs.List.{AllZip}
use Rattle.std.proofs.lemmas.List.Sums.{sum-map}
use Rattle.luo_finite.specs.Listing.{In, Sums, Totals}
use Rattle.luo_finite.proofs.Listings.{Lists-iff}

-- on P, R gives at most one number to each
abbrev pub IsFunctionalOn : {A : Type 0} → (A → Type 0) → (A → ℕ → Type 0) → Type 0
IsFunctionalOn {A} P R = (x : A) (a b : ℕ) → P x → R x a → R x b → a ≡ b

-- the elements of P with their numbers
abbrev pub Paired : {A : Type 0} → (A → Type 0) → (A → ℕ → Type 0) → A × ℕ → Type 0
Paired P R v = P v.0 × R v.0 v.1

-- two rows of numbers for the elements of one list are equal
pub AllZip-unique : {A : Type 0} (R : A → ℕ → Type 0) (l : List A) (ps qs : List ℕ) → ((x : A) (a b : ℕ) → In x l → R x a → R x b → a ≡ b) → AllZip R l ps → AllZip R l qs → ps ≡ qs
AllZip-unique R [] [] [] one y z = refl
AllZip-unique R [] [] (q ∷ qs) one y z = absurd z
AllZip-unique R [] (p ∷ ps) qs one y z = absurd y
AllZip-unique R (x ∷ l) [] qs one y z = absurd y
AllZip-unique R (x ∷ l) (p ∷ ps) [] one y z = absurd z
AllZip-unique R (x ∷ l) (p ∷ ps) (q ∷ qs) one y z =
    let e : p ≡ q = one x p q (inl refl) y.0 z.0 in
    let d : ps ≡ qs = AllZip-unique R l ps qs (λ v a b i. one v a b (inr i)) y.1 z.1 in
    λ i. e i ∷ d i

-- where R gives one number to each, there is one total
pub Totals-unique : {A : Type 0} (P : A → Type 0) (R : A → ℕ → Type 0) (s t : ℕ) → IsFunctionalOn P R → Totals P R s → Totals P R t → s ≡ t
Totals-unique P R s t one a b =
    let l = a.exists.0 in
    let h = a.exists.1 in
    let p = a.each l h in
    let q = b.each l h in
    sym p.2 ∙ ap sum (AllZip-unique R l p.0 q.0 (λ x m n i. one x m n (h.sound x i)) p.1 q.1) ∙ q.2

-- the numbers w are in R to the elements of a list
pub AllZip-weights : {A : Type 0} (R : A → ℕ → Type 0) (w : A → ℕ) (l : List A) → ((x : A) → In x l → R x (w x)) → AllZip R l (map w l)
AllZip-weights R w [] h = tt
AllZip-weights R w (x ∷ l) h = (h x (inl refl), AllZip-weights R w l (λ z i. h z (inr i)))

-- where R gives each x of P the number w x, the sum of w is the total
pub Totals-of : {A : Type 0} (P : A → Type 0) (R : A → ℕ → Type 0) (w : A → ℕ) (t : ℕ) → ((x : A) → P x → R x (w x)) → Sums P w t → Totals P R t
Totals-of P R w t h s = record {
  exists = s.exists;
  each = λ l k. (map w l, AllZip-weights R w l (λ x i. h x (k.sound x i)), sum-map w l ∙ s.each l k);
}

-- and back, where R gives no other
pub Totals-back : {A : Type 0} (P : A → Type 0) (R : A → ℕ → Type 0) (w : A → ℕ) (t : ℕ) → IsFunctionalOn P R → ((x : A) → P x → R x (w x)) → Totals P R t → Sums P w t
Totals-back P R w t one h a = record {
  exists = a.exists;
  each = λ l k.
      let q = a.each l k in
      let e = AllZip-unique R l (map w l) q.0 (λ x m n i. one x m n (k.sound x i)) (AllZip-weights R w l (λ x i. h x (k.sound x i))) q.1 in
      sym (sum-map w l) ∙ ap sum e ∙ q.2;
}

-- the total of what holds of the same things, and gives them the same numbers
pub Totals-iff : {A : Type 0} (P Q : A → Type 0) (R : A → ℕ → Type 0) (t : ℕ) → ((x : A) → P x → Q x) → ((x : A) → Q x → P x) → Totals P R t → Totals Q R t
Totals-iff P Q R t there back a = record {
  exists = (a.exists.0, Lists-iff P Q a.exists.0 there back a.exists.1);
  each = λ l h. a.each l (Lists-iff Q P l back there h);
}

AllZip-into : {A : Type 0} (R S : A → ℕ → Type 0) (l : List A) (qs : List ℕ) → ((x : A) (q : ℕ) → In x l → R x q → S x q) → AllZip R l qs → AllZip S l qs
AllZip-into R S [] [] h z = tt
AllZip-into R S [] (q ∷ qs) h z = absurd z
AllZip-into R S (x ∷ l) [] h z = absurd z
AllZip-into R S (x ∷ l) (q ∷ qs) h z = (h x q (inl refl) z.0, AllZip-into R S l qs (λ v p i. h v p (inr i)) z.1)

pub Totals-into : {A : Type 0} (P : A → Type 0) (R S : A → ℕ → Type 0) (t : ℕ) → ((x : A) (q : ℕ) → P x → R x q → S x q) → Totals P R t → Totals P S t
Totals-into P R S t h a = record {
  exists = a.exists;
  each = λ l k. let q = a.each l k in (q.0, AllZip-into R S l q.0 (λ x p i. h x p (k.sound x i)) q.1, q.2);
}
