-- Listings made of listings.
use Rattle.std.proofs.Common.{◌≡◌, ℕ, ◌+◌, List, [], ◌∷◌, ◌++◌, ◌⊎◌, inl, inr, ⊎_elim, length, refl, sym, subst, map, sum_by, arith}
use Rattle.std.proofs.lemmas.List.Sums.{sum_by-cons, sum_by-append}
use Rattle.luo_finite.specs.Listing.{In, NoDouble, Lists}
use Rattle.luo_finite.proofs.Membership.{In-append_left, In-append_right, In-append_cases, In-map, In-map_back}
use Rattle.luo_finite.proofs.Doubles.{NoDouble-append, NoDouble-map, same_sum, same_length}

-- two listings of one predicate have equal sums and equal lengths
pub Lists-same_sum : {A : Type 0} (P : A → Type 0) (w : A → ℕ) (l m : List A) → Lists P l → Lists P m → sum_by w l ≡ sum_by w m
Lists-same_sum P w l m h k = same_sum w l m h.single k.single (λ x i. k.complete x (h.sound x i)) (λ x i. h.complete x (k.sound x i))

pub Lists-same_length : {A : Type 0} (P : A → Type 0) (l m : List A) → Lists P l → Lists P m → length l ≡ length m
Lists-same_length P l m h k = same_length l m h.single k.single (λ x i. k.complete x (h.sound x i)) (λ x i. h.complete x (k.sound x i))

-- what holds of the same things has the same listings
pub Lists-iff : {A : Type 0} (P Q : A → Type 0) (l : List A) → ((x : A) → P x → Q x) → ((x : A) → Q x → P x) → Lists P l → Lists Q l
Lists-iff P Q l there back h = record { single = h.single; sound = λ x i. there x (h.sound x i); complete = λ x q. h.complete x (back x q) }

-- a list without doubles lists its own elements
pub Lists-itself : {A : Type 0} (l : List A) → NoDouble l → Lists (λ x. In x l) l
Lists-itself l d = record { single = d; sound = λ x i. i; complete = λ x i. i }

-- nothing, and one thing
pub Lists-none : {A : Type 0} (P : A → Type 0) → ((x : A) → P x → ⊥) → Lists P []
Lists-none P h = record { single = tt; sound = λ x i. absurd i; complete = λ x p. h x p }

pub Lists-one : {A : Type 0} (P : A → Type 0) (a : A) → P a → ((x : A) → P x → x ≡ a) → Lists P (a ∷ [])
Lists-one P a p h = record {
  single = (λ i. i, tt);
  sound = λ x i. ⊎_elim (λ e. subst P (sym e) p) (λ z. absurd z) i;
  complete = λ x q. inl (h x q);
}

-- what holds of one or of the other, and of nothing both do
pub Lists-either : {A : Type 0} (P Q : A → Type 0) (l m : List A) → ((x : A) → P x → Q x → ⊥) → Lists P l → Lists Q m → Lists (λ x. P x ⊎ Q x) (l ++ m)
Lists-either P Q l m apart h k = record {
  single = NoDouble-append l m h.single k.single (λ x i j. apart x (h.sound x i) (k.sound x j));
  sound = λ x i. ⊎_elim (λ a. inl (h.sound x a)) (λ b. inr (k.sound x b)) (In-append_cases x l m i);
  complete = λ x r. ⊎_elim (λ a. In-append_left x l m (h.complete x a)) (λ b. In-append_right x l m (k.complete x b)) r;
}

-- an image under a function that is one to one on what is listed
pub Lists-map : {A B : Type 0} (P : A → Type 0) (f : A → B) (l : List A) → ((x y : A) → P x → P y → f x ≡ f y → x ≡ y) → Lists P l → Lists (λ y. (x : A) × P x × (y ≡ f x)) (map f l)
Lists-map P f l one h = record {
  single = NoDouble-map f l h.single (λ x y p q. one x y (h.sound x p) (h.sound y q));
  sound = λ y m. let r = In-map_back f y l m in (r.0, h.sound r.0 r.1, r.2);
  complete = λ y r. subst (λ z. In z (map f l)) (sym r.2) (In-map f r.0 l (h.complete r.0 r.1));
}

-- the lists of the keys, one behind the other
unfoldable pub joined : {I A : Type 0} (ks : List I) → ((i : I) → In i ks → List A) → List A
joined [] f = []
joined (k ∷ ks) f = f k (inl refl) ++ joined ks (λ i h. f i (inr h))

In-joined : {I A : Type 0} (Q : I → A → Type 0) (ks : List I) (f : (i : I) → In i ks → List A) → ((i : I) (h : In i ks) → Lists (Q i) (f i h)) → (x : A) → In x (joined ks f) → (i : I) × In i ks × Q i x
unfolding joined
In-joined Q [] f l x h = absurd h
In-joined Q (k ∷ ks) f l x h =
    ⊎_elim (λ a. (k, inl refl, (l k (inl refl)).sound x a))
    (λ b. let r = In-joined Q ks (λ i j. f i (inr j)) (λ i j. l i (inr j)) x b in (r.0, inr r.1, r.2))
    (In-append_cases x (f k (inl refl)) (joined ks (λ i j. f i (inr j))) h)

joined_In : {I A : Type 0} (Q : I → A → Type 0) (ks : List I) (f : (i : I) → In i ks → List A) → ((i : I) (h : In i ks) → Lists (Q i) (f i h)) → (x : A) (i : I) → In i ks → Q i x → In x (joined ks f)
unfolding joined
joined_In Q [] f l x i h q = absurd h
joined_In Q (k ∷ ks) f l x i (inl e) q = In-append_left x (f k (inl refl)) (joined ks (λ i j. f i (inr j))) ((l k (inl refl)).complete x (subst (λ j. Q j x) e q))
joined_In Q (k ∷ ks) f l x i (inr h) q = In-append_right x (f k (inl refl)) (joined ks (λ i j. f i (inr j))) (joined_In Q ks (λ i j. f i (inr j)) (λ i j. l i (inr j)) x i h q)

NoDouble-joined : {I A : Type 0} (Q : I → A → Type 0) (ks : List I) (f : (i : I) → In i ks → List A) → NoDouble ks → ((i : I) (h : In i ks) → Lists (Q i) (f i h)) → ((i j : I) (x : A) → Q i x → Q j x → i ≡ j) → NoDouble (joined ks f)
unfolding joined
NoDouble-joined Q [] f d l one = tt
NoDouble-joined Q (k ∷ ks) f d l one =
    NoDouble-append (f k (inl refl)) (joined ks (λ i j. f i (inr j))) (l k (inl refl)).single (NoDouble-joined Q ks (λ i j. f i (inr j)) d.1 (λ i j. l i (inr j)) one)
    (λ x a b. let r = In-joined Q ks (λ i j. f i (inr j)) (λ i j. l i (inr j)) x b in d.0 (subst (λ z. In z ks) (one r.0 k x r.2 ((l k (inl refl)).sound x a)) r.1))

-- where each element has one key among ks, the lists of the keys together list all
pub Lists-joined : {I A : Type 0} (Q : I → A → Type 0) (ks : List I) (f : (i : I) → In i ks → List A) → NoDouble ks → ((i : I) (h : In i ks) → Lists (Q i) (f i h)) → ((i j : I) (x : A) → Q i x → Q j x → i ≡ j) → Lists (λ x. (i : I) × In i ks × Q i x) (joined ks f)
Lists-joined Q ks f d l one = record {
  single = NoDouble-joined Q ks f d l one;
  sound = In-joined Q ks f l;
  complete = λ x r. joined_In Q ks f l x r.0 r.1 r.2;
}

pub sum_by-joined : {I A : Type 0} (w : A → ℕ) (t : I → ℕ) (ks : List I) (f : (i : I) → In i ks → List A) → ((i : I) (h : In i ks) → sum_by w (f i h) ≡ t i) → sum_by w (joined ks f) ≡ sum_by t ks
unfolding joined
sum_by-joined w t [] f h = refl
sum_by-joined w t (k ∷ ks) f h =
    let a : sum_by w (f k (inl refl)) ≡ t k = h k (inl refl) in
    let b : sum_by w (joined ks (λ i j. f i (inr j))) ≡ sum_by t ks = sum_by-joined w t ks (λ i j. f i (inr j)) (λ i j. h i (inr j)) in
    let p : sum_by t (k ∷ ks) ≡ t k + sum_by t ks = sum_by-cons t k ks in
    let q : sum_by w (f k (inl refl) ++ joined ks (λ i j. f i (inr j))) ≡ sum_by w (f k (inl refl)) + sum_by w (joined ks (λ i j. f i (inr j))) = sum_by-append w (f k (inl refl)) (joined ks (λ i j. f i (inr j))) in
    omega arith
