-- Labels shared between two.
use Rattle.std.proofs.Common.{◌≡◌, ℕ, ◌+◌, ◌<◌, suc, List, [], ◌∷◌, ◌++◌, ◌⊎◌, inl, inr, ⊎_elim, length, refl, sym, ◌∙◌, ap, subst, map, sum_by, arith}
use Rattle.std.proofs.lemmas.List.Sums.{sum_by-cons, sum_by-append}
use Rattle.luo_finite.specs.Listing.{In, NoDouble}
use Rattle.luo_finite.proofs.Membership.{In-append_left, In-append_right, In-append_cases, In-map, In-map_back}
use Rattle.luo_finite.proofs.Doubles.{NoDouble-append, NoDouble-map, NoDouble-append_left, NoDouble-append_right, NoDouble-append_apart}
use Rattle.luo_finite.proofs.SumsBy.{sum_by-map}
use Rattle.luo_model.specs.Structures.{Rising, Holds}
use Rattle.luo_counting.specs.Sharing.{splits, over_splits}
use native.Mathlib.Decide.{ℕ_discrete}

abbrev pub Two : Type 0
Two = List ℕ × List ℕ

abbrev pub put_left : ℕ → Two → Two
put_left x z = (x ∷ z.0, z.1)

abbrev pub put_right : ℕ → Two → Two
put_right x z = (z.0, x ∷ z.1)

-- what a split of x and xs is
pub splits-cases : (x : ℕ) (xs : List ℕ) (z : Two) → In z (splits (x ∷ xs)) → ((y : Two) × In y (splits xs) × (z ≡ put_left x y)) ⊎ ((y : Two) × In y (splits xs) × (z ≡ put_right x y))
splits-cases x xs z h =
    ⊎_elim (λ i. inl (In-map_back (put_left x) z (splits xs) i)) (λ i. inr (In-map_back (put_right x) z (splits xs) i))
    (In-append_cases z (map (put_left x) (splits xs)) (map (put_right x) (splits xs)) h)

-- the parts hold what the whole holds
pub split-left : (L : List ℕ) (z : Two) (n : ℕ) → In z (splits L) → In n z.0 → In n L
split-left [] z n (inl e) i = subst (In n) (ap (λ (w : Two). w.0) e) i
split-left [] z n (inr h) i = absurd h
split-left (x ∷ L) z n h i = ⊎_elim
    (λ r. ⊎_elim (λ e. inl e) (λ j. inr (split-left L r.0 n r.1 j)) (subst (In n) (ap (λ (w : Two). w.0) r.2) i))
    (λ r. inr (split-left L r.0 n r.1 (subst (In n) (ap (λ (w : Two). w.0) r.2) i)))
    (splits-cases x L z h)

pub split-right : (L : List ℕ) (z : Two) (n : ℕ) → In z (splits L) → In n z.1 → In n L
split-right [] z n (inl e) i = subst (In n) (ap (λ (w : Two). w.1) e) i
split-right [] z n (inr h) i = absurd h
split-right (x ∷ L) z n h i = ⊎_elim
    (λ r. inr (split-right L r.0 n r.1 (subst (In n) (ap (λ (w : Two). w.1) r.2) i)))
    (λ r. ⊎_elim (λ e. inl e) (λ j. inr (split-right L r.0 n r.1 j)) (subst (In n) (ap (λ (w : Two). w.1) r.2) i))
    (splits-cases x L z h)

split-either : (L : List ℕ) (z : Two) (n : ℕ) → In z (splits L) → In n L → In n z.0 ⊎ In n z.1
split-either [] z n h i = absurd i
split-either (x ∷ L) z n h (inl e) = ⊎_elim
    (λ r. inl (subst (In n) (ap (λ (w : Two). w.0) (sym r.2)) (inl e)))
    (λ r. inr (subst (In n) (ap (λ (w : Two). w.1) (sym r.2)) (inl e)))
    (splits-cases x L z h)
split-either (x ∷ L) z n h (inr i) = ⊎_elim
    (λ r. ⊎_elim (λ j. inl (subst (In n) (ap (λ (w : Two). w.0) (sym r.2)) (inr j))) (λ j. inr (subst (In n) (ap (λ (w : Two). w.1) (sym r.2)) j)) (split-either L r.0 n r.1 i))
    (λ r. ⊎_elim (λ j. inl (subst (In n) (ap (λ (w : Two). w.0) (sym r.2)) j)) (λ j. inr (subst (In n) (ap (λ (w : Two). w.1) (sym r.2)) (inr j))) (split-either L r.0 n r.1 i))
    (splits-cases x L z h)

-- the parts rise
pub split-rising : (L : List ℕ) (z : Two) → Rising L → In z (splits L) → Rising z.0 × Rising z.1
split-rising [] z r (inl e) = (subst Rising (ap (λ (w : Two). w.0) (sym e)) tt, subst Rising (ap (λ (w : Two). w.1) (sym e)) tt)
split-rising [] z r (inr h) = absurd h
split-rising (x ∷ L) z r h = ⊎_elim
    (λ k. let s = split-rising L k.0 r.1 k.1 in
    (subst Rising (ap (λ (w : Two). w.0) (sym k.2)) ((λ n i. r.0 n (split-left L k.0 n k.1 i)), s.0), subst Rising (ap (λ (w : Two). w.1) (sym k.2)) s.1))
    (λ k. let s = split-rising L k.0 r.1 k.1 in
    (subst Rising (ap (λ (w : Two). w.0) (sym k.2)) s.0, subst Rising (ap (λ (w : Two). w.1) (sym k.2)) ((λ n i. r.0 n (split-right L k.0 n k.1 i)), s.1)))
    (splits-cases x L z h)

-- nothing is in both
split-apart : (L : List ℕ) (z : Two) (n : ℕ) → Rising L → In z (splits L) → In n z.0 → In n z.1 → ⊥
split-apart [] z n r (inl e) i j = subst (In n) (ap (λ (w : Two). w.0) e) i
split-apart [] z n r (inr h) i j = h
split-apart (x ∷ L) z n r h i j = ⊎_elim
    (λ k. let j' : In n (k.0).1 = subst (In n) (ap (λ (w : Two). w.1) k.2) j in
    ⊎_elim (λ (e : n ≡ x). omega (arith, r.0 n (split-right L k.0 n k.1 j'))) (λ i'. split-apart L k.0 n r.1 k.1 i' j') (subst (In n) (ap (λ (w : Two). w.0) k.2) i))
    (λ k. let i' : In n (k.0).0 = subst (In n) (ap (λ (w : Two). w.0) k.2) i in
    ⊎_elim (λ (e : n ≡ x). omega (arith, r.0 n (split-left L k.0 n k.1 i'))) (λ j'. split-apart L k.0 n r.1 k.1 i' j') (subst (In n) (ap (λ (w : Two). w.1) k.2) j))
    (splits-cases x L z h)

pub sum_by-splits : (c : ℕ → ℕ → ℕ) (L : List ℕ) → sum_by (λ (z : Two). c (length z.0) (length z.1)) (splits L) ≡ over_splits c (length L)
sum_by-splits c [] = omega (arith, sum_by-cons (λ (z : Two). c (length z.0) (length z.1)) ([], []) [])
sum_by-splits c (x ∷ L) =
    let w : Two → ℕ = λ z. c (length z.0) (length z.1) in
    sum_by-append w (map (put_left x) (splits L)) (map (put_right x) (splits L))
    ∙ ap (λ n. n + sum_by w (map (put_right x) (splits L))) (sum_by-map w (put_left x) (splits L) ∙ sum_by-splits (λ i j. c (suc i) j) L)
    ∙ ap (λ n. over_splits (λ i j. c (suc i) j) (length L) + n) (sum_by-map w (put_right x) (splits L) ∙ sum_by-splits (λ i j. c i (suc j)) L)

pub split-length : (L : List ℕ) (z : Two) → In z (splits L) → length z.0 + length z.1 ≡ length L
split-length [] z (inl e) = ap (λ (w : Two). length w.0 + length w.1) e
split-length [] z (inr h) = absurd h
split-length (x ∷ L) z h = ⊎_elim
    (λ r. ap (λ (w : Two). length w.0 + length w.1) r.2 ∙ omega (arith, split-length L r.0 r.1))
    (λ r. ap (λ (w : Two). length w.0 + length w.1) r.2 ∙ omega (arith, split-length L r.0 r.1))
    (splits-cases x L z h)

pair_path : (y z : Two) → y.0 ≡ z.0 → y.1 ≡ z.1 → y ≡ z
pair_path y z p q = λ i. (p i, q i)

cons-tail : (x : ℕ) (xs ys : List ℕ) → x ∷ xs ≡ x ∷ ys → xs ≡ ys
cons-tail x xs ys e = cc

put_left-one : (x : ℕ) (y z : Two) → put_left x y ≡ put_left x z → y ≡ z
put_left-one x y z e = pair_path y z (cons-tail x y.0 z.0 (ap (λ (w : Two). w.0) e)) (ap (λ (w : Two). w.1) e)

put_right-one : (x : ℕ) (y z : Two) → put_right x y ≡ put_right x z → y ≡ z
put_right-one x y z e = pair_path y z (ap (λ (w : Two). w.0) e) (cons-tail x y.1 z.1 (ap (λ (w : Two). w.1) e))

pub NoDouble-splits : (L : List ℕ) → Rising L → NoDouble (splits L)
NoDouble-splits [] r = ((λ i. i), tt)
NoDouble-splits (x ∷ L) r =
    NoDouble-append (map (put_left x) (splits L)) (map (put_right x) (splits L))
    (NoDouble-map (put_left x) (splits L) (NoDouble-splits L r.1) (λ y z p q e. put_left-one x y z e))
    (NoDouble-map (put_right x) (splits L) (NoDouble-splits L r.1) (λ y z p q e. put_right-one x y z e))
    (λ z a b.
    let u = In-map_back (put_left x) z (splits L) a in
    let v = In-map_back (put_right x) z (splits L) b in
    let i : In x (v.0).0 = subst (In x) (ap (λ (w : Two). w.0) (sym u.2 ∙ v.2)) (inl refl) in
    let k : x < x = r.0 x (split-left L v.0 x v.1 i) in
    omega arith)

-- a split is known by its left part
pub split-one : (L : List ℕ) (y z : Two) → Rising L → In y (splits L) → In z (splits L) → ((n : ℕ) → In n y.0 → In n z.0) → ((n : ℕ) → In n z.0 → In n y.0) → y ≡ z
split-one [] y z r (inl d) (inl e) f g = d ∙ sym e
split-one [] y z r (inl d) (inr e) f g = absurd e
split-one [] y z r (inr d) e f g = absurd d
split-one (x ∷ L) y z r h k f g = ⊎_elim
    (λ u. ⊎_elim
    (λ v. u.2 ∙ ap (put_left x) (split-one L u.0 v.0 r.1 u.1 v.1 (λ n i. same_left u v n i) (λ n i. same_back u v n i)) ∙ sym v.2)
    (λ v. let i : In x (v.0).0 = subst (In x) (ap (λ (w : Two). w.0) v.2) (f x (subst (In x) (ap (λ (w : Two). w.0) (sym u.2)) (inl refl))) in
    let k : x < x = r.0 x (split-left L v.0 x v.1 i) in absurd (omega arith))
    (splits-cases x L z k))
    (λ u. ⊎_elim
    (λ v. let i : In x (u.0).0 = subst (In x) (ap (λ (w : Two). w.0) u.2) (g x (subst (In x) (ap (λ (w : Two). w.0) (sym v.2)) (inl refl))) in
    let k : x < x = r.0 x (split-left L u.0 x u.1 i) in absurd (omega arith))
    (λ v. u.2 ∙ ap (put_right x) (split-one L u.0 v.0 r.1 u.1 v.1
    (λ n i. subst (In n) (ap (λ (w : Two). w.0) v.2) (f n (subst (In n) (ap (λ (w : Two). w.0) (sym u.2)) i)))
    (λ n i. subst (In n) (ap (λ (w : Two). w.0) u.2) (g n (subst (In n) (ap (λ (w : Two). w.0) (sym v.2)) i)))) ∙ sym v.2)
    (splits-cases x L z k))
    (splits-cases x L y h)
  where
    same_left : (u : (w : Two) × In w (splits L) × (y ≡ put_left x w)) (v : (w : Two) × In w (splits L) × (z ≡ put_left x w)) (n : ℕ) → In n (u.0).0 → In n (v.0).0
    same_left u v n i = ⊎_elim (λ (e : n ≡ x). let k : x < n = r.0 n (split-left L u.0 n u.1 i) in absurd (omega arith)) (λ j. j)
        (subst (In n) (ap (λ (w : Two). w.0) v.2) (f n (subst (In n) (ap (λ (w : Two). w.0) (sym u.2)) (inr i))))

    same_back : (u : (w : Two) × In w (splits L) × (y ≡ put_left x w)) (v : (w : Two) × In w (splits L) × (z ≡ put_left x w)) (n : ℕ) → In n (v.0).0 → In n (u.0).0
    same_back u v n i = ⊎_elim (λ (e : n ≡ x). let k : x < n = r.0 n (split-left L v.0 n v.1 i) in absurd (omega arith)) (λ j. j)
        (subst (In n) (ap (λ (w : Two). w.0) u.2) (g n (subst (In n) (ap (λ (w : Two). w.0) (sym v.2)) (inr i))))

dec_In : (n : ℕ) (l : List ℕ) → Dec (In n l)
dec_In n [] = no (λ h. h)
dec_In n (x ∷ l) = first (ℕ_discrete n x) (dec_In n l)
  where
    first : Dec (n ≡ x) → Dec (In n l) → Dec ((n ≡ x) ⊎ In n l)
    first (yes e) d = yes (inl e)
    first (no e) (yes h) = yes (inr h)
    first (no e) (no h) = no (λ k. ⊎_elim e h k)

-- the split whose left part is what of L is in xs
divide_at : {P : Type 0} → Dec P → ℕ → Two → Two
divide_at (yes h) x z = put_left x z
divide_at (no h) x z = put_right x z

divide : List ℕ → List ℕ → Two
divide [] xs = ([], [])
divide (x ∷ L) xs = divide_at (dec_In x xs) x (divide L xs)

divide_at-In : {P : Type 0} (d : Dec P) (x : ℕ) (L : List ℕ) (z : Two) → In z (splits L) → In (divide_at d x z) (splits (x ∷ L))
unfolding divide_at
divide_at-In (yes h) x L z i = In-append_left (put_left x z) (map (put_left x) (splits L)) (map (put_right x) (splits L)) (In-map (put_left x) z (splits L) i)
divide_at-In (no h) x L z i = In-append_right (put_right x z) (map (put_left x) (splits L)) (map (put_right x) (splits L)) (In-map (put_right x) z (splits L) i)

divide-In : (L xs : List ℕ) → In (divide L xs) (splits L)
unfolding divide
divide-In [] xs = inl refl
divide-In (x ∷ L) xs = divide_at-In (dec_In x xs) x L (divide L xs) (divide-In L xs)

-- what is in the left part is in xs, and what is in the right part is not
divide_at-left : (x n : ℕ) (xs : List ℕ) (d : Dec (In x xs)) (z : Two) → (In n z.0 → In n xs) → In n (divide_at d x z).0 → In n xs
unfolding divide_at
divide_at-left x n xs (yes h) z f (inl e) = subst (λ k. In k xs) (sym e) h
divide_at-left x n xs (yes h) z f (inr i) = f i
divide_at-left x n xs (no h) z f i = f i

divide-left : (L xs : List ℕ) (n : ℕ) → In n (divide L xs).0 → In n xs
unfolding divide
divide-left [] xs n i = absurd i
divide-left (x ∷ L) xs n i = divide_at-left x n xs (dec_In x xs) (divide L xs) (λ j. divide-left L xs n j) i

divide_at-right : (x n : ℕ) (xs : List ℕ) (d : Dec (In x xs)) (z : Two) → (In n z.1 → In n xs → ⊥) → In n (divide_at d x z).1 → In n xs → ⊥
unfolding divide_at
divide_at-right x n xs (yes h) z f i k = f i k
divide_at-right x n xs (no h) z f (inl e) k = h (subst (λ m. In m xs) e k)
divide_at-right x n xs (no h) z f (inr i) k = f i k

divide-right : (L xs : List ℕ) (n : ℕ) → In n (divide L xs).1 → In n xs → ⊥
unfolding divide
divide-right [] xs n i k = absurd i
divide-right (x ∷ L) xs n i k = divide_at-right x n xs (dec_In x xs) (divide L xs) (λ j m. divide-right L xs n j m) i k

-- labels in two lists are the labels of a split
pub Holds-split : (L xs ys : List ℕ) → Holds L (xs ++ ys) → (z : Two) × In z (splits L) × (Holds z.0 xs × Holds z.1 ys)
Holds-split L xs ys h =
    let z : Two = divide L xs in
    let i : In z (splits L) = divide-In L xs in (
      z,
      i,
      (
        (NoDouble-append_left xs ys h.0, (λ n k. ⊎_elim (λ j. j) (λ j. absurd (divide-right L xs n j k)) (split-either L z n i (h.1 n (In-append_left n xs ys k)))), λ n k. divide-left L xs n k),
        (
          NoDouble-append_right xs ys h.0,
          (λ n k. ⊎_elim (λ j. absurd (NoDouble-append_apart xs ys h.0 n (divide-left L xs n j) k)) (λ j. j) (split-either L z n i (h.1 n (In-append_right n xs ys k)))),
          λ n k. ⊎_elim (λ j. absurd (divide-right L xs n k j)) (λ j. j) (In-append_cases n xs ys (h.2 n (split-right L z n i k))),
        ),
      ),
    )

pub split-Holds : (L xs ys : List ℕ) (z : Two) → Rising L → In z (splits L) → Holds z.0 xs → Holds z.1 ys → Holds L (xs ++ ys)
split-Holds L xs ys z r i a b = (
  NoDouble-append xs ys a.0 b.0 (λ n j k. split-apart L z n r i (a.1 n j) (b.1 n k)),
  (λ n j. ⊎_elim (λ k. split-left L z n i (a.1 n k)) (λ k. split-right L z n i (b.1 n k)) (In-append_cases n xs ys j)),
  λ n j. ⊎_elim (λ k. In-append_left n xs ys (a.2 n k)) (λ k. In-append_right n xs ys (b.2 n k)) (split-either L z n i j),
)
