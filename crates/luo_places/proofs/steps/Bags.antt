-- The next of multisets and powersets: the rest below its bound goes on, or the first does.
use Rattle.std.proofs.Common.{◌≡◌, ℕ, ◌+◌, ◌-◌, ◌≤◌, ◌<◌, List, [], ◌∷◌, inl, inr, ⊎_elim, length, refl, sym, subst, arith, Option}
use Rattle.luo_finite.specs.Listing.{In, Pairwise}
use Rattle.luo_model.specs.Member.{IsWithin}
use Rattle.luo_finite.specs.Each.{Each, total}
use Rattle.luo_finite.proofs.Falling.{IsOrder}
use Rattle.luo_counting.proofs.Choices.{NotAbove, Below}
use Rattle.luo_counting.proofs.Led.{Each-In}
use Rattle.luo_counting.proofs.Planes.{Each-into}
use Rattle.luo_finite.specs.Places.{Lex}
use Rattle.luo_places.specs.steps.Next.{IsNext, IsFirst, IsLast}
use Rattle.luo_places.specs.Numbers.{ListBefore, one_less, AllowsOne}
use Rattle.luo_places.proofs.steps.Next.{Next-iff, First-iff, Last-iff, Next-map, First-map, Last-map, Next-second, Next-first, First-two, Last-two}
use Rattle.luo_places.proofs.ListPlaces.{within_rest, rest_within}

module _ {A : Type 0} (size : A → ℕ) (Before : A → A → Type 0) (order : IsOrder Before) (R : A → A → Type 0) where
  -- items of N, each so related to all behind it
  abbrev pub Bag : (A → Type 0) → ℕ → Option ℕ → ℕ → List A → Type 0
  Bag N low high n xs = IsWithin low high (length xs) × Each N xs × Pairwise R xs × (total size xs ≡ n)

  -- items of N that may stand behind x
  abbrev pub Behind : (A → Type 0) → A → A → Type 0
  Behind N x y = N y × R x y

  module _ (N : A → Type 0) (low : ℕ) (high : Option ℕ) (one : AllowsOne high) (n : ℕ) (positive : 1 ≤ n) where
    abbrev Whole : List A → Type 0
    Whole xs = Bag N low high n xs

    abbrev pub RestOf : A → ℕ → List A → Type 0
    RestOf x m xs = Bag (Behind N x) (low - 1) (one_less high) m xs

    abbrev Joint : A × List A → Type 0
    Joint v = (N v.0 × (size v.0 + total size v.1 ≡ n)) × (IsWithin (low - 1) (one_less high) (length v.1) × Each (Behind N v.0) v.1 × Pairwise R v.1)

    -- x has something that may stand behind it
    abbrev pub HasRest : A → Type 0
    HasRest x = N x × ((m : ℕ) × (xs : List A) × (size x + m ≡ n) × RestOf x m xs)

    each_behind : (x : A) (xs : List A) → ((y : A) → In y xs → R x y) → Each N xs → Each (Behind N x) xs
    each_behind x [] h e = tt
    each_behind x (y ∷ ys) h e = ((e.0, h y (inl refl)), each_behind x ys (λ z i. h z (inr i)) e.1)

    to_whole : (xs : List A) → (v : A × List A) × Joint v × (xs ≡ v.0 ∷ v.1) → Whole xs
    to_whole xs r =
        let v = r.0 in
        let m = r.1 in
        subst Whole (sym r.2)
        (rest_within low high (length v.1) one m.1.0, (m.0.0, Each-into (Behind N v.0) N v.1 (λ y q. q.0) m.1.1), ((λ y i. (Each-In (Behind N v.0) v.1 y m.1.1 i).1), m.1.2), m.0.1)

    of_whole : (xs : List A) → Whole xs → (v : A × List A) × Joint v × (xs ≡ v.0 ∷ v.1)
    of_whole [] w = absurd (omega (arith, positive, w.3))
    of_whole (x ∷ xs) w = ((x, xs), ((w.1.0, w.3), (within_rest low high (length xs) w.0, each_behind x xs w.2.0 w.1.1, w.2.1)), refl)

    to_joint : (x : A) (m : ℕ) → N x → size x + m ≡ n → (xs : List A) → RestOf x m xs → Joint (x, xs)
    to_joint x m p e xs w = ((p, omega (arith, e, w.3)), (w.0, w.1, w.2))

    of_joint : (x : A) (m : ℕ) → size x + m ≡ n → (xs : List A) → Joint (x, xs) → RestOf x m xs
    of_joint x m e xs w = (w.1.0, w.1.1, w.1.2, omega (arith, e, w.0.1))

    to_has : (x : A) → HasRest x → (xs : List A) × Joint (x, xs)
    to_has x h = (h.1.1, to_joint x h.1.0 h.0 h.1.2 h.1.1 h.1.3)

    of_has : (x : A) → (xs : List A) × Joint (x, xs) → HasRest x
    of_has x h = (h.1.0.0, (total size h.0, h.0, h.1.0.1, of_joint x (total size h.0) h.1.0.1 h.0 h.1))

    bag_next : (x y : A) (xs ys : List A) → IsNext Joint (Lex Before (ListBefore Before)) (x, xs) (y, ys) → IsNext Whole (ListBefore Before) (x ∷ xs) (y ∷ ys)
    bag_next x y xs ys m =
        Next-iff (λ xs. (v : A × List A) × Joint v × (xs ≡ v.0 ∷ v.1)) Whole (ListBefore Before) (ListBefore Before) to_whole of_whole (λ y z p q h. h) (x ∷ xs) (y ∷ ys) (λ h. h)
        (Next-map Joint (Lex Before (ListBefore Before)) (ListBefore Before) (λ v. v.0 ∷ v.1) (λ y z p q h. h) (λ y z p q h. h) (x, xs) (y, ys) m)

    -- THE LAWS: the rest goes on
    pub Bag-rest : (x : A) (m : ℕ) → N x → size x + m ≡ n → (xs ys : List A) → IsNext (RestOf x m) (ListBefore Before) xs ys → IsNext Whole (ListBefore Before) (x ∷ xs) (x ∷ ys)
    Bag-rest x m p e xs ys k =
        bag_next x x xs ys (Next-second Joint Before (ListBefore Before) order.one_way x xs ys
        (Next-iff (RestOf x m) (λ v. Joint (x, v)) (ListBefore Before) (ListBefore Before) (to_joint x m p e) (of_joint x m e) (λ y z p q h. h) xs ys (λ h. h) k))

    -- the first goes on to the next that has a rest, and the rest begins again
    pub Bag-first : (x y : A) (m k : ℕ) → size x + m ≡ n → size y + k ≡ n → (xs ys : List A) → IsLast (RestOf x m) (ListBefore Before) xs → IsNext HasRest Before x y → IsFirst (RestOf y k) (ListBefore Before) ys
        → IsNext Whole (ListBefore Before) (x ∷ xs) (y ∷ ys)
    Bag-first x y m k e f xs ys l h g =
        bag_next x y xs ys (Next-first Joint Before (ListBefore Before) order.one_way x y xs ys
        (Last-iff (RestOf x m) (λ v. Joint (x, v)) (ListBefore Before) (ListBefore Before) (to_joint x m h.here.0 e) (of_joint x m e) (λ y z p q h. h) xs l)
        (Next-iff HasRest (λ x. (xs : List A) × Joint (x, xs)) Before Before to_has of_has (λ y z p q h. h) x y (λ h. h) h)
        (First-iff (RestOf y k) (λ v. Joint (y, v)) (ListBefore Before) (ListBefore Before) (to_joint y k h.there.0 f) (of_joint y k f) (λ y z p q h. h) ys g))

    pub Bag-begin : (y : A) (k : ℕ) → size y + k ≡ n → (ys : List A) → IsFirst HasRest Before y → IsFirst (RestOf y k) (ListBefore Before) ys → IsFirst Whole (ListBefore Before) (y ∷ ys)
    Bag-begin y k f ys h g =
        First-iff (λ xs. (v : A × List A) × Joint v × (xs ≡ v.0 ∷ v.1)) Whole (ListBefore Before) (ListBefore Before) to_whole of_whole (λ y z p q h. h) (y ∷ ys)
        (First-map Joint (Lex Before (ListBefore Before)) (ListBefore Before) (λ v. v.0 ∷ v.1) (λ y z p q h. h) (λ y z p q h. h) (y, ys)
        (First-two Joint Before (ListBefore Before) order.one_way y ys (First-iff HasRest (λ x. (xs : List A) × Joint (x, xs)) Before Before to_has of_has (λ y z p q h. h) y h)
        (First-iff (RestOf y k) (λ v. Joint (y, v)) (ListBefore Before) (ListBefore Before) (to_joint y k h.there.0 f) (of_joint y k f) (λ y z p q h. h) ys g)))

    pub Bag-end : (y : A) (k : ℕ) → size y + k ≡ n → (ys : List A) → IsLast HasRest Before y → IsLast (RestOf y k) (ListBefore Before) ys → IsLast Whole (ListBefore Before) (y ∷ ys)
    Bag-end y k f ys h g =
        Last-iff (λ xs. (v : A × List A) × Joint v × (xs ≡ v.0 ∷ v.1)) Whole (ListBefore Before) (ListBefore Before) to_whole of_whole (λ y z p q h. h) (y ∷ ys)
        (Last-map Joint (Lex Before (ListBefore Before)) (ListBefore Before) (λ v. v.0 ∷ v.1) (λ y z p q h. h) (λ y z p q h. h) (y, ys)
        (Last-two Joint Before (ListBefore Before) order.one_way y ys (Last-iff HasRest (λ x. (xs : List A) × Joint (x, xs)) Before Before to_has of_has (λ y z p q h. h) y h)
        (Last-iff (RestOf y k) (λ v. Joint (y, v)) (ListBefore Before) (ListBefore Before) (to_joint y k h.there.0 f) (of_joint y k f) (λ y z p q h. h) ys g)))

    -- what may stand behind x may stand behind a later one
    module _ (by_size : (x y : A) → size x < size y → Before x y) (grows : (x w y : A) → Before x w → R x y → R w y) where
      has_too : (x w : A) → size x ≡ size w → N w → Before x w → HasRest x → HasRest w
      has_too x w e p h r = (
        p,
        (
          r.1.0,
          r.1.1,
          omega (arith, e, r.1.2),
          (r.1.3.0, Each-into (Behind N x) (Behind N w) r.1.1 (λ y q. (q.0, grows x w y h q.1)) r.1.3.1, r.1.3.2, r.1.3.3),
        ),
      )

      -- so the next item of the same size will do
      pub Item-same : (x w : A) → HasRest x → IsNext (λ y. N y × (size y ≡ size x)) Before x w → IsNext HasRest Before x w
      Item-same x w r m = record {
        here = r;
        there = has_too x w (sym m.there.1) m.there.0 m.rises r;
        rises = m.rises;
        between = λ y q h k. m.between y (q.0, same (size x) (size y) (size w) m.there.1 (le_of x y h) (le_of y w k)) h k;
      }
        where
          le_of : (x y : A) → Before x y → size x ≤ size y
          le_of x y h = not_less (size x) (size y) (λ l. order.one_way x y h (by_size y x l))
            where
              not_less : (m k : ℕ) → (k < m → ⊥) → m ≤ k
              not_less m k h = grind arith

          same : (m k l : ℕ) → l ≡ m → m ≤ k → k ≤ l → k ≡ m
          same m k l e g h = omega (arith, e, g, h)

-- what comes next keeps within a bound
module _ {A : Type 0} (Before : A → A → Type 0) (order : IsOrder Before) where
  -- the next of an item w that is before the bound t isn't above t; and where it isn't t it is below t
  pub next_within : (K : A → Type 0) (t w v : A) → K t → Before w t → IsNext K Before w v → NotAbove Before t v
  next_within K t w v k h m = λ b. m.between t k h b

  pub next_below : (K : A → Type 0) (t w v : A) → K t → Before w t → IsNext K Before w v → (v ≡ t → ⊥) → Below Before t v
  next_below K t w v k h m differ = ⊎_elim (λ l. l) (λ g. absurd (⊎_elim (λ e. differ e) (λ b. m.between t k h b) g)) (order.either v t)
