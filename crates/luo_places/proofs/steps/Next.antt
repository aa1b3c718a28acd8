-- Next, first and last: their places, and how they are put together.
use Rattle.std.proofs.Common.{◌≡◌, ℕ, ◌+◌, ◌≤◌, ◌⊎◌, inl, inr, ⊎_elim, refl, sym, ◌∙◌, subst, arith}
use Rattle.luo_finite.specs.Listing.{Sums}
use Rattle.luo_finite.proofs.Sums.{Sums-iff, Sums-one, Sums-either, Sums-unique}
use Rattle.luo_finite.proofs.Falling.{IsOrder}
use Rattle.luo_finite.specs.Places.{IsPlace, Lex}
use Rattle.luo_places.specs.steps.Next.{IsNext, IsFirst, IsLast}
use Rattle.luo_finite.proofs.OrderedPlaces.{Place-alone, Sums-le, before_by_place}

-- PLACES
module _ {A : Type 0} (P : A → Type 0) (R : A → A → Type 0) (o : IsOrder R) where
  -- what is before s, and s
  up_to : (r : ℕ) (s : A) → IsPlace P R r s → Sums (λ y. (P y × R y s) ⊎ (y ≡ s)) (λ y. 1) (r + 1)
  up_to r s m = Sums-either (λ y. P y × R y s) (λ y. y ≡ s) (λ y. 1) r 1 (λ y a b. o.one_way s s (subst (λ v. R v s) b a.1) (subst (λ v. R v s) b a.1)) m.before (Sums-one (λ y. y ≡ s) (λ y. 1) s refl (λ z e. e))

  -- the next has the next place
  pub next_place : (r : ℕ) (s t : A) → IsPlace P R r s → IsNext P R s t → IsPlace P R (r + 1) t
  next_place r s t m n = record {
    there = n.there;
    before =
        Sums-iff (λ y. (P y × R y s) ⊎ (y ≡ s)) (λ y. P y × R y t) (λ y. 1) (r + 1)
        (λ y h. ⊎_elim (λ a. (a.0, o.through y s t a.1 n.rises)) (λ e. (subst P (sym e) n.here, subst (λ v. R v t) (sym e) n.rises)) h)
        (λ y h. ⊎_elim (λ a. inl (h.0, a)) (λ k. ⊎_elim (λ e. inr e) (λ g. absurd (n.between y h.0 g h.1)) k) (o.either y s)) (up_to r s m);
  }

  -- with one more behind s
  one_more : (r : ℕ) (s y : A) → R s y → IsPlace P R r s → Sums (λ z. ((P z × R z s) ⊎ (z ≡ s)) ⊎ (z ≡ y)) (λ z. 1) (r + 1 + 1)
  one_more r s y h m =
      Sums-either (λ z. (P z × R z s) ⊎ (z ≡ s)) (λ z. z ≡ y) (λ z. 1) (r + 1) 1
      (λ z a e. ⊎_elim (λ q. o.one_way s y h (subst (λ v. R v s) e q.1)) (λ q. let g : R s s = subst (λ v. R s v) (sym e ∙ q) h in o.one_way s s g g) a) (up_to r s m) (Sums-one (λ z. z ≡ y) (λ z. 1) y refl (λ z e. e))

  -- and what has the next place is the next
  pub place_next : (r : ℕ) (s t : A) → IsPlace P R r s → IsPlace P R (r + 1) t → IsNext P R s t
  place_next r s t m k = record {
    here = m.there;
    there = k.there;
    rises = rises;
    between = λ y p h g. absurd (let q : r + 1 + 1 ≤ r + 1 = Sums-le (λ z. ((P z × R z s) ⊎ (z ≡ s)) ⊎ (z ≡ y)) (λ z. P z × R z t) (r + 1 + 1) (r + 1)
        (λ z a. ⊎_elim (λ b. ⊎_elim (λ c. (c.0, o.through z s t c.1 rises)) (λ e. (subst P (sym e) m.there, subst (λ v. R v t) (sym e) rises)) b)
        (λ e. (subst P (sym e) p, subst (λ v. R v t) (sym e) g)) a) (one_more r s y h m) k.before in omega (arith, q));
  }
    where
      rises : R s t
      rises = before_by_place P R r (r + 1) s t (λ z h. o.one_way z z h h) o.through o.either m k (omega arith)

  pub first_place : (x : A) → IsFirst P R x → IsPlace P R 0 x
  first_place x f = Place-alone P R x f.there f.before

  pub place_first : (x : A) → IsPlace P R 0 x → IsFirst P R x
  place_first x m = record {
    there = m.there;
    before = λ y p h. absurd (let q : 1 ≤ 0 = Sums-le (λ z. z ≡ y) (λ z. P z × R z x) 1 0 (λ z e. (subst P (sym e) p, subst (λ v. R v x) (sym e) h)) (Sums-one (λ z. z ≡ y) (λ z. 1) y refl (λ z e. e)) m.before in omega (arith, q));
  }

  -- the last has the last place
  pub last_counts : (r : ℕ) (x : A) → IsPlace P R r x → IsLast P R x → Sums P (λ y. 1) (r + 1)
  last_counts r x m l =
      Sums-iff (λ y. (P y × R y x) ⊎ (y ≡ x)) P (λ y. 1) (r + 1) (λ y h. ⊎_elim (λ a. a.0) (λ e. subst P (sym e) l.there) h)
      (λ y p. ⊎_elim (λ a. inl (p, a)) (λ k. ⊎_elim (λ e. inr e) (λ g. absurd (l.after y p g)) k) (o.either y x)) (up_to r x m)

  pub last_place : (r c : ℕ) (x : A) → IsPlace P R r x → IsLast P R x → Sums P (λ y. 1) c → c ≡ r + 1
  last_place r c x m l s = Sums-unique P (λ y. 1) c (r + 1) s (last_counts r x m l)

  pub place_last : (r : ℕ) (x : A) → IsPlace P R r x → Sums P (λ y. 1) (r + 1) → IsLast P R x
  place_last r x m s = record {
    there = m.there;
    after = λ y p h. absurd (let q : r + 1 + 1 ≤ r + 1 = Sums-le (λ z. ((P z × R z x) ⊎ (z ≡ x)) ⊎ (z ≡ y)) P (r + 1 + 1) (r + 1)
        (λ z a. ⊎_elim (λ b. ⊎_elim (λ c. c.0) (λ e. subst P (sym e) m.there) b) (λ e. subst P (sym e) p) a) (one_more r x y h m) s in omega (arith, q));
  }

-- at place 0 stands the first; no law of the order is needed
pub first_at : {A : Type 0} (P : A → Type 0) (R : A → A → Type 0) (x : A) → IsPlace P R 0 x → IsFirst P R x
first_at P R x m = record {
  there = m.there;
  before = λ y p h. absurd (let q : 1 ≤ 0 = Sums-le (λ z. z ≡ y) (λ z. P z × R z x) 1 0 (λ z e. (subst P (sym e) p, subst (λ v. R v x) (sym e) h)) (Sums-one (λ z. z ≡ y) (λ z. 1) y refl (λ z e. e)) m.before in omega (arith, q));
}

-- what holds of the same things, in the same order
module _ {A : Type 0} (P Q : A → Type 0) (R S : A → A → Type 0) (there : (y : A) → P y → Q y) (back : (y : A) → Q y → P y) (from : (y z : A) → P y → P z → S y z → R y z) where
  pub Next-iff : (s t : A) → (R s t → S s t) → IsNext P R s t → IsNext Q S s t
  Next-iff s t into n = record {
    here = there s n.here;
    there = there t n.there;
    rises = into n.rises;
    between = λ y q h k. n.between y (back y q) (from s y n.here (back y q) h) (from y t (back y q) n.there k);
  }

  pub First-iff : (x : A) → IsFirst P R x → IsFirst Q S x
  First-iff x f = record { there = there x f.there; before = λ y q h. f.before y (back y q) (from y x (back y q) f.there h) }

  pub Last-iff : (x : A) → IsLast P R x → IsLast Q S x
  Last-iff x l = record { there = there x l.there; after = λ y q h. l.after y (back y q) (from x y l.there (back y q) h) }

-- images
module _ {A B : Type 0} (P : A → Type 0) (R : A → A → Type 0) (S : B → B → Type 0) (f : A → B) (into : (y z : A) → P y → P z → R y z → S (f y) (f z)) (from : (y z : A) → P y → P z → S (f y) (f z) → R y z) where
  pub Next-map : (s t : A) → IsNext P R s t → IsNext (λ z. (y : A) × P y × (z ≡ f y)) S (f s) (f t)
  Next-map s t n = record {
    here = (s, n.here, refl);
    there = (t, n.there, refl);
    rises = into s t n.here n.there n.rises;
    between = λ z q h k. n.between q.0 q.1 (from s q.0 n.here q.1 (subst (λ v. S (f s) v) q.2 h)) (from q.0 t q.1 n.there (subst (λ v. S v (f t)) q.2 k));
  }

  pub First-map : (x : A) → IsFirst P R x → IsFirst (λ z. (y : A) × P y × (z ≡ f y)) S (f x)
  First-map x m = record { there = (x, m.there, refl); before = λ z q h. m.before q.0 q.1 (from q.0 x q.1 m.there (subst (λ v. S v (f x)) q.2 h)) }

  pub Last-map : (x : A) → IsLast P R x → IsLast (λ z. (y : A) × P y × (z ≡ f y)) S (f x)
  Last-map x m = record { there = (x, m.there, refl); after = λ z q h. m.after q.0 q.1 (from x q.0 m.there q.1 (subst (λ v. S (f x) v) q.2 h)) }

-- THE LAWS: where a key orders the groups, the next is the next of the group, and behind the last of a group the first of the next group that has any
module _ {A B : Type 0} (P : A → Type 0) (R : A → A → Type 0) (key : A → B) (S : B → B → Type 0) (one_way : (b c : B) → S b c → S c b → ⊥)
    (into : (y z : A) → P y → P z → S (key y) (key z) → R y z) (from : (y z : A) → P y → P z → R y z → S (key y) (key z) ⊎ (key y ≡ key z)) where
  abbrev pub Group : B → A → Type 0
  Group b y = P y × (key y ≡ b)

  abbrev pub Has : B → Type 0
  Has b = (y : A) × P y × (key y ≡ b)

  -- two keys
  keys : (y z : A) (b c : B) → key y ≡ b → key z ≡ c → P y → P z → R y z → S b c ⊎ (b ≡ c)
  keys y z b c e f p q h = ⊎_elim (λ l. inl (subst (λ v. S v c) e (subst (λ v. S (key y) v) f l))) (λ g. inr (sym e ∙ g ∙ f)) (from y z p q h)

  above : (b c : B) → S b c → b ≡ c → ⊥
  above b c h e = let g : S c c = subst (λ v. S v c) e h in one_way c c g g

  pub Next-within : (b : B) (s t : A) → IsNext (Group b) R s t → IsNext P R s t
  Next-within b s t n = record {
    here = n.here.0;
    there = n.there.0;
    rises = n.rises;
    between = λ y p h k. ⊎_elim (λ l. ⊎_elim (λ m. one_way b (key y) l m) (λ e. above b (key y) l (sym e)) (keys y t (key y) b refl n.there.1 p n.there.0 k))
        (λ e. n.between y (p, sym e) h k) (keys s y b (key y) n.here.1 refl n.here.0 p h);
  }

  pub Next-across : (b c : B) (s t : A) → IsLast (Group b) R s → IsNext Has S b c → IsFirst (Group c) R t → IsNext P R s t
  Next-across b c s t l n f = record {
    here = l.there.0;
    there = f.there.0;
    rises = into s t l.there.0 f.there.0 (subst (λ v. S v (key t)) (sym l.there.1) (subst (λ v. S b v) (sym f.there.1) n.rises));
    between = λ y p h k. ⊎_elim (λ a. ⊎_elim (λ d. n.between (key y) (y, p, refl) a d) (λ e. f.before y (p, e) k) (keys y t (key y) c refl f.there.1 p f.there.0 k))
        (λ e. l.after y (p, sym e) h) (keys s y b (key y) l.there.1 refl l.there.0 p h);
  }

  pub First-over : (c : B) (t : A) → IsFirst Has S c → IsFirst (Group c) R t → IsFirst P R t
  First-over c t n f = record {
    there = f.there.0;
    before = λ y p k. ⊎_elim (λ d. n.before (key y) (y, p, refl) d) (λ e. f.before y (p, e) k) (keys y t (key y) c refl f.there.1 p f.there.0 k);
  }

  pub Last-over : (c : B) (t : A) → IsLast Has S c → IsLast (Group c) R t → IsLast P R t
  Last-over c t n f = record {
    there = f.there.0;
    after = λ y p k. ⊎_elim (λ d. n.after (key y) (y, p, refl) d) (λ e. f.after y (p, sym e) k) (keys t y c (key y) f.there.1 refl f.there.0 p k);
  }

-- THE LAW of two: pairs by the first, and then by the second, where which seconds there are depends on the first
module _ {A B : Type 0} (P : A × B → Type 0) (R : A → A → Type 0) (S : B → B → Type 0) (one_way : (x y : A) → R x y → R y x → ⊥) where
  -- of what P holds of beside x
  abbrev pub With : A → B → Type 0
  With x v = P (x, v)

  abbrev pub HasSecond : A → Type 0
  HasSecond x = (v : B) × P (x, v)

  beside : (x : A) (z : A × B) → P z → z.0 ≡ x → With x z.1
  beside x z p e = subst (λ u. P (u, z.1)) e p

  same_first : (y z : A × B) (x : A) → y.0 ≡ x → z.0 ≡ x → Lex R S y z → S y.1 z.1
  same_first y z x e f (inl h) = let g : R x x = subst (λ v. R v x) e (subst (λ v. R y.0 v) f h) in absurd (one_way x x g g)
  same_first y z x e f (inr k) = k.1

  abbrev OfFirst : A → A × B → Type 0
  OfFirst = Group P (Lex R S) (λ z. z.0) R one_way (λ y z p q h. inl h) (λ y z p q h. ⊎_elim (λ l. inl l) (λ k. inr k.0) h)

  group_last : (x : A) (y : B) → IsLast (With x) S y → IsLast (OfFirst x) (Lex R S) (x, y)
  group_last x y l = record { there = (l.there, refl); after = λ z p h. l.after z.1 (beside x z p.0 p.1) (same_first (x, y) z x refl p.1 h) }

  group_first : (x : A) (y : B) → IsFirst (With x) S y → IsFirst (OfFirst x) (Lex R S) (x, y)
  group_first x y l = record { there = (l.there, refl); before = λ z p h. l.before z.1 (beside x z p.0 p.1) (same_first z (x, y) x p.1 refl h) }

  -- the next of the second
  pub Next-second : (x : A) (y z : B) → IsNext (With x) S y z → IsNext P (Lex R S) (x, y) (x, z)
  Next-second x y z n =
      Next-within P (Lex R S) (λ z. z.0) R one_way (λ y z p q h. inl h) (λ y z p q h. ⊎_elim (λ l. inl l) (λ k. inr k.0) h) x (x, y) (x, z)
      (record {
        here = (n.here, refl);
        there = (n.there, refl);
        rises = inr (refl, n.rises);
        between = λ w p h k. n.between w.1 (beside x w p.0 p.1) (same_first (x, y) w x refl p.1 h) (same_first w (x, z) x p.1 refl k);
      })

  as_keys : (x : A) → HasSecond x → Has P (Lex R S) (λ z. z.0) R one_way (λ y z p q h. inl h) (λ y z p q h. ⊎_elim (λ l. inl l) (λ k. inr k.0) h) x
  as_keys x m = ((x, m.0), m.1, refl)

  of_keys : (x : A) → Has P (Lex R S) (λ z. z.0) R one_way (λ y z p q h. inl h) (λ y z p q h. ⊎_elim (λ l. inl l) (λ k. inr k.0) h) x → HasSecond x
  of_keys x m = ((m.0).1, beside x m.0 m.1 m.2)

  -- and where the second is the last, the next of the first that has a second, and its first second
  pub Next-first : (x w : A) (y z : B) → IsLast (With x) S y → IsNext HasSecond R x w → IsFirst (With w) S z → IsNext P (Lex R S) (x, y) (w, z)
  Next-first x w y z l n f =
      Next-across P (Lex R S) (λ z. z.0) R one_way (λ y z p q h. inl h) (λ y z p q h. ⊎_elim (λ l. inl l) (λ k. inr k.0) h) x w (x, y) (w, z) (group_last x y l)
      (Next-iff HasSecond (Has P (Lex R S) (λ z. z.0) R one_way (λ y z p q h. inl h) (λ y z p q h. ⊎_elim (λ l. inl l) (λ k. inr k.0) h)) R R as_keys of_keys (λ y z p q h. h) x w (λ h. h) n) (group_first w z f)

  pub First-two : (x : A) (y : B) → IsFirst HasSecond R x → IsFirst (With x) S y → IsFirst P (Lex R S) (x, y)
  First-two x y n f = record {
    there = f.there;
    before = λ z p h. ⊎_elim (λ l. n.before z.0 (z.1, p) l) (λ k. f.before z.1 (beside x z p k.0) k.1) h;
  }

  pub Last-two : (x : A) (y : B) → IsLast HasSecond R x → IsLast (With x) S y → IsLast P (Lex R S) (x, y)
  Last-two x y n f = record {
    there = f.there;
    after = λ z p h. ⊎_elim (λ l. n.after z.0 (z.1, p) l) (λ k. f.after z.1 (beside x z p (sym k.0)) k.1) h;
  }
