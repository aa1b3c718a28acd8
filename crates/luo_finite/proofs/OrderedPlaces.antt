-- Places: how they are put together, and that they are those of an ordered listing.
use Rattle.std.proofs.Common.{◌≡◌, ℕ, zero, suc, ◌+◌, ◌*◌, ◌≤◌, ◌<◌, List, [], ◌∷◌, ◌++◌, ◌⊎◌, inl, inr, ⊎_elim, length, refl, sym, ◌∙◌, ap, subst, sum_by, arith, Some, slice_get, length-append}
use Rattle.luo_finite.specs.Listing.{In, NoDouble, Lists, Sums, Pairwise}
use Rattle.luo_finite.proofs.Membership.{In-append_left, In-append_cases, around, In-itself, In-without}
use Rattle.luo_finite.proofs.Pairwise.{Pairwise-append_across, Pairwise-append_right}
use Rattle.luo_finite.proofs.Doubles.{NoDouble-append_left}
use Rattle.luo_finite.proofs.SumsBy.{length_is_sum}
use Rattle.luo_finite.proofs.Sums.{Sums-iff, Sums-none, Sums-one, Sums-either, Sums-over, Sums-map, Sums-same, Sums-at, Sums-unique}
use Rattle.luo_finite.proofs.Products.{Sums-pairs}
use Rattle.luo_finite.specs.Range.{sum_below}
use Rattle.luo_finite.proofs.Ranges.{Sums-below}
use Rattle.luo_finite.specs.Places.{IsPlace, Lex}

-- what holds of the same things, in the same order, has the same places
pub Place-iff : {A : Type 0} (P Q : A → Type 0) (R S : A → A → Type 0) (r : ℕ) (x : A) → ((y : A) → P y → Q y) → ((y : A) → Q y → P y)
    → ((y : A) → P y → R y x → S y x) → ((y : A) → P y → S y x → R y x) → IsPlace P R r x → IsPlace Q S r x
Place-iff P Q R S r x there back into from m = record {
  there = there x m.there;
  before = Sums-iff (λ y. P y × R y x) (λ y. Q y × S y x) (λ y. 1) r (λ y h. (there y h.0, into y h.0 h.1)) (λ y h. let p = back y h.0 in (p, from y p h.1)) m.before;
}

-- a place is one number
pub Place-one : {A : Type 0} (P : A → Type 0) (R : A → A → Type 0) (r s : ℕ) (x : A) → IsPlace P R r x → IsPlace P R s x → r ≡ s
Place-one P R r s x a b = Sums-unique (λ y. P y × R y x) (λ y. 1) r s a.before b.before

-- what is alone stands at place 0
pub Place-alone : {A : Type 0} (P : A → Type 0) (R : A → A → Type 0) (x : A) → P x → ((y : A) → P y → R y x → ⊥) → IsPlace P R 0 x
Place-alone P R x p h = record { there = p; before = Sums-none (λ y. P y × R y x) (λ y. 1) (λ y m. h y m.0 m.1) }

-- where each element has one key, the number of the elements is the sum over the keys
pub Sums-keyed : {A B : Type 0} (P : A → Type 0) (key : A → B) (Q : B → Type 0) (c : B → ℕ) (t : ℕ) → ((y : A) → P y → Q (key y)) → ((b : B) → Q b → Sums (λ y. P y × (key y ≡ b)) (λ y. 1) (c b))
    → Sums Q c t → Sums P (λ y. 1) t
Sums-keyed {A} {B} P key Q c t inside each s =
    let ks = s.exists.0 in
    subst (Sums P (λ y. 1)) (s.each ks s.exists.1)
    (Sums-iff (λ y. (b : B) × In b ks × (P y × (key y ≡ b))) P (λ y. 1) (sum_by c ks) (λ y r. r.2.0)
    (λ y p. (key y, s.exists.1.complete (key y) (inside y p), (p, refl)))
    (Sums-over (λ b y. P y × (key y ≡ b)) (λ y. 1) c ks s.exists.1.single (λ i j y p q. sym p.1 ∙ q.1) (λ b i. each b (s.exists.1.sound b i))))

-- a list without doubles is no longer than one that holds its elements
pub no_longer : {A : Type 0} (xs ys : List A) → NoDouble xs → ((x : A) → In x xs → In x ys) → length xs ≤ length ys
no_longer [] ys d h = omega arith
no_longer (x ∷ xs) ys d h =
    let r = around x ys (h x (inl refl)) in
    let k : length xs ≤ length (r.before ++ r.after) = no_longer xs (r.before ++ r.after) d.1
    (λ z i. In-without x z r.before r.after (subst (λ l. In z l) r.is (h z (inr i))) (λ e. d.0 (subst (λ v. In v xs) e i))) in
    let e : length ys ≡ length (r.before ++ x ∷ r.after) = ap length r.is in
    omega (arith, k, e, length-append r.before r.after, length-append r.before (x ∷ r.after))

-- fewer things have a count that is no greater
pub Sums-le : {A : Type 0} (P Q : A → Type 0) (c d : ℕ) → ((x : A) → P x → Q x) → Sums P (λ x. 1) c → Sums Q (λ x. 1) d → c ≤ d
Sums-le P Q c d h s t =
    let l = s.exists in
    let m = t.exists in
    let k : length l.0 ≤ length m.0 = no_longer l.0 m.0 l.1.single (λ x i. m.1.complete x (h x (l.1.sound x i))) in
    omega (arith, k, length_is_sum l.0, length_is_sum m.0, s.each l.0 l.1, t.each m.0 m.1)

-- what is before has a lesser place
pub place_rises : {A : Type 0} (P : A → Type 0) (R : A → A → Type 0) (i j : ℕ) (x y : A) → ((z : A) → R z z → ⊥) → ((u v w : A) → R u v → R v w → R u w) → IsPlace P R i x → IsPlace P R j y → R x y → i < j
place_rises P R i j x y never through m k h =
    let e : i + 1 ≤ j = Sums-le (λ z. (P z × R z x) ⊎ (z ≡ x)) (λ z. P z × R z y) (i + 1) j
    (λ z q. ⊎_elim (λ a. (a.0, through z x y a.1 h)) (λ a. (subst P (sym a) m.there, subst (λ v. R v y) (sym a) h)) q)
    (Sums-either (λ z. P z × R z x) (λ z. z ≡ x) (λ z. 1) i 1 (λ z a b. never x (subst (λ v. R v x) b a.1)) m.before (Sums-one (λ z. z ≡ x) (λ z. 1) x refl (λ z e. e))) k.before in
    omega arith

-- and what has a lesser place is before
pub before_by_place : {A : Type 0} (P : A → Type 0) (R : A → A → Type 0) (i j : ℕ) (x y : A) → ((z : A) → R z z → ⊥) → ((u v w : A) → R u v → R v w → R u w) → ((u v : A) → R u v ⊎ (u ≡ v) ⊎ R v u)
    → IsPlace P R i x → IsPlace P R j y → i < j → R x y
before_by_place P R i j x y never through either m k l = ⊎_elim (λ h. h) (λ o. absurd (⊎_elim
    (λ (e : x ≡ y). let q : i ≡ j = Place-one P R i j y (subst (IsPlace P R i) e m) k in omega (arith, l, q))
    (λ h. let q : j < i = place_rises P R j i y x never through k m h in omega (arith, l, q)) o)) (either x y)

-- one thing has a place
pub one_at : {A : Type 0} (P : A → Type 0) (R : A → A → Type 0) (i : ℕ) (x y : A) → ((z : A) → R z z → ⊥) → ((u v w : A) → R u v → R v w → R u w) → ((u v : A) → R u v ⊎ (u ≡ v) ⊎ R v u)
    → IsPlace P R i x → IsPlace P R i y → x ≡ y
one_at P R i x y never through either m k = ⊎_elim (λ h. absurd (let q : i < i = place_rises P R i i x y never through m k h in omega arith)) (λ o. ⊎_elim (λ e. e)
    (λ h. absurd (let q : i < i = place_rises P R i i y x never through k m h in omega arith)) o) (either x y)

module _ {A B : Type 0} (P : A → Type 0) (R : A → A → Type 0) (key : A → B) (Q : B → Type 0) (S : B → B → Type 0) (c : B → ℕ) (x : A) where
  earlier : ((y : A) → P y → Q (key y)) → ((b : B) → Q b → S b (key x) → Sums (λ y. P y × (key y ≡ b)) (λ y. 1) (c b)) → (t : ℕ) → Sums (λ b. Q b × S b (key x)) c t
      → Sums (λ y. P y × S (key y) (key x)) (λ y. 1) t
  earlier inside each t s =
      Sums-keyed (λ y. P y × S (key y) (key x)) key (λ b. Q b × S b (key x)) c t (λ y m. (inside y m.0, m.1))
      (λ b m. Sums-iff (λ y. P y × (key y ≡ b)) (λ y. (P y × S (key y) (key x)) × (key y ≡ b)) (λ y. 1) (c b)
      (λ y h. ((h.0, subst (λ k. S k (key x)) (sym h.1) m.1), h.1)) (λ y h. (h.0.0, h.1)) (each b m.0 m.1)) s

  -- THE LAW: the place is the number of what has an earlier key, and the place among what has the same
  pub Place-over : ((y : A) → P y → Q (key y)) → ((y : A) → P y → S (key y) (key x) → R y x) → ((y : A) → P y → R y x → S (key y) (key x) ⊎ (key y ≡ key x)) → (S (key x) (key x) → ⊥)
      → ((b : B) → Q b → S b (key x) → Sums (λ y. P y × (key y ≡ b)) (λ y. 1) (c b)) → (t r : ℕ) → Sums (λ b. Q b × S b (key x)) c t
      → IsPlace (λ y. P y × (key y ≡ key x)) R r x → IsPlace P R (t + r) x
  Place-over inside into from never each t r s m = record {
    there = m.there.0;
    before =
        Sums-iff (λ y. (P y × S (key y) (key x)) ⊎ ((P y × (key y ≡ key x)) × R y x)) (λ y. P y × R y x) (λ y. 1) (t + r)
        (λ y h. ⊎_elim (λ a. (a.0, into y a.0 a.1)) (λ b. (b.0.0, b.1)) h)
        (λ y h. ⊎_elim (λ a. inl (h.0, a)) (λ b. inr ((h.0, b), h.1)) (from y h.0 h.1))
        (Sums-either (λ y. P y × S (key y) (key x)) (λ y. (P y × (key y ≡ key x)) × R y x) (λ y. 1) t r
        (λ y a b. never (subst (λ k. S k (key x)) b.0.1 a.1)) (earlier inside each t s) m.before);
  }

-- the same, where keys are numbers
pub Place-key : {A : Type 0} (P : A → Type 0) (R : A → A → Type 0) (key : A → ℕ) (c : ℕ → ℕ) (x : A) → ((y : A) → P y → key y < key x → R y x) → ((y : A) → P y → R y x → key y ≤ key x)
    → ((k : ℕ) → k < key x → Sums (λ y. P y × (key y ≡ k)) (λ y. 1) (c k)) → (r : ℕ) → IsPlace (λ y. P y × (key y ≡ key x)) R r x → IsPlace P R (sum_below c (key x) + r) x
Place-key P R key c x into from each r m =
    Place-over P R key (λ k. Unit {0}) (λ i j. i < j) c x (λ y p. tt) into (λ y p h. less_or (key y) (key x) (from y p h)) (λ h. omega arith) (λ k q l. each k l) (sum_below c (key x)) r
    (Sums-iff (λ k. k < key x) (λ k. Unit {0} × (k < key x)) c (sum_below c (key x)) (λ k l. (tt, l)) (λ k l. l.1) (Sums-below c (key x))) m
  where
    less_or : (m n : ℕ) → m ≤ n → (m < n) ⊎ (m ≡ n)
    less_or m n h = grind arith

-- an image under a function that is one to one and keeps the order
pub Place-map : {A B : Type 0} (P : A → Type 0) (R : A → A → Type 0) (S : B → B → Type 0) (f : A → B) (r : ℕ) (x : A) → ((y z : A) → P y → P z → f y ≡ f z → y ≡ z)
    → ((y : A) → P y → R y x → S (f y) (f x)) → ((y : A) → P y → S (f y) (f x) → R y x) → IsPlace P R r x → IsPlace (λ z. (y : A) × P y × (z ≡ f y)) S r (f x)
Place-map {A} P R S f r x one into from m = record {
  there = (x, m.there, refl);
  before =
      Sums-iff (λ z. (y : A) × (P y × R y x) × (z ≡ f y)) (λ z. ((y : A) × P y × (z ≡ f y)) × S z (f x)) (λ z. 1) r
      (λ z h. ((h.0, h.1.0, h.2), subst (λ v. S v (f x)) (sym h.2) (into h.0 h.1.0 h.1.1)))
      (λ z h. let k = h.0 in (k.0, (k.1, from k.0 k.1 (subst (λ v. S v (f x)) k.2 h.1)), k.2))
      (Sums-map (λ y. P y × R y x) f (λ z. 1) r (λ y z p q e. one y z p.0 q.0 e) m.before);
}

-- pairs
pub Place-pairs : {A B : Type 0} (P : A → Type 0) (R : A → A → Type 0) (Q : B → Type 0) (S : B → B → Type 0) (r d s : ℕ) (x : A) (y : B) → (R x x → ⊥) → Sums Q (λ v. 1) d
    → IsPlace P R r x → IsPlace Q S s y → IsPlace (λ (z : A × B). P z.0 × Q z.1) (Lex R S) (r * d + s) (x, y)
Place-pairs {A} {B} P R Q S r d s x y never all m k = record {
  there = (m.there, k.there);
  before =
      Sums-iff (λ (z : A × B). ((P z.0 × R z.0 x) × Q z.1) ⊎ ((v : B) × (Q v × S v y) × (z ≡ (x, v)))) (λ (z : A × B). (P z.0 × Q z.1) × Lex R S z (x, y)) (λ z. 1) (r * d + s)
      (λ z h. ⊎_elim (λ a. ((a.0.0, a.1), inl a.0.1)) (λ b. let e : z.0 ≡ x = ap (λ (w : A × B). w.0) b.2 in let f : z.1 ≡ b.0 = ap (λ (w : A × B). w.1) b.2 in
      ((subst P (sym e) m.there, subst Q (sym f) b.1.0), inr (e, subst (λ v. S v y) (sym f) b.1.1))) h)
      (λ z h. ⊎_elim (λ a. inl ((h.0.0, a), h.0.1)) (λ b. inr (z.1, (h.0.1, b.1), λ i. (b.0 i, z.1))) h.1)
      (Sums-either (λ (z : A × B). (P z.0 × R z.0 x) × Q z.1) (λ (z : A × B). (v : B) × (Q v × S v y) × (z ≡ (x, v))) (λ z. 1) (r * d) s
      (λ z a b. never (subst (λ v. R v x) (ap (λ (w : A × B). w.0) b.2) a.0.1))
      (Sums-same (λ (z : A × B). (P z.0 × R z.0 x) × Q z.1) (λ z. 1 * 1) (λ z. 1) (r * d) (λ z p. refl) (Sums-pairs (λ v. P v × R v x) Q (λ v. 1) (λ v. 1) r d m.before all))
      (Sums-map (λ v. Q v × S v y) (λ v. (x, v)) (λ z. 1) s (λ v w p q e. ap (λ (u : A × B). u.1) e) k.before));
}

-- places and listings
get_behind : {A : Type 0} (before after : List A) (x : A) → slice_get (before ++ x ∷ after) (length before) ≡ Some x
get_behind [] after x = refl
get_behind (y ∷ before) after x = get_behind before after x

get_around : {A : Type 0} (l : List A) (r : ℕ) (x : A) → slice_get l r ≡ Some x → (before : List A) × (after : List A) × (l ≡ before ++ x ∷ after) × (length before ≡ r)
get_around [] r x e = absurd (cc)
get_around {A} (y ∷ l) zero x e = let q : y ≡ x = cc in ([], l, ap (λ z. z ∷ l) q, refl)
get_around (y ∷ l) (suc r) x e = let k = get_around l r x e in (y ∷ k.0, k.1, ap (λ z. y ∷ z) k.2, ap suc k.3)

module _ {A : Type 0} (P : A → Type 0) (R : A → A → Type 0) (one_way : (x y : A) → R x y → R y x → ⊥) where
  before_is : (x : A) (before after : List A) → Lists P (before ++ x ∷ after) → Pairwise R (before ++ x ∷ after) → Sums (λ y. P y × R y x) (λ y. 1) (length before)
  before_is x before after h o =
      Sums-at (λ y. P y × R y x) (λ y. 1) before (length before)
      (record {
        single = NoDouble-append_left before (x ∷ after) h.single;
        sound = λ y i. (h.sound y (In-append_left y before (x ∷ after) i), Pairwise-append_across R before (x ∷ after) o y x i (inl refl));
        complete = λ y m. ⊎_elim (λ i. i) (λ j. absurd (⊎_elim (λ (e : y ≡ x). one_way y x m.1 (subst (λ v. R v y) e (subst (λ v. R y v) (sym e) m.1)))
            (λ k. one_way y x m.1 ((Pairwise-append_right R before (x ∷ after) o).0 y k)) j)) (In-append_cases y before (x ∷ after) (h.complete y m.0));
      })
      (sym (length_is_sum before))

  pub listed_at : (l : List A) (r : ℕ) (x : A) → Lists P l → Pairwise R l → slice_get l r ≡ Some x → IsPlace P R r x
  listed_at l r x h o e =
      let k = get_around l r x e in
      let g = subst (Lists P) k.2 h in
      record { there = g.sound x (In-itself x k.0 k.1); before = subst (Sums (λ y. P y × R y x) (λ y. 1)) k.3 (before_is x k.0 k.1 g (subst (Pairwise R) k.2 o)) }

  pub at_listed : (l : List A) (r : ℕ) (x : A) → Lists P l → Pairwise R l → IsPlace P R r x → slice_get l r ≡ Some x
  at_listed l r x h o m =
      let k = around x l (h.complete x m.there) in
      let s = before_is x k.before k.after (subst (Lists P) k.is h) (subst (Pairwise R) k.is o) in
      let e : length k.before ≡ r = Sums-unique (λ y. P y × R y x) (λ y. 1) (length k.before) r s m.before in
      subst (λ i. slice_get l i ≡ Some x) e (subst (λ z. slice_get z (length k.before) ≡ Some x) (sym k.is) (get_behind k.before k.after x))
