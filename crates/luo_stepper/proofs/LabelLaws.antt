-- Labels of a first: their shares, the next of one size, the first and the last.
use Rattle.std.proofs.Common.{◌≡◌, ℕ, zero, suc, ◌+◌, ◌-◌, ◌<◌, List, [], ◌∷◌, ◌++◌, append_assoc, ◌⊎◌, inl, inr, ⊎_elim, length, refl, sym, ◌∙◌, ap, subst, arith}
use Rattle.luo_finite.specs.Listing.{In, Sums}
use Rattle.luo_finite.specs.Binomial.{choose}
use Rattle.luo_finite.specs.Places.{IsChoice, Lexical}
use Rattle.luo_finite.proofs.Orders.{lists_ordered}
use Rattle.luo_finite.proofs.Choices.{choices_counted}
use Rattle.luo_model.specs.declared.program.Universe.{Universe}
use Rattle.luo_model.specs.declared.program.Universe.TheVariants.{Unlabelled, Labelled}
use Rattle.luo_model.specs.declared.program.Kind.TheVariants.{Sequence, Set, Cycle, Multiset, Powerset}
use Rattle.luo_model.specs.Structures.{Rising}
use Rattle.luo_counting.specs.Sharing.{splits, IsRoom}
use Rattle.luo_counting.proofs.Splits.{Two, splits-cases, split-left, split-right, split-rising, split-length}
use Rattle.luo_places.specs.Numbers.{led_ways, IsPart}
use Rattle.luo_places.specs.Tails.{Tail, factors, items, head_ways, IsHead, IsLedPart}
use Rattle.luo_places.specs.steps.Next.{IsNext, IsFirst, IsLast}
use Rattle.luo_places.specs.steps.Rooms.{HasLeast, IsFor, IsLedBy, IsShare}
use Rattle.luo_places.proofs.steps.Next.{place_next, place_last, first_at, Next-iff, First-iff, Last-iff}
use Rattle.luo_places.proofs.steps.Choices.{led_next, led_first, led_last}
use Rattle.luo_rank.specs.inner.Lookup.{IsLedTail}
use Rattle.luo_rank.proofs.PartLemmas.{ways_not, ways_led}
use Rattle.luo_stepper.specs.inner.Stepping.{AreLabels, IsSplit}

pub labels_room : (u : Universe) (L : List ℕ) (n : ℕ) → AreLabels u L n → IsRoom u L n
labels_room Unlabelled L n e = tt
labels_room Labelled L n r = r

-- the labels of the whole are those of its shares, in order
pub share_split : (u : Universe) (L C T : List ℕ) (n i j : ℕ) → AreLabels u L n → IsShare u L i C T → AreLabels u T j → IsSplit L C T
share_split Unlabelled L C T n i j e c f =
    subst (λ v. IsSplit v C T) (sym e) (subst (λ v. IsSplit [] v T) (sym c) (subst (λ v. IsSplit [] [] v) (sym f) (tt, inl refl)))
share_split Labelled L C T n i j r s f = (r.0, s.0)

-- and shares of them are labels
pub share_first : (u : Universe) (L C T : List ℕ) (n i : ℕ) → AreLabels u L n → IsShare u L i C T → AreLabels u C i
share_first Unlabelled L C T n i e c = c
share_first Labelled L C T n i r s = ((split-rising L (C, T) r.0 s.0).0, s.1, λ x j. r.2 x (split-left L (C, T) x s.0 j))

pub share_rest : (L C T : List ℕ) (n i : ℕ) → IsRoom Labelled L n → IsShare Labelled L i C T → IsRoom Labelled T (n - i)
share_rest L C T n i r s =
    ((split-rising L (C, T) r.0 s.0).1, (let q : length T ≡ n - i = omega (arith, split-length L (C, T) s.0, s.1, r.1) in q), λ x j. r.2 x (split-right L (C, T) x s.0 j))

-- MERGING
-- what is first of the whole is first of one of the shares
module _ (L C T : List ℕ) (s : IsSplit L C T) where
  abbrev Firsts : Type 0
  Firsts = ((l : ℕ) × (M D : List ℕ) × (L ≡ l ∷ M) × (C ≡ l ∷ D) × IsSplit M D T) ⊎ ((l : ℕ) × (M U : List ℕ) × (L ≡ l ∷ M) × (T ≡ l ∷ U) × IsSplit M C U) ⊎ ((L ≡ []) × (C ≡ []) × (T ≡ []))

pub firsts : (L C T : List ℕ) → (s : IsSplit L C T) → Firsts L C T s
firsts [] C T (r, inl e) = inr (inr (refl, ap (λ (z : Two). z.0) e, ap (λ (z : Two). z.1) e))
firsts [] C T (r, inr h) = absurd h
firsts (l ∷ M) C T (r, h) =
    ⊎_elim (λ q. inl (l, M, q.0.0, refl, ap (λ (z : Two). z.0) q.2, (r.1, subst (λ v. In (q.0.0, v) (splits M)) (sym (ap (λ (z : Two). z.1) q.2)) q.1)))
    (λ q. inr (inl (l, M, q.0.1, refl, ap (λ (z : Two). z.1) q.2, (r.1, subst (λ v. In (v, q.0.1) (splits M)) (sym (ap (λ (z : Two). z.0) q.2)) q.1))))
    (splits-cases l M (C, T) h)

-- what is in a share is in the whole, so nothing is before the first
rest_above : (l x : ℕ) (M C T D : List ℕ) → IsSplit (l ∷ M) C T → IsSplit M C T → C ≡ x ∷ D → l < x
rest_above l x M C T D s r e = (s.0).0 x (split-left M (C, T) x r.1 (subst (In x) (sym e) (inl refl)))

above : (l x : ℕ) (M : List ℕ) → Rising (l ∷ M) → In x M → l < x
above l x M r i = r.0 x i

head_same : (a b : ℕ) (xs ys : List ℕ) → a ∷ xs ≡ b ∷ ys → (a ≡ b) × (xs ≡ ys)
head_same a b xs ys e = (let q : a ≡ b = cc in q, let q : xs ≡ ys = cc in q)

no_head : (a : ℕ) (xs : List ℕ) → a ∷ xs ≡ [] → ⊥
no_head a xs e = cc

-- where the first share's first is less than the other's, it comes first
pub merge_first : (L C T D U : List ℕ) (a b : ℕ) → IsSplit L C T → C ≡ a ∷ D → T ≡ b ∷ U → a < b → (M : List ℕ) × (L ≡ a ∷ M) × IsSplit M D T
merge_first L C T D U a b s c d l =
    ⊎_elim (λ q. let h = head_same q.0 a q.2 D (sym q.4 ∙ c) in (q.1, q.3 ∙ ap (λ v. v ∷ q.1) h.0, subst (λ v. IsSplit q.1 v T) h.1 q.5))
    (λ o. ⊎_elim (λ q. absurd (let h = head_same q.0 b q.2 U (sym q.4 ∙ d) in
    let i : In a q.1 = split-left q.1 (C, q.2) a q.5.1 (subst (In a) (sym c) (inl refl)) in
    let r : q.0 < a = above q.0 a q.1 (subst Rising q.3 s.0) i in
    omega (arith, r, h.0, l)))
    (λ q. absurd (no_head a D (sym c ∙ q.1))) o) (firsts L C T s)

pub merge_other : (L C T D U : List ℕ) (a b : ℕ) → IsSplit L C T → C ≡ a ∷ D → T ≡ b ∷ U → (a < b → ⊥) → (M : List ℕ) × (L ≡ b ∷ M) × IsSplit M C U
merge_other L C T D U a b s c d l =
    ⊎_elim (λ q. absurd (let h = head_same q.0 a q.2 D (sym q.4 ∙ c) in
    let i : In b q.1 = split-right q.1 (q.2, T) b q.5.1 (subst (In b) (sym d) (inl refl)) in
    let r : q.0 < b = above q.0 b q.1 (subst Rising q.3 s.0) i in
    l (omega (arith, r, h.0))))
    (λ o. ⊎_elim (λ q. let h = head_same q.0 b q.2 U (sym q.4 ∙ d) in (q.1, q.3 ∙ ap (λ v. v ∷ q.1) h.0, subst (λ v. IsSplit q.1 C v) h.1 q.5))
    (λ q. absurd (no_head a D (sym c ∙ q.1))) o) (firsts L C T s)

pub merge_alone : (L C T D : List ℕ) (a : ℕ) → IsSplit L C T → C ≡ a ∷ D → T ≡ [] → (M : List ℕ) × (L ≡ a ∷ M) × IsSplit M D T
merge_alone L C T D a s c d =
    ⊎_elim (λ q. let h = head_same q.0 a q.2 D (sym q.4 ∙ c) in (q.1, q.3 ∙ ap (λ v. v ∷ q.1) h.0, subst (λ v. IsSplit q.1 v T) h.1 q.5))
    (λ o. ⊎_elim (λ q. absurd (no_head q.0 q.2 (sym q.4 ∙ d))) (λ q. absurd (no_head a D (sym c ∙ q.1))) o) (firsts L C T s)

pub merge_rest : (L C T U : List ℕ) (b : ℕ) → IsSplit L C T → C ≡ [] → T ≡ b ∷ U → (M : List ℕ) × (L ≡ b ∷ M) × IsSplit M C U
merge_rest L C T U b s c d =
    ⊎_elim (λ q. absurd (no_head q.0 q.2 (sym q.4 ∙ c)))
    (λ o. ⊎_elim (λ q. let h = head_same q.0 b q.2 U (sym q.4 ∙ d) in (q.1, q.3 ∙ ap (λ v. v ∷ q.1) h.0, subst (λ v. IsSplit q.1 C v) h.1 q.5))
    (λ q. absurd (no_head b U (sym d ∙ q.2))) o) (firsts L C T s)

pub merge_none : (L C T : List ℕ) → IsSplit L C T → C ≡ [] → T ≡ [] → L ≡ []
merge_none L C T s c d =
    ⊎_elim (λ q. absurd (no_head q.0 q.2 (sym q.4 ∙ c))) (λ o. ⊎_elim (λ q. absurd (no_head q.0 q.2 (sym q.4 ∙ d))) (λ q. q.0) o) (firsts L C T s)

-- one label more, and the rest behind it
pub one_more : (out mid new L M : List ℕ) (a : ℕ) → mid ≡ out ++ a ∷ [] → L ≡ a ∷ M → new ≡ mid ++ M → new ≡ out ++ L
one_more out mid new L M a m l e = e ∙ ap (λ v. v ++ M) m ∙ append_assoc out (a ∷ []) M ∙ ap (λ v. out ++ v) (sym l)

pub nil_right : (xs : List ℕ) → xs ≡ xs ++ []
nil_right [] = refl
nil_right (x ∷ xs) = ap (λ v. x ∷ v) (nil_right xs)

-- THE ORDER of what a first can have
abbrev pub Having : Universe → Tail → List ℕ → ℕ → List ℕ → Type 0
Having u tail L k C = IsFor u L k C × IsLedBy tail u L C

-- whether the first is led
pub led_or_not : (tail : Tail) → IsLedTail tail ⊎ (IsLedTail tail → ⊥)
led_or_not (factors parts) = inr (λ h. h)
led_or_not (items Sequence y low high) = inr (λ h. h)
led_or_not (items Set y low high) = inl tt
led_or_not (items Cycle y low high) = inl tt
led_or_not (items Multiset y low high) = inr (λ h. h)
led_or_not (items Powerset y low high) = inr (λ h. h)

free : (tail : Tail) (L C : List ℕ) → (IsLedTail tail → ⊥) → IsLedBy tail Labelled L C
free (factors parts) L C d = tt
free (items Sequence y low high) L C d = tt
free (items Set y low high) L C d = absurd (d tt)
free (items Cycle y low high) L C d = absurd (d tt)
free (items Multiset y low high) L C d = tt
free (items Powerset y low high) L C d = tt

plain : (tail : Tail) (L C : List ℕ) → IsLedBy tail Unlabelled L C
plain (factors parts) L C = tt
plain (items Sequence y low high) L C = tt
plain (items Set y low high) L C = tt
plain (items Cycle y low high) L C = tt
plain (items Multiset y low high) L C = tt
plain (items Powerset y low high) L C = tt

led_of : (tail : Tail) (L C : List ℕ) → IsLedTail tail → HasLeast L C → IsLedBy tail Labelled L C
led_of (factors parts) L C d h = absurd d
led_of (items Sequence y low high) L C d h = absurd d
led_of (items Set y low high) L C d h = h
led_of (items Cycle y low high) L C d h = h
led_of (items Multiset y low high) L C d h = absurd d
led_of (items Powerset y low high) L C d h = absurd d

pub of_led : (tail : Tail) (L C : List ℕ) → IsLedTail tail → IsLedBy tail Labelled L C → HasLeast L C
of_led (factors parts) L C d h = absurd d
of_led (items Sequence y low high) L C d h = absurd d
of_led (items Set y low high) L C d h = h
of_led (items Cycle y low high) L C d h = h
of_led (items Multiset y low high) L C d h = absurd d
of_led (items Powerset y low high) L C d h = absurd d

pub head_part : (tail : Tail) (L : List ℕ) (i q : ℕ) (S T : List ℕ) → (IsLedTail tail → ⊥) → IsHead Labelled tail L i q S T → IsPart Labelled L i q S T
head_part (factors parts) L i q S T d h = h
head_part (items Sequence y low high) L i q S T d h = h
head_part (items Set y low high) L i q S T d h = absurd (d tt)
head_part (items Cycle y low high) L i q S T d h = absurd (d tt)
head_part (items Multiset y low high) L i q S T d h = h
head_part (items Powerset y low high) L i q S T d h = h

pub head_led : (tail : Tail) (L : List ℕ) (i q : ℕ) (S T : List ℕ) → IsLedTail tail → IsHead Labelled tail L i q S T → IsLedPart L i q S T
head_led (factors parts) L i q S T d h = absurd d
head_led (items Sequence y low high) L i q S T d h = absurd d
head_led (items Set y low high) L i q S T d h = h
head_led (items Cycle y low high) L i q S T d h = h
head_led (items Multiset y low high) L i q S T d h = absurd d
head_led (items Powerset y low high) L i q S T d h = absurd d

-- without labels
not_itself : Lexical [] [] → ⊥
not_itself h = lists_ordered.one_way [] [] h h

plain_last : (tail : Tail) (L : List ℕ) (k : ℕ) (C : List ℕ) → C ≡ [] → IsLast (Having Unlabelled tail L k) Lexical C
plain_last tail L k C e = record { there = (e, plain tail L C); after = λ D d h. not_itself (subst (λ v. Lexical v []) e (subst (Lexical C) d.0 h)) }

plain_first : (tail : Tail) (L : List ℕ) (k : ℕ) (C : List ℕ) → C ≡ [] → IsFirst (Having Unlabelled tail L k) Lexical C
plain_first tail L k C e = record { there = (e, plain tail L C); before = λ D d h. not_itself (subst (Lexical []) e (subst (λ v. Lexical v C) d.0 h)) }

-- any labels
module _ (tail : Tail) (L : List ℕ) (k : ℕ) (d : IsLedTail tail → ⊥) where
  to_free : (E : List ℕ) → IsChoice L k E → Having Labelled tail L k E
  to_free E e = (e, free tail L E d)

  free_next : (C D : List ℕ) → IsNext (IsChoice L k) Lexical C D → IsNext (Having Labelled tail L k) Lexical C D
  free_next C D m = Next-iff (IsChoice L k) (Having Labelled tail L k) Lexical Lexical to_free (λ E e. e.0) (λ y z p q h. h) C D (λ h. h) m

  free_first : (C : List ℕ) → IsFirst (IsChoice L k) Lexical C → IsFirst (Having Labelled tail L k) Lexical C
  free_first C m = First-iff (IsChoice L k) (Having Labelled tail L k) Lexical Lexical to_free (λ E e. e.0) (λ y z p q h. h) C m

  free_last : (C : List ℕ) → IsLast (IsChoice L k) Lexical C → IsLast (Having Labelled tail L k) Lexical C
  free_last C m = Last-iff (IsChoice L k) (Having Labelled tail L k) Lexical Lexical to_free (λ E e. e.0) (λ y z p q h. h) C m

-- those with the least
module _ (tail : Tail) (l : ℕ) (L : List ℕ) (k : ℕ) (d : IsLedTail tail) where
  abbrev Leds : List ℕ → Type 0
  Leds E = IsChoice (l ∷ L) (suc k) E × In l E

  to_led : (E : List ℕ) → Leds E → Having Labelled tail (l ∷ L) (suc k) E
  to_led E e = (e.0, led_of tail (l ∷ L) E d e.1)

  from_led : (E : List ℕ) → Having Labelled tail (l ∷ L) (suc k) E → Leds E
  from_led E e = (e.0, of_led tail (l ∷ L) E d e.1)

  least_next : (C D : List ℕ) → IsNext Leds Lexical C D → IsNext (Having Labelled tail (l ∷ L) (suc k)) Lexical C D
  least_next C D m = Next-iff Leds (Having Labelled tail (l ∷ L) (suc k)) Lexical Lexical to_led from_led (λ y z p q h. h) C D (λ h. h) m

  least_first : (C : List ℕ) → IsFirst Leds Lexical C → IsFirst (Having Labelled tail (l ∷ L) (suc k)) Lexical C
  least_first C m = First-iff Leds (Having Labelled tail (l ∷ L) (suc k)) Lexical Lexical to_led from_led (λ y z p q h. h) C m

  least_last : (C : List ℕ) → IsLast Leds Lexical C → IsLast (Having Labelled tail (l ∷ L) (suc k)) Lexical C
  least_last C m = Last-iff Leds (Having Labelled tail (l ∷ L) (suc k)) Lexical Lexical to_led from_led (λ y z p q h. h) C m

-- the next, the first and the last, by their places
led_goes_on : (tail : Tail) (L : List ℕ) (n i q : ℕ) (C T D U : List ℕ) → IsLedTail tail → Rising L → IsLedPart L i q C T → IsLedPart L i (q + 1) D U → IsNext (Having Labelled tail L i) Lexical C D
led_goes_on tail [] n i q C T D U d r a b = absurd a
led_goes_on tail (l ∷ L) n zero q C T D U d r a b = absurd a
led_goes_on tail (l ∷ L) n (suc i) q C T D U d r (E, e, x, m) (F, f, y, k) =
    subst (λ v. IsNext (Having Labelled tail (l ∷ L) (suc i)) Lexical v D) (sym e)
    (subst (λ v. IsNext (Having Labelled tail (l ∷ L) (suc i)) Lexical (l ∷ E) v) (sym f)
    (least_next tail l L i d (l ∷ E) (l ∷ F) (led_next l L i r E F (place_next (IsChoice L i) Lexical lists_ordered q E F m k))))

pub labels_next : (u : Universe) (tail : Tail) (L : List ℕ) (n i q : ℕ) (C T D U : List ℕ) → AreLabels u L n → IsHead u tail L i q C T → IsHead u tail L i (q + 1) D U → IsNext (Having u tail L i) Lexical C D
labels_next Unlabelled tail L n i q C T D U r a b = absurd (omega (arith, b))
labels_next Labelled tail L n i q C T D U r a b =
    ⊎_elim (λ d. led_goes_on tail L n i q C T D U d r.0 (head_led tail L i q C T d a) (head_led tail L i (q + 1) D U d b))
    (λ d. free_next tail L i d C D (place_next (IsChoice L i) Lexical lists_ordered q C D (head_part tail L i q C T d a).1 (head_part tail L i (q + 1) D U d b).1)) (led_or_not tail)

led_begins : (tail : Tail) (L : List ℕ) (i : ℕ) (D U : List ℕ) → IsLedTail tail → Rising L → IsLedPart L i 0 D U → IsFirst (Having Labelled tail L i) Lexical D
led_begins tail [] i D U d r a = absurd a
led_begins tail (l ∷ L) zero D U d r a = absurd a
led_begins tail (l ∷ L) (suc i) D U d r (E, e, x, m) =
    subst (λ v. IsFirst (Having Labelled tail (l ∷ L) (suc i)) Lexical v) (sym e) (least_first tail l L i d (l ∷ E) (led_first l L i r E (first_at (IsChoice L i) Lexical E m)))

pub labels_first : (u : Universe) (tail : Tail) (L : List ℕ) (n i : ℕ) (D U : List ℕ) → AreLabels u L n → AreLabels u D i → IsHead u tail L i 0 D U → IsFirst (Having u tail L i) Lexical D
labels_first Unlabelled tail L n i D U r c a = plain_first tail L i D c
labels_first Labelled tail L n i D U r c a =
    ⊎_elim (λ d. led_begins tail L i D U d r.0 (head_led tail L i 0 D U d a)) (λ d. free_first tail L i d D (first_at (IsChoice L i) Lexical D (head_part tail L i 0 D U d a).1)) (led_or_not tail)

led_ends : (tail : Tail) (L : List ℕ) (n i q : ℕ) (C T : List ℕ) → IsLedTail tail → Rising L → length L ≡ n → IsLedPart L i q C T → q + 1 ≡ led_ways n i → IsLast (Having Labelled tail L i) Lexical C
led_ends tail [] n i q C T d r z a e = absurd a
led_ends tail (l ∷ L) n zero q C T d r z a e = absurd a
led_ends tail (l ∷ L) n (suc i) q C T d r z (E, f, x, m) e =
    let long : n - 1 ≡ length L = omega (arith, z) in
    let all : choose (length L) i ≡ q + 1 = ap (λ v. choose v i) (sym long) ∙ sym e in
    subst (λ v. IsLast (Having Labelled tail (l ∷ L) (suc i)) Lexical v) (sym f)
    (least_last tail l L i d (l ∷ E) (led_last l L i r E (place_last (IsChoice L i) Lexical lists_ordered q E m (subst (Sums (IsChoice L i) (λ v. 1)) all (choices_counted L i r.1)))))

pub labels_last : (u : Universe) (tail : Tail) (L : List ℕ) (n i q : ℕ) (C T : List ℕ) → AreLabels u L n → Having u tail L i C → IsHead u tail L i q C T → q + 1 ≡ head_ways u tail n i → IsLast (Having u tail L i) Lexical C
labels_last Unlabelled tail L n i q C T r c a e = plain_last tail L i C c.0
labels_last Labelled tail L n i q C T r c a e =
    ⊎_elim (λ d. led_ends tail L n i q C T d r.0 r.1 (head_led tail L i q C T d a) (e ∙ ways_led tail n i d))
    (λ d. let all : choose (length L) i ≡ q + 1 = ap (λ v. choose v i) r.1 ∙ sym (e ∙ ways_not Labelled tail n i d) in
    free_last tail L i d C (place_last (IsChoice L i) Lexical lists_ordered q C (head_part tail L i q C T d a).1 (subst (Sums (IsChoice L i) (λ v. 1)) all (choices_counted L i r.0)))) (led_or_not tail)

pub empty_list : (xs : List ℕ) → length xs ≡ 0 → xs ≡ []
empty_list [] e = refl
empty_list (x ∷ xs) e = absurd (omega (arith, e))
