-- The place of a first's labels, and the next size and labels.
use Rattle.std.proofs.Common.{◌≡◌, ℕ, zero, suc, ◌+◌, ◌-◌, ◌≤◌, ◌<◌, List, [], ◌∷◌, inl, inr, ⊎_elim, length, refl, sym, ap, subst, arith, map}
use Rattle.luo_finite.specs.Listing.{In}
use Rattle.luo_finite.specs.Binomial.{choose}
use Rattle.luo_finite.specs.Places.{IsPlace, IsChoice, Lexical}
use Rattle.luo_finite.proofs.Membership.{In-append_left, In-map}
use Rattle.luo_finite.proofs.Orders.{lists_ordered}
use Rattle.luo_finite.proofs.Choices.{choices_counted}
use Rattle.luo_finite.proofs.PlacesExist.{place_below}
use Rattle.luo_model.specs.declared.program.Universe.{Universe}
use Rattle.luo_model.specs.declared.program.Universe.TheVariants.{Unlabelled, Labelled}
use Rattle.luo_model.specs.Structures.{Rising}
use Rattle.luo_model.specs.View.{plain_of}
use Rattle.luo_counting.specs.Sharing.{splits, IsRoom}
use Rattle.luo_counting.proofs.Splits.{put_left, put_right}
use Rattle.luo_places.specs.Numbers.{led_ways}
use Rattle.luo_places.specs.Tails.{Tail, head_ways, IsHead, IsLedPart}
use Rattle.luo_places.proofs.Complements.{complement}
use Rattle.luo_places.specs.steps.Next.{IsLast}
use Rattle.luo_places.specs.steps.Rooms.{IsShare, HasLabels}
use Rattle.luo_places.proofs.steps.Tails.{room_labels, room_size, room_last}
use Rattle.luo_rank.specs.inner.Lookup.{Looked, IsLedTail, ArePartLabels, entry_of, tail_at}
use Rattle.luo_rank.proofs.PartLemmas.{led_not, ways_not, led_head, ways_led}
use Rattle.luo_stepper.specs.inner.Stepping.{AreLabels, AreParts, IsRoomOf, IsNextRoom, IsLastRoom, IsFirstFrom, Fills}
use Rattle.luo_stepper.proofs.LabelLaws.{Having, led_or_not, of_led, head_part, head_led, labels_next, labels_first, labels_last}

-- a first that isn't led
pub place_plain : (u : Universe) (tail : Tail) (L : List ℕ) (n i : ℕ) (C : List ℕ) (q : ℕ) → u ≡ Labelled → AreLabels u L n → Having u tail L i C → (IsLedTail tail → ⊥) → IsPlace (IsChoice L (length C)) Lexical q C
    → ((T : List ℕ) × IsHead u tail L i q C T) × (q < head_ways u tail n i)
place_plain Unlabelled tail L n i C q e r c d m = absurd (cc)
place_plain Labelled tail L n i C q e r c d m =
    let k = complement L C r.0 c.0.0 c.0.2 in
    let m' : IsPlace (IsChoice L i) Lexical q C = subst (λ j. IsPlace (IsChoice L j) Lexical q C) c.0.1 m in (
      (k.0, led_not Labelled tail L n i q C k.0 d (k.1, m')),
      subst (λ w. q < w) (sym (ways_not Labelled tail n i d)) (subst (λ v. q < choose v i) r.1 (place_below (IsChoice L i) Lexical lists_ordered (choose (length L) i) (choices_counted L i r.0) q C m')),
    )

-- a first that is led: behind the least label any choice of the others
led_rest : (l c : ℕ) (others more : List ℕ) (i : ℕ) → Rising (l ∷ others) → IsChoice (l ∷ others) i (c ∷ more) → In l (c ∷ more) → (c ≡ l) × IsChoice others (length more) more × (i ≡ suc (length more))
led_rest l c others more i r k h =
    let least : c ≡ l = ⊎_elim (λ e. sym e) (λ j. absurd (let a : c < l = k.0.0 l j in
    ⊎_elim (λ (e : c ≡ l). omega (arith, a, e)) (λ o. let b : l < c = r.0 c o in omega (arith, a, b)) (k.2 c (inl refl)))) h in
    (least, (k.0.1, refl, λ z j. ⊎_elim (λ (e : z ≡ l). absurd (let a : c < z = k.0.0 z j in omega (arith, a, e, least))) (λ o. o) (k.2 z (inr j))), sym k.1)

pub led_asked : (u : Universe) (tail : Tail) (L others C more : List ℕ) (l c n i : ℕ) → u ≡ Labelled → L ≡ l ∷ others → C ≡ c ∷ more → AreLabels u L n → Having u tail L i C → IsLedTail tail → IsChoice others (length more) more
led_asked Unlabelled tail L others C more l c n i e a b r h d = absurd (cc)
led_asked Labelled tail L others C more l c n i e a b r h d =
    let h' : Having Labelled tail (l ∷ others) i (c ∷ more) = subst (λ M. Having Labelled tail M i (c ∷ more)) a (subst (Having Labelled tail L i) b h) in
    (led_rest l c others more i (subst Rising a r.0) h'.0 (of_led tail (l ∷ others) (c ∷ more) d h'.1)).1

pub place_led : (u : Universe) (tail : Tail) (L others C more : List ℕ) (l c n i q : ℕ) → u ≡ Labelled → L ≡ l ∷ others → C ≡ c ∷ more → AreLabels u L n → Having u tail L i C → IsLedTail tail → IsPlace (IsChoice others (length more)) Lexical q more
    → ((T : List ℕ) × IsHead u tail L i q C T) × (q < head_ways u tail n i)
place_led Unlabelled tail L others C more l c n i q e a b r h d m = absurd (cc)
place_led Labelled tail L others C more l c n i q e a b r h d m =
    let h' : Having Labelled tail (l ∷ others) i (c ∷ more) = subst (λ M. Having Labelled tail M i (c ∷ more)) a (subst (Having Labelled tail L i) b h) in
    let rises : Rising (l ∷ others) = subst Rising a r.0 in
    let w = led_rest l c others more i rises h'.0 (of_led tail (l ∷ others) (c ∷ more) d h'.1) in
    let k = complement others more rises.1 w.1.0 w.1.2 in
    let j = length more in
    let part : IsLedPart (l ∷ others) (suc j) q (c ∷ more) k.0 = (more, ap (λ v. v ∷ more) w.0, k.1, m) in
    let head : IsHead Labelled tail L i q C k.0 =
    subst (λ M. IsHead Labelled tail M i q C k.0) (sym a) (subst (λ D. IsHead Labelled tail (l ∷ others) i q D k.0) (sym b)
    (subst (λ v. IsHead Labelled tail (l ∷ others) v q (c ∷ more) k.0) (sym w.2) (led_head tail (l ∷ others) (suc j) q (c ∷ more) k.0 d part))) in
    let long : length others ≡ n - 1 = omega (arith, ap length a, r.1) in
    let below : q < choose (n - 1) j = subst (λ v. q < choose v j) long (place_below (IsChoice others j) Lexical lists_ordered (choose (length others) j) (choices_counted others j rises.1) q more m) in
    ((k.0, head), subst (λ v. q < head_ways Labelled tail n v) (sym w.2) (subst (λ v. q < v) (sym (ways_led tail n (suc j) d)) below))

-- labels with a place are shares
pub parts_told : (t : Looked) (tail : Tail) (L : List ℕ) (n i q : ℕ) (D U : List ℕ) → t.program.universe ≡ Labelled → AreLabels t.program.universe L n → i ≤ n → ArePartLabels t.program.universe tail L n i q D U
    → AreParts t L n i D U × IsHead t.program.universe tail L i q D U
parts_told t tail L n i q D U e r l a = (
  record { within = l; share = by t.program.universe e r a.head a.first; first = room_labels_of t.program.universe D i e a.first; rest = room_labels_of t.program.universe U (n - i) e a.rest },
  a.head,
)
  where
    room_labels_of : (u : Universe) (M : List ℕ) (m : ℕ) → u ≡ Labelled → IsRoom u M m → AreLabels u M m
    room_labels_of Unlabelled M m e r = absurd (cc)
    room_labels_of Labelled M m e r = r

    led_in : (L : List ℕ) (i q : ℕ) (S T : List ℕ) → IsLedPart L i q S T → In (S, T) (splits L)
    led_in [] i q S T p = absurd p
    led_in (l ∷ L) zero q S T p = absurd p
    led_in (l ∷ L) (suc i) q S T (C, s, j, m) = subst (λ v. In (v, T) (splits (l ∷ L))) (sym s) (In-append_left (l ∷ C, T) (map (put_left l) (splits L)) (map (put_right l) (splits L)) (In-map (put_left l) (C, T) (splits L) j))

    by : (u : Universe) → u ≡ Labelled → AreLabels u L n → IsHead u tail L i q D U → IsRoom u D i → IsShare u L i D U
    by Unlabelled e r h f = absurd (cc)
    by Labelled e r h f = (⊎_elim (λ d. led_in L i q D U (head_led tail L i q D U d h)) (λ d. (head_part tail L i q D U d h).0) (led_or_not tail), f.1)

-- there is a way to choose
choose_some : (n k : ℕ) → k ≤ n → 1 ≤ choose n k
choose_some n zero l = omega arith
choose_some zero (suc k) l = absurd (omega (arith, l))
choose_some (suc n) (suc k) l = omega (arith, choose_some n k (omega (arith, l)))

pub ways_some : (u : Universe) (tail : Tail) (n k : ℕ) → 1 ≤ k → k ≤ n → 0 < head_ways u tail n k
ways_some Unlabelled tail n k s l = omega arith
ways_some Labelled tail n k s l =
    ⊎_elim (λ d. subst (λ v. 0 < v) (sym (ways_led tail n k d)) (led_some k s l)) (λ d. subst (λ v. 0 < v) (sym (ways_not Labelled tail n k d)) (let q : 1 ≤ choose n k = choose_some n k l in omega (arith, q))) (led_or_not tail)
  where
    led_some : (k : ℕ) → 1 ≤ k → k ≤ n → 0 < led_ways n k
    led_some zero s l = absurd (omega (arith, s))
    led_some (suc k) s l = let q : 1 ≤ choose (n - 1) k = choose_some (n - 1) k (omega (arith, l)) in omega (arith, q)

-- THE NEXT ROOM
module _ (t : Looked) (x f : ℕ) (L : List ℕ) (n i : ℕ) (C : List ℕ) (r : IsRoomOf t x f L n i C) (q : ℕ) (T : List ℕ) (head : IsHead t.program.universe (tail_at (plain_of t.program) x f) L i q C T) where
  abbrev tail : Tail
  tail = tail_at (plain_of t.program) x f

  -- the next labels
  pub room_next : (D U : List ℕ) → AreParts t L n i D U × IsHead t.program.universe tail L i (q + 1) D U → IsNextRoom t x f L n i C i D U
  room_next D U a = record {
    parts = a.0;
    next = room_labels (plain_of t.program) (entry_of t.counts) tail L n i C D r.fills (labels_next t.program.universe tail L n i q C T D U r.labels head a.1);
  }

  module _ (small : q < head_ways t.program.universe tail n i) (past : (q + 1 < head_ways t.program.universe tail n i) → ⊥) (m : ℕ) (found : IsFirstFrom (Fills t x f n) (i + 1) (suc n) m) where
    ended : IsLast (HasLabels (plain_of t.program) tail L i) Lexical C
    ended = labels_last t.program.universe tail L n i q C T r.labels r.own head (omega (arith, small, past))

    -- the next size
    pub room_turned : (D U : List ℕ) → m ≤ n → AreParts t L n m D U × IsHead t.program.universe tail L m 0 D U → IsNextRoom t x f L n i C m D U
    room_turned D U l a =
        let first = labels_first t.program.universe tail L n m D U r.labels a.0.first a.1 in
        record {
          parts = a.0;
          next = room_size (plain_of t.program) (entry_of t.counts) tail L n i m C D ended
              (record {
                here = (r.fills, (C, r.own));
                there = (found.some (omega (arith, l)), (D, first.there));
                rises = omega (arith, found.past);
                between = λ y c v w. found.empty y (omega (arith, v)) w c.0;
              }) first;
        }

    -- no size is left
    pub room_ended : n < m → IsLastRoom t x f L n i C
    room_ended l = room_last (plain_of t.program) (entry_of t.counts) tail L n i C
        (record { there = (r.fills, (C, r.own)); after = λ y c v. found.empty y (omega (arith, v)) (omega (arith, c.0.0, l)) c.0 }) ended
