-- Labels in two parts.
use Rattle.std.proofs.Common.{◌≡◌, ℕ, zero, suc, ◌-◌, ◌≤◌, ◌<◌, List, [], ◌∷◌, ◌++◌, append_assoc, inl, inr, ⊎_elim, length, refl, sym, ◌∙◌, ap, subst, arith, Option, map, IsTrue, nat_lt, take}
use Rattle.luo_finite.specs.Listing.{In}
use Rattle.luo_finite.specs.Binomial.{choose}
use Rattle.luo_finite.specs.Places.{IsPlace, IsChoice, Lexical}
use Rattle.luo_finite.proofs.Membership.{In-append_left, In-append_right, In-map}
use Rattle.luo_model.specs.declared.program.Universe.{Universe}
use Rattle.luo_model.specs.declared.program.Universe.TheVariants.{Unlabelled, Labelled}
use Rattle.luo_model.specs.declared.program.Kind.{Kind}
use Rattle.luo_model.specs.declared.program.Kind.TheVariants.{Sequence, Set, Cycle, Multiset, Powerset}
use Rattle.luo_model.specs.declared.program.Part.{Part}
use Rattle.luo_model.specs.declared.program.Shape.{Shape}
use Rattle.luo_model.specs.declared.program.Shape.TheVariants as shape
use Rattle.luo_model.specs.Structures.{Rising}
use Rattle.luo_counting.specs.Sharing.{splits, IsRoom}
use Rattle.luo_counting.proofs.Splits.{put_left, put_right, split-left, split-right, split-rising, split-length}
use Rattle.luo_places.specs.Numbers.{ways, led_ways, IsPart, one_less}
use Rattle.luo_places.specs.Tails.{Tail, factors, items, kind_behind, tail_of, behind_first, behind_some, head_ways, IsHead, IsLedPart}
use Rattle.luo_rank.specs.inner.Lookup.{IsChosen, ArePlaced, ArePartLabels, IsLedTail}
use Rattle.luo_rank.proofs.TailLemmas.{true_less}

nil_right : (xs : List ℕ) → xs ≡ xs ++ []
nil_right [] = refl
nil_right (x ∷ xs) = ap (λ v. x ∷ v) (nil_right xs)

pub chosen_none : (labels chosen first rest : List ℕ) → length labels ≡ 0 → IsChoice labels (length chosen) chosen → IsChosen labels chosen first first rest rest
chosen_none [] [] first rest e c = (nil_right first, ([], inl refl, nil_right rest))
chosen_none [] (x ∷ chosen) first rest e c = absurd (c.2 x (inl refl))
chosen_none (l ∷ labels) chosen first rest e c = absurd (omega (arith, e))

pub chosen_with : (labels others chosen more first mid new rest rest_new : List ℕ) (l x : ℕ) → labels ≡ l ∷ others → chosen ≡ x ∷ more → x ≡ l → mid ≡ first ++ l ∷ [] → IsChosen others more mid new rest rest_new → IsChosen labels chosen first new rest rest_new
chosen_with labels others chosen more first mid new rest rest_new l x e f q m k =
    let same : l ∷ more ≡ chosen = (λ i. sym q i ∷ more) ∙ sym f in
    let all : IsChosen (l ∷ others) (l ∷ more) first new rest rest_new = (
      k.0 ∙ ap (λ v. v ++ more) m ∙ append_assoc first (l ∷ []) more,
      (
        k.1.0,
        In-append_left (l ∷ more, k.1.0) (map (put_left l) (splits others)) (map (put_right l) (splits others)) (In-map (put_left l) (more, k.1.0) (splits others) k.1.1),
        k.1.2,
      ),
    ) in
    subst (λ L. IsChosen L chosen first new rest rest_new) (sym e) (subst (λ C. IsChosen (l ∷ others) C first new rest rest_new) same all)

pub chosen_without : (labels others chosen first new rest mid rest_new : List ℕ) (l : ℕ) → labels ≡ l ∷ others → mid ≡ rest ++ l ∷ [] → IsChosen others chosen first new mid rest_new → IsChosen labels chosen first new rest rest_new
chosen_without labels others chosen first new rest mid rest_new l e m k =
    let all : IsChosen (l ∷ others) chosen first new rest rest_new = (
      k.0,
      (
        l ∷ k.1.0,
        In-append_right (chosen, l ∷ k.1.0) (map (put_left l) (splits others)) (map (put_right l) (splits others)) (In-map (put_right l) (chosen, k.1.0) (splits others) k.1.1),
        k.1.2 ∙ ap (λ v. v ++ k.1.0) m ∙ append_assoc rest (l ∷ []) k.1.0,
      ),
    ) in
    subst (λ L. IsChosen L chosen first new rest rest_new) (sym e) all

-- choices of the others
pub others_rise : (labels others : List ℕ) (l : ℕ) → labels ≡ l ∷ others → Rising labels → Rising others
others_rise labels others l e r = (subst Rising e r).1

pub choice_with : (labels others chosen more : List ℕ) (l x : ℕ) → labels ≡ l ∷ others → chosen ≡ x ∷ more → x ≡ l → Rising labels → IsChoice labels (length chosen) chosen → IsChoice others (length more) more
choice_with labels others chosen more l x e f q r c =
    let d : IsChoice (l ∷ others) (length (x ∷ more)) (x ∷ more) = subst (λ L. IsChoice L (length (x ∷ more)) (x ∷ more)) e (subst (λ C. IsChoice labels (length C) C) f c) in
    (d.0.1, refl, λ z i. ⊎_elim (λ (w : z ≡ l). absurd (let h : x < z = d.0.0 z i in omega (arith, h, w, q))) (λ j. j) (d.2 z (inr i)))

pub choice_without : (labels others chosen more : List ℕ) (l x : ℕ) → labels ≡ l ∷ others → chosen ≡ x ∷ more → (x ≡ l → ⊥) → Rising labels → IsChoice labels (length chosen) chosen → IsChoice others (length chosen) chosen
choice_without labels others chosen more l x e f q r c =
    let d : IsChoice (l ∷ others) (length (x ∷ more)) (x ∷ more) = subst (λ L. IsChoice L (length (x ∷ more)) (x ∷ more)) e (subst (λ C. IsChoice labels (length C) C) f c) in
    let rising : Rising (l ∷ others) = subst Rising e r in
    let k : In x others = ⊎_elim (λ (w : x ≡ l). absurd (q w)) (λ j. j) (d.2 x (inl refl)) in
    let over : l < x = rising.0 x k in
    subst (λ C. IsChoice others (length C) C) (sym f)
    (d.0, refl, λ z i. ⊎_elim (λ (w : z ≡ l). ⊎_elim (λ (v : z ≡ x). absurd (omega (arith, w, v, over))) (λ j. absurd (let h : x < z = d.0.0 z j in omega (arith, h, w, over))) i) (λ j. j) (d.2 z i))

pub choice_empty : (labels others chosen : List ℕ) (l : ℕ) → labels ≡ l ∷ others → length chosen ≡ 0 → IsChoice others (length chosen) chosen
choice_empty labels others [] l e z = (tt, refl, λ y i. absurd i)
choice_empty labels others (x ∷ chosen) l e z = absurd (omega (arith, z))

-- WHETHER the first has the least label
pub same_kind : (kind : Kind) (y low : ℕ) (high : Option ℕ) → kind_behind kind ≡ kind → (f : ℕ) → (lo : ℕ) × (hi : Option ℕ) × (behind_some (items kind y low high) f ≡ items kind y lo hi)
same_kind kind y low high e zero = (low, high, refl)
same_kind kind y low high e (suc f) = let r = same_kind kind y low high e f in (r.0 - 1, one_less r.1, ap behind_first r.2 ∙ ap (λ k. items k y (r.0 - 1) (one_less r.1)) e)

pub behind_cycle : (y low : ℕ) (high : Option ℕ) (f : ℕ) → (lo : ℕ) × (hi : Option ℕ) × (behind_some (items Cycle y low high) (suc f) ≡ items Sequence y lo hi)
behind_cycle y low high zero = (low - 1, one_less high, refl)
behind_cycle y low high (suc f) = let r = behind_cycle y low high f in (r.0 - 1, one_less r.1, ap behind_first r.2)

pub set_led : (y low : ℕ) (high : Option ℕ) (f : ℕ) → IsLedTail (behind_some (items Set y low high) f)
set_led y low high f = subst IsLedTail (sym (same_kind Set y low high refl f).2) tt

pub cycle_led : (y low : ℕ) (high : Option ℕ) (f : ℕ) → f ≡ 0 → IsLedTail (behind_some (items Cycle y low high) f)
cycle_led y low high f e = subst (λ k. IsLedTail (behind_some (items Cycle y low high) k)) (sym e) tt

pub led_cycle : (y low : ℕ) (high : Option ℕ) (f : ℕ) → IsLedTail (behind_some (items Cycle y low high) f) → f ≡ 0
led_cycle y low high zero h = refl
led_cycle y low high (suc f) h = absurd (subst IsLedTail (behind_cycle y low high f).2 h)

pub other_led : (kind : Kind) (y low : ℕ) (high : Option ℕ) (f : ℕ) → (kind ≡ Set → ⊥) → (kind ≡ Cycle → ⊥) → IsLedTail (behind_some (items kind y low high) f) → ⊥
other_led Sequence y low high f a b h = subst IsLedTail (same_kind Sequence y low high refl f).2 h
other_led Set y low high f a b h = a refl
other_led Cycle y low high f a b h = b refl
other_led Multiset y low high f a b h = subst IsLedTail (same_kind Multiset y low high refl f).2 h
other_led Powerset y low high f a b h = subst IsLedTail (same_kind Powerset y low high refl f).2 h

pub still_factors : (parts : List Part) (f : ℕ) → (rest : List Part) × (behind_some (factors parts) f ≡ factors rest)
still_factors parts zero = (parts, refl)
still_factors parts (suc f) = next (still_factors parts f)
  where
    next : (rest : List Part) × (behind_some (factors parts) f ≡ factors rest) → (rest : List Part) × (behind_some (factors parts) (suc f) ≡ factors rest)
    next ([], e) = ([], ap behind_first e)
    next (part ∷ rest, e) = (rest, ap behind_first e)

pub default_led : (now s : Shape) (f : ℕ) → now ≡ s → ((kind : Kind) (part : Part) (low : ℕ) (high : Option ℕ) → now ≡ shape.Coll kind part low high → ⊥) → IsLedTail (behind_some (tail_of s) f) → ⊥
default_led now (shape.Atom w) f e d h = subst IsLedTail (still_factors [] f).1 h
default_led now (shape.Union parts) f e d h = subst IsLedTail (still_factors [] f).1 h
default_led now (shape.Product parts) f e d h = subst IsLedTail (still_factors parts f).1 h
default_led now (shape.Coll kind part low high) f e d h = d kind part low high e

pub less_one : (f : ℕ) → IsTrue (nat_lt f 1) → f ≡ 0
less_one f h = omega (arith, true_less f 1 h)

pub one_less_of : (f : ℕ) → f ≡ 0 → IsTrue (nat_lt f 1)
one_less_of f e = subst (λ k. IsTrue (nat_lt k 1)) (sym e) refl

take_all : (xs ys : List ℕ) (n : ℕ) → n ≡ length xs → take n (xs ++ ys) ≡ xs
take_all [] ys n e = ap (λ k. take k ys) e ∙ take_none ys
  where
    take_none : (ys : List ℕ) → take 0 ys ≡ []
    take_none [] = refl
    take_none (y ∷ ys) = refl
take_all (x ∷ xs) ys zero e = absurd (omega (arith, e))
take_all (x ∷ xs) ys (suc n) e = ap (λ v. x ∷ v) (take_all xs ys n (let q : n ≡ length xs = omega (arith, e) in q))

-- what is written over all of a list is what stands there
pub written_over : (out over now : List ℕ) (n : ℕ) → n ≡ length out → now ≡ take n (out ++ over) → now ≡ out
written_over out over now n e q = q ∙ take_all out over n e

pub led_not : (u : Universe) (tail : Tail) (L : List ℕ) (n size q : ℕ) (S T : List ℕ) → (IsLedTail tail → ⊥) → IsPart u L size q S T → IsHead u tail L size q S T
led_not Unlabelled tail L n size q S T d h = h
led_not Labelled (factors parts) L n size q S T d h = h
led_not Labelled (items Sequence y low high) L n size q S T d h = h
led_not Labelled (items Set y low high) L n size q S T d h = absurd (d tt)
led_not Labelled (items Cycle y low high) L n size q S T d h = absurd (d tt)
led_not Labelled (items Multiset y low high) L n size q S T d h = h
led_not Labelled (items Powerset y low high) L n size q S T d h = h

pub ways_not : (u : Universe) (tail : Tail) (n size : ℕ) → (IsLedTail tail → ⊥) → head_ways u tail n size ≡ ways u n size
ways_not Unlabelled tail n size d = refl
ways_not Labelled (factors parts) n size d = refl
ways_not Labelled (items Sequence y low high) n size d = refl
ways_not Labelled (items Set y low high) n size d = absurd (d tt)
ways_not Labelled (items Cycle y low high) n size d = absurd (d tt)
ways_not Labelled (items Multiset y low high) n size d = refl
ways_not Labelled (items Powerset y low high) n size d = refl

pub led_head : (tail : Tail) (L : List ℕ) (size q : ℕ) (S T : List ℕ) → IsLedTail tail → IsLedPart L size q S T → IsHead Labelled tail L size q S T
led_head (factors parts) L size q S T d h = absurd d
led_head (items Sequence y low high) L size q S T d h = absurd d
led_head (items Set y low high) L size q S T d h = h
led_head (items Cycle y low high) L size q S T d h = h
led_head (items Multiset y low high) L size q S T d h = absurd d
led_head (items Powerset y low high) L size q S T d h = absurd d

pub ways_led : (tail : Tail) (n size : ℕ) → IsLedTail tail → head_ways Labelled tail n size ≡ led_ways n size
ways_led (factors parts) n size d = absurd d
ways_led (items Sequence y low high) n size d = absurd d
ways_led (items Set y low high) n size d = refl
ways_led (items Cycle y low high) n size d = refl
ways_led (items Multiset y low high) n size d = absurd d
ways_led (items Powerset y low high) n size d = absurd d

-- all parts of labels
pub unlabelled_parts : (u : Universe) (tail : Tail) (L : List ℕ) (n size q : ℕ) (S T : List ℕ) → u ≡ Unlabelled → q < head_ways u tail n size → ArePartLabels u tail L n size q S T
unlabelled_parts Unlabelled tail L n size q S T e h = record { head = let z : q ≡ 0 = omega (arith, h) in z; first = tt; rest = tt }
unlabelled_parts Labelled tail L n size q S T e h = absurd (cc)

rooms : (L C T : List ℕ) (n size : ℕ) → IsRoom Labelled L n → In (C, T) (splits L) → length C ≡ size → IsRoom Labelled C size × IsRoom Labelled T (n - size)
rooms L C T n size room i e =
    let r = split-rising L (C, T) room.0 i in
    ((r.0, e, λ x j. room.2 x (split-left L (C, T) x i j)), (r.1, (let q : length T ≡ n - size = omega (arith, split-length L (C, T) i, e, room.1) in q), λ x j. room.2 x (split-right L (C, T) x i j)))

pub plain_parts : (u : Universe) (tail : Tail) (L : List ℕ) (n size q : ℕ) (first S T : List ℕ) → u ≡ Labelled → IsRoom u L n → (IsLedTail tail → ⊥) → first ≡ [] → ArePlaced L size q first S T → ArePartLabels u tail L n size q S T
plain_parts Unlabelled tail L n size q first S T e room d z p = absurd (cc)
plain_parts Labelled tail L n size q first S T e room d z (C, m, i, p) =
    let same : C ≡ S = sym (m ∙ ap (λ v. v ++ C) z) in
    subst (λ v. ArePartLabels Labelled tail L n size q v T) same
    (let r = rooms L C T n size room i p.there.1 in record { head = led_not Labelled tail L n size q C T d (i, p); first = r.0; rest = r.1 })

pub led_parts : (u : Universe) (tail : Tail) (L others : List ℕ) (l n size q : ℕ) (first S T : List ℕ) → u ≡ Labelled → IsRoom u L n → IsLedTail tail → L ≡ l ∷ others → 1 ≤ size → first ≡ l ∷ [] → ArePlaced others (size - 1) q first S T → ArePartLabels u tail L n size q S T
led_parts Unlabelled tail L others l n size q first S T e room d f g z p = absurd (cc)
led_parts Labelled tail L others l n zero q first S T e room d f g z p = absurd (omega (arith, g))
led_parts Labelled tail L others l n (suc size) q first S T e room d f g z (C, m, i, p) =
    let same : l ∷ C ≡ S = sym (m ∙ ap (λ v. v ++ C) z) in
    subst (λ M. ArePartLabels Labelled tail M n (suc size) q S T) (sym f)
    (subst (λ v. ArePartLabels Labelled tail (l ∷ others) n (suc size) q v T) same
    (let r = rooms (l ∷ others) (l ∷ C) T n (suc size) (subst (λ M. IsRoom Labelled M n) f room)
    (In-append_left (l ∷ C, T) (map (put_left l) (splits others)) (map (put_right l) (splits others)) (In-map (put_left l) (C, T) (splits others) i)) (ap suc (p.there.1 ∙ (let k : suc size - 1 ≡ size = omega arith in k))) in record {
      head = led_head tail (l ∷ others) (suc size) q (l ∷ C) T d (C, refl, i, subst (λ k. IsPlace (IsChoice others k) Lexical q C) (let k : suc size - 1 ≡ size = omega arith in k) p);
      first = r.0;
      rest = r.1;
    }))

-- a first with the least label has one
pub led_size : (n size q : ℕ) → q < led_ways n size → 1 ≤ size
led_size n zero q h = absurd (omega (arith, h))
led_size n (suc size) q h = omega arith

pub led_place : (n size q : ℕ) → q < led_ways n size → q < choose (n - 1) (size - 1)
led_place n zero q h = absurd (omega (arith, h))
led_place n (suc size) q h = subst (λ k. q < choose (n - 1) k) (let k : size ≡ suc size - 1 = omega arith in k) h

pub led_room_size : (u : Universe) (tail : Tail) (n size q : ℕ) → u ≡ Labelled → IsLedTail tail → q < head_ways u tail n size → 1 ≤ size
led_room_size Unlabelled tail n size q e d h = absurd (cc)
led_room_size Labelled tail n size q e d h = led_size n size q (subst (λ w. q < w) (ways_led tail n size d) h)

-- what the choice is asked for
pub led_asked : (u : Universe) (tail : Tail) (L others : List ℕ) (l n size q : ℕ) → u ≡ Labelled → IsRoom u L n → IsLedTail tail → L ≡ l ∷ others → q < head_ways u tail n size → q < choose (length others) (size - 1)
led_asked Unlabelled tail L others l n size q e room d f h = absurd (cc)
led_asked Labelled tail L others l n size q e room d f h =
    let long : n - 1 ≡ length others = omega (arith, room.1, ap length f) in
    subst (λ m. q < choose m (size - 1)) long (led_place n size q (subst (λ w. q < w) (ways_led tail n size d) h))

pub plain_asked : (u : Universe) (tail : Tail) (L : List ℕ) (n size q : ℕ) → u ≡ Labelled → IsRoom u L n → (IsLedTail tail → ⊥) → q < head_ways u tail n size → q < choose (length L) size
plain_asked Unlabelled tail L n size q e room d h = absurd (cc)
plain_asked Labelled tail L n size q e room d h = subst (λ m. q < choose m size) (sym room.1) (subst (λ w. q < w) (ways_not Labelled tail n size d) h)

-- no labels are of size 0, and a first with the least label has one
pub none_asked : (u : Universe) (tail : Tail) (L : List ℕ) (n size q : ℕ) → u ≡ Labelled → IsRoom u L n → length L ≡ 0 → size ≤ n → IsLedTail tail → q < head_ways u tail n size → ⊥
none_asked Unlabelled tail L n size q e room z l d h = absurd (cc)
none_asked Labelled tail L n size q e room z l d h = omega (arith, room.1, z, l, led_size n size q (subst (λ w. q < w) (ways_led tail n size d) h))

pub room_rises : (u : Universe) (L : List ℕ) (n : ℕ) → u ≡ Labelled → IsRoom u L n → Rising L × (length L ≡ n)
room_rises Unlabelled L n e room = absurd (cc)
room_rises Labelled L n e room = (room.0, room.1)
