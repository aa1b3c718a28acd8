-- THE LAW of pairs that share a size, or a size and its labels: their places.
use Rattle.std.proofs.Common.{◌≡◌, ℕ, ◌+◌, ◌*◌, ◌-◌, ◌≤◌, ◌<◌, List, [], inl, inr, ⊎_elim, length, refl, sym, ◌∙◌, ap, subst, arith}
use Rattle.luo_finite.specs.Listing.{In, Sums}
use Rattle.luo_finite.specs.Range.{sum_below}
use Rattle.luo_finite.proofs.Sums.{Sums-iff, Sums-same, Sums-constant}
use Rattle.luo_finite.proofs.Products.{Sums-pairs}
use Rattle.luo_model.specs.declared.program.Universe.TheVariants.{Unlabelled, Labelled}
use Rattle.luo_model.specs.Order.{sorted}
use Rattle.luo_model.specs.Structures.{Holds}
use Rattle.luo_counting.specs.Sharing.{splits, IsRoom}
use Rattle.luo_counting.specs.Items.{On}
use Rattle.luo_counting.proofs.Splits.{Two, split-right, split-rising, split-length, Holds-split, split-Holds}
use Rattle.luo_counting.proofs.Two.{IsSized, PairOn, Holds-length}
use Rattle.luo_finite.specs.Places.{IsPlace, Lex, Lexical, IsChoice}
use Rattle.luo_finite.proofs.OrderedPlaces.{Place-iff, Place-over, Place-key, Place-pairs, Sums-keyed}
use Rattle.luo_places.proofs.Orderings.{IsByRoom, size_le, labels_le, sorted_is}
use Rattle.luo_finite.proofs.Orders.{lists_ordered}
use Rattle.luo_places.proofs.Complements.{complement, left_decides, left_chosen}

-- pairs, each counted once
pub both_counted : {A B : Type 0} (P : A → Type 0) (Q : B → Type 0) (c d : ℕ) → Sums P (λ x. 1) c → Sums Q (λ y. 1) d → Sums (λ (z : A × B). P z.0 × Q z.1) (λ z. 1) (c * d)
both_counted {A} {B} P Q c d s t = Sums-same (λ (z : A × B). P z.0 × Q z.1) (λ z. 1 * 1) (λ z. 1) (c * d) (λ z p. refl) (Sums-pairs P Q (λ x. 1) (λ y. 1) c d s t)

module _ {A B : Type 0} (M : A → Type 0) (N : B → Type 0) (size : A → ℕ) (other : B → ℕ) (la : A → List ℕ) (lb : B → List ℕ) (R : A → A → Type 0) (Q : B → B → Type 0) (o : IsByRoom size la R) (a b : ℕ → ℕ)
    (n : ℕ) where
  -- a pair of less size of its first is before, and one before has no greater
  earlier_size : (y z : A × B) → size y.0 < size z.0 → Lex R Q y z
  earlier_size y z l = inl (o.by_size y.0 z.0 l)

  size_within : (y z : A × B) → Lex R Q y z → size y.0 ≤ size z.0
  size_within y z (inl h) = size_le size la R o y.0 z.0 h
  size_within y z (inr h) = let e : size y.0 ≡ size z.0 = ap size h.0 in omega (arith, e)

  -- unlabelled: the size of the first, then the first, then the second
  pub unlabelled_place : (L : List ℕ) (i j r s : ℕ) (x : A) (y : B) → i + j ≡ n
      → ((k : ℕ) → k < i → Sums (On Unlabelled M size la [] k) (λ v. 1) (a k)) → ((k : ℕ) → k ≤ n → Sums (On Unlabelled N other lb [] k) (λ v. 1) (b k))
      → IsPlace (On Unlabelled M size la [] i) R r x → IsPlace (On Unlabelled N other lb [] j) Q s y
      → IsPlace (PairOn Unlabelled M N size other la lb L n) (Lex R Q) (sum_below (λ k. a k * b (n - k)) i + (r * b j + s)) (x, y)
  unlabelled_place L i j r s x y e known rest m k =
      subst (λ h. IsPlace P (Lex R Q) (sum_below c h + (r * b j + s)) (x, y)) m.there.1
      (Place-key P (Lex R Q) first c (x, y) (λ z p l. earlier_size z (x, y) l) (λ z p h. size_within z (x, y) h)
      (λ h l. group h (omega (arith, l, m.there.1)) (omega (arith, l, m.there.1, e)))
      (r * b j + s)
      (Place-iff (λ (z : A × B). On Unlabelled M size la [] i z.0 × On Unlabelled N other lb [] j z.1) (λ z. P z × (first z ≡ size x)) (Lex R Q) (Lex R Q) (r * b j + s) (x, y)
      (λ z p. ((p.0.0, p.1.0, omega (arith, p.0.1, p.1.1, e), tt), p.0.1 ∙ sym m.there.1)) (λ z p. ((p.0.0, p.1 ∙ m.there.1, tt), (p.0.1, omega (arith, p.0.2, p.1, m.there.1, e), tt)))
      (λ z p h. h) (λ z p h. h)
      (Place-pairs (On Unlabelled M size la [] i) R (On Unlabelled N other lb [] j) Q r (b j) s x y (λ h. o.one_way x x h h) (rest j (omega (arith, e))) m k)))
    where
      P : A × B → Type 0
      P z = PairOn Unlabelled M N size other la lb L n z

      first : A × B → ℕ
      first z = size z.0

      c : ℕ → ℕ
      c k = a k * b (n - k)

      group : (h : ℕ) → h < i → h ≤ n → Sums (λ (z : A × B). P z × (first z ≡ h)) (λ z. 1) (c h)
      group h l q =
          Sums-iff (λ (z : A × B). On Unlabelled M size la [] h z.0 × On Unlabelled N other lb [] (n - h) z.1) (λ z. P z × (first z ≡ h)) (λ z. 1) (c h)
          (λ z p. ((p.0.0, p.1.0, omega (arith, p.0.1, p.1.1, q), tt), p.0.1)) (λ z p. ((p.0.0, p.1, tt), (p.0.1, omega (arith, p.0.2, p.1, q), tt)))
          (both_counted (On Unlabelled M size la [] h) (On Unlabelled N other lb [] (n - h)) (a h) (b (n - h)) (known h l) (rest (n - h) (omega arith)))

  -- labelled: the size of the first, then its labels, then the first, then the second; F says which labels it may have
  module _ (F : List ℕ → Type 0) (ways : ℕ → ℕ) (L : List ℕ) (room : IsRoom Labelled L n) (sized : IsSized Labelled M size la) (sized_rest : IsSized Labelled N other lb) where
    abbrev pub Shared : A × B → Type 0
    Shared z = PairOn Labelled M N size other la lb L n z × F (sorted (la z.0))

    -- where the labels of the first are known
    pub to_parts : (C T : List ℕ) (k j : ℕ) → In (C, T) (splits L) → length C ≡ k → k + j ≡ n → (z : A × B) → PairOn Labelled M N size other la lb L n z → sorted (la z.0) ≡ C
        → On Labelled M size la C k z.0 × On Labelled N other lb T j z.1
    to_parts C T k j i e f z p q =
        let h = Holds-split L (la z.0) (lb z.1) p.3 in
        let left : Holds (h.0).0 (la z.0) = h.2.0 in
        let rises = split-rising L h.0 room.0 h.1 in
        let g : (h.0).0 ≡ C = sym (sorted_is (h.0).0 (la z.0) rises.0 left) ∙ q in
        let w : h.0 ≡ (C, T) = left_decides L h.0 (C, T) room.0 h.1 i g in
        let t : (h.0).1 ≡ T = ap (λ (v : Two). v.1) w in
        let c : size z.0 ≡ k = sized z.0 p.0 ∙ Holds-length (h.0).0 (la z.0) rises.0 left ∙ ap length g ∙ e in
        ((p.0, c, subst (λ l. Holds l (la z.0)) g left), (p.1, omega (arith, p.2, c, f), subst (λ l. Holds l (lb z.1)) t h.2.1))

    pub from_parts : (C T : List ℕ) (k j : ℕ) → In (C, T) (splits L) → k + j ≡ n → (z : A × B) → On Labelled M size la C k z.0 × On Labelled N other lb T j z.1
        → PairOn Labelled M N size other la lb L n z × (sorted (la z.0) ≡ C)
    from_parts C T k j i f z p = (
      (p.0.0, p.1.0, omega (arith, p.0.1, p.1.1, f), split-Holds L (la z.0) (lb z.1) (C, T) room.0 i p.0.2 p.1.2),
      sorted_is C (la z.0) (split-rising L (C, T) room.0 i).0 p.0.2,
    )

    -- the labels of a first of size k are a choice
    pub chosen_labels : (k : ℕ) (z : A × B) → Shared z → size z.0 ≡ k → IsChoice L k (sorted (la z.0)) × F (sorted (la z.0))
    chosen_labels k z p e =
        let h = Holds-split L (la z.0) (lb z.1) p.0.3 in
        let rises = split-rising L h.0 room.0 h.1 in
        let g : sorted (la z.0) ≡ (h.0).0 = sorted_is (h.0).0 (la z.0) rises.0 h.2.0 in
        let l : length (h.0).0 ≡ k = sym (Holds-length (h.0).0 (la z.0) rises.0 h.2.0) ∙ sym (sized z.0 p.0.0) ∙ e in
        let c = left_chosen L h.0 room.0 h.1 in
        (subst (IsChoice L k) (sym g) (c.0, l, c.2), p.1)

    module _ (known : (k : ℕ) → k ≤ n → (U : List ℕ) → IsRoom Labelled U k → Sums (On Labelled M size la U k) (λ v. 1) (a k))
        (rest : (k : ℕ) → k ≤ n → (U : List ℕ) → IsRoom Labelled U k → Sums (On Labelled N other lb U k) (λ v. 1) (b k)) where
      group_of : (k : ℕ) → k ≤ n → (C : List ℕ) → IsChoice L k C × F C → Sums (λ (z : A × B). (Shared z × (size z.0 ≡ k)) × (sorted (la z.0) ≡ C)) (λ z. 1) (a k * b (n - k))
      group_of k l C c =
          let t = complement L C room.0 c.0.0 c.0.2 in
          let T = t.0 in
          let f : k + (n - k) ≡ n = omega (arith, l) in
          let rises = split-rising L (C, T) room.0 t.1 in
          let long : length T ≡ n - k = omega (arith, split-length L (C, T) t.1, c.0.1, room.1) in
          Sums-iff (λ (z : A × B). On Labelled M size la C k z.0 × On Labelled N other lb T (n - k) z.1) (λ z. (Shared z × (size z.0 ≡ k)) × (sorted (la z.0) ≡ C)) (λ z. 1) (a k * b (n - k))
          (λ z p. let q = from_parts C T k (n - k) t.1 f z p in (((q.0, subst F (sym q.1) c.1), p.0.1), q.1))
          (λ z p. to_parts C T k (n - k) t.1 c.0.1 f z p.0.0.0 p.1)
          (both_counted (On Labelled M size la C k) (On Labelled N other lb T (n - k)) (a k) (b (n - k))
          (known k l C (rises.0, c.0.1, λ z i. room.2 z (c.0.2 z i))) (rest (n - k) (omega arith) T (rises.1, long, λ z i. room.2 z (split-right L (C, T) z t.1 i))))

      -- those of one size of the first
      pub size_group : (k : ℕ) → k ≤ n → Sums (λ C. IsChoice L k C × F C) (λ C. 1) (ways k) → Sums (λ (z : A × B). Shared z × (size z.0 ≡ k)) (λ z. 1) ((a k * b (n - k)) * ways k)
      size_group k l s =
          Sums-keyed (λ (z : A × B). Shared z × (size z.0 ≡ k)) (λ z. sorted (la z.0)) (λ C. IsChoice L k C × F C) (λ C. a k * b (n - k)) ((a k * b (n - k)) * ways k)
          (λ z p. chosen_labels k z p.0 p.1) (λ C c. group_of k l C c) (Sums-constant (λ C. IsChoice L k C × F C) (a k * b (n - k)) (ways k) s)

      pub labelled_place : (i j q r s : ℕ) (x : A) (y : B) (C T : List ℕ) → i + j ≡ n → In (C, T) (splits L) → ((k : ℕ) → k < i → Sums (λ D. IsChoice L k D × F D) (λ D. 1) (ways k))
          → IsPlace (λ D. IsChoice L i D × F D) Lexical q C → IsPlace (On Labelled M size la C i) R r x → IsPlace (On Labelled N other lb T j) Q s y
          → IsPlace Shared (Lex R Q) (sum_below (λ k. (a k * b (n - k)) * ways k) i + ((a i * b (n - i)) * q + (r * b j + s))) (x, y)
      labelled_place i j q r s x y C T e split choices chosen m k =
          subst (λ h. IsPlace Shared (Lex R Q) (sum_below (λ k. (a k * b (n - k)) * ways k) h + ((a i * b (n - i)) * q + (r * b j + s))) (x, y)) m.there.1
          (Place-key Shared (Lex R Q) (λ z. size z.0) (λ k. (a k * b (n - k)) * ways k) (x, y) (λ z p l. earlier_size z (x, y) l) (λ z p h. size_within z (x, y) h)
          (λ h l. size_group h (omega (arith, l, m.there.1, e)) (choices h (omega (arith, l, m.there.1))))
          ((a i * b (n - i)) * q + (r * b j + s))
          (subst (λ h. IsPlace (λ z. Shared z × (size z.0 ≡ h)) (Lex R Q) ((a i * b (n - i)) * q + (r * b j + s)) (x, y)) (sym m.there.1) in_size))
        where
          labels : sorted (la x) ≡ C
          labels = sorted_is C (la x) chosen.there.0.0 m.there.2

          -- of one size and the same labels of the first
          in_labels : IsPlace (λ z. (Shared z × (size z.0 ≡ i)) × (sorted (la z.0) ≡ C)) (Lex R Q) (r * b j + s) (x, y)
          in_labels =
              Place-iff (λ (z : A × B). On Labelled M size la C i z.0 × On Labelled N other lb T j z.1) (λ z. (Shared z × (size z.0 ≡ i)) × (sorted (la z.0) ≡ C)) (Lex R Q) (Lex R Q) (r * b j + s) (x, y)
              (λ z p. let h = from_parts C T i j split e z p in (((h.0, subst F (sym h.1) chosen.there.1), p.0.1), h.1))
              (λ z p. to_parts C T i j split chosen.there.0.1 e z p.0.0.0 p.1) (λ z p h. h) (λ z p h. h)
              (Place-pairs (On Labelled M size la C i) R (On Labelled N other lb T j) Q r (b j) s x y (λ h. o.one_way x x h h)
              (rest j (omega (arith, e)) T ((split-rising L (C, T) room.0 split).1, omega (arith, split-length L (C, T) split, chosen.there.0.1, room.1, e), λ z i. room.2 z (split-right L (C, T) z split i))) m k)

          in_size : IsPlace (λ z. Shared z × (size z.0 ≡ i)) (Lex R Q) ((a i * b (n - i)) * q + (r * b j + s)) (x, y)
          in_size =
              Place-over (λ z. Shared z × (size z.0 ≡ i)) (Lex R Q) (λ z. sorted (la z.0)) (λ D. IsChoice L i D × F D) Lexical (λ D. a i * b (n - i)) (x, y)
              (λ z p. chosen_labels i z p.0 p.1) (λ z p l. inl (o.by_labels z.0 x (p.1 ∙ sym m.there.1) l))
              (λ z p h. ⊎_elim (λ l. labels_le size la R o z.0 x l (p.1 ∙ sym m.there.1)) (λ v. inr (ap (λ u. sorted (la u)) v.0)) h)
              (λ h. lists_ordered.one_way (sorted (la x)) (sorted (la x)) h h) (λ D d l. group_of i (omega (arith, e)) D d) ((a i * b (n - i)) * q) (r * b j + s)
              (Sums-constant (λ D. (IsChoice L i D × F D) × Lexical D (sorted (la x))) (a i * b (n - i)) q
              (subst (λ h. Sums (λ D. (IsChoice L i D × F D) × Lexical D h) (λ D. 1) q) (sym labels) chosen.before))
              (subst (λ h. IsPlace (λ z. (Shared z × (size z.0 ≡ i)) × (sorted (la z.0) ≡ h)) (Lex R Q) (r * b j + s) (x, y)) (sym labels) in_labels)
