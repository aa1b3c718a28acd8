-- Labels sent to others so that they rise, and the order of structures with them.
use Rattle.std.proofs.Common.{◌≡◌, ◌⊎◌, ℕ, zero, suc, ◌+◌, ◌≤◌, ◌<◌, Bool, true, false, if◌then◌else◌, nat_le, inl, inr, ⊎_elim, List, [], ◌∷◌, ◌++◌, map, min, refl, sym, ◌∙◌, ap, subst, arith}
use Rattle.std.specs.declared.cmp.Ordering.{Ordering}
use Rattle.std.specs.declared.cmp.Ordering.TheVariants.{Less, Equal, Greater}
use Rattle.std.specs.Cmp.Lexicographic.{slice_cmp}
use Rattle.std.specs.Ordering.{nat_cmp, MatchOrdering, ordering_then}
use Rattle.std.proofs.lemmas.Cmp.{ranked}
use Rattle.std.proofs.lemmas.List.{map-append}
use Rattle.std.proofs.lemmas.Bool.{leb-true, le-leb}
use Rattle.std.specs.Bool.{one_answer}
use Rattle.luo_finite.specs.Listing.{In}
use Rattle.luo_finite.specs.Each.{Each}
use Rattle.luo_finite.proofs.Orders.{nat_less, nat_itself}
use Rattle.luo_model.specs.Tree.{Tree, Trees, Atom, Inj, Tup, Coll, none, more, size_of, sizes_of, label_list, labels_of, all_labels_of, least_of}
use Rattle.luo_model.specs.Order.{put, sorted, then_by, by_size_and_labels, by_form, by_parts, order_of}
use Rattle.luo_places.specs.relabelling.Relabelling.{sent, relabelled, all_relabelled, Rises, IsAmong}

three_ways : (a b : ℕ) → (a < b) ⊎ ((a ≡ b) ⊎ (b < a))
three_ways a b = grind arith

more_is : (x y : ℕ) (o : Ordering) → MatchOrdering o (x < y) (x ≡ y) (y < x) → y < x → o ≡ Greater
more_is x y Less m h = absurd (omega arith)
more_is x y Equal m h = absurd (omega arith)
more_is x y Greater m h = refl

nat_more : (x y : ℕ) → y < x → nat_cmp x y ≡ Greater
nat_more x y h = more_is x y (nat_cmp x y) (ranked x y (nat_cmp x y) refl) h

min_which : (a b : ℕ) → ((a ≤ b) × (min a b ≡ a)) ⊎ ((b ≤ a) × (min a b ≡ b))
min_which a b = ⊎_elim (λ (h : a < b). inl (omega arith, omega arith)) (λ r. ⊎_elim (λ (e : a ≡ b). inl (omega arith, omega arith)) (λ (h : b < a). inr (omega arith, omega arith)) r) (three_ways a b)

pub Each-left : {A : Type 0} (M : A → Type 0) (xs ys : List A) → Each M (xs ++ ys) → Each M xs
Each-left M [] ys m = tt
Each-left M (x ∷ xs) ys m = (m.0, Each-left M xs ys m.1)

pub Each-right : {A : Type 0} (M : A → Type 0) (xs ys : List A) → Each M (xs ++ ys) → Each M ys
Each-right M [] ys m = m
Each-right M (x ∷ xs) ys m = Each-right M xs ys m.1

pub Each-at : {A : Type 0} (M : A → Type 0) (x : A) (xs : List A) → Each M xs → In x xs → M x
Each-at M x [] m i = absurd i
Each-at M x (y ∷ xs) m (inl e) = subst M (sym e) m.0
Each-at M x (y ∷ xs) m (inr i) = Each-at M x xs m.1 i

pub Each-all : {A : Type 0} (M : A → Type 0) (xs : List A) → ((x : A) → In x xs → M x) → Each M xs
Each-all M [] h = tt
Each-all M (x ∷ xs) h = (h x (inl refl), Each-all M xs (λ y i. h y (inr i)))

-- sizes stay, on any labels
mutual
  pub size_sent : (f : ℕ → ℕ) (t : Tree) → size_of (relabelled f t) ≡ size_of t
  size_sent f (Atom w l) = refl
  size_sent f (Inj i t) = size_sent f t
  size_sent f (Tup ts) = sizes_sent f ts
  size_sent f (Coll ts) = sizes_sent f ts

  pub sizes_sent : (f : ℕ → ℕ) (ts : Trees) → sizes_of (all_relabelled f ts) ≡ sizes_of ts
  sizes_sent f none = refl
  sizes_sent f (more t ts) = let a = size_sent f t in let b = sizes_sent f ts in λ i. a i + b i

module _ (f : ℕ → ℕ) (D : List ℕ) (rises : Rises f D) where
  pub sent_rises : (l k : ℕ) → IsAmong D l → IsAmong D k → l < k → sent f l < sent f k
  sent_rises zero zero a b h = absurd (omega arith)
  sent_rises zero (suc k) a (inl e) h = absurd (omega (arith, e))
  sent_rises zero (suc k) a (inr i) h = omega (arith, rises.labels (suc k) i)
  sent_rises (suc l) zero a b h = absurd (omega arith)
  sent_rises (suc l) (suc k) (inl e) b h = absurd (omega (arith, e))
  sent_rises (suc l) (suc k) (inr i) (inl e) h = absurd (omega (arith, e))
  sent_rises (suc l) (suc k) (inr i) (inr j) h = rises.rising (suc l) (suc k) i j h

  pub sent_le : (l k : ℕ) → IsAmong D l → IsAmong D k → l ≤ k → sent f l ≤ sent f k
  sent_le l k a b h =
      ⊎_elim (λ (g : l < k). omega (arith, sent_rises l k a b g)) (λ r. ⊎_elim (λ (e : l ≡ k). omega (arith, ap (sent f) e)) (λ (g : k < l). absurd (omega arith)) r) (three_ways l k)

  le_sent_back : (l k : ℕ) → IsAmong D l → IsAmong D k → sent f l ≤ sent f k → l ≤ k
  le_sent_back l k a b h = ⊎_elim (λ (g : l < k). omega arith) (λ r. ⊎_elim (λ (e : l ≡ k). omega arith) (λ (g : k < l). absurd (omega (arith, sent_rises k l b a g))) r) (three_ways l k)

  cmp_sent : (l k : ℕ) → IsAmong D l → IsAmong D k → nat_cmp (sent f l) (sent f k) ≡ nat_cmp l k
  cmp_sent l k a b =
      ⊎_elim (λ h. nat_less (sent f l) (sent f k) (sent_rises l k a b h) ∙ sym (nat_less l k h)) (λ r. ⊎_elim
      (λ e. ap (λ m. nat_cmp (sent f l) (sent f m)) (sym e) ∙ nat_itself (sent f l) ∙ sym (nat_itself l) ∙ ap (nat_cmp l) e)
      (λ h. nat_more (sent f l) (sent f k) (sent_rises k l b a h) ∙ sym (nat_more l k h)) r) (three_ways l k)

  le_sent : (l k : ℕ) → IsAmong D l → IsAmong D k → nat_le (sent f l) (sent f k) ≡ nat_le l k
  le_sent l k a b =
      one_answer {P = l ≤ k} (nat_le (sent f l) (sent f k)) (nat_le l k)
      (λ e. le_sent_back l k a b (leb-true (sent f l) (sent f k) e), λ h. le-leb (sent f l) (sent f k) (sent_le l k a b h))
      (leb-true l k, le-leb l k)

  put_each : (x : ℕ) (ys : List ℕ) → IsAmong D x → Each (IsAmong D) ys → Each (IsAmong D) (put x ys)
  put_each x [] a m = (a, tt)
  put_each x (y ∷ ys) a m = by (nat_le x y) (put_each x ys a m.1)
    where
      by : (b : Bool) → Each (IsAmong D) (put x ys) → Each (IsAmong D) (if b then x ∷ (y ∷ ys) else y ∷ put x ys)
      by true r = (a, m)
      by false r = (m.0, r)

  put_sent : (x : ℕ) (ys : List ℕ) → IsAmong D x → Each (IsAmong D) ys → put (sent f x) (map (sent f) ys) ≡ map (sent f) (put x ys)
  put_sent x [] a m = refl
  put_sent x (y ∷ ys) a m =
      ap (λ (b : Bool). if b then sent f x ∷ (sent f y ∷ map (sent f) ys) else sent f y ∷ put (sent f x) (map (sent f) ys)) (le_sent x y a m.0) ∙ by (nat_le x y) (put_sent x ys a m.1)
    where
      by : (b : Bool) → put (sent f x) (map (sent f) ys) ≡ map (sent f) (put x ys) → (if b then sent f x ∷ (sent f y ∷ map (sent f) ys) else sent f y ∷ put (sent f x) (map (sent f) ys)) ≡ map (sent f) (if b then x ∷ (y ∷ ys) else y ∷ put x ys)
      by true e = refl
      by false e = ap (λ r. sent f y ∷ r) e

  sorted_each : (xs : List ℕ) → Each (IsAmong D) xs → Each (IsAmong D) (sorted xs)
  sorted_each [] m = tt
  sorted_each (x ∷ xs) m = put_each x (sorted xs) m.0 (sorted_each xs m.1)

  sorted_sent : (xs : List ℕ) → Each (IsAmong D) xs → sorted (map (sent f) xs) ≡ map (sent f) (sorted xs)
  sorted_sent [] m = refl
  sorted_sent (x ∷ xs) m = ap (put (sent f x)) (sorted_sent xs m.1) ∙ put_sent x (sorted xs) m.0 (sorted_each xs m.1)

  lists_sent : (xs ys : List ℕ) → Each (IsAmong D) xs → Each (IsAmong D) ys → slice_cmp nat_cmp (map (sent f) xs) (map (sent f) ys) ≡ slice_cmp nat_cmp xs ys
  lists_sent [] [] m n = refl
  lists_sent [] (y ∷ ys) m n = refl
  lists_sent (x ∷ xs) [] m n = refl
  lists_sent (x ∷ xs) (y ∷ ys) m n = let a = cmp_sent x y m.0 n.0 in let b = lists_sent xs ys m.1 n.1 in λ i. ordering_then (a i) (b i)

  pub least_among : (xs : List ℕ) → Each (IsAmong D) xs → IsAmong D (least_of xs)
  least_among [] m = inl refl
  least_among (x ∷ []) m = m.0
  least_among (x ∷ (y ∷ l)) m =
      ⊎_elim (λ w. subst (IsAmong D) (sym w.1) m.0) (λ w. subst (IsAmong D) (sym w.1) (least_among (y ∷ l) m.1)) (min_which x (least_of (y ∷ l)))

  min_sent : (a b : ℕ) → IsAmong D a → IsAmong D b → min (sent f a) (sent f b) ≡ sent f (min a b)
  min_sent a b x y =
      ⊎_elim (λ w. let l = sent_le a b x y w.0 in let e : min (sent f a) (sent f b) ≡ sent f a = omega arith in e ∙ ap (sent f) (sym w.1))
      (λ w. let l = sent_le b a y x w.0 in let e : min (sent f a) (sent f b) ≡ sent f b = omega arith in e ∙ ap (sent f) (sym w.1)) (min_which a b)

  pub least_sent : (xs : List ℕ) → Each (IsAmong D) xs → least_of (map (sent f) xs) ≡ sent f (least_of xs)
  least_sent [] m = refl
  least_sent (x ∷ []) m = refl
  least_sent (x ∷ (y ∷ l)) m = ap (min (sent f x)) (least_sent (y ∷ l) m.1) ∙ min_sent x (least_of (y ∷ l)) m.0 (least_among (y ∷ l) m.1)

  pub label_among : (l : ℕ) → Each (IsAmong D) (label_list l) → IsAmong D l
  label_among zero m = inl refl
  label_among (suc l) m = m.0

  label_sent : (l : ℕ) → Each (IsAmong D) (label_list l) → label_list (sent f l) ≡ map (sent f) (label_list l)
  label_sent zero m = refl
  label_sent (suc l) (inl e, m) = absurd (omega (arith, e))
  label_sent (suc l) (inr i, m) = by (f (suc l)) (rises.labels (suc l) i)
    where
      by : (k : ℕ) → 1 ≤ k → label_list k ≡ k ∷ []
      by zero h = absurd (omega arith)
      by (suc k) h = refl

  mutual
    pub labels_sent : (t : Tree) → Each (IsAmong D) (labels_of t) → labels_of (relabelled f t) ≡ map (sent f) (labels_of t)
    labels_sent (Atom w l) m = label_sent l m
    labels_sent (Inj i t) m = labels_sent t m
    labels_sent (Tup ts) m = all_labels_sent ts m
    labels_sent (Coll ts) m = all_labels_sent ts m

    pub all_labels_sent : (ts : Trees) → Each (IsAmong D) (all_labels_of ts) → all_labels_of (all_relabelled f ts) ≡ map (sent f) (all_labels_of ts)
    all_labels_sent none m = refl
    all_labels_sent (more t ts) m =
        let a = labels_sent t (Each-left (IsAmong D) (labels_of t) (all_labels_of ts) m) in
        let b = all_labels_sent ts (Each-right (IsAmong D) (labels_of t) (all_labels_of ts) m) in
        (λ i. a i ++ b i) ∙ sym (map-append (sent f) (labels_of t) (all_labels_of ts))

  both_sent : (s t : Tree) → Each (IsAmong D) (labels_of s) → Each (IsAmong D) (labels_of t) → by_size_and_labels (relabelled f s) (relabelled f t) ≡ by_size_and_labels s t
  both_sent s t m n =
      let a = size_sent f s in let b = size_sent f t in
      let c : sorted (labels_of (relabelled f s)) ≡ map (sent f) (sorted (labels_of s)) = ap sorted (labels_sent s m) ∙ sorted_sent (labels_of s) m in
      let d : sorted (labels_of (relabelled f t)) ≡ map (sent f) (sorted (labels_of t)) = ap sorted (labels_sent t n) ∙ sorted_sent (labels_of t) n in
      (λ i. then_by (nat_cmp (a i) (b i)) (slice_cmp nat_cmp (c i) (d i)))
      ∙ ap (then_by (nat_cmp (size_of s) (size_of t))) (lists_sent (sorted (labels_of s)) (sorted (labels_of t)) (sorted_each (labels_of s) m) (sorted_each (labels_of t) n))

  mutual
    form_sent : (s t : Tree) → Each (IsAmong D) (labels_of s) → Each (IsAmong D) (labels_of t) → by_form (relabelled f s) (relabelled f t) ≡ by_form s t
    form_sent (Atom w l) (Atom v k) m n = ap (then_by (nat_cmp w v)) (cmp_sent l k (label_among l m) (label_among k n))
    form_sent (Inj i s) (Inj j t) m n = let a = both_sent s t m n in let b = form_sent s t m n in λ x. then_by (nat_cmp i j) (then_by (a x) (b x))
    form_sent (Tup ss) (Tup ts) m n = parts_sent ss ts m n
    form_sent (Coll ss) (Coll ts) m n = parts_sent ss ts m n
    form_sent (Atom w l) (Inj j t) m n = refl
    form_sent (Atom w l) (Tup ts) m n = refl
    form_sent (Atom w l) (Coll ts) m n = refl
    form_sent (Inj i s) (Atom v k) m n = refl
    form_sent (Inj i s) (Tup ts) m n = refl
    form_sent (Inj i s) (Coll ts) m n = refl
    form_sent (Tup ss) (Atom v k) m n = refl
    form_sent (Tup ss) (Inj j t) m n = refl
    form_sent (Tup ss) (Coll ts) m n = refl
    form_sent (Coll ss) (Atom v k) m n = refl
    form_sent (Coll ss) (Inj j t) m n = refl
    form_sent (Coll ss) (Tup ts) m n = refl

    parts_sent : (ss ts : Trees) → Each (IsAmong D) (all_labels_of ss) → Each (IsAmong D) (all_labels_of ts) → by_parts (all_relabelled f ss) (all_relabelled f ts) ≡ by_parts ss ts
    parts_sent none none m n = refl
    parts_sent none (more t ts) m n = refl
    parts_sent (more s ss) none m n = refl
    parts_sent (more s ss) (more t ts) m n =
        let ms = Each-left (IsAmong D) (labels_of s) (all_labels_of ss) m in let mt = Each-left (IsAmong D) (labels_of t) (all_labels_of ts) n in
        let a = both_sent s t ms mt in let b = form_sent s t ms mt in
        let c = parts_sent ss ts (Each-right (IsAmong D) (labels_of s) (all_labels_of ss) m) (Each-right (IsAmong D) (labels_of t) (all_labels_of ts) n) in
        λ x. then_by (then_by (a x) (b x)) (c x)

  -- the order of two structures stays
  pub order_sent : (s t : Tree) → Each (IsAmong D) (labels_of s) → Each (IsAmong D) (labels_of t) → order_of (relabelled f s) (relabelled f t) ≡ order_of s t
  unfolding order_of
  order_sent s t m n = let a = both_sent s t m n in let b = form_sent s t m n in λ x. then_by (a x) (b x)
