-- Places of multisets and powersets: those whose components are all before the first, and then the place of the rest.
use Rattle.std.proofs.Common.{◌≡◌, ℕ, zero, suc, ◌+◌, ◌*◌, ◌-◌, ◌≤◌, ◌<◌, List, [], ◌∷◌, ◌⊎◌, inl, inr, ⊎_elim, length, refl, sym, ◌∙◌, ap, subst, arith, Option}
use Rattle.luo_finite.specs.Listing.{In, Sums, Pairwise}
use Rattle.luo_finite.proofs.Sums.{Sums-iff, Sums-either, Sums-map, Sums-none, Sums-one, Sums-unique}
use Rattle.luo_model.specs.declared.program.Universe.TheVariants.{Unlabelled}
use Rattle.luo_model.specs.declared.program.Kind.{Kind}
use Rattle.luo_model.specs.declared.program.Kind.TheVariants.{Sequence, Set, Cycle, Multiset, Powerset}
use Rattle.luo_model.specs.Member.{IsWithin}
use Rattle.luo_model.specs.Collections.{IsCollectionOf}
use Rattle.luo_finite.specs.Each.{Each, total}
use Rattle.luo_counting.specs.Items.{On, Suits}
use Rattle.luo_finite.specs.Range.{sum_below}
use Rattle.luo_finite.proofs.Ranges.{sum_below-same, sum_below-zero, sum_below-shift}
use Rattle.std.proofs.Math.Nat.{mul-zero, zero-mul}
use Rattle.luo_counting.specs.Numbers.{coll_count, plane, chosen, back, terms}
use Rattle.luo_counting.proofs.Led.{Each-In}
use Rattle.luo_counting.proofs.Planes.{Each-into}
use Rattle.luo_finite.proofs.Falling.{IsOrder}
use Rattle.luo_counting.proofs.Choices.{NotAbove, Below}
use Rattle.luo_counting.proofs.Counts.{Measures-collections}
use Rattle.luo_finite.specs.Places.{IsPlace}
use Rattle.luo_finite.proofs.OrderedPlaces.{Sums-le}
use Rattle.luo_places.specs.Numbers.{ListBefore, one_less, AllowsOne, cut}
use Rattle.luo_finite.proofs.OrderedPlaces.{Place-iff}
use Rattle.luo_places.proofs.Orderings.{le_or, less_or}
use Rattle.luo_places.proofs.ListPlaces.{within_rest, rest_within}

pub cut-less : (a : ℕ → ℕ) (d i m : ℕ) → m < d → cut a d i m ≡ a m
cut-less a zero i m h = absurd (omega arith)
cut-less a (suc d) i zero h = refl
cut-less a (suc d) i (suc m) h = cut-less (λ k. a (suc k)) d i m (omega arith)

pub cut-same : (a : ℕ → ℕ) (d i : ℕ) → cut a d i d ≡ i
cut-same a zero i = refl
cut-same a (suc d) i = cut-same (λ k. a (suc k)) d i

pub cut-past : (a : ℕ → ℕ) (d i m : ℕ) → d < m → cut a d i m ≡ 0
cut-past a d i zero h = absurd (omega arith)
cut-past a zero i (suc m) h = refl
cut-past a (suc d) i (suc m) h = cut-past (λ k. a (suc k)) d i m (omega arith)

module _ {A : Type 0} (M : A → Type 0) (size : A → ℕ) (Before : A → A → Type 0) (solid : (x : A) → M x → size x ≡ 0 → ⊥) where
  -- k within the bounds, each so related to all behind it
  abbrev pub Falling : (A → Type 0) → (A → A → Type 0) → ℕ → Option ℕ → ℕ → List A → Type 0
  Falling N R low high n xs = IsWithin low high (length xs) × Each N xs × Pairwise R xs × (total size xs ≡ n)

  -- R is one of the two orders of components
  pub record Falls (R : A → A → Type 0) : Type 0 where
    pub irreflexive : (x : A) → Before x x → ⊥
    pub below_too : (x y t : A) → R x y → Before x t → Before y t
    pub above_too : (t s y : A) → R t s → Before y s ⊎ (y ≡ s) → R t y
    pub through : (t x y : A) → R t x → R x y → R t y

  module _ (R : A → A → Type 0) (f : Falls R) (low : ℕ) (high : Option ℕ) (one : AllowsOne high) (n m : ℕ) (t : A) (ts : List A) (there : M t) (n_is : n ≡ size t + m) where
    positive : 1 ≤ n
    positive = at_least_one (size t) n (solid t there) n_is
      where
        at_least_one : (k n : ℕ) → (k ≡ 0 → ⊥) → n ≡ k + m → 1 ≤ n
        at_least_one zero n h e = absurd (h refl)
        at_least_one (suc k) n h e = omega (arith, e)

    abbrev Whole : List A → Type 0
    Whole = Falling M R low high n

    -- all components are before t
    abbrev Lower : List A → Type 0
    Lower = Falling (λ x. M x × Before x t) R low high n

    abbrev Rest : List A → Type 0
    Rest = Falling M R (low - 1) (one_less high) m

    abbrev SameFirst : List A → Type 0
    SameFirst xs = (ys : List A) × (Rest ys × ListBefore Before ys ts) × (xs ≡ t ∷ ys)

    all_lower : (x : A) (xs : List A) → Before x t → ((y : A) → In y xs → R x y) → Each M xs → Each (λ y. M y × Before y t) xs
    all_lower x [] l h e = tt
    all_lower x (y ∷ ys) l h e = ((e.0, f.below_too x y t (h y (inl refl)) l), all_lower x ys l (λ z i. h z (inr i)) e.1)

    -- what comes before the rest may stand behind t
    may_follow : (ts : List A) → ((y : A) → In y ts → R t y) → (ys : List A) → Pairwise R ys → ListBefore Before ys ts → (y : A) → In y ys → R t y
    may_follow [] h [] p b y i = absurd i
    may_follow [] h (z ∷ ys) p b y i = absurd b
    may_follow (s ∷ ts) h [] p b y i = absurd i
    may_follow (s ∷ ts) h (z ∷ ys) p b y i =
        let first : R t z = f.above_too t s z (h s (inl refl)) (⊎_elim (λ l. inl l) (λ e. inr e.0) b) in
        ⊎_elim (λ (e : y ≡ z). subst (R t) (sym e) first) (λ j. f.through t z y first (p.0 y j)) i

    module _ (stands : (y : A) → In y ts → R t y) where
      there_of : (xs : List A) → Lower xs ⊎ SameFirst xs → Whole xs × ListBefore Before xs (t ∷ ts)
      there_of [] (inl w) = absurd (omega (arith, w.3, positive))
      there_of (x ∷ xs) (inl w) = ((w.0, (w.1.0.0, Each-into (λ y. M y × Before y t) M xs (λ y q. q.0) w.1.1), w.2, w.3), inl w.1.0.1)
      there_of xs (inr r) =
          let ys = r.0 in
          let w = r.1.0 in
          subst (λ v. Whole v × ListBefore Before v (t ∷ ts)) (sym r.2)
          ((rest_within low high (length ys) one w.0, (there, w.1), (may_follow ts stands ys w.2 r.1.1, w.2), omega (arith, w.3, n_is)), inr (refl, r.1.1))

      back_of : (xs : List A) → Whole xs × ListBefore Before xs (t ∷ ts) → Lower xs ⊎ SameFirst xs
      back_of [] w = absurd (omega (arith, w.0.3, positive))
      back_of (x ∷ xs) w = by w.1
        where
          by : Before x t ⊎ ((x ≡ t) × ListBefore Before xs ts) → Lower (x ∷ xs) ⊎ SameFirst (x ∷ xs)
          by (inl l) = inl (w.0.0, ((w.0.1.0, l), all_lower x xs l w.0.2.0 w.0.1.1), w.0.2, w.0.3)
          by (inr q) = inr (xs, ((within_rest low high (length xs) w.0.0, w.0.1.1, w.0.2.1, omega (arith, w.0.3, n_is, ap size q.0)), q.1), ap (λ v. v ∷ xs) q.0)

      apart : (xs : List A) → Lower xs → SameFirst xs → ⊥
      apart [] w r = omega (arith, w.3, positive)
      apart (x ∷ xs) w r = let e : x ≡ t = cc r.2 in f.irreflexive t (subst (λ v. Before v t) e w.1.0.1)

      -- THE LAW of collections whose components fall
      pub Place-falls : (c s : ℕ) → Sums Lower (λ v. 1) c → IsPlace Rest (ListBefore Before) s ts → IsPlace Whole (ListBefore Before) (c + s) (t ∷ ts)
      Place-falls c s lower rest =
          let w = rest.there in
          record {
            there = (rest_within low high (length ts) one w.0, (there, w.1), (stands, w.2), omega (arith, w.3, n_is));
            before = Sums-iff (λ xs. Lower xs ⊎ SameFirst xs) (λ xs. Whole xs × ListBefore Before xs (t ∷ ts)) (λ v. 1) (c + s) there_of back_of
                (Sums-either Lower SameFirst (λ v. 1) c s apart lower (Sums-map (λ ys. Rest ys × ListBefore Before ys ts) (λ ys. t ∷ ys) (λ v. 1) s (λ y z p q e. cc) rest.before));
          }

    -- all components are before t, or t
    abbrev LowerOr : List A → Type 0
    LowerOr = Falling (λ x. M x × (Before x t ⊎ (x ≡ t))) R low high n

    -- what may stand behind t
    abbrev RestUnder : List A → Type 0
    RestUnder = Falling (λ x. M x × R t x) R (low - 1) (one_less high) m

    abbrev FirstIs : List A → Type 0
    FirstIs xs = (ys : List A) × RestUnder ys × (xs ≡ t ∷ ys)

    module _ (known_below : (x : A) → R t x → Before x t ⊎ (x ≡ t)) where
      or_of : (xs : List A) → Lower xs ⊎ FirstIs xs → LowerOr xs
      or_of xs (inl w) = (w.0, Each-into (λ y. M y × Before y t) (λ y. M y × (Before y t ⊎ (y ≡ t))) xs (λ y q. (q.0, inl q.1)) w.1, w.2, w.3)
      or_of xs (inr r) =
          let ys = r.0 in
          let w = r.1 in
          subst LowerOr (sym r.2) (
            rest_within low high (length ys) one w.0,
            ((there, inr refl), Each-into (λ y. M y × R t y) (λ y. M y × (Before y t ⊎ (y ≡ t))) ys (λ y q. (q.0, known_below y q.1)) w.1),
            ((λ y i. (Each-In (λ y. M y × R t y) ys y w.1 i).1), w.2),
            omega (arith, w.3, n_is),
          )

      each_under : (xs : List A) → ((y : A) → In y xs → R t y) → Each (λ x. M x × (Before x t ⊎ (x ≡ t))) xs → Each (λ x. M x × R t x) xs
      each_under [] h e = tt
      each_under (x ∷ xs) h e = ((e.0.0, h x (inl refl)), each_under xs (λ y i. h y (inr i)) e.1)

      of_or : (xs : List A) → LowerOr xs → Lower xs ⊎ FirstIs xs
      of_or [] w = absurd (omega (arith, w.3, positive))
      of_or (x ∷ xs) w = by w.1.0.1
        where
          by : Before x t ⊎ (x ≡ t) → Lower (x ∷ xs) ⊎ FirstIs (x ∷ xs)
          by (inl l) = inl (w.0, ((w.1.0.0, l), all_lower x xs l w.2.0 (Each-into (λ y. M y × (Before y t ⊎ (y ≡ t))) M xs (λ y q. q.0) w.1.1)), w.2, w.3)
          by (inr e) = inr (xs, (within_rest low high (length xs) w.0, each_under xs (λ y i. subst (λ v. R v y) e (w.2.0 y i)) w.1.1, w.2.1, omega (arith, w.3, n_is, ap size e)), ap (λ v. v ∷ xs) e)

      or_apart : (xs : List A) → Lower xs → FirstIs xs → ⊥
      or_apart [] w r = omega (arith, w.3, positive)
      or_apart (x ∷ xs) w r = let e : x ≡ t = cc r.2 in f.irreflexive t (subst (λ v. Before v t) e w.1.0.1)

      -- THE STEP: one item more to choose the first from, and so many more collections
      pub falls_step : (c e : ℕ) → Sums Lower (λ v. 1) c → Sums RestUnder (λ v. 1) e → Sums LowerOr (λ v. 1) (c + e)
      falls_step c e lower rest =
          Sums-iff (λ xs. Lower xs ⊎ FirstIs xs) LowerOr (λ v. 1) (c + e) or_of of_or
          (Sums-either Lower FirstIs (λ v. 1) c e or_apart lower (Sums-map RestUnder (λ ys. t ∷ ys) (λ v. 1) e (λ y z p q e. cc) rest))

module _ {A : Type 0} (M : A → Type 0) (size : A → ℕ) (lab : A → List ℕ) (Before : A → A → Type 0) (order : IsOrder Before) (by_size : (x y : A) → size x < size y → Before x y)
    (solid : (x : A) → M x → size x ≡ 0 → ⊥) (a : ℕ → ℕ) (no_count : a 0 ≡ 0) where
  multisets_fall : Falls M size Before solid (NotAbove Before)
  multisets_fall = record {
    irreflexive = λ x h. order.one_way x x h h;
    below_too = λ x y t r l. ⊎_elim (λ b. absurd (r b)) (λ k. ⊎_elim (λ e. subst (λ v. Before v t) e l) (λ b. order.through y x t b l) k) (order.either x y);
    above_too = λ t s y r h g. ⊎_elim (λ l. r (order.through t y s g l)) (λ e. r (subst (Before t) e g)) h;
    through = λ t x y r q g. ⊎_elim (λ b. q b) (λ k. ⊎_elim (λ e. r (subst (Before t) (sym e) g)) (λ b. r (order.through t y x g b)) k) (order.either x y);
  }

  powersets_fall : Falls M size Before solid (Below Before)
  powersets_fall = record {
    irreflexive = λ x h. order.one_way x x h h;
    below_too = λ x y t r l. order.through y x t r l;
    above_too = λ t s y r h. ⊎_elim (λ l. order.through y s t l r) (λ e. subst (λ v. Before v t) (sym e) r) h;
    through = λ t x y r q. order.through y x t q r;
  }

  -- how many items of a size are before t: T is a lower set of which there are i of size d, and which holds all of less size
  under_counted : (T : A → Type 0) (d i : ℕ) → ((x : A) → size x < d → T x) → ((x : A) → T x → size x ≤ d) → Sums (λ x. On Unlabelled M size lab [] d x × T x) (λ v. 1) i → (m : ℕ)
      → (m ≤ d → Sums (On Unlabelled M size lab [] m) (λ v. 1) (a m)) → Sums (On Unlabelled (λ x. M x × T x) size lab [] m) (λ v. 1) (cut a d i m)
  under_counted T d i small large top m known =
      ⊎_elim
      (λ l. ⊎_elim
      (λ g. subst (Sums (On Unlabelled (λ x. M x × T x) size lab [] m) (λ v. 1)) (sym (cut-less a d i m g))
      (Sums-iff (On Unlabelled M size lab [] m) (On Unlabelled (λ x. M x × T x) size lab [] m) (λ v. 1) (a m)
      (λ x q. ((q.0, small x (omega (arith, q.1, g))), q.1, tt)) (λ x q. (q.0.0, q.1, tt)) (known l)))
      (λ (e : m ≡ d). subst (λ k. Sums (On Unlabelled (λ x. M x × T x) size lab [] k) (λ v. 1) (cut a d i k)) (sym e)
      (subst (Sums (On Unlabelled (λ x. M x × T x) size lab [] d) (λ v. 1)) (sym (cut-same a d i))
      (Sums-iff (λ x. On Unlabelled M size lab [] d x × T x) (On Unlabelled (λ x. M x × T x) size lab [] d) (λ v. 1) i
      (λ x q. ((q.0.0, q.1), q.0.1, tt)) (λ x q. ((q.0.0, q.1, tt), q.0.1)) top)))
      (less_or m d l))
      (λ g. subst (Sums (On Unlabelled (λ x. M x × T x) size lab [] m) (λ v. 1)) (sym (cut-past a d i m g))
      (Sums-none (On Unlabelled (λ x. M x × T x) size lab [] m) (λ v. 1) (λ x q. omega (arith, q.1, large x q.0.1, g))))
      (le_or m d)

  cut_start : (d i : ℕ) → 1 ≤ d → cut a d i 0 ≡ 0
  cut_start zero i h = absurd (omega arith)
  cut_start (suc d) i h = no_count

  suits_low : (kind : Kind) (low : ℕ) → Suits Unlabelled kind 0 → Suits Unlabelled kind low
  suits_low Multiset low s = tt
  suits_low Powerset low s = tt
  suits_low Sequence low s = tt
  suits_low Set low s = s
  suits_low Cycle low s = s

  -- the collections of such items
  colls_counted : (T : A → Type 0) (d i : ℕ) → 1 ≤ d → ((x : A) → size x < d → T x) → ((x : A) → T x → size x ≤ d) → Sums (λ x. On Unlabelled M size lab [] d x × T x) (λ v. 1) i
      → (kind : Kind) → Suits Unlabelled kind 0 → (low : ℕ) (high : Option ℕ) (n : ℕ) → ((m : ℕ) → m ≤ d → m ≤ n → Sums (On Unlabelled M size lab [] m) (λ v. 1) (a m))
      → Sums (IsCollectionOf Unlabelled (λ x. M x × T x) size lab Before kind low high [] n) (λ v. 1) (coll_count Unlabelled kind (cut a d i) low high n)
  colls_counted T d i one small large top kind suits low high n known =
      (Measures-collections (λ x. M x × T x) size lab (λ x. 1) (cut a d i) (cut a d i) Before order by_size Unlabelled kind low high n [] (suits_low kind low suits) tt
      (record {
        sized = tt;
        none = λ x q. solid x q.0;
        no_count = cut_start d i one;
        no_total = cut_start d i one;
        below = λ m g l S s. let k = under_counted T d i small large top m (λ h. known m h (omega (arith, l))) in record { count = k; total = k };
        here = λ w S s. let k = under_counted T d i small large top n (λ h. known n h (omega arith)) in record { count = k; total = k };
      })).count

  -- t at place i of size d
  module _ (d i : ℕ) (t : A) (p : IsPlace (On Unlabelled M size lab [] d) Before i t) where
    one_of_t : 1 ≤ d
    one_of_t = positive (size t) d (solid t p.there.0) p.there.1
      where
        positive : (k d : ℕ) → (k ≡ 0 → ⊥) → k ≡ d → 1 ≤ d
        positive zero d h e = absurd (h refl)
        positive (suc k) d h e = omega (arith, e)

    OrIs : A → Type 0
    OrIs x = Before x t ⊎ (x ≡ t)

    lower_top : Sums (λ x. On Unlabelled M size lab [] d x × Before x t) (λ v. 1) i
    lower_top = p.before

    or_top : Sums (λ x. On Unlabelled M size lab [] d x × OrIs x) (λ v. 1) (suc i)
    unfolding OrIs
    or_top =
        subst (Sums (λ x. On Unlabelled M size lab [] d x × OrIs x) (λ v. 1)) (let e : i + 1 ≡ suc i = omega arith in e)
        (Sums-iff (λ x. (On Unlabelled M size lab [] d x × Before x t) ⊎ (x ≡ t)) (λ x. On Unlabelled M size lab [] d x × OrIs x) (λ v. 1) (i + 1)
        (λ x q. ⊎_elim (λ a. (a.0, inl a.1)) (λ e. (subst (On Unlabelled M size lab [] d) (sym e) p.there, inr e)) q)
        (λ x q. ⊎_elim (λ a. inl (q.0, a)) (λ e. inr e) q.1)
        (Sums-either (λ x. On Unlabelled M size lab [] d x × Before x t) (λ x. x ≡ t) (λ v. 1) i 1 (λ x a b. order.one_way t t (subst (λ v. Before v t) b a.1) (subst (λ v. Before v t) b a.1))
        p.before (Sums-one (λ x. x ≡ t) (λ v. 1) t refl (λ x e. e))))

    small_lower : (x : A) → size x < d → Before x t
    small_lower x l = by_size x t (omega (arith, l, p.there.1))

    lower_small : (x : A) → Before x t → size x ≤ d
    lower_small x b = ⊎_elim (λ l. l) (λ l. absurd (order.one_way x t b (by_size t x (omega (arith, l, p.there.1))))) (le_or (size x) d)

    or_small : (x : A) → OrIs x → size x ≤ d
    unfolding OrIs
    or_small x (inl b) = lower_small x b
    or_small x (inr e) = omega (arith, ap size e, p.there.1)

    small_or : (x : A) → size x < d → OrIs x
    unfolding OrIs
    small_or x l = inl (small_lower x l)

    not_below : (x : A) → NotAbove Before t x → Before x t ⊎ (x ≡ t)
    not_below x r = ⊎_elim (λ b. absurd (r b)) (λ k. ⊎_elim (λ e. inr (sym e)) (λ b. inl b) k) (order.either t x)

    or_under : (x : A) → OrIs x → NotAbove Before t x
    unfolding OrIs
    or_under x (inl b) g = order.one_way x t b g
    or_under x (inr e) g = let h : Before t t = subst (Before t) e g in order.one_way t t h h

    small_under : (x : A) → size x < d → NotAbove Before t x
    small_under x l = or_under x (small_or x l)

    under_small : (x : A) → NotAbove Before t x → size x ≤ d
    unfolding OrIs
    under_small x r = or_small x (not_below x r)

    under_top : Sums (λ x. On Unlabelled M size lab [] d x × NotAbove Before t x) (λ v. 1) (suc i)
    unfolding OrIs
    under_top = Sums-iff (λ x. On Unlabelled M size lab [] d x × OrIs x) (λ x. On Unlabelled M size lab [] d x × NotAbove Before t x) (λ v. 1) (suc i)
        (λ x q. (q.0, or_under x q.1)) (λ x q. (q.0, not_below x q.1)) or_top

    module _ (low : ℕ) (high : Option ℕ) (one : AllowsOne high) (n m : ℕ) (n_is : n ≡ d + m) (known : (k : ℕ) → k ≤ n → Sums (On Unlabelled M size lab [] k) (λ v. 1) (a k)) where
      n_t : n ≡ size t + m
      n_t = omega (arith, n_is, p.there.1)

      -- THE LAW of multisets
      pub Place-multiset : (s : ℕ) (ts : List A) → ((y : A) → In y ts → NotAbove Before t y) → IsPlace (IsCollectionOf Unlabelled M size lab Before Multiset (low - 1) (one_less high) [] m) (ListBefore Before) s ts
          → IsPlace (IsCollectionOf Unlabelled M size lab Before Multiset low high [] n) (ListBefore Before) (coll_count Unlabelled Multiset (cut a d i) low high n + s) (t ∷ ts)
      Place-multiset s ts stands rest =
          let c = coll_count Unlabelled Multiset (cut a d i) low high n in
          Place-iff (Falling M size Before solid M (NotAbove Before) low high n) (IsCollectionOf Unlabelled M size lab Before Multiset low high [] n) (ListBefore Before) (ListBefore Before) (c + s) (t ∷ ts)
          (λ xs w. (w.0, w.1, w.2, w.3, tt)) (λ xs w. (w.0, w.1, w.2, w.3)) (λ xs w h. h) (λ xs w h. h)
          (Place-falls M size Before solid (NotAbove Before) multisets_fall low high one n m t ts p.there.0 n_t stands c s
          (Sums-iff (IsCollectionOf Unlabelled (λ x. M x × Before x t) size lab Before Multiset low high [] n) (Falling M size Before solid (λ x. M x × Before x t) (NotAbove Before) low high n) (λ v. 1) c
          (λ xs w. (w.0, w.1, w.2, w.3)) (λ xs w. (w.0, w.1, w.2, w.3, tt))
          (colls_counted (λ x. Before x t) d i one_of_t small_lower lower_small lower_top Multiset tt low high n (λ k h g. known k g)))
          (Place-iff (IsCollectionOf Unlabelled M size lab Before Multiset (low - 1) (one_less high) [] m) (Falling M size Before solid M (NotAbove Before) (low - 1) (one_less high) m) (ListBefore Before) (ListBefore Before) s ts
          (λ xs w. (w.0, w.1, w.2, w.3)) (λ xs w. (w.0, w.1, w.2, w.3, tt)) (λ xs w h. h) (λ xs w h. h) rest))

      -- THE LAW of powersets
      pub Place-powerset : (s : ℕ) (ts : List A) → ((y : A) → In y ts → Below Before t y) → IsPlace (IsCollectionOf Unlabelled M size lab Before Powerset (low - 1) (one_less high) [] m) (ListBefore Before) s ts
          → IsPlace (IsCollectionOf Unlabelled M size lab Before Powerset low high [] n) (ListBefore Before) (coll_count Unlabelled Powerset (cut a d i) low high n + s) (t ∷ ts)
      Place-powerset s ts stands rest =
          let c = coll_count Unlabelled Powerset (cut a d i) low high n in
          Place-iff (Falling M size Before solid M (Below Before) low high n) (IsCollectionOf Unlabelled M size lab Before Powerset low high [] n) (ListBefore Before) (ListBefore Before) (c + s) (t ∷ ts)
          (λ xs w. (w.0, w.1, w.2, w.3, tt)) (λ xs w. (w.0, w.1, w.2, w.3)) (λ xs w h. h) (λ xs w h. h)
          (Place-falls M size Before solid (Below Before) powersets_fall low high one n m t ts p.there.0 n_t stands c s
          (Sums-iff (IsCollectionOf Unlabelled (λ x. M x × Before x t) size lab Before Powerset low high [] n) (Falling M size Before solid (λ x. M x × Before x t) (Below Before) low high n) (λ v. 1) c
          (λ xs w. (w.0, w.1, w.2, w.3)) (λ xs w. (w.0, w.1, w.2, w.3, tt))
          (colls_counted (λ x. Before x t) d i one_of_t small_lower lower_small lower_top Powerset tt low high n (λ k h g. known k g)))
          (Place-iff (IsCollectionOf Unlabelled M size lab Before Powerset (low - 1) (one_less high) [] m) (Falling M size Before solid M (Below Before) (low - 1) (one_less high) m) (ListBefore Before) (ListBefore Before) s ts
          (λ xs w. (w.0, w.1, w.2, w.3)) (λ xs w. (w.0, w.1, w.2, w.3, tt)) (λ xs w h. h) (λ xs w h. h) rest))

      -- THE NUMBERS: what one item more gives is the number of the rests that may follow it
      pub multiset_step : coll_count Unlabelled Multiset (cut a d (suc i)) low high n
          ≡ coll_count Unlabelled Multiset (cut a d i) low high n + coll_count Unlabelled Multiset (cut a d (suc i)) (low - 1) (one_less high) m
      unfolding OrIs
      multiset_step =
          let c = coll_count Unlabelled Multiset (cut a d i) low high n in
          let e = coll_count Unlabelled Multiset (cut a d (suc i)) (low - 1) (one_less high) m in
          Sums-unique (Falling M size Before solid (λ x. M x × OrIs x) (NotAbove Before) low high n) (λ v. 1) (coll_count Unlabelled Multiset (cut a d (suc i)) low high n) (c + e)
          (Sums-iff (IsCollectionOf Unlabelled (λ x. M x × OrIs x) size lab Before Multiset low high [] n) (Falling M size Before solid (λ x. M x × OrIs x) (NotAbove Before) low high n) (λ v. 1) (coll_count Unlabelled Multiset (cut a d (suc i)) low high n)
          (λ xs w. (w.0, w.1, w.2, w.3)) (λ xs w. (w.0, w.1, w.2, w.3, tt))
          (colls_counted OrIs d (suc i) one_of_t small_or or_small or_top Multiset tt low high n (λ k h g. known k g)))
          (falls_step M size Before solid (NotAbove Before) multisets_fall low high one n m t [] p.there.0 n_t not_below c e
          (Sums-iff (IsCollectionOf Unlabelled (λ x. M x × Before x t) size lab Before Multiset low high [] n) (Falling M size Before solid (λ x. M x × Before x t) (NotAbove Before) low high n) (λ v. 1) c
          (λ xs w. (w.0, w.1, w.2, w.3)) (λ xs w. (w.0, w.1, w.2, w.3, tt))
          (colls_counted (λ x. Before x t) d i one_of_t small_lower lower_small lower_top Multiset tt low high n (λ k h g. known k g)))
          (Sums-iff (IsCollectionOf Unlabelled (λ x. M x × NotAbove Before t x) size lab Before Multiset (low - 1) (one_less high) [] m)
          (Falling M size Before solid (λ x. M x × NotAbove Before t x) (NotAbove Before) (low - 1) (one_less high) m) (λ v. 1) e
          (λ xs w. (w.0, w.1, w.2, w.3)) (λ xs w. (w.0, w.1, w.2, w.3, tt))
          (colls_counted (NotAbove Before t) d (suc i) one_of_t small_under under_small under_top Multiset tt (low - 1) (one_less high) m (λ k h g. known k (omega (arith, g, n_is))))))

      pub powerset_step : coll_count Unlabelled Powerset (cut a d (suc i)) low high n
          ≡ coll_count Unlabelled Powerset (cut a d i) low high n + coll_count Unlabelled Powerset (cut a d i) (low - 1) (one_less high) m
      unfolding OrIs
      powerset_step =
          let c = coll_count Unlabelled Powerset (cut a d i) low high n in
          let e = coll_count Unlabelled Powerset (cut a d i) (low - 1) (one_less high) m in
          Sums-unique (Falling M size Before solid (λ x. M x × OrIs x) (Below Before) low high n) (λ v. 1) (coll_count Unlabelled Powerset (cut a d (suc i)) low high n) (c + e)
          (Sums-iff (IsCollectionOf Unlabelled (λ x. M x × OrIs x) size lab Before Powerset low high [] n) (Falling M size Before solid (λ x. M x × OrIs x) (Below Before) low high n) (λ v. 1) (coll_count Unlabelled Powerset (cut a d (suc i)) low high n)
          (λ xs w. (w.0, w.1, w.2, w.3)) (λ xs w. (w.0, w.1, w.2, w.3, tt))
          (colls_counted OrIs d (suc i) one_of_t small_or or_small or_top Powerset tt low high n (λ k h g. known k g)))
          (falls_step M size Before solid (Below Before) powersets_fall low high one n m t [] p.there.0 n_t (λ x r. inl r) c e
          (Sums-iff (IsCollectionOf Unlabelled (λ x. M x × Before x t) size lab Before Powerset low high [] n) (Falling M size Before solid (λ x. M x × Before x t) (Below Before) low high n) (λ v. 1) c
          (λ xs w. (w.0, w.1, w.2, w.3)) (λ xs w. (w.0, w.1, w.2, w.3, tt))
          (colls_counted (λ x. Before x t) d i one_of_t small_lower lower_small lower_top Powerset tt low high n (λ k h g. known k g)))
          (Sums-iff (IsCollectionOf Unlabelled (λ x. M x × Before x t) size lab Before Powerset (low - 1) (one_less high) [] m)
          (Falling M size Before solid (λ x. M x × Before x t) (Below Before) (low - 1) (one_less high) m) (λ v. 1) e
          (λ xs w. (w.0, w.1, w.2, w.3)) (λ xs w. (w.0, w.1, w.2, w.3, tt))
          (colls_counted (λ x. Before x t) d i one_of_t small_lower lower_small lower_top Powerset tt (low - 1) (one_less high) m (λ k h g. known k (omega (arith, g, n_is))))))

      -- the first collections of the rest are those that may stand behind t
      abbrev Rests : Kind → List A → Type 0
      Rests kind xs = IsCollectionOf Unlabelled M size lab Before kind (low - 1) (one_less high) [] m xs

      abbrev RestsUnder : Kind → (A → Type 0) → List A → Type 0
      RestsUnder kind T xs = IsCollectionOf Unlabelled (λ x. M x × T x) size lab Before kind (low - 1) (one_less high) [] m xs

      under_rests : (kind : Kind) (T : A → Type 0) (xs : List A) → RestsUnder kind T xs → Rests kind xs
      under_rests kind T xs w = (w.0, Each-into (λ x. M x × T x) M xs (λ x q. q.0) w.1, w.2, w.3, w.4)

      rest_stands : (kind : Kind) (R : A → A → Type 0) → Falls M size Before solid R → ((xs : List A) → Rests kind xs → Pairwise R xs) → ((y : A) → R t y ⊎ ((z : A) → R t z → Before z y))
          → (c s : ℕ) (ts : List A) → Sums (RestsUnder kind (R t)) (λ v. 1) c → s < c → IsPlace (Rests kind) (ListBefore Before) s ts → (y : A) → In y ts → R t y
      rest_stands kind R f falls decide c s [] sums l q y j = absurd j
      rest_stands kind R f falls decide c s (x ∷ xs) sums l q y j = ⊎_elim all_stand none_stands (decide x)
        where
          all_stand : R t x → R t y
          all_stand r = ⊎_elim (λ (e : y ≡ x). subst (R t) (sym e) r) (λ k. f.through t x y r ((falls (x ∷ xs) q.there).0 y k)) j

          ahead : ((z : A) → R t z → Before z x) → (us : List A) → RestsUnder kind (R t) us → ListBefore Before us (x ∷ xs)
          ahead u [] w = tt
          ahead u (z ∷ zs) w = inl (u z w.1.0.1)

          none_stands : ((z : A) → R t z → Before z x) → R t y
          none_stands u = absurd (let k : c ≤ s = Sums-le (RestsUnder kind (R t)) (λ us. Rests kind us × ListBefore Before us (x ∷ xs)) c s (λ us w. (under_rests kind (R t) us w, ahead u us w)) sums q.before in omega (arith, k, l))

      multiset_decides : (y : A) → NotAbove Before t y ⊎ ((z : A) → NotAbove Before t z → Before z y)
      multiset_decides y = ⊎_elim (λ b. inr (λ z r. ⊎_elim (λ l. order.through z t y l b) (λ (e : z ≡ t). subst (λ v. Before v y) (sym e) b) (not_below z r)))
          (λ k. inl (λ g. ⊎_elim (λ (e : t ≡ y). let h : Before t t = subst (Before t) (sym e) g in order.one_way t t h h) (λ b. order.one_way t y g b) k)) (order.either t y)

      powerset_decides : (y : A) → Below Before t y ⊎ ((z : A) → Below Before t z → Before z y)
      powerset_decides y = ⊎_elim (λ b. inl b) (λ k. inr (λ z r. ⊎_elim (λ (e : y ≡ t). subst (Before z) (sym e) r) (λ b. order.through z t y r b) k)) (order.either y t)

      -- WHAT IS FOUND: t and the rest, where the place is among the collections that begin with t
      pub multiset_found : (rank : ℕ) → coll_count Unlabelled Multiset (cut a d i) low high n ≤ rank → rank < coll_count Unlabelled Multiset (cut a d (suc i)) low high n
          → ((c : ℕ) → Sums (Rests Multiset) (λ v. 1) c → rank - coll_count Unlabelled Multiset (cut a d i) low high n < c)
          × ((ts : List A) → IsPlace (Rests Multiset) (ListBefore Before) (rank - coll_count Unlabelled Multiset (cut a d i) low high n) ts
          → IsPlace (IsCollectionOf Unlabelled M size lab Before Multiset low high [] n) (ListBefore Before) rank (t ∷ ts))
      multiset_found rank from to =
          let f = coll_count Unlabelled Multiset (cut a d i) low high n in
          let e = coll_count Unlabelled Multiset (cut a d (suc i)) (low - 1) (one_less high) m in
          let sums : Sums (RestsUnder Multiset (NotAbove Before t)) (λ v. 1) e = colls_counted (NotAbove Before t) d (suc i) one_of_t small_under under_small under_top Multiset tt (low - 1) (one_less high) m (λ k h g. known k (omega (arith, g, n_is))) in
          let inside : rank - f < e = omega (arith, multiset_step, from, to) in (
            (λ c all. let k : e ≤ c = Sums-le (RestsUnder Multiset (NotAbove Before t)) (Rests Multiset) e c (under_rests Multiset (NotAbove Before t)) sums all in omega (arith, k, inside)),
            λ ts q. subst (λ r. IsPlace (IsCollectionOf Unlabelled M size lab Before Multiset low high [] n) (ListBefore Before) r (t ∷ ts)) (let w : f + (rank - f) ≡ rank = omega (arith, from) in w)
                (Place-multiset (rank - f) ts (rest_stands Multiset (NotAbove Before) multisets_fall (λ xs w. w.2) multiset_decides e (rank - f) ts sums inside q) q),
          )

      pub powerset_found : (rank : ℕ) → coll_count Unlabelled Powerset (cut a d i) low high n ≤ rank → rank < coll_count Unlabelled Powerset (cut a d (suc i)) low high n
          → ((c : ℕ) → Sums (Rests Powerset) (λ v. 1) c → rank - coll_count Unlabelled Powerset (cut a d i) low high n < c)
          × ((ts : List A) → IsPlace (Rests Powerset) (ListBefore Before) (rank - coll_count Unlabelled Powerset (cut a d i) low high n) ts
          → IsPlace (IsCollectionOf Unlabelled M size lab Before Powerset low high [] n) (ListBefore Before) rank (t ∷ ts))
      powerset_found rank from to =
          let f = coll_count Unlabelled Powerset (cut a d i) low high n in
          let e = coll_count Unlabelled Powerset (cut a d i) (low - 1) (one_less high) m in
          let sums : Sums (RestsUnder Powerset (Below Before t)) (λ v. 1) e = colls_counted (λ x. Before x t) d i one_of_t small_lower lower_small lower_top Powerset tt (low - 1) (one_less high) m (λ k h g. known k (omega (arith, g, n_is))) in
          let inside : rank - f < e = omega (arith, powerset_step, from, to) in (
            (λ c all. let k : e ≤ c = Sums-le (RestsUnder Powerset (Below Before t)) (Rests Powerset) e c (under_rests Powerset (Below Before t)) sums all in omega (arith, k, inside)),
            λ ts q. subst (λ r. IsPlace (IsCollectionOf Unlabelled M size lab Before Powerset low high [] n) (ListBefore Before) r (t ∷ ts)) (let w : f + (rank - f) ≡ rank = omega (arith, from) in w)
                (Place-powerset (rank - f) ts (rest_stands Powerset (Below Before) powersets_fall (λ xs w. w.2) powerset_decides e (rank - f) ts sums inside q) q),
          )

-- one size after the other
pub cut-join : (a : ℕ → ℕ) (d : ℕ) → cut a (suc d) 0 ≡ cut a d (a d)
cut-join a d = λ i m. at d m a i
  where
    at : (d m : ℕ) (a : ℕ → ℕ) → cut a (suc d) 0 m ≡ cut a d (a d) m
    at zero zero a = refl
    at zero (suc zero) a = refl
    at zero (suc (suc m)) a = refl
    at (suc d) zero a = refl
    at (suc d) (suc m) a = at d m (λ k. a (suc k))

plane-same : (kind : Kind) (a b : ℕ → ℕ) (d k n : ℕ) → ((m : ℕ) → m ≤ d → a m ≡ b m) → plane kind a d k n ≡ plane kind b d k n
plane-same kind a b zero zero n h = refl
plane-same kind a b zero (suc k) n h = refl
plane-same kind a b (suc d) k n h = sum_below-same (λ j. chosen kind (a (suc d)) j * back (j * suc d) (plane kind a d (k - j)) n) (λ j. chosen kind (b (suc d)) j * back (j * suc d) (plane kind b d (k - j)) n) (suc k)
    (λ j l. ap (λ c. chosen kind c j * back (j * suc d) (plane kind a d (k - j)) n) (h (suc d) (omega arith))
    ∙ ap (λ (f : ℕ → ℕ). chosen kind (b (suc d)) j * back (j * suc d) f n) (λ i m. plane-same kind a b d (k - j) m (λ m l. h m (omega (arith, l))) i))

-- the start: nothing is cut off
pub cut-whole : (a : ℕ → ℕ) (low : ℕ) (high : Option ℕ) (n : ℕ) → (coll_count Unlabelled Multiset (cut a n (a n)) low high n ≡ coll_count Unlabelled Multiset a low high n)
    × (coll_count Unlabelled Powerset (cut a n (a n)) low high n ≡ coll_count Unlabelled Powerset a low high n)
unfolding coll_count
cut-whole a low high n = (
  sum_below-same (λ i. plane Multiset (cut a n (a n)) n (low + i) n) (λ i. plane Multiset a n (low + i) n) (terms low high n) (λ i l. plane-same Multiset (cut a n (a n)) a n (low + i) n same),
  sum_below-same (λ i. plane Powerset (cut a n (a n)) n (low + i) n) (λ i. plane Powerset a n (low + i) n) (terms low high n) (λ i l. plane-same Powerset (cut a n (a n)) a n (low + i) n same),
)
  where
    same : (m : ℕ) → m ≤ n → cut a n (a n) m ≡ a m
    same m l = ⊎_elim (λ g. cut-less a n (a n) m g) (λ (e : m ≡ n). subst (λ k. cut a n (a n) k ≡ a k) (sym e) (cut-same a n (a n))) (less_or m n l)

-- the end of the walk: without items there is no collection of a size above 0
chosen-none : (kind : Kind) (j : ℕ) → chosen kind 0 (suc j) ≡ 0
chosen-none Sequence j = refl
chosen-none Set j = refl
chosen-none Cycle j = refl
chosen-none Multiset j = refl
chosen-none Powerset j = refl

plane-none : (kind : Kind) (a : ℕ → ℕ) (d k n : ℕ) → ((m : ℕ) → a (suc m) ≡ 0) → plane kind a d k (suc n) ≡ 0
plane-none kind a zero zero n h = refl
plane-none kind a zero (suc k) n h = refl
plane-none kind a (suc d) k n h = sum_below-zero (λ j. chosen kind (a (suc d)) j * back (j * suc d) (plane kind a d (k - j)) (suc n)) (suc k) (λ j l. term j (plane-none kind a d (k - 0) n h))
  where
    first : (m : ℕ) → m ≡ 0 → chosen kind (a (suc d)) 0 * m ≡ 0
    first m e = ap (λ v. chosen kind (a (suc d)) 0 * v) e ∙ mul-zero (chosen kind (a (suc d)) 0)

    term : (j : ℕ) → plane kind a d (k - 0) (suc n) ≡ 0 → chosen kind (a (suc d)) j * back (j * suc d) (plane kind a d (k - j)) (suc n) ≡ 0
    term zero q = first (back (0 * suc d) (plane kind a d (k - 0)) (suc n)) (ap (λ s. back s (plane kind a d (k - 0)) (suc n)) (zero-mul (suc d)) ∙ q)
    term (suc j) q = ap (λ c. chosen kind c (suc j) * back (suc j * suc d) (plane kind a d (k - suc j)) (suc n)) (h d)
        ∙ ap (λ c. c * back (suc j * suc d) (plane kind a d (k - suc j)) (suc n)) (chosen-none kind j) ∙ zero-mul (back (suc j * suc d) (plane kind a d (k - suc j)) (suc n))

pub cut-none : (a : ℕ → ℕ) (low : ℕ) (high : Option ℕ) (n : ℕ) → (coll_count Unlabelled Multiset (cut a 1 0) low high (suc n) ≡ 0) × (coll_count Unlabelled Powerset (cut a 1 0) low high (suc n) ≡ 0)
unfolding coll_count
cut-none a low high n = (
  sum_below-zero (λ i. plane Multiset (cut a 1 0) (suc n) (low + i) (suc n)) (terms low high (suc n)) (λ i l. plane-none Multiset (cut a 1 0) (suc n) (low + i) n none_cut),
  sum_below-zero (λ i. plane Powerset (cut a 1 0) (suc n) (low + i) (suc n)) (terms low high (suc n)) (λ i l. plane-none Powerset (cut a 1 0) (suc n) (low + i) n none_cut),
)
  where
    none_cut : (m : ℕ) → cut a 1 0 (suc m) ≡ 0
    none_cut zero = refl
    none_cut (suc m) = refl

-- THE NUMBER as it is computed: j of size d + 1 among the first i, and the rest from the plane of the sizes below
chosen-nothing : (kind : Kind) → chosen kind 0 0 ≡ 1
chosen-nothing Sequence = refl
chosen-nothing Set = refl
chosen-nothing Cycle = refl
chosen-nothing Multiset = refl
chosen-nothing Powerset = refl

plane-empty : (kind : Kind) (a : ℕ → ℕ) (d k n : ℕ) → a (suc d) ≡ 0 → plane kind a (suc d) k n ≡ plane kind a d k n
plane-empty kind a d k n z =
    let f : ℕ → ℕ = λ j. chosen kind (a (suc d)) j * back (j * suc d) (plane kind a d (k - j)) n in
    let s : sum_below f (suc k) ≡ f 0 + sum_below (λ j. f (suc j)) k = sum_below-shift f k in
    let r : sum_below (λ j. f (suc j)) k ≡ 0 = sum_below-zero (λ j. f (suc j)) k (λ j l. ap (λ c. chosen kind c (suc j) * back (suc j * suc d) (plane kind a d (k - suc j)) n) z
    ∙ ap (λ c. c * back (suc j * suc d) (plane kind a d (k - suc j)) n) (chosen-none kind j) ∙ zero-mul (back (suc j * suc d) (plane kind a d (k - suc j)) n)) in
    let e : f 0 ≡ 1 * plane kind a d k n = ap (λ c. chosen kind c 0 * back (0 * suc d) (plane kind a d (k - 0)) n) z ∙ ap (λ c. c * back (0 * suc d) (plane kind a d (k - 0)) n) (chosen-nothing kind)
    ∙ ap (λ s. 1 * back s (plane kind a d (k - 0)) n) (zero-mul (suc d)) ∙ ap (λ i. 1 * plane kind a d i n) (let q : k - 0 ≡ k = omega arith in q) in
    omega (arith, s, r, e)

plane-past : (kind : Kind) (a : ℕ → ℕ) (d e k n : ℕ) → d ≤ e → ((m : ℕ) → d < m → a m ≡ 0) → plane kind a e k n ≡ plane kind a d k n
plane-past kind a d zero k n l z = ap (λ i. plane kind a i k n) (let q : zero ≡ d = omega (arith, l) in q)
plane-past kind a d (suc e) k n l z = ⊎_elim (λ g. plane-empty kind a e k n (z (suc e) g) ∙ plane-past kind a d e k n (omega (arith, g)) z) (λ (q : d ≡ suc e). ap (λ i. plane kind a i k n) (sym q)) (less_or d (suc e) l)

abbrev pub bag_number : Kind → (ℕ → ℕ) → ℕ → ℕ → ℕ → ℕ → ℕ
bag_number kind a d i k n = sum_below (λ j. chosen kind i j * back (j * suc d) (plane kind a d (k - j)) n) (suc k)

plane-cut : (kind : Kind) (a : ℕ → ℕ) (d i k n : ℕ) → suc d ≤ n → plane kind (cut a (suc d) i) n k n ≡ bag_number kind a d i k n
plane-cut kind a d i k n l =
    plane-past kind (cut a (suc d) i) (suc d) n k n l (λ m g. cut-past a (suc d) i m g)
    ∙ sum_below-same (λ j. chosen kind (cut a (suc d) i (suc d)) j * back (j * suc d) (plane kind (cut a (suc d) i) d (k - j)) n) (λ j. chosen kind i j * back (j * suc d) (plane kind a d (k - j)) n) (suc k)
    (λ j g. ap (λ c. chosen kind c j * back (j * suc d) (plane kind (cut a (suc d) i) d (k - j)) n) (cut-same a (suc d) i)
    ∙ ap (λ (f : ℕ → ℕ). chosen kind i j * back (j * suc d) f n) (λ v m. plane-same kind (cut a (suc d) i) a d (k - j) m (λ m h. cut-less a (suc d) i m (omega (arith, h))) v))

pub cut-number : (a : ℕ → ℕ) (low : ℕ) (high : Option ℕ) (d i n : ℕ) → suc d ≤ n
    → (coll_count Unlabelled Multiset (cut a (suc d) i) low high n ≡ sum_below (λ e. bag_number Multiset a d i (low + e) n) (terms low high n))
    × (coll_count Unlabelled Powerset (cut a (suc d) i) low high n ≡ sum_below (λ e. bag_number Powerset a d i (low + e) n) (terms low high n))
unfolding coll_count
cut-number a low high d i n l = (
  sum_below-same (λ e. plane Multiset (cut a (suc d) i) n (low + e) n) (λ e. bag_number Multiset a d i (low + e) n) (terms low high n) (λ e g. plane-cut Multiset a d i (low + e) n l),
  sum_below-same (λ e. plane Powerset (cut a (suc d) i) n (low + e) n) (λ e. bag_number Powerset a d i (low + e) n) (terms low high n) (λ e g. plane-cut Powerset a d i (low + e) n l),
)
