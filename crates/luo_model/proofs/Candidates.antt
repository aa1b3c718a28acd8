-- All tuples and collections of one size, made of trees that are found at less sizes.
use Rattle.std.proofs.Common.{◌≡◌, ◌≤◌, ◌+◌, ◌-◌, ℕ, zero, suc, Bool, true, false, cond, List, [], ◌∷◌, ◌++◌, inl, inr, length, map, refl, sym, subst, Some, None, slice_get, nat_le, arith}
use Rattle.luo_finite.specs.Listing.{In}
use Rattle.luo_finite.specs.Range.{below}
use Rattle.luo_finite.proofs.Membership.{In-append_left, In-append_right, In-map}
use Rattle.luo_finite.proofs.Ranges.{In-below}
use Rattle.luo_model.specs.declared.program.Part.{Part}
use Rattle.luo_model.specs.declared.program.Shape.{Shape}
use Rattle.luo_model.specs.Tree.{Tree, Trees, Inj, none, more, to_list, size_of, sizes_of}
use Rattle.luo_model.specs.Program.{Program, shape_of}
use Rattle.luo_model.specs.Member.{Fits, FitAll, FitEach}
use Rattle.luo_model.proofs.ChargeLemmas.{some_one}
use Rattle.luo_model.proofs.Tests.{both, every, le_decides}

-- ---- lists of trees

-- the lists that f makes of the elements, one behind the other
abbrev pub spread : {A B : Type 0} → (A → List B) → List A → List B
spread f [] = []
spread f (x ∷ xs) = f x ++ spread f xs

In-spread : {A B : Type 0} (f : A → List B) (x : A) (xs : List A) (y : B) → In x xs → In y (f x) → In y (spread f xs)
In-spread f x [] y h i = absurd h
In-spread f x (z ∷ xs) y (inl e) i = In-append_left y (f z) (spread f xs) (subst (λ w. In y (f w)) e i)
In-spread f x (z ∷ xs) y (inr h) i = In-append_right y (f z) (spread f xs) (In-spread f x xs y h i)

-- each of these trees before each list that there is for the rest of the size
abbrev pub heads : List Tree → (ℕ → List Trees) → ℕ → List Trees
heads [] rest m = []
heads (t ∷ ts) rest m = map (more t) (rest m) ++ heads ts rest m

In-heads : (t : Tree) (us : Trees) (ts : List Tree) (rest : ℕ → List Trees) (m : ℕ) → In t ts → In us (rest m) → In (more t us) (heads ts rest m)
In-heads t us [] rest m i j = absurd i
In-heads t us (s ∷ ts) rest m (inl e) j =
    In-append_left (more t us) (map (more s) (rest m)) (heads ts rest m) (subst (λ z. In (more z us) (map (more s) (rest m))) (sym e) (In-map (more s) us (rest m) j))
In-heads t us (s ∷ ts) rest m (inr i) j = In-append_right (more t us) (map (more s) (rest m)) (heads ts rest m) (In-heads t us ts rest m i j)

-- those of a list that pass a test
abbrev pub kept : {A : Type 0} → (A → Bool) → List A → List A
kept test [] = []
kept test (t ∷ ts) = cond (test t) (t ∷ kept test ts) (kept test ts)

pub In-kept : (test : Tree → Bool) (t : Tree) (ts : List Tree) → test t ≡ true → In t ts → In t (kept test ts)
In-kept test t [] h i = absurd i
In-kept test t (s ∷ ts) h i = by (test s) refl (kept test ts) (In-kept test t ts h) i
  where
    other : test s ≡ false → t ≡ s → ⊥
    other e f = let k : test s ≡ true = subst (λ u. test u ≡ true) f h in cc

    by : (b : Bool) → test s ≡ b → (rest : List Tree) → (In t ts → In t rest) → In t (s ∷ ts) → In t (cond b (s ∷ rest) rest)
    by true e rest k (inl f) = inl f
    by true e rest k (inr j) = inr (k j)
    by false e rest k (inl f) = absurd (other e f)
    by false e rest k (inr j) = k j

-- whether the rest matters, and then what is said of it
abbrev pub guards : List Tree → (ℕ → Bool) → ℕ → Bool
guards [] rest m = true
guards (t ∷ ts) rest m = rest m

guards_rest : (t : Tree) (ts : List Tree) (rest : ℕ → Bool) (m : ℕ) → In t ts → guards ts rest m ≡ true → rest m ≡ true
guards_rest t [] rest m i e = absurd i
guards_rest t (s ∷ ts) rest m i e = e

abbrev pub is_empty : List Tree → Bool
is_empty [] = true
is_empty (t ∷ ts) = false

none_in_empty : (t : Tree) (ts : List Tree) → is_empty ts ≡ true → In t ts → ⊥
none_in_empty t [] e i = i
none_in_empty t (s ∷ ts) e i = cc

pub first_true : (a b : Bool) → both a b ≡ true → a ≡ true
first_true true b e = refl
first_true false b e = e

pub second_true : (a b : Bool) → both a b ≡ true → b ≡ true
second_true true b e = e
second_true false b e = absurd (cc)

pub every_at : {A : Type 0} (test : A → Bool) (xs : List A) (x : A) → every test xs ≡ true → In x xs → test x ≡ true
every_at test [] x e i = absurd i
every_at test (y ∷ ys) x e (inl f) = subst (λ z. test z ≡ true) (sym f) (first_true (test y) (every test ys) e)
every_at test (y ∷ ys) x e (inr i) = every_at test ys x (second_true (test y) (every test ys) e) i

-- the greatest size that a component can have, where there are at least so many and each has a size
abbrev pub largest : ℕ → ℕ → ℕ
largest low n = cond (nat_le 2 low) (n - 1) n

-- each tree of the list is so
abbrev pub EachInside : (Tree → Type 0) → Trees → Type 0
EachInside inside none = Unit {0}
EachInside inside (more t ts) = inside t × EachInside inside ts

-- ---- parts and components, where g gives the trees of a construct of a size

module _ (p : Program) (g : Shape → ℕ → List Tree) where
  abbrev pub in_branches : ℕ → List Part → ℕ → List Tree
  in_branches i [] n = []
  in_branches i (part ∷ parts) n = map (Inj (suc i)) (g (shape_of p part.node) n) ++ in_branches (suc i) parts n

  abbrev pub tuples : List Part → ℕ → List Trees
  tuples [] zero = none ∷ []
  tuples [] (suc n) = []
  tuples (part ∷ parts) n = spread (λ k. heads (g (shape_of p part.node) k) (tuples parts) (n - k)) (below (suc n))

  abbrev pub components : Shape → ℕ → ℕ → List Trees
  components s zero wide = none ∷ []
  components s (suc m) zero = []
  components s (suc m) (suc wide) = spread (λ k. heads (g s (suc k)) (λ r. components s r wide) (m - k)) (below (suc m))

  -- where there are at least two, the first leaves something of the size to the others
  abbrev pub collections : Shape → ℕ → ℕ → List Trees
  collections s low n =
      cond (nat_le 2 low) (spread (λ k. heads (g s (suc k)) (λ r. components s r n) (n - suc k)) (below (n - 1))) (components s n n)

  -- nothing is left out, where c says that g leaves nothing out
  abbrev pub tuples_covered : (Shape → ℕ → Bool) → List Part → ℕ → Bool
  tuples_covered c [] n = true
  tuples_covered c (part ∷ parts) n =
      every (λ k. both (c (shape_of p part.node) k) (guards (g (shape_of p part.node) k) (tuples_covered c parts) (n - k))) (below (suc n))

  module _ (inside : Tree → Type 0) (c : Shape → ℕ → Bool) (found : (s : Shape) (t : Tree) → c s (size_of t) ≡ true → Fits p s t → inside t → In t (g s (size_of t))) where
    found_at : (s : Shape) (t : Tree) (n : ℕ) → size_of t ≡ n → c s n ≡ true → Fits p s t → inside t → In t (g s n)
    found_at s t n e k h i = subst (λ m. In t (g s m)) e (found s t (subst (λ m. c s m ≡ true) (sym e) k) h i)

    pub branch_found : (parts : List Part) (j i : ℕ) (part : Part) (t : Tree) → slice_get parts i ≡ Some part → every (λ (q : Part). c (shape_of p q.node) (size_of t)) parts ≡ true
        → Fits p (shape_of p part.node) t → inside t → In (Inj (suc (j + i)) t) (in_branches j parts (size_of t))
    branch_found [] j i part t e k h s = absurd (let f : None ≡ Some part = e in cc)
    branch_found (q ∷ parts) j zero part t e k h s =
        let a : Fits p (shape_of p q.node) t = subst (λ (z : Part). Fits p (shape_of p z.node) t) (sym (some_one q part e)) h in
        let b : In t (g (shape_of p q.node) (size_of t)) = found (shape_of p q.node) t (first_true (c (shape_of p q.node) (size_of t)) _ k) a s in
        In-append_left (Inj (suc (j + zero)) t) (map (Inj (suc j)) (g (shape_of p q.node) (size_of t))) (in_branches (suc j) parts (size_of t))
        (subst (λ m. In (Inj (suc m) t) (map (Inj (suc j)) (g (shape_of p q.node) (size_of t)))) (omega arith) (In-map (Inj (suc j)) t (g (shape_of p q.node) (size_of t)) b))
    branch_found (q ∷ parts) j (suc i) part t e k h s =
        In-append_right (Inj (suc (j + suc i)) t) (map (Inj (suc j)) (g (shape_of p q.node) (size_of t))) (in_branches (suc j) parts (size_of t))
        (subst (λ m. In (Inj (suc m) t) (in_branches (suc j) parts (size_of t))) (omega arith)
        (branch_found parts (suc j) i part t e (second_true (c (shape_of p q.node) (size_of t)) _ k) h s))

    pub tuple_found : (parts : List Part) (ts : Trees) → tuples_covered c parts (sizes_of ts) ≡ true → FitAll p parts ts → EachInside inside ts → In ts (tuples parts (sizes_of ts))
    tuple_found [] none k h s = inl refl
    tuple_found [] (more t ts) k h s = absurd h
    tuple_found (part ∷ parts) none k h s = absurd h
    tuple_found (part ∷ parts) (more t ts) k h s =
        let n = size_of t + sizes_of ts in
        let rest : n - size_of t ≡ sizes_of ts = omega arith in
        let there : In (size_of t) (below (suc n)) = In-below (suc n) (size_of t) (omega arith) in
        let both_so = every_at (λ m. both (c (shape_of p part.node) m) (guards (g (shape_of p part.node) m) (tuples_covered c parts) (n - m))) (below (suc n)) (size_of t) k there in
        let first : In t (g (shape_of p part.node) (size_of t)) = found (shape_of p part.node) t (first_true (c (shape_of p part.node) (size_of t)) _ both_so) h.0 s.0 in
        let covered : tuples_covered c parts (n - size_of t) ≡ true =
        guards_rest t (g (shape_of p part.node) (size_of t)) (tuples_covered c parts) (n - size_of t) first (second_true (c (shape_of p part.node) (size_of t)) _ both_so) in
        let behind : In ts (tuples parts (sizes_of ts)) = tuple_found parts ts (subst (λ m. tuples_covered c parts m ≡ true) rest covered) h.1 s.1 in
        In-spread (λ m. heads (g (shape_of p part.node) m) (tuples parts) (n - m)) (size_of t) (below (suc n)) (more t ts) there
        (In-heads t ts (g (shape_of p part.node) (size_of t)) (tuples parts) (n - size_of t) first (subst (λ m. In ts (tuples parts m)) (sym rest) behind))

    -- components have at least size 1 where there is none of size 0
    module _ (part : Part) (n : ℕ) (covered : every (c (shape_of p part.node)) (below (suc n)) ≡ true) (solid : is_empty (g (shape_of p part.node) 0) ≡ true) where
      covered_at : (m : ℕ) → m ≤ n → c (shape_of p part.node) m ≡ true
      covered_at m l = every_at (c (shape_of p part.node)) (below (suc n)) m covered (In-below (suc n) m (omega (arith, l)))

      pub components_found : (m wide : ℕ) (ts : Trees) → sizes_of ts ≡ m → m ≤ n → m ≤ wide → FitEach p part ts → EachInside inside ts → In ts (components (shape_of p part.node) m wide)
      components_found zero wide none e l w h s = inl refl
      components_found zero wide (more t ts) e l w h s =
          absurd (none_in_empty t (g (shape_of p part.node) 0) solid (found_at (shape_of p part.node) t 0 (omega (arith, e)) (covered_at 0 (omega arith)) h.0 s.0))
      components_found (suc m) zero ts e l w h s = absurd (omega (arith, w))
      components_found (suc m) (suc wide) none e l w h s = absurd (omega (arith, e))
      components_found (suc m) (suc wide) (more t ts) e l w h s =
          by (size_of t) refl (λ k f. components_found (m - k) wide ts (omega (arith, e, f)) (omega (arith, l)) (omega (arith, w)) h.1 s.1)
        where
          by : (k : ℕ) → size_of t ≡ k → ((j : ℕ) → size_of t ≡ suc j → In ts (components (shape_of p part.node) (m - j) wide)) → In (more t ts) (components (shape_of p part.node) (suc m) (suc wide))
          by zero f behind = absurd (none_in_empty t (g (shape_of p part.node) 0) solid (found_at (shape_of p part.node) t 0 f (covered_at 0 (omega arith)) h.0 s.0))
          by (suc k) f behind =
              let first : In t (g (shape_of p part.node) (suc k)) = found_at (shape_of p part.node) t (suc k) f (covered_at (suc k) (omega (arith, e, f, l))) h.0 s.0 in
              In-spread (λ j. heads (g (shape_of p part.node) (suc j)) (λ r. components (shape_of p part.node) r wide) (m - j)) k (below (suc m)) (more t ts) (In-below (suc m) k (omega (arith, e, f)))
              (In-heads t ts (g (shape_of p part.node) (suc k)) (λ r. components (shape_of p part.node) r wide) (m - k) first (behind k f))

    pub collection_found : (part : Part) (low n : ℕ) (ts : Trees) → every (c (shape_of p part.node)) (below (suc (largest low n))) ≡ true → is_empty (g (shape_of p part.node) 0) ≡ true
        → sizes_of ts ≡ n → low ≤ length (to_list ts) → FitEach p part ts → EachInside inside ts → In ts (collections (shape_of p part.node) low n)
    collection_found part low n ts covered solid e l h s = by (nat_le 2 low) ((le_decides 2 low).0) covered
      where
        x : Shape
        x = shape_of p part.node

        smaller : every (c x) (below (suc (n - 1))) ≡ true → 2 ≤ length (to_list ts) → In ts (spread (λ k. heads (g x (suc k)) (λ r. components x r n) (n - suc k)) (below (n - 1)))
        smaller k two = pair ts e two h s
          where
            pair : (us : Trees) → sizes_of us ≡ n → 2 ≤ length (to_list us) → FitEach p part us → EachInside inside us
                → In us (spread (λ k. heads (g x (suc k)) (λ r. components x r n) (n - suc k)) (below (n - 1)))
            pair none f m i j = absurd (omega (arith, m))
            pair (more t none) f m i j = absurd (omega (arith, m))
            pair (more t (more u us)) f m i j = of (size_of t) refl (size_of u) refl
              where
                of : (a : ℕ) → size_of t ≡ a → (b : ℕ) → size_of u ≡ b → In (more t (more u us)) (spread (λ k. heads (g x (suc k)) (λ r. components x r n) (n - suc k)) (below (n - 1)))
                of zero q b r = absurd (none_in_empty t (g x 0) solid (found_at x t 0 q (covered_at part (n - 1) k solid 0 (omega arith)) i.0 j.0))
                of (suc a) q zero r = absurd (none_in_empty u (g x 0) solid (found_at x u 0 r (covered_at part (n - 1) k solid 0 (omega arith)) i.1.0 j.1.0))
                of (suc a) q (suc b) r =
                    In-spread (λ k. heads (g x (suc k)) (λ r. components x r n) (n - suc k)) a (below (n - 1)) (more t (more u us)) (In-below (n - 1) a (omega (arith, f, q, r)))
                    (In-heads t (more u us) (g x (suc a)) (λ r. components x r n) (n - suc a)
                    (found_at x t (suc a) q (covered_at part (n - 1) k solid (suc a) (omega (arith, f, q, r))) i.0 j.0)
                    (components_found part (n - 1) k solid (n - suc a) n (more u us) (omega (arith, f, q)) (omega arith) (omega arith) i.1 j.1))

        by : (b : Bool) → (b ≡ true → 2 ≤ low) → every (c x) (below (suc (cond b (n - 1) n))) ≡ true
            → In ts (cond b (spread (λ k. heads (g x (suc k)) (λ r. components x r n) (n - suc k)) (below (n - 1))) (components x n n))
        by true two k = smaller k (omega (arith, two refl, l))
        by false two k = components_found part n k solid n n ts e (omega arith) (omega arith) h s
