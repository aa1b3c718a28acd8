-- An entry of the counts, from those that come before it.
use Rattle.std.proofs.Common.{◌≡◌, ◌⊎◌, ℕ, ◌+◌, ◌≤◌, ◌<◌, inl, inr, ⊎_elim, List, [], ◌∷◌, ◌++◌, length, map, sum_by, drop, slice_index, slice_get, refl, sym, ◌∙◌, ap, subst, arith, Some, Option, append_assoc}
use Rattle.std.proofs.lemmas.List.Sums.{sum_by-cons}
use Rattle.luo_num.specs.Mark.{capped}
use Rattle.luo_finite.specs.Listing.{In}
use Rattle.luo_counting.specs.Sharing.{products}
use Rattle.luo_counting.proofs.TreeCollections.{count_of_all}
use Rattle.luo_finite.proofs.Membership.{In-append_right, In-append_cases}
use Rattle.luo_finite.proofs.Sums.{Counts-unique}
use Rattle.luo_model.specs.declared.program.Part.{Part}
use Rattle.luo_model.specs.declared.program.Shape.{Shape}
use Rattle.luo_model.specs.declared.program.Shape.TheVariants.{Atom, Union, Product}
use Rattle.luo_model.specs.Program.{Program, shape_of}
use Rattle.luo_model.specs.Structures.{IsStructure}
use Rattle.luo_model.specs.Invariant.{inner_parts}
use Rattle.luo_engine.specs.inner.Grid.{entry_of}
use Rattle.luo_recipes.specs.Shares.{tail_of, HasNone, AreReady}
use Rattle.luo_recipes.specs.Obeys.{Obeys, atom_count}
use Rattle.luo_engine.specs.inner.Filled.{rank_of, AreRanks, IsOrder, IsLaid, IsRight, AreCounted, CountsTo}
use Rattle.luo_recipes.proofs.ReadLemmas.{none_or_some, reads}
use Rattle.luo_engine.proofs.inner.RowLemmas.{tail-product}

lt_or_not : (a b : ℕ) → (a < b) ⊎ (b ≤ a)
lt_or_not a b = grind arith

lt_or_eq : (a b : ℕ) → a ≤ b → (a < b) ⊎ (a ≡ b)
lt_or_eq a b h = grind arith

-- whether some element has nothing of size 0
pub find_none : {X : Type 0} (a : X → ℕ → ℕ) (xs : List X) → HasNone a xs ⊎ (HasNone a xs → ⊥)
find_none a [] = inr (λ h. h.1)
find_none a (x ∷ xs) = look (none_or_some (a x 0)) (find_none a xs)
  where
    look : (a x 0 ≡ 0) ⊎ (a x 0 ≡ 0 → ⊥) → HasNone a xs ⊎ (HasNone a xs → ⊥) → HasNone a (x ∷ xs) ⊎ (HasNone a (x ∷ xs) → ⊥)
    look (inl e) r = inl (x, inl refl, e)
    look (inr n) (inl h) = inl (h.0, inr h.1, h.2)
    look (inr n) (inr m) = inr (λ h. ⊎_elim (λ e. n (ap (λ y. a y 0) (sym e) ∙ h.2)) (λ i. m (h.0, i, h.2)) h.1)

some_one : {A : Type 0} (x y : A) → Some x ≡ Some y → x ≡ y
some_one x y e = cc

pub sum_by-same : {X : Type 0} (f g : X → ℕ) (xs : List X) → ((x : X) → In x xs → f x ≡ g x) → sum_by f xs ≡ sum_by g xs
sum_by-same f g [] h = refl
sum_by-same f g (x ∷ xs) h =
    let e = h x (inl refl) in
    let r = sum_by-same f g xs (λ y i. h y (inr i)) in
    sum_by-cons f x xs ∙ ap (λ k. k + sum_by f xs) e ∙ ap (λ k. g x + k) r ∙ sym (sum_by-cons g x xs)

module _ (p : Program) (ranks order : List ℕ) (C : ℕ → ℕ → ℕ) (obeys : Obeys p C) (ranked : AreRanks p ranks) (parts_there : (x : ℕ) → x < length p.nodes → (part : Part) → In part (inner_parts (shape_of p x)) → part.node < length p.nodes) (ordered : IsOrder p ranks order) (counts : List (List ℕ)) (n k : ℕ) (counted : AreCounted p order counts n k) (x : ℕ) (place : slice_get order k ≡ Some x) where
  right_is : (y m : ℕ) → y < length p.nodes → IsRight p counts y m → entry_of counts y m ≡ C y m
  right_is y m h r = Counts-unique (IsStructure p y m) (entry_of counts y m) (C y m) r.0 (count_of_all p y m (C y m) (obeys.known y m))

  pub below_is : (y m : ℕ) → y < length p.nodes → m < n → entry_of counts y m ≡ C y m
  below_is y m h l = right_is y m h (counted.below y m h l)

  -- what stands at place k or behind it has no smaller rank
  no_smaller : (j y : ℕ) → slice_get order j ≡ Some y → k ≤ j → rank_of ranks y < rank_of ranks x → ⊥
  no_smaller j y e h l =
      ⊎_elim (λ (g : k < j). ⊎_elim (λ a. absurd (omega (arith, a, l))) (λ b. absurd (omega (arith, b.0, l))) (ordered.rising k j x y g place e))
      (λ (q : k ≡ j). let s : x ≡ y = some_one x y (sym place ∙ ap (slice_get order) q ∙ e) in absurd (omega (arith, l, ap (rank_of ranks) s))) (lt_or_eq k j h)

  -- an entry of smaller rank is filled
  pub filled_is : (y : ℕ) → y < length p.nodes → rank_of ranks y < rank_of ranks x → entry_of counts y n ≡ C y n
  filled_is y h l =
      let at = ordered.complete y h in
      ⊎_elim (λ g. right_is y n h (counted.done at.0 y g at.1)) (λ g. absurd (no_smaller at.0 y at.1 g l)) (lt_or_not at.0 k)

  -- an entry is filled, or still 0
  filled_or : (y : ℕ) → y < length p.nodes → (entry_of counts y n ≡ C y n) ⊎ ((entry_of counts y n ≡ 0) × (rank_of ranks y < rank_of ranks x → ⊥))
  filled_or y h =
      let at = ordered.complete y h in
      ⊎_elim (λ g. inl (right_is y n h (counted.done at.0 y g at.1))) (λ g. inr (counted.waiting at.0 y g at.1, no_smaller at.0 y at.1 g)) (lt_or_not at.0 k)

  x_there : x < length p.nodes
  x_there = ordered.there k x place

  module _ (parts : List Part) (shape : shape_of p x ≡ Product parts) where
    part_there : (part : Part) → In part parts → part.node < length p.nodes
    part_there part i = parts_there x x_there part (subst (λ (s : Shape). In part (inner_parts s)) (sym shape) i)

    A : Part → ℕ → ℕ
    A part = C part.node

    T : Part → ℕ → ℕ
    T part = entry_of counts part.node

    -- a factor that isn't filled yet stands beside another that has nothing of size 0
    unfilled : (before after : List Part) (part : Part) → parts ≡ before ++ (part ∷ after) → (rank_of ranks part.node < rank_of ranks x → ⊥) → HasNone A before ⊎ HasNone A after
    unfolding A
    unfilled before after part e n =
        ⊎_elim (λ h. inl h)
        (λ nb. ⊎_elim (λ h. inr h)
        (λ na. absurd (n (obeys.factor_falls x before after part (shape ∙ ap Product e) (λ o. ⊎_elim (λ i. nb (o.0, i, o.2)) (λ i. na (o.0, i, o.2)) (In-append_cases o.0 before after o.1)) (rank_of ranks x) (rank_of ranks part.node) (ranked.ranked x x_there) (ranked.ranked part.node (part_there part (subst (In part) (sym e) (In-append_right part before (part ∷ after) (inl refl))))))))
        (find_none A after))
        (find_none A before)

    ready : (Z : Type 0) (before xs : List Part) → (HasNone A before → Z) → parts ≡ before ++ xs → AreReady A A T n Z xs
    unfolding A T
    ready Z before [] z e = tt
    ready Z before (part ∷ xs) z e =
        let i : In part parts = subst (In part) (sym e) (In-append_right part before (part ∷ xs) (inl refl)) in (
          ⊎_elim (λ q. inl q) (λ w. inr (w.0, ⊎_elim (λ h. inl (z h)) (λ h. inr h) (unfilled before xs part e w.1))) (filled_or part.node (part_there part i)),
          ready (Z ⊎ (A part 0 ≡ 0)) (before ++ (part ∷ [])) xs
              (λ h. ⊎_elim (λ j. inl (z (h.0, j, h.2))) (λ j. ⊎_elim (λ q. inr (ap (λ (y : Part). A y 0) (sym q) ∙ h.2)) (λ a. absurd a) j) (In-append_cases h.0 before (part ∷ []) h.1))
              (e ∙ sym (append_assoc before (part ∷ []) xs)),
        )

    product_is : products p.universe (map T parts) n ≡ C x n
    unfolding A T
    product_is =
        reads p.universe A T n ⊥ parts (λ z. z) (λ part i m l. below_is part.node m (part_there part i) l) (ready ⊥ [] parts (λ h. h.1) refl)
        ∙ sym (obeys.product x n parts shape)

  pub product_counts : (parts : List Part) (start value : ℕ) (factors : List (Option ℕ)) (starts : List ℕ) → shape_of p x ≡ Product parts → IsLaid p starts factors → start ≡ slice_index starts x
      → value ≡ capped (tail_of p.universe (entry_of counts) (drop start factors) n) → CountsTo p x n value
  unfolding product_is T
  product_counts parts start value factors starts shape laid s v =
      let rows = laid.products x parts x_there shape in record {
        number = C x n;
        is_number = count_of_all p x n (C x n) (obeys.known x n);
        marked = v
            ∙ ap (λ i. capped (tail_of p.universe (entry_of counts) (drop i factors) n)) s
            ∙ ap (λ (fs : List (Option ℕ)). capped (tail_of p.universe (entry_of counts) fs n)) rows.1
            ∙ ap capped (tail-product p.universe (entry_of counts) (λ (part : Part). part.node) parts rows.0 n ∙ product_is parts shape);
      }

  pub union_counts : (parts : List Part) (value : ℕ) → shape_of p x ≡ Union parts → value ≡ capped (sum_by (λ part. entry_of counts part.node n) parts) → CountsTo p x n value
  union_counts parts value shape v = record {
    number = C x n;
    is_number = count_of_all p x n (C x n) (obeys.known x n);
    marked = v
        ∙ ap capped (sum_by-same (λ (part : Part). entry_of counts part.node n) (λ part. C part.node n) parts
        (λ part i. filled_is part.node (parts_there x x_there part (subst (λ (s : Shape). In part (inner_parts s)) (sym shape) i)) (obeys.branch_falls x parts part shape i (rank_of ranks x) (rank_of ranks part.node) (ranked.ranked x x_there) (ranked.ranked part.node (parts_there x x_there part (subst (λ (s : Shape). In part (inner_parts s)) (sym shape) i)))))
        ∙ sym (obeys.union x n parts shape));
  }

  pub atom_counts_to : (weight value : ℕ) → shape_of p x ≡ Atom weight → value ≡ atom_count weight n → (value ≡ capped value) → CountsTo p x n value
  atom_counts_to weight value shape v c = record { number = C x n; is_number = count_of_all p x n (C x n) (obeys.known x n); marked = c ∙ ap capped (v ∙ sym (obeys.atom x weight n shape)) }
