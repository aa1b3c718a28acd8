-- Sums of charges over the structures of a node, as integers, and the scopes of bodies.
use Rattle.std.proofs.Common.{◌≡◌, ℕ, zero, suc, ◌+◌, ◌*◌, ◌<◌, refl, sym, ◌∙◌, ap, arith, subst, ℤ, pos}
use Rattle.std.proofs.Common.{◌+ℤ◌, ◌*ℤ◌, nat_abs, Option, Some, ◌⊎◌, inl, inr, ⊎_elim, List, [], ◌∷◌, length, slice_get, sum_by}
use Rattle.std.proofs.lemmas.Int.{ints}
use Rattle.std.proofs.lemmas.Option.{slice_get_within}
use Rattle.std.proofs.lemmas.List.Sums.{sum_by-cons}
use Rattle.std.proofs.Math.IntN.{pos-*ℤ-pos}
use Rattle.std.proofs.Math.Nat.{zero-mul}
use Rattle.luo_finite.specs.Listing.{In, Sums}
use Rattle.luo_finite.proofs.Sums.{Sums-add, Sums-same, Sums-constant, Sums-unique}
use Rattle.luo_model.specs.declared.program.Kind.{Kind}
use Rattle.luo_model.specs.declared.program.Part.{Part}
use Rattle.luo_model.specs.declared.program.Shape.TheVariants as shape
use Rattle.luo_model.specs.Tree.{Tree, Atom, Inj, Tup, Coll, to_list, size_of}
use Rattle.luo_model.specs.Program.{Program, shape_of}
use Rattle.luo_model.specs.Member.{Member, Fits, IsWithin}
use Rattle.luo_model.specs.Charges.{parts_of}
use Rattle.luo_model.specs.Structures.{IsStructureOn, labels_from}
use Rattle.luo_model.specs.Invariant.{IsProgram, IsPart}
use Rattle.luo_model.specs.Founded.{IsFounded}
use Rattle.luo_finite.proofs.Places.{some_same, none_some}
use Rattle.luo_founded.proofs.Bounded.{as_many}
use Rattle.luo_counting.specs.Sharing.{shares, products}
use Rattle.luo_counting.specs.Numbers.{coll_total}
use Rattle.luo_counting.specs.Counted.{SumsAt, over_components}
use Rattle.luo_counting.proofs.Numbered.{room_of}
use Rattle.luo_counting.proofs.TreeParts as numbers
use Rattle.luo_counting.proofs.TreeParts.{HasNoEmpty, SomeHasNoEmpty, AreBelow, AreAt}
use Rattle.luo_counting.proofs.TreeCharges.{plain, place, at_part, SumsAt-part}
use Rattle.luo_counting.proofs.TreeCollections.{node_known}
use Rattle.luo_equation.specs.Series.{only_at, times, point}
use Rattle.luo_equation.proofs.SeriesLemmas.{times-pos}
use Rattle.luo_equation.proofs.Shares.{shares_swap}
use Rattle.luo_equation.proofs.Ring.{times-unit}
use Rattle.luo_equation.proofs.Local.{times-same, point-same}
use Rattle.luo_equation.proofs.CountLaws.{point-pos}
use Rattle.luo_system.specs.System.{others}
use Rattle.luo_system.proofs.Values.{products_in, products-low}
use Rattle.luo_counting.proofs.OfPrograms.{light_program, suits_program}
use Rattle.luo_system.proofs.Counts.{count_of, counted, solid_part, C, CZ, node_value, products-pos}
use Rattle.luo_system.proofs.Charging.{tree_at}

at_part-get : (j : ℕ) (w : Tree → ℕ) (l : List Tree) → j < length l → at_part j w l ≡ w (tree_at l j)
at_part-get j w [] h = absurd (omega arith)
at_part-get zero w (t ∷ ts) h = refl
at_part-get (suc j) w (t ∷ ts) h = at_part-get j w ts (omega arith)

-- the factor at a place, moved to the front
place-first : (p : Program) (c : Part → ℕ → ℕ) (j : ℕ) (w : Tree → ℕ) (b : ℕ → ℕ) (parts : List Part) (n : ℕ) → j < length parts
    → products p.universe (numbers.sums_in (place c j w b parts)) n ≡ shares p.universe b (products p.universe (numbers.sums_in (plain c (others j parts)))) n
place-first p c j w b [] n h = absurd (omega arith)
place-first p c zero w b (part ∷ parts) n h = refl
place-first p c (suc j) w b (part ∷ parts) n h =
    ap (λ (g : ℕ → ℕ). shares p.universe (c part) g n) (λ i m. place-first p c j w b parts m (let l : j < length parts = omega arith in l) i)
    ∙ shares_swap p.universe (c part) b (products p.universe (numbers.sums_in (plain c (others j parts)))) n

abbrev guard : ℕ → ℕ → ℕ
guard zero z = 0
guard (suc n) z = z

module _ (p : Program) (q : IsProgram p) (f : IsFounded p) where
  -- over the structures of node x of size m, on all labels, w sums to z
  abbrev pub IsSum : ℕ → (Tree → ℕ) → ℕ → ℤ → Type 0
  IsSum x w m z = (c : ℕ) × SumsAt p x w m c × (z ≡ pos c)

  pub sum-at : (x : ℕ) (w : Tree → ℕ) (m : ℕ) (y z : ℤ) → y ≡ z → IsSum x w m y → IsSum x w m z
  sum-at x w m y z e s = (s.0, s.1, sym e ∙ s.2)

  pub sum-same : (x : ℕ) (w g : Tree → ℕ) (m : ℕ) (z : ℤ) → ((s : Tree) → Member p x s → w s ≡ g s) → IsSum x w m z → IsSum x g m z
  sum-same x w g m z h s = (s.0, (λ L r. Sums-same (IsStructureOn p x L m) w g s.0 (λ t k. h t k.0) (s.1 L r)), s.2)

  pub sum-add : (x : ℕ) (w g : Tree → ℕ) (m : ℕ) (y z : ℤ) → IsSum x w m y → IsSum x g m z → IsSum x (λ s. w s + g s) m (y +ℤ z)
  sum-add x w g m y z a b = (a.0 + b.0, (λ L r. Sums-add (IsStructureOn p x L m) w g a.0 b.0 (a.1 L r) (b.1 L r)), omega (arith, ints, a.2, b.2))

  pub sum-own : (x own m : ℕ) → IsSum x (λ s. own) m (pos own *ℤ pos (count_of p q f x m))
  sum-own x own m = (own * count_of p q f x m, (λ L r. Sums-constant (IsStructureOn p x L m) own (count_of p q f x m) (counted p q f m x L r)), pos-*ℤ-pos own (count_of p q f x m))

  pub sum-none : (x m : ℕ) → IsSum x (λ s. 0) m (pos 0)
  sum-none x m = (
    0,
    (λ L r. subst (Sums (IsStructureOn p x L m) (λ s. 0)) (zero-mul (count_of p q f x m))
        (Sums-constant (IsStructureOn p x L m) 0 (count_of p q f x m) (counted p q f m x L r))),
    refl,
  )

  pub sum-one : (x : ℕ) (w : Tree → ℕ) (m : ℕ) (y z : ℤ) → IsSum x w m y → IsSum x w m z → y ≡ z
  sum-one x w m y z a b =
      a.2 ∙ ap pos (Sums-unique (IsStructureOn p x (labels_from 1 m) m) w a.0 b.0 (a.1 (labels_from 1 m) (room_of p.universe m)) (b.1 (labels_from 1 m) (room_of p.universe m))) ∙ sym b.2

  -- where there is no structure, all sums are 0
  pub sum-empty : (x : ℕ) (w : Tree → ℕ) (m : ℕ) (z : ℤ) → count_of p q f x m ≡ 0 → IsSum x w m z → z ≡ pos 0
  sum-empty x w m z e s =
      let L : List ℕ = labels_from 1 m in
      let a = s.1 L (room_of p.universe m) in
      let k = counted p q f m x L (room_of p.universe m) in
      s.2 ∙ ap pos (sym (a.each a.exists.0 a.exists.1) ∙ nothing w a.exists.0 (k.each a.exists.0 a.exists.1 ∙ e))
    where
      nothing : (w : Tree → ℕ) (l : List Tree) → sum_by (λ t. 1) l ≡ 0 → sum_by w l ≡ 0
      nothing w [] e = refl
      nothing w (t ∷ l) e = absurd (omega (arith, e, sum_by-cons (λ t. 1) t l))

  abs-pos : (z : ℤ) (c : ℕ) → z ≡ pos c → nat_abs z ≡ c
  abs-pos z c e = ap nat_abs e

  pub pos-abs : (z : ℤ) (c : ℕ) → z ≡ pos c → z ≡ pos (nat_abs z)
  pos-abs z c e = e ∙ ap pos (sym (abs-pos z c e))

  pub sum-abs : (x : ℕ) (w : Tree → ℕ) (m : ℕ) (z : ℤ) → IsSum x w m z → SumsAt p x w m (nat_abs z)
  sum-abs x w m z s = subst (SumsAt p x w m) (sym (abs-pos z s.0 s.2)) s.1

  -- some other part has no structure of size 0
  abbrev pub IsNone : ℕ → Type 0
  IsNone x = ((t : Tree) → Member p x t → size_of t ≡ 0 → ⊥) × (count_of p q f x 0 ≡ 0)

  abbrev pub RestNone : List Part → ℕ → Type 0
  RestNone vars j = (other : Part) × In other (others j vars) × IsNone other.node

  rest-low : (vars : List Part) (j : ℕ) → RestNone vars j → products_in p.universe (CZ p q f) (others j vars) 0 ≡ pos 0
  rest-low vars j r = let z : pos (count_of p q f r.0.node 0) ≡ pos 0 = ap pos r.2.1 in (products-low p.universe (λ y. Unit {0}) (CZ p q f) (CZ p q f) (others j vars) (r.0, r.1, (z, z))).0

  -- ---- a factor of a product
  module _ (w : Tree → ℕ) (b : ℕ → ℕ) (m : ℕ) where
    plain_below : (parts : List Part) → AreBelow p (plain (C p q f) parts) m
    plain_below [] = tt
    plain_below (part ∷ parts) = ((λ k l. counted p q f k part.node), plain_below parts)

    plain_at : (parts : List Part) → AreAt p (plain (C p q f) parts) m
    plain_at [] = tt
    plain_at (part ∷ parts) = (inl (counted p q f m part.node), inl (plain_at parts))

    plain_none : (parts : List Part) (other : Part) → In other parts → IsNone other.node → SomeHasNoEmpty p (plain (C p q f) parts)
    plain_none [] other i n = i
    plain_none (part ∷ parts) other i n = ⊎_elim (λ e. inl (subst (λ (y : Part). IsNone y.node) e n)) (λ k. inr (plain_none parts other k n)) i

    place_below : (parts : List Part) (j : ℕ) (part : Part) → slice_get parts j ≡ Some part → ((k : ℕ) → k < m → SumsAt p part.node w k (b k)) → AreBelow p (place (C p q f) j w b parts) m
    place_below [] j part e h = tt
    place_below (v ∷ parts) zero part e h = ((λ k l. subst (λ (y : Part). SumsAt p y.node w k (b k)) (sym (some_same v part e)) (h k l)), plain_below parts)
    place_below (v ∷ parts) (suc j) part e h = ((λ k l. counted p q f k v.node), place_below parts j part e h)

    place_at : (parts : List Part) (j : ℕ) (part : Part) → slice_get parts j ≡ Some part → SumsAt p part.node w m (b m) ⊎ RestNone parts j → AreAt p (place (C p q f) j w b parts) m
    place_at [] j part e h = tt
    place_at (v ∷ parts) zero part e h =
        (⊎_elim (λ s. inl (subst (λ (y : Part). SumsAt p y.node w m (b m)) (sym (some_same v part e)) s)) (λ r. inr (plain_none parts r.0 r.1 r.2)) h, inl (plain_at parts))
    place_at (v ∷ parts) (suc j) part e h = (
      inl (counted p q f m v.node),
      ⊎_elim (λ s. inl (place_at parts j part e (inl s)))
          (λ r. ⊎_elim (λ g. inr (subst (λ (y : Part). IsNone y.node) g r.2)) (λ k. inl (place_at parts j part e (inr (r.0, k, r.2)))) r.1) h,
    )

  -- ---- scopes: of structures of node x, the variables are these, and what stands for the whole counts them
  pub record Scoped (x : ℕ) (scope : Tree → List Tree) (whole vars : List Part) : Type 0 where
    pub whole_there : (part : Part) → In part whole → IsPart p part
    pub vars_there : (part : Part) → In part vars → IsPart p part
    pub own : (m : ℕ) → products_in p.universe (CZ p q f) whole m ≡ pos (count_of p q f x m)
    pub term : (j : ℕ) (part : Part) → slice_get vars j ≡ Some part → (w : Tree → ℕ) (z : ℕ → ℤ) (m : ℕ) → ((k : ℕ) → k < m → IsSum part.node w k (z k)) → IsSum part.node w m (z m) ⊎ RestNone vars j
        → IsSum x (λ s. w (tree_at (scope s) j)) m (times p.universe z (products_in p.universe (CZ p q f) (others j vars)) m)

  lone_there : (X : Part) → IsPart p X → (part : Part) → In part (X ∷ []) → IsPart p part
  lone_there X h part i = ⊎_elim (λ e. subst (IsPart p) (sym e) h) (λ k. absurd k) i

  pub scoped_one : (X : Part) → IsPart p X → Scoped X.node (λ s. s ∷ []) (X ∷ []) (X ∷ [])
  scoped_one X h = record {
    whole_there = lone_there X h;
    vars_there = lone_there X h;
    own = λ m. times-unit p.universe (CZ p q f X) m;
    term = one_term;
  }
    where
      one_term : (j : ℕ) (part : Part) → slice_get (X ∷ []) j ≡ Some part → (w : Tree → ℕ) (z : ℕ → ℤ) (m : ℕ) → ((k : ℕ) → k < m → IsSum part.node w k (z k)) → IsSum part.node w m
          (z m) ⊎ RestNone (X ∷ []) j
          → IsSum X.node (λ s. w (tree_at (s ∷ []) j)) m (times p.universe z (products_in p.universe (CZ p q f) (others j (X ∷ []))) m)
      one_term zero part e w z m below (inl s) =
          sum-at X.node w m (z m) (times p.universe z (only_at 0 (pos 1)) m) (sym (times-unit p.universe z m)) (subst (λ (y : Part). IsSum y.node w m (z m)) (sym (some_same X part e)) s)
      one_term zero part e w z m below (inr r) = absurd r.1
      one_term (suc j) part e w z m below h = absurd (none_some part e)

  pub scoped_none : (X : Part) → IsPart p X → Scoped X.node (λ s. []) (X ∷ []) []
  scoped_none X h = record {
    whole_there = lone_there X h;
    vars_there = λ part i. absurd i;
    own = λ m. times-unit p.universe (CZ p q f X) m;
    term = λ j part e w z m below here. absurd (none_some part e);
  }

  pub scoped_parts : (x : ℕ) (parts : List Part) → shape_of p x ≡ shape.Product parts → ((part : Part) → In part parts → IsPart p part) → Scoped x parts_of parts parts
  scoped_parts x parts is there = record {
    whole_there = there;
    vars_there = there;
    own = λ m. node_value p q f x m (shape.Product parts) is;
    term = part_term;
  }
    where
      part_term : (j : ℕ) (part : Part) → slice_get parts j ≡ Some part → (w : Tree → ℕ) (z : ℕ → ℤ) (m : ℕ) → ((k : ℕ) → k < m → IsSum part.node w k (z k)) → IsSum part.node w m
          (z m) ⊎ RestNone parts j
          → IsSum x (λ s. w (tree_at (parts_of s) j)) m (times p.universe z (products_in p.universe (CZ p q f) (others j parts)) m)
      part_term j part e w z m below here =
          let u = p.universe in
          let b : ℕ → ℕ = λ k. nat_abs (z k) in
          let inside : j < length parts = slice_get_within parts j part e in
          let N : ℕ → ℕ = products u (numbers.sums_in (plain (C p q f) (others j parts))) in
          let R : ℕ → ℤ = products_in u (CZ p q f) (others j parts) in
          let low : RestNone parts j → R 0 ≡ pos 0 = rest-low parts j in
          let n : times u z R m ≡ pos (products u (numbers.sums_in (place (C p q f) j w b parts)) m) =
          times-same u z (λ k. pos (b k)) R (λ k. pos (N k)) m (λ k l. let s = below k l in pos-abs (z k) s.0 s.2) (λ k l. products-pos p q f (others j parts) k)
          (⊎_elim (λ s. inl (pos-abs (z m) s.0 s.2)) (λ r. inr (low r, sym (products-pos p q f (others j parts) 0) ∙ low r)) here) (inl (products-pos p q f (others j parts) m))
          ∙ times-pos u b N m ∙ ap pos (sym (place-first p (C p q f) j w b parts m inside)) in
          sum-same x (λ s. at_part j w (parts_of s)) (λ s. w (tree_at (parts_of s) j)) m (times u z R m) (λ s k. same_part j w inside s (subst (λ y. Fits p y s) is k)) (
            products u (numbers.sums_in (place (C p q f) j w b parts)) m,
            SumsAt-part p x parts j m w b (C p q f) (light_program p q) is inside (place_below w b m parts j part e (λ k l. sum-abs part.node w k (z k) (below k l)))
                (place_at w b m parts j part e (⊎_elim (λ s. inl (sum-abs part.node w m (z m) s)) (λ r. inr r) here)),
            n,
          )
        where
          same_part : (j : ℕ) (w : Tree → ℕ) → j < length parts → (s : Tree) → Fits p (shape.Product parts) s → at_part j w (parts_of s) ≡ w (tree_at (parts_of s) j)
          same_part j w h (Atom v l) k = absurd k
          same_part j w h (Inj i t) k = absurd k
          same_part j w h (Tup ts) k = at_part-get j w (to_list ts) (omega (arith, h, as_many p parts ts k))
          same_part j w h (Coll ts) k = absurd k

  -- ---- walks
  pub walk_sum : (x : ℕ) (kind : Kind) (c : Part) (low : ℕ) (high : Option ℕ) → shape_of p x ≡ shape.Coll kind c low high → (w : Tree → ℕ) (z : ℕ → ℤ) (m : ℕ) →
      ((k : ℕ) → k < m → IsSum c.node w k (z k)) → (IsWithin low high 1 → IsSum c.node w m (z m))
      → IsSum x (over_components w) m (point p.universe kind (CZ p q f c) z low high m)
  walk_sum x kind c low high is w z m below here =
      let u = p.universe in
      let o = solid_part p q f x kind c low high is in
      let b : ℕ → ℕ = λ k. guard (count_of p q f c.node k) (nat_abs (z k)) in
      let known : (k : ℕ) → IsSum c.node w k (z k) → z k ≡ pos (b k) = λ k s. guarded (count_of p q f c.node k) (nat_abs (z k)) (z k) (pos-abs (z k) s.0 s.2) (λ e. sum-empty c.node w k (z k) e s) in
      let at : (k : ℕ) → IsSum c.node w k (z k) → SumsAt p c.node w k (b k) = λ k s. subst (SumsAt p c.node w k) (omega (arith, ints, sym s.2 ∙ known k s)) s.1 in
      let empty : (k : ℕ) → count_of p q f c.node k ≡ 0 → b k ≡ 0 = λ k e. ap (λ n. guard n (nat_abs (z k))) e in (
        coll_total u kind (C p q f c) b low high m,
        (λ L r. (node_known p x kind c low high is (light_program p q) (suits_program p q x kind c low high is) o.0 w (C p q f c) b m o.1 (empty 0 o.1)
            (λ k i l. (counted p q f k c.node, at k (below k l))) (λ h. (counted p q f m c.node, at m (here h))) L r).total),
        point-same u kind (CZ p q f c) z (λ k. pos (b k)) low high m (ap pos o.1) (λ k l. known k (below k l)) (λ h. known m (here h))
            ∙ point-pos (C p q f c) o.1 b empty u kind low high m (suits_program p q x kind c low high is),
      )
    where
      guarded : (n a : ℕ) (z : ℤ) → z ≡ pos a → (n ≡ 0 → z ≡ pos 0) → z ≡ pos (guard n a)
      guarded zero a z e h = h refl
      guarded (suc n) a z e h = e
