-- Collections of structures: the same law as for numbered items.
use Rattle.std.proofs.Common.{◌≡◌, ℕ, zero, suc, ◌+◌, ◌≤◌, ◌<◌, List, [], ◌∷◌, ◌++◌, length, refl, sym, ◌∙◌, ap, subst, arith, Option, flat_map, length-append}
use Rattle.std.proofs.lemmas.List.Concat.{flat_map-cons}
use Rattle.luo_finite.specs.Range.{sum_below}
use Rattle.luo_finite.proofs.Sums.{Sums-unique, Counts-from, Counts-unique}
use Rattle.luo_finite.specs.Each.{Each, total}
use Rattle.luo_model.specs.declared.program.Universe.{Universe}
use Rattle.luo_model.specs.declared.program.Universe.TheVariants.{Unlabelled, Labelled}
use Rattle.luo_model.specs.declared.program.Kind.{Kind}
use Rattle.luo_model.specs.declared.program.Part.{Part}
use Rattle.luo_model.specs.declared.program.Shape.{Shape}
use Rattle.luo_model.specs.Tree.{Tree, Trees, Atom, Inj, Tup, Coll, none, more, to_list, from_list, size_of, sizes_of, labels_of, all_labels_of, label_list}
use Rattle.luo_model.specs.Order.{IsBefore}
use Rattle.luo_model.specs.Program.{Program, shape_of}
use Rattle.luo_model.specs.Member.{Fits, FitAll, FitEach, Member, IsWithin, IsLabel}
use Rattle.luo_model.specs.Structures.{IsStructureOn, IsStructure, Carries, labels_from}
use Rattle.luo_model.specs.Tables.{IsCount}
use Rattle.luo_model.specs.Collections.{Bears, IsCollectionOf}
use Rattle.luo_model.specs.Numbered.{IsCollectionCount, IsCollectionTotal, NumberedCollection, charged}
use Rattle.luo_model.specs.declared.program.Shape.TheVariants as shape
use Rattle.luo_counting.specs.Sharing.{IsRoom}
use Rattle.luo_counting.specs.Items.{On, Suits}
use Rattle.luo_counting.specs.Numbers.{coll_count, coll_total}
use Rattle.luo_counting.specs.Laws.{NodesAreCounted}
use Rattle.luo_counting.specs.Counted.{SumsAt, CountsAt, IsLight, AreLight, over_trees, over_components}
use Rattle.luo_counting.proofs.Measures.{Measures, Measures-iff, Measures-map}
use Rattle.luo_counting.proofs.Two.{IsSized}
use Rattle.luo_counting.proofs.Counts.{Ready, Measures-collections}
use Rattle.luo_counting.proofs.Orders.{trees_ordered, trees_by_size}
use Rattle.luo_counting.proofs.Numbered.{coll_total_is, room_of}

-- what a structure carries is what its labels bear
pub carries_bears : (u : Universe) (L : List ℕ) (t : Tree) → Carries u L t → Bears u L (labels_of t)
carries_bears Unlabelled L t c = tt
carries_bears Labelled L t c = c

pub bears_carries : (u : Universe) (L : List ℕ) (t : Tree) → Bears u L (labels_of t) → Carries u L t
bears_carries Unlabelled L t c = tt
bears_carries Labelled L t c = c

-- in the labelled universe the size of a member is the number of its labels
module _ (p : Program) (labelled : p.universe ≡ Labelled) (light : (x : ℕ) → IsLight (shape_of p x)) where
  label_long : (w l : ℕ) → w ≤ 1 → IsLabel Labelled w l → w ≡ length (label_list l)
  label_long zero zero h m = refl
  label_long zero (suc l) h m = let e : suc l ≡ 0 = m.1 (λ q. omega (arith, q)) in absurd (omega (arith, e))
  label_long (suc w) zero h m = let e : suc w ≡ 1 = omega (arith, h) in let k : 1 ≤ 0 = m.0 e in absurd (omega (arith, k))
  label_long (suc w) (suc l) h m = omega (arith, h)

  mutual
    size_labels : (s : Shape) (t : Tree) → IsLight s → Fits p s t → size_of t ≡ length (labels_of t)
    size_labels (shape.Atom weight) (Atom w l) h m = label_long w l (subst (λ i. i ≤ 1) (sym m.0) h) (subst (λ u. IsLabel u w l) labelled m.1)
    size_labels (shape.Atom weight) (Inj i t) h m = absurd m
    size_labels (shape.Atom weight) (Tup ts) h m = absurd m
    size_labels (shape.Atom weight) (Coll ts) h m = absurd m
    size_labels (shape.Union parts) (Atom w l) h m = absurd m
    size_labels (shape.Union parts) (Inj zero t) h m = absurd m
    size_labels (shape.Union parts) (Inj (suc i) t) h m = let part = m.0 in size_labels (shape_of p part.node) t (light part.node) m.2
    size_labels (shape.Union parts) (Tup ts) h m = absurd m
    size_labels (shape.Union parts) (Coll ts) h m = absurd m
    size_labels (shape.Product parts) (Atom w l) h m = absurd m
    size_labels (shape.Product parts) (Inj i t) h m = absurd m
    size_labels (shape.Product parts) (Tup ts) h m = all_labels parts ts m
    size_labels (shape.Product parts) (Coll ts) h m = absurd m
    size_labels (shape.Coll kind part low high) (Atom w l) h m = absurd m
    size_labels (shape.Coll kind part low high) (Inj i t) h m = absurd m
    size_labels (shape.Coll kind part low high) (Tup ts) h m = absurd m
    size_labels (shape.Coll kind part low high) (Coll ts) h m = each_labels part ts m.1

    pub all_labels : (parts : List Part) (ts : Trees) → FitAll p parts ts → sizes_of ts ≡ length (all_labels_of ts)
    all_labels [] none m = refl
    all_labels [] (more t ts) m = absurd m
    all_labels (part ∷ parts) none m = absurd m
    all_labels (part ∷ parts) (more t ts) m = omega (arith, size_labels (shape_of p part.node) t (light part.node) m.0, all_labels parts ts m.1, length-append (labels_of t) (all_labels_of ts))

    each_labels : (part : Part) (ts : Trees) → FitEach p part ts → sizes_of ts ≡ length (all_labels_of ts)
    each_labels part none m = refl
    each_labels part (more t ts) m = omega (arith, size_labels (shape_of p part.node) t (light part.node) m.0, each_labels part ts m.1, length-append (labels_of t) (all_labels_of ts))

pub members_sized : (p : Program) → AreLight p → (x : ℕ) → IsSized p.universe (Member p x) size_of labels_of
members_sized p light x = by_universe p.universe refl
  where
    by_universe : (u : Universe) → p.universe ≡ u → IsSized u (Member p x) size_of labels_of
    by_universe Unlabelled e = tt
    by_universe Labelled e = λ t m. size_labels p e (light e) (shape_of p x) t (light e x) m

-- lists of trees
pub list_back : (ts : Trees) → from_list (to_list ts) ≡ ts
list_back none = refl
list_back (more t ts) = ap (more t) (list_back ts)

pub back_list : (xs : List Tree) → to_list (from_list xs) ≡ xs
back_list [] = refl
back_list (x ∷ xs) = ap (λ z. x ∷ z) (back_list xs)

list_size : (ts : Trees) → sizes_of ts ≡ total size_of (to_list ts)
list_size none = refl
list_size (more t ts) = ap (λ n. size_of t + n) (list_size ts)

list_labels : (ts : Trees) → all_labels_of ts ≡ flat_map labels_of (to_list ts)
list_labels none = refl
list_labels (more t ts) = ap (λ l. labels_of t ++ l) (list_labels ts) ∙ sym (flat_map-cons labels_of t (to_list ts))

pub list_over : (w : Tree → ℕ) (ts : Trees) → over_trees w ts ≡ total w (to_list ts)
list_over w none = refl
list_over w (more t ts) = ap (λ n. w t + n) (list_over w ts)

each_list : (p : Program) (part : Part) (ts : Trees) → FitEach p part ts → Each (Member p part.node) (to_list ts)
each_list p part none m = tt
each_list p part (more t ts) m = (m.0, each_list p part ts m.1)

list_each : (p : Program) (part : Part) (ts : Trees) → Each (Member p part.node) (to_list ts) → FitEach p part ts
list_each p part none m = tt
list_each p part (more t ts) m = (m.0, list_each p part ts m.1)

module _ (p : Program) (x : ℕ) (kind : Kind) (part : Part) (low : ℕ) (high : Option ℕ) (is : shape_of p x ≡ shape.Coll kind part low high) (L : List ℕ) (n : ℕ) where
  abbrev pub Components : List Tree → Type 0
  Components xs = IsCollectionOf p.universe (Member p part.node) size_of labels_of IsBefore kind low high L n xs

  abbrev pub coll_of : List Tree → Tree
  coll_of xs = Coll (from_list xs)

  trees_in : (ts : Trees) → Components (to_list ts) → IsStructureOn p x L n (Coll ts)
  trees_in ts m = (
    subst (λ s. Fits p s (Coll ts)) (sym is) (m.0, list_each p part ts m.1, m.2),
    list_size ts ∙ m.3,
    bears_carries p.universe L (Coll ts) (subst (Bears p.universe L) (sym (list_labels ts)) m.4),
  )

  pub components_in : (s : Tree) → (xs : List Tree) × Components xs × (s ≡ coll_of xs) → IsStructureOn p x L n s
  components_in s r = subst (IsStructureOn p x L n) (sym r.2) (trees_in (from_list r.0) (subst Components (sym (back_list r.0)) r.1))

  pub has_components : (s : Tree) → Fits p (shape.Coll kind part low high) s → size_of s ≡ n → Carries p.universe L s → (xs : List Tree) × Components xs × (s ≡ coll_of xs)
  has_components (Atom w l) m e c = absurd m
  has_components (Inj i t) m e c = absurd m
  has_components (Tup ts) m e c = absurd m
  has_components (Coll ts) m e c = (
    to_list ts,
    (m.0, each_list p part ts m.1, m.2, sym (list_size ts) ∙ e, subst (Bears p.universe L) (list_labels ts) (carries_bears p.universe L (Coll ts) c)),
    ap Coll (sym (list_back ts)),
  )

  pub in_components : (s : Tree) → IsStructureOn p x L n s → (xs : List Tree) × Components xs × (s ≡ coll_of xs)
  in_components s m = has_components s (subst (λ h. Fits p h s) is m.0) m.1 m.2

  pub one_coll : (xs ys : List Tree) → coll_of xs ≡ coll_of ys → xs ≡ ys
  one_coll xs ys e = let q : from_list xs ≡ from_list ys = cc in sym (back_list xs) ∙ ap to_list q ∙ back_list ys

  -- THE LAW of a node of collections: the charges w on its components
  pub Measures-node : (w : Tree → ℕ) (a b : ℕ → ℕ) → Suits p.universe kind low → IsRoom p.universe L n → Ready p.universe (Member p part.node) size_of labels_of w a b n (IsWithin low high 1)
      → Measures (IsStructureOn p x L n) (over_components w) (coll_count p.universe kind a low high n) (coll_total p.universe kind a b low high n)
  Measures-node w a b s r h =
      Measures-iff (λ s. (xs : List Tree) × Components xs × (s ≡ coll_of xs)) (IsStructureOn p x L n) (over_components w) (coll_count p.universe kind a low high n) (coll_total p.universe kind a b low high n)
      components_in in_components
      (Measures-map Components coll_of (over_components w) (coll_count p.universe kind a low high n) (coll_total p.universe kind a b low high n) (λ xs ys q m e. one_coll xs ys e)
      (subst (λ (f : List Tree → ℕ). Measures Components f (coll_count p.universe kind a low high n) (coll_total p.universe kind a b low high n)) (λ i xs. same_over xs i)
      (Measures-collections (Member p part.node) size_of labels_of w a b IsBefore trees_ordered trees_by_size p.universe kind low high n L s r h)))
    where
      same_over : (xs : List Tree) → total w xs ≡ over_trees w (from_list xs)
      same_over xs = ap (total w) (sym (back_list xs)) ∙ sym (list_over w (from_list xs))

-- what is known of the components of a node
module _ (p : Program) (light : AreLight p) (y : ℕ) (w : Tree → ℕ) (a b : ℕ → ℕ) (n : ℕ) (wanted : Type 0) where
  on_structures : (m : ℕ) → CountsAt p y m (a m) → SumsAt p y w m (b m) → (S : List ℕ) → IsRoom p.universe S m → Measures (On p.universe (Member p y) size_of labels_of S m) w (a m) (b m)
  on_structures m c s S r =
      Measures-iff (IsStructureOn p y S m) (On p.universe (Member p y) size_of labels_of S m) w (a m) (b m)
      (λ t k. (k.0, k.1, carries_bears p.universe S t k.2)) (λ t k. (k.0, k.1, bears_carries p.universe S t k.2))
      (record { count = c S r; total = s S r })

  pub components_ready : ((t : Tree) → Member p y t → size_of t ≡ 0 → ⊥) → a 0 ≡ 0 → b 0 ≡ 0 → ((m : ℕ) → 1 ≤ m → m < n → CountsAt p y m (a m) × SumsAt p y w m (b m)) → (wanted → CountsAt p y n (a n) × SumsAt p y w n (b n))
      → Ready p.universe (Member p y) size_of labels_of w a b n wanted
  components_ready solid z e f h = record {
    sized = members_sized p light y;
    none = solid;
    no_count = z;
    no_total = e;
    below = λ m i l S r. let k = f m i l in on_structures m k.0 k.1 S r;
    here = λ o S r. let k = h o in on_structures n k.0 k.1 S r;
  }

-- the structures of size n are those on the labels 1 to n
pub count_of_all : (p : Program) (x n c : ℕ) → CountsAt p x n c → IsCount p x n c
count_of_all p x n c h = Counts-from (IsStructure p x n) c (h (labels_from 1 n) (room_of p.universe n))

-- FROM NUMBERS TO TREES
module _ (p : Program) (x : ℕ) (kind : Kind) (part : Part) (low : ℕ) (high : Option ℕ) (is : shape_of p x ≡ shape.Coll kind part low high) (light : AreLight p) (suits : Suits p.universe kind low)
    (solid : (t : Tree) → Member p part.node t → size_of t ≡ 0 → ⊥) (w : Tree → ℕ) (a b : ℕ → ℕ) (n : ℕ) (z : a 0 ≡ 0) (y : b 0 ≡ 0)
    (h : (m : ℕ) → 1 ≤ m → m < n → CountsAt p part.node m (a m) × SumsAt p part.node w m (b m)) (o : IsWithin low high 1 → CountsAt p part.node n (a n) × SumsAt p part.node w n (b n)) where
  pub node_known : (L : List ℕ) → IsRoom p.universe L n → Measures (IsStructureOn p x L n) (over_components w) (coll_count p.universe kind a low high n) (coll_total p.universe kind a b low high n)
  node_known L r = Measures-node p x kind part low high is L n w a b suits r (components_ready p light part.node w a b n (IsWithin low high 1) solid z y h o)

  -- the count of the node is that of the numbered collections over the counts of its component
  pub node_count : (c : ℕ) → IsCollectionCount p.universe kind low high a n c → CountsAt p x n c
  node_count c k = subst (CountsAt p x n) e (λ L r. (node_known L r).count)
    where
      e : coll_count p.universe kind a low high n ≡ c
      e = Counts-unique (NumberedCollection p.universe kind low high a n) (coll_count p.universe kind a low high n) c (coll_total_is p.universe kind low high a (λ m. sum_below (λ i. 0) (a m)) (λ m i. 0) n suits z (λ m. refl)).0 k

  -- and the sum of the charges on its components is that of the numbered collections, for every choice of numbers with these sums
  pub node_total : (q : ℕ → ℕ → ℕ) (t : ℕ) → ((m : ℕ) → sum_below (q m) (a m) ≡ b m) → IsCollectionTotal p.universe kind low high a q n t → SumsAt p x (over_components w) n t
  node_total q t e k = subst (SumsAt p x (over_components w) n) d (λ L r. (node_known L r).total)
    where
      d : coll_total p.universe kind a b low high n ≡ t
      d = Sums-unique (NumberedCollection p.universe kind low high a n) (charged q) (coll_total p.universe kind a b low high n) t (coll_total_is p.universe kind low high a b q n suits z e).1 k

pub nodes_counted : NodesAreCounted
nodes_counted p x kind part low high a n c node z known count =
    count_of_all p x n c (node_count p x kind part low high node.is node.light node.suits node.solid (λ t. 0) a (λ m. 0) n z refl known.0 known.1 c count)
