-- Which structures of the code belong to a node.
use Rattle.std.proofs.Common.{◌≡◌, ◌↔◌, ℕ, zero, suc, ◌+◌, ◌-◌, ◌^◌, ◌<◌, ◌≤◌, List, [], ◌∷◌, inl, inr, ⊎_elim, Bool, true, false, IsTrue, length, drop, get_or, refl, sym, ap, subst, ◌∙◌, arith, Option, Some, None, slice_get, length-append}
use Rattle.std.proofs.lemmas.List.{drop_all, drop_more}
use Rattle.luo_finite.specs.Listing.{In}
use Rattle.luo_finite.proofs.Places.{some_same, none_some}
use Rattle.luo_model.specs.declared.program.Universe.TheVariants.{Unlabelled, Labelled}
use Rattle.luo_model.specs.declared.program.Universe.{Universe}
use Rattle.luo_model.specs.declared.program.Kind.{Kind}
use Rattle.luo_model.specs.declared.program.Node.{Node}
use Rattle.luo_model.specs.declared.program.Part.{Part}
use Rattle.luo_model.specs.declared.program.Shape.{Shape}
use Rattle.luo_model.specs.declared.program.Shape.TheVariants as shape
use Rattle.luo_model.specs.Tree.{Tree, Trees, Atom, Inj, Tup, Coll, none, more, to_list, size_of, sizes_of, labels_of, all_labels_of, least_label}
use Rattle.luo_model.specs.Program.{Program, shape_of, no_node}
use Rattle.luo_model.specs.Member.{IsLabel, IsWithin, Fits, FitAll, FitEach, Member}
use Rattle.luo_model.proofs.NodeLemmas.{shape_there}
use Rattle.luo_struct.specs.declared.structure.Structure.{Structure}
use Rattle.luo_struct.specs.Small.{AreSmall}
use Rattle.luo_struct.specs.View.{tree_of, tree_list}
use Rattle.luo_struct.proofs.CompareLemmas.{at_part}

pub not_so : false ≡ true → ⊥
not_so e = cc

-- a test that fails, of what can't hold
pub never : {P : Type 0} → (P → ⊥) → IsTrue false ↔ P
never n = ((λ e. absurd (not_so e)), λ h. absurd (n h))

pub always : {P : Type 0} → P → IsTrue true ↔ P
always h = ((λ e. h), λ g. refl)

pub failed : {P : Type 0} (r : Bool) → (IsTrue r ↔ P) → r ≡ false → P → ⊥
failed r d e h = not_so (sym e ∙ d.1 h)

pub along : {P Q : Type 0} (r : Bool) → (P ↔ Q) → (IsTrue r ↔ P) → IsTrue r ↔ Q
along r h d = ((λ e. h.0 (d.0 e)), λ q. d.1 (h.1 q))

-- ---- labels of members

mutual
  pub labels_few : (p : Program) (s : Shape) (t : Tree) → Fits p s t → length (labels_of t) ≤ size_of t
  labels_few p (shape.Atom weight) (Atom w l) h = atom p.universe w l h.1
    where
      atom : (u : Universe) (w l : ℕ) → IsLabel u w l → length (labels_of (Atom w l)) ≤ w
      atom u w zero h = omega arith
      atom Unlabelled w (suc l) h = absurd (omega (arith, h))
      atom Labelled zero (suc l) h = absurd (omega (arith, h.1 (λ e. absurd (omega (arith, e)))))
      atom Labelled (suc w) (suc l) h = omega arith
  labels_few p (shape.Union parts) (Inj (suc i) t) h = labels_few p (shape_of p h.0.node) t h.2
  labels_few p (shape.Product parts) (Tup ts) h = factors_few p parts ts h
  labels_few p (shape.Coll kind part low high) (Coll ts) h = components_few p part ts h.1
  labels_few p s t h = absurd h

  factors_few : (p : Program) (parts : List Part) (ts : Trees) → FitAll p parts ts → length (all_labels_of ts) ≤ sizes_of ts
  factors_few p [] none h = omega arith
  factors_few p (part ∷ parts) (more t ts) h = omega (arith, length-append (labels_of t) (all_labels_of ts), labels_few p (shape_of p part.node) t h.0, factors_few p parts ts h.1)
  factors_few p [] (more t ts) h = absurd h
  factors_few p (part ∷ parts) none h = absurd h

  pub components_few : (p : Program) (part : Part) (ts : Trees) → FitEach p part ts → length (all_labels_of ts) ≤ sizes_of ts
  components_few p part none h = omega arith
  components_few p part (more t ts) h = omega (arith, length-append (labels_of t) (all_labels_of ts), labels_few p (shape_of p part.node) t h.0, components_few p part ts h.1)

pub components_small : (p : Program) (part : Part) (ts : Trees) → sizes_of ts < 2 ^ 64 - 1 → FitEach p part ts → AreSmall ts
components_small p part ts h f = (h, omega (arith, components_few p part ts f))

-- ---- sizes of parts

pub size_inner : (a s : Tree) (i : ℕ) → a ≡ Inj i s → size_of a < 2 ^ 64 - 1 → size_of s < 2 ^ 64 - 1
size_inner a s i e h = omega (arith, h, ap size_of e)

pub size_tuple : (a : Tree) (ss : Trees) → a ≡ Tup ss → size_of a < 2 ^ 64 - 1 → sizes_of ss < 2 ^ 64 - 1
size_tuple a ss e h = omega (arith, h, ap size_of e)

pub size_collection : (a : Tree) (ss : Trees) → a ≡ Coll ss → size_of a < 2 ^ 64 - 1 → sizes_of ss < 2 ^ 64 - 1
size_collection a ss e h = omega (arith, h, ap size_of e)

pub size_part : (ss : List Structure) (i : ℕ) (s : Structure) → i < length ss → s ≡ get_or ss i s → sizes_of (tree_list ss) < 2 ^ 64 - 1 → size_of (tree_of s) < 2 ^ 64 - 1
size_part [] i s l e h = absurd (omega arith)
size_part (x ∷ ss) zero s l e h = omega (arith, h, ap (λ t. size_of (tree_of t)) e)
size_part (x ∷ ss) (suc i) s l e h = size_part ss i s (omega arith) e (omega (arith, h))

-- ---- least labels from a place on

abbrev pub AllAtLeast : ℕ → Trees → Type 0
AllAtLeast m ts = (y : Tree) → In y (to_list ts) → m ≤ least_label y

abbrev pub LedFrom : ℕ → List Structure → ℕ → Type 0
LedFrom m ss i = AllAtLeast m (tree_list (drop i ss)) ↔ AllAtLeast m (tree_list ss)

pub led_next : (m : ℕ) (ss : List Structure) (i : ℕ) (s : Structure) → i < length ss → s ≡ get_or ss i s → m ≤ least_label (tree_of s) → LedFrom m ss i → LedFrom m ss (i + 1)
led_next m ss i s l e k h = (
  (λ g. h.0 (subst (AllAtLeast m) (sym (at_part ss i s l e)) (λ y j. ⊎_elim (λ (q : y ≡ tree_of s). subst (λ (t : Tree). m ≤ least_label t) (sym q) k) (λ r. g y r) j))),
  λ g y j. subst (AllAtLeast m) (at_part ss i s l e) (h.1 g) y (inr j),
)

pub led_fails : (m : ℕ) (ss : List Structure) (i : ℕ) (s : Structure) → i < length ss → s ≡ get_or ss i s → least_label (tree_of s) < m → LedFrom m ss i → AllAtLeast m (tree_list ss) → ⊥
led_fails m ss i s l e k h g =
    let q : m ≤ least_label (tree_of s) = subst (AllAtLeast m) (at_part ss i s l e) (h.1 g) (tree_of s) (inl refl) in
    omega (arith, q, k)

pub led_all : (m : ℕ) (ss : List Structure) (i : ℕ) → length ss ≤ i → LedFrom m ss i → AllAtLeast m (tree_list ss)
led_all m ss i l h = h.0 (subst (AllAtLeast m) (sym (ap tree_list (drop_all i ss l))) (λ y j. absurd j))

-- ---- factors and components from a place on

module _ (p : Program) where
  abbrev pub FactorsFrom : List Part → List Structure → ℕ → Type 0
  FactorsFrom parts ss i = FitAll p (drop i parts) (tree_list (drop i ss)) ↔ FitAll p parts (tree_list ss)

  at_factor : (parts : List Part) (i : ℕ) (d : Part) → i < length parts → drop i parts ≡ get_or parts i d ∷ drop (i + 1) parts
  at_factor parts i d l = drop_more parts i d l

  abbrev FitsPart : Part → Tree → Type 0
  FitsPart part t = Member p part.node t

  module _ (parts : List Part) (ss : List Structure) (i : ℕ) (s : Structure) (d : Part) (k : i < length parts) (l : i < length ss) (e : s ≡ get_or ss i s) (h : FactorsFrom parts ss i) where
    first : FitAll p (drop i parts) (tree_list (drop i ss)) ≡ (Member p (get_or parts i d).node (tree_of s) × FitAll p (drop (i + 1) parts) (tree_list (drop (i + 1) ss)))
    first = λ j. FitAll p (at_factor parts i d k j) (at_part ss i s l e j)

    pub factors_next : Member p (get_or parts i d).node (tree_of s) → FactorsFrom parts ss (i + 1)
    factors_next m =
        ((λ g. h.0 (subst (λ (T : Type 0). T) (sym first) (m, g))), λ g. (subst (λ (T : Type 0). T) first (h.1 g)).1)

    pub factors_fail : (Member p (get_or parts i d).node (tree_of s) → ⊥) → FitAll p parts (tree_list ss) → ⊥
    factors_fail n g = n (subst (λ (T : Type 0). T) first (h.1 g)).0

  pub factors_all : (parts : List Part) (ss : List Structure) (i : ℕ) → length parts ≡ length ss → length ss ≤ i → FactorsFrom parts ss i → FitAll p parts (tree_list ss)
  factors_all parts ss i e l h =
      let a : drop i parts ≡ [] = drop_all i parts (omega (arith, e, l)) in
      let b : tree_list (drop i ss) ≡ none = ap tree_list (drop_all i ss l) in
      h.0 (subst (λ (T : Type 0). T) (λ j. FitAll p (sym a j) (sym b j)) tt)

  pub factors_long : (parts : List Part) (ss : List Structure) → FitAll p parts (tree_list ss) → length parts ≡ length ss
  factors_long [] [] h = refl
  factors_long [] (s ∷ ss) h = absurd h
  factors_long (part ∷ parts) [] h = absurd h
  factors_long (part ∷ parts) (s ∷ ss) h = omega (arith, factors_long parts ss h.1)

  abbrev pub ComponentsFrom : Part → List Structure → ℕ → Type 0
  ComponentsFrom part ss i = FitEach p part (tree_list (drop i ss)) ↔ FitEach p part (tree_list ss)

  module _ (part : Part) (ss : List Structure) (i : ℕ) (s : Structure) (l : i < length ss) (e : s ≡ get_or ss i s) (h : ComponentsFrom part ss i) where
    pub components_next : Member p part.node (tree_of s) → ComponentsFrom part ss (i + 1)
    components_next m =
        ((λ g. h.0 (subst (FitEach p part) (sym (at_part ss i s l e)) (m, g))), λ g. (subst (FitEach p part) (at_part ss i s l e) (h.1 g)).1)

    pub components_fail : (Member p part.node (tree_of s) → ⊥) → FitEach p part (tree_list ss) → ⊥
    components_fail n g = n (subst (FitEach p part) (at_part ss i s l e) (h.1 g)).0

  pub components_all : (part : Part) (ss : List Structure) (i : ℕ) → length ss ≤ i → ComponentsFrom part ss i → FitEach p part (tree_list ss)
  components_all part ss i l h = h.0 (subst (FitEach p part) (sym (ap tree_list (drop_all i ss l))) tt)

  -- ---- branches

  pub branch_fits : (parts : List Part) (b i : ℕ) (part : Part) (t : Tree) (r : Bool) → b ≡ i + 1 → slice_get parts i ≡ Some part → (IsTrue r ↔ Member p part.node t) → IsTrue r ↔ Fits p (shape.Union parts) (Inj b t)
  branch_fits parts b i part t r e g d =
      subst (λ (n : ℕ). IsTrue r ↔ Fits p (shape.Union parts) (Inj n t)) (more_one i ∙ sym e)
      ((λ q. (part, g, d.0 q)), λ q. d.1 (subst (λ (z : Part). Member p z.node t) (some_same q.0 part (sym q.1 ∙ g)) q.2))
    where
      more_one : (i : ℕ) → suc i ≡ i + 1
      more_one i = omega arith

  pub branch_missing : (parts : List Part) (b i : ℕ) (t : Tree) → b ≡ i + 1 → slice_get parts i ≡ None → Fits p (shape.Union parts) (Inj b t) → ⊥
  branch_missing parts zero i t e g h = absurd h
  branch_missing parts (suc b) i t e g h =
      let same : b ≡ i = omega (arith, e) in
      none_some h.0 (sym g ∙ ap (slice_get parts) (sym same) ∙ h.1)

  pub branch_none : (parts : List Part) (b : ℕ) (t : Tree) → b < 1 → Fits p (shape.Union parts) (Inj b t) → ⊥
  branch_none parts zero t e h = h
  branch_none parts (suc b) t e h = absurd (omega (arith, e))

-- ---- nodes

pub member_there : (p : Program) (x : ℕ) (node : Node) (t : Tree) → slice_get p.nodes x ≡ Some node → Fits p node.shape t ↔ Member p x t
member_there p x node t e =
    ((λ h. subst (λ (s : Shape). Fits p s t) (sym (shape_there p x node e)) h), λ h. subst (λ (s : Shape). Fits p s t) (shape_there p x node e) h)

pub no_member : (p : Program) (x : ℕ) (t : Tree) → slice_get p.nodes x ≡ None → Member p x t → ⊥
no_member p x t e h = go p.nodes x e (subst (λ (s : Shape). Fits p s t) refl h)
  where
    union_of_nothing : (t : Tree) → Fits p (shape.Union []) t → ⊥
    union_of_nothing (Atom w l) h = absurd h
    union_of_nothing (Inj zero t) h = absurd h
    union_of_nothing (Inj (suc i) t) h = none_some h.0 h.1
    union_of_nothing (Tup ts) h = absurd h
    union_of_nothing (Coll ts) h = absurd h

    go : (nodes : List Node) (x : ℕ) → slice_get nodes x ≡ None → Fits p (get_or nodes x no_node).shape t → ⊥
    go [] x e h = union_of_nothing t h
    go (n ∷ nodes) zero e h = absurd (none_some n (sym e))
    go (n ∷ nodes) (suc x) e h = go nodes x e h

pub length_trees : (ss : List Structure) → length (to_list (tree_list ss)) ≡ length ss
length_trees [] = refl
length_trees (s ∷ ss) = omega (arith, length_trees ss)

-- ---- constructs

module _ (p : Program) (construct : Shape) where
  pub union_member : (parts same : List Part) (t : Tree) (b : ℕ) (inner : Tree) (r : Bool) → construct ≡ shape.Union parts → same ≡ parts → t ≡ Inj b inner → (IsTrue r ↔ Fits p (shape.Union same) (Inj b inner)) → IsTrue r ↔ Fits p construct t
  union_member parts same t b inner r e f g d = subst (λ (T : Type 0). IsTrue r ↔ T) (λ i. Fits p ((ap shape.Union f ∙ sym e) i) (sym g i)) d

  pub product_member : (parts same : List Part) (t : Tree) (ts : Trees) (r : Bool) → construct ≡ shape.Product parts → same ≡ parts → t ≡ Tup ts → (IsTrue r ↔ FitAll p same ts) → IsTrue r ↔ Fits p construct t
  product_member parts same t ts r e f g d = subst (λ (T : Type 0). IsTrue r ↔ T) (λ i. Fits p ((ap shape.Product f ∙ sym e) i) (sym g i)) d

  pub collection_member : (kind : Kind) (part : Part) (low : ℕ) (high : Option ℕ) (t : Tree) (ts : Trees) (r : Bool) → construct ≡ shape.Coll kind part low high → t ≡ Coll ts → (IsTrue r ↔ Fits p (shape.Coll kind part low high) (Coll ts)) → IsTrue r ↔ Fits p construct t
  collection_member kind part low high t ts r e g d = subst (λ (T : Type 0). IsTrue r ↔ T) (λ i. Fits p (sym e i) (sym g i)) d

pub bounds_fail : (low : ℕ) (high : Option ℕ) (ss : List Structure) (r : Bool) → (IsTrue r ↔ IsWithin low high (length ss)) → r ≡ false → IsWithin low high (length (to_list (tree_list ss))) → ⊥
bounds_fail low high ss r d e h = failed r d e (subst (λ (n : ℕ). IsWithin low high n) (length_trees ss) h)

pub collection_holds : (low : ℕ) (high : Option ℕ) (ss : List Structure) (r : Bool) (P Q : Type 0) {s : Bool} → (IsTrue r ↔ IsWithin low high (length ss)) → r ≡ true → P → (IsTrue s ↔ Q)
    → IsTrue s ↔ (IsWithin low high (length (to_list (tree_list ss))) × P × Q)
collection_holds low high ss r P Q d e h f =
    ((λ q. (subst (λ (n : ℕ). IsWithin low high n) (sym (length_trees ss)) (d.0 e), h, f.0 q)), λ g. f.1 g.2)
