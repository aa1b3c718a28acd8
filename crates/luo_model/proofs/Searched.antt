-- All structures of a node of one size are among trees that a search finds, so that listings of small programs are computed.
use Rattle.std.proofs.Common.{◌≡◌, ◌≤◌, ℕ, zero, suc, Bool, true, false, cond, List, [], ◌∷◌, inl, length, map, refl, sym, subst, nat_eq, arith}
use Rattle.std.specs.Prelude.{Decides}
use Rattle.std.proofs.lemmas.Bool.{eqb-true, eq-eqb}
use Rattle.luo_finite.specs.Listing.{In}
use Rattle.luo_finite.specs.Range.{below}
use Rattle.luo_finite.proofs.Membership.{In-append_left, In-append_right, In-map}
use Rattle.luo_model.specs.declared.program.Universe.{Universe}
use Rattle.luo_model.specs.declared.program.Universe.TheVariants.{Unlabelled, Labelled}
use Rattle.luo_model.specs.declared.program.Part.{Part}
use Rattle.luo_model.specs.declared.program.Shape.{Shape}
use Rattle.luo_model.specs.declared.program.Shape.TheVariants as shape
use Rattle.luo_model.specs.Tree.{Tree, Trees, Atom, Inj, Tup, Coll, none, more, to_list, size_of, sizes_of, label_list, labels_of, all_labels_of}
use Rattle.luo_model.specs.Program.{Program, shape_of}
use Rattle.luo_model.specs.Member.{Fits, IsLabel}
use Rattle.luo_model.specs.Structures.{Carries, IsStructure, IsListing, labels_from}
use Rattle.luo_model.proofs.Tests.{both, either, opposite, every, is_among, is_single, same_tree, same_decides, among_decides, single_decides, every_decides, fits, fits_decides, is_structure, structure_decides, equal_decides}
use Rattle.luo_model.proofs.Candidates.{kept, In-kept, is_empty, first_true, second_true, every_at, largest, EachInside, in_branches, tuples, tuples_covered, collections, branch_found, tuple_found, collection_found}
use Rattle.luo_model.proofs.Solid.{no_zero, solid, is_closed, never_zero, enough}

-- the labels that an atom of this weight may have, out of L
abbrev pub labels_for : Universe → List ℕ → ℕ → List ℕ
labels_for Unlabelled L weight = 0 ∷ []
labels_for Labelled L weight = cond (nat_eq weight 1) L (0 ∷ [])

-- the labels of the tree are among L, in the labelled universe
abbrev pub Within : Universe → List ℕ → Tree → Type 0
Within Unlabelled L t = Unit {0}
Within Labelled L t = (y : ℕ) → In y (labels_of t) → In y L

label_in : (l : ℕ) → 1 ≤ l → In l (label_list l)
label_in zero h = absurd (omega (arith, h))
label_in (suc l) h = inl refl

label_for : (u : Universe) (L : List ℕ) (w l : ℕ) → IsLabel u w l → Within u L (Atom w l) → In l (labels_for u L w)
label_for Unlabelled L w l h k = inl h
label_for Labelled L w l h k = by (nat_eq w 1) (equal_decides w 1)
  where
    by : (b : Bool) → Decides b (w ≡ 1) → In l (cond b L (0 ∷ []))
    by true d = k l (label_in l (h.0 (d.0 refl)))
    by false d = inl (h.1 (λ e. absurd (let f = d.1 e in cc)))

module _ (p : Program) (L : List ℕ) where
  -- the trees of a construct, where g has those of the constructs inside, and c says that g leaves none out
  abbrev pub made : (Shape → ℕ → List Tree) → Shape → ℕ → List Tree
  made g (shape.Atom weight) n = cond (nat_eq n weight) (map (Atom weight) (labels_for p.universe L weight)) []
  made g (shape.Union parts) n = in_branches p g 0 parts n
  made g (shape.Product parts) n = map Tup (tuples p g parts n)
  made g (shape.Coll kind part low high) n = kept (λ t. fits p t (shape.Coll kind part low high)) (map Coll (collections p g (shape_of p part.node) low n))

  abbrev pub all_made : (Shape → ℕ → List Tree) → (Shape → ℕ → Bool) → Shape → ℕ → Bool
  all_made g c (shape.Atom weight) n = true
  all_made g c (shape.Union parts) n = every (λ (part : Part). c (shape_of p part.node) n) parts
  all_made g c (shape.Product parts) n = tuples_covered p g c parts n
  all_made g c (shape.Coll kind part low high) n = both (every (c (shape_of p part.node)) (below (suc (largest low n)))) (is_empty (g (shape_of p part.node) 0))

  -- by constructs inside constructs, at most so deep; of size 0 there are none where the construct shows it
  abbrev pub candidates : ℕ → Shape → ℕ → List Tree
  candidates zero s n = []
  candidates (suc deep) s n = cond (both (nat_eq n 0) (no_zero (solid p) s)) [] (made (candidates deep) s n)

  -- no structure is left out
  abbrev pub covered : ℕ → Shape → ℕ → Bool
  covered zero s n = false
  covered (suc deep) s n = cond (both (nat_eq n 0) (no_zero (solid p) s)) true (all_made (candidates deep) (covered deep) s n)

  each_within : (u : Universe) (ts : Trees) → Within u L (Tup ts) → EachInside (Within u L) ts
  each_within Unlabelled none h = tt
  each_within Unlabelled (more t ts) h = (tt, each_within Unlabelled ts tt)
  each_within Labelled none h = tt
  each_within Labelled (more t ts) h =
      (λ y i. h y (In-append_left y (labels_of t) (all_labels_of ts) i), each_within Labelled ts (λ y i. h y (In-append_right y (labels_of t) (all_labels_of ts) i)))

  collection_within : (u : Universe) (ts : Trees) → Within u L (Coll ts) → Within u L (Tup ts)
  collection_within Unlabelled ts h = h
  collection_within Labelled ts h = h

  branch_within : (u : Universe) (i : ℕ) (t : Tree) → Within u L (Inj i t) → Within u L t
  branch_within Unlabelled i t h = h
  branch_within Labelled i t h = h

  module _ (g : Shape → ℕ → List Tree) (c : Shape → ℕ → Bool) (found : (s : Shape) (t : Tree) → c s (size_of t) ≡ true → Fits p s t → Within p.universe L t → In t (g s (size_of t))) where
    made_found : (s : Shape) (t : Tree) → all_made g c s (size_of t) ≡ true → Fits p s t → Within p.universe L t → In t (made g s (size_of t))
    made_found (shape.Atom weight) (Atom w l) k h i =
        subst (λ b. In (Atom w l) (cond b (map (Atom weight) (labels_for p.universe L weight)) [])) (sym (eq-eqb w weight h.0))
        (subst (λ v. In (Atom w l) (map (Atom v) (labels_for p.universe L v))) h.0 (In-map (Atom w) l (labels_for p.universe L w) (label_for p.universe L w l h.1 i)))
    made_found (shape.Union parts) (Inj zero t) k h i = absurd h
    made_found (shape.Union parts) (Inj (suc j) t) k h i =
        subst (λ m. In (Inj (suc m) t) (in_branches p g 0 parts (size_of t))) (omega arith)
        (branch_found p g (Within p.universe L) c found parts 0 j h.0 t h.1 k h.2 (branch_within p.universe (suc j) t i))
    made_found (shape.Product parts) (Tup ts) k h i = In-map Tup ts (tuples p g parts (sizes_of ts)) (tuple_found p g (Within p.universe L) c found parts ts k h (each_within p.universe ts i))
    made_found (shape.Coll kind part low high) (Coll ts) k h i =
        let n = sizes_of ts in
        let a = first_true (every (c (shape_of p part.node)) (below (suc (largest low n)))) _ k in
        let e = second_true (every (c (shape_of p part.node)) (below (suc (largest low n)))) _ k in
        let all = collections p g (shape_of p part.node) low n in
        In-kept (λ t. fits p t (shape.Coll kind part low high)) (Coll ts) (map Coll all) ((fits_decides p (Coll ts) (shape.Coll kind part low high)).1 h)
        (In-map Coll ts all
        (collection_found p g (Within p.universe L) c found part low n ts a e refl (enough low high (length (to_list ts)) h.0) h.1 (each_within p.universe ts (collection_within p.universe ts i))))
    made_found s t k h i = absurd h

  module _ (closed : is_closed p (solid p) ≡ true) where
    pub candidate : (deep : ℕ) (s : Shape) (t : Tree) → covered deep s (size_of t) ≡ true → Fits p s t → Within p.universe L t → In t (candidates deep s (size_of t))
    candidate zero s t k h i = absurd (cc)
    candidate (suc deep) s t k h i =
        by (both (nat_eq (size_of t) 0) (no_zero (solid p) s)) refl k (λ m. made_found (candidates deep) (covered deep) (candidate deep) s t m h i)
      where
        all : Bool
        all = all_made (candidates deep) (covered deep) s (size_of t)

        by : (b : Bool) → both (nat_eq (size_of t) 0) (no_zero (solid p) s) ≡ b → cond b true all ≡ true → (all ≡ true → In t (made (candidates deep) s (size_of t)))
            → In t (cond b [] (made (candidates deep) s (size_of t)))
        by true e m rest =
            absurd (never_zero p (solid p) closed t s (second_true (nat_eq (size_of t) 0) (no_zero (solid p) s) e) h (eqb-true (size_of t) 0 (first_true (nat_eq (size_of t) 0) (no_zero (solid p) s) e)))
        by false e m rest = rest m

-- ---- listings

structure_within : (u : Universe) (L : List ℕ) (t : Tree) → Carries u L t → Within u L t
structure_within Unlabelled L t h = tt
structure_within Labelled L t h = h.1

-- the structures among the candidates
abbrev pub found : Program → ℕ → ℕ → ℕ → List Tree
found p deep x n = kept (is_structure p x n) (candidates p (labels_from 1 n) deep (shape_of p x) n)

-- a list that holds all of them and nothing else, each once
abbrev pub is_listing : Program → ℕ → ℕ → ℕ → List Tree → Bool
is_listing p deep x n l =
    both (both (is_closed p (solid p)) (covered p (labels_from 1 n) deep (shape_of p x) n)) (both (is_single same_tree l) (both (every (is_structure p x n) l)
    (every (λ t. either (opposite (is_structure p x n t)) (is_among same_tree t l)) (candidates p (labels_from 1 n) deep (shape_of p x) n))))

kept_among : (a b : Bool) → either (opposite a) b ≡ true → a ≡ true → b ≡ true
kept_among true b e h = e
kept_among false b e h = absurd (cc)

pub listing_is : (p : Program) (deep x n : ℕ) (l : List Tree) → is_listing p deep x n l ≡ true → IsListing p x n l
listing_is p deep x n l e =
    let closed = is_closed p (solid p) in
    let c = both closed (covered p (labels_from 1 n) deep (shape_of p x) n) in
    let all = candidates p (labels_from 1 n) deep (shape_of p x) n in
    let test : Tree → Bool = λ t. either (opposite (is_structure p x n t)) (is_among same_tree t l) in
    let e1 = second_true c _ e in
    let e2 = second_true (is_single same_tree l) _ e1 in
    record {
      single = (single_decides same_tree same_decides l).0 (first_true (is_single same_tree l) _ e1);
      sound = (every_decides (IsStructure p x n) (is_structure p x n) (structure_decides p x n) l).0 (first_true (every (is_structure p x n) l) _ e2);
      complete = λ t h.
          let there : In t all = subst (λ m. In t (candidates p (labels_from 1 n) deep (shape_of p x) m)) h.1
          (candidate p (labels_from 1 n) (first_true closed _ (first_true c _ e)) deep (shape_of p x) t
          (subst (λ m. covered p (labels_from 1 n) deep (shape_of p x) m ≡ true) (sym h.1) (second_true closed _ (first_true c _ e))) h.0 (structure_within p.universe (labels_from 1 n) t h.2)) in
          (among_decides same_tree same_decides t l).0
          (kept_among (is_structure p x n t) (is_among same_tree t l) (every_at test all t (second_true (every (is_structure p x n) l) _ e2) there) ((structure_decides p x n t).1 h));
    }
