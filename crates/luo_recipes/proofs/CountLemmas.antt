-- The counts of a founded program, as a function of nodes and sizes, satisfy the equations of its constructs.
use Rattle.std.proofs.Common.{◌≡◌, ℕ, suc, ◌==◌, Bool, true, false, if◌then◌else◌, inl, ⊎_elim, List, [], ◌∷◌, ◌++◌, map, length, get_or, sum_by, Option, refl, sym, ◌∙◌, ap, subst}
use Rattle.std.proofs.lemmas.Bool.{eq-eqb, eqb-true}
use Rattle.std.proofs.lemmas.Option.{get_or_from_slice_get}
use Rattle.luo_finite.specs.Listing.{In}
use Rattle.luo_finite.specs.Range.{sum_below}
use Rattle.luo_finite.proofs.Ranges.{sum_below-places}
use Rattle.luo_finite.proofs.Membership.{In-append_left, In-append_right}
use Rattle.luo_finite.proofs.Sums.{Sums-by, Sums-none, Sums-unique}
use Rattle.luo_model.specs.declared.program.Universe.{Universe}
use Rattle.luo_model.specs.declared.program.Universe.TheVariants.{Unlabelled, Labelled}
use Rattle.luo_model.specs.declared.program.Kind.{Kind}
use Rattle.luo_model.specs.declared.program.Kind.TheVariants.{Sequence, Set, Cycle, Multiset, Powerset}
use Rattle.luo_model.specs.declared.program.Part.{Part}
use Rattle.luo_model.specs.declared.program.Shape.{Shape}
use Rattle.luo_model.specs.declared.program.Shape.TheVariants as shape
use Rattle.luo_model.specs.Tree.{Tree, size_of}
use Rattle.luo_model.specs.Program.{Program, shape_of}
use Rattle.luo_model.specs.Member.{Member, IsWithin}
use Rattle.luo_model.specs.Structures.{IsStructure, IsStructureOn, labels_from}
use Rattle.luo_model.specs.Invariant.{IsProgram, IsAllowed, IsKind, IsLow}
use Rattle.luo_model.specs.Founded.{IsFounded, HasZero, HasEmptyComponent, KeepsSize, SameSize}
use Rattle.luo_counting.specs.Sharing.{products}
use Rattle.luo_counting.specs.Items.{Suits}
use Rattle.luo_counting.specs.Numbers.{coll_count}
use Rattle.luo_counting.specs.Counted.{CountsAt, IsLight, AreLight}
use Rattle.luo_counting.proofs.Numbered.{room_of}
use Rattle.luo_counting.proofs.TreeCollections.{node_known}
use Rattle.luo_counting.proofs.TreeParts.{sums_in, AreBelow, AreAt, SumsAt-union}
use Rattle.luo_counting.proofs.TreeCharges.{plain, CountsAt-product}
use Rattle.luo_model.proofs.NodeLemmas.{node_at_place}
use Rattle.luo_founded.proofs.Listed.{listing_exists}
use Rattle.luo_founded.proofs.MadeLemmas.{zero_of_member}
use Rattle.luo_founded.proofs.OtherParts.{others_by_place}
use Rattle.luo_recipes.specs.Obeys.{atom_count, Falls, OtherHasNone, Obeys}
use Rattle.luo_counting.proofs.Atoms.{CountsAt-atom, CountsAt-no_atom}
use Rattle.luo_counting.proofs.OfPrograms.{light_program, suits_program}
use Rattle.luo_places.proofs.relabelling.LabelMaps.{sums_at}

no_part : Part
no_part = record { node = 0; name = Option.None }

sums_plain : (c : Part → ℕ → ℕ) (parts : List Part) → sums_in (plain c parts) ≡ map c parts
sums_plain c [] = refl
sums_plain c (part ∷ parts) = ap (λ l. c part ∷ l) (sums_plain c parts)

some_tree : {A : Type 0} (l : List A) → (sum_by (λ a. 1) l ≡ 0 → ⊥) → (a : A) × In a l
some_tree [] n = absurd (n refl)
some_tree (a ∷ l) n = (a, inl refl)

-- a same-size step makes the rank fall
step_falls : (p : Program) (x y : ℕ) → SameSize p x y → Falls p x y
step_falls p x y step r s (a, most) (b, other) = most (suc s) b.0 (y, step, b.1)

module _ (p : Program) (q : IsProgram p) (f : IsFounded p) where
  -- the number of structures of node x of size n
  pub number : ℕ → ℕ → ℕ
  number x n = sum_by (λ (t : Tree). 1) (listing_exists p q f x n).0

  pub number_known : (x n : ℕ) → CountsAt p x n (number x n)
  unfolding number
  number_known x n =
      let l = listing_exists p q f x n in
      sums_at p x n (λ t. 1) (sum_by (λ (t : Tree). 1) l.0) (λ g s i m. refl) (Sums-by (IsStructure p x n) (λ t. 1) l.0 l.1)

  pub number_is : (x n c : ℕ) → CountsAt p x n c → number x n ≡ c
  number_is x n c h = let r = room_of p.universe n in Sums-unique (IsStructureOn p x (labels_from 1 n) n) (λ t. 1) (number x n) c (number_known x n (labels_from 1 n) r) (h (labels_from 1 n) r)

  pub light : AreLight p
  light = light_program p q

  pub suits : (x low : ℕ) (kind : Kind) (part : Part) (high : Option ℕ) → shape_of p x ≡ shape.Coll kind part low high → Suits p.universe kind low
  suits x low kind part high is = suits_program p q x kind part low high is

  -- a component has no structure of size 0
  pub solid : (x low : ℕ) (kind : Kind) (part : Part) (high : Option ℕ) → shape_of p x ≡ shape.Coll kind part low high → (t : Tree) → Member p part.node t → size_of t ≡ 0 → ⊥
  solid x low kind part high is t m e = f.solid x (subst (HasEmptyComponent p) (sym is) (zero_of_member p part.node t m e))

  pub component_none : (x low : ℕ) (kind : Kind) (part : Part) (high : Option ℕ) → shape_of p x ≡ shape.Coll kind part low high → number part.node 0 ≡ 0
  component_none x low kind part high is =
      number_is part.node 0 0 (λ L r. Sums-none (IsStructureOn p part.node L 0) (λ t. 1) (λ t m. solid x low kind part high is t m.0 m.1))

  -- where the number at 0 isn't 0 there is a structure of size 0
  zero_there : (x : ℕ) → (number x 0 ≡ 0 → ⊥) → HasZero p x
  unfolding number
  zero_there x n =
      let l = listing_exists p q f x 0 in
      let t = some_tree l.0 n in
      let s = l.1.sound t.0 t.1 in
      zero_of_member p x t.0 s.0 s.1

  atom_is : (x weight n : ℕ) → shape_of p x ≡ shape.Atom weight → number x n ≡ atom_count weight n
  atom_is x weight n is = by (n == weight) refl
    where
      by : (b : Bool) → (n == weight) ≡ b → number x n ≡ (if n == weight then 1 else 0)
      by true e = number_is x n 1 (CountsAt-atom p x weight is light n (eqb-true n weight e)) ∙ ap (λ (b : Bool). if b then 1 else 0) (sym e)
      by false e = number_is x n 0 (CountsAt-no_atom p x weight is light n (λ h. never (sym e ∙ eq-eqb n weight h))) ∙ ap (λ (b : Bool). if b then 1 else 0) (sym e)
        where
          never : false ≡ true → ⊥
          never e = absurd (cc)

  union_is : (x n : ℕ) (parts : List Part) → shape_of p x ≡ shape.Union parts → number x n ≡ sum_by (λ part. number part.node n) parts
  union_is x n parts is =
      let t : ℕ → ℕ = λ i. number (get_or parts i no_part).node n in
      number_is x n (sum_below t (length parts))
      (SumsAt-union p x parts is n (λ s. 1) t
      (λ i part e. subst (λ (o : Part). CountsAt p part.node n (number o.node n)) (sym (get_or_from_slice_get parts i part no_part e)) (number_known part.node n)))
      ∙ sum_below-places (λ (part : Part). number part.node n) parts no_part

  column : Part → ℕ → ℕ
  column part = number part.node

  all_below : (parts : List Part) (n : ℕ) → AreBelow p (plain column parts) n
  unfolding column
  all_below [] n = tt
  all_below (part ∷ parts) n = ((λ m l. number_known part.node m), all_below parts n)

  all_at : (parts : List Part) (n : ℕ) → AreAt p (plain column parts) n
  unfolding column
  all_at [] n = tt
  all_at (part ∷ parts) n = (inl (number_known part.node n), inl (all_at parts n))

  product_is : (x n : ℕ) (parts : List Part) → shape_of p x ≡ shape.Product parts → number x n ≡ products p.universe (map column parts) n
  product_is x n parts is =
      number_is x n (products p.universe (sums_in (plain column parts)) n) (CountsAt-product p x parts n column light is (all_below parts n) (all_at parts n))
      ∙ ap (λ fs. products p.universe fs n) (sums_plain column parts)

  collection_is : (x n low : ℕ) (kind : Kind) (part : Part) (high : Option ℕ) → shape_of p x ≡ shape.Coll kind part low high → number x n ≡ coll_count p.universe kind (number part.node) low high n
  collection_is x n low kind part high is =
      let none = component_none x low kind part high is in
      number_is x n (coll_count p.universe kind (number part.node) low high n)
      (λ L r. (node_known p x kind part low high is light (suits x low kind part high is) (solid x low kind part high is) (λ t. 1) (number part.node) (number part.node) n none none
      (λ m i l. (number_known part.node m, number_known part.node m)) (λ o. (number_known part.node n, number_known part.node n)) L r).count)

  step_of : (x y : ℕ) (s : Shape) → shape_of p x ≡ s → KeepsSize (HasZero p) s y → Falls p x y
  step_of x y s is k = step_falls p x y (subst (λ h. KeepsSize (HasZero p) h y) (sym is) k)

  branch_is : (x : ℕ) (parts : List Part) (part : Part) → shape_of p x ≡ shape.Union parts → In part parts → Falls p x part.node
  branch_is x parts part is i = step_of x part.node (shape.Union parts) is (part, i, refl)

  component_is : (x low : ℕ) (kind : Kind) (part : Part) (high : Option ℕ) → shape_of p x ≡ shape.Coll kind part low high → IsWithin low high 1 → Falls p x part.node
  component_is x low kind part high is o = step_of x part.node (shape.Coll kind part low high) is (refl, o)

  factor_is : (x : ℕ) (before after : List Part) (part : Part) → shape_of p x ≡ shape.Product (before ++ part ∷ after) → (OtherHasNone number before after → ⊥) → Falls p x part.node
  factor_is x before after part is o =
      step_of x part.node (shape.Product (before ++ part ∷ after)) is
      (others_by_place (HasZero p) (before ++ part ∷ after) before part after refl
      (λ other i. zero_there other.node (λ e. o (other, In-append_left other before after i, e)))
      (λ other i. zero_there other.node (λ e. o (other, In-append_right other before after i, e))))

  -- the counts of the program obey its constructs
  pub obeys : Obeys p number
  unfolding column
  obeys = record {
    known = number_known;
    atom = atom_is;
    union = union_is;
    product = product_is;
    collection = collection_is;
    component = component_none;
    branch_falls = branch_is;
    factor_falls = factor_is;
    component_falls = component_is;
  }
