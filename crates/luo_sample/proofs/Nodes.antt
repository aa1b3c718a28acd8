-- The nodes of a sample: z is node 0, and definition i has the nodes from 1 + 4 i on.
use Rattle.std.proofs.Common.{◌≡◌, ◌<◌, ◌≤◌, ◌+◌, ◌*◌, ℕ, zero, suc, List, [], ◌∷◌, length, take, refl, ap, ◌∙◌, subst, arith, Some, None, slice_get, codes}
use Rattle.std.specs.Prelude.{flat_map, sum_by}
use Rattle.luo_model.specs.declared.program.Universe.{Universe}
use Rattle.luo_model.specs.declared.program.Part.{Part}
use Rattle.luo_model.specs.declared.program.Node.{Node}
use Rattle.luo_model.specs.declared.program.Shape.{Shape}
use Rattle.luo_model.specs.declared.program.Shape.TheVariants as shape
use Rattle.luo_model.specs.Invariant.{bare}
use Rattle.luo_source.specs.Plain.Types.{Atom, TypeDef}
use Rattle.luo_rules.specs.declared.names.Meaning.{Meaning}
use Rattle.luo_rules.specs.Counted.{own_nodes}
use Rattle.luo_rules.specs.TypeBreaches.{low_of}
use Rattle.luo_rules.specs.Meanings.{meaning}
use Rattle.luo_rules.specs.Definitions.{Definition, copies, definition_meant, named_at, next, or_by, first_node}
use Rattle.luo_rules.specs.inner.Naming.{node_within, node_of}
use Rattle.luo_rules.specs.Nodes.{named_part, nodes_from}
use Rattle.luo_sample.specs.declared.choice.Choice.{Choice}
use Rattle.luo_sample.specs.Text.{type_name, kind_chosen}
use Rattle.std.proofs.lemmas.List.Sums.{sum_by-cons}
use Rattle.luo_sample.proofs.Form.{at, token, atom_def, type_form, type_of, AreTypes, AllTypes}

abbrev Names : Type 0
Names = List (List ℕ × Meaning)

-- no right side is a name
none_named : (u : Universe) (choice : ℕ → Choice) (names : Names) (i n : ℕ) (ds : List TypeDef) → AreTypes u choice i n ds → (k : ℕ) → named_at names (slice_get (flat_map copies ds) k) ≡ None
none_named u choice names i zero [] e k = refl
none_named u choice names i zero (d ∷ ds) e k = absurd e
none_named u choice names i (suc n) [] e k = absurd e
none_named u choice names i (suc n) (_ ∷ ds) (type_of ks, e) zero = refl
none_named u choice names i (suc n) (_ ∷ ds) (type_of ks, e) (suc k) = none_named u choice names (suc i) n ds e k

pub no_next : (u : Universe) (choice : ℕ → Choice) (names : Names) (ds : List TypeDef) → AllTypes u choice ds → (k : ℕ) → next names (flat_map copies ds) k ≡ None
no_next u choice names [] e k = absurd e
no_next u choice names (_ ∷ ds) (atom_def, e) zero = refl
no_next u choice names (_ ∷ ds) (atom_def, e) (suc k) = none_named u choice names 0 20 ds e k

four_each : (u : Universe) (choice : ℕ → Choice) (i n : ℕ) (ds : List TypeDef) → AreTypes u choice i n ds → (k : ℕ) → k ≤ n → sum_by (λ (d : Definition). own_nodes d.right) (take k (flat_map copies ds)) ≡ 4 * k
four_each u choice i zero [] e zero l = refl
four_each u choice i zero [] e (suc k) l = absurd (omega (arith, l))
four_each u choice i zero (d ∷ ds) e k l = absurd e
four_each u choice i (suc n) [] e k l = absurd e
four_each u choice i (suc n) (_ ∷ ds) (type_of ks, e) zero l = refl
four_each u choice i (suc n) (_ ∷ ds) (type_of ks, e) (suc k) l =
    let d : Definition = record { name = at (type_name i) (token ks 0); right = (type_form u i (choice i) ks).body } in
    let own : own_nodes d.right ≡ 4 = refl in
    let all : sum_by (λ (d : Definition). own_nodes d.right) (d ∷ take k (flat_map copies ds)) ≡ own_nodes d.right + sum_by (λ (d : Definition). own_nodes d.right) (take k (flat_map copies ds)) = sum_by-cons (λ (d : Definition). own_nodes d.right) d (take k (flat_map copies ds)) in
    all ∙ omega (arith, own, four_each u choice (suc i) n ds e k (omega (arith, l)))

by_first : (names : Names) (defs : List Definition) (i : ℕ) → next names defs i ≡ None → node_of names defs i ≡ first_node defs i
by_first names defs i e = ap (λ o. or_by o (node_within names defs (length defs)) (first_node defs i)) e

pub z_node : (u : Universe) (choice : ℕ → Choice) (names : Names) (ds : List TypeDef) → AllTypes u choice ds → node_of names (flat_map copies ds) 0 ≡ 0
z_node u choice names ds e = by_first names (flat_map copies ds) 0 (no_next u choice names ds e 0)

pub type_node : (u : Universe) (choice : ℕ → Choice) (names : Names) (ds : List TypeDef) → AllTypes u choice ds → (i : ℕ) → i ≤ 20 → node_of names (flat_map copies ds) (suc i) ≡ suc (4 * i)
type_node u choice names [] e i l = absurd e
type_node u choice names (d ∷ ds) e i l = by_first names (flat_map copies (d ∷ ds)) (suc i) (no_next u choice names (d ∷ ds) e (suc i)) ∙ first d ds e
  where
    first : (d : TypeDef) (ds : List TypeDef) → AllTypes u choice (d ∷ ds) → first_node (flat_map copies (d ∷ ds)) (suc i) ≡ suc (4 * i)
    first _ ds (atom_def {a = a} {b = b} {c = c}, e) =
        let d : Definition = record { name = at (codes "z") a; right = Atom 1 b c } in
        let all : sum_by (λ (d : Definition). own_nodes d.right) (d ∷ take i (flat_map copies ds)) ≡ own_nodes d.right + sum_by (λ (d : Definition). own_nodes d.right) (take i (flat_map copies ds)) = sum_by-cons (λ (d : Definition). own_nodes d.right) d (take i (flat_map copies ds)) in
        all ∙ omega (arith, four_each u choice 0 20 ds e i l)

-- four times this number, so that it computes
abbrev pub quad : ℕ → ℕ
quad zero = 0
quad (suc k) = suc (suc (suc (suc (quad k))))

pub quad_is : (k : ℕ) → quad k ≡ 4 * k
quad_is zero = refl
quad_is (suc k) = omega (arith, quad_is k)

-- the node at this place has this construct
abbrev pub Has : List Node → ℕ → Shape → Type 0
Has nodes x s = (node : Node) × (slice_get nodes x ≡ Some node) × (node.shape ≡ s)

same_union : (z : Part) (a b c d : ℕ) → a ≡ c → b ≡ d → shape.Union (z ∷ bare a ∷ bare b ∷ []) ≡ shape.Union (z ∷ bare c ∷ bare d ∷ [])
same_union z a b c d e f = ap (λ n. shape.Union (z ∷ bare n ∷ bare b ∷ [])) e ∙ ap (λ n. shape.Union (z ∷ bare c ∷ bare n ∷ [])) f

same_product : (z : Part) (a b : ℕ) → a ≡ b → shape.Product (z ∷ bare a ∷ []) ≡ shape.Product (z ∷ bare b ∷ [])
same_product z a b e = ap (λ n. shape.Product (z ∷ bare n ∷ [])) e

module _ (u : Universe) (choice : ℕ → Choice) (names : Names) (defs : List Definition) where
  -- the part for the type of a name
  abbrev pub part_for : List ℕ → Part
  part_for text = named_part names defs (definition_meant (meaning names text))

  -- the four nodes of a definition stand from place m on, and are the nodes from y on
  pub record Block (nodes : List Node) (m y : ℕ) (c : Choice) : Type 0 where
    pub whole : Has nodes m (shape.Union (part_for (codes "z") ∷ bare (y + 1) ∷ bare (y + 2) ∷ []))
    pub pair : Has nodes (suc m) (shape.Product (part_for (codes "z") ∷ part_for (type_name c.first) ∷ part_for (type_name c.second) ∷ []))
    pub holder : Has nodes (suc (suc m)) (shape.Product (part_for (codes "z") ∷ bare (y + 3) ∷ []))
    pub many : Has nodes (suc (suc (suc m))) (shape.Coll (kind_chosen u c.kind) (part_for (type_name c.inner)) (low_of (kind_chosen u c.kind) None) None)

  blocks : (i n : ℕ) (ds : List TypeDef) → AreTypes u choice i n ds → (o x k j : ℕ) → k < n → j ≡ i + k → Block (nodes_from names defs o x (flat_map copies ds)) (quad k) (x + 4 * k) (choice j)
  blocks i zero ds e o x k j l h = absurd (omega (arith, l))
  blocks i (suc n) [] e o x k j l h = absurd e
  blocks i (suc n) (_ ∷ ds) (type_of ks, e) o x zero j l h = let q : i ≡ j = omega (arith, h) in subst (λ j. Block (nodes_from names defs o x (flat_map copies (type_form u i (choice i) ks ∷ ds))) 0 (x + 4 * 0) (choice j)) q (record {
    whole = (record { shape = shape.Union (part_for (codes "z") ∷ bare (x + 1 + 0) ∷ bare (x + 1 + 0 + 1) ∷ []); owner = o; place = 0 }, refl, same_union (part_for (codes "z")) (x + 1 + 0) (x + 1 + 0 + 1) (x + 4 * 0 + 1) (x + 4 * 0 + 2) (omega arith) (omega arith));
    pair = (record { shape = shape.Product (part_for (codes "z") ∷ part_for (type_name (choice i).first) ∷ part_for (type_name (choice i).second) ∷ []); owner = o; place = 1 }, refl, refl);
    holder = (record { shape = shape.Product (part_for (codes "z") ∷ bare (x + 1 + 0 + 1 + 1 + 0) ∷ []); owner = o; place = 2 }, refl, same_product (part_for (codes "z")) (x + 1 + 0 + 1 + 1 + 0) (x + 4 * 0 + 3) (omega arith));
    many = (record { shape = shape.Coll (kind_chosen u (choice i).kind) (part_for (type_name (choice i).inner)) (low_of (kind_chosen u (choice i).kind) None) None; owner = o; place = 3 }, refl, refl);
  })
  blocks i (suc n) (_ ∷ ds) (type_of ks, e) o x (suc k) j l h =
      let b = blocks (suc i) n ds e (suc o) (x + 4) k j (omega (arith, l)) (omega (arith, h)) in
      let y : x + 4 + 4 * k ≡ x + 4 * suc k = omega arith in
      let c : Block (nodes_from names defs (suc o) (x + 4) (flat_map copies ds)) (quad k) (x + 4 * suc k) (choice j) = subst (λ y. Block (nodes_from names defs (suc o) (x + 4) (flat_map copies ds)) (quad k) y (choice j)) y b in
      record { whole = c.whole; pair = c.pair; holder = c.holder; many = c.many }

  nodes_count : (i n : ℕ) (ds : List TypeDef) → AreTypes u choice i n ds → (o x : ℕ) → length (nodes_from names defs o x (flat_map copies ds)) ≡ 4 * n
  nodes_count i zero [] e o x = refl
  nodes_count i zero (d ∷ ds) e o x = absurd e
  nodes_count i (suc n) [] e o x = absurd e
  nodes_count i (suc n) (_ ∷ ds) (type_of ks, e) o x = four_more _ (length (nodes_from names defs (suc o) (x + 4) (flat_map copies ds))) n refl (nodes_count (suc i) n ds e (suc o) (x + 4))
    where
      four_more : (a b n : ℕ) → a ≡ suc (suc (suc (suc b))) → b ≡ 4 * n → a ≡ 4 * suc n
      four_more a b n e f = omega (arith, e, f)

  -- all nodes
  pub z_has : (ds : List TypeDef) → AllTypes u choice ds → Has (nodes_from names defs 0 0 (flat_map copies ds)) 0 (shape.Atom 1)
  z_has [] e = absurd e
  z_has (_ ∷ ds) (atom_def, e) = (_, refl, refl)

  pub type_has : (ds : List TypeDef) → AllTypes u choice ds → (i : ℕ) → i < 20 → Block (nodes_from names defs 0 0 (flat_map copies ds)) (suc (quad i)) (1 + 4 * i) (choice i)
  type_has [] e i l = absurd e
  type_has (_ ∷ ds) (atom_def, e) i l = let b = blocks 0 20 ds e 1 1 i i l (omega arith) in record { whole = b.whole; pair = b.pair; holder = b.holder; many = b.many }

  pub all_count : (ds : List TypeDef) → AllTypes u choice ds → length (nodes_from names defs 0 0 (flat_map copies ds)) ≡ 81
  all_count [] e = absurd e
  all_count (_ ∷ ds) (atom_def, e) = ap suc (nodes_count 0 20 ds e 1 1)
