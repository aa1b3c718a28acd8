-- The definitions and nodes of a core form, by their places.
use Rattle.std.proofs.Common.{◌≡◌, ℕ, zero, suc, ◌+◌, ◌*◌, ◌<◌, ◌≤◌, List, [], ◌∷◌, map, length, take, Some, slice_get, sum_by, refl, sym, ap, ◌∙◌, subst, inl, inr, arith, length-append}
use Rattle.std.specs.Prelude.{flat_map}
use Rattle.std.proofs.lemmas.List.{length-map}
use Rattle.std.proofs.lemmas.List.Sums.{sum_by-cons, sum_by-append}
use Rattle.std.proofs.Math.Nat.{zero-mul, suc-mul}
use Rattle.luo_model.specs.declared.program.Def.{Def}
use Rattle.luo_model.specs.declared.program.Node.{Node}
use Rattle.luo_source.specs.declared.names.Name.{Name}
use Rattle.luo_source.specs.Plain.Types.{TypeExpr, Named, Epsilon, Atom, Union, Product, Coll, TypeExprs, no_exprs, an_expr, TypeDef}
use Rattle.luo_rules.specs.declared.names.Meaning.{Meaning}
use Rattle.luo_rules.specs.Counted.{own_nodes, own_nodes_of}
use Rattle.luo_rules.specs.Definitions.{Definition, copies, first_node}
use Rattle.luo_rules.specs.Nodes.{Spot, behind, part_at, nodes_at, all_nodes_at, start, defs_from, nodes_from}
use Rattle.luo_rules.proofs.Lists.{some_same, none_some, get_left, get_right, get_cases}

pub first_zero : (ds : List Definition) → first_node ds zero ≡ 0
first_zero [] = refl
first_zero (d ∷ ds) = refl

pub first_suc : (d : Definition) (ds : List Definition) (i : ℕ) → first_node (d ∷ ds) (suc i) ≡ own_nodes d.right + first_node ds i
first_suc d ds i = sum_by-cons (λ (e : Definition). own_nodes e.right) d (take i ds)

-- definition i ends before the last node
pub first_within : (ds : List Definition) (i : ℕ) (d : Definition) → slice_get ds i ≡ Some d → first_node ds i + own_nodes d.right ≤ sum_by (λ d. own_nodes d.right) ds
first_within [] i d e = absurd (none_some d e)
first_within (c ∷ ds) zero d e =
    let same : own_nodes c.right ≡ own_nodes d.right = ap (λ z. own_nodes z.right) (some_same c d e) in
    omega (arith, first_zero (c ∷ ds), same, sum_by-cons (λ (e : Definition). own_nodes e.right) c ds)
first_within (c ∷ ds) (suc i) d e =
    omega (arith, first_suc c ds i, first_within ds i d e, sum_by-cons (λ (e : Definition). own_nodes e.right) c ds)

-- a later definition begins behind the end of an earlier one
pub first_behind : (ds : List Definition) (i j : ℕ) (d : Definition) → slice_get ds i ≡ Some d → i < j → first_node ds i + own_nodes d.right ≤ first_node ds j
first_behind [] i j d e l = absurd (none_some d e)
first_behind (c ∷ ds) i zero d e l = absurd (omega arith)
first_behind (c ∷ ds) zero (suc j) d e l =
    let same : own_nodes c.right ≡ own_nodes d.right = ap (λ z. own_nodes z.right) (some_same c d e) in
    omega (arith, first_zero (c ∷ ds), same, first_suc c ds j)
first_behind (c ∷ ds) (suc i) (suc j) d e l = omega (arith, first_suc c ds i, first_suc c ds j, first_behind ds i j d e (omega arith))

-- node k of definitions from i on: node m of definition j
pub record NodeOf (names : List (List ℕ × Meaning)) (defs : List Definition) (i x : ℕ) (ds : List Definition) (k : ℕ) (node : Node) : Type 0 where
  pub j : ℕ
  pub d : Definition
  pub m : ℕ
  pub is_definition : slice_get ds j ≡ Some d
  pub is_node : slice_get (nodes_at names defs (i + j) (start names defs (x + first_node ds j)) d.right) m ≡ Some node
  pub number : k ≡ first_node ds j + m

module _ (names : List (List ℕ × Meaning)) (defs : List Definition) where
  mutual
    pub nodes_length : (owner : ℕ) (at : Spot) (e : TypeExpr) → length (nodes_at names defs owner at e) ≡ own_nodes e
    nodes_length owner at (Named name) = refl
    nodes_length owner at (Epsilon token) = refl
    nodes_length owner at (Atom weight weight_at token) = refl
    nodes_length owner at (Union parts) = ap suc (all_nodes_length owner (behind at 1) parts)
    nodes_length owner at (Product parts token) = ap suc (all_nodes_length owner (behind at 1) parts)
    nodes_length owner at (Coll kind part bound token) = ap suc (nodes_length owner (behind at 1) part)

    pub all_nodes_length : (owner : ℕ) (at : Spot) (row : TypeExprs) → length (all_nodes_at names defs owner at row) ≡ own_nodes_of row
    all_nodes_length owner at no_exprs = refl
    all_nodes_length owner at (an_expr e rest) =
        length-append (nodes_at names defs owner at e) (all_nodes_at names defs owner (behind at (own_nodes e)) rest)
        ∙ omega (arith, nodes_length owner at e, all_nodes_length owner (behind at (own_nodes e)) rest)

  pub defs_length : (x : ℕ) (ds : List Definition) → length (defs_from names defs x ds) ≡ length ds
  defs_length x [] = refl
  defs_length x (d ∷ ds) = ap suc (defs_length (x + own_nodes d.right) ds)

  pub nodes_from_length : (i x : ℕ) (ds : List Definition) → length (nodes_from names defs i x ds) ≡ sum_by (λ d. own_nodes d.right) ds
  nodes_from_length i x [] = refl
  nodes_from_length i x (d ∷ ds) =
      length-append (nodes_at names defs i (start names defs x) d.right) (nodes_from names defs (suc i) (x + own_nodes d.right) ds)
      ∙ omega (arith, nodes_length i (start names defs x) d.right, nodes_from_length (suc i) (x + own_nodes d.right) ds, sum_by-cons (λ (e : Definition). own_nodes e.right) d ds)

  -- what stands for a definition whose first node is this
  abbrev pub def_at : ℕ → Definition → Def
  def_at x d = record { name = d.name.text; whole = part_at names defs (start names defs x) d.right }

  pub def_get : (x : ℕ) (ds : List Definition) (i : ℕ) (d : Definition) → slice_get ds i ≡ Some d → slice_get (defs_from names defs x ds) i ≡ Some (def_at (x + first_node ds i) d)
  def_get x [] i d e = absurd (none_some d e)
  def_get x (c ∷ ds) zero d e = ap (λ z. Some (def_at x z)) (some_same c d e) ∙ ap (λ y. Some (def_at y d)) (omega (arith, first_zero (c ∷ ds)))
  def_get x (c ∷ ds) (suc i) d e = def_get (x + own_nodes c.right) ds i d e ∙ ap (λ y. Some (def_at y d)) (omega (arith, first_suc c ds i))

  pub def_back : (x : ℕ) (ds : List Definition) (i : ℕ) (v : Def) → slice_get (defs_from names defs x ds) i ≡ Some v → (d : Definition) × (slice_get ds i ≡ Some d) × (v ≡ def_at (x + first_node ds i) d)
  def_back x [] i v e = absurd (none_some v e)
  def_back x (c ∷ ds) zero v e = (c, refl, sym (some_same (def_at x c) v e) ∙ ap (λ y. def_at y c) (omega (arith, first_zero (c ∷ ds))))
  def_back x (c ∷ ds) (suc i) v e =
      let b = def_back (x + own_nodes c.right) ds i v e in (b.0, b.1, b.2 ∙ ap (λ y. def_at y b.0) (omega (arith, first_suc c ds i)))

  pub node_of_def : (i x : ℕ) (ds : List Definition) (k : ℕ) (node : Node) → slice_get (nodes_from names defs i x ds) k ≡ Some node → NodeOf names defs i x ds k node
  node_of_def i x [] k node e = absurd (none_some node e)
  node_of_def i x (d ∷ ds) k node e =
      elim (get_cases (nodes_at names defs i (start names defs x) d.right) (nodes_from names defs (suc i) (x + own_nodes d.right) ds) k node e) [
        | inl h ↦
            let P : ℕ → ℕ → Type 0 = λ a b. slice_get (nodes_at names defs a (start names defs b) d.right) k ≡ Some node in
            let h' : P (i + 0) (x + first_node (d ∷ ds) 0) = subst (λ a. P a (x + first_node (d ∷ ds) 0)) (omega arith) (subst (λ b. P i b) (omega (arith, first_zero (d ∷ ds))) h) in
            let n : k ≡ first_node (d ∷ ds) 0 + k = omega (arith, first_zero (d ∷ ds)) in
            record { j = 0; d = d; m = k; is_definition = refl; is_node = h'; number = n }
        | inr h ↦
            let b = node_of_def (suc i) (x + own_nodes d.right) ds h.0 node h.2 in
            let P : ℕ → ℕ → Type 0 = λ a y. slice_get (nodes_at names defs a (start names defs y) b.d.right) b.m ≡ Some node in
            let h' : P (i + suc b.j) (x + first_node (d ∷ ds) (suc b.j)) =
            subst (λ a. P a (x + first_node (d ∷ ds) (suc b.j))) (omega arith) (subst (λ y. P (suc i + b.j) y) (omega (arith, first_suc d ds b.j)) b.is_node) in
            let n : k ≡ first_node (d ∷ ds) (suc b.j) + b.m = omega (arith, first_suc d ds b.j, h.1, b.number, nodes_length i (start names defs x) d.right) in
            record { j = suc b.j; d = b.d; m = b.m; is_definition = b.is_definition; is_node = h'; number = n }
      ]

  pub node_there : (i x : ℕ) (ds : List Definition) (j : ℕ) (d : Definition) (m : ℕ) (node : Node) → slice_get ds j ≡ Some d
      → slice_get (nodes_at names defs (i + j) (start names defs (x + first_node ds j)) d.right) m ≡ Some node → slice_get (nodes_from names defs i x ds) (first_node ds j + m) ≡ Some node
  node_there i x [] j d m node e h = absurd (none_some d e)
  node_there i x (c ∷ ds) zero d m node e h =
      let P : ℕ → ℕ → Definition → Type 0 = λ a b z. slice_get (nodes_at names defs a (start names defs b) z.right) m ≡ Some node in
      let h' : P i x c = subst (λ a. P a x c) (omega arith) (subst (λ b. P (i + 0) b c) (omega (arith, first_zero (c ∷ ds))) (subst (λ z. P (i + 0) (x + first_node (c ∷ ds) 0) z) (sym (some_same c d e)) h)) in
      ap (slice_get (nodes_from names defs i x (c ∷ ds))) (omega (arith, first_zero (c ∷ ds)))
      ∙ get_left (nodes_at names defs i (start names defs x) c.right) (nodes_from names defs (suc i) (x + own_nodes c.right) ds) m node h'
  node_there i x (c ∷ ds) (suc j) d m node e h =
      let P : ℕ → ℕ → Type 0 = λ a y. slice_get (nodes_at names defs a (start names defs y) d.right) m ≡ Some node in
      let h' : P (suc i + j) (x + own_nodes c.right + first_node ds j) =
      subst (λ a. P a (x + own_nodes c.right + first_node ds j)) (omega arith) (subst (λ y. P (i + suc j) y) (omega (arith, first_suc c ds j)) h) in
      get_right (nodes_at names defs i (start names defs x) c.right) (nodes_from names defs (suc i) (x + own_nodes c.right) ds) (first_node ds j + m) (first_node (c ∷ ds) (suc j) + m)
      (omega (arith, first_suc c ds j, nodes_length i (start names defs x) c.right))
      ∙ node_there (suc i) (x + own_nodes c.right) ds j d m node e h'

-- all copies of right sides
pub copies_nodes : (ts : List TypeDef) → sum_by (λ d. own_nodes d.right) (flat_map copies ts) ≡ sum_by (λ d. length d.names * own_nodes d.body) ts
copies_nodes [] = refl
copies_nodes (t ∷ ts) =
    sum_by-append (λ (d : Definition). own_nodes d.right) (copies t) (flat_map copies ts)
    ∙ omega (arith, each t.names t.body, copies_nodes ts, sum_by-cons (λ (d : TypeDef). length d.names * own_nodes d.body) t ts)
  where
    each : (ns : List Name) (body : TypeExpr) → sum_by (λ (d : Definition). own_nodes d.right) (map (λ (name : Name). let d : Definition = record { name = name; right = body } in d) ns) ≡ length ns * own_nodes body
    each [] body = sym (zero-mul (own_nodes body))
    each (n ∷ ns) body = omega (arith, suc-mul (length ns) (own_nodes body), each ns body, sum_by-cons (λ (d : Definition). own_nodes d.right) (record { name = n; right = body }) (map (λ (name : Name). let d : Definition = record { name = name; right = body } in d) ns))

pub copies_length : (ts : List TypeDef) → length (flat_map copies ts) ≡ sum_by (λ d. length d.names) ts
copies_length [] = refl
copies_length (t ∷ ts) =
    length-append (copies t) (flat_map copies ts)
    ∙ omega (arith, length-map t.names (λ (name : Name). let d : Definition = record { name = name; right = t.body } in d), copies_length ts, sum_by-cons (λ (d : TypeDef). length d.names) t ts)
