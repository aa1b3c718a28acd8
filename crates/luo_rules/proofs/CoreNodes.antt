-- The definitions and nodes of the core form of a source without breach, as the invariant of programs has them.
use Rattle.std.proofs.Common.{◌≡◌, ℕ, zero, suc, ◌+◌, ◌<◌, ◌≤◌, ◌⊎◌, List, [], ◌∷◌, length, Option, Some, None, slice_get, sum_by, refl, sym, ap, ◌∙◌, subst, inl, inr, arith}
use Rattle.luo_finite.specs.Listing.{In, Neighbours}
use Rattle.luo_model.specs.declared.program.Universe.{Universe}
use Rattle.luo_model.specs.declared.program.Part.{Part}
use Rattle.luo_model.specs.declared.program.Def.{Def}
use Rattle.luo_model.specs.declared.program.Node.{Node}
use Rattle.luo_model.specs.declared.program.Site.{Site}
use Rattle.luo_model.specs.Program.{Program, Procedure}
use Rattle.luo_model.specs.Invariant.{bare, inner_parts, IsPart, Follows, IsFirstPlace, IsOf, IsWhole, NamingEnds, at_construct, at_name}
use Rattle.luo_rules.specs.declared.names.Meaning.{Meaning}
use Rattle.luo_rules.specs.Counted.{own_nodes, most_parts, greatest_bound}
use Rattle.luo_rules.specs.Definitions.{Definition, first_node, named_at}
use Rattle.luo_rules.specs.inner.Naming.{node_of}
use Rattle.luo_rules.specs.Nodes.{behind, part_at, nodes_at, start, defs_from, nodes_from}
use Rattle.luo_rules.proofs.Lists.{some_same, none_some, get_below, below_get}
use Rattle.luo_rules.proofs.NodeLists.{first_within, first_behind, def_at, def_get, def_back, node_of_def, node_there, nodes_length, nodes_from_length}
use Rattle.luo_rules.proofs.NamingFacts.{EndsBy}
use Rattle.luo_rules.proofs.DefinitionFacts.{SoundAll, right_sort, node_of_below, whole_node, all_end}
use Rattle.luo_rules.proofs.NodeFacts.{Stands, PartOf, expr_stands, head_owner, head_part}

-- a program of these definitions
abbrev pub program_of : Universe → List (List ℕ × Meaning) → List Definition → List Procedure → List Site → List ℕ → Program
program_of universe names defs procs sites analyses = record {
  universe = universe;
  defs = defs_from names defs 0 defs;
  nodes = nodes_from names defs 0 0 defs;
  procs = procs;
  sites = sites;
  analyses = analyses;
}

-- elements next to each other are so related
neighbours : (R : Node → Node → Type 0) (ns : List Node) → ((x : ℕ) (a b : Node) → slice_get ns x ≡ Some a → slice_get ns (suc x) ≡ Some b → R a b) → Neighbours R ns
neighbours R [] h = tt
neighbours R (a ∷ []) h = tt
neighbours R (a ∷ (b ∷ ns)) h = (h zero a b refl refl, neighbours R (b ∷ ns) (λ x a b e f. h (suc x) a b e f))

first_of_all : (ns : List Node) → ((node : Node) → slice_get ns 0 ≡ Some node → node.place ≡ 0) → IsFirstPlace ns
first_of_all [] h = tt
first_of_all (node ∷ ns) h = h node refl

pub three_ways : (a b : ℕ) → (a < b) ⊎ ((a ≡ b) ⊎ (b < a))
three_ways zero zero = inr (inl refl)
three_ways zero (suc b) = inl (omega arith)
three_ways (suc a) zero = inr (inr (omega arith))
three_ways (suc a) (suc b) = elim (three_ways a b) [ inl h ↦ inl (omega arith) | inr h ↦ elim h [ inl e ↦ inr (inl (omega arith)) | inr l ↦ inr (inr (omega arith)) ] ]

abbrev part_name : Part → Option ℕ
part_name part = part.name

-- node x of a program: node m of definition j
pub record AtNode (universe : Universe) (names : List (List ℕ × Meaning)) (defs : List Definition) (x : ℕ) (node : Node) : Type 0 where
  pub j : ℕ
  pub d : Definition
  pub m : ℕ
  pub is_definition : slice_get defs j ≡ Some d
  pub is_node : slice_get (nodes_at names defs j (start names defs (first_node defs j)) d.right) m ≡ Some node
  pub stands : Stands universe names defs j (start names defs (first_node defs j)) (own_nodes d.right) (most_parts d.right) (greatest_bound d.right) m node
  pub number : x ≡ first_node defs j + m
  pub inside : m < own_nodes d.right
  pub owner : node.owner ≡ j
  pub place : node.place ≡ m

module _ (universe : Universe) (names : List (List ℕ × Meaning)) (defs : List Definition) (all : SoundAll universe names defs) where
  -- node m of definition j is of that owner and place
  pub of_place : (j : ℕ) (d : Definition) (m : ℕ) (node : Node) → slice_get defs j ≡ Some d → slice_get (nodes_at names defs j (start names defs (first_node defs j)) d.right) m ≡ Some node → (node.owner ≡ j) × (node.place ≡ m)
  of_place j d m node e f =
      let s = expr_stands universe names defs j (start names defs (first_node defs j)) d.right (all.proper j d e) (all.each j d e).right_side m node f in
      let o = head_owner universe names defs j (behind (start names defs (first_node defs j)) m) s.sub node s.first in
      (o.0, o.1 ∙ omega arith)

  pub node_at_place : (j : ℕ) (d : Definition) (m : ℕ) (node : Node) (x : ℕ) → slice_get defs j ≡ Some d → slice_get (nodes_at names defs j (start names defs (first_node defs j)) d.right) m ≡ Some node → x ≡ first_node defs j + m → AtNode universe names defs x node
  node_at_place j d m node x e f n =
      let s = expr_stands universe names defs j (start names defs (first_node defs j)) d.right (all.proper j d e) (all.each j d e).right_side m node f in
      let o = of_place j d m node e f in
      record {
        j = j;
        d = d;
        m = m;
        is_definition = e;
        is_node = f;
        stands = s;
        number = n;
        inside = omega (arith, below_get (nodes_at names defs j (start names defs (first_node defs j)) d.right) m node f, nodes_length names defs j (start names defs (first_node defs j)) d.right);
        owner = o.0;
        place = o.1;
      }

  pub at_node : (x : ℕ) (node : Node) → slice_get (nodes_from names defs 0 0 defs) x ≡ Some node → AtNode universe names defs x node
  at_node x node e =
      let b = node_of_def names defs 0 0 defs x node e in
      let P : ℕ → ℕ → Type 0 = λ a y. slice_get (nodes_at names defs a (start names defs y) b.d.right) b.m ≡ Some node in
      let there : P b.j (first_node defs b.j) = subst (λ a. P a (first_node defs b.j)) (omega arith) (subst (λ y. P (0 + b.j) y) (omega arith) b.is_node) in
      node_at_place b.j b.d b.m node x b.is_definition there b.number

  pub there_node : (j : ℕ) (d : Definition) (m : ℕ) (node : Node) → slice_get defs j ≡ Some d → slice_get (nodes_at names defs j (start names defs (first_node defs j)) d.right) m ≡ Some node → slice_get (nodes_from names defs 0 0 defs) (first_node defs j + m) ≡ Some node
  there_node j d m node e f =
      let P : ℕ → ℕ → Type 0 = λ a y. slice_get (nodes_at names defs a (start names defs y) d.right) m ≡ Some node in
      let there : P (0 + j) (0 + first_node defs j) = subst (λ a. P a (0 + first_node defs j)) (omega arith) (subst (λ y. P j y) (omega arith) f) in
      node_there names defs 0 0 defs j d m node e there

  -- two places of one definition, or one behind the other
  pub same_definition : (i j x : ℕ) (d e : Definition) → slice_get defs i ≡ Some d → slice_get defs j ≡ Some e → first_node defs i ≤ x → x < first_node defs i + own_nodes d.right → first_node defs j ≤ x → x < first_node defs j + own_nodes e.right → i ≡ j
  same_definition i j x d e p q a b c f =
      elim (three_ways i j) [
        | inl l ↦ absurd (omega (arith, first_behind defs i j d p l))
        | inr h ↦ elim h [ inl same ↦ same | inr l ↦ absurd (omega (arith, first_behind defs j i e q l)) ]
      ]

  module _ (procs : List Procedure) (sites : List Site) (analyses : List ℕ) where
    pub part_there : (part : Part) → PartOf universe names defs 0 (sum_by (λ d. own_nodes d.right) defs) part → IsPart (program_of universe names defs procs sites analyses) part
    part_there part q =
        let long = nodes_from_length names defs 0 0 defs in
        elim (right_sort universe names defs all q.sub q.is_sound) [
          | inl r ↦
              let d = get_below defs r.j r.below in
              let small : node_of names defs r.j < length (nodes_from names defs 0 0 defs) = omega (arith, long, node_of_below universe names defs all r.j r.below) in
              let whole = whole_node universe names defs all r.j d.0 (0 + first_node defs r.j) d.1 (omega arith) r.below in
              let made : IsPart (program_of universe names defs procs sites analyses) (record { node = node_of names defs r.j; name = Some r.j }) =
              (small, (def_at names defs (0 + first_node defs r.j) d.0, def_get names defs 0 defs r.j d.0 d.1, sym whole)) in
              subst (IsPart (program_of universe names defs procs sites analyses)) (sym (q.is ∙ r.part q.spot)) made
          | inr r ↦
              let small : q.spot.node < length (nodes_from names defs 0 0 defs) = omega (arith, long, q.to, r.nodes) in
              let made : IsPart (program_of universe names defs procs sites analyses) (bare q.spot.node) = (small, tt) in
              subst (IsPart (program_of universe names defs procs sites analyses)) (sym (q.is ∙ r.part q.spot)) made
        ]

    pub wholes_there : (i : ℕ) (v : Def) → slice_get (defs_from names defs 0 defs) i ≡ Some v → IsPart (program_of universe names defs procs sites analyses) v.whole
    wholes_there i v e =
        let b = def_back names defs 0 defs i v e in
        let x : ℕ = 0 + first_node defs i in
        let q : PartOf universe names defs 0 (sum_by (λ d. own_nodes d.right) defs) (part_at names defs (start names defs x) b.0.right) =
        record { sub = b.0.right; spot = start names defs x; is = refl; is_sound = (all.each i b.0 b.1).right_side; from = omega arith; to = omega (arith, first_within defs i b.0 b.1) } in
        subst (λ (w : Def). IsPart (program_of universe names defs procs sites analyses) w.whole) (sym b.2) (part_there (part_at names defs (start names defs x) b.0.right) q)

    pub parts_there : (x : ℕ) (node : Node) → slice_get (nodes_from names defs 0 0 defs) x ≡ Some node → (part : Part) → In part (inner_parts node.shape) → IsPart (program_of universe names defs procs sites analyses) part
    parts_there x node e part i =
        let a = at_node x node e in
        let s = a.stands in
        let q = head_part universe names defs a.j (behind (start names defs (first_node defs a.j)) a.m) s.sub s.is_proper s.is_sound node s.first part i in
        part_there part (record { sub = q.sub; spot = q.spot; is = q.is; is_sound = q.is_sound; from = omega arith; to = omega (arith, q.to, s.within, first_within defs a.j a.d a.is_definition) })

    pub owners_there : (x : ℕ) (node : Node) → slice_get (nodes_from names defs 0 0 defs) x ≡ Some node → node.owner < length defs
    owners_there x node e = let a = at_node x node e in omega (arith, a.owner, below_get defs a.j a.d a.is_definition)

    pub first_place : IsFirstPlace (nodes_from names defs 0 0 defs)
    first_place = first_of_all (nodes_from names defs 0 0 defs) (λ node e. let a = at_node 0 node e in omega (arith, a.number, a.place))

    pub in_order : Neighbours Follows (nodes_from names defs 0 0 defs)
    in_order = neighbours Follows (nodes_from names defs 0 0 defs) (λ x a b e f. follows x a b (at_node x a e) (at_node (suc x) b f))
      where
        follows : (x : ℕ) (a b : Node) → AtNode universe names defs x a → AtNode universe names defs (suc x) b → Follows a b
        follows x a b u v =
            elim (three_ways u.j v.j) [
              | inl l ↦
                  let later = first_behind defs u.j v.j u.d u.is_definition l in
                  inr (omega (arith, u.owner, v.owner), omega (arith, v.place, u.number, v.number, u.inside, later))
              | inr h ↦ elim h [
                | inl same ↦
                    let first : first_node defs u.j ≡ first_node defs v.j = ap (first_node defs) same in
                    inl (omega (arith, u.owner, v.owner, same), omega (arith, u.place, v.place, u.number, v.number, first))
                | inr l ↦ absurd (omega (arith, u.number, v.number, v.inside, first_behind defs v.j u.j v.d v.is_definition l))
              ]
            ]

    pub wholes_first : (i : ℕ) (v : Def) → slice_get (defs_from names defs 0 defs) i ≡ Some v → IsWhole (program_of universe names defs procs sites analyses) i v.whole
    wholes_first i v e =
        let b = def_back names defs 0 defs i v e in
        let x : ℕ = 0 + first_node defs i in
        subst (λ (w : Def). IsWhole (program_of universe names defs procs sites analyses) i w.whole) (sym b.2)
        (elim (right_sort universe names defs all b.0.right (all.each i b.0 b.1).right_side) [
          | inl r ↦ inr ((λ n. none_some r.j (sym n ∙ ap part_name (r.part (start names defs x)))), none_of i b.0 b.1 r.no_nodes)
          | inr r ↦
              let first = get_below (nodes_at names defs i (start names defs (first_node defs i)) b.0.right) 0 (omega (arith, r.nodes, nodes_length names defs i (start names defs (first_node defs i)) b.0.right)) in
              let a = of_place i b.0 0 first.0 b.1 first.1 in
              let place : (part_at names defs (start names defs x) b.0.right).node ≡ first_node defs i + 0 = ap (λ (q : Part). q.node) (r.part (start names defs x)) ∙ omega arith in
              let there = ap (slice_get (nodes_from names defs 0 0 defs)) place ∙ there_node i b.0 0 first.0 b.1 first.1 in
              inl (ap part_name (r.part (start names defs x)), (first.0, there, a.0, a.1))
        ])
      where
        none_of : (i : ℕ) (d : Definition) → slice_get defs i ≡ Some d → own_nodes d.right ≡ 0 → (x : ℕ) → IsOf (program_of universe names defs procs sites analyses) i x → ⊥
        none_of i d e none x h =
            let a = at_node x h.0 h.1 in
            let same : a.j ≡ i = sym a.owner ∙ h.2 in
            let one : a.d ≡ d = some_same a.d d (sym a.is_definition ∙ (ap (slice_get defs) same ∙ e)) in
            let nodes : own_nodes a.d.right ≡ own_nodes d.right = ap (λ (z : Definition). own_nodes z.right) one in
            omega (arith, a.inside, nodes, none)

    ends_of : (k i : ℕ) → EndsBy names defs k i → i < length defs → NamingEnds (program_of universe names defs procs sites analyses) i
    ends_of zero i e l = absurd e
    ends_of (suc k) i (inl none) l =
        let d = get_below defs i l in
        let whole : None ≡ part_name (part_at names defs (start names defs (0 + first_node defs i)) d.0.right) =
        elim (right_sort universe names defs all d.0.right (all.each i d.0 d.1).right_side) [
          | inl r ↦ absurd (none_some r.j (sym none ∙ (ap (named_at names) d.1 ∙ r.is)))
          | inr r ↦ sym (ap part_name (r.part (start names defs (0 + first_node defs i))))
        ] in
        at_construct (def_at names defs (0 + first_node defs i) d.0) (def_get names defs 0 defs i d.0 d.1) (sym whole)
    ends_of (suc k) i (inr e) l =
        let d = get_below defs i l in
        elim (right_sort universe names defs all d.0.right (all.each i d.0 d.1).right_side) [
          | inl r ↦
              let same : r.j ≡ e.0 = some_same r.j e.0 (sym r.is ∙ (sym (ap (named_at names) d.1) ∙ e.1)) in
              let whole : part_name (part_at names defs (start names defs (0 + first_node defs i)) d.0.right) ≡ Some e.0 = ap part_name (r.part (start names defs (0 + first_node defs i))) ∙ ap Some same in
              at_name (def_at names defs (0 + first_node defs i) d.0) e.0 (def_get names defs 0 defs i d.0 d.1) whole (ends_of k e.0 e.2 (subst (λ z. z < length defs) same r.below))
          | inr r ↦ absurd (none_some e.0 (sym r.none ∙ (sym (ap (named_at names) d.1) ∙ e.1)))
        ]

    pub naming_ends : (i : ℕ) → i < length defs → NamingEnds (program_of universe names defs procs sites analyses) i
    naming_ends i l = ends_of (length defs) i (all_end universe names defs all i l) l
