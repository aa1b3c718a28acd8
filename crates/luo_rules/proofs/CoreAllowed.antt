-- The constructs of the core form of a source without breach are allowed, and its multisets are counted.
use Rattle.std.proofs.Common.{◌≡◌, ℕ, suc, ◌+◌, ◌*◌, ◌≤◌, List, [], ◌∷◌, ◌++◌, map, length, Option, Some, None, slice_get, sum_by, refl, sym, ap, ◌∙◌, subst, arith}
use Rattle.std.specs.Prelude.{Bool, true, false, if◌then◌else◌, nat_le, flat_map, IfSome}
use Rattle.std.proofs.Math.Nat.{le-max_left, le-max_right, zero-mul, suc-mul}
use Rattle.std.proofs.lemmas.Bool.{leb-true}
use Rattle.std.proofs.lemmas.List.Sums.{sum_by-cons, sum_by-append}
use Rattle.luo_num.specs.declared.limits.TheConstants.{BOUND_LIMIT, PART_LIMIT}
use Rattle.luo_model.specs.declared.program.Universe.{Universe}
use Rattle.luo_model.specs.declared.program.Universe.TheVariants.{Unlabelled, Labelled}
use Rattle.luo_model.specs.declared.program.Kind.{Kind}
use Rattle.luo_model.specs.declared.program.Kind.TheVariants.{Sequence, Set, Cycle, Multiset, Powerset}
use Rattle.luo_model.specs.declared.program.Part.{Part}
use Rattle.luo_model.specs.declared.program.Node.{Node}
use Rattle.luo_model.specs.declared.program.Shape.{Shape}
use Rattle.luo_model.specs.declared.program.Shape.TheVariants as shape
use Rattle.luo_model.specs.Scopes.Walks.{multiset_of}
use Rattle.luo_model.specs.Invariant.{IsKind, IsLow, greatest_weight, IsAllowed}
use Rattle.luo_source.specs.declared.names.Name.{Name}
use Rattle.luo_source.specs.declared.types.Range.{Range}
use Rattle.luo_source.specs.declared.types.Range.TheVariants.{Exactly, AtMost, AtLeast, Between}
use Rattle.luo_source.specs.declared.types.Bound.{Bound}
use Rattle.luo_source.specs.Plain.Types.{TypeExpr, Named, Epsilon, Atom, Union, Product, Coll, TypeExprs, no_exprs, an_expr, TypeDef}
use Rattle.luo_rules.specs.declared.names.Meaning.{Meaning}
use Rattle.luo_rules.specs.Counted as counted
use Rattle.luo_rules.specs.Counted.{own_nodes, own_multisets, own_multisets_of, count_exprs, most_parts, most_parts_of, greatest_bound, greatest_bound_of, greatest_in, greatest_of}
use Rattle.luo_rules.specs.Definitions.{Definition, copies, first_node}
use Rattle.luo_rules.specs.TypeBreaches.{expr_breaches, kind_breaches, bound_breaches, least_of, low_in, high_in, low_of, high_of, is_at_most, is_low}
use Rattle.luo_rules.specs.Nodes.{Spot, behind, parts_at, part_at, nodes_at, all_nodes_at, start, nodes_from}
use Rattle.luo_rules.proofs.Lists.{some_same, none_some, nil_left, nil_right, chosen_true}
use Rattle.luo_rules.proofs.DefinitionFacts.{SoundAll}
use Rattle.luo_rules.proofs.ProperTypes.{ProperType}
use Rattle.luo_rules.proofs.CoreNodes.{at_node}

kind_allowed : (universe : Universe) (kind : Kind) (at : ℕ) → kind_breaches universe kind at ≡ [] → IsKind universe kind
kind_allowed Unlabelled Sequence at h = tt
kind_allowed Unlabelled Set at h = absurd (cc)
kind_allowed Unlabelled Cycle at h = absurd (cc)
kind_allowed Unlabelled Multiset at h = refl
kind_allowed Unlabelled Powerset at h = refl
kind_allowed Labelled Sequence at h = tt
kind_allowed Labelled Set at h = refl
kind_allowed Labelled Cycle at h = refl
kind_allowed Labelled Multiset at h = absurd (cc)
kind_allowed Labelled Powerset at h = absurd (cc)

low_allowed : (kind : Kind) (low : ℕ) → is_low kind low ≡ true → IsLow kind low
low_allowed Sequence low h = tt
low_allowed Set low h = tt
low_allowed Cycle low h = leb-true 1 low h
low_allowed Multiset low h = tt
low_allowed Powerset low h = leb-true low 1 h

least_low : (kind : Kind) → IsLow kind (least_of kind)
least_low Sequence = tt
least_low Set = tt
least_low Cycle = omega arith
least_low Multiset = tt
least_low Powerset = omega arith

least_small : (kind : Kind) → least_of kind ≤ 1
least_small Sequence = omega arith
least_small Set = omega arith
least_small Cycle = omega arith
least_small Multiset = omega arith
least_small Powerset = omega arith

both_tests : {A : Type 0} (b c : Bool) (x y : A) → (if b then (if c then [] else (x ∷ [])) else (y ∷ [])) ≡ [] → (b ≡ true) × (c ≡ true)
both_tests true true x y h = (refl, refl)
both_tests true false x y h = absurd (cc)
both_tests false c x y h = absurd (cc)

low_small : (kind : Kind) (range : Range) → greatest_in range ≤ BOUND_LIMIT → low_in kind range ≤ BOUND_LIMIT
low_small kind (Exactly n) h = h
low_small kind (AtMost n) h = omega (arith, least_small kind)
low_small kind (AtLeast n) h = h
low_small kind (Between low high) h = omega (arith, le-max_left low high)

abbrev IsHigh : ℕ → Option ℕ → Type 0
IsHigh low high = IfSome high (λ most. (low ≤ most) × (most ≤ BOUND_LIMIT))

high_allowed : (kind : Kind) (range : Range) → greatest_in range ≤ BOUND_LIMIT → is_at_most (low_in kind range) (high_in range) ≡ true → IsHigh (low_in kind range) (high_in range)
high_allowed kind (Exactly n) h t = (omega arith, h)
high_allowed kind (AtMost n) h t = (leb-true (least_of kind) n t, h)
high_allowed kind (AtLeast n) h t = tt
high_allowed kind (Between low high) h t = (leb-true low high t, omega (arith, le-max_right low high))

bound_allowed : (kind : Kind) (bound : Option Bound) → bound_breaches kind bound ≡ [] → greatest_of bound ≤ BOUND_LIMIT → IsLow kind (low_of kind bound) × (low_of kind bound ≤ BOUND_LIMIT) × IsHigh (low_of kind bound) (high_of bound)
bound_allowed kind None h l = (least_low kind, omega (arith, least_small kind), tt)
bound_allowed kind (Some bound) h l =
    let t = both_tests (is_at_most (low_in kind bound.range) (high_in bound.range)) (is_low kind (low_in kind bound.range)) _ _ h in
    (low_allowed kind (low_in kind bound.range) t.1, low_small kind bound.range l, high_allowed kind bound.range l t.0)

module _ (universe : Universe) (names : List (List ℕ × Meaning)) (defs : List Definition) where
  pub parts_length : (at : Spot) (row : TypeExprs) → length (parts_at names defs at row) ≡ count_exprs row
  parts_length at no_exprs = refl
  parts_length at (an_expr e rest) = ap suc (parts_length (behind at (own_nodes e)) rest)

  head_allowed : (owner : ℕ) (at : Spot) (e : TypeExpr) → ProperType e → expr_breaches universe names e ≡ [] → most_parts e ≤ PART_LIMIT → greatest_bound e ≤ BOUND_LIMIT → (node : Node) → slice_get (nodes_at names defs owner at e) 0 ≡ Some node → IsAllowed universe node.shape
  head_allowed owner at (Named name) p h m g node f = absurd (none_some node f)
  head_allowed owner at (Epsilon token) p h m g node f = subst (λ (z : Node). IsAllowed universe z.shape) (some_same _ node f) (omega arith)
  head_allowed owner at (Atom weight weight_at token) p h m g node f =
      subst (λ (z : Node). IsAllowed universe z.shape) (some_same _ node f) (leb-true weight (greatest_weight universe) (chosen_true (nat_le weight (greatest_weight universe)) [] _ h))
  head_allowed owner at (Union parts) p h m g node f =
      let long = parts_length (behind at 1) parts in
      subst (λ (z : Node). IsAllowed universe z.shape) (some_same _ node f) (omega (arith, long, p.0), omega (arith, long, m, le-max_left (count_exprs parts) (most_parts_of parts)))
  head_allowed owner at (Product parts token) p h m g node f =
      let long = parts_length (behind at 1) parts in
      subst (λ (z : Node). IsAllowed universe z.shape) (some_same _ node f) (omega (arith, long, p.0), omega (arith, long, m, le-max_left (count_exprs parts) (most_parts_of parts)))
  head_allowed owner at (Coll kind part bound token) p h m g node f =
      let first = nil_left (kind_breaches universe kind token ++ expr_breaches universe names part) (bound_breaches kind bound) h in
      let b = bound_allowed kind bound (nil_right (kind_breaches universe kind token ++ expr_breaches universe names part) (bound_breaches kind bound) h) (omega (arith, g, le-max_right (greatest_bound part) (greatest_of bound))) in
      subst (λ (z : Node). IsAllowed universe z.shape) (some_same _ node f)
      (kind_allowed universe kind token (nil_left (kind_breaches universe kind token) (expr_breaches universe names part) first), b.0, b.1, b.2)

  pub allowed : SoundAll universe names defs → ((i : ℕ) (d : Definition) → slice_get defs i ≡ Some d → (most_parts d.right ≤ PART_LIMIT) × (greatest_bound d.right ≤ BOUND_LIMIT))
      → (x : ℕ) (node : Node) → slice_get (nodes_from names defs 0 0 defs) x ≡ Some node → IsAllowed universe node.shape
  allowed all limits x node e =
      let a = at_node universe names defs all x node e in
      let s = a.stands in
      let l = limits a.j a.d a.is_definition in
      head_allowed a.j (behind (start names defs (first_node defs a.j)) a.m) s.sub s.is_proper s.is_sound (omega (arith, s.parts, l.0)) (omega (arith, s.bounds, l.1)) node s.first

-- the multisets and powersets among nodes
abbrev pub multisets_in : List Node → ℕ
multisets_in ns = sum_by (λ node. multiset_of node.shape) ns

kind_multiset : (kind : Kind) (part : Part) (low : ℕ) (high : Option ℕ) → multiset_of (shape.Coll kind part low high) ≡ counted.multiset_of kind
kind_multiset Sequence part low high = refl
kind_multiset Set part low high = refl
kind_multiset Cycle part low high = refl
kind_multiset Multiset part low high = refl
kind_multiset Powerset part low high = refl

more_multisets : (form : Shape) (owner place : ℕ) (ns : List Node) (k n m : ℕ) → multiset_of form ≡ k → multisets_in ns ≡ n → m ≡ k + n → multisets_in (record { shape = form; owner = owner; place = place } ∷ ns) ≡ m
more_multisets form owner place ns k n m e f g = sum_by-cons (λ (z : Node). multiset_of z.shape) (record { shape = form; owner = owner; place = place }) ns ∙ omega arith

module _ (names : List (List ℕ × Meaning)) (defs : List Definition) where
  mutual
    nodes_multisets : (owner : ℕ) (at : Spot) (e : TypeExpr) → multisets_in (nodes_at names defs owner at e) ≡ own_multisets e
    nodes_multisets owner at (Named name) = refl
    nodes_multisets owner at (Epsilon token) = more_multisets (shape.Atom 0) owner at.place [] 0 0 0 refl refl (omega arith)
    nodes_multisets owner at (Atom weight weight_at token) = more_multisets (shape.Atom weight) owner at.place [] 0 0 0 refl refl (omega arith)
    nodes_multisets owner at (Union parts) =
        more_multisets (shape.Union (parts_at names defs (behind at 1) parts)) owner at.place (all_nodes_at names defs owner (behind at 1) parts) 0 (own_multisets_of parts) (own_multisets_of parts) refl (row_multisets owner (behind at 1) parts) (omega arith)
    nodes_multisets owner at (Product parts token) =
        more_multisets (shape.Product (parts_at names defs (behind at 1) parts)) owner at.place (all_nodes_at names defs owner (behind at 1) parts) 0 (own_multisets_of parts) (own_multisets_of parts) refl (row_multisets owner (behind at 1) parts) (omega arith)
    nodes_multisets owner at (Coll kind part bound token) =
        let held = part_at names defs (behind at 1) part in
        more_multisets (shape.Coll kind held (low_of kind bound) (high_of bound)) owner at.place (nodes_at names defs owner (behind at 1) part) (counted.multiset_of kind) (own_multisets part) (counted.multiset_of kind + own_multisets part)
        (kind_multiset kind held (low_of kind bound) (high_of bound)) (nodes_multisets owner (behind at 1) part) refl

    row_multisets : (owner : ℕ) (at : Spot) (row : TypeExprs) → multisets_in (all_nodes_at names defs owner at row) ≡ own_multisets_of row
    row_multisets owner at no_exprs = refl
    row_multisets owner at (an_expr e rest) =
        sum_by-append (λ (z : Node). multiset_of z.shape) (nodes_at names defs owner at e) (all_nodes_at names defs owner (behind at (own_nodes e)) rest)
        ∙ omega (arith, nodes_multisets owner at e, row_multisets owner (behind at (own_nodes e)) rest)

  pub from_multisets : (i x : ℕ) (ds : List Definition) → multisets_in (nodes_from names defs i x ds) ≡ sum_by (λ d. own_multisets d.right) ds
  from_multisets i x [] = refl
  from_multisets i x (d ∷ ds) =
      sum_by-append (λ (z : Node). multiset_of z.shape) (nodes_at names defs i (start names defs x) d.right) (nodes_from names defs (suc i) (x + own_nodes d.right) ds)
      ∙ omega (arith, nodes_multisets i (start names defs x) d.right, from_multisets (suc i) (x + own_nodes d.right) ds, sum_by-cons (λ (e : Definition). own_multisets e.right) d ds)

pub copies_multisets : (ts : List TypeDef) → sum_by (λ d. own_multisets d.right) (flat_map copies ts) ≡ sum_by (λ d. length d.names * own_multisets d.body) ts
copies_multisets [] = refl
copies_multisets (t ∷ ts) =
    sum_by-append (λ (d : Definition). own_multisets d.right) (copies t) (flat_map copies ts)
    ∙ omega (arith, each t.names t.body, copies_multisets ts, sum_by-cons (λ (d : TypeDef). length d.names * own_multisets d.body) t ts)
  where
    each : (ns : List Name) (body : TypeExpr) → sum_by (λ (d : Definition). own_multisets d.right) (map (λ (name : Name). let d : Definition = record { name = name; right = body } in d) ns) ≡ length ns * own_multisets body
    each [] body = sym (zero-mul (own_multisets body))
    each (n ∷ ns) body =
        omega (arith, suc-mul (length ns) (own_multisets body), each ns body, sum_by-cons (λ (d : Definition). own_multisets d.right) (record { name = n; right = body }) (map (λ (name : Name). let d : Definition = record { name = name; right = body } in d) ns))
