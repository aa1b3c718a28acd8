-- The nodes of a definition without breach: each stands for a construct of its right side, with the parts of that.
use Rattle.std.proofs.Common.{◌≡◌, ℕ, zero, suc, ◌+◌, ◌≤◌, max, List, [], ◌∷◌, ◌++◌, Some, slice_get, sym, ap, subst, inl, inr, arith}
use Rattle.std.proofs.Math.Nat.{le-max_left, le-max_right}
use Rattle.luo_finite.specs.Listing.{In}
use Rattle.luo_model.specs.declared.program.Universe.{Universe}
use Rattle.luo_model.specs.declared.program.Part.{Part}
use Rattle.luo_model.specs.declared.program.Node.{Node}
use Rattle.luo_model.specs.Invariant.{inner_parts}
use Rattle.luo_source.specs.Plain.Types.{TypeExpr, Named, Epsilon, Atom, Union, Product, Coll, TypeExprs, no_exprs, an_expr}
use Rattle.luo_rules.specs.declared.names.Meaning.{Meaning}
use Rattle.luo_rules.specs.Counted.{own_nodes, own_nodes_of, count_exprs, most_parts, most_parts_of, greatest_bound, greatest_bound_of, greatest_of}
use Rattle.luo_rules.specs.Definitions.{Definition}
use Rattle.luo_rules.specs.TypeBreaches.{expr_breaches, exprs_breaches, kind_breaches, bound_breaches}
use Rattle.luo_rules.specs.Nodes.{Spot, behind, part_at, parts_at, nodes_at, all_nodes_at}
use Rattle.luo_rules.proofs.Lists.{some_same, none_some, get_cases, nil_left, nil_right}
use Rattle.luo_rules.proofs.NodeLists.{nodes_length}
use Rattle.luo_rules.proofs.ProperTypes.{ProperType, ProperTypes}

pub spot_same : (a b c d : ℕ) → a ≡ b → c ≡ d → (let s : Spot = record { node = a; place = c } in let t : Spot = record { node = b; place = d } in s ≡ t)
spot_same a b c d e f = cc

pub behind_behind : (at : Spot) (a b n : ℕ) → n ≡ a + b → behind (behind at a) b ≡ behind at n
behind_behind at a b n e = spot_same (at.node + a + b) (at.node + n) (at.place + a + b) (at.place + n) (omega arith) (omega arith)

behind_none : (at : Spot) → behind at 0 ≡ at
behind_none at = spot_same (at.node + 0) at.node (at.place + 0) at.place (omega arith) (omega arith)

-- node k from this spot on is the first of a construct without breach, among so many nodes
pub record Stands (universe : Universe) (names : List (List ℕ × Meaning)) (defs : List Definition) (owner : ℕ) (at : Spot) (own most greatest k : ℕ) (node : Node) : Type 0 where
  pub sub : TypeExpr
  pub is_proper : ProperType sub
  pub is_sound : expr_breaches universe names sub ≡ []
  pub first : slice_get (nodes_at names defs owner (behind at k) sub) 0 ≡ Some node
  pub within : k + own_nodes sub ≤ own
  pub parts : most_parts sub ≤ most
  pub bounds : greatest_bound sub ≤ greatest

-- a part that stands for a type expression between these nodes
pub record PartOf (universe : Universe) (names : List (List ℕ × Meaning)) (defs : List Definition) (low high : ℕ) (part : Part) : Type 0 where
  pub sub : TypeExpr
  pub spot : Spot
  pub is : part ≡ part_at names defs spot sub
  pub is_sound : expr_breaches universe names sub ≡ []
  pub from : low ≤ spot.node
  pub to : spot.node + own_nodes sub ≤ high

module _ (universe : Universe) (names : List (List ℕ × Meaning)) (defs : List Definition) where
  stands_behind : (owner : ℕ) (at : Spot) (n own own' most most' greatest greatest' k j : ℕ) (node : Node) → n + own ≤ own' → most ≤ most' → greatest ≤ greatest' → j ≡ n + k
      → Stands universe names defs owner (behind at n) own most greatest k node → Stands universe names defs owner at own' most' greatest' j node
  stands_behind owner at n own own' most most' greatest greatest' k j node l m g e s = record {
    sub = s.sub;
    is_proper = s.is_proper;
    is_sound = s.is_sound;
    first = subst (λ z. slice_get (nodes_at names defs owner z s.sub) 0 ≡ Some node) (behind_behind at n k j e) s.first;
    within = omega (arith, s.within);
    parts = omega (arith, s.parts);
    bounds = omega (arith, s.bounds);
  }

  stands_here : (owner : ℕ) (at : Spot) (e : TypeExpr) (node : Node) → ProperType e → expr_breaches universe names e ≡ [] → slice_get (nodes_at names defs owner at e) 0 ≡ Some node
      → Stands universe names defs owner at (own_nodes e) (most_parts e) (greatest_bound e) 0 node
  stands_here owner at e node p h f = record {
    sub = e;
    is_proper = p;
    is_sound = h;
    first = subst (λ z. slice_get (nodes_at names defs owner z e) 0 ≡ Some node) (sym (behind_none at)) f;
    within = omega arith;
    parts = omega arith;
    bounds = omega arith;
  }

  mutual
    pub expr_stands : (owner : ℕ) (at : Spot) (e : TypeExpr) → ProperType e → expr_breaches universe names e ≡ [] → (k : ℕ) (node : Node) → slice_get (nodes_at names defs owner at e) k ≡ Some node
        → Stands universe names defs owner at (own_nodes e) (most_parts e) (greatest_bound e) k node
    expr_stands owner at (Named name) p h k node f = absurd (none_some node f)
    expr_stands owner at (Epsilon token) p h zero node f = stands_here owner at (Epsilon token) node p h f
    expr_stands owner at (Epsilon token) p h (suc k) node f = absurd (none_some node f)
    expr_stands owner at (Atom weight weight_at token) p h zero node f = stands_here owner at (Atom weight weight_at token) node p h f
    expr_stands owner at (Atom weight weight_at token) p h (suc k) node f = absurd (none_some node f)
    expr_stands owner at (Union parts) p h zero node f = stands_here owner at (Union parts) node p h f
    expr_stands owner at (Union parts) p h (suc k) node f =
        stands_behind owner at 1 (own_nodes_of parts) (suc (own_nodes_of parts)) (most_parts_of parts) (max (count_exprs parts) (most_parts_of parts)) (greatest_bound_of parts) (greatest_bound_of parts) k (suc k) node
        (omega arith) (le-max_right (count_exprs parts) (most_parts_of parts)) (omega arith) (omega arith) (row_stands owner (behind at 1) parts p.1 h k node f)
    expr_stands owner at (Product parts token) p h zero node f = stands_here owner at (Product parts token) node p h f
    expr_stands owner at (Product parts token) p h (suc k) node f =
        stands_behind owner at 1 (own_nodes_of parts) (suc (own_nodes_of parts)) (most_parts_of parts) (max (count_exprs parts) (most_parts_of parts)) (greatest_bound_of parts) (greatest_bound_of parts) k (suc k) node
        (omega arith) (le-max_right (count_exprs parts) (most_parts_of parts)) (omega arith) (omega arith) (row_stands owner (behind at 1) parts p.1 h k node f)
    expr_stands owner at (Coll kind part bound token) p h zero node f = stands_here owner at (Coll kind part bound token) node p h f
    expr_stands owner at (Coll kind part bound token) p h (suc k) node f =
        let inside : expr_breaches universe names part ≡ [] = nil_right (kind_breaches universe kind token) (expr_breaches universe names part) (nil_left (kind_breaches universe kind token ++ expr_breaches universe names part) (bound_breaches kind bound) h) in
        stands_behind owner at 1 (own_nodes part) (suc (own_nodes part)) (most_parts part) (most_parts part) (greatest_bound part) (max (greatest_bound part) (greatest_of bound)) k (suc k) node
        (omega arith) (omega arith) (le-max_left (greatest_bound part) (greatest_of bound)) (omega arith) (expr_stands owner (behind at 1) part p inside k node f)

    pub row_stands : (owner : ℕ) (at : Spot) (row : TypeExprs) → ProperTypes row → exprs_breaches universe names row ≡ [] → (k : ℕ) (node : Node) → slice_get (all_nodes_at names defs owner at row) k ≡ Some node
        → Stands universe names defs owner at (own_nodes_of row) (most_parts_of row) (greatest_bound_of row) k node
    row_stands owner at no_exprs p h k node f = absurd (none_some node f)
    row_stands owner at (an_expr e rest) p h k node f =
        elim (get_cases (nodes_at names defs owner at e) (all_nodes_at names defs owner (behind at (own_nodes e)) rest) k node f) [
          | inl g ↦
              let s = expr_stands owner at e p.0 (nil_left (expr_breaches universe names e) (exprs_breaches universe names rest) h) k node g in
              record {
                sub = s.sub;
                is_proper = s.is_proper;
                is_sound = s.is_sound;
                first = s.first;
                within = omega (arith, s.within);
                parts = omega (arith, s.parts, le-max_left (most_parts e) (most_parts_of rest));
                bounds = omega (arith, s.bounds, le-max_left (greatest_bound e) (greatest_bound_of rest));
              }
          | inr g ↦
              stands_behind owner at (own_nodes e) (own_nodes_of rest) (own_nodes e + own_nodes_of rest) (most_parts_of rest) (max (most_parts e) (most_parts_of rest)) (greatest_bound_of rest) (max (greatest_bound e) (greatest_bound_of rest)) g.0 k node
              (omega arith) (le-max_right (most_parts e) (most_parts_of rest)) (le-max_right (greatest_bound e) (greatest_bound_of rest)) (omega (arith, g.1, nodes_length names defs owner at e))
              (row_stands owner (behind at (own_nodes e)) rest p.1 (nil_right (expr_breaches universe names e) (exprs_breaches universe names rest) h) g.0 node g.2)
        ]

  -- the first node of a construct is of its owner and its place
  pub head_owner : (owner : ℕ) (at : Spot) (e : TypeExpr) (node : Node) → slice_get (nodes_at names defs owner at e) 0 ≡ Some node → (node.owner ≡ owner) × (node.place ≡ at.place)
  head_owner owner at (Named name) node f = absurd (none_some node f)
  head_owner owner at (Epsilon token) node f = let e = some_same _ node f in (sym (ap (λ (z : Node). z.owner) e), sym (ap (λ (z : Node). z.place) e))
  head_owner owner at (Atom weight weight_at token) node f = let e = some_same _ node f in (sym (ap (λ (z : Node). z.owner) e), sym (ap (λ (z : Node). z.place) e))
  head_owner owner at (Union parts) node f = let e = some_same _ node f in (sym (ap (λ (z : Node). z.owner) e), sym (ap (λ (z : Node). z.place) e))
  head_owner owner at (Product parts token) node f = let e = some_same _ node f in (sym (ap (λ (z : Node). z.owner) e), sym (ap (λ (z : Node). z.place) e))
  head_owner owner at (Coll kind part bound token) node f = let e = some_same _ node f in (sym (ap (λ (z : Node). z.owner) e), sym (ap (λ (z : Node). z.place) e))

  part_behind : (low high low' high' : ℕ) (part : Part) → low' ≤ low → high ≤ high' → PartOf universe names defs low high part → PartOf universe names defs low' high' part
  part_behind low high low' high' part l m q = record { sub = q.sub; spot = q.spot; is = q.is; is_sound = q.is_sound; from = omega (arith, q.from); to = omega (arith, q.to) }

  pub row_part : (at : Spot) (row : TypeExprs) → exprs_breaches universe names row ≡ [] → (part : Part) → In part (parts_at names defs at row) → PartOf universe names defs at.node (at.node + own_nodes_of row) part
  row_part at no_exprs h part i = absurd i
  row_part at (an_expr e rest) h part (inl i) =
      record { sub = e; spot = at; is = i; is_sound = nil_left (expr_breaches universe names e) (exprs_breaches universe names rest) h; from = omega arith; to = omega arith }
  row_part at (an_expr e rest) h part (inr i) =
      part_behind (at.node + own_nodes e) (at.node + own_nodes e + own_nodes_of rest) at.node (at.node + (own_nodes e + own_nodes_of rest)) part (omega arith) (omega arith)
      (row_part (behind at (own_nodes e)) rest (nil_right (expr_breaches universe names e) (exprs_breaches universe names rest) h) part i)

  -- the parts of a construct stand behind it, among its nodes
  pub head_part : (owner : ℕ) (at : Spot) (e : TypeExpr) → ProperType e → expr_breaches universe names e ≡ [] → (node : Node) → slice_get (nodes_at names defs owner at e) 0 ≡ Some node
      → (part : Part) → In part (inner_parts node.shape) → PartOf universe names defs (at.node + 1) (at.node + own_nodes e) part
  head_part owner at (Named name) p h node f part i = absurd (none_some node f)
  head_part owner at (Epsilon token) p h node f part i = absurd (subst (λ (z : Node). In part (inner_parts z.shape)) (sym (some_same _ node f)) i)
  head_part owner at (Atom weight weight_at token) p h node f part i = absurd (subst (λ (z : Node). In part (inner_parts z.shape)) (sym (some_same _ node f)) i)
  head_part owner at (Union parts) p h node f part i =
      part_behind (at.node + 1) (at.node + 1 + own_nodes_of parts) (at.node + 1) (at.node + suc (own_nodes_of parts)) part (omega arith) (omega arith)
      (row_part (behind at 1) parts h part (subst (λ (z : Node). In part (inner_parts z.shape)) (sym (some_same _ node f)) i))
  head_part owner at (Product parts token) p h node f part i =
      part_behind (at.node + 1) (at.node + 1 + own_nodes_of parts) (at.node + 1) (at.node + suc (own_nodes_of parts)) part (omega arith) (omega arith)
      (row_part (behind at 1) parts h part (subst (λ (z : Node). In part (inner_parts z.shape)) (sym (some_same _ node f)) i))
  head_part owner at (Coll kind inner bound token) p h node f part i =
      let inside : expr_breaches universe names inner ≡ [] = nil_right (kind_breaches universe kind token) (expr_breaches universe names inner) (nil_left (kind_breaches universe kind token ++ expr_breaches universe names inner) (bound_breaches kind bound) h) in
      let here : In part (part_at names defs (behind at 1) inner ∷ []) = subst (λ (z : Node). In part (inner_parts z.shape)) (sym (some_same _ node f)) i in
      part_behind (at.node + 1) (at.node + 1 + (own_nodes inner + 0)) (at.node + 1) (at.node + suc (own_nodes inner)) part (omega arith) (omega arith)
      (row_part (behind at 1) (an_expr inner no_exprs) (ap (λ z. z ++ []) inside) part here)
