-- Each node of a definition but the first is the part by itself of exactly one node before it.
use Rattle.std.proofs.Common.{◌≡◌, ℕ, zero, suc, ◌+◌, ◌<◌, ◌≤◌, ◌⊎◌, List, [], ◌∷◌, ◌++◌, length, Option, Some, None, slice_get, refl, sym, ap, ◌∙◌, subst, inl, inr, arith}
use Rattle.luo_finite.specs.Listing.{In}
use Rattle.luo_model.specs.declared.program.Universe.{Universe}
use Rattle.luo_model.specs.declared.program.Part.{Part}
use Rattle.luo_model.specs.declared.program.Node.{Node}
use Rattle.luo_model.specs.Invariant.{bare, inner_parts}
use Rattle.luo_source.specs.Plain.Types.{TypeExpr, Named, Epsilon, Atom, Union, Product, Coll, TypeExprs, no_exprs, an_expr}
use Rattle.luo_rules.specs.declared.names.Meaning.{Meaning}
use Rattle.luo_rules.specs.Counted.{own_nodes, own_nodes_of}
use Rattle.luo_rules.specs.Definitions.{Definition}
use Rattle.luo_rules.specs.TypeBreaches.{expr_breaches, exprs_breaches, kind_breaches, bound_breaches}
use Rattle.luo_rules.specs.Nodes.{Spot, behind, parts_at, nodes_at, all_nodes_at, part_at}
use Rattle.luo_rules.proofs.Lists.{none_some, get_cases, get_left, get_right, nil_left, nil_right}
use Rattle.luo_rules.proofs.NodeLists.{nodes_length}
use Rattle.luo_rules.proofs.DefinitionFacts.{SoundAll, right_sort}
use Rattle.luo_rules.proofs.NodeFacts.{PartOf, expr_stands, row_stands, row_part, head_part}
use Rattle.luo_rules.proofs.ProperTypes.{ProperType, ProperTypes}

-- node k of a list has y by itself as a part
abbrev pub HeldBy : List Node → ℕ → ℕ → Type 0
HeldBy ns k y = (node : Node) × (slice_get ns k ≡ Some node) × In (bare y) (inner_parts node.shape)

-- a part by itself among these nodes
pub record BareOf (low high y : ℕ) : Type 0 where
  pub from : low ≤ y
  pub to : y < high

abbrev part_name : Part → Option ℕ
part_name part = part.name

abbrev part_node : Part → ℕ
part_node part = part.node

parts_in : Option Node → List Part
parts_in None = []
parts_in (Some node) = inner_parts node.shape

-- what the first node of a list has as a part
held_first : (node : Node) (ns : List Node) (ps : List Part) (y : ℕ) → inner_parts node.shape ≡ ps → HeldBy (node ∷ ns) zero y → In (bare y) ps
unfolding parts_in
held_first node ns ps y e h = subst (In (bare y)) (ap parts_in (sym h.1) ∙ e) h.2

-- of a construct and the nodes inside it
construct_once : (node : Node) (ns : List Node) (ps : List Part) (y : ℕ) → inner_parts node.shape ≡ ps → ((k : ℕ) → In (bare y) ps → HeldBy ns k y → ⊥) → ((k j : ℕ) → HeldBy ns k y → HeldBy ns j y → k ≡ j)
    → (k j : ℕ) → HeldBy (node ∷ ns) k y → HeldBy (node ∷ ns) j y → k ≡ j
construct_once node ns ps y e apart once zero zero h g = refl
construct_once node ns ps y e apart once zero (suc j) h g = absurd (apart j (held_first node ns ps y e h) g)
construct_once node ns ps y e apart once (suc k) zero h g = absurd (apart k (held_first node ns ps y e g) h)
construct_once node ns ps y e apart once (suc k) (suc j) h g = ap suc (once k j h g)

construct_some : (node : Node) (ns : List Node) (ps : List Part) (y : ℕ) → inner_parts node.shape ≡ ps → In (bare y) ps ⊎ ((k : ℕ) × HeldBy ns k y) → (k : ℕ) × HeldBy (node ∷ ns) k y
construct_some node ns ps y e (inl i) = (0, (node, refl, subst (In (bare y)) (sym e) i))
construct_some node ns ps y e (inr h) = (suc h.0, h.1)

left_held : (xs ys : List Node) (k y : ℕ) → HeldBy xs k y → HeldBy (xs ++ ys) k y
left_held xs ys k y h = (h.0, get_left xs ys k h.0 h.1, h.2)

right_held : (xs ys : List Node) (n k y : ℕ) → n ≡ length xs → HeldBy ys k y → HeldBy (xs ++ ys) (n + k) y
right_held xs ys n k y e h = (h.0, get_right xs ys k (n + k) (omega arith) ∙ h.1, h.2)

below_or : (m n : ℕ) → (m < n) ⊎ ((j : ℕ) × (m ≡ n + j))
below_or m zero = inr (m, omega arith)
below_or zero (suc n) = inl (omega arith)
below_or (suc m) (suc n) = elim (below_or m n) [ inl l ↦ inl (omega arith) | inr r ↦ let e : suc m ≡ suc n + r.0 = omega (arith, r.1) in inr (r.0, e) ]

module _ (universe : Universe) (names : List (List ℕ × Meaning)) (defs : List Definition) (all : SoundAll universe names defs) where
  bare_of : (low high y : ℕ) → PartOf universe names defs low high (bare y) → BareOf low high y
  bare_of low high y q =
      elim (right_sort universe names defs all q.sub q.is_sound) [
        | inl r ↦ absurd (none_some r.j (ap part_name q.is ∙ ap part_name (r.part q.spot)))
        | inr r ↦
            let here : y ≡ q.spot.node = ap part_node q.is ∙ ap part_node (r.part q.spot) in
            record { from = omega (arith, here, q.from); to = omega (arith, here, q.to, r.nodes) }
      ]

  -- what node k of a right side holds stands behind it, and inside
  pub held_range : (owner : ℕ) (at : Spot) (e : TypeExpr) → ProperType e → expr_breaches universe names e ≡ [] → (k y : ℕ) → HeldBy (nodes_at names defs owner at e) k y → BareOf (suc (at.node + k)) (at.node + own_nodes e) y
  held_range owner at e p h k y g =
      let s = expr_stands universe names defs owner at e p h k g.0 g.1 in
      let b = bare_of (at.node + k + 1) (at.node + k + own_nodes s.sub) y (head_part universe names defs owner (behind at k) s.sub s.is_proper s.is_sound g.0 s.first (bare y) g.2) in
      record { from = omega (arith, b.from); to = omega (arith, b.to, s.within) }

  row_range : (owner : ℕ) (at : Spot) (row : TypeExprs) → ProperTypes row → exprs_breaches universe names row ≡ [] → (k y : ℕ) → HeldBy (all_nodes_at names defs owner at row) k y → BareOf (suc (at.node + k)) (at.node + own_nodes_of row) y
  row_range owner at row p h k y g =
      let s = row_stands universe names defs owner at row p h k g.0 g.1 in
      let b = bare_of (at.node + k + 1) (at.node + k + own_nodes s.sub) y (head_part universe names defs owner (behind at k) s.sub s.is_proper s.is_sound g.0 s.first (bare y) g.2) in
      record { from = omega (arith, b.from); to = omega (arith, b.to, s.within) }

  pub parts_range : (at : Spot) (row : TypeExprs) → exprs_breaches universe names row ≡ [] → (y : ℕ) → In (bare y) (parts_at names defs at row) → BareOf at.node (at.node + own_nodes_of row) y
  parts_range at row h y i = bare_of at.node (at.node + own_nodes_of row) y (row_part universe names defs at row h (bare y) i)

  -- node k of a row is of its first, or of the others
  row_held : (owner : ℕ) (at : Spot) (e : TypeExpr) (rest : TypeExprs) (k y : ℕ) → HeldBy (nodes_at names defs owner at e ++ all_nodes_at names defs owner (behind at (own_nodes e)) rest) k y
      → HeldBy (nodes_at names defs owner at e) k y ⊎ ((j : ℕ) × (k ≡ own_nodes e + j) × HeldBy (all_nodes_at names defs owner (behind at (own_nodes e)) rest) j y)
  row_held owner at e rest k y g =
      elim (get_cases (nodes_at names defs owner at e) (all_nodes_at names defs owner (behind at (own_nodes e)) rest) k g.0 g.1) [
        | inl f ↦ inl (g.0, f, g.2)
        | inr f ↦ let n : k ≡ own_nodes e + f.0 = omega (arith, f.1, nodes_length names defs owner at e) in inr (f.0, n, (g.0, f.2, g.2))
      ]

  -- what stands by itself as the one part isn't held among its nodes
  apart_one : (owner : ℕ) (at : Spot) (e : TypeExpr) → ProperType e → expr_breaches universe names e ≡ [] → (y k : ℕ) → In (bare y) (part_at names defs at e ∷ []) → HeldBy (nodes_at names defs owner at e) k y → ⊥
  apart_one owner at e p h y k (inl i) g =
      let r = held_range owner at e p h k y g in
      elim (right_sort universe names defs all e h) [
        | inl s ↦ absurd (none_some s.j (ap part_name i ∙ ap part_name (s.part at)))
        | inr s ↦ let here : y ≡ at.node = ap part_node i ∙ ap part_node (s.part at) in absurd (omega (arith, r.from, here))
      ]
  apart_one owner at e p h y k (inr i) g = i

  -- what stands by itself among the parts isn't held among their nodes
  apart : (owner : ℕ) (at : Spot) (row : TypeExprs) → ProperTypes row → exprs_breaches universe names row ≡ [] → (y k : ℕ) → In (bare y) (parts_at names defs at row) → HeldBy (all_nodes_at names defs owner at row) k y → ⊥
  apart owner at no_exprs p h y k i g = i
  apart owner at (an_expr e rest) p h y k (inl i) g =
      let sound : expr_breaches universe names e ≡ [] = nil_left (expr_breaches universe names e) (exprs_breaches universe names rest) h in
      let r = row_range owner at (an_expr e rest) p h k y g in
      elim (right_sort universe names defs all e sound) [
        | inl s ↦ absurd (none_some s.j (ap part_name i ∙ ap part_name (s.part at)))
        | inr s ↦ let here : y ≡ at.node = ap part_node i ∙ ap part_node (s.part at) in absurd (omega (arith, r.from, here))
      ]
  apart owner at (an_expr e rest) p h y k (inr i) g =
      let sound : expr_breaches universe names e ≡ [] = nil_left (expr_breaches universe names e) (exprs_breaches universe names rest) h in
      let sounds : exprs_breaches universe names rest ≡ [] = nil_right (expr_breaches universe names e) (exprs_breaches universe names rest) h in
      let b = parts_range (behind at (own_nodes e)) rest sounds y i in
      elim (row_held owner at e rest k y g) [
        | inl f ↦ let r = held_range owner at e p.0 sound k y f in absurd (omega (arith, r.to, b.from))
        | inr f ↦ apart owner (behind at (own_nodes e)) rest p.1 sounds y f.0 i f.2
      ]

  mutual
    pub held_once : (owner : ℕ) (at : Spot) (e : TypeExpr) → ProperType e → expr_breaches universe names e ≡ [] → (y k j : ℕ) → HeldBy (nodes_at names defs owner at e) k y → HeldBy (nodes_at names defs owner at e) j y → k ≡ j
    held_once owner at (Named name) p h y k j g f = absurd (none_some g.0 g.1)
    held_once owner at (Epsilon token) p h y k j g f = construct_once _ [] [] y refl (λ k i g. i) (λ k j g f. absurd (none_some g.0 g.1)) k j g f
    held_once owner at (Atom weight weight_at token) p h y k j g f = construct_once _ [] [] y refl (λ k i g. i) (λ k j g f. absurd (none_some g.0 g.1)) k j g f
    held_once owner at (Union parts) p h y k j g f =
        construct_once _ (all_nodes_at names defs owner (behind at 1) parts) (parts_at names defs (behind at 1) parts) y refl (λ k i g. apart owner (behind at 1) parts p.1 h y k i g)
        (λ k j g f. row_once owner (behind at 1) parts p.1 h y k j g f) k j g f
    held_once owner at (Product parts token) p h y k j g f =
        construct_once _ (all_nodes_at names defs owner (behind at 1) parts) (parts_at names defs (behind at 1) parts) y refl (λ k i g. apart owner (behind at 1) parts p.1 h y k i g)
        (λ k j g f. row_once owner (behind at 1) parts p.1 h y k j g f) k j g f
    held_once owner at (Coll kind part bound token) p h y k j g f =
        let inside : expr_breaches universe names part ≡ [] = nil_right (kind_breaches universe kind token) (expr_breaches universe names part) (nil_left (kind_breaches universe kind token ++ expr_breaches universe names part) (bound_breaches kind bound) h) in
        construct_once _ (nodes_at names defs owner (behind at 1) part) (part_at names defs (behind at 1) part ∷ []) y refl (λ k i g. apart_one owner (behind at 1) part p inside y k i g)
        (λ k j g f. held_once owner (behind at 1) part p inside y k j g f) k j g f

    row_once : (owner : ℕ) (at : Spot) (row : TypeExprs) → ProperTypes row → exprs_breaches universe names row ≡ [] → (y k j : ℕ) → HeldBy (all_nodes_at names defs owner at row) k y → HeldBy (all_nodes_at names defs owner at row) j y → k ≡ j
    row_once owner at no_exprs p h y k j g f = absurd (none_some g.0 g.1)
    row_once owner at (an_expr e rest) p h y k j g f =
        let sound : expr_breaches universe names e ≡ [] = nil_left (expr_breaches universe names e) (exprs_breaches universe names rest) h in
        let sounds : exprs_breaches universe names rest ≡ [] = nil_right (expr_breaches universe names e) (exprs_breaches universe names rest) h in
        elim (row_held owner at e rest k y g) [
          | inl a ↦ elim (row_held owner at e rest j y f) [
            | inl b ↦ held_once owner at e p.0 sound y k j a b
            | inr b ↦
                let r = held_range owner at e p.0 sound k y a in
                let s = row_range owner (behind at (own_nodes e)) rest p.1 sounds b.0 y b.2 in
                absurd (omega (arith, r.to, s.from))
          ]
          | inr a ↦ elim (row_held owner at e rest j y f) [
            | inl b ↦
                let r = held_range owner at e p.0 sound j y b in
                let s = row_range owner (behind at (own_nodes e)) rest p.1 sounds a.0 y a.2 in
                absurd (omega (arith, r.to, s.from))
            | inr b ↦ let same = row_once owner (behind at (own_nodes e)) rest p.1 sounds y a.0 b.0 a.2 b.2 in omega (arith, a.1, b.1, same)
          ]
        ]

  -- node m of a row is of its first, or of the others
  row_place : (owner : ℕ) (at : Spot) (e : TypeExpr) (rest : TypeExprs) (y m : ℕ) → y ≡ at.node + m → expr_breaches universe names e ≡ []
      → (1 ≤ m → m < own_nodes e → (k : ℕ) × HeldBy (nodes_at names defs owner at e) k y)
      → ((j : ℕ) → m ≡ own_nodes e + j → In (bare y) (parts_at names defs (behind at (own_nodes e)) rest) ⊎ ((k : ℕ) × HeldBy (all_nodes_at names defs owner (behind at (own_nodes e)) rest) k y))
      → In (bare y) (parts_at names defs at (an_expr e rest)) ⊎ ((k : ℕ) × HeldBy (all_nodes_at names defs owner at (an_expr e rest)) k y)
  row_place owner at e rest y m n sound here there = by m n here there (below_or m (own_nodes e))
    where
      by : (m : ℕ) → y ≡ at.node + m → (1 ≤ m → m < own_nodes e → (k : ℕ) × HeldBy (nodes_at names defs owner at e) k y)
          → ((j : ℕ) → m ≡ own_nodes e + j → In (bare y) (parts_at names defs (behind at (own_nodes e)) rest) ⊎ ((k : ℕ) × HeldBy (all_nodes_at names defs owner (behind at (own_nodes e)) rest) k y))
          → (m < own_nodes e) ⊎ ((j : ℕ) × (m ≡ own_nodes e + j))
          → In (bare y) (parts_at names defs at (an_expr e rest)) ⊎ ((k : ℕ) × HeldBy (all_nodes_at names defs owner at (an_expr e rest)) k y)
      by zero n here there (inl l) =
          elim (right_sort universe names defs all e sound) [
            | inl s ↦ absurd (omega (arith, s.no_nodes))
            | inr s ↦ let place : y ≡ at.node = omega arith in inl (inl (ap bare place ∙ sym (s.part at)))
          ]
      by (suc m) n here there (inl l) =
          let h = here (omega arith) l in
          inr (h.0, left_held (nodes_at names defs owner at e) (all_nodes_at names defs owner (behind at (own_nodes e)) rest) h.0 y h.1)
      by m n here there (inr q) =
          elim (there q.0 q.1) [
            | inl i ↦ inl (inr i)
            | inr g ↦ inr (own_nodes e + g.0, right_held (nodes_at names defs owner at e) (all_nodes_at names defs owner (behind at (own_nodes e)) rest) (own_nodes e) g.0 y (sym (nodes_length names defs owner at e)) g.1)
          ]

  -- node m of the one part is the part itself, or inside
  one_place : (owner : ℕ) (at : Spot) (e : TypeExpr) (y m : ℕ) → y ≡ at.node + m → expr_breaches universe names e ≡ [] → (1 ≤ m → (k : ℕ) × HeldBy (nodes_at names defs owner at e) k y) → m < own_nodes e
      → In (bare y) (part_at names defs at e ∷ []) ⊎ ((k : ℕ) × HeldBy (nodes_at names defs owner at e) k y)
  one_place owner at e y zero n sound here u =
      elim (right_sort universe names defs all e sound) [
        | inl s ↦ absurd (omega (arith, s.no_nodes))
        | inr s ↦ let place : y ≡ at.node = omega arith in inl (inl (ap bare place ∙ sym (s.part at)))
      ]
  one_place owner at e y (suc m) n sound here u = inr (here (omega arith))

  mutual
    pub held_some : (owner : ℕ) (at : Spot) (e : TypeExpr) → ProperType e → expr_breaches universe names e ≡ [] → (y m : ℕ) → y ≡ at.node + m → 1 ≤ m → m < own_nodes e → (k : ℕ) × HeldBy (nodes_at names defs owner at e) k y
    held_some owner at (Named name) p h y m n l u = absurd (omega arith)
    held_some owner at (Epsilon token) p h y m n l u = absurd (omega arith)
    held_some owner at (Atom weight weight_at token) p h y m n l u = absurd (omega arith)
    held_some owner at (Union parts) p h y zero n l u = absurd (omega arith)
    held_some owner at (Union parts) p h y (suc m) n l u =
        construct_some _ (all_nodes_at names defs owner (behind at 1) parts) (parts_at names defs (behind at 1) parts) y refl (row_some owner (behind at 1) parts p.1 h y m (omega arith) (omega arith))
    held_some owner at (Product parts token) p h y zero n l u = absurd (omega arith)
    held_some owner at (Product parts token) p h y (suc m) n l u =
        construct_some _ (all_nodes_at names defs owner (behind at 1) parts) (parts_at names defs (behind at 1) parts) y refl (row_some owner (behind at 1) parts p.1 h y m (omega arith) (omega arith))
    held_some owner at (Coll kind part bound token) p h y zero n l u = absurd (omega arith)
    held_some owner at (Coll kind part bound token) p h y (suc m) n l u =
        let inside : expr_breaches universe names part ≡ [] = nil_right (kind_breaches universe kind token) (expr_breaches universe names part) (nil_left (kind_breaches universe kind token ++ expr_breaches universe names part) (bound_breaches kind bound) h) in
        construct_some _ (nodes_at names defs owner (behind at 1) part) (part_at names defs (behind at 1) part ∷ []) y refl
        (one_place owner (behind at 1) part y m (omega arith) inside (λ l. held_some owner (behind at 1) part p inside y m (omega arith) l (omega arith)) (omega arith))

    row_some : (owner : ℕ) (at : Spot) (row : TypeExprs) → ProperTypes row → exprs_breaches universe names row ≡ [] → (y m : ℕ) → y ≡ at.node + m → m < own_nodes_of row
        → In (bare y) (parts_at names defs at row) ⊎ ((k : ℕ) × HeldBy (all_nodes_at names defs owner at row) k y)
    row_some owner at no_exprs p h y m n u = absurd (omega arith)
    row_some owner at (an_expr e rest) p h y m n u =
        let sound : expr_breaches universe names e ≡ [] = nil_left (expr_breaches universe names e) (exprs_breaches universe names rest) h in
        let sounds : exprs_breaches universe names rest ≡ [] = nil_right (expr_breaches universe names e) (exprs_breaches universe names rest) h in
        row_place owner at e rest y m n sound (λ l v. held_some owner at e p.0 sound y m n l v)
        (λ j q. row_some owner (behind at (own_nodes e)) rest p.1 sounds y j (omega (arith, q)) (omega (arith, q)))
