-- The rank of a node is that of the type expression that it stands for.
use Rattle.std.proofs.Common.{◌≡◌, ◌↔◌, ℕ, zero, suc, List, [], ◌∷◌, Option, Some, None, refl, sym, ap, subst, inl, inr, arith}
use Rattle.luo_finite.specs.Listing.{In}
use Rattle.luo_finite.specs.Walk.{Walk}
use Rattle.luo_founded.proofs.MadeLemmas.{zero_of_member}
use Rattle.luo_model.specs.declared.program.Kind.{Kind}
use Rattle.luo_model.specs.declared.program.Kind.TheVariants.{Sequence, Set, Cycle, Multiset, Powerset}
use Rattle.luo_model.specs.declared.program.Part.{Part}
use Rattle.luo_model.specs.declared.program.Shape.{Shape}
use Rattle.luo_model.specs.declared.program.Shape.TheVariants as shape
use Rattle.luo_model.specs.Tree.{Tree, Trees, Atom, Inj, Tup, Coll, none, more, size_of, sizes_of}
use Rattle.luo_model.specs.Program.{Program, shape_of}
use Rattle.luo_model.specs.Member.{IsLabel, IsWithin, ComponentsStand, Fits, FitAll, Member}
use Rattle.luo_model.specs.Founded.{IsBuilt, BuiltWithin, HasZero, KeepsSize, SameSize, HasEmptyComponent, IsFounded}
use Rattle.luo_model.specs.Levels.{IsRank}
use Rattle.luo_source.specs.Plain.Types as type
use Rattle.luo_source.specs.Plain.Types.{TypeExpr, Named, Epsilon, Union, Product, Coll, TypeExprs}
use Rattle.luo_source.specs.Plain.Source.{Source}
use Rattle.luo_rules.specs.Definitions.{definitions, names_of}
use Rattle.luo_rules.specs.Nodes.{Spot, behind, part_at, parts_at}
use Rattle.luo_rules.specs.Whole.{core}
use Rattle.luo_rules.proofs.Lists.{In_get, place_in}
use Rattle.luo_rules.proofs.CleanSource.{Clean}
use Rattle.luo_meaning.specs.Types.{LeadsTo}
use Rattle.luo_meaning.specs.Constructs.{IsConstruct}
use Rattle.luo_meaning.specs.Ranks as written
use Rattle.luo_meaning.specs.Ranks.{MayBeEmpty, by_branch, by_factor, by_component, HasChain, IsRankOf}
use Rattle.luo_meaning.proofs.Sits.{shape_in, union_sits, product_sits, coll_sits, PartIs, row_get, row_back}
use Rattle.luo_meaning.proofs.StructuresKept.{bound_same, zero_label}
use Rattle.luo_meaning.proofs.Typing.{Holds, down, up, shape_of_construct, union_shape, product_shape}
use Rattle.luo_meaning.proofs.Held.{held}

-- ---- what the rules make of size 0 is a structure of size 0

allowed : (low : ℕ) (high : Option ℕ) → low ≡ 0 → IsWithin low high 0
allowed low None e = omega (arith, e)
allowed low (Some high) e = (omega (arith, e), omega arith)

-- no components stand as any kind says
stand_empty : (kind : Kind) → ComponentsStand kind []
stand_empty Sequence = tt
stand_empty Set = tt
stand_empty Cycle = tt
stand_empty Multiset = tt
stand_empty Powerset = tt

module _ (p : Program) (f : IsFounded p) where
  abbrev Empty : ℕ → Type 0
  Empty x = (t : Tree) × Member p x t × (size_of t ≡ 0)

  all_empty : (parts : List Part) → ((part : Part) → In part parts → Empty part.node) → (ts : Trees) × FitAll p parts ts × (sizes_of ts ≡ 0)
  all_empty [] h = (none, tt, refl)
  all_empty (part ∷ parts) h =
      let one = h part (inl refl) in
      let rest = all_empty parts (λ q i. h q (inr i)) in
      (more one.0 rest.0, (one.1, rest.1), omega (arith, one.2, rest.2))

  -- a node that a rule makes of what is empty has a member of size 0
  by_rule : (Q : ℕ → Type 0) → ((y : ℕ) → Q y → Empty y) → (x : ℕ) → (HasEmptyComponent p (shape_of p x) → ⊥) → ((y : ℕ) → Q y → HasZero p y)
      → (s : Shape) → shape_of p x ≡ s → IsBuilt (λ weight. weight ≡ 0) Q s → Empty x
  by_rule Q empty x solid zeros (shape.Atom weight) e h =
      (Atom weight 0, subst (λ s. Fits p s (Atom weight 0)) (sym e) (refl, subst (λ w. IsLabel p.universe w 0) (sym h) (zero_label p.universe)), h)
  by_rule Q empty x solid zeros (shape.Union parts) e (part, i, q) =
      let one = empty part.node q in
      let at = place_in part parts i in
      (Inj (suc at.0) one.0, subst (λ s. Fits p s (Inj (suc at.0) one.0)) (sym e) (part, at.1, one.1), one.2)
  by_rule Q empty x solid zeros (shape.Product parts) e h =
      let all = all_empty parts (λ part i. empty part.node (h part i)) in
      (Tup all.0, subst (λ s. Fits p s (Tup all.0)) (sym e) all.1, all.2)
  by_rule Q empty x solid zeros (shape.Coll kind part low high) e (inl none_needed) =
      (Coll none, subst (λ s. Fits p s (Coll none)) (sym e) (allowed low high none_needed, tt, stand_empty kind), refl)
  by_rule Q empty x solid zeros (shape.Coll kind part low high) e (inr q) = absurd (solid (subst (HasEmptyComponent p) (sym e) (zeros part.node q)))

  empty_made : (rounds x : ℕ) → BuiltWithin (λ weight. weight ≡ 0) p rounds x → Empty x
  empty_made zero x h = absurd h
  empty_made (suc rounds) x h = by_rule (BuiltWithin (λ weight. weight ≡ 0) p rounds) (empty_made rounds) x (f.solid x) (λ y q. (rounds, q)) (shape_of p x) refl h

module _ (source : Source) (c : Clean source) (f : IsFounded (core source)) where
  -- what may be empty, as a node and as written
  empty_kept : (x : ℕ) (e : TypeExpr) → Holds source x e → HasZero (core source) x ↔ MayBeEmpty source e
  empty_kept x e h = (
    λ z. let t = empty_made (core source) f z.0 x z.1 in (t.0, (held source c x e h t.0).0 t.1, t.2),
    λ t. zero_of_member (core source) x t.0 ((held source c x e h t.0).1 t.1) t.2,
  )

  -- a part of a row holds what stands there
  part_holds : (owner : ℕ) (at : Spot) (row : TypeExprs) (i : ℕ) (part : Part) (e : TypeExpr) → PartIs source owner at row i part e → Holds source part.node e
  part_holds owner at row i part e q = record { owner = owner; spot = q.spot; sits = q.sits; at = ap (λ (z : Part). z.node) (sym q.is) }

  -- a step as written is one of nodes
  pub step_down : (x : ℕ) (e g : TypeExpr) → Holds source x e → written.KeepsSize source e g → (y : ℕ) × Holds source y g × SameSize (core source) x y
  step_down x e g h (by_branch {parts} i l is) =
      let k = down source c l x h in
      let r = row_back source k.owner (behind k.spot 1) parts (union_sits source k.owner k.spot parts k.sits) i g is in
      let all = parts_at (names_of source) (definitions source) (behind k.spot 1) parts in
      let step : KeepsSize (HasZero (core source)) (shape.Union all) r.0.node = (r.0, In_get all i r.0 r.1.get, refl) in
      (r.0.node, part_holds k.owner (behind k.spot 1) parts i r.0 g r.1, subst (λ s. KeepsSize (HasZero (core source)) s r.0.node) (sym (union_shape source c parts x k)) step)
  step_down x e g h (by_factor {parts} {at} i l is others) =
      let k = down source c l x h in
      let sits = product_sits source k.owner k.spot parts at k.sits in
      let r = row_back source k.owner (behind k.spot 1) parts sits i g is in
      let all = parts_at (names_of source) (definitions source) (behind k.spot 1) parts in
      let step : KeepsSize (HasZero (core source)) (shape.Product all) r.0.node = (
        i,
        r.0,
        r.1.get,
        refl,
        λ j other there no.
            let o = row_get source k.owner (behind k.spot 1) parts sits j other there in
            (empty_kept other.node o.0 (part_holds k.owner (behind k.spot 1) parts j other o.0 o.1)).1 (others j o.0 o.1.written no),
      ) in
      (r.0.node, part_holds k.owner (behind k.spot 1) parts i r.0 g r.1, subst (λ s. KeepsSize (HasZero (core source)) s r.0.node) (sym (product_shape source c parts at x k)) step)
  step_down x e g h (by_component {kind} {bound} {at} l allows) =
      let k = down source c l x h in
      let y = (part_at (names_of source) (definitions source) (behind k.spot 1) g).node in
      let form = shape_of_construct source c (Coll kind g bound at) x tt k refl in
      let step : KeepsSize (HasZero (core source)) (shape_in source k.spot (Coll kind g bound at)) y = (refl, (bound_same kind bound 1).1 allows) in
      (y, record { owner = k.owner; spot = behind k.spot 1; sits = coll_sits source k.owner k.spot kind g bound at k.sits; at = refl }, subst (λ s. KeepsSize (HasZero (core source)) s y) (sym form) step)

  -- and back
  step_from : (x y : ℕ) (e k : TypeExpr) → LeadsTo source k e → (h : Holds source x k) → IsConstruct k → SameSize (core source) x y → (g : TypeExpr) × Holds source y g × written.KeepsSize source e g
  step_from x y e (Named name) l h q step = absurd q
  step_from x y e (Epsilon token) l h q step = absurd (subst (λ s. KeepsSize (HasZero (core source)) s y) (shape_of_construct source c (Epsilon token) x tt h refl) step)
  step_from x y e (type.Atom weight weight_at token) l h q step = absurd (subst (λ s. KeepsSize (HasZero (core source)) s y) (shape_of_construct source c (type.Atom weight weight_at token) x tt h refl) step)
  step_from x y e (Union parts) l h q step =
      let all = parts_at (names_of source) (definitions source) (behind h.spot 1) parts in
      let s : KeepsSize (HasZero (core source)) (shape.Union all) y = subst (λ s. KeepsSize (HasZero (core source)) s y) (union_shape source c parts x h) step in
      let at = place_in s.0 all s.1 in
      let r = row_get source h.owner (behind h.spot 1) parts (union_sits source h.owner h.spot parts h.sits) at.0 s.0 at.1 in
      (r.0, subst (λ n. Holds source n r.0) s.2 (part_holds h.owner (behind h.spot 1) parts at.0 s.0 r.0 r.1), by_branch at.0 l r.1.written)
  step_from x y e (Product parts token) l h q step =
      let all = parts_at (names_of source) (definitions source) (behind h.spot 1) parts in
      let sits = product_sits source h.owner h.spot parts token h.sits in
      let s : KeepsSize (HasZero (core source)) (shape.Product all) y = subst (λ s. KeepsSize (HasZero (core source)) s y) (product_shape source c parts token x h) step in
      let r = row_get source h.owner (behind h.spot 1) parts sits s.0 s.1 s.2 in (
        r.0,
        subst (λ n. Holds source n r.0) s.3 (part_holds h.owner (behind h.spot 1) parts s.0 s.1 r.0 r.1),
        by_factor s.0 l r.1.written (λ j other there no.
            let o = row_back source h.owner (behind h.spot 1) parts sits j other there in
            (empty_kept o.0.node other (part_holds h.owner (behind h.spot 1) parts j o.0 other o.1)).0 (s.4 j o.0 o.1.get no)),
      )
  step_from x y e (Coll kind part bound token) l h q step =
      let s : KeepsSize (HasZero (core source)) (shape_in source h.spot (Coll kind part bound token)) y =
      subst (λ s. KeepsSize (HasZero (core source)) s y) (shape_of_construct source c (Coll kind part bound token) x tt h refl) step in
      (part, record { owner = h.owner; spot = behind h.spot 1; sits = coll_sits source h.owner h.spot kind part bound token h.sits; at = s.0 }, by_component l ((bound_same kind bound 1).0 s.1))

  pub step_up : (x y : ℕ) (e : TypeExpr) → Holds source x e → SameSize (core source) x y → (g : TypeExpr) × Holds source y g × written.KeepsSize source e g
  step_up x y e h step = let u = up source c x e h in step_from x y e u.k u.to u.holds u.is_construct step

  chain_down : (k x : ℕ) (e : TypeExpr) → Holds source x e → HasChain source k e → (y : ℕ) × Walk (SameSize (core source)) k x y
  chain_down zero x e h t = (x, refl)
  chain_down (suc k) x e h (g, step, rest) = let s = step_down x e g h step in let r = chain_down k s.0 g s.1 rest in (r.0, (s.0, s.2, r.1))

  chain_up : (k x y : ℕ) (e : TypeExpr) → Holds source x e → Walk (SameSize (core source)) k x y → HasChain source k e
  chain_up zero x y e h w = tt
  chain_up (suc k) x y e h (z, step, rest) = let s = step_up x z e h step in (s.0, s.2, chain_up k z y s.0 s.1 rest)

  -- the longest chains are as long
  pub rank_kept : (x : ℕ) (e : TypeExpr) → Holds source x e → (r : ℕ) → IsRank (core source) x r ↔ IsRankOf source e r
  rank_kept x e h r = (
    λ l. (chain_up r x l.0.0 e h l.0.1, λ k t. let w = chain_down k x e h t in l.1 k w.0 w.1),
    λ l. (chain_down r x e h l.0, λ k y w. l.1 k (chain_up k x y e h w)),
  )
