use Rattle.std.proofs.Common.{◌≡◌, ℕ, ◌+◌, List, Bool, Some, None, slice_get, refl, sym, subst, arith, IsTrue, false}
use Rattle.luo_model.specs.declared.program.Part.{Part}
use Rattle.luo_founded.specs.inner.Marks.{Marked}
use Rattle.luo_founded.proofs.steps.lone_parts.Goals.{then-others_marked+in_ok-push, else-others_marked}
use Rattle.luo_finite.proofs.Gathered.{Gathers, gathers_next, gathers_skip, gathers_all}
use Rattle.luo_founded.proofs.steps.lone_parts.Goals as goal

abbrev Lone : List Part → List Bool → ℕ → Part → ℕ → Type 0
Lone parts table i part y = (part.node ≡ y) × ((k : ℕ) (other : Part) → slice_get parts k ≡ Some other → (k ≡ i → ⊥) → Marked table other.node)

pub loop-i-preserved : goal.loop-i-preserved
loop-i-preserved c = elim c.if-others_marked.branch [
  | then-others_marked+in_ok-push w ↦ subst (Gathers (Lone c.args.parts.now c.args.table.now) c.args.parts.now (c.loop-i.i + 1)) (sym w.nodes-is)
      (gathers_next (Lone c.args.parts.now c.args.table.now) c.args.parts.now c.loop-i.i _ _ c.loop-i.nodes _ c.loop-i-test.true (refl, w.if-others_marked.ensures.0 refl) (λ z e. sym e.0) w.in_ok-push.ensures.ok c.loop-i.invariant)
  | else-others_marked w ↦ subst (Gathers (Lone c.args.parts.now c.args.table.now) c.args.parts.now (c.loop-i.i + 1)) (sym w.nodes-is)
      (gathers_skip (Lone c.args.parts.now c.args.table.now) c.args.parts.now c.loop-i.i (record { node = 0; name = None }) c.loop-i.nodes c.loop-i-test.true (λ z g. let t : IsTrue false = w.if-others_marked.ensures.1 g.1 in cc) c.loop-i.invariant)
]

pub returns : goal.returns
returns c y =
    let h = gathers_all (Lone c.args.parts.now c.args.table.now) c.args.parts.now c.loop-i.i c.loop-i.nodes (omega (arith, c.loop-i-test.false)) c.loop-i.invariant y in
    (λ i. let r = h.0 i in (r.0, r.1, r.2, r.3.0, r.3.1), λ r. h.1 (r.0, r.1, r.2, (r.3, r.4)))
