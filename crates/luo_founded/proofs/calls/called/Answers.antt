use Rattle.std.proofs.Common.{◌+◌, refl, sym, subst, arith}
use Rattle.std.proofs.lemmas.Option.{slice_get_read}
use Rattle.luo_model.specs.declared.body.Item.{Item}
use Rattle.luo_founded.proofs.CallsGraph.{IsCallOf, calls_found, not_call}
use Rattle.luo_founded.proofs.calls.called.Goals.{in-Call+in_ok-push, in_default}
use Rattle.luo_finite.proofs.Gathered.{Gathers, gathers_more, gathers_past, gathers_all}
use Rattle.luo_founded.proofs.calls.called.Goals as goal

pub loop-item-preserved : goal.loop-item-preserved
loop-item-preserved c = elim c.match-item.branch [
  | in-Call+in_ok-push w ↦ subst (Gathers (λ k (i : Item) g. IsCallOf g i) c.args.items.now (c.loop-item.item-index + 1)) (sym w.called-is)
      (gathers_more (λ k (i : Item) g. IsCallOf g i) c.args.items.now c.loop-item.item-index c.item-item.result w.in-Call.callee c.loop-item.called _
      (slice_get_read c.args.items.now _ _ c.item-item.result refl c.loop-item-test.true c.item-item.is)
      (subst (IsCallOf w.in-Call.callee) (sym w.in-Call.is) refl) (λ z g. sym (subst (IsCallOf z) w.in-Call.is g)) w.in_ok-push.ensures.ok c.loop-item.invariant)
  | in_default w ↦ subst (Gathers (λ k (i : Item) g. IsCallOf g i) c.args.items.now (c.loop-item.item-index + 1)) (sym w.called-is)
      (gathers_past (λ k (i : Item) g. IsCallOf g i) c.args.items.now c.loop-item.item-index c.item-item.result c.loop-item.called
      (slice_get_read c.args.items.now _ _ c.item-item.result refl c.loop-item-test.true c.item-item.is)
      (not_call c.item-item.result w.in_default.not-Call) c.loop-item.invariant)
]

pub returns : goal.returns
returns c g =
    let h = gathers_all (λ k (i : Item) g. IsCallOf g i) c.args.items.now c.loop-item.item-index c.loop-item.called (omega (arith, c.loop-item-test.false)) c.loop-item.invariant g in
    let r = calls_found g c.args.items.now in
    (λ i. r.1 (h.0 i), λ a. h.1 (r.0 a))
