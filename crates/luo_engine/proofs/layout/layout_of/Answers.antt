use Rattle.std.proofs.Common.{◌≡◌, ◌∙◌, sym, ap, refl, subst, List, slice_get, Some}
use Rattle.std.proofs.lemmas.Option.{slice_get_read}
use Rattle.luo_model.specs.declared.program.Node.{Node}
use Rattle.luo_model.specs.Invariant.{IsProgram}
use Rattle.luo_model.specs.View.{Held, plain_of}
use Rattle.luo_model.proofs.NodeLemmas.{shape_there}
use Rattle.luo_engine.proofs.LayoutLemmas.{laid_more}
use Rattle.luo_engine.proofs.layout.layout_of.Goals as goal

pub loop-node-preserved : goal.loop-node-preserved
loop-node-preserved c =
    let p = c.args.program.now in
    let x = c.loop-node.node-index in
    let nodes : c.as_slice-node-items.result.now ≡ p.nodes = c.as_slice-node-items.ensures ∙ ap (λ (h : Held). h.nodes) c.program.view_is in
    let at : slice_get c.as_slice-node-items.result.now x ≡ Some c.node-item.result = slice_get_read c.as_slice-node-items.result.now _ x c.node-item.result refl c.loop-node-test.true c.node-item.is in
    laid_more (plain_of p) (subst (λ (h : Held). IsProgram (plain_of h)) c.program.view_is c.program.invariant) c.loop-node.layout x c.loop-node.invariant c.lay.new.layout c.node-item.result.shape
    (shape_there (plain_of p) x c.node-item.result (ap (λ (ns : List Node). slice_get ns x) (sym nodes) ∙ at)) c.in_ok-lay.ensures
