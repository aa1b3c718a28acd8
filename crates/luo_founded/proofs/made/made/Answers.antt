use Rattle.std.proofs.Common.{ap, ◌∙◌, length}
use Rattle.luo_model.specs.View.{Held, plain_of}
use Rattle.luo_founded.specs.inner.Marks.{Starts}
use Rattle.luo_founded.proofs.MarkLemmas.{still_sound, fewer_left, marks_made}
use Rattle.luo_founded.proofs.made.made.Goals as goal

pub loop-x-smaller : goal.loop-x-smaller
loop-x-smaller c = fewer_left (Starts c.args.empty) (plain_of c.args.program.now) _ c.loop-x.table _ _ _ (c.as_slice-nodes.ensures ∙ ap (λ (h : Held). h.nodes) c.program.view_is) c.as_slice.ensures c.in-Some.ensures c.set.ensures

pub loop-x-preserved : goal.loop-x-preserved
loop-x-preserved c = still_sound (Starts c.args.empty) (plain_of c.args.program.now) _ c.loop-x.table _ _ _ (length c.args.program.now.nodes) (c.as_slice-nodes.ensures ∙ ap (λ (h : Held). h.nodes) c.program.view_is) c.as_slice.ensures c.in-Some.ensures c.set.ensures c.loop-x.invariant

pub returns : goal.returns
returns c = marks_made (Starts c.args.empty) (plain_of c.args.program.now) _ c.loop-x.table _ (c.as_slice-nodes.ensures ∙ ap (λ (h : Held). h.nodes) c.program.view_is) c.as_slice.ensures c.in_default.ensures c.loop-x.invariant
