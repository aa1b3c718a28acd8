use Rattle.std.proofs.Common.{ap, ◌∙◌, arith}
use Rattle.std.proofs.lemmas.List.{with_items_is}
use Rattle.luo_model.specs.Tree.{labels_of}
use Rattle.luo_struct.specs.View.{tree_of}
use Rattle.luo_read.specs.inner.Marks.{mark_all}
use Rattle.luo_read.proofs.MarkLemmas.{fresh_marks, marked_so}
use Rattle.luo_read.proofs.marking.has_each_label.Goals as goal

pub returns : goal.returns
returns c =
    marked_so (tree_of c.args.s.now) c.args.count c.resize.new.self.items c.deref.result.now c.are_marked.result
    (fresh_marks c.args.count _ c.new-marks.result.items c.resize.new.self.items c.in_ok-resize.ensures.items c.new-marks.ensures.items c.new-marks.ensures.len)
    (c.deref.ensures.value ∙ with_items_is c.resize.new.self c.mark_labels.new.marks (omega (arith, c.mark_labels.auto.marks, c.deref_mut.ensures.len))
    ∙ c.mark_labels.ensures ∙ ap (λ z. mark_all z (labels_of (tree_of c.args.s.now))) c.deref_mut.ensures.value)
    c.are_marked.ensures
