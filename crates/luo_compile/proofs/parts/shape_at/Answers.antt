use Rattle.std.proofs.Common.{sym, ap, ◌∙◌, slice_get}
use Rattle.luo_model.specs.View.{Held, plain_of}
use Rattle.luo_compile.proofs.BodyLemmas.{no_shape}
use Rattle.luo_compile.proofs.parts.shape_at.Goals as goal

pub returns-in-None-clause-none : goal.returns-in-None-clause-none
returns-in-None-clause-none c = no_shape (plain_of c.args.program.now) c.args.x (sym (ap (λ (h : Held). slice_get h.nodes c.args.x) c.program.view_is) ∙ sym c.in-None.ensures.value)
