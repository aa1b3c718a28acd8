use Rattle.std.proofs.Common.{◌≡◌, [], ◌++◌, sym, ap, ◌∙◌, slice_get, None}
use Rattle.std.specs.Option.{option_copied}
use Rattle.std.proofs.lemmas.List.{append-nil}
use Rattle.luo_model.specs.View.{Held, plain_of}
use Rattle.luo_equation.specs.Text.{procedure_name}
use Rattle.luo_equation.proofs.TextLemmas.{no_procedure_name}
use Rattle.luo_equation.proofs.text.put_procedure.Goals as goal

pub returns-in_default : goal.returns-in_default
returns-in_default c =
    let none : slice_get c.args.program.now.procs c.args.f ≡ None =
    ap (λ (h : Held). slice_get h.procs c.args.f) (sym c.program.view_is) ∙ sym c.get.ensures.value ∙ ap option_copied c.in_default.is in
    sym (ap (λ n. c.args.text.now.items ++ n) (no_procedure_name c.args.program.now c.args.f none) ∙ append-nil c.args.text.now.items)
