use Rattle.std.proofs.Common.{◌≡◌, [], ◌++◌, sym, ap, ◌∙◌, slice_get, None}
use Rattle.std.specs.Option.{option_copied}
use Rattle.std.proofs.lemmas.List.{append-nil}
use Rattle.luo_model.specs.View.{Held, plain_of}
use Rattle.luo_equation.specs.Text.{definition_name}
use Rattle.luo_equation.proofs.TextLemmas.{no_definition}
use Rattle.luo_equation.proofs.text.put_definition.Goals as goal

pub returns-in_default : goal.returns-in_default
returns-in_default c =
    let none : slice_get c.args.program.now.defs c.args.i ≡ None =
    ap (λ (h : Held). slice_get h.defs c.args.i) (sym c.program.view_is) ∙ sym c.get.ensures.value ∙ ap option_copied c.in_default.is in
    sym (ap (λ n. c.args.text.now.items ++ n) (no_definition (plain_of c.args.program.now) c.args.i none) ∙ append-nil c.args.text.now.items)
