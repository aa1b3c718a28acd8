use Rattle.std.proofs.Common.{◌≡◌, [], ◌++◌, sym, ap, ◌∙◌, slice_get, None}
use Rattle.std.specs.Option.{option_copied}
use Rattle.std.proofs.lemmas.List.{append-nil}
use Rattle.luo_model.specs.View.{Held, plain_of}
use Rattle.luo_report.specs.Report.{name_of}
use Rattle.luo_report.proofs.Sections.{no_name}
use Rattle.luo_report.proofs.text.put_name.Goals as goal

pub returns-in_default-get : goal.returns-in_default-get
returns-in_default-get c =
    let none : slice_get c.args.program.now.defs c.in-Some.at ≡ None =
    ap (λ (h : Held). slice_get h.defs c.in-Some.at) (sym c.program.view_is) ∙ sym c.get.ensures.value ∙ ap option_copied c.in_default-get.is in
    let unnamed : name_of (plain_of c.args.program.now) c.args.name ≡ [] = ap (name_of (plain_of c.args.program.now)) c.in-Some.is ∙ no_name (plain_of c.args.program.now) c.in-Some.at none in
    sym (ap (λ n. c.args.text.now.items ++ n) unnamed ∙ append-nil c.args.text.now.items)
