use Rattle.std.proofs.Common.{ap, ◌∙◌}
use Rattle.luo_model.specs.View.{Held, plain_of}
use Rattle.luo_report.specs.Report.{universe_text}
use Rattle.luo_report.proofs.Sections.{report_done}
use Rattle.luo_report.proofs.text.put_report.Goals as goal

pub returns : goal.returns
returns c =
    report_done (plain_of c.args.program.now) c.args.equations.now c.args.tables.now c.args.text.now.items c.extend_from_slice.new.self.items c.put_equations.new.text.items c.put_tables.new.text.items c.universe_line.result.now
    (c.universe_line.ensures ∙ ap (λ (h : Held). universe_text h.universe) c.program.view_is) c.in_ok-extend_from_slice.ensures.items c.in_ok-put_equations.ensures c.in_ok-put_tables.ensures
