use Rattle.std.proofs.Common.{◌≡◌, ap, ◌∙◌, subst, map}
use Rattle.luo_model.specs.View.{Held, plain_of}
use Rattle.luo_model.specs.Founded.{IsFounded}
use Rattle.luo_equation.specs.View.{equation_of}
use Rattle.luo_equation.specs.Expr as series
use Rattle.luo_report.specs.Report.{report_text}
use Rattle.luo_system.specs.System.{system}
use Rattle.luo_system.specs.Holding.{IsTableOf}
use Rattle.luo_answer.proofs.StepLemmas.{made}
use Rattle.luo_answer.proofs.steps.reporting.reported.Goals as goal

pub returns : goal.returns
returns c =
    let p = plain_of c.args.program.now in
    let founded : IsFounded p = subst (λ (h : Held). IsFounded (plain_of h)) c.requires.ranks c.program-founded.ensures.founded in
    let equations : map equation_of c.deref.result.now ≡ system p = ap (map equation_of) c.deref.ensures.value ∙ c.in_ok-equations.ensures.equations in
    made _ _ (
      subst (λ es. (numbers : series.Table) × IsTableOf p es numbers) c.in_ok-equations.ensures.equations (c.in_ok-equations.ensures.table founded),
      (c.args.tables.now, c.requires.right, c.from_vec.ensures ∙ c.in_ok-text.ensures ∙ ap (λ es. report_text p es c.args.tables.now) equations),
    )
