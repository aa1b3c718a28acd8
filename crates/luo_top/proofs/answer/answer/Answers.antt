use Rattle.std.proofs.Common.{◌∙◌, ap, subst, inr, Some}
use Rattle.luo_answer.specs.Step.{HasNone}
use Rattle.luo_answer.specs.Words.{Command, Sample, Listing, LimitOfWords}
use Rattle.luo_answer.proofs.AskedLemmas.{sample_within}
use Rattle.luo_answer.proofs.StepLemmas.{no_file}
use Rattle.luo_top.specs.Commands.Sample.{sample}
use Rattle.luo_top.proofs.answer.answer.Goals as goal

pub sample_summary-requires-clause-number : goal.sample_summary-requires-clause-number
sample_summary-requires-clause-number g c =
    let asked = rw c.in-Sample.is at c.in_ok-request.ensures in
    (sample_within asked.0 c.in-Sample.number c.in-Sample.last asked.2 asked.3).number_within

pub sample_summary-requires-clause-size : goal.sample_summary-requires-clause-size
sample_summary-requires-clause-size g c =
    let asked = rw c.in-Sample.is at c.in_ok-request.ensures in
    (sample_within asked.0 c.in-Sample.number c.in-Sample.last asked.2 asked.3).size_within

pub returns-in-Sample : goal.returns-in-Sample
returns-in-Sample g c =
    let asked = rw c.in-Sample.is at c.in_ok-request.ensures in
    let same = (sample_within asked.0 c.in-Sample.number c.in-Sample.last asked.2 asked.3).same in
    inr (Sample c.in-Sample.number c.in-Sample.last, asked.1 ∙ ap Some same, subst (λ (x : Command). HasNone (LimitOfWords x)) same asked.2, no_file {step = sample c.in-Sample.number c.in-Sample.last} c.sample_summary.ensures)

pub returns-in-Listing : goal.returns-in-Listing
returns-in-Listing g c =
    let asked = rw c.in-Listing.is at c.in_ok-request.ensures in
    let h = asked.3 in
    inr (Listing c.in-Listing.file.now c.in-Listing.name.now h.0 h.1 h.2, asked.1 ∙ ap Some h.3, subst (λ (x : Command). HasNone (LimitOfWords x)) h.3 asked.2, c.list_structures.ensures h.0 h.1 h.2 h.4 h.5 h.6)
