use Rattle.std.proofs.Common.{◌++◌, List, ℕ, ap, ◌∙◌, codes}
use Rattle.rand_pcg.specs.Lcg.{Lcg}
use Rattle.luo_model.specs.declared.program.Universe.{Universe}
use Rattle.luo_print.specs.Canonical.{universe_line}
use Rattle.luo_sample.specs.Text.{type_line, proc_lines, analyze_line, numbered}
use Rattle.luo_sample.specs.Number.{choice_at, universe_of, word, seeded, behind}
use Rattle.luo_sample.proofs.making.sample.Goals as goal

pub returns : goal.returns
returns c =
    let u : Universe = universe_of (word (seeded c.args.number)) in
    let g : Lcg = behind (seeded c.args.number) in
    let first = c.in_ok-extend_from_slice.ensures.items ∙ (ap (λ (z : List ℕ). z ++ c.first_line.result.now) c.new-text.ensures.items ∙ (c.first_line.ensures ∙ ap universe_line c.begin-universe.ensures.universe)) in
    let second = c.in_ok-extend_from_slice-2.ensures.items ∙ ap (λ (z : List ℕ). z ++ codes "type z = atom(1);\n") first in
    let types = ap (λ (v : Universe). numbered (λ i. type_line v i (choice_at c.begin-universe.result.1 i)) 0 20) c.begin-universe.ensures.universe ∙ ap (λ (h : Lcg). numbered (λ i. type_line u i (choice_at h i)) 0 20) c.begin-universe.ensures.words in
    let third = c.in_ok-put_types.ensures ∙ (ap (λ (z : List ℕ). c.extend_from_slice-2.new.self.items ++ z) types ∙ ap (λ (z : List ℕ). z ++ numbered (λ i. type_line u i (choice_at g i)) 0 20) second) in
    let fourth = c.in_ok-extend_from_slice-3.ensures.items ∙ ap (λ (z : List ℕ). z ++ codes "measure unit : 1;\n") third in
    let procs = ap (λ (h : Lcg). numbered (λ i. proc_lines i (choice_at h i)) 0 20) c.begin-for_procs.ensures.words in
    let fifth = c.in_ok-put_procs.ensures ∙ (ap (λ (z : List ℕ). c.extend_from_slice-3.new.self.items ++ z) procs ∙ ap (λ (z : List ℕ). z ++ numbered (λ i. proc_lines i (choice_at g i)) 0 20) fourth) in
    c.in_ok-put_analyses.ensures ∙ ap (λ (z : List ℕ). z ++ numbered analyze_line 0 8) fifth
