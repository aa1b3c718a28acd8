-- From a program on there is at most one answer to a command, and so there is to the words alone.
use Rattle.std.proofs.Common.{◌≡◌, ℕ, List, refl, sym, ap, ◌∙◌, Option, None, Some}
use Rattle.luo_finite.specs.Steps.{IsSingle}
use Rattle.luo_finite.proofs.Steps.{or_else-single}
use Rattle.luo_model.specs.declared.table.Fill.{Fill}
use Rattle.luo_model.specs.declared.table.Fill.TheVariants.{All, Counts}
use Rattle.luo_model.specs.Program.{Program}
use Rattle.luo_model.specs.Invariant.{IsProgram}
use Rattle.luo_model.specs.Tree.{Tree}
use Rattle.luo_model.proofs.ChargeLemmas.{charges_one}
use Rattle.luo_answer.proofs.OneText.{refusal_one, reads_one}
use Rattle.luo_model.specs.Founded.{IsFounded}
use Rattle.luo_model.proofs.TableLemmas.{totals_are_single}
use Rattle.luo_model.proofs.WorkLemmas.{sites_are_apart}
use Rattle.luo_engine.proofs.FirstOver.{first_over_is_one}
use Rattle.luo_answer.specs.declared.status.Status.TheVariants.{Refused, Overflow}
use Rattle.luo_answer.specs.Answer.{Refusal}
use Rattle.luo_answer.specs.Commands.Analyse.{report}
use Rattle.luo_answer.specs.Commands.Audit.{few, audited}
use Rattle.luo_answer.specs.Commands.List.{type_of, counted}
use Rattle.luo_answer.specs.Commands.Run.{procedure_of, parameter_node, structure_of, charge_of}
use Rattle.luo_answer.specs.Commands.Sample.{summary}
use Rattle.luo_founded.proofs.OneAnswer.{first_once}
use Rattle.luo_answer.specs.FoundedRefusals.{founded_line, FoundedRefusal}
use Rattle.luo_answer.specs.Overflows.{overflow_line, OverflowRefusal}
use Rattle.luo_answer.specs.Steps.{founded, sized, list_sized, workers_of, tables}
use Rattle.luo_answer.specs.Told.{Told, ReadingRefusal, reading}
use Rattle.luo_answer.specs.Commands.Analyse.{analyse_program}
use Rattle.luo_answer.specs.Commands.Audit.{audit_program}
use Rattle.luo_answer.specs.Commands.List.{list_named}
use Rattle.luo_answer.specs.Commands.Run.{run_named}
use Rattle.luo_answer.specs.Commands.Sample.{sample_of}
use Rattle.luo_answer.specs.Words.{Command, Analyse, Format, Run, Sample, command_of, WordsRefusal, asked_by, Listing, Audit}
use Rattle.luo_answer.specs.WordRefusals.{refusal_of_structure}
use Rattle.luo_answer.proofs.AuditLemmas.{audit_refusal_one}
use Rattle.luo_answer.proofs.ListLemmas.{type_single, list_text_single}
use Rattle.luo_answer.proofs.RunLemmas.{named_single, taken, run_text_single}
use Rattle.luo_answer.proofs.SoleSteps.{IsSole, or_makes-sole, and_then-sole, makes-sole, refused-single}
use Rattle.luo_answer.proofs.OneReport.{reports_one}
use Rattle.luo_answer.proofs.Summaries.{summary_one}

some_one : {A : Type 0} (o : Option A) → IsSingle (λ (x : A). o ≡ Some x)
some_one None x y p q = absurd (none_some x p)
  where
    none_some : {A : Type 0} (x : A) → None ≡ Some x → ⊥
    none_some x e = cc
some_one (Some z) x y p q = same x y (sym p ∙ q)
  where
    same : {A : Type 0} (x y : A) → Some x ≡ Some y → x ≡ y
    same x y e = cc

reading-refusal : (most : ℕ) (bytes : List ℕ) (o : Option (List ℕ)) → IsSingle (ReadingRefusal most bytes o)
reading-refusal most bytes None a b p q = p ∙ sym q
reading-refusal most bytes (Some text) a b p q = p.1 ∙ sym q.1

pub reading-sole : (most : ℕ) (bytes file : List ℕ) (told : Told) → IsSole (reading most bytes file told)
reading-sole most bytes file told = or_makes-sole _ _ (reading-refusal most bytes (told file)) (λ none. some_one (told file))

founded-single : (p : Program) → IsSingle (FoundedRefusal p)
founded-single p a b (d, h, e) (c, k, g) = e ∙ ap (λ x. Refusal Refused (founded_line p x)) (first_once p d c h k) ∙ sym g

founded-sole : (p : Program) → IsSole (founded p)
founded-sole p = or_makes-sole _ _ (founded-single p) (λ none x y _ _. refl)

sized-sole : (n : ℕ) → IsSole (sized n)
sized-sole n = or_makes-sole _ _ (refused-single _ _ _) (λ none x y e d. e ∙ sym d)

overflow-single : (fill : Fill) (p : Program) (n : ℕ) → IsProgram p → IsFounded p → IsSingle (OverflowRefusal p fill n)
overflow-single fill p n q f a b (x, k, h, e) (y, m, g, d) =
    let same = first_over_is_one p q f n fill x y k m h g in
    e ∙ (λ i. Refusal Overflow (overflow_line p (same.0 i) (same.1 i))) ∙ sym d

tables-sole : (fill : Fill) (p : Program) (n : ℕ) → IsProgram p → IsFounded p → IsSole (tables fill p n)
tables-sole fill p n q f = or_makes-sole _ _ (overflow-single fill p n q f) (λ none x y _ _. refl)

report-sole : (p : Program) (n : ℕ) → IsProgram p → IsSole (report p n)
report-sole p n q = makes-sole _ (reports_one p (totals_are_single p (sites_are_apart p q)) n)

summary-sole : (number bytes : ℕ) (p : Program) (n : ℕ) → IsProgram p → IsSole (summary number bytes p n)
summary-sole number bytes p n q = makes-sole _ (summary_one p n number bytes q)

procedure-sole : (p : Program) (name : List ℕ) → IsProgram p → IsSole (procedure_of p name)
procedure-sole p name q = or_makes-sole _ _ (refused-single _ _ _) (λ none. named_single p q name)

structure-sole : (p : Program) (x : ℕ) (text : List ℕ) → IsProgram p → IsSole (structure_of p x text)
structure-sole p x text q =
    or_makes-sole _ _ (λ a b (d, h, e) (c, k, g). e ∙ ap refusal_of_structure (refusal_one p q x text d c h k) ∙ sym g) (λ none. reads_one p q x text)

charge-sole : (p : Program) (f : ℕ) (t : Tree) → IsSole (charge_of p f t)
charge-sole p f t = or_makes-sole _ _ (λ a b (m, h, l, e) (n, k, o, d). e ∙ sym d) (λ none. charges_one p f t)

type-sole : (p : Program) (name : List ℕ) → IsProgram p → IsSole (type_of p name)
type-sole p name q = or_makes-sole _ _ (refused-single _ _ _) (λ none. type_single p q name)

list_sized-sole : (n : ℕ) → IsSole (list_sized n)
list_sized-sole n = or_makes-sole _ _ (refused-single _ _ _) (λ none x y e d. e ∙ sym d)

counted-sole : (k : ℕ) → IsSole (counted k)
counted-sole k = or_makes-sole _ _ (refused-single _ _ _) (λ none x y e d. e ∙ sym d)

workers-sole : (w : ℕ) → IsSole (workers_of w)
workers-sole w = or_makes-sole _ _ (refused-single _ _ _) (λ none x y e d. e ∙ sym d)

few-sole : (p : Program) (n : ℕ) → IsSole (few p n)
few-sole p n = or_makes-sole _ _ (refused-single _ _ _) (λ none x y _ _. refl)

audited-sole : (p : Program) (n : ℕ) → IsSole (audited p n)
audited-sole p n = or_makes-sole _ _ (audit_refusal_one p n) (λ none x y _ _. refl)

-- from the program on
pub analyse-sole : (n : ℕ) (p : Program) → IsProgram p → IsSole (analyse_program n p)
analyse-sole n p is =
    and_then-sole _ _ (founded-sole p) (λ _ k. and_then-sole _ _ (sized-sole n) (λ m _. and_then-sole _ _ (tables-sole All p m is k.1) (λ _ _. report-sole p m is)))

pub run-sole : (procedure structure : List ℕ) (p : Program) → IsProgram p → IsSole (run_named procedure structure p)
run-sole procedure structure p is =
    and_then-sole _ _ (founded-sole p) (λ _ k. and_then-sole _ _ (procedure-sole p procedure is) (λ f n. and_then-sole _ _ (structure-sole p (parameter_node p f) structure is) (λ t r.
    and_then-sole _ _ (charge-sole p f t) (λ q _. makes-sole _ (run_text_single p is k.1 f t (taken p f (n.1.0, n.1.1) structure t r.1) q)))))

pub sample-sole : (number bytes n : ℕ) (p : Program) → IsProgram p → IsSole (sample_of number bytes n p)
sample-sole number bytes n p is = and_then-sole _ _ (founded-sole p) (λ _ k. and_then-sole _ _ (tables-sole All p n is k.1) (λ _ _. summary-sole number bytes p n is))

pub list-sole : (name : List ℕ) (n start k : ℕ) (p : Program) → IsProgram p → IsSole (list_named name n start k p)
list-sole name n start k p is =
    and_then-sole _ _ (founded-sole p) (λ _ f. and_then-sole _ _ (type-sole p name is) (λ x _. and_then-sole _ _ (list_sized-sole n) (λ m _. and_then-sole _ _ (counted-sole k) (λ j _.
    and_then-sole _ _ (tables-sole Counts p m is f.1) (λ _ _. makes-sole _ (list_text_single p x m start j))))))

pub audit-sole : (n w : ℕ) (p : Program) → IsProgram p → IsSole (audit_program n w p)
audit-sole n w p is =
    and_then-sole _ _ (founded-sole p) (λ _ f. and_then-sole _ _ (list_sized-sole n) (λ m _. and_then-sole _ _ (workers-sole w) (λ _ _. and_then-sole _ _ (tables-sole Counts p m is f.1) (λ _ _.
    and_then-sole _ _ (few-sole p m) (λ _ _. and_then-sole _ _ (audited-sole p m) (λ _ _. report-sole p m is))))))

pub words-single : (o : Option Command) → IsSingle (WordsRefusal o)
words-single None a b p q = p ∙ sym q
words-single (Some (Analyse file n)) a b p q = absurd p
words-single (Some (Format file)) a b p q = absurd p
words-single (Some (Run file procedure structure)) a b p q = absurd p
words-single (Some (Sample number n)) a b p q = or_else-single _ _ (refused-single _ _ _) (refused-single _ _ _) a b p q
words-single (Some (Listing file name n start k)) a b p q = absurd p
words-single (Some (Audit file n w)) a b p q = absurd p

pub asked-sole : (words : List (List ℕ)) → IsSole (asked_by words)
asked-sole words = or_makes-sole _ _ (words-single (command_of words)) (λ none. some_one (command_of words))
