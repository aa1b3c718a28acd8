-- From a program on there is an answer to a command, and so there is to the words alone: where nothing refuses, something is handed on.
use Rattle.std.proofs.Common.{◌≡◌, ℕ, List, refl, inl, inr, Option, None, Some}
use Rattle.luo_model.specs.Program.{Program}
use Rattle.luo_model.specs.declared.table.Fill.{Fill}
use Rattle.luo_model.specs.declared.table.Fill.TheVariants.{All, Counts}
use Rattle.luo_model.specs.Invariant.{IsProgram}
use Rattle.luo_model.specs.Founded.{IsFounded}
use Rattle.luo_model.specs.Tree.{Tree}
use Rattle.luo_engine.proofs.FirstOver.{none_or_first}
use Rattle.luo_founded.proofs.Charged.{one_charge}
use Rattle.luo_founded.proofs.SomeAnswer.{founded_or_first}
use Rattle.luo_interp.specs.Takes.{Takes}
use Rattle.luo_answer.proofs.SomeText.{read_or_refused}
use Rattle.luo_answer.specs.Answer.{Answer, Output, Untold}
use Rattle.luo_answer.specs.Commands.List.{type_of}
use Rattle.luo_answer.specs.Commands.Run.{procedure_of, parameter_node, structure_of, charge_of}
use Rattle.luo_answer.specs.Step.{Step, HasNone, ◌or_makes◌, ◌and_then◌, ends}
use Rattle.luo_answer.specs.Steps.{founded, tables}
use Rattle.luo_answer.specs.Told.{Told, ReadingRefusal, reading}
use Rattle.luo_answer.specs.Commands.Analyse.{analyse_program}
use Rattle.luo_answer.specs.Commands.Audit.{audit_program}
use Rattle.luo_answer.specs.Commands.List.{list_named}
use Rattle.luo_answer.specs.Commands.Run.{run_named}
use Rattle.luo_answer.specs.Commands.Sample.{sample_of}
use Rattle.luo_answer.specs.Words.{Command, command_of, WordsRefusal, asked_by}
use Rattle.luo_answer.proofs.ListLemmas.{ordered_listing}
use Rattle.luo_answer.proofs.ReportComes.{report_comes}
use Rattle.luo_answer.proofs.RunLemmas.{taken, run_text_comes}
use Rattle.luo_answer.proofs.Summaries.{summary_comes}

-- where nothing refuses, something is handed on
abbrev pub GoesOn : {X : Type 0} → Step X → Type 0
GoesOn {X} step = HasNone step.refuses → ((x : X) → step.hands x → ⊥) → ⊥

pub or_makes-goes_on : {X : Type 0} (refuses : Answer → Type 0) (made : X → Type 0) → (HasNone refuses → ((x : X) → made x → ⊥) → ⊥) → GoesOn (refuses or_makes made)
or_makes-goes_on refuses made m none nothing = m none (λ x h. nothing x (none, h))

pub and_then-goes_on : {X Y : Type 0} (first : Step X) (second : X → Step Y) → GoesOn first → ((x : X) → first.hands x → GoesOn (second x)) → GoesOn (first and_then second)
unfolding ◌and_then◌
and_then-goes_on first second f s none nothing = f (λ a r. none a (inl r)) (λ x h. s x h (λ a r. none a (inr (x, h, r))) (λ y k. nothing y (x, h, k)))

pub ends-comes : (step : Step (List ℕ)) → GoesOn step → HasNone (ends step) → ⊥
ends-comes step g none = g (λ a r. none a (inl r)) (λ bytes h. none (Output bytes) (inr (bytes, h, refl)))

pub reading-goes_on : (most : ℕ) (bytes file : List ℕ) (told : Told) → GoesOn (reading most bytes file told)
reading-goes_on most bytes file told = or_makes-goes_on _ _ (by (told file))
  where
    by : (o : Option (List ℕ)) → HasNone (ReadingRefusal most bytes o) → ((text : List ℕ) → o ≡ Some text → ⊥) → ⊥
    by None none nothing = none Untold refl
    by (Some text) none nothing = nothing text refl

founded-goes_on : (p : Program) → GoesOn (founded p)
founded-goes_on p = or_makes-goes_on _ _ (λ none nothing. founded_or_first p (λ e b. none _ (e, b, refl)) (λ f. nothing tt f))

tables-goes_on : (fill : Fill) (p : Program) (n : ℕ) → IsProgram p → IsFounded p → GoesOn (tables fill p n)
tables-goes_on fill p n q f = or_makes-goes_on _ _ (λ none nothing. nothing tt (none_or_first p q f n fill (λ entry m x. none _ (entry, m, x, refl))))

procedure-goes_on : (p : Program) (name : List ℕ) → GoesOn (procedure_of p name)
procedure-goes_on p name = or_makes-goes_on _ _ (λ none nothing. none _ (nothing, refl))

structure-goes_on : (p : Program) (x : ℕ) (text : List ℕ) → GoesOn (structure_of p x text)
structure-goes_on p x text = or_makes-goes_on _ _ (λ none nothing. read_or_refused p x text (λ e r. none _ (e, r, refl)) nothing)

charge-goes_on : (p : Program) (f : ℕ) (t : Tree) → IsProgram p → IsFounded p → Takes p f t → GoesOn (charge_of p f t)
charge-goes_on p f t q founded (P, there, member) = or_makes-goes_on _ _ (λ none nothing. let c = one_charge p q founded.no_endless f P there t member in nothing c.0 c.1)

type-goes_on : (p : Program) (name : List ℕ) → GoesOn (type_of p name)
type-goes_on p name = or_makes-goes_on _ _ (λ none nothing. none _ (nothing, refl))

-- from the program on
pub analyse-goes_on : (n : ℕ) (p : Program) → IsProgram p → GoesOn (analyse_program n p)
analyse-goes_on n p is =
    and_then-goes_on _ _ (founded-goes_on p) (λ _ k. and_then-goes_on _ _ (or_makes-goes_on _ _ (λ none nothing. nothing n refl)) (λ m l.
    and_then-goes_on _ _ (tables-goes_on All p m is k.1) (λ _ t. or_makes-goes_on _ _ (λ none nothing. let r = report_comes p is k.1 m in nothing r.0 r.1))))

pub run-goes_on : (procedure structure : List ℕ) (p : Program) → IsProgram p → GoesOn (run_named procedure structure p)
run-goes_on procedure structure p is =
    and_then-goes_on _ _ (founded-goes_on p) (λ _ k. and_then-goes_on _ _ (procedure-goes_on p procedure) (λ f n. and_then-goes_on _ _ (structure-goes_on p (parameter_node p f) structure) (λ t r.
    let takes = taken p f (n.1.0, n.1.1) structure t r.1 in
    and_then-goes_on _ _ (charge-goes_on p f t is k.1 takes) (λ q _. or_makes-goes_on _ _ (λ none nothing. let b = run_text_comes p is k.1 f t takes q in nothing b.0 b.1)))))

pub sample-goes_on : (number bytes n : ℕ) (p : Program) → IsProgram p → GoesOn (sample_of number bytes n p)
sample-goes_on number bytes n p is =
    and_then-goes_on _ _ (founded-goes_on p) (λ _ k. and_then-goes_on _ _ (tables-goes_on All p n is k.1) (λ _ t. or_makes-goes_on _ _ (λ none nothing. let b = summary_comes p n number bytes is k.1 in nothing b.0 b.1)))

pub list-goes_on : (name : List ℕ) (n start k : ℕ) (p : Program) → IsProgram p → GoesOn (list_named name n start k p)
list-goes_on name n start j p is =
    and_then-goes_on _ _ (founded-goes_on p) (λ _ k. and_then-goes_on _ _ (type-goes_on p name) (λ x _. and_then-goes_on _ _ (or_makes-goes_on _ _ (λ none nothing. nothing n refl)) (λ m _.
    and_then-goes_on _ _ (or_makes-goes_on _ _ (λ none nothing. nothing j refl)) (λ i _. and_then-goes_on _ _ (tables-goes_on Counts p m is k.1) (λ _ _. or_makes-goes_on _ _ (λ none nothing.
    let l = ordered_listing p is k.1 x m in nothing _ (l.0, l.1, refl)))))))

pub audit-goes_on : (n w : ℕ) (p : Program) → IsProgram p → GoesOn (audit_program n w p)
audit-goes_on n w p is =
    and_then-goes_on _ _ (founded-goes_on p) (λ _ k. and_then-goes_on _ _ (or_makes-goes_on _ _ (λ none nothing. nothing n refl)) (λ m _.
    and_then-goes_on _ _ (or_makes-goes_on _ _ (λ none nothing. nothing w refl)) (λ _ _. and_then-goes_on _ _ (tables-goes_on Counts p m is k.1) (λ _ _.
    and_then-goes_on _ _ (or_makes-goes_on _ _ (λ none nothing. nothing tt tt)) (λ _ _. and_then-goes_on _ _ (or_makes-goes_on _ _ (λ none nothing. nothing tt tt)) (λ _ _.
    or_makes-goes_on _ _ (λ none nothing. let r = report_comes p is k.1 m in nothing r.0 r.1)))))))

pub asked-goes_on : (words : List (List ℕ)) → GoesOn (asked_by words)
asked-goes_on words = or_makes-goes_on _ _ (by (command_of words))
  where
    by : (o : Option Command) → HasNone (WordsRefusal o) → ((c : Command) → o ≡ Some c → ⊥) → ⊥
    by None none nothing = none _ refl
    by (Some c) none nothing = nothing c refl
