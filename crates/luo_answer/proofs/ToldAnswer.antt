-- From a program on, a command answers by an output or a refusal alone, and so do the words.
use Rattle.std.proofs.Common.{◌≡◌, ℕ, List, inl, inr, refl, Option, None, Some}
use Rattle.luo_answer.specs.declared.status.Status.{Status}
use Rattle.luo_answer.specs.Answer.{Answer, Refusal, Untold}
use Rattle.luo_model.specs.declared.table.Fill.{Fill}
use Rattle.luo_model.specs.declared.table.Fill.TheVariants.{All, Counts}
use Rattle.luo_model.specs.Program.{Program}
use Rattle.luo_model.specs.Tree.{Tree}
use Rattle.luo_read.specs.declared.answers.StructError.TheVariants as structure
use Rattle.luo_answer.specs.Commands.Audit.{few, audited}
use Rattle.luo_answer.specs.Commands.List.{type_of, counted}
use Rattle.luo_answer.specs.Commands.Run.{StructureRefusal, ChargeRefusal, procedure_of, parameter_node, structure_of, charge_of}
use Rattle.luo_answer.specs.FoundedRefusals.{FoundedRefusal}
use Rattle.luo_answer.specs.Overflows.{OverflowRefusal}
use Rattle.luo_answer.specs.Step.{Step, ◌and_then◌}
use Rattle.luo_answer.specs.Steps.{founded, sized, list_sized, workers_of, tables}
use Rattle.luo_answer.specs.Told.{ReadingRefusal}
use Rattle.luo_answer.specs.Commands.Analyse.{analyse_program}
use Rattle.luo_answer.specs.Commands.Audit.{audit_program}
use Rattle.luo_answer.specs.Commands.List.{list_named}
use Rattle.luo_answer.specs.Commands.Run.{run_named}
use Rattle.luo_answer.specs.Commands.Sample.{sample_of}
use Rattle.luo_answer.specs.Words.{Command, Analyse, Format, Run, Sample, WordsRefusal, Listing, Audit}

-- an answer that is no refusal is given by no step, but that a file isn't told
module _ (a : Answer) (no_refusal : (s : Status) (bytes : List ℕ) → a ≡ Refusal s bytes → ⊥) where
  -- two steps don't give it, where neither does
  pub tells_both : {X Y : Type 0} (first : Step X) (second : X → Step Y) → (first.refuses a → ⊥) → ((x : X) → (second x).refuses a → ⊥) → (first and_then second).refuses a → ⊥
  unfolding ◌and_then◌
  tells_both first second f s (inl u) = f u
  tells_both first second f s (inr (x, h, u)) = s x u

  pub reading-tells : (most : ℕ) (bytes : List ℕ) (o : Option (List ℕ)) → (o ≡ None → a ≡ Untold → ⊥) → ReadingRefusal most bytes o a → ⊥
  reading-tells most bytes None n u = n refl u
  reading-tells most bytes (Some text) n u = no_refusal _ _ u.1

  founded-tells : (p : Program) → FoundedRefusal p a → ⊥
  founded-tells p (e, h, u) = no_refusal _ _ u

  overflow-tells : (p : Program) (fill : Fill) (n : ℕ) → OverflowRefusal p fill n a → ⊥
  overflow-tells p fill n (entry, m, h, u) = no_refusal _ _ u

  structure-tells : (p : Program) (x : ℕ) (text : List ℕ) → StructureRefusal p x text a → ⊥
  structure-tells p x text (structure.Long n, h, u) = no_refusal _ _ u
  structure-tells p x text (structure.S1 k, h, u) = no_refusal _ _ u
  structure-tells p x text (structure.Deep k, h, u) = no_refusal _ _ u
  structure-tells p x text (structure.S2, h, u) = no_refusal _ _ u
  structure-tells p x text (structure.S3 n, h, u) = no_refusal _ _ u
  structure-tells p x text (structure.NoMemory, h, u) = absurd h

  charge-tells : (p : Program) (f : ℕ) (t : Tree) → ChargeRefusal p f t a → ⊥
  charge-tells p f t (q, h, l, u) = no_refusal _ _ u

  -- from the program on
  pub analyse-tells : (n : ℕ) (p : Program) → (analyse_program n p).refuses a → ⊥
  analyse-tells n p = tells_both (founded p) _ (founded-tells p) (λ _. tells_both (sized n) _ (λ u. no_refusal _ _ u.1) (λ m. tells_both (tables All p m) _ (overflow-tells p All m) (λ _ r. r)))

  pub run-tells : (procedure structure : List ℕ) (p : Program) → (run_named procedure structure p).refuses a → ⊥
  run-tells procedure structure p =
      tells_both (founded p) _ (founded-tells p) (λ _. tells_both (procedure_of p procedure) _ (λ u. no_refusal _ _ u.1) (λ f.
      tells_both (structure_of p (parameter_node p f) structure) _ (structure-tells p (parameter_node p f) structure) (λ t. tells_both (charge_of p f t) _ (charge-tells p f t) (λ q r. r))))

  pub sample-tells : (number bytes n : ℕ) (p : Program) → (sample_of number bytes n p).refuses a → ⊥
  sample-tells number bytes n p = tells_both (founded p) _ (founded-tells p) (λ _. tells_both (tables All p n) _ (overflow-tells p All n) (λ _ r. r))

  pub list-tells : (name : List ℕ) (n start k : ℕ) (p : Program) → (list_named name n start k p).refuses a → ⊥
  list-tells name n start k p =
      tells_both (founded p) _ (founded-tells p) (λ _. tells_both (type_of p name) _ (λ u. no_refusal _ _ u.1) (λ x.
      tells_both (list_sized n) _ (λ u. no_refusal _ _ u.1) (λ m. tells_both (counted k) _ (λ u. no_refusal _ _ u.1) (λ j. tells_both (tables Counts p m) _ (overflow-tells p Counts m) (λ _ r. r)))))

  pub audit-tells : (n w : ℕ) (p : Program) → (audit_program n w p).refuses a → ⊥
  audit-tells n w p =
      tells_both (founded p) _ (founded-tells p) (λ _. tells_both (list_sized n) _ (λ u. no_refusal _ _ u.1) (λ m.
      tells_both (workers_of w) _ (λ u. no_refusal _ _ u.1) (λ _. tells_both (tables Counts p m) _ (overflow-tells p Counts m) (λ _. tells_both (few p m) _ (λ u. no_refusal _ _ u.1) (λ _.
      tells_both (audited p m) _ (λ u. no_refusal _ _ u.4) (λ _ r. r))))))

  pub words-tell : (o : Option Command) → WordsRefusal o a → ⊥
  words-tell None e = no_refusal _ _ e
  words-tell (Some (Analyse file n)) w = w
  words-tell (Some (Format file)) w = w
  words-tell (Some (Run file procedure structure)) w = w
  words-tell (Some (Sample number n)) (inl w) = no_refusal _ _ w.1
  words-tell (Some (Sample number n)) (inr w) = no_refusal _ _ w.1.1
  words-tell (Some (Listing file name n start k)) w = w
  words-tell (Some (Audit file n workers)) w = w
