-- The program of a file or of a text has what holds of every program.
use Rattle.std.proofs.Common.{◌≡◌, ℕ, ◌<◌, ◌≤◌, List, [], ◌∷◌, refl, sym, subst, ◌∙◌, arith, inl, inr, ⊎_elim}
use Rattle.std.specs.Prelude.{◌⊎◌}
use Rattle.luo_model.specs.Program.{Program}
use Rattle.luo_model.specs.Invariant.{IsProgram}
use Rattle.luo_scan.specs.declared.token.Token.{Token}
use Rattle.luo_scan.specs.Tokens.{Tokens}
use Rattle.luo_source.specs.Plain.Source.{Source}
use Rattle.luo_rules.specs.declared.error.CountLimit.{CountLimit}
use Rattle.luo_rules.specs.Checks.{IsSource}
use Rattle.luo_rules.specs.Counted.{limits_passed}
use Rattle.luo_rules.specs.Whole.{core, walk_count}
use Rattle.luo_rules.proofs.CoreIsProgram.{core_is_program}
use Rattle.luo_answer.specs.Step.{◌and_then◌}
use Rattle.luo_answer.specs.Told.{Told}
use Rattle.luo_top.specs.Commands.Sample.{text_program}
use Rattle.luo_top.specs.Steps.{IsRead, core_of, file_program}

core_is : (text : List ℕ) (ts : List Token) (s : Source) (p : Program) → Tokens text ts → IsRead text ts s → (core_of text ts s).hands p → IsProgram p
core_is text ts s p scanned d (none, c) =
    let source : IsSource s = record { text = text; tokens = ts; read = d.0; scanned = scanned; derived = d.1; shown = d.2 } in
    subst IsProgram (sym c.1) (core_is_program s source (within (limits_passed s) refl) c.0 (walks (walk_count (core s)) refl))
  where
    within : (ws : List CountLimit) → limits_passed s ≡ ws → limits_passed s ≡ []
    within [] e = e
    within (w ∷ ws) e = absurd (none _ (inl (w, (ws, e), refl)))

    head : {A : Type 0} (x : A) (xs : List A) → [] ≡ x ∷ xs → ⊥
    head x xs e = cc

    walks : (n : ℕ) → walk_count (core s) ≡ n → walk_count (core s) ≤ 32
    walks n e = ⊎_elim (λ (a : walk_count (core s) ≤ 32). a)
        (λ (a : 32 < walk_count (core s)). absurd (none _ (inr ((λ other (which, p, q). head which p.0 (sym (within (limits_passed s) refl) ∙ p.1)), inr ((λ other (b, p, q). head b p.0 (sym c.0 ∙ p.1)), ((c.0, a), refl)))))) (cases (walk_count (core s)) 32)
      where
        cases : (m n : ℕ) → (m ≤ n) ⊎ (n < m)
        cases m n = grind arith

pub program_is : (file : List ℕ) (told : Told) (p : Program) → (file_program file told).hands p → IsProgram p
unfolding ◌and_then◌
program_is file told p (text, h, (ts, t, (s, d, c))) = core_is text ts s p t.1 d.1 c

pub text_program_is : (text : List ℕ) (p : Program) → (text_program text).hands p → IsProgram p
unfolding ◌and_then◌
text_program_is text p (ts, t, (s, d, c)) = core_is text ts s p t.1 d.1 c
