use Rattle.std.proofs.Common.{◌≡◌, ◌<◌, List, ℕ, length, Option, None, Some, refl, inl, inr, ap, rules}
use Rattle.std.specs.Prelude.{◌⊎◌, IfSome}
use Rattle.luo_num.specs.declared.limits.TheConstants.{TEXT_LIMIT}
use Rattle.luo_num.proofs.LimitLines.{lines-say_limits}
use Rattle.luo_answer.specs.declared.status.Status.TheVariants.{Limit}
use Rattle.luo_answer.specs.Answer.{Refusal, Untold}
use Rattle.luo_answer.specs.Lines.{bytes_line}
use Rattle.luo_answer.specs.Told.{ReadingRefusal}
use Rattle.luo_top.proofs.steps.text.text_of.Goals as goal

-- a content that is too long, where it is told
too_long : (told : Option (List ℕ)) (bytes : List ℕ) → IfSome told (λ text. TEXT_LIMIT < length text) → bytes ≡ bytes_line
    → ReadingRefusal TEXT_LIMIT bytes_line told Untold ⊎ ReadingRefusal TEXT_LIMIT bytes_line told (Refusal Limit bytes)
too_long None bytes h e = inl refl
too_long (Some text) bytes h e = inr (h, ap (Refusal Limit) e)

pub returns-in-Err-TooLong-clause-passes : goal.returns-in-Err-TooLong-clause-passes
returns-in-Err-TooLong-clause-passes g c = record {
  answers = too_long (g.F.Files.named c.args.files.now c.args.file.now) _ (c.in-Err-TooLong.ensures.too_long (search rules)) lines-say_limits.0;
  same_told = c.in-Err-TooLong.ensures.named;
  none_fell = c.in-Err-TooLong.ensures.faults;
}
