use Rattle.std.proofs.Common.{◌≡◌, ℕ, ◌∙◌, ◌++◌, ap, subst}
use Rattle.luo_num.specs.declared.limits.TheConstants.{DEPTH_LIMIT_HEAD}
use Rattle.luo_num.proofs.LimitLines.{heads-say_limits}
use Rattle.luo_scan.specs.Lexemes.{lexemes}
use Rattle.luo_syntax.specs.declared.error.SyntaxError.TheVariants.{Depth, NoMemory}
use Rattle.luo_syntax.specs.Viable.{Explains}
use Rattle.luo_answer.specs.declared.status.Status.TheVariants.{Limit}
use Rattle.luo_answer.specs.Answer.{Refusal}
use Rattle.luo_answer.specs.Lines.{line}
use Rattle.luo_top.specs.Refusals.{at_token, byte_of_token}
use Rattle.luo_top.proofs.lines.syntax_refusal.Goals as goal

deep : (k : ℕ) → Depth k ≡ NoMemory → ⊥
deep k e = cc

pub returns-in-Ok-line_at_token : goal.returns-in-Ok-line_at_token
returns-in-Ok-line_at_token c =
    let k = c.in-Depth.token in
    let byte = ap (λ b. line (DEPTH_LIMIT_HEAD.now ++ at_token k b)) c.byte_of-in-Depth.ensures in
    let head = ap (λ h. line (h ++ at_token k (byte_of_token c.args.text.now c.args.tokens.now k))) heads-say_limits.2 in
    (Depth k, deep k, subst (Explains (lexemes c.args.text.now c.args.tokens.now)) c.in-Depth.is c.requires, ap (Refusal Limit) (c.in-Ok-line_at_token.ensures ∙ byte ∙ head))
